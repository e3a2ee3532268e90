-- The states that a call takes, and that every call keeps: SR has no bit outside 0xB71F, MACSR is at most 0xFFF, and each
-- accumulator is a pattern of 48 bits, so that its number is in the range of every mode.
-- The manual: "Status Register (SR)" and "MAC Status Register (MACSR)".
use Rattle.std.specs.Prelude.{ℕ, ◌+◌, ◌*◌, ◌%◌, ◌^◌}
use mathlib.Core.{Bool.Bool, Bool.◌&&◌}
use lib.{Dec.eqb, Dec.ltb}
use Rattle.manual.specs.declared.{Cpu.Cpu, Emac.Emac}
use Rattle.manual.specs.{Fields.bits, Emac.acc_of}

-- the status register's bits of a number, 0xB71F: 15 (T), 13 (S), 12 (M), 10 to 8 (the interrupt mask) and 4 to 0 (X, N, Z, V, C)
unfoldable pub status : ℕ → ℕ
status v = bits 15 15 v * 0x8000 + bits 13 12 v * 0x1000 + bits 10 8 v * 0x100 + v % 32

abbrev pub pattern : ℕ → Bool
pattern a = ltb a (2 ^ 48)

unfoldable pub emac_admitted : Emac → Bool
emac_admitted e =
    ltb e.macsr 0x1000 && (pattern (acc_of e 0) && (pattern (acc_of e 1) && (pattern (acc_of e 2) && pattern (acc_of e 3))))

unfoldable pub admitted : Cpu → Bool
admitted s = eqb (status s.sr) s.sr && emac_admitted s.emac
