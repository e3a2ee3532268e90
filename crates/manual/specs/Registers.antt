-- The registers: a list of 16, D0 to D7 and then A0 to A7, and the state with one of its parts replaced.
-- The manual: "User Programming Model" and "Supervisor Programming Model".
use Rattle.std.specs.Prelude.{ℕ, ◌+◌, ◌*◌, ◌/◌, ◌%◌}
use mathlib.Core.{Bool.Bool, Bool.cond, List.List}
use lib.{Dec.ltb, ListN.get_or, ListN.set}
use Rattle.manual.specs.declared.{Cpu.Cpu, Emac.Emac, Write.Write, Change.Change}

-- Dn and An, modulo 8
unfoldable pub data_of : List ℕ → ℕ → ℕ
data_of g r = get_or g (r % 8) 0

unfoldable pub address_of : List ℕ → ℕ → ℕ
address_of g r = get_or g (8 + r % 8) 0

-- Rn, modulo 16
unfoldable pub general : List ℕ → ℕ → ℕ
general g n = get_or g (n % 16) 0

-- ---- register writes: 0 to 7 are D0 to D7, 8 to 15 are A0 to A7, anything above is none

unfoldable pub no_write : Write
no_write = record { to = 16; value = 0 }

unfoldable pub write_data : ℕ → ℕ → Write
write_data r v = record { to = r % 8; value = v }

unfoldable pub write_address : ℕ → ℕ → Write
write_address r v = record { to = 8 + r % 8; value = v }

unfoldable pub write_general : ℕ → ℕ → Write
write_general n v = record { to = n % 16; value = v }

unfoldable pub written : Write → List ℕ → List ℕ
written w g = cond (ltb w.to 16) (set g w.to w.value) g

-- ---- the state with a part replaced

-- the state with all that an instruction but MOVEC may change; the rest is as it was
abbrev pub with_all : List ℕ → ℕ → ℕ → ℕ → Emac → Bool → Cpu → Cpu
with_all g at sr other e stopped s = record { r = g; pc = at; sr = sr; other = other; vbr = s.vbr; cacr = s.cacr; emac = e; stopped = stopped }

unfoldable pub with_parts : List ℕ → ℕ → ℕ → Emac → Cpu → Cpu
with_parts g at sr e s = with_all g at sr s.other e s.stopped s

unfoldable pub with_registers : List ℕ → Cpu → Cpu
with_registers g s = with_all g s.pc s.sr s.other s.emac s.stopped s

unfoldable pub with_address : ℕ → ℕ → Cpu → Cpu
with_address n v s = with_all (set s.r (8 + n % 8) v) s.pc s.sr s.other s.emac s.stopped s

unfoldable pub with_pc : ℕ → Cpu → Cpu
with_pc v s = with_all s.r v s.sr s.other s.emac s.stopped s

unfoldable pub with_sr : ℕ → Cpu → Cpu
with_sr v s = with_all s.r s.pc v s.other s.emac s.stopped s

unfoldable pub with_other : ℕ → Cpu → Cpu
with_other v s = with_all s.r s.pc s.sr v s.emac s.stopped s

unfoldable pub with_emac : Emac → Cpu → Cpu
with_emac e s = with_all s.r s.pc s.sr s.other e s.stopped s

unfoldable pub with_stopped : Bool → Cpu → Cpu
with_stopped b s = with_all s.r s.pc s.sr s.other s.emac b s

-- the state with its control registers; the rest is as it was
abbrev pub with_controls : ℕ → ℕ → Cpu → Cpu
with_controls vbr cacr s = record { r = s.r; pc = s.pc; sr = s.sr; other = s.other; vbr = vbr; cacr = cacr; emac = s.emac; stopped = s.stopped }

unfoldable pub with_vbr : ℕ → Cpu → Cpu
with_vbr v s = with_controls v s.cacr s

unfoldable pub with_cacr : ℕ → Cpu → Cpu
with_cacr v s = with_controls s.vbr v s

-- the status register with other condition codes
-- 34. CCR has five bits. The manual: V3 cores have a sixth, P, bit 7
unfoldable pub coded : ℕ → ℕ → ℕ
coded sr c = sr / 32 * 32 + c % 32

-- the state after an instruction's own changes: the first write, then the second, the program counter and the five condition codes
unfoldable pub applied : Cpu → Change → Cpu
applied s c = with_parts (written c.second (written c.first s.r)) c.pc (coded s.sr c.ccr) s.emac s
