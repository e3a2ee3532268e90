-- What the types say of every state: its numbers fit their fields. Assumes nothing.
use Rattle.std.specs.Prelude.{ℕ, ◌^◌, ◌<◌, ◌≡◌, length, get_or}
use Rattle.manual.specs.declared.Cpu.{Cpu}

pub record Typed (s : Cpu) : Type 0 where
  pub sixteen : length s.r ≡ 16
  pub registers : (i : ℕ) → get_or s.r i 0 < 2 ^ 32
  pub pc-long : s.pc < 2 ^ 32
  pub sr-word : s.sr < 2 ^ 16
  pub other-long : s.other < 2 ^ 32
  pub vbr-long : s.vbr < 2 ^ 32
  pub cacr-long : s.cacr < 2 ^ 32
  pub mask-long : s.emac.mask < 2 ^ 32
  pub four : length s.emac.acc ≡ 4
