-- The control registers, and what MOVEC moves between one of them and a general register.
-- The manual: "Supervisor Programming Model" and MOVEC.
use Rattle.std.specs.Prelude.{ℕ, ◌*◌, ◌/◌, Option, Some, None}
use mathlib.Core.{Bool.Bool, Bool.true, Bool.false, Bool.cond}
use lib.{Dec.eqb}
use Rattle.manual.specs.declared.{Cpu.Cpu, ControlRegister.ControlRegister, ControlRegister.TheVariants.Cacr, ControlRegister.TheVariants.Vbr}
use Rattle.manual.specs.{Registers.general, Registers.write_general, Registers.written, Registers.with_registers, Registers.with_vbr, Registers.with_cacr}

-- Rc by its number
-- 60. CACR and VBR are all there is. The manual: a device has further ones, and the original keeps a long for every other number
unfoldable pub control_register : ℕ → Option ControlRegister
control_register n = cond (eqb n 0x002) (Some Cacr) (cond (eqb n 0x801) (Some Vbr) None)

-- what is read of it
unfoldable pub movec_read : ControlRegister → Cpu → ℕ
movec_read Cacr s = s.cacr
movec_read Vbr s = s.vbr

-- and written to it. VBR has bits 31 to 20; the others stay 0
-- 59. CACR keeps all 32 bits. The manual: bits that a device has not stay 0
unfoldable pub movec_write : ControlRegister → ℕ → Cpu → Cpu
movec_write Cacr v s = with_cacr v s
movec_write Vbr v s = with_vbr (v / 0x10_0000 * 0x10_0000) s

-- Rn → Rc, or Rc → Rn
unfoldable pub control_moved : Bool → ControlRegister → ℕ → Cpu → Cpu
control_moved true c n s = movec_write c (general s.r n) s
control_moved false c n s = with_registers (written (write_general n (movec_read c s)) s.r) s
