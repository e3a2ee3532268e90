-- The calls on the accumulators and MACSR. A state that is not admitted is refused, and then a number that is no accumulator's.
-- Document: "Numbered replies".
use Rattle.std.specs.Prelude.{ℕ, ◌+◌, ◌*◌, ◌%◌, ◌^◌}
use mathlib.Core.{Bool.Bool, Bool.cond}
use lib.{Dec.ltb}
use Rattle.manual.specs.declared.{Cpu.Cpu, Emac.Emac, Reply.TheVariants.Done, Reply.TheVariants.NotAdmitted, Reply.TheVariants.OutOfRange, Answer.Answer, Told.Told}
use Rattle.manual.specs.{Registers.with_emac, Emac.fractional, Emac.mode_of, Emac.acc_of, Emac.with_acc, Emac.acc_part, Emac.ext_part, Emac.pattern_of, Emac.block_number, Emac.set_macsr, Admitted.admitted}

-- a number of accumulator i
abbrev pub acc_told : Cpu → ℕ → ℕ → Told
acc_told s i v =
    cond (admitted s)
    (cond (ltb i 4) (record { reply = Done; value = v }) (record { reply = OutOfRange; value = 0 }))
    (record { reply = NotAdmitted; value = 0 })

-- the state with another unit
abbrev pub done_with : Emac → Cpu → Answer
done_with e s = record { reply = Done; cpu = with_emac e s }

-- after a change of accumulator i
abbrev pub acc_changed : Cpu → ℕ → Emac → Answer
acc_changed s i e =
    cond (admitted s)
    (cond (ltb i 4) (done_with e s) (record { reply = OutOfRange; cpu = s }))
    (record { reply = NotAdmitted; cpu = s })

-- the number that the accumulator stands for, in 64 bits of two's complement
unfoldable pub acc_get_call : Cpu → ℕ → Told
acc_get_call s i = acc_told s i (block_number (mode_of s.emac.macsr) (acc_of s.emac i))

-- the 48 low bits of a number in two's complement. No flag changes
unfoldable pub acc_set_call : Cpu → ℕ → ℕ → Answer
acc_set_call s i v = acc_changed s i (with_acc i s.emac.macsr (v % 2 ^ 48) s.emac)

-- the physical registers: ACCn in the 32 low bits, and ACCextn above
unfoldable pub acc_phys_call : Cpu → ℕ → Told
acc_phys_call s i =
    let fi : Bool = fractional s.emac.macsr in
    let a : ℕ = acc_of s.emac i in
    acc_told s i (acc_part fi a + 2 ^ 32 * ext_part fi a)

-- both physical registers. No flag changes
unfoldable pub set_acc_phys_call : Cpu → ℕ → ℕ → ℕ → Answer
set_acc_phys_call s i acc ext =
    acc_changed s i (with_acc i s.emac.macsr (pattern_of (fractional s.emac.macsr) acc ext) s.emac)

unfoldable pub set_macsr_call : Cpu → ℕ → Answer
set_macsr_call s v =
    cond (admitted s) (done_with (set_macsr s.emac v) s) (record { reply = NotAdmitted; cpu = s })
