-- Admitted states: their parts, and that each change of the state keeps them admitted. Assumes nothing.
use Rattle.std.specs.Prelude.{ℕ, ◌+◌, ◌*◌, ◌/◌, ◌%◌, ◌≡◌, refl, Bool, true, false, cond, not, ◌&&◌, List, eqb}
use Rattle.std.specs.Bool.{beq}
use Rattle.std.proofs.lemmas.Bool.{false≢true}
use Rattle.std.proofs.Common.{arith, eqb-true, eq-eqb}
use Rattle.manual.specs.declared.Cpu.{Cpu}
use Rattle.manual.specs.declared.Emac.{Emac}
use Rattle.manual.specs.declared.Change.{Change}
use Rattle.manual.specs.declared.ControlRegister.{ControlRegister}
use Rattle.manual.specs.declared.ControlRegister.TheVariants.{Cacr, Vbr}
use Rattle.manual.specs.Registers.{address_of, with_parts, with_registers, with_address, with_pc, with_sr, with_other, with_emac, with_stopped, with_vbr, with_cacr, coded, applied}
use Rattle.manual.specs.Admitted.{status, emac_admitted, admitted}
use Rattle.manual.specs.Exceptions.{supervisor, two_stacks, set_sr}
use Rattle.manual.specs.Control.{movec_write, control_moved}

-- ---- the parts

first_of : (a b : Bool) → (a && b) ≡ true → a ≡ true
first_of true b h = refl
first_of false b h = h

second_of : (a b : Bool) → (a && b) ≡ true → b ≡ true
second_of true b h = h
second_of false b h = absurd (false≢true h)

pub admitted-status : (s : Cpu) → admitted s ≡ true → status s.sr ≡ s.sr
unfolding admitted
admitted-status s h = eqb-true _ _ (first_of (eqb (status s.sr) s.sr) (emac_admitted s.emac) h)

pub admitted-emac : (s : Cpu) → admitted s ≡ true → emac_admitted s.emac ≡ true
unfolding admitted
admitted-emac s h = second_of (eqb (status s.sr) s.sr) (emac_admitted s.emac) h

pub admitted_of : (s : Cpu) → status s.sr ≡ s.sr → emac_admitted s.emac ≡ true → admitted s ≡ true
unfolding admitted
admitted_of s h e = rw (eq-eqb _ _ h) e

-- ---- the status register

-- the fields of a status register, made of any numbers
field_15 : (a b c d : ℕ) → (a % 2 * 0x8000 + b % 4 * 0x1000 + c % 8 * 0x100 + d % 32) / 0x8000 % 2 ≡ a % 2
field_15 a b c d = omega arith

field_12 : (a b c d : ℕ) → (a % 2 * 0x8000 + b % 4 * 0x1000 + c % 8 * 0x100 + d % 32) / 0x1000 % 4 ≡ b % 4
field_12 a b c d = omega arith

field_8 : (a b c d : ℕ) → (a % 2 * 0x8000 + b % 4 * 0x1000 + c % 8 * 0x100 + d % 32) / 0x100 % 8 ≡ c % 8
field_8 a b c d = omega arith

field_0 : (a b c d : ℕ) → (a % 2 * 0x8000 + b % 4 * 0x1000 + c % 8 * 0x100 + d % 32) % 32 ≡ d % 32
field_0 a b c d = omega arith

pub status-status : (v : ℕ) → status (status v) ≡ status v
unfolding status
status-status v =
    let a : ℕ = v / 0x8000 in
    let b : ℕ = v / 0x1000 in
    let c : ℕ = v / 0x100 in
    rw (field_15 a b c v, field_12 a b c v, field_8 a b c v, field_0 a b c v)

above_15 : (sr c : ℕ) → (sr / 32 * 32 + c % 32) / 0x8000 ≡ sr / 0x8000
above_15 sr c = omega arith

above_12 : (sr c : ℕ) → (sr / 32 * 32 + c % 32) / 0x1000 ≡ sr / 0x1000
above_12 sr c = omega arith

above_8 : (sr c : ℕ) → (sr / 32 * 32 + c % 32) / 0x100 ≡ sr / 0x100
above_8 sr c = omega arith

below_5 : (sr c : ℕ) → (sr / 32 * 32 + c % 32) % 32 ≡ c % 32
below_5 sr c = omega arith

joined : (h sr c : ℕ) → h + sr % 32 ≡ sr → h + c % 32 ≡ sr / 32 * 32 + c % 32
joined h sr c e = omega arith

-- other condition codes
pub status-coded : (sr c : ℕ) → status sr ≡ sr → status (coded sr c) ≡ coded sr c
unfolding status coded
status-coded sr c h =
    rw (above_15 sr c, above_12 sr c, above_8 sr c, below_5 sr c)
    (joined (sr / 0x8000 % 2 * 0x8000 + sr / 0x1000 % 4 * 0x1000 + sr / 0x100 % 8 * 0x100) sr c h)

-- ---- a part replaced

pub registers-admitted : (g : List ℕ) (s : Cpu) → admitted s ≡ true → admitted (with_registers g s) ≡ true
unfolding admitted with_registers
registers-admitted g s h = h

pub address-admitted : (n v : ℕ) (s : Cpu) → admitted s ≡ true → admitted (with_address n v s) ≡ true
unfolding admitted with_address
address-admitted n v s h = h

pub pc-admitted : (v : ℕ) (s : Cpu) → admitted s ≡ true → admitted (with_pc v s) ≡ true
unfolding admitted with_pc
pc-admitted v s h = h

pub other-admitted : (v : ℕ) (s : Cpu) → admitted s ≡ true → admitted (with_other v s) ≡ true
unfolding admitted with_other
other-admitted v s h = h

pub stopped_admitted : (b : Bool) (s : Cpu) → admitted s ≡ true → admitted (with_stopped b s) ≡ true
unfolding admitted with_stopped
stopped_admitted b s h = h

pub sr-admitted : (v : ℕ) (s : Cpu) → status v ≡ v → emac_admitted s.emac ≡ true → admitted (with_sr v s) ≡ true
unfolding admitted with_sr
sr-admitted v s h e = rw (eq-eqb _ _ h) e

pub emac-admitted : (e : Emac) (s : Cpu) → emac_admitted e ≡ true → admitted s ≡ true → admitted (with_emac e s) ≡ true
unfolding with_emac
emac-admitted e s k h = admitted_of (with_emac e s) (admitted-status s h) k

pub control-admitted : (writes : Bool) (c : ControlRegister) (n : ℕ) (s : Cpu) → admitted s ≡ true → admitted (control_moved writes c n s) ≡ true
unfolding admitted control_moved movec_write with_vbr with_cacr with_registers
control-admitted true Cacr n s h = h
control-admitted true Vbr n s h = h
control-admitted false c n s h = h

pub parts-admitted : (g : List ℕ) (at sr : ℕ) (e : Emac) (s : Cpu) → status sr ≡ sr → emac_admitted e ≡ true → admitted (with_parts g at sr e s) ≡ true
unfolding with_parts
parts-admitted g at sr e s h k = admitted_of (with_parts g at sr e s) h k

-- an instruction's own changes
pub applied-admitted : (s : Cpu) (c : Change) → admitted s ≡ true → admitted (applied s c) ≡ true
unfolding applied
applied-admitted s c h =
    parts-admitted _ _ _ _ _ (status-coded s.sr c.ccr (admitted-status s h)) (admitted-emac s h)

either : (b : Bool) (x y : Cpu) → admitted x ≡ true → admitted y ≡ true → admitted (cond b x y) ≡ true
either true x y p q = p
either false x y p q = q

pub set_sr-admitted : (v : ℕ) (s : Cpu) → emac_admitted s.emac ≡ true → admitted (set_sr v s) ≡ true
unfolding set_sr with_other with_address
set_sr-admitted v s e =
    let swapped : Cpu = with_other (address_of s.r 7) (with_address 7 s.other s) in
    either (two_stacks s && not (beq (supervisor (status v)) (supervisor s.sr))) _ _
    (sr-admitted (status v) swapped (status-status v) e) (sr-admitted (status v) s (status-status v) e)
