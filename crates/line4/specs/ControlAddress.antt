-- The address that LEA, PEA, JSR and JMP work on, with the next instruction's; or the change of an instruction that gets none.
use Rattle.std.specs.Prelude.{ℕ, ◌/◌, ◌%◌, ◌≡◌, refl, List, Result, Option, Ok, Err, Some, None}
use Rattle.manual.specs.declared.Fault.{Fault}
use Rattle.manual.specs.declared.Size.TheVariants.{Long}
use Rattle.manual.specs.declared.Operand.{Operand}
use Rattle.manual.specs.declared.Change.{Change}
use Rattle.manual.specs.Word.{plus}
use Rattle.manual.specs.Address.{operand, extension, control}
use Rattle.manual.specs.Registers.{no_write, write_address}
use Rattle.manual.specs.Flags.{kept_codes}
use Rattle.manual.specs.Change.{done, push, jump, illegal, refused, reaching}
use Rattle.manual.specs.Memory.{Memory}
use Rattle.instructions.specs.Line4.{lea, pea, jsr, jmp}
use Rattle.line4.specs.declared.control.Way.{Way}

abbrev pub way_by : ℕ → ℕ → ℕ → Option (Result ℕ Fault) → Result Way Change
way_by sr at next (Some (Ok a)) = Ok (record { address = a; next = next })
way_by sr at next (Some (Err x)) = Err (refused x)
way_by sr at next None = Err (illegal at sr)

unfoldable pub control_address : List ℕ → ℕ → ℕ → Memory → ℕ → Result Way Change
control_address g at sr m op =
    let pc : ℕ = plus at 2 in
    let target : Operand = operand (op / 8 % 8) (op % 8) in
    way_by sr at (plus pc (extension target Long)) (control g m pc target)

abbrev pub along : Result Way Change → (ℕ → ℕ → Change) → Change
along (Ok way) f = f way.address way.next
along (Err e) f = e

-- what goes on with an address goes along the way to it
by_way : (sr at next : ℕ) (r : Option (Result ℕ Fault)) (f : ℕ → ℕ → Change) → reaching sr at r (λ a. f a next) ≡ along (way_by sr at next r) f
by_way sr at next (Some (Ok a)) f = refl
by_way sr at next (Some (Err x)) f = refl
by_way sr at next None f = refl

pub goes : (g : List ℕ) (at sr : ℕ) (m : Memory) (op : ℕ) (f : ℕ → ℕ → Change) →
    reaching sr at (control g m (plus at 2) (operand (op / 8 % 8) (op % 8)))
    (λ a. f a (plus (plus at 2) (extension (operand (op / 8 % 8) (op % 8)) Long)))
    ≡ along (control_address g at sr m op) f
unfolding control_address
goes g at sr m op f =
    by_way sr at (plus (plus at 2) (extension (operand (op / 8 % 8) (op % 8)) Long))
    (control g m (plus at 2) (operand (op / 8 % 8) (op % 8))) f

module _ (g : List ℕ) (at sr : ℕ) (m : Memory) (op : ℕ) where
  pub lea-goes : lea g at sr m op ≡ along (control_address g at sr m op) (λ a next. done next (kept_codes sr) no_write (write_address (op / 512 % 8) a))
  unfolding lea
  lea-goes = goes g at sr m op (λ a next. done next (kept_codes sr) no_write (write_address (op / 512 % 8) a))

  pub pea-goes : pea g at sr m op ≡ along (control_address g at sr m op) (λ a next. push g sr next a)
  unfolding pea
  pea-goes = goes g at sr m op (λ a next. push g sr next a)

  pub jsr-goes : jsr g at sr m op ≡ along (control_address g at sr m op) (push g sr)
  unfolding jsr
  jsr-goes = goes g at sr m op (push g sr)

  pub jmp-goes : jmp g at sr m op ≡ along (control_address g at sr m op) (λ a next. jump sr a)
  unfolding jmp
  jmp-goes = goes g at sr m op (λ a next. jump sr a)
