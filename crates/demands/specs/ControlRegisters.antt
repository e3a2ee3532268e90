-- MOVEC as a step. Document: request P5.
--
-- The second word is fetched first: where it is not inside, the reply is 4. Then a user's MOVEC enters vector 8, and a
-- supervisor's one that names neither CACR nor VBR vector 4, each with the word's program counter. Else the general register goes to the control
-- register or comes from it, the program counter goes on by 4, and nothing else changes: no condition code, no stack pointer, no byte.
-- CACR keeps all 32 bits that are written to it, VBR bits 31 to 20. Assumes nothing.
use Rattle.std.specs.Prelude.{ℕ, ◌+◌, ◌*◌, ◌/◌, ◌≡◌, refl, Bool, true, false, cond, List, Some, None}
use Rattle.std.proofs.Common.{ap, ◌∙◌, arith, ne_eqb}
use Rattle.manual.specs.declared.Cpu.{Cpu}
use Rattle.manual.specs.declared.Emac.{Emac}
use Rattle.manual.specs.declared.Size.TheVariants.{Word}
use Rattle.manual.specs.declared.Reply.TheVariants.{NotInside}
use Rattle.manual.specs.declared.Action.TheVariants.{Enter, MoveControl}
use Rattle.manual.specs.declared.ControlRegister.{ControlRegister}
use Rattle.manual.specs.declared.ControlRegister.TheVariants.{Cacr, Vbr}
use Rattle.manual.specs.declared.Fault.TheVariants.{Outside as Out}
use Rattle.manual.specs.declared.Change.{Change}
use Rattle.manual.specs.Word.{plus}
use Rattle.manual.specs.Fields.{high_four, control_field}
use Rattle.manual.specs.Registers.{with_pc, with_vbr, with_cacr}
use Rattle.manual.specs.Memory.{Memory, number_at}
use Rattle.manual.specs.Change.{enter, enter_after, illegal, privilege}
use Rattle.manual.specs.Control.{control_register, movec_read, movec_write, control_moved}
use Rattle.manual.specs.Reply.{completed, unchanged}
use Rattle.manual.specs.Lent.{Lent, memory_of}
use Rattle.manual.specs.Exceptions.{supervisor, entered}
use Rattle.instructions.specs.Rows.{first_row, row_of, place_in}
use Rattle.instructions.specs.Line4.{line4, movec}
use Rattle.instructions.specs.Perform.{perform}
use Rattle.instructions.specs.Step.{instruction, step}
use Rattle.demands.specs.Accesses.{Inside, Outside}
use Rattle.demands.specs.AccessLaws.{load_inside, load-not}
use Rattle.demands.specs.StepLaws.{same-pc, perform-acting, perform-refused, fetched, step-on}
use Rattle.demands.specs.Followed.{Fetches}

-- MOVEC to a control register, or from it
abbrev pub movec_word : Bool → ℕ
movec_word writes = cond writes 0x4E7B 0x4E7A

module _ (s : Cpu) (l : Lent) where
  abbrev m : Memory
  m = memory_of l

  -- its second word; the state after it, c being the control register
  abbrev second : ℕ
  second = number_at m (plus s.pc 2) Word

  abbrev moved : Bool → ControlRegister → Cpu
  moved writes c = control_moved writes c (high_four second) (with_pc (plus s.pc 4) s)

  pub record MovecStep (writes : Bool) : Type 0 where
    pub not-inside : Outside m (plus s.pc 2) 2 → step s l ≡ unchanged s NotInside m
    pub by_user : Inside m (plus s.pc 2) 2 → supervisor s.sr ≡ false → step s l ≡ entered s s None 8 s.pc m
    pub of_cacr : Inside m (plus s.pc 2) 2 → supervisor s.sr ≡ true → control_field second ≡ 0x002 → step s l ≡ completed (moved writes Cacr) 0 l.storage
    pub of_vbr : Inside m (plus s.pc 2) 2 → supervisor s.sr ≡ true → control_field second ≡ 0x801 → step s l ≡ completed (moved writes Vbr) 0 l.storage
    pub of_others : Inside m (plus s.pc 2) 2 → supervisor s.sr ≡ true → (control_field second ≡ 0x002 → ⊥) → (control_field second ≡ 0x801 → ⊥)
        → step s l ≡ entered s s None 4 s.pc m

pub record ControlRegisters : Type 0 where
  pub movec-step : (s : Cpu) (l : Lent) → Fetches s l → (writes : Bool) → number_at (memory_of l) s.pc Word ≡ movec_word writes → MovecStep s l writes
  -- what is written is read back
  pub cacr-back : (v : ℕ) (s : Cpu) → movec_read Cacr (movec_write Cacr v s) ≡ v
  pub vbr-back : (v : ℕ) (s : Cpu) → movec_read Vbr (movec_write Vbr v s) ≡ v / 0x10_0000 * 0x10_0000

-- ---- the proofs

movec-row : (writes : Bool) → row_of (movec_word writes) ≡ first_row 4 + cond writes 5 4
unfolding row_of
movec-row true = refl
movec-row false = refl

movec-word : (g : List ℕ) (at sr other : ℕ) (e : Emac) (m : Memory) (writes : Bool) → instruction g at sr other e m (movec_word writes) ≡ movec writes at sr m
unfolding instruction line4 place_in
movec-word g at sr other e m true = rw (movec-row true)
movec-word g at sr other e m false = rw (movec-row false)

enters : (s : Cpu) (vector : ℕ) (m : Memory) → perform s (enter s.sr vector s.pc) m ≡ entered s s None vector s.pc m
unfolding enter enter_after
enters s vector m = perform-acting s s.pc (Enter vector s.pc) m ∙ ap (λ (t : Cpu). entered s t None vector s.pc m) (same-pc s)

next_word : (at : ℕ) → plus (plus at 2) 2 ≡ plus at 4
unfolding plus
next_word at = omega arith

module _ (s : Cpu) (l : Lent) (f : Fetches s l) (writes : Bool) (w : number_at (memory_of l) s.pc Word ≡ movec_word writes) where
  abbrev change : Change
  change = movec writes s.pc s.sr (memory_of l)

  on_word : (c : Change) → change ≡ c → step s l ≡ perform s c (memory_of l)
  on_word c e =
      step-on s l f.ready f.awake
      ∙ ap (λ (x : Change). perform s x (memory_of l))
      (fetched s.r s.pc s.sr s.other s.emac (memory_of l) (movec_word writes) f.in_memory w
      ∙ movec-word s.r s.pc s.sr s.other s.emac (memory_of l) writes ∙ e)

  not-inside : Outside (memory_of l) (plus s.pc 2) 2 → step s l ≡ unchanged s NotInside (memory_of l)
  unfolding movec
  not-inside o = on_word _ (rw (load-not (memory_of l) (plus s.pc 2) Word Out o)) ∙ perform-refused s Out (memory_of l)

  module _ (i : Inside (memory_of l) (plus s.pc 2) 2) where
    by_user : supervisor s.sr ≡ false → step s l ≡ entered s s None 8 s.pc (memory_of l)
    unfolding movec privilege
    by_user u = on_word _ (rw (load_inside (memory_of l) (plus s.pc 2) Word i, u)) ∙ enters s 8 (memory_of l)

    module _ (u : supervisor s.sr ≡ true) where
      named : (c : ControlRegister) → control_register (control_field (second s l)) ≡ Some c → step s l ≡ completed (moved s l writes c) 0 l.storage
      unfolding movec
      named c e =
          on_word _ (rw (load_inside (memory_of l) (plus s.pc 2) Word i, u, e, next_word s.pc))
          ∙ perform-acting s (plus s.pc 4) (MoveControl writes c (high_four (second s l))) (memory_of l)

      unknown : control_register (control_field (second s l)) ≡ None → step s l ≡ entered s s None 4 s.pc (memory_of l)
      unfolding movec illegal
      unknown e = on_word _ (rw (load_inside (memory_of l) (plus s.pc 2) Word i, u, e)) ∙ enters s 4 (memory_of l)

is-cacr : (n : ℕ) → n ≡ 0x002 → control_register n ≡ Some Cacr
unfolding control_register
is-cacr n e = rw e

is-vbr : (n : ℕ) → n ≡ 0x801 → control_register n ≡ Some Vbr
unfolding control_register
is-vbr n e = rw e

is-unknown : (n : ℕ) → (n ≡ 0x002 → ⊥) → (n ≡ 0x801 → ⊥) → control_register n ≡ None
unfolding control_register
is-unknown n p q = rw (ne_eqb _ _ p, ne_eqb _ _ q)

pub control-registers : ControlRegisters
unfolding movec_read movec_write with_vbr with_cacr
control-registers = record {
  movec-step = λ s l f writes w. record {
    not-inside = not-inside s l f writes w;
    by_user = λ i u. by_user s l f writes w i u;
    of_cacr = λ i u e. named s l f writes w i u Cacr (is-cacr _ e);
    of_vbr = λ i u e. named s l f writes w i u Vbr (is-vbr _ e);
    of_others = λ i u p q. unknown s l f writes w i u (is-unknown _ p q);
  };
  cacr-back = λ v s. refl;
  vbr-back = λ v s. refl;
}
