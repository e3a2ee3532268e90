-- When a step and a run give each reply. Assumes nothing.
use Prim.Native.Nat.{ℕ, ◌+◌, ◌/◌, ◌%◌, ◌<◌}
use Rattle.std.specs.Prelude.{◌≡◌, Bool, true, false, cond, ◌↔◌, T, eqb, Result, Ok, Err}
use Rattle.std.specs.Result.{result_and}
use Rattle.std.proofs.Math.Path.{refl, ap}
use Rattle.std.proofs.Common.{sym, ◌∙◌, arith, eqb→eq}
use mathlib.Core.List.{List, [], ◌∷◌, ◌++◌}
use Rattle.std.proofs.Math.Logic.{⊎_elim, inl, inr}
use Rattle.manual.specs.declared.Cpu.{Cpu}
use Rattle.manual.specs.declared.Size.TheVariants.{Word}
use Rattle.manual.specs.declared.Fault.{Fault}
use Rattle.manual.specs.declared.Reply.TheVariants.{Stopped}
use Rattle.manual.specs.declared.Change.{Change}
use Rattle.manual.specs.Memory.{Memory, access, taken, number_at}
use Rattle.manual.specs.Reply.{number_of, is_done, Outcome, unchanged, refusal, fault_reply}
use Rattle.manual.specs.Admitted.{admitted}
use Rattle.manual.specs.Lent.{Lent, memory_of, lent_on, first_refusal}
use Rattle.rows.specs.TableLaws.{all_below, below}
use Rattle.instructions.specs.Rows.{first_row, row_of, place_in}
use Rattle.instructions.specs.Perform.{perform}
use Rattle.instructions.specs.Step.{instruction, step}
use Rattle.instructions.specs.Run.{RunOutcome, run}
use Rattle.state.specs.FirstLaws.{first-admitted, first-kept}
use Rattle.demands.specs.Refusals.{done-is}
use Rattle.demands.specs.Runs.{runs}
use Rattle.demands.specs.Admits.{admits}
use Rattle.demands.specs.Accesses.{SomeOutside, reads0, reads4, reads, Wanted, wanted, Inside}
use Rattle.demands.specs.Effects.{Effect, effects0, effects4, effect, effect_of, puts_of, reads_of, places, accesses, vector_of}
use Rattle.demands.specs.PartLaws.{Follows, access_all, number_or, some_outside, past-inside, all_both}
use Rattle.demands.specs.EffectLaws.{Performs, performs}
use Rattle.demands.specs.AccessLaws.{fault_number}
use Rattle.demands.specs.FirstReplies.{first_1, first_2, first_of}
use Rattle.demands.specs.InstructionLaws.{instruction-made}
use Rattle.demands.specs.StepLaws.{doing, fetched, not-fetched, perform-refused, Stepped, stepped}
use Rattle.demands.specs.ReplyLaws as laws
use Rattle.demands.specs.Exact.{numbered, TooLong, Usable, Ready, OneOf}

no_5 : (n : ℕ) → OneOf (0 ∷ 1 ∷ 2 ∷ 3 ∷ 4 ∷ []) n → n ≡ 5 → ⊥
no_5 n w e = omega (arith, laws.at_most 4 n (0 ∷ 1 ∷ 2 ∷ 3 ∷ 4 ∷ []) refl w)

-- ---- a step

module _ (s : Cpu) (l : Lent) where
  abbrev m : Memory
  m = memory_of l

  abbrev acted : Outcome
  acted = perform s (doing s m) m

  abbrev inner : Outcome
  inner = cond s.stopped (unchanged s Stopped m) acted

  abbrev op : ℕ
  op = number_at m s.pc Word

  abbrev changing : Change
  changing = instruction s.r s.pc s.sr s.other s.emac m op

  -- once the word is fetched: its own reads, and what is then done
  abbrev own : List Wanted
  own = reads s.r s.pc m op s.emac.mask

  abbrev does : Effect
  does = effect_of s m

  abbrev done_then : List Wanted
  done_then = places (puts_of s does) ++ reads_of s does

  abbrev all : Result Unit Fault
  all = access_all m (accesses s m)

  after-fetch : Inside m s.pc 2 → all ≡ result_and (access_all m own) (access_all m done_then)
  unfolding accesses
  after-fetch i = past-inside m s.pc 2 (own ++ done_then) i ∙ all_both m own done_then

  no-fetch : (x : Fault) → access m s.pc 2 ≡ Err x → all ≡ Err x
  unfolding accesses
  no-fetch x i = rw i

  -- the number n, where the reads' first fault is x and the effect's is y; where it is 0, the effect was had
  record Meets (n : ℕ) (x y : Result Unit Fault) : Type 0 where
    number : n ≡ number_or (result_and x y) 0
    effect_had : n ≡ 0 → Performs s m does (perform s changing m)

  changing-meets : Meets (numbered (perform s changing m)) (access_all m own) (access_all m done_then)
  unfolding refusal
  changing-meets = by (access_all m own) (instruction-made s.r s.pc s.sr s.other s.emac m op)
    where
      by : (x : Result Unit Fault) → Follows s.pc s.sr x does changing → Meets (numbered (perform s changing m)) x (access_all m done_then)
      by (Ok tt) h = let p : Performs s m does (perform s changing m) = performs s m h in record { number = p.answers; effect_had = λ e. p }
      by (Err x) h =
          let e : numbered (perform s changing m) ≡ number_of (fault_reply x) = ap (λ (c : Change). numbered (perform s c m)) h ∙ ap numbered (perform-refused s x m) in
          record { number = e; effect_had = λ z. absurd (fault_number x (sym e ∙ z)) }

  acted-number : numbered acted ≡ number_or all 0
  unfolding refusal
  acted-number = by (access m s.pc 2) refl
    where
      by : (x : Result ℕ Fault) → access m s.pc 2 ≡ x → numbered acted ≡ number_or all 0
      by (Err x) i =
          ap (λ (c : Change). numbered (perform s c m)) (not-fetched s.r s.pc s.sr s.other s.emac m x i) ∙ ap numbered (perform-refused s x m) ∙ rw (no-fetch x i)
      by (Ok p) i =
          let h : Inside m s.pc 2 = ap taken i in
          rw (fetched s.r s.pc s.sr s.other s.emac m op h refl, after-fetch h) changing-meets.number

  acted-never : (k : ℕ) → (0 ≡ k → ⊥) → (4 ≡ k → ⊥) → numbered acted ≡ k → ⊥
  acted-never k n0 n4 e = ⊎_elim (λ z. n0 (sym z ∙ sym acted-number ∙ e)) (λ z. n4 (sym z ∙ sym acted-number ∙ e)) (laws.zero_or_4 all)

  inner-number : numbered inner ≡ cond s.stopped 3 (numbered acted)
  unfolding refusal
  inner-number = laws.number_cond s.stopped (unchanged s Stopped m) acted

  inner-never : (k : ℕ) → (0 ≡ k → ⊥) → (3 ≡ k → ⊥) → (4 ≡ k → ⊥) → numbered inner ≡ k → ⊥
  inner-never k n0 n3 n4 e = laws.neither s.stopped 3 (numbered acted) k n3 (acted-never k n0 n4) (sym inner-number ∙ e)

  pub of_step_1 : (numbered (step s l) ≡ 1) ↔ TooLong l
  unfolding step
  of_step_1 = laws.checked_1 s l inner (inner-never 1 (λ h. omega arith) (λ h. omega arith) (λ h. omega arith))

  pub of_step_2 : (numbered (step s l) ≡ 2) ↔ (Usable l × (admitted s ≡ false))
  unfolding step
  of_step_2 = laws.checked_2 s l inner (inner-never 2 (λ h. omega arith) (λ h. omega arith) (λ h. omega arith))

  pub of_step_3 : (numbered (step s l) ≡ 3) ↔ (Ready s l × (s.stopped ≡ true))
  unfolding step
  of_step_3 =
      laws.iff_trans (laws.checked-on s l inner 3 (λ h. omega arith) (λ h. omega arith))
      (laws.iff_and laws.iff_same
      (rw inner-number (laws.here 3 (numbered acted) (acted-never 3 (λ h. omega arith) (λ h. omega arith)) s.stopped)))

  acted_4 : (numbered acted ≡ 4) ↔ SomeOutside m (accesses s m)
  acted_4 = rw acted-number (some_outside m (accesses s m))

  pub of_step_4 : (numbered (step s l) ≡ 4) ↔ (Ready s l × ((s.stopped ≡ false) × SomeOutside m (accesses s m)))
  unfolding step
  of_step_4 =
      laws.iff_trans (laws.checked-on s l inner 4 (λ h. omega arith) (λ h. omega arith))
      (laws.iff_and laws.iff_same
      (rw inner-number (laws.iff_trans (laws.later 4 (numbered acted) 3 (λ h. omega arith) s.stopped) (laws.iff_and laws.iff_same acted_4))))

  acted_0 : (numbered acted ≡ 0) ↔ (SomeOutside m (accesses s m) → ⊥)
  acted_0 = rw acted-number (laws.none-outside m (accesses s m))

  pub of_step_0 : (numbered (step s l) ≡ 0) ↔ (Ready s l × ((s.stopped ≡ false) × (SomeOutside m (accesses s m) → ⊥)))
  unfolding step
  of_step_0 =
      laws.iff_trans (laws.checked-on s l inner 0 (λ h. omega arith) (λ h. omega arith))
      (laws.iff_and laws.iff_same
      (rw inner-number (laws.iff_trans (laws.later 0 (numbered acted) 3 (λ h. omega arith) s.stopped) (laws.iff_and laws.iff_same acted_0))))

  -- a step that is done has its row's effect
  pub of_effect : numbered (step s l) ≡ 0 → Performs s m does (step s l)
  of_effect e =
      let d : Stepped s l = stepped s l (done-is _ e) in
      let same : step s l ≡ perform s changing m = d.same ∙ ap (λ (c : Change). perform s c m) (fetched s.r s.pc s.sr s.other s.emac m op d.fetch refl) in
      let e' : numbered (perform s changing m) ≡ 0 = ap numbered (sym same) ∙ e in
      rw same (changing-meets.effect_had e')

  pub of_vector : numbered (step s l) ≡ 0 → (step s l).stepped.vector ≡ vector_of does
  of_vector e = (of_effect e).says e

  pub of_step : OneOf (0 ∷ 1 ∷ 2 ∷ 3 ∷ 4 ∷ []) (numbered (step s l))
  unfolding step
  of_step =
      let ks : List ℕ = 0 ∷ 1 ∷ 2 ∷ 3 ∷ 4 ∷ [] in
      let one : OneOf ks (numbered acted) = ⊎_elim (λ z. inl (acted-number ∙ z)) (λ z. inr (inr (inr (inr (inl (acted-number ∙ z)))))) (laws.zero_or_4 all) in
      laws.checked_of s l inner ks (inr (inl refl)) (inr (inr (inl refl)))
      (laws.same_of ks inner-number (laws.either_of ks s.stopped 3 _ (inr (inr (inr (inl refl)))) one))

  pub of_step_5 : numbered (step s l) ≡ 5 → ⊥
  of_step_5 = no_5 _ of_step

-- ---- the fetch alone

nop-row : row_of 0x4E71 ≡ first_row 4
unfolding row_of
nop-row = refl

bitrev_rows : T (all_below (λ r. eqb (row_of (0x00C0 + r)) (first_row 0)) 8)
unfolding row_of
bitrev_rows = tt

bitrev-row : (r : ℕ) → r < 8 → row_of (0x00C0 + r) ≡ first_row 0
bitrev-row r h = eqb→eq _ _ (below (λ r. eqb (row_of (0x00C0 + r)) (first_row 0)) 8 bitrev_rows r h)

pub of_nop : (s : Cpu) (m : Memory) → number_at m s.pc Word ≡ 0x4E71 → accesses s m ≡ wanted s.pc 2 ∷ []
unfolding accesses reads reads4 effect effects4 place_in
of_nop s m e = rw (e, nop-row)

pub of_bitrev : (s : Cpu) (m : Memory) (r : ℕ) → r < 8 → number_at m s.pc Word ≡ 0x00C0 + r → accesses s m ≡ wanted s.pc 2 ∷ []
unfolding accesses reads reads0 effect effects0 place_in
of_bitrev s m r h e =
    let line : (0x00C0 + r) / 0x1000 % 16 ≡ 0 = omega arith in
    rw (e, line, bitrev-row r h)

-- ---- a run

module _ (budget : ℕ) (s : Cpu) (l : Lent) where
  abbrev ran : RunOutcome
  ran = run budget s l

  abbrev number : ℕ
  number = number_of ran.ran.reply

  -- what is lent where it leaves off
  abbrev l' : Lent
  l' = lent_on l ran.storage

  -- where a run that was let begin leaves off
  ready-after : Ready s l → Ready ran.ran.cpu l'
  ready-after h = first-kept s ran.ran.cpu l ran.storage (runs.as_long budget s l) (admits.by-run budget s l (first-admitted s l h)) h

  -- a run that is not let begin gives the first refusal
  number-first : is_done (first_refusal s l) ≡ false → number ≡ number_of (first_refusal s l)
  number-first h = ap (λ (r : RunOutcome). number_of r.ran.reply) (runs.first budget s l h)

  -- where it leaves off there is none
  not_first : Ready s l → (k : ℕ) → (0 ≡ k → ⊥) → number_of (first_refusal ran.ran.cpu l') ≡ k → ⊥
  not_first h k z f = z (sym ((laws.iff_eq (number_of (first_refusal ran.ran.cpu l')) 0).0 (ready-after h)) ∙ f)

  -- so a reply that a step gives for a first refusal alone is the run's for the first refusal before it
  begins : (k : ℕ) → (0 ≡ k → ⊥) → (numbered (step ran.ran.cpu l') ≡ k → number_of (first_refusal ran.ran.cpu l') ≡ k)
      → (number ≡ k) ↔ (number_of (first_refusal s l) ≡ k)
  begins k z at-step = by (is_done (first_refusal s l)) refl
    where
      by : (b : Bool) → is_done (first_refusal s l) ≡ b → (number ≡ k) ↔ (number_of (first_refusal s l) ≡ k)
      by false e = rw (number-first e) laws.iff_same
      by true e = (
        λ h. absurd (⊎_elim (λ d. z (sym (ap number_of d.0) ∙ h)) (λ d. not_first e k z (at-step (ap number_of d.1.1 ∙ h))) (runs.ends budget s l e)),
        λ h. absurd (z (sym ((laws.iff_eq (number_of (first_refusal s l)) 0).0 e) ∙ h)),
      )

  pub of_run_1 : (number ≡ 1) ↔ TooLong l
  of_run_1 = laws.iff_trans (begins 1 (λ h. omega arith) (λ e. (first_1 ran.ran.cpu l').1 ((of_step_1 ran.ran.cpu l').0 e))) (first_1 s l)

  pub of_run_2 : (number ≡ 2) ↔ (Usable l × (admitted s ≡ false))
  of_run_2 = laws.iff_trans (begins 2 (λ h. omega arith) (λ e. (first_2 ran.ran.cpu l').1 ((of_step_2 ran.ran.cpu l').0 e))) (first_2 s l)

  -- a reply that is none of the first refusals says that the run was let begin
  let_begin : (k : ℕ) → (1 ≡ k → ⊥) → (2 ≡ k → ⊥) → number ≡ k → Ready s l
  let_begin k n1 n2 e = by (is_done (first_refusal s l)) refl (first_of s l)
    where
      by : (b : Bool) → is_done (first_refusal s l) ≡ b → OneOf (0 ∷ 1 ∷ 2 ∷ []) (number_of (first_refusal s l)) → b ≡ true
      by true d w = refl
      by false d (inl z) = absurd ((laws.iff_not_eq (number_of (first_refusal s l)) 0).0 d z)
      by false d (inr (inl z)) = absurd (n1 (sym z ∙ sym (number-first d) ∙ e))
      by false d (inr (inr (inl z))) = absurd (n2 (sym z ∙ sym (number-first d) ∙ e))
      by false d (inr (inr (inr never))) = elim never [ ]

  -- any other refusal is that of the step where it leaves off
  of_run_step : (k : ℕ) → (0 ≡ k → ⊥) → (1 ≡ k → ⊥) → (2 ≡ k → ⊥) → {X : Type 0}
      → (numbered (step ran.ran.cpu l') ≡ k) ↔ (Ready ran.ran.cpu l' × X)
      → (number ≡ k) ↔ (Ready s l × ((ran.ran.count < budget) × X))
  of_run_step k n0 n1 n2 {X} at-step = (there, back)
    where
      there : number ≡ k → Ready s l × ((ran.ran.count < budget) × X)
      there e =
          let h : Ready s l = let_begin k n1 n2 e in
          ⊎_elim (λ d. absurd (n0 (sym (ap number_of d.0) ∙ e))) (λ d. (h, (d.0, (at-step.0 (ap number_of d.1.1 ∙ e)).1))) (runs.ends budget s l h)

      back : Ready s l × ((ran.ran.count < budget) × X) → number ≡ k
      back h =
          ⊎_elim (λ d. absurd (omega (arith, d.1, h.1.0)))
          (λ d. sym (ap number_of d.1.1) ∙ at-step.1 (ready-after h.0, h.1.1))
          (runs.ends budget s l h.0)

  pub of_run_3 : (number ≡ 3) ↔ (Ready s l × ((ran.ran.count < budget) × (ran.ran.cpu.stopped ≡ true)))
  of_run_3 = of_run_step 3 (λ h. omega arith) (λ h. omega arith) (λ h. omega arith) (of_step_3 ran.ran.cpu l')

  pub of_run_4 : (number ≡ 4)
      ↔ (Ready s l × ((ran.ran.count < budget) × ((ran.ran.cpu.stopped ≡ false) × SomeOutside (memory_of l') (accesses ran.ran.cpu (memory_of l')))))
  of_run_4 = of_run_step 4 (λ h. omega arith) (λ h. omega arith) (λ h. omega arith) (of_step_4 ran.ran.cpu l')

  pub of_run_0 : (number ≡ 0) ↔ (Ready s l × (ran.ran.count ≡ budget))
  of_run_0 = (there, back)
    where
      there : number ≡ 0 → Ready s l × (ran.ran.count ≡ budget)
      there e =
          let h : Ready s l = let_begin 0 (λ z. omega arith) (λ z. omega arith) e in
          (h, ⊎_elim (λ d. d.1) (λ d. absurd (d.1.0 e)) (runs.ends budget s l h))

      back : Ready s l × (ran.ran.count ≡ budget) → number ≡ 0
      back h = ⊎_elim (λ d. ap number_of d.0) (λ d. absurd (omega (arith, d.0, h.1))) (runs.ends budget s l h.0)

  pub of_run : OneOf (0 ∷ 1 ∷ 2 ∷ 3 ∷ 4 ∷ []) number
  of_run = by (is_done (first_refusal s l)) refl (first_of s l)
    where
      by : (b : Bool) → is_done (first_refusal s l) ≡ b → OneOf (0 ∷ 1 ∷ 2 ∷ []) (number_of (first_refusal s l)) → OneOf (0 ∷ 1 ∷ 2 ∷ 3 ∷ 4 ∷ []) number
      by true d w =
          ⊎_elim
          (λ x. inl (ap number_of x.0))
          (λ x. laws.same_of (0 ∷ 1 ∷ 2 ∷ 3 ∷ 4 ∷ []) (sym (ap number_of x.1.1)) (of_step ran.ran.cpu l'))
          (runs.ends budget s l d)
      by false d (inl z) = inl (number-first d ∙ z)
      by false d (inr (inl z)) = inr (inl (number-first d ∙ z))
      by false d (inr (inr (inl z))) = inr (inr (inl (number-first d ∙ z)))
      by false d (inr (inr (inr never))) = elim never [ ]

  pub of_run_5 : number ≡ 5 → ⊥
  of_run_5 = no_5 number of_run
