-- When an entry, a return, a push and a pop give each reply. Assumes nothing.
use Prim.Native.Nat.{ℕ, ◌/◌, ◌%◌, ◌≤◌, ◌<◌}
use Rattle.std.specs.Prelude.{◌≡◌, Bool, cond, ◌↔◌, ltb, leb, Result, Option, Ok, Err, Some, None}
use Rattle.std.proofs.Math.Path.{refl}
use Rattle.std.proofs.Common.{sym, ◌∙◌, inl, inr, arith}
use Rattle.std.proofs.Math.Bool.{true, false}
use mathlib.Core.List.{List, [], ◌∷◌}
use Rattle.manual.specs.declared.Fault.{Fault}
use Rattle.manual.specs.declared.Cpu.{Cpu}
use Rattle.manual.specs.declared.Size.TheVariants.{Long}
use Rattle.manual.specs.declared.Reply.TheVariants.{OutOfRange, Masked}
use Rattle.manual.specs.Word.{minus}
use Rattle.manual.specs.Registers.{address_of, with_address}
use Rattle.manual.specs.Memory.{Memory, load, storing, stored}
use Rattle.manual.specs.Reply.{number_of, is_done, Outcome, completed, unchanged, refusal, loading, taking}
use Rattle.manual.specs.Admitted.{admitted}
use Rattle.manual.specs.Lent.{Lent, memory_of, first_refusal, checked}
use Rattle.manual.specs.Exceptions.{mask_of, entered, returned, level_taken, masked, exception, interrupt, rte, push32, not_popped, popped, pop32}
use Rattle.word.specs.TestLaws.{by-lt}
use Rattle.demands.specs.Accesses.{Wanted, wanted, Inside, Outside, SomeOutside, entry_at, return_at}
use Rattle.demands.specs.ReplyLaws as laws
use Rattle.demands.specs.Exact.{numbered, TooLong, Usable, Ready, LevelBelow8, LetThrough, OneOf}

-- ---- entries and returns

level-is : (level : Option ℕ) → (level_taken level ≡ true) ↔ LevelBelow8 level
level-is None = (λ h. tt, λ h. refl)
level-is (Some level) = laws.iff_lt level 8

module _ (s : Cpu) (l : Lent) (vector pc : ℕ) (level : Option ℕ) where
  abbrev entry : Outcome
  entry = entered s s level vector pc (memory_of l)

  entry-never : (k : ℕ) → (0 ≡ k → ⊥) → (4 ≡ k → ⊥) → numbered entry ≡ k → ⊥
  entry-never = laws.answers-never (memory_of l) (entry_at s level vector) entry (laws.entered-answers s s level vector pc (memory_of l))

  abbrev called : Outcome
  called = cond (level_taken level) entry (unchanged s OutOfRange (memory_of l))

  called-number : numbered called ≡ cond (level_taken level) (numbered entry) 6
  unfolding refusal
  called-number = laws.number_cond (level_taken level) entry (unchanged s OutOfRange (memory_of l))

  called-never : (k : ℕ) → (0 ≡ k → ⊥) → (4 ≡ k → ⊥) → (6 ≡ k → ⊥) → numbered called ≡ k → ⊥
  called-never k n0 n4 n6 e = laws.neither (level_taken level) (numbered entry) 6 k (entry-never k n0 n4) n6 (sym called-number ∙ e)

  pub of_exception_1 : (numbered (exception s l vector pc level) ≡ 1) ↔ TooLong l
  unfolding exception
  of_exception_1 = laws.checked_1 s l called (called-never 1 (λ h. omega arith) (λ h. omega arith) (λ h. omega arith))

  pub of_exception_2 : (numbered (exception s l vector pc level) ≡ 2) ↔ (Usable l × (admitted s ≡ false))
  unfolding exception
  of_exception_2 = laws.checked_2 s l called (called-never 2 (λ h. omega arith) (λ h. omega arith) (λ h. omega arith))

  pub of_exception_4 : (numbered (exception s l vector pc level) ≡ 4) ↔ (Ready s l × (LevelBelow8 level × SomeOutside (memory_of l) (entry_at s level vector)))
  unfolding exception
  of_exception_4 =
      laws.iff_trans (laws.checked-on s l called 4 (λ h. omega arith) (λ h. omega arith))
      (laws.iff_and laws.iff_same
      (rw called-number (laws.iff_trans (laws.later_else 4 (numbered entry) 6 (λ h. omega arith) (level_taken level)) (laws.iff_and (level-is level) (laws.answers_4 (memory_of l) (entry_at s level vector) entry (laws.entered-answers s s level vector pc (memory_of l)))))))

  pub of_exception_6 : (numbered (exception s l vector pc level) ≡ 6) ↔ (Ready s l × (level_taken level ≡ false))
  unfolding exception
  of_exception_6 =
      laws.iff_trans (laws.checked-on s l called 6 (λ h. omega arith) (λ h. omega arith))
      (laws.iff_and laws.iff_same (rw called-number (laws.here_else 6 (numbered entry) (entry-never 6 (λ h. omega arith) (λ h. omega arith)) (level_taken level))))

  pub of_exception_0 : (numbered (exception s l vector pc level) ≡ 0) ↔ (Ready s l × (LevelBelow8 level × (SomeOutside (memory_of l) (entry_at s level vector) → ⊥)))
  unfolding exception
  of_exception_0 =
      laws.iff_trans (laws.checked-on s l called 0 (λ h. omega arith) (λ h. omega arith))
      (laws.iff_and laws.iff_same
      (rw called-number
      (laws.iff_trans (laws.later_else 0 (numbered entry) 6 (λ h. omega arith) (level_taken level))
      (laws.iff_and (level-is level) (laws.answers_0 (memory_of l) (entry_at s level vector) entry (laws.entered-answers s s level vector pc (memory_of l)))))))

  pub of_exception : OneOf (0 ∷ 1 ∷ 2 ∷ 4 ∷ 6 ∷ []) (numbered (exception s l vector pc level))
  unfolding exception
  of_exception =
      let ks : List ℕ = 0 ∷ 1 ∷ 2 ∷ 4 ∷ 6 ∷ [] in
      laws.checked_of s l called ks (inr (inl refl)) (inr (inr (inl refl)))
      (laws.same_of ks called-number
      (laws.either_of ks (level_taken level) _ 6
      (laws.answers_of (memory_of l) (entry_at s level vector) entry (laws.entered-answers s s level vector pc (memory_of l)) ks (inl refl) (inr (inr (inr (inl refl)))))
      (inr (inr (inr (inr (inl refl)))))))

module _ (s : Cpu) (l : Lent) (vector level : ℕ) where
  abbrev taken : Outcome
  taken = entered s s (Some level) vector s.pc (memory_of l)

  abbrev tried : Outcome
  tried = cond (masked s.sr level) (unchanged s Masked (memory_of l)) taken

  abbrev asked : Outcome
  asked = cond (ltb level 8) tried (unchanged s OutOfRange (memory_of l))

  tried-number : numbered tried ≡ cond (masked s.sr level) 7 (numbered taken)
  unfolding refusal
  tried-number = laws.number_cond (masked s.sr level) (unchanged s Masked (memory_of l)) taken

  asked-number : numbered asked ≡ cond (ltb level 8) (numbered tried) 6
  unfolding refusal
  asked-number = laws.number_cond (ltb level 8) tried (unchanged s OutOfRange (memory_of l))

  taken-never : (k : ℕ) → (0 ≡ k → ⊥) → (4 ≡ k → ⊥) → numbered taken ≡ k → ⊥
  taken-never k n0 n4 e = entry-never s l vector s.pc (Some level) k n0 n4 e

  tried-never : (k : ℕ) → (0 ≡ k → ⊥) → (4 ≡ k → ⊥) → (7 ≡ k → ⊥) → numbered tried ≡ k → ⊥
  tried-never k n0 n4 n7 e = laws.neither (masked s.sr level) 7 (numbered taken) k n7 (taken-never k n0 n4) (sym tried-number ∙ e)

  asked-never : (k : ℕ) → (0 ≡ k → ⊥) → (4 ≡ k → ⊥) → (6 ≡ k → ⊥) → (7 ≡ k → ⊥) → numbered asked ≡ k → ⊥
  asked-never k n0 n4 n6 n7 e = laws.neither (ltb level 8) (numbered tried) 6 k (tried-never k n0 n4 n7) n6 (sym asked-number ∙ e)

  pub of_interrupt_1 : (numbered (interrupt s l vector level) ≡ 1) ↔ TooLong l
  unfolding interrupt
  of_interrupt_1 = laws.checked_1 s l asked (asked-never 1 (λ h. omega arith) (λ h. omega arith) (λ h. omega arith) (λ h. omega arith))

  pub of_interrupt_2 : (numbered (interrupt s l vector level) ≡ 2) ↔ (Usable l × (admitted s ≡ false))
  unfolding interrupt
  of_interrupt_2 = laws.checked_2 s l asked (asked-never 2 (λ h. omega arith) (λ h. omega arith) (λ h. omega arith) (λ h. omega arith))

  masked_when : (masked s.sr level ≡ true) ↔ ((level < 7) × (level ≤ s.sr / 0x100 % 8))
  unfolding masked
  masked_when = laws.iff_trans (laws.iff_both (ltb level 7) (leb level (mask_of s.sr))) (laws.iff_and (laws.iff_lt level 7) (laws.iff_le level (mask_of s.sr)))

  not-masked : (masked s.sr level ≡ false) ↔ LetThrough s.sr level
  not-masked = laws.iff_trans (laws.iff_not (masked s.sr level) masked_when) (there, back)
    where
      there : ((level < 7) × (level ≤ s.sr / 0x100 % 8) → ⊥) → LetThrough s.sr level
      there n = by-lt level 7 (λ l. by-lt (s.sr / 0x100 % 8) level (λ o. inr o) (λ o. absurd (n (l, o)))) (λ l. inl l)

      back : LetThrough s.sr level → (level < 7) × (level ≤ s.sr / 0x100 % 8) → ⊥
      back (inl l) h = omega (arith, h.0)
      back (inr l) h = omega (arith, h.1)

  pub of_interrupt_4 : (numbered (interrupt s l vector level) ≡ 4) ↔ (Ready s l × ((level < 8) × (LetThrough s.sr level × SomeOutside (memory_of l) (entry_at s (Some level) vector))))
  unfolding interrupt
  of_interrupt_4 =
      laws.iff_trans (laws.checked-on s l asked 4 (λ h. omega arith) (λ h. omega arith))
      (laws.iff_and laws.iff_same
      (rw asked-number
      (laws.iff_trans (laws.later_else 4 (numbered tried) 6 (λ h. omega arith) (ltb level 8))
      (laws.iff_and (laws.iff_lt level 8)
      (rw tried-number
      (laws.iff_trans (laws.later 4 (numbered taken) 7 (λ h. omega arith) (masked s.sr level))
      (laws.iff_and not-masked (laws.answers_4 (memory_of l) (entry_at s (Some level) vector) taken (laws.entered-answers s s (Some level) vector s.pc (memory_of l))))))))))

  pub of_interrupt_6 : (numbered (interrupt s l vector level) ≡ 6) ↔ (Ready s l × (8 ≤ level))
  unfolding interrupt
  of_interrupt_6 =
      laws.iff_trans (laws.checked-on s l asked 6 (λ h. omega arith) (λ h. omega arith))
      (laws.iff_and laws.iff_same
      (rw asked-number
      (laws.iff_trans (laws.here_else 6 (numbered tried) (tried-never 6 (λ h. omega arith) (λ h. omega arith) (λ h. omega arith)) (ltb level 8))
      (laws.iff_not_lt level 8))))

  pub of_interrupt_7 : (numbered (interrupt s l vector level) ≡ 7) ↔ (Ready s l × ((level < 7) × (level ≤ s.sr / 0x100 % 8)))
  unfolding interrupt
  of_interrupt_7 =
      laws.iff_trans (laws.checked-on s l asked 7 (λ h. omega arith) (λ h. omega arith))
      (laws.iff_and laws.iff_same
      (rw asked-number
      (laws.iff_trans (laws.later_else 7 (numbered tried) 6 (λ h. omega arith) (ltb level 8))
      (rw tried-number
      (laws.iff_trans
      (laws.iff_and (laws.iff_lt level 8)
      (laws.iff_trans (laws.here 7 (numbered taken) (taken-never 7 (λ h. omega arith) (λ h. omega arith)) (masked s.sr level)) masked_when))
      (λ h. h.1, λ h. (omega (arith, h.0), h)))))))

  pub of_interrupt_0 : (numbered (interrupt s l vector level) ≡ 0) ↔ (Ready s l × ((level < 8) × (LetThrough s.sr level × (SomeOutside (memory_of l) (entry_at s (Some level) vector) → ⊥))))
  unfolding interrupt
  of_interrupt_0 =
      laws.iff_trans (laws.checked-on s l asked 0 (λ h. omega arith) (λ h. omega arith))
      (laws.iff_and laws.iff_same
      (rw asked-number
      (laws.iff_trans (laws.later_else 0 (numbered tried) 6 (λ h. omega arith) (ltb level 8))
      (laws.iff_and (laws.iff_lt level 8)
      (rw tried-number
      (laws.iff_trans (laws.later 0 (numbered taken) 7 (λ h. omega arith) (masked s.sr level))
      (laws.iff_and not-masked (laws.answers_0 (memory_of l) (entry_at s (Some level) vector) taken (laws.entered-answers s s (Some level) vector s.pc (memory_of l))))))))))

  pub of_interrupt : OneOf (0 ∷ 1 ∷ 2 ∷ 4 ∷ 6 ∷ 7 ∷ []) (numbered (interrupt s l vector level))
  unfolding interrupt
  of_interrupt =
      let ks : List ℕ = 0 ∷ 1 ∷ 2 ∷ 4 ∷ 6 ∷ 7 ∷ [] in
      laws.checked_of s l asked ks (inr (inl refl)) (inr (inr (inl refl)))
      (laws.same_of ks asked-number
      (laws.either_of ks (ltb level 8) _ 6
      (laws.same_of ks tried-number
      (laws.either_of ks (masked s.sr level) 7 _ (inr (inr (inr (inr (inr (inl refl))))))
      (laws.answers_of (memory_of l) (entry_at s (Some level) vector) taken (laws.entered-answers s s (Some level) vector s.pc (memory_of l)) ks (inl refl) (inr (inr (inr (inl refl)))))))
      (inr (inr (inr (inr (inl refl)))))))

-- 0, 1, 2 or 4: a call that makes accesses and tests nothing else
one_of : (s : Cpu) (l : Lent) (list : List Wanted) (o : Outcome) → laws.Answers (memory_of l) list o → OneOf (0 ∷ 1 ∷ 2 ∷ 4 ∷ []) (numbered (checked s l o))
one_of s l list o h =
    let ks : List ℕ = 0 ∷ 1 ∷ 2 ∷ 4 ∷ [] in
    laws.checked_of s l o ks (inr (inl refl)) (inr (inr (inl refl))) (laws.answers_of (memory_of l) list o h ks (inl refl) (inr (inr (inr (inl refl)))))

module _ (s : Cpu) (l : Lent) where
  abbrev m : Memory
  m = memory_of l

  back-never : (k : ℕ) → (0 ≡ k → ⊥) → (4 ≡ k → ⊥) → numbered (returned s s m) ≡ k → ⊥
  back-never = laws.answers-never m (return_at s) (returned s s m) (laws.returned-answers s s m)

  pub of_rte_1 : (numbered (rte s l) ≡ 1) ↔ TooLong l
  unfolding rte
  of_rte_1 = laws.checked_1 s l (returned s s m) (back-never 1 (λ h. omega arith) (λ h. omega arith))

  pub of_rte_2 : (numbered (rte s l) ≡ 2) ↔ (Usable l × (admitted s ≡ false))
  unfolding rte
  of_rte_2 = laws.checked_2 s l (returned s s m) (back-never 2 (λ h. omega arith) (λ h. omega arith))

  pub of_rte_4 : (numbered (rte s l) ≡ 4) ↔ (Ready s l × SomeOutside m (return_at s))
  unfolding rte
  of_rte_4 = laws.iff_trans (laws.checked-on s l (returned s s m) 4 (λ h. omega arith) (λ h. omega arith)) (laws.iff_and laws.iff_same (laws.answers_4 m (return_at s) (returned s s m) (laws.returned-answers s s m)))

  pub of_rte_0 : (numbered (rte s l) ≡ 0) ↔ (Ready s l × (SomeOutside m (return_at s) → ⊥))
  unfolding rte
  of_rte_0 =
      laws.iff_trans (laws.checked-on s l (returned s s m) 0 (λ h. omega arith) (λ h. omega arith))
      (laws.iff_and laws.iff_same (laws.answers_0 m (return_at s) (returned s s m) (laws.returned-answers s s m)))

  pub of_rte : OneOf (0 ∷ 1 ∷ 2 ∷ 4 ∷ []) (numbered (rte s l))
  unfolding rte
  of_rte = one_of s l (return_at s) (returned s s m) (laws.returned-answers s s m)

  -- a push and a pop

  abbrev below : ℕ
  below = minus (address_of s.r 7) 4

  abbrev pushing : ℕ → Outcome
  pushing v = taking s m (storing m below Long) (completed (with_address 7 below s) 0 (stored m below Long v))

  push-answers : (v : ℕ) → laws.Answers m (wanted below 4 ∷ []) (pushing v)
  push-answers v = laws.store-answers s m below Long _ refl

  push-never : (v k : ℕ) → (0 ≡ k → ⊥) → (4 ≡ k → ⊥) → numbered (pushing v) ≡ k → ⊥
  push-never v = laws.answers-never m (wanted below 4 ∷ []) (pushing v) (push-answers v)

  pub of_push_1 : (v : ℕ) → (numbered (push32 s l v) ≡ 1) ↔ TooLong l
  unfolding push32
  of_push_1 v = laws.checked_1 s l (pushing v) (push-never v 1 (λ h. omega arith) (λ h. omega arith))

  pub of_push_2 : (v : ℕ) → (numbered (push32 s l v) ≡ 2) ↔ (Usable l × (admitted s ≡ false))
  unfolding push32
  of_push_2 v = laws.checked_2 s l (pushing v) (push-never v 2 (λ h. omega arith) (λ h. omega arith))

  pub of_push_4 : (v : ℕ) → (numbered (push32 s l v) ≡ 4) ↔ (Ready s l × Outside m below 4)
  unfolding push32
  of_push_4 v =
      laws.iff_trans (laws.checked-on s l (pushing v) 4 (λ h. omega arith) (λ h. omega arith))
      (laws.iff_and laws.iff_same (laws.iff_trans (laws.answers_4 m (wanted below 4 ∷ []) (pushing v) (push-answers v)) (laws.one_outside m below 4)))

  pub of_push_0 : (v : ℕ) → (numbered (push32 s l v) ≡ 0) ↔ (Ready s l × Inside m below 4)
  unfolding push32
  of_push_0 v =
      laws.iff_trans (laws.checked-on s l (pushing v) 0 (λ h. omega arith) (λ h. omega arith))
      (laws.iff_and laws.iff_same (laws.iff_trans (laws.answers_0 m (wanted below 4 ∷ []) (pushing v) (push-answers v)) (laws.one_inside m below 4)))

  pub of_push : (v : ℕ) → OneOf (0 ∷ 1 ∷ 2 ∷ 4 ∷ []) (numbered (push32 s l v))
  unfolding push32
  of_push v = one_of s l (wanted below 4 ∷ []) (pushing v) (push-answers v)

  -- a pop answers as an outcome with the same reply would
  abbrev top : ℕ
  top = address_of s.r 7

  abbrev popping : Outcome
  popping = loading s m (load m top Long) λ v. completed s 0 l.storage

  pop_number : number_of (pop32 s l).reply ≡ numbered (checked s l popping)
  unfolding pop32 refusal
  pop_number = by (is_done (first_refusal s l)) (load m top Long)
    where
      by : (b : Bool) (x : Result ℕ Fault)
          → number_of (cond b (popped s top x) (not_popped s (first_refusal s l))).reply
          ≡ numbered (cond b (loading s m x λ v. completed s 0 l.storage) (unchanged s (first_refusal s l) m))
      by true (Ok v) = refl
      by true (Err x) = refl
      by false x = refl

  pop_answers : laws.Answers m (wanted top 4 ∷ []) popping
  pop_answers = laws.load-answers s m top Long _ (λ v. refl)

  pop_never : (k : ℕ) → (0 ≡ k → ⊥) → (4 ≡ k → ⊥) → numbered popping ≡ k → ⊥
  pop_never = laws.answers-never m (wanted top 4 ∷ []) popping pop_answers

  pub of_pop_1 : (number_of (pop32 s l).reply ≡ 1) ↔ TooLong l
  of_pop_1 = rw pop_number (laws.checked_1 s l popping (pop_never 1 (λ h. omega arith) (λ h. omega arith)))

  pub of_pop_2 : (number_of (pop32 s l).reply ≡ 2) ↔ (Usable l × (admitted s ≡ false))
  of_pop_2 = rw pop_number (laws.checked_2 s l popping (pop_never 2 (λ h. omega arith) (λ h. omega arith)))

  pub of_pop_4 : (number_of (pop32 s l).reply ≡ 4) ↔ (Ready s l × Outside m top 4)
  of_pop_4 =
      rw pop_number
      (laws.iff_trans (laws.checked-on s l popping 4 (λ h. omega arith) (λ h. omega arith))
      (laws.iff_and laws.iff_same (laws.iff_trans (laws.answers_4 m (wanted top 4 ∷ []) popping pop_answers) (laws.one_outside m top 4))))

  pub of_pop_0 : (number_of (pop32 s l).reply ≡ 0) ↔ (Ready s l × Inside m top 4)
  of_pop_0 =
      rw pop_number
      (laws.iff_trans (laws.checked-on s l popping 0 (λ h. omega arith) (λ h. omega arith))
      (laws.iff_and laws.iff_same (laws.iff_trans (laws.answers_0 m (wanted top 4 ∷ []) popping pop_answers) (laws.one_inside m top 4))))

  pub of_pop : OneOf (0 ∷ 1 ∷ 2 ∷ 4 ∷ []) (number_of (pop32 s l).reply)
  of_pop = laws.same_of (0 ∷ 1 ∷ 2 ∷ 4 ∷ []) pop_number (one_of s l (wanted top 4 ∷ []) popping pop_answers)
