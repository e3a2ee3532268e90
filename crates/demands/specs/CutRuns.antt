-- A run cut in parts is one run. Document 02, P6: "a run of n and then of m from its result gives the state, memory and total count of one
-- run of n+m".
--
-- In every case, the refused and the stopped ones too. The reply is the second part's, but a part of budget 0 tries no step, and so does
-- not tell where the first one ended. "The reply is also the same when m is at least 1, or when 1 or 2 is given; otherwise, with m at 0,
-- the second run replies 0." Between two parts the state may be stored as a block and read back. A list of parts is one run of their sum.
-- A call can be given no sum that passes the budget's width; the theorem is of all numbers. Assumes nothing.
use Rattle.std.specs.Prelude.{ℕ, zero, suc, ◌+◌, ◌≤◌, ◌≡◌, refl, Bool, true, false, cond, List, [], ◌∷◌, ◌⊎◌, length}
use Rattle.std.proofs.Common.{sym, ap, ◌∙◌, ⊎_elim, inl, inr, zero-add, suc-add, add_assoc, add-zero, arith}
use Rattle.std.proofs.lemmas.Bool.{false≢true}
use Rattle.manual.specs.declared.Cpu.{Cpu}
use Rattle.manual.specs.declared.Answer.{Answer}
use Rattle.manual.specs.declared.Reply.{Reply}
use Rattle.manual.specs.declared.Reply.TheVariants.{Done}
use Rattle.manual.specs.Memory.{Storage}
use Rattle.manual.specs.Reply.{is_done, number_of}
use Rattle.manual.specs.Admitted.{admitted}
use Rattle.manual.specs.Lent.{Lent, lent_on, first_refusal}
use Rattle.manual.specs.Block.{read_block, store_block}
use Rattle.instructions.specs.Step.{step}
use Rattle.instructions.specs.Run.{RunOutcome, ended, after_one, steps, run}
use Rattle.state.specs.FirstLaws.{first-kept, first-admitted}
use Rattle.demands.specs.Exact.{OneOf, Ready, Values}
use Rattle.demands.specs.ExactLaws as exact
use Rattle.demands.specs.Refusals.{NotZero, is-not, is-refused, step_kept}
use Rattle.demands.specs.Runs.{runs, run-steps}
use Rattle.demands.specs.Admits.{admits}
use Rattle.demands.specs.HostSentences.{Holds, stored_back}
use Rattle.demands.specs.TypedLaws.{keeps_typed}

-- the next part: a run of m from the result of r
abbrev pub gone_on : ℕ → Lent → RunOutcome → RunOutcome
gone_on m l r = run m r.ran.cpu (lent_on l r.storage)

-- the reply of a part, x, and after it of one of budget m, y, told as one
abbrev pub last_reply : {A : Type 0} → ℕ → A → A → A
last_reply zero x y = x
last_reply (suc m) x y = y

-- the part r, and after it the part q of budget m, told as one
abbrev pub joined : ℕ → RunOutcome → RunOutcome → RunOutcome
joined m r q = ended (last_reply m r.ran.reply q.ran.reply) (r.ran.count + q.ran.count) q.ran.cpu q.storage

-- after r a part of each of these budgets, told as one
unfoldable pub in_parts : List ℕ → Lent → RunOutcome → RunOutcome
in_parts [] l r = r
in_parts (m ∷ ms) l r = in_parts ms l (joined m r (gone_on m l r))

unfoldable pub total : List ℕ → ℕ
total [] = 0
total (m ∷ ms) = m + total ms

-- the state stored as a block in the 128 bytes b, and read back
abbrev pub through_block : List ℕ → Cpu → Cpu
through_block b s = (read_block (store_block s b).bytes).cpu

-- 1 or 2 is given
abbrev pub Given1Or2 : RunOutcome → Type 0
Given1Or2 r = OneOf (1 ∷ 2 ∷ []) (number_of r.ran.reply)

pub record CutRuns : Type 0 where
  -- every case in one equation
  pub one-run : (n m : ℕ) (s : Cpu) (l : Lent) → joined m (run n s l) (gone_on m l (run n s l)) ≡ run (n + m) s l
  -- the state, memory and total count
  pub same-state : (n m : ℕ) (s : Cpu) (l : Lent) → (gone_on m l (run n s l)).ran.cpu ≡ (run (n + m) s l).ran.cpu
  pub same_memory : (n m : ℕ) (s : Cpu) (l : Lent) → (gone_on m l (run n s l)).storage ≡ (run (n + m) s l).storage
  pub same_count : (n m : ℕ) (s : Cpu) (l : Lent) → (run n s l).ran.count + (gone_on m l (run n s l)).ran.count ≡ (run (n + m) s l).ran.count
  -- the reply, when m is at least 1, or when 1 or 2 is given
  pub same-reply : (n m : ℕ) (s : Cpu) (l : Lent) → (1 ≤ m) ⊎ Given1Or2 (run (n + m) s l) → (gone_on m l (run n s l)).ran.reply ≡ (run (n + m) s l).ran.reply
  -- otherwise, with m at 0, the second run replies 0
  pub otherwise_0 : (n : ℕ) (s : Cpu) (l : Lent) → (Given1Or2 (run n s l) → ⊥) → (gone_on 0 l (run n s l)).ran.reply ≡ Done
  -- where 1 or 2 is given, each part gives it, with count 0 and the state and memory as given
  pub refused-first : (n m : ℕ) (s : Cpu) (l : Lent) → Given1Or2 (run (n + m) s l)
      → (run n s l ≡ ended (first_refusal s l) 0 s l.storage) × (gone_on m l (run n s l) ≡ ended (first_refusal s l) 0 s l.storage)
  -- a run that was refused or is stopped has come to its end: no further budget changes anything
  pub at_its_end : (n m : ℕ) (s : Cpu) (l : Lent) → NotZero (run n s l).ran.reply → run (n + m) s l ≡ run n s l
  -- and a part that tries a step again gives its reply again, with count 0, and leaves the state and memory as they are
  pub tried-again : (n m : ℕ) (s : Cpu) (l : Lent) → NotZero (run n s l).ran.reply → 1 ≤ m
      → let r : RunOutcome = run n s l in
      gone_on m l r ≡ ended r.ran.reply 0 r.ran.cpu r.storage
  -- an admitted state is stored and read back with 0, and the part after that is as before
  pub stored-between : (n m : ℕ) (s : Cpu) (l : Lent) (b : List ℕ) → Values s l.storage → admitted s ≡ true → length b ≡ 128
      → let r : RunOutcome = run n s l in
      let t : Cpu = through_block b r.ran.cpu in
      ((store_block r.ran.cpu b).reply ≡ Done) × ((read_block (store_block r.ran.cpu b).bytes).reply ≡ Done) × (joined m r (run m t (lent_on l r.storage)) ≡ run (n + m) s l)
  -- any list of parts
  pub any-parts : (n : ℕ) (ms : List ℕ) (s : Cpu) (l : Lent) → in_parts ms l (run n s l) ≡ run (n + total ms) s l

-- ---- the proofs

-- ---- steps

-- a step that is refused is refused again where it is tried again, so a part that ended with it is not changed by a further one
refused-again : (m k : ℕ) (s s' : Cpu) (l : Lent) (b : Storage) (x : Reply) → s' ≡ s → b ≡ l.storage → (step s l).stepped.reply ≡ x → NotZero x
    → joined m (ended x k s' b) (steps m s' (lent_on l b)) ≡ ended x k s' b
unfolding steps
refused-again zero k s s' l b x p q e refused = rw (add-zero k)
refused-again (suc m) k s s' l b x p q e refused =
    let u : ((step s l).stepped.cpu ≡ s) × ((step s l).storage ≡ l.storage) = (step_kept s l (rw e refused)).0 in
    rw (p, q, e, is-refused x refused, u.0, u.1, add-zero k)

steps-cut : (n m : ℕ) (s : Cpu) (l : Lent)
    → joined m (steps n s l) (steps m (steps n s l).ran.cpu (lent_on l (steps n s l).storage)) ≡ steps (n + m) s l
unfolding steps
steps-cut zero zero s l = refl
steps-cut zero (suc m) s l = rw (zero-add (suc m), zero-add)
steps-cut (suc n) m s l = rw (suc-add n m) (by (is_done (step s l).stepped.reply) refl (steps-cut n m t l'))
  where
    t : Cpu
    t = (step s l).stepped.cpu

    l' : Lent
    l' = lent_on l (step s l).storage

    -- the step was done and others followed it, or it was refused
    tried : Bool → RunOutcome → RunOutcome
    tried b r = cond b (after_one r) (ended (step s l).stepped.reply 0 t (step s l).storage)

    by : (b : Bool) → is_done (step s l).stepped.reply ≡ b
        → joined m (steps n t l') (steps m (steps n t l').ran.cpu (lent_on l (steps n t l').storage)) ≡ steps (n + m) t l'
        → let r : RunOutcome = tried b (steps n t l') in
        joined m r (steps m r.ran.cpu (lent_on l r.storage)) ≡ tried b (steps (n + m) t l')
    by true e ih = rw (suc-add _ _) (ap after_one ih)
    by false e ih =
        let refused : NotZero (step s l).stepped.reply = is-not (step s l).stepped.reply e in
        let u : (t ≡ s) × ((step s l).storage ≡ l.storage) = (step_kept s l refused).0 in
        refused-again m 0 s t l (step s l).storage (step s l).stepped.reply u.0 u.1 refl refused

-- ---- runs

same : (m : ℕ) (x : Reply) → last_reply m x x ≡ x
same zero x = refl
same (suc m) x = refl

module _ (s : Cpu) (l : Lent) where
  pub not-ready : (n : ℕ) → Given1Or2 (run n s l) → is_done (first_refusal s l) ≡ false
  not-ready n = by (is_done (first_refusal s l)) refl
    where
      by : (b : Bool) → is_done (first_refusal s l) ≡ b → Given1Or2 (run n s l) → b ≡ false
      by false h g = refl
      by true h (inl e) = absurd (((exact.meanings).usable l).0 (((exact.meanings).ready s l).0 h).0 (((exact.reply_1).run_1 n s l).0 e))
      by true h (inr (inl e)) = absurd (false≢true (sym (((exact.reply_2).run_2 n s l).0 e).1 ∙ first-admitted s l h))
      by true h (inr (inr never)) = elim never [ ]

  given : (n : ℕ) → is_done (first_refusal s l) ≡ false → Given1Or2 (run n s l)
  given n h = rw (runs.first n s l h) (by ((exact.meanings).first_of s l))
    where
      by : OneOf (0 ∷ 1 ∷ 2 ∷ []) (number_of (first_refusal s l)) → OneOf (1 ∷ 2 ∷ []) (number_of (first_refusal s l))
      by (inl e) = absurd (is-not (first_refusal s l) h e)
      by (inr w) = w

module _ (n : ℕ) (s : Cpu) (l : Lent) where
  abbrev r : RunOutcome
  r = run n s l

  abbrev q : ℕ → RunOutcome
  q m = gone_on m l r

  -- no test fails before the second part, as none failed before the first
  ready-after : Ready s l → Ready r.ran.cpu (lent_on l r.storage)
  ready-after h = first-kept s r.ran.cpu l r.storage (runs.as_long n s l) (admits.by-run n s l (first-admitted s l h)) h

  refused-part : (m : ℕ) → is_done (first_refusal s l) ≡ false → q m ≡ ended (first_refusal s l) 0 s l.storage
  refused-part m h = rw (runs.first n s l h) (runs.first m s l h)

  one-run : (m : ℕ) → joined m r (q m) ≡ run (n + m) s l
  one-run m = by (is_done (first_refusal s l)) refl
    where
      by : (b : Bool) → is_done (first_refusal s l) ≡ b → joined m r (q m) ≡ run (n + m) s l
      by true h = rw (run-steps m r.ran.cpu (lent_on l r.storage) (ready-after h), run-steps n s l h, run-steps (n + m) s l h) (steps-cut n m s l)
      by false h = rw (refused-part m h, runs.first n s l h, runs.first (n + m) s l h, same m (first_refusal s l))

  refused-first : (m : ℕ) → Given1Or2 (run (n + m) s l)
      → (r ≡ ended (first_refusal s l) 0 s l.storage) × (q m ≡ ended (first_refusal s l) 0 s l.storage)
  refused-first m g = let h : is_done (first_refusal s l) ≡ false = not-ready s l (n + m) g in (runs.first n s l h, refused-part m h)

  same-reply : (m : ℕ) → (1 ≤ m) ⊎ Given1Or2 (run (n + m) s l) → (q m).ran.reply ≡ (run (n + m) s l).ran.reply
  same-reply zero (inl h) = absurd (omega arith)
  same-reply zero (inr g) = rw ((refused-first zero g).1, runs.first (n + zero) s l (not-ready s l (n + zero) g))
  same-reply (suc m) w = ap (λ (x : RunOutcome). x.ran.reply) (one-run (suc m))

  otherwise_0 : (Given1Or2 r → ⊥) → (q 0).ran.reply ≡ Done
  otherwise_0 not-given = by (is_done (first_refusal s l)) refl
    where
      by : (b : Bool) → is_done (first_refusal s l) ≡ b → (q 0).ran.reply ≡ Done
      by true h = rw (runs.budget_0 r.ran.cpu (lent_on l r.storage) (ready-after h))
      by false h = absurd (not-given (given s l n h))

  at_its_end : (m : ℕ) → NotZero r.ran.reply → run (n + m) s l ≡ r
  at_its_end m refused = by (is_done (first_refusal s l)) refl
    where
      by : (b : Bool) → is_done (first_refusal s l) ≡ b → run (n + m) s l ≡ r
      by true h = ⊎_elim (λ e. absurd (refused (ap number_of e.0))) (λ e. sym (one-run m) ∙ stays e.1.1) (runs.ends n s l h)
        where
          stays : (step r.ran.cpu (lent_on l r.storage)).stepped.reply ≡ r.ran.reply → joined m r (q m) ≡ r
          stays e =
              rw (run-steps m r.ran.cpu (lent_on l r.storage) (ready-after h))
              (refused-again m r.ran.count r.ran.cpu r.ran.cpu (lent_on l r.storage) r.storage r.ran.reply refl refl e refused)
      by false h = rw (runs.first (n + m) s l h, runs.first n s l h)

  tried-again : (m : ℕ) → NotZero r.ran.reply → 1 ≤ m → q m ≡ ended r.ran.reply 0 r.ran.cpu r.storage
  tried-again zero refused h = absurd (omega arith)
  tried-again (suc m) refused h =
      let e : joined (suc m) r (q (suc m)) ≡ r = one-run (suc m) ∙ at_its_end (suc m) refused in
      let none : (q (suc m)).ran.count ≡ 0 = omega (arith, ap (λ (x : RunOutcome). x.ran.count) e) in
      rw (none, ap (λ (x : RunOutcome). x.ran.reply) e, ap (λ (x : RunOutcome). x.ran.cpu) e, ap (λ (x : RunOutcome). x.storage) e)

  stored-between : (m : ℕ) (b : List ℕ) → Values s l.storage → admitted s ≡ true → length b ≡ 128
      → let t : Cpu = through_block b r.ran.cpu in
      ((store_block r.ran.cpu b).reply ≡ Done) × ((read_block (store_block r.ran.cpu b).bytes).reply ≡ Done) × (joined m r (run m t (lent_on l r.storage)) ≡ run (n + m) s l)
  stored-between m b v h long =
      let u : ((store_block r.ran.cpu b).reply ≡ Done) × Holds (store_block r.ran.cpu b).bytes r.ran.cpu
      = stored_back r.ran.cpu b (admits.by-run n s l h) (keeps_typed.by-run n s l v.0 v.1) long
      in
      (u.0, ap (λ (x : Answer). x.reply) u.1, ap (λ (x : Answer). joined m r (run m x.cpu (lent_on l r.storage))) u.1 ∙ one-run m)

any-parts : (ms : List ℕ) (n : ℕ) (s : Cpu) (l : Lent) → in_parts ms l (run n s l) ≡ run (n + total ms) s l
unfolding in_parts total
any-parts [] n s l = rw (add-zero n)
any-parts (m ∷ ms) n s l = rw (one-run n s l m, ← add_assoc n m (total ms)) (any-parts ms (n + m) s l)

pub cut-runs : CutRuns
cut-runs = record {
  one-run = λ n m s l. one-run n s l m;
  same-state = λ n m s l. ap (λ (x : RunOutcome). x.ran.cpu) (one-run n s l m);
  same_memory = λ n m s l. ap (λ (x : RunOutcome). x.storage) (one-run n s l m);
  same_count = λ n m s l. ap (λ (x : RunOutcome). x.ran.count) (one-run n s l m);
  same-reply = λ n m s l. same-reply n s l m;
  otherwise_0 = otherwise_0;
  refused-first = λ n m s l. refused-first n s l m;
  at_its_end = λ n m s l. at_its_end n s l m;
  tried-again = λ n m s l. tried-again n s l m;
  stored-between = λ n m s l. stored-between n s l m;
  any-parts = λ n ms. any-parts ms n;
}
