-- Replies by their numbers: what number a tree of tests gives, and when. Assumes nothing.
use Prim.Native.Nat.{ℕ, zero, suc, ◌/◌, ◌%◌, ◌≤◌, ◌<◌}
use Rattle.std.specs.Prelude.{◌≡◌, Bool, ◌&&◌, List, [], ◌∷◌, ◌↔◌, ◌⊎◌, eqb, ltb, leb, Result, Option, Ok, Err}
use Rattle.std.proofs.Math.Path.{refl, ap}
use Rattle.std.proofs.Common.{sym, ◌∙◌, ⊎_elim, inl, inr, arith, ltb-true, ltb-false, lt-ltb, le-ltb, leb-true, le-leb, eqb-true, eq-eqb, ne_eqb}
use Rattle.std.proofs.Math.Bool.{true, false, cond}
use Rattle.std.proofs.lemmas.Bool.{false≢true, eqb-false}
use Rattle.manual.specs.declared.Cpu.{Cpu}
use Rattle.manual.specs.declared.Size.{Size}
use Rattle.manual.specs.declared.Size.TheVariants.{Long}
use Rattle.manual.specs.declared.Fault.{Fault}
use Rattle.manual.specs.declared.Fault.TheVariants.{Outside as Out}
use Rattle.manual.specs.Word.{bytes, plus}
use Rattle.manual.specs.Registers.{address_of}
use Rattle.manual.specs.Memory.{Memory, storage_of, access, taken, found, load, storing, first_fault, access_many}
use Rattle.manual.specs.Reply.{number_of, Outcome, unchanged, refusal, accessing, loading, taking}
use Rattle.manual.specs.Admitted.{admitted}
use Rattle.manual.specs.Lent.{Lent, memory_of, first_refusal, checked}
use Rattle.manual.specs.Differences.{vector_place}
use Rattle.manual.specs.Exceptions.{set_sr, handler_sr, pc_place, frame_place, entered, returned}
use Rattle.demands.specs.Accesses.{Wanted, wanted, Inside, Outside, SomeOutside, this, another, entry_at, return_at, many_longs}
use Rattle.demands.specs.AccessLaws.{taken_or_not}
use Rattle.demands.specs.FirstReplies.{first_1, first_2, first_of}
use Rattle.demands.specs.PartLaws.{access_all, number_or, some_outside}
use Rattle.demands.specs.Exact.{numbered, TooLong, Usable, Ready, OneOf}

-- ---- equivalences

pub iff_trans : {A B C : Type 0} → A ↔ B → B ↔ C → A ↔ C
iff_trans p q = (λ a. q.0 (p.0 a), λ c. p.1 (q.1 c))

pub iff_and : {A B C D : Type 0} → A ↔ B → C ↔ D → (A × C) ↔ (B × D)
iff_and p q = (λ x. (p.0 x.0, q.0 x.1), λ x. (p.1 x.0, q.1 x.1))

pub iff_or : {A B C D : Type 0} → A ↔ B → C ↔ D → (A ⊎ C) ↔ (B ⊎ D)
iff_or p q = (⊎_elim (λ a. inl (p.0 a)) (λ c. inr (q.0 c)), ⊎_elim (λ b. inl (p.1 b)) (λ d. inr (q.1 d)))

pub iff_same : {A : Type 0} → A ↔ A
iff_same = (λ a. a, λ a. a)

-- tests as facts
pub iff_lt : (a b : ℕ) → (ltb a b ≡ true) ↔ (a < b)
iff_lt a b = (ltb-true a b, lt-ltb a b)

pub iff_not_lt : (a b : ℕ) → (ltb a b ≡ false) ↔ (b ≤ a)
iff_not_lt a b = (ltb-false a b, le-ltb a b)

pub iff_le : (a b : ℕ) → (leb a b ≡ true) ↔ (a ≤ b)
iff_le a b = (leb-true a b, le-leb a b)

pub iff_eq : (a b : ℕ) → (eqb a b ≡ true) ↔ (a ≡ b)
iff_eq a b = (eqb-true a b, eq-eqb a b)

pub iff_not_eq : (a b : ℕ) → (eqb a b ≡ false) ↔ (a ≡ b → ⊥)
iff_not_eq a b = (eqb-false a b, ne_eqb a b)

pub iff_both : (a b : Bool) → ((a && b) ≡ true) ↔ ((a ≡ true) × (b ≡ true))
iff_both true b = (λ h. (refl, h), λ h. h.1)
iff_both false b = (λ h. absurd (false≢true h), λ h. h.0)

-- a test that says A: where it fails, A does not hold
pub iff_not : (a : Bool) {A : Type 0} → ((a ≡ true) ↔ A) → (a ≡ false) ↔ (A → ⊥)
iff_not true p = (λ h. absurd (false≢true (sym h)), λ n. absurd (n (p.0 refl)))
iff_not false p = (λ h x. false≢true (p.1 x), λ n. refl)

-- ---- a tree of numbers: k is given at a test, or further on

module _ (k rest : ℕ) where
  pub here : (rest ≡ k → ⊥) → (b : Bool) → (cond b k rest ≡ k) ↔ (b ≡ true)
  here n true = (λ h. refl, λ h. refl)
  here n false = (λ h. absurd (n h), λ h. absurd (false≢true h))

  pub here_else : (rest ≡ k → ⊥) → (b : Bool) → (cond b rest k ≡ k) ↔ (b ≡ false)
  here_else n true = (λ h. absurd (n h), λ h. absurd (false≢true (sym h)))
  here_else n false = (λ h. refl, λ h. refl)

  pub later : (j : ℕ) → (j ≡ k → ⊥) → (b : Bool) → (cond b j rest ≡ k) ↔ ((b ≡ false) × (rest ≡ k))
  later j n true = (λ h. absurd (n h), λ h. absurd (false≢true (sym h.0)))
  later j n false = (λ h. (refl, h), λ h. h.1)

  pub later_else : (j : ℕ) → (j ≡ k → ⊥) → (b : Bool) → (cond b rest j ≡ k) ↔ ((b ≡ true) × (rest ≡ k))
  later_else j n true = (λ h. (refl, h), λ h. h.1)
  later_else j n false = (λ h. absurd (n h), λ h. absurd (false≢true h.0))

pub neither : (b : Bool) (x y k : ℕ) → (x ≡ k → ⊥) → (y ≡ k → ⊥) → cond b x y ≡ k → ⊥
neither true x y k p q = p
neither false x y k p q = q

-- ---- a reply is one of these numbers

module _ (l : List ℕ) where
  pub either_of : (b : Bool) (x y : ℕ) → OneOf l x → OneOf l y → OneOf l (cond b x y)
  either_of true x y p q = p
  either_of false x y p q = q

  pub same_of : {x y : ℕ} → x ≡ y → OneOf l y → OneOf l x
  same_of e h = rw e h

-- ---- the numbers of outcomes

pub number_cond : (b : Bool) (x y : Outcome) → numbered (cond b x y) ≡ cond b (numbered x) (numbered y)
number_cond true x y = refl
number_cond false x y = refl

-- the first refusals come before all else
module _ (s : Cpu) (l : Lent) (o : Outcome) where
  abbrev first : ℕ
  first = number_of (first_refusal s l)

  checked-number : numbered (checked s l o) ≡ cond (eqb first 0) (numbered o) first
  unfolding refusal
  checked-number = number_cond (eqb first 0) o (unchanged s (first_refusal s l) (memory_of l))

  pub checked_of : (ks : List ℕ) → OneOf ks 1 → OneOf ks 2 → OneOf ks (numbered o) → OneOf ks (numbered (checked s l o))
  checked_of ks one two h = same_of ks checked-number (by (eqb first 0) refl (first_of s l))
    where
      by : (b : Bool) → eqb first 0 ≡ b → OneOf (0 ∷ 1 ∷ 2 ∷ []) first → OneOf ks (cond b (numbered o) first)
      by true e w = h
      by false e (inl z) = absurd (eqb-false first 0 e z)
      by false e (inr (inl z)) = same_of ks z one
      by false e (inr (inr (inl z))) = same_of ks z two
      by false e (inr (inr (inr never))) = elim never [ ]

  -- a reply that only they give
  pub checked-first : (k : ℕ) → (0 ≡ k → ⊥) → (numbered o ≡ k → ⊥) → (numbered (checked s l o) ≡ k) ↔ (first ≡ k)
  checked-first k z n = rw checked-number (by (eqb first 0) refl)
    where
      by : (b : Bool) → eqb first 0 ≡ b → (cond b (numbered o) first ≡ k) ↔ (first ≡ k)
      by true e = (λ h. absurd (n h), λ h. absurd (z (sym (eqb-true first 0 e) ∙ h)))
      by false e = iff_same

  pub checked_1 : (numbered o ≡ 1 → ⊥) → (numbered (checked s l o) ≡ 1) ↔ TooLong l
  checked_1 n = iff_trans (checked-first 1 (λ h. omega arith) n) (first_1 s l)

  pub checked_2 : (numbered o ≡ 2 → ⊥) → (numbered (checked s l o) ≡ 2) ↔ (Usable l × (admitted s ≡ false))
  checked_2 n = iff_trans (checked-first 2 (λ h. omega arith) n) (first_2 s l)

  -- a reply that none of them gives
  pub checked-on : (k : ℕ) → (1 ≡ k → ⊥) → (2 ≡ k → ⊥) → (numbered (checked s l o) ≡ k) ↔ (Ready s l × (numbered o ≡ k))
  checked-on k n1 n2 = rw checked-number (by (eqb first 0) refl (first_of s l))
    where
      by : (b : Bool) → eqb first 0 ≡ b → OneOf (0 ∷ 1 ∷ 2 ∷ []) first → (cond b (numbered o) first ≡ k) ↔ ((b ≡ true) × (numbered o ≡ k))
      by true e w = (λ h. (refl, h), λ h. h.1)
      by false e (inl z) = absurd (eqb-false first 0 e z)
      by false e (inr (inl z)) = (λ h. absurd (n1 (sym z ∙ h)), λ h. absurd (false≢true h.0))
      by false e (inr (inr (inl z))) = (λ h. absurd (n2 (sym z ∙ h)), λ h. absurd (false≢true h.0))
      by false e (inr (inr (inr never))) = elim never [ ]

-- ---- what an entry, a return and an instruction's action answer

-- the outcome is refused with the first fault of the accesses l, and done where there is none
abbrev pub Answers : Memory → List Wanted → Outcome → Type 0
Answers m l o = numbered o ≡ number_or (access_all m l) 0

-- a fault is refused with 4
pub zero_or_4 : (x : Result Unit Fault) → (number_or x 0 ≡ 0) ⊎ (number_or x 0 ≡ 4)
zero_or_4 (Ok tt) = inl refl
zero_or_4 (Err Out) = inr refl

pub none-outside : (m : Memory) (l : List Wanted) → (number_or (access_all m l) 0 ≡ 0) ↔ (SomeOutside m l → ⊥)
none-outside m l = (λ e h. omega (arith, e, (some_outside m l).1 h), λ n. ⊎_elim (λ e. e) (λ e. absurd (n ((some_outside m l).0 e))) (zero_or_4 (access_all m l)))

module _ (m : Memory) (l : List Wanted) (o : Outcome) (h : Answers m l o) where
  pub answers_4 : (numbered o ≡ 4) ↔ SomeOutside m l
  answers_4 = rw h (some_outside m l)

  pub answers_0 : (numbered o ≡ 0) ↔ (SomeOutside m l → ⊥)
  answers_0 = rw h (none-outside m l)

  pub answers_of : (ks : List ℕ) → OneOf ks 0 → OneOf ks 4 → OneOf ks (numbered o)
  answers_of ks zero_in four-in = same_of ks h (⊎_elim (λ e. same_of ks e zero_in) (λ e. same_of ks e four-in) (zero_or_4 (access_all m l)))

  pub answers-never : (k : ℕ) → (0 ≡ k → ⊥) → (4 ≡ k → ⊥) → numbered o ≡ k → ⊥
  answers-never k n0 n4 e = ⊎_elim (λ z. n0 (sym z ∙ sym h ∙ e)) (λ z. n4 (sym z ∙ sym h ∙ e)) (zero_or_4 (access_all m l))

module _ (m : Memory) (a n : ℕ) where
  pub one_outside : SomeOutside m (wanted a n ∷ []) ↔ Outside m a n
  one_outside = (only, λ h. this h)
    where
      no_more : SomeOutside m [] → ⊥
      no_more = elim [ ]

      only : SomeOutside m (wanted a n ∷ []) → Outside m a n
      only (this h) = h
      only (another h) = absurd (no_more h)

  pub one_inside : (SomeOutside m (wanted a n ∷ []) → ⊥) ↔ Inside m a n
  one_inside = (λ h. by (access m a n) refl h, λ i h. taken_or_not Out (sym (ap taken (one_outside.0 h)) ∙ i))
    where
      by : (x : Result ℕ Fault) → access m a n ≡ x → (SomeOutside m (wanted a n ∷ []) → ⊥) → taken x ≡ Ok tt
      by (Ok p) i h = refl
      by (Err Out) i h = absurd (h (this i))

-- the number of what goes by an access: that of its fault, or of what comes after it
module _ (given : Cpu) (m : Memory) where
  number-accessing : (rest : Result Unit Fault) (x : Result ℕ Fault) (f : ℕ → Outcome) → ((at : ℕ) → numbered (f at) ≡ number_or rest 0)
      → numbered (accessing given m x f) ≡ number_or (first_fault x rest) 0
  unfolding refusal
  number-accessing rest (Ok at) f h = h at
  number-accessing rest (Err x) f h = refl

  number-loading : (rest : Result Unit Fault) (z : Size) (x : Result ℕ Fault) (f : ℕ → Outcome) → ((v : ℕ) → numbered (f v) ≡ number_or rest 0)
      → numbered (loading given m (found (storage_of m) z x) f) ≡ number_or (first_fault x rest) 0
  unfolding refusal
  number-loading rest z (Ok at) f h = h _
  number-loading rest z (Err x) f h = refl

  number-taking : (x : Result Unit Fault) (o : Outcome) → numbered o ≡ 0 → numbered (taking given m x o) ≡ number_or x 0
  unfolding refusal
  number-taking (Ok tt) o h = h
  number-taking (Err x) o h = refl

  -- one number is stored, or read
  pub store-answers : (a : ℕ) (z : Size) (o : Outcome) → numbered o ≡ 0 → Answers m (wanted a (bytes z) ∷ []) (taking given m (storing m a z) o)
  unfolding storing
  store-answers a z o h = number-taking (taken (access m a (bytes z))) o h ∙ by (access m a (bytes z))
    where
      by : (x : Result ℕ Fault) → number_or (taken x) 0 ≡ number_or (first_fault x (Ok tt)) 0
      by (Ok at) = refl
      by (Err x) = refl

  pub load-answers : (a : ℕ) (z : Size) (f : ℕ → Outcome) → ((v : ℕ) → numbered (f v) ≡ 0) → Answers m (wanted a (bytes z) ∷ []) (loading given m (load m a z) f)
  unfolding load
  load-answers a z f h = number-loading (Ok tt) z (access m a (bytes z)) f h

module _ (given s : Cpu) (level : Option ℕ) (vector pc : ℕ) (m : Memory) where
  -- A7 with the handler's status register
  abbrev pointer : ℕ
  pointer = address_of (set_sr (handler_sr level s.sr) s).r 7

  pub entered-answers : Answers m (entry_at s level vector) (entered given s level vector pc m)
  unfolding entered
  entered-answers =
      number-accessing given m _ (access m (pc_place pointer) 4) _ λ high.
      number-accessing given m _ (access m (frame_place pointer) 4) _ λ low.
      number-accessing given m _ (access m (vector_place s.vbr vector) 4) _ λ table.
      refl

module _ (given s : Cpu) (m : Memory) where
  pub returned-answers : Answers m (return_at s) (returned given s m)
  unfolding returned load
  returned-answers =
      number-loading given m _ Long (access m (address_of s.r 7) 4) _ λ w.
      number-loading given m _ Long (access m (plus (address_of s.r 7) 4) 4) _ λ pc.
      refl

  many-all : (n regs a : ℕ) → access_many n m regs a ≡ access_all m (many_longs n regs a)
  unfolding access_many many_longs
  many-all zero regs a = refl
  many-all (suc n) regs a = by (eqb (regs % 2) 1) (many-all n (regs / 2) (plus a 4)) (many-all n (regs / 2) a)
    where
      by : (b : Bool) → access_many n m (regs / 2) (plus a 4) ≡ access_all m (many_longs n (regs / 2) (plus a 4))
          → access_many n m (regs / 2) a ≡ access_all m (many_longs n (regs / 2) a)
          → cond b (first_fault (access m a 4) (access_many n m (regs / 2) (plus a 4))) (access_many n m (regs / 2) a)
          ≡ access_all m (cond b (wanted a 4 ∷ many_longs n (regs / 2) (plus a 4)) (many_longs n (regs / 2) a))
      by true p q = ap (first_fault (access m a 4)) p
      by false p q = q

  pub many-answers : (regs a : ℕ) (o : Outcome) → numbered o ≡ 0 → Answers m (many_longs 16 regs a) (taking given m (access_many 16 m regs a) o)
  many-answers regs a o h = number-taking given m (access_many 16 m regs a) o h ∙ ap (λ (x : Result Unit Fault). number_or x 0) (many-all 16 regs a)

-- each number of a list is at most k, so one of them is
abbrev pub all_to : ℕ → List ℕ → Bool
all_to k [] = true
all_to k (x ∷ l) = leb x k && all_to k l

pub at_most : (k n : ℕ) (l : List ℕ) → all_to k l ≡ true → OneOf l n → n ≤ k
at_most k n [] a never = elim never [ ]
at_most k n (x ∷ l) a (inl e) = omega (arith, (iff_le x k).0 ((iff_both (leb x k) (all_to k l)).0 a).0)
at_most k n (x ∷ l) a (inr h) = at_most k n l ((iff_both (leb x k) (all_to k l)).0 a).1 h
