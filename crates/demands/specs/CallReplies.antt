-- When the calls on the state alone, on blocks and on files give each reply. Assumes nothing.
use Rattle.std.specs.Prelude.{ℕ, ◌+◌, ◌≤◌, ◌<◌, ◌≡◌, Bool, cond, ◌&&◌, List, [], ◌∷◌, ◌↔◌, ◌⊎◌, ltb, leb, length}
use Rattle.std.proofs.Math.Path.{refl}
use Rattle.std.proofs.Common.{◌∙◌, ⊎_elim, inl, inr, arith}
use Rattle.std.proofs.Math.Bool.{true, false}
use Rattle.std.proofs.lemmas.Bool.{false≢true}
use Rattle.std.proofs.Math.Dec.{eqb}
use Rattle.manual.specs.declared.Cpu.{Cpu}
use Rattle.manual.specs.declared.Emac.{Emac}
use Rattle.manual.specs.declared.Reply.TheVariants.{Done, NotAdmitted, OutOfRange, WrongVersion, WrongLength}
use Rattle.manual.specs.declared.Answer.{Answer}
use Rattle.manual.specs.declared.Told.{Told}
use Rattle.manual.specs.Memory.{Storage, value_at}
use Rattle.manual.specs.Reply.{number_of, is_done}
use Rattle.manual.specs.Admitted.{admitted}
use Rattle.manual.specs.Exceptions.{set_sr, set_sr_call, told}
use Rattle.manual.specs.Emac.{set_macsr}
use Rattle.manual.specs.EmacCalls.{acc_told, done_with, acc_changed, acc_get_call, acc_set_call, acc_phys_call, set_acc_phys_call, set_macsr_call}
use Rattle.manual.specs.Block.{says_admitted, state_at, not_read, read_block, block_of, Stored, store_block}
use Rattle.manual.specs.Image.{image_memory, image_state, image_reply, image_budget, image_bytes, Image, image, not_loaded, load_image}
use Rattle.demands.specs.ReplyLaws as laws
use Rattle.demands.specs.Exact.{OneOf, BlockForm, OutOfRanges}
use Rattle.demands.specs.BlockRanges.{of_block, in_ranges}

-- ---- the calls on the state alone

pub set_sr-number : (s : Cpu) (v : ℕ) → number_of (set_sr_call s v).reply ≡ cond (admitted s) 0 2
unfolding set_sr_call
set_sr-number s v = by (admitted s) (set_sr v s)
  where
    by : (b : Bool) (t : Cpu) → number_of (cond {A = Answer} b (record { reply = Done; cpu = t }) (record { reply = NotAdmitted; cpu = s })).reply ≡ cond b 0 2
    by true t = refl
    by false t = refl

pub told-number : (s : Cpu) (v : ℕ) → number_of (told s v).reply ≡ cond (admitted s) 0 2
unfolding told
told-number s v = by (admitted s)
  where
    by : (b : Bool) → number_of (cond {A = Told} b (record { reply = Done; value = v }) (record { reply = NotAdmitted; value = 0 })).reply ≡ cond b 0 2
    by true = refl
    by false = refl

abbrev pub pick : Bool → ℕ → ℕ → ℕ
pick = cond

-- a: the state or the unit is admitted
pub is_0 : (a : Bool) → (pick a 0 2 ≡ 0) ↔ (a ≡ true)
is_0 a = laws.here 0 2 (λ h. omega arith) a

pub not_2 : (a : Bool) → (pick a 0 2 ≡ 2) ↔ (a ≡ false)
not_2 a = laws.here_else 2 0 (λ h. omega arith) a

pub zero_or_2 : (a : Bool) → OneOf (0 ∷ 2 ∷ []) (pick a 0 2)
zero_or_2 a = laws.either_of (0 ∷ 2 ∷ []) a 0 2 (inl refl) (inr (inl refl))

-- of an accumulator: admitted, and its number below 4
abbrev pub acc_tests : Bool → ℕ → ℕ
acc_tests a i = pick a (pick (ltb i 4) 0 6) 2

pub acc_0 : (a : Bool) (i : ℕ) → (acc_tests a i ≡ 0) ↔ ((a ≡ true) × (i < 4))
acc_0 a i =
    laws.iff_trans (laws.later_else 0 (pick (ltb i 4) 0 6) 2 (λ h. omega arith) a)
    (laws.iff_and laws.iff_same (laws.iff_trans (laws.here 0 6 (λ h. omega arith) (ltb i 4)) (laws.iff_lt i 4)))

pub acc_2 : (a : Bool) (i : ℕ) → (acc_tests a i ≡ 2) ↔ (a ≡ false)
acc_2 a i = laws.here_else 2 (pick (ltb i 4) 0 6) (laws.neither (ltb i 4) 0 6 2 (λ h. omega arith) (λ h. omega arith)) a

pub acc_6 : (a : Bool) (i : ℕ) → (acc_tests a i ≡ 6) ↔ ((a ≡ true) × (4 ≤ i))
acc_6 a i =
    laws.iff_trans (laws.later_else 6 (pick (ltb i 4) 0 6) 2 (λ h. omega arith) a)
    (laws.iff_and laws.iff_same (laws.iff_trans (laws.here_else 6 0 (λ h. omega arith) (ltb i 4)) (laws.iff_not_lt i 4)))

pub acc_of_lem : (a : Bool) (i : ℕ) → OneOf (0 ∷ 2 ∷ 6 ∷ []) (acc_tests a i)
acc_of_lem a i =
    let l : List ℕ = 0 ∷ 2 ∷ 6 ∷ [] in
    laws.either_of l a _ 2 (laws.either_of l (ltb i 4) 0 6 (inl refl) (inr (inr (inl refl)))) (inr (inl refl))

acc-told : (s : Cpu) (i v : ℕ) → number_of (acc_told s i v).reply ≡ acc_tests (admitted s) i
acc-told s i v = by (admitted s) (ltb i 4)
  where
    by : (a b : Bool)
        → number_of (cond {A = Told} a (cond b (record { reply = Done; value = v }) (record { reply = OutOfRange; value = 0 })) (record { reply = NotAdmitted; value = 0 })).reply ≡ pick a (pick b 0 6) 2
    by true true = refl
    by true false = refl
    by false b = refl

acc-changed : (s : Cpu) (i : ℕ) (e : Emac) → number_of (acc_changed s i e).reply ≡ acc_tests (admitted s) i
acc-changed s i e = by (admitted s) (ltb i 4)
  where
    by : (a b : Bool)
        → number_of (cond {A = Answer} a (cond b (done_with e s) (record { reply = OutOfRange; cpu = s })) (record { reply = NotAdmitted; cpu = s })).reply ≡ pick a (pick b 0 6) 2
    by true true = refl
    by true false = refl
    by false b = refl

pub acc_get_number : (s : Cpu) (i : ℕ) → number_of (acc_get_call s i).reply ≡ acc_tests (admitted s) i
unfolding acc_get_call
acc_get_number s i = acc-told s i _

pub acc_phys_number : (s : Cpu) (i : ℕ) → number_of (acc_phys_call s i).reply ≡ acc_tests (admitted s) i
unfolding acc_phys_call
acc_phys_number s i = acc-told s i _

pub acc_set_number : (s : Cpu) (i v : ℕ) → number_of (acc_set_call s i v).reply ≡ acc_tests (admitted s) i
unfolding acc_set_call
acc_set_number s i v = acc-changed s i _

pub set_acc_phys_number : (s : Cpu) (i acc ext : ℕ) → number_of (set_acc_phys_call s i acc ext).reply ≡ acc_tests (admitted s) i
unfolding set_acc_phys_call
set_acc_phys_number s i acc ext = acc-changed s i _

pub set_macsr-number : (s : Cpu) (v : ℕ) → number_of (set_macsr_call s v).reply ≡ pick (admitted s) 0 2
unfolding set_macsr_call
set_macsr-number s v = by (admitted s)
  where
    by : (b : Bool) → number_of (cond {A = Answer} b (done_with (set_macsr s.emac v) s) (record { reply = NotAdmitted; cpu = s })).reply ≡ pick b 0 2
    by true = refl
    by false = refl

-- ---- blocks and files: four tests

abbrev four : Bool → Bool → Bool → Bool → ℕ
four a b c d = cond a 9 (cond b (cond c (cond d 0 2) 9) 8)

module _ (a b c d : Bool) where
  inner_9 : (pick b (pick c (pick d 0 2) 9) 8 ≡ 9) ↔ ((b ≡ true) × (c ≡ false))
  inner_9 =
      laws.iff_trans (laws.later_else 9 (cond c (cond d 0 2) 9) 8 (λ h. omega arith) b)
      (laws.iff_and laws.iff_same (laws.here_else 9 (cond d 0 2) (laws.neither d 0 2 9 (λ h. omega arith) (λ h. omega arith)) c))

  four_9 : (four a b c d ≡ 9) ↔ ((a ≡ true) ⊎ ((a ≡ false) × ((b ≡ true) × (c ≡ false))))
  four_9 = by a
    where
      by : (a : Bool) → (four a b c d ≡ 9) ↔ ((a ≡ true) ⊎ ((a ≡ false) × ((b ≡ true) × (c ≡ false))))
      by true = (λ h. inl refl, λ h. refl)
      by false = (λ h. inr (refl, inner_9.0 h), ⊎_elim (λ h. absurd (false≢true h)) (λ h. inner_9.1 h.1))

  four_8 : (four a b c d ≡ 8) ↔ ((a ≡ false) × (b ≡ false))
  four_8 =
      laws.iff_trans (laws.later 8 (cond b (cond c (cond d 0 2) 9) 8) 9 (λ h. omega arith) a)
      (laws.iff_and laws.iff_same
      (laws.here_else 8 (cond c (cond d 0 2) 9) (laws.neither c (cond d 0 2) 9 8 (laws.neither d 0 2 8 (λ h. omega arith) (λ h. omega arith)) (λ h. omega arith)) b))

  -- all but the last test hold
  four-last : (k : ℕ) → (9 ≡ k → ⊥) → (8 ≡ k → ⊥) → (four a b c d ≡ k) ↔ ((a ≡ false) × ((b ≡ true) × ((c ≡ true) × (pick d 0 2 ≡ k))))
  four-last k n9 n8 =
      laws.iff_trans (laws.later k (cond b (cond c (cond d 0 2) 9) 8) 9 n9 a)
      (laws.iff_and laws.iff_same
      (laws.iff_trans (laws.later_else k (cond c (cond d 0 2) 9) 8 n8 b) (laws.iff_and laws.iff_same (laws.later_else k (cond d 0 2) 9 n9 c))))

  four_2 : (four a b c d ≡ 2) ↔ ((a ≡ false) × ((b ≡ true) × ((c ≡ true) × (d ≡ false))))
  four_2 =
      laws.iff_trans (four-last 2 (λ h. omega arith) (λ h. omega arith)) (laws.iff_and laws.iff_same (laws.iff_and laws.iff_same (laws.iff_and laws.iff_same (not_2 d))))

  four_of : OneOf (0 ∷ 2 ∷ 8 ∷ 9 ∷ []) (four a b c d)
  four_of =
      let l : List ℕ = 0 ∷ 2 ∷ 8 ∷ 9 ∷ [] in
      let nine : OneOf l 9 = inr (inr (inr (inl refl))) in
      laws.either_of l a 9 _ nine
      (laws.either_of l b _ 8 (laws.either_of l c _ 9 (laws.either_of l d 0 2 (inl refl) (inr (inl refl))) nine) (inr (inr (inl refl))))

module _ (b : List ℕ) where
  read_number : number_of (read_block b).reply ≡ four (ltb (length b) 5) (eqb (value_at b 0 1) 1) (eqb (length b) 128 && eqb (value_at b 1 4) 123) (says_admitted b)
  unfolding read_block
  read_number = by (ltb (length b) 5) (eqb (value_at b 0 1) 1) (eqb (length b) 128 && eqb (value_at b 1 4) 123) (says_admitted b)
    where
      by : (x y z w : Bool)
          → number_of (cond {A = Answer} x (not_read WrongLength) (cond y (cond z (cond w (record { reply = Done; cpu = state_at b }) (not_read NotAdmitted)) (not_read WrongLength)) (not_read WrongVersion))).reply ≡ four x y z w
      by true y z w = refl
      by false true true true = refl
      by false true true false = refl
      by false true false w = refl
      by false false z w = refl

  right_length : ((eqb (length b) 128 && eqb (value_at b 1 4) 123) ≡ true) ↔ ((length b ≡ 128) × (value_at b 1 4 ≡ 123))
  right_length = laws.iff_trans (laws.iff_both (eqb (length b) 128) (eqb (value_at b 1 4) 123)) (laws.iff_and (laws.iff_eq (length b) 128) (laws.iff_eq (value_at b 1 4) 123))

  pub of_read_9 : (number_of (read_block b).reply ≡ 9) ↔ ((length b < 5) ⊎ ((5 ≤ length b) × ((value_at b 0 1 ≡ 1) × ((length b ≡ 128) × (value_at b 1 4 ≡ 123) → ⊥))))
  of_read_9 =
      rw read_number
      (laws.iff_trans (four_9 (ltb (length b) 5) (eqb (value_at b 0 1) 1) (eqb (length b) 128 && eqb (value_at b 1 4) 123) (says_admitted b))
      (laws.iff_or (laws.iff_lt (length b) 5)
      (laws.iff_and (laws.iff_not_lt (length b) 5) (laws.iff_and (laws.iff_eq (value_at b 0 1) 1) (laws.iff_not _ right_length)))))

  pub of_read_8 : (number_of (read_block b).reply ≡ 8) ↔ ((5 ≤ length b) × (value_at b 0 1 ≡ 1 → ⊥))
  of_read_8 =
      rw read_number
      (laws.iff_trans (four_8 (ltb (length b) 5) (eqb (value_at b 0 1) 1) (eqb (length b) 128 && eqb (value_at b 1 4) 123) (says_admitted b))
      (laws.iff_and (laws.iff_not_lt (length b) 5) (laws.iff_not_eq (value_at b 0 1) 1)))

  -- the block has the right form, and the last test is left
  of_read : (k : ℕ) → (9 ≡ k → ⊥) → (8 ≡ k → ⊥) → (number_of (read_block b).reply ≡ k) ↔ (BlockForm b × (pick (says_admitted b) 0 2 ≡ k))
  of_read k n9 n8 =
      rw read_number
      (laws.iff_trans (four-last (ltb (length b) 5) (eqb (value_at b 0 1) 1) (eqb (length b) 128 && eqb (value_at b 1 4) 123) (says_admitted b) k n9 n8)
      (laws.iff_trans
      (laws.iff_and (laws.iff_not_lt (length b) 5) (laws.iff_and (laws.iff_eq (value_at b 0 1) 1) (laws.iff_and right_length laws.iff_same)))
      (λ h. ((h.1.1.0.0, h.1.0, h.1.1.0.1), h.1.1.1), λ h. (omega (arith, h.0.0), (h.0.1, ((h.0.0, h.0.2), h.1))))))

  pub of_read_2 : (number_of (read_block b).reply ≡ 2) ↔ (BlockForm b × OutOfRanges b)
  of_read_2 = laws.iff_trans (of_read 2 (λ h. omega arith) (λ h. omega arith)) (laws.iff_and laws.iff_same (laws.iff_trans (not_2 (says_admitted b)) (of_block b)))

  pub of_read_0 : (number_of (read_block b).reply ≡ 0) ↔ (BlockForm b × (OutOfRanges b → ⊥))
  of_read_0 = laws.iff_trans (of_read 0 (λ h. omega arith) (λ h. omega arith)) (laws.iff_and laws.iff_same (laws.iff_trans (is_0 (says_admitted b)) (in_ranges b)))

  pub read_of : OneOf (0 ∷ 2 ∷ 8 ∷ 9 ∷ []) (number_of (read_block b).reply)
  read_of = laws.same_of (0 ∷ 2 ∷ 8 ∷ 9 ∷ []) read_number (four_of (ltb (length b) 5) (eqb (value_at b 0 1) 1) (eqb (length b) 128 && eqb (value_at b 1 4) 123) (says_admitted b))

  store-number : (s : Cpu) → number_of (store_block s b).reply ≡ pick (eqb (length b) 128) (pick (admitted s) 0 2) 9
  unfolding store_block
  store-number s = by (eqb (length b) 128) (admitted s)
    where
      by : (x y : Bool)
          → number_of (cond {A = Stored} x (cond y (record { reply = Done; bytes = block_of s }) (record { reply = NotAdmitted; bytes = b })) (record { reply = WrongLength; bytes = b })).reply ≡ pick x (pick y 0 2) 9
      by true true = refl
      by true false = refl
      by false y = refl

  pub of_store_9 : (s : Cpu) → (number_of (store_block s b).reply ≡ 9) ↔ (length b ≡ 128 → ⊥)
  of_store_9 s =
      rw (store-number s)
      (laws.iff_trans (laws.here_else 9 (pick (admitted s) 0 2) (laws.neither (admitted s) 0 2 9 (λ h. omega arith) (λ h. omega arith)) (eqb (length b) 128)) (laws.iff_not_eq (length b) 128))

  pub of_store_2 : (s : Cpu) → (number_of (store_block s b).reply ≡ 2) ↔ ((length b ≡ 128) × (admitted s ≡ false))
  of_store_2 s =
      rw (store-number s)
      (laws.iff_trans (laws.later_else 2 (pick (admitted s) 0 2) 9 (λ h. omega arith) (eqb (length b) 128)) (laws.iff_and (laws.iff_eq (length b) 128) (not_2 (admitted s))))

  pub store_of : (s : Cpu) → OneOf (0 ∷ 2 ∷ 9 ∷ []) (number_of (store_block s b).reply)
  store_of s =
      let l : List ℕ = 0 ∷ 2 ∷ 9 ∷ [] in
      laws.same_of l (store-number s)
      (laws.either_of l (eqb (length b) 128) _ 9 (laws.either_of l (admitted s) 0 2 (inl refl) (inr (inl refl))) (inr (inr (inl refl))))

-- a file is read into a memory
module _ (f : List ℕ) (m : Storage) where
  abbrev says : ℕ
  says = value_at f 1 4

  abbrev matches : Bool
  matches = leb 14 says && (leb says (image_memory + 14) && (eqb (length f) (5 + says) && eqb (length m) image_memory))

  load-number : number_of (load_image f m).reply ≡ four (ltb (length f) 5) (eqb (value_at f 0 1) 1) matches (admitted (image_state f))
  unfolding load_image image_reply
  load-number = same (is_done (image_reply f m)) ∙ by (ltb (length f) 5) (eqb (value_at f 0 1) 1) matches (admitted (image_state f))
    where
      same : (b : Bool) → number_of (cond {A = Image} b (image (image_reply f m) (image_budget f) (image_state f) (image_bytes f)) (not_loaded (image_reply f m) m)).reply ≡ number_of (image_reply f m)
      same true = refl
      same false = refl

      by : (x y z w : Bool) → number_of (cond x WrongLength (cond y (cond z (cond w Done NotAdmitted) WrongLength) WrongVersion)) ≡ four x y z w
      by true y z w = refl
      by false true true true = refl
      by false true true false = refl
      by false true false w = refl
      by false false z w = refl

  matching : (matches ≡ true) ↔ ((14 ≤ says) × ((says ≤ 49166) × ((length f ≡ 5 + says) × (length m ≡ 49152))))
  matching =
      laws.iff_trans (laws.iff_both (leb 14 says) (leb says 49166 && (eqb (length f) (5 + says) && eqb (length m) 49152)))
      (laws.iff_and (laws.iff_le 14 says)
      (laws.iff_trans (laws.iff_both (leb says 49166) (eqb (length f) (5 + says) && eqb (length m) 49152))
      (laws.iff_and (laws.iff_le says 49166)
      (laws.iff_trans (laws.iff_both (eqb (length f) (5 + says)) (eqb (length m) 49152)) (laws.iff_and (laws.iff_eq (length f) (5 + says)) (laws.iff_eq (length m) 49152))))))

  pub of_load_9 : (number_of (load_image f m).reply ≡ 9)
      ↔ ((length f < 5) ⊎ ((5 ≤ length f) × ((value_at f 0 1 ≡ 1) × ((14 ≤ says) × ((says ≤ 49166) × ((length f ≡ 5 + says) × (length m ≡ 49152))) → ⊥))))
  of_load_9 =
      rw load-number
      (laws.iff_trans (four_9 (ltb (length f) 5) (eqb (value_at f 0 1) 1) matches (admitted (image_state f)))
      (laws.iff_or (laws.iff_lt (length f) 5)
      (laws.iff_and (laws.iff_not_lt (length f) 5) (laws.iff_and (laws.iff_eq (value_at f 0 1) 1) (laws.iff_not matches matching)))))

  pub of_load_8 : (number_of (load_image f m).reply ≡ 8) ↔ ((5 ≤ length f) × (value_at f 0 1 ≡ 1 → ⊥))
  of_load_8 =
      rw load-number
      (laws.iff_trans (four_8 (ltb (length f) 5) (eqb (value_at f 0 1) 1) matches (admitted (image_state f)))
      (laws.iff_and (laws.iff_not_lt (length f) 5) (laws.iff_not_eq (value_at f 0 1) 1)))

  pub of_load_2 : (number_of (load_image f m).reply ≡ 2)
      ↔ ((5 ≤ length f) × ((value_at f 0 1 ≡ 1) × (((14 ≤ says) × ((says ≤ 49166) × ((length f ≡ 5 + says) × (length m ≡ 49152)))) × (admitted (image_state f) ≡ false))))
  of_load_2 =
      rw load-number
      (laws.iff_trans (four_2 (ltb (length f) 5) (eqb (value_at f 0 1) 1) matches (admitted (image_state f)))
      (laws.iff_and (laws.iff_not_lt (length f) 5) (laws.iff_and (laws.iff_eq (value_at f 0 1) 1) (laws.iff_and matching laws.iff_same))))

  pub load_of : OneOf (0 ∷ 2 ∷ 8 ∷ 9 ∷ []) (number_of (load_image f m).reply)
  load_of = laws.same_of (0 ∷ 2 ∷ 8 ∷ 9 ∷ []) load-number (four_of (ltb (length f) 5) (eqb (value_at f 0 1) 1) matches (admitted (image_state f)))
