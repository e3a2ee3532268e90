-- The reply to a file by what is read of it, and the first 19 bytes of one, which say its state. Assumes nothing.
use Rattle.std.proofs.Common.{◌≡◌, ℕ, ◌+◌, ◌-◌, ◌≤◌, ◌<◌, Bool, true, false, cond, ◌&&◌, List, length, get_or, take, refl, arith}
use Rattle.std.proofs.lemmas.List.{get_or-take}
use borrow.Author.Tests.{leb-true, eqb-true, le-leb, lt-ltb, le-ltb, eq-eqb}
use lib.Dec.{leb, eqb}
use Rattle.manual.specs.declared.Reply.{Reply}
use Rattle.manual.specs.declared.Reply.TheVariants.{Done, NotAdmitted, WrongVersion, WrongLength}
use Rattle.manual.specs.Memory.{Storage, value_at}
use Rattle.manual.specs.Admitted.{admitted}
use Rattle.manual.specs.Block.{length_at, head_bytes}
use Rattle.manual.specs.Image.{image_memory, image_head, program_at, image_state, image_reply}
use Rattle.memory.specs.MemoryLaws.{value_same, value-one}

-- what the first 19 bytes say
pub head-same : (f : List ℕ) (at n : ℕ) → at + n ≤ program_at → value_at (take program_at f) at n ≡ value_at f at n
head-same f at n h = value_same (take program_at f) f at n (λ j l. get_or-take program_at f (at + j) 0 (omega arith))

pub state-same : (f : List ℕ) → image_state (take program_at f) ≡ image_state f
unfolding image_state
state-same f = rw (head-same f 13 2 (omega arith), head-same f 5 4 (omega arith), head-same f 9 4 (omega arith))

-- ---- the reply

module _ (f : List ℕ) (m : Storage) where
  pub reply-short : length f < head_bytes → image_reply f m ≡ WrongLength
  unfolding image_reply
  reply-short h = rw (lt-ltb _ _ h)

  module _ (h : head_bytes ≤ length f) where
    pub reply-version : eqb (get_or f 0 0) 1 ≡ false → image_reply f m ≡ WrongVersion
    unfolding image_reply
    reply-version v = rw (le-ltb _ _ h, value-one, v)

    module _ (v : get_or f 0 0 ≡ 1) where
      with_length : image_reply f m ≡ cond (leb image_head (value_at f length_at 4) && (leb (value_at f length_at 4) (image_memory + image_head) && (eqb (length f) (head_bytes + value_at f length_at 4) && eqb (length m) image_memory))) (cond (admitted (image_state f)) Done NotAdmitted) WrongLength
      unfolding image_reply
      with_length = rw (le-ltb _ _ h, value-one, eq-eqb _ _ v)

      none : (a b c d : Bool) (x y : Reply) → (a ≡ true → b ≡ true → c ≡ true → d ≡ true → ⊥) → cond (a && (b && (c && d))) x y ≡ y
      none false b c d x y h = refl
      none true false c d x y h = refl
      none true true false d x y h = refl
      none true true true false x y h = refl
      none true true true true x y h = absurd (h refl refl refl refl)

      wrong : (image_head ≤ value_at f length_at 4 → value_at f length_at 4 ≤ image_memory + image_head → length f ≡ head_bytes + value_at f length_at 4 → length m ≡ image_memory → ⊥)
          → image_reply f m ≡ WrongLength
      wrong not = rw with_length (none _ _ _ _ _ _ (λ a b c d. not (leb-true _ _ a) (leb-true _ _ b) (eqb-true _ _ c) (eqb-true _ _ d)))

      pub reply-cut : length f < program_at → image_reply f m ≡ WrongLength
      reply-cut s = wrong (λ a b c d. omega arith)

      module _ (l : ℕ) (s : program_at ≤ length f) (e : l ≡ value_at (take program_at f) length_at 4) where
        same : value_at f length_at 4 ≡ l
        same = rw (e, head-same f 1 4 (omega arith))

        pub reply-length : (l ≡ length f - head_bytes → length f ≤ program_at + image_memory → length m ≡ image_memory → ⊥) → image_reply f m ≡ WrongLength
        reply-length not = wrong (λ a b c d. not (omega (arith, same)) (omega (arith, same)) d)

        pub reply-state : l ≡ length f - head_bytes → length f ≤ program_at + image_memory → length m ≡ image_memory
            → image_reply f m ≡ cond (admitted (image_state (take program_at f))) Done NotAdmitted
        reply-state n k d =
            let low : image_head ≤ value_at f length_at 4 = omega (arith, same) in
            let high : value_at f length_at 4 ≤ image_memory + image_head = omega (arith, same) in
            let all : length f ≡ head_bytes + value_at f length_at 4 = omega (arith, same) in
            rw (with_length, le-leb _ _ low, le-leb _ _ high, eq-eqb _ _ all, eq-eqb _ _ d, state-same)
