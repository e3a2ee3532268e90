-- A stored state is read back: every part of the block of a state, and the state it says. Assumes nothing.
use Rattle.std.specs.Prelude.{ℕ, zero, suc, ◌+◌, ◌*◌, ◌%◌, ◌^◌, ◌≤◌, ◌<◌, ◌≡◌, refl, Bool, true, false, List, [], ◌∷◌, eqb, ltb, length, get_or, take, drop}
use Rattle.std.proofs.Math.Path.{ap}
use Rattle.std.proofs.Common.{◌∙◌, inl, arith, add-one, take_all, drop-cons}
use Rattle.manual.specs.declared.Cpu.{Cpu}
use Rattle.manual.specs.declared.Emac.{Emac}
use Rattle.manual.specs.declared.Reply.TheVariants.{Done}
use Rattle.manual.specs.Word.{bit}
use Rattle.manual.specs.Memory.{value_at, store_at}
use Rattle.manual.specs.Emac.{mode_of, emac_of, acc_of, block_number, block_in_range}
use Rattle.manual.specs.Admitted.{emac_admitted, admitted}
use Rattle.manual.specs.Block.{version_at, length_at, head_bytes, block_bytes, block_rest, registers_at, pc_at, sr_at, other_at, vbr_at, cacr_at, macsr_at, mask_at, acc_at, stopped_at, longs_at, emac_at, state_at, numbers_fit, read_block, headed, with_longs, with_controls, with_accs, with_unit, block_of}
use Rattle.memory.specs.MemoryLaws.{length_store, read-other, read_same}
use Rattle.state.specs.AdmittedLaws.{admitted-emac}
use Rattle.emac.specs.EmacKept.{acc-small, macsr-small}
use Rattle.emac.specs.BlockLaws.{pattern-block, block-below, block-admitted}
use Rattle.block.specs.Typed.{Typed}

-- a store above what is read
above : (m : List ℕ) (a n v at k : ℕ) → at + k ≤ a → value_at (store_at m a n v) at k ≡ value_at m at k
above m a n v at k h = read-other m a n v at k (inl h)

-- ---- the registers

pub length_longs : (left i a : ℕ) (g b : List ℕ) → length (with_longs g i left a b) ≡ length b
unfolding with_longs
length_longs zero i a g b = refl
length_longs (suc left) i a g b =
    length_longs left (i + 1) (a + 4) g (store_at b a 4 (get_or g i 0)) ∙ length_store b a 4 (get_or g i 0)

above-longs : (left i a : ℕ) (g b : List ℕ) (at k : ℕ) → at + k ≤ a → value_at (with_longs g i left a b) at k ≡ value_at b at k
unfolding with_longs
above-longs zero i a g b at k h = refl
above-longs (suc left) i a g b at k h =
    above-longs left (i + 1) (a + 4) g (store_at b a 4 (get_or g i 0)) at k (omega arith) ∙ above b a 4 (get_or g i 0) at k h

longs-back : (left i a : ℕ) (g b : List ℕ) → ((j : ℕ) → get_or g j 0 < 2 ^ 32) → i + left ≤ length g → a + left * 4 ≤ length b
    → longs_at (with_longs g i left a b) left a ≡ take left (drop i g)
unfolding with_longs longs_at
longs-back zero i a g b small h l = refl
longs-back (suc left) i a g b small h l =
    let b' : List ℕ = store_at b a 4 (get_or g i 0) in
    let w : List ℕ = with_longs g (i + 1) left (a + 4) b' in
    let here : value_at w a 4 ≡ get_or g i 0 =
    above-longs left (i + 1) (a + 4) g b' a 4 (omega arith) ∙ read_same b a 4 (get_or g i 0) (omega arith) (small i)
    in
    let rest : longs_at w left (a + 4) ≡ take left (drop (i + 1) g) =
    longs-back left (i + 1) (a + 4) g b' small (omega arith) (omega (arith, length_store b a 4 (get_or g i 0)))
    in
    rw (drop-cons g i 0 (omega arith), here, rest, add-one i)

longs-same : (m m' : List ℕ) (limit : ℕ) → ((at k : ℕ) → at + k ≤ limit → value_at m at k ≡ value_at m' at k)
    → (count a : ℕ) → a + count * 4 ≤ limit → longs_at m count a ≡ longs_at m' count a
unfolding longs_at
longs-same m m' limit same zero a h = refl
longs-same m m' limit same (suc count) a h =
    rw (same a 4 (omega arith), longs-same m m' limit same count (a + 4) (omega arith))

-- ---- the parts

length_headed : length headed ≡ block_bytes
unfolding headed
length_headed = simp length_store

version : value_at headed version_at 1 ≡ 1
unfolding headed
version = above _ length_at 4 block_rest version_at 1 (omega arith) ∙ read_same _ version_at 1 1 (omega arith) (omega arith)

long_field : value_at headed length_at 4 ≡ block_rest
unfolding headed
long_field = read_same _ length_at 4 block_rest (simp length_store (omega arith)) (omega arith)

module _ (s : Cpu) (g : Typed s) (b : List ℕ) (l : length b ≡ block_bytes) where
  length_controls : length (with_controls s b) ≡ block_bytes
  unfolding with_controls
  length_controls = simp length_store l

  above_controls : (at k : ℕ) → at + k ≤ pc_at → value_at (with_controls s b) at k ≡ value_at b at k
  unfolding with_controls
  above_controls at k h =
      above _ cacr_at 4 _ at k (omega arith) ∙ above _ vbr_at 4 _ at k (omega arith) ∙ above _ other_at 4 _ at k (omega arith)
      ∙ above _ sr_at 2 _ at k (omega arith) ∙ above _ pc_at 4 _ at k (omega arith)

  pc-back : value_at (with_controls s b) pc_at 4 ≡ s.pc
  unfolding with_controls
  pc-back =
      above _ cacr_at 4 _ pc_at 4 (omega arith) ∙ above _ vbr_at 4 _ pc_at 4 (omega arith) ∙ above _ other_at 4 _ pc_at 4 (omega arith)
      ∙ above _ sr_at 2 _ pc_at 4 (omega arith) ∙ read_same _ pc_at 4 s.pc (omega arith) g.pc-long

  sr-back : value_at (with_controls s b) sr_at 2 ≡ s.sr
  unfolding with_controls
  sr-back =
      above _ cacr_at 4 _ sr_at 2 (omega arith) ∙ above _ vbr_at 4 _ sr_at 2 (omega arith) ∙ above _ other_at 4 _ sr_at 2 (omega arith)
      ∙ read_same _ sr_at 2 s.sr (simp length_store (omega arith)) g.sr-word

  other-back : value_at (with_controls s b) other_at 4 ≡ s.other
  unfolding with_controls
  other-back =
      above _ cacr_at 4 _ other_at 4 (omega arith) ∙ above _ vbr_at 4 _ other_at 4 (omega arith)
      ∙ read_same _ other_at 4 s.other (simp length_store (omega arith)) g.other-long

  vbr-back : value_at (with_controls s b) vbr_at 4 ≡ s.vbr
  unfolding with_controls
  vbr-back = above _ cacr_at 4 _ vbr_at 4 (omega arith) ∙ read_same _ vbr_at 4 s.vbr (simp length_store (omega arith)) g.vbr-long

  cacr-back : value_at (with_controls s b) cacr_at 4 ≡ s.cacr
  unfolding with_controls
  cacr-back = read_same _ cacr_at 4 s.cacr (simp length_store (omega arith)) g.cacr-long

abbrev number : Emac → ℕ → ℕ
number e i = block_number (mode_of e.macsr) (acc_of e i)

module _ (e : Emac) (h : emac_admitted e ≡ true) (small : e.mask < 2 ^ 32) (b : List ℕ) (l : length b ≡ block_bytes) where
  below : (i : ℕ) → number e i < 2 ^ 64
  below i = block-below (mode_of e.macsr) (acc_of e i)

  length_unit : length (with_unit e b) ≡ block_bytes
  unfolding with_unit with_accs
  length_unit = simp length_store l

  above_accs : (m : List ℕ) (at k : ℕ) → at + k ≤ acc_at 0 → value_at (with_accs e m) at k ≡ value_at m at k
  unfolding with_accs
  above_accs m at k p =
      above _ (acc_at 3) 8 _ at k (omega arith) ∙ above _ (acc_at 2) 8 _ at k (omega arith) ∙ above _ (acc_at 1) 8 _ at k (omega arith) ∙ above _ (acc_at 0) 8 _ at k (omega arith)

  above-unit : (at k : ℕ) → at + k ≤ macsr_at → value_at (with_unit e b) at k ≡ value_at b at k
  unfolding with_unit
  above-unit at k p =
      above_accs _ at k (omega arith) ∙ above _ mask_at 4 _ at k (omega arith) ∙ above _ macsr_at 4 _ at k (omega arith)

  macsr-back : value_at (with_unit e b) macsr_at 4 ≡ e.macsr
  unfolding with_unit
  macsr-back =
      above_accs _ macsr_at 4 (omega arith) ∙ above _ mask_at 4 _ macsr_at 4 (omega arith)
      ∙ read_same _ macsr_at 4 e.macsr (omega arith) (omega (arith, macsr-small e h))

  mask-back : value_at (with_unit e b) mask_at 4 ≡ e.mask
  unfolding with_unit
  mask-back = above_accs _ mask_at 4 (omega arith) ∙ read_same _ mask_at 4 e.mask (simp length_store (omega arith)) small

  acc0_back : value_at (with_unit e b) (acc_at 0) 8 ≡ number e 0
  unfolding with_unit with_accs
  acc0_back =
      above _ (acc_at 3) 8 _ (acc_at 0) 8 (omega arith) ∙ above _ (acc_at 2) 8 _ (acc_at 0) 8 (omega arith) ∙ above _ (acc_at 1) 8 _ (acc_at 0) 8 (omega arith)
      ∙ read_same _ (acc_at 0) 8 (number e 0) (simp length_store (omega arith)) (below 0)

  acc1_back : value_at (with_unit e b) (acc_at 1) 8 ≡ number e 1
  unfolding with_unit with_accs
  acc1_back =
      above _ (acc_at 3) 8 _ (acc_at 1) 8 (omega arith) ∙ above _ (acc_at 2) 8 _ (acc_at 1) 8 (omega arith)
      ∙ read_same _ (acc_at 1) 8 (number e 1) (simp length_store (omega arith)) (below 1)

  acc2_back : value_at (with_unit e b) (acc_at 2) 8 ≡ number e 2
  unfolding with_unit with_accs
  acc2_back = above _ (acc_at 3) 8 _ (acc_at 2) 8 (omega arith) ∙ read_same _ (acc_at 2) 8 (number e 2) (simp length_store (omega arith)) (below 2)

  acc3_back : value_at (with_unit e b) (acc_at 3) 8 ≡ number e 3
  unfolding with_unit with_accs
  acc3_back = read_same _ (acc_at 3) 8 (number e 3) (simp length_store (omega arith)) (below 3)

-- ---- the state

four : (l : List ℕ) → length l ≡ 4 → get_or l 0 0 ∷ get_or l 1 0 ∷ get_or l 2 0 ∷ get_or l 3 0 ∷ [] ≡ l
four [] h = absurd (omega arith)
four (a ∷ []) h = absurd (omega arith)
four (a ∷ b ∷ []) h = absurd (omega arith)
four (a ∷ b ∷ c ∷ []) h = absurd (omega arith)
four (a ∷ b ∷ c ∷ d ∷ []) h = refl
four (a ∷ b ∷ c ∷ d ∷ x ∷ l) h = absurd (omega arith)

same-unit : (e : Emac) → length e.acc ≡ 4
    → emac_of e.macsr e.mask (acc_of e 0 ∷ acc_of e 1 ∷ acc_of e 2 ∷ acc_of e 3 ∷ []) ≡ e
unfolding acc_of
same-unit e h = rw (four e.acc h)

bit_is : (b : Bool) → eqb (bit b) 1 ≡ b
bit_is true = refl
bit_is false = refl

bit-fits : (b : Bool) → ltb (bit b) 2 ≡ true
bit-fits true = refl
bit-fits false = refl

bit-small : (b : Bool) → bit b < 256
bit-small true = omega arith
bit-small false = omega arith

module _ (s : Cpu) (h : admitted s ≡ true) (g : Typed s) where
  unit : emac_admitted s.emac ≡ true
  unit = admitted-emac s h

  abbrev registered : List ℕ
  registered = with_longs s.r 0 16 registers_at headed

  abbrev controlled : List ℕ
  controlled = with_controls s registered

  abbrev whole : List ℕ
  whole = with_unit s.emac controlled

  length_registered : length registered ≡ block_bytes
  length_registered = length_longs 16 0 registers_at s.r headed ∙ length_headed

  length_controlled : length controlled ≡ block_bytes
  length_controlled = length_controls s g registered length_registered

  length_whole : length whole ≡ block_bytes
  length_whole = length_unit s.emac unit g.mask-long controlled length_controlled

  pub length_block : length (block_of s) ≡ block_bytes
  unfolding block_of
  length_block = length_store whole stopped_at 1 (bit s.stopped) ∙ length_whole

  from-unit : (at k : ℕ) → at + k ≤ stopped_at → value_at (block_of s) at k ≡ value_at whole at k
  unfolding block_of
  from-unit at k p = above whole stopped_at 1 (bit s.stopped) at k p

  from_controls : (at k : ℕ) → at + k ≤ macsr_at → value_at (block_of s) at k ≡ value_at controlled at k
  from_controls at k p = from-unit at k (omega arith) ∙ above-unit s.emac unit g.mask-long controlled length_controlled at k p

  from-registers : (at k : ℕ) → at + k ≤ pc_at → value_at (block_of s) at k ≡ value_at registered at k
  from-registers at k p = from_controls at k (omega arith) ∙ above_controls s g registered length_registered at k p

  from-head : (at k : ℕ) → at + k ≤ head_bytes → value_at (block_of s) at k ≡ value_at headed at k
  from-head at k p = from-registers at k (omega arith) ∙ above-longs 16 0 registers_at s.r headed at k p

  registers-back : longs_at (block_of s) 16 registers_at ≡ s.r
  registers-back =
      longs-same (block_of s) registered pc_at from-registers 16 registers_at (omega arith)
      ∙ longs-back 16 0 registers_at s.r headed g.registers (omega (arith, g.sixteen)) (omega (arith, length_headed))
      ∙ take_all 16 s.r (omega (arith, g.sixteen))

  stopped_back : value_at (block_of s) stopped_at 1 ≡ bit s.stopped
  unfolding block_of
  stopped_back = read_same whole stopped_at 1 (bit s.stopped) (omega (arith, length_whole)) (bit-small s.stopped)

  read-macsr : value_at (block_of s) macsr_at 4 ≡ s.emac.macsr
  read-macsr = from-unit macsr_at 4 (omega arith) ∙ macsr-back s.emac unit g.mask-long controlled length_controlled

  read_acc0 : value_at (block_of s) (acc_at 0) 8 ≡ number s.emac 0
  read_acc0 = from-unit (acc_at 0) 8 (omega arith) ∙ acc0_back s.emac unit g.mask-long controlled length_controlled

  read_acc1 : value_at (block_of s) (acc_at 1) 8 ≡ number s.emac 1
  read_acc1 = from-unit (acc_at 1) 8 (omega arith) ∙ acc1_back s.emac unit g.mask-long controlled length_controlled

  read_acc2 : value_at (block_of s) (acc_at 2) 8 ≡ number s.emac 2
  read_acc2 = from-unit (acc_at 2) 8 (omega arith) ∙ acc2_back s.emac unit g.mask-long controlled length_controlled

  read_acc3 : value_at (block_of s) (acc_at 3) 8 ≡ number s.emac 3
  read_acc3 = from-unit (acc_at 3) 8 (omega arith) ∙ acc3_back s.emac unit g.mask-long controlled length_controlled

  pattern_of_lem : (i : ℕ) → number s.emac i % 2 ^ 48 ≡ acc_of s.emac i
  pattern_of_lem i = pattern-block (mode_of s.emac.macsr) (acc_of s.emac i) (acc-small s.emac unit i)

  fits_of : (i : ℕ) → block_in_range (mode_of s.emac.macsr) (number s.emac i) ≡ true
  fits_of i = block-admitted (mode_of s.emac.macsr) (acc_of s.emac i)

  pub unit-back : emac_at (block_of s) ≡ s.emac
  unfolding emac_at
  unit-back =
      rw (
        read-macsr,
        from-unit mask_at 4 (omega arith) ∙ mask-back s.emac unit g.mask-long controlled length_controlled,
        ap (λ (n : ℕ). n % 2 ^ 48) read_acc0 ∙ pattern_of_lem 0,
        ap (λ (n : ℕ). n % 2 ^ 48) read_acc1 ∙ pattern_of_lem 1,
        ap (λ (n : ℕ). n % 2 ^ 48) read_acc2 ∙ pattern_of_lem 2,
        ap (λ (n : ℕ). n % 2 ^ 48) read_acc3 ∙ pattern_of_lem 3,
      )
      (same-unit s.emac g.four)

  pub state-back : state_at (block_of s) ≡ s
  unfolding state_at
  state-back =
      rw (
        registers-back,
        from_controls pc_at 4 (omega arith) ∙ pc-back s g registered length_registered,
        from_controls sr_at 2 (omega arith) ∙ sr-back s g registered length_registered,
        from_controls other_at 4 (omega arith) ∙ other-back s g registered length_registered,
        from_controls vbr_at 4 (omega arith) ∙ vbr-back s g registered length_registered,
        from_controls cacr_at 4 (omega arith) ∙ cacr-back s g registered length_registered,
        unit-back,
        stopped_back,
        bit_is s.stopped,
      )

  numbers_fit_lem : numbers_fit (block_of s) ≡ true
  unfolding numbers_fit
  numbers_fit_lem =
      rw (
        read-macsr,
        read_acc0,
        read_acc1,
        read_acc2,
        read_acc3,
        stopped_back,
        fits_of 0,
        fits_of 1,
        fits_of 2,
        fits_of 3,
        bit-fits s.stopped,
      )

  -- a stored state is read back
  pub read_back : read_block (block_of s) ≡ record { reply = Done; cpu = s }
  unfolding read_block
  read_back =
      rw (
        length_block,
        from-head version_at 1 (omega arith) ∙ version,
        from-head length_at 4 (omega arith) ∙ long_field,
        state-back,
        h,
        numbers_fit_lem,
      )
