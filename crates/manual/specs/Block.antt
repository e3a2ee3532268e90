-- The state block: 128 bytes that hold a state, big-endian. Its first byte is the version, 1, and the next four say how many
-- bytes follow them, 123.
use Rattle.std.specs.Prelude.{ℕ, zero, suc, ◌+◌, ◌*◌, ◌%◌, ◌^◌}
use mathlib.Core.{Bool.Bool, Bool.false, Bool.cond, Bool.◌&&◌, List.List, List.[], List.◌∷◌}
use lib.{Dec.eqb, Dec.ltb, ListN.length, ListN.get_or, ListN.replicate}
use Rattle.manual.specs.declared.{Cpu.Cpu, Emac.Emac, Mode.Mode, Reply.Reply, Reply.TheVariants.Done, Reply.TheVariants.NotAdmitted, Reply.TheVariants.WrongVersion, Reply.TheVariants.WrongLength, Answer.Answer}
use Rattle.manual.specs.{Word.bit, Memory.value_at, Memory.store_at, Emac.mode_of, Emac.acc_of, Emac.block_number, Emac.block_in_range, Admitted.admitted}

-- the fresh state: all 0, but MASK all ones
unfoldable pub fresh : Cpu
fresh =
    record {
      r = replicate 16 0;
      pc = 0;
      sr = 0;
      other = 0;
      vbr = 0;
      cacr = 0;
      emac = record { macsr = 0; mask = 0xFFFF_FFFF; acc = replicate 4 0 };
      stopped = false;
    }

-- ---- where each part lies

-- the version, and how many bytes follow these five
abbrev pub version_at : ℕ
version_at = 0

abbrev pub length_at : ℕ
length_at = 1

abbrev pub head_bytes : ℕ
head_bytes = 5

abbrev pub block_bytes : ℕ
block_bytes = 128

abbrev pub block_rest : ℕ
block_rest = 123

-- D0 to D7 and A0 to A7, a long each
abbrev pub registers_at : ℕ
registers_at = 5

abbrev pub pc_at : ℕ
pc_at = 69

abbrev pub sr_at : ℕ
sr_at = 73

abbrev pub other_at : ℕ
other_at = 75

abbrev pub vbr_at : ℕ
vbr_at = 79

abbrev pub cacr_at : ℕ
cacr_at = 83

abbrev pub macsr_at : ℕ
macsr_at = 87

abbrev pub mask_at : ℕ
mask_at = 91

-- the accumulators, eight bytes each
abbrev pub acc_at : ℕ → ℕ
acc_at i = 95 + i * 8

abbrev pub stopped_at : ℕ
stopped_at = 127

-- ---- reading

-- `count` longs from a on
unfoldable pub longs_at : List ℕ → ℕ → ℕ → List ℕ
longs_at b zero a = []
longs_at b (suc count) a = value_at b a 4 ∷ longs_at b count (a + 4)

abbrev pub acc_number : List ℕ → ℕ → ℕ
acc_number b i = value_at b (acc_at i) 8

-- the unit that the block's bytes say; an accumulator's pattern is the 48 low bits of its number
unfoldable pub emac_at : List ℕ → Emac
emac_at b =
    record {
      macsr = value_at b macsr_at 4;
      mask = value_at b mask_at 4;
      acc = acc_number b 0 % 2 ^ 48 ∷ acc_number b 1 % 2 ^ 48 ∷ acc_number b 2 % 2 ^ 48 ∷ acc_number b 3 % 2 ^ 48 ∷ [];
    }

-- the state that they say
unfoldable pub state_at : List ℕ → Cpu
state_at b =
    record {
      r = longs_at b 16 registers_at;
      pc = value_at b pc_at 4;
      sr = value_at b sr_at 2;
      other = value_at b other_at 4;
      vbr = value_at b vbr_at 4;
      cacr = value_at b cacr_at 4;
      emac = emac_at b;
      stopped = eqb (value_at b stopped_at 1) 1;
    }

-- whether each accumulator's number is in the range of the mode, and the last byte is 0 or 1
unfoldable pub numbers_fit : List ℕ → Bool
numbers_fit b =
    let k : Mode = mode_of (value_at b macsr_at 4) in
    block_in_range k (acc_number b 0)
    && (block_in_range k (acc_number b 1)
    && (block_in_range k (acc_number b 2)
    && (block_in_range k (acc_number b 3) && ltb (value_at b stopped_at 1) 2)))

-- whether they say an admitted state
abbrev pub says_admitted : List ℕ → Bool
says_admitted b = admitted (state_at b) && numbers_fit b

-- a refused read gives the fresh state
abbrev pub not_read : Reply → Answer
not_read n = record { reply = n; cpu = fresh }

unfoldable pub read_block : List ℕ → Answer
read_block b =
    cond (ltb (length b) head_bytes) (not_read WrongLength)
    (cond (eqb (value_at b version_at 1) 1)
    (cond (eqb (length b) block_bytes && eqb (value_at b length_at 4) block_rest)
    (cond (says_admitted b) (record { reply = Done; cpu = state_at b }) (not_read NotAdmitted))
    (not_read WrongLength))
    (not_read WrongVersion))

-- ---- storing

-- the version and the length, and nothing else yet
unfoldable pub headed : List ℕ
headed = store_at (store_at (replicate block_bytes 0) version_at 1 1) length_at 4 block_rest

-- longs one after the other from a on
unfoldable pub with_longs : List ℕ → ℕ → ℕ → ℕ → List ℕ → List ℕ
with_longs g i zero a b = b
with_longs g i (suc left) a b = with_longs g (i + 1) left (a + 4) (store_at b a 4 (get_or g i 0))

unfoldable pub with_controls : Cpu → List ℕ → List ℕ
with_controls s b =
    let b1 : List ℕ = store_at (store_at b pc_at 4 s.pc) sr_at 2 s.sr in
    store_at (store_at (store_at b1 other_at 4 s.other) vbr_at 4 s.vbr) cacr_at 4 s.cacr

unfoldable pub with_accs : Emac → List ℕ → List ℕ
with_accs e b =
    let number : ℕ → ℕ = λ i. block_number (mode_of e.macsr) (acc_of e i) in
    store_at (store_at (store_at (store_at b (acc_at 0) 8 (number 0)) (acc_at 1) 8 (number 1)) (acc_at 2) 8 (number 2)) (acc_at 3) 8 (number 3)

unfoldable pub with_unit : Emac → List ℕ → List ℕ
with_unit e b = with_accs e (store_at (store_at b macsr_at 4 e.macsr) mask_at 4 e.mask)

-- the block of a state
unfoldable pub block_of : Cpu → List ℕ
block_of s =
    store_at (with_unit s.emac (with_controls s (with_longs s.r 0 16 registers_at headed))) stopped_at 1 (bit s.stopped)

-- the reply to a store, and the buffer after it: it needs exactly 128 bytes, whose old contents do not matter
pub record Stored : Type 0 where
  pub reply : Reply
  pub bytes : List ℕ

abbrev pub stored : Reply → List ℕ → Stored
stored n b = record { reply = n; bytes = b }

unfoldable pub store_block : Cpu → List ℕ → Stored
store_block s b =
    cond (eqb (length b) block_bytes)
    (cond (admitted s) (stored Done (block_of s)) (stored NotAdmitted b))
    (stored WrongLength b)
