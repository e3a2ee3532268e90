-- A state that is what its types say stays so with a part replaced, and so do states and memories through entries.
-- Assumes nothing.
use Rattle.std.specs.Prelude.{ℕ, zero, suc, ◌+◌, ◌/◌, ◌%◌, ◌^◌, ◌<◌, ◌≡◌, Bool, true, false, List, [], ◌∷◌, length, get_or, set}
use Rattle.std.proofs.Common.{◌∙◌, arith, length-set}
use Rattle.manual.specs.declared.Cpu.{Cpu}
use Rattle.manual.specs.declared.Emac.{Emac}
use Rattle.manual.specs.Registers.{address_of, with_all, with_registers, with_address, with_pc, with_sr, with_other, with_emac, with_stopped, with_controls}
use Rattle.manual.specs.Memory.{Storage, store_at}
use Rattle.manual.specs.Admitted.{status}
use Rattle.manual.specs.Exceptions.{handler_state}
use Rattle.block.specs.Typed.{Typed}
use Rattle.demands.specs.Exact.{Bytes}
use Rattle.demands.specs.EntryLaws as laws

-- ---- numbers below a bound stay below it

pub set_below : (l : List ℕ) (i x k : ℕ) → ((j : ℕ) → get_or l j 0 < k) → x < k → (j : ℕ) → get_or (set l i x) j 0 < k
set_below [] i x k all h j = all j
set_below (y ∷ l) zero x k all h zero = h
set_below (y ∷ l) zero x k all h (suc j) = all (suc j)
set_below (y ∷ l) (suc i) x k all h zero = all zero
set_below (y ∷ l) (suc i) x k all h (suc j) = set_below l i x k (λ j. all (suc j)) h j

pub store_bytes : (m : Storage) (a n v : ℕ) → Bytes m → Bytes (store_at m a n v)
unfolding store_at
store_bytes m a zero v all = all
store_bytes m a (suc n) v all = store_bytes (set m (a + n) (v % 256)) a n (v / 256) (set_below m (a + n) (v % 256) 256 all (omega arith))

pub status-word : (v : ℕ) → status v < 2 ^ 16
unfolding status
status-word v = omega arith

-- ---- a part replaced

module _ (s : Cpu) (typed : Typed s) where
  -- all that an instruction but MOVEC may change
  pub all_typed : (g : List ℕ) (at sr other : ℕ) (e : Emac) (b : Bool) → length g ≡ 16 → ((i : ℕ) → get_or g i 0 < 2 ^ 32) → at < 2 ^ 32 → sr < 2 ^ 16
      → other < 2 ^ 32 → e.mask < 2 ^ 32 → length e.acc ≡ 4 → Typed (with_all g at sr other e b s)
  all_typed g at sr other e b n all p v o k four = record {
    sixteen = n;
    registers = all;
    pc-long = p;
    sr-word = v;
    other-long = o;
    vbr-long = typed.vbr-long;
    cacr-long = typed.cacr-long;
    mask-long = k;
    four = four;
  }

  pub registers-typed : (g : List ℕ) → length g ≡ 16 → ((i : ℕ) → get_or g i 0 < 2 ^ 32) → Typed (with_registers g s)
  unfolding with_registers
  registers-typed g n all = all_typed g _ _ _ _ _ n all typed.pc-long typed.sr-word typed.other-long typed.mask-long typed.four

  pub address-typed : (v : ℕ) → v < 2 ^ 32 → Typed (with_address 7 v s)
  unfolding with_address with_registers
  address-typed v h = registers-typed (set s.r 15 v) (length-set s.r 15 v ∙ typed.sixteen) (set_below s.r 15 v (2 ^ 32) typed.registers h)

  pub pc-typed : (v : ℕ) → v < 2 ^ 32 → Typed (with_pc v s)
  unfolding with_pc
  pc-typed v h = all_typed _ v _ _ _ _ typed.sixteen typed.registers h typed.sr-word typed.other-long typed.mask-long typed.four

  pub sr-typed : (v : ℕ) → v < 2 ^ 16 → Typed (with_sr v s)
  unfolding with_sr
  sr-typed v h = all_typed _ _ v _ _ _ typed.sixteen typed.registers typed.pc-long h typed.other-long typed.mask-long typed.four

  pub other-typed : (v : ℕ) → v < 2 ^ 32 → Typed (with_other v s)
  unfolding with_other
  other-typed v h = all_typed _ _ _ v _ _ typed.sixteen typed.registers typed.pc-long typed.sr-word h typed.mask-long typed.four

  pub emac-typed : (e : Emac) → e.mask < 2 ^ 32 → length e.acc ≡ 4 → Typed (with_emac e s)
  unfolding with_emac
  emac-typed e h n = all_typed _ _ _ _ e _ typed.sixteen typed.registers typed.pc-long typed.sr-word typed.other-long h n

  pub stopped_typed : (b : Bool) → Typed (with_stopped b s)
  unfolding with_stopped
  stopped_typed b = all_typed _ _ _ _ _ b typed.sixteen typed.registers typed.pc-long typed.sr-word typed.other-long typed.mask-long typed.four

  pub controls_typed : (vbr cacr : ℕ) → vbr < 2 ^ 32 → cacr < 2 ^ 32 → Typed (with_controls vbr cacr s)
  controls_typed vbr cacr v c = record {
    sixteen = typed.sixteen;
    registers = typed.registers;
    pc-long = typed.pc-long;
    sr-word = typed.sr-word;
    other-long = typed.other-long;
    vbr-long = v;
    cacr-long = c;
    mask-long = typed.mask-long;
    four = typed.four;
  }

  pub a7_long : address_of s.r 7 < 2 ^ 32
  unfolding address_of
  a7_long = typed.registers 15

pub after-typed : (s : Cpu) → Typed s → (b : Bool) (v : ℕ) → v < 2 ^ 16 → Typed (laws.after b v s)
after-typed s typed true v h =
    let a : Typed (with_address 7 s.other s) = address-typed s typed s.other typed.other-long in
    sr-typed _ (other-typed _ a (address_of s.r 7) (a7_long s typed)) v h
after-typed s typed false v h = sr-typed s typed v h

-- ---- an entry's state and memory; b says whether the pointers change places

pub handler-typed : (s : Cpu) → Typed s → (b : Bool) (v : ℕ) → v < 2 ^ 16 → (frame handler : ℕ) → frame < 2 ^ 32 → handler < 2 ^ 32
    → Typed (handler_state (laws.after b v s) frame handler)
unfolding handler_state
handler-typed s typed b v w frame handler f h =
    stopped_typed _ (pc-typed _ (address-typed _ (after-typed s typed b v w) frame f) handler h) false

pub framed-bytes : (m : Storage) (sp vector sr pc : ℕ) → Bytes m → Bytes (laws.frame_on m sp vector sr pc)
framed-bytes m sp vector sr pc all = store_bytes _ _ 4 _ (store_bytes m _ 4 pc all)
