-- A step up to its instruction, and the words TRAP and RTE. Assumes nothing.
use Rattle.std.specs.Prelude.{ℕ, ◌+◌, ◌<◌, ◌≡◌, refl, Bool, true, false, cond, List, eqb, T, Result, Ok, Err}
use Rattle.std.proofs.Common.{ap, ◌∙◌, arith, eqb→eq}
use Rattle.manual.specs.declared.Cpu.{Cpu}
use Rattle.manual.specs.declared.Emac.{Emac}
use Rattle.manual.specs.declared.Action.{Action}
use Rattle.manual.specs.declared.Action.TheVariants.{Return}
use Rattle.manual.specs.declared.Change.{Change}
use Rattle.manual.specs.declared.Size.TheVariants.{Word}
use Rattle.manual.specs.declared.Reply.TheVariants.{Done, Stopped as Stop}
use Rattle.manual.specs.declared.Fault.{Fault}
use Rattle.manual.specs.Word.{plus}
use Rattle.manual.specs.Flags.{kept_codes}
use Rattle.manual.specs.Registers.{no_write, written, with_parts, with_pc, coded, applied}
use Rattle.manual.specs.Memory.{Memory, access, taken, number_at}
use Rattle.manual.specs.Change.{acting, refused, refuse}
use Rattle.manual.specs.Reply.{Outcome, unchanged, fault_reply}
use Rattle.manual.specs.Lent.{Lent, memory_of}
use Rattle.manual.specs.Exceptions.{supervisor, returned}
use Rattle.instructions.specs.Rows.{first_row, row_of, place_in}
use Rattle.instructions.specs.Line4.{line4, rte}
use Rattle.instructions.specs.Perform.{act, perform}
use Rattle.instructions.specs.Step.{instruction, execute, step}
use Rattle.rows.specs.TableLaws.{all_below, below}
use Rattle.demands.specs.Accesses.{Inside}
use Rattle.demands.specs.Exact.{Ready}
use Rattle.demands.specs.AccessLaws.{load_inside, load-not, fault_not}
use Rattle.demands.specs.EntryLaws.{Open, opened, goes_on, not-passed, not_done}

pub same-pc : (s : Cpu) → with_pc s.pc s ≡ s
unfolding with_pc
same-pc s = refl

pub coded_kept : (sr : ℕ) → coded sr (kept_codes sr) ≡ sr
unfolding coded kept_codes
coded_kept sr = omega arith

-- an instruction that leaves all to its action moves the program counter alone
pub applied-acting : (s : Cpu) (next : ℕ) (a : Action) → applied s (acting s.sr next no_write a) ≡ with_pc next s
unfolding applied acting with_parts with_pc written no_write
applied-acting s next a = rw (coded_kept s.sr)

pub perform-acting : (s : Cpu) (next : ℕ) (a : Action) (m : Memory) → perform s (acting s.sr next no_write a) m ≡ act s (with_pc next s) a m
unfolding perform acting
perform-acting s next a m = ap (λ (t : Cpu). act s t a m) (applied-acting s next a)

-- ---- the words

trap_rows : T (all_below (λ n. eqb (row_of (0x4E40 + n)) (first_row 4 + 23)) 16)
unfolding row_of
trap_rows = tt

pub trap-row : (n : ℕ) → n < 16 → row_of (0x4E40 + n) ≡ first_row 4 + 23
trap-row n h = eqb→eq _ _ (below (λ n. eqb (row_of (0x4E40 + n)) (first_row 4 + 23)) 16 trap_rows n h)

rte-row : row_of 0x4E73 ≡ first_row 4 + 2
unfolding row_of
rte-row = refl

module _ (g : List ℕ) (at sr other : ℕ) (e : Emac) (m : Memory) where
  pub rte-word : supervisor sr ≡ true → instruction g at sr other e m 0x4E73 ≡ acting sr (plus at 2) no_write Return
  unfolding instruction line4 place_in rte
  rte-word h = rw (rte-row, h)

  -- the opcode word is fetched at the program counter
  pub fetched : (op : ℕ) → Inside m at 2 → number_at m at Word ≡ op → execute g at sr other e m ≡ instruction g at sr other e m op
  unfolding execute
  fetched op h w = rw (load_inside m at Word h, w)

  pub not-fetched : (x : Fault) → access m at 2 ≡ Err x → execute g at sr other e m ≡ refused x
  unfolding execute
  not-fetched x h = rw (load-not m at Word x h)

pub perform-refused : (s : Cpu) (x : Fault) (m : Memory) → perform s (refused x) m ≡ unchanged s (fault_reply x) m
unfolding perform refused refuse
perform-refused s x m = refl

-- ---- a step that was done

stopped_not : Stop ≡ Done → ⊥
stopped_not e = cc

abbrev pub doing : Cpu → Memory → Change
doing s m = execute s.r s.pc s.sr s.other s.emac m

fetched-by : (x : Result ℕ Fault) (s : Cpu) (m : Memory) → access m s.pc 2 ≡ x → (perform s (doing s m) m).stepped.reply ≡ Done → taken x ≡ Ok tt
fetched-by (Ok at) s m i e = refl
fetched-by (Err x) s m i e =
    absurd
    (not_done (fault_reply x) (fault_not x) s m
    (rw (not-fetched s.r s.pc s.sr s.other s.emac m x i, perform-refused s x m) at e))

pub record Stepped (s : Cpu) (l : Lent) : Type 0 where
  pub ready : Ready s l
  pub fetch : Inside (memory_of l) s.pc 2
  pub same : step s l ≡ perform s (doing s (memory_of l)) (memory_of l)

pub stepped : (s : Cpu) (l : Lent) → (step s l).stepped.reply ≡ Done → Stepped s l
unfolding step
stepped s l e =
    let m : Memory = memory_of l in
    let p : Outcome = perform s (doing s m) m in
    let w : Open s l (cond s.stopped (unchanged s Stop m) p) (step s l) = opened s l _ e in
    let one : cond s.stopped (unchanged s Stop m) p ≡ p = not-passed s.stopped Stop stopped_not s m p (rw w.same at e) in
    let i : Inside m s.pc 2 = fetched-by (access m s.pc 2) s m refl (rw (w.same, one) at e) in
    record { ready = w.ready; fetch = i; same = w.same ∙ one }

second_of : (b : Bool) → b ≡ false → (x y : Outcome) → cond b x y ≡ y
second_of b h x y = rw h

-- a step that passes the tests before its fetch
pub step-on : (s : Cpu) (l : Lent) → Ready s l → s.stopped ≡ false → step s l ≡ perform s (doing s (memory_of l)) (memory_of l)
unfolding step
step-on s l ready awake = goes_on s l _ ready ∙ second_of s.stopped awake _ _

-- RTE as a step
module _ (s : Cpu) (l : Lent) where
  abbrev m : Memory
  m = memory_of l

  pub step-rte : Ready s l → s.stopped ≡ false → Inside m s.pc 2 → number_at m s.pc Word ≡ 0x4E73 → supervisor s.sr ≡ true
      → step s l ≡ returned s (with_pc (plus s.pc 2) s) m
  step-rte ready awake i w h =
      step-on s l ready awake
      ∙ ap (λ (c : Change). perform s c m) (fetched s.r s.pc s.sr s.other s.emac m 0x4E73 i w ∙ rte-word s.r s.pc s.sr s.other s.emac m h)
      ∙ perform-acting s (plus s.pc 2) Return m
