-- One turn of a run: what a step of each kind does to it, and that the loop's count is the definition's. Assumes nothing.
use Rattle.std.specs.Prelude.{Option, Some, None, Result, Ok, Err}
use Prim.Native.Nat.{ℕ, zero, suc, ◌+◌, ◌-◌, ◌≤◌, ◌<◌}
use mathlib.Core.Path.{◌≡◌, refl, sym, ap, ◌∙◌}
use mathlib.Core.Bool.{Bool, true, false, cond}
use mathlib.Core.List.{List}
use native.Mathlib.Omega.{arith}
use native.Mathlib.Nat.{sub-zero}
use lib.ListN.{length}
use Rattle.manual.specs.declared.Cpu.{Cpu}
use Rattle.manual.specs.declared.Emac.{Emac}
use Rattle.manual.specs.declared.Size.TheVariants.{Word}
use Rattle.manual.specs.declared.Fault.{Fault}
use Rattle.manual.specs.declared.Fault.TheVariants.{Outside}
use Rattle.manual.specs.declared.Reply.{Reply}
use Rattle.manual.specs.declared.Reply.TheVariants.{Done, Stopped}
use Rattle.manual.specs.declared.Change.{Change}
use Rattle.manual.specs.declared.Stepped.{Stepped}
use Rattle.manual.specs.Registers.{with_parts}
use Rattle.manual.specs.Memory.{Storage, Memory, load}
use Rattle.manual.specs.Change.{refuse, refused}
use Rattle.manual.specs.Emac.{emac_of}
use Rattle.manual.specs.Reply.{Outcome, outcome, completed, unchanged, refusal, is_done, fault_reply}
use Rattle.manual.specs.Admitted.{admitted}
use Rattle.manual.specs.Lent.{Lent, memory_of, lent_on, first_refusal}
use Rattle.instructions.specs.Perform.{perform}
use Rattle.instructions.specs.Rows.{row_of}
use Rattle.instructions.specs.Step.{execute, of_row, step}
use Rattle.instructions.specs.Run.{RunOutcome, ended, after_one, steps}
use Rattle.machine.specs.declared.Progress.{Progress}
use Rattle.machine.specs.Advance.{Advance, advance, ended_as, progress}
use Rattle.rows.specs.RowLaws.{of_row_lem}
use Rattle.state.specs.FirstLaws.{first-admitted, first-kept}
use Rattle.machine.specs.KeptLaws.{perform-admitted}
use Rattle.quick_parts.specs.Effects.{after as effected, agreed}
use Rattle.quick_bodies.specs.Units.{after_mac, agreed_mac}
use Rattle.machine.proofs.TurnLaws as turns

-- ---- a run over a step, which stays shut

module _ (b k v : ℕ) (whole : Advance) (s : Cpu) (l : Lent) (inv : progress (b - k) k v s l ≡ whole) where
  one_more : k < b → progress (suc (b - (k + 1))) k v s l ≡ whole
  one_more h =
      let q : b - k ≡ suc (b - (k + 1)) = omega arith in
      sym (ap (λ (n : ℕ). progress n k v s l) q) ∙ inv

  on : (t : Stepped) (m' : Storage) → k < b → outcome t m' ≡ step s l → is_done t.reply ≡ true → progress (b - (k + 1)) (k + 1) t.vector t.cpu (lent_on l m') ≡ whole
  unfolding progress
  on t m' h e d =
      let one : progress (suc (b - (k + 1))) k v s l ≡ progress (b - (k + 1)) (k + 1) t.vector t.cpu (lent_on l m') = rw (← e, d) in
      sym one ∙ one_more h

  stops : (t : Stepped) (m' : Storage) → k < b → outcome t m' ≡ step s l → is_done t.reply ≡ false → advance (ended_as t.reply k 0 t.cpu) m' ≡ whole
  unfolding progress
  stops t m' h e d =
      let one : progress (suc (b - (k + 1))) k v s l ≡ advance (ended_as t.reply k 0 t.cpu) m' = rw (← e, d) in
      sym one ∙ one_more h

  pub ends : b ≤ k → advance (ended_as Done k v s) l.storage ≡ whole
  unfolding progress
  ends h =
      let q : b - k ≡ 0 = omega arith in
      sym (ap (λ (n : ℕ). progress n k v s l) q) ∙ inv

-- ---- a refused step, and its reply

abbrev pub refused_as : Reply → Cpu → Stepped
refused_as n s = record { reply = n; vector = 0; cpu = s }

fault_refused : (x : Fault) → is_done (fault_reply x) ≡ false
fault_refused Outside = refl

-- ---- a state in parts

pub parts : (s : Cpu) → with_parts s.r s.pc s.sr s.emac s ≡ s
unfolding with_parts
parts s = refl

pub starts : (b : ℕ) (s : Cpu) (l : Lent) → progress (b - 0) 0 0 (with_parts s.r s.pc s.sr s.emac s) l ≡ progress b 0 0 s l
starts b s l = rw (sub-zero, parts s)

-- ---- a turn of the loop, in which m is what storage is by now

-- what every turn knows before its word is fetched
pub record Turn (b k v : ℕ) (whole : Advance) (g : List ℕ) (pc sr : ℕ) (e : Emac) (rest : Cpu) (l : Lent) : Type 0 where
  pub more : k < b
  pub ready : is_done (first_refusal (with_parts g pc sr e rest) l) ≡ true
  pub inv : progress (b - k) k v (with_parts g pc sr e rest) l ≡ whole

pub turned : {b k v : ℕ} {whole : Advance} {g : List ℕ} {pc sr : ℕ} {e : Emac} {rest : Cpu} {l : Lent} → k < b
    → is_done (first_refusal (with_parts g pc sr e rest) l) ≡ true → progress (b - k) k v (with_parts g pc sr e rest) l ≡ whole
    → Turn b k v whole g pc sr e rest l
turned more ready inv = record { more = more; ready = ready; inv = inv }

module _ {b k v : ℕ} {whole : Advance} {g : List ℕ} {pc sr : ℕ} {e : Emac} {rest : Cpu} {l : Lent} (t : Turn b k v whole g pc sr e rest l) where
  abbrev now : Cpu
  now = with_parts g pc sr e rest

  abbrev m : Memory
  m = memory_of l

  -- a core that is stopped
  pub halts : (s : Cpu) → rest.stopped ≡ true → s ≡ now → advance (ended_as Stopped k 0 s) l.storage ≡ whole
  unfolding step with_parts refusal
  halts s w q = stops b k v whole now l t.inv (refused_as Stopped s) l.storage t.more (rw q at_rest) refl
    where
      at_rest : outcome (refused_as Stopped now) l.storage ≡ step now l
      at_rest =
          rw t.ready
          (ap (λ (b : Bool). cond b (unchanged now Stopped m) (perform now (execute g pc sr rest.other e m) m)) (sym w))

  any : rest.stopped ≡ false → (c : Change) → c ≡ execute g pc sr rest.other e m → step now l ≡ perform now c m
  unfolding step with_parts
  any w c q = rw (t.ready, w, ← q)

  -- a word that is not to be had
  pub unfetched : rest.stopped ≡ false → (x : Fault) (got : Result ℕ Fault) → got ≡ load m pc Word → got ≡ Err x → (s : Cpu) → s ≡ now
      → advance (ended_as (fault_reply x) k 0 s) l.storage ≡ whole
  unfolding execute refused refuse perform refusal
  unfetched w x got is f s q = stops b k v whole now l t.inv (refused_as (fault_reply x) s) l.storage t.more (rw q missing) (fault_refused x)
    where
      missing : outcome (refused_as (fault_reply x) now) l.storage ≡ step now l
      missing = rw (any w (execute g pc sr rest.other e m) refl, ← is, f)

-- ---- the same once its word is fetched and its row is known

pub record Fetched (b k v : ℕ) (whole : Advance) (g : List ℕ) (pc sr : ℕ) (e : Emac) (rest : Cpu) (l : Lent) (op row : ℕ) : Type 0 where
  pub turn : Turn b k v whole g pc sr e rest l
  pub going : rest.stopped ≡ false
  pub word : load (memory_of l) pc Word ≡ Ok op
  pub is-row : row ≡ row_of op

pub fetched_at : {b k v : ℕ} {whole : Advance} {g : List ℕ} {pc sr : ℕ} {e : Emac} {rest : Cpu} {l : Lent} {op row : ℕ} → Turn b k v whole g pc sr e rest l
    → rest.stopped ≡ false → load (memory_of l) pc Word ≡ Ok op → row ≡ row_of op → Fetched b k v whole g pc sr e rest l op row
fetched_at turn going word is-row = record { turn = turn; going = going; word = word; is-row = is-row }

module _ {b k v : ℕ} {whole : Advance} {g : List ℕ} {pc sr : ℕ} {e : Emac} {rest : Cpu} {l : Lent} {op row : ℕ} (t : Fetched b k v whole g pc sr e rest l op row) where
  abbrev here : Cpu
  here = with_parts g pc sr e rest

  abbrev c : Change
  c = of_row row g pc sr rest.other e (memory_of l) op

  fetched : c ≡ execute g pc sr rest.other e (memory_of l)
  unfolding execute
  fetched = rw (t.word, t.is-row) (of_row_lem g pc sr rest.other e (memory_of l) op)

  is-step : step here l ≡ perform here c (memory_of l)
  is-step = any t.turn t.going c fetched

  -- on the whole state
  pub performed : (r : Stepped) (m' : Storage) (s : Cpu) → s ≡ here → outcome r m' ≡ perform s (of_row row s.r s.pc s.sr s.other s.emac (memory_of l) op) (memory_of l)
      → outcome r m' ≡ step here l
  unfolding with_parts
  performed r m' s q h = (rw q at h) ∙ sym is-step

  -- a step that was done: the next turn is as ready as this one, and what is left of the run is what was due
  pub goes_on : (r : Stepped) (m' : Storage) → length m' ≡ length l.storage → outcome r m' ≡ step here l → is_done r.reply ≡ true
      → (is_done (first_refusal r.cpu (lent_on l m')) ≡ true) × (progress (b - (k + 1)) (k + 1) r.vector r.cpu (lent_on l m') ≡ whole)
  goes_on r m' same h d = (
    first-kept here r.cpu l m' same
        (ap (λ (o : Outcome). admitted o.stepped.cpu) (h ∙ is-step) ∙ perform-admitted here c (memory_of l) (first-admitted here l t.turn.ready))
        t.turn.ready,
    on b k v whole here l t.turn.inv r m' t.turn.more h d,
  )

  pub stops-here : (r : Stepped) (m' : Storage) → outcome r m' ≡ step here l → is_done r.reply ≡ false → advance (ended_as r.reply k 0 r.cpu) m' ≡ whole
  stops-here r m' h d = stops b k v whole here l t.turn.inv r m' t.turn.more h d

  -- in place: what is done is the step, and a word that is left leaves the turn as it was
  module _ (g' : List ℕ) (sr' : ℕ) (e' : Emac) (m' : Storage) (r : Option ℕ) (h : turns.Turn row pc rest.other op rest r g sr e l.storage g' sr' e' m') where
    pub in_turn : (pc' : ℕ) → r ≡ Some pc' → completed (with_parts g' pc' sr' e' rest) 0 m' ≡ step here l
    in_turn pc' q = (rw q at h) ∙ sym is-step

    pub left : r ≡ None → Fetched b k v whole g' pc sr' e' rest (lent_on l m') op row
    left q =
        let u : turns.Turn row pc rest.other op rest None g sr e l.storage g' sr' e' m' = rw q at h in
        let p : g' ≡ g = turns.kept-registers row pc rest.other op rest g sr e l.storage g' sr' e' m' u in
        let s : sr' ≡ sr = turns.kept-status row pc rest.other op rest g sr e l.storage g' sr' e' m' u in
        let n : e' ≡ e = turns.kept-unit row pc rest.other op rest g sr e l.storage g' sr' e' m' u in
        let o : m' ≡ l.storage = turns.kept-storage row pc rest.other op rest g sr e l.storage g' sr' e' m' u in
        record {
          turn = record { more = t.turn.more; ready = rw (p, s, n, o) t.turn.ready; inv = rw (p, s, n, o) t.turn.inv };
          going = t.going;
          word = rw o t.word;
          is-row = t.is-row;
        }

  -- the same of a part of the quick path, and of the plain engine
  module _ (g' : List ℕ) (sr' : ℕ) (m' : Storage) (r : Option ℕ) (h : effected r sr' g' m' ≡ agreed r c sr g (memory_of l)) where
    pub again : r ≡ None → Fetched b k v whole g' pc sr' e rest (lent_on l m') op row
    again = left g' sr' e m' r (turns.in_place row pc rest.other op rest g sr e l.storage g' sr' m' r h)

    pub in_place : (pc' : ℕ) → r ≡ Some pc' → completed (with_parts g' pc' sr' e rest) 0 m' ≡ step here l
    in_place = in_turn g' sr' e m' r (turns.in_place row pc rest.other op rest g sr e l.storage g' sr' m' r h)

-- in the unit: the same, of what leaves storage as it is
module _ {b k v : ℕ} {whole : Advance} {g : List ℕ} {pc sr : ℕ} {rest : Cpu} {l : Lent} {op row : ℕ} (macsr mask : ℕ) (acc : List ℕ)
    (t : Fetched b k v whole g pc sr (emac_of macsr mask acc) rest l op row) (g' : List ℕ) (macsr' : ℕ) (acc' : List ℕ) (r : Option ℕ)
    (h : after_mac r sr macsr' mask acc' g' ≡ agreed_mac r (c t) sr (emac_of macsr mask acc) g) where
  abbrev unit : turns.Turn row pc rest.other op rest r g sr (emac_of macsr mask acc) l.storage g' sr (emac_of macsr' mask acc') l.storage
  unit = turns.in_unit row pc rest.other op rest g sr macsr mask acc l.storage g' macsr' acc' r h

  pub again-unit : r ≡ None → Fetched b k v whole g' pc sr (emac_of macsr' mask acc') rest l op row
  again-unit = left t g' sr (emac_of macsr' mask acc') l.storage r unit

  pub in_unit_lem : (pc' : ℕ) → r ≡ Some pc' → completed (with_parts g' pc' sr (emac_of macsr' mask acc') rest) 0 l.storage ≡ step (here t) l
  in_unit_lem = in_turn t g' sr (emac_of macsr' mask acc') l.storage r unit

-- ---- the definition's run

abbrev pub as_run : Advance → RunOutcome
as_run a = ended a.answer.reply a.answer.count a.answer.cpu a.storage

abbrev after : ℕ → RunOutcome → RunOutcome
after k r = ended r.ran.reply (k + r.ran.count) r.ran.cpu r.storage

counted : (k j : ℕ) (n : Reply) (s : Cpu) (m : Storage) → k ≡ j → ended n k s m ≡ ended n j s m
counted k j n s m e = ap (λ (i : ℕ). ended n i s m) e

module _ (left k : ℕ) (o : Outcome) (l : Lent) where
  abbrev on-from : Advance
  on-from = progress left (k + 1) o.stepped.vector o.stepped.cpu (lent_on l o.storage)

  abbrev steps-from : RunOutcome
  steps-from = steps left o.stepped.cpu (lent_on l o.storage)

  step-more : (b : Bool) → as_run on-from ≡ after (k + 1) steps-from
      → as_run (cond b on-from (advance (ended_as o.stepped.reply k 0 o.stepped.cpu) o.storage))
      ≡ after k (cond b (after_one steps-from) (ended o.stepped.reply 0 o.stepped.cpu o.storage))
  step-more true h = h ∙ counted (k + 1 + steps-from.ran.count) (k + suc steps-from.ran.count) _ _ _ (omega arith)
  step-more false h = counted k (k + 0) o.stepped.reply o.stepped.cpu o.storage (omega arith)

all-steps : (left k v : ℕ) (s : Cpu) (l : Lent) → as_run (progress left k v s l) ≡ after k (steps left s l)
unfolding progress steps
all-steps zero k v s l = counted k (k + 0) Done s l.storage (omega arith)
all-steps (suc left) k v s l =
    let o : Outcome = step s l in
    step-more left k o l (is_done o.stepped.reply) (all-steps left (k + 1) o.stepped.vector o.stepped.cpu (lent_on l o.storage))

pub run_is : (b : ℕ) (s : Cpu) (l : Lent) (m' : Storage) (r : Progress) → advance r m' ≡ progress b 0 0 s l → ended r.reply r.count r.cpu m' ≡ steps b s l
run_is b s l m' r e =
    let n : RunOutcome = steps b s l in
    ap as_run e ∙ all-steps b 0 0 s l ∙ counted (0 + n.ran.count) n.ran.count n.ran.reply n.ran.cpu n.storage (omega arith)
