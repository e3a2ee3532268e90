-- Entries nest. Document: demand 3.
--
-- Of any number of entries, the returns in reverse order give back what was handed to each. An entry is made from whatever state
-- was reached, and its frame touches none of the frames not yet returned from: so it is where the pointer that it takes is at
-- the latest of them or below it. Between entries and returns any work may run that keeps memory's length and the bytes of those
-- frames. At a return, S, CACR bit 5, A7 and the other pointer are as its own entry left them.
-- And with nothing run between, all registers but stopped, the program counter that was handed to the outermost entry, and
-- every byte outside the frames are as they were when the last return is done. Assumes nothing.
use Rattle.std.specs.Prelude.{ℕ, ◌+◌, ◌/◌, ◌%◌, ◌^◌, ◌≤◌, ◌<◌, ◌≡◌, refl, Bool, true, false, cond, ◌&&◌, List, [], ◌∷◌, ◌⊎◌, length, get_or, set, eqb}
use Rattle.std.proofs.Common.{sym, ap, ◌∙◌, ⊎_elim, inl, inr, set-set, Option}
use native.Mathlib.Omega.{arith}
use Rattle.std.proofs.lemmas.List.{set-get_or}
use Rattle.manual.specs.declared.Cpu.{Cpu}
use Rattle.manual.specs.declared.Size.TheVariants.{Byte}
use Rattle.manual.specs.declared.Reply.TheVariants.{Done}
use Rattle.manual.specs.Word.{plus, minus}
use Rattle.manual.specs.Registers.{address_of, with_address, with_pc, with_sr, with_other, with_stopped}
use Rattle.manual.specs.Reply.{Outcome}
use Rattle.manual.specs.Memory.{Storage, Memory, number_at}
use Rattle.manual.specs.Admitted.{status, admitted}
use Rattle.manual.specs.Lent.{Lent, memory_of, lent_on, longest}
use Rattle.manual.specs.Exceptions.{supervisor, two_stacks, handler_sr, pc_place, frame_place, handler_state}
use Rattle.word.specs.WordLaws.{minus-below}
use Rattle.memory.specs.MemoryLaws.{byte_store, length_store, value_lt}
use Rattle.state.specs.FirstLaws.{first-admitted}
use Rattle.exceptions.specs.EntryAdmitted.{entered-admitted}
use Rattle.demands.specs.Exact.{Bytes, Values}
use Rattle.demands.specs.AccessLaws.{byte_is}
use Rattle.demands.specs.FirstReplies.{short_of}
use Rattle.demands.specs.EntryLaws as laws
use Rattle.demands.specs.ValueLaws as values
use Rattle.demands.specs.Undone.{Enters, Returns, AtReturn, AsLeft, Undoes, Way, way, swaps_in, sp_in, turned, Left, way-left, Named, named, undone_state, sp-long, Gone, gone, gone_undoes}

-- an entry that has not been returned from: the registers and the program counter that were handed to it, and its answer
pub record Pending : Type 0 where
  pub handed : Cpu
  pub pc : ℕ
  pub answer : Outcome

abbrev pub pending : Cpu → ℕ → Outcome → Pending
pending handed pc answer = record { handed = handed; pc = pc; answer = answer }

-- the state that it left
abbrev pub left_by : Pending → Cpu
left_by e = e.answer.stepped.cpu

-- after an answer: where A7 is, and what is lent
abbrev pub a7_after : Outcome → ℕ
a7_after o = address_of o.stepped.cpu.r 7

abbrev pub afterwards : Lent → Outcome → Lent
afterwards l o = lent_on l o.storage

-- an entry's frame is at A7 after it
abbrev pub frame_of : Pending → ℕ
frame_of e = a7_after e.answer

-- the eight bytes of each frame are the same in m and m'
abbrev pub SameFrames : List Pending → Memory → Memory → Type 0
SameFrames [] m m' = Unit {0}
SameFrames (e ∷ es) m m' = ((j : ℕ) → j < 8 → number_at m' (plus (frame_of e) j) Byte ≡ number_at m (plus (frame_of e) j) Byte) × SameFrames es m m'

-- the eight bytes at a touch none of the frames
abbrev pub TouchesNone : ℕ → List Pending → Type 0
TouchesNone a [] = Unit {0}
TouchesNone a (e ∷ es) = ((a + 8 ≤ frame_of e) ⊎ (frame_of e + 8 ≤ a)) × TouchesNone a es

-- what can be reached, with which entries not returned from, the latest first
pub data Reached : List Pending → Cpu → Lent → Type 0 where
  start : {s : Cpu} {l : Lent} → Values s l.storage → admitted s ≡ true → Reached [] s l
  entry : {es : List Pending} {s : Cpu} {l : Lent} {handed : Cpu} {pc : ℕ} {answer : Outcome} → Reached es s l → Enters s l handed pc answer
      → answer.stepped.reply ≡ Done → TouchesNone (a7_after answer) es
      → Reached (pending handed pc answer ∷ es) answer.stepped.cpu (afterwards l answer)
  work : {es : List Pending} {s s' : Cpu} {l l' : Lent} → Reached es s l → Values s' l'.storage → admitted s' ≡ true
      → length l'.storage ≡ length l.storage → SameFrames es (memory_of l) (memory_of l') → Reached es s' l'
  return : {e : Pending} {es : List Pending} {s : Cpu} {l : Lent} {answer : Outcome} → Reached (e ∷ es) s l → AtReturn (left_by e) s → Returns s l answer
      → Reached es answer.stepped.cpu (afterwards l answer)

-- whatever was reached, a return succeeds, keeps memory, and gives back what was handed to the latest entry not returned from
abbrev pub EntriesNest : Type 0
EntriesNest =
    (e : Pending) (es : List Pending) (s : Cpu) (l : Lent) (answer : Outcome) → Reached (e ∷ es) s l → AtReturn (left_by e) s → Returns s l answer
    → Undoes e.handed e.pc l.storage answer

-- ---- where an entry's frame touches none

-- x is at most the latest frame
abbrev pub AtMost : ℕ → List Pending → Type 0
AtMost x [] = Unit {0}
AtMost x (e ∷ es) = x ≤ frame_of e

-- the frames lie one above the other, the latest lowest
abbrev pub Stacked : List Pending → Type 0
Stacked [] = Unit {0}
Stacked (e ∷ es) = AtMost (frame_of e + 8) es × Stacked es

-- an entry is done, and of the registers that it is handed `when` holds, and `pointer` of them is at most the latest frame:
-- its frame touches none, and with it the frames lie one above the other
abbrev pub FrameBelow : (Cpu → Type 0) → (Cpu → ℕ) → Type 0
FrameBelow when pointer =
    (es : List Pending) (s : Cpu) (l : Lent) (handed : Cpu) (pc : ℕ) (answer : Outcome) → Values s l.storage → Enters s l handed pc answer
    → answer.stepped.reply ≡ Done → Stacked es → when handed → AtMost (pointer handed) es
    → TouchesNone (a7_after answer) es × Stacked (pending handed pc answer ∷ es)

pub record FramesBelow : Type 0 where
  -- CACR bit 5 is clear, so that there is one stack: A7
  pub one_stack : FrameBelow (λ s. two_stacks s ≡ false) (λ s. address_of s.r 7)
  -- S is set, with one stack or two: A7
  pub in_supervisor : FrameBelow (λ s. supervisor s.sr ≡ true) (λ s. address_of s.r 7)
  -- CACR bit 5 is set and S is clear: the other pointer
  pub from_user : FrameBelow (λ s. (two_stacks s ≡ true) × (supervisor s.sr ≡ false)) (λ s. s.other)

-- ---- with nothing run between

-- every register but the program counter and stopped
pub record SameRegisters (s s₂ : Cpu) : Type 0 where
  pub same-r : s₂.r ≡ s.r
  pub same-sr : s₂.sr ≡ s.sr
  pub same-other : s₂.other ≡ s.other
  pub same-vbr : s₂.vbr ≡ s.vbr
  pub same-cacr : s₂.cacr ≡ s.cacr
  pub same-emac : s₂.emac ≡ s.emac

-- entries alone, from s and l. Each hands on the registers of the state that it is made from: so do `exception` and `interrupt`
-- (`same-registers`) and TRAP (`same-but-pc`)
pub data Entries (s : Cpu) (l : Lent) : List Pending → Cpu → Lent → Type 0 where
  none : Entries s l [] s l
  entry : {es : List Pending} {s₁ : Cpu} {l₁ : Lent} {handed : Cpu} {pc : ℕ} {answer : Outcome} → Entries s l es s₁ l₁ → Enters s₁ l₁ handed pc answer
      → SameRegisters s₁ handed → answer.stepped.reply ≡ Done
      → Entries s l (pending handed pc answer ∷ es) answer.stepped.cpu (afterwards l₁ answer)

-- returns alone, from s₁ and l₁ to s₂ and l₂, with these answers
pub data Unwound (s₂ : Cpu) (l₂ : Lent) : List Outcome → Cpu → Lent → Type 0 where
  none : Unwound s₂ l₂ [] s₂ l₂
  return : {answers : List Outcome} {s₁ : Cpu} {l₁ : Lent} {answer : Outcome} → Returns s₁ l₁ answer
      → Unwound s₂ l₂ answers answer.stepped.cpu (afterwards l₁ answer) → Unwound s₂ l₂ (answer ∷ answers) s₁ l₁

abbrev pub AllDone : List Outcome → Type 0
AllDone [] = Unit {0}
AllDone (answer ∷ answers) = (answer.stepped.reply ≡ Done) × AllDone answers

-- the program counter that was handed to the outermost entry, or pc where there is none
abbrev pub outermost_pc : ℕ → List Pending → ℕ
outermost_pc pc [] = pc
outermost_pc pc (e ∷ es) = outermost_pc e.pc es

-- the byte at j is in none of the frames
abbrev pub OutsideFrames : List Pending → ℕ → Type 0
OutsideFrames [] j = Unit {0}
OutsideFrames (e ∷ es) j = ((j < frame_of e) ⊎ (frame_of e + 8 ≤ j)) × OutsideFrames es j

-- all is back: s₂ and l₂ after the returns, against s and l before the entries
pub record AllBack (s : Cpu) (l : Lent) (es : List Pending) (answers : List Outcome) (s₂ : Cpu) (l₂ : Lent) : Type 0 where
  -- every return succeeded
  pub all_done : AllDone answers
  pub registers-back : SameRegisters s s₂
  pub pc-back : s₂.pc ≡ outermost_pc s.pc es
  pub as_much : length l₂.storage ≡ length l.storage
  -- every byte outside the frames is as it was
  pub bytes_back : (j : ℕ) → OutsideFrames es j → number_at (memory_of l₂) j Byte ≡ number_at (memory_of l) j Byte

-- entries one after the other, and then as many returns
abbrev pub NothingBetween : Type 0
NothingBetween =
    (s : Cpu) (l : Lent) (es : List Pending) (s₁ : Cpu) (l₁ : Lent) (answers : List Outcome) (s₂ : Cpu) (l₂ : Lent) → Values s l.storage → admitted s ≡ true
    → Entries s l es s₁ l₁ → Unwound s₂ l₂ answers s₁ l₁ → length answers ≡ length es
    → AllBack s l es answers s₂ l₂

-- ---- the proofs

-- the frame of an entry that was done: below the pointer, and within memory

module _ (sp n : ℕ) (f : sp < 2 ^ 32) (short : n ≤ longest) (hi : pc_place sp + 4 ≤ n) (lo : frame_place sp + 4 ≤ n) where
  frame_below : frame_place sp + 8 ≤ sp
  unfolding minus
  frame_below = omega arith

  frame_low : frame_place sp ≤ longest
  frame_low = omega arith

  pc-next : pc_place sp ≡ frame_place sp + 4
  unfolding minus
  pc-next = omega arith

  framed_byte : (b : Storage) (vector sr pc j : ℕ) → (j < frame_place sp) ⊎ (frame_place sp + 8 ≤ j) → get_or (laws.frame_on b sp vector sr pc) j 0 ≡ get_or b j 0
  framed_byte b vector sr pc j out =
      let e : pc_place sp ≡ frame_place sp + 4 = pc-next in
      byte_store _ (frame_place sp) 4 _ j (⊎_elim (λ h. inl h) (λ h. inr (omega arith)) out)
      ∙ byte_store b (pc_place sp) 4 pc j (⊎_elim (λ h. inl (omega arith)) (λ h. inr (omega arith)) out)

-- every register but A7, SR, the other pointer, the program counter and stopped

record Others (s s' : Cpu) : Type 0 where
  but_a7 : set s'.r 15 0 ≡ set s.r 15 0
  vbr : s'.vbr ≡ s.vbr
  cacr : s'.cacr ≡ s.cacr
  emac : s'.emac ≡ s.emac

after-others : (b : Bool) (v : ℕ) (s : Cpu) → Others s (laws.after b v s)
unfolding with_sr with_other with_address
after-others true v s = record { but_a7 = set-set s.r 15 s.other 0; vbr = refl; cacr = refl; emac = refl }
after-others false v s = record { but_a7 = refl; vbr = refl; cacr = refl; emac = refl }

address-others : (v : ℕ) (s : Cpu) → Others s (with_address 7 v s)
unfolding with_address
address-others v s = record { but_a7 = set-set s.r 15 v 0; vbr = refl; cacr = refl; emac = refl }

handler-others : (s : Cpu) (level : Option ℕ) (frame handler : ℕ) → Others s (handler_state (turned s level) frame handler)
unfolding handler_state with_stopped with_pc
handler-others s level frame handler =
    let t : Cpu = turned s level in
    let a : Others s t = after-others (swaps_in s level) (status (handler_sr level s.sr)) s in
    let b : Others t (with_address 7 frame t) = address-others frame t in
    record { but_a7 = b.but_a7 ∙ a.but_a7; vbr = b.vbr ∙ a.vbr; cacr = b.cacr ∙ a.cacr; emac = b.emac ∙ a.emac }

-- what an entry that was done leaves
record Entered (s : Cpu) (l : Lent) (handed : Cpu) (pc : ℕ) (answer : Outcome) : Type 0 where
  way : Way s l handed pc answer
  typed : Values answer.stepped.cpu answer.storage
  taken : admitted answer.stepped.cpu ≡ true
  in_s : supervisor answer.stepped.cpu.sr ≡ true
  low : a7_after answer ≤ longest
  below : a7_after answer + 8 ≤ sp_in handed way.level
  as_long : length answer.storage ≡ length l.storage
  outside : (j : ℕ) → (j < a7_after answer) ⊎ (a7_after answer + 8 ≤ j) → number_at (memory_of (afterwards l answer)) j Byte ≡ number_at (memory_of l) j Byte
  others : Others handed answer.stepped.cpu

entered_so : (s : Cpu) (l : Lent) (handed : Cpu) (pc : ℕ) (answer : Outcome) → Values s l.storage → Enters s l handed pc answer → answer.stepped.reply ≡ Done
    → Entered s l handed pc answer
entered_so s l handed pc answer given enters done =
    let w : Way s l handed pc answer = way s l handed pc answer given enters done in
    let level : Option ℕ = w.level in
    let sp : ℕ = sp_in handed level in
    let x : Left handed (memory_of l) pc level w.vector answer.stepped.cpu answer.storage = way-left _ _ _ _ _ w done in
    let n : Named handed level answer.stepped.cpu = named _ _ _ _ _ _ _ w.on.typed.sixteen x in
    let f : sp < 2 ^ 32 = sp-long handed level w.on.typed in
    let short : length l.storage ≤ longest = short_of s l w.ready in
    let byte : (j : ℕ) → (j < frame_place sp) ⊎ (frame_place sp + 8 ≤ j) → number_at (memory_of (afterwards l answer)) j Byte ≡ number_at (memory_of l) j Byte =
    λ j out. byte_is (memory_of (afterwards l answer)) j
    ∙ ap (λ (y : Storage). get_or y j 0) x.storage-is
    ∙ framed_byte sp (length l.storage) f short x.hi x.lo l.storage w.vector handed.sr pc j out
    ∙ sym (byte_is (memory_of l) j)
    in
    let small : Bytes answer.storage = rw x.storage-is (values.framed-bytes l.storage sp w.vector handed.sr pc given.1) in
    let handler : x.handler < 2 ^ 32 = rw x.handler-is (value_lt answer.storage x.place 4 small) in
    record {
      way = w;
      typed = (
        rw x.state-is (values.handler-typed handed w.on.typed (swaps_in handed level) _ (values.status-word _) (frame_place sp) x.handler (minus-below _ 4) handler),
        small,
      );
      taken = rw w.is (entered-admitted s (memory_of l) (first-admitted s l w.ready) handed level w.vector pc w.on.admits);
      in_s = n.in_s;
      low = rw n.at_frame (frame_low sp (length l.storage) f short x.hi x.lo);
      below = rw n.at_frame (frame_below sp (length l.storage) f short x.hi x.lo);
      as_long = ap length x.storage-is ∙ simp length_store;
      outside = rw n.at_frame byte;
      others = rw x.state-is (handler-others handed level _ x.handler);
    }

-- ---- what holds wherever is reached: of each entry not returned from, its frame is still there

record Pends (e : Pending) (l : Lent) : Type 0 where
  state : Cpu
  lent : Lent
  entered : Entered state lent e.handed e.pc e.answer
  done : e.answer.stepped.reply ≡ Done
  as_much : length l.storage ≡ length e.answer.storage
  same_frame : (j : ℕ) → j < 8 → number_at (memory_of l) (plus (frame_of e) j) Byte ≡ number_at (memory_of (afterwards lent e.answer)) (plus (frame_of e) j) Byte

abbrev AllPend : List Pending → Lent → Type 0
AllPend [] l = Unit {0}
AllPend (e ∷ es) l = Pends e l × AllPend es l

record Holds (es : List Pending) (s : Cpu) (l : Lent) : Type 0 where
  typed : Values s l.storage
  taken : admitted s ≡ true
  pend : AllPend es l

-- work keeps them
all-pend : (es : List Pending) (l l' : Lent) → length l'.storage ≡ length l.storage → SameFrames es (memory_of l) (memory_of l') → AllPend es l → AllPend es l'
all-pend [] l l' n same a = tt
all-pend (e ∷ es) l l' n same a =
    let p : Pends e l = a.0 in (
      record {
        state = p.state;
        lent = p.lent;
        entered = p.entered;
        done = p.done;
        as_much = n ∙ p.as_much;
        same_frame = λ j h. same.0 j h ∙ p.same_frame j h;
      },
      all-pend es l l' n same.1 a.1,
    )

plus-small : (a j : ℕ) → a ≤ longest → j < 8 → plus a j ≡ a + j
unfolding plus
plus-small a j h k = omega arith

-- and so do bytes that change at a alone, where no frame is
frames_same : (a : ℕ) (es : List Pending) (l l' : Lent) → AllPend es l → TouchesNone a es
    → ((j : ℕ) → (j < a) ⊎ (a + 8 ≤ j) → number_at (memory_of l') j Byte ≡ number_at (memory_of l) j Byte) → SameFrames es (memory_of l) (memory_of l')
frames_same a [] l l' p apart same = tt
frames_same a (e ∷ es) l l' p apart same = (
  λ j h. rw (plus-small (frame_of e) j p.0.entered.low h) (same (frame_of e + j) (⊎_elim (λ x. inr (omega arith)) (λ x. inl (omega arith)) apart.0)),
  frames_same a es l l' p.1 apart.1 same,
)

entry-holds : (es : List Pending) (s : Cpu) (l : Lent) (handed : Cpu) (pc : ℕ) (answer : Outcome) → Holds es s l → Entered s l handed pc answer → answer.stepped.reply ≡ Done
    → TouchesNone (a7_after answer) es → Holds (pending handed pc answer ∷ es) answer.stepped.cpu (afterwards l answer)
entry-holds es s l handed pc answer h n done apart =
    let top : Pends (pending handed pc answer) (afterwards l answer) = record { state = s; lent = l; entered = n; done = done; as_much = refl; same_frame = λ j k. refl } in
    record {
      typed = n.typed;
      taken = n.taken;
      pend = (top, all-pend es l (afterwards l answer) n.as_long (frames_same _ es l (afterwards l answer) h.pend apart n.outside) h.pend);
    }

going : (e : Pending) (es : List Pending) (s : Cpu) (l : Lent) (answer : Outcome) → Holds (e ∷ es) s l → AtReturn (left_by e) s → Returns s l answer
    → Gone e.handed e.pc s l answer
going e es s l answer h at_return returns =
    let p : Pends e l = h.pend.0 in
    let kept : AsLeft (left_by e) (afterwards p.lent e.answer) s l = record { at_return = at_return; as_much = p.as_much; same_frame = p.same_frame } in
    gone p.state p.lent e.handed e.pc e.answer p.entered.way p.done s l answer h.typed h.taken kept returns

return-holds : (e : Pending) (es : List Pending) (s : Cpu) (l : Lent) (answer : Outcome) → Holds (e ∷ es) s l → Gone e.handed e.pc s l answer
    → Holds es answer.stepped.cpu (afterwards l answer)
return-holds e es s l answer h g =
    let s₃ : Cpu = undone_state e.handed g.level g.at e.pc s in
    let k : Holds es s₃ l = record { typed = (g.typed, h.typed.1); taken = rw g.is at g.taken; pend = h.pend.1 } in
    rw g.is k

holds : (es : List Pending) (s : Cpu) (l : Lent) → Reached es s l → Holds es s l
holds es s l (start typed taken) = record { typed = typed; taken = taken; pend = tt }
holds es s l (entry r enters done apart) =
    let h : Holds _ _ _ = holds _ _ _ r in
    entry-holds _ _ _ _ _ _ h (entered_so _ _ _ _ _ h.typed enters done) done apart
holds es s l (work r typed taken n same) = record { typed = typed; taken = taken; pend = all-pend es _ l n same (holds _ _ _ r).pend }
holds es s l (return r at_return returns) =
    let h : Holds (_ ∷ es) _ _ = holds _ _ _ r in
    return-holds _ es _ _ _ h (going _ es _ _ _ h at_return returns)

-- what is reached is a state and a memory as the types say, and the state is admitted
pub reached-fits : {es : List Pending} {s : Cpu} {l : Lent} → Reached es s l → Values s l.storage × (admitted s ≡ true)
reached-fits r =
    let h : Holds _ _ _ = holds _ _ _ r in
    (h.typed, h.taken)

pub entries_nest : EntriesNest
entries_nest e es s l answer r at_return returns =
    gone_undoes _ _ _ _ _ (going e es s l answer (holds (e ∷ es) s l r) at_return returns)

-- ---- frames one above the other

at_most_less : (x y : ℕ) (es : List Pending) → x ≤ y → AtMost y es → AtMost x es
at_most_less x y [] h a = tt
at_most_less x y (e ∷ es) h a = omega arith

touches_none : (a : ℕ) (es : List Pending) → AtMost (a + 8) es → Stacked es → TouchesNone a es
touches_none a [] h st = tt
touches_none a (e ∷ es) h st = (inl h, touches_none a es (at_most_less (a + 8) (frame_of e + 8) es (omega arith) st.0) st.1)

-- the pointer is the one that the test of CACR and S picks
below_so : (es : List Pending) (s : Cpu) (l : Lent) (handed : Cpu) (pc : ℕ) (answer : Outcome) (n : Entered s l handed pc answer) → Stacked es
    → AtMost (sp_in handed n.way.level) es → TouchesNone (a7_after answer) es × Stacked (pending handed pc answer ∷ es)
below_so es s l handed pc answer n st h =
    let under : AtMost (a7_after answer + 8) es = at_most_less _ _ es n.below h in
    (touches_none _ es under st, (under, st))

by-pointer : (when : Cpu → Type 0) (pointer : Cpu → ℕ) → ((s : Cpu) (level : Option ℕ) → when s → sp_in s level ≡ pointer s) → FrameBelow when pointer
by-pointer when pointer is es s l handed pc answer typed enters done st h under =
    let n : Entered s l handed pc answer = entered_so s l handed pc answer typed enters done in
    below_so es s l handed pc answer n st (rw (is handed n.way.level h) under)

module _ (s : Cpu) (level : Option ℕ) where
  one_pointer : two_stacks s ≡ false → sp_in s level ≡ address_of s.r 7
  one_pointer h = rw h

  no-swap : supervisor s.sr ≡ true → sp_in s level ≡ address_of s.r 7
  no-swap h = rw (h, laws.handler-s level s.sr) (never (two_stacks s))
    where
      never : (b : Bool) → cond (b && false) s.other (address_of s.r 7) ≡ address_of s.r 7
      never true = refl
      never false = refl

  swap : (two_stacks s ≡ true) × (supervisor s.sr ≡ false) → sp_in s level ≡ s.other
  swap h = rw (h.0, h.1, laws.handler-s level s.sr)

pub frames_below : FramesBelow
frames_below = record { one_stack = by-pointer _ _ one_pointer; in_supervisor = by-pointer _ _ no-swap; from_user = by-pointer _ _ swap }

-- ---- with nothing run between

undone-others : (s : Cpu) (level : Option ℕ) (at pc : ℕ) (s₂ : Cpu) → Others s₂ (undone_state s level at pc s₂)
unfolding with_pc
undone-others s level at pc s₂ =
    let t : Cpu = with_address 7 (sp_in s level) (with_pc at s₂) in
    let a : Others (with_pc at s₂) t = address-others (sp_in s level) (with_pc at s₂) in
    let b : Others t (laws.after (swaps_in s level) s.sr t) = after-others (swaps_in s level) s.sr t in
    record { but_a7 = b.but_a7 ∙ a.but_a7; vbr = b.vbr ∙ a.vbr; cacr = b.cacr ∙ a.cacr; emac = b.emac ∙ a.emac }

-- registers that are the same but for A7, and have the same A7
all-registers : (g g' : List ℕ) → set g' 15 0 ≡ set g 15 0 → address_of g' 7 ≡ address_of g 7 → g' ≡ g
unfolding address_of
all-registers g g' h a =
    sym (set-set g' 15 0 (get_or g' 15 0) ∙ set-get_or g' 15 0)
    ∙ ap (λ (x : List ℕ). set x 15 (get_or g' 15 0)) h
    ∙ ap (λ (x : ℕ). set (set g 15 0) 15 x) a
    ∙ set-set g 15 0 (get_or g 15 0)
    ∙ set-get_or g 15 0

-- a return on the state that the entry left, or one with the same registers: those from which the entry was made are back
module _ (s₀ : Cpu) (e : Pending) (t : Cpu) (l : Lent) (answer : Outcome) (handed : SameRegisters s₀ e.handed) (others : Others e.handed (left_by e))
    (same : SameRegisters (left_by e) t) (g : Gone e.handed e.pc t l answer) where
  return-same : SameRegisters s₀ answer.stepped.cpu
  return-same =
      let s₃ : Cpu = undone_state e.handed g.level g.at e.pc t in
      let u : Others t s₃ = undone-others e.handed g.level g.at e.pc t in
      let but_a7 : set s₃.r 15 0 ≡ set e.handed.r 15 0 = u.but_a7 ∙ ap (λ (x : List ℕ). set x 15 0) same.same-r ∙ others.but_a7 in
      let x : SameRegisters s₀ s₃ = record {
        same-r = all-registers e.handed.r s₃.r but_a7 g.back.a7_back ∙ handed.same-r;
        same-sr = g.back.sr-back ∙ handed.same-sr;
        same-other = g.back.other-back ∙ handed.same-other;
        same-vbr = u.vbr ∙ same.same-vbr ∙ others.vbr ∙ handed.same-vbr;
        same-cacr = u.cacr ∙ same.same-cacr ∙ others.cacr ∙ handed.same-cacr;
        same-emac = u.emac ∙ same.same-emac ∙ others.emac ∙ handed.same-emac;
      }
      in
      rw g.is x

pub same_but_pc : (v : ℕ) (s : Cpu) → SameRegisters s (with_pc v s)
unfolding with_pc
same_but_pc v s = record { same-r = refl; same-sr = refl; same-other = refl; same-vbr = refl; same-cacr = refl; same-emac = refl }

pub same-registers : (s : Cpu) → SameRegisters s s
unfolding with_pc
same-registers s = same_but_pc s.pc s

same-at_return : (s t : Cpu) → SameRegisters s t → AtReturn s t
same-at_return s t r = record {
  same_s = ap supervisor r.same-sr;
  same-cacr = ap (λ (x : ℕ). eqb (x / 0x20 % 2) 1) r.same-cacr;
  same_a7 = ap (λ (x : List ℕ). address_of x 7) r.same-r;
  same-other = r.same-other;
}

-- what holds after a chain of entries: the latest left the state s₁ with A7 at its frame
abbrev AtLatest : List Pending → Cpu → Type 0
AtLatest [] s₁ = Unit {0}
AtLatest (e ∷ es) s₁ = (supervisor s₁.sr ≡ true) × (address_of s₁.r 7 ≡ frame_of e)

record Chained (l : Lent) (es : List Pending) (s₁ : Cpu) (l₁ : Lent) : Type 0 where
  hold : Holds es s₁ l₁
  stacked : Stacked es
  latest : AtLatest es s₁
  as_much : length l₁.storage ≡ length l.storage
  bytes : (j : ℕ) → OutsideFrames es j → number_at (memory_of l₁) j Byte ≡ number_at (memory_of l) j Byte

-- the pointer that the next entry takes
next_under : (es : List Pending) (s₁ handed : Cpu) (level : Option ℕ) → AtLatest es s₁ → SameRegisters s₁ handed → AtMost (sp_in handed level) es
next_under [] s₁ handed level a r = tt
next_under (e ∷ es) s₁ handed level a r =
    let x : sp_in handed level ≡ frame_of e = no-swap handed level (ap supervisor r.same-sr ∙ a.0) ∙ ap (λ (x : List ℕ). address_of x 7) r.same-r ∙ a.1 in
    omega arith

module _ (s : Cpu) (l : Lent) (typed : Values s l.storage) (taken : admitted s ≡ true) where
  chained : (es : List Pending) (s₁ : Cpu) (l₁ : Lent) → Entries s l es s₁ l₁ → Chained l es s₁ l₁
  chained es s₁ l₁ none = record { hold = record { typed = typed; taken = taken; pend = tt }; stacked = tt; latest = tt; as_much = refl; bytes = λ j o. refl }
  chained es s₁ l₁ (entry {es = es'} {s₁ = s'} {l₁ = l'} {handed = handed} {pc = pc} {answer = answer} chain enters same done) =
      let c : Chained l es' s' l' = chained es' s' l' chain in
      let n : Entered s' l' handed pc answer = entered_so s' l' handed pc answer c.hold.typed enters done in
      let f : TouchesNone (a7_after answer) es' × Stacked (pending handed pc answer ∷ es') =
      below_so es' s' l' handed pc answer n c.stacked (next_under es' s' handed n.way.level c.latest same)
      in
      record {
        hold = entry-holds es' s' l' handed pc answer c.hold n done f.0;
        stacked = f.1;
        latest = (n.in_s, refl);
        as_much = n.as_long ∙ c.as_much;
        bytes = λ j o. n.outside j o.0 ∙ c.bytes j o.1;
      }

-- the returns
record UnwoundTo (s : Cpu) (es : List Pending) (t : Cpu) (n : Lent) (answers : List Outcome) (s₂ : Cpu) (l₂ : Lent) : Type 0 where
  all_done : AllDone answers
  registers-back : SameRegisters s s₂
  pc-back : s₂.pc ≡ outermost_pc t.pc es
  memory_kept : l₂ ≡ n

module _ (s : Cpu) (l : Lent) where
  unwind : (es : List Pending) (s₁ : Cpu) (l₁ : Lent) (t : Cpu) (n : Lent) (answers : List Outcome) (s₂ : Cpu) (l₂ : Lent)
      → Entries s l es s₁ l₁ → Holds es t n → SameRegisters s₁ t → Unwound s₂ l₂ answers t n → length answers ≡ length es → UnwoundTo s es t n answers s₂ l₂
  unwind es s₁ l₁ t n answers s₂ l₂ none h r none k = record { all_done = tt; registers-back = r; pc-back = refl; memory_kept = refl }
  unwind es s₁ l₁ t n answers s₂ l₂ none h r (return returns rest) k = absurd (omega arith)
  unwind es s₁ l₁ t n answers s₂ l₂ (entry chain enters same done) h r none k = absurd (omega arith)
  unwind es s₁ l₁ t n answers s₂ l₂ (entry {es = es'} {s₁ = s'} {l₁ = l'} {handed = handed} {pc = pc} {answer = answer} chain enters same done) h r (return {answers = bs} {answer = b} returns rest) k =
      let e : Pending = pending handed pc answer in
      let g : Gone handed pc t n b = going e es' t n b h (same-at_return _ t r) returns in
      let u : UnwoundTo s es' b.stepped.cpu (afterwards n b) bs s₂ l₂ =
      unwind es' s' l' b.stepped.cpu (afterwards n b) bs s₂ l₂ chain (return-holds e es' t n b h g) (return-same s' e t n b same h.pend.0.entered.others r g) rest (omega arith)
      in
      let v : Undoes handed pc n.storage b = gone_undoes _ _ _ _ _ g in
      record {
        all_done = (v.done, u.all_done);
        registers-back = u.registers-back;
        pc-back = u.pc-back ∙ ap (λ (x : ℕ). outermost_pc x es') v.back.pc-back;
        memory_kept = u.memory_kept ∙ ap (lent_on n) v.memory_kept;
      }

  same_outermost : (es : List Pending) (s₁ : Cpu) (l₁ : Lent) → Entries s l es s₁ l₁ → outermost_pc s₁.pc es ≡ outermost_pc s.pc es
  same_outermost es s₁ l₁ none = refl
  same_outermost es s₁ l₁ (entry chain enters same done) = refl

pub nothing-between : NothingBetween
nothing-between s l es s₁ l₁ answers s₂ l₂ typed taken chain back k =
    let c : Chained l es s₁ l₁ = chained s l typed taken es s₁ l₁ chain in
    let u : UnwoundTo s es s₁ l₁ answers s₂ l₂ = unwind s l es s₁ l₁ s₁ l₁ answers s₂ l₂ chain c.hold (same-registers s₁) back k in
    record {
      all_done = u.all_done;
      registers-back = u.registers-back;
      pc-back = u.pc-back ∙ same_outermost s l es s₁ l₁ chain;
      as_much = ap (λ (x : Lent). length x.storage) u.memory_kept ∙ c.as_much;
      bytes_back = λ j o. ap (λ (x : Lent). number_at (memory_of x) j Byte) u.memory_kept ∙ c.bytes j o;
    }
