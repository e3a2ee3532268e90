-- Entry is undone by return. Document: demand 3, and "Port order", 5.
--
-- An entry succeeded from an admitted state. The return runs on an admitted state and as much memory, in which S, CACR bit 5,
-- A7, the other pointer and the eight bytes of the frame are as the entry left them. Then the return succeeds, memory is as
-- it was, and SR, A7, the other pointer and the program counter that were handed to the entry are back.
-- The entries are the calls `exception`, at every level, and `interrupt`, and a step that enters a vector, TRAP among them; the
-- returns are the call `rte` and the word RTE as a step. Assumes nothing.
use Prim.Native.Nat.{ℕ, ◌+◌, ◌/◌, ◌%◌, ◌^◌, ◌≤◌, ◌<◌}
use Rattle.std.specs.Prelude.{◌≡◌, refl, true, false, eqb, ltb, length, Option, Some, None}
use Rattle.std.proofs.Math.Path.{sym, ap}
use Rattle.std.proofs.Common.{subst, ◌∙◌, arith, length-set}
use Rattle.std.proofs.Math.Bool.{Bool, cond}
use Rattle.std.proofs.Math.ListN.{get_or}
use Rattle.manual.specs.declared.Cpu.{Cpu}
use Rattle.manual.specs.declared.Write.{Write}
use Rattle.manual.specs.declared.Size.TheVariants.{Byte, Word}
use Rattle.manual.specs.declared.Reply.TheVariants.{Done, OutOfRange, Masked}
use Rattle.manual.specs.Word.{plus}
use Rattle.manual.specs.Registers.{address_of, no_write, written, with_parts, with_address, with_pc, with_stopped}
use Rattle.manual.specs.Memory.{Storage, Memory, storage_of, number_at, value_at}
use Rattle.manual.specs.Reply.{number_of, Outcome, completed, unchanged}
use Rattle.manual.specs.Admitted.{status, admitted}
use Rattle.manual.specs.Lent.{Lent, memory_of, lent_on}
use Rattle.manual.specs.Differences.{frame_bytes, vector_place}
use Rattle.manual.specs.Exceptions.{supervisor, two_stacks, set_sr, handler_sr, frame_long, pc_place, frame_place, handler_state, entered, return_state, returned, level_taken, masked, exception, interrupt, rte}
use Rattle.instructions.specs.Rows.{place_in}
use Rattle.instructions.specs.Step.{step}
use Rattle.word.specs.WordLaws.{plus-below}
use Rattle.memory.specs.MemoryLaws.{length_store}
use Rattle.state.specs.AdmittedLaws.{admitted-status, pc-admitted}
use Rattle.state.specs.FirstLaws.{first-admitted, first-kept}
use Rattle.exceptions.specs.EntryAdmitted.{returned-admitted}
use Rattle.block.specs.Typed.{Typed}
use Rattle.demands.specs.Accesses.{Inside}
use Rattle.demands.specs.Effects.{Effect, nothing, stores, pushes_status, stores_many, loads_many, enters, returns, Vector, Lawful, handed, effects4, effect, effect_of}
use Rattle.demands.specs.Exact.{Values, Ready, numbered}
use Rattle.demands.specs.AccessLaws.{byte_is}
use Rattle.demands.specs.EntryLaws as laws
use Rattle.demands.specs.StepLaws as steps
use Rattle.demands.specs.ValueLaws as values
use Rattle.demands.specs.Refusals.{done-is}
use Rattle.demands.specs.TypedLaws.{handed-typed}
use Rattle.demands.specs.EffectLaws.{VectorFits, vector-fits, EntersBy, Performs}
use Rattle.demands.specs.StepReplies.{of_effect}

-- the entries from the state s and what is lent, l: the registers and the program counter that the entry is handed, and what it answers.
-- A step enters where its row does (Effects), and hands on the registers after its operand's move
pub data Enters (s : Cpu) (l : Lent) : Cpu → ℕ → Outcome → Type 0 where
  by-exception : (vector pc : ℕ) (level : Option ℕ) → vector < 256 → pc < 2 ^ 32 → Enters s l s pc (exception s l vector pc level)
  by-interrupt : (vector level : ℕ) → vector < 256 → Enters s l s s.pc (interrupt s l vector level)
  by-step : (w : Write) (vector pc : ℕ) → effect_of s (memory_of l) ≡ enters w vector pc → Enters s l (handed w pc s) pc (step s l)

-- the returns on the state s and what is lent, l, and what they answer
pub data Returns (s : Cpu) (l : Lent) : Outcome → Type 0 where
  by-rte : Returns s l (rte s l)
  by_word : s.stopped ≡ false → Inside (memory_of l) s.pc 2 → number_at (memory_of l) s.pc Word ≡ 0x4E73 → Returns s l (step s l)

-- the state at the return, s₂, against the one that the entry left, s₁
pub record AtReturn (s₁ s₂ : Cpu) : Type 0 where
  pub same_s : supervisor s₂.sr ≡ supervisor s₁.sr
  pub same-cacr : two_stacks s₂ ≡ two_stacks s₁
  pub same_a7 : address_of s₂.r 7 ≡ address_of s₁.r 7
  pub same-other : s₂.other ≡ s₁.other

-- and with what is lent, l₂ against l₁
pub record AsLeft (s₁ : Cpu) (l₁ : Lent) (s₂ : Cpu) (l₂ : Lent) : Type 0 where
  pub at_return : AtReturn s₁ s₂
  pub as_much : length l₂.storage ≡ length l₁.storage
  pub same_frame : (j : ℕ) → j < 8
      → let a : ℕ = plus (address_of s₁.r 7) j in
      number_at (memory_of l₂) a Byte ≡ number_at (memory_of l₁) a Byte

-- the state after the return, s₃, against the registers s and the program counter that were handed to the entry
pub record Back (s : Cpu) (pc : ℕ) (s₃ : Cpu) : Type 0 where
  pub sr-back : s₃.sr ≡ s.sr
  pub a7_back : address_of s₃.r 7 ≡ address_of s.r 7
  pub other-back : s₃.other ≡ s.other
  pub pc-back : s₃.pc ≡ pc

-- what the return answers, b₂ being storage before it
pub record Undoes (s : Cpu) (pc : ℕ) (b₂ : Storage) (answer : Outcome) : Type 0 where
  pub done : answer.stepped.reply ≡ Done
  pub memory_kept : answer.storage ≡ b₂
  pub back : Back s pc answer.stepped.cpu

abbrev pub EntryIsUndone : Type 0
EntryIsUndone =
    (s : Cpu) (l : Lent) (handed : Cpu) (pc : ℕ) (entry : Outcome) → Values s l.storage → Enters s l handed pc entry → entry.stepped.reply ≡ Done
    → (s₂ : Cpu) (l₂ : Lent) (answer : Outcome) → Values s₂ l₂.storage → admitted s₂ ≡ true
    → AsLeft entry.stepped.cpu (lent_on l entry.storage) s₂ l₂ → Returns s₂ l₂ answer
    → Undoes handed pc l₂.storage answer

-- every step that is done and gives a vector: the row's vector and program counter, w being its operand's move
pub record StepEntry (s : Cpu) (l : Lent) : Type 0 where
  pub w : Write
  pub vector : ℕ
  pub pc : ℕ
  pub listed : effect_of s (memory_of l) ≡ enters w vector pc
  -- illegal, privilege, line A and line F with the word's program counter, divide by zero and TRAP with the next one's
  pub kind : Vector s.pc w vector pc
  pub vector-is : (step s l).stepped.vector ≡ vector
  -- it is entered from the registers after the operand's move
  pub is : step s l ≡ entered s (handed w pc s) None vector pc (memory_of l)

pub record EveryEntry : Type 0 where
  pub step-enters : (s : Cpu) (l : Lent) → numbered (step s l) ≡ 0 → ((step s l).stepped.vector ≡ 0 → ⊥) → StepEntry s l
  -- and its return undoes it
  pub step-undone : (s : Cpu) (l : Lent) → Values s l.storage → numbered (step s l) ≡ 0 → (e : StepEntry s l)
      → (s₂ : Cpu) (l₂ : Lent) (answer : Outcome) → Values s₂ l₂.storage → admitted s₂ ≡ true
      → AsLeft (step s l).stepped.cpu (lent_on l (step s l).storage) s₂ l₂ → Returns s₂ l₂ answer
      → Undoes (handed e.w e.pc s) e.pc l₂.storage answer
  -- a TRAP hands on the registers as they are, and the program counter after its word
  pub trap-enters : (s : Cpu) (l : Lent) (n : ℕ) → n < 16 → number_at (memory_of l) s.pc Word ≡ 0x4E40 + n
      → let next : ℕ = plus s.pc 2 in
      Enters s l (with_pc next s) next (step s l)

-- ---- the proofs

handed-admitted : (s : Cpu) (w : Write) (pc : ℕ) → admitted s ≡ true → admitted (handed w pc s) ≡ true
unfolding admitted with_parts
handed-admitted s w pc h = h

-- what is handed to an entry is a state as the types say, and admitted
pub record HandedOn (handed : Cpu) : Type 0 where
  pub typed : Typed handed
  pub admits : admitted handed ≡ true

-- every entry is `entered`, of the registers that it is handed, and every return is `returned`, of the state with some program counter

pub record Way (s : Cpu) (l : Lent) (handed : Cpu) (pc : ℕ) (entry : Outcome) : Type 0 where
  pub level : Option ℕ
  pub vector : ℕ
  pub ready : Ready s l
  pub on : HandedOn handed
  pub small : vector < 256
  pub fits : pc < 2 ^ 32
  pub is : entry ≡ entered s handed level vector pc (memory_of l)

pub way : (s : Cpu) (l : Lent) (handed : Cpu) (pc : ℕ) (entry : Outcome) → Values s l.storage → Enters s l handed pc entry → entry.stepped.reply ≡ Done
    → Way s l handed pc entry
unfolding exception interrupt
way s l given pc entry typed (by-exception vector at level v p) e =
    let m : Memory = memory_of l in
    let w : laws.Open s l (cond (level_taken level) (entered s s level vector pc m) (unchanged s OutOfRange m)) (exception s l vector pc level) = laws.opened s l _ e in
    record {
      level = level;
      vector = vector;
      ready = w.ready;
      on = record { typed = typed.0; admits = first-admitted s l w.ready };
      small = v;
      fits = p;
      is = w.same ∙ laws.passed (level_taken level) OutOfRange laws.out_of_range_not s m _ (rw w.same at e);
    }
way s l given pc entry typed (by-interrupt vector level v) e =
    let m : Memory = memory_of l in
    let i : Outcome = entered s s (Some level) vector s.pc m in
    let k : Outcome = cond (masked s.sr level) (unchanged s Masked m) i in
    let w : laws.Open s l (cond (ltb level 8) k (unchanged s OutOfRange m)) (interrupt s l vector level) = laws.opened s l _ e in
    let one : cond (ltb level 8) k (unchanged s OutOfRange m) ≡ k = laws.passed (ltb level 8) OutOfRange laws.out_of_range_not s m k (rw w.same at e) in
    record {
      level = Some level;
      vector = vector;
      ready = w.ready;
      on = record { typed = typed.0; admits = first-admitted s l w.ready };
      small = v;
      fits = typed.0.pc-long;
      is = w.same ∙ one ∙ laws.not-passed (masked s.sr level) Masked laws.masked-not s m i (rw (w.same, one) at e);
    }
way s l given pc entry typed (by-step w vector at h) e =
    let m : Memory = memory_of l in
    let p : Performs s m (effect_of s m) (step s l) = of_effect s l (ap number_of e) in
    let f : VectorFits s.pc w vector pc = vector-fits (subst (Lawful s.pc) h p.lawful) in
    let ready : Ready s l = (steps.stepped s l e).ready in
    record {
      level = None;
      vector = vector;
      ready = ready;
      on = record { typed = handed-typed s w pc typed.0 f.move-long (f.pc-long typed.0.pc-long); admits = handed-admitted s w pc (first-admitted s l ready) };
      small = f.small;
      fits = f.pc-long typed.0.pc-long;
      is = subst (EntersBy s m (step s l)) h p.enters-by;
    }

record WayBack (s : Cpu) (l : Lent) (answer : Outcome) : Type 0 where
  at : ℕ
  at_long : at < 2 ^ 32
  is : answer ≡ returned s (with_pc at s) (memory_of l)

way_back : (s : Cpu) (l : Lent) (answer : Outcome) → Values s l.storage → Ready s l → supervisor s.sr ≡ true → Returns s l answer → WayBack s l answer
unfolding rte
way_back s l answer typed ready h by-rte =
    record { at = s.pc; at_long = typed.0.pc-long; is = rw (steps.same-pc s) (laws.goes_on s l _ ready) }
way_back s l answer typed ready h (by_word awake i w) =
    record { at = plus s.pc 2; at_long = plus-below s.pc 2; is = steps.step-rte s l ready awake i w h }

-- ---- what an entry leaves: b says whether the pointers change places, sp is then A7

abbrev pub swaps_in : Cpu → Option ℕ → Bool
swaps_in s level = laws.swaps (handler_sr level s.sr) s

abbrev pub sp_in : Cpu → Option ℕ → ℕ
sp_in s level = cond (swaps_in s level) s.other (address_of s.r 7)

-- the state with the handler's status register
abbrev pub turned : Cpu → Option ℕ → Cpu
turned s level = laws.after (swaps_in s level) (status (handler_sr level s.sr)) s

pub record Left (s : Cpu) (m : Memory) (pc : ℕ) (level : Option ℕ) (vector : ℕ) (s₁ : Cpu) (b₁ : Storage) : Type 0 where
  pub handler : ℕ
  pub place : ℕ
  pub handler-is : handler ≡ value_at b₁ place 4
  pub state-is : s₁ ≡ handler_state (turned s level) (frame_place (sp_in s level)) handler
  pub storage-is : b₁ ≡ laws.frame_on (storage_of m) (sp_in s level) vector s.sr pc
  pub hi : pc_place (sp_in s level) + 4 ≤ length (storage_of m)
  pub lo : frame_place (sp_in s level) + 4 ≤ length (storage_of m)

entry-left : (given s : Cpu) (level : Option ℕ) (vector pc : ℕ) (m : Memory) → length s.r ≡ 16
    → (entered given s level vector pc m).stepped.reply ≡ Done
    → Left s m pc level vector (entered given s level vector pc m).stepped.cpu (entered given s level vector pc m).storage
entry-left given s level vector pc m n e =
    let v : ℕ = handler_sr level s.sr in
    let sp : ℕ = address_of (set_sr v s).r 7 in
    let o : Outcome = entered given s level vector pc m in
    let w : laws.Went s m vector pc (set_sr v s) sp o = laws.went given s level vector pc m e in
    let es : set_sr v s ≡ turned s level = laws.set_sr-is v s in
    let ep : sp ≡ sp_in s level = ap (λ (x : Cpu). address_of x.r 7) es ∙ laws.a7_after_lem (status v) s (swaps_in s level) n in
    let handler : ℕ = value_at o.storage (vector_place s.vbr vector) 4 in
    record {
      handler = handler;
      place = vector_place s.vbr vector;
      handler-is = refl;
      state-is = w.state ∙ ap (λ (x : Cpu). handler_state x (frame_place sp) handler) es ∙ ap (λ (x : ℕ). handler_state (turned s level) (frame_place x) handler) ep;
      storage-is = w.storage ∙ ap (λ (x : ℕ). laws.frame_on (storage_of m) x vector s.sr pc) ep;
      hi = rw ep at w.hi;
      lo = rw ep at w.lo;
    }

pub way-left : (s : Cpu) (l : Lent) (handed : Cpu) (pc : ℕ) (entry : Outcome) (w : Way s l handed pc entry) → entry.stepped.reply ≡ Done
    → Left handed (memory_of l) pc w.level w.vector entry.stepped.cpu entry.storage
way-left s l handed pc entry w e =
    rw w.is (entry-left s handed w.level w.vector pc (memory_of l) w.on.typed.sixteen (rw w.is at e))

-- the named things of it
pub record Named (s : Cpu) (level : Option ℕ) (s₁ : Cpu) : Type 0 where
  pub at_frame : address_of s₁.r 7 ≡ frame_place (sp_in s level)
  pub in_s : supervisor s₁.sr ≡ true
  pub cacr-is : two_stacks s₁ ≡ two_stacks s
  pub other-is : s₁.other ≡ cond (swaps_in s level) (address_of s.r 7) s.other

pub named : (s : Cpu) (m : Memory) (pc : ℕ) (level : Option ℕ) (vector : ℕ) (s₁ : Cpu) (b₁ : Storage) → length s.r ≡ 16
    → Left s m pc level vector s₁ b₁ → Named s level s₁
unfolding handler_state with_stopped with_address with_pc
named s m pc level vector s₁ b₁ n went =
    let b : Bool = swaps_in s level in
    let v : ℕ = status (handler_sr level s.sr) in
    record {
      at_frame = ap (λ (x : Cpu). address_of x.r 7) went.state-is ∙ laws.a7_with (frame_place (sp_in s level)) (turned s level) (laws.long_after v s b ∙ n);
      in_s = ap (λ (x : Cpu). supervisor x.sr) went.state-is ∙ ap supervisor (laws.sr-after v s b) ∙ laws.handler-s level s.sr;
      cacr-is = ap (λ (x : ℕ). eqb (x / 0x20 % 2) 1) (ap (λ (x : Cpu). x.cacr) went.state-is ∙ laws.cacr-after v s b);
      other-is = ap (λ (x : Cpu). x.other) went.state-is ∙ laws.other_after v s b;
    }

-- ---- the return finds the frame, and with it the registers; the pointers change places again where they did before

-- the state after it
abbrev pub undone_state : Cpu → Option ℕ → ℕ → ℕ → Cpu → Cpu
undone_state s level at pc s₂ = with_pc pc (laws.after (swaps_in s level) s.sr (with_address 7 (sp_in s level) (with_pc at s₂)))

pub sp-long : (s : Cpu) (level : Option ℕ) → Typed s → sp_in s level < 2 ^ 32
unfolding address_of
sp-long s level typed = pick (swaps_in s level) typed.other-long (typed.registers 15)
  where
    pick : (b : Bool) → s.other < 2 ^ 32 → get_or s.r 15 0 < 2 ^ 32 → cond b s.other (address_of s.r 7) < 2 ^ 32
    pick true x y = x
    pick false x y = y

undone-typed : (s : Cpu) (level : Option ℕ) (at pc : ℕ) (s₂ : Cpu) → Typed s → Typed s₂ → at < 2 ^ 32 → pc < 2 ^ 32 → Typed (undone_state s level at pc s₂)
undone-typed s level at pc s₂ typed typed₂ p f =
    let a : Typed (with_address 7 (sp_in s level) (with_pc at s₂)) = values.address-typed _ (values.pc-typed s₂ typed₂ at p) (sp_in s level) (sp-long s level typed) in
    values.pc-typed _ (values.after-typed _ a (swaps_in s level) s.sr typed.sr-word) pc f

module _ (s : Cpu) (m : Memory) (pc : ℕ) (level : Option ℕ) (vector : ℕ) (on : HandedOn s) (v : vector < 256) (p : pc < 2 ^ 32)
    (s₁ : Cpu) (l₁ : Lent) (went : Left s m pc level vector s₁ l₁.storage) (s₂ : Cpu) (l₂ : Lent) (n₂ : length s₂.r ≡ 16) (kept : AsLeft s₁ l₁ s₂ l₂) where
  abbrev b₂ : Storage
  b₂ = l₂.storage

  as_long : length b₂ ≡ length (storage_of m)
  as_long = kept.as_much ∙ ap length went.storage-is ∙ simp length_store

  returned-undone : (given : Cpu) (at₂ : ℕ) → returned given (with_pc at₂ s₂) (memory_of l₂) ≡ completed (undone_state s level at₂ pc s₂) 0 b₂
  unfolding return_state with_pc with_address
  returned-undone given at₂ =
      let n : Named s level s₁ = named s m pc level vector s₁ l₁.storage on.typed.sixteen went in
      let sp : ℕ = sp_in s level in
      let f : sp < 2 ^ 32 = sp-long s level on.typed in
      let low : ℕ = frame_place sp in
      let high : ℕ = pc_place sp in
      let w : ℕ = frame_long sp vector s.sr in
      let frame : (j : ℕ) → j < 8 → get_or b₂ (plus low j) 0 ≡ get_or (laws.frame_on (storage_of m) sp vector s.sr pc) (plus low j) 0 =
      λ j h. sym (byte_is (memory_of l₂) (plus low j)) ∙ rw n.at_frame at (kept.same_frame j h) ∙ byte_is (memory_of l₁) (plus low j) ∙ ap (λ (b : Storage). get_or b (plus low j) 0) went.storage-is
      in
      let ew : value_at b₂ low 4 ≡ w =
      laws.long-back (storage_of m) b₂ low high pc w (laws.low_byte sp f) (laws.high_byte sp f) (laws.apart sp f) went.hi went.lo frame (laws.long-fits sp vector s.sr v on.typed.sr-word)
      in
      let ep : value_at b₂ high 4 ≡ pc = laws.pc-back (storage_of m) b₂ low high pc w (laws.low_byte sp f) (laws.high_byte sp f) (laws.apart sp f) went.hi went.lo frame p in
      let up : plus low (frame_bytes (w / 0x1000_0000)) ≡ sp =
      ap (λ (x : ℕ). plus low (frame_bytes x)) (laws.long_format sp vector s.sr v on.typed.sr-word)
      ∙ ap (plus low) (laws.past_frame (sp % 4) (omega arith))
      ∙ laws.sp-again sp f
      in
      let ws : status w ≡ s.sr = laws.long-status sp vector s.sr ∙ admitted-status s on.admits in
      let t : Cpu = with_pc at₂ s₂ in
      let turn : laws.swaps w (with_address 7 sp t) ≡ swaps_in s level =
      rw (ws, kept.at_return.same_s, n.in_s, kept.at_return.same-cacr, n.cacr-is, laws.handler-s level s.sr) (laws.swaps-back (two_stacks s) (supervisor s.sr))
      in
      laws.left_in given t (memory_of l₂) low high w pc (kept.at_return.same_a7 ∙ n.at_frame) (laws.pc-above sp f) (rw as_long went.lo) (rw as_long went.hi) ew ep
      ∙ ap (λ (x : ℕ). completed (with_pc pc (set_sr w (with_address 7 x t))) 0 b₂) up
      ∙ ap (λ (x : Cpu). completed (with_pc pc x) 0 b₂) (laws.set_sr-is w (with_address 7 sp t))
      ∙ rw (turn, ws)

  undone-back : (at₂ : ℕ) → Back s pc (undone_state s level at₂ pc s₂)
  unfolding with_pc with_address
  undone-back at₂ =
      let n : Named s level s₁ = named s m pc level vector s₁ l₁.storage on.typed.sixteen went in
      let b : Bool = swaps_in s level in
      let t : Cpu = with_address 7 (sp_in s level) (with_pc at₂ s₂) in
      let t7 : address_of t.r 7 ≡ sp_in s level = laws.a7_with (sp_in s level) (with_pc at₂ s₂) n₂ in
      let o : s₂.other ≡ cond b (address_of s.r 7) s.other = kept.at_return.same-other ∙ n.other-is in
      record {
        sr-back = laws.sr-after s.sr t b;
        a7_back = laws.a7_after_lem s.sr t b (length-set s₂.r 15 (sp_in s level) ∙ n₂) ∙ rw (t7, o) (laws.twice b (address_of s.r 7) s.other);
        other-back = laws.other_after s.sr t b ∙ rw (t7, o) (laws.twice b s.other (address_of s.r 7));
        pc-back = refl;
      }

-- the return, as a whole
pub record Gone (handed : Cpu) (pc : ℕ) (s₂ : Cpu) (l₂ : Lent) (answer : Outcome) : Type 0 where
  pub level : Option ℕ
  pub at : ℕ
  pub is : answer ≡ completed (undone_state handed level at pc s₂) 0 l₂.storage
  pub typed : Typed (undone_state handed level at pc s₂)
  pub taken : admitted answer.stepped.cpu ≡ true
  pub back : Back handed pc (undone_state handed level at pc s₂)

module _ (s : Cpu) (l : Lent) (handed : Cpu) (pc : ℕ) (entry : Outcome) (w : Way s l handed pc entry) (e : entry.stepped.reply ≡ Done)
    (s₂ : Cpu) (l₂ : Lent) (answer : Outcome) (typed₂ : Values s₂ l₂.storage) (taken₂ : admitted s₂ ≡ true)
    (kept : AsLeft entry.stepped.cpu (lent_on l entry.storage) s₂ l₂) (back_by : Returns s₂ l₂ answer) where
  pub gone : Gone handed pc s₂ l₂ answer
  gone =
      let m : Memory = memory_of l in
      let l₁ : Lent = lent_on l entry.storage in
      let x : Left handed m pc w.level w.vector entry.stepped.cpu entry.storage = way-left s l handed pc entry w e in
      let n₂ : length s₂.r ≡ 16 = typed₂.0.sixteen in
      let long : length l₂.storage ≡ length l.storage = as_long handed m pc w.level w.vector w.on w.small w.fits _ l₁ x s₂ l₂ n₂ kept in
      let ready₂ : Ready s₂ l₂ = first-kept s s₂ l l₂.storage long taken₂ w.ready in
      let n : Named handed w.level entry.stepped.cpu = named handed m pc w.level w.vector _ _ w.on.typed.sixteen x in
      let r : WayBack s₂ l₂ answer = way_back s₂ l₂ answer typed₂ ready₂ (kept.at_return.same_s ∙ n.in_s) back_by in
      record {
        level = w.level;
        at = r.at;
        is = r.is ∙ returned-undone handed m pc w.level w.vector w.on w.small w.fits _ l₁ x s₂ l₂ n₂ kept s₂ r.at;
        typed = undone-typed handed w.level r.at pc s₂ w.on.typed typed₂.0 r.at_long w.fits;
        taken = rw r.is (returned-admitted s₂ (memory_of l₂) taken₂ (with_pc r.at s₂) (pc-admitted r.at s₂ taken₂));
        back = undone-back handed m pc w.level w.vector w.on w.small w.fits _ l₁ x s₂ l₂ n₂ kept r.at;
      }

pub gone_undoes : (handed : Cpu) (pc : ℕ) (s₂ : Cpu) (l₂ : Lent) (answer : Outcome) → Gone handed pc s₂ l₂ answer → Undoes handed pc l₂.storage answer
gone_undoes handed pc s₂ l₂ answer g = record {
  done = ap (λ (x : Outcome). x.stepped.reply) g.is;
  memory_kept = ap (λ (x : Outcome). x.storage) g.is;
  back = rw g.is g.back;
}

pub entry_is_undone : EntryIsUndone
entry_is_undone s l given pc entry typed entered_by e s₂ l₂ answer typed₂ taken₂ kept back_by =
    gone_undoes _ _ _ _ _ (gone s l given pc entry (way s l given pc entry typed entered_by e) e s₂ l₂ answer typed₂ taken₂ kept back_by)

-- ---- a step that gives a vector

entry_of : (s : Cpu) (l : Lent) (e : Effect) → effect_of s (memory_of l) ≡ e → Performs s (memory_of l) e (step s l) → numbered (step s l) ≡ 0
    → ((step s l).stepped.vector ≡ 0 → ⊥) → StepEntry s l
entry_of s l nothing h p d n = absurd (n (p.says d))
entry_of s l (stores a z v) h p d n = absurd (n (p.says d))
entry_of s l pushes_status h p d n = absurd (n (p.says d))
entry_of s l (stores_many regs a) h p d n = absurd (n (p.says d))
entry_of s l (loads_many regs a) h p d n = absurd (n (p.says d))
entry_of s l (enters w vector pc) h p d n = record { w = w; vector = vector; pc = pc; listed = h; kind = p.lawful; vector-is = p.says d; is = p.enters-by }
entry_of s l returns h p d n = absurd (n (p.says d))

trap-effect : (s : Cpu) (m : Memory) (n : ℕ) → n < 16 → number_at m s.pc Word ≡ 0x4E40 + n → effect_of s m ≡ enters no_write (32 + n) (plus s.pc 2)
unfolding effect effects4 place_in
trap-effect s m n h w =
    let line : (0x4E40 + n) / 0x1000 % 16 ≡ 4 = omega arith in
    let low : (0x4E40 + n) % 16 ≡ n = omega arith in
    rw (w, line, steps.trap-row n h, low)

trap-enters : (s : Cpu) (l : Lent) (n : ℕ) → n < 16 → number_at (memory_of l) s.pc Word ≡ 0x4E40 + n
    → let next : ℕ = plus s.pc 2 in
    Enters s l (with_pc next s) next (step s l)
unfolding with_parts with_pc written no_write
trap-enters s l n h w = by-step no_write (32 + n) (plus s.pc 2) (trap-effect s (memory_of l) n h w)

pub every_entry : EveryEntry
every_entry = record {
  step-enters = λ s l d n. entry_of s l (effect_of s (memory_of l)) refl (of_effect s l d) d n;
  step-undone = λ s l typed d e. entry_is_undone s l (handed e.w e.pc s) e.pc (step s l) typed (by-step e.w e.vector e.pc e.listed) (done-is _ d);
  trap-enters = trap-enters;
}
