-- Calls of a run one after the other are one call. Document 02, P6, of what a host calls: `harness::run` on a block and a memory, and
-- again on the block and memory that it left.
--
-- For every block and every memory, refused ones included: the bytes of the block and of memory, and the sum of the counts, are those of one
-- call with the sum of the budgets. The reply is the same when m is at least 1, or when a reply is given that comes before the run begins: 1 or
-- 2, and of a block also 8 or 9. Otherwise, with m at 0, the second call replies 0. Any list of calls likewise. What a call does depends on the
-- bytes of the block alone, so the second may be handed a copy of it, or what a file gave back. Assumes nothing.
use Rattle.std.specs.Prelude.{ℕ, zero, suc, ◌+◌, ◌*◌, ◌/◌, ◌%◌, ◌≤◌, ◌≡◌, refl, Bool, true, false, cond, ◌&&◌, List, [], ◌∷◌, ◌⊎◌, eqb, ltb, length}
use Rattle.std.proofs.Common.{sym, ap, ◌∙◌, ⊎_elim, inl, inr, zero-add, add_assoc, add-zero, arith, ne_eqb}
use Rattle.std.proofs.lemmas.Bool.{false≢true}
use Rattle.manual.specs.declared.Cpu.{Cpu}
use Rattle.manual.specs.declared.Answer.{Answer}
use Rattle.manual.specs.declared.Reply.{Reply}
use Rattle.manual.specs.declared.Reply.TheVariants.{Done, NotAdmitted, WrongVersion, WrongLength}
use Rattle.manual.specs.Reply.{is_done, number_of}
use Rattle.manual.specs.Memory.{value_at}
use Rattle.manual.specs.Admitted.{admitted}
use Rattle.manual.specs.Lent.{Lent, lent_on, first_refusal}
use Rattle.manual.specs.Block.{state_at, says_admitted, not_read, read_block, store_block}
use Rattle.instructions.specs.Run.{RunOutcome, run}
use Rattle.instructions.specs.HostCalls.{Called, called, block_reply, run_on}
use Rattle.block.specs.Typed.{Typed}
use Rattle.block.specs.ReadBack.{length_block}
use Rattle.demands.specs.Exact.{OneOf, Bytes}
use Rattle.demands.specs.ExactLaws as exact
use Rattle.demands.specs.FirstReplies.{lent_of}
use Rattle.demands.specs.Refusals.{is-done}
use Rattle.demands.specs.ReplyLaws as laws
use Rattle.demands.specs.Runs.{runs}
use Rattle.demands.specs.Steps.{none}
use Rattle.demands.specs.Admits.{admits}
use Rattle.demands.specs.TypedLaws.{keeps_typed}
use Rattle.demands.specs.Host.{reply_in, number_small}
use Rattle.demands.specs.HostSentences.{Holds, was_held, stored_back}
use Rattle.demands.specs.CutRuns.{Given1Or2, gone_on, last_reply, joined, total, not-ready, cut-runs}

-- how many steps the answer of a run says
abbrev pub count_in : Called → ℕ
count_in c = c.answer / 256

-- the next call: on the block and memory that the call c left
abbrev pub called_on : ℕ → Lent → Called → Called
called_on m l c = run_on c.block (lent_on l c.storage) m

-- the call c, and after it the call d of budget m, told as one
abbrev pub joined_calls : ℕ → Called → Called → Called
joined_calls m c d = called (last_reply m (reply_in c) (reply_in d) + 256 * (count_in c + count_in d)) d.block d.storage

-- after c a call of each of these budgets, told as one
unfoldable pub in_calls : List ℕ → Lent → Called → Called
in_calls [] l c = c
in_calls (m ∷ ms) l c = in_calls ms l (joined_calls m c (called_on m l c))

-- a reply that comes before the run begins
abbrev pub FirstReply : ℕ → Type 0
FirstReply n = OneOf (1 ∷ 2 ∷ 8 ∷ 9 ∷ []) n

-- such a reply is given
abbrev pub GivenFirst : Called → Type 0
GivenFirst c = FirstReply (reply_in c)

-- the numbers of the block and of memory are bytes, as their types say
pub record CutCalls : Type 0 where
  -- every case in one equation
  pub one_call : (n m : ℕ) (b : List ℕ) (l : Lent) → Bytes b → Bytes l.storage → joined_calls m (run_on b l n) (called_on m l (run_on b l n)) ≡ run_on b l (n + m)
  -- the bytes of the block and of memory, and the total count
  pub same_block : (n m : ℕ) (b : List ℕ) (l : Lent) → Bytes b → Bytes l.storage → (called_on m l (run_on b l n)).block ≡ (run_on b l (n + m)).block
  pub same_memory : (n m : ℕ) (b : List ℕ) (l : Lent) → Bytes b → Bytes l.storage → (called_on m l (run_on b l n)).storage ≡ (run_on b l (n + m)).storage
  pub same_count : (n m : ℕ) (b : List ℕ) (l : Lent) → Bytes b → Bytes l.storage
      → count_in (run_on b l n) + count_in (called_on m l (run_on b l n)) ≡ count_in (run_on b l (n + m))
  -- the reply, when m is at least 1, or when one is given that comes before the run begins
  pub same-reply : (n m : ℕ) (b : List ℕ) (l : Lent) → Bytes b → Bytes l.storage → (1 ≤ m) ⊎ GivenFirst (run_on b l (n + m))
      → reply_in (called_on m l (run_on b l n)) ≡ reply_in (run_on b l (n + m))
  -- otherwise, with m at 0, the second call replies 0
  pub otherwise_0 : (n : ℕ) (b : List ℕ) (l : Lent) → Bytes b → Bytes l.storage → (GivenFirst (run_on b l n) → ⊥) → reply_in (called_on 0 l (run_on b l n)) ≡ 0
  -- where such a reply is given, each call answers it alone, and leaves the block and memory as given
  pub refused-first : (n m : ℕ) (b : List ℕ) (l : Lent) → GivenFirst (run_on b l (n + m))
      → let refused : Called = called (reply_in (run_on b l (n + m))) b l.storage in
      (run_on b l n ≡ refused) × (called_on m l (run_on b l n) ≡ refused)
  -- a run that was refused or is stopped has come to its end: no further budget changes anything
  pub at_its_end : (n m : ℕ) (b : List ℕ) (l : Lent) → (reply_in (run_on b l n) ≡ 0 → ⊥) → run_on b l (n + m) ≡ run_on b l n
  -- and a call that tries a step again answers its reply again, and leaves the block and memory as they are
  pub tried-again : (n m : ℕ) (b : List ℕ) (l : Lent) → Bytes b → Bytes l.storage → (reply_in (run_on b l n) ≡ 0 → ⊥) → 1 ≤ m
      → let c : Called = run_on b l n in
      called_on m l c ≡ called (reply_in c) c.block c.storage
  -- any list of calls
  pub any_calls : (n : ℕ) (ms : List ℕ) (b : List ℕ) (l : Lent) → Bytes b → Bytes l.storage → in_calls ms l (run_on b l n) ≡ run_on b l (n + total ms)

-- ---- the proofs

-- what a run with the outcome o leaves, on a block b that was read
abbrev left : List ℕ → RunOutcome → Called
left b o = called (number_of o.ran.reply + 256 * o.ran.count) (cond (eqb o.ran.count 0) b (store_block o.ran.cpu b).bytes) o.storage

reply-left : (x : Reply) (k : ℕ) → (number_of x + 256 * k) % 256 ≡ number_of x
reply-left x k = omega (arith, number_small x)

count_left : (x : Reply) (k : ℕ) → (number_of x + 256 * k) / 256 ≡ k
count_left x k = omega (arith, number_small x)

reply-joined : (x k : ℕ) → (x % 256 + 256 * k) % 256 ≡ x % 256
reply-joined x k = omega arith

count-joined : (m x y k : ℕ) → (last_reply m (x % 256) (y % 256) + 256 * k) / 256 ≡ k
count-joined zero x y k = omega arith
count-joined (suc m) x y k = omega arith

-- an answer that is a reply alone
rest_of : (x : ℕ) → x ≤ 9 → x % 256 ≡ x
rest_of x h = omega arith

answer-refused : (m x : ℕ) → x ≤ 9 → last_reply m (x % 256) (x % 256) + 256 * (x / 256 + x / 256) ≡ x
answer-refused zero x h = omega arith
answer-refused (suc m) x h = omega arith

number-last : (m : ℕ) (x y : Reply) → number_of (last_reply m x y) ≡ last_reply m (number_of x) (number_of y)
number-last zero x y = refl
number-last (suc m) x y = refl

-- a run that did no step leaves the state as given
none_done : (budget : ℕ) (s : Cpu) (l : Lent) → (run budget s l).ran.count ≡ 0 → (run budget s l).ran.cpu ≡ s
none_done budget s l e =
    (runs.one_end 0 s (run budget s l).ran.cpu s l (lent_on l (run budget s l).storage) l (rw e at (runs.that_many budget s l)) none).0

-- the block after two parts: s and t are the states after them
block-joined : (j k : ℕ) (b : List ℕ) (s t : Cpu) → (k ≡ 0 → t ≡ s) → (store_block t (store_block s b).bytes).bytes ≡ (store_block t b).bytes
    → let c : List ℕ = cond (eqb j 0) b (store_block s b).bytes in
    cond (eqb k 0) c (store_block t c).bytes ≡ cond (eqb (j + k) 0) b (store_block t b).bytes
block-joined zero zero b s t same twice = refl
block-joined zero (suc k) b s t same twice = rw (zero-add (suc k))
block-joined (suc j) zero b s t same twice = rw (add-zero (suc j), same refl)
block-joined (suc j) (suc k) b s t same twice =
    rw (ne_eqb (suc j) 0 (λ e. omega arith), ne_eqb (suc k) 0 (λ e. omega arith), ne_eqb (suc j + suc k) 0 (λ e. omega arith)) twice

-- ---- a block that was read

run-left : (b : List ℕ) (l : Lent) (s : Cpu) → Holds b s → (budget : ℕ) → run_on b l budget ≡ left b (run budget s l)
unfolding run_on
run-left b l s held budget = rw held

module _ (b : List ℕ) (l : Lent) (s : Cpu) (held : Holds b s) where
  long : length b ≡ 128
  long = (((exact.reply_8_and_9).read_block_0 b).0 (rw held)).0.0

  module _ (bytes : Bytes b) (all : Bytes l.storage) where
    s-admitted : admitted s ≡ true
    s-admitted = rw held at (admits.by-read_block b)

    s_typed : Typed s
    s_typed = rw held at (keeps_typed.by-read_block b bytes)

    module _ (n m : ℕ) where
      abbrev r : RunOutcome
      r = run n s l

      abbrev q : RunOutcome
      q = gone_on m l r

      r-admitted : admitted r.ran.cpu ≡ true
      r-admitted = admits.by-run n s l s-admitted

      r-typed : Typed r.ran.cpu
      r-typed = keeps_typed.by-run n s l s_typed all

      -- the block holds the state after the first call
      holds_after : Holds (left b r).block r.ran.cpu
      holds_after = by r.ran.count refl
        where
          by : (k : ℕ) → r.ran.count ≡ k → Holds (cond (eqb k 0) b (store_block r.ran.cpu b).bytes) r.ran.cpu
          by zero e = rw (none_done n s l e) held
          by (suc k) e = rw (ne_eqb (suc k) 0 (λ z. omega arith)) (stored_back r.ran.cpu b r-admitted r-typed long).1

      stored-twice : (store_block q.ran.cpu (store_block r.ran.cpu b).bytes).bytes ≡ (store_block q.ran.cpu b).bytes
      unfolding store_block
      stored-twice = rw (long, r-admitted, length_block r.ran.cpu r-admitted r-typed, admits.by-run m r.ran.cpu (lent_on l r.storage) r-admitted)

      two_calls : joined_calls m (left b r) (left (left b r).block q) ≡ left b (joined m r q)
      two_calls =
          rw (
            reply-left r.ran.reply r.ran.count,
            reply-left q.ran.reply q.ran.count,
            count_left r.ran.reply r.ran.count,
            count_left q.ran.reply q.ran.count,
            block-joined r.ran.count q.ran.count b r.ran.cpu q.ran.cpu (none_done m r.ran.cpu (lent_on l r.storage)) stored-twice,
            ← number-last m r.ran.reply q.ran.reply,
          )

      held_call : joined_calls m (run_on b l n) (called_on m l (run_on b l n)) ≡ run_on b l (n + m)
      held_call =
          rw (
            run-left b l s held n,
            run-left (left b r).block (lent_on l r.storage) r.ran.cpu holds_after m,
            run-left b l s held (n + m),
            ← cut-runs.one-run n m s l,
          )
          two_calls

-- ---- any block

refused-by : (l : Lent) (short version whole says : Bool) (s : Cpu)
    → let x : Reply = (cond short (not_read WrongLength) (cond version (cond whole (cond says (record { reply = Done; cpu = s }) (not_read NotAdmitted)) (not_read WrongLength)) (not_read WrongVersion))).reply in
    is_done x ≡ false → FirstReply (number_of (block_reply x l))
unfolding block_reply
refused-by l true version whole says s h = inr (inr (inr (inl refl)))
refused-by l false false whole says s h = inr (inr (inl refl))
refused-by l false true false says s h = inr (inr (inr (inl refl)))
refused-by l false true true false s h = ⊎_elim (λ e. inl e) (⊎_elim (λ e. inr (inl e)) (λ x. absurd x)) (lent_of l)
refused-by l false true true true s h = absurd (false≢true (sym h))

block-given : (b : List ℕ) (l : Lent) → is_done (read_block b).reply ≡ false → FirstReply (number_of (block_reply (read_block b).reply l))
unfolding read_block
block-given b l = refused-by l (ltb (length b) 5) (eqb (value_at b 0 1) 1) (eqb (length b) 128 && eqb (value_at b 1 4) 123) (says_admitted b) (state_at b)

module _ (b : List ℕ) (l : Lent) where
  abbrev read : Answer
  read = read_block b

  was_read : is_done read.reply ≡ true → Holds b read.cpu
  was_read e = was_held b (ap number_of (is-done read.reply e))

  -- a run is refused before it begins, whatever its budget, with the answer x
  abbrev Refused : ℕ → Type 0
  Refused x = (x ≤ 9) × ((budget : ℕ) → run_on b l budget ≡ called x b l.storage)

  block_refused : is_done read.reply ≡ false → Refused (number_of (block_reply read.reply l))
  unfolding run_on
  block_refused e = (number_small (block_reply read.reply l), λ budget. rw e)

  run-refused : is_done read.reply ≡ true → is_done (first_refusal read.cpu l) ≡ false → Refused (number_of (first_refusal read.cpu l))
  run-refused e h = (
    number_small (first_refusal read.cpu l),
    λ budget. run-left b l read.cpu (was_read e) budget ∙ rw (runs.first budget read.cpu l h, add-zero (number_of (first_refusal read.cpu l))),
  )

  -- so it is where a reply is given that comes first
  given-first : (budget : ℕ) → GivenFirst (run_on b l budget) → (x : ℕ) × Refused x
  given-first budget g = by (is_done read.reply) refl
    where
      by : (d : Bool) → is_done read.reply ≡ d → (x : ℕ) × Refused x
      by false e = (number_of (block_reply read.reply l), block_refused e)
      by true e = (number_of (first_refusal read.cpu l), run-refused e (not-ready read.cpu l budget (few told)))
        where
          n : ℕ
          n = number_of (run budget read.cpu l).ran.reply

          low : n ≤ 4
          low = laws.at_most 4 n (0 ∷ 1 ∷ 2 ∷ 3 ∷ 4 ∷ []) refl ((exact.no-others).run_of budget read.cpu l)

          told : FirstReply n
          told = rw (run-left b l read.cpu (was_read e) budget, reply-left (run budget read.cpu l).ran.reply (run budget read.cpu l).ran.count) at g

          few : FirstReply n → OneOf (1 ∷ 2 ∷ []) n
          few (inl z) = inl z
          few (inr (inl z)) = inr (inl z)
          few (inr (inr (inl z))) = absurd (omega (arith, z, low))
          few (inr (inr (inr (inl z)))) = absurd (omega (arith, z, low))
          few (inr (inr (inr (inr never)))) = elim never [ ]

  module _ (n : ℕ) where
    abbrev c : Called
    c = run_on b l n

    abbrev d : ℕ → Called
    d m = called_on m l c

    refused-first : (m : ℕ) → GivenFirst (run_on b l (n + m))
        → let refused : Called = called (reply_in (run_on b l (n + m))) b l.storage in
        (c ≡ refused) × (d m ≡ refused)
    refused-first m g = by (given-first (n + m) g)
      where
        by : ((x : ℕ) × Refused x) → let refused : Called = called (reply_in (run_on b l (n + m))) b l.storage in (c ≡ refused) × (d m ≡ refused)
        by (x, (few, each)) = rw (each (n + m), each n, each m, rest_of x few) (refl, refl)

    at_its_end : (m : ℕ) → (reply_in c ≡ 0 → ⊥) → run_on b l (n + m) ≡ c
    at_its_end m refused = by (is_done read.reply) refl
      where
        by : (t : Bool) → is_done read.reply ≡ t → run_on b l (n + m) ≡ c
        by false e = (block_refused e).1 (n + m) ∙ sym ((block_refused e).1 n)
        by true e =
            let o : RunOutcome = run n read.cpu l in
            rw (run-left b l read.cpu (was_read e) (n + m), run-left b l read.cpu (was_read e) n)
            (ap (left b) (cut-runs.at_its_end n m read.cpu l (λ z. refused (rw (run-left b l read.cpu (was_read e) n, reply-left o.ran.reply o.ran.count) z))))

    module _ (bytes : Bytes b) (all : Bytes l.storage) where
      one_call : (m : ℕ) → joined_calls m c (d m) ≡ run_on b l (n + m)
      one_call m = by (is_done read.reply) refl
        where
          by : (t : Bool) → is_done read.reply ≡ t → joined_calls m c (d m) ≡ run_on b l (n + m)
          by true e = held_call b l read.cpu (was_read e) bytes all n m
          by false e =
              let x : ℕ = number_of (block_reply read.reply l) in
              rw ((block_refused e).1 n, (block_refused e).1 m, (block_refused e).1 (n + m), answer-refused m x (number_small (block_reply read.reply l)))

      same-reply : (m : ℕ) → (1 ≤ m) ⊎ GivenFirst (run_on b l (n + m)) → reply_in (d m) ≡ reply_in (run_on b l (n + m))
      same-reply zero (inl h) = absurd (omega arith)
      same-reply zero (inr g) = rw (refused-first zero g).1 (omega arith)
      same-reply (suc m) w = sym (reply-joined (d (suc m)).answer (count_in c + count_in (d (suc m)))) ∙ ap reply_in (one_call (suc m))

      same_count : (m : ℕ) → count_in c + count_in (d m) ≡ count_in (run_on b l (n + m))
      same_count m = sym (count-joined m c.answer (d m).answer (count_in c + count_in (d m))) ∙ ap count_in (one_call m)

      tried-again : (m : ℕ) → (reply_in c ≡ 0 → ⊥) → 1 ≤ m → d m ≡ called (reply_in c) c.block c.storage
      tried-again zero refused h = absurd (omega arith)
      tried-again (suc m) refused h =
          let e : joined_calls (suc m) c (d (suc m)) ≡ c = one_call (suc m) ∙ at_its_end (suc m) refused in
          let alone : (d (suc m)).answer ≡ reply_in c = omega (arith, ap (λ (x : Called). x.answer) e) in
          rw (alone, ap (λ (x : Called). x.block) e, ap (λ (x : Called). x.storage) e)

      otherwise_0 : (GivenFirst c → ⊥) → reply_in (d 0) ≡ 0
      otherwise_0 not-given = by (is_done read.reply) refl
        where
          by : (t : Bool) → is_done read.reply ≡ t → reply_in (d 0) ≡ 0
          by false e = absurd (not-given (rw ((block_refused e).1 n, rest_of _ (number_small (block_reply read.reply l))) (block-given b l e)))
          by true e =
              rw (run-left b l read.cpu held n, run-left (left b o).block (lent_on l o.storage) o.ran.cpu (holds_after b l read.cpu held bytes all n 0) 0)
              (reply-left q.ran.reply q.ran.count ∙ ap number_of (cut-runs.otherwise_0 n read.cpu l not_1_or_2))
            where
              held : Holds b read.cpu
              held = was_read e

              o : RunOutcome
              o = run n read.cpu l

              q : RunOutcome
              q = gone_on 0 l o

              not_1_or_2 : Given1Or2 o → ⊥
              not_1_or_2 w =
                  not-given (rw (run-left b l read.cpu held n, reply-left o.ran.reply o.ran.count) (⊎_elim (λ z. inl z) (⊎_elim (λ z. inr (inl z)) (λ z. absurd z)) w))

any_calls : (ms : List ℕ) (n : ℕ) (b : List ℕ) (l : Lent) → Bytes b → Bytes l.storage → in_calls ms l (run_on b l n) ≡ run_on b l (n + total ms)
unfolding in_calls total
any_calls [] n b l bytes all = rw (add-zero n)
any_calls (m ∷ ms) n b l bytes all = rw (one_call b l n bytes all m, ← add_assoc n m (total ms)) (any_calls ms (n + m) b l bytes all)

pub cut_calls : CutCalls
cut_calls = record {
  one_call = λ n m b l bytes all. one_call b l n bytes all m;
  same_block = λ n m b l bytes all. ap (λ (x : Called). x.block) (one_call b l n bytes all m);
  same_memory = λ n m b l bytes all. ap (λ (x : Called). x.storage) (one_call b l n bytes all m);
  same_count = λ n m b l bytes all. same_count b l n bytes all m;
  same-reply = λ n m b l bytes all. same-reply b l n bytes all m;
  otherwise_0 = λ n b l bytes all. otherwise_0 b l n bytes all;
  refused-first = λ n m b l. refused-first b l n m;
  at_its_end = λ n m b l. at_its_end b l n m;
  tried-again = λ n m b l bytes all. tried-again b l n bytes all m;
  any_calls = λ n ms. any_calls ms n;
}
