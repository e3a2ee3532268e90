-- An input that is refused, and one that is run. Assumes nothing.
use Rattle.std.proofs.Common.{◌≡◌, ℕ, ◌+◌, ◌≤◌, ◌<◌, Bool, true, false, cond, List, ◌++◌, length, take, drop, drop_at, length-take-le, sym, ap, arith}
use Rattle.std.proofs.lemmas.List.{take-append-drop}
use borrow.Author.Tests.{le-leb, lt-leb}
use Rattle.manual.specs.declared.Cpu.{Cpu}
use Rattle.manual.specs.declared.Ran.{Ran}
use Rattle.manual.specs.declared.Reply.TheVariants.{NotAdmitted, WrongLength}
use Rattle.manual.specs.Reply.{is_done}
use Rattle.manual.specs.Memory.{Storage, value_at}
use Rattle.manual.specs.Admitted.{admitted}
use Rattle.manual.specs.Lent.{lent, state_refusal}
use Rattle.manual.specs.Image.{Printed, printed, answer_line, run_text, text_of}
use Rattle.instructions.specs.Run.{run_outcome, run}
use Rattle.instructions.specs.ImageRun.{ImageRan, image_ran, ran_text}
use Rattle.srecord.specs.declared.ReadAnswer.{ReadAnswer}
use Rattle.srecord.specs.Reading.{Read, text_done, reading, read_text}
use Rattle.image.specs.HeadLaws.{value-front}
use Rattle.image.specs.TextLaws.{text_in, either_in}
use Rattle.srecord.specs.TextRun.{budget_at, text_at, text_most, text_state, head_reply, text_answer, text_ran, text_run}

state-front : (h t : List ℕ) (start : ℕ) → length h ≡ text_at → text_state (h ++ t) start ≡ text_state h start
unfolding text_state
state-front h t start e = rw (value-front h t 4 2 (omega arith), value-front h t 0 4 (omega arith))

module _ (h t : List ℕ) (m m' : Storage) (size : length h ≡ text_at) (r : ReadAnswer) (read : reading r m' ≡ read_text t m) where
  pub text-refused : (p : Printed) → text_done r.reply ≡ false → p ≡ text_of (text_answer r.reply) → image_ran p m' ≡ text_ran (h ++ t) m
  unfolding text_ran
  text-refused p d e = rw (drop_at h t text_at size, ← read, d, e)

  pub text-ran : (p : Printed) (m'' : Storage) (budget : ℕ) (s : Cpu) (o : Ran) → text_done r.reply ≡ true
      → s ≡ text_state h r.start → budget ≡ value_at h budget_at 4 → run_outcome o m'' ≡ run budget s (lent m')
      → p ≡ text_of (run_text o.reply o.count o.cpu) → image_ran p m'' ≡ text_ran (h ++ t) m
  unfolding text_ran ran_text
  text-ran p m'' budget s o d g b ran e =
      rw (drop_at h t text_at size, ← read, d, value-front h t 6 4 (omega arith), state-front h t r.start size, ← b, ← g, ← ran, e)

module _ (f : List ℕ) (m : Storage) where
  pub input-short : (t : Printed) → length f < text_at → t ≡ text_of (answer_line WrongLength) → image_ran t m ≡ text_run f m
  unfolding text_run head_reply
  input-short t h e = rw (lt-leb _ _ h, e)

  module _ (l : text_at ≤ length f) where
    pub input-long : (t : Printed) → text_at + text_most < length f → t ≡ text_of (answer_line WrongLength) → image_ran t m ≡ text_run f m
    unfolding text_run head_reply
    input-long t h e = rw (le-leb _ _ l, lt-leb _ _ h, e)

    module _ (h : length f ≤ text_at + text_most) where
      same : text_state f 0 ≡ text_state (take text_at f) 0
      same = rw (take-append-drop text_at f) at (state-front (take text_at f) (drop text_at f) 0 (length-take-le text_at f l))

      pub input-refused : (t : Printed) → admitted (text_state (take text_at f) 0) ≡ false → t ≡ text_of (answer_line NotAdmitted) → image_ran t m ≡ text_run f m
      unfolding text_run head_reply state_refusal
      input-refused t n e = rw (le-leb _ _ l, le-leb _ _ h, same, n, e)

      pub input-taken : (r : ImageRan) → admitted (text_state (take text_at f) 0) ≡ true → r ≡ text_ran (take text_at f ++ drop text_at f) m → r ≡ text_run f m
      unfolding text_run head_reply state_refusal
      input-taken r n e = rw (le-leb _ _ l, le-leb _ _ h, same, n, e, take-append-drop text_at f)

-- ---- what is printed lies in its bytes

pub text-inside : (f : List ℕ) (m m' : Storage) (b : List ℕ) (n : ℕ) → image_ran (printed b n) m' ≡ text_run f m → n ≤ length b
unfolding text_run text_ran
text-inside f m m' b n e = go (is_done (head_reply f)) e
  where
    r : Read
    r = read_text (drop text_at f) m

    go : (d : Bool) → image_ran (printed b n) m'
        ≡ cond d
        (cond (text_done r.answer.reply)
        (ran_text (run (value_at f budget_at 4) (text_state f r.answer.start) (lent r.storage)))
        (image_ran (text_of (text_answer r.answer.reply)) r.storage))
        (image_ran (text_of (answer_line (head_reply f))) m)
        → n ≤ length b
    go true e = either_in (text_done r.answer.reply) _ (text_answer r.answer.reply) b r.storage m' n e
    go false e = text_in (answer_line (head_reply f)) b n (ap (λ (o : ImageRan). o.text) e)

pub text-counted : (f : List ℕ) (m m' : Storage) (b : List ℕ) (n : ℕ) → image_ran (printed b n) m' ≡ text_run f m → n ≡ length (take n b)
text-counted f m m' b n e = sym (length-take-le n b (text-inside f m m' b n e))
