-- What the program `coresrecord` prints of its input, and storage after it. The input is A7, the status register and the budget, and
-- then a text of S-records, which says memory and the program counter.
use Rattle.std.specs.Prelude.{ℕ, ◌+◌}
use mathlib.Core.{Bool.cond, Bool.◌&&◌, List.List, List.[], List.◌∷◌, List.◌++◌}
use lib.{Dec.leb, ListN.length, ListN.drop}
use Rattle.manual.specs.declared.{Cpu.Cpu, Reply.Reply, Reply.TheVariants.WrongLength}
use Rattle.manual.specs.{Registers.with_address, Registers.with_pc, Registers.with_sr, Memory.Storage, Memory.value_at, Reply.is_done, Lent.lent, Lent.state_refusal, Block.fresh}
use Rattle.manual.specs.Image.{space, newline, decimal, answer_line, text_of as printed_of}
use Rattle.instructions.specs.{Run.run, ImageRun.ImageRan, ImageRun.image_ran, ImageRun.ran_text}
use Rattle.srecord.specs.declared.{TextReply.TextReply}
use Rattle.srecord.specs.{Reading.Read, Reading.text_done, Reading.read_text, TextCalls.text_number}

-- where each part of the input lies
abbrev pub stack_at : ℕ
stack_at = 0

abbrev pub status_at : ℕ
status_at = 4

abbrev pub budget_at : ℕ
budget_at = 6

abbrev pub text_at : ℕ
text_at = 10

-- the longest text: that of 49,152 bytes in S3 lines of one byte each is shorter
abbrev pub text_most : ℕ
text_most = 0x10_0000

-- the state that an input says, with a program counter
unfoldable pub text_state : List ℕ → ℕ → Cpu
text_state f start = with_sr (value_at f status_at 2) (with_pc start (with_address 7 (value_at f stack_at 4) fresh))

-- the reply to what stands before the text: 9 where that is not whole, or the text is too long, 2 where the state is not admitted
unfoldable pub head_reply : List ℕ → Reply
head_reply f = cond (leb text_at (length f) && leb (length f) (text_at + text_most)) (state_refusal (text_state f 0)) WrongLength

-- "answer N"
unfoldable pub text_answer : TextReply → List ℕ
text_answer n = (97 ∷ 110 ∷ 115 ∷ 119 ∷ 101 ∷ 114 ∷ space ∷ []) ++ (decimal 10 (text_number n) ++ (newline ∷ []))

-- a text that is accepted is run from its start address; of what is refused the first line is printed alone
unfoldable pub text_ran : List ℕ → Storage → ImageRan
text_ran f b =
    let r : Read = read_text (drop text_at f) b in
    cond (text_done r.answer.reply)
    (ran_text (run (value_at f budget_at 4) (text_state f r.answer.start) (lent r.storage)))
    (image_ran (printed_of (text_answer r.answer.reply)) r.storage)

unfoldable pub text_run : List ℕ → Storage → ImageRan
text_run f b = cond (is_done (head_reply f)) (text_ran f b) (image_ran (printed_of (answer_line (head_reply f))) b)
