-- What is printed lies in the bytes that it is handed back in, so that a program can lend just the text; and the digits that std
-- prints of a number are the definition's. Assumes nothing.
use Rattle.std.specs.Prelude.{ℕ, ◌-◌, ◌%◌, ◌^◌, ◌<◌, ◌≤◌, ◌≡◌, Bool, true, false, cond, List, ◌++◌, length, replicate}
use Rattle.std.proofs.Math.Seq.{take-append_seam}
use Rattle.std.proofs.Common.{ap, sym, ◌∙◌, arith, length-append}
use Rattle.std.proofs.lemmas.Fmt.{AppendsLastDigit, decimal_from_appends, length-decimal-le}
use Rattle.std.specs.Fmt.{decimal as decimal_text}
use borrow.Author.Tests.{lt-ltb, le-ltb}
use Rattle.manual.specs.Image.{Printed, printed, text_of, digit, decimal}
use Rattle.manual.specs.Memory.{Storage}
use Rattle.instructions.specs.Run.{RunOutcome}
use Rattle.instructions.specs.ImageRun.{ImageRan, image_ran, ran_text}

pub text_in : (x b : List ℕ) (n : ℕ) → printed b n ≡ text_of x → n ≤ length b
unfolding text_of
text_in x b n e =
    let zeros : List ℕ = replicate (256 - length x) 0 in
    let bytes : length b ≡ length (x ++ zeros) = ap (λ (p : Printed). length p.bytes) e in
    let count : n ≡ length x = ap (λ (p : Printed). p.len) e in
    omega (arith, bytes, length-append x zeros, count)

pub either_in : (d : Bool) (o : RunOutcome) (x b : List ℕ) (m m' : Storage) (n : ℕ) → image_ran (printed b n) m' ≡ cond d (ran_text o) (image_ran (text_of x) m) → n ≤ length b
unfolding ran_text
either_in true o x b m m' n e = text_in _ b n (ap (λ (r : ImageRan). r.text) e)
either_in false o x b m m' n e = text_in x b n (ap (λ (r : ImageRan). r.text) e)

-- a text can be told from what is handed back of it
pub text-kept : (x y : List ℕ) → text_of x ≡ text_of y → x ≡ y
unfolding text_of
text-kept x y e =
    let bytes : x ++ replicate (256 - length x) 0 ≡ y ++ replicate (256 - length y) 0 = ap (λ (p : Printed). p.bytes) e in
    let same : length x ≡ length y = ap (λ (p : Printed). p.len) e in
    sym (take-append_seam x (replicate (256 - length x) 0)) ∙ rw (bytes, same) (take-append_seam y (replicate (256 - length y) 0))

-- ---- digits

appends : AppendsLastDigit decimal
unfolding decimal digit
appends = record {
  one = λ k n h. rw (lt-ltb n 10 h);
  more = λ k n h. rw (le-ltb n 10 h, lt-ltb (n % 10) 10 (omega arith));
}

pub decimal-is : (n : ℕ) → n < 2 ^ 32 → decimal_text n ≡ decimal 10 n
decimal-is n h = sym (decimal_from_appends decimal appends 10 n (omega arith) (length-decimal-le 10 n (omega arith) (omega arith) (omega arith)))
