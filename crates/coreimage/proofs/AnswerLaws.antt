-- A file that is refused, and one that is run, and what is printed of it. Assumes nothing.
use Rattle.std.proofs.Common.{◌≡◌, ℕ, ◌≤◌, Bool, true, false, cond, List, length, take, length-take-le, Ok, Err, refl, sym, ap}
use Rattle.manual.specs.declared.Cpu.{Cpu}
use Rattle.manual.specs.declared.Loaded.{Loaded}
use Rattle.manual.specs.declared.Ran.{Ran}
use Rattle.manual.specs.declared.Reply.{Reply}
use Rattle.manual.specs.Reply.{is_done}
use Rattle.manual.specs.Lent.{lent}
use Rattle.manual.specs.Image.{Image, ImageRead, Printed, printed, load_image, image_read, loaded, read_of, answer_line, run_text, text_of}
use Rattle.manual.specs.Memory.{Storage}
use Rattle.instructions.specs.Run.{run_outcome, run}
use Rattle.instructions.specs.ImageRun.{image_ran, image_run, ran_text}
use Rattle.image.specs.TextLaws.{either_in}

ok-is : (d : Bool) (n : Reply) (b : ℕ) (s : Cpu) (l : Loaded) → Ok l ≡ cond d (Ok (record { budget = b; cpu = s })) (Err n) → (d ≡ true) × (b ≡ l.budget) × (s ≡ l.cpu)
ok-is true n b s l e = (refl, cc, cc)
ok-is false n b s l e = cc

err-is : (d : Bool) (n r : Reply) (l : Loaded) → Err r ≡ cond d (Ok l) (Err n) → (d ≡ false) × (n ≡ r)
err-is true n r l e = cc
err-is false n r l e = (refl, cc)

pub refused-is : (f : List ℕ) (m m' : Storage) (n : Reply) (t : Printed) → image_read (Err n) m' ≡ read_of (load_image f m) → t ≡ text_of (answer_line n) → image_ran t m' ≡ image_run f m
unfolding image_run loaded read_of
refused-is f m m' n t e text =
    let i : Image = load_image f m in
    let p = err-is (is_done i.reply) i.reply n (record { budget = i.budget; cpu = i.cpu }) (ap (λ (o : ImageRead). o.answer) e) in
    let same : m' ≡ i.storage = ap (λ (o : ImageRead). o.storage) e in
    rw (p.0, p.1, same, text)

pub ran-is : (f : List ℕ) (m m' m'' : Storage) (l : Loaded) (r : Ran) (t : Printed) → image_read (Ok l) m' ≡ read_of (load_image f m)
    → run_outcome r m'' ≡ run l.budget l.cpu (lent m') → t ≡ text_of (run_text r.reply r.count r.cpu) → image_ran t m'' ≡ image_run f m
unfolding image_run loaded read_of ran_text
ran-is f m m' m'' l r t e ran text =
    let i : Image = load_image f m in
    let p = ok-is (is_done i.reply) i.reply i.budget i.cpu l (ap (λ (o : ImageRead). o.answer) e) in
    let same : m' ≡ i.storage = ap (λ (o : ImageRead). o.storage) e in
    rw (p.0, p.1, p.2, ← same, ← ran, text)

-- ---- what is printed lies in its bytes

pub text-inside : (f : List ℕ) (m m' : Storage) (b : List ℕ) (n : ℕ) → image_ran (printed b n) m' ≡ image_run f m → n ≤ length b
unfolding image_run
text-inside f m m' b n e =
    let i : Image = load_image f m in
    either_in (is_done i.reply) (run i.budget i.cpu (lent i.storage)) (answer_line i.reply) b i.storage m' n e

pub text-counted : (f : List ℕ) (m m' : Storage) (b : List ℕ) (n : ℕ) → image_ran (printed b n) m' ≡ image_run f m → n ≡ length (take n b)
text-counted f m m' b n e = sym (length-take-le n b (text-inside f m m' b n e))
