-- Which row a step follows. Document: "Opcode rows, value/fixed bits".
--
-- A step that gets as far as its word has fetched it at its program counter; every step that is done does. Of the rows that fit the
-- word, one has the most fixed bits, and only one; any two rows that fit it are nested, one having all the other's fixed bits and more.
-- What the step does, be it done or refused, is what that row's instruction says, and the row's line is the word's. Assumes nothing.
use Rattle.std.specs.Prelude.{ℕ, ◌/◌, ◌≤◌, ◌<◌, ◌≡◌, refl, false}
use Rattle.std.proofs.Common.{sym, ap, ◌∙◌}
use Rattle.std.specs.Int.Bits.{bit_and}
use Rattle.manual.specs.declared.Cpu.{Cpu}
use Rattle.manual.specs.declared.Change.{Change}
use Rattle.manual.specs.declared.Size.TheVariants.{Word}
use Rattle.manual.specs.declared.Reply.TheVariants.{Done}
use Rattle.manual.specs.Memory.{Memory, number_at}
use Rattle.manual.specs.Reply.{number_of}
use Rattle.manual.specs.Lent.{Lent, memory_of}
use Rattle.instructions.specs.Rows.{row_count, value, mask, fixed_bits, IsRow, row_of}
use Rattle.instructions.specs.Perform.{perform}
use Rattle.instructions.specs.Step.{of_row, step}
use Rattle.rows.specs.RowLaws.{row_of_lt, row_of-fits, row_of-is, unique, nested_rows, in_line_lem, of_row_lem}
use Rattle.demands.specs.StepLaws as steps
use Rattle.demands.specs.Accesses.{Inside, SomeOutside}
use Rattle.demands.specs.Effects.{accesses}
use Rattle.demands.specs.AccessLaws.{word_lt}
use Rattle.demands.specs.Exact.{Bytes, Ready}
use Rattle.demands.specs.ExactLaws.{reply_0}

-- the step from s and l, at the word op, followed the row r
pub record Followed (s : Cpu) (l : Lent) (op r : ℕ) : Type 0 where
  pub fetched : Inside (memory_of l) s.pc 2
  pub is-row : r < row_count
  pub fits : bit_and op (mask r) ≡ value r
  pub most : (q : ℕ) → q < row_count → bit_and op (mask q) ≡ value q → fixed_bits q ≤ fixed_bits r
  pub only : (q : ℕ) → IsRow op q → q ≡ r
  pub nested : (i j : ℕ) → i < j → j < row_count → bit_and op (mask i) ≡ value i → bit_and op (mask j) ≡ value j
      → (bit_and (mask i) (mask j) ≡ mask j) × (fixed_bits j < fixed_bits i)
  pub line : value r / 0x1000 ≡ op / 0x1000
  pub performed : step s l ≡ perform s (of_row r s.r s.pc s.sr s.other s.emac (memory_of l) op) (memory_of l)

-- nothing stands against the step before its word is fetched
pub record Fetches (s : Cpu) (l : Lent) : Type 0 where
  pub ready : Ready s l
  pub awake : s.stopped ≡ false
  pub in_memory : Inside (memory_of l) s.pc 2

pub record StepsFollowRows : Type 0 where
  pub follows : (s : Cpu) (l : Lent) → Bytes l.storage → Fetches s l
      → let op : ℕ = number_at (memory_of l) s.pc Word in
      Followed s l op (row_of op)
  pub done_fetches : (s : Cpu) (l : Lent) → (step s l).stepped.reply ≡ Done → Fetches s l

-- ---- the proof

follows : (s : Cpu) (l : Lent) → Bytes l.storage → Fetches s l → Followed s l (number_at (memory_of l) s.pc Word) (row_of (number_at (memory_of l) s.pc Word))
follows s l all f =
    let m : Memory = memory_of l in
    let op : ℕ = number_at m s.pc Word in
    let small : op < 0x1_0000 = word_lt m s.pc all in
    let i : IsRow op (row_of op) = row_of-is op small in
    let line : value (row_of op) / 0x1000 ≡ op / 0x1000 = (in_line_lem op (row_of op) small (row_of_lt op) (row_of-fits op small)).0 in
    record {
      fetched = f.in_memory;
      is-row = i.is_row;
      fits = i.fitting;
      most = i.most;
      only = λ q h. unique op q (row_of op) h i;
      nested = λ a b. nested_rows op a b;
      line = line;
      performed = steps.step-on s l f.ready f.awake
          ∙ ap (λ (c : Change). perform s c m)
          (steps.fetched s.r s.pc s.sr s.other s.emac m op f.in_memory refl ∙ sym (of_row_lem s.r s.pc s.sr s.other s.emac m op));
    }

done_fetches : (s : Cpu) (l : Lent) → (step s l).stepped.reply ≡ Done → Fetches s l
done_fetches s l done =
    let m : Memory = memory_of l in
    let h : Ready s l × ((s.stopped ≡ false) × (SomeOutside m (accesses s m) → ⊥)) = (reply_0.step_0 s l).0 (ap number_of done) in
    record { ready = h.0; awake = h.1.0; in_memory = (steps.stepped s l done).fetch }

pub steps_follow_rows : StepsFollowRows
steps_follow_rows = record { follows = follows; done_fetches = done_fetches }
