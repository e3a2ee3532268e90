-- Steps one after the other. Document: "A run of budget n steps until n are done (0) or one is refused (that number)".
--
-- What it is that n steps, all of them done, lead from a state and a memory to another. Assumes nothing.
use Rattle.std.specs.Prelude.{ℕ, suc, ◌≡◌}
use Rattle.manual.specs.declared.Cpu.{Cpu}
use Rattle.manual.specs.declared.Reply.TheVariants.{Done}
use Rattle.manual.specs.Lent.{Lent, lent_on}
use Rattle.instructions.specs.Step.{step}

-- n steps, all of them done, lead from s and l to s' and l'
pub data Steps : ℕ → Cpu → Lent → Cpu → Lent → Type 0 where
  none : {s : Cpu} {l : Lent} → Steps 0 s l s l
  one_more : {n : ℕ} {s s' : Cpu} {l l' : Lent} → (step s l).stepped.reply ≡ Done
      → Steps n (step s l).stepped.cpu (lent_on l (step s l).storage) s' l' → Steps (suc n) s l s' l'
