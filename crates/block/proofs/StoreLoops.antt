-- What the loop over the accumulators has stored. Assumes nothing.
use Prim.Native.Nat.{ℕ, zero, suc}
use mathlib.Core.List.{List}
use Rattle.manual.specs.declared.Emac.{Emac}
use Rattle.manual.specs.Memory.{store_at}
use Rattle.manual.specs.Emac.{mode_of, acc_of, block_number}
use Rattle.manual.specs.Block.{acc_at}

-- the accumulators below i
unfoldable pub accs : Emac → ℕ → List ℕ → List ℕ
accs e zero b = b
accs e (suc i) b = store_at (accs e i b) (acc_at i) 8 (block_number (mode_of e.macsr) (acc_of e i))
