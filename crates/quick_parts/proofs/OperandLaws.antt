-- What the operand of a word reads, in a register and in memory. Assumes nothing.
use Rattle.std.specs.Prelude.{Option, Some, None}
use mathlib.Core.Path.{◌≡◌, refl, sym, ap, ◌∙◌}
use mathlib.Core.List.{List}
use Prim.Native.Nat.{ℕ, ◌+◌, ◌/◌, ◌%◌, ◌<◌}
use native.Mathlib.Omega.{arith}
use native.Mathlib.Nat.{mod-eq_of_lt}
use Rattle.manual.specs.declared.Size.{Size}
use Rattle.manual.specs.declared.Size.TheVariants.{Long}
use Rattle.manual.specs.declared.Source.{Source}
use Rattle.manual.specs.Word.{cut, plus}
use Rattle.manual.specs.Registers.{data_of, address_of, general, no_write}
use Rattle.manual.specs.Memory.{Memory}
use Rattle.manual.specs.Address.{source, operand, value, fetch, locate, immediate, extension, moved}
use Rattle.word.specs.TestLaws.{by-lt}
use Rattle.address.specs.PartLaws.{part_cut}
use Rattle.quick_parts.specs.Near.{Located, located, in_memory, spotted, read_as, in_register, Loads, Readable}
use Rattle.quick_parts.specs.declared.Spot.{Spot}

module _ (z : Size) (g : List ℕ) (m : Memory) (pc op : ℕ) where
  pub register : op / 8 % 8 < 2 → read_as (in_register z g pc op) ≡ source g m pc op z
  unfolding source operand value fetch locate extension moved general data_of address_of
  register h = by-lt (op / 8 % 8) 1
      (λ l. let e : op / 8 % 8 ≡ 0 = omega arith in let i : op % 16 ≡ op % 8 % 8 = omega arith in rw (e, i))
      (λ l. let e : op / 8 % 8 ≡ 1 = omega arith in let i : op % 16 ≡ 8 + op % 8 % 8 = omega arith in rw (e, i, part_cut))

  pub spot_loads : (s : Spot) → located g m pc (operand (op / 8 % 8) (op % 8)) z ≡ in_memory s → Loads m z s (source g m pc op z)
  unfolding source value fetch
  spot_loads s h v l k =
      let at : Located → Source = λ l. record { got = fetch g m l.place z; next = l.next; moved = l.step } in
      let e : source g m pc op z ≡ at (in_memory s) = ap at h in
      sym (e ∙ rw k refl)

  pub spot_readable : (o : Option Spot) → spotted o (located g m pc (operand (op / 8 % 8) (op % 8)) z) ≡ located g m pc (operand (op / 8 % 8) (op % 8)) z
      → Readable g m pc op z o
  spot_readable (Some s) h = spot_loads s (sym h)
  spot_readable None h = tt

-- an immediate long is read where it stands
pub immediate-long : (g : List ℕ) (m : Memory) (pc op : ℕ) → op % 64 ≡ 0x3C → Loads m Long (record { at = pc; next = plus pc 4; moved = no_write }) (source g m pc op Long)
unfolding source operand value fetch locate immediate extension moved cut
immediate-long g m pc op h v l k =
    let mode : op / 8 % 8 ≡ 7 = omega arith in
    let register : op % 8 ≡ 4 = omega arith in
    rw (mode, register, k, mod-eq_of_lt l)
