-- MAC and MSAC of words, halves of registers. Document 02, P3: "the extension of each half as the manual gives it for signed, unsigned
-- and fractional work", and "the product and saturation facts once", for all three. Assumes nothing.
use Rattle.std.specs.Prelude.{ℕ, ◌/◌, ◌%◌, ◌^◌, ◌≡◌, Bool, false, cond, eqb, ℤ, pos, ◌+ℤ◌, ◌-ℤ◌, ◌*ℤ◌}
use Rattle.manual.specs.declared.Mode.{Mode}
use Rattle.manual.specs.declared.Emac.{Emac}
use Rattle.manual.specs.declared.Action.TheVariants.{Accumulate}
use Rattle.manual.specs.Word.{negative}
use Rattle.manual.specs.Emac.{mode_of, half_of, word_operand, number_at, product_of, product_over, scaled, scale_of, value_of, acc_of, stays_at_limit, with_sum, accumulate}
use Rattle.instructions.specs.LineA.{accumulating}

-- the number that a half stands for. A fraction is it over 2^15
abbrev pub number_of_half : Mode → Bool → ℕ → ℤ
number_of_half k upper v = number_at k (2 ^ 15) (half_of upper v)

-- the product of two halves; of fractions, a / 2^15 times b / 2^15, in units of 2^-39
abbrev pub product_of_halves : Mode → Bool → ℕ → Bool → ℕ → ℤ
product_of_halves k ux x uy y = number_of_half k ux x *ℤ number_of_half k uy y *ℤ pos (cond k.fi (2 ^ 9) 1)

pub record WordProducts : Type 0 where
  -- where bit 11 of the second word is clear, bit 7 says which half of Rx is taken and bit 6 which of Ry; where it is set, all of both is
  pub halves : (macsr w i x y : ℕ) → w / 0x800 % 2 ≡ 0
      → let k : Mode = mode_of macsr in
      accumulating macsr w i x y
      ≡ Accumulate i (w / 0x200 % 4) (eqb (w / 0x100 % 2) 1) (word_operand k (eqb (w / 0x80 % 2) 1) x) (word_operand k (eqb (w / 0x40 % 2) 1) y)
  pub longs : (macsr w i x y : ℕ) → w / 0x800 % 2 ≡ 1 → accumulating macsr w i x y ≡ Accumulate i (w / 0x200 % 4) (eqb (w / 0x100 % 2) 1) x y
  -- in every mode the product of the long operands is that of the halves: no bit of it is cut off, and RT rounds nothing
  pub exact : (k : Mode) (ux uy : Bool) (x y : ℕ) → product_of k (word_operand k ux x) (word_operand k uy y) ≡ product_of_halves k ux x uy y
  -- it never overflows
  pub fits : (k : Mode) (ux uy : Bool) (x y : ℕ) → product_over k (word_operand k ux x) (word_operand k uy y) ≡ false
  -- so what is left is the sum: it alone overflows, and the limit is on its side
  pub summed : (e : Emac) (i s : ℕ) (sub ux uy : Bool) (x y : ℕ)
      → let k : Mode = mode_of e.macsr in
      let p : ℤ = scaled (scale_of k s) (product_of_halves k ux x uy y) in
      let z : ℤ = cond sub (value_of k (acc_of e i) -ℤ p) (value_of k (acc_of e i) +ℤ p) in
      accumulate e i s sub (word_operand k ux x) (word_operand k uy y) ≡ cond (stays_at_limit e.macsr i) e (with_sum k e i false (negative z) z)
