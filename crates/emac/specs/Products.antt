-- What the parts of a product ensure, where whole numbers are raised: by 2^52, or as said. Assumes nothing.
use Rattle.std.specs.Prelude.{◌≡◌, ℕ, suc, ◌+◌, ◌-◌, ◌/◌, ◌%◌, ◌^◌, ◌≤◌, Bool, false, cond, not, ◌&&◌, ℤ, pos, negsuc, ◌+ℤ◌, ◌-ℤ◌, nat_lt}
use Rattle.manual.specs.declared.Mode.{Mode}
use Rattle.manual.specs.Word.{signed_at, mod_z, in_half, negative}
use Rattle.manual.specs.Emac.{rounds_up, rounded, scaled, scale_of, full_product, product_of, product_over, value_of}
use Rattle.word.specs.RaisedLaws.{Up}
use Rattle.emac.specs.declared.product.Raised.{Raised}

-- ---- the code's way: with OMC, a product of integers that overflows becomes one that is beyond any accumulator, so that the sum is
-- out of range on its side. `Overflow` has that this gives the definition's pattern and flags

abbrev pub beyond : Bool → ℤ
beyond below = cond below (negsuc (2 ^ 50)) (pos (2 ^ 50))

abbrev pub signed_product : Bool → ℤ → ℤ
signed_product omc z = cond (not (in_half (2 ^ 39) z) && omc) (beyond (negative z)) (signed_at (2 ^ 39) (mod_z z (2 ^ 40)))

abbrev pub unsigned_product : Bool → ℕ → ℤ
unsigned_product omc n = cond (not (nat_lt n (2 ^ 40)) && omc) (beyond false) (pos (n % 2 ^ 40))

abbrev pub far_product : Mode → ℕ → ℕ → ℤ
far_product k x y = cond (product_over k x y && k.omc) (beyond (negative (full_product k x y))) (product_of k x y)

abbrev pub far_sum : Mode → ℕ → Bool → ℕ → ℕ → ℕ → ℤ
far_sum k s sub x y a =
    let p : ℤ = scaled (scale_of k s) (far_product k x y) in
    cond sub (value_of k a -ℤ p) (value_of k a +ℤ p)

-- a product of fractions, kept to 2^-39
abbrev pub fraction : Bool → ℤ → ℤ
fraction rt z = rounded rt z (2 ^ 23)

-- ---- raised numbers

-- a whole number raised by B, where it is at least -B
abbrev pub raised : ℕ → ℤ → ℕ
raised B (pos n) = B + n
raised B (negsuc n) = B - suc n

-- the product of two longs as an accumulator takes it, raised, with its overflow
unfoldable pub raised_product : Mode → ℕ → ℕ → ℕ → Raised
raised_product k s x y = record { value = raised (2 ^ 52) (scaled (scale_of k s) (far_product k x y)); over = product_over k x y }

-- p is a product raised by 2^62, and r its fraction raised by 2^39
pub record IsFraction (rt : Bool) (p r : ℕ) : Type 0 where
  pub value : (z : ℤ) → Up (2 ^ 62) z p → Up (2 ^ 39) (fraction rt z) r
  pub high : r ≤ 2 ^ 40 + 1

-- r over m, to the nearest where rt: `RoundLaws` has that it is so of raised numbers
abbrev pub rounded_quotient : Bool → ℕ → ℕ → ℕ
rounded_quotient rt m r = cond (rt && rounds_up m (r % m) (r / m % 2)) (r / m + 1) (r / m)

-- a product z, with its overflow
pub record IsNumber (z : ℤ) (out : Bool) (r : Raised) : Type 0 where
  pub value : Up (2 ^ 52) z r.value
  pub over : r.over ≡ out
  pub low : 2 ^ 52 - 2 ^ 50 - 1 ≤ r.value
  pub high : r.value ≤ 2 ^ 52 + 2 ^ 50

pub record IsScaled (s v r : ℕ) : Type 0 where
  pub value : (z : ℤ) → Up (2 ^ 52) z v → Up (2 ^ 52) (scaled s z) r
  pub low : 2 ^ 51 - 2 ≤ r
  pub high : r ≤ 2 ^ 52 + 2 ^ 51

-- a raised product, and where it lies
pub record IsScaledProduct (k : Mode) (s x y : ℕ) (r : Raised) : Type 0 where
  pub value : Up (2 ^ 52) (scaled (scale_of k s) (far_product k x y)) r.value
  pub over : r.over ≡ product_over k x y
  pub low : 2 ^ 51 - 2 ≤ r.value
  pub high : r.value ≤ 2 ^ 52 + 2 ^ 51
