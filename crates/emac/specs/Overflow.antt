-- Where a product of integers overflows with OMC, the code adds one that is beyond any accumulator: the sum is then out of range on the
-- side of the product, or for MSAC on the other. So the pattern and the flags are the definition's. Assumes nothing.
use Rattle.std.specs.Prelude.{◌≡◌, ℕ, suc, ◌+◌, ◌-◌, ◌^◌, ◌<◌, ◌≤◌, Bool, true, false, cond, not, ◌&&◌, ℤ, pos, negsuc, ◌+ℤ◌, ◌-ℤ◌, ◌==◌, refl}
use Rattle.std.proofs.Common.{◌∙◌, arith, lt-ltb, le-ltb}
use Rattle.std.specs.Int.Signed.{shr_z}
use Rattle.manual.specs.declared.Mode.{Mode}
use Rattle.manual.specs.declared.Emac.{Emac}
use Rattle.manual.specs.Word.{negative}
use Rattle.manual.specs.Emac.{scaled, scale_of, full_product, product_over, value_of, sum_of, over_below, with_sum}
use Rattle.word.specs.RaisedLaws.{Up, plus, minus, up-negative}
use Rattle.emac.specs.BoolLaws.{by_bool, and_left}
use Rattle.emac.specs.Products.{beyond, far_sum}
use Rattle.emac.specs.Sums.{IsValue}

-- z is an accumulator's number, and c is z raised
module _ (z : ℤ) (c : ℕ) (u : Up (2 ^ 52) z c) (low : 2 ^ 52 - 2 ^ 47 ≤ c) (high : c < 2 ^ 52 + 2 ^ 48) where
  abbrev Sign : Bool → ℤ → Bool
  Sign sub p = negative (cond sub (z -ℤ p) (z +ℤ p))

  above : (sub : Bool) (n : ℕ) → 2 ^ 49 ≤ n → n ≤ 2 ^ 51 → Sign sub (pos n) ≡ cond sub true false
  above true n h l = up-negative (2 ^ 52) (z -ℤ pos n) (c + 2 ^ 52 - (2 ^ 52 + n)) (minus (2 ^ 52) z (pos n) c (2 ^ 52 + n) u refl (omega arith)) ∙ lt-ltb (c + 2 ^ 52 - (2 ^ 52 + n)) (2 ^ 52) (omega arith)
  above false n h l = up-negative (2 ^ 52) (z +ℤ pos n) (c + (2 ^ 52 + n) - 2 ^ 52) (plus (2 ^ 52) z (pos n) c (2 ^ 52 + n) u refl (omega arith)) ∙ le-ltb (c + (2 ^ 52 + n) - 2 ^ 52) (2 ^ 52) (omega arith)

  under : (sub : Bool) (n : ℕ) → 2 ^ 49 ≤ n → n ≤ 2 ^ 51 + 1 → Sign sub (negsuc n) ≡ cond sub false true
  under true n h l = up-negative (2 ^ 52) (z -ℤ negsuc n) (c + 2 ^ 52 - (2 ^ 52 - suc n)) (minus (2 ^ 52) z (negsuc n) c (2 ^ 52 - suc n) u (omega arith) (omega arith)) ∙ le-ltb (c + 2 ^ 52 - (2 ^ 52 - suc n)) (2 ^ 52) (omega arith)
  under false n h l = up-negative (2 ^ 52) (z +ℤ negsuc n) (c + (2 ^ 52 - suc n) - 2 ^ 52) (plus (2 ^ 52) z (negsuc n) c (2 ^ 52 - suc n) u (omega arith) (omega arith)) ∙ lt-ltb (c + (2 ^ 52 - suc n) - 2 ^ 52) (2 ^ 52) (omega arith)

  -- a scaled product that is beyond any accumulator decides the sum's sign
  decides : (s : ℕ) (sub below : Bool) → Sign sub (scaled s (beyond below)) ≡ cond sub (not below) below
  decides s sub below = go (s == 1) (s == 3) below
    where
      go : (b d w : Bool) → let p : ℤ = beyond w in Sign sub (cond b (p +ℤ p) (cond d (shr_z p 2) p)) ≡ cond sub (not w) w
      go true d true = under sub (2 ^ 51 + 1) (omega arith) (omega arith)
      go true d false = above sub (2 ^ 51) (omega arith) (omega arith)
      go false true true = under sub (2 ^ 49) (omega arith) (omega arith)
      go false true false = above sub (2 ^ 49) (omega arith) (omega arith)
      go false false true = under sub (2 ^ 50) (omega arith) (omega arith)
      go false false false = above sub (2 ^ 50) (omega arith) (omega arith)

-- only where OMC is set and the product overflowed does the sum not count, and only where either overflowed does the side
with_sum-same : (k : Mode) (e : Emac) (i : ℕ) (over b c : Bool) (z w : ℤ)
    → ((over && k.omc) ≡ true → b ≡ c) → ((over && k.omc) ≡ false → z ≡ w) → (over ≡ false → b ≡ c)
    → with_sum k e i over b z ≡ with_sum k e i over c w
unfolding with_sum
with_sum-same k e i over b c z w f g h =
    by_bool over
    (λ p. by_bool k.omc (λ o. rw (p, o, f (rw (p, o)))) (λ o. rw (p, o, g (rw (p, o)))))
    (λ p. rw (p, h p, g (rw p)))

module _ (k : Mode) (e : Emac) (i s : ℕ) (sub : Bool) (x y a c : ℕ) (hc : IsValue k a c) where
  -- the law: the code's sum gives the pattern and the flags of the definition's
  pub far_sum-is : with_sum k e i (product_over k x y) (negative (far_sum k s sub x y a)) (far_sum k s sub x y a)
      ≡ with_sum k e i (product_over k x y) (over_below k sub x y (sum_of k s sub x y a)) (sum_of k s sub x y a)
  far_sum-is =
      with_sum-same k e i (product_over k x y) _ _ _ _
      (λ p. rw (p, and_left (product_over k x y) k.omc p, decides (value_of k a) c hc.value hc.low hc.high (scale_of k s) sub (negative (full_product k x y))))
      (λ p. rw p)
      (λ p. rw p)
