-- The product of raised numbers, modulo 2^64, is the raised product. u and v are the magnitudes. Assumes nothing.
use Rattle.std.proofs.Common.{◌≡◌, ℕ, ◌+◌, ◌-◌, ◌*◌, ◌%◌, ◌^◌, ◌<◌, ◌≤◌, ℤ, ◌*ℤ◌, sym, refl, ap, ◌∙◌, le_of_lt, add-mul, mul-add, arith}
use Rattle.manual.specs.declared.Size.TheVariants.{Long}
use Rattle.manual.specs.Word.{signed}
use Rattle.word.specs.TestLaws.{by-lt}
use Rattle.word.specs.RaisedLaws.{Up}
use Rattle.emac.specs.ProductLaws.{times31, pos_pos, pos_neg, neg_pos, neg-neg}

abbrev h : ℕ
h = 0x8000_0000

-- a b by the magnitudes
both_high : (u v a b : ℕ) → a ≡ u + h → b ≡ v + h → a * b ≡ u * v + u * h + (h * v + h * h)
both_high u v a b p q = rw (p, q, add-mul u h (v + h), mul-add u v h, mul-add h v h) refl

high-low : (u v a b : ℕ) → a ≡ u + h → b + v ≡ h → a * b + u * v ≡ u * h + h * b
high-low u v a b p q =
    let k : u * b + u * v ≡ u * h = sym (mul-add u b v) ∙ ap (λ (n : ℕ). u * n) q in
    let m : a * b ≡ u * b + h * b = rw p (add-mul u h b) in
    omega arith

low-high : (u v a b : ℕ) → a + u ≡ h → b ≡ v + h → a * b + u * v ≡ h * v + a * h
low-high u v a b p q =
    let k : a * v + u * v ≡ h * v = sym (add-mul a u v) ∙ ap (λ (n : ℕ). n * v) p in
    let m : a * b ≡ a * v + a * h = rw q (mul-add a v h) in
    omega arith

both-low : (u v a b : ℕ) → a + u ≡ h → b + v ≡ h → a * b + u * h ≡ h * b + u * v
both-low u v a b p q =
    let k : a * b + u * b ≡ h * b = sym (add-mul a u b) ∙ ap (λ (n : ℕ). n * b) p in
    let m : u * b + u * v ≡ u * h = sym (mul-add u b v) ∙ ap (λ (n : ℕ). u * n) q in
    omega arith

-- the raised product, which is below 2^63, with what the code takes from a b
sum_high_high : (u v a b : ℕ) → a ≡ u + h → b ≡ v + h → 2 ^ 62 + u * v + (a + b) * h ≡ a * b + 2 ^ 63
sum_high_high u v a b p q = let s = both_high u v a b p q in omega arith

sum_high_low : (u v a b : ℕ) → a ≡ u + h → b + v ≡ h → u * v ≤ 2 ^ 62 → 2 ^ 62 - u * v + (a + b) * h ≡ a * b + 2 ^ 63
sum_high_low u v a b p q w = let s = high-low u v a b p q in omega arith

sum_low_high : (u v a b : ℕ) → a + u ≡ h → b ≡ v + h → u * v ≤ 2 ^ 62 → 2 ^ 62 - u * v + (a + b) * h ≡ a * b + 2 ^ 63
sum_low_high u v a b p q w = let s = low-high u v a b p q in omega arith

sum_low_low : (u v a b : ℕ) → a + u ≡ h → b + v ≡ h → 2 ^ 62 + u * v + (a + b) * h ≡ a * b + 2 ^ 63
sum_low_low u v a b p q = let s = both-low u v a b p q in omega arith

high : (x a : ℕ) → x < h → a ≡ (x + 2 ^ 31) % 2 ^ 32 → a ≡ x + h
high x a l e = omega arith

low : (x a : ℕ) → h ≤ x → x < 2 ^ 32 → a ≡ (x + 2 ^ 31) % 2 ^ 32 → a + (2 ^ 32 - x) ≡ h
low x a l k e = omega arith

most : (x : ℕ) → h ≤ x → 2 ^ 32 - x ≤ 2 ^ 31
most x l = omega arith

up : (q : ℕ) → q ≤ 2 ^ 62 → 2 ^ 62 + q ≤ 2 ^ 63
up q w = omega arith

down : (q : ℕ) → 2 ^ 62 - q ≤ 2 ^ 63
down q = omega arith

-- the sum that wraps
wraps : (d m t : ℕ) → t + d ≡ m + 2 ^ 63 → t ≤ 2 ^ 63 → d < 2 ^ 64 → ((m + (2 ^ 64 - d)) % 2 ^ 64 + 2 ^ 63) % 2 ^ 64 ≡ t
wraps d m t e k f = omega arith

module _ (x y a b m : ℕ) (hx : x < 2 ^ 32) (hy : y < 2 ^ 32) (ea : a ≡ (x + 2 ^ 31) % 2 ^ 32) (eb : b ≡ (y + 2 ^ 31) % 2 ^ 32)
    (em : m ≡ a * b) where
  abbrev Z : ℤ
  Z = signed Long x *ℤ signed Long y

  abbrev r : ℕ
  r = ((m + (2 ^ 64 - (a + b) * h)) % 2 ^ 64 + 2 ^ 63) % 2 ^ 64

  is : (t : ℕ) → t + (a + b) * h ≡ a * b + 2 ^ 63 → t ≤ 2 ^ 63 → Up (2 ^ 62) Z t → Up (2 ^ 62) Z r × (r ≤ 2 ^ 63)
  is t e k u =
      let q : r ≡ t = wraps ((a + b) * h) m t (rw em e) k (omega arith) in
      (rw q u, rw q k)

  pub raised-product : Up (2 ^ 62) Z r × (r ≤ 2 ^ 63)
  raised-product = by-lt x h
      (λ p. by-lt y h
      (λ q. let w : x * y ≤ 2 ^ 62 = times31 x y (le_of_lt p) (le_of_lt q) in
      is (2 ^ 62 + x * y) (sum_high_high x y a b (high x a p ea) (high y b q eb)) (up (x * y) w) (pos_pos x y (x * y) p q refl))
      (λ q. let w : x * (2 ^ 32 - y) ≤ 2 ^ 62 = times31 x (2 ^ 32 - y) (le_of_lt p) (most y q) in
      is (2 ^ 62 - x * (2 ^ 32 - y)) (sum_high_low x (2 ^ 32 - y) a b (high x a p ea) (low y b q hy eb) w) (down (x * (2 ^ 32 - y))) (pos_neg x y (x * (2 ^ 32 - y)) p q hy refl w)))
      (λ p. by-lt y h
      (λ q. let w : (2 ^ 32 - x) * y ≤ 2 ^ 62 = times31 (2 ^ 32 - x) y (most x p) (le_of_lt q) in
      is (2 ^ 62 - (2 ^ 32 - x) * y) (sum_low_high (2 ^ 32 - x) y a b (low x a p hx ea) (high y b q eb) w) (down ((2 ^ 32 - x) * y)) (neg_pos x y ((2 ^ 32 - x) * y) p hx q refl w))
      (λ q. let w : (2 ^ 32 - x) * (2 ^ 32 - y) ≤ 2 ^ 62 = times31 (2 ^ 32 - x) (2 ^ 32 - y) (most x p) (most y q) in
      is (2 ^ 62 + (2 ^ 32 - x) * (2 ^ 32 - y)) (sum_low_low (2 ^ 32 - x) (2 ^ 32 - y) a b (low x a p hx ea) (low y b q hy eb)) (up ((2 ^ 32 - x) * (2 ^ 32 - y)) w) (neg-neg x y ((2 ^ 32 - x) * (2 ^ 32 - y)) p hx q hy refl)))
