-- The low half of a product is the same for signed and unsigned numbers; a word's number is that of its extension. Assumes nothing.
use mathlib.Core.Path.{◌≡◌, sym, ap, ap₂, ◌∙◌, subst⁻¹}
use Prim.Native.Nat.{ℕ, ◌+◌, ◌-◌, ◌*◌, ◌%◌, ◌^◌, ◌<◌}
use native.Mathlib.Nat.{mul-add, add-mul, le_of_lt, lt_of_le_of_lt, mul-le-mul_left, mul-lt-mul_of_pos_right}
use native.Mathlib.Omega.{arith}
use lib.IntN.{ℤ, negsuc, ◌*ℤ◌}
use lib.Pow.{pow_pos, pow-add}
use Rattle.manual.specs.declared.Size.TheVariants.{Word, Long}
use Rattle.manual.specs.Word.{cut, signed, mod_z, sign_extended}
use Rattle.manual.specs.Multiply.{long_product, signed_long_product, signed_word_product}
use Rattle.word.specs.TestLaws.{by-lt}
use Rattle.word.specs.SignedLaws.{signed_pos, signed-neg}
use Rattle.word.specs.WordLaws.{cut_below, extended_pos, extended-neg}
use Rattle.arith.proofs.LongLaws.{long_pos, long-neg, mod_neg}

-- the product of two numbers of k bits has at most k + k
pub below : (k : ℕ) {a b : ℕ} → a < 2 ^ k → b < 2 ^ k → a * b < 2 ^ (k + k)
below k {a} {b} ha hb =
    subst⁻¹ (λ (n : ℕ). a * b < n) (pow-add 2 k k)
    (lt_of_le_of_lt (mul-le-mul_left a (le_of_lt hb)) (mul-lt-mul_of_pos_right ha (pow_pos k)))

right_neg : (x y m : ℕ) → m + y ≡ 2 ^ 32 → (2 ^ 32 - x * m % 2 ^ 32) % 2 ^ 32 ≡ x * y % 2 ^ 32
right_neg x y m e =
    let f : x * m + x * y ≡ x * 2 ^ 32 = sym (mul-add x m y) ∙ ap (λ (n : ℕ). x * n) e in
    omega arith

left-neg : (x y l : ℕ) → l + x ≡ 2 ^ 32 → (2 ^ 32 - l * y % 2 ^ 32) % 2 ^ 32 ≡ x * y % 2 ^ 32
left-neg x y l d =
    let f : l * y + x * y ≡ 2 ^ 32 * y = sym (add-mul l x y) ∙ ap (λ (n : ℕ). n * y) d in
    omega arith

both-neg : (x y l m : ℕ) → l + x ≡ 2 ^ 32 → m + y ≡ 2 ^ 32 → l * m % 2 ^ 32 ≡ x * y % 2 ^ 32
both-neg x y l m d e =
    let f : l * m + l * y ≡ l * 2 ^ 32 = sym (mul-add l m y) ∙ ap (λ (n : ℕ). l * n) e in
    let g : l * y + x * y ≡ 2 ^ 32 * y = sym (add-mul l x y) ∙ ap (λ (n : ℕ). n * y) d in
    omega arith

pub signed-long : (x y : ℕ) → x < 2 ^ 32 → y < 2 ^ 32 → long_product x y ≡ signed_long_product x y
unfolding long_product signed_long_product
signed-long x y hx hy =
    by-lt x 0x8000_0000
    (λ px. by-lt y 0x8000_0000
    (λ py. rw (long_pos x px, long_pos y py))
    (λ ny. rw (long_pos x px, long-neg y ny hy) (sym (mod_neg _ ∙ right_neg x y _ (omega arith)))))
    (λ nx. by-lt y 0x8000_0000
    (λ py. rw (long-neg x nx hx, long_pos y py) (sym (mod_neg _ ∙ left-neg x y _ (omega arith))))
    (λ ny. rw (long-neg x nx hx, long-neg y ny hy) (sym (both-neg x y _ _ (omega arith) (omega arith)))))

-- a word's number
extended : (x : ℕ) → signed Long (sign_extended Word x) ≡ signed Word x
extended x =
    let k = cut_below Word x in
    by-lt (cut Word x) 0x8000
    (λ h. rw (← extended_pos Word x h) (long_pos (cut Word x) (omega arith) ∙ sym (signed_pos 0x8000 (cut Word x) h)))
    (λ h.
    rw (← extended-neg Word x h)
    (long-neg (cut Word x + 0xFFFF_0000) (omega arith) (omega arith) ∙ ap negsuc (omega arith)
    ∙ sym (signed-neg 0x8000 (cut Word x) h)))

pub signed_word : (x y : ℕ) → signed_long_product (sign_extended Word x) (sign_extended Word y) ≡ signed_word_product x y
unfolding signed_long_product signed_word_product
signed_word x y = ap₂ (λ (p q : ℤ). mod_z (p *ℤ q) (2 ^ 32)) (extended x) (extended y)
