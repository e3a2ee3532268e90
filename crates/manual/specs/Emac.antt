-- The enhanced multiply-accumulate unit, in whole numbers. The manual: "Enhanced Multiply-Accumulate Unit (EMAC)".
-- An accumulator is a pattern of 48 bits: 32 of ACCn and 16 of ACCextn. What number it stands for is the mode's to say.
-- No instruction of the unit is privileged, and MOVE.L MACSR,CCR alone affects the condition codes: the flags here are MACSR's.
use Rattle.std.specs.Prelude.{ℕ, ◌+◌, ◌-◌, ◌*◌, ◌/◌, ◌%◌, ◌^◌}
use mathlib.Core.{Bool.Bool, Bool.false, Bool.cond, Bool.not, Bool.◌&&◌, Bool.◌||◌, List.List, List.map}
use lib.{Dec.ltb, Dec.leb, Dec.eqb, ListN.get_or, ListN.set, IntN.ℤ, IntN.pos, IntN.negsuc, IntN.suc_ℤ, IntN.◌+ℤ◌, IntN.◌-ℤ◌, IntN.◌*ℤ◌, Signed.shr_z}
use Rattle.manual.specs.declared.{Size.TheVariants.Word, Size.TheVariants.Long, Mode.Mode, Emac.Emac}
use Rattle.manual.specs.{Word.signed, Word.signed_at, Word.sign_extended, Word.mod_z, Word.in_half, Word.negative, Bits.bit_of, Bits.with_bit, Fields.bits}

-- ---- MACSR: EV is bit 0, V 1, Z 2, N 3, RT 4, FI 5, SU 6, OMC 7, and PAV0 to PAV3 are bits 8 to 11

abbrev pub fractional : ℕ → Bool
fractional macsr = bit_of 5 macsr

-- FI: fractions. SU: unsigned integers, or with FI the 16-bit read. RT: products and reads are rounded. OMC: results saturate
unfoldable pub mode_of : ℕ → Mode
mode_of macsr = record { fi = fractional macsr; su = bit_of 6 macsr; rt = bit_of 4 macsr; omc = bit_of 7 macsr }

abbrev pub unsigned : Mode → Bool
unsigned k = not k.fi && k.su

-- PAVn, the product or accumulation overflow of accumulator i
abbrev pub pav : ℕ → ℕ → Bool
pav macsr i = bit_of (8 + i % 4) macsr

abbrev pub with_pav : ℕ → ℕ → Bool → ℕ
with_pav macsr i b = with_bit (8 + i % 4) b macsr

-- ---- rounding

-- whether r of m, left over below a quotient, rounds it up: past the half, or at the half where the quotient is odd
abbrev pub rounds_up : ℕ → ℕ → ℕ → Bool
rounds_up m r odd = ltb m (r * 2) || (eqb (r * 2) m && eqb odd 1)

-- z over m, to the nearest whole number, a tie to the even one
abbrev pub nearest : ℤ → ℕ → ℤ
nearest z m = cond (rounds_up m (mod_z z m) (mod_z (shr_z z m) 2)) (suc_ℤ (shr_z z m)) (shr_z z m)

-- z over m, rounded to nearest where RT says so, or rounded down
abbrev pub rounded : Bool → ℤ → ℕ → ℤ
rounded rt z m = cond rt (nearest z m) (shr_z z m)

-- ---- numbers of a mode. H is half of a width's numbers

-- the number that a pattern of the width stands for
abbrev pub number_at : Mode → ℕ → ℕ → ℤ
number_at k H p = cond (unsigned k) (pos p) (signed_at H p)

abbrev pub in_whole : ℕ → ℤ → Bool
in_whole m (pos n) = ltb n m
in_whole m (negsuc n) = false

-- whether a number is one of the width's
abbrev pub fits_in : Mode → ℕ → ℤ → Bool
fits_in k H z = cond (unsigned k) (in_whole (H + H) z) (in_half H z)

-- ---- a word operand: the upper or the lower half of a register

abbrev pub half_of : Bool → ℕ → ℕ
half_of upper v = cond upper (bits 31 16 v) (v % 2 ^ 16)

-- the long that it stands for: a fraction's bits are the upper ones, and zeros below; an integer is extended, with zeros or with its sign
unfoldable pub word_operand : Mode → Bool → ℕ → ℕ
word_operand k upper v =
    let h : ℕ = half_of upper v in
    cond k.fi (h * 2 ^ 16) (cond k.su h (sign_extended Word h))

-- ---- the product of two longs

-- integers, in full
abbrev pub full_product : Mode → ℕ → ℕ → ℤ
full_product k x y = cond k.su (pos (x * y)) (signed Long x *ℤ signed Long y)

-- a product of integers has 40 bits, and overflows where it needs more
abbrev pub product_over : Mode → ℕ → ℕ → Bool
product_over k x y = not k.fi && not (fits_in k (2 ^ 39) (full_product k x y))

-- 38. With OMC clear a product that overflows is its 40 low bits. The manual: the result is not given
abbrev pub low_product : Mode → ℤ → ℤ
low_product k z = number_at k (2 ^ 39) (mod_z z (2 ^ 40))

-- a fraction, x / 2^31 times y / 2^31, is kept to 2^-39
abbrev pub product_of : Mode → ℕ → ℕ → ℤ
product_of k x y = cond k.fi (rounded k.rt (signed Long x *ℤ signed Long y) (2 ^ 23)) (low_product k (full_product k x y))

-- the scale factor, of integers alone: 1 is twice, 3 is half, rounded down
-- 50. Scale factor 2 is no scale. The manual: reserved
abbrev pub scaled : ℕ → ℤ → ℤ
scaled s z = cond (eqb s 1) (z +ℤ z) (cond (eqb s 3) (shr_z z 2) z)

abbrev pub scale_of : Mode → ℕ → ℕ
scale_of k s = cond k.fi 0 s

-- ---- an accumulator

-- the number that the 48 bits of a pattern stand for
abbrev pub value_of : Mode → ℕ → ℤ
value_of k a = number_at k (2 ^ 47) (a % 2 ^ 48)

-- whether a number is in an accumulator's range
abbrev pub in_range : Mode → ℤ → Bool
in_range k z = fits_in k (2 ^ 47) z

-- where an overflow goes with OMC: the largest and smallest number of ACCn, or of all 48 bits where they are unsigned
abbrev pub limit : Mode → Bool → ℤ
limit k below =
    cond k.fi (cond below (negsuc (2 ^ 39 - 1)) (pos (2 ^ 39 - 2 ^ 8)))
    (cond k.su (cond below (pos 0) (pos (2 ^ 48 - 1)))
    (cond below (negsuc (2 ^ 31 - 1)) (pos (2 ^ 31 - 1))))

-- ---- the flags

-- EV: the accumulator's extension is in use, its number being none of ACCn's 32 bits alone
abbrev pub extension_in_use : Mode → ℕ → Bool
extension_in_use k a = not (fits_in k (cond k.fi (2 ^ 39) (2 ^ 31)) (number_at k (2 ^ 47) a))

-- MACSR after accumulator i was given the pattern a: PAVn as told, V as PAVn, and N, Z and EV of the pattern
unfoldable pub with_flags : Mode → ℕ → ℕ → Bool → ℕ → ℕ
with_flags k macsr i over a =
    with_bit 0 (extension_in_use k a) (with_bit 1 over (with_bit 2 (eqb a 0) (with_bit 3 (leb (2 ^ 47) a) (with_pav macsr i over))))

-- ---- the unit of its parts, and accumulators by number, modulo 4

abbrev pub emac_of : ℕ → ℕ → List ℕ → Emac
emac_of macsr mask acc = record { macsr = macsr; mask = mask; acc = acc }

unfoldable pub acc_of : Emac → ℕ → ℕ
acc_of e i = get_or e.acc (i % 4) 0

unfoldable pub with_acc : ℕ → ℕ → ℕ → Emac → Emac
with_acc i macsr a e = emac_of macsr e.mask (set e.acc (i % 4) a)

-- ---- MAC.L Ry,Rx,ACCx: ACCx + Ry * Rx, scaled → ACCx. MSAC.L (sub): ACCx - it. With OMC, where the product or the sum overflows, the
-- limit → ACCx. PAVx set by an overflow, V as PAVx; N, Z, EV of the result

abbrev pub sum_of : Mode → ℕ → Bool → ℕ → ℕ → ℕ → ℤ
sum_of k s sub x y a =
    let p : ℤ = scaled (scale_of k s) (product_of k x y) in
    cond sub (value_of k a -ℤ p) (value_of k a +ℤ p)

-- which limit, the lower one or not: on the product's side where it overflows, for MSAC on the other; else on the side of the sum, z
abbrev pub over_below : Mode → Bool → ℕ → ℕ → ℤ → Bool
over_below k sub x y z =
    let p : Bool = negative (full_product k x y) in
    cond (product_over k x y) (cond sub (not p) p) (negative z)

-- 37. PAVn stays set once it is. The manual: so its text, but its pseudo-code clears PAVn first
abbrev pub pav_after : ℕ → ℕ → Bool → Bool
pav_after macsr i over = over || pav macsr i

-- a sum z goes to accumulator i. over: the product overflows; below: the limit is the lower one
unfoldable pub with_sum : Mode → Emac → ℕ → Bool → Bool → ℤ → Emac
with_sum k e i over below z =
    let out : Bool = over || not (in_range k z) in
    let a : ℕ = mod_z (cond (out && k.omc) (limit k below) z) (2 ^ 48) in
    with_acc i (with_flags k e.macsr i (pav_after e.macsr i out) a) a e

-- 36. With OMC and PAVn set nothing changes. The manual: V, N, Z and EV are set from PAVn and ACCn all the same
abbrev pub stays_at_limit : ℕ → ℕ → Bool
stays_at_limit macsr i = (mode_of macsr).omc && pav macsr i

unfoldable pub accumulate : Emac → ℕ → ℕ → Bool → ℕ → ℕ → Emac
accumulate e i s sub x y =
    let k : Mode = mode_of e.macsr in
    let z : ℤ = sum_of k s sub x y (acc_of e i) in
    cond (stays_at_limit e.macsr i) e (with_sum k e i (product_over k x y) (over_below k sub x y z) z)

-- ---- the physical registers ACCn (32 bits) and ACCextn (16 bits), under FI or not

abbrev pub acc_part : Bool → ℕ → ℕ
acc_part fi a = cond fi (a / 2 ^ 8 % 2 ^ 32) (a % 2 ^ 32)

abbrev pub ext_part : Bool → ℕ → ℕ
ext_part fi a = cond fi (a / 2 ^ 40 % 2 ^ 8 * 2 ^ 8 + a % 2 ^ 8) (a / 2 ^ 32 % 2 ^ 16)

abbrev pub pattern_of : Bool → ℕ → ℕ → ℕ
pattern_of fi acc ext = cond fi (ext / 2 ^ 8 * 2 ^ 40 + acc * 2 ^ 8 + ext % 2 ^ 8) (ext * 2 ^ 32 + acc)

-- the pattern of the same physical registers where FI changes
abbrev pub reinterpreted : Bool → Bool → ℕ → ℕ
reinterpreted old new a = pattern_of new (acc_part old a) (ext_part old a)

-- ---- the moves

-- MOVE.L <ea>y,MACSR: source → MACSR. The physical registers stay, and what they stand for changes
-- 39. PAV0 to PAV3 are as given. The manual: they are cleared where V is
unfoldable pub set_macsr : Emac → ℕ → Emac
set_macsr e v =
    emac_of (v % 0x1000) e.mask (map (reinterpreted (fractional e.macsr) (fractional (v % 0x1000))) e.acc)

-- MOVE.L <ea>y,MASK: source → MASK, whose upper half is ones
unfoldable pub set_mask : Emac → ℕ → Emac
set_mask e v = emac_of e.macsr (0xFFFF_0000 + v % 2 ^ 16) e.acc

-- a number, or with OMC the width's nearest
abbrev pub saturated : Mode → ℕ → ℤ → ℤ
saturated k H z =
    cond (k.omc && not (fits_in k H z))
    (cond (unsigned k) (pos (H + H - 1)) (cond (negative z) (negsuc (H - 1)) (pos (H - 1)))) z

-- MOVE.L ACCy,Rx: ACCy, rounded and saturated as the mode says → Rx. No flag is affected
-- 42. A number is rounded first and then saturated. The manual: probably the same, which would be no difference
unfoldable pub read_acc : Mode → ℕ → ℕ
read_acc k a =
    let z : ℤ = value_of k a in
    cond (k.fi && k.su) (mod_z (saturated k (2 ^ 15) (nearest z (2 ^ 24))) (2 ^ 16))
    (mod_z (saturated k (2 ^ 31) (cond k.fi (rounded k.rt z (2 ^ 8)) z)) (2 ^ 32))

-- MOVCLR.L ACCy,Rx: after the read, 0 → ACCy. PAVy cleared; no other flag is affected
unfoldable pub clear_acc : Emac → ℕ → Emac
clear_acc e i = with_acc i (with_pav e.macsr i false) 0 e

-- the number that a long is loaded as
abbrev pub loaded_as : Mode → ℕ → ℤ
loaded_as k v = cond k.fi (signed Long v *ℤ pos (2 ^ 8)) (cond k.su (pos v) (signed Long v))

-- MOVE.L <ea>y,ACCx: source → ACCx, extended. PAVx, V cleared; N, Z, EV of the result
unfoldable pub set_acc : Emac → ℕ → ℕ → Emac
set_acc e i v =
    let k : Mode = mode_of e.macsr in
    let a : ℕ = mod_z (loaded_as k v) (2 ^ 48) in
    with_acc i (with_flags k e.macsr i false a) a e

-- MOVE.L ACCy,ACCx: ACCy → ACCx. PAVx, V as PAVy; N, Z, EV of the result
unfoldable pub copy_acc : Emac → ℕ → ℕ → Emac
copy_acc e from to =
    let a : ℕ = acc_of e from in
    with_acc to (with_flags (mode_of e.macsr) e.macsr to (pav e.macsr from) a) a e

-- MOVE.L ACCext01,Rx; ACCext23,Rx: the extensions of accumulators i and i + 1, i even → Rx. No flag is affected
unfoldable pub read_ext : Bool → Emac → ℕ → ℕ
read_ext fi e i = ext_part fi (acc_of e i) * 2 ^ 16 + ext_part fi (acc_of e (i + 1))

unfoldable pub with_ext : Bool → ℕ → ℕ → Emac → Emac
with_ext fi i ext e = with_acc i e.macsr (pattern_of fi (acc_part fi (acc_of e i)) ext) e

-- MOVE.L <ea>y,ACCext01; ACCext23: source → the extensions of accumulators i and i + 1, i even. No flag is affected
-- 55. PAV of the pair stays too. The manual: it may be cleared
unfoldable pub set_ext : Emac → ℕ → ℕ → Emac
set_ext e i v =
    let fi : Bool = fractional e.macsr in
    with_ext fi (i + 1) (v % 2 ^ 16) (with_ext fi i (v / 2 ^ 16 % 2 ^ 16) e)

-- ---- the state block: an accumulator's number in 64 bits of two's complement

unfoldable pub block_number : Mode → ℕ → ℕ
block_number k a = mod_z (value_of k a) (2 ^ 64)

unfoldable pub block_in_range : Mode → ℕ → Bool
block_in_range k b = in_range k (signed_at (2 ^ 63) b)
