-- What an admitted state is. Document: "A state is admitted when SR has no bit outside 0xB71F, MACSR is at most 0xFFF, and each
-- accumulator is in 0 to 2^48-1 (FI clear, SU set) or in -2^47 to 2^47-1 (otherwise)."
--
-- A state has an accumulator as a pattern, and is admitted exactly when its four patterns have 48 bits, beside SR and MACSR. And in
-- every mode the number of such a pattern is in the mode's range, and every number of the range is that of exactly one pattern: so
-- the patterns of 48 bits are the numbers in range. Assumes nothing.
use Rattle.std.specs.Prelude.{ℕ, suc, ◌-◌, ◌/◌, ◌%◌, ◌^◌, ◌≤◌, ◌<◌, ◌≡◌, Bool, true, false, cond, not, ◌&&◌, ◌↔◌, ltb, eqb, ℤ, pos, negsuc}
use Rattle.std.proofs.Common.{sym, ap, ◌∙◌, mod-eq_of_lt, arith}
use Rattle.std.specs.Int.Bits.{bit_and}
use Rattle.std.proofs.lemmas.Nat.{and_le_r}
use Rattle.manual.specs.declared.Cpu.{Cpu}
use Rattle.manual.specs.declared.Emac.{Emac}
use Rattle.manual.specs.declared.Mode.{Mode}
use Rattle.manual.specs.Word.{signed_at, mod_z}
use Rattle.manual.specs.Emac.{mode_of, acc_of, value_of}
use Rattle.manual.specs.Admitted.{status, emac_admitted, admitted}
use Rattle.word.specs.TestLaws.{by-lt}
use Rattle.word.specs.SignedLaws.{signed_pos, signed-neg}
use Rattle.state.specs.MaskLaws.{status-mask}
use Rattle.emac.specs.EmacKept.{acc-small, macsr-small, mod_z-below}
use Rattle.emac.specs.BlockLaws.{value-whole}
use Rattle.demands.specs.ReplyLaws as laws
use Rattle.demands.specs.ValueLaws.{status-word}

-- 0 to 2^48-1
abbrev pub Unsigned48 : ℤ → Type 0
Unsigned48 (pos n) = n < 2 ^ 48
Unsigned48 (negsuc n) = ⊥

-- -2^47 to 2^47-1, negsuc n being -(n + 1)
abbrev pub Signed48 : ℤ → Type 0
Signed48 (pos n) = n < 2 ^ 47
Signed48 (negsuc n) = n < 2 ^ 47

-- the range of a mode, by its FI and SU
abbrev pub RangeOf : Bool → Bool → ℤ → Type 0
RangeOf false true z = Unsigned48 z
RangeOf false false z = Signed48 z
RangeOf true su z = Signed48 z

pub record AdmittedMeans : Type 0 where
  pub exactly : (s : Cpu)
      → (admitted s ≡ true)
      ↔ ((bit_and s.sr 0xB71F ≡ s.sr) × (s.emac.macsr ≤ 0xFFF) × ((i : ℕ) → i < 4 → acc_of s.emac i < 2 ^ 48))
  -- a unit alone
  pub unit : (e : Emac) → (emac_admitted e ≡ true) ↔ ((e.macsr ≤ 0xFFF) × ((i : ℕ) → i < 4 → acc_of e i < 2 ^ 48))
  -- the mode that MACSR says: FI is 0x20, SU is 0x40
  pub fi : (macsr : ℕ) → ((mode_of macsr).fi ≡ true) ↔ (macsr / 0x20 % 2 ≡ 1)
  pub su : (macsr : ℕ) → ((mode_of macsr).su ≡ true) ↔ (macsr / 0x40 % 2 ≡ 1)
  -- the number of a pattern of 48 bits is in range
  pub in_range_lem : (k : Mode) (a : ℕ) → a < 2 ^ 48 → RangeOf k.fi k.su (value_of k a)
  -- every number in range is some pattern's
  pub some_pattern : (k : Mode) (z : ℤ) → RangeOf k.fi k.su z → (a : ℕ) × (a < 2 ^ 48) × (value_of k a ≡ z)
  -- and of one pattern only
  pub one-pattern : (k : Mode) (a b : ℕ) → a < 2 ^ 48 → b < 2 ^ 48 → value_of k a ≡ value_of k b → a ≡ b

-- ---- the proofs

pub sr-bits : (v : ℕ) → (status v ≡ v) ↔ (bit_and v 0xB71F ≡ v)
sr-bits v = (
  λ h. sym (status-mask v (omega (arith, status-word v))) ∙ h,
  λ h. status-mask v (omega (arith, and_le_r v 0xB71F)) ∙ h,
)

unit-is : (e : Emac) → (emac_admitted e ≡ true) ↔ ((e.macsr ≤ 0xFFF) × ((i : ℕ) → i < 4 → acc_of e i < 2 ^ 48))
unfolding emac_admitted
unit-is e = (λ h. (omega (arith, macsr-small e h), λ i small. acc-small e h i), back)
  where
    back : (e.macsr ≤ 0xFFF) × ((i : ℕ) → i < 4 → acc_of e i < 2 ^ 48) → emac_admitted e ≡ true
    back h =
        both e.macsr 0x1000 _ (omega (arith, h.0))
        (both (acc_of e 0) (2 ^ 48) _ (h.1 0 (omega arith))
        (both (acc_of e 1) (2 ^ 48) _ (h.1 1 (omega arith))
        (both (acc_of e 2) (2 ^ 48) _ (h.1 2 (omega arith)) ((laws.iff_lt (acc_of e 3) (2 ^ 48)).1 (h.1 3 (omega arith))))))
      where
        both : (a b : ℕ) (t : Bool) → a < b → t ≡ true → (ltb a b && t) ≡ true
        both a b t p q = (laws.iff_both (ltb a b) t).1 ((laws.iff_lt a b).1 p, q)

exactly : (s : Cpu)
    → (admitted s ≡ true)
    ↔ ((bit_and s.sr 0xB71F ≡ s.sr) × (s.emac.macsr ≤ 0xFFF) × ((i : ℕ) → i < 4 → acc_of s.emac i < 2 ^ 48))
unfolding admitted
exactly s =
    laws.iff_trans (laws.iff_both (eqb (status s.sr) s.sr) (emac_admitted s.emac))
    (laws.iff_trans
    (laws.iff_and (laws.iff_trans (laws.iff_eq (status s.sr) s.sr) (sr-bits s.sr)) (unit-is s.emac))
    (λ h. (h.0, h.1.0, h.1.1), λ h. (h.0, (h.1, h.2))))

-- ---- patterns and numbers, u being whether the mode is unsigned

abbrev number : Bool → ℕ → ℤ
number u a = cond u (pos a) (signed_at (2 ^ 47) a)

signed_in : (a : ℕ) → a < 2 ^ 48 → Signed48 (signed_at (2 ^ 47) a)
signed_in a h = by-lt a (2 ^ 47) (λ l. rw (signed_pos (2 ^ 47) a l) l) (λ l. rw (signed-neg (2 ^ 47) a l) (omega arith))

number_in : (fi su : Bool) (a : ℕ) → a < 2 ^ 48 → RangeOf fi su (number (not fi && su) a)
number_in false true a h = h
number_in false false a h = signed_in a h
number_in true su a h = signed_in a h

-- the pattern of a number is its 48 low bits
number_cut : (u : Bool) (a : ℕ) → a < 2 ^ 48 → mod_z (number u a) (2 ^ 48) ≡ a
number_cut true a h = mod-eq_of_lt h
number_cut false a h =
    by-lt a (2 ^ 47) (λ l. rw (signed_pos (2 ^ 47) a l) (mod-eq_of_lt h)) (λ l. rw (signed-neg (2 ^ 47) a l) (omega arith))

signed_of : (z : ℤ) → Signed48 z → signed_at (2 ^ 47) (mod_z z (2 ^ 48)) ≡ z
signed_of (pos n) h = let e : n % 2 ^ 48 ≡ n = omega arith in rw (e, signed_pos (2 ^ 47) n h)
signed_of (negsuc n) h =
    let e : 2 ^ 48 - suc (n % 2 ^ 48) ≡ 2 ^ 48 - suc n = omega arith in
    rw (e, signed-neg (2 ^ 47) (2 ^ 48 - suc n) (omega arith)) (ap negsuc (omega arith))

number_of : (fi su : Bool) (z : ℤ) → RangeOf fi su z → number (not fi && su) (mod_z z (2 ^ 48)) ≡ z
number_of false true (pos n) h = ap pos (mod-eq_of_lt h)
number_of false true (negsuc n) h = absurd h
number_of false false z h = signed_of z h
number_of true su z h = signed_of z h

one-pattern : (k : Mode) (a b : ℕ) → a < 2 ^ 48 → b < 2 ^ 48 → value_of k a ≡ value_of k b → a ≡ b
one-pattern k a b p q e =
    let same : number (not k.fi && k.su) a ≡ number (not k.fi && k.su) b = sym (value-whole k a p) ∙ e ∙ value-whole k b q in
    sym (number_cut (not k.fi && k.su) a p) ∙ ap (λ (z : ℤ). mod_z z (2 ^ 48)) same ∙ number_cut (not k.fi && k.su) b q

fi-is : (macsr : ℕ) → ((mode_of macsr).fi ≡ true) ↔ (macsr / 0x20 % 2 ≡ 1)
unfolding mode_of
fi-is macsr = laws.iff_eq (macsr / 0x20 % 2) 1

su-is : (macsr : ℕ) → ((mode_of macsr).su ≡ true) ↔ (macsr / 0x40 % 2 ≡ 1)
unfolding mode_of
su-is macsr = laws.iff_eq (macsr / 0x40 % 2) 1

pub admitted_means : AdmittedMeans
admitted_means = record {
  exactly = exactly;
  unit = unit-is;
  fi = fi-is;
  su = su-is;
  in_range_lem = λ k a h. rw (value-whole k a h) (number_in k.fi k.su a h);
  some_pattern = λ k z h.
      let below : mod_z z (2 ^ 48) < 2 ^ 48 = mod_z-below z (2 ^ 48) (omega arith) in
      (mod_z z (2 ^ 48), below, value-whole k (mod_z z (2 ^ 48)) below ∙ number_of k.fi k.su z h);
  one-pattern = one-pattern;
}
