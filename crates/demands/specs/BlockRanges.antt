-- When the numbers of a block are out of their ranges, as Exact says it of the block's bytes. Assumes nothing.
use Prim.Native.Nat.{ℕ, zero, suc, ◌+◌, ◌-◌, ◌*◌, ◌/◌, ◌%◌, ◌^◌, ◌≤◌, ◌<◌}
use Rattle.std.specs.Prelude.{◌≡◌, refl, false, cond, not, ◌&&◌, List, ◌↔◌, ◌⊎◌, eqb}
use Rattle.std.proofs.Common.{sym, ⊎_elim, inr, arith}
use Rattle.std.proofs.Math.Bool.{Bool, true}
use Rattle.std.proofs.lemmas.Bool.{false≢true}
use Rattle.std.proofs.Math.Logic.{inl}
use Rattle.std.specs.Int.Bits.{bit_and}
use Rattle.std.proofs.Math.Dec.{ltb}
use Rattle.manual.specs.declared.Mode.{Mode}
use Rattle.manual.specs.Word.{signed_at, in_half}
use Rattle.manual.specs.Bits.{bit_of}
use Rattle.manual.specs.Memory.{value_at}
use Rattle.manual.specs.Emac.{mode_of, in_whole, acc_of, block_in_range}
use Rattle.manual.specs.Admitted.{status, emac_admitted, admitted}
use Rattle.manual.specs.Block.{emac_at, state_at, numbers_fit, says_admitted}
use Rattle.word.specs.TestLaws.{by-lt}
use Rattle.word.specs.SignedLaws.{signed_pos, signed-neg}
use Rattle.demands.specs.ReplyLaws as laws
use Rattle.demands.specs.AdmittedMeans.{sr-bits}
use Rattle.demands.specs.Exact.{UnsignedMode, NumberOut, OutOfRanges, sr-bit, macsr-above, number-out, last-above}

-- ---- a number of 64 bits

whole_out : (n : ℕ) → (in_whole (2 ^ 48) (signed_at (2 ^ 63) n) ≡ false) ↔ (2 ^ 48 ≤ n)
whole_out n =
    by-lt n (2 ^ 63)
    (λ l. rw (signed_pos (2 ^ 63) n l) (laws.iff_not_lt n (2 ^ 48)))
    (λ l. rw (signed-neg (2 ^ 63) n l) (λ h. omega arith, λ h. refl))

half_out : (n : ℕ) → (in_half (2 ^ 47) (signed_at (2 ^ 63) n) ≡ false) ↔ ((2 ^ 47 ≤ n) × (n < 2 ^ 64 - 2 ^ 47))
half_out n =
    by-lt n (2 ^ 63)
    (λ l. rw (signed_pos (2 ^ 63) n l) (laws.iff_trans (laws.iff_not_lt n (2 ^ 47)) (λ h. (h, omega arith), λ h. h.0)))
    (λ l. rw (signed-neg (2 ^ 63) n l) (laws.iff_trans (laws.iff_not_lt (2 ^ 64 - suc n) (2 ^ 47)) (λ h. (omega arith, omega arith), λ h. omega (arith, h.1))))

mode-is : (macsr : ℕ) → ((not (bit_of 5 macsr) && bit_of 6 macsr) ≡ true) ↔ UnsignedMode macsr
mode-is macsr =
    laws.iff_trans (laws.iff_both (not (bit_of 5 macsr)) (bit_of 6 macsr)) (laws.iff_and (clear (bit_of 5 macsr) (laws.iff_eq (macsr / 0x20 % 2) 1)) (laws.iff_eq (macsr / 0x40 % 2) 1))
  where
    clear : (t : Bool) → ((t ≡ true) ↔ (macsr / 0x20 % 2 ≡ 1)) → (not t ≡ true) ↔ (macsr / 0x20 % 2 ≡ 0)
    clear true e = (λ h. absurd (false≢true h), λ h. absurd (omega (arith, e.0 refl)))
    clear false e = (λ h. by-lt (macsr / 0x20 % 2) 1 (λ l. omega arith) (λ l. absurd (false≢true (e.1 (omega arith)))), λ h. refl)

pub of_number : (macsr n : ℕ) → (block_in_range (mode_of macsr) n ≡ false) ↔ NumberOut macsr n
unfolding block_in_range mode_of
of_number macsr n = by (not (bit_of 5 macsr) && bit_of 6 macsr) (mode-is macsr)
  where
    by : (u : Bool) → ((u ≡ true) ↔ UnsignedMode macsr)
        → (cond u (in_whole (2 ^ 48) (signed_at (2 ^ 63) n)) (in_half (2 ^ 47) (signed_at (2 ^ 63) n)) ≡ false) ↔ NumberOut macsr n
    by true e = (λ h. inl (e.0 refl, (whole_out n).0 h), ⊎_elim (λ h. (whole_out n).1 h.1) (λ h. absurd (h.0 (e.0 refl))))
    by false e = (λ h. inr (λ x. false≢true (e.1 x), (half_out n).0 h), ⊎_elim (λ h. absurd (false≢true (e.1 h.0))) (λ h. (half_out n).1 h.1))

-- ---- the block

-- one of two tests fails
either-fails : (a b : Bool) → ((a && b) ≡ false) ↔ ((a ≡ false) ⊎ (b ≡ false))
either-fails true b = (λ h. inr h, ⊎_elim (λ h. absurd (false≢true (sym h))) (λ h. h))
either-fails false b = (λ h. inl refl, λ h. refl)

module _ (b : List ℕ) where
  abbrev sr : ℕ
  sr = value_at b 73 2

  abbrev macsr : ℕ
  macsr = value_at b 87 4

  abbrev number : ℕ → ℕ
  number i = value_at b (95 + i * 8) 8

  -- the unit's patterns are cut to 48 bits
  unit-out : (emac_admitted (emac_at b) ≡ false) ↔ (0xFFF < macsr)
  unfolding emac_admitted emac_at acc_of
  unit-out =
      rw (cut 0, cut 1, cut 2, cut 3)
      (laws.iff_trans (either-fails (ltb macsr 0x1000) true) (⊎_elim (λ h. omega (arith, (laws.iff_not_lt macsr 0x1000).0 h)) (λ h. absurd (false≢true (sym h))), λ h. inl ((laws.iff_not_lt macsr 0x1000).1 (omega arith))))
    where
      cut : (i : ℕ) → ltb (number i % 2 ^ 48) (2 ^ 48) ≡ true
      cut i = (laws.iff_lt (number i % 2 ^ 48) (2 ^ 48)).1 (omega arith)

  -- the tests one after the other
  abbrev Fails : Type 0
  Fails =
      ((bit_and sr 0xB71F ≡ sr → ⊥) ⊎ (0xFFF < macsr))
      ⊎ (NumberOut macsr (number 0) ⊎ (NumberOut macsr (number 1) ⊎ (NumberOut macsr (number 2) ⊎ (NumberOut macsr (number 3) ⊎ (1 < value_at b 127 1)))))

  fails : (says_admitted b ≡ false) ↔ Fails
  unfolding admitted state_at numbers_fit
  fails =
      let k : Mode = mode_of macsr in
      let last : Bool = ltb (value_at b 127 1) 2 in
      let r : ℕ → Bool = λ i. block_in_range k (number i) in
      laws.iff_trans (either-fails (admitted (state_at b)) (numbers_fit b))
      (laws.iff_or
      (laws.iff_trans (either-fails (eqb (status sr) sr) (emac_admitted (emac_at b)))
      (laws.iff_or (laws.iff_not (eqb (status sr) sr) (laws.iff_trans (laws.iff_eq (status sr) sr) (sr-bits sr))) unit-out))
      (laws.iff_trans (either-fails (r 0) (r 1 && (r 2 && (r 3 && last))))
      (laws.iff_or (of_number macsr (number 0))
      (laws.iff_trans (either-fails (r 1) (r 2 && (r 3 && last)))
      (laws.iff_or (of_number macsr (number 1))
      (laws.iff_trans (either-fails (r 2) (r 3 && last))
      (laws.iff_or (of_number macsr (number 2))
      (laws.iff_trans (either-fails (r 3) last)
      (laws.iff_or (of_number macsr (number 3))
      (laws.iff_not_lt (value_at b 127 1) 2))))))))))

  from-number : (i : ℕ) → i < 4 → NumberOut macsr (number i) → Fails
  from-number zero h o = inr (inl o)
  from-number (suc zero) h o = inr (inr (inl o))
  from-number (suc (suc zero)) h o = inr (inr (inr (inl o)))
  from-number (suc (suc (suc zero))) h o = inr (inr (inr (inr (inl o))))
  from-number (suc (suc (suc (suc i)))) h o = absurd (omega arith)

  from_block : OutOfRanges b → Fails
  from_block (sr-bit h) = inl (inl h)
  from_block (macsr-above h) = inl (inr h)
  from_block (number-out i small h) = from-number i small h
  from_block (last-above h) = inr (inr (inr (inr (inr h))))

  to_block : Fails → OutOfRanges b
  to_block (inl (inl h)) = sr-bit h
  to_block (inl (inr h)) = macsr-above h
  to_block (inr (inl h)) = number-out 0 (omega arith) h
  to_block (inr (inr (inl h))) = number-out 1 (omega arith) h
  to_block (inr (inr (inr (inl h)))) = number-out 2 (omega arith) h
  to_block (inr (inr (inr (inr (inl h))))) = number-out 3 (omega arith) h
  to_block (inr (inr (inr (inr (inr h))))) = last-above h

  pub of_block : (says_admitted b ≡ false) ↔ OutOfRanges b
  of_block = laws.iff_trans fails (to_block, from_block)

  pub in_ranges : (says_admitted b ≡ true) ↔ (OutOfRanges b → ⊥)
  in_ranges = by (says_admitted b) of_block
    where
      by : (t : Bool) → ((t ≡ false) ↔ OutOfRanges b) → (t ≡ true) ↔ (OutOfRanges b → ⊥)
      by true e = (λ h x. false≢true (sym (e.1 x)), λ n. refl)
      by false e = (λ h. absurd (false≢true h), λ n. absurd (n (e.0 refl)))
