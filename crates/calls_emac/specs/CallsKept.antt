-- The calls on the accumulators and MACSR keep an admitted state admitted. Assumes nothing.
use Rattle.std.specs.Prelude.{◌≡◌, Bool, false, cond, ℕ, ◌%◌, ◌^◌, ◌<◌, ltb}
use Rattle.std.proofs.Math.Bool.{true}
use Rattle.std.proofs.Common.{arith}
use Rattle.manual.specs.declared.Cpu.{Cpu}
use Rattle.manual.specs.declared.Emac.{Emac}
use Rattle.manual.specs.declared.Answer.{Answer}
use Rattle.manual.specs.Emac.{fractional, set_macsr}
use Rattle.manual.specs.Admitted.{emac_admitted, admitted}
use Rattle.manual.specs.EmacCalls.{done_with, acc_changed, acc_set_call, set_acc_phys_call, set_macsr_call}
use Rattle.state.specs.AdmittedLaws.{admitted-emac, emac-admitted}
use Rattle.emac.specs.EmacKept.{macsr-small, pattern-below, with_acc-kept, set_macsr-kept}

either : (b : Bool) (x y : Answer) → admitted x.cpu ≡ true → admitted y.cpu ≡ true → admitted (cond b x y).cpu ≡ true
either true x y p q = p
either false x y p q = q

module _ (s : Cpu) (h : admitted s ≡ true) where
  changed : (i : ℕ) (e : Emac) → emac_admitted e ≡ true → admitted (acc_changed s i e).cpu ≡ true
  changed i e k =
      either (admitted s) _ _ (either (ltb i 4) (done_with e s) _ (emac-admitted e s k h) h) h

  pub acc_set_kept : (i v : ℕ) → admitted (acc_set_call s i v).cpu ≡ true
  unfolding acc_set_call
  acc_set_kept i v =
      let e : emac_admitted s.emac ≡ true = admitted-emac s h in
      changed i _ (with_acc-kept s.emac e i s.emac.macsr (v % 2 ^ 48) (macsr-small s.emac e) (omega arith))

  pub set_acc_phys_kept : (i acc ext : ℕ) → acc < 2 ^ 32 → ext < 2 ^ 16 → admitted (set_acc_phys_call s i acc ext).cpu ≡ true
  unfolding set_acc_phys_call
  set_acc_phys_kept i acc ext a b =
      let e : emac_admitted s.emac ≡ true = admitted-emac s h in
      changed i _
      (with_acc-kept s.emac e i s.emac.macsr _ (macsr-small s.emac e) (pattern-below (fractional s.emac.macsr) acc ext a b))

  pub set_macsr_call-kept : (v : ℕ) → admitted (set_macsr_call s v).cpu ≡ true
  unfolding set_macsr_call
  set_macsr_call-kept v =
      either (admitted s) (done_with (set_macsr s.emac v) s) _
      (emac-admitted (set_macsr s.emac v) s (set_macsr-kept s.emac (admitted-emac s h) v) h)
      h
