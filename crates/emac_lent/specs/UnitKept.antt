-- The calls on a unit keep it admitted. Assumes nothing.
use Rattle.std.specs.Prelude.{◌≡◌, Bool, true, false, cond, ℕ, ltb}
use Rattle.manual.specs.declared.Emac.{Emac}
use Rattle.manual.specs.Emac.{accumulate, set_acc, clear_acc}
use Rattle.manual.specs.Admitted.{emac_admitted}
use Rattle.emac.specs.EmacKept.{accumulate-kept, set_macsr-kept, set_acc-kept, clear_acc-kept}
use Rattle.manual.specs.declared.EmacAnswer.{EmacAnswer}
use Rattle.manual.specs.UnitCalls.{acc_changed, accumulate_call, set_macsr_call, set_acc_call, clear_acc_call}

either : (b : Bool) (x y : EmacAnswer) → emac_admitted x.emac ≡ true → emac_admitted y.emac ≡ true → emac_admitted (cond b x y).emac ≡ true
either true x y p q = p
either false x y p q = q

module _ (e : Emac) (h : emac_admitted e ≡ true) where
  kept : (i : ℕ) (next : Emac) → emac_admitted next ≡ true → emac_admitted (acc_changed e i next).emac ≡ true
  kept i next k = either (emac_admitted e) _ _ (either (ltb i 4) _ _ k h) h

  pub accumulate_call-kept : (i s : ℕ) (sub : Bool) (x y : ℕ) → emac_admitted (accumulate_call e i s sub x y).emac ≡ true
  unfolding accumulate_call
  accumulate_call-kept i s sub x y = kept i (accumulate e i s sub x y) (accumulate-kept e h i s sub x y)

  pub set_macsr_call-kept : (v : ℕ) → emac_admitted (set_macsr_call e v).emac ≡ true
  unfolding set_macsr_call
  set_macsr_call-kept v = either (emac_admitted e) _ _ (set_macsr-kept e h v) h

  pub set_acc_call-kept : (i v : ℕ) → emac_admitted (set_acc_call e i v).emac ≡ true
  unfolding set_acc_call
  set_acc_call-kept i v = kept i (set_acc e i v) (set_acc-kept e h i v)

  pub clear_acc_call-kept : (i : ℕ) → emac_admitted (clear_acc_call e i).emac ≡ true
  unfolding clear_acc_call
  clear_acc_call-kept i = kept i (clear_acc e i) (clear_acc-kept e h i)
