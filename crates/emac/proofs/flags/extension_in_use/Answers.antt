use Rattle.std.proofs.Common.{◌≡◌, ℕ, ◌-◌, ◌^◌, ◌∙◌, Bool, ◌&&◌, is_le, is_lt, nat_cmp, nat_le, nat_lt, arith}
use Rattle.std.proofs.Math.Path.{ap₂}
use Rattle.std.proofs.lemmas.Grind.{common_steps}
use Rattle.emac.specs.FlagLaws.{beyond}
use Rattle.emac.proofs.flags.extension_in_use.Goals as goal

below_or_at : (a b : ℕ) → is_le (nat_cmp a b) ≡ nat_le a b
below_or_at a b = grind (arith, common_steps)

below : (a b : ℕ) → is_lt (nat_cmp a b) ≡ nat_lt a b
below a b = grind (arith, common_steps)

-- a range holds what is in both its bounds
within : (l h a : ℕ) → (is_le (nat_cmp l a) && is_lt (nat_cmp a h)) ≡ (nat_le l a && nat_lt a h)
within l h a = ap₂ (λ (p q : Bool). p && q) (below_or_at l a) (below a h)

pub returns-then-k : goal.returns-then-k
returns-then-k c = rw (c.if-k.true, beyond (2 ^ 39) c.args.a (omega arith) (omega arith)) (c.contains.ensures.value ∙ within (2 ^ 39) (2 ^ 48 - 2 ^ 39) c.args.a)

pub returns-else-k-2 : goal.returns-else-k-2
returns-else-k-2 c = rw (c.if-k.false, c.if-k-2.false, beyond (2 ^ 31) c.args.a (omega arith) (omega arith)) (c.contains-else-k-2.ensures.value ∙ within (2 ^ 31) (2 ^ 48 - 2 ^ 31) c.args.a)
