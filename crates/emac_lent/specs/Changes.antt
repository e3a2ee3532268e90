-- What the work of a call on a unit gives. Assumes nothing.
use Rattle.std.specs.Prelude.{◌≡◌}
use Rattle.manual.specs.declared.Emac.{Emac}

-- the work, of which `post` says what it may give, can give next alone
abbrev pub Gives : (Emac → Type 0) → Emac → Type 0
Gives post next = (e : Emac) → post e → e ≡ next
