-- Bytes put one after the other into a text. One that is full stays as it is.
use Rattle.std.specs.Prelude.{ℕ, ◌+◌, cond, List, [], ◌∷◌, leb, set, replicate}
use Rattle.image.specs.declared.Text.{Text}

unfoldable pub none : Text
none = record { bytes = replicate 256 0; len = 0 }

unfoldable pub put : Text → ℕ → Text
put t b = cond (leb 256 t.len) t (record { bytes = set t.bytes t.len b; len = t.len + 1 })

unfoldable pub appended : Text → List ℕ → Text
appended t [] = t
appended t (b ∷ bs) = appended (put t b) bs
