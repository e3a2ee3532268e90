-- Hex digits two by two, as the code has them.
use Rattle.std.specs.Prelude.{ℕ, ◌+◌, ◌*◌, ◌%◌, ◌≡◌, Bool, true, cond, ◌&&◌, ltb, List, get_or, map, All, Option, Some, None}
use Rattle.srecord.specs.Records.{worth, is_hex, unhexed, total}

abbrev pub is_pair : List ℕ → Bool
is_pair p = ltb (worth (get_or p 0 0)) 16 && ltb (worth (get_or p 1 0)) 16

abbrev pub pair_value : List ℕ → ℕ
pair_value p = worth (get_or p 0 0) * 16 + worth (get_or p 1 0)

abbrev pub ArePairs : List (List ℕ) → Type 0
ArePairs ps = All (λ p. is_pair p ≡ true) ps

abbrev pub values : List (List ℕ) → List ℕ
values ps = map pair_value ps

-- the bytes of digits, with the low byte of their sum, where they are hex
abbrev pub scanned : List ℕ → Option (List ℕ × ℕ)
scanned t = cond (is_hex t) (Some (unhexed t, total (unhexed t) % 256)) None
