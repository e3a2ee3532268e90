-- The 16 conditions of Bcc and Scc, by number. The manual: "Conditional Tests".
use Rattle.std.specs.Prelude.{ℕ}
use mathlib.Core.{Bool.Bool, Bool.true, Bool.false, Bool.not, Bool.◌&&◌, Bool.◌||◌, Bool.beq, List.[], List.◌∷◌}
use lib.{ListN.get_or}
use Rattle.manual.specs.{Flags.flag_n, Flags.flag_z, Flags.flag_v, Flags.flag_c}

unfoldable pub condition : ℕ → ℕ → Bool
condition number sr =
    let n : Bool = flag_n sr in
    let z : Bool = flag_z sr in
    let v : Bool = flag_v sr in
    let c : Bool = flag_c sr in
    get_or
    (true ∷  -- 0 T
    false ∷  -- 1 F
    (not c && not z) ∷  -- 2 HI
    (c || z) ∷  -- 3 LS
    not c ∷  -- 4 CC
    c ∷  -- 5 CS
    not z ∷  -- 6 NE
    z ∷  -- 7 EQ
    not v ∷  -- 8 VC
    v ∷  -- 9 VS
    not n ∷  -- 10 PL
    n ∷  -- 11 MI
    beq n v ∷  -- 12 GE
    not (beq n v) ∷  -- 13 LT
    (not z && beq n v) ∷  -- 14 GT
    (z || not (beq n v)) ∷  -- 15 LE
    [])
    number false
