-- A patch, as VECTORS.md has it: the number of its runs, and for each the bytes to pass over, its length and its bytes. It is read of what the
-- file still has: after the end all bytes are 0. No place of the array is past the end.
use Rattle.std.specs.Prelude.{ℕ, zero, suc, ◌+◌, ◌-◌, min, cond, List, ltb, length, get_or, take, drop}
use Rattle.std.proofs.Math.Seq.{paste}

-- the bytes stand at a place of `to`, where they fit
unfoldable pub put : List ℕ → List ℕ → ℕ → List ℕ
put bytes to place = cond (ltb (length to - place) (length bytes)) to (paste to place bytes (length bytes))

-- one run, at the front of what the file still has: its length, its bytes, and where they go
abbrev pub run_length : List ℕ → ℕ
run_length file = get_or file 1 0

abbrev pub run_bytes : List ℕ → List ℕ
run_bytes file = take (run_length file) (drop 2 file)

abbrev pub run_place : List ℕ → ℕ → List ℕ → ℕ
run_place file place to = min (place + get_or file 0 0) (length to)

unfoldable pub put_run : List ℕ → ℕ → List ℕ → List ℕ
put_run file place to = put (run_bytes file) to (run_place file place to)

unfoldable pub next : List ℕ → List ℕ
next file = drop (run_length file) (drop 2 file)

unfoldable pub next_place : List ℕ → ℕ → List ℕ → ℕ
next_place file place to = min (run_place file place to + run_length file) (length to)

-- what the file has after it, and the array
pub record Patched : Type 0 where
  pub rest : List ℕ
  pub bytes : List ℕ

abbrev pub patched : List ℕ → List ℕ → Patched
patched file bs = record { rest = file; bytes = bs }

unfoldable pub runs : ℕ → List ℕ → ℕ → List ℕ → Patched
runs zero file place to = patched file to
runs (suc n) file place to = runs n (next file) (next_place file place to) (put_run file place to)

abbrev pub patch : List ℕ → List ℕ → Patched
patch file to = runs (get_or file 0 0) (drop 1 file) 0 to
