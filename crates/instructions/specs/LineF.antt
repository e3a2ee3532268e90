-- Line F: cache and debug instructions, and the words of the missing floating-point unit.
use Rattle.manual.specs.declared.Fault.{Fault}
use Rattle.std.specs.Prelude.{ℕ, Result, Option, Ok, Err, Some, None}
use mathlib.Core.{Bool.cond, List.List, List.[], List.◌∷◌}
use Rattle.manual.specs.declared.{Size.TheVariants.Long, Destination.Destination, Change.Change}
use Rattle.manual.specs.{Word.plus, Registers.no_write, Flags.kept_codes, Exceptions.supervisor, Address.extension, Address.destination, Address.control, Address.operand_of, Change.done, Change.enter, Change.privilege, Change.jump}
use Rattle.manual.specs.{Change.refused, Change.locating, Memory.Memory, Fields.size_field}
use Rattle.instructions.specs.{Rows.first_row, Rows.by_row}

-- WDEBUG.L <ea>y: the debug module, which this core has not, is written. Condition codes are not affected
-- 9. It is not privileged, takes every mode, and skips its second word unread. The manual: privileged, modes 2 and 5, and a second word of 3
abbrev pub debug_ends : ℕ → ℕ → Option (Result ℕ Fault) → ℕ → ℕ → Change
debug_ends sr pc (Some (Ok a)) words skipped = jump sr (plus (plus pc words) skipped)
debug_ends sr pc (Some (Err x)) words skipped = refused x
debug_ends sr pc None words skipped = jump sr (plus pc skipped)

unfoldable pub wdebug : List ℕ → ℕ → ℕ → Memory → ℕ → Change
wdebug g at sr m op =
    let pc : ℕ = plus at 2 in
    debug_ends sr pc (control g m pc (operand_of op)) (extension (operand_of op) Long) 2

-- CPUSHL, INTOUCH (S): a line of the cache, which this core has not. Condition codes are not affected
-- 13. All words F400 to F4FF. The manual: CPUSHL and INTOUCH alone, and vector 11 for the rest
unfoldable pub cache_line : ℕ → ℕ → Change
cache_line at sr = cond (supervisor sr) (jump sr (plus at 2)) (privilege at sr)

-- WDDATA <ea>y: the source → the debug module's DDATA, which this core has not. Condition codes are not affected
-- 31. The operand is not read; its register moves. The manual: it is read, from memory alone
unfoldable pub wddata : List ℕ → ℕ → ℕ → Memory → ℕ → Change
wddata g at sr m op =
    let to : Destination = destination g m (plus at 2) op (size_field op) in
    locating to.place (done to.next (kept_codes sr) to.moved no_write)

-- a word of the line with no row of its own: vector 11, with the word's PC
-- 53. The floating-point words too. The manual: vector 61 for a valid one whose unit is not there
abbrev pub unassigned : ℕ → ℕ → Change
unassigned at sr = enter sr 11 at

-- ---- the rows of the line

unfoldable pub line_f : ℕ → List ℕ → ℕ → ℕ → Memory → ℕ → Change
line_f row g at sr m op =
    by_row (first_row 0xF) row at sr
    (wdebug g at sr m op ∷  -- 123 WDEBUG FBC0/FFC0
    cache_line at sr ∷  -- 124 CACHE F400/FF00
    wddata g at sr m op ∷  -- 125 WDDATA FB00/FF00
    unassigned at sr ∷  -- 126 LINEF F000/F000
    [])
