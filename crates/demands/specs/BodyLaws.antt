-- Which reads each body makes, and what it does then: line by line, those of Accesses and Effects. Assumes nothing.
use Prim.Native.Nat.{ℕ, zero, suc, ◌+◌, ◌%◌}
use Rattle.std.specs.Prelude.{◌≡◌, Bool, eqb, ltb, get_or, Result, Option, Ok, Err, Some, None}
use Rattle.std.proofs.Math.Path.{refl}
use Rattle.std.proofs.Math.Bool.{true, false, cond}
use mathlib.Core.List.{List, [], ◌∷◌, ◌++◌}
use native.Mathlib.Omega.{arith}
use Rattle.std.proofs.Common.{eqb-true}
use Rattle.manual.specs.declared.Fault.{Fault}
use Rattle.manual.specs.declared.Size.{Size}
use Rattle.manual.specs.declared.Size.TheVariants.{Byte, Word, Long}
use Rattle.manual.specs.declared.Emac.{Emac}
use Rattle.manual.specs.declared.EmacPart.{EmacPart}
use Rattle.manual.specs.declared.EmacPart.TheVariants.{Acc, Ext, Macsr, Mask}
use Rattle.manual.specs.declared.Logic.{Logic}
use Rattle.manual.specs.declared.Logic.TheVariants.{And, Or, Eor}
use Rattle.manual.specs.declared.Operand.{Operand}
use Rattle.manual.specs.declared.Operand.TheVariants.{Immediate}
use Rattle.manual.specs.declared.Action.TheVariants.{Nothing, ClearAcc, MoveControl}
use Rattle.manual.specs.declared.ControlRegister.TheVariants.{Cacr, Vbr}
use Rattle.manual.specs.declared.Sum.{Sum}
use Rattle.manual.specs.declared.Write.{Write}
use Rattle.manual.specs.declared.Quotient.{Quotient}
use Rattle.manual.specs.declared.Change.{Change}
use Rattle.manual.specs.Word.{plus, minus, sign_extended}
use Rattle.manual.specs.Bits.{logic, bit_of, with_bit, changed_bit}
use Rattle.manual.specs.Flags.{move_codes, sum_codes, sum_or_difference}
use Rattle.manual.specs.Fields.{bits, upper, upper_mode, mode, register, size_field, byte_or_word, bit_operator, low_byte, low_four, high_four, control_field, acc_field, ext_field}
use Rattle.manual.specs.Registers.{data_of, address_of, no_write}
use Rattle.word.specs.WordLaws.{plus-below}
use Rattle.manual.specs.Memory.{Memory, storage_of, access, first_fault, found, load, number_at}
use Rattle.manual.specs.Address.{operand, extension, source, locate, value, control, destination, destination_of}
use Rattle.manual.specs.Differences.{any_size}
use Rattle.manual.specs.Emac.{fractional, read_ext}
use Rattle.manual.specs.Exceptions.{supervisor}
use Rattle.manual.specs.Control.{control_register}
use Rattle.manual.specs.Change.{done, store, acting, enter, illegal, privilege, jump, push, reading, reaching, updated}
use Rattle.instructions.specs.Rows.{first_row, place_in}
use Rattle.instructions.specs.Line0 as l0
use Rattle.instructions.specs.Moves as moves
use Rattle.instructions.specs.Line4 as l4
use Rattle.instructions.specs.Line5 as l5
use Rattle.instructions.specs.Line6 as l6
use Rattle.instructions.specs.Line7 as l7
use Rattle.instructions.specs.Line8 as l8
use Rattle.instructions.specs.Line9D as l9
use Rattle.instructions.specs.LineA as la
use Rattle.instructions.specs.LineB as lb
use Rattle.instructions.specs.LineC as lc
use Rattle.instructions.specs.LineE as le
use Rattle.instructions.specs.LineF as lf
use Rattle.demands.specs.Accesses as acc
use Rattle.demands.specs.Accesses.{Wanted, none, word_at, long_at, words, named, extension_of, operand_at, control_at}
use Rattle.demands.specs.FitLaws.{moved-long}
use Rattle.demands.specs.Effects as eff
use Rattle.demands.specs.Effects.{Effect, nothing, stores_many, loads_many, enters, returns, illegal_word, privileged, zero_divide_lem, violation, line-a, line_f_lem, trapped}
use Rattle.demands.specs.PartLaws.{quiet, Does, does-nothing, does-store, does-push, does_store_many, does_load_many, does-enter, does-return, access_all, Made, illegal-does, privilege-does, cond_made, either-made, either-reads, load-made, fault_of, missing-found, unreached, reading-only, locate-made, put-made, locating-made, source-made, source-only, of_data, missing-immediate, control_missed, reaching-made, end, row, all_made, put_to-made, destination-found, destination-made, updating-made}

module _ (g : List ℕ) (at sr : ℕ) (m : Memory) (op : ℕ) where
  abbrev Makes : List Wanted → Effect → Change → Type 0
  Makes l e c = Made at sr m l e c

  -- the operand that the word names, right after it
  abbrev from : Size → List Wanted
  from z = acc.source g at m op z

  -- the word after the next
  next_word : plus (plus at 2) 2 ≡ plus at 4
  unfolding plus
  next_word = omega arith

  -- ---- line 0

  logic-immediate : (l : Logic) → Makes (long_at (plus at 2)) nothing (l0.logic_immediate l g at sr m op)
  unfolding l0.logic_immediate done
  logic-immediate l = load-made at sr m (plus at 2) Long [] nothing _ (does-nothing refl)

  sum_immediate_lem : (add : Bool) → Makes (long_at (plus at 2)) nothing (l0.sum_immediate add g at m op)
  unfolding l0.sum_immediate done
  sum_immediate_lem add = load-made at sr m (plus at 2) Long [] nothing _ (does-nothing refl)

  compare_immediate : (z : Size) → Makes (words (plus at 2) (extension Immediate z)) nothing (l0.cmpi z g at sr m op)
  unfolding l0.cmpi done
  compare_immediate z =
      reading-only at sr m (words (plus at 2) (extension Immediate z)) nothing (value g m (plus at 2) Immediate z) _ (missing-immediate m g (plus at 2) z) (does-nothing refl)

  -- a data register, which takes no access, or an operand that does
  data_or : (pc : ℕ) (z : Size) (e f : Effect) (c d : Change) → Makes [] e c → Makes (operand_at g m pc op z) f d
      → Makes (operand_at g m pc op z) (cond (eqb (mode op) 0) e f) (cond (eqb (mode op) 0) c d)
  data_or pc z e f c d p q = by (eqb (mode op) 0) refl
    where
      by : (b : Bool) → eqb (mode op) 0 ≡ b → Makes (operand_at g m pc op z) (cond b e f) (cond b c d)
      by true h = rw (of_data m g pc op z (eqb-true _ _ h)) p
      by false h = q

  bit_of_byte_lem : (pc n : ℕ) → Makes (operand_at g m pc op Byte)
      (cond (eqb (bit_operator op) 0) nothing (eff.updates g at sr m op pc Byte λ v. changed_bit (bit_operator op) (n % 8) v)) (l0.bit_of_byte g pc sr m op n)
  unfolding l0.bit_of_byte done destination_of
  bit_of_byte_lem pc n =
      destination-made at sr m g pc op Byte _ _
      (λ found. either-made at sr m (eqb (bit_operator op) 0) [] _ _ _ _ (does-nothing refl) (put_to-made at sr m [] g _ (destination g m pc op Byte) Byte _ found))

  bit_operation_lem : (pc n : ℕ) → Makes (operand_at g m pc op Byte) (eff.bit_effect g at sr m op pc n) (l0.bit_operation g pc sr m op n)
  unfolding l0.bit_operation l0.bit_of_data done
  bit_operation_lem pc n = data_or pc Byte _ _ _ _ (does-nothing refl) (bit_of_byte_lem pc n)

  by-immediate : Makes (word_at (plus at 2) ++ operand_at g m (plus at 4) op Byte) (eff.bit_effect g at sr m op (plus at 4) (number_at m (plus at 2) Word)) (l0.bit_by_immediate g at sr m op)
  unfolding l0.bit_by_immediate
  by-immediate = load-made at sr m (plus at 2) Word (operand_at g m (plus at 4) op Byte) _ _ (bit_operation_lem (plus at 4) _)

  by_register : Makes (from Byte) (eff.bit_effect g at sr m op (plus at 2) (data_of g (upper op))) (l0.bit_by_register g at sr m op)
  unfolding l0.bit_by_register
  by_register = bit_operation_lem (plus at 2) _

  pub line0-made : (n : ℕ) → Makes (acc.reads0 g at m op n) (eff.effects0 g at sr m op n) (l0.line0 n g at sr m op)
  unfolding acc.reads0 eff.effects0 l0.line0 l0.bitrev l0.byterev l0.ff1 done
  line0-made n =
      all_made at sr m
      (row none nothing (l0.bitrev g at sr op) (does-nothing refl)
      (row none nothing (l0.byterev g at sr op) (does-nothing refl)
      (row none nothing (l0.ff1 g at sr op) (does-nothing refl)
      (row (long_at (plus at 2)) nothing (l0.logic_immediate Or g at sr m op) (logic-immediate Or)
      (row (long_at (plus at 2)) nothing (l0.logic_immediate And g at sr m op) (logic-immediate And)
      (row (long_at (plus at 2)) nothing (l0.sum_immediate false g at m op) (sum_immediate_lem false)
      (row (long_at (plus at 2)) nothing (l0.sum_immediate true g at m op) (sum_immediate_lem true)
      (row (long_at (plus at 2)) nothing (l0.logic_immediate Eor g at sr m op) (logic-immediate Eor)
      (row (words (plus at 2) (extension Immediate Byte)) nothing (l0.cmpi Byte g at sr m op) (compare_immediate Byte)
      (row (words (plus at 2) (extension Immediate Word)) nothing (l0.cmpi Word g at sr m op) (compare_immediate Word)
      (row (words (plus at 2) (extension Immediate Long)) nothing (l0.cmpi Long g at sr m op) (compare_immediate Long)
      (row (word_at (plus at 2) ++ operand_at g m (plus at 4) op Byte) (eff.bit_effect g at sr m op (plus at 4) (number_at m (plus at 2) Word)) (l0.bit_by_immediate g at sr m op) by-immediate
      (row (from Byte) (eff.bit_effect g at sr m op (plus at 2) (data_of g (upper op))) (l0.bit_by_register g at sr m op) by_register
      (row none (illegal_word at) (illegal at sr) (illegal-does at sr)
      end))))))))))))))
      (place_in (first_row 0) n)

  -- ---- lines 1, 2 and 3

  move-made : (z : Size) → Makes (acc.move_reads g at m op z) (eff.move_effect g at sr m op z) (moves.move z g at sr m op)
  unfolding moves.move source destination_of
  move-made z =
      let next : ℕ = plus (plus at 2) (extension (named op) z) in
      let o : Operand = operand (upper_mode op) (upper op) in
      source-made at sr m g (plus at 2) op z (words next (extension o z)) _ _
      (put-made at sr m (words next (extension o z)) _ z _ (locate _ m next o z) _ _ _ _ (locate-made m _ next o z))

  move-address : (z : Size) → Makes (from z) nothing (moves.movea z g at sr m op)
  unfolding moves.movea done
  move-address z = source-only at sr m g (plus at 2) op z nothing _ (does-nothing refl)

  pub moves-made : (first : ℕ) (z : Size) (n : ℕ) → Makes (acc.reads_moves g at m op first z n) (eff.effects_moves g at sr m op first z n) (moves.moves first z n g at sr m op)
  unfolding acc.reads_moves eff.effects_moves moves.moves
  moves-made first z n =
      all_made at sr m
      (row (from z) nothing (moves.movea z g at sr m op) (move-address z)
      (row (acc.move_reads g at m op z) (eff.move_effect g at sr m op z) (moves.move z g at sr m op) (move-made z)
      end))
      (place_in first n)

  -- ---- line 4

  push-does : (next v : ℕ) → Does at sr (eff.pushes g at sr m op v) (push g sr next v)
  unfolding push store
  push-does next v = does-store refl

  jump-does : (next : ℕ) → Does at sr nothing (jump sr next)
  unfolding jump done
  jump-does next = does-nothing refl

  abbrev address-words : List Wanted
  address-words = control_at g m (plus at 2) op

  to_address_made : (e : ℕ → Effect) (f : ℕ → Change) → ((a : ℕ) → Does at sr (e a) (f a))
      → Makes address-words (eff.controlled g at sr m op e) (reaching sr at (control g m (plus at 2) (named op)) f)
  to_address_made e f h = reaching-made at sr m address-words e (control g m (plus at 2) (named op)) f (control_missed m g (plus at 2) op) h

  lea_made : Makes address-words (eff.controlled g at sr m op (λ a. nothing)) (l4.lea g at sr m op)
  unfolding l4.lea done
  lea_made = to_address_made _ _ (λ a. does-nothing refl)

  pea-made : Makes address-words (eff.controlled g at sr m op (λ a. eff.pushes g at sr m op a)) (l4.pea g at sr m op)
  unfolding l4.pea
  pea-made = to_address_made _ _ (λ a. push-does _ a)

  jsr-made : Makes address-words (eff.controlled g at sr m op (λ a. eff.pushes g at sr m op (plus (plus at 2) (extension (named op) Long)))) (l4.jsr g at sr m op)
  unfolding l4.jsr
  jsr-made = to_address_made _ _ (λ a. push-does a _)

  jmp-made : Makes address-words (eff.controlled g at sr m op (λ a. nothing)) (l4.jmp g at sr m op)
  unfolding l4.jmp
  jmp-made = to_address_made _ _ (λ a. jump-does a)

  rts-made : Makes (long_at (address_of g 7)) nothing (l4.rts g sr m)
  unfolding l4.rts done
  rts-made = load-made at sr m (address_of g 7) Long [] nothing _ (does-nothing refl)

  link-made : Makes (word_at (plus at 2)) (eff.pushes g at sr m op (address_of g (register op))) (l4.link g at sr m op)
  unfolding l4.link store
  link-made = load-made at sr m (plus at 2) Word [] _ _ (does-store refl)

  unlk-made : Makes (long_at (address_of g (register op))) nothing (l4.unlk g at sr m op)
  unfolding l4.unlk done
  unlk-made = load-made at sr m (address_of g (register op)) Long [] nothing _ (does-nothing refl)

  -- what the supervisor alone does
  allowed : (e : Effect) (c : Change) → Does at sr e c → Does at sr (privileged at sr e) (cond (supervisor sr) c (privilege at sr))
  allowed e c h = either-made at sr m (supervisor sr) [] e (enters no_write 8 at) c (privilege at sr) h (privilege-does at sr)

  rte-made : Makes none (privileged at sr returns) (l4.rte at sr)
  unfolding l4.rte
  rte-made = allowed _ _ (does-return _)

  stop-made : Makes (word_at (plus at 2)) (privileged at sr nothing) (l4.stop at sr m)
  unfolding l4.stop acting
  stop-made = load-made at sr m (plus at 2) Word [] _ _ (allowed _ _ (does-nothing refl))

  stldsr-made : Makes (acc.status_reads g at m op) (eff.status_effect g at sr m op) (l4.stldsr at sr m)
  unfolding l4.stldsr
  stldsr-made =
      let w : ℕ = number_at m (plus at 2) Word in
      rw next_word
      (load-made at sr m (plus at 2) Word (cond (eqb w 0x46FC) (word_at (plus at 4)) none) _ _
      (cond_made at sr m (eqb w 0x46FC) (word_at (plus at 4)) none _ _ _ _ (load-made at sr m (plus at 4) Word [] _ _ (allowed _ _ (does-push _ _))) (illegal-does at sr)))

  to_usp : Makes none (privileged at sr nothing) (l4.move_to_usp g at sr op)
  unfolding l4.move_to_usp acting
  to_usp = allowed _ _ (does-nothing refl)

  from_usp : (other : ℕ) → Makes none (privileged at sr nothing) (l4.move_from_usp at sr other op)
  unfolding l4.move_from_usp done
  from_usp other = allowed _ _ (does-nothing refl)

  movec-made : (writes : Bool) → Makes (word_at (plus at 2)) (eff.control_effect g at sr m op) (l4.movec writes at sr m)
  unfolding l4.movec control_register acting
  movec-made writes =
      let rc : ℕ = control_field (number_at m (plus at 2) Word) in
      load-made at sr m (plus at 2) Word [] _ _ (allowed _ _ (by (eqb rc 0x002) (eqb rc 0x801)))
    where
      next : ℕ
      next = plus (plus at 2) 2

      n : ℕ
      n = high_four (number_at m (plus at 2) Word)

      by : (a b : Bool) → Does at sr (cond a nothing (cond b nothing (illegal_word at)))
          (l4.naming sr at (cond a (Some Cacr) (cond b (Some Vbr) None)) λ c. acting sr next no_write (MoveControl writes c n))
      by true b = does-nothing refl
      by false true = does-nothing refl
      by false false = illegal-does at sr

  from-sr : Makes none (privileged at sr (cond (eqb (mode op) 0) nothing (illegal_word at))) (l4.move_from_sr g at sr op)
  unfolding l4.move_from_sr done
  from-sr = allowed _ _ (either-made at sr m (eqb (mode op) 0) [] _ _ _ _ (does-nothing refl) (illegal-does at sr))

  to-sr : Makes (from Word) (cond (supervisor sr) nothing (enters (eff.operand_move g at sr m op Word) 8 at)) (l4.move_to_sr g at sr m op)
  unfolding l4.move_to_sr acting source
  to-sr =
      source-only at sr m g (plus at 2) op Word _ _
      (either-made at sr m (supervisor sr) [] _ _ _ _ (does-nothing refl) (does-enter (violation (moved-long g (named op) Word))))

  to_ccr : Makes (from Word) nothing (l4.move_to_ccr g at m op)
  unfolding l4.move_to_ccr done
  to_ccr = source-only at sr m g (plus at 2) op Word nothing _ (does-nothing refl)

  -- the registers go to memory, or come from it
  abbrev many : Bool → ℕ → ℕ → Effect
  many to_memory = cond to_memory stores_many loads_many

  many-does : (b : Bool) (next regs a : ℕ) → Does at sr (many b regs a) (acting sr next no_write (l4.many b regs a))
  unfolding l4.many
  many-does true next regs a = does_store_many next
  many-does false next regs a = does_load_many next

  move-many : (b : Bool) → Makes (acc.many_reads g at m op) (eff.many_effect g at sr m op (many b)) (l4.movem b g at sr m op)
  unfolding l4.movem
  move-many b =
      rw next_word
      (load-made at sr m (plus at 2) Word displaced _ _
      (in_mode_2 _ _ _ _ (many-does b _ _ _)
      (cond_made at sr m (eqb (mode op) 5) (word_at (plus at 4)) none _ _ _ _ (load-made at sr m (plus at 4) Word [] _ _ (many-does b _ _ _)) (illegal-does at sr))))
    where
      displaced : List Wanted
      displaced = cond (eqb (mode op) 5) (word_at (plus at 4)) none

      in_mode_2 : (e f : Effect) (c d : Change) → Does at sr e c → Makes displaced f d → Makes displaced (cond (eqb (mode op) 2) e f) (cond (eqb (mode op) 2) c d)
      in_mode_2 e f c d p q = by (eqb (mode op) 2) refl
        where
          by : (b : Bool) → eqb (mode op) 2 ≡ b → Makes displaced (cond b e f) (cond b c d)
          by true h = rw (eqb-true (mode op) 2 h) p
          by false h = q

  clear-made : Makes (extension_of (plus at 2) op (size_field op)) (eff.sets g at sr m op (plus at 2) (size_field op) 0) (l4.clr g at sr m op)
  unfolding l4.clr destination_of
  clear-made =
      let z : Size = size_field op in
      put_to-made at sr m (extension_of (plus at 2) op z) g _ (destination g m (plus at 2) op z) z 0 (destination-found m g (plus at 2) op z)

  test_made : Makes (from (size_field op)) nothing (l4.tst g at sr m op)
  unfolding l4.tst done
  test_made = source-only at sr m g (plus at 2) op (size_field op) nothing _ (does-nothing refl)

  tas-made : Makes (from Byte) (eff.updates g at sr m op (plus at 2) Byte (λ v. with_bit 7 true v)) (l4.tas g at sr m op)
  unfolding l4.tas
  tas-made = updating-made at sr m g (plus at 2) op Byte λ v. updated (move_codes Byte v sr) (with_bit 7 true v)

  multiply_made : Makes (word_at (plus at 2) ++ operand_at g m (plus at 4) op Long) nothing (l4.mul_l g at sr m op)
  unfolding l4.mul_l done
  multiply_made =
      rw next_word (load-made at sr m (plus at 2) Word (operand_at g m (plus at 4) op Long) nothing _ (source-only at sr m g (plus at 4) op Long nothing _ (does-nothing refl)))

  -- every divide, by an operand of the size z whose extension words are at pc
  divide_does : (pc : ℕ) (z : Size) (q : Option Quotient) (to : Quotient → Write)
      → Does at sr (eff.divide_effect g at sr m op pc z) (l4.dividing z sr (source g m pc op z) (eff.operand_value g at sr m op pc z) q to)
  unfolding done source
  divide_does pc z q to =
      either-made at sr m (eqb (eff.operand_value g at sr m op pc z) 0) [] _ nothing _ _
      (does-enter (zero_divide_lem (moved-long g (named op) z) (plus-below _ _)))
      (by q)
    where
      by : (q : Option Quotient) → Does at sr nothing (l4.with_quotient z sr (source g m pc op z) q to)
      by (Some q) = does-nothing refl
      by None = does-nothing refl

  divide_made : Makes (word_at (plus at 2) ++ operand_at g m (plus at 4) op Long) (eff.divide_effect g at sr m op (plus at 4) Long) (l4.div_l g at sr m op)
  unfolding l4.div_l
  divide_made =
      let w : ℕ = number_at m (plus at 2) Word in
      let q : Option Quotient = l4.divided w (data_of g (bits 14 12 w)) (eff.operand_value g at sr m op (plus at 4) Long) in
      rw next_word
      (load-made at sr m (plus at 2) Word (operand_at g m (plus at 4) op Long) _ _
      (source-only at sr m g (plus at 4) op Long _ _ (divide_does (plus at 4) Long q (l4.quotient_to w))))

  pub line4-made : (other n : ℕ) → Makes (acc.reads4 g at m op n) (eff.effects4 g at sr m op n) (l4.line4 n g at sr other m op)
  unfolding acc.reads4 eff.effects4 l4.line4 l4.nop l4.halt l4.trap l4.move_from_ccr l4.swap l4.extb l4.ext_w l4.ext_l l4.sats l4.neg l4.negx l4.not jump done acting enter
  line4-made other n =
      all_made at sr m
      (row none nothing (l4.nop at sr) (does-nothing refl)
      (row (word_at (plus at 2)) (privileged at sr nothing) (l4.stop at sr m) stop-made
      (row none (privileged at sr returns) (l4.rte at sr) rte-made
      (row (long_at (address_of g 7)) nothing (l4.rts g sr m) rts-made
      (row (word_at (plus at 2)) (eff.control_effect g at sr m op) (l4.movec false at sr m) (movec-made false)
      (row (word_at (plus at 2)) (eff.control_effect g at sr m op) (l4.movec true at sr m) (movec-made true)
      (row none nothing (l4.halt at sr) (does-nothing refl)
      (row none nothing (l4.nop at sr) (does-nothing refl)
      (row none (illegal_word at) (illegal at sr) (illegal-does at sr)
      (row (acc.status_reads g at m op) (eff.status_effect g at sr m op) (l4.stldsr at sr m) stldsr-made
      (row none nothing (l4.extb g at sr op) (does-nothing refl)
      (row (word_at (plus at 2)) (eff.pushes g at sr m op (address_of g (register op))) (l4.link g at sr m op) link-made
      (row (long_at (address_of g (register op))) nothing (l4.unlk g at sr m op) unlk-made
      (row none (privileged at sr nothing) (l4.move_to_usp g at sr op) to_usp
      (row none (privileged at sr nothing) (l4.move_from_usp at sr other op) (from_usp other)
      (row none nothing (l4.move_from_ccr g at sr op) (does-nothing refl)
      (row none nothing (l4.swap g at sr op) (does-nothing refl)
      (row none nothing (l4.ext_w g at sr op) (does-nothing refl)
      (row none nothing (l4.ext_l g at sr op) (does-nothing refl)
      (row none nothing (l4.sats g at sr op) (does-nothing refl)
      (row none nothing (l4.negx g at sr op) (does-nothing refl)
      (row none nothing (l4.neg g at op) (does-nothing refl)
      (row none nothing (l4.not g at sr op) (does-nothing refl)
      (row none (enters no_write (32 + low_four op) (plus at 2)) (l4.trap at sr op) (does-enter (trapped (omega arith)))
      (row address-words (eff.controlled g at sr m op (λ a. eff.pushes g at sr m op (plus (plus at 2) (extension (named op) Long)))) (l4.jsr g at sr m op) jsr-made
      (row address-words (eff.controlled g at sr m op (λ a. nothing)) (l4.jmp g at sr m op) jmp-made
      (row none (privileged at sr (cond (eqb (mode op) 0) nothing (illegal_word at))) (l4.move_from_sr g at sr op) from-sr
      (row none (illegal_word at) (illegal at sr) (illegal-does at sr)
      (row (from Word) nothing (l4.move_to_ccr g at m op) to_ccr
      (row (from Word) (cond (supervisor sr) nothing (enters (eff.operand_move g at sr m op Word) 8 at)) (l4.move_to_sr g at sr m op) to-sr
      (row address-words (eff.controlled g at sr m op (λ a. eff.pushes g at sr m op a)) (l4.pea g at sr m op) pea-made
      (row (acc.many_reads g at m op) (eff.many_effect g at sr m op stores_many) (l4.movem true g at sr m op) (move-many true)
      (row (acc.many_reads g at m op) (eff.many_effect g at sr m op loads_many) (l4.movem false g at sr m op) (move-many false)
      (row (word_at (plus at 2) ++ operand_at g m (plus at 4) op Long) nothing (l4.mul_l g at sr m op) multiply_made
      (row (word_at (plus at 2) ++ operand_at g m (plus at 4) op Long) (eff.divide_effect g at sr m op (plus at 4) Long) (l4.div_l g at sr m op) divide_made
      (row (from Byte) (eff.updates g at sr m op (plus at 2) Byte (λ v. with_bit 7 true v)) (l4.tas g at sr m op) tas-made
      (row (extension_of (plus at 2) op (size_field op)) (eff.sets g at sr m op (plus at 2) (size_field op) 0) (l4.clr g at sr m op) clear-made
      (row (from (size_field op)) nothing (l4.tst g at sr m op) test_made
      (row address-words (eff.controlled g at sr m op (λ a. nothing)) (l4.lea g at sr m op) lea_made
      (row none (illegal_word at) (illegal at sr) (illegal-does at sr)
      end))))))))))))))))))))))))))))))))))))))))
      (place_in (first_row 4) n)

  -- ---- lines 9 and D, and 5

  to-place : (add : Bool) (z : Size) (n : ℕ) → Makes (from z) (eff.sum_effect g at sr m op add z n) (l9.add_to_place add z g at m op n)
  unfolding l9.add_to_place
  to-place add z n =
      updating-made at sr m g (plus at 2) op z λ v.
      let r : Sum = sum_or_difference add z n v false in
      updated (sum_codes r) r.value

  to_data : (add : Bool) → Makes (from (any_size op)) nothing (l9.add_to_data add g at m op)
  unfolding l9.add_to_data done
  to_data add = source-only at sr m g (plus at 2) op (any_size op) nothing _ (does-nothing refl)

  to-address : (add : Bool) (z : Size) → Makes (from z) nothing (l9.adda add z g at sr m op)
  unfolding l9.adda done
  to-address add z = source-only at sr m g (plus at 2) op z nothing _ (does-nothing refl)

  pub sums-made : (first : ℕ) (add : Bool) (n : ℕ) → Makes (acc.reads9_d g at m op first n) (eff.effects9_d g at sr m op first add n) (l9.sums first add n g at sr m op)
  unfolding acc.reads9_d eff.effects9_d l9.sums l9.addx l9.add_to_memory done
  sums-made first add n =
      all_made at sr m
      (row none nothing (l9.addx add g at sr op) (does-nothing refl)
      (row none nothing (l9.addx add g at sr op) (does-nothing refl)
      (row none nothing (l9.addx add g at sr op) (does-nothing refl)
      (row none (illegal_word at) (illegal at sr) (illegal-does at sr)
      (row none (illegal_word at) (illegal at sr) (illegal-does at sr)
      (row none (illegal_word at) (illegal at sr) (illegal-does at sr)
      (row (from Word) nothing (l9.adda add Word g at sr m op) (to-address add Word)
      (row (from Long) nothing (l9.adda add Long g at sr m op) (to-address add Long)
      (row (from (any_size op)) nothing (l9.add_to_data add g at m op) (to_data add)
      (row (from (any_size op)) (eff.sum_effect g at sr m op add (any_size op) (data_of g (upper op))) (l9.add_to_memory add g at m op) (to-place add (any_size op) (data_of g (upper op)))
      end))))))))))
      (place_in first n)

  quick_made : Makes (from (any_size op)) (eff.sum_effect g at sr m op (l5.quick_adds op) (any_size op) (l5.quick_number op)) (l5.addq g at m op)
  unfolding l5.addq
  quick_made = to-place _ _ _

  pub line5-made : (n : ℕ) → Makes (acc.reads5 g at m op n) (eff.effects5 g at sr m op n) (l5.line5 n g at sr m op)
  unfolding acc.reads5 eff.effects5 l5.line5 l5.tpf l5.addq_address l5.scc jump done
  line5-made n =
      all_made at sr m
      (row none nothing (l5.tpf 2 at sr) (does-nothing refl)
      (row none nothing (l5.tpf 4 at sr) (does-nothing refl)
      (row none nothing (l5.tpf 0 at sr) (does-nothing refl)
      (row none nothing (l5.addq_address g at sr op) (does-nothing refl)
      (row none nothing (l5.addq_address g at sr op) (does-nothing refl)
      (row none nothing (l5.addq_address g at sr op) (does-nothing refl)
      (row none nothing (l5.scc g at sr op) (does-nothing refl)
      (row none (illegal_word at) (illegal at sr) (illegal-does at sr)
      (row (from (any_size op)) (eff.sum_effect g at sr m op (l5.quick_adds op) (any_size op) (l5.quick_number op)) (l5.addq g at m op) quick_made
      end)))))))))
      (place_in (first_row 5) n)

  -- ---- lines 6 and 7

  abbrev branch_words : List Wanted
  branch_words = words (plus at 2) (l6.displacement_bytes (low_byte op))

  missing-displacement : (pc low : ℕ) → fault_of (l6.displacement m pc low) ≡ access_all m (words pc (l6.displacement_bytes low))
  unfolding l6.displacement l6.displacement_bytes load
  missing-displacement pc low = by (eqb low 0) (eqb low 255)
    where
      extended : (x : Result ℕ Fault) → fault_of (l6.extended (found (storage_of m) Word x)) ≡ first_fault x (Ok tt)
      extended (Ok at) = refl
      extended (Err x) = refl

      by : (a b : Bool)
          → fault_of (cond a (l6.extended (found (storage_of m) Word (access m pc 2))) (cond b (found (storage_of m) Long (access m pc 4)) (Ok (sign_extended Byte low))))
          ≡ access_all m (words pc (cond a 2 (cond b 4 0)))
      by true b = extended (access m pc 2)
      by false true = missing-found m Long (access m pc 4)
      by false false = refl

  branch_made : (e : Effect) (f : ℕ → Change) → ((d : ℕ) → Does at sr e (f d)) → Makes branch_words e (reading (l6.displacement m (plus at 2) (low_byte op)) f)
  branch_made e f h = reading-only at sr m branch_words e (l6.displacement m (plus at 2) (low_byte op)) f (missing-displacement (plus at 2) (low_byte op)) (h _)

  bra-made : Makes branch_words nothing (l6.bra at sr m op)
  unfolding l6.bra
  bra-made = branch_made _ _ (λ d. jump-does _)

  bsr-made : Makes branch_words (eff.pushes g at sr m op (plus (plus at 2) (l6.displacement_bytes (low_byte op)))) (l6.bsr g at sr m op)
  unfolding l6.bsr
  bsr-made = branch_made _ _ (λ d. push-does _ _)

  bcc-made : Makes branch_words nothing (l6.bcc at sr m op)
  unfolding l6.bcc
  bcc-made = branch_made _ _ (λ d. jump-does _)

  pub line6-made : (n : ℕ) → Makes (acc.reads6 g at m op n) (eff.effects6 g at sr m op n) (l6.line6 n g at sr m op)
  unfolding acc.reads6 eff.effects6 l6.line6
  line6-made n =
      all_made at sr m
      (row branch_words nothing (l6.bra at sr m op) bra-made
      (row branch_words (eff.pushes g at sr m op (plus (plus at 2) (l6.displacement_bytes (low_byte op)))) (l6.bsr g at sr m op) bsr-made
      (row branch_words nothing (l6.bcc at sr m op) bcc-made
      end)))
      (place_in (first_row 6) n)

  move-signed : Makes (from (byte_or_word op)) nothing (l7.mvs g at sr m op)
  unfolding l7.mvs done
  move-signed = source-only at sr m g (plus at 2) op (byte_or_word op) nothing _ (does-nothing refl)

  move_zero : Makes (from (byte_or_word op)) nothing (l7.mvz g at sr m op)
  unfolding l7.mvz done
  move_zero = source-only at sr m g (plus at 2) op (byte_or_word op) nothing _ (does-nothing refl)

  pub line7-made : (n : ℕ) → Makes (acc.reads7 g at m op n) (eff.effects7 g at sr m op n) (l7.line7 n g at sr m op)
  unfolding acc.reads7 eff.effects7 l7.line7 l7.moveq done
  line7-made n =
      let l : List Wanted = from (byte_or_word op) in
      all_made at sr m
      (row l nothing (l7.mvs g at sr m op) move-signed
      (row l nothing (l7.mvz g at sr m op) move_zero
      (row none nothing (l7.moveq at sr op) (does-nothing refl)
      end)))
      (place_in (first_row 7) n)

  -- ---- lines B, C, 8, E and F

  compare_address : (z : Size) → Makes (from z) nothing (lb.cmpa z g at sr m op)
  unfolding lb.cmpa done
  compare_address z = source-only at sr m g (plus at 2) op z nothing _ (does-nothing refl)

  compare_data : Makes (from (size_field op)) nothing (lb.cmp g at sr m op)
  unfolding lb.cmp done
  compare_data = source-only at sr m g (plus at 2) op (size_field op) nothing _ (does-nothing refl)

  logic-to_place : (l : Logic) → Makes (from (any_size op)) (eff.logic_effect g at sr m op l) (lb.logic_to_place l g at sr m op)
  unfolding lb.logic_to_place
  logic-to_place l =
      updating-made at sr m g (plus at 2) op (any_size op) λ v.
      let r : ℕ = logic l v (data_of g (upper op)) in
      updated (move_codes (any_size op) r sr) r

  pub line_b-made : (n : ℕ) → Makes (acc.reads_b g at m op n) (eff.effects_b g at sr m op n) (lb.line_b n g at sr m op)
  unfolding acc.reads_b eff.effects_b lb.line_b
  line_b-made n =
      all_made at sr m
      (row (from Word) nothing (lb.cmpa Word g at sr m op) (compare_address Word)
      (row (from Long) nothing (lb.cmpa Long g at sr m op) (compare_address Long)
      (row (from (size_field op)) nothing (lb.cmp g at sr m op) compare_data
      (row (from (any_size op)) (eff.logic_effect g at sr m op Eor) (lb.logic_to_place Eor g at sr m op) (logic-to_place Eor)
      end))))
      (place_in (first_row 0xB) n)

  logic_to_data_lem : (l : Logic) → Makes (from (any_size op)) nothing (lc.logic_to_data l g at sr m op)
  unfolding lc.logic_to_data done
  logic_to_data_lem l = source-only at sr m g (plus at 2) op (any_size op) nothing _ (does-nothing refl)

  multiply_words : (signs : Bool) → Makes (from Word) nothing (lc.mul_w signs g at sr m op)
  unfolding lc.mul_w done
  multiply_words signs = source-only at sr m g (plus at 2) op Word nothing _ (does-nothing refl)

  pub line_c-made : (n : ℕ) → Makes (acc.reads_c g at m op n) (eff.effects_c g at sr m op n) (lc.line_c n g at sr m op)
  unfolding acc.reads_c eff.effects_c lc.line_c
  line_c-made n =
      all_made at sr m
      (row (from Word) nothing (lc.mul_w false g at sr m op) (multiply_words false)
      (row (from Word) nothing (lc.mul_w true g at sr m op) (multiply_words true)
      (row (from (any_size op)) nothing (lc.logic_to_data And g at sr m op) (logic_to_data_lem And)
      (row (from (any_size op)) (eff.logic_effect g at sr m op And) (lb.logic_to_place And g at sr m op) (logic-to_place And)
      end))))
      (place_in (first_row 0xC) n)

  divide_words : (signs : Bool) → Makes (from Word) (eff.divide_effect g at sr m op (plus at 2) Word) (l8.div_w signs g at sr m op)
  unfolding l8.div_w
  divide_words signs =
      let q : Option Quotient = l8.word_divided signs (data_of g (upper op)) (eff.operand_value g at sr m op (plus at 2) Word) in
      source-only at sr m g (plus at 2) op Word _ _ (divide_does (plus at 2) Word q _)

  pub line8-made : (n : ℕ) → Makes (acc.reads8 g at m op n) (eff.effects8 g at sr m op n) (l8.line8 n g at sr m op)
  unfolding acc.reads8 eff.effects8 l8.line8
  line8-made n =
      all_made at sr m
      (row (from Word) (eff.divide_effect g at sr m op (plus at 2) Word) (l8.div_w false g at sr m op) (divide_words false)
      (row (from Word) (eff.divide_effect g at sr m op (plus at 2) Word) (l8.div_w true g at sr m op) (divide_words true)
      (row (from (any_size op)) nothing (lc.logic_to_data Or g at sr m op) (logic_to_data_lem Or)
      (row (from (any_size op)) (eff.logic_effect g at sr m op Or) (lb.logic_to_place Or g at sr m op) (logic-to_place Or)
      end))))
      (place_in (first_row 8) n)

  -- a shift, and every other word of the line, reads nothing
  pub line_e-made : (n : ℕ) → Makes none (eff.effects_e g at sr m op n) (le.line_e n g at sr op)
  unfolding eff.effects_e le.line_e le.shift done
  line_e-made n = by (place_in (first_row 0xE) n)
    where
      by : (i : ℕ) → Does at sr (get_or (nothing ∷ nothing ∷ illegal_word at ∷ []) i (illegal_word at)) (get_or (le.shift true g at sr op ∷ le.shift false g at sr op ∷ illegal at sr ∷ []) i (illegal at sr))
      by zero = does-nothing refl
      by (suc zero) = does-nothing refl
      by (suc (suc zero)) = illegal-does at sr
      by (suc (suc (suc i))) = illegal-does at sr

  debug_ends_lem : (pc : ℕ) (l : List Wanted) (got : Option (Result ℕ Fault)) (size skipped : ℕ) → unreached got ≡ access_all m l → Makes l nothing (lf.debug_ends sr pc got size skipped)
  debug_ends_lem pc l (Some (Ok a)) size skipped e = rw (← e) (jump-does _)
  debug_ends_lem pc l (Some (Err x)) size skipped e = rw (← e)
  debug_ends_lem pc l None size skipped e = rw (← e) (jump-does _)

  write_debug : Makes address-words nothing (lf.wdebug g at sr m op)
  unfolding lf.wdebug
  write_debug = debug_ends_lem (plus at 2) address-words (control g m (plus at 2) (named op)) _ 2 (control_missed m g (plus at 2) op)

  cache_line_lem : Makes none (privileged at sr nothing) (lf.cache_line at sr)
  unfolding lf.cache_line
  cache_line_lem = allowed _ _ (jump-does _)

  debug_data : Makes (extension_of (plus at 2) op (size_field op)) nothing (lf.wddata g at sr m op)
  unfolding lf.wddata done
  debug_data =
      let z : Size = size_field op in
      locating-made at sr m (extension_of (plus at 2) op z) nothing (destination g m (plus at 2) op z).place _ (destination-found m g (plus at 2) op z) (does-nothing refl)

  pub line_f-made : (n : ℕ) → Makes (acc.reads_f g at m op n) (eff.effects_f g at sr m op n) (lf.line_f n g at sr m op)
  unfolding acc.reads_f eff.effects_f lf.line_f enter
  line_f-made n =
      all_made at sr m
      (row address-words nothing (lf.wdebug g at sr m op) write_debug
      (row none (privileged at sr nothing) (lf.cache_line at sr) cache_line_lem
      (row (extension_of (plus at 2) op (size_field op)) nothing (lf.wddata g at sr m op) debug_data
      (row none (enters no_write 11 at) (lf.unassigned at sr) (does-enter line_f_lem)
      end))))
      (place_in (first_row 0xF) n)

  -- ---- line A

  setting-quiet : (part : EmacPart) (v : ℕ) → quiet (la.setting part op v) ≡ true
  unfolding la.setting
  setting-quiet Acc v = refl
  setting-quiet Ext v = refl
  setting-quiet Macsr v = refl
  setting-quiet Mask v = refl

  to-emac : (part : EmacPart) → Makes (from Long) nothing (la.move_to_emac part g at sr m op)
  unfolding la.move_to_emac acting
  to-emac part = source-only at sr m g (plus at 2) op Long nothing _ (does-nothing (setting-quiet part _))

  from-acc : (e : Emac) → Makes none nothing (la.move_from_acc at sr e op)
  unfolding la.move_from_acc acting
  from-acc e = does-nothing (by (bit_of 6 op))
    where
      by : (b : Bool) → quiet (cond b (ClearAcc (acc_field op)) Nothing) ≡ true
      by true = refl
      by false = refl

  move-three : Makes (extension_of (plus at 2) op Long) (eff.sets g at sr m op (plus at 2) Long (la.three_bits op)) (la.mov3q g at sr m op)
  unfolding la.mov3q destination_of
  move-three = put_to-made at sr m (extension_of (plus at 2) op Long) g _ (destination g m (plus at 2) op Long) Long _ (destination-found m g (plus at 2) op Long)

  unassigned-made : Makes (from Long) (enters (eff.operand_move g at sr m op Long) 10 at) (la.unassigned g at sr m op)
  unfolding la.unassigned source
  unassigned-made = source-only at sr m g (plus at 2) op Long _ _ (does-enter (line-a (moved-long g (named op) Long)))

  -- MAC and MSAC, with what their second word says
  abbrev second : ℕ
  second = number_at m (plus at 2) Word

  mac-load : (macsr mask next a : ℕ) → Makes (long_at (la.load_address mask second a)) nothing (la.mac_load g next sr macsr mask m op second a)
  unfolding la.mac_load
  mac-load macsr mask next a = load-made at sr m (la.load_address mask second a) Long [] nothing _ (does-nothing refl)

  with_load : (macsr mask : ℕ)
      → Makes (cond (ltb 5 (mode op)) none (acc.load_reads g at m op mask second)) (cond (ltb 5 (mode op)) (enters no_write 10 at) nothing) (la.mac_with_load g at sr macsr mask m op second)
  unfolding la.mac_with_load enter no_write
  with_load macsr mask =
      let base : ℕ = address_of g (register op) in
      let displaced : ℕ = plus base (sign_extended Word (number_at m (plus at 4) Word)) in
      let plain : ℕ = cond (eqb (mode op) 4) (minus base 4) base in
      cond_made at sr m (ltb 5 (mode op)) none _ _ _ _ _ (does-enter (line-a {w = no_write} (omega arith)))
      (either-reads at sr m (eqb (mode op) 5) (word_at (plus at 4) ++ long_at (la.load_address mask second displaced)) (long_at (la.load_address mask second plain)) nothing _ _
      (load-made at sr m (plus at 4) Word (long_at (la.load_address mask second displaced)) nothing _ (mac-load macsr mask _ displaced))
      (mac-load macsr mask _ plain))

  mac-made : (macsr mask : ℕ) → Makes (acc.mac_reads g at m op mask) (eff.mac_effect g at sr m op) (la.mac g at sr macsr mask m op)
  unfolding la.mac la.mac_registers acting
  mac-made macsr mask =
      let after : List Wanted = cond (ltb 5 (mode op)) none (acc.load_reads g at m op mask second) in
      load-made at sr m (plus at 2) Word (cond (eqb (bits 5 4 op) 0) none after) (eff.mac_effect g at sr m op) _
      (cond_made at sr m (eqb (bits 5 4 op) 0) none after nothing _ _ _ (does-nothing refl) (with_load macsr mask))

  pub line_a-made : (e : Emac) (n : ℕ) → Makes (acc.reads_a g at m op e.mask n) (eff.effects_a g at sr m op n) (la.line_a n g at sr e m op)
  unfolding acc.reads_a eff.effects_a la.line_a la.move_macsr_to_ccr la.move_acc_to_acc la.move_to_general done acting
  line_a-made e n =
      all_made at sr m
      (row none nothing (la.move_macsr_to_ccr at e.macsr) (does-nothing refl)
      (row none nothing (la.move_acc_to_acc at sr op) (does-nothing refl)
      (row none nothing (la.move_to_general at sr op e.macsr) (does-nothing refl)
      (row none nothing (la.move_to_general at sr op e.mask) (does-nothing refl)
      (row none nothing (la.move_to_general at sr op (read_ext (fractional e.macsr) e (ext_field op))) (does-nothing refl)
      (row (from Long) nothing (la.move_to_emac Macsr g at sr m op) (to-emac Macsr)
      (row (from Long) nothing (la.move_to_emac Mask g at sr m op) (to-emac Mask)
      (row none nothing (la.move_from_acc at sr e op) (from-acc e)
      (row (from Long) nothing (la.move_to_emac Ext g at sr m op) (to-emac Ext)
      (row (from Long) nothing (la.move_to_emac Acc g at sr m op) (to-emac Acc)
      (row (extension_of (plus at 2) op Long) (eff.sets g at sr m op (plus at 2) Long (la.three_bits op)) (la.mov3q g at sr m op) move-three
      (row (acc.mac_reads g at m op e.mask) (eff.mac_effect g at sr m op) (la.mac g at sr e.macsr e.mask m op) (mac-made e.macsr e.mask)
      (row (from Long) (enters (eff.operand_move g at sr m op Long) 10 at) (la.unassigned g at sr m op) unassigned-made
      end)))))))))))))
      (place_in (first_row 0xA) n)
