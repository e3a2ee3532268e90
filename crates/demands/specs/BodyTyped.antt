-- Every instruction's numbers are longs, line by line, where the registers and the word's address are, MASK and MACSR are, and memory
-- holds bytes. Assumes nothing.
use Prim.Native.Nat.{ℕ, ◌+◌, ◌*◌, ◌%◌, ◌<◌}
use Rattle.std.specs.Prelude.{Bool, cond, List, eqb, ltb, get_or, Result, Option, Ok, Err, Some, None, IfSome}
use Rattle.std.proofs.lemmas.Option.{IfSome_then}
use Rattle.std.proofs.Math.Bool.{true, false}
use native.Mathlib.Omega.{arith}
use Rattle.std.specs.Int.Bits.{and_le_l}
use Rattle.std.specs.Int.Count.{leading_le}
use Rattle.manual.specs.declared.Fault.{Fault}
use Rattle.manual.specs.declared.ControlRegister.{ControlRegister}
use Rattle.manual.specs.declared.Size.{Size}
use Rattle.manual.specs.declared.Size.TheVariants.{Byte, Word, Long}
use Rattle.manual.specs.declared.Emac.{Emac}
use Rattle.manual.specs.declared.EmacPart.{EmacPart}
use Rattle.manual.specs.declared.EmacPart.TheVariants.{Acc, Ext, Macsr, Mask}
use Rattle.manual.specs.declared.Logic.{Logic}
use Rattle.manual.specs.declared.Logic.TheVariants.{And, Or, Eor}
use Rattle.manual.specs.declared.Operand.{Operand}
use Rattle.manual.specs.declared.Operand.TheVariants.{Immediate}
use Rattle.manual.specs.declared.Write.{Write}
use Rattle.manual.specs.declared.Source.{Source}
use Rattle.manual.specs.declared.Destination.{Destination}
use Rattle.manual.specs.declared.Quotient.{Quotient}
use Rattle.manual.specs.declared.Action.{Action}
use Rattle.manual.specs.declared.Action.TheVariants.{Nothing, CopyAcc, ClearAcc, Return, Status, Stop, PushStatus, Halt, SetOther, MoveControl}
use Rattle.manual.specs.declared.Change.{Change}
use Rattle.manual.specs.Word.{plus, numbers, merged}
use Rattle.manual.specs.Bits.{bit_of}
use Rattle.manual.specs.Flags.{flag_x, flag_v}
use Rattle.manual.specs.Exceptions.{supervisor}
use Rattle.manual.specs.Control.{control_register}
use Rattle.manual.specs.Conditions.{condition}
use Rattle.manual.specs.Shift.{shifted_left, shifted_right, signed_shifted_right}
use Rattle.manual.specs.Emac.{fractional}
use Rattle.manual.specs.Fields.{bits, upper, upper_mode, mode, register, bit_operator, size_field, byte_or_word, low_byte, high_four, control_field, condition_field, acc_field, ext_field, line}
use Rattle.manual.specs.Registers.{data_of, address_of, no_write, write_data, write_address, write_general, written}
use Rattle.manual.specs.Memory.{Memory, storage_of, load}
use Rattle.manual.specs.Address.{operand, operand_of, fetch, value, source, control, destination, destination_of}
use Rattle.manual.specs.Differences.{any_size}
use Rattle.manual.specs.Change.{done, acting, illegal, privilege, jump, reading, reaching, put_to, Updated, updating}
use Rattle.instructions.specs.Rows.{first_row, place_in, row_of}
use Rattle.instructions.specs.Line0 as l0
use Rattle.instructions.specs.Moves as moves
use Rattle.instructions.specs.Line4 as l4
use Rattle.instructions.specs.Line5 as l5
use Rattle.instructions.specs.Line6 as l6
use Rattle.instructions.specs.Line7 as l7
use Rattle.instructions.specs.Line8 as l8
use Rattle.instructions.specs.Line9D as l9
use Rattle.instructions.specs.LineA as la
use Rattle.instructions.specs.LineB as lb
use Rattle.instructions.specs.LineC as lc
use Rattle.instructions.specs.LineE as le
use Rattle.instructions.specs.LineF as lf
use Rattle.instructions.specs.Step.{instruction, execute}
use Rattle.word.specs.BitLaws.{with_below, reversed_below}
use Rattle.word.specs.WordLaws.{plus-below, minus-below}
use Rattle.demands.specs.Exact.{Bytes}
use Rattle.demands.specs.FitLaws as fit
use Rattle.demands.specs.FitLaws.{IsLong, FitsLong, QuotientFits, Longs, other_in, AllFit, end, ◌&◌, listed-fits, either-long, no_write-long, done-fits, store-fits, data_fits, address-fits, general-fits, acting-fits, jump_fits, push-fits, either-fits, illegal-fits}

module _ (g : List ℕ) (all : Longs g) (at : ℕ) (here : IsLong at) (sr : ℕ) (m : Memory) (bytes-in : Bytes (storage_of m)) (op : ℕ) where
  -- ---- what many bodies end with

  illegal-here : FitsLong (illegal at sr)
  illegal-here = illegal-fits at sr here

  -- the row of a line at a place; any other word of the line is illegal
  row_fits : {l : List Change} → AllFit l → (i : ℕ) → FitsLong (get_or l i (illegal at sr))
  row_fits h i = listed-fits h i (illegal at sr) illegal-here

  -- a data register is written, and the next word is next
  to_data : (codes r v : ℕ) → IsLong v → FitsLong (done (plus at 2) codes no_write (write_data r v))
  to_data codes r v h = data_fits (plus at 2) codes no_write r v (plus-below at 2) no_write-long h

  load_fits : (a : ℕ) (z : Size) (f : ℕ → Change) → ((v : ℕ) → v < numbers z → FitsLong (f v)) → FitsLong (reading (load m a z) f)
  load_fits a z f h = fit.load_fits m bytes-in a z f h

  -- the address that the word names
  reach_fits : (f : ℕ → Change) → ((a : ℕ) → IsLong a → FitsLong (f a)) → FitsLong (reaching sr at (control g m (plus at 2) (operand_of op)) f)
  reach_fits f h = fit.reaching-fits sr at (control g m (plus at 2) (operand_of op)) f here (fit.control-fits m bytes-in g all (plus at 2) (operand_of op)) h

  -- the operand that the word names, its extension words being at pc
  module _ (pc : ℕ) (z : Size) where
    abbrev from : Source
    from = source g m pc op z

    source_fits : (f : ℕ → Change) → ((v : ℕ) → v < numbers z → FitsLong (f v)) → FitsLong (reading from.got f)
    unfolding source
    source_fits f h = fit.reading-fits (numbers z) from.got f (fit.value-below m bytes-in g all pc (operand_of op) z) h

    next-long : IsLong from.next
    unfolding source
    next-long = plus-below pc _

    moved-long : IsLong from.moved.value
    unfolding source
    moved-long = fit.moved-long g (operand_of op) z

    source_to_data : (codes r v : ℕ) → IsLong v → FitsLong (done from.next codes from.moved (write_data r v))
    source_to_data codes r v h = data_fits from.next codes from.moved r v next-long moved-long h

    source_to_address : (codes r v : ℕ) → IsLong v → FitsLong (done from.next codes from.moved (write_address r v))
    source_to_address codes r v h = address-fits from.next codes from.moved r v next-long moved-long h

    source-alone : (codes : ℕ) → FitsLong (done from.next codes from.moved no_write)
    source-alone codes = done-fits from.next codes from.moved no_write next-long moved-long no_write-long

    -- where it is written
    abbrev to : Destination
    to = destination g m pc op z

    to-alone : (codes : ℕ) → FitsLong (done to.next codes to.moved no_write)
    unfolding destination_of
    to-alone codes = done-fits to.next codes to.moved no_write (plus-below pc _) (fit.moved-long g (operand_of op) z) no_write-long

    put_to-fits : (codes v : ℕ) → IsLong v → FitsLong (put_to g codes to z v)
    unfolding put_to
    put_to-fits codes v h = fit.put-fits g all z v to.place _ h (to-alone codes)

    place-fits : (f : ℕ → Change) → ((v : ℕ) → v < numbers z → FitsLong (f v)) → FitsLong (reading (fetch g m to.place z) f)
    place-fits f h = fit.reading-fits (numbers z) (fetch g m to.place z) f (fit.fetch-below m bytes-in g all to.place z) h

    -- what is made of its value goes back to it
    updating-fits : (f : ℕ → Updated) → ((v : ℕ) → v < numbers z → IsLong (f v).value) → FitsLong (updating g m pc op z f)
    updating-fits f h = place-fits _ (λ v l. put_to-fits _ _ (h v l))

  -- ---- line 0

  bitrev-fits : FitsLong (l0.bitrev g at sr op)
  unfolding l0.bitrev
  bitrev-fits = to_data _ _ _ (reversed_below 32 _)

  byterev-fits : FitsLong (l0.byterev g at sr op)
  unfolding l0.byterev
  byterev-fits = to_data _ _ _ (fit.bytes-long _ (fit.data_long g all _))

  ff1-fits : FitsLong (l0.ff1 g at sr op)
  unfolding l0.ff1
  ff1-fits = to_data _ _ _ (omega (arith, leading_le 32 (data_of g (register op))))

  logic-immediate : (l : Logic) → FitsLong (l0.logic_immediate l g at sr m op)
  unfolding l0.logic_immediate
  logic-immediate l =
      load_fits (plus at 2) Long _
      (λ v h. data_fits _ _ no_write _ _ (plus-below _ 4) no_write-long (fit.logic-long l _ v (fit.data_long g all _) h))

  sum_immediate_lem : (add : Bool) → FitsLong (l0.sum_immediate add g at m op)
  unfolding l0.sum_immediate
  sum_immediate_lem add = load_fits (plus at 2) Long _ (λ v h. data_fits _ _ no_write _ _ (plus-below _ 4) no_write-long (fit.sum_long add Long v _ false))

  compare_immediate : (z : Size) → FitsLong (l0.cmpi z g at sr m op)
  unfolding l0.cmpi
  compare_immediate z =
      fit.reading-fits (numbers z) (value g m (plus at 2) Immediate z) _ (fit.value-below m bytes-in g all (plus at 2) Immediate z)
      (λ v h. done-fits _ _ no_write no_write (plus-below _ _) no_write-long no_write-long)

  bit_operation_lem : (pc n : ℕ) → IsLong pc → FitsLong (l0.bit_operation g pc sr m op n)
  unfolding l0.bit_operation l0.bit_of_data l0.bit_of_byte
  bit_operation_lem pc n p =
      either-fits (eqb (mode op) 0) _ _
      (data_fits pc _ no_write _ _ p no_write-long (fit.changed_bit-long (bit_operator op) (n % 32) _ (omega arith) (fit.data_long g all _)))
      (place-fits pc Byte _
      (λ v h. either-fits (eqb (bit_operator op) 0) _ _ (to-alone pc Byte _)
      (put_to-fits pc Byte _ _ (fit.changed_bit-long (bit_operator op) (n % 8) v (omega arith) (fit.of_size Byte v h)))))

  by-immediate : FitsLong (l0.bit_by_immediate g at sr m op)
  unfolding l0.bit_by_immediate
  by-immediate = load_fits (plus at 2) Word _ (λ n h. bit_operation_lem (plus at 4) n (plus-below at 4))

  by_register : FitsLong (l0.bit_by_register g at sr m op)
  unfolding l0.bit_by_register
  by_register = bit_operation_lem (plus at 2) _ (plus-below at 2)

  pub line0-fits : (n : ℕ) → FitsLong (l0.line0 n g at sr m op)
  unfolding l0.line0
  line0-fits n =
      row_fits
      (bitrev-fits
      & byterev-fits
      & ff1-fits
      & logic-immediate Or
      & logic-immediate And
      & sum_immediate_lem false
      & sum_immediate_lem true
      & logic-immediate Eor
      & compare_immediate Byte
      & compare_immediate Word
      & compare_immediate Long
      & by-immediate
      & by_register
      & illegal-here
      & end)
      (place_in (first_row 0) n)

  -- ---- lines 1, 2 and 3

  move-fits : (z : Size) → FitsLong (moves.move z g at sr m op)
  unfolding moves.move destination_of
  move-fits z =
      let moving : Write = (source g m (plus at 2) op z).moved in
      let o : Operand = operand (upper_mode op) (upper op) in
      let longs : Longs (written moving g) = fit.written-longs moving g (moved-long (plus at 2) z) all in
      source_fits (plus at 2) z _
      (λ v h. fit.put-fits (written moving g) longs z v _ _ (fit.of_size z v h)
      (done-fits _ _ moving _ (plus-below _ _) (moved-long (plus at 2) z) (fit.moved-long (written moving g) o z)))

  move-address : (z : Size) → FitsLong (moves.movea z g at sr m op)
  unfolding moves.movea
  move-address z = source_fits (plus at 2) z _ (λ v h. source_to_address (plus at 2) z _ _ _ (fit.sign_long z v))

  pub moves_fit : (first : ℕ) (z : Size) (n : ℕ) → FitsLong (moves.moves first z n g at sr m op)
  unfolding moves.moves
  moves_fit first z n = row_fits (move-address z & move-fits z & end) (place_in first n)

  -- ---- line 4

  next_fits : FitsLong (l4.nop at sr)
  unfolding l4.nop
  next_fits = jump_fits sr _ (plus-below at 2)

  lea-fits : FitsLong (l4.lea g at sr m op)
  unfolding l4.lea
  lea-fits = reach_fits _ (λ a h. address-fits _ _ no_write _ a (plus-below _ _) no_write-long h)

  pea-fits : FitsLong (l4.pea g at sr m op)
  unfolding l4.pea
  pea-fits = reach_fits _ (λ a h. push-fits g sr _ a (plus-below _ _))

  jsr-fits : FitsLong (l4.jsr g at sr m op)
  unfolding l4.jsr
  jsr-fits = reach_fits _ (λ a h. push-fits g sr a _ h)

  jmp-fits : FitsLong (l4.jmp g at sr m op)
  unfolding l4.jmp
  jmp-fits = reach_fits _ (λ a h. jump_fits sr a h)

  rts-fits : FitsLong (l4.rts g sr m)
  unfolding l4.rts write_address
  rts-fits = load_fits (address_of g 7) Long _ (λ v h. done-fits v _ (write_address 7 _) no_write h (plus-below _ 4) no_write-long)

  trap-fits : FitsLong (l4.trap at sr op)
  unfolding l4.trap
  trap-fits = fit.enter-fits sr _ _ (plus-below at 2)

  link_fits : FitsLong (l4.link g at sr m op)
  unfolding l4.link write_address
  link_fits = load_fits (plus at 2) Word _ (λ d h. store-fits _ _ (write_address _ _) (write_address 7 _) (plus-below _ 2) (minus-below _ 4) (plus-below _ _) _ Long _)

  unlk-fits : FitsLong (l4.unlk g at sr m op)
  unfolding l4.unlk write_address
  unlk-fits = load_fits (address_of g (register op)) Long _ (λ v h. done-fits _ _ (write_address 7 _) (write_address _ v) (plus-below at 2) (plus-below _ 4) h)

  -- what the supervisor alone does
  allowed : (c : Change) → FitsLong c → FitsLong (cond (supervisor sr) c (privilege at sr))
  allowed c h = either-fits (supervisor sr) c (privilege at sr) h (fit.privilege-fits at sr here)

  -- no register is written, and the other stack pointer is kept
  act-alone : (next : ℕ) (a : Action) → IsLong next → IsLong (other_in a) → FitsLong (acting sr next no_write a)
  act-alone next a n h = acting-fits sr next no_write a n no_write-long h

  rte-fits : FitsLong (l4.rte at sr)
  unfolding l4.rte
  rte-fits = allowed _ (act-alone _ Return (plus-below at 2) (omega arith))

  stop-fits : FitsLong (l4.stop at sr m)
  unfolding l4.stop
  stop-fits = load_fits (plus at 2) Word _ (λ v h. allowed _ (act-alone _ (Stop v) (plus-below _ 2) (omega arith)))

  stldsr-fits : FitsLong (l4.stldsr at sr m)
  unfolding l4.stldsr
  stldsr-fits =
      load_fits (plus at 2) Word _
      (λ w h. either-fits (eqb w 0x46FC) _ _
      (load_fits (plus (plus at 2) 2) Word _ (λ v h. allowed _ (act-alone _ (PushStatus v) (plus-below _ 4) (omega arith))))
      illegal-here)

  halt-fits : FitsLong (l4.halt at sr)
  unfolding l4.halt
  halt-fits = act-alone _ Halt (plus-below at 2) (omega arith)

  to_usp : FitsLong (l4.move_to_usp g at sr op)
  unfolding l4.move_to_usp
  to_usp = allowed _ (act-alone _ (SetOther _) (plus-below at 2) (fit.address-long g all _))

  movec-fits : (writes : Bool) → FitsLong (l4.movec writes at sr m)
  unfolding l4.movec
  movec-fits writes = load_fits (plus at 2) Word _ (λ w h. allowed _ (by (control_register (control_field w)) (high_four w)))
    where
      by : (x : Option ControlRegister) (n : ℕ) → FitsLong (l4.naming sr at x λ c. acting sr (plus (plus at 2) 2) no_write (MoveControl writes c n))
      by (Some c) n = act-alone _ (MoveControl writes c n) (plus-below _ 2) (omega arith)
      by None n = illegal-here

  from_usp : (other : ℕ) → IsLong other → FitsLong (l4.move_from_usp at sr other op)
  unfolding l4.move_from_usp
  from_usp other h = allowed _ (address-fits _ _ no_write _ other (plus-below at 2) no_write-long h)

  -- a part of a data register is replaced
  merged_data : (z : Size) (codes r v : ℕ) → FitsLong (done (plus at 2) codes no_write (write_data r (merged z (data_of g r) v)))
  merged_data z codes r v = to_data codes r _ (fit.merged-long z _ v (fit.data_long g all r))

  from-sr : FitsLong (l4.move_from_sr g at sr op)
  unfolding l4.move_from_sr
  from-sr = allowed _ (either-fits (eqb (mode op) 0) _ _ (merged_data Word _ _ sr) illegal-here)

  to-sr : FitsLong (l4.move_to_sr g at sr m op)
  unfolding l4.move_to_sr
  to-sr =
      source_fits (plus at 2) Word _
      (λ v h. either-fits (supervisor sr) _ _
      (acting-fits sr _ _ (Status v) (next-long (plus at 2) Word) (moved-long (plus at 2) Word) (omega arith))
      (fit.enter_after-fits _ sr 8 at here (moved-long (plus at 2) Word)))

  from_ccr : FitsLong (l4.move_from_ccr g at sr op)
  unfolding l4.move_from_ccr
  from_ccr = merged_data Word _ _ _

  to_ccr : FitsLong (l4.move_to_ccr g at m op)
  unfolding l4.move_to_ccr
  to_ccr = source_fits (plus at 2) Word _ (λ v h. source-alone (plus at 2) Word _)

  many-kept : (b : Bool) (mask a : ℕ) → IsLong (other_in (l4.many b mask a))
  unfolding l4.many
  many-kept true mask a = omega arith
  many-kept false mask a = omega arith

  movem-fits : (b : Bool) → FitsLong (l4.movem b g at sr m op)
  unfolding l4.movem
  movem-fits b =
      load_fits (plus at 2) Word _
      (λ mask h. either-fits (eqb (mode op) 2) _ _
      (act-alone _ (l4.many b mask _) (plus-below _ 2) (many-kept b mask _))
      (either-fits (eqb (mode op) 5) _ _
      (load_fits (plus (plus at 2) 2) Word _ (λ d h. act-alone _ (l4.many b mask _) (plus-below _ 4) (many-kept b mask _)))
      illegal-here))

  extb-fits : FitsLong (l4.extb g at sr op)
  unfolding l4.extb
  extb-fits = to_data _ _ _ (fit.sign_long Byte _)

  ext_word_fits : FitsLong (l4.ext_w g at sr op)
  unfolding l4.ext_w
  ext_word_fits = merged_data Word _ _ _

  ext_long_fits : FitsLong (l4.ext_l g at sr op)
  unfolding l4.ext_l
  ext_long_fits = to_data _ _ _ (fit.sign_long Word _)

  swap-fits : FitsLong (l4.swap g at sr op)
  unfolding l4.swap
  swap-fits = to_data _ _ _ (omega (arith, fit.data_long g all (register op)))

  sats-fits : FitsLong (l4.sats g at sr op)
  unfolding l4.sats l4.saturated
  sats-fits =
      let d : ℕ = data_of g (register op) in
      to_data _ _ _ (either-long (flag_v sr) _ d (either-long (ltb d 0x8000_0000) _ _ (omega arith) (omega arith)) (fit.data_long g all (register op)))

  neg-fits : FitsLong (l4.neg g at op)
  unfolding l4.neg
  neg-fits = to_data _ _ _ (fit.subtracted-long Long _ 0 false)

  negx-fits : FitsLong (l4.negx g at sr op)
  unfolding l4.negx
  negx-fits = to_data _ _ _ (fit.subtracted-long Long _ 0 (flag_x sr))

  not-fits : FitsLong (l4.not g at sr op)
  unfolding l4.not
  not-fits = to_data _ _ _ (omega arith)

  clr-fits : FitsLong (l4.clr g at sr m op)
  unfolding l4.clr
  clr-fits = put_to-fits (plus at 2) (size_field op) _ 0 (omega arith)

  tst-fits : FitsLong (l4.tst g at sr m op)
  unfolding l4.tst
  tst-fits = source_fits (plus at 2) (size_field op) _ (λ v h. source-alone (plus at 2) (size_field op) _)

  tas-fits : FitsLong (l4.tas g at sr m op)
  unfolding l4.tas
  tas-fits = updating-fits (plus at 2) Byte _ (λ v h. with_below 7 v true 32 (omega arith) (fit.of_size Byte v h))

  -- the second word, and the operand after it
  word_and_long_lem : (f : ℕ → Source → ℕ → Change) → ((w v : ℕ) → IsLong v → FitsLong (f w (source g m (plus (plus at 2) 2) op Long) v)) → FitsLong (l4.with_word_and_long g at m op f)
  word_and_long_lem f h = load_fits (plus at 2) Word _ (λ w l. source_fits (plus (plus at 2) 2) Long _ (λ v k. h w v k))

  multiply_fits : FitsLong (l4.mul_l g at sr m op)
  unfolding l4.mul_l
  multiply_fits =
      word_and_long_lem (l4.mul_l_by g sr)
      (λ w v h. source_to_data (plus (plus at 2) 2) Long _ _ _ (either-long (bit_of 11 w) _ _ (fit.signed-long_product _ v) (fit.long-product _ v)))

  divided-fits : (w d v : ℕ) → IsLong d → IfSome (l4.divided w d v) QuotientFits
  unfolding l4.divided
  divided-fits w d v h = fit.either-quotient (bit_of 11 w) _ _ (fit.signed_quotient-long d v) (fit.quotient-long d v h)

  quotient-to : (w : ℕ) (q : Quotient) → QuotientFits q → IsLong (l4.quotient_to w q).value
  unfolding write_data
  quotient-to w q h = by (eqb (bits 14 12 w) (register w))
    where
      by : (b : Bool) → IsLong (cond b (write_data (register w) q.quotient) (write_data (register w) q.remainder)).value
      by true = h.quotient_fits
      by false = h.remainder_fits

  -- every divide, by an operand of the size z whose extension words are at pc
  dividing-fits : (pc : ℕ) (z : Size) (v : ℕ) (q : Option Quotient) (f : Quotient → Write) → IfSome q (λ r. IsLong (f r).value)
      → FitsLong (l4.dividing z sr (source g m pc op z) v q f)
  dividing-fits pc z v q f h = either-fits (eqb v 0) _ _ (fit.enter_after-fits _ sr 5 _ (next-long pc z) (moved-long pc z)) (by q h)
    where
      by : (q : Option Quotient) → IfSome q (λ r. IsLong (f r).value) → FitsLong (l4.with_quotient z sr (source g m pc op z) q f)
      by (Some r) h = done-fits _ _ _ (f r) (next-long pc z) (moved-long pc z) h
      by None h = source-alone pc z _

  divide_by : (pc w v : ℕ) → FitsLong (l4.div_l_by g sr w (source g m pc op Long) v)
  divide_by pc w v =
      let q : Option Quotient = l4.divided w (data_of g (bits 14 12 w)) v in
      dividing-fits pc Long v q (l4.quotient_to w) (IfSome_then q (divided-fits w _ v (fit.data_long g all _)) (quotient-to w))

  divide_fits : FitsLong (l4.div_l g at sr m op)
  unfolding l4.div_l
  divide_fits = word_and_long_lem (l4.div_l_by g sr) (λ w v h. divide_by _ w v)

  pub line4-fits : (other n : ℕ) → IsLong other → FitsLong (l4.line4 n g at sr other m op)
  unfolding l4.line4
  line4-fits other n h =
      row_fits
      (next_fits
      & stop-fits
      & rte-fits
      & rts-fits
      & movec-fits false
      & movec-fits true
      & halt-fits
      & next_fits
      & illegal-here
      & stldsr-fits
      & extb-fits
      & link_fits
      & unlk-fits
      & to_usp
      & from_usp other h
      & from_ccr
      & swap-fits
      & ext_word_fits
      & ext_long_fits
      & sats-fits
      & negx-fits
      & neg-fits
      & not-fits
      & trap-fits
      & jsr-fits
      & jmp-fits
      & from-sr
      & illegal-here
      & to_ccr
      & to-sr
      & pea-fits
      & movem-fits true
      & movem-fits false
      & multiply_fits
      & divide_fits
      & tas-fits
      & clr-fits
      & tst-fits
      & lea-fits
      & illegal-here
      & end)
      (place_in (first_row 4) n)

  -- ---- lines 9 and D, and 5

  to-place : (add : Bool) (z : Size) (n : ℕ) → FitsLong (l9.add_to_place add z g at m op n)
  unfolding l9.add_to_place
  to-place add z n = updating-fits (plus at 2) z _ (λ v h. fit.sum_long add z n v false)

  add_to_data_lem : (add : Bool) → FitsLong (l9.add_to_data add g at m op)
  unfolding l9.add_to_data
  add_to_data_lem add =
      let z : Size = any_size op in
      source_fits (plus at 2) z _ (λ v h. source_to_data (plus at 2) z _ _ _ (fit.merged-long z _ _ (fit.data_long g all _)))

  add_to_memory_lem : (add : Bool) → FitsLong (l9.add_to_memory add g at m op)
  unfolding l9.add_to_memory
  add_to_memory_lem add = to-place add _ _

  more_or_less_lem : (add : Bool) (old v : ℕ) → IsLong (l9.more_or_less add old v)
  unfolding l9.more_or_less
  more_or_less_lem true old v = plus-below old v
  more_or_less_lem false old v = minus-below old v

  add_to_address : (add : Bool) (z : Size) → FitsLong (l9.adda add z g at sr m op)
  unfolding l9.adda
  add_to_address add z = source_fits (plus at 2) z _ (λ v h. source_to_address (plus at 2) z _ _ _ (more_or_less_lem add _ _))

  add_extended : (add : Bool) → FitsLong (l9.addx add g at sr op)
  unfolding l9.addx
  add_extended add = merged_data (any_size op) _ _ _

  pub sums_fit : (first : ℕ) (add : Bool) (n : ℕ) → FitsLong (l9.sums first add n g at sr m op)
  unfolding l9.sums
  sums_fit first add n =
      row_fits
      (add_extended add
      & add_extended add
      & add_extended add
      & illegal-here
      & illegal-here
      & illegal-here
      & add_to_address add Word
      & add_to_address add Long
      & add_to_data_lem add
      & add_to_memory_lem add
      & end)
      (place_in first n)

  tpf-fits : (n : ℕ) → FitsLong (l5.tpf n at sr)
  unfolding l5.tpf
  tpf-fits n = jump_fits sr _ (plus-below at _)

  quick_address : FitsLong (l5.addq_address g at sr op)
  unfolding l5.addq_address
  quick_address = address-fits _ _ no_write _ _ (plus-below at 2) no_write-long (more_or_less_lem _ _ _)

  quick_fits : FitsLong (l5.addq g at m op)
  unfolding l5.addq
  quick_fits = to-place _ _ _

  scc-fits : FitsLong (l5.scc g at sr op)
  unfolding l5.scc
  scc-fits = merged_data Byte _ _ _

  pub line5-fits : (n : ℕ) → FitsLong (l5.line5 n g at sr m op)
  unfolding l5.line5
  line5-fits n =
      row_fits
      (tpf-fits 2
      & tpf-fits 4
      & tpf-fits 0
      & quick_address
      & quick_address
      & quick_address
      & scc-fits
      & illegal-here
      & quick_fits
      & end)
      (place_in (first_row 5) n)

  -- ---- lines 6 and 7

  jump-on : (next d : ℕ) → FitsLong (jump sr (plus next d))
  jump-on next d = jump_fits sr (plus next d) (plus-below next d)

  -- a displacement was read, or not
  any-read : (got : Result ℕ Fault) (f : ℕ → Change) → ((v : ℕ) → FitsLong (f v)) → FitsLong (reading got f)
  any-read (Ok v) f h = h v
  any-read (Err x) f h = fit.refused-fits x

  bra-fits : FitsLong (l6.bra at sr m op)
  unfolding l6.bra
  bra-fits = any-read (l6.displacement m (plus at 2) (low_byte op)) _ (λ d. jump-on _ d)

  bsr-fits : FitsLong (l6.bsr g at sr m op)
  unfolding l6.bsr
  bsr-fits = any-read (l6.displacement m (plus at 2) (low_byte op)) _ (λ d. push-fits g sr _ _ (plus-below _ d))

  bcc-fits : FitsLong (l6.bcc at sr m op)
  unfolding l6.bcc
  bcc-fits =
      any-read (l6.displacement m (plus at 2) (low_byte op)) _
      (λ d. jump_fits sr _ (either-long (condition (condition_field op) sr) _ _ (plus-below _ d) (plus-below _ _)))

  pub line6-fits : (n : ℕ) → FitsLong (l6.line6 n g at sr m op)
  unfolding l6.line6
  line6-fits n = row_fits (bra-fits & bsr-fits & bcc-fits & end) (place_in (first_row 6) n)

  move-signed : FitsLong (l7.mvs g at sr m op)
  unfolding l7.mvs
  move-signed = let z : Size = byte_or_word op in source_fits (plus at 2) z _ (λ v h. source_to_data (plus at 2) z _ _ _ (fit.sign_long z v))

  move_zero : FitsLong (l7.mvz g at sr m op)
  unfolding l7.mvz
  move_zero = let z : Size = byte_or_word op in source_fits (plus at 2) z _ (λ v h. source_to_data (plus at 2) z _ _ v (fit.of_size z v h))

  move_quick : FitsLong (l7.moveq at sr op)
  unfolding l7.moveq
  move_quick = to_data _ _ _ (fit.sign_long Byte op)

  pub line7-fits : (n : ℕ) → FitsLong (l7.line7 n g at sr m op)
  unfolding l7.line7
  line7-fits n = row_fits (move-signed & move_zero & move_quick & end) (place_in (first_row 7) n)

  -- ---- lines B, C, 8, E and F

  compare_address : (z : Size) → FitsLong (lb.cmpa z g at sr m op)
  unfolding lb.cmpa
  compare_address z = source_fits (plus at 2) z _ (λ v h. source-alone (plus at 2) z _)

  compare_data : FitsLong (lb.cmp g at sr m op)
  unfolding lb.cmp
  compare_data = source_fits (plus at 2) (size_field op) _ (λ v h. source-alone (plus at 2) (size_field op) _)

  logic-to_place : (l : Logic) → FitsLong (lb.logic_to_place l g at sr m op)
  unfolding lb.logic_to_place
  logic-to_place l = let z : Size = any_size op in updating-fits (plus at 2) z _ (λ v h. fit.logic-long l v _ (fit.of_size z v h) (fit.data_long g all _))

  pub line_b-fits : (n : ℕ) → FitsLong (lb.line_b n g at sr m op)
  unfolding lb.line_b
  line_b-fits n =
      row_fits (compare_address Word & compare_address Long & compare_data & logic-to_place Eor & end) (place_in (first_row 0xB) n)

  logic_to_data_lem : (l : Logic) → FitsLong (lc.logic_to_data l g at sr m op)
  unfolding lc.logic_to_data
  logic_to_data_lem l =
      let z : Size = any_size op in
      source_fits (plus at 2) z _ (λ v h. source_to_data (plus at 2) z _ _ _ (fit.merged-long z _ _ (fit.data_long g all _)))

  product-long : (signs : Bool) (x y : ℕ) → IsLong (lc.product signs x y)
  unfolding lc.product
  product-long true x y = fit.signed_word-product x y
  product-long false x y = fit.word-product x y

  multiply_words : (signs : Bool) → FitsLong (lc.mul_w signs g at sr m op)
  unfolding lc.mul_w
  multiply_words signs = source_fits (plus at 2) Word _ (λ v h. source_to_data (plus at 2) Word _ _ _ (product-long signs _ v))

  pub line_c-fits : (n : ℕ) → FitsLong (lc.line_c n g at sr m op)
  unfolding lc.line_c
  line_c-fits n =
      row_fits (multiply_words false & multiply_words true & logic_to_data_lem And & logic-to_place And & end) (place_in (first_row 0xC) n)

  both_words : (q : Option Quotient) → IfSome q (λ r. IsLong (write_data (upper op) (r.remainder % 0x1_0000 * 0x1_0000 + r.quotient % 0x1_0000)).value)
  unfolding write_data
  both_words (Some r) = fit.two_words_long r.remainder r.quotient
  both_words None = tt

  divide_words : (signs : Bool) → FitsLong (l8.div_w signs g at sr m op)
  unfolding l8.div_w
  divide_words signs =
      source_fits (plus at 2) Word _
      (λ v h. let q : Option Quotient = l8.word_divided signs (data_of g (upper op)) v in dividing-fits (plus at 2) Word v q _ (both_words q))

  pub line8-fits : (n : ℕ) → FitsLong (l8.line8 n g at sr m op)
  unfolding l8.line8
  line8-fits n =
      row_fits (divide_words false & divide_words true & logic_to_data_lem Or & logic-to_place Or & end) (place_in (first_row 8) n)

  shifted-long : (left signs : Bool) (v n : ℕ) → IsLong v → IsLong (cond left (shifted_left v n) (cond signs (signed_shifted_right v n) (shifted_right v n))).value
  shifted-long true signs v n h = fit.left-long v n
  shifted-long false true v n h = fit.signed_right_long v n
  shifted-long false false v n h = fit.right_long v n h

  shift_fits : (signs : Bool) → FitsLong (le.shift signs g at sr op)
  unfolding le.shift le.shifted
  shift_fits signs = to_data _ _ _ (shifted-long (bit_of 8 op) signs _ _ (fit.data_long g all _))

  pub line_e-fits : (n : ℕ) → FitsLong (le.line_e n g at sr op)
  unfolding le.line_e
  line_e-fits n = row_fits (shift_fits true & shift_fits false & illegal-here & end) (place_in (first_row 0xE) n)

  debug_ends_lem : (pc : ℕ) (got : Option (Result ℕ Fault)) (size skipped : ℕ) → FitsLong (lf.debug_ends sr pc got size skipped)
  debug_ends_lem pc (Some (Ok a)) size skipped = jump-on _ skipped
  debug_ends_lem pc (Some (Err x)) size skipped = fit.refused-fits x
  debug_ends_lem pc None size skipped = jump-on pc skipped

  write_debug : FitsLong (lf.wdebug g at sr m op)
  unfolding lf.wdebug
  write_debug = debug_ends_lem (plus at 2) (control g m (plus at 2) (operand_of op)) _ 2

  cache_line_lem : FitsLong (lf.cache_line at sr)
  unfolding lf.cache_line
  cache_line_lem = allowed _ (jump-on at 2)

  debug_data : FitsLong (lf.wddata g at sr m op)
  unfolding lf.wddata
  debug_data =
      let z : Size = size_field op in
      fit.locating-fits (destination g m (plus at 2) op z).place _ (to-alone (plus at 2) z _)

  pub line_f-fits : (n : ℕ) → FitsLong (lf.line_f n g at sr m op)
  unfolding lf.line_f
  line_f-fits n =
      row_fits (write_debug & cache_line_lem & debug_data & fit.enter-fits sr 11 at here & end) (place_in (first_row 0xF) n)

  -- ---- line A

  setting_kept : (part : EmacPart) (v : ℕ) → IsLong (other_in (la.setting part op v))
  unfolding la.setting
  setting_kept Acc v = omega arith
  setting_kept Ext v = omega arith
  setting_kept Macsr v = omega arith
  setting_kept Mask v = omega arith

  to-emac : (part : EmacPart) → FitsLong (la.move_to_emac part g at sr m op)
  unfolding la.move_to_emac
  to-emac part = source_fits (plus at 2) Long _ (λ v h. acting-fits sr _ _ _ (next-long (plus at 2) Long) (moved-long (plus at 2) Long) (setting_kept part v))

  to-general : (v : ℕ) → IsLong v → FitsLong (la.move_to_general at sr op v)
  unfolding la.move_to_general
  to-general v h = general-fits _ _ no_write _ v (plus-below at 2) no_write-long h

  macsr_to_ccr : (macsr : ℕ) → FitsLong (la.move_macsr_to_ccr at macsr)
  unfolding la.move_macsr_to_ccr
  macsr_to_ccr macsr = done-fits _ _ no_write no_write (plus-below at 2) no_write-long no_write-long

  acc_to_acc : FitsLong (la.move_acc_to_acc at sr op)
  unfolding la.move_acc_to_acc
  acc_to_acc = act-alone _ (CopyAcc _ _) (plus-below at 2) (omega arith)

  from-acc : (e : Emac) → FitsLong (la.move_from_acc at sr e op)
  unfolding la.move_from_acc write_general
  from-acc e = acting-fits sr _ (write_general _ _) _ (plus-below at 2) (fit.acc-long _ _) (by (bit_of 6 op))
    where
      by : (b : Bool) → IsLong (other_in (cond b (ClearAcc (acc_field op)) Nothing))
      by true = omega arith
      by false = omega arith

  move-three : FitsLong (la.mov3q g at sr m op)
  unfolding la.mov3q la.three_bits
  move-three = put_to-fits (plus at 2) Long _ _ (either-long (eqb (upper op) 0) _ _ (omega arith) (omega arith))

  unassigned-fits : FitsLong (la.unassigned g at sr m op)
  unfolding la.unassigned
  unassigned-fits = source_fits (plus at 2) Long _ (λ v h. fit.enter_after-fits _ sr 10 at here (moved-long (plus at 2) Long))

  load-address : (mask w base : ℕ) → IsLong base → IsLong (la.load_address mask w base)
  unfolding la.load_address
  load-address mask w base h = either-long (bit_of 5 w) _ base (omega (arith, and_le_l base mask)) h

  load_moves_lem : (a : ℕ) → IsLong a → IsLong (la.load_moves op a).value
  unfolding la.load_moves write_address
  load_moves_lem a h = by (eqb (mode op) 3) (eqb (mode op) 4)
    where
      by : (b c : Bool) → IsLong (cond b (write_address (register op) (plus a 4)) (cond c (write_address (register op) a) no_write)).value
      by true c = plus-below a 4
      by false true = h
      by false false = no_write-long

  mac-load : (next macsr mask w base : ℕ) → IsLong next → IsLong base → FitsLong (la.mac_load g next sr macsr mask m op w base)
  unfolding la.mac_load write_general
  mac-load next macsr mask w base n h =
      load_fits (la.load_address mask w base) Long _
      (λ v k. record { pc-fits = n; first_fits = k; second_fits = load_moves_lem _ (load-address mask w base h); other_fits = omega arith })

  with_load : (macsr mask w : ℕ) → FitsLong (la.mac_with_load g at sr macsr mask m op w)
  unfolding la.mac_with_load
  with_load macsr mask w =
      let a : ℕ = address_of g (register op) in
      either-fits (ltb 5 (mode op)) _ _ (fit.enter-fits sr 10 at here)
      (either-fits (eqb (mode op) 5) _ _
      (load_fits (plus at 4) Word _ (λ d h. mac-load _ macsr mask w _ (plus-below at 6) (plus-below a _)))
      (mac-load _ macsr mask w _ (plus-below at 4) (either-long (eqb (mode op) 4) _ a (minus-below a 4) (fit.address-long g all _))))

  mac-fits : (macsr mask : ℕ) → FitsLong (la.mac g at sr macsr mask m op)
  unfolding la.mac la.mac_registers
  mac-fits macsr mask =
      load_fits (plus at 2) Word _
      (λ w h. either-fits (eqb (bits 5 4 op) 0) _ _ (act-alone _ _ (plus-below at 4) (omega arith)) (with_load macsr mask w))

  pub line_a-fits : (e : Emac) (n : ℕ) → IsLong e.macsr → IsLong e.mask → FitsLong (la.line_a n g at sr e m op)
  unfolding la.line_a
  line_a-fits e n status mask =
      row_fits
      (macsr_to_ccr e.macsr
      & acc_to_acc
      & to-general e.macsr status
      & to-general e.mask mask
      & to-general _ (fit.ext_long (fractional e.macsr) e (ext_field op))
      & to-emac Macsr
      & to-emac Mask
      & from-acc e
      & to-emac Ext
      & to-emac Acc
      & move-three
      & mac-fits e.macsr e.mask
      & unassigned-fits
      & end)
      (place_in (first_row 0xA) n)

  -- ---- every instruction

  pub instruction-fits : (other : ℕ) (e : Emac) → IsLong other → IsLong e.macsr → IsLong e.mask → FitsLong (instruction g at sr other e m op)
  unfolding instruction
  instruction-fits other e o status mask =
      let n : ℕ = row_of op in
      row_fits
      (line0-fits n
      & moves_fit (first_row 1) Byte n
      & moves_fit (first_row 2) Long n
      & moves_fit (first_row 3) Word n
      & line4-fits other n o
      & line5-fits n
      & line6-fits n
      & line7-fits n
      & line8-fits n
      & sums_fit (first_row 9) false n
      & line_a-fits e n status mask
      & line_b-fits n
      & line_c-fits n
      & sums_fit (first_row 0xD) true n
      & line_e-fits n
      & line_f-fits n
      & end)
      (line op)

-- what a step is to do, from the registers and the unit of a state
pub execute-fits : (g : List ℕ) (at sr other : ℕ) (e : Emac) (m : Memory) → Longs g → IsLong at → IsLong other → IsLong e.macsr → IsLong e.mask → Bytes (storage_of m)
    → FitsLong (execute g at sr other e m)
unfolding execute
execute-fits g at sr other e m all here o status mask bytes-in =
    fit.load_fits m bytes-in at Word _ (λ op h. instruction-fits g all at here sr m bytes-in op other e o status mask)
