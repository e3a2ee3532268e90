use Rattle.std.proofs.Common.{◌≡◌, ◌<◌, ◌%◌, cond, true, take}
use Rattle.std.specs.List.{list_all}
use Rattle.srecord.specs.Records.{total}
use Rattle.srecord_line.specs.Pairs.{is_pair, values}
use Rattle.srecord_line.proofs.hex.scan.Given as goal

abbrev pub invariant-loop-high : goal.invariant-loop-high
invariant-loop-high l = record {
  right : l.right ≡ cond (list_all is_pair (take l.high-index l.pairs)) 1 0;
  low : l.sum < 256;
  sum : list_all is_pair (take l.high-index l.pairs) ≡ true → l.sum ≡ total (values (take l.high-index l.pairs)) % 256;
}
