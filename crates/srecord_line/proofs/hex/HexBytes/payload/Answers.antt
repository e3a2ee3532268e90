-- `srecord_line::hex::HexBytes::payload` meets its contract. Assumes nothing.
use Rattle.std.proofs.Common.{ap, ◌∙◌, rules}
use Rattle.srecord.specs.Records.{bytes_of}
use Rattle.srecord.specs.Reading.{payload}
use Rattle.srecord_line.proofs.HexLaws.{payload_values}
use Rattle.srecord_line.proofs.hex.HexBytes.payload.Goals as goal

pub returns : goal.returns
returns c = payload_values c.self.inside.pairs.now (bytes_of c.args.width) _ (search rules) ∙ ap (payload (bytes_of c.args.width)) c.self.view_is
