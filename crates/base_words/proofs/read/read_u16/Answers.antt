use Rattle.std.proofs.Common.{◌^◌, arith}
use Rattle.base_words.proofs.Decimals.{narrowed}
use Rattle.base_words.proofs.read.read_u16.Goals as goal

pub returns : goal.returns
returns c =
    let read = c.in_ok-number.ensures in
    narrowed (2 ^ 16) c.in_ok-number.number c.args.text.now c.try_from.result c.ok.result (omega arith) read.0 read.1 c.try_from.ensures c.ok.ensures.value
