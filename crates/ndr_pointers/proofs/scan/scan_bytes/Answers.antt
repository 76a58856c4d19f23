use Rattle.std.proofs.Common.{arith}
use Rattle.ndr_pointers.specs.Views.{types_in, place}
use Rattle.ndr_pointers.proofs.Octets.{many_past, many_short, many_deep}
use Rattle.ndr_pointers.proofs.scan.scan_bytes.Goals as goal

pub returns-then-fuel-eq0 : goal.returns-then-fuel-eq0
returns-then-fuel-eq0 c = λ s. many_deep (types_in c.args.reader.now) c.args.reader.now.order c.args.reader.now.octets.now c.args.fuel c.args.room c.args.count (place c.args.at s) c.if-fuel-eq0.true c.if-count-eq0.false

pub returns-then-at-len : goal.returns-then-at-len
returns-then-at-len c = λ s. many_short (types_in c.args.reader.now) c.args.reader.now.order c.args.reader.now.octets.now c.args.fuel c.args.room c.args.count (place c.args.at s) c.if-fuel-eq0.false c.if-count-eq0.false (omega (arith, c.if-at-len.true, c.if-count-eq0.false))

pub returns-then-len-at : goal.returns-then-len-at
returns-then-len-at c = λ s. many_short (types_in c.args.reader.now) c.args.reader.now.order c.args.reader.now.octets.now c.args.fuel c.args.room c.args.count (place c.args.at s) c.if-fuel-eq0.false c.if-count-eq0.false (omega (arith, c.if-at-len.false, c.if-len-at.true))

pub returns : goal.returns
returns c = λ s. many_past (types_in c.args.reader.now) c.args.reader.now.order c.args.reader.now.octets.now c.args.fuel c.args.room c.args.count (place c.args.at s) c.if-fuel-eq0.false (omega (arith, c.if-at-len.false, c.if-len-at.false))
