use Rattle.std.proofs.Common.{◌≡◌, ℕ, ◌+◌, ◌-◌, take, drop, ap, ◌∙◌, arith}
use Rattle.ndr_pointers.specs.Views.{types_in}
use Rattle.ndr_read.specs.Views.{cursor_of}
use Rattle.ndr_read.proofs.Octets.{many_built, many_missing, many_too_deep}
use Rattle.ndr_read.proofs.build.build_bytes.Goals as goal

pub returns-then-fuel-eq0 : goal.returns-then-fuel-eq0
returns-then-fuel-eq0 c = λ q. many_too_deep (types_in c.args.reader.now) c.args.reader.now.order c.args.reader.now.octets.now c.args.fuel c.args.room c.args.count (cursor_of c.args.flat.now) q c.if-fuel-eq0.true c.if-count-eq0.false

pub returns-then-flat-len : goal.returns-then-flat-len
returns-then-flat-len c = λ q. many_missing (types_in c.args.reader.now) c.args.reader.now.order c.args.reader.now.octets.now c.args.fuel c.args.room c.args.count (cursor_of c.args.flat.now) q c.if-fuel-eq0.false c.if-count-eq0.false (omega (arith, c.if-flat-len.true, c.if-count-eq0.false))

pub returns-then-len-flat : goal.returns-then-len-flat
returns-then-len-flat c = λ q. many_missing (types_in c.args.reader.now) c.args.reader.now.order c.args.reader.now.octets.now c.args.fuel c.args.room c.args.count (cursor_of c.args.flat.now) q c.if-fuel-eq0.false c.if-count-eq0.false (omega (arith, c.if-flat-len.false, c.if-len-flat.true))

pub returns : goal.returns
returns c = λ q.
    let n : (c.args.flat.now.at + c.args.count) - c.args.flat.now.at ≡ c.args.count = omega arith in
    let is : c.from_vec.result ≡ take c.args.count (drop c.args.flat.now.at c.args.reader.now.octets.now) = c.from_vec.ensures ∙ c.in_ok-octets.ensures.items ∙ ap (λ (k : ℕ). take k (drop c.args.flat.now.at c.args.reader.now.octets.now)) n in
    many_built (types_in c.args.reader.now) c.args.reader.now.order c.args.reader.now.octets.now c.args.fuel c.args.room c.args.count (cursor_of c.args.flat.now) q c.from_vec.result c.if-fuel-eq0.false (omega (arith, c.if-flat-len.false, c.if-len-flat.false)) is
