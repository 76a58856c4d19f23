use Rattle.std.proofs.Common.{rules, arith, ◌∙◌}
use Rattle.std.specs.Str.{bytes_eq}
use Rattle.std.proofs.lemmas.Slice.Eq.{bytes_eq-Decides}
use Rattle.std.proofs.lemmas.Bool.Decides.{nat_tests}
use Rattle.tower_codec.proofs.DepartureLaws.{short_fixed, stop_fixed, differs}
use Rattle.tower_codec.proofs.reading.take_fixed.Goals as goal

pub returns-then-octets-wanted-clause-err : goal.returns-then-octets-wanted-clause-err
returns-then-octets-wanted-clause-err c = λ behind. short_fixed c.args.wanted.now c.args.octets.now c.args.fault behind (search (rules, arith, nat_tests))

pub returns-then-ne-clause-err : goal.returns-then-ne-clause-err
returns-then-ne-clause-err c = λ behind. stop_fixed c.args.wanted.now c.args.octets.now c.args.fault behind (search (rules, arith, nat_tests))
    (λ same. differs (bytes_eq c.split_at.result.0.now c.args.wanted.now) c.ne.result c.if-ne.true c.ne.ensures ((bytes_eq-Decides c.split_at.result.0.now c.args.wanted.now).1 (c.split_at.ensures.front ∙ same)))
