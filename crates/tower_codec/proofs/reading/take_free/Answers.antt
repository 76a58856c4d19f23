use Rattle.std.proofs.Common.{rules, arith}
use Rattle.std.proofs.lemmas.Bool.Decides.{nat_tests}
use Rattle.tower_codec.proofs.DepartureLaws.{short_free}
use Rattle.tower_codec.proofs.reading.take_free.Goals as goal

pub returns-then-octets-size-clause-err : goal.returns-then-octets-size-clause-err
returns-then-octets-size-clause-err c = λ behind. short_free c.args.size c.args.octets.now behind (search (rules, arith, nat_tests))
