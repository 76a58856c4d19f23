use Rattle.idl_check.proofs.First.{before_all, after_all}
use Rattle.idl_check.proofs.firsts.first.Goals as goal

pub returns : goal.returns
returns c f g =
    let one = c.earlier-best.ensures f g.one (before_all f g.zero) in
    let two = c.earlier-best-2.ensures f g.two one in
    let three = c.earlier-best-3.ensures f g.three two in
    let four = c.earlier-best-4.ensures f g.four three in
    let five = c.earlier-best-5.ensures f g.five four in
    let six = c.earlier-best-6.ensures f g.six five in
    let seven = c.earlier-best-7.ensures f g.seven six in
    let eight = c.earlier-best-8.ensures f g.eight seven in
    after_all f c.earlier.result (c.earlier.ensures f g.nine eight) g.more
