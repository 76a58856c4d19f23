use Rattle.std.proofs.Common.{rules, ◌≡◌, ◌+◌, ◌≤◌, ◌∙◌, ◌++◌, ◌∷◌, [], arith, ap, sym, take}
use Rattle.std.proofs.lemmas.List.{take_more}
use Rattle.server_command.proofs.Adding.{sum_one, sums_are}
use Rattle.server_command.proofs.sums.sums.Goals as goal

pub loop-settled-preserved : goal.loop-settled-preserved
loop-settled-preserved g c =
    let at = c.loop-settled in
    let xs = c.args.finished.now in
    let x = c.settled-item.result in
    let next = take_more xs at.settled-index x c.loop-settled-test.true ∙ ap (λ y. take at.settled-index xs ++ y ∷ []) (sym c.settled-item.is) in
    let first : c.from-calls_in.result ≤ 4294967295 = search rules in
    let second : c.from-calls_out.result ≤ 4294967295 = search rules in
    let third : c.from-packets_in.result ≤ 4294967295 = search rules in
    let fourth : c.from-packets_out.result ≤ 4294967295 = search rules in
    let one = at.invariant.1 in
    let two = at.invariant.2 in
    let three = at.invariant.3 in
    let four = at.invariant.4 in (
      rw (c.from-calls_in.ensures, c.from-calls_out.ensures, c.from-packets_in.ensures, c.from-packets_out.ensures)
          (sum_one g.K.Link.shows (take at.settled-index xs) (take (at.settled-index + 1) xs) x c.counts-counts.result at.calls_in at.calls_out at.packets_in at.packets_out next at.invariant.0 c.counts-counts.ensures),
      omega (arith, first, one),
      omega (arith, second, two),
      omega (arith, third, three),
      omega (arith, fourth, four),
    )
