use Rattle.std.proofs.Common.{◌<◌, ◌^◌, length, arith, sym, ◌∙◌}
use Rattle.std.proofs.lemmas.Fmt.{decimal_injective}
use Rattle.client_texts.proofs.Lacks.{short_get}
use Rattle.client_texts.proofs.names.wire_at.Goals as goal

pub returns-else-at-count-clause-found : goal.returns-else-at-count-clause-found
returns-else-at-count-clause-found c = λ k w e g.
    let h = short_get c.args.wires.now k w g in
    let f = c.if-at-count.false in
    let below = c.in_ok-at.ensures.0 in
    let few : length c.args.wires.now < 2 ^ 64 = omega (arith, f, below) in
    let lt : k < 2 ^ 64 = omega (arith, h, few) in
    let same = decimal_injective k _ lt c.in_ok-at.ensures.0 (e ∙ sym c.in_ok-at.ensures.1) in
    omega (arith, h, f, same)
