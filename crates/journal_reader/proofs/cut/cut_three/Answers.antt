use Rattle.std.proofs.Common.{◌++◌, ◌∷◌, sym, ◌∙◌, ap, arith}
use Rattle.journal_reader.proofs.Cutting.{cut_none, cut_less}
use Rattle.journal_reader.proofs.cut.cut_three.Goals as goal

pub returns-in_err-first : goal.returns-in_err-first
returns-in_err-first c = rw c.from_residual.ensures (cut_none c.args.octet 3 c.args.text.now (omega arith) c.in_err-first.ensures)

pub returns-in_err-second : goal.returns-in_err-second
returns-in_err-second c =
    let cut = c.in_ok-first.ensures in
    rw c.from_residual-in_err-second.ensures (cut_less c.args.octet 2 c.args.text.now c.in_ok-first.first.now c.in_ok-first.rest.now (omega arith) cut.0 cut.1 (cut_none c.args.octet 2 c.in_ok-first.rest.now (omega arith) c.in_err-second.ensures))

pub returns : goal.returns
returns c =
    let cut = c.in_ok-first.ensures in
    let then = c.in_ok-second.ensures in
    ((cut.1, (then.1, tt)), sym (cut.0 ∙ ap (λ t. c.in_ok-first.first.now ++ (c.args.octet ∷ t)) then.0))
