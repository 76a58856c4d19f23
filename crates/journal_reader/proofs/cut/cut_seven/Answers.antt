use Rattle.std.proofs.Common.{[], ◌∷◌, arith}
use Rattle.journal_reader.proofs.Cutting.{no_more, no_deeper, deeper}
use Rattle.journal_reader.proofs.cut.cut_seven.Goals as goal

pub returns-in_err-first : goal.returns-in_err-first
returns-in_err-first c = rw c.from_residual.ensures (no_more c.args.octet 7 c.args.text.now (omega arith) c.in_err-first.ensures)

pub returns-in_err-third : goal.returns-in_err-third
returns-in_err-third c =
    let cut = c.in_ok-first.ensures in
    rw c.from_residual-in_err-third.ensures (no_deeper c.args.octet 5 c.args.text.now c.in_ok-first.first.now c.in_ok-first.second.now c.in_ok-first.rest.now (omega arith) cut (no_more c.args.octet 5 c.in_ok-first.rest.now (omega arith) c.in_err-third.ensures))

pub returns-in_err-fifth : goal.returns-in_err-fifth
returns-in_err-fifth c =
    let cut = c.in_ok-first.ensures in
    let then = c.in_ok-third.ensures in
    rw c.from_residual-in_err-fifth.ensures (no_deeper c.args.octet 5 c.args.text.now c.in_ok-first.first.now c.in_ok-first.second.now c.in_ok-first.rest.now (omega arith) cut (no_deeper c.args.octet 3 c.in_ok-first.rest.now c.in_ok-third.third.now c.in_ok-third.fourth.now c.in_ok-third.rest.now (omega arith) then c.in_err-fifth.ensures))

pub returns : goal.returns
returns c =
    let cut = c.in_ok-first.ensures in
    let then = c.in_ok-third.ensures in
    let last = c.in_ok-fifth.ensures in
    deeper c.args.octet c.args.text.now c.in_ok-first.first.now c.in_ok-first.second.now c.in_ok-first.rest.now c.in_ok-third.third.now (c.in_ok-third.fourth.now ∷ c.in_ok-fifth.fifth.now ∷ c.in_ok-fifth.sixth.now ∷ c.in_ok-fifth.seventh.now ∷ []) cut (deeper c.args.octet c.in_ok-first.rest.now c.in_ok-third.third.now c.in_ok-third.fourth.now c.in_ok-third.rest.now c.in_ok-fifth.fifth.now (c.in_ok-fifth.sixth.now ∷ c.in_ok-fifth.seventh.now ∷ []) then last)
