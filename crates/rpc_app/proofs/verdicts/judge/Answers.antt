use Rattle.std.proofs.Common.{◌≡◌, false, true, ap, ◌∙◌}
use Rattle.std.specs.List.{list_all}
use Rattle.rpc_app.specs.Audits.{is_good, verdict_lines}
use Rattle.rpc_app.proofs.Audited.{departs_line, breaches, audited}
use Rattle.rpc_app.proofs.verdicts.judge.Goals as goal

pub returns-in-Err-BadText-clause-fault : goal.returns-in-Err-BadText-clause-fault
returns-in-Err-BadText-clause-fault c =
    departs_line c.args.text.now c.in_ok-journal_refusal-in-Err-BadText.field-0.items c.in-Err-BadText.line (rw c.in-Err-BadText.field-0-is at c.in-Err-BadText.ensures) c.in_ok-journal_refusal-in-Err-BadText.ensures

pub returns-clause-fault : goal.returns-clause-fault
returns-clause-fault c =
    let bad : list_all is_good c.in-Ok.verdicts ≡ false = cc in
    let said : c.in_ok-said.said.items ≡ verdict_lines c.in-Ok.verdicts = c.in_ok-said.ensures ∙ ap verdict_lines c.as_slice.ensures in
    breaches c.args.text.now c.in_ok-said.said.items c.in-Ok.verdicts c.in-Ok.ensures bad said

pub returns-then-are_good-clause-out : goal.returns-then-are_good-clause-out
returns-then-are_good-clause-out c =
    let good : list_all is_good c.in-Ok.verdicts ≡ true = cc in
    let said : c.from_vec.result ≡ verdict_lines c.in-Ok.verdicts =
    c.from_vec.ensures ∙ (c.in_ok-said.ensures ∙ ap verdict_lines c.as_slice.ensures) in
    audited c.args.text.now c.from_vec.result c.in-Ok.verdicts c.in-Ok.ensures good said
