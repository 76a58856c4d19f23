use Rattle.std.proofs.Common.{◌≡◌, List, [], true, false, Some, sym, ap, ◌∙◌}
use Rattle.std.specs.Prelude.{slice_get}
use Rattle.ndr_value.specs.Forms.{Form, types_of}
use Rattle.ndr_value.specs.Values.{msg}
use Rattle.ndr_table.specs.Shown.{shown}
use Rattle.ndr_table.specs.Tables.{op_form}
use Rattle.manager_api.specs.declared.answer.Kept.{Kept}
use Rattle.manager_api.specs.Answers.{AOut, ans}
use Rattle.echo_manager.specs.Steps.{echo}
use Rattle.echo_manager.proofs.Said.{says_echo, says_none}
use Rattle.echo_manager.proofs.desk.echoed.Goals as goal

pub returns-then-branch : goal.returns-then-branch
returns-then-branch c =
    let t = shown c.args.table.now in
    let asked = msg c.args.message.now in
    let o = op_form c.in-Some.form.now in
    let m = msg c.in_ok-response.response in
    let at : slice_get t.ops c.args.op ≡ Some o = c.in-Some.ensures in
    let is : m ≡ echo t.types o asked = c.in_ok-response.ensures ∙ ap (λ (ts : List Form). echo ts o asked) (ap types_of c.deref.ensures.value ∙ c.types.ensures.types) in
    says_echo t c.args.op asked o m (AOut m c.new.result) at is ((c.in_ok-fits.ensures.exact o at).0 c.if-branch.true) (ap (λ (ks : List Kept). AOut m ks) c.new.ensures)

pub returns-else-branch : goal.returns-else-branch
returns-else-branch c =
    let t = shown c.args.table.now in
    let asked = msg c.args.message.now in
    let o = op_form c.in-Some.form.now in
    let m = msg c.in_ok-response.response in
    let at : slice_get t.ops c.args.op ≡ Some o = c.in-Some.ensures in
    let is : m ≡ echo t.types o asked = c.in_ok-response.ensures ∙ ap (λ (ts : List Form). echo ts o asked) (ap types_of c.deref.ensures.value ∙ c.types.ensures.types) in
    says_none t c.args.op asked o m (ans c.unspecified.result) at is
    (λ f. let z : false ≡ true = sym c.if-branch.false ∙ (c.in_ok-fits.ensures.exact o at).1 f in absurd (cc))
    c.unspecified.ensures
