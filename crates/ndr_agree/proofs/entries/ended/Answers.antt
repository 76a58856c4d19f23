use Rattle.std.proofs.Common.{◌≡◌, false, length, ◌∙◌, rules}
use Rattle.std.specs.Prelude.{◌==◌}
use Rattle.ndr_model.specs.Message.{enough}
use Rattle.ndr_agree.specs.Views.{types_in, call_of, check_of}
use Rattle.ndr_agree.proofs.Steps.{entries_left}
use Rattle.ndr_agree.proofs.entries.ended.Goals as goal

pub returns-then-not-is_empty : goal.returns-then-not-is_empty
returns-then-not-is_empty c =
    let e : (length c.args.rest.now == 0) ≡ false = search rules in
    c.stray.ensures ∙ entries_left (types_in c.args.call.now) (call_of c.args.call.now) enough c.args.rest.now (check_of c.args.check.now) e
