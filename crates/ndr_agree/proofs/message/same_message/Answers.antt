use Rattle.std.proofs.Common.{sym, ◌∙◌}
use Rattle.ndr_value.specs.Values.{msg}
use Rattle.ndr_agree.proofs.Sames.{msgs_told}
use Rattle.ndr_agree.proofs.message.same_message.Goals as goal

pub returns : goal.returns
returns c =
    let d = msgs_told (msg c.args.message.now) (msg c.args.other.now) in
    (λ t. d.0 (sym c.all_same.ensures ∙ t), λ e. c.all_same.ensures ∙ d.1 e)
