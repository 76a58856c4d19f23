use Rattle.std.proofs.Common.{◌∙◌}
use Rattle.base_words.proofs.Compares.{agree}
use Rattle.client_script.proofs.Parts.{bind_alone}
use Rattle.client_script.proofs.read.read_named.Goals as goal

pub returns-in_default : goal.returns-in_default
returns-in_default c = λ l fits e.
    bind_alone l c.args.name.now c.args.rest.now fits (agree c.args.name.now c.as_slice.result.now c.eq.result c.eq.ensures c.if-eq.true ∙ c.as_slice.ensures) e (λ x f g. c.in_default.ensures x f g)
