use Rattle.std.proofs.Common.{ap, ◌∙◌}
use Rattle.std.proofs.lemmas.Bool.{false≢true}
use Rattle.uuid.specs.Text.{parsed}
use Rattle.idl_tokens.proofs.firsts.uuid.Goals as goal

pub returns-in-Err : goal.returns-in-Err
returns-in-Err c = λ id rest h. false≢true (c.in-Err.ensures.ok.1 (id, ap parsed c.split_at.ensures.front ∙ h.id_is))
