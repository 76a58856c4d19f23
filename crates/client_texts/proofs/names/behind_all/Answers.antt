use Rattle.client_texts.proofs.Renamed.{stripped}
use Rattle.client_texts.proofs.names.behind_all.Goals as goal

pub returns : goal.returns
returns c = stripped (λ x. x.now) c.strip_prefix.result c.args.word.now c.args.text.now c.strip_prefix.ensures.cases
