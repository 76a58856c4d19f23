use Rattle.idl_tokens.proofs.Ends.{ends_once}
use Rattle.idl_tokens.proofs.laws.tokens_end_once.Goals as goal

pub returns : goal.returns
returns c = λ text ts cut. ends_once cut
