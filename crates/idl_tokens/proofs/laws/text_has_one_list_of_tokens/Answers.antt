use Rattle.idl_tokens.proofs.Once.{cut_once}
use Rattle.idl_tokens.proofs.laws.text_has_one_list_of_tokens.Goals as goal

pub returns : goal.returns
returns c = λ text a b. cut_once
