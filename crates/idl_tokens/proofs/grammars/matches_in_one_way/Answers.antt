use Rattle.idl_tokens.proofs.EbnfOnce.{one_way}
use Rattle.idl_tokens.proofs.grammars.matches_in_one_way.Goals as goal

pub returns : goal.returns
returns c = λ body sorted. one_way body sorted.rules
