use Rattle.idl_tokens.proofs.EbnfOnce.{go_complete}
use Rattle.idl_tokens.proofs.grammars.matches_what_it_goes_along.Goals as goal

pub returns : goal.returns
returns c = λ body sorted. go_complete body sorted.rules
