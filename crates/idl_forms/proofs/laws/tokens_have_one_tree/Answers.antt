use Rattle.idl_forms.proofs.Top.{tokens_one}
use Rattle.idl_forms.proofs.laws.tokens_have_one_tree.Goals as goal

pub returns : goal.returns
returns c = tokens_one
