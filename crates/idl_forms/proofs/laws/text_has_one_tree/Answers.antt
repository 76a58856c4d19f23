use Rattle.idl_forms.proofs.Top.{text_one}
use Rattle.idl_forms.proofs.laws.text_has_one_tree.Goals as goal

pub returns : goal.returns
returns c = text_one
