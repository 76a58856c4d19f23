use Rattle.idl_forms.specs.Forms.{tree_form}
use Rattle.idl_check.specs.Firsts.{first_place}
use Rattle.idl_check.proofs.checking.first_breach.Goals as goal

pub returns-clause-breach : goal.returns-clause-breach
returns-clause-breach c = c.first.ensures (first_place (tree_form c.args.tree.now)) c.in_ok-firsts.ensures.firsts
