use Rattle.idl_forms.specs.Forms.{tree_form}
use Rattle.idl_check.proofs.Judged.{judged_all}
use Rattle.idl_check.proofs.judge.judged_tree.Goals as goal

pub returns-clause-firsts : goal.returns-clause-firsts
returns-clause-firsts c =
    judged_all (tree_form c.args.tree.now) c.args.outline c.in_ok-events.events c.in_ok-file.file c.or.result
    c.requires c.in_ok-events.ensures.firsts c.in_ok-file.ensures c.or.ensures
