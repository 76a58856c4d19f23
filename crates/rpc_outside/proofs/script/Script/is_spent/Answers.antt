use Rattle.std.proofs.Common.{rules, ◌∙◌, Some, None}
use Rattle.rpc_outside.specs.declared.script.LinkStep.TheVariants.{Give, Quiet, AwaitPut, End}
use Rattle.rpc_outside.proofs.ScriptLemmas.{first_is, spent_by, spent_octets}
use Rattle.rpc_outside.proofs.script.Script.is_spent.Goals as goal

pub returns-in-Some-Give : goal.returns-in-Some-Give
returns-in-Some-Give c = spent_octets _ _ _ c.len.ensures ∙ spent_by _ _ (first_is c.self.inside.steps c.self.inside.at c.self.inside.done c.args.self.now (Some (Give c.in-Some-Give.octets)) c.self.view_is (search rules))

pub returns-in-Some-Quiet : goal.returns-in-Some-Quiet
returns-in-Some-Quiet c = spent_by _ _ (first_is c.self.inside.steps c.self.inside.at c.self.inside.done c.args.self.now (Some Quiet) c.self.view_is (search rules))

pub returns-in-Some-AwaitPut : goal.returns-in-Some-AwaitPut
returns-in-Some-AwaitPut c = spent_by _ _ (first_is c.self.inside.steps c.self.inside.at c.self.inside.done c.args.self.now (Some AwaitPut) c.self.view_is (search rules))

pub returns-in-Some-End : goal.returns-in-Some-End
returns-in-Some-End c = spent_by _ _ (first_is c.self.inside.steps c.self.inside.at c.self.inside.done c.args.self.now (Some End) c.self.view_is (search rules))

pub returns-in-None : goal.returns-in-None
returns-in-None c = spent_by _ _ (first_is c.self.inside.steps c.self.inside.at c.self.inside.done c.args.self.now None c.self.view_is (search rules))
