use Rattle.std.proofs.Common.{rules, ◌≡◌, ◌∙◌, ◌++◌, ap, Some, None, refl}
use Rattle.std.proofs.lemmas.List.{append-nil}
use Rattle.rpc_outside.specs.declared.script.LinkStep.TheVariants.{Give, Quiet, AwaitPut, End}
use Rattle.rpc_outside.specs.Scripts.{past_await}
use Rattle.rpc_outside.proofs.ScriptLemmas.{first, first_is, no_octets, past_put, past_other}
use Rattle.rpc_outside.proofs.script.Script.see_put.Goals as goal

pub returns-in-Some-AwaitPut-clause-taken : goal.returns-in-Some-AwaitPut-clause-taken
returns-in-Some-AwaitPut-clause-taken c = let is : first c.settle.new.self.rest ≡ Some AwaitPut = first_is c.self.inside.steps c.self.inside.at c.self.inside.done c.settle.new.self (Some AwaitPut) c.self.view_is (search rules) in
    c.advance.ensures.taken ∙ (ap (λ l. c.settle.new.self.taken ++ l) (no_octets c.settle.new.self.rest AwaitPut is refl) ∙ (append-nil c.settle.new.self.taken ∙ c.settle.ensures.taken))

pub returns-in-Some-AwaitPut-clause-rest : goal.returns-in-Some-AwaitPut-clause-rest
returns-in-Some-AwaitPut-clause-rest c = let is : first c.settle.new.self.rest ≡ Some AwaitPut = first_is c.self.inside.steps c.self.inside.at c.self.inside.done c.settle.new.self (Some AwaitPut) c.self.view_is (search rules) in
    c.advance.ensures.rest ∙ (past_put c.settle.new.self.rest is ∙ ap past_await c.settle.ensures.rest)

pub returns-in-Some-Give-clause-rest : goal.returns-in-Some-Give-clause-rest
returns-in-Some-Give-clause-rest c = past_other c.settle.new.self.rest _ (first_is c.self.inside.steps c.self.inside.at c.self.inside.done c.settle.new.self (Some (Give c.in-Some-Give.field-0-0)) c.self.view_is (search rules)) tt ∙ ap past_await c.settle.ensures.rest

pub returns-in-Some-Quiet-clause-rest : goal.returns-in-Some-Quiet-clause-rest
returns-in-Some-Quiet-clause-rest c = past_other c.settle.new.self.rest _ (first_is c.self.inside.steps c.self.inside.at c.self.inside.done c.settle.new.self (Some Quiet) c.self.view_is (search rules)) tt ∙ ap past_await c.settle.ensures.rest

pub returns-in-Some-End-clause-rest : goal.returns-in-Some-End-clause-rest
returns-in-Some-End-clause-rest c = past_other c.settle.new.self.rest _ (first_is c.self.inside.steps c.self.inside.at c.self.inside.done c.settle.new.self (Some End) c.self.view_is (search rules)) tt ∙ ap past_await c.settle.ensures.rest

pub returns-in-None-clause-rest : goal.returns-in-None-clause-rest
returns-in-None-clause-rest c = past_other c.settle.new.self.rest _ (first_is c.self.inside.steps c.self.inside.at c.self.inside.done c.settle.new.self None c.self.view_is (search rules)) tt ∙ ap past_await c.settle.ensures.rest
