use Rattle.std.proofs.Common.{rules, ◌≡◌, ◌≤◌, ◌+◌, length, drop, List, ℕ, arith, ◌∙◌, ◌++◌, sym, ap, subst, Some, None, refl}
use Rattle.std.proofs.lemmas.List.{append-nil}
use Rattle.rpc_outside.specs.declared.script.LinkStep.TheVariants.{Quiet, AwaitPut, End}
use Rattle.rpc_outside.specs.Scripts.{first_octets, IsOver, IsQuiet}
use Rattle.rpc_outside.proofs.ScriptLemmas.{first, first_is, no_octets, over_end, over_none, quiet_once, quiet_still, gives_octets, octets_here, still_within}
use Rattle.rpc_outside.proofs.script.Script.take.Goals as goal

pub copy_octets-count-requires : goal.copy_octets-count-requires
copy_octets-count-requires c = let here : first_octets (drop c.self.inside.at c.self.inside.steps) ≡ c.in-Some-Give.octets = octets_here c.self.inside.steps c.self.inside.at c.in-Some-Give.octets (search rules) in
    let within : c.self.inside.done ≤ length c.in-Some-Give.octets = subst (λ (l : List ℕ). c.self.inside.done ≤ length l) here c.self.invariant in search (rules, arith)

pub invariant_of-self : goal.invariant_of-self
invariant_of-self c = let here : first_octets (drop c.self.inside.at c.self.inside.steps) ≡ c.in-Some-Give.octets = octets_here c.self.inside.steps c.self.inside.at c.in-Some-Give.octets (search rules) in
    let within : c.self.inside.done ≤ length c.in-Some-Give.octets = subst (λ (l : List ℕ). c.self.inside.done ≤ length l) here c.self.invariant in
    subst (λ (l : List ℕ). c.self.inside.done + c.copy_octets-count.result ≤ length l) (sym here) (still_within c.self.inside.done c.copy_octets-count.result (length c.copy_octets-count.new.into) c.in-Some-Give.octets within (search rules))

pub returns-in-Some-Give : goal.returns-in-Some-Give
returns-in-Some-Give c = gives_octets c.self.inside.steps c.self.inside.at c.self.inside.done c.copy_octets-count.result c.in-Some-Give.octets c.copy_octets-count.new.into c.args.self.now c.settle.new.self c.self.view_is
    c.settle.ensures.taken c.settle.ensures.rest (search rules) (search rules) (search rules) (search rules)

pub returns-in-Some-Quiet : goal.returns-in-Some-Quiet
returns-in-Some-Quiet c = let is : first c.settle.new.self.rest ≡ Some Quiet = first_is c.self.inside.steps c.self.inside.at c.self.inside.done c.settle.new.self (Some Quiet) c.self.view_is (search rules) in (
  c.advance.ensures.taken ∙ (ap (λ l. c.settle.new.self.taken ++ l) (no_octets c.settle.new.self.rest Quiet is refl) ∙ (append-nil c.settle.new.self.taken ∙ c.settle.ensures.taken)),
  subst (λ r. IsQuiet r c.advance.new.self.rest) c.settle.ensures.rest (quiet_once c.settle.new.self.rest c.advance.new.self.rest is c.advance.ensures.rest),
)

pub returns-in-Some-AwaitPut : goal.returns-in-Some-AwaitPut
returns-in-Some-AwaitPut c = let is : first c.settle.new.self.rest ≡ Some AwaitPut = first_is c.self.inside.steps c.self.inside.at c.self.inside.done c.settle.new.self (Some AwaitPut) c.self.view_is (search rules) in
    (c.settle.ensures.taken, subst (λ r. IsQuiet r c.settle.new.self.rest) c.settle.ensures.rest (quiet_still c.settle.new.self.rest c.settle.new.self.rest is refl))

pub returns-in-Some-End : goal.returns-in-Some-End
returns-in-Some-End c = (c.settle.ensures.taken, subst IsOver c.settle.ensures.rest (over_end c.settle.new.self.rest (first_is c.self.inside.steps c.self.inside.at c.self.inside.done c.settle.new.self (Some End) c.self.view_is (search rules))), c.settle.ensures.rest)

pub returns-in-None : goal.returns-in-None
returns-in-None c = (c.settle.ensures.taken, subst IsOver c.settle.ensures.rest (over_none c.settle.new.self.rest (first_is c.self.inside.steps c.self.inside.at c.self.inside.done c.settle.new.self None c.self.view_is (search rules))), c.settle.ensures.rest)
