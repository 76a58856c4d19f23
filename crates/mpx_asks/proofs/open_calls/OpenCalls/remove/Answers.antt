use Rattle.std.proofs.Common.{rules, List, ◌∙◌, ap, sym, subst}
use Rattle.std.proofs.lemmas.Fn.{filter_same}
use Rattle.mpx_asks.specs.declared.open_calls.OpenCall.{OpenCall}
use Rattle.mpx_asks.specs.Open.{is_other, without, AreOpen}
use Rattle.mpx_asks.proofs.Apart.{open_fewer}
use Rattle.mpx_asks.proofs.open_calls.OpenCalls.remove.Goals as goal

pub invariant_of-self : goal.invariant_of-self
invariant_of-self c =
    subst (λ (x : List OpenCall). AreOpen x) (sym (filter_same _ (is_other c.args.id) _ (λ x b f' k. search rules) _ _ c.retain.ensures.filtered)) (open_fewer c.args.id _ c.self.invariant)

pub returns : goal.returns
returns c = filter_same _ (is_other c.args.id) _ (λ x b f' k. search rules) _ _ c.retain.ensures.filtered ∙ ap (λ v. without c.args.id v) c.self.view_is
