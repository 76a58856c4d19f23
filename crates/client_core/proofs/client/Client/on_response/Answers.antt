use Rattle.std.proofs.Common.{◌≡◌, Some, rules, sym, ◌∙◌}
use Rattle.client_core.specs.declared.begun.Out.TheVariants.{Call}
use Rattle.client_core.specs.State.{state}
use Rattle.client_core.proofs.Outs.{call_is_out}
use Rattle.client_core.proofs.Heard.{of_the_call}
use Rattle.client_core.proofs.client.Client.on_response.Goals as goal

pub on_fragment-requires : goal.on_fragment-requires
on_fragment-requires c =
    let is : c.args.out ≡ Some Call = search rules in
    call_is_out (state c.args.self.now) c.args.call_id (sym c.requires ∙ is)

pub returns-in-Some-Call-clause-hears : goal.returns-in-Some-Call-clause-hears
returns-in-Some-Call-clause-hears c =
    let is : c.args.out ≡ Some Call = search rules in
    rw is (of_the_call (state c.args.self.now) (state c.on_fragment.new.self) _ _ (call_is_out (state c.args.self.now) c.args.call_id (sym c.requires ∙ is)) c.on_fragment.ensures.tells)
