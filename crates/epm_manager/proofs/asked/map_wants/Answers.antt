use Rattle.std.proofs.Common.{◌≡◌, ◌∙◌}
use Rattle.ndr_value.specs.Values.{vals, msg}
use Rattle.manager_api.specs.Arguments.{value_at}
use Rattle.epm_manager.specs.Asked.{pointed_to, uuid_of, tower_in, leading}
use Rattle.epm_manager.proofs.asked.map_wants.Goals as goal

pub returns : goal.returns
returns c =
    let m = msg c.args.message.now in
    let object : c.in_ok-object.object ≡ uuid_of (pointed_to m.heap (value_at m.values 0)) = c.in_ok-object.ensures ∙ (λ j. uuid_of (pointed_to (vals (c.deref.ensures.value j)) (value_at (vals (c.deref-2.ensures.value j)) 0))) in
    let tower : c.in_ok-tower.tower ≡ tower_in (pointed_to m.heap (value_at m.values 1)) = c.in_ok-tower.ensures ∙ (λ j. tower_in (pointed_to (vals (c.deref-3.ensures.value j)) (value_at (vals (c.deref-4.ensures.value j)) 1))) in
    c.leading.ensures ∙ (λ j. leading (object j) (tower j))
