use Rattle.std.proofs.Common.{◌∙◌, ap, List}
use Rattle.std.specs.Prelude.{slice_get}
use Rattle.ndr_value.specs.declared.value.Value.{Value}
use Rattle.manager_api.proofs.Places.{at_place}
use Rattle.manager_api.proofs.arguments.value_at.Goals as goal

pub returns : goal.returns
returns c = at_place c.args.message.now.values.items c.args.at c.item_at.result (c.item_at.ensures ∙ ap (λ (xs : List Value). slice_get xs c.args.at) c.deref.ensures.value)
