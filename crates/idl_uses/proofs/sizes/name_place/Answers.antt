use Rattle.std.proofs.Common.{ap, ◌∙◌}
use Rattle.std.specs.Prelude.{not}
use Rattle.idl_rules.specs.Least.{least}
use Rattle.idl_rules.specs.Places.{at_if}
use Rattle.idl_uses.specs.Offers.{meets, found, want}
use Rattle.idl_uses.proofs.Offered.{offered_by}
use Rattle.idl_uses.proofs.sizes.name_place.Goals as goal

pub returns : goal.returns
returns c =
    let n = c.args.named.now in
    let offers = c.args.offers.now in
    c.place_if.ensures
    ∙ ap (λ b. least (at_if (not b) n.name.at))
    (c.is_offered.ensures
    ∙ ((λ j. meets (found offers (c.as_slice.ensures j)) (c.wanted-want.ensures j))
    ∙ (c.requires.offers n.name.text (want c.args.asked c.args.field.now n)
    ∙ offered_by c.args.asked c.args.field.now n c.args.list.now)))
