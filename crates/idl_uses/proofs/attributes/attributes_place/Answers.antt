use Rattle.std.proofs.Common.{◌≡◌, ◌+◌, List, drop, ap, sym, subst, ◌∙◌, arith}
use Rattle.std.specs.List.{flat_map}
use Rattle.idl_outline.specs.declared.field.Attribute.{Attribute}
use Rattle.idl_rules.specs.Least.{least, lesser}
use Rattle.idl_rules.specs.BadAttribute.{attribute_places}
use Rattle.idl_rules.proofs.Leasts.{each_item}
use Rattle.idl_uses.proofs.attributes.attributes_place.Goals as goal

pub loop-attribute-preserved : goal.loop-attribute-preserved
loop-attribute-preserved c =
    let f = attribute_places c.args.field.now in
    let items = c.as_slice-attribute-items.result.now in
    let are = c.as_slice-attribute-items.ensures in
    let all = least (flat_map f c.args.field.now.attributes) in
    let i = c.loop-attribute.attribute-index in
    let before = subst (λ (xs : List Attribute). lesser c.loop-attribute.found (least (flat_map f (drop i xs))) ≡ all) (sym are) c.loop-attribute.invariant in
    subst (λ (xs : List Attribute). lesser c.lesser-found.result (least (flat_map f (drop (i + 1) xs))) ≡ all) are
    (each_item f items i c.attribute-item.result c.loop-attribute.found c.lesser-found.result all (omega arith) c.attribute-item.is before
    (c.lesser-found.ensures ∙ ap (lesser c.loop-attribute.found) c.attribute_place.ensures))
