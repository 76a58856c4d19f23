use Rattle.std.proofs.Common.{◌≡◌, ◌+◌, ◌&&◌, ◌||◌, List, [], ◌∷◌, ◌++◌, take, ap, sym, subst, ◌∙◌, arith}
use Rattle.std.specs.Prelude.{bytes_eq}
use Rattle.std.proofs.lemmas.List.{take_more}
use Rattle.idl_outline.specs.declared.field.Declared.{Declared}
use Rattle.idl_uses.specs.Offers.{meets, found, offers_as}
use Rattle.idl_uses.proofs.Added.{any_more}
use Rattle.idl_uses.proofs.offers.add_field.Goals as goal

pub loop-declared-preserved : goal.loop-declared-preserved
loop-declared-preserved c =
    let items = c.as_slice-declared-items.result.now in
    let i = c.loop-declared.declared-index in
    let y = c.declared-item.result in
    let of_items : take (i + 1) items ≡ take i items ++ y ∷ [] = take_more items i y (omega arith) ∙ ap (λ z. take i items ++ z ∷ []) (sym c.declared-item.is) in
    let taken = subst (λ (xs : List Declared). take (i + 1) xs ≡ take i xs ++ y ∷ []) c.as_slice-declared-items.ensures of_items in
    let ds = c.args.field.now.declared in
    λ name w.
    any_more (offers_as name w c.args.field.now) (take i ds) (take (i + 1) ds) y (meets (found c.loop-declared.offers name) w) (meets (found c.args.offers.now name) w) (meets (found c.add.new.offers name) w) taken
    (c.loop-declared.invariant name w)
    (c.in_ok-add.ensures name w ∙ ap (λ o. (bytes_eq y.name.text name && meets o w) || meets (found c.loop-declared.offers name) w) c.offer_of.ensures)
