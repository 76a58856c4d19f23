use Rattle.std.proofs.Common.{◌≡◌, ◌+◌, [], ◌∷◌, ◌++◌, take, ap, sym, ◌∙◌, arith}
use Rattle.std.specs.List.{list_any}
use Rattle.std.proofs.lemmas.List.{take_more}
use Rattle.idl_uses.specs.Offers.{meets, found, offers_as}
use Rattle.idl_uses.proofs.Added.{any_all}
use Rattle.idl_uses.proofs.offers.offers_of.Goals as goal

pub loop-field-preserved : goal.loop-field-preserved
loop-field-preserved c =
    let xs = c.args.list.now in
    let i = c.loop-field.field-index in
    let y = c.field-item.result in
    let taken : take (i + 1) xs ≡ take i xs ++ y ∷ [] = take_more xs i y (omega arith) ∙ ap (λ z. take i xs ++ z ∷ []) (sym c.field-item.is) in
    λ name w.
    any_all (λ g. list_any (offers_as name w g) g.declared) (take i xs) (take (i + 1) xs) y (meets (found c.loop-field.offers name) w) (meets (found c.add_field.new.offers name) w) taken
    (c.loop-field.invariant name w) (c.in_ok-add_field.ensures name w)
