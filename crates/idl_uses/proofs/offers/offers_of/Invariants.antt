use Rattle.std.proofs.Common.{◌≡◌, ℕ, List, take}
use Rattle.std.specs.List.{list_any}
use Rattle.idl_uses.specs.declared.offers.Want.{Want}
use Rattle.idl_uses.specs.Offers.{meets, found, offers_as}
use Rattle.idl_uses.proofs.offers.offers_of.Given as goal

-- those passed are offered
abbrev pub invariant-loop-field : goal.invariant-loop-field
invariant-loop-field l = (name : List ℕ) (w : Want) → meets (found l.offers name) w ≡ list_any (λ g. list_any (offers_as name w g) g.declared) (take l.field-index l.list)
