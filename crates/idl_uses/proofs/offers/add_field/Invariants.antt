use Rattle.std.proofs.Common.{◌≡◌, ℕ, List, ◌||◌, take}
use Rattle.std.specs.List.{list_any}
use Rattle.idl_uses.specs.declared.offers.Want.{Want}
use Rattle.idl_uses.specs.Offers.{meets, found, offers_as}
use Rattle.idl_uses.proofs.offers.add_field.Given as goal

-- those passed are offered
abbrev pub invariant-loop-declared : goal.invariant-loop-declared
invariant-loop-declared l = (name : List ℕ) (w : Want) → meets (found l.offers name) w ≡ (list_any (offers_as name w l.field) (take l.declared-index l.field.declared) || meets (found l.initial.offers name) w)
