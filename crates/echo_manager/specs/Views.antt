-- What the walk has so far, as the definitions see it.
use Rattle.std.specs.Prelude.{◌≡◌, ℕ, List, map, slice_get, Option, Some}
use Rattle.ndr_value.specs.Forms.{form}
use Rattle.ndr_value.specs.Values.{val}
use Rattle.echo_manager.specs.declared.lead.Lead as declared
use Rattle.echo_manager.specs.declared.lead.Lead.TheVariants as leads
use Rattle.echo_manager.specs.Met.{place_in, Lead, to_value, to_item, Flat}

abbrev pub lead_of : declared.Lead → Lead
lead_of (leads.Value s v) = to_value (form s.now) (val v.now)
lead_of (leads.Item s n) = to_item (form s.now) n

abbrev pub flat_of : List ℕ → List declared.Lead → Flat
flat_of met behind = record { met = met; behind = map lead_of behind }

-- at each number of the heap stands where it was met
abbrev pub IsPlaced : List ℕ → List (Option ℕ) → Type 0
IsPlaced met places = (n : ℕ) (place : Option ℕ) → slice_get places n ≡ Some place → place ≡ place_in n met
