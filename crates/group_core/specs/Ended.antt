-- Where a call ended.
use Rattle.std.specs.Prelude.{ℕ, ◌+◌, ◌^◌, ◌-◌, Bool, true, false, ◌&&◌, ◌==◌, not, Option, Some, None, if◌then◌else◌, min, List, [], ◌∷◌, length}
use Rattle.std.specs.Option.{option_map}
use Rattle.handle_model.specs.declared.entry.Entry.{Entry}
use Rattle.handle_model.specs.declared.entry.Entry.TheVariants.{Deny, Cancel, End}
use Rattle.handle_model.specs.declared.base.Base.{Base}
use Rattle.handle_model.specs.Bases.{taken_before}
use Rattle.handle_model.specs.Journal.{any_since, takes}
use Rattle.handle_model.specs.History.{History}

-- the entry ends the call, which was taken before or not: its Deny, its End, or its Cancel where it wasn't
abbrev pub ends_call : Bool → ℕ → Entry → Bool
ends_call taken k (Deny m slot) = m == k
ends_call taken k (Cancel m) = (m == k) && not taken
ends_call taken k (End m results said) = m == k
ends_call taken k _ = false

-- the call was taken
abbrev pub was_taken : Base → List Entry → ℕ → Bool
was_taken base past k = any_since (taken_before base k) (takes k) past

abbrev pub place_where : Bool → ℕ → Option ℕ
place_where true place = Some place
place_where false place = None

abbrev pub first_of_two : Option ℕ → Option ℕ → Option ℕ
first_of_two (Some place) later = Some place
first_of_two None later = later

-- the place of the first entry that ends the call, where there is one: how many entries came before it
abbrev pub ended_since : Base → List Entry → ℕ → Option ℕ
ended_since base [] k = None
ended_since base (e ∷ past) k =
    first_of_two (ended_since base past k) (place_where (ends_call (was_taken base past k) k e) (base.count + length past))

abbrev pub ended_at : History → ℕ → Option ℕ
ended_at j k = ended_since j.base j.past k

-- a place in 64 bits; one above is their greatest number
abbrev pub in_word : ℕ → ℕ
in_word place = min place (2 ^ 64 - 1)

abbrev pub ended_place : History → ℕ → Option ℕ
ended_place j k = option_map in_word (ended_at j k)
