-- Rule 6, TooManyHandles: an operation has a fifth handle parameter.
use Rattle.std.specs.Prelude.{◌≡◌, ℕ, ◌+◌, Bool, List, [], ◌∷◌, length, Option, Some, None, slice_get, Result, Ok, Err}
use Rattle.std.specs.List.{filter, flat_map}
use Rattle.idl_outline.specs.declared.field.Declared.{Declared}
use Rattle.idl_outline.specs.declared.field.Field.{Field}
use Rattle.idl_outline.specs.declared.event.Event.{Event}
use Rattle.idl_outline.specs.declared.event.Event.TheVariants as events
use Rattle.idl_rules.specs.Types.{is_context_handle}

abbrev pub is_handle : Declared → Bool
is_handle d = is_context_handle d.ty.core

-- an operation's parameters, and its handle parameters
abbrev pub declared_of : List Field → List Declared
declared_of fs = flat_map (λ f. f.declared) fs

abbrev pub handles : List Field → List Declared
handles ps = filter is_handle (declared_of ps)

abbrev pub place_if : Option Declared → List ℕ
place_if None = []
place_if (Some d) = d.name.at ∷ []

abbrev pub too_many_handles : List Event → Event → List ℕ
too_many_handles past (events.Call r ps) = place_if (slice_get (handles ps) 4)
too_many_handles past _ = []

-- the place of the item behind so many others, or how many are still to come
abbrev pub Behind : List Declared → ℕ → Result ℕ ℕ → Type 0
Behind ds left (Ok at) = place_if (slice_get ds left) ≡ at ∷ []
Behind ds left (Err more) = length ds + more ≡ left
