-- Where the program looks places up. Only private clauses speak of this.
use Rattle.std.specs.Prelude.{◌≡◌, ℕ, Option, Some, None, if◌then◌else◌, List}
use Rattle.std.specs.Ordering.{nat_cmp, ordering_then}
use Rattle.std.specs.declared.cmp.Ordering.{Ordering}
use Rattle.std.specs.BTreeMap.{BTreeMap, get}
use Rattle.rpc_base.specs.declared.identifiers.WireHandle.{WireHandle}
use Rattle.client_texts.specs.Handles.{place, is_among}

abbrev pub key_cmp : ℕ × ℕ → ℕ × ℕ → Ordering
key_cmp x y = ordering_then (nat_cmp x.0 y.0) (nat_cmp x.1 y.1)

-- the place of a handle that came
abbrev pub place_of : List WireHandle → WireHandle → Option ℕ
place_of known w = if is_among known w then Some (place known w) else None

-- the map has the place of each handle that came, by its attributes and its id, and no other
abbrev pub IsIndex : BTreeMap (ℕ × ℕ) ℕ → List WireHandle → Type 0
IsIndex places known = (w : WireHandle) → get key_cmp places (w.attributes, w.id) ≡ place_of known w
