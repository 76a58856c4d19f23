-- The names of context handles in a script: they are numbered from 1 in the order in which they come.
use Rattle.std.specs.Prelude.{ℕ, ◌+◌, ◌==◌, ◌&&◌, ◌||◌, Bool, if◌then◌else◌, List, [], ◌∷◌, ◌++◌, codes, decimal}
use Rattle.std.specs.List.{list_any}
use Rattle.rpc_base.specs.declared.identifiers.WireHandle.{WireHandle}

abbrev pub is_null : WireHandle → Bool
is_null w = (w.attributes == 0) && (w.id == 0)

abbrev pub is_same : WireHandle → WireHandle → Bool
is_same a b = (a.attributes == b.attributes) && (a.id == b.id)

-- its place among those that came, from 1; one that didn't come has the next place
abbrev pub place : List WireHandle → WireHandle → ℕ
place [] w = 1
place (k ∷ known) w = if is_same k w then 1 else place known w + 1

-- `null`, or `hN`
unfoldable pub name : List WireHandle → WireHandle → List ℕ
name known w = if is_null w then codes "null" else codes "h" ++ decimal (place known w)

abbrev pub is_that : WireHandle → WireHandle → Bool
is_that w k = is_same k w

abbrev pub is_among : List WireHandle → WireHandle → Bool
is_among known w = list_any (is_that w) known

-- it has a name: it is null, or came
abbrev pub has_name : List WireHandle → WireHandle → Bool
has_name known w = is_null w || is_among known w

-- one that isn't null and didn't come before comes
abbrev pub with_handle : List WireHandle → WireHandle → List WireHandle
with_handle known w = if has_name known w then known else known ++ w ∷ []

-- these come, in this order
abbrev pub with_handles : List WireHandle → List WireHandle → List WireHandle
with_handles known [] = known
with_handles known (w ∷ ws) = with_handles (with_handle known w) ws
