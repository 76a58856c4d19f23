-- Where a reader stands, and what it read, as the definitions see them.
use Rattle.std.specs.declared.alloc.Global.{Global}
use Rattle.std.specs.declared.vec.Vec.{Vec}
use Rattle.std.specs.Prelude.{ℕ, true, List, [], ◌∷◌, ◌++◌, Option, Result}
use Rattle.ndr_value.specs.declared.value.Value.{Value}
use Rattle.ndr_value.specs.Forms.{Form}
use Rattle.ndr_value.specs.Values.{Val, Vals, val, vals}
use Rattle.ndr_table.specs.declared.operation.Param.{Param}
use Rattle.ndr_table.specs.Tables.{param_form}
use Rattle.ndr_model.specs.declared.way.Way.{Way}
use Rattle.ndr_model.specs.declared.mark.Mark.TheVariants.{Referent}
use Rattle.ndr_model.specs.Places.{Last, noting}
use Rattle.ndr_model.specs.Stub.{goes, param_entry}
use Rattle.ndr_model.specs.Build.{Cursor, Built, Row, Found, ends, build, build_at, referent}
use Rattle.ndr_model.specs.Message.{enough}
use Rattle.ndr_pointers.specs.declared.scan_fault.ReadError.{ReadError}
use Rattle.ndr_pointers.specs.declared.state.Reader.{Reader}
use Rattle.ndr_pointers.specs.Gives.{Gives}
use Rattle.ndr_pointers.specs.Views.{place, over, scan_of}
use Rattle.ndr_read.specs.Readings.{Followed, param_at}
use Rattle.ndr_read.specs.declared.state.Flat.{Flat}
use Rattle.ndr_read.specs.declared.state.Kept.{Kept}
use Rattle.ndr_read.specs.declared.state.Tail.{Tail}

abbrev pub cursor_of : Flat → Cursor
cursor_of f = record { at = f.at; ids = f.ids; handles = f.handles }

-- the items of the heap that were read, the last one first
abbrev pub items_of : List Kept → List (ℕ × Val)
items_of [] = []
items_of (k ∷ ks) = items_of ks ++ (k.number, val k.value) ∷ []

abbrev pub last_of : Tail → Last
last_of t = record { here = place t.at t.seen; items = items_of t.items.items; marks = t.marks }

-- ---- what stands in the octets of a reader

-- values that stand there, so many constructs and names deep at most
abbrev pub build_of : Reader → ℕ → ℕ → Option ℕ → Form → Cursor → Last → Built
build_of r fuel = over r build fuel

-- a value whose parts stand there, so many levels deep at most
abbrev pub one_of : Reader → ℕ → ℕ → Option ℕ → Form → Cursor → Last → Built
one_of r fuel = over r build_at (scan_of r fuel) (build_of r fuel)

abbrev pub referent_of : Reader → ℕ → ℕ → ℕ → Form → Last → Found
referent_of r fuel = referent (scan_of r fuel) (build_of r fuel)

-- behind a full pointer that brought its id
abbrev pub first_met : Tail → Last
first_met t = noting (Referent true ∷ []) (last_of t)

-- a parameter behind those that were read before it, where it goes that way
abbrev pub param_of : Reader → Way → Param → Vals → Last → Followed
param_of r way p = over r param_at enough (goes way (param_form p)) (param_entry (param_form p))

-- ---- what a reader answers, unless memory ran out

-- a value, and where its flat part and its referents end
abbrev pub Builds : Result Value ReadError → Flat → Tail → Built → Type 0
Builds result flat tail built = Gives (λ v. (val v, ends (cursor_of flat) (last_of tail))) result built

-- the same of values in a row
abbrev pub BuildsAll : Result (Vec Value Global) ReadError → Flat → Tail → Row → Type 0
BuildsAll result flat tail row = Gives (λ vs. (vals vs.items, ends (cursor_of flat) (last_of tail))) result row

-- the same of a value without referents
abbrev pub BuildsApart : Result Value ReadError → Flat → Last → Built → Type 0
BuildsApart result flat q built = Gives (λ v. (val v, ends (cursor_of flat) q)) result built

-- a value that ends with its referents
abbrev pub Finds : Result Value ReadError → Tail → Found → Type 0
Finds result tail found = Gives (λ v. (val v, last_of tail)) result found
