-- The message that stands in a stub, with the marks of what was read.
use Rattle.std.specs.Prelude.{ℕ, Bool, true, false, List, Result, Ok}
use Rattle.rpc_base.specs.declared.identifiers.Order.{Order}
use Rattle.ndr_value.specs.Forms.{Form}
use Rattle.ndr_value.specs.Values.{Vals, no_val, then_val, Msg}
use Rattle.ndr_table.specs.Tables.{OpForm}
use Rattle.ndr_arrays.specs.Bind.{◌>>=◌}
use Rattle.ndr_model.specs.declared.departure.Departure.{Departure}
use Rattle.ndr_model.specs.declared.way.Way.{Way}
use Rattle.ndr_model.specs.declared.mark.Mark.{Mark}
use Rattle.ndr_model.specs.Places.{Last, noting}
use Rattle.ndr_model.specs.Stub.{Entry, entries, range_marks}
use Rattle.ndr_model.specs.Build.{Found, whole, read_values}
use Rattle.ndr_model.specs.Message.{enough, message_of}

-- a parameter with its referents, and the mark of its range
abbrev pub entry_at : List Form → Order → List ℕ → ℕ → Entry → Last → Found
entry_at types order octets n e q = whole types order octets n 256 e.shape q >>= λ x. Ok (x.0, noting (range_marks e q.here.at) x.1)

-- values in front of others
abbrev pub join : Vals → Vals → Vals
join no_val ws = ws
join (then_val v vs) ws = then_val v (join vs ws)

abbrev pub Followed : Type 0
Followed = Result (Vals × Last) Departure

-- values that were read before, in front of those that follow
abbrev pub before : Vals → Followed → Followed
before front row = row >>= λ y. Ok (join front y.0, y.1)

-- a parameter behind those that were read before, where it goes that way
abbrev pub param_at : List Form → Order → List ℕ → ℕ → Bool → Entry → Vals → Last → Followed
param_at types order octets n true e front q = entry_at types order octets n e q >>= λ x. Ok (join front (then_val x.0 no_val), x.1)
param_at types order octets n false e front q = Ok (front, q)

-- a message and the marks
abbrev pub Reading : Type 0
Reading = Result (Msg × List Mark) Departure

abbrev pub reading_of : Vals × Last → Reading
reading_of x = message_of x.0 x.1 >>= λ m. Ok (m, x.1.marks)

abbrev pub reading : List Form → OpForm → Way → Order → List ℕ → Reading
reading types op way order octets = read_values types order octets enough (entries way op) >>= λ x. reading_of x
