-- What the calls asked, by a base and the entries since then, the oldest first.
use Rattle.std.specs.Prelude.{ℕ, ◌-◌, Option, Some, None, List, slice_get}
use Rattle.std.specs.List.{filter_map}
use Rattle.std.specs.Option.{option_or, option_map, option_and_then}
use Rattle.handle_model.specs.declared.entry.Asked.{Asked}
use Rattle.handle_model.specs.declared.entry.Entry.{Entry}
use Rattle.handle_model.specs.declared.entry.Entry.TheVariants.{Accept}
use Rattle.handle_model.specs.declared.base.BaseCall.{BaseCall}
use Rattle.handle_model.specs.declared.base.Base.{Base}
use Rattle.handle_model.specs.Bases.{asked_before}
use Rattle.call_table.specs.declared.row.Row.{Row}
use Rattle.call_table.specs.Rows.{row_at}

-- what an entry says that a call asked
abbrev pub asked_in : Option Entry → Option Asked
asked_in (Some (Accept k a)) = Some a
asked_in _ = None

-- the base says it, or the Accept at the call's place
abbrev pub stored : Base → List Entry → Row → Option Asked
stored base entries r = option_or (asked_before base r.call) (asked_in (slice_get entries (r.place - base.count)))

-- of the call of that number, where one of the rows is its
abbrev pub asked_at : Base → List Entry → List Row → ℕ → Option Asked
asked_at base entries rows k = option_and_then (stored base entries) (row_at rows k)

-- a call with what it asked, as a base has it
abbrev pub call_with : Row → Asked → BaseCall
call_with r a = record { call = r.call; asked = a; taken = r.runs; cancelled = r.cancelled; orphaned = r.orphaned }

abbrev pub stored_call : Base → List Entry → Row → Option BaseCall
stored_call base entries r = option_map (call_with r) (stored base entries r)

abbrev pub stored_calls : Base → List Entry → List Row → List BaseCall
stored_calls base entries rows = filter_map (stored_call base entries) rows
