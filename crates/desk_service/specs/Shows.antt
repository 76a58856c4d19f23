-- What an option of a table shows.
use Rattle.std.specs.Prelude.{Option, Some, None}
use Rattle.ndr_table.specs.declared.table.Table.{Table}
use Rattle.ndr_table.specs.Shown.{shown}
use Rattle.ndr_table.specs.Tables.{TableForm}

abbrev pub shown_by : {A : Type 0} → (A → Table) → Option A → Option TableForm
shown_by seen None = None
shown_by seen (Some t) = Some (shown (seen t))
