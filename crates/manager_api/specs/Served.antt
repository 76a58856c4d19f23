-- What the tables of a server's interfaces show.
use Rattle.std.specs.Prelude.{List, map}
use Rattle.ndr_table.specs.Shown.{shown}
use Rattle.ndr_table.specs.Tables.{TableForm}
use Rattle.manager_api.specs.declared.served.Served.{Served}

-- the interfaces, by number
abbrev pub tables_in : Served → List TableForm
tables_in s = map shown s.tables.items
