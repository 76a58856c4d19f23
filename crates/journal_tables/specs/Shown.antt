-- The tables that a journal has.
use Rattle.std.specs.Prelude.{ℕ, ◌+◌, false, ◌==◌, if◌then◌else◌, List, [], ◌∷◌, length, map, reverse}
use Rattle.std.specs.List.{list_any}
use Rattle.handle_model.specs.declared.entry.Home.{Home}
use Rattle.handle_model.specs.declared.entry.Entry.{Entry}
use Rattle.handle_model.specs.declared.entry.Entry.TheVariants.{Join}
use Rattle.handle_model.specs.declared.base.Base.{Base}
use Rattle.handle_model.specs.History.{History}
use Rattle.handle_model.specs.Journal.{is_shut, join_count, conns, accept_count, opened, due_items}
use Rattle.call_table.specs.Shown.{rows_of, base_rows}
use Rattle.journal_tables.specs.declared.conns.OpenConn.{OpenConn}
use Rattle.journal_tables.specs.Tables.{Tables}

-- where the Join of connection c stands; that of a connection of the base stands at the base's count
abbrev pub place_since : Base → List Entry → ℕ → ℕ
place_since base [] c = base.count
place_since base (Join d ∷ past) c = if d == c then base.count + length past else place_since base past c
place_since base (_ ∷ past) c = place_since base past c

abbrev pub open_conn : History → ℕ → OpenConn
open_conn j c = record { conn = c; place = place_since j.base j.past c }

-- the open connections, by rising number
abbrev pub conns_of : History → List OpenConn
conns_of j = map (open_conn j) (reverse (conns j))

abbrev pub tables_of : History → Tables
tables_of j =
    record {
      home = j.home;
      items = due_items j;
      rows = rows_of j;
      conns = conns_of j;
      joins = join_count j;
      accepts = accept_count j;
      opens = opened j;
      shut = list_any is_shut j.past;
    }

-- those of a base
abbrev pub base_conn : ℕ → ℕ → OpenConn
base_conn place c = record { conn = c; place = place }

abbrev pub base_tables : Home → Base → Tables
base_tables home base =
    record {
      home = home;
      items = base.handles;
      rows = base_rows base;
      conns = map (base_conn base.count) base.conns;
      joins = base.joins;
      accepts = base.accepts;
      opens = base.opens;
      shut = false;
    }
