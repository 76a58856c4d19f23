-- Tables without the places of entries.
use Rattle.std.specs.Prelude.{ℕ, List, map}
use Rattle.call_table.specs.declared.row.Row.{Row}
use Rattle.journal_tables.specs.declared.conns.OpenConn.{OpenConn}
use Rattle.journal_tables.specs.Tables.{Tables}

abbrev pub row_unplaced : Row → Row
row_unplaced r =
    record { call = r.call; conn = r.conn; slots = r.slots; place = 0; runs = r.runs; cancelled = r.cancelled; orphaned = r.orphaned }

abbrev pub conn_unplaced : OpenConn → OpenConn
conn_unplaced o = record { conn = o.conn; place = 0 }

abbrev pub unplaced : Tables → Tables
unplaced t =
    record {
      home = t.home;
      items = t.items;
      rows = map row_unplaced t.rows;
      conns = map conn_unplaced t.conns;
      joins = t.joins;
      accepts = t.accepts;
      opens = t.opens;
      shut = t.shut;
    }
