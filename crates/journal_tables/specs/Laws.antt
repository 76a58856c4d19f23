-- What the tables of a legal journal show.
use Rattle.std.specs.Prelude.{◌≡◌, ◌↔◌, [], length, unwrap_or}
use Rattle.handle_model.specs.declared.entry.Home.{Home}
use Rattle.handle_model.specs.declared.entry.Entry.{Entry}
use Rattle.handle_model.specs.declared.base.Base.{Base}
use Rattle.handle_model.specs.History.{History, since, with_entry, size}
use Rattle.handle_model.specs.Sound.{IsSoundBase}
use Rattle.handle_model.specs.Journal.{Legal, Allowed, conns, due}
use Rattle.journal_tables.specs.Tables.{Admits, entered, is_due}
use Rattle.handle_model.specs.Folds.{floor}
use Rattle.journal_tables.specs.Floor.{floor_of}
use Rattle.journal_tables.specs.Shown.{tables_of, base_tables}

-- the tables of a base are made of its lists
abbrev pub ShowsBase : Type 0
ShowsBase = (home : Home) (base : Base) → IsSoundBase home base → tables_of (since home base []) ≡ base_tables home base

-- they admit the entries that may come next, and no others
abbrev pub AdmitsAllowed : Type 0
AdmitsAllowed = (j : History) (e : Entry) → Legal j → Admits (tables_of j) e ↔ Allowed j e

-- and follow each entry that comes
abbrev pub FollowsEntries : Type 0
FollowsEntries = (j : History) (e : Entry) → Legal (with_entry j e) → tables_of (with_entry j e) ≡ entered (tables_of j) (size j) e

-- the end of the group is due by them where it is due
abbrev pub ShowsDue : Type 0
ShowsDue = (j : History) → Legal j → is_due (tables_of j) ≡ due j

-- there are as many open connections
abbrev pub ShowsConns : Type 0
ShowsConns = (j : History) → length (tables_of j).conns ≡ length (conns j)

-- the journal may be folded up to the floor of its tables, or as a whole where they have none
abbrev pub ShowsFloor : Type 0
ShowsFloor = (j : History) → Legal j → unwrap_or (floor_of (tables_of j)) (size j) ≡ floor j
