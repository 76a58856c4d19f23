-- In what order the entries of a connection stand in a legal history, whose newest entry is its first:
-- `newer` came after an entry of the history.
use Rattle.std.specs.Prelude.{◌≡◌, ℕ, ◌+◌, ◌≤◌, true, false, List, length, filter}
use Rattle.handle_model.specs.declared.entry.Asked.{Asked}
use Rattle.handle_model.specs.declared.entry.Entry.{Entry}
use Rattle.handle_model.specs.declared.entry.Entry.TheVariants.{Join, Accept, Leave}
use Rattle.handle_model.specs.Bases.{has_conn}
use Rattle.handle_model.specs.History.{History, with_entry}
use Rattle.handle_model.specs.Journal.{Legal, joins, leaves, has_joined, is_open}
use Rattle.handle_model.specs.Further.{with_entries, once_where}

-- a connection joins before it leaves
abbrev pub LeavesAfterJoin : Type 0
LeavesAfterJoin = (j : History) (newer : List Entry) (c : ℕ) → Legal (with_entries (with_entry j (Leave c)) newer) → has_joined j c ≡ true

-- it joins once, before the base or by a Join, and leaves once
abbrev pub JoinsOnce : Type 0
JoinsOnce = (j : History) (c : ℕ) → Legal j → once_where (has_conn j.base c) + length (filter (joins c) j.past) ≤ 1

abbrev pub LeavesOnce : Type 0
LeavesOnce = (j : History) (c : ℕ) → Legal j → length (filter (leaves c) j.past) ≤ 1

-- a further one has a new number
abbrev pub JoinsNew : Type 0
JoinsNew =
    (j : History) (newer : List Entry) (c : ℕ) → Legal (with_entries (with_entry j (Join c)) newer) → has_joined j c ≡ false

-- a call is accepted of a connection that is open
abbrev pub AcceptsOfOpen : Type 0
AcceptsOfOpen =
    (j : History) (newer : List Entry) (k : ℕ) (a : Asked) → Legal (with_entries (with_entry j (Accept k a)) newer)
    → is_open j a.conn ≡ true
