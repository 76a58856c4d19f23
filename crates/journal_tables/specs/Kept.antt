-- What a fold keeps of each connection and call. The newest entry of a history is its first.
use Rattle.std.specs.Prelude.{◌≡◌, ℕ, ◌+◌, ◌<◌, true, ◌↔◌, Some, List, ◌∷◌, ◌++◌}
use Rattle.std.specs.List.{list_any}
use Rattle.handle_model.specs.declared.entry.Asked.{Asked}
use Rattle.handle_model.specs.declared.entry.Entry.{Entry}
use Rattle.handle_model.specs.declared.entry.Entry.TheVariants.{Join, Accept}
use Rattle.handle_model.specs.Folds.{folded}
use Rattle.handle_model.specs.History.{History, with_entry}
use Rattle.handle_model.specs.Journal.{Legal, joins, is_open, runs, asked, join_count, accept_count}
use Rattle.handle_model.specs.Replies.{replies}
use Rattle.handle_model.specs.Further.{with_entries}
use Rattle.handle_model.specs.CallLaws.{accepts}
use Rattle.journal_tables.specs.Folding.{BaseBegun}
use Rattle.journal_tables.specs.FoldOf.{IsFoldOf}

-- NUMBERS

-- connections and calls are numbered one by one
abbrev pub JoinsNext : Type 0
JoinsNext = (j : History) (newer : List Entry) (c : ℕ) → Legal (with_entries (with_entry j (Join c)) newer) → c ≡ join_count j + 1

abbrev pub AcceptsNext : Type 0
AcceptsNext =
    (j : History) (newer : List Entry) (k : ℕ) (a : Asked) → Legal (with_entries (with_entry j (Accept k a)) newer) → k ≡ accept_count j + 1

-- WHAT IS NOT FOLDED AWAY

-- an entry stands there, and what came after it is this
pub record Keeps (x : History) (newer : List Entry) (e : Entry) : Type 0 where
  pub rest : List Entry
  pub past_is : x.past ≡ newer ++ e ∷ rest

-- the Join of an open connection, with all that came after it
abbrev pub KeepsJoins : Type 0
KeepsJoins =
    (j : History) (newer older : List Entry) (c : ℕ) → j.past ≡ newer ++ Join c ∷ older → is_open j c ≡ true
    → Keeps (folded j) newer (Join c)

-- and the Accept of a running call
abbrev pub KeepsAccepts : Type 0
KeepsAccepts =
    (j : History) (newer older : List Entry) (k : ℕ) (a : Asked) → j.past ≡ newer ++ Accept k a ∷ older → runs j k ≡ true
    → Keeps (folded j) newer (Accept k a)

-- WHAT STANDS IN A FOLD, of however many

-- the Joins among its entries are those of the journal with a number above the joins of its base
abbrev pub HoldsJoins : Type 0
HoldsJoins =
    (x j : History) (c : ℕ) → Legal j → BaseBegun j.base → IsFoldOf x j
    → list_any (joins c) x.past ≡ true ↔ ((list_any (joins c) j.past ≡ true) × (x.base.joins < c))

-- and so are the Accepts
abbrev pub HoldsAccepts : Type 0
HoldsAccepts =
    (x j : History) (k : ℕ) → Legal j → BaseBegun j.base → IsFoldOf x j
    → list_any (accepts k) x.past ≡ true ↔ ((list_any (accepts k) j.past ≡ true) × (x.base.accepts < k))

-- each call of a connection whose Join is among the entries has its Accept there
abbrev pub HoldsCalls : Type 0
HoldsCalls =
    (x j : History) (k : ℕ) (a : Asked) → Legal j → BaseBegun j.base → IsFoldOf x j → asked j k ≡ Some a
    → list_any (joins a.conn) x.past ≡ true → list_any (accepts k) x.past ≡ true

-- what came after a Join stands there too, wherever the Join does
abbrev pub HoldsSinceJoin : Type 0
HoldsSinceJoin =
    (x j : History) (newer older : List Entry) (c : ℕ) → Legal j → BaseBegun j.base → IsFoldOf x j
    → j.past ≡ newer ++ Join c ∷ older → list_any (joins c) x.past ≡ true → Keeps x newer (Join c)

-- and what came after an Accept
abbrev pub HoldsSinceAccept : Type 0
HoldsSinceAccept =
    (x j : History) (newer older : List Entry) (k : ℕ) (a : Asked) → Legal j → BaseBegun j.base → IsFoldOf x j
    → j.past ≡ newer ++ Accept k a ∷ older → list_any (accepts k) x.past ≡ true → Keeps x newer (Accept k a)

-- WHAT IS TOLD

-- the caller of a call with an Accept among the entries is told what the whole journal tells, where that has ended too
abbrev pub KeepsReplies : Type 0
KeepsReplies =
    (x j : History) (k : ℕ) → Legal j → BaseBegun j.base → IsFoldOf x j → list_any (accepts k) x.past ≡ true
    → replies x k ≡ replies j k
