-- What a call enters in the history of a shard.
use Rattle.std.specs.Prelude.{◌≡◌, ℕ, ◌==◌, Bool, true, false, ◌<◌, List, ◌++◌, length, take}
use Rattle.std.specs.List.{list_any}
use mathlib.Core.Option.{some}
use lib.ListN.{get_elem?}
use Rattle.turn_lock.specs.Histories.{times, StartsWith, places, Closed, Within, AtMostOnce}
use Rattle.handle_model.specs.declared.entry.Entry.{Entry}
use Rattle.handle_model.specs.declared.entry.Entry.TheVariants.{Join, Accept, Take, Deny, Cancel, Orphan, End, Leave}
use Rattle.handle_model.specs.History.{History}
use Rattle.handle_model.specs.Further.{with_entries}
use Rattle.hub_story.specs.declared.item.Item.{Item}
use Rattle.hub_story.specs.declared.item.Item.TheVariants.{Of}
use Rattle.hub_story.specs.Histories.{past_in, journal_in, items_of, IsStory}
use Rattle.hub_story.specs.Ties.{ties}
use Rattle.hub_story.specs.Passes.{Seen, HasOwn, accepts_of}

-- the history where a pass that has seen v gets the turn
pub record Met (boot s : ℕ) (v : Seen) (log : List Item) : Type 0 where
  pub starts : StartsWith log v.log
  pub within : Within v.own (length v.log)
  pub once : AtMostOnce v.own
  pub closed : Closed ties log v.own
  pub story : IsStory boot s log

-- each of these items is tied to own places alone
abbrev pub TiesOwn : Seen → List Item → List Item → Type 0
TiesOwn v log more =
    (k : ℕ) (e : Item) → get_elem? more k ≡ some e → (p : ℕ) → ties (log ++ take k more) e p
    → 0 < times p (v.own ++ places (length log) (length more))

-- an entry that only the connection's own pass enters, and one of the call
abbrev pub of_conn : ℕ → Entry → Bool
of_conn c (Join d) = d == c
of_conn c (Accept k asked) = asked.conn == c
of_conn c (Leave d) = d == c
of_conn c _ = false

abbrev pub of_call : ℕ → Entry → Bool
of_call k (Accept m asked) = m == k
of_call k (Take m cookies) = m == k
of_call k (Deny m slot) = m == k
of_call k (Cancel m) = m == k
of_call k (Orphan m) = m == k
of_call k (End m results said) = m == k
of_call k _ = false

-- the connection joined first now, the call was accepted first now: no entry before is of it
abbrev pub IsNewConn : ℕ → History → Type 0
IsNewConn c j = list_any (of_conn c) j.past ≡ false

abbrev pub IsNewCall : ℕ → History → Type 0
IsNewCall k j = list_any (of_call k) j.past ≡ false

-- what others entered since, nothing of the pass's connections and nothing of their calls among it
pub record Apart (v : Seen) (between : List Item) : Type 0 where
  pub conns : (h c : ℕ) → HasOwn v (Of h (Join c)) → list_any (of_conn c) (past_in h between) ≡ false
  pub calls : (h c k : ℕ) → HasOwn v (Of h (Join c)) → list_any (accepts_of c k) (past_in h v.log) ≡ true
      → list_any (of_call k) (past_in h between) ≡ false

-- These items were entered behind all that had been seen and what others entered since, at new own places.
pub record Enters (boot s : ℕ) (v w : Seen) (between more : List Item) : Type 0 where
  pub lock : w.lock ≡ v.lock
  pub log : w.log ≡ (v.log ++ between) ++ more
  pub own : w.own ≡ v.own ++ places (length (v.log ++ between)) (length more)
  -- each own place is in the front, once
  pub within : Within w.own (length w.log)
  pub once : AtMostOnce w.own
  pub story : IsStory boot s w.log
  pub apart : Apart v between

-- A call on a group of the shard s enters these entries of it, the newest first, and answers by the journal before and after them.
abbrev pub Calls : ℕ → ℕ → Seen → Seen → ℕ → (History → History → Type 0) → Type 0
Calls boot s v w g Answers =
    (between : List Item) × (es : List Entry) × Enters boot s v w between (items_of g es)
    × Answers (journal_in boot g (v.log ++ between)) (with_entries (journal_in boot g (v.log ++ between)) es)
