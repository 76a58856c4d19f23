-- How a connection's turns go on, entry by entry.
use Rattle.std.specs.Prelude.{◌≡◌, ℕ, ◌==◌, Bool, true, false, Some, None, List, [], ◌∷◌, filter, ◌⊎◌}
use Rattle.std.specs.List.{list_any, AllByRecursion}
use Rattle.handle_model.specs.declared.entry.Asked.{Asked}
use Rattle.handle_model.specs.declared.entry.Entry.{Entry}
use Rattle.handle_model.specs.declared.entry.Entry.TheVariants.{Join, Accept, Leave}
use Rattle.conn_histories.specs.declared.turn.Fate.{Fate}
use Rattle.conn_histories.specs.declared.turn.Fate.TheVariants.{Waiting, LeftWaiting, Running, LeftRunning}
use Rattle.conn_histories.specs.declared.turn.Deed.{Deed}
use Rattle.conn_histories.specs.declared.turn.Deed.TheVariants.{Accepted}
use Rattle.conn_histories.specs.declared.turn.Request.{Request}
use Rattle.conn_histories.specs.declared.turn.Turn.{Turn}
use Rattle.conn_histories.specs.declared.turn.Turn.TheVariants.{Called}
use Rattle.conn_histories.specs.Entries.{deed_entries, deed_number, deed_left, turn_open, numbers_of}
use Rattle.conn_histories.specs.Tales.{of_call, of_conn, StandAll}

-- ---- an entry of a call

-- a call that has no entry yet is accepted of the connection, which is there
pub record IsAccepted (c k : ℕ) (e : Entry) (past : List Entry) (deed : Deed) : Type 0 where
  pub asked : Asked
  pub accept : e ≡ Accept k asked
  pub theirs : asked.conn ≡ c
  pub before : deed_number deed ≡ None
  pub new : list_any (of_call k) past ≡ false
  pub joined : filter (of_conn c) past ≡ Join c ∷ []

-- the call goes on
pub record IsFurther (k : ℕ) (e : Entry) (deed : Deed) : Type 0 where
  pub same : deed_number deed ≡ Some k
  pub no_accept : (asked : Asked) → (m : ℕ) → e ≡ Accept m asked → ⊥

-- An entry of call k makes the deed of a request another one: the entry stands before those that the deed had.
pub record GoesOn (c k : ℕ) (e : Entry) (past : List Entry) (r s : Request) : Type 0 where
  pub of_it : of_call k e ≡ true
  pub entries : deed_entries c s s.deed ≡ e ∷ deed_entries c r r.deed
  pub number : deed_number s.deed ≡ Some k
  pub from : IsAccepted c k e past r.deed ⊎ IsFurther k e r.deed
  pub left_same : deed_left s.deed ≡ deed_left r.deed

-- The journal says of each turn just what it says, then too. Where the connection is gone the request is one that it left.
abbrev pub TurnsGoOn : Type 0
TurnsGoOn =
    (c k : ℕ) (gone : Bool) (e : Entry) (past : List Entry) (r s : Request) (ts : List Turn) → GoesOn c k e past r s
    → (gone ≡ true → deed_left s.deed ≡ true) → AllByRecursion (λ m. (k == m) ≡ false) (numbers_of ts)
    → StandAll c gone past (Called r ∷ ts) → StandAll c gone (e ∷ past) (Called s ∷ ts)

-- ---- the connection's Leave

abbrev pub left_fate : Fate → Fate
left_fate Waiting = LeftWaiting
left_fate (Running cookies) = LeftRunning cookies
left_fate fate = fate

abbrev pub left_deed : Deed → Deed
left_deed (Accepted k slots fate) = Accepted k slots (left_fate fate)
left_deed deed = deed

abbrev pub left_turn : Turn → Turn
left_turn (Called r) = Called (record r { deed = left_deed r.deed })
left_turn t = t

-- the newest turn may be one that the connection leaves
abbrev pub left_turns : List Turn → List Turn
left_turns [] = []
left_turns (t ∷ ts) = left_turn t ∷ ts

-- no turn but the newest is open
abbrev pub OnlyNewestOpen : List Turn → Type 0
OnlyNewestOpen [] = Unit {0}
OnlyNewestOpen (t ∷ ts) = list_any turn_open ts ≡ false

abbrev pub TurnsAreLeft : Type 0
TurnsAreLeft =
    (c : ℕ) (past : List Entry) (turns : List Turn) → OnlyNewestOpen turns → StandAll c false past turns
    → StandAll c true (Leave c ∷ past) (left_turns turns)
