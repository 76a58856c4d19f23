-- The journal of the server's one group, whole and with the newest entry first.
use Rattle.std.specs.Prelude.{◌≡◌, ℕ, ◌+◌, ◌==◌, Bool, true, false, not, ◌&&◌, ◌||◌, Option, Some, None, Ok, if◌then◌else◌, List, [], ◌∷◌}
use Rattle.std.specs.List.{list_any}
use Rattle.handle_model.specs.declared.entry.Home.{Home}
use Rattle.handle_model.specs.declared.entry.Asked.{Asked}
use Rattle.handle_model.specs.declared.entry.Entry.{Entry}
use Rattle.handle_model.specs.declared.entry.Entry.TheVariants.{Join, Leave}
use Rattle.handle_model.specs.declared.limits.JoinLimit.{JoinLimit}
use Rattle.handle_model.specs.History.{History}
use Rattle.handle_model.specs.Entries.{is_shut}
use Rattle.handle_model.specs.Journal.{waits, runs, join_count}
use Rattle.handle_model.specs.Limits.{join_limit}
use Rattle.conn_histories.specs.Tales.{whole}
use Rattle.group_core.specs.declared.answer.Cancelled.{Cancelled}
use Rattle.group_core.specs.declared.answer.Orphaned.{Orphaned}
use Rattle.group_core.specs.declared.answer.Rest.{Rest}
use Rattle.group_core.specs.Calls.{Accepts, Cancels, Orphans}
use Rattle.group_core.specs.Conns.{Settles}

-- the server's boot word and the id of its group
abbrev pub home : Home
home = record { boot = 1; group = 1 }

abbrev pub journal : List Entry → History
journal past = whole home past

-- ---- connections

abbrev pub has_begun : List Entry → Bool
has_begun [] = false
has_begun (e ∷ past) = true

-- the group is there from its first Join to its Shut
abbrev pub is_there : List Entry → Bool
is_there past = has_begun past && not (list_any is_shut past)

-- the reasons of a bind_nak: the group takes no further connection; there is no such group
abbrev pub at_limit : ℕ
at_limit = 2

abbrev pub no_group : ℕ
no_group = 0

abbrev pub by_limit : Option JoinLimit → Option ℕ
by_limit None = None
by_limit (Some limit) = Some at_limit

-- why a bind is refused; one that asks for a new group isn't
abbrev pub bind_refusal : List Entry → ℕ → Option ℕ
bind_refusal past asked = if asked == 0 then None else (if is_there past then by_limit (join_limit (journal past)) else Some no_group)

-- the number of the connection that joins next
abbrev pub next_conn : List Entry → ℕ
next_conn past = join_count (journal past) + 1

abbrev pub joined : List Entry → List Entry
joined past = Join (next_conn past) ∷ past

-- an entry comes, and the Shut where it is then due
abbrev pub Enters : List Entry → Entry → List Entry → Type 0
Enters past e new = (rest : Rest) × Settles (journal past) e rest (journal new)

-- a connection leaves where it joined
abbrev pub Leaves : Option ℕ → List Entry → List Entry → Type 0
Leaves None past new = new ≡ past
Leaves (Some c) past new = Enters past (Leave c) new

-- ---- calls

-- a call is over once it neither waits nor runs
abbrev pub is_over : List Entry → ℕ → Bool
is_over past k = not (waits (journal past) k || runs (journal past) k)

abbrev pub IsAccepted : List Entry → Asked → ℕ → List Entry → Type 0
IsAccepted past a k new = Accepts (journal past) a (Ok k) (journal new)

-- it is cancelled or orphaned, whatever has become of it
abbrev pub IsCancelled : List Entry → ℕ → List Entry → Type 0
IsCancelled past k new = (answer : Cancelled) × Cancels (journal past) k answer (journal new)

abbrev pub IsOrphaned : List Entry → ℕ → List Entry → Type 0
IsOrphaned past k new = (answer : Orphaned) × Orphans (journal past) k answer (journal new)
