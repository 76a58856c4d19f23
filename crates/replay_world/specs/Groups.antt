-- What comes into the journals of groups: which group a connection joins, and each entry by what its group says of it.
use Rattle.std.specs.Prelude.{◌≡◌, ℕ, ◌+◌, ◌^◌, ◌==◌, nat_le, Bool, true, false, ◌||◌, Option, Some, None, Ok, if◌then◌else◌, List, [], ◌∷◌, ◌++◌, length}
use Rattle.handle_model.specs.declared.entry.Asked.{Asked}
use Rattle.handle_model.specs.declared.entry.Entry.{Entry}
use Rattle.handle_model.specs.declared.entry.Entry.TheVariants.{Join, Take}
use Rattle.handle_model.specs.declared.limits.JoinLimit.{JoinLimit}
use Rattle.handle_model.specs.History.{History}
use Rattle.handle_model.specs.Journal.{join_count}
use Rattle.handle_model.specs.Limits.{join_limit}
use Rattle.conn_histories.specs.Tales.{whole}
use Rattle.group_core.specs.declared.answer.Cancelled.{Cancelled}
use Rattle.group_core.specs.declared.answer.Orphaned.{Orphaned}
use Rattle.group_core.specs.declared.answer.Rest.{Rest}
use Rattle.group_core.specs.Calls.{Accepts, Cancels, Orphans}
use Rattle.group_core.specs.Conns.{Settles}
use Rattle.replay_world.specs.declared.peer.Member.{Member}
use Rattle.replay_world.specs.Services.{Service, RunsDown}
use Rattle.replay_world.specs.Worlds.{World, home_of, past_of, journal, with_past, is_open_group, open_groups}

-- WHICH GROUP A CONNECTION JOINS

-- how many groups may be open
abbrev pub most_groups : ℕ
most_groups = 1024

-- no further group is opened: so many are open, or no id is left
abbrev pub is_full : {S : Type 0} → World S → Bool
is_full w = nat_le most_groups (open_groups w) || nat_le (2 ^ 32) (length w.groups + 1)

-- the reason of a bind_nak where a group, or the server, has reached a limit, and where there is no such group
abbrev pub at_limit : ℕ
at_limit = 2

abbrev pub no_group : ℕ
no_group = 0

abbrev pub by_limit : Option JoinLimit → Option ℕ
by_limit None = None
by_limit (Some limit) = Some at_limit

-- why a bind that asks for a new group is refused, and one that asks for the group of an id
abbrev pub refusal_new : {S : Type 0} → World S → Option ℕ
refusal_new w = if is_full w then Some at_limit else None

abbrev pub refusal_known : {S : Type 0} → World S → ℕ → Option ℕ
refusal_known w g = if is_open_group w g then by_limit (join_limit (journal w g)) else Some no_group

abbrev pub bind_refusal : {S : Type 0} → World S → ℕ → Option ℕ
bind_refusal w asked = if asked == 0 then refusal_new w else refusal_known w asked

-- else it is the next group, or the one of that id
abbrev pub group_for : {S : Type 0} → World S → ℕ → ℕ
group_for w asked = if asked == 0 then length w.groups + 1 else asked

abbrev pub with_group_for : {S : Type 0} → World S → ℕ → World S
with_group_for w asked = if asked == 0 then record w { groups = w.groups ++ [] ∷ [] } else w

-- which the connection joins, with the next number there
abbrev pub next_conn : {S : Type 0} → World S → ℕ → ℕ
next_conn w g = join_count (journal w g) + 1

abbrev pub joined_in : {S : Type 0} → World S → ℕ → World S
joined_in w g = with_past w g (Join (next_conn w g) ∷ past_of w g)

abbrev pub joined : {S : Type 0} → World S → ℕ → World S
joined w asked = joined_in (with_group_for w asked) (group_for w asked)

abbrev pub member_for : {S : Type 0} → World S → ℕ → Member
member_for w asked = record { group = group_for w asked; number = next_conn (with_group_for w asked) (group_for w asked) }

-- the cookies with which a call was taken
abbrev pub taken_with : List Entry → ℕ → Option (List (Option ℕ))
taken_with [] k = None
taken_with (Take m cookies ∷ past) k = if m == k then Some cookies else taken_with past k
taken_with (_ ∷ past) k = taken_with past k

-- WHAT IS ENTERED

-- The journal of a group goes on as its group says, and nothing else changes.
abbrev pub GoesOn : {S : Type 0} → (History → History → Type 0) → World S → ℕ → World S → Type 0
GoesOn Says w g v = (past : List Entry) × Says (journal w g) (whole (home_of w g) past) × (v ≡ with_past w g past)

-- a call is accepted, with that number
abbrev pub AcceptsIn : {S : Type 0} → World S → ℕ → Asked → ℕ → World S → Type 0
AcceptsIn w g a k v = GoesOn (λ old new. Accepts old a (Ok k) new) w g v

-- it is cancelled or orphaned, whatever has become of it
abbrev pub CancelsIn : {S : Type 0} → World S → ℕ → ℕ → World S → Type 0
CancelsIn w g k v = GoesOn (λ old new. (answer : Cancelled) × Cancels old k answer new) w g v

abbrev pub OrphansIn : {S : Type 0} → World S → ℕ → ℕ → World S → Type 0
OrphansIn w g k v = GoesOn (λ old new. (answer : Orphaned) × Orphans old k answer new) w g v

-- a call whose request was marked is cancelled at once
abbrev pub CancelsMarked : {S : Type 0} → Bool → World S → ℕ → ℕ → World S → Type 0
CancelsMarked true w g k v = CancelsIn w g k v
CancelsMarked false w g k v = v ≡ w

-- An entry comes, and the Shut where it is then due. What that lists is run down, in order.
pub record SettlesIn (service : Service) (w : World service.State) (g : ℕ) (e : Entry) (v : World service.State) : Type 0 where
  pub past : List Entry
  pub rest : Rest
  pub settles : Settles (journal w g) e rest (whole (home_of w g) past)
  pub desks : service.State
  pub runs_down : RunsDown service w.desks rest desks
  pub after : v ≡ record (with_past w g past) { desks = desks }
