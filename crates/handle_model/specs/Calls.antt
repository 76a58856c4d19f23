-- Which connections of a journal are open, which calls wait and run, and which are in conflict.
use Rattle.std.specs.Prelude.{ℕ, Bool, false, ◌&&◌, not, ◌==◌, nat_lt, min, Option, Some, None, if◌then◌else◌, List, [], ◌∷◌, ◌++◌, filter, reverse, is_some}
use Rattle.std.specs.List.{list_any, filter_map}
use Rattle.std.specs.Option.{option_or}
use Rattle.handle_model.specs.declared.entry.Slot.{Slot}
use Rattle.handle_model.specs.declared.entry.Asked.{Asked}
use Rattle.handle_model.specs.declared.entry.Entry.{Entry}
use Rattle.handle_model.specs.declared.entry.Entry.TheVariants.{Accept}
use Rattle.handle_model.specs.declared.base.Base.{Base}
use Rattle.handle_model.specs.Slots.{clash}
use Rattle.handle_model.specs.Since.{History, any_since, count_since}
use Rattle.handle_model.specs.Entries.{joins, leaves, takes, cancels, orphans, ends, decides, is_join, is_accept, joined_in, accepted_in, taken_in}
use Rattle.handle_model.specs.Bases.{has_conn, asked_before, taken_before, cancelled_before, orphaned_before, taken_calls, numbers_of}

-- CONNECTIONS

-- how many joined; the base's conns and those with a Join, the newest first
abbrev pub join_count : History → ℕ
join_count j = count_since j.base.joins is_join j.past

abbrev pub joined : History → List ℕ
joined j = filter_map joined_in j.past ++ reverse j.base.conns

-- in the base's conns, or with a Join
abbrev pub has_joined : History → ℕ → Bool
has_joined j c = any_since (has_conn j.base c) (joins c) j.past

-- and with no Leave
abbrev pub is_open : History → ℕ → Bool
is_open j c = has_joined j c && not (list_any (leaves c) j.past)

abbrev pub conns : History → List ℕ
conns j = filter (is_open j) (joined j)

-- CALLS

-- how many were accepted; the base's calls and those with an Accept, the newest first; the same of those that were taken
abbrev pub accept_count : History → ℕ
accept_count j = count_since j.base.accepts is_accept j.past

abbrev pub accepted : History → List ℕ
accepted j = filter_map accepted_in j.past ++ reverse (numbers_of j.base.calls)

abbrev pub taken : History → List ℕ
taken j = filter_map taken_in j.past ++ reverse (numbers_of (taken_calls j.base))

-- what call k asked, in its Accept or in the base
abbrev pub asked_since : Base → List Entry → ℕ → Option Asked
asked_since base [] k = asked_before base k
asked_since base (Accept m a ∷ past) k = if m == k then Some a else asked_since base past k
asked_since base (_ ∷ past) k = asked_since base past k

abbrev pub asked : History → ℕ → Option Asked
asked j k = asked_since j.base j.past k

abbrev pub slots_in : Option Asked → List Slot
slots_in None = []
slots_in (Some a) = a.slots

abbrev pub slots : History → ℕ → List Slot
slots j k = slots_in (asked j k)

-- the connection of what was asked has a Leave
abbrev pub has_left : History → Option Asked → Bool
has_left j None = false
has_left j (Some a) = list_any (leaves a.conn) j.past

-- with a Take, Deny, Cancel or Orphan, or taken in the base
abbrev pub is_decided : History → ℕ → Bool
is_decided j k = any_since (taken_before j.base k) (decides k) j.past

-- with a Take, or taken in the base
abbrev pub is_taken : History → ℕ → Bool
is_taken j k = any_since (taken_before j.base k) (takes k) j.past

-- with a Cancel and with an Orphan, or marked so in the base
abbrev pub is_cancelled : History → ℕ → Bool
is_cancelled j k = any_since (cancelled_before j.base k) (cancels k) j.past

abbrev pub is_orphaned : History → ℕ → Bool
is_orphaned j k = any_since (orphaned_before j.base k) (orphans k) j.past

-- a call that was accepted and is not decided, and whose connection has not left
abbrev pub waits : History → ℕ → Bool
waits j k = is_some (asked j k) && not (has_left j (asked j k)) && not (is_decided j k)

-- a call that was taken and has not ended
abbrev pub runs : History → ℕ → Bool
runs j k = is_taken j k && not (list_any (ends k) j.past)

abbrev pub waiting : History → List ℕ
waiting j = filter (waits j) (accepted j)

abbrev pub running : History → List ℕ
running j = filter (runs j) (taken j)

-- CONFLICTS

abbrev pub lesser : ℕ → Option ℕ → Option ℕ
lesser n None = Some n
lesser n (Some m) = Some (min n m)

abbrev pub least : List ℕ → Option ℕ
least [] = None
least (n ∷ ns) = lesser n (least ns)

abbrev pub any_clash : List Slot → List Slot → Bool
any_clash xs ys = list_any (λ x. list_any (clash x) ys) xs

-- a slot of k and a slot of m name one handle, and one of the two uses at least is exclusive
abbrev pub conflict : History → ℕ → ℕ → Bool
conflict j k m = any_clash (slots j k) (slots j m)

abbrev pub running_blocker : History → ℕ → Option ℕ
running_blocker j k = least (filter (conflict j k) (running j))

abbrev pub waiting_blocker : History → ℕ → Option ℕ
waiting_blocker j k = least (filter (λ m. nat_lt m k && conflict j k m) (waiting j))

-- the least running call in conflict with k, else the least waiting one below k
abbrev pub blocker : History → ℕ → Option ℕ
blocker j k = option_or (running_blocker j k) (waiting_blocker j k)
