-- A moment of a replay: the connections that were opened, the groups that were opened, what the desks keep, and what was
-- printed.
use Rattle.std.specs.Prelude.{ℕ, ◌-◌, ◌==◌, nat_lt, nat_le, Bool, not, ◌&&◌, Option, None, if◌then◌else◌, List, [], ◌∷◌, ◌++◌, length, filter, get_or, slice_set}
use Rattle.std.specs.List.{list_any, find}
use Rattle.rpc_base.specs.declared.identifiers.SyntaxId.{SyntaxId}
use Rattle.handle_model.specs.declared.entry.Home.{Home}
use Rattle.handle_model.specs.declared.entry.Entry.{Entry}
use Rattle.handle_model.specs.Entries.{is_shut}
use Rattle.handle_model.specs.History.{History}
use Rattle.conn_asks.specs.States.{ConnState, at_start}
use Rattle.conn_histories.specs.Histories.{Event}
use Rattle.conn_histories.specs.Tales.{whole}
use Rattle.replay_world.specs.declared.peer.Member.{Member}
use Rattle.replay_world.specs.declared.peer.Unanswered.{Unanswered}
use Rattle.replay_world.specs.declared.peer.Unanswered.TheVariants.{Nothing}
use Rattle.replay_world.specs.declared.peer.Standing.{Standing}
use Rattle.replay_world.specs.declared.peer.Standing.TheVariants.{Open}

-- A connection of the script: its name; what happened on it, in order, and the state that it is in since; its place in a
-- group, once it joined one; what waits there for the server's word; and whether it is there.
pub record Peer : Type 0 where
  pub name : ℕ
  pub events : List Event
  pub state : ConnState
  pub member : Option Member
  pub unanswered : Unanswered
  pub standing : Standing

-- What is printed: an answered PDU of a connection; that its call waits for another; that it has none to take, or to finish.
pub data Printed : Type 0 where
  Answered : ℕ → List ℕ → Printed
  Waits : ℕ → ℕ → Printed
  Idle : ℕ → Printed

-- The boot word of the server; the connections, by rising name; the entries of each group's journal, the newest first,
-- by the group's id, from 1; what the desks keep; and what was printed, in order. Nothing is folded here.
pub record World (S : Type 0) : Type 0 where
  pub boot : ℕ
  pub peers : List Peer
  pub groups : List (List Entry)
  pub desks : S
  pub out : List Printed

-- the server has a boot word
abbrev pub booted : {S : Type 0} → ℕ → S → World S
booted boot desks = record { boot = boot; peers = []; groups = []; desks = desks; out = [] }

-- ---- connections

-- a connection on which nothing happened
abbrev pub opened_peer : List SyntaxId → ℕ → Peer
opened_peer ids c = record { name = c; events = []; state = at_start ids; member = None; unanswered = Nothing; standing = Open }

abbrev pub is_named : ℕ → Peer → Bool
is_named c p = p.name == c

abbrev pub peer_at : {S : Type 0} → World S → ℕ → Option Peer
peer_at w c = find (is_named c) w.peers

-- in the place of the one with its name, or in its place in the order
abbrev pub put_peer : Peer → List Peer → List Peer
put_peer p [] = p ∷ []
put_peer p (q ∷ qs) = if p.name == q.name then p ∷ qs else (if nat_lt p.name q.name then p ∷ q ∷ qs else q ∷ put_peer p qs)

abbrev pub with_peer : {S : Type 0} → World S → Peer → World S
with_peer w p = record w { peers = put_peer p w.peers }

-- ---- groups

abbrev pub home_of : {S : Type 0} → World S → ℕ → Home
home_of w g = record { boot = w.boot; group = g }

abbrev pub past_of : {S : Type 0} → World S → ℕ → List Entry
past_of w g = get_or w.groups (g - 1) []

-- the whole journal of the group
abbrev pub journal : {S : Type 0} → World S → ℕ → History
journal w g = whole (home_of w g) (past_of w g)

abbrev pub with_past : {S : Type 0} → World S → ℕ → List Entry → World S
with_past w g past = record w { groups = slice_set w.groups (g - 1) past }

-- a group is open until its Shut
abbrev pub goes_on : List Entry → Bool
goes_on past = not (list_any is_shut past)

abbrev pub is_open_group : {S : Type 0} → World S → ℕ → Bool
is_open_group w g = nat_le 1 g && nat_le g (length w.groups) && goes_on (past_of w g)

abbrev pub open_groups : {S : Type 0} → World S → ℕ
open_groups w = length (filter goes_on w.groups)

-- ---- what is printed

abbrev pub printing : {S : Type 0} → World S → List Printed → World S
printing w lines = record w { out = w.out ++ lines }
