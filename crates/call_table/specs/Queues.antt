-- The queues that calls stand in, one after the other.
use Rattle.std.specs.Prelude.{◌≡◌, ℕ, ◌+◌, ◌<◌, ◌≤◌, ◌%◌, Bool, true, false, ◌||◌, min, Option, Some, None, List, [], ◌∷◌, ◌++◌, length, map, slice_index_or}
use Rattle.std.specs.VecDeque.{deque_len, deque_capacity}
use Rattle.std.specs.declared.collections.VecDeque.{VecDeque}
use Rattle.std.specs.declared.alloc.Global.{Global}
use Rattle.rpc_base.specs.declared.identifiers.WireHandle.{WireHandle}
use Rattle.handle_model.specs.declared.entry.Slot.{Slot}
use Rattle.handle_model.specs.Slots.{named}
use Rattle.wait_list.specs.declared.node.Ticket.{Ticket}
use Rattle.wait_list.specs.Waiting.{Standing, Waiting, TicketsDiffer, some_of, has}
use Rattle.call_table.specs.declared.row.Row.{Row}
use Rattle.call_table.specs.declared.blocks.Blockers.{Blockers}
use Rattle.call_table.specs.declared.blocks.Blockers.TheVariants.{Running, WaitingBelow}
use Rattle.call_table.specs.Rows.{blocks_running, blocks_waiting}

-- THE QUEUE OF A HANDLE

-- one of 64, by the last bits of its identifier
abbrev pub queue_of : Option WireHandle → Option ℕ
queue_of None = None
queue_of (Some w) = Some (w.id % 64)

-- of the handle that a slot names
abbrev pub queue_in : Option Slot → Option ℕ
queue_in None = None
queue_in (Some s) = queue_of (named s)

-- the queues of all handles that a call names, and of the first four
abbrev pub queues_of : List Slot → List ℕ
queues_of [] = []
queues_of (s ∷ ss) = some_of (queue_of (named s)) ++ queues_of ss

-- THE CALLS IN THEM

-- a call, and the numbers of its queues
pub record QueuedCall : Type 0 where
  pub call : ℕ
  pub queues : List ℕ

-- the calls in order, and how many more may come before memory is taken
pub record QueuedCalls : Type 0 where
  pub calls : List QueuedCall
  pub room : ℕ

-- the call of a node, and of a row
abbrev pub queued_at : Standing → QueuedCall
queued_at n = record { call = n.call; queues = n.queues }

abbrev pub queued : Row → QueuedCall
queued r = record { call = r.call; queues = queues_of r.slots }

-- the call is in this queue
abbrev pub is_in : ℕ → QueuedCall → Bool
is_in q c = has q c.queues

-- where a walk goes on, after a place
abbrev pub after_place : Option ℕ → ℕ
after_place None = 0
after_place (Some i) = i + 1

-- none from place i on, and before place j, is in the queue
abbrev pub NoneIn : ℕ → List QueuedCall → ℕ → ℕ → Type 0
NoneIn q calls i j = (n : ℕ) (d : QueuedCall) → i ≤ n → n < j → is_in q (slice_index_or calls n d) ≡ false

-- there the call of that number is in the queue
pub record IsIn (q : ℕ) (calls : List QueuedCall) (k i : ℕ) : Type 0 where
  pub within : i < length calls
  pub here : (d : QueuedCall) → (slice_index_or calls i d).call ≡ k
  pub inside : (d : QueuedCall) → is_in q (slice_index_or calls i d) ≡ true

-- the first from place i on, or there is none
abbrev pub IsNext : ℕ → List QueuedCall → ℕ → Option ℕ → Type 0
IsNext q calls i None = NoneIn q calls i (length calls)
IsNext q calls i (Some k) = (j : ℕ) × (i ≤ j) × IsIn q calls k j × NoneIn q calls i j

-- each call has a ticket, and there are a node and a queue for each that may yet come
pub record IsTicketed (waits : Waiting) (tickets : VecDeque Ticket Global) (room : ℕ) : Type 0 where
  pub tickets_are : tickets.items ≡ map (λ (n : Standing). n.ticket) waits.nodes
  pub differ : TicketsDiffer waits.nodes
  pub places : deque_len tickets + room ≤ deque_capacity tickets
  pub spare : room ≤ waits.spare
  pub queues : 0 < deque_len tickets + room → 64 ≤ waits.queues

-- the ticket at a place, where there is one
abbrev pub TicketAt : List Ticket → Option ℕ → Option Ticket → Type 0
TicketAt tickets None t = t ≡ None
TicketAt tickets (Some i) t = (u : Ticket) × (t ≡ Some u) × (u ≡ slice_index_or tickets i u)

-- they are the calls of the rows, and there is room for as many more
pub record IsQueued (rows : List Row) (queues : QueuedCalls) (room : ℕ) : Type 0 where
  pub calls_are : queues.calls ≡ map queued rows
  pub enough : room ≤ queues.room

-- WHAT STANDS IN THE WAY

-- a call that clashes with these slots
abbrev pub blocks : Blockers → List Slot → Row → Bool
blocks Running ss r = blocks_running ss r
blocks (WaitingBelow k) ss r = blocks_waiting ss k r

-- the call is in the queue of a handle, and in one of those that these slots name
abbrev pub shares_one : Option ℕ → Row → Bool
shares_one None r = false
shares_one (Some q) r = is_in q (queued r)

abbrev pub shares : List Slot → Row → Bool
shares [] r = false
shares (s ∷ ss) r = shares_one (queue_of (named s)) r || shares ss r

-- the least of two numbers, where there is one
abbrev pub least_of : Option ℕ → Option ℕ → Option ℕ
least_of None o = o
least_of (Some n) None = Some n
least_of (Some n) (Some m) = Some (min n m)
