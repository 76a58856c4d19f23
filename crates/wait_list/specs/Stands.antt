-- In which queues a node is.
use Rattle.std.specs.Prelude.{ℕ, zero, suc, ◌<◌, Bool, true, false, cond, Option, Some, None, List, [], ◌∷◌, length}
use denote.RawPtr.{Ptr}
use Rattle.wait_list.specs.declared.node.Membership.{Membership}
use Rattle.wait_list.specs.declared.node.Membership.TheVariants.{In, Idle}
use Rattle.wait_list.specs.declared.node.Ticket.{Ticket}
use Rattle.wait_list.specs.declared.queue.Queue.{Queue}
use Rattle.wait_list.specs.Linked.{Linked, linked, IsAt}

abbrev pub ticket_at : Ptr → Ticket
ticket_at p = record { at = record { ptr = p } }

-- whether two numbers are equal, by their cases
abbrev pub is_same : ℕ → ℕ → Bool
is_same zero zero = true
is_same zero (suc n) = false
is_same (suc m) zero = false
is_same (suc m) (suc n) = is_same m n

-- what queue k has of one of the links of the node of a ticket
abbrev pub member_in : ℕ → Ticket → Membership → List (Linked (Option Ticket))
member_in k t (In q p) = cond (is_same q k) (linked p.ptr (Some t) ∷ []) []
member_in k t (Idle r) = []

-- the number of the queue that a link is in
abbrev pub number_of : Membership → Option ℕ
number_of (In q p) = Some q
number_of (Idle r) = None

-- the links of queue k; of a queue that there is not, none
abbrev pub links_at : List Queue → ℕ → List (Linked (Option Ticket))
links_at [] k = []
links_at (q ∷ qs) zero = q.ring.nodes
links_at (q ∷ qs) (suc k) = links_at qs k

-- a link that is in a queue is one of that queue's links
abbrev pub CanLeave : List Queue → Membership → Type 0
CanLeave qs (In q p) = (q < length qs) × IsAt (links_at qs q) p.ptr
CanLeave qs (Idle r) = Unit {0}
