-- A list as callers see it, and what it keeps.
use Rattle.std.specs.Prelude.{◌≡◌, ℕ, ◌+◌, ◌<◌, ◌≤◌, Bool, true, false, cond, Option, Some, None, List, [], ◌∷◌, ◌++◌, length, IfSome, MatchOption}
use Rattle.std.specs.List.{AllByRecursion}
use denote.RawPtr.{Ptr}
use Rattle.wait_list.specs.declared.node.Node.{Node}
use Rattle.wait_list.specs.declared.node.Queues.{Queues}
use Rattle.wait_list.specs.declared.node.Ticket.{Ticket}
use Rattle.wait_list.specs.declared.queue.Queue.{Queue}
use Rattle.wait_list.specs.Linked.{Linked}
use Rattle.wait_list.specs.Stands.{is_same, member_in, number_of, links_at, ticket_at}

-- FOR CALLERS

-- a node: its ticket, its call, and the numbers of its queues
pub record Standing : Type 0 where
  pub ticket : Ticket
  pub call : ℕ
  pub queues : List ℕ

-- the nodes in order, how many more may be pushed before memory is taken, and how many queues there are
pub record Waiting : Type 0 where
  pub nodes : List Standing
  pub spare : ℕ
  pub queues : ℕ

-- nothing, where no memory was taken
abbrev pub waiting_in : Option Waiting → Waiting
waiting_in None = record { nodes = []; spare = 0; queues = 0 }
waiting_in (Some w) = w

-- a node of that ticket is in the list
abbrev pub StandsAt : List Standing → Ticket → Type 0
StandsAt ns t = (xs : List Standing) × (n : Standing) × (ys : List Standing) × (ns ≡ xs ++ n ∷ ys) × (n.ticket ≡ t)

-- P holds of the nodes before that of the ticket, of that one, and of the nodes after it
abbrev pub AtTicket : List Standing → Ticket → (List Standing → Standing → List Standing → Type 0) → Type 0
AtTicket ns t P = (xs : List Standing) (n : Standing) (ys : List Standing) → ns ≡ xs ++ n ∷ ys → n.ticket ≡ t → P xs n ys

-- each ticket is that of one node: where two cuts are at one ticket, they are the same cut
abbrev pub TicketsDiffer : List Standing → Type 0
TicketsDiffer ns =
    (xs : List Standing) (m : Standing) (ys us : List Standing) (n : Standing) (vs : List Standing)
    → ns ≡ xs ++ m ∷ ys → ns ≡ us ++ n ∷ vs → m.ticket ≡ n.ticket → (xs ≡ us) × (m ≡ n) × (ys ≡ vs)

-- whether a queue is among the numbers
abbrev pub has : ℕ → List ℕ → Bool
has q [] = false
has q (k ∷ ks) = cond (is_same k q) true (has q ks)

-- a node of that ticket is in the list and in the queue
abbrev pub StandsIn : List Standing → ℕ → Ticket → Type 0
StandsIn ns q t = (xs : List Standing) × (n : Standing) × (ys : List Standing) × (ns ≡ xs ++ n ∷ ys) × (n.ticket ≡ t) × (has q n.queues ≡ true)

-- the ticket of the first node, and of the first that is in a queue
abbrev pub front_of : List Standing → Option Ticket
front_of [] = None
front_of (n ∷ ns) = Some n.ticket

abbrev pub first_in : ℕ → List Standing → Option Ticket
first_in q [] = None
first_in q (n ∷ ns) = cond (has q n.queues) (Some n.ticket) (first_in q ns)

abbrev pub some_of : Option ℕ → List ℕ
some_of None = []
some_of (Some k) = k ∷ []

-- the numbers of at most four queues, in order
abbrev pub numbers : Option ℕ → Option ℕ → Option ℕ → Option ℕ → List ℕ
numbers a b c d = some_of a ++ (some_of b ++ (some_of c ++ some_of d))

abbrev pub numbers_of : Queues → List ℕ
numbers_of q = numbers q.a q.b q.c q.d

abbrev pub AreBelow : Queues → ℕ → Type 0
AreBelow q n = IfSome q.a (λ k. k < n) × IfSome q.b (λ k. k < n) × IfSome q.c (λ k. k < n) × IfSome q.d (λ k. k < n)

-- KEPT

-- the links that queue k has of a node, and of all
abbrev pub links_of_node : ℕ → Ticket → Node → List (Linked (Option Ticket))
links_of_node k t n = member_in k t n.a ++ (member_in k t n.b ++ (member_in k t n.c ++ member_in k t n.d))

abbrev pub links_in : ℕ → Ptr → Option Node → List (Linked (Option Ticket))
links_in k p None = []
links_in k p (Some n) = links_of_node k (ticket_at p) n

abbrev pub links_of : ℕ → List (Linked (Option Node)) → List (Linked (Option Ticket))
links_of k [] = []
links_of k (n ∷ ns) = links_in k n.at n.val ++ links_of k ns

abbrev pub standing_as : Ptr → Option Node → Standing
standing_as p None = record { ticket = ticket_at p; call = 0; queues = [] }
standing_as p (Some n) = record { ticket = ticket_at p; call = n.call; queues = numbers (number_of n.a) (number_of n.b) (number_of n.c) (number_of n.d) }

abbrev pub standing : Linked (Option Node) → Standing
standing n = standing_as n.at n.val

abbrev pub IsNode : Linked (Option Node) → Type 0
IsNode n = MatchOption n.val ⊥ (λ node. node.title.at ≡ n.at)

-- each queue has the links that its nodes say, each node can be given back, and the list of free nodes has room for all
pub record IsKept (ns : List (Linked (Option Node))) (qs : List Queue) (spare room made : ℕ) : Type 0 where
  pub links_are : (k : ℕ) → links_at qs k ≡ links_of k ns
  pub nodes_are : AllByRecursion IsNode ns
  pub made_is : spare + length ns ≡ made
  pub room_is : made ≤ room
