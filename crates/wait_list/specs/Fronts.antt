-- The first node of the list.
use Rattle.std.specs.Prelude.{Option, Some, None, List, [], ◌∷◌, IsSome}
use Rattle.std.specs.List.{AllByRecursion}
use Rattle.wait_list.specs.declared.node.Node.{Node}
use Rattle.wait_list.specs.declared.node.Ticket.{Ticket}
use Rattle.wait_list.specs.Linked.{Linked}

abbrev pub ticket_of_first : List (Linked (Option Node)) → Option Ticket
ticket_of_first [] = None
ticket_of_first (n ∷ ns) = Some (record { at = record { ptr = n.at } })

-- none of the links is the stop
abbrev pub IsFull : List (Linked (Option Node)) → Type 0
IsFull = AllByRecursion (λ n. IsSome n.val)
