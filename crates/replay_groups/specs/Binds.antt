-- What a bind comes to: the group that it asks for is opened or joined, or the bind is refused.
use Rattle.std.specs.Prelude.{◌≡◌, ℕ, None, Some, Result, Ok, Err, List, [], ⊤}
use Rattle.handle_model.specs.declared.entry.Entry.{Entry}
use Rattle.group_core.specs.declared.answer.JoinRefusal.{JoinRefusal}
use Rattle.group_core.specs.declared.answer.JoinRefusal.TheVariants as joining
use Rattle.replay_world.specs.declared.peer.Member.{Member}
use Rattle.replay_world.specs.Worlds.{World}
use Rattle.replay_world.specs.Groups.{at_limit, bind_refusal, member_for, joined}
use Rattle.replay_groups.specs.declared.opening.OpenRefusal.{OpenRefusal}
use Rattle.replay_groups.specs.declared.opening.OpenRefusal.TheVariants as opening
use Rattle.replay_groups.specs.Keeps.{GroupsView, Keeps}
use Rattle.replay_groups.specs.declared.binding.BindRefusal.{BindRefusal}
use Rattle.replay_groups.specs.declared.binding.BindRefusal.TheVariants.{Refused, Memory}

-- the groups keep some journals
abbrev pub AreKept : GroupsView → Type 0
AreKept x = (pasts : List (List Entry)) × Keeps x pasts

-- a moment of a replay, of which the server's boot word and the groups alone are told
abbrev pub moment : ℕ → List (List Entry) → World ⊤
moment boot pasts = record { boot = boot; peers = []; groups = pasts; desks = tt; out = [] }

-- the connection is that member of the group, which it opened or joined
pub record Joins (w : World ⊤) (asked : ℕ) (member : Member) (y : GroupsView) : Type 0 where
  pub allowed : bind_refusal w asked ≡ None
  pub member_is : member ≡ member_for w asked
  pub keeps : Keeps y (joined w asked).groups

-- In whatever way it is refused, the groups keep the same journals.
abbrev pub BindsAt : List (List Entry) → World ⊤ → ℕ → Result Member BindRefusal → GroupsView → Type 0
BindsAt pasts w asked (Ok member) y = Joins w asked member y
BindsAt pasts w asked (Err (Refused reason)) y = (bind_refusal w asked ≡ Some reason) × Keeps y pasts
BindsAt pasts w asked (Err Memory) y = Keeps y pasts

abbrev pub Binds : GroupsView → ℕ → Result Member BindRefusal → GroupsView → Type 0
Binds x asked result y = (y.boot ≡ x.boot) × ((pasts : List (List Entry)) → Keeps x pasts → BindsAt pasts (moment x.boot pasts) asked result y)

-- what a bind is answered where a group was to be opened, and where that of an id was to be joined
abbrev pub by_opening : Result ℕ OpenRefusal → Result Member BindRefusal
by_opening (Ok g) = Ok (record { group = g; number = 1 })
by_opening (Err opening.Full) = Err (Refused at_limit)
by_opening (Err opening.Memory) = Err Memory

abbrev pub by_joining : ℕ → Result ℕ JoinRefusal → Result Member BindRefusal
by_joining g (Ok number) = Ok (record { group = g; number = number })
by_joining g (Err joining.TooMany) = Err (Refused at_limit)
by_joining g (Err joining.Numbers) = Err (Refused at_limit)
by_joining g (Err joining.Memory) = Err Memory
