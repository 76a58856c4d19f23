-- Links are given back to a door.
use Rattle.std.specs.Prelude.{◌≡◌, ℕ, ◌≤◌, Option, Some, None, List, ◌++◌, length, map, ⊤}
use Rattle.std.specs.Option.{option_map}
use Rattle.rpc_outside.specs.Doors.{DoorShown}
use Rattle.server_rounds.specs.declared.settled.Settled.{Settled}

abbrev pub IsAtLeast : ℕ → Option ℕ → Type 0
IsAtLeast n None = ⊤
IsAtLeast n (Some out) = n ≤ out

module _ {K : Type 0} where
  -- the links of connections that are over
  abbrev pub links_in : List (Settled K) → List K
  links_in finished = map (λ c. c.link) finished

  -- as far as the door tells, so many links are out
  abbrev pub AreOut : List (Settled K) → DoorShown K → Type 0
  AreOut finished a = IsAtLeast (length finished) a.out

  -- these links were given back, in their order
  pub record TakesBack (a : DoorShown K) (links : List K) (b : DoorShown K) : Type 0 where
    pub faults : b.faults ≡ a.faults
    pub closings : a.closings ≤ b.closings
    pub listens : b.listens ≡ a.listens
    pub to_come : b.to_come ≡ a.to_come
    pub back : b.back ≡ option_map (λ old. old ++ links) a.back
