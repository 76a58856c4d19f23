-- What a connection that was served came to.
use Rattle.std.specs.Prelude.{ℕ, ◌<◌, ◌^◌, Bool, Option, Some, None, List, ⊤}
use Rattle.rpc_outside.specs.Links.{Shown, IsNew}
use Rattle.ndr_table.specs.Tables.{TableForm}
use Rattle.manager_api.specs.Answers.{Ans}
use Rattle.manager_api.specs.Calls.{Call}
use Rattle.group_hub.specs.declared.hub.Hub.{Hub}
use Rattle.group_hub.specs.declared.pass.Pass.{Pass}
use Rattle.group_hub.specs.Passes.{IsPassOf}
use Rattle.server_ends.specs.declared.ended.Finished.{Finished}
use Rattle.server_ends.specs.Finishes.{Finishes}
use Rattle.server_rounds.specs.declared.settled.Settled.{Settled}
use Rattle.server_rounds.specs.Passes.{StartsFrom}

-- what it came to, with its pass
abbrev pub finished_of : {K : Type 0} → Settled K → Finished K
finished_of c = record { link = c.link; pass = c.pass.value; joined = c.joined; ending = c.ending; retired = c.retired }

-- the ids of groups, and the numbers of connections in them, have 32 bits
abbrev pub AreNumbers : Option (ℕ × ℕ) → Type 0
AreNumbers None = ⊤
AreNumbers (Some (g, c)) = (g < 2 ^ 32) × (c < 2 ^ 32)

module _ {K : Type 0} (shows : K → Shown) (may : Call → Bool → Ans → Type 0) (tables : List TableForm) (h : Hub) where
  -- the connection of a link was served at the hub, with that pass
  pub record IsServed (began : Pass) (link : K) (r : Finished K) : Type 0 where
    pub pass : IsPassOf h r.pass
    pub finishes : Finishes shows may tables h.boot began (shows link) r

  -- Its link was new, and its pass had seen what p had and had entered nothing.
  pub record IsSettled (p : Pass) (c : Settled K) : Type 0 where
    pub new : IsNew (shows c.came.value)
    pub starts : StartsFrom p c.began.value
    pub served : IsServed c.began.value c.came.value (finished_of c)
    pub numbers : AreNumbers c.joined
