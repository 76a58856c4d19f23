-- What the connections of a round had their manager do, in chains of the manager's passes.
use Rattle.std.specs.Prelude.{◌≡◌, ℕ, Bool, List, [], ◌∷◌, ⊤}
use Rattle.std.specs.List.{AllByRecursion}
use Rattle.handle_model.specs.declared.entry.DueItem.{DueItem}
use Rattle.ndr_table.specs.Tables.{TableForm}
use Rattle.manager_api.specs.Answers.{Ans}
use Rattle.manager_api.specs.Calls.{Call}
use Rattle.group_hub.specs.declared.hub.Hub.{Hub}
use Rattle.group_hub.specs.declared.pass.Pass.{Pass}
use Rattle.server_calls.specs.Chains.{Takes, StartsFrom}
use Rattle.server_run.specs.Deeds.{HadIn}
use Rattle.server_rounds.specs.declared.running.Ended.{Ended}
use Rattle.server_rounds.specs.declared.running.Place.{Place}
use Rattle.server_rounds.specs.declared.running.Place.TheVariants.{There, Here}
use Rattle.server_rounds.specs.declared.running.Promised.{Promised}
use Rattle.server_rounds.specs.declared.running.Running.{Running}
use Rattle.server_rounds.specs.declared.serving.Serving.{Serving}
use Rattle.server_rounds.specs.declared.settled.Settled.{Settled}

module _ {S K P : Type 0} (tables : S → List TableForm) (is_pass : S → P → Type 0) (enters : S → P → Call → Bool → Ans → P → Type 0) (runs_down : S → P → DueItem → P → Type 0)
    (splits joins : S → P → P → P → Type 0) where
  -- ---- a connection that is being served

  -- behind what a connection entered since it began stand the deeds by which the manager's pass became the last
  abbrev pub KeepsHad : Promised S K P → Ended K P → Type 0
  KeepsHad p e =
      is_pass p.service.value e.desks
      × HadIn tables enters runs_down splits joins p.service.value p.hub.value.boot e.finished.joined p.began.value p.desks.value e.finished.pass e.desks

  abbrev pub WillKeepHad : Place S K P → Promised S K P → Type 0
  WillKeepHad (There handle) p = (e : Ended K P) → KeepsHad handle.promise e → KeepsHad p e
  WillKeepHad (Here e) p = KeepsHad p e

  -- its pass of the manager was split off that of the round, which was the first once
  pub record IsRunningHad (service : S) (boot : ℕ) (first : P) (r : Running S K P) : Type 0 where
    pub service_is : r.promise.service.value ≡ service
    pub boot_is : r.promise.hub.value.boot ≡ boot
    pub starts : StartsFrom (splits service) (joins service) first r.promise.desks.value
    pub kept : WillKeepHad r.place r.promise

-- ---- and those that are over

module _ {S P : Type 0} (tables : S → List TableForm) (enters : S → P → Call → Bool → Ans → P → Type 0) (runs_down : S → P → DueItem → P → Type 0) (splits joins : S → P → P → P → Type 0)
    (service : S) (boot : ℕ) where
  -- The connection got a pass that was split off the round's, and gave back the last: by the deeds behind its entries the one
  -- became the other.
  pub record IsDealt {K : Type 0} (first : P) (c : Settled K) (last : P) : Type 0 where
    pub began : P
    pub starts : StartsFrom (splits service) (joins service) first began
    pub had : HadIn tables enters runs_down splits joins service boot c.joined c.began.value began c.pass.value last

  abbrev pub AreDealt : {K : Type 0} → P → List (Settled K) → List P → Type 0
  AreDealt first [] [] = ⊤
  AreDealt first (c ∷ cs) (last ∷ lasts) = IsDealt first c last × AreDealt first cs lasts
  AreDealt first _ _ = ⊥

  -- the round's pass, which was the first, has taken in what each of them gave back, in their order
  pub record RoundHad {K : Type 0} (first : P) (finished : List (Settled K)) (now : P) : Type 0 where
    pub lasts : List P
    pub dealt : AreDealt first finished lasts
    pub takes : Takes (splits service) (joins service) first lasts now

module _ {S K P : Type 0} (tables : S → List TableForm) (is_pass : S → P → Type 0) (enters : S → P → Call → Bool → Ans → P → Type 0) (runs_down : S → P → DueItem → P → Type 0)
    (splits joins : S → P → P → P → Type 0) (h : Hub) where
  -- a round in the middle
  pub record ServingHad (st : Serving S K P) : Type 0 where
    pub pass : is_pass st.service.value st.desks
    pub round : RoundHad tables enters runs_down splits joins st.service.value h.boot st.first_desks.value st.finished.items st.desks
    pub served : AllByRecursion (IsRunningHad tables is_pass enters runs_down splits joins st.service.value h.boot st.first_desks.value) st.running.items
