-- What chains of passes come to: which deeds of each service they tell of, and where these stand in its history.
use Rattle.std.specs.Prelude.{◌≡◌, ℕ, suc, ◌≤◌, ◌==◌, Bool, Some, List, [], ◌∷◌, ◌++◌, length, map, filter, slice_get, is_some}
use Rattle.std.specs.List.{AllByRecursion, flat_map}
use Rattle.store_manager.specs.Files.{Store}
use Rattle.epm_manager.specs.Entries.{EndpointMap}
use Rattle.turn_lock.specs.Histories.{StartsWith, AtMostOnce}
use Rattle.turn_lock.specs.Passes.{own}
use Rattle.server_calls.specs.Chains.{Deed, answered, ran_down, Chain, Takes, StartsFrom}
use Rattle.desk_told.specs.Deeds.{DeedForm, called}
use Rattle.desk_told.specs.Deeds as told
use Rattle.desk_told.specs.Passes.{PassForm, history}
use Rattle.desk_locks.specs.declared.pass.SharedPass.{SharedPass}
use Rattle.desk_locks.specs.declared.shared.SharedDesks.{SharedDesks}
use Rattle.desk_locks.specs.Keepers.{Place, at_probe, at_store, at_endpoints, at_management, at_echo, place_for}
use Rattle.desk_locks.specs.Passes.{IsPassOf, Splits, Joins}
use Rattle.desk_locks.specs.Entering.{Enters}
use Rattle.desk_locks.specs.Rundowns.{RanDown}

-- ---- the deeds of one service

abbrev pub number_of : Place → ℕ
number_of at_probe = 0
number_of at_store = 1
number_of at_endpoints = 2
number_of at_management = 3
number_of at_echo = 4

-- the number of the interface whose service does the deed
abbrev pub iface_of : Bool → Deed → ℕ
iface_of echoes (answered c told answer) = c.iface
iface_of echoes (ran_down item) = number_of (place_for echoes item.kind)

abbrev pub form_of : {S : Type 0} → Deed → DeedForm S
form_of (answered c told answer) = called c told answer
form_of (ran_down item) = told.ran_down item

-- those of the service of a number, in their order
abbrev pub deeds_of : {S : Type 0} → ℕ → Bool → List Deed → List (DeedForm S)
deeds_of n echoes ds = map form_of (filter (λ d. iface_of echoes d == n) ds)

-- ---- where they stand

module _ {S : Type 0} where
  -- at these places of the history stand these deeds
  abbrev pub StandAt : List (DeedForm S) → List ℕ → List (DeedForm S) → Type 0
  StandAt history [] [] = Unit {0}
  StandAt history (n ∷ ns) (d ∷ ds) = (slice_get history n ≡ Some d) × StandAt history ns ds
  StandAt history _ _ = ⊥

-- the places ascend, and none is below the first number
abbrev pub Ascends : ℕ → List ℕ → Type 0
Ascends low [] = Unit {0}
Ascends low (n ∷ ns) = (low ≤ n) × Ascends (suc n) ns

module _ {S : Type 0} where
  -- A pass became another: that has seen what the first had, and has these deeds more. They stand in the history in this order, behind all
  -- that the first had seen.
  pub record Gains (p : PassForm S) (deeds : List (DeedForm S)) (q : PassForm S) : Type 0 where
    pub seen : StartsWith (history q) (history p)
    pub places : List ℕ
    pub own_is : own q ≡ own p ++ places
    pub stand : StandAt (history q) places deeds
    pub ascends : Ascends (length (history p)) places

  -- A pass became another: that has these deeds more, each of which stands once in the history.
  pub record HasAll (p : PassForm S) (deeds : List (DeedForm S)) (q : PassForm S) : Type 0 where
    pub seen : StartsWith (history q) (history p)
    pub places : List ℕ
    pub own_is : own q ≡ own p ++ places
    pub stand : StandAt (history q) places deeds
    pub once : AtMostOnce (own q)

-- ---- the laws

-- what is said of passes of each service that keeps something, and of its deeds
pub record EachService (says : (S : Type 0) → PassForm S → List (DeedForm S) → PassForm S → Type 0) (echoes : Bool) (p : SharedPass) (ds : List Deed) (q : SharedPass) : Type 0 where
  pub probe : says ℕ p.probe (deeds_of 0 echoes ds) q.probe
  pub store : says Store p.store (deeds_of 1 echoes ds) q.store
  pub endpoints : says EndpointMap p.endpoints (deeds_of 2 echoes ds) q.endpoints

abbrev pub EachGains : Bool → SharedPass → List Deed → SharedPass → Type 0
EachGains = EachService (λ S p ds q. Gains p ds q)

abbrev pub EachHasAll : Bool → SharedPass → List Deed → SharedPass → Type 0
EachHasAll = EachService (λ S p ds q. HasAll p ds q)

-- what was done for a pass is in the histories
abbrev pub ChainsGain : Type 0
ChainsGain = (d : SharedDesks) (p q : SharedPass) (ds : List Deed) → Chain (Enters d) (RanDown d) Splits Joins p ds q → EachGains (is_some d.echo) p ds q

-- The pass with which a connection began, what was done for it, and what its pass became.
pub record Course (P : Type 0) : Type 0 where
  pub began : P
  pub deeds : List Deed
  pub last : P

-- The connections began with passes that were split off the first pass, and their last passes were taken in, one after another. Then what was
-- done for them all is in the histories, each deed once: a history tells the answers of all calls of its service as one sequence.
abbrev pub EachStandsOnce : Type 0
EachStandsOnce = (d : SharedDesks) (p q : SharedPass) (cs : List (Course SharedPass))
    → AllByRecursion (λ c. StartsFrom Splits Joins p c.began × Chain (Enters d) (RanDown d) Splits Joins c.began c.deeds c.last) cs
    → Takes Splits Joins p (map (λ c. c.last) cs) q → IsPassOf d q → EachHasAll (is_some d.echo) p (flat_map (λ c. c.deeds) cs) q
