-- What the program has of a world.
use Rattle.std.specs.Prelude.{◌≡◌, ℕ, true, Some, List, [], slice_get}
use Rattle.std.specs.List.{AllZip}
use Rattle.std.specs.Ordering.{nat_cmp}
use Rattle.std.specs.BTreeMap.{BTreeMap, get}
use Rattle.rpc_outside.specs.Links.{Shown, IsNew}
use Rattle.ndr_table.specs.Tables.{TableForm}
use Rattle.client_core.specs.States.{is_bound}
use Rattle.client_core.specs.State.{state}
use Rattle.client_link.specs.Wires.{Spoken, Lived}
use Rattle.client_script.specs.declared.channel.Channel.{Channel}
use Rattle.client_script.specs.declared.player.Player.{Player}
use Rattle.client_script.specs.Worlds.{Association, World}
use Rattle.client_script.specs.Losses.{IsLostFrom}

-- the channel is bound by that name
pub record IsBoundAs {K : Type 0} (name : ℕ) (c : Channel K) : Type 0 where
  pub named : c.name ≡ name
  pub is_open : c.is_open ≡ true
  pub bound : is_bound (state c.wire.client) ≡ true

-- Of each channel that is bound the index has the place, by its name.
abbrev pub IsIndex : {K : Type 0} → BTreeMap ℕ ℕ → List (Channel K) → Type 0
IsIndex {K} places cs = (at : ℕ) (c : Channel K) → slice_get cs at ≡ Some c → IsBoundAs c.name c → get nat_cmp places c.name ≡ Some at

module _ {K : Type 0} (shows : K → Shown) where
  -- a channel is that connection
  pub record Holds (interface : TableForm) (c : Channel K) (a : Association) : Type 0 where
    pub name : c.name ≡ a.name
    pub is_open : c.is_open ≡ a.is_open
    pub closed : (shows c.wire.link).closed ≡ a.is_closed
    pub group : c.group ≡ a.group
    pub first : IsNew (shows c.wire.first.value)
    pub spoken : Spoken interface (shows c.wire.first.value) (shows c.wire.link) a.events a.pending
    pub lived : a.is_open ≡ true → Lived shows interface c.wire a.events a.state [] × (a.pending ≡ [])

  -- it is that connection, and is lost, which was as in a over a link that was as in `from`
  pub record HoldsLost (interface : TableForm) (from : Shown) (a : Association) (c : Channel K) (b : Association) : Type 0 where
    pub holds : Holds interface c b
    pub at : state c.wire.client ≡ b.state
    pub lost : IsLostFrom interface a b (shows c.wire.first.value) from (shows c.wire.link)

  -- a player stands for a world
  pub record Stands (interface : TableForm) (p : Player K) (w : World) : Type 0 where
    pub channels : AllZip (Holds interface) p.channels.items w.associations
    pub known : p.known ≡ w.known
    pub out : p.out.items ≡ w.out
    pub failed : p.failed ≡ w.failed
    pub indexed : IsIndex p.places p.channels.items

  -- it stands for some world
  abbrev pub HasWorld : Player K → Type 0
  HasWorld p = (interface : TableForm) × (w : World) × Stands interface p w

abbrev pub IsThere : {K : Type 0} → ℕ → List (Channel K) → ℕ → Type 0
IsThere {K} name cs at = (c : Channel K) × (slice_get cs at ≡ Some c) × IsBoundAs name c

abbrev pub IsNowhere : {K : Type 0} → ℕ → List (Channel K) → Type 0
IsNowhere {K} name cs = (at : ℕ) (c : Channel K) → slice_get cs at ≡ Some c → IsBoundAs name c → ⊥
