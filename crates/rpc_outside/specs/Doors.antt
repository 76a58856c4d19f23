-- What a call on a door changes.
use Rattle.std.specs.Prelude.{◌≡◌, ℕ, ◌+◌, ◌-◌, ◌<◌, ◌≤◌, Option, Some, None, Result, Ok, Err, List, [], ◌∷◌, ◌++◌, ⊤}
use Rattle.std.specs.Option.{option_map}
use Rattle.rpc_base.specs.Causes.{Rose}
use Rattle.rpc_base.specs.declared.fault.OutFault.{OutFault}
use Rattle.rpc_base.specs.declared.fault.OutFault.TheVariants.{Failed, Memory}
use Rattle.rpc_outside.specs.declared.address.Address.{Address}
use Rattle.rpc_outside.specs.Links.{Shown, IsNothing, IsNew}

-- what a door counts and tells
pub record DoorShown (L : Type 0) : Type 0 where
  -- how often it failed, and had no link since it closed
  pub faults : ℕ
  pub closings : ℕ
  -- the address at which it listens, if any
  pub listens : Option (Option Address)
  -- the links to come, and those that were given back, the last one last
  pub to_come : Option (List L)
  pub back : Option (List L)
  -- how many links are handed out and not given back
  pub out : Option ℕ

-- where it is told, a link is out
abbrev pub HasOut : Option ℕ → Type 0
HasOut None = ⊤
HasOut (Some n) = 0 < n

module _ {L : Type 0} where
  -- no count falls
  pub record DoorCounts (a b : DoorShown L) : Type 0 where
    pub faults : a.faults ≤ b.faults
    pub closings : a.closings ≤ b.closings

  -- all but the counts stays
  pub record DoorSame (a b : DoorShown L) : Type 0 where
    pub counts : DoorCounts a b
    pub listens : b.listens ≡ a.listens
    pub to_come : b.to_come ≡ a.to_come
    pub back : b.back ≡ a.back
    pub out : b.out ≡ a.out

  pub record ListensAt (a b : DoorShown L) (at : Address) : Type 0 where
    pub counts : DoorCounts a b
    pub listens : b.listens ≡ option_map (λ _. Some at) a.listens
    pub to_come : b.to_come ≡ a.to_come
    pub back : b.back ≡ a.back
    pub out : b.out ≡ a.out

  -- the next link was handed out
  pub record HandsOut (a b : DoorShown L) (link : L) : Type 0 where
    pub counts : DoorCounts a b
    pub listens : b.listens ≡ a.listens
    pub to_come : a.to_come ≡ option_map (λ links. link ∷ links) b.to_come
    pub back : b.back ≡ a.back
    pub out : b.out ≡ option_map (λ n. n + 1) a.out

  -- the link is the last of those given back
  pub record Backs (a : DoorShown L) (link : L) (b : DoorShown L) : Type 0 where
    pub faults : b.faults ≡ a.faults
    pub closings : a.closings ≤ b.closings
    pub listens : b.listens ≡ a.listens
    pub to_come : b.to_come ≡ a.to_come
    pub back : b.back ≡ option_map (λ links. links ++ link ∷ []) a.back
    pub out : b.out ≡ option_map (λ n. n - 1) a.out

  abbrev pub Listens : DoorShown L → Address → Result Unit OutFault → DoorShown L → Type 0
  Listens a at (Ok _) b = ListensAt a b at
  Listens a at (Err Failed) b = Rose a.faults b.faults × DoorSame a b
  Listens a at (Err Memory) b = DoorSame a b

  abbrev pub Nexts : (L → Shown) → DoorShown L → Result (Option L) OutFault → DoorShown L → Type 0
  Nexts shows a (Ok (Some link)) b = IsNew (shows link) × HandsOut a b link
  Nexts shows a (Ok None) b = Rose a.closings b.closings × IsNothing a.to_come × DoorSame a b
  Nexts shows a (Err Failed) b = Rose a.faults b.faults × DoorSame a b
  Nexts shows a (Err Memory) b = DoorSame a b
