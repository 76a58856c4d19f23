-- What a call on a dial changes.
use Rattle.std.specs.Prelude.{◌≡◌, ℕ, ◌+◌, ◌-◌, ◌≤◌, Option, Result, Ok, Err, List, [], ◌∷◌, ◌++◌}
use Rattle.std.specs.Option.{option_map}
use Rattle.rpc_base.specs.Causes.{Rose}
use Rattle.rpc_base.specs.declared.fault.OutFault.{OutFault}
use Rattle.rpc_base.specs.declared.fault.OutFault.TheVariants.{Failed, Memory}
use Rattle.rpc_outside.specs.declared.address.Address.{Address}
use Rattle.rpc_outside.specs.Links.{Shown, IsNew}

-- what a dial counts and tells
pub record DialShown (L : Type 0) : Type 0 where
  -- how often it failed
  pub faults : ℕ
  -- the addresses to which it opened a link, the last one last
  pub dialled : Option (List Address)
  -- the links that were given back, the last one last
  pub back : Option (List L)
  -- how many links are open and not given back
  pub out : Option ℕ

module _ {L : Type 0} where
  -- all but the count stays
  pub record DialSame (a b : DialShown L) : Type 0 where
    pub faults : a.faults ≤ b.faults
    pub dialled : b.dialled ≡ a.dialled
    pub back : b.back ≡ a.back
    pub out : b.out ≡ a.out

  -- a link was opened to that address
  pub record Opens (a b : DialShown L) (at : Address) : Type 0 where
    pub faults : a.faults ≤ b.faults
    pub dialled : b.dialled ≡ option_map (λ addresses. addresses ++ at ∷ []) a.dialled
    pub back : b.back ≡ a.back
    pub out : b.out ≡ option_map (λ n. n + 1) a.out

  -- the link is the last of those given back
  pub record DialBacks (a : DialShown L) (link : L) (b : DialShown L) : Type 0 where
    pub faults : b.faults ≡ a.faults
    pub dialled : b.dialled ≡ a.dialled
    pub back : b.back ≡ option_map (λ links. links ++ link ∷ []) a.back
    pub out : b.out ≡ option_map (λ n. n - 1) a.out

  abbrev pub Dials : (L → Shown) → DialShown L → Address → Result L OutFault → DialShown L → Type 0
  Dials shows a at (Ok link) b = IsNew (shows link) × Opens a b at
  Dials shows a at (Err Failed) b = Rose a.faults b.faults × DialSame a b
  Dials shows a at (Err Memory) b = DialSame a b
