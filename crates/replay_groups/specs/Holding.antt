-- Of which worlds a realm has the interfaces, the groups and the desks.
use Rattle.std.specs.Prelude.{◌≡◌, ℕ, Option, Some, None, Result, Ok, Err}
use Rattle.handle_model.specs.History.{History}
use Rattle.ndr_table.specs.Tables.{TableForm}
use Rattle.manager_api.specs.Served.{tables_in}
use Rattle.desk_service.specs.State.{Services, tables_with}
use Rattle.desk_service.specs.Views.{services}
use Rattle.replay_world.specs.declared.peer.Member.{Member}
use Rattle.replay_world.specs.Worlds.{World}
use Rattle.replay_world.specs.Groups.{GoesOn, bind_refusal, member_for, joined}
use Rattle.replay_groups.specs.Keeps.{Keeps}
use Rattle.replay_groups.specs.declared.binding.BindRefusal.{BindRefusal}
use Rattle.replay_groups.specs.declared.binding.BindRefusal.TheVariants.{Refused, Memory}
use Rattle.replay_groups.specs.declared.realm.Realm.{Realm}

-- the groups keep the world's journals, the desks keep what they keep there, and the interfaces are the services'
pub record Holds (echo : Option TableForm) (r : Realm) (w : World Services) : Type 0 where
  pub keeps : Keeps r.groups w.groups
  pub boot : r.groups.boot ≡ w.boot
  pub desks : services r.desks ≡ w.desks
  pub echo_is : w.desks.echo ≡ echo
  pub tables : tables_in r.served ≡ tables_with echo

-- connections, and what was printed, stay
pub record Frames (w v : World Services) : Type 0 where
  pub peers : v.peers ≡ w.peers
  pub out : v.out ≡ w.out

-- From each world whose groups and desks these are, this leads to one whose groups and desks those are.
abbrev pub Moves : Realm → (Option TableForm → World Services → World Services → Type 0) → Realm → Type 0
Moves old R new = (echo : Option TableForm) (w : World Services) → Holds echo old w → (v : World Services) × R echo w v × Frames w v × Holds echo new v

-- the journal of a group goes on so
abbrev pub Going : ℕ → (History → History → Type 0) → Option TableForm → World Services → World Services → Type 0
Going g Says echo w v = GoesOn Says w g v

-- a bind comes to a member of its group, or to the reason of a bind_nak
abbrev pub BindsIn : ℕ → Result Member BindRefusal → Option TableForm → World Services → World Services → Type 0
BindsIn asked (Ok member) echo w v = (bind_refusal w asked ≡ None) × (member ≡ member_for w asked) × (v ≡ joined w asked)
BindsIn asked (Err (Refused reason)) echo w v = (bind_refusal w asked ≡ Some reason) × (v ≡ w)
BindsIn asked (Err Memory) echo w v = v ≡ w

-- what is known of the world by one whose groups and desks these are
abbrev pub Known : Realm → (World Services → Type 0) → Type 0
Known r P = (echo : Option TableForm) × (w : World Services) × Holds echo r w × P w
