-- What a bind comes to in a world whose groups a realm has.
use Rattle.std.proofs.Common.{◌≡◌, ℕ, ◌+◌, ◌==◌, if◌then◌else◌, Bool, true, false, Option, Result, Ok, Err, List, [], ◌∷◌, ◌++◌, length, refl, sym, ap, ◌∙◌}
use Rattle.ndr_table.specs.Tables.{TableForm}
use Rattle.manager_api.specs.Served.{tables_in}
use Rattle.desk_service.specs.State.{Services}
use Rattle.desk_service.specs.Views.{services}
use Rattle.replay_world.specs.declared.peer.Member.{Member}
use Rattle.replay_world.specs.Worlds.{World}
use Rattle.replay_world.specs.Groups.{joined, joined_in}
use Rattle.replay_groups.specs.Keeps.{Keeps}
use Rattle.replay_groups.specs.declared.binding.BindRefusal.{BindRefusal}
use Rattle.replay_groups.specs.declared.binding.BindRefusal.TheVariants.{Refused, Memory}
use Rattle.replay_groups.specs.Binds.{AreKept, Binds}
use Rattle.replay_groups.proofs.Worlds.{joined_there, refused_there}
use Rattle.replay_groups.specs.declared.realm.Realm.{Realm}
use Rattle.replay_groups.specs.Holding.{Holds, Frames, Moves, BindsIn, Known}

-- of groups that some world has, they keep some journals
pub kept : (r : Realm) (P : World Services → Type 0) → Known r P → AreKept r.groups
kept r P k = (k.1.groups, k.2.keeps)

abbrev world_at : World Services → Bool → World Services
world_at w b = if b then record w { groups = w.groups ++ [] ∷ [] } else w

abbrev group_by : World Services → ℕ → Bool → ℕ
group_by w g b = if b then length w.groups + 1 else g

-- the desks, the boot word, connections and what was printed stay
record Stays (w v : World Services) : Type 0 where
  boot : v.boot ≡ w.boot
  desks : v.desks ≡ w.desks
  frames : Frames w v

stays_by : (w : World Services) (g : ℕ) (b : Bool) → Stays w (joined_in (world_at w b) (group_by w g b))
stays_by w g true = record { boot = refl; desks = refl; frames = record { peers = refl; out = refl } }
stays_by w g false = record { boot = refl; desks = refl; frames = record { peers = refl; out = refl } }

module _ (old new : Realm) (tables : tables_in new.served ≡ tables_in old.served) (desks : services new.desks ≡ services old.desks) where
  same : (asked : ℕ) (r : Result Member BindRefusal) → Binds old.groups asked r new.groups → (echo : Option TableForm) (w : World Services) → Holds echo old w → Keeps new.groups w.groups → Holds echo new w
  same asked r b echo w h keeps = record { keeps = keeps; boot = b.0 ∙ h.boot; desks = desks ∙ h.desks; echo_is = h.echo_is; tables = tables ∙ h.tables }

  pub bound : (asked : ℕ) (r : Result Member BindRefusal) → Binds old.groups asked r new.groups → Moves old (BindsIn asked r) new
  bound asked (Ok m) b echo w h =
      let t = joined_there w old.groups new.groups asked m h.boot h.keeps b in
      let s = stays_by w asked (asked == 0) in
      let back : (joined w asked).desks ≡ w.desks = s.desks in
      let boots : (joined w asked).boot ≡ w.boot = s.boot in (
        joined w asked,
        (t.0, t.1, refl),
        s.frames,
        record { keeps = t.2; boot = b.0 ∙ h.boot ∙ sym boots; desks = desks ∙ h.desks ∙ sym back; echo_is = ap (λ (s : Services). s.echo) back ∙ h.echo_is; tables = tables ∙ h.tables },
      )
  bound asked (Err (Refused reason)) b echo w h =
      let t = refused_there w old.groups new.groups asked reason h.boot h.keeps b in
      (w, (t.0, refl), record { peers = refl; out = refl }, same asked (Err (Refused reason)) b echo w h t.1)
  bound asked (Err Memory) b echo w h = (w, refl, record { peers = refl; out = refl }, same asked (Err Memory) b echo w h (b.1 w.groups h.keeps))
