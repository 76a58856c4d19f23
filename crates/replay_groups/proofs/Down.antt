-- Handles that are run down, one after the other.
use Rattle.std.proofs.Common.{◌≡◌, ℕ, ◌==◌, Bool, true, false, if◌then◌else◌, Option, List, [], ◌∷◌, refl, ap, ◌∙◌}
use Rattle.handle_model.specs.declared.entry.DueItem.{DueItem}
use Rattle.ndr_table.specs.Tables.{TableForm}
use Rattle.desk_service.specs.State.{Services}
use Rattle.desk_service.specs.Rundowns.{without, iface_in, keeps_nothing}
use Rattle.replay_world.specs.Services.{AreRunDown}
use Rattle.replay_groups.specs.Service.{service_of}

by_cases : (a b c : Bool) (w x y z : Services) → w.echo ≡ z.echo → x.echo ≡ z.echo → y.echo ≡ z.echo → (if a then w else (if b then x else (if c then z else y))).echo ≡ z.echo
by_cases true b c w x y z p q r = p
by_cases false true c w x y z p q r = q
by_cases false false true w x y z p q r = refl
by_cases false false false w x y z p q r = r

pub echo_stays : (s : Services) (iface : ℕ) → (without s iface).echo ≡ s.echo
echo_stays s iface = by_cases (iface == 1) (iface == 2) (keeps_nothing s iface) _ _ _ s refl refl refl

pub down_more : (echo : Option TableForm) (old between new : Services) (item : DueItem) (items : List DueItem) → between ≡ without old (iface_in item.kind)
    → AreRunDown (service_of echo) between items new → AreRunDown (service_of echo) old (item ∷ items) new
down_more echo old between new item items is rest = (between, is, rest)

-- by one more, behind the others
pub down_on : (echo : Option TableForm) (items : List DueItem) (old between new : Services) (item : DueItem) → AreRunDown (service_of echo) old items between
    → new ≡ without between (iface_in item.kind) → (rest : List DueItem) (last : Services) → AreRunDown (service_of echo) new rest last → AreRunDown (service_of echo) between (item ∷ rest) last
down_on echo items old between new item before is rest last after = (new, is, after)
