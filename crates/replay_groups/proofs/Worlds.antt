-- A bind in any world with these groups.
use Rattle.std.proofs.Common.{◌≡◌, ℕ, ◌+◌, ◌==◌, if◌then◌else◌, Bool, true, false, Option, Some, None, Result, Ok, Err, List, [], ◌∷◌, ◌++◌, length, refl, sym, subst, ◌∙◌}
use Rattle.handle_model.specs.declared.entry.Entry.{Entry}
use Rattle.replay_world.specs.declared.peer.Member.{Member}
use Rattle.replay_world.specs.Worlds.{World}
use Rattle.replay_world.specs.Groups.{bind_refusal, member_for, joined, joined_in, next_conn}
use Rattle.replay_groups.specs.Keeps.{GroupsView, Keeps}
use Rattle.replay_groups.specs.declared.binding.BindRefusal.TheVariants.{Refused}
use Rattle.replay_groups.specs.declared.binding.BindRefusal.{BindRefusal}
use Rattle.replay_groups.specs.declared.binding.BindRefusal.TheVariants.{Memory}
use Rattle.replay_groups.specs.Binds.{AreKept, moment, Joins, BindsAt, Binds}

abbrev world_at : {S : Type 0} → World S → Bool → World S
world_at w b = if b then record w { groups = w.groups ++ [] ∷ [] } else w

abbrev group_by : {S : Type 0} → World S → ℕ → Bool → ℕ
group_by w g b = if b then length w.groups + 1 else g

abbrev member_at : {S : Type 0} → World S → ℕ → Bool → Member
member_at w g b = record { group = group_by w g b; number = next_conn (world_at w b) (group_by w g b) }

member_by : {S : Type 0} (w : World S) (g : ℕ) (b : Bool) → member_at w g b ≡ member_at (moment w.boot w.groups) g b
member_by w g true = refl
member_by w g false = refl

joined_by : {S : Type 0} (w : World S) (g : ℕ) (b : Bool) → (joined_in (world_at w b) (group_by w g b)).groups ≡ (joined_in (world_at (moment w.boot w.groups) b) (group_by (moment w.boot w.groups) g b)).groups
joined_by w g true = refl
joined_by w g false = refl

-- the connection is a member of its group
pub joined_there : {S : Type 0} (w : World S) (x y : GroupsView) (asked : ℕ) (m : Member) → x.boot ≡ w.boot → Keeps x w.groups → Binds x asked (Ok m) y
    → (bind_refusal w asked ≡ None) × (m ≡ member_for w asked) × Keeps y (joined w asked).groups
joined_there w x y asked m boot k b =
    let d : Joins (moment w.boot w.groups) asked m y = subst (λ (n : ℕ). Joins (moment n w.groups) asked m y) boot (b.1 w.groups k) in (
      d.allowed,
      d.member_is ∙ sym (member_by w asked (asked == 0)),
      subst (Keeps y) (sym (joined_by w asked (asked == 0))) d.keeps,
    )

-- the bind is refused
pub refused_there : {S : Type 0} (w : World S) (x y : GroupsView) (asked reason : ℕ) → x.boot ≡ w.boot → Keeps x w.groups → Binds x asked (Err (Refused reason)) y
    → (bind_refusal w asked ≡ Some reason) × Keeps y w.groups
refused_there w x y asked reason boot k b =
    let d = b.1 w.groups k in
    (subst (λ (n : ℕ). bind_refusal (moment n w.groups) asked ≡ Some reason) boot d.0, d.1)

-- whatever comes of it, the groups keep journals
kept_at : (x y : GroupsView) (pasts : List (List Entry)) (asked : ℕ) (r : Result Member BindRefusal) → BindsAt pasts (moment x.boot pasts) asked r y → AreKept y
kept_at x y pasts asked (Ok m) d = (_, d.keeps)
kept_at x y pasts asked (Err (Refused reason)) d = (pasts, d.1)
kept_at x y pasts asked (Err Memory) d = (pasts, d)

pub kept_after : (x y : GroupsView) (asked : ℕ) (r : Result Member BindRefusal) → AreKept x → Binds x asked r y → AreKept y
kept_after x y asked r kept b = kept_at x y kept.0 asked r (b.1 kept.0 kept.1)
