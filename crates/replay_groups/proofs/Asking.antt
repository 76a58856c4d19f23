-- What a group's own journal tells of the whole one.
use Rattle.std.proofs.Common.{◌≡◌, ℕ, suc, ◌-◌, ◌+◌, ◌≤◌, ◌<◌, nat_le, Bool, true, false, ◌&&◌, ◌||◌, not, List, [], ◌∷◌, ◌++◌, inl, inr, length, refl, sym, ap, subst, ◌∙◌, arith}
use Rattle.std.specs.List.{list_any}
use Rattle.std.proofs.lemmas.Bool.{le-leb}
use Rattle.std.proofs.lemmas.Bool.Decides.{leb_tells}
use Rattle.handle_model.specs.declared.entry.Entry.{Entry}
use Rattle.handle_model.specs.Entries.{is_shut}
use Rattle.handle_model.specs.Journal.{runs, waits, slots}
use Rattle.handle_model.specs.History.{History}
use Rattle.group_core.specs.Stages.{stage_of, is_asked}
use Rattle.hub_story.specs.Folded.{kept_since}
use Rattle.hub_story.proofs.AskedLemmas.{running_since}
use Rattle.hub_story.proofs.WholeLemmas.{stage_kept, slots_kept, waits_kept, runs_kept}
use Rattle.replay_world.specs.Worlds.{is_open_group}
use Rattle.replay_groups.specs.Keeps.{GroupsView, home_in, whole_of, past_at, Keeps, Has, Known, Told, GoesOn, group_at}
use Rattle.replay_groups.proofs.Keeping.{here_is, sound_is, shut_same, goes_all, length_from}
use Rattle.replay_groups.specs.Binds.{AreKept, moment}

pub has_where : (x : GroupsView) (pasts : List (List Entry)) (g : ℕ) → Keeps x pasts → 1 ≤ g → g - 1 < length pasts → Has x g
has_where x pasts g k one low = (one, (let count : length x.groups ≡ length pasts = ap length k.journals ∙ length_from x.boot 1 pasts in omega (arith, count, low)))

pub ended_told : (x : GroupsView) (g : ℕ) (b : Bool) → Has x g → b ≡ list_any is_shut (group_at x g).past → Told x g (λ j. b ≡ list_any is_shut j.past)
ended_told x g b has is pasts k =
    is ∙ ap (λ (j : History). list_any is_shut j.past) (here_is x g pasts has k) ∙ shut_same (home_in x.boot g) (past_at pasts g) (sound_is x g pasts has k)

pub stage_told : (x : GroupsView) (g k : ℕ) → Has x g → Told x g (λ j. stage_of (group_at x g) k ≡ stage_of j k)
stage_told x g k has pasts ks =
    ap (λ (j : History). stage_of j k) (here_is x g pasts has ks) ∙ stage_kept (home_in x.boot g) (past_at pasts g) (sound_is x g pasts has ks).legal k

pub asked_told : (x : GroupsView) (g k : ℕ) → Has x g → Told x g (λ j. runs j k ≡ true → is_asked (group_at x g) k ≡ is_asked j k)
asked_told x g k has pasts ks r =
    ap (λ (j : History). is_asked j k) (here_is x g pasts has ks) ∙ running_since (home_in x.boot g) (past_at pasts g) k (sound_is x g pasts has ks).legal r

pub slots_told : (x : GroupsView) (g k : ℕ) → Has x g → Told x g (λ j. (waits j k || runs j k) ≡ true → slots (group_at x g) k ≡ slots j k)
slots_told x g k has pasts ks o =
    ap (λ (j : History). slots j k) (here_is x g pasts has ks) ∙ slots_kept (home_in x.boot g) (past_at pasts g) k (sound_is x g pasts has ks).legal o

pub open_call_at : (x : GroupsView) (g k : ℕ) → Has x g → Known x g (λ j. (waits j k || runs j k) ≡ true) → (waits (group_at x g) k || runs (group_at x g) k) ≡ true
open_call_at x g k has known =
    let home = home_in x.boot g in
    let past = past_at known.0 g in
    let l = (sound_is x g known.0 has known.1).legal in
    ap (λ (j : History). waits j k || runs j k) (here_is x g known.0 has known.1)
    ∙ (λ i. waits_kept home past l k i || runs_kept home past l k i) ∙ known.2

-- ---- whether a group goes on

within : (g n : ℕ) (x : Bool) → 1 ≤ g → g - 1 < n → (nat_le 1 g && nat_le g n && x) ≡ x
within g n x one low = let a = le-leb 1 g one in let b = le-leb g n (omega (arith, one, low)) in λ i. a i && b i && x

beyond : (g n : ℕ) (x : Bool) → (1 ≤ g → g - 1 < n → ⊥) → (nat_le 1 g && nat_le g n && x) ≡ false
beyond g n x none = elim (leb_tells 1 g) [
  | inl p ↦ elim (leb_tells g n) [ inl q ↦ let one = p.1 in let most = q.1 in absurd (none one (omega (arith, one, most))) | inr q ↦ let a = p.0 in let b = q.0 in λ i. a i && b i && x ]
  | inr p ↦ let a = p.0 in λ i. a i && nat_le g n && x
]

pub open_is : (x : GroupsView) (g : ℕ) (ended : Bool) → Has x g → Told x g (λ j. ended ≡ list_any is_shut j.past) → (pasts : List (List Entry)) → Keeps x pasts
    → not ended ≡ is_open_group (moment x.boot pasts) g
open_is x g ended has told pasts k =
    let count : length x.groups ≡ length pasts = ap length k.journals ∙ length_from x.boot 1 pasts in
    let w = within g (length pasts) (not (list_any is_shut (past_at pasts g))) has.0 (omega (arith, has.1, count)) in
    ap not (told pasts k) ∙ sym w

pub open_none : (x : GroupsView) (g : ℕ) → (Has x g → ⊥) → (pasts : List (List Entry)) → Keeps x pasts → false ≡ is_open_group (moment x.boot pasts) g
open_none x g none pasts k = sym (beyond g (length pasts) (not (list_any is_shut (past_at pasts g))) (λ one low. none (has_where x pasts g k one low)))

not_false : (b : Bool) → not b ≡ true → b ≡ false
not_false true e = absurd (cc)
not_false false e = refl

pub known_on : (x : GroupsView) (g : ℕ) (ended : Bool) → AreKept x → Told x g (λ j. ended ≡ list_any is_shut j.past) → not ended ≡ true → GoesOn x g
known_on x g ended kept told on = (kept.0, kept.1, sym (told kept.0 kept.1) ∙ not_false ended on)

pub opened_on : (x : GroupsView) (g : ℕ) → Has x g → GoesOn x g → (pasts : List (List Entry)) → Keeps x pasts → is_open_group (moment x.boot pasts) g ≡ true
opened_on x g has goes pasts k = sym (open_is x g false has (λ ps ks. sym (goes_all x g has goes ps ks)) pasts k)
