-- A group is opened behind the others.
use Rattle.std.proofs.Common.{◌≡◌, ℕ, suc, ◌+◌, ◌^◌, ◌≤◌, Bool, true, ◌⊎◌, inl, inr, Result, Ok, Err, List, [], ◌∷◌, ◌++◌, length, filter, refl, sym, ap, subst, ◌∙◌, arith, append-nil}
use Rattle.std.proofs.lemmas.List.{append_cancel_right}
use Rattle.handle_model.specs.declared.entry.Home.{Home}
use Rattle.handle_model.specs.declared.entry.Entry.{Entry}
use Rattle.handle_model.specs.declared.entry.Entry.TheVariants.{Join}
use Rattle.handle_model.specs.History.{History, IsSound}
use Rattle.handle_model.proofs.Steps.{empty_sound}
use Rattle.hub_story.specs.Answers.{JoinsWhole}
use Rattle.hub_story.specs.Folded.{kept_since}
use Rattle.hub_story.proofs.WholeLemmas as kept
use Rattle.hub_story.proofs.WholeLemmas.{joins_whole}
use Rattle.replay_world.specs.Worlds.{goes_on}
use Rattle.replay_world.specs.Groups.{most_groups}
use Rattle.replay_world.specs.Replays.{journals_from}
use Rattle.replay_groups.specs.declared.opening.OpenRefusal.{OpenRefusal}
use Rattle.replay_groups.specs.declared.opening.OpenRefusal.TheVariants.{Full, Memory}
use Rattle.replay_groups.specs.Keeps.{GroupsView, home_in, whole_of, AllSound, Keeps, IsFirst, OpensAs, OpensAt, IsFull, Opens}
use Rattle.replay_groups.proofs.Tallies.{opened_counted}
use Rattle.replay_groups.proofs.Keeping.{counted, count_first, suc_counted, length_from}

append_from : (boot id : ℕ) (pasts : List (List Entry)) (new : List Entry) → journals_from boot id (pasts ++ new ∷ []) ≡ journals_from boot id pasts ++ kept_since (home_in boot (id + length pasts)) new ∷ []
append_from boot id [] new = ap (λ (n : ℕ). kept_since (home_in boot n) new ∷ []) (let e : id ≡ id + 0 = omega arith in e)
append_from boot id (past ∷ more) new =
    ap (λ (js : List History). kept_since (home_in boot id) past ∷ js)
    (append_from boot (suc id) more new
    ∙ ap (λ (n : ℕ). journals_from boot (suc id) more ++ kept_since (home_in boot n) new ∷ []) (let e : suc id + length more ≡ id + suc (length more) = omega arith in e))

sound_append : (boot id : ℕ) (pasts : List (List Entry)) (new : List Entry) → IsSound (whole_of boot (id + length pasts) new) → AllSound boot id pasts → AllSound boot id (pasts ++ new ∷ [])
sound_append boot id [] new is all = (subst (λ (n : ℕ). IsSound (whole_of boot n new)) (let e : id + 0 ≡ id = omega arith in e) is, tt)
sound_append boot id (past ∷ more) new is all =
    (all.0, sound_append boot (suc id) more new (subst (λ (n : ℕ). IsSound (whole_of boot n new)) (let e : id + suc (length more) ≡ suc id + length more = omega arith in e) is) all.1)

count_append : (pasts : List (List Entry)) (new : List Entry) → goes_on new ≡ true → length (filter goes_on (pasts ++ new ∷ [])) ≡ suc (length (filter goes_on pasts))
count_append [] new goes = count_first (goes_on new) new [] ∙ ap (λ (b : Bool). counted b 0) goes
count_append (past ∷ more) new goes =
    count_first (goes_on past) past (more ++ new ∷ []) ∙ ap (counted (goes_on past)) (count_append more new goes) ∙ sym (suc_counted (goes_on past) (length (filter goes_on more)))
    ∙ ap suc (sym (count_first (goes_on past) past more))

-- ---- the first connection

first_keeps : (home : Home) (j : History) (f : IsFirst home j) → kept.Keeps home [] j (λ a b. JoinsWhole a (Ok f.conn) b)
first_keeps home j f = joins_whole home [] (Ok f.conn) j (empty_sound home) refl f.joins f.sound

first_is : (home : Home) (j : History) (f : IsFirst home j) (k : kept.Keeps home [] j (λ a b. JoinsWhole a (Ok f.conn) b)) → k.es ≡ Join 1 ∷ []
first_is home j f k =
    let one : f.conn ≡ 1 = k.answers.1 in
    append_cancel_right k.es (Join 1 ∷ []) [] (ap (λ (z : History). z.past) k.answers.2 ∙ ap (λ c. Join c ∷ []) one)

-- ---- the group

opened_keeps : (x y : GroupsView) (id : ℕ) (o : OpensAs x id y) (pasts : List (List Entry)) → Keeps x pasts → Keeps y (pasts ++ (Join 1 ∷ []) ∷ [])
opened_keeps x y id o pasts k =
    let f = first_keeps (home_in x.boot id) o.first o.is_first in
    let es : f.es ++ [] ≡ Join 1 ∷ [] = append-nil f.es ∙ first_is (home_in x.boot id) o.first o.is_first f in
    let count : length x.groups ≡ length pasts = ap length k.journals ∙ length_from x.boot 1 pasts in
    let number : id ≡ 1 + length pasts = omega (arith, o.id_is, count) in
    let boot : y.boot ≡ x.boot = ap (λ (z : GroupsView). z.boot) o.is in
    let first : o.first ≡ kept_since (home_in x.boot (1 + length pasts)) (Join 1 ∷ []) = f.kept_is ∙ (λ i. kept_since (home_in x.boot (number i)) (es i)) in
    let sound : IsSound (whole_of x.boot (1 + length pasts) (Join 1 ∷ [])) =
    subst (λ (n : ℕ). IsSound (whole_of x.boot n (Join 1 ∷ []))) number (subst (λ (l : List Entry). IsSound (whole_of x.boot id l)) es f.sound) in
    record {
      journals =
          ap (λ (z : GroupsView). z.groups) o.is ∙ (λ i. k.journals i ++ first i ∷ []) ∙ sym (append_from x.boot 1 pasts (Join 1 ∷ []))
          ∙ ap (λ (b : ℕ). journals_from b 1 (pasts ++ (Join 1 ∷ []) ∷ [])) (sym boot);
      sound = subst (λ (b : ℕ). AllSound b 1 (pasts ++ (Join 1 ∷ []) ∷ [])) (sym boot) (sound_append x.boot 1 pasts (Join 1 ∷ []) sound k.sound);
      open_is =
          let more : y.open_groups ≡ x.open_groups + 1 = ap (λ (z : GroupsView). z.open_groups) o.is in
          let counts = count_append pasts (Join 1 ∷ []) refl in
          omega (arith, more, k.open_is, counts);
      counted = opened_counted x.counts y.counts pasts 1 o.counted k.counted;
    }

not_full : (x y : GroupsView) (id : ℕ) (o : OpensAs x id y) (pasts : List (List Entry)) → Keeps x pasts → IsFull pasts → ⊥
not_full x y id o pasts k (inl many) = absurd (omega (arith, o.room, k.open_is, many))
not_full x y id o pasts k (inr late) =
    let count : length x.groups ≡ length pasts = ap length k.journals ∙ length_from x.boot 1 pasts in
    absurd (omega (arith, o.small, o.id_is, count, late))

full_is : (x : GroupsView) (pasts : List (List Entry)) → Keeps x pasts → (most_groups ≤ x.open_groups) ⊎ (2 ^ 32 ≤ length x.groups + 1) → IsFull pasts
full_is x pasts k (inl many) = inl (omega (arith, k.open_is, many))
full_is x pasts k (inr late) = let count : length x.groups ≡ length pasts = ap length k.journals ∙ length_from x.boot 1 pasts in inr (omega (arith, count, late))

pub opened_is : (x y : GroupsView) (r : Result ℕ OpenRefusal) → OpensAt x r y → Opens x r y
opened_is x y (Ok id) o = (
  ap (λ (z : GroupsView). z.boot) o.is,
  λ pasts k.
      (not_full x y id o pasts k, (let count : length x.groups ≡ length pasts = ap length k.journals ∙ length_from x.boot 1 pasts in omega (arith, o.id_is, count)), opened_keeps x y id o pasts k),
)
opened_is x y (Err Full) o = (o.1, λ pasts k. full_is x pasts k o.0)
opened_is x y (Err Memory) o = o
