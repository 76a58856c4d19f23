-- A shard tells a longer history where one group of it changed.
use Rattle.std.proofs.Common.{◌≡◌, ◌≢◌, ◌==◌, ℕ, zero, suc, ◌+◌, ◌-◌, ◌*◌, ◌/◌, ◌≤◌, ◌<◌, Bool, true, false, ◌&&◌, ◌||◌, not, List, [], ◌∷◌, ◌++◌, length, map, reverse, take, refl, sym, ◌∙◌, ap, subst, arith, inl, inr, slice_index_or, slice_set, append_assoc, append-nil}
use Rattle.std.specs.List.{list_any, filter_map}
use Rattle.std.proofs.lemmas.Bool.{cases_Bool}
use Rattle.std.proofs.lemmas.Bool.Decides.{eqb_tells, nat_tests}
use mathlib.Core.Option.{some, some-injective, some-ne-none}
use mathlib.Core.Logic.{dite}
use native.Mathlib.Decide.{dec_lt, ℕ_discrete}
use lib.ListN.{get_elem?}
use Rattle.handle_model.specs.declared.entry.Entry.{Entry}
use Rattle.handle_model.specs.Bases.{empty_base}
use Rattle.handle_model.specs.Journal.{is_shut, is_join}
use Rattle.handle_model.specs.History.{History, IsSound, since}
use Rattle.handle_model.specs.Further.{with_entries}
use Rattle.hub_story.specs.declared.item.Mark.{Mark}
use Rattle.hub_story.specs.declared.item.Mark.TheVariants.{Opened, Missed, Retired}
use Rattle.hub_story.specs.declared.item.Item.{Item}
use Rattle.hub_story.specs.declared.item.Item.TheVariants.{Begun, Listed as Marked, Of}
use Rattle.hub_story.specs.Directories.{opens_id, opened_by, opened_ids, open_ids, is_opened_id, is_retired_id, id_of, index_of, first_ids}
use Rattle.hub_story.specs.Histories.{marks_in, past_in, journal_in, home_of, items_of, Begins, IsStory}
use Rattle.hub_story.specs.Folded.{kept_since, kept}
use Rattle.hub_story.proofs.ItemLemmas.{past-append, marks-append, past_items, past_others, marks_items, length_items, at_whole}
use Rattle.hub_story.proofs.WholeLemmas.{Keeps}
use Rattle.turn_lock.proofs.HistoryLemmas.{at_append, at_within}
use Rattle.turn_lock.proofs.AddingLemmas.{at_behind}
use Rattle.hub_shard.specs.declared.shard.Listed.{Listed}
use Rattle.hub_shard.specs.Shards.{ShardView, unlisted, listed_at, group_of, Told, Acted, Has, Touched}
use Rattle.hub_shard.specs.Answers.{Answers}

-- IDS

-- an id has its index
pub index_of_id : (s n : ℕ) → s < 16 → index_of (id_of s n) ≡ n
index_of_id s n low = omega arith

number_among : ℕ → List ℕ → Bool
number_among g ns = list_any (λ n. n == g) ns

pub opened_among : (marks : List Mark) (g : ℕ) → is_opened_id marks g ≡ list_any (λ n. n == g) (opened_ids marks)
opened_among [] g = refl
opened_among (Opened h ∷ marks) g = ap (λ b. (h == g) || b) (opened_among marks g)
opened_among (Missed h ∷ marks) g = opened_among marks g
opened_among (Retired h ∷ marks) g = opened_among marks g

pub record IsId (s n g : ℕ) : Type 0 where
  pub index : ℕ
  pub low : index < n
  pub id_is : g ≡ id_of s index

first_found : (s n g : ℕ) → list_any (λ m. m == g) (first_ids s n) ≡ true → IsId s n g
first_found s zero g h = absurd cc
first_found s (suc n) g h = elim (eqb_tells (id_of s n) g) [
  | inl same ↦ record { index = n; low = omega arith; id_is = sym same.1 }
  | inr apart ↦ let r = first_found s n g (rw apart.0 at h) in let l = r.low in record { index = r.index; low = omega arith; id_is = r.id_is }
]

pub first_there : (s n i : ℕ) → i < n → list_any (λ m. m == id_of s i) (first_ids s n) ≡ true
first_there s zero i low = absurd (omega arith)
first_there s (suc n) i low = elim (eqb_tells (id_of s n) (id_of s i)) [
  | inl same ↦ rw same.0 refl
  | inr apart ↦ let less : i < n = dite (ℕ_discrete i n) (λ (e : i ≡ n). absurd (apart.1 (ap (id_of s) (sym e)))) (λ d. omega arith) in rw apart.0 (first_there s n i less)
]

-- an id that was opened is that of a group
pub opened_is : (x : ShardView) (log : List Item) (g : ℕ) → Told x log → is_opened_id (marks_in log) g ≡ true → IsId x.number (length x.groups) g
opened_is x log g t h =
    let count : length (opened_ids (marks_in log)) ≡ length x.groups = ap (λ m. length (opened_ids m)) (sym t.marks_are) ∙ sym t.count in
    let among : list_any (λ m. m == g) (first_ids x.number (length (opened_ids (marks_in log)))) ≡ true = ap (list_any (λ m. m == g)) (sym t.story.ids) ∙ (sym (opened_among (marks_in log) g) ∙ h) in
    subst (λ n. IsId x.number n g) count (first_found x.number (length (opened_ids (marks_in log))) g among)

pub opened_has : (x : ShardView) (log : List Item) (g : ℕ) → Told x log → is_opened_id (marks_in log) g ≡ true → Has x g
opened_has x log g t h =
    let i = opened_is x log g t h in
    let low = i.low in
    let index : index_of g ≡ i.index = ap index_of i.id_is ∙ index_of_id x.number i.index t.small in
    let is = i.id_is in
    (omega arith, omega arith)

-- and its group keeps its journal
pub opened_keeps : (x : ShardView) (log : List Item) (g : ℕ) → Told x log → is_opened_id (marks_in log) g ≡ true → group_of x g ≡ kept (journal_in x.boot g log)
opened_keeps x log g t h =
    let i = opened_is x log g t h in
    let index : index_of g ≡ i.index = ap index_of i.id_is ∙ index_of_id x.number i.index t.small in
    ap (λ n. (listed_at x n).group) index ∙ (t.groups_are i.index i.low ∙ ap (λ n. kept (journal_in x.boot n log)) (sym i.id_is))

pub opened_flag : (x : ShardView) (log : List Item) (g : ℕ) → Told x log → is_opened_id (marks_in log) g ≡ true → (listed_at x (index_of g)).retired ≡ is_retired_id (marks_in log) g
opened_flag x log g t h =
    let i = opened_is x log g t h in
    let index : index_of g ≡ i.index = ap index_of i.id_is ∙ index_of_id x.number i.index t.small in
    ap (λ n. (listed_at x n).retired) index ∙ (t.flags_are i.index i.low ∙ (λ k. is_retired_id (t.marks_are k) (sym i.id_is k)))

-- ONE GROUP CHANGES

pub set_same : (ls : List Listed) (i : ℕ) (l : Listed) → i < length ls → slice_index_or (slice_set ls i l) i unlisted ≡ l
set_same [] i l low = absurd (omega arith)
set_same (x ∷ ls) zero l low = refl
set_same (x ∷ ls) (suc i) l low = set_same ls i l (omega arith)

pub set_other : (ls : List Listed) (i j : ℕ) (l : Listed) → j ≢ i → slice_index_or (slice_set ls i l) j unlisted ≡ slice_index_or ls j unlisted
set_other [] i j l h = refl
set_other (x ∷ ls) zero zero l h = absurd (h refl)
set_other (x ∷ ls) zero (suc j) l h = refl
set_other (x ∷ ls) (suc i) zero l h = refl
set_other (x ∷ ls) (suc i) (suc j) l h = set_other ls i j l (λ e. h (ap suc e))

pub set_length : (ls : List Listed) (i : ℕ) (l : Listed) → length (slice_set ls i l) ≡ length ls
set_length [] i l = refl
set_length (x ∷ ls) zero l = refl
set_length (x ∷ ls) (suc i) l = let r = set_length ls i l in omega arith

-- the history goes on with entries of one group
any_behind : (p : Entry → Bool) (xs ys : List Entry) → list_any p ys ≡ true → list_any p (xs ++ ys) ≡ true
any_behind p [] ys h = h
any_behind p (x ∷ xs) ys h = or_true (p x) (list_any p (xs ++ ys)) (any_behind p xs ys h)
  where
    or_true : (a b : Bool) → b ≡ true → (a || b) ≡ true
    or_true true b h = refl
    or_true false b h = h

pub take_front : {A : Type 0} (xs ys : List A) (q : ℕ) → q < length xs → take q (xs ++ ys) ≡ take q xs
take_front [] ys q low = absurd (omega arith)
take_front (x ∷ xs) ys zero low = refl
take_front (x ∷ xs) ys (suc q) low = ap (λ l. x ∷ l) (take_front xs ys q (omega arith))

marks_same : (g : ℕ) (log : List Item) (es : List Entry) → marks_in (log ++ items_of g es) ≡ marks_in log
marks_same g log es = marks-append log (items_of g es) ∙ ap (λ l. l ++ marks_in log) (marks_items g es)

past_of : (g : ℕ) (log : List Item) (es : List Entry) → past_in g (log ++ items_of g es) ≡ es ++ past_in g log
past_of g log es = past-append g log (items_of g es) ∙ ap (λ l. l ++ past_in g log) (past_items g es)

past_else : (g h : ℕ) (log : List Item) (es : List Entry) → g ≢ h → past_in h (log ++ items_of g es) ≡ past_in h log
past_else g h log es n = past-append h log (items_of g es) ∙ ap (λ l. l ++ past_in h log) (past_others g h es n)

-- what holds of a history holds of it with entries of a group that was opened
story_more : (boot s g : ℕ) (log : List Item) (es : List Entry) → IsStory boot s log → is_opened_id (marks_in log) g ≡ true → IsSound (since (home_of boot g) empty_base (es ++ past_in g log)) → IsStory boot s (log ++ items_of g es)
story_more boot s g log es t open_ sound =
    let marks = marks_same g log es in
    record {
      begins = (t.begins.0 ++ items_of g es, ap (λ l. l ++ items_of g es) t.begins.1);
      sound = λ h. elim (eqb_tells g h) [
        | inl same ↦ subst (λ (n : ℕ). IsSound (journal_in boot n (log ++ items_of g es))) same.1 (subst (λ l. IsSound (since (home_of boot g) empty_base l)) (sym (past_of g log es)) sound)
        | inr apart ↦ subst (λ l. IsSound (since (home_of boot h) empty_base l)) (sym (past_else g h log es apart.1)) (t.sound h)
      ];
      ids = subst (λ m. opened_ids m ≡ first_ids s (length (opened_ids m))) (sym marks) t.ids;
      few = subst (λ m. length (open_ids m) ≤ 64) (sym marks) t.few;
      unopened = λ h no. elim (eqb_tells g h) [
        | inl same ↦ absurd (let yes : is_opened_id (marks_in (log ++ items_of g es)) h ≡ true = (λ k. is_opened_id (marks k) (sym same.1 k)) ∙ open_ in let f = sym no ∙ yes in cc)
        | inr apart ↦ past_else g h log es apart.1 ∙ t.unopened h (ap (λ m. is_opened_id m h) (sym marks) ∙ no)
      ];
      joined = λ h there. elim (eqb_tells g h) [
        | inl same ↦ subst (λ (n : ℕ). list_any is_join (past_in n (log ++ items_of g es)) ≡ true) same.1
            (subst (λ l. list_any is_join l ≡ true) (sym (past_of g log es)) (any_behind is_join es (past_in g log) (t.joined g open_)))
        | inr apart ↦ ap (list_any is_join) (past_else g h log es apart.1) ∙ t.joined h (ap (λ m. is_opened_id m h) (sym marks) ∙ there)
      ];
      ended = λ q h at. dite (dec_lt q (length log))
          (λ low. ap (λ l. list_any is_shut (past_in h l)) (take_front log (items_of g es) q low) ∙ t.ended q h (sym (at_append log (items_of g es) q low) ∙ at))
          (λ high. absurd (no_mark g (reverse es) (q - length log) (Retired h)
          (sym (at_behind log (items_of g es) (q - length log)) ∙ (ap (get_elem? (log ++ items_of g es)) (let e : length log + (q - length log) ≡ q = omega arith in e) ∙ at))));
    }
  where
    no_mark : (g : ℕ) (es : List Entry) (k : ℕ) (m : Mark) → get_elem? (map (Of g) es) k ≡ some (Marked m) → ⊥
    no_mark g [] k m at = absurd (some-ne-none (Marked m) (sym at))
    no_mark g (e ∷ es) zero m at = let same : Of g e ≡ Marked m = some-injective (Of g e) (Marked m) at in absurd cc
    no_mark g (e ∷ es) (suc k) m at = no_mark g es k m at

-- A group that was opened changed, and keeps its journal with some entries more: the shard tells the history with these, and
-- the answer is by the whole journal.
pub acted : (x y : ShardView) (log : List Item) (g : ℕ) (l : Listed) (Says : History → History → Type 0) (added : ℕ) → Told x log → is_opened_id (marks_in log) g ≡ true → Touched x g l y
    → (k : Keeps (home_of x.boot g) (past_in g log) l.group Says) → length k.es ≡ added → Acted x y log added (λ more. Answers x.boot g log more Says)
acted x y log g l Says added t open_ touched k n =
    let id = opened_is x log g t open_ in
    let has = opened_has x log g t open_ in
    let index : index_of g ≡ id.index = ap index_of id.id_is ∙ index_of_id x.number id.index t.small in
    let marks = marks_same g log k.es in
    let groups : y.groups ≡ slice_set x.groups (index_of g) l = ap (λ (z : ShardView). z.groups) touched.is in
    let boot : y.boot ≡ x.boot = ap (λ (z : ShardView). z.boot) touched.is in
    let number : y.number ≡ x.number = ap (λ (z : ShardView). z.number) touched.is in
    let marks_is : y.marks ≡ x.marks = ap (λ (z : ShardView). z.marks) touched.is in
    let count : length y.groups ≡ length x.groups = ap length groups ∙ set_length x.groups (index_of g) l in
    let here : listed_at y (index_of g) ≡ l = ap (λ ls. slice_index_or ls (index_of g) unlisted) groups ∙ set_same x.groups (index_of g) l has.1 in
    let else_ : (i : ℕ) → i ≢ index_of g → listed_at y i ≡ listed_at x i = λ i d. ap (λ ls. slice_index_or ls i unlisted) groups ∙ set_other x.groups (index_of g) i l d in
    let same_is : (i : ℕ) → i ≡ index_of g → id_of x.number i ≡ g = λ i e. ap (id_of x.number) (e ∙ index) ∙ sym id.id_is in
    let apart_is : (i : ℕ) → i ≢ index_of g → g ≢ id_of x.number i = λ i d e. d (sym (ap index_of e ∙ index_of_id x.number i t.small)) in
    record {
      more = items_of g k.es;
      count = length_items g k.es ∙ n;
      newest = λ h. elim (eqb_tells g h) [
        | inl same ↦ subst (λ (m : ℕ). length (past_in m (items_of g k.es)) ≤ length (group_of y m).past) same.1
            (subst (λ p. length p ≤ length (group_of y g).past) (sym (past_items g k.es)) (subst (λ (z : Listed). length k.es ≤ length z.group.past) (sym here) k.new_is))
        | inr apart ↦ subst (λ p. length p ≤ length (group_of y h).past) (sym (past_others g h k.es apart.1)) (omega arith)
      ];
      told = record {
        story = subst (λ (b : ℕ). IsStory b y.number (log ++ items_of g k.es)) (sym boot) (subst (λ (s : ℕ). IsStory x.boot s (log ++ items_of g k.es)) (sym number) (story_more x.boot x.number g log k.es t.story open_ k.sound));
        small = subst (λ (s : ℕ). s < 16) (sym number) t.small;
        marks_are = marks_is ∙ (t.marks_are ∙ sym marks);
        count = count ∙ (t.count ∙ ap (λ m. length (opened_ids m)) (sym marks_is));
        open_is = ap (λ (z : ShardView). z.open_groups) touched.is ∙ (t.open_is ∙ ap (λ m. length (open_ids m)) (sym marks_is));
        groups_are = λ i low. dite (ℕ_discrete i (index_of g))
            (λ (e : i ≡ index_of g). ap (λ n. (listed_at y n).group) e ∙ (ap (λ (z : Listed). z.group) here ∙ (k.kept_is
            ∙ (ap (kept_since (home_of x.boot g)) (sym (past_of g log k.es)) ∙ (λ j. kept (journal_in (sym boot j) ((sym (same_is i e) ∙ ap (λ (s : ℕ). id_of s i) (sym number)) j) (log ++ items_of g k.es)))))))
            (λ d. ap (λ (z : Listed). z.group) (else_ i d) ∙ (t.groups_are i (omega (arith, count, low))
            ∙ (ap (kept_since (home_of x.boot (id_of x.number i))) (sym (past_else g (id_of x.number i) log k.es (apart_is i d))) ∙ (λ j. kept (journal_in (sym boot j) (id_of (sym number j) i) (log ++ items_of g k.es))))));
        flags_are = λ i low. dite (ℕ_discrete i (index_of g))
            (λ (e : i ≡ index_of g). ap (λ n. (listed_at y n).retired) e ∙ (ap (λ (z : Listed). z.retired) here ∙ (touched.flag ∙ (ap (λ n. (listed_at x n).retired) (sym e)
            ∙ (t.flags_are i (omega (arith, count, low)) ∙ (λ j. is_retired_id (sym marks_is j) (id_of (sym number j) i)))))))
            (λ d. ap (λ (z : Listed). z.retired) (else_ i d) ∙ (t.flags_are i (omega (arith, count, low)) ∙ (λ j. is_retired_id (sym marks_is j) (id_of (sym number j) i))));
      };
      gives = (k.es, refl, k.answers);
    }

-- nothing changed
pub acted_none : (x : ShardView) (log : List Item) (Gives : List Item → Type 0) → Told x log → Gives [] → Acted x x log 0 Gives
acted_none x log Gives t gives = record {
  more = [];
  count = refl;
  newest = λ g. omega arith;
  told = subst (Told x) (sym (append-nil log)) t;
  gives = gives;
}

-- a group that is there, whatever stands for one that isn't
pub any_default : (ls : List Listed) (i : ℕ) (a b : Listed) → i < length ls → slice_index_or ls i a ≡ slice_index_or ls i b
any_default [] i a b low = absurd (omega arith)
any_default (x ∷ ls) zero a b low = refl
any_default (x ∷ ls) (suc i) a b low = any_default ls i a b (omega arith)
