-- What stands behind the limits for which binds are refused.
use Rattle.std.proofs.Common.{◌≡◌, ◌≢◌, ◌⊎◌, ◌∙◌, ℕ, suc, ◌+◌, ◌*◌, ◌^◌, ◌<◌, ◌≤◌, ◌==◌, nat_lt, nat_le, Bool, true, not, None, List, [], ◌∷◌, ◌++◌, length, refl, sym, ap, subst, arith, inl, inr, filter, length-append}
use Rattle.std.specs.List.{list_any}
use Rattle.std.proofs.lemmas.Bool.{cases_Bool}
use Rattle.std.proofs.lemmas.Bool.Decides.{nat_tests}
use Rattle.std.proofs.lemmas.List.Elements.{filter_map-append}
use Rattle.turn_lock.specs.Histories.{StartsWith}
use Rattle.handle_model.specs.declared.entry.Home.{Home}
use Rattle.handle_model.specs.declared.entry.Entry.{Entry}
use Rattle.handle_model.specs.declared.entry.Entry.TheVariants.{Join, Accept, Take, Deny, Cancel, Orphan, End, Leave, Shut}
use Rattle.handle_model.specs.Journal.{is_open, join_count, joined, conns}
use Rattle.handle_model.specs.Limits.{join_limit, join_limit_at}
use Rattle.hub_story.specs.declared.item.Mark.{Mark}
use Rattle.hub_story.specs.declared.item.Item.{Item}
use Rattle.hub_story.specs.Directories.{opened_by, opened_ids, open_ids, is_open_id, is_opened_id, is_full, is_used_up, next_id, id_of}
use Rattle.hub_story.specs.Histories.{marks_in, past_in, home_of, journal_in, IsStory}
use Rattle.hub_story.proofs.ItemLemmas.{past-append, marks-append}
use Rattle.hub_shard.proofs.TellLemmas.{opened_among, first_there}
use Rattle.server_ends.specs.Joins.{NoRoom}
use Rattle.conn_histories.specs.Tales.{whole}

fewer : {X : Type 0} (p : X → Bool) (xs : List X) → length (filter p xs) ≤ length xs
fewer p [] = omega arith
fewer p (x ∷ xs) = elim (cases_Bool (p x)) [
  | inl t ↦ rw t (let r = fewer p xs in omega (arith, r))
  | inr f ↦ rw f (let r = fewer p xs in omega (arith, r))
]

not_low : (a b : ℕ) → not (nat_lt a b) ≡ true → b ≤ a
not_low a b h = grind (arith, nat_tests, h)

-- ---- ids

opened_later : (moment log : List Item) → StartsWith log moment → length (opened_ids (marks_in moment)) ≤ length (opened_ids (marks_in log))
opened_later moment log starts =
    let both : opened_ids (marks_in log) ≡ opened_ids (marks_in starts.0) ++ opened_ids (marks_in moment) =
    ap (λ l. opened_ids (marks_in l)) starts.1 ∙ (ap opened_ids (marks-append moment starts.0) ∙ filter_map-append opened_by (marks_in starts.0) (marks_in moment)) in
    let size = ap length both ∙ length-append (opened_ids (marks_in starts.0)) (opened_ids (marks_in moment)) in
    omega (arith, size)

-- a shard without room had at least 64 groups
room_count : (s : ℕ) (marks : List Mark) → s < 16 → (is_full marks ≡ true) ⊎ (is_used_up s marks ≡ true) → 64 ≤ length (opened_ids marks)
room_count s marks low (inl full) =
    let some = not_low (length (open_ids marks)) 64 full in let most = fewer (is_open_id marks) (opened_ids marks) in omega (arith, some, most)
room_count s marks low (inr used) = by_next (length (opened_ids marks)) (not_low (next_id s marks) (2 ^ 32) used)
  where
    by_next : (n : ℕ) → 2 ^ 32 ≤ s + 1 + 16 * n → 64 ≤ n
    by_next n h = omega (arith, h, low)

pub room_is_taken : (boot s n : ℕ) (moment log : List Item) → s < 16 → n < 64 → IsStory boot s log → StartsWith log moment → NoRoom s moment
    → is_opened_id (marks_in log) (id_of s n) ≡ true
room_is_taken boot s n moment log low few story starts none =
    let count = room_count s (marks_in moment) low none in
    let later = opened_later moment log starts in
    let there = first_there s (length (opened_ids (marks_in log))) n (omega (arith, count, later, few)) in
    opened_among (marks_in log) (id_of s n) ∙ (ap (list_any (λ m. m == id_of s n)) story.ids ∙ there)

-- ---- joins

joined_count : (home : Home) (past : List Entry) → length (joined (whole home past)) ≡ join_count (whole home past)
joined_count home [] = refl
joined_count home (Join c ∷ past) = ap suc (joined_count home past)
joined_count home (Accept m a ∷ past) = joined_count home past
joined_count home (Take m cookies ∷ past) = joined_count home past
joined_count home (Deny m slot ∷ past) = joined_count home past
joined_count home (Cancel m ∷ past) = joined_count home past
joined_count home (Orphan m ∷ past) = joined_count home past
joined_count home (End m results said ∷ past) = joined_count home past
joined_count home (Leave d ∷ past) = joined_count home past
joined_count home (Shut items ∷ past) = joined_count home past

joins_later : (home : Home) (newer past : List Entry) → join_count (whole home past) ≤ join_count (whole home (newer ++ past))
joins_later home [] past = omega arith
joins_later home (Join c ∷ newer) past = let r = joins_later home newer past in omega (arith, r)
joins_later home (Accept m a ∷ newer) past = joins_later home newer past
joins_later home (Take m cookies ∷ newer) past = joins_later home newer past
joins_later home (Deny m slot ∷ newer) past = joins_later home newer past
joins_later home (Cancel m ∷ newer) past = joins_later home newer past
joins_later home (Orphan m ∷ newer) past = joins_later home newer past
joins_later home (End m results said ∷ newer) past = joins_later home newer past
joins_later home (Leave d ∷ newer) past = joins_later home newer past
joins_later home (Shut items ∷ newer) past = joins_later home newer past

limit_count : (some joins : ℕ) → some ≤ joins → join_limit_at some (joins + 1) ≢ None → 64 ≤ joins
limit_count some joins most limited = elim (cases_Bool (nat_le 64 some)) [
  | inl t ↦ let high = at_least 64 some t in omega (arith, high, most)
  | inr f ↦ elim (cases_Bool (nat_le (2 ^ 32) (joins + 1))) [
    | inl t ↦ let high = at_least (2 ^ 32) (joins + 1) t in omega (arith, high)
    | inr g ↦ absurd (limited (rw (f, g) refl))
  ]
]
  where
    at_least : (a b : ℕ) → nat_le a b ≡ true → a ≤ b
    at_least a b h = grind (arith, nat_tests, h)

pub joins_are_taken : (boot g : ℕ) (moment log : List Item) → StartsWith log moment → join_limit (journal_in boot g moment) ≢ None
    → 64 ≤ join_count (journal_in boot g log)
joins_are_taken boot g moment log starts limited =
    let home = home_of boot g in
    let past = past_in g moment in
    let most = fewer (is_open (whole home past)) (joined (whole home past)) in
    let all = joined_count home past in
    let count = limit_count (length (conns (whole home past))) (join_count (whole home past)) (omega (arith, most, all)) limited in
    let later = joins_later home (past_in g starts.0) past in
    let is : past_in g log ≡ past_in g starts.0 ++ past = ap (past_in g) starts.1 ∙ past-append g moment starts.0 in
    subst (λ l. 64 ≤ join_count (whole home l)) (sym is) (omega (arith, count, later))
