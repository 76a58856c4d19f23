-- Of two ids of a shard, of which one was opened and the other was not, the first is less.
use Rattle.std.proofs.Common.{◌≡◌, ◌==◌, ◌∙◌, ℕ, zero, suc, ◌+◌, ◌-◌, ◌*◌, ◌/◌, ◌%◌, ◌≤◌, ◌<◌, true, false, inl, inr, List, length, refl, sym, ap, subst, arith}
use Rattle.std.specs.List.{list_any}
use Rattle.std.proofs.lemmas.Bool.Decides.{eqb_tells}
use mathlib.Core.Logic.{dite}
use native.Mathlib.Decide.{dec_lt}
use Rattle.hub_story.specs.declared.item.Item.{Item}
use Rattle.hub_story.specs.Directories.{opened_ids, is_opened_id, id_of, index_of, first_ids}
use Rattle.hub_story.specs.Histories.{marks_in, IsStory}
use Rattle.hub_shard.proofs.TellLemmas.{opened_among, first_there, IsId}
use Rattle.group_hub.specs.Shards.{shard_of}

among_first : (s n g : ℕ) → list_any (λ m. m == g) (first_ids s n) ≡ true → IsId s n g
among_first s zero g h = absurd cc
among_first s (suc n) g h = elim (eqb_tells (id_of s n) g) [
  | inl same ↦ record { index = n; low = omega arith; id_is = sym same.1 }
  | inr apart ↦ let r = among_first s n g (rw apart.0 at h) in let l = r.low in record { index = r.index; low = omega arith; id_is = r.id_is }
]

-- an id by its shard and its index there
by_index : (g : ℕ) → 1 ≤ g → g ≡ id_of (shard_of g) (index_of g)
by_index g low = omega (arith, low)

less_index : (s i j : ℕ) → id_of s i ≤ id_of s j → i ≤ j
less_index s i j low = omega (arith, low)

module _ (boot s : ℕ) (log : List Item) (t : IsStory boot s log) where
  abbrev count : ℕ
  count = length (opened_ids (marks_in log))

  opened_is : (g : ℕ) → is_opened_id (marks_in log) g ≡ true → IsId s count g
  opened_is g there = among_first s count g (ap (list_any (λ m. m == g)) (sym t.ids) ∙ (sym (opened_among (marks_in log) g) ∙ there))

  first_opened : (i : ℕ) → i < count → is_opened_id (marks_in log) (id_of s i) ≡ true
  first_opened i low = opened_among (marks_in log) (id_of s i) ∙ (ap (list_any (λ m. m == id_of s i)) t.ids ∙ first_there s count i low)

  -- every id of the shard below one that was opened was
  pub opened_below : (g h : ℕ) → 1 ≤ h → shard_of h ≡ s → h ≤ g → is_opened_id (marks_in log) g ≡ true → is_opened_id (marks_in log) h ≡ true
  opened_below g h one of low there =
      let r = opened_is g there in
      let h_is : h ≡ id_of s (index_of h) = by_index h one ∙ ap (λ u. id_of u (index_of h)) of in
      let below : index_of h ≤ r.index = less_index s (index_of h) r.index (subst (λ x. x ≤ id_of s r.index) h_is (subst (λ x. h ≤ x) r.id_is low)) in
      let l = r.low in
      let less : index_of h < count = omega (arith, l, below) in
      ap (is_opened_id (marks_in log)) h_is ∙ first_opened (index_of h) less

  pub opened_less : (g h : ℕ) → 1 ≤ h → shard_of h ≡ s → is_opened_id (marks_in log) g ≡ true → is_opened_id (marks_in log) h ≡ false → g < h
  opened_less g h one of there not_there =
      dite (dec_lt g h) (λ less. less) (λ d. absurd (let e = sym not_there ∙ opened_below g h one of (omega (arith, d)) there in cc))
