-- Folds of one journal at two moments.
use Rattle.std.proofs.Common.{◌≡◌, ◌⊎◌, ℕ, ◌≤◌, List, [], ◌∷◌, ◌++◌, length, refl, sym, ◌∙◌, ap, subst, inl, inr, arith, length-append}
use Rattle.std.proofs.lemmas.List.{append_assoc}
use Rattle.turn_lock.specs.Histories.{StartsWith}
use Rattle.handle_model.specs.declared.entry.Home.{Home}
use Rattle.handle_model.specs.declared.entry.Entry.{Entry}
use Rattle.handle_model.specs.Bases.{empty_base}
use Rattle.handle_model.specs.Folds.{advance}
use Rattle.handle_model.specs.History.{History, since, size}
use Rattle.handle_model.specs.Journal.{Legal}
use Rattle.handle_model.proofs.Older.{older_since}
use Rattle.journal_tables.proofs.Advanced.{advance_twice}
use Rattle.journal_tables.specs.FoldOf.{IsFoldOf}
use Rattle.hub_story.specs.declared.item.Item.{Item}
use Rattle.hub_story.specs.Histories.{home_of, past_in, journal_in, IsStory}
use Rattle.hub_story.specs.Folded.{kept_since}
use Rattle.hub_story.proofs.ItemLemmas.{past-append}
use Rattle.hub_story.proofs.FoldLemmas.{kept_folds}
use Rattle.hub_story.specs.Prefixes.{StandsAt, BaseGoesOn, IsFoldedPrefix}
use Rattle.hub_story.specs.FrontLaws.{kept_in}

-- LISTS

module _ {A : Type 0} where
  abbrev head_or : A → List A → A
  head_or x [] = x
  head_or x (y ∷ ys) = y

  abbrev tail_of : List A → List A
  tail_of [] = []
  tail_of (y ∷ ys) = ys

  -- behind fronts of the same length the rest is the same
  same_rest : (a c b d : List A) → length a ≡ length c → a ++ b ≡ c ++ d → b ≡ d
  same_rest [] [] b d n e = e
  same_rest [] (y ∷ c) b d n e = absurd cc
  same_rest (x ∷ a) [] b d n e = absurd cc
  same_rest (x ∷ a) (y ∷ c) b d n e = let m : length a ≡ length c = omega arith in same_rest a c b d m (ap tail_of e)

  -- rests of the same length are the same
  pub same_tail : (a c b d : List A) → a ++ b ≡ c ++ d → length b ≡ length d → b ≡ d
  same_tail a c b d e n =
      let left = length-append a b in
      let right = length-append c d in
      let whole : length (a ++ b) ≡ length (c ++ d) = ap length e in
      same_rest a c b d (omega arith) e

  -- of two fronts of one list, one begins with the other
  pub two_fronts : (a b r s : List A) → a ++ r ≡ b ++ s → StartsWith b a ⊎ StartsWith a b
  two_fronts [] b r s e = inl (b, refl)
  two_fronts (x ∷ a) [] r s e = inr (x ∷ a, refl)
  two_fronts (x ∷ a) (y ∷ b) r s e =
      let same : x ≡ y = ap (head_or x) e in
      elim (two_fronts a b r s (ap tail_of e)) [
        | inl t ↦ inl (t.0, ap (λ l. y ∷ l) t.1 ∙ ap (λ z. z ∷ (a ++ t.0)) (sym same))
        | inr t ↦ inr (t.0, ap (λ l. x ∷ l) t.1 ∙ ap (λ z. z ∷ (b ++ t.0)) same)
      ]

-- TWO FOLDS

count_is : (home : Home) (past : List Entry) → (advance home empty_base past).count ≡ length past
count_is home [] = refl
count_is home (e ∷ past) = let n = count_is home past in omega arith

module _ (home : Home) (es n1 o1 n2 o2 : List Entry) (whole : es ++ (n1 ++ o1) ≡ n2 ++ o2) where
  abbrev x : History
  x = since home (advance home empty_base o1) n1

  abbrev y : History
  y = since home (advance home empty_base o2) n2

  short_so : size x ≤ size y
  short_so =
      let a = count_is home o1 in
      let b = count_is home o2 in
      let c : length (es ++ (n1 ++ o1)) ≡ length (n2 ++ o2) = ap length whole in
      let d = length-append es (n1 ++ o1) in
      let e = length-append n1 o1 in
      let f = length-append n2 o2 in
      omega arith

  same_so : (place : ℕ) (d e : Entry) → StandsAt x place d → StandsAt y place e → d ≡ e
  same_so place d e a b =
      let left : (es ++ a.newer) ++ (d ∷ (a.older ++ o1)) ≡ es ++ (n1 ++ o1) =
      append_assoc es a.newer (d ∷ (a.older ++ o1)) ∙ ap (λ l. es ++ l) (sym (append_assoc a.newer (d ∷ a.older) o1) ∙ ap (λ l. l ++ o1) (sym a.past_is)) in
      let right : n2 ++ o2 ≡ b.newer ++ (e ∷ (b.older ++ o2)) = ap (λ l. l ++ o2) b.past_is ∙ append_assoc b.newer (e ∷ b.older) o2 in
      let m = count_is home o1 in
      let n = count_is home o2 in
      let u = length-append a.older o1 in
      let v = length-append b.older o2 in
      let s = a.place_is in
      let t = b.place_is in
      ap (head_or d) (same_tail (es ++ a.newer) b.newer (d ∷ (a.older ++ o1)) (e ∷ (b.older ++ o2)) (left ∙ (whole ∙ right)) (omega arith))

  later_so : BaseGoesOn x y
  later_so newer between past_is count =
      let left : (es ++ newer) ++ (between ++ o1) ≡ es ++ (n1 ++ o1) =
      append_assoc es newer (between ++ o1) ∙ ap (λ l. es ++ l) (sym (append_assoc newer between o1) ∙ ap (λ l. l ++ o1) (sym past_is)) in
      let m = count_is home o1 in
      let n = count_is home o2 in
      let u = length-append between o1 in
      let same : between ++ o1 ≡ o2 = same_tail (es ++ newer) n2 (between ++ o1) o2 (left ∙ whole) (omega arith) in
      ap (advance home empty_base) (sym same) ∙ advance_twice home empty_base between o1

  earlier_so : BaseGoesOn y x
  earlier_so newer between past_is count =
      let right : n2 ++ o2 ≡ newer ++ (between ++ o2) = ap (λ l. l ++ o2) past_is ∙ append_assoc newer between o2 in
      let m = count_is home o1 in
      let n = count_is home o2 in
      let u = length-append between o2 in
      let same : o1 ≡ between ++ o2 = same_tail (es ++ n1) newer o1 (between ++ o2) (append_assoc es n1 o1 ∙ (whole ∙ right)) (omega arith) in
      ap (advance home empty_base) same ∙ advance_twice home empty_base between o2

  prefix_so : IsFoldedPrefix x y
  prefix_so = record { home_is = refl; short = short_so; same = same_so; later_base = later_so; earlier_base = earlier_so }

pub folds_prefix : (home : Home) (es past : List Entry) (f g : History) → IsFoldOf f (since home empty_base past) → IsFoldOf g (since home empty_base (es ++ past)) → IsFoldedPrefix f g
folds_prefix home es past f g a b =
    subst (λ z. IsFoldedPrefix z g) (sym a.fold_is) (subst (λ z. IsFoldedPrefix (since home (advance home empty_base a.older) a.newer) z) (sym b.fold_is)
    (prefix_so home es a.newer a.older b.newer b.older (ap (λ l. es ++ l) (sym a.past_is) ∙ b.past_is)))

-- WHAT A GROUP KEEPS

pub kept_on : (home : Home) (newer older : List Entry) → Legal (since home empty_base (newer ++ older)) → IsFoldedPrefix (kept_since home older) (kept_since home (newer ++ older))
kept_on home newer older l =
    folds_prefix home newer older (kept_since home older) (kept_since home (newer ++ older)) (kept_folds home older (older_since home empty_base newer older l)) (kept_folds home (newer ++ older) l)

pub front_on : (boot g : ℕ) (front rest later : List Item) → later ≡ front ++ rest → Legal (journal_in boot g later) → IsFoldedPrefix (kept_in boot g front) (kept_in boot g later)
front_on boot g front rest later is l =
    let past : past_in g later ≡ past_in g rest ++ past_in g front = ap (past_in g) is ∙ past-append g front rest in
    subst (λ p. IsFoldedPrefix (kept_in boot g front) (kept_since (home_of boot g) p)) (sym past)
    (kept_on (home_of boot g) (past_in g rest) (past_in g front) (subst (λ p. Legal (since (home_of boot g) empty_base p)) past l))

pub front_legal : (boot s g : ℕ) (history front : List Item) → IsStory boot s history → StartsWith history front → Legal (journal_in boot g front)
front_legal boot s g history front story starts =
    let past : past_in g history ≡ past_in g starts.0 ++ past_in g front = ap (past_in g) starts.1 ∙ past-append g front starts.0 in
    older_since (home_of boot g) empty_base (past_in g starts.0) (past_in g front) (subst (λ p. Legal (since (home_of boot g) empty_base p)) past (story.sound g).legal)

pub fronts_are : (boot s g : ℕ) (history one other : List Item) → IsStory boot s history → StartsWith history one → StartsWith history other
    → IsFoldedPrefix (kept_in boot g one) (kept_in boot g other) ⊎ IsFoldedPrefix (kept_in boot g other) (kept_in boot g one)
fronts_are boot s g history one other story a b =
    elim (two_fronts one other a.0 b.0 (sym a.1 ∙ b.1)) [
      | inl t ↦ inl (front_on boot g one t.0 other t.1 (front_legal boot s g history other story b))
      | inr t ↦ inr (front_on boot g other t.0 one t.1 (front_legal boot s g history one story a))
    ]
