-- One part printed behind another.
use Rattle.std.proofs.Common.{◌≡◌, ℕ, zero, suc, ◌+◌, ◌<◌, ◌≤◌, Bool, true, false, List, [], ◌∷◌, ◌++◌, take, length, get_or, Some, refl, sym, ap, ◌∙◌, subst, append-nil, append_assoc, add-one}
use Rattle.std.specs.List.{flat_map}
use Rattle.std.proofs.lemmas.Grind.{flat_map-append}
use Rattle.std.proofs.lemmas.List.{take_more, take_all}
use Rattle.idl_tokens.specs.declared.marks.Mark.TheVariants as marks
use Rattle.idl_tokens.specs.declared.kinds.Kind.{Kind}
use Rattle.idl_tokens.specs.declared.kinds.Kind.TheVariants as kinds
use Rattle.idl_print.specs.declared.page.Page.{Page}
use Rattle.idl_print.specs.Pages.{Puts}
use Rattle.idl_print.proofs.Joins.{puts_join, puts_none}
use Rattle.idl_tree.specs.declared.leaf.Num.{Num}
use Rattle.idl_tree.specs.Pieces.{Pieces, placed, mark_pieces, number_pieces, num_pieces, if_mark, star_pieces}
use Rattle.idl_print.specs.Canonical.{kind_of, kinds_in}
use Rattle.idl_print.specs.Prints.{Prints}

-- ---- one behind another

kinds_join : (ps qs : Pieces) → kinds_in (ps ++ qs) ≡ kinds_in ps ++ kinds_in qs
kinds_join [] qs = refl
kinds_join (p ∷ ps) qs = ap (λ x. kind_of p.what ∷ x) (kinds_join ps qs)

pub prints_join : (ps qs : Pieces) (a b c : Page) → Prints ps a b → Prints qs b c → Prints (ps ++ qs) a c
unfolding Prints
prints_join ps qs a b c p q = subst (λ (x : List Kind). Puts x a c) (sym (kinds_join ps qs)) (puts_join (kinds_in ps) (kinds_in qs) a b c p q)

pub prints_none : (a : Page) → Prints [] a a
unfolding Prints
prints_none a = puts_none a

kinds_placed : (at : ℕ) (ps : Pieces) → kinds_in (placed at ps) ≡ kinds_in ps
kinds_placed at [] = refl
kinds_placed at (p ∷ ps) = refl

pub prints_placed : (at : ℕ) (ps : Pieces) (a b : Page) → Prints ps a b → Prints (placed at ps) a b
unfolding Prints
prints_placed at ps a b p = subst (λ (x : List Kind). Puts x a b) (sym (kinds_placed at ps)) p

pub ruleset printing = (prints_join, prints_none, prints_placed)

-- ---- numbers and stars

num_kinds : (minus : Bool) (at value : ℕ) → kinds_in (num_pieces (record { at = at; minus = minus; value = value })) ≡ kinds_in (if_mark minus marks.Minus) ++ kinds.Number (Some value) ∷ []
unfolding num_pieces if_mark mark_pieces number_pieces
num_kinds true at value = refl
num_kinds false at value = refl

pub prints_num : (n : Num) (a b c : Page) → Prints (if_mark n.minus marks.Minus) a b → Puts (kinds.Number (Some n.value) ∷ []) b c → Prints (num_pieces n) a c
unfolding Prints
prints_num n a b c p q = subst (λ (x : List Kind). Puts x a c) (sym (num_kinds n.minus n.at n.value)) (puts_join (kinds_in (if_mark n.minus marks.Minus)) (kinds.Number (Some n.value) ∷ []) a b c p q)

star_push : (n : ℕ) → star_pieces (suc n) ≡ star_pieces n ++ mark_pieces marks.Star
unfolding star_pieces
star_push zero = append-nil (mark_pieces marks.Star)
star_push (suc n) = ap (λ x. mark_pieces marks.Star ++ x) (star_push n) ∙ sym (append_assoc (mark_pieces marks.Star) (star_pieces n) (mark_pieces marks.Star))

pub stars_none : (a : Page) → Prints (star_pieces 0) a a
unfolding star_pieces
stars_none a = prints_none a

pub stars_more : (n : ℕ) (a b c : Page) → Prints (star_pieces n) a b → Prints (mark_pieces marks.Star) b c → Prints (star_pieces (n + 1)) a c
stars_more n a b c p q = subst (λ (x : Pieces). Prints x a c) (sym (ap star_pieces (add-one n) ∙ star_push n)) (prints_join _ _ a b c p q)

pub ruleset stars = (stars_none, stars_more)

-- ---- lists

module _ {A : Type 0} (f : A → Pieces) where
  pub each_none : (xs : List A) (a : Page) → Prints (flat_map f (take 0 xs)) a a
  each_none xs a = prints_none a

  pub each_more : (xs : List A) (i : ℕ) (d : A) (a b c : Page) → i < length xs → Prints (flat_map f (take i xs)) a b → Prints (f (get_or xs i d)) b c → Prints (flat_map f (take (i + 1) xs)) a c
  each_more xs i d a b c h p q =
      let x : A = get_or xs i d in
      let e : flat_map f (take (i + 1) xs) ≡ flat_map f (take i xs) ++ f x =
      ap (flat_map f) (take_more xs i d h) ∙ flat_map-append f (take i xs) (x ∷ []) ∙ ap (λ v. flat_map f (take i xs) ++ v) (append-nil (f x)) in
      subst (λ (v : Pieces). Prints v a c) (sym e) (prints_join _ _ a b c p q)

  pub each_all : (xs : List A) (i : ℕ) (a b : Page) → length xs ≤ i → Prints (flat_map f (take i xs)) a b → Prints (flat_map f xs) a b
  each_all xs i a b h p = subst (λ (v : List A). Prints (flat_map f v) a b) (take_all i xs h) p

-- as a loop knows them
pub each_step : {A : Type 0} (f : A → Pieces) (xs : List A) (i : ℕ) (x : A) (a b c : Page) → i < length xs → x ≡ get_or xs i x
    → Prints (flat_map f (take i xs)) a b → Prints (f x) b c → Prints (flat_map f (take (i + 1) xs)) a c
each_step f xs i x a b c h e p q = each_more f xs i x a b c h p (subst (λ y. Prints (f y) b c) e q)

pub comma_step : {A : Type 0} (f : A → Pieces) (xs : List A) (i : ℕ) (x : A) (a b m c : Page) → i < length xs → x ≡ get_or xs i x
    → Prints (flat_map (λ y. mark_pieces marks.Comma ++ f y) (take i xs)) a b → Prints (mark_pieces marks.Comma) b m → Prints (f x) m c
    → Prints (flat_map (λ y. mark_pieces marks.Comma ++ f y) (take (i + 1) xs)) a c
comma_step f xs i x a b m c h e p q r = each_step (λ y. mark_pieces marks.Comma ++ f y) xs i x a b c h e p (prints_join _ _ b m c q r)

pub ruleset lists = (prints_none, each_more, each_all)

pub ruleset commas = (prints_none, each_all)
