-- Tokens as a tree sees them, and how parts are read off them.
use Rattle.std.proofs.Common.{◌≡◌, ℕ, suc, ◌≤◌, ◌+◌, Bool, true, false, ◌||◌, ◌&&◌, eqb, List, [], ◌∷◌, ◌++◌, length, refl, ap, sym, ◌∙◌, subst, arith, inl, inr}
use Rattle.std.specs.Prelude.{if◌then◌else◌}
use Rattle.std.proofs.lemmas.Bool.{eqb-true, eq-eqb}
use Rattle.std.proofs.Math.Bool.{or-false}
use Rattle.idl_tokens.specs.Ebnf.{has}
use Rattle.idl_tokens.specs.Checks.{apart}
use Rattle.idl_tokens.proofs.Sound.{and_both}
use Rattle.idl_tokens.proofs.Sets.{are_apart, has_either, has_left, has_right, or_left}
use Rattle.idl_tokens.specs.declared.kinds.Kind.{Kind}
use Rattle.idl_tokens.specs.declared.kinds.Kind.TheVariants as kinds
use Rattle.idl_tokens.specs.declared.kinds.Token.{Token}
use Rattle.idl_tokens.specs.Terminals.{terminal, opening, bad_class}
use Rattle.idl_tree.specs.Pieces.{What, Of, Opens, Piece, Pieces, Stands, AreAt, Front, placed}

-- ---- what is seen of a token: not its level

abbrev pub without_level : Kind → What
without_level (kinds.Open b level) = Opens b
without_level k = Of k

abbrev pub bare : What → What
bare (Of k) = without_level k
bare (Opens b) = Opens b

abbrev pub class : What → ℕ
class (Of k) = (terminal k).class
class (Opens b) = opening b

pub record Seen : Type 0 where
  pub what : What
  pub at : ℕ

-- no token's class
abbrev no_class : ℕ
no_class = 99

-- the first one's class; behind the end no class
abbrev pub head : List Seen → ℕ
head [] = no_class
head (s ∷ ss) = class s.what

abbrev pub place : List Seen → ℕ
place [] = 0
place (s ∷ ss) = s.at

abbrev pub tail : List Seen → List Seen
tail [] = []
tail (s ∷ ss) = ss

-- none is what no grammar takes
abbrev pub Clean : List Seen → Type 0
Clean [] = Unit {0}
Clean (s ∷ ss) = (class s.what ≡ bad_class → ⊥) × Clean ss

-- each place is moved
abbrev pub seen : (ℕ → ℕ) → List Token → List Seen
seen f [] = []
seen f (t ∷ ts) = record { what = without_level t.kind; at = f t.at } ∷ seen f ts

abbrev pub AllAt : (ℕ → ℕ) → ℕ → List ℕ → Type 0
AllAt f at [] = Unit {0}
AllAt f at (p ∷ ps) = (f p ≡ at) × AllAt f at ps

-- the pieces, and then rest
abbrev pub Shown : (ℕ → ℕ) → Pieces → List Seen → List Seen → Type 0
Shown f [] ss rest = ss ≡ rest
Shown f (p ∷ ps) [] rest = ⊥
Shown f (p ∷ ps) (s ∷ ss) rest = (s.what ≡ bare p.what) × AllAt f s.at p.places × Shown f ps ss rest

-- they begin with a token of these classes
abbrev pub heads : List ℕ → Pieces → Bool
heads cs [] = false
heads cs (p ∷ ps) = has (class p.what) (bad_class ∷ cs)

pub without_level_class : (k : Kind) → class (without_level k) ≡ (terminal k).class
without_level_class (kinds.Open b level) = refl
without_level_class (kinds.Word w) = refl
without_level_class (kinds.Name t) = refl
without_level_class (kinds.Number n) = refl
without_level_class (kinds.Text t) = refl
without_level_class (kinds.Uuid id) = refl
without_level_class (kinds.Mark m) = refl
without_level_class (kinds.Shut b) = refl
without_level_class kinds.End = refl
without_level_class kinds.Bad = refl

bare_class : (w : What) → class (bare w) ≡ class w
bare_class (Of k) = without_level_class k
bare_class (Opens b) = refl

pub is_false : (b : Bool) → (b ≡ true → ⊥) → b ≡ false
is_false true n = absurd (n refl)
is_false false n = refl

pub if_true : {A : Type 0} (b : Bool) (x y : A) → b ≡ true → (if b then x else y) ≡ x
if_true true x y e = refl
if_true false x y e = cc

pub if_false : {A : Type 0} (b : Bool) (x y : A) → b ≡ false → (if b then x else y) ≡ y
if_false true x y e = cc
if_false false x y e = refl

pub head_is : (c : ℕ) (ss : List Seen) → has (head ss) (c ∷ []) ≡ true → head ss ≡ c
head_is c ss e = eqb-true (head ss) c (sym (or-false (eqb (head ss) c)) ∙ e)

pub off_left : (c : ℕ) (xs ys : List ℕ) → has c (xs ++ ys) ≡ false → has c xs ≡ false
off_left c xs ys e = is_false (has c xs) (λ h. let k : has c (xs ++ ys) ≡ true = has_left c xs ys h in cc)

pub off_right : (c : ℕ) (xs ys : List ℕ) → has c (xs ++ ys) ≡ false → has c ys ≡ false
off_right c xs ys e = is_false (has c ys) (λ h. let k : has c (xs ++ ys) ≡ true = has_right c xs ys h in cc)

or_right : (a b : Bool) → (a ≡ true → ⊥) → (a || b) ≡ true → b ≡ true
or_right true b n e = absurd (n refl)
or_right false b n e = e

pub not_among : (c : ℕ) (cs off : List ℕ) → apart cs off ≡ true → has c cs ≡ true → has c off ≡ false
not_among c cs off e h = is_false (has c off) (λ k. are_apart cs off e c h k)

pub off_first : (a b : Bool) → (a || b) ≡ false → a ≡ false
off_first true b e = cc
off_first false b e = refl

pub off_rest : (a b : Bool) → (a || b) ≡ false → b ≡ false
off_rest true b e = cc
off_rest false b e = e

-- each is in the other list
abbrev pub are_in : List ℕ → List ℕ → Bool
are_in [] ys = true
are_in (x ∷ xs) ys = has x ys && are_in xs ys

pub off_fewer : (c : ℕ) (xs ys : List ℕ) → are_in xs ys ≡ true → has c ys ≡ false → has c xs ≡ false
off_fewer c [] ys e o = refl
off_fewer c (x ∷ xs) ys e o =
    let p = and_both (has x ys) (are_in xs ys) e in
    is_false (has c (x ∷ xs)) (λ h. elim (has_either c (x ∷ []) xs h) [
      | inl k ↦ let same : c ≡ x = eqb-true c x (sym (or-false (eqb c x)) ∙ k) in let yes : has c ys ≡ true = subst (λ (v : ℕ). has v ys ≡ true) (sym same) p.0 in cc
      | inr k ↦ let no = off_fewer c xs ys p.1 o in cc
    ])

pub has_itself : (c : ℕ) → has c (bad_class ∷ c ∷ []) ≡ true
has_itself c = has_right c (bad_class ∷ []) (c ∷ []) (or_left (eqb c c) false (eq-eqb c c refl))

module _ (f : ℕ → ℕ) where
  stands : (k : Kind) (w : What) → Stands k w → without_level k ≡ bare w
  stands k (Of j) h = ap without_level h
  stands k (Opens b) h = ap without_level h.1

  all_at : (at : ℕ) (ps : List ℕ) → AreAt at ps → AllAt f (f at) ps
  all_at at [] h = tt
  all_at at (p ∷ ps) h = (ap f h.0, all_at at ps h.1)

  pub front_shown : (ts : List Token) (ps : Pieces) (rest : List Token) → Front ts ps rest → Shown f ps (seen f ts) (seen f rest)
  front_shown ts [] rest h = ap (seen f) h
  front_shown [] (p ∷ ps) rest h = absurd h
  front_shown (t ∷ ts) (p ∷ ps) rest h = (stands t.kind p.what h.0, all_at t.at p.places h.1, front_shown ts ps rest h.2)

  pub shown_cut : (ps qs : Pieces) (ss rest : List Seen) → Shown f (ps ++ qs) ss rest → (mid : List Seen) × Shown f ps ss mid × Shown f qs mid rest
  shown_cut [] qs ss rest h = (ss, refl, h)
  shown_cut (p ∷ ps) qs [] rest h = absurd h
  shown_cut (p ∷ ps) qs (s ∷ ss) rest h = let r = shown_cut ps qs ss rest h.2 in (r.0, (h.0, h.1, r.1), r.2)

  pub shown_length : (ps : Pieces) (ss rest : List Seen) → Shown f ps ss rest → length ss ≡ length ps + length rest
  shown_length [] ss rest h = let e = ap length h in omega arith
  shown_length (p ∷ ps) [] rest h = absurd h
  shown_length (p ∷ ps) (s ∷ ss) rest h = let e = shown_length ps ss rest h.2 in omega arith

  pub shown_clean : (ps : Pieces) (ss rest : List Seen) → Shown f ps ss rest → Clean ss → Clean rest
  shown_clean [] ss rest h c = subst Clean h c
  shown_clean (p ∷ ps) [] rest h c = absurd h
  shown_clean (p ∷ ps) (s ∷ ss) rest h c = shown_clean ps ss rest h.2 c.1

  pub shown_heads : (cs : List ℕ) (ps : Pieces) (ss rest : List Seen) → heads cs ps ≡ true → Shown f ps ss rest → Clean ss → (has (head ss) cs ≡ true) × (suc (length rest) ≤ length ss)
  shown_heads cs [] ss rest e h c = cc
  shown_heads cs (p ∷ ps) [] rest e h c = absurd h
  shown_heads cs (p ∷ ps) (s ∷ ss) rest e h c =
      let same : class p.what ≡ class s.what = sym (ap class h.0 ∙ bare_class p.what) in
      let l = shown_length ps ss rest h.2 in
      (or_right (eqb (class s.what) 0) (has (class s.what) cs) (λ z. c.0 (eqb-true (class s.what) 0 z)) (subst (λ (v : ℕ). has v (bad_class ∷ cs) ≡ true) same e), omega arith)

  -- a token alone
  pub ends : (p : Piece) (ss rest : List Seen) → Shown f (p ∷ []) ss rest → (head ss ≡ class p.what) × (tail ss ≡ rest)
  ends p [] rest h = absurd h
  ends p (s ∷ ss) rest h = (ap class h.0 ∙ bare_class p.what, h.2)

  pub shown_placed : (at : ℕ) (p : Piece) (ps : Pieces) (ss rest : List Seen) → Shown f (placed at (p ∷ ps)) ss rest → Shown f (p ∷ ps) ss rest × (place ss ≡ f at)
  shown_placed at p ps [] rest h = absurd h
  shown_placed at p ps (s ∷ ss) rest h = ((h.0, h.1.1, h.2), sym h.1.0)
