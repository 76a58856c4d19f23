-- Is the word "void" at the front of a list of parameters the list's own, or the type of a first parameter?
use Rattle.std.proofs.Common.{◌≡◌, ℕ, zero, suc, ◌&&◌, Bool, true, false, eqb, List, [], ◌∷◌, ◌++◌, refl, ap, sym, ◌∙◌, subst, None, Some, Option, append_assoc, inl, inr}
use Rattle.std.specs.Prelude.{if◌then◌else◌}
use Rattle.std.specs.List.{flat_map}
use Rattle.idl_tokens.specs.Ebnf.{has}
use Rattle.idl_tokens.specs.declared.words.Word.TheVariants as words
use Rattle.idl_tokens.specs.declared.marks.Mark.TheVariants as marks
use Rattle.idl_tokens.specs.declared.marks.Bracket.TheVariants as brackets
use Rattle.idl_tokens.specs.declared.kinds.Kind.TheVariants as kinds
use Rattle.idl_tree.specs.declared.leaf.Ident.{Ident}
use Rattle.idl_tree.specs.declared.leaf.Dtor.{Dtor}
use Rattle.idl_tree.specs.declared.leaf.ArraySize.{ArraySize}
use Rattle.idl_tree.specs.declared.spec.Attr.{Attr}
use Rattle.idl_tree.specs.declared.spec.Spec.{Spec}
use Rattle.idl_tree.specs.declared.declaration.ParamNode.{ParamNode}
use Rattle.idl_tree.specs.Pieces.{Of, Pieces, size_pieces, array_pieces, star_pieces, word_pieces, mark_pieces, ident_pieces, dtor_pieces, open_pieces, within, commas, placed}
use Rattle.idl_tree.specs.Trees.{kind_pieces, spec_pieces, attrs_pieces}
use Rattle.idl_tree.specs.Files.{param_pieces}
use Rattle.idl_forms.proofs.Stream.{Seen, head, tail, Clean, Shown, heads, shown_cut, shown_clean, shown_heads, ends, head_is, not_among, if_true, if_false, off_first, off_rest, off_fewer}
use Rattle.idl_forms.proofs.Reading.{heads_append, heads_placed}
use Rattle.idl_forms.proofs.Leaves.{open_heads, dtor_heads}
use Rattle.idl_forms.proofs.Specs.{member_firsts, other_firsts, kind_begins, typed_heads}
use Rattle.idl_tokens.specs.Terminals.{of_word, of_mark, opening}
use Rattle.idl_tree.specs.Combinators.{name_classes}
use Rattle.idl_tree.proofs.Classes.{is_name_class}

-- Is "void" the list's own word? Not where it is the type of a first parameter: then a declarator follows, and its name is
-- followed by neither a star nor another name.
abbrev pub own_word_on : ℕ → ℕ → Bool
own_word_on second third = if eqb second (of_mark marks.Star) then false else (if has second name_classes then has third (of_mark marks.Star ∷ name_classes) else true)

abbrev pub has_own_word : List Seen → Bool
has_own_word ss = eqb (head ss) (of_word words.Void) && own_word_on (head (tail ss)) (head (tail (tail ss)))

-- what may not follow the parameters
abbrev pub params_off : List ℕ
params_off = of_mark marks.Star ∷ (member_firsts ++ (of_mark marks.Comma ∷ opening brackets.Square ∷ []))

own_quiet : (c d : ℕ) → has c (of_mark marks.Star ∷ name_classes) ≡ false → own_word_on c d ≡ true
own_quiet c d e = if_false (eqb c (of_mark marks.Star)) _ _ (off_first (eqb c (of_mark marks.Star)) _ e) ∙ if_false (has c name_classes) _ _ (off_rest (eqb c (of_mark marks.Star)) _ e)

own_named : (c d : ℕ) → has c name_classes ≡ true → own_word_on c d ≡ has d (of_mark marks.Star ∷ name_classes)
own_named c d e = if_false (eqb c (of_mark marks.Star)) _ _ (off_first (eqb c (of_mark marks.Star)) _ (not_among c name_classes (of_mark marks.Star ∷ []) refl e)) ∙ if_true (has c name_classes) _ _ e

own_other : (c d : ℕ) → has c other_firsts ≡ true → own_word_on c d ≡ true
own_other c d e = own_quiet c d (not_among c other_firsts (of_mark marks.Star ∷ name_classes) refl e)

no_word : (c : ℕ) (b : Bool) → has c (of_word words.Void ∷ []) ≡ false → (eqb c (of_word words.Void) && b) ≡ false
no_word c b e = ap (λ v. v && b) (off_first (eqb c (of_word words.Void)) _ e)

pub param_heads : (p : ParamNode) → heads member_firsts (param_pieces p) ≡ true
unfolding param_pieces
param_heads p = typed_heads p.attrs.items p.spec (dtor_pieces p.dtor)

module _ (f : ℕ → ℕ) where
  -- a name alone, and "void"
  named_first : (i : Ident) (ps : List ℕ) (ss rest : List Seen) → Shown f (record { what = Of (kinds.Name i.text); places = ps } ∷ []) ss rest → (has (head ss) name_classes ≡ true) × (tail ss ≡ rest)
  named_first i ps ss rest h =
      let e = ends f (record { what = Of (kinds.Name i.text); places = ps }) ss rest h in
      (ap (λ c. has c name_classes) e.0 ∙ is_name_class i.text, e.1)

  name_alone : (i : Ident) (ss rest : List Seen) → Shown f (ident_pieces i) ss rest → (has (head ss) name_classes ≡ true) × (tail ss ≡ rest)
  unfolding ident_pieces
  name_alone i ss rest h = named_first i (i.at ∷ []) ss rest h

  placed_name : (at : ℕ) (i : Ident) (ss rest : List Seen) → Shown f (placed at (ident_pieces i)) ss rest → (has (head ss) name_classes ≡ true) × (tail ss ≡ rest)
  unfolding ident_pieces
  placed_name at i ss rest h = named_first i (at ∷ i.at ∷ []) ss rest h

  placed_void : (at : ℕ) (ss rest : List Seen) → Shown f (placed at (word_pieces words.Void)) ss rest → (head ss ≡ of_word words.Void) × (tail ss ≡ rest)
  unfolding word_pieces
  placed_void at ss rest h = ends f (record { what = Of (kinds.Word words.Void); places = at ∷ [] }) ss rest h

  -- ---- is "void" the list's own word?

  -- behind it a parameter
  own_then : (as' : List Attr) (s : Spec) (d : Dtor) (more : Pieces) (ss rest : List Seen) → Clean ss → Shown f ((attrs_pieces as' ++ (spec_pieces s ++ dtor_pieces d)) ++ more) ss rest → own_word_on (head ss) (head (tail ss)) ≡ true
  unfolding open_pieces ident_pieces word_pieces
  own_then (a ∷ as') s d more ss rest c h = ap (λ v. own_word_on v (head (tail ss))) (head_is (opening brackets.Square) ss (shown_heads f (opening brackets.Square ∷ []) ((attrs_pieces (a ∷ as') ++ (spec_pieces s ++ dtor_pieces d)) ++ more) ss rest refl h c).0)
  own_then [] s d more ss rest c h =
      let cut = shown_cut f (spec_pieces s ++ dtor_pieces d) more ss rest h in
      let two = shown_cut f (spec_pieces s) (dtor_pieces d) ss cut.0 cut.1 in
      elim (kind_begins s.what) [
        | inl e ↦ own_other (head ss) (head (tail ss)) (shown_heads f other_firsts (spec_pieces s) ss two.0 (heads_placed other_firsts s.at (kind_pieces s.what) e) two.1 c).0
        | inr q ↦ elim q [
          | inl i ↦
              let one = placed_name s.at i.0 ss two.0 (subst (λ (ps : Pieces). Shown f (placed s.at ps) ss two.0) i.1 two.1) in
              let behind : has (head two.0) (of_mark marks.Star ∷ name_classes) ≡ true = (shown_heads f (of_mark marks.Star ∷ name_classes) (dtor_pieces d) two.0 cut.0 (dtor_heads d) two.2 (shown_clean f (spec_pieces s) ss two.0 two.1 c)).0 in
              own_named (head ss) (head (tail ss)) one.0 ∙ (ap (λ v. has (head v) (of_mark marks.Star ∷ name_classes)) one.1 ∙ behind)
          | inr e ↦
              let one = placed_void s.at ss two.0 (subst (λ (ps : Pieces). Shown f (placed s.at ps) ss two.0) e two.1) in
              ap (λ v. own_word_on v (head (tail ss))) one.0
        ]
      ]

  -- no star or name stands behind an array's place
  array_then : (o : Option ArraySize) (more : Pieces) (ss rest : List Seen) → Clean ss → ((us : List Seen) → Clean us → Shown f more us rest → has (head us) (of_mark marks.Star ∷ name_classes) ≡ false) → Shown f (array_pieces o ++ more) ss rest → has (head ss) (of_mark marks.Star ∷ name_classes) ≡ false
  unfolding array_pieces
  array_then None more ss rest c quiet h = quiet ss c h
  array_then (Some size) more ss rest c quiet h = not_among (head ss) (opening brackets.Square ∷ []) (of_mark marks.Star ∷ name_classes) refl (shown_heads f (opening brackets.Square ∷ []) (within brackets.Square (size_pieces size) ++ more) ss rest (heads_append (opening brackets.Square ∷ []) (within brackets.Square (size_pieces size)) more (open_heads brackets.Square (size_pieces size))) h c).0

  -- behind a type "void" a declarator
  not_own_dtor : (stars' : ℕ) (i : Ident) (o : Option ArraySize) (more : Pieces) (ss rest : List Seen) → Clean ss → ((us : List Seen) → Clean us → Shown f more us rest → has (head us) (of_mark marks.Star ∷ name_classes) ≡ false)
      → Shown f ((star_pieces stars' ++ (ident_pieces i ++ array_pieces o)) ++ more) ss rest → own_word_on (head ss) (head (tail ss)) ≡ false
  unfolding star_pieces ident_pieces mark_pieces
  not_own_dtor (suc stars') i o more ss rest c quiet h = ap (λ v. own_word_on v (head (tail ss))) (head_is (of_mark marks.Star) ss (shown_heads f (of_mark marks.Star ∷ []) ((star_pieces (suc stars') ++ (ident_pieces i ++ array_pieces o)) ++ more) ss rest refl h c).0)
  not_own_dtor zero i o more ss rest c quiet h =
      let cut = shown_cut f (ident_pieces i) (array_pieces o ++ more) ss rest h in
      let one = name_alone i ss cut.0 cut.1 in
      let behind : has (head cut.0) (of_mark marks.Star ∷ name_classes) ≡ false = array_then o more cut.0 rest (shown_clean f (ident_pieces i) ss cut.0 cut.1 c) quiet cut.2 in
      own_named (head ss) (head (tail ss)) one.0 ∙ (ap (λ v. has (head v) (of_mark marks.Star ∷ name_classes)) one.1 ∙ behind)

  -- a parameter first
  not_own : (as' : List Attr) (s : Spec) (d : Dtor) (more : Pieces) (ss rest : List Seen) → Clean ss → ((us : List Seen) → Clean us → Shown f more us rest → has (head us) (of_mark marks.Star ∷ name_classes) ≡ false)
      → Shown f ((attrs_pieces as' ++ (spec_pieces s ++ dtor_pieces d)) ++ more) ss rest → has_own_word ss ≡ false
  unfolding open_pieces ident_pieces word_pieces dtor_pieces
  not_own (a ∷ as') s d more ss rest c quiet h = ap (λ v. eqb v (of_word words.Void) && own_word_on (head (tail ss)) (head (tail (tail ss)))) (head_is (opening brackets.Square) ss (shown_heads f (opening brackets.Square ∷ []) ((attrs_pieces (a ∷ as') ++ (spec_pieces s ++ dtor_pieces d)) ++ more) ss rest refl h c).0)
  not_own [] s d more ss rest c quiet h =
      let two = shown_cut f (spec_pieces s) (dtor_pieces d ++ more) ss rest (subst (λ (ps : Pieces). Shown f ps ss rest) (append_assoc (spec_pieces s) (dtor_pieces d) more) h) in
      elim (kind_begins s.what) [
        | inl e ↦ no_word (head ss) _ (not_among (head ss) other_firsts (of_word words.Void ∷ []) refl (shown_heads f other_firsts (spec_pieces s) ss two.0 (heads_placed other_firsts s.at (kind_pieces s.what) e) two.1 c).0)
        | inr q ↦ elim q [
          | inl i ↦
              let one = placed_name s.at i.0 ss two.0 (subst (λ (ps : Pieces). Shown f (placed s.at ps) ss two.0) i.1 two.1) in
              no_word (head ss) _ (not_among (head ss) name_classes (of_word words.Void ∷ []) refl one.0)
          | inr e ↦
              let one = placed_void s.at ss two.0 (subst (λ (ps : Pieces). Shown f (placed s.at ps) ss two.0) e two.1) in
              let behind = not_own_dtor d.stars d.name d.array more two.0 rest (shown_clean f (spec_pieces s) ss two.0 two.1 c) quiet two.2 in
              ap (λ v. eqb v (of_word words.Void) && own_word_on (head (tail ss)) (head (tail (tail ss)))) one.0 ∙ (ap (λ v. own_word_on (head v) (head (tail v))) one.1 ∙ behind)
        ]
      ]

  further : (ps : List ParamNode) (rest : List Seen) → has (head rest) (of_mark marks.Star ∷ name_classes) ≡ false → (us : List Seen) → Clean us → Shown f (flat_map (λ y. mark_pieces marks.Comma ++ param_pieces y) ps) us rest → has (head us) (of_mark marks.Star ∷ name_classes) ≡ false
  unfolding mark_pieces
  further [] rest o us c h = subst (λ (v : List Seen). has (head v) (of_mark marks.Star ∷ name_classes) ≡ false) (sym h) o
  further (p ∷ ps) rest o us c h = not_among (head us) (of_mark marks.Comma ∷ []) (of_mark marks.Star ∷ name_classes) refl (shown_heads f (of_mark marks.Comma ∷ []) (flat_map (λ y. mark_pieces marks.Comma ++ param_pieces y) (p ∷ ps)) us rest refl h c).0

  pub is_own : (ps : List ParamNode) (ss rest : List Seen) → Clean ss → has (head rest) params_off ≡ false → Shown f (commas param_pieces ps) ss rest → own_word_on (head ss) (head (tail ss)) ≡ true
  unfolding param_pieces
  is_own [] ss rest c o h = subst (λ (v : List Seen). own_word_on (head v) (head (tail v)) ≡ true) (sym h) (own_quiet (head rest) (head (tail rest)) (off_fewer (head rest) (of_mark marks.Star ∷ name_classes) params_off refl o))
  is_own (p ∷ ps) ss rest c o h = own_then p.attrs.items p.spec p.dtor _ ss rest c h

  pub is_not_own : (ps : List ParamNode) (ss rest : List Seen) → Clean ss → has (head rest) params_off ≡ false → Shown f (commas param_pieces ps) ss rest → has_own_word ss ≡ false
  unfolding param_pieces
  is_not_own [] ss rest c o h = subst (λ (v : List Seen). has_own_word v ≡ false) (sym h) (no_word (head rest) _ (off_fewer (head rest) (of_word words.Void ∷ []) params_off refl o))
  is_not_own (p ∷ ps) ss rest c o h = not_own p.attrs.items p.spec p.dtor _ ss rest c (further ps rest (off_fewer (head rest) (of_mark marks.Star ∷ name_classes) params_off refl o)) h
