-- The small parts.
use Rattle.std.proofs.Common.{◌≡◌, ℕ, ◌≤◌, ◌+◌, suc, zero, Bool, true, false, eqb, ◌||◌, List, [], ◌∷◌, ◌++◌, refl, ap, sym, ◌∙◌, subst, None, Some, length, map, inl, inr, append_assoc, append-nil, add-one, arith}
use Rattle.std.specs.Prelude.{◌⊎◌}
use Rattle.idl_tokens.specs.Ebnf.{has}
use Rattle.std.proofs.lemmas.Bool.{eqb-true}
use Rattle.idl_tokens.specs.declared.words.Word.{Word}
use Rattle.idl_tokens.specs.declared.words.Word.TheVariants as words
use Rattle.idl_tokens.specs.declared.marks.Mark.TheVariants as marks
use Rattle.idl_tokens.specs.declared.kinds.Token.{Token}
use Rattle.idl_tokens.specs.Terminals.{of_word}
use Rattle.idl_tree.specs.Pieces.{Pieces, Written, mark_pieces, star_pieces, ident_pieces, dtor_pieces, if_ident}
use Rattle.idl_tree.specs.Trees.{names_pieces, dtors_pieces, tag_pieces, label_pieces}
use Rattle.idl_tree.specs.declared.leaf.Dtor.{Dtor}
use Rattle.idl_tree.specs.declared.leaf.Ident.{Ident}
use Rattle.idl_tree.specs.declared.spec.Label.{Label}
use Rattle.idl_tree.proofs.Classes.{word_same}
use Rattle.idl_tree.proofs.Writing.{write_join, write_none, write_placed, commas_push, commas_one}
use Rattle.idl_tree.proofs.Layers.{written_size_is, written_max_is, written_length_is, written_switch_is, written_range}
use Rattle.std.specs.List.{flat_map}
use Rattle.std.proofs.lemmas.Grind.{flat_map-append}

-- ---- a word among some

-- it is one of these
abbrev pub IsAmong : Word → List Word → Type 0
IsAmong w [] = ⊥
IsAmong w (v ∷ vs) = (w ≡ v) ⊎ IsAmong w vs

either : (a b : Bool) → (a || b) ≡ true → (a ≡ true) ⊎ (b ≡ true)
either true b e = inl refl
either false b e = inr e

pub is_among : (w : Word) (ws : List Word) → has (of_word w) (map of_word ws) ≡ true → IsAmong w ws
is_among w [] e = cc
is_among w (v ∷ vs) e = elim (either (eqb (of_word w) (of_word v)) (has (of_word w) (map of_word vs)) e) [ inl p ↦ inl (word_same w v (eqb-true (of_word w) (of_word v) p)) | inr p ↦ inr (is_among w vs p) ]

pub pk_told : (w : Word) → has (of_word w) (map of_word (words.Ref ∷ words.Unique ∷ words.Ptr ∷ [])) ≡ true → IsAmong w (words.Ref ∷ words.Unique ∷ words.Ptr ∷ [])
pk_told w e = is_among w (words.Ref ∷ words.Unique ∷ words.Ptr ∷ []) e

pub size_told : (w : Word) → has (of_word w) (map of_word (words.Small ∷ words.Short ∷ words.Long ∷ words.Hyper ∷ [])) ≡ true → IsAmong w (words.Small ∷ words.Short ∷ words.Long ∷ words.Hyper ∷ [])
size_told w e = is_among w (words.Small ∷ words.Short ∷ words.Long ∷ words.Hyper ∷ []) e

-- ---- stars

star_push : (n : ℕ) → star_pieces (suc n) ≡ star_pieces n ++ mark_pieces marks.Star
unfolding star_pieces
star_push zero = append-nil (mark_pieces marks.Star)
star_push (suc n) = ap (λ x. mark_pieces marks.Star ++ x) (star_push n) ∙ sym (append_assoc (mark_pieces marks.Star) (star_pieces n) (mark_pieces marks.Star))

pub stars_none : (ts : List Token) → Written (star_pieces 0) ts ts
unfolding star_pieces
stars_none ts = write_none ts

pub stars_more : (n : ℕ) (ts mid rest : List Token) → Written (star_pieces n) ts mid → Written (mark_pieces marks.Star) mid rest → Written (star_pieces (n + 1)) ts rest
stars_more n ts mid rest p q = subst (λ (x : Pieces). Written x ts rest) (sym (ap star_pieces (add-one n) ∙ star_push n)) (write_join p q)

-- ---- lists

pub dtors_one : (d : Dtor) (ts rest : List Token) → Written (dtor_pieces d) ts rest → Written (dtors_pieces (d ∷ [])) ts rest
unfolding dtors_pieces
dtors_one d ts rest p = subst (λ (x : Pieces). Written x ts rest) (sym (commas_one dtor_pieces d)) p

pub dtors_more : (ds : List Dtor) (d : Dtor) (ts mid rest : List Token) → 1 ≤ length ds → Written (dtors_pieces ds) ts mid → Written (mark_pieces marks.Comma ++ dtor_pieces d) mid rest → Written (dtors_pieces (ds ++ d ∷ [])) ts rest
unfolding dtors_pieces
dtors_more [] d ts mid rest h p q = absurd (omega arith)
dtors_more (e ∷ ds) d ts mid rest h p q = subst (λ (x : Pieces). Written x ts rest) (sym (commas_push dtor_pieces (e ∷ ds) d h)) (write_join p q)

pub names_one : (d : Ident) (ts rest : List Token) → Written (ident_pieces d) ts rest → Written (names_pieces (d ∷ [])) ts rest
unfolding names_pieces
names_one d ts rest p = subst (λ (x : Pieces). Written x ts rest) (sym (commas_one ident_pieces d)) p

pub names_more : (ds : List Ident) (d : Ident) (ts mid rest : List Token) → 1 ≤ length ds → Written (names_pieces ds) ts mid → Written (mark_pieces marks.Comma ++ ident_pieces d) mid rest → Written (names_pieces (ds ++ d ∷ [])) ts rest
unfolding names_pieces
names_more ds d ts mid rest h p q = subst (λ (x : Pieces). Written x ts rest) (sym (commas_push ident_pieces ds d h)) (write_join p q)

pub labels_one : (d : Label) (ts rest : List Token) → Written (label_pieces d) ts rest → Written (flat_map label_pieces (d ∷ [])) ts rest
labels_one d ts rest p = subst (λ (x : Pieces). Written x ts rest) (sym (append-nil (label_pieces d))) p

pub labels_more : (ds : List Label) (d : Label) (ts mid rest : List Token) → Written (flat_map label_pieces ds) ts mid → Written (label_pieces d) mid rest → Written (flat_map label_pieces (ds ++ d ∷ [])) ts rest
labels_more ds d ts mid rest p q = subst (λ (x : Pieces). Written x ts rest) (sym (flat_map-append label_pieces ds (d ∷ []) ∙ ap (λ v. flat_map label_pieces ds ++ v) (append-nil (label_pieces d)))) (write_join p q)

pub ruleset writing = (write_join, write_none, write_placed)

pub ruleset plain_attrs = (write_join, is_among)

pub ruleset size_attrs = (write_join, is_among, written_size_is, written_max_is, written_length_is, written_switch_is, written_range)

-- ---- a tag that stands there, or none

pub tag_some : (i : Ident) (ts rest : List Token) → Written (ident_pieces i) ts rest → Written (if_ident (Some i)) ts rest
unfolding if_ident
tag_some i ts rest p = p

pub tag_none : (ts : List Token) → Written (if_ident None) ts ts
unfolding if_ident
tag_none ts = write_none ts

-- the tag of a structure without members
pub tag_alone : (i : Ident) (ts rest : List Token) → Written (ident_pieces i) ts rest → Written (tag_pieces (Some i)) ts rest
unfolding tag_pieces
tag_alone i ts rest p = p
