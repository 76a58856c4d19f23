-- Texts that are renamed piece by piece.
use Rattle.std.proofs.Common.{◌≡◌, ◌≢◌, ℕ, true, false, List, [], ◌∷◌, ◌++◌, length, refl, ap, sym, ◌∙◌, subst, append_assoc, arith, decimal, Option, Some, None, take, drop, ◌+◌, ◌==◌, suc, Bool, nat_eq}
use Rattle.std.specs.Prelude.{slice_get, MatchOption}
use Rattle.std.specs.Cmp.Lexicographic.{pointwise, same_text, other_text}
use Rattle.std.proofs.Math.Seq.{take-append_seam}
use Rattle.std.proofs.lemmas.Bool.Decides.{nat_tests}
use Rattle.std.proofs.lemmas.List.{append-nil, take-append-drop}
use Rattle.rpc_base.specs.declared.identifiers.WireHandle.{WireHandle}
use Rattle.base_words.specs.Reads.{HasNo}
use Rattle.value_text.specs.Marks.{heads_digit}
use Rattle.client_texts.specs.Handles.{name, has_name}
use Rattle.client_texts.specs.Texts.{Named}
use Rattle.client_texts.specs.Texts.Named.{the_end, handle, quoted, other}

pub nothing : {A : Type 0} (xs : List A) → length xs ≡ 0 → xs ≡ []
nothing [] e = refl
nothing (x ∷ xs) e = absurd (omega arith)

pub empty : (xs : List ℕ) → length xs ≡ 0 → xs ≡ []
empty [] e = refl
empty (x ∷ xs) e = absurd (omega arith)

pub none_long : (xs : List ℕ) (b : Bool) → b ≡ (length xs == 0) → b ≡ true → xs ≡ []
none_long [] b e t = refl
none_long (x ∷ xs) b e t = let n : (suc (length xs) == 0) ≡ false = grind (arith, nat_tests) in let f : true ≡ false = sym t ∙ (e ∙ n) in absurd cc

pub some_long : (xs : List ℕ) (b : Bool) → b ≡ (length xs == 0) → b ≡ false → xs ≡ [] → ⊥
some_long [] b e f none = let g : false ≡ true = sym f ∙ e in absurd cc
some_long (x ∷ xs) b e f none = absurd cc

-- what stands after a word, or doesn't
pub stripped : {X : Type 0} (view : X → List ℕ) (found : Option X) (word text : List ℕ)
    → MatchOption found (pointwise nat_eq (take (length word) text) word ≡ false) (λ x. (pointwise nat_eq (take (length word) text) word ≡ true) × (view x ≡ drop (length word) text) × (length (view x) + length word ≡ length text))
    → MatchOption found ((rest : List ℕ) → text ≡ word ++ rest → ⊥) (λ x. text ≡ word ++ view x)
stripped view None word text h = λ rest e. other_text (take (length word) text) word (sym h) (ap (take (length word)) e ∙ take-append_seam word rest)
stripped view (Some x) word text h =
    sym (take-append-drop (length word) text) ∙ (ap (λ (l : List ℕ). l ++ drop (length word) text) (same_text (take (length word) text) word (sym h.0)) ∙ ap (λ (l : List ℕ). word ++ l) (sym h.1))

-- ---- from places to names: what is added so far, and what is left

module _ (known wires : List WireHandle) (text before : List ℕ) where
  abbrev pub Adds : List ℕ → List ℕ → Type 0
  Adds rest now = (b : List ℕ) → Named known wires rest b → (all : List ℕ) × Named known wires text all × (before ++ all ≡ now ++ b)

  pub adds_end : (rest now : List ℕ) → rest ≡ [] → Adds rest now → (named : List ℕ) × Named known wires text named × (now ≡ before ++ named)
  adds_end rest now none add =
      let all = add [] (subst (λ (x : List ℕ). Named known wires x []) (sym none) the_end) in (all.0, all.1, sym (all.2 ∙ append-nil now))

  pub adds_handle : (k : ℕ) (w : WireHandle) (rest now digits after : List ℕ) → rest ≡ 36 ∷ digits ++ after → decimal k ≡ digits → slice_get wires k ≡ Some w → has_name known w ≡ true → heads_digit after ≡ false → Adds rest now
      → Adds after ((now ++ 36 ∷ []) ++ name known w)
  adds_handle k w rest now digits after is same at has behind add b n =
      let one : Named known wires (36 ∷ decimal k ++ after) (36 ∷ name known w ++ b) = handle k w after b at has behind n in
      let two : Named known wires rest (36 ∷ name known w ++ b) = subst (λ (x : List ℕ). Named known wires x (36 ∷ name known w ++ b)) (ap (λ (x : List ℕ). 36 ∷ x ++ after) same ∙ sym is) one in
      let all = add (36 ∷ name known w ++ b) two in
      (all.0, all.1, all.2 ∙ sym (append_assoc (now ++ 36 ∷ []) (name known w) b ∙ append_assoc now (36 ∷ []) (name known w ++ b)))

  pub adds_quoted : (rest now inside after : List ℕ) → rest ≡ 34 ∷ inside ++ 34 ∷ after → HasNo 34 inside → Adds rest now → Adds after (((now ++ 34 ∷ []) ++ inside) ++ 34 ∷ [])
  adds_quoted rest now inside after is none add b n =
      let one : Named known wires (34 ∷ inside ++ 34 ∷ after) (34 ∷ inside ++ 34 ∷ b) = quoted inside after b none n in
      let all = add (34 ∷ inside ++ 34 ∷ b) (subst (λ (x : List ℕ). Named known wires x (34 ∷ inside ++ 34 ∷ b)) (sym is) one) in (
        all.0,
        all.1,
        all.2 ∙ sym (append_assoc ((now ++ 34 ∷ []) ++ inside) (34 ∷ []) b ∙ (append_assoc (now ++ 34 ∷ []) inside (34 ∷ b) ∙ append_assoc now (34 ∷ []) (inside ++ 34 ∷ b))),
      )

  pub adds_other : (rest now : List ℕ) (c : ℕ) (after : List ℕ) → rest ≡ c ∷ after → c ≢ 36 → c ≢ 34 → Adds rest now → Adds after (now ++ c ∷ [])
  adds_other rest now c after is no_handle no_quote add b n =
      let one : Named known wires (c ∷ after) (c ∷ b) = other c after b no_handle no_quote n in
      let all = add (c ∷ b) (subst (λ (x : List ℕ). Named known wires x (c ∷ b)) (sym is) one) in (all.0, all.1, all.2 ∙ sym (append_assoc now (c ∷ []) b))
