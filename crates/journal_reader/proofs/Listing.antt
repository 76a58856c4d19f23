-- Texts of lists, read item by item.
use Rattle.std.proofs.Common.{◌≡◌, ◌≢◌, ℕ, List, [], ◌∷◌, ◌++◌, refl, ap, sym, ◌∙◌, subst, append_assoc, codes}
use Rattle.std.specs.List.{AllByRecursion}
use Rattle.std.proofs.lemmas.List.{append-nil}
use Rattle.base_words.specs.Reads.{HasNo}
use Rattle.base_words.proofs.Cuts.{same_cut, no_cut}
use Rattle.journal_text.specs.Texts.{list_text}
use Rattle.journal_reader.specs.Lists.{IsItemText}

-- a list of what is left
pub record Left {X : Type 0} (fits : X → Type 0) (text : X → List ℕ) (rest : List ℕ) : Type 0 where
  pub items : List X
  pub fit : AllByRecursion fits items
  pub some : items ≢ []
  pub here : list_text text items ≡ rest

-- these items were read, and the rest is left
pub record Listed {X : Type 0} (fits : X → Type 0) (text : X → List ℕ) (all : List ℕ) (items : List X) (rest : List ℕ) : Type 0 where
  pub fit : AllByRecursion fits items
  pub back : (ys : List X) → ys ≢ [] → list_text text ys ≡ rest → list_text text (items ++ ys) ≡ all
  pub on : (xs : List X) → AllByRecursion fits xs → list_text text xs ≡ all → Left fits text rest

pub fit_more : {X : Type 0} (fits : X → Type 0) (xs : List X) (x : X) → AllByRecursion fits xs → fits x → AllByRecursion fits (xs ++ x ∷ [])
fit_more fits [] x a f = (f, tt)
fit_more fits (y ∷ xs) x a f = (a.0, fit_more fits xs x a.1 f)

pub start : {X : Type 0} (fits : X → Type 0) (text : X → List ℕ) (all : List ℕ) → (all ≡ codes "-" → ⊥) → Listed fits text all [] all
start fits text all n =
    record {
      fit = tt;
      back = λ ys some e. e;
      on = λ xs f e. record { items = xs; fit = f; some = λ q. n (sym e ∙ ap (list_text text) q); here = e };
    }

-- the first item of what is left, up to a comma
pub record First {X : Type 0} (fits : X → Type 0) (text : X → List ℕ) (piece later : List ℕ) : Type 0 where
  pub item : X
  pub fit : fits item
  pub here : text item ≡ piece
  pub left : Left fits text later

first_of : {X : Type 0} (fits : X → Type 0) (text : X → List ℕ) (piece later rest : List ℕ) (ys : List X) → ((x : X) → fits x → IsItemText (text x)) → rest ≡ piece ++ (44 ∷ later) → HasNo 44 piece → AllByRecursion fits ys → ys ≢ [] → list_text text ys ≡ rest → First fits text piece later
first_of fits text piece later rest [] lone cut none f some e = absurd (some refl)
first_of fits text piece later rest (y ∷ []) lone cut none f some e =
    absurd (no_cut 44 piece later (text y ++ []) (subst (λ t. HasNo 44 t) (sym (append-nil (text y))) (lone y f.0).0) (e ∙ cut))
first_of fits text piece later rest (y ∷ z ∷ ys) lone cut none f some e =
    let same = same_cut 44 (text y) piece (list_text text (z ∷ ys)) later (lone y f.0).0 none (e ∙ cut) in
    record { item = y; fit = f.0; here = same.0; left = record { items = z ∷ ys; fit = f.1; some = λ q. cc; here = same.1 } }

pub first : {X : Type 0} (fits : X → Type 0) (text : X → List ℕ) (piece later rest : List ℕ) → ((x : X) → fits x → IsItemText (text x)) → rest ≡ piece ++ (44 ∷ later) → HasNo 44 piece → Left fits text rest → First fits text piece later
first fits text piece later rest lone cut none l = first_of fits text piece later rest l.items lone cut none l.fit l.some l.here

cons_text : {X : Type 0} (text : X → List ℕ) (x : X) (ys : List X) (later : List ℕ) → ys ≢ [] → list_text text ys ≡ later → list_text text (x ∷ ys) ≡ text x ++ (44 ∷ later)
cons_text text x [] later some e = absurd (some refl)
cons_text text x (y ∷ ys) later some e = ap (λ t. text x ++ (44 ∷ t)) e

pub step : {X : Type 0} (fits : X → Type 0) (text : X → List ℕ) (all : List ℕ) (items : List X) (rest piece later : List ℕ) (x : X) → ((x : X) → fits x → IsItemText (text x)) → Listed fits text all items rest → rest ≡ piece ++ (44 ∷ later) → HasNo 44 piece → fits x → text x ≡ piece → Listed fits text all (items ++ x ∷ []) later
step fits text all items rest piece later x lone l cut none f e =
    record {
      fit = fit_more fits items x l.fit f;
      back = λ ys some q.
          ap (list_text text) (append_assoc items (x ∷ []) ys) ∙ l.back (x ∷ ys) (λ n. cc) (cons_text text x ys later some q ∙ (ap (λ t. t ++ (44 ∷ later)) e ∙ sym cut));
      on = λ xs g q. (first fits text piece later rest lone cut none (l.on xs g q)).left;
    }

-- no item has the text of the piece
pub stuck : {X : Type 0} (fits : X → Type 0) (text : X → List ℕ) (all : List ℕ) (items : List X) (rest piece later : List ℕ) → ((x : X) → fits x → IsItemText (text x)) → Listed fits text all items rest → rest ≡ piece ++ (44 ∷ later) → HasNo 44 piece → ((x : X) → fits x → text x ≡ piece → ⊥) → (xs : List X) → AllByRecursion fits xs → list_text text xs ≡ all → ⊥
stuck fits text all items rest piece later lone l cut none never xs g q =
    let f = first fits text piece later rest lone cut none (l.on xs g q) in never f.item f.fit f.here

-- THE LAST ITEM

last_of : {X : Type 0} (fits : X → Type 0) (text : X → List ℕ) (rest : List ℕ) (ys : List X) → HasNo 44 rest → ((x : X) → fits x → text x ≡ rest → ⊥) → AllByRecursion fits ys → ys ≢ [] → list_text text ys ≡ rest → ⊥
last_of fits text rest [] none never f some e = some refl
last_of fits text rest (y ∷ []) none never f some e = never y f.0 (sym (append-nil (text y)) ∙ e)
last_of fits text rest (y ∷ z ∷ ys) none never f some e = no_cut 44 (text y) (list_text text (z ∷ ys)) rest none (sym e)

pub last_stuck : {X : Type 0} (fits : X → Type 0) (text : X → List ℕ) (all : List ℕ) (items : List X) (rest : List ℕ) → Listed fits text all items rest → HasNo 44 rest → ((x : X) → fits x → text x ≡ rest → ⊥) → (xs : List X) → AllByRecursion fits xs → list_text text xs ≡ all → ⊥
last_stuck fits text all items rest l none never xs g q =
    let left = l.on xs g q in last_of fits text rest left.items none never left.fit left.some left.here

pub last : {X : Type 0} (fits : X → Type 0) (text : X → List ℕ) (all : List ℕ) (items : List X) (rest : List ℕ) (x : X) → Listed fits text all items rest → fits x → text x ≡ rest → AllByRecursion fits (items ++ x ∷ []) × (list_text text (items ++ x ∷ []) ≡ all)
last fits text all items rest x l f e = (fit_more fits items x l.fit f, l.back (x ∷ []) (λ n. cc) (append-nil (text x) ∙ e))
