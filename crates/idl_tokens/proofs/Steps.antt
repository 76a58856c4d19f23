-- Steps of the lexer.
use Rattle.std.proofs.Common.{◌≡◌, ◌≢◌, ℕ, ◌+◌, ◌-◌, ◌≤◌, List, [], ◌∷◌, ◌++◌, true, length, MatchBool, refl, sym, ap, ◌∙◌, subst, arith, append_assoc}
use Rattle.idl_tokens.specs.declared.kinds.Kind.{Kind}
use Rattle.idl_tokens.specs.declared.kinds.Kind.TheVariants as kinds
use Rattle.idl_tokens.specs.declared.kinds.Token.{Token}
use Rattle.idl_tokens.specs.Contexts.{kinds_behind}
use Rattle.idl_tokens.specs.Tokens.{Separates, Gap, IsUuidAt, Spells, BeginsWith, Cut, wants_uuid, depth_of}
use Rattle.idl_tokens.specs.Tokens.Cut.{end, bad, next}

pub only_uuid : (before : List Kind) (text : List ℕ) (kind : Kind) (rest : List ℕ) → wants_uuid before ≡ true → BeginsWith before text kind rest
    → (id : List ℕ) × (kind ≡ kinds.Uuid id) × IsUuidAt text id rest
only_uuid before text kind rest e h =
    subst (λ w. MatchBool w ((id : List ℕ) × (kind ≡ kinds.Uuid id) × IsUuidAt text id rest) (Spells (depth_of before) text kind rest)) e h

nil : {A : Type 0} (xs : List A) → length xs ≡ 0 → xs ≡ []
nil [] h = refl
nil (x ∷ xs) h = absurd (omega arith)

pub last_end : (total : ℕ) (before : List Kind) (text here : List ℕ) → Gap here text → length here ≡ 0
    → Cut total before text (record { at = total - length here; kind = kinds.End } ∷ [])
last_end total before text here g h = end _ (subst (λ rest. Gap rest text) (nil here h) g) (omega arith) refl

pub last_bad : (total : ℕ) (before : List Kind) (text here : List ℕ) → Gap here text → length here ≢ 0 → length here ≤ total
    → ((rest : List ℕ) → Separates here rest → ⊥) → ((kind : Kind) (rest : List ℕ) → BeginsWith before here kind rest → ⊥)
    → Cut total before text (record { at = total - length here; kind = kinds.Bad } ∷ [])
last_bad total before text here g some fits no_separator no_token =
    bad _ g (omega arith) refl (record { goes_on = omega arith; no_separator = no_separator; no_token = no_token })

pub kinds_behind-push : (before : List Kind) (ts : List Token) (t : Token) → kinds_behind before (ts ++ t ∷ []) ≡ t.kind ∷ kinds_behind before ts
kinds_behind-push before [] t = refl
kinds_behind-push before (u ∷ us) t = kinds_behind-push (u.kind ∷ before) us t

-- the tokens so far and one more
pub grows : (total : ℕ) (text left here rest : List ℕ) (items new : List Token) (t : Token) → new ≡ items ++ t ∷ []
    → Gap here left → t.at + length here ≡ total → BeginsWith (kinds_behind [] items) here t.kind rest
    → ((ts : List Token) → Cut total (kinds_behind [] items) left ts → Cut total [] text (items ++ ts))
    → (ts : List Token) → Cut total (kinds_behind [] new) rest ts → Cut total [] text (new ++ ts)
grows total text left here rest items new t e gap place begins so_far ts cut =
    let behind : Cut total (t.kind ∷ kinds_behind [] items) rest ts = subst (λ before. Cut total before rest ts) (ap (kinds_behind []) e ∙ kinds_behind-push [] items t) cut in
    let joined : items ++ (t ∷ ts) ≡ new ++ ts = sym (ap (λ xs. xs ++ ts) e ∙ append_assoc items (t ∷ []) ts) in
    subst (Cut total [] text) joined (so_far (t ∷ ts) (next t gap place begins behind))
