-- Texts that are cut into parts.
use Rattle.std.proofs.Common.{◌≡◌, ℕ, ◌≤◌, Option, Some, None, List, [], ◌∷◌, ◌++◌, length, refl, ap, sym, ◌∙◌, arith, suc, Result, Ok, Err}
use Rattle.std.specs.Prelude.{IfOk}
use Rattle.std.specs.List.{join_with_byte}
use Rattle.base_words.specs.Reads.{HasNo, Reads}
use Rattle.base_words.proofs.Cuts.{same_cut, no_cut}
use Rattle.journal_reader.specs.Parts.{Apart, IsCut, NoCut, OneOrTwo}

-- a text has as many parts in one way
pub same_parts : (c : ℕ) (ws vs : List (List ℕ)) → length ws ≡ length vs → Apart c ws → Apart c vs → join_with_byte c ws ≡ join_with_byte c vs → ws ≡ vs
same_parts c [] [] n a b e = refl
same_parts c [] (v ∷ vs) n a b e = absurd (omega arith)
same_parts c (w ∷ ws) [] n a b e = absurd (omega arith)
same_parts c (w ∷ []) (v ∷ []) n a b e = ap (λ x. x ∷ []) e
same_parts c (w ∷ []) (v ∷ x ∷ vs) n a b e = absurd (omega arith)
same_parts c (w ∷ x ∷ ws) (v ∷ []) n a b e = absurd (omega arith)
same_parts c (w ∷ x ∷ ws) (v ∷ y ∷ vs) n a b e =
    let cut = same_cut c w v (join_with_byte c (x ∷ ws)) (join_with_byte c (y ∷ vs)) a.0 b.0 e in
    let rest = same_parts c (x ∷ ws) (y ∷ vs) (omega arith) a.1 b.1 cut.1 in
    ap (λ z. z ∷ x ∷ ws) cut.0 ∙ ap (λ zs. v ∷ zs) rest

-- what is exact of the parts is exact of the text
pub reads_parts : {X : Type 0} (fits : X → Type 0) (parts : X → List (List ℕ)) (whole : X → List ℕ) (c : ℕ) (text : List ℕ) (ps : List (List ℕ)) (found : Option X) → ((x : X) → fits x → (length (parts x) ≡ length ps) × Apart c (parts x)) → ((x : X) → join_with_byte c (parts x) ≡ whole x) → IsCut c text ps → Reads fits parts ps found → Reads fits whole text found
reads_parts fits parts whole c text ps None own join cut h =
    λ x f e. h x f (same_parts c (parts x) ps (own x f).0 (own x f).1 cut.0 (join x ∙ (e ∙ sym cut.1)))
reads_parts fits parts whole c text ps (Some x) own join cut h = (h.0, sym (join x) ∙ (ap (join_with_byte c) h.1 ∙ cut.1))

-- a text that is no such parts is no such value's
pub reads_no_parts : {X : Type 0} (fits : X → Type 0) (parts : X → List (List ℕ)) (whole : X → List ℕ) (c n : ℕ) (text : List ℕ) → ((x : X) → fits x → (length (parts x) ≡ n) × Apart c (parts x)) → ((x : X) → join_with_byte c (parts x) ≡ whole x) → NoCut n c text → (x : X) → fits x → whole x ≡ text → ⊥
reads_no_parts fits parts whole c n text own join none x f e = none (parts x) (own x f).0 ((own x f).1, join x ∙ e)

-- CUTS

pub cut_none : (c n : ℕ) (text : List ℕ) → 2 ≤ n → HasNo c text → NoCut n c text
cut_none c n text le none [] l cut = absurd (omega arith)
cut_none c n text le none (w ∷ []) l cut = absurd (omega arith)
cut_none c n text le none (w ∷ v ∷ vs) l cut = no_cut c w (join_with_byte c (v ∷ vs)) text none (sym cut.1)

-- where what stands behind the first cut is no n parts
pub cut_less : (c n : ℕ) (text first rest : List ℕ) → 1 ≤ n → text ≡ first ++ (c ∷ rest) → HasNo c first → NoCut n c rest → NoCut (suc n) c text
cut_less c n text first rest le e none short [] l cut = absurd (omega arith)
cut_less c n text first rest le e none short (w ∷ []) l cut = absurd (omega arith)
cut_less c n text first rest le e none short (w ∷ v ∷ vs) l cut =
    let same = same_cut c w first (join_with_byte c (v ∷ vs)) rest cut.0.0 none (cut.1 ∙ e) in short (v ∷ vs) (omega arith) (cut.0.1, same.1)

-- ONE PART OR TWO

one_or_two : (c : ℕ) (text : List ℕ) (ps vs : List (List ℕ)) → OneOrTwo c ps → join_with_byte c ps ≡ text → OneOrTwo c vs → join_with_byte c vs ≡ text → ps ≡ vs
one_or_two c text [] vs a e b f = absurd a
one_or_two c text (w ∷ []) [] a e b f = absurd b
one_or_two c text (w ∷ []) (v ∷ []) a e b f = ap (λ x. x ∷ []) (e ∙ sym f)
one_or_two c text (w ∷ []) (v ∷ x ∷ []) a e b f = absurd (no_cut c v x w a (e ∙ sym f))
one_or_two c text (w ∷ []) (v ∷ x ∷ y ∷ ys) a e b f = absurd b
one_or_two c text (w ∷ u ∷ []) [] a e b f = absurd b
one_or_two c text (w ∷ u ∷ []) (v ∷ []) a e b f = absurd (no_cut c w u v b (f ∙ sym e))
one_or_two c text (w ∷ u ∷ []) (v ∷ x ∷ []) a e b f =
    let same = same_cut c w v u x a b (e ∙ sym f) in ap (λ z. z ∷ u ∷ []) same.0 ∙ ap (λ z. v ∷ z ∷ []) same.1
one_or_two c text (w ∷ u ∷ []) (v ∷ x ∷ y ∷ ys) a e b f = absurd b
one_or_two c text (w ∷ u ∷ t ∷ ts) vs a e b f = absurd a

-- what is exact of one part or two is exact of the text
pub reads_one_or_two : {X : Type 0} (fits : X → Type 0) (parts : X → List (List ℕ)) (whole : X → List ℕ) (c : ℕ) (text : List ℕ) (ps : List (List ℕ)) (found : Option X) → ((x : X) → fits x → OneOrTwo c (parts x)) → ((x : X) → join_with_byte c (parts x) ≡ whole x) → OneOrTwo c ps → join_with_byte c ps ≡ text → Reads fits parts ps found → Reads fits whole text found
reads_one_or_two fits parts whole c text ps None own join a b h = λ x f e. h x f (one_or_two c text (parts x) ps (own x f) (join x ∙ e) a b)
reads_one_or_two fits parts whole c text ps (Some x) own join a b h = (h.0, sym (join x) ∙ (ap (join_with_byte c) h.1 ∙ b))

-- MORE PARTS

-- what is no three parts is no more
pub no_more : (c n : ℕ) (text : List ℕ) → 3 ≤ n → NoCut 3 c text → NoCut n c text
no_more c n text le none [] l cut = absurd (omega arith)
no_more c n text le none (w ∷ []) l cut = absurd (omega arith)
no_more c n text le none (w ∷ v ∷ []) l cut = absurd (omega arith)
no_more c n text le none (w ∷ v ∷ x ∷ xs) l cut = none (w ∷ v ∷ join_with_byte c (x ∷ xs) ∷ []) refl ((cut.0.0, (cut.0.1.0, tt)), cut.1)

pub no_deeper : (c n : ℕ) (text first second rest : List ℕ) → 1 ≤ n → IsCut c text (first ∷ second ∷ rest ∷ []) → NoCut n c rest → NoCut (suc (suc n)) c text
no_deeper c n text first second rest le cut none =
    cut_less c (suc n) text first (second ++ (c ∷ rest)) (omega arith) (sym cut.1) cut.0.0 (cut_less c n (second ++ (c ∷ rest)) second rest le refl cut.0.1.0 none)

-- the parts of the last of three parts
pub deeper : (c : ℕ) (text first second rest w : List ℕ) (ws : List (List ℕ)) → IsCut c text (first ∷ second ∷ rest ∷ []) → IsCut c rest (w ∷ ws) → IsCut c text (first ∷ second ∷ w ∷ ws)
deeper c text first second rest w ws cut more =
    ((cut.0.0, (cut.0.1.0, more.0)), ap (λ t. first ++ (c ∷ (second ++ (c ∷ t)))) more.1 ∙ cut.1)

-- THE SAME OF A RESULT

pub reads_parts_ok : {X E : Type 0} (fits : X → Type 0) (parts : X → List (List ℕ)) (whole : X → List ℕ) (c : ℕ) (text : List ℕ) (ps : List (List ℕ)) (r : Result (Option X) E) → ((x : X) → fits x → (length (parts x) ≡ length ps) × Apart c (parts x)) → ((x : X) → join_with_byte c (parts x) ≡ whole x) → IsCut c text ps → IfOk r (Reads fits parts ps) → IfOk r (Reads fits whole text)
reads_parts_ok fits parts whole c text ps (Ok found) own join cut h = reads_parts fits parts whole c text ps found own join cut h
reads_parts_ok fits parts whole c text ps (Err e) own join cut h = tt
