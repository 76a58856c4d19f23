-- Names that are used with values, and the names that may be.
use Rattle.std.proofs.Common.{◌≡◌, ◌∙◌, ◌+◌, ◌≤◌, ◌||◌, Bool, true, false, ℕ, List, [], ◌∷◌, ◌++◌, refl, sym, ap, arith, Option, Some, None, cond, if◌then◌else◌, count_by, true≢false, inl, inr, ◌⊎◌}
use Rattle.std.specs.List.{AllByRecursion}
use Rattle.std.specs.Str.{bytes_eq}
use Rattle.std.proofs.lemmas.Bool.{cases_Bool}
use Rattle.std.proofs.lemmas.List.Sums.{sum_by-append, sum_by-cons}
use Rattle.std.proofs.lemmas.Slice.Eq.{bytes_eq-Decides}
use Rattle.app_words.specs.Asks.{Text}

abbrev pub Uses : Type 0
Uses = List (Text × Text)

-- the value of a name, at its first use
abbrev pub value_of : Text → Uses → Option Text
value_of name [] = None
value_of name (p ∷ ps) = if bytes_eq p.0 name then Some p.1 else value_of name ps

-- how often it is used
abbrev pub times : Text → Uses → ℕ
times name = count_by (λ p. bytes_eq p.0 name)

-- ---- texts

pub same_text : (a b : Text) → bytes_eq a b ≡ true → a ≡ b
same_text a b e = (bytes_eq-Decides a b).0 e

pub one_text : (a b : Text) → a ≡ b → bytes_eq a b ≡ true
one_text a b e = (bytes_eq-Decides a b).1 e

pub itself : (a : Text) → bytes_eq a a ≡ true
itself a = one_text a a refl

-- ---- one use more

abbrev first_some : Option Text → Option Text → Option Text
first_some None o = o
first_some (Some x) o = Some x

value_append : (name : Text) (xs ys : Uses) → value_of name (xs ++ ys) ≡ first_some (value_of name xs) (value_of name ys)
value_append name [] ys = refl
value_append name (p ∷ ps) ys = by (bytes_eq p.0 name) (value_append name ps ys)
  where
    by : (b : Bool) → value_of name (ps ++ ys) ≡ first_some (value_of name ps) (value_of name ys)
        → cond b (Some p.1) (value_of name (ps ++ ys)) ≡ first_some (cond b (Some p.1) (value_of name ps)) (value_of name ys)
    by true e = refl
    by false e = e

some_first : (o : Option Text) → first_some o None ≡ o
some_first None = refl
some_first (Some x) = refl

-- what was used stays
pub stays : (name v : Text) (xs ys : Uses) → value_of name xs ≡ Some v → value_of name (xs ++ ys) ≡ Some v
stays name v xs ys e = value_append name xs ys ∙ ap (λ o. first_some o (value_of name ys)) e

-- what wasn't is used now
pub is_used : (name v : Text) (xs : Uses) → value_of name xs ≡ None → value_of name (xs ++ (name, v) ∷ []) ≡ Some v
is_used name v xs e =
    value_append name xs ((name, v) ∷ []) ∙ ap (λ o. first_some o (value_of name ((name, v) ∷ []))) e ∙ ap (λ b. cond b (Some v) None) (itself name)

-- another use is none of it
pub unmoved : (name other v : Text) (xs : Uses) → bytes_eq other name ≡ false → value_of name (xs ++ (other, v) ∷ []) ≡ value_of name xs
unmoved name other v xs e =
    value_append name xs ((other, v) ∷ []) ∙ ap (λ b. first_some (value_of name xs) (cond b (Some v) None)) e ∙ some_first (value_of name xs)

-- uses that tell the same of a name tell the same after one use more
pub told_alike : (name : Text) (p : Text × Text) (xs ys : Uses) → value_of name xs ≡ value_of name ys → value_of name (xs ++ p ∷ []) ≡ value_of name (ys ++ p ∷ [])
told_alike name p xs ys e =
    value_append name xs (p ∷ []) ∙ ap (λ o. first_some o (value_of name (p ∷ []))) e ∙ sym (value_append name ys (p ∷ []))

-- ---- how often

abbrev is_it : Text → Text × Text → ℕ
is_it name p = cond (bytes_eq p.0 name) 1 0

abbrev numeral : Bool → ℕ
numeral b = cond b 1 0

pub times_append : (name : Text) (xs ys : Uses) → times name (xs ++ ys) ≡ times name xs + times name ys
times_append name xs ys = sum_by-append (is_it name) xs ys

pub times_cons : (name : Text) (p : Text × Text) (ps : Uses) → times name (p ∷ ps) ≡ numeral (bytes_eq p.0 name) + times name ps
times_cons name p ps = sum_by-cons (is_it name) p ps

hit : (b : Bool) → b ≡ true → numeral b ≡ 1
hit b e = rw e refl

miss : (b : Bool) → b ≡ false → numeral b ≡ 0
miss b e = rw e refl

pub one_more : (name v : Text) (ps : Uses) → times name ((name, v) ∷ ps) ≡ 1 + times name ps
one_more name v ps = times_cons name (name, v) ps ∙ ap (λ n. n + times name ps) (hit (bytes_eq name name) (itself name))

pub not_more : (name other v : Text) (ps : Uses) → bytes_eq other name ≡ false → times name ((other, v) ∷ ps) ≡ times name ps
not_more name other v ps e = let c = times_cons name (other, v) ps in let m = miss (bytes_eq other name) e in omega (arith, c, m)

no_value : (a : Text) → Some a ≡ None → ⊥
no_value a e = absurd (cc)

pub unused : (name : Text) (ps : Uses) → value_of name ps ≡ None → times name ps ≡ 0
unused name [] e = refl
unused name (p ∷ ps) e = by (cases_Bool (bytes_eq p.0 name)) (unused name ps)
  where
    by : (bytes_eq p.0 name ≡ true) ⊎ (bytes_eq p.0 name ≡ false) → (value_of name ps ≡ None → times name ps ≡ 0) → times name (p ∷ ps) ≡ 0
    by (inl t) later = absurd (no_value p.1 (sym (ap (λ b. cond b (Some p.1) (value_of name ps)) t) ∙ e))
    by (inr f) later = not_more name p.0 p.1 ps f ∙ later (sym (ap (λ b. cond b (Some p.1) (value_of name ps)) f) ∙ e)

pub used : (name v : Text) (ps : Uses) → value_of name ps ≡ Some v → 1 ≤ times name ps
used name v [] e = absurd (cc)
used name v (p ∷ ps) e = by (cases_Bool (bytes_eq p.0 name)) (used name v ps)
  where
    by : (bytes_eq p.0 name ≡ true) ⊎ (bytes_eq p.0 name ≡ false) → (value_of name ps ≡ Some v → 1 ≤ times name ps) → 1 ≤ times name (p ∷ ps)
    by (inl t) later = let c = times_cons name p ps in let m = hit (bytes_eq p.0 name) t in omega (arith, c, m)
    by (inr f) later =
        let c = times_cons name p ps in
        let m = miss (bytes_eq p.0 name) f in
        let more = later (sym (ap (λ b. cond b (Some p.1) (value_of name ps)) f) ∙ e) in
        omega (arith, c, m, more)

-- each name once
abbrev pub Once : Uses → Type 0
Once ps = (name : Text) → times name ps ≤ 1

pub nothing_once : Once []
nothing_once name = omega arith

-- a second use
pub twice : (name v y : Text) (ps more : Uses) → value_of name ps ≡ Some y → Once (ps ++ (name, v) ∷ more) → ⊥
twice name v y ps more e once =
    let all = times_append name ps ((name, v) ∷ more) in
    let first = used name y ps e in
    let second = one_more name v more in
    let most = once name in
    absurd (omega (arith, all, first, second, most))

pub once_more : (name v : Text) (ps : Uses) → value_of name ps ≡ None → Once ps → Once (ps ++ (name, v) ∷ [])
once_more name v ps e once other = by (cases_Bool (bytes_eq name other))
  where
    by : (bytes_eq name other ≡ true) ⊎ (bytes_eq name other ≡ false) → times other (ps ++ (name, v) ∷ []) ≤ 1
    by (inl t) =
        let all = times_append other ps ((name, v) ∷ []) in
        let one = times_cons other (name, v) [] in
        let m = hit (bytes_eq name other) t in
        let none = unused other ps (ap (λ n. value_of n ps) (sym (same_text name other t)) ∙ e) in
        let nothing : times other [] ≡ 0 = refl in
        omega (arith, all, one, m, none, nothing)
    by (inr f) =
        let all = times_append other ps ((name, v) ∷ []) in
        let one = not_more other name v [] f in
        let most = once other in
        let nothing : times other [] ≡ 0 = refl in
        omega (arith, all, one, most, nothing)

-- the first of them is used no more
pub first_alone : (p : Text × Text) (ps : Uses) → Once (p ∷ ps) → value_of p.0 ps ≡ None
first_alone p ps once = by (value_of p.0 ps) refl
  where
    by : (o : Option Text) → value_of p.0 ps ≡ o → value_of p.0 ps ≡ None
    by None e = e
    by (Some y) e =
        let all = one_more p.0 p.1 ps in
        let more = used p.0 y ps e in
        let most = once p.0 in
        absurd (omega (arith, all, more, most))

pub rest_once : (p : Text × Text) (ps : Uses) → Once (p ∷ ps) → Once ps
rest_once p ps once name = let all = times_cons name p ps in let most = once name in omega (arith, all, most)

-- ---- names that may be used, each with whether it must be

abbrev pub Options : Type 0
Options = List (Text × Bool)

abbrev pub knows : Options → Text → Bool
knows [] name = false
knows (o ∷ os) name = bytes_eq o.0 name || knows os name

abbrev pub AreKnown : Options → Uses → Type 0
AreKnown os ps = AllByRecursion (λ p. knows os p.0 ≡ true) ps

pub known_more : (os : Options) (ps : Uses) (name v : Text) → AreKnown os ps → knows os name ≡ true → AreKnown os (ps ++ (name, v) ∷ [])
known_more os [] name v all k = (k, tt)
known_more os (p ∷ ps) name v all k = (all.0, known_more os ps name v all.1 k)

pub known_at : (os : Options) (ps more : Uses) (p : Text × Text) → AreKnown os (ps ++ p ∷ more) → knows os p.0 ≡ true
known_at os [] more p all = all.0
known_at os (q ∷ ps) more p all = known_at os ps more p all.1

-- the names stand in none of these
pub known_differs : (name other : Text) (b c : Bool) → b ≡ true → c ≡ false → (name ≡ other → b ≡ c) → bytes_eq name other ≡ false
known_differs name other b c t f same = by (cases_Bool (bytes_eq name other))
  where
    by : (bytes_eq name other ≡ true) ⊎ (bytes_eq name other ≡ false) → bytes_eq name other ≡ false
    by (inl e) = absurd (true≢false (sym t ∙ same (same_text name other e) ∙ f))
    by (inr e) = e
