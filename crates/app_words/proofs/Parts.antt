-- A number and what stands after its mark.
use Rattle.std.proofs.Common.{◌≡◌, ℕ, ◌+◌, ◌%◌, ◌<◌, ◌≤◌, ◌^◌, List, [], ◌∷◌, ◌++◌, refl, ap, ap₂, sym, ◌∙◌, arith, All, decimal, ◌⊎◌, inl, inr}
use Rattle.std.proofs.lemmas.List.Elements.{All-cons, All-nil, All-append}
use Rattle.std.proofs.lemmas.Fmt.{decimal_by_steps, decimal_injective}
use Rattle.base_words.specs.Reads.{HasNo}
use Rattle.base_words.proofs.Cuts.{same_cut, no_cut}
use Rattle.app_words.specs.Texts.{Host, address_text, host_text, FitsHost, Three, FitsThree, tail_text, three_text, two_text}

abbrev AreDigits : List ℕ → Type 0
AreDigits w = All (λ b. 48 ≤ b × b < 58) w

digit : (d : ℕ) → d < 10 → AreDigits ((48 + d) ∷ [])
digit d h = All-cons (λ b. 48 ≤ b × b < 58) (48 + d) [] (omega arith, omega arith) (All-nil (λ b. 48 ≤ b × b < 58))

digits : (n : ℕ) → n < 2 ^ 64 → AreDigits (decimal n)
digits n h = decimal_by_steps (λ n ds. AreDigits ds) (λ m lt. digit m lt) (λ m ds le ink. All-append (λ b. 48 ≤ b × b < 58) ds _ ink (digit (m % 10) (omega arith))) n h

-- no mark that is no digit stands in a number
pub no_mark : (c n : ℕ) → (c < 48 ⊎ 58 ≤ c) → n < 2 ^ 8 → HasNo c (decimal n)
no_mark c n (inl low) h = λ k d lt. let is = digits n (omega arith) k d lt in let l = is.0 in omega arith
no_mark c n (inr high) h = λ k d lt. let is = digits n (omega arith) k d lt in let l = is.1 in omega arith

-- the parts of a text that is cut at its first mark
pub parts : (c n : ℕ) (more number rest : List ℕ) → (c < 48 ⊎ 58 ≤ c) → n < 2 ^ 8 → HasNo c number → decimal n ++ (c ∷ more) ≡ number ++ (c ∷ rest) → (decimal n ≡ number) × (more ≡ rest)
parts c n more number rest mark small none e = same_cut c (decimal n) number more rest (no_mark c n mark small) none e

pub no_parts : (c n : ℕ) (more text : List ℕ) → HasNo c text → decimal n ++ (c ∷ more) ≡ text → ⊥
no_parts c n more text none e = no_cut c (decimal n) more text none (sym e)

pub both : (c n : ℕ) (more number rest text : List ℕ) → text ≡ number ++ (c ∷ rest) → decimal n ≡ number → more ≡ rest → decimal n ++ (c ∷ more) ≡ text
both c n more number rest text cut e f = ap (λ (x : List ℕ). x ++ (c ∷ more)) e ∙ (ap (λ (y : List ℕ). number ++ (c ∷ y)) f ∙ sym cut)

-- ---- whole addresses

pub whole : (a b c d port : ℕ) → host_text (a ∷ b ∷ c ∷ d ∷ [], port) ≡ decimal a ++ (46 ∷ three_text (b, (c, (d, port))))
unfolding address_text
whole a b c d port = refl

-- the first number of an address, and the others with its port
pub record Begins (x : Host) : Type 0 where
  pub first : ℕ
  pub others : Three
  pub small : first < 2 ^ 8
  pub fit : FitsThree others
  pub text : host_text x ≡ decimal first ++ (46 ∷ three_text others)

begins_with : (ns : List ℕ) (port : ℕ) → FitsHost (ns, port) → Begins (ns, port)
begins_with [] port fits = absurd (let e = fits.0 in omega arith)
begins_with (a ∷ []) port fits = absurd (let e = fits.0 in omega arith)
begins_with (a ∷ b ∷ []) port fits = absurd (let e = fits.0 in omega arith)
begins_with (a ∷ b ∷ c ∷ []) port fits = absurd (let e = fits.0 in omega arith)
begins_with (a ∷ b ∷ c ∷ d ∷ []) port fits =
    let n = fits.1 in
    record { first = a; others = (b, (c, (d, port))); small = n.0; fit = (n.1.0, (n.1.1.0, (n.1.1.1.0, fits.2))); text = whole a b c d port }
begins_with (a ∷ b ∷ c ∷ d ∷ e ∷ more) port fits = absurd (let e = fits.0 in omega arith)

pub begins : (x : Host) → FitsHost x → Begins x
begins x fits = begins_with x.0 x.1 fits

-- ---- two addresses of one text

one_number : (a b : ℕ) → a < 2 ^ 64 → b < 2 ^ 64 → decimal a ≡ decimal b → a ≡ b
one_number a b low less e = decimal_injective a b low less e

-- a number and what stands after its mark
one_part : (c a b : ℕ) (more rest : List ℕ) → (c < 48 ⊎ 58 ≤ c) → a < 2 ^ 8 → b < 2 ^ 8 → decimal a ++ (c ∷ more) ≡ decimal b ++ (c ∷ rest) → (a ≡ b) × (more ≡ rest)
one_part c a b more rest mark small few e =
    let same = parts c a more (decimal b) rest mark small (no_mark c b mark few) e in
    (one_number a b (omega arith) (omega arith) same.0, same.1)

one_by : (ns : List ℕ) (port : ℕ) (ms : List ℕ) (other : ℕ) → FitsHost (ns, port) → FitsHost (ms, other) → host_text (ns, port) ≡ host_text (ms, other) → (ns ≡ ms) × (port ≡ other)
one_by (a ∷ b ∷ c ∷ d ∷ []) port (p ∷ q ∷ r ∷ s ∷ []) other fits also e =
    let n = fits.1 in
    let m = also.1 in
    let first = one_part 46 a p (three_text (b, (c, (d, port)))) (three_text (q, (r, (s, other)))) (inl (omega arith)) n.0 m.0 (sym (whole a b c d port) ∙ e ∙ whole p q r s other) in
    let second = one_part 46 b q (two_text (c, (d, port))) (two_text (r, (s, other))) (inl (omega arith)) n.1.0 m.1.0 first.1 in
    let third = one_part 46 c r (tail_text (d, port)) (tail_text (s, other)) (inl (omega arith)) n.1.1.0 m.1.1.0 second.1 in
    let fourth = one_part 58 d s (decimal port) (decimal other) (inr (omega arith)) n.1.1.1.0 m.1.1.1.0 third.1 in
    let last = one_number port other (omega (arith, fits.2)) (omega (arith, also.2)) fourth.1 in
    (same_four a b c d p q r s first.0 second.0 third.0 fourth.0, last)
  where
    same_four : (a b c d p q r s : ℕ) → a ≡ p → b ≡ q → c ≡ r → d ≡ s → a ∷ b ∷ c ∷ d ∷ [] ≡ p ∷ q ∷ r ∷ s ∷ []
    same_four a b c d p q r s e f g h = cc
one_by [] port ms other fits also e = absurd (let n = fits.0 in omega arith)
one_by (a ∷ []) port ms other fits also e = absurd (let n = fits.0 in omega arith)
one_by (a ∷ b ∷ []) port ms other fits also e = absurd (let n = fits.0 in omega arith)
one_by (a ∷ b ∷ c ∷ []) port ms other fits also e = absurd (let n = fits.0 in omega arith)
one_by (a ∷ b ∷ c ∷ d ∷ x ∷ more) port ms other fits also e = absurd (let n = fits.0 in omega arith)
one_by (a ∷ b ∷ c ∷ d ∷ []) port [] other fits also e = absurd (let n = also.0 in omega arith)
one_by (a ∷ b ∷ c ∷ d ∷ []) port (p ∷ []) other fits also e = absurd (let n = also.0 in omega arith)
one_by (a ∷ b ∷ c ∷ d ∷ []) port (p ∷ q ∷ []) other fits also e = absurd (let n = also.0 in omega arith)
one_by (a ∷ b ∷ c ∷ d ∷ []) port (p ∷ q ∷ r ∷ []) other fits also e = absurd (let n = also.0 in omega arith)
one_by (a ∷ b ∷ c ∷ d ∷ []) port (p ∷ q ∷ r ∷ s ∷ x ∷ more) other fits also e = absurd (let n = also.0 in omega arith)

abbrev host : List ℕ → ℕ → Host
host numbers port = (numbers, port)

pub one_host : (x y : Host) → FitsHost x → FitsHost y → host_text x ≡ host_text y → x ≡ y
one_host x y fits also e = let same = one_by x.0 x.1 y.0 y.1 fits also e in ap₂ host same.0 same.1
