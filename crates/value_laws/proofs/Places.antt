-- At the place where a text departs, and where the value of a shape begins, it is read with that departure.
use Rattle.std.proofs.Common.{◌≡◌, ℕ, ◌+◌, ◌^◌, Bool, true, false, List, [], ◌∷◌, length, Some, None, Result, Ok, Err, refl, ap, sym, ◌∙◌, codes}
use Rattle.std.specs.Prelude.{if◌then◌else◌, ◌&&◌, ◌||◌, ◌==◌, not, nat_lt}
use Rattle.ndr_value.specs.Forms.{Form, OfBool, OfByte, OfChar, OfInt, OfUint, OfEnum, OfNamed, OfStruct, OfUnion, OfArray, OfText, OfRef, OfUnique, OfFull, OfHandle}
use Rattle.ndr_value.specs.Values.{Val, VBool, VNull, VPtr, VFull}
use Rattle.ndr_value.specs.Fits.{limit}
use Rattle.value_text.specs.declared.departure.Departure.{Departure}
use Rattle.value_text.specs.declared.departure.Departure.TheVariants.{Syntax, Kind, Range}
use Rattle.value_text.specs.declared.numbers.Numeral.{Numeral}
use Rattle.value_text.specs.Bind.{◌>>=◌}
use Rattle.value_text.specs.Marks.{is_digit, begins, heads, heads_digit, behind, wrong, mark, marks, opened, closed}
use Rattle.value_text.specs.Numbers.{small, natural_at, numeral, number_at, numeral_at, size_of, is_below, unsigned_at, index_at, signed, is_signed, signed_at}
use Rattle.value_text.specs.Reading.{Found, read_at}
use Rattle.value_text.specs.Causes.{place_for, is, goes, Stops, no_text, no_kind, WordStops, NumberStops, NaturalStops, IsNatural, IsNumber, in_range, is_number, HasWord, a_true, a_false, a_null, a_null_full, HasIndex, an_item, a_slot, opens, stands_by_itself, begins_or, ends_or}
use Rattle.value_text.proofs.Steps.{through, if_true, if_false}
use Rattle.value_laws.proofs.Leaves.{bad, failing, clash, goes_is, word_err, number_err, natural_err, number_is, natural_is, number_heads, npair, opair}

-- ---- signs

pub wrong_text : (t : List ℕ) → goes begins t ≡ false → wrong t ≡ Syntax (length t)
wrong_text [] h = refl
wrong_text (c ∷ t) h = if_false (begins c) (Kind (length (c ∷ t))) (Syntax (length (c ∷ t))) h

pub wrong_kind : (t : List ℕ) → goes begins t ≡ true → wrong t ≡ Kind (length t)
wrong_kind [] h = absurd cc
wrong_kind (c ∷ t) h = if_true (begins c) (Kind (length (c ∷ t))) (Syntax (length (c ∷ t))) h

or_none : (a b : Bool) → (a || b) ≡ false → (a ≡ false) × (b ≡ false)
or_none true b h = absurd cc
or_none false b h = (refl, h)

or_first : (a b : Bool) → (a || b) ≡ true → b ≡ false → a ≡ true
or_first true b h k = refl
or_first false b h k = absurd (clash b h k)

or_second : (a b : Bool) → (a || b) ≡ true → a ≡ false → b ≡ true
or_second true b h k = absurd cc
or_second false b h k = h

-- neither a value nor the sign
pub begins_none : (c : ℕ) (t : List ℕ) → goes (begins_or c) t ≡ false → (goes begins t ≡ false) × (heads c t ≡ false)
begins_none c [] h = (refl, refl)
begins_none c (x ∷ t) h = or_none (begins x) (x == c) h

-- a value, as the sign isn't there
pub begins_value : (c : ℕ) (t : List ℕ) → goes (begins_or c) t ≡ true → heads c t ≡ false → goes begins t ≡ true
begins_value c [] h k = absurd cc
begins_value c (x ∷ t) h k = or_first (begins x) (x == c) h k

-- the sign, as no value is there
pub begins_sign : (c : ℕ) (t : List ℕ) → goes (begins_or c) t ≡ true → goes begins t ≡ false → heads c t ≡ true
begins_sign c [] h k = absurd cc
begins_sign c (x ∷ t) h k = or_second (begins x) (x == c) h k

pub opened_err : (c : ℕ) (t : List ℕ) {d : Departure} → Stops (place_for (begins_or c) (is c)) t d → opened c t ≡ Err d
opened_err c t (no_text h) =
    let b = begins_none c t h in
    if_false (heads c t) (Ok (behind t)) (Err (wrong t)) b.1 ∙ ap (bad (List ℕ)) (wrong_text t b.0)
opened_err c t (no_kind h k) =
    let n : heads c t ≡ false = sym (goes_is c t) ∙ k in
    if_false (heads c t) (Ok (behind t)) (Err (wrong t)) n ∙ ap (bad (List ℕ)) (wrong_kind t (begins_value c t h n))

-- ---- the end of a list, or what goes on there

-- where one sign ends it, and the other may not stand
abbrev ended : ℕ → ℕ → List ℕ → Result (List ℕ) Departure
ended c e t = if heads c t then Err (Kind (length t)) else mark e t

end_text : (q p : Bool) (t u : List ℕ) → (if q then true else (p && true)) ≡ false → (if p then Err (Kind (length t)) else (if q then Ok u else Err (Syntax (length t)))) ≡ bad (List ℕ) (Syntax (length t))
end_text true p t u h = absurd cc
end_text false true t u h = absurd cc
end_text false false t u h = refl

end_kind : (q p : Bool) (t u : List ℕ) → (if q then true else (p && true)) ≡ true → (if q then true else (p && false)) ≡ false → (if p then Err (Kind (length t)) else (if q then Ok u else Err (Syntax (length t)))) ≡ bad (List ℕ) (Kind (length t))
end_kind true p t u h k = absurd cc
end_kind false true t u h k = refl
end_kind false false t u h k = absurd cc

pub end_err : (e c : ℕ) (t : List ℕ) {d : Departure} → Stops (place_for (ends_or true true e c) (ends_or true false e c)) t d → ended c e t ≡ Err d
end_err e c [] (no_text h) = refl
end_err e c [] (no_kind h k) = absurd cc
end_err e c (x ∷ t) (no_text h) = end_text (x == e) (x == c) (x ∷ t) t h
end_err e c (x ∷ t) (no_kind h k) = end_kind (x == e) (x == c) (x ∷ t) t h k

-- where the other has to stand
abbrev goes_by : {A : Type 0} → Bool → Bool → List ℕ → List ℕ → (List ℕ → Result A Departure) → Result A Departure
goes_by q p t u f = if q then Err (Kind (length t)) else ((if p then Ok u else Err (Syntax (length t))) >>= f)

next_text : {A : Type 0} (q p : Bool) (t u : List ℕ) (f : List ℕ → Result A Departure) → (if q then true else (p && true)) ≡ false → goes_by q p t u f ≡ Err (Syntax (length t))
next_text true p t u f h = absurd cc
next_text false true t u f h = absurd cc
next_text false false t u f h = refl

next_kind : {A : Type 0} (q p : Bool) (t u : List ℕ) (f : List ℕ → Result A Departure) → (if q then true else (p && true)) ≡ true → (if q then false else (p && true)) ≡ false → goes_by q p t u f ≡ Err (Kind (length t))
next_kind true p t u f h k = refl
next_kind false true t u f h k = absurd cc
next_kind false false t u f h k = absurd cc

pub next_err : {A : Type 0} (e c : ℕ) (t : List ℕ) (f : List ℕ → Result A Departure) {d : Departure} → Stops (place_for (ends_or true true e c) (ends_or false true e c)) t d
    → (if heads e t then Err (Kind (length t)) else (mark c t >>= f)) ≡ Err d
next_err e c [] f (no_text h) = refl
next_err e c [] f (no_kind h k) = absurd cc
next_err e c (x ∷ t) f (no_text h) = next_text (x == e) (x == c) (x ∷ t) t f h
next_err e c (x ∷ t) f (no_kind h k) = next_kind (x == e) (x == c) (x ∷ t) t f h k

-- where either may stand, or may not
abbrev item_by : {A B : Type 0} → Bool → Bool → Bool → Bool → List ℕ → List ℕ → (List ℕ → Result A Departure) → (List ℕ → Result B Departure) → (B → Result A Departure) → (List ℕ → Result (List ℕ) Departure) → Result A Departure
item_by q p ends more t u f go g on =
    if q then (closed ends t >>= f) else (((if p && not more then Err (Kind (length t)) else ((if p then Ok u else Err (Syntax (length t))) >>= on)) >>= go) >>= g)

item_text : {A B : Type 0} (q p a b : Bool) (t u : List ℕ) (f : List ℕ → Result A Departure) (go : List ℕ → Result B Departure) (g : B → Result A Departure) (on : List ℕ → Result (List ℕ) Departure)
    → (if q then true else (p && true)) ≡ false → item_by q p a b t u f go g on ≡ Err (Syntax (length t))
item_text true p a b t u f go g on h = absurd cc
item_text false true a b t u f go g on h = absurd cc
item_text false false a b t u f go g on h = refl

item_kind : {A B : Type 0} (q p a b : Bool) (t u : List ℕ) (f : List ℕ → Result A Departure) (go : List ℕ → Result B Departure) (g : B → Result A Departure) (on : List ℕ → Result (List ℕ) Departure)
    → (if q then true else (p && true)) ≡ true → (if q then a else (p && b)) ≡ false → item_by q p a b t u f go g on ≡ Err (Kind (length t))
item_kind true p true b t u f go g on h k = absurd cc
item_kind true p false b t u f go g on h k = refl
item_kind false true a true t u f go g on h k = absurd cc
item_kind false true a false t u f go g on h k = refl
item_kind false false a b t u f go g on h k = absurd cc

pub item_err : {A B : Type 0} (a b : Bool) (t : List ℕ) (f : List ℕ → Result A Departure) (go : List ℕ → Result B Departure) (g : B → Result A Departure) {d : Departure}
    → Stops (place_for (ends_or true true 93 44) (ends_or a b 93 44)) t d
    → (if heads 93 t then (closed a t >>= f) else (((if heads 44 t && not b then Err (Kind (length t)) else marks (codes ", ") t) >>= go) >>= g)) ≡ Err d
item_err a b [] f go g (no_text h) = refl
item_err a b [] f go g (no_kind h k) = absurd cc
item_err a b (x ∷ t) f go g (no_text h) = item_text (x == 93) (x == 44) a b (x ∷ t) t f go g (λ u. marks (codes " ") u) h
item_err a b (x ∷ t) f go g (no_kind h k) = item_kind (x == 93) (x == 44) a b (x ∷ t) t f go g (λ u. marks (codes " ") u) h k

-- ---- the first octet of a value

opened_kind : (a c : ℕ) (t : List ℕ) → (c == a) ≡ false → begins c ≡ true → opened a (c ∷ t) ≡ Err (Kind (length (c ∷ t)))
opened_kind a c t h b = if_false (c == a) (Ok t) (Err (wrong (c ∷ t))) h ∙ ap (bad (List ℕ)) (wrong_kind (c ∷ t) b)

numeral_kind : (c : ℕ) (t : List ℕ) → ((c == 45) || is_digit c) ≡ false → begins c ≡ true → numeral_at (c ∷ t) ≡ Err (Kind (length (c ∷ t)))
numeral_kind c t h b = if_false ((c == 45) || is_digit c) (number_at (c ∷ t)) (Err (wrong (c ∷ t))) h ∙ ap (bad (Numeral × List ℕ)) (wrong_kind (c ∷ t) b)

pointer_kind : (q few : Bool) (t u : List ℕ) (w : Departure) (f : List ℕ → Found) → (q && few) ≡ false → w ≡ Kind (length t) → ((if q then Ok u else Err w) >>= λ x. if few then f x else Err (Kind (length t))) ≡ bad (Val × List ℕ) (Kind (length t))
pointer_kind true true t u w f h e = absurd cc
pointer_kind true false t u w f h e = refl
pointer_kind false few t u w f h e = ap (bad (Val × List ℕ)) e

module _ (types : List Form) (go : ℕ → Form → List ℕ → Found) where
  abbrev Reads : ℕ → Form → List ℕ → Departure → Type 0
  Reads level s t d = read_at types go level s t ≡ Err d

  kind_at : (level : ℕ) (s : Form) (c : ℕ) (t : List ℕ) → stands_by_itself s ≡ true → begins c ≡ true → opens level s c ≡ false → Reads level s (c ∷ t) (Kind (length (c ∷ t)))
  kind_at level OfBool c t o b h =
      let p = or_none (c == 116) (c == 102) h in
      if_false (c == 116) (marks (codes "true") (c ∷ t) >>= λ u. Ok (VBool true, u)) (if c == 102 then (marks (codes "false") (c ∷ t) >>= λ u. Ok (VBool false, u)) else Err (wrong (c ∷ t))) p.0
      ∙ (if_false (c == 102) (marks (codes "false") (c ∷ t) >>= λ u. Ok (VBool false, u)) (Err (wrong (c ∷ t))) p.1 ∙ ap (bad (Val × List ℕ)) (wrong_kind (c ∷ t) b))
  kind_at level OfByte c t o b h = failing _ _ _ (failing _ _ _ (numeral_kind c t h b))
  kind_at level OfChar c t o b h = failing _ _ _ (failing _ _ _ (numeral_kind c t h b))
  kind_at level (OfInt size) c t o b h = failing _ _ _ (failing _ _ _ (numeral_kind c t h b))
  kind_at level (OfUint size) c t o b h = failing _ _ _ (failing _ _ _ (numeral_kind c t h b))
  kind_at level (OfEnum count) c t o b h = failing _ _ _ (failing _ _ _ (numeral_kind c t h b))
  kind_at level (OfNamed number switch) c t o b h = absurd cc
  kind_at level (OfStruct ss) c t o b h = failing _ _ _ (opened_kind 123 c t h b)
  kind_at level (OfUnion k arms) c t o b h = failing _ _ _ (opened_kind 40 c t h b)
  kind_at level (OfArray kind s) c t o b h = failing _ _ _ (opened_kind 91 c t h b)
  kind_at level (OfText most) c t o b h = failing _ _ _ (failing _ _ _ (opened_kind 34 c t h b))
  kind_at level (OfRef s) c t o b h = absurd cc
  kind_at level (OfUnique s) c t o b h =
      let p = or_none (c == 110) ((c == 38) && nat_lt level 256) h in
      if_false (c == 110) (marks (codes "null") (c ∷ t) >>= λ u. Ok (VNull, u)) (opened 38 (c ∷ t) >>= λ u. if nat_lt level 256 then (go (level + 1) s u >>= λ x. Ok (VPtr x.0, x.1)) else Err (Kind (length (c ∷ t)))) p.0
      ∙ pointer_kind (c == 38) (nat_lt level 256) (c ∷ t) t (wrong (c ∷ t)) (λ u. go (level + 1) s u >>= λ x. Ok (VPtr x.0, x.1)) p.1 (wrong_kind (c ∷ t) b)
  kind_at level (OfFull s) c t o b h =
      let p = or_none (c == 110) (c == 64) h in
      if_false (c == 110) (marks (codes "null") (c ∷ t) >>= λ u. Ok (VFull None, u)) (opened 64 (c ∷ t) >>= λ u. index_at (2 ^ 32) u >>= λ x. Ok (VFull (Some x.0), x.1)) p.0 ∙ failing _ _ _ (opened_kind 64 c t p.1 b)
  kind_at level (OfHandle kind) c t o b h = failing _ _ _ (opened_kind 36 c t h b)

  pub front_kind : (level : ℕ) (s : Form) (t : List ℕ) → stands_by_itself s ≡ true → goes begins t ≡ true → goes (opens level s) t ≡ false → Reads level s t (Kind (length t))
  front_kind level s [] o b h = absurd cc
  front_kind level s (c ∷ t) o b h = kind_at level s c t o b h

  -- ---- words, numbers, items and slots

  pub word_reads : (level : ℕ) {c : ℕ} {s : Form} {w t : List ℕ} {d : Departure} → HasWord s c w → WordStops w t d → (goes begins (c ∷ t) ≡ true) × Reads level s (c ∷ t) d
  word_reads level {d = d} a_true x = (refl, failing _ _ d (word_err x))
  word_reads level {d = d} a_false x = (refl, failing _ _ d (word_err x))
  word_reads level {d = d} a_null x = (refl, failing _ _ d (word_err x))
  word_reads level {d = d} a_null_full x = (refl, failing _ _ d (word_err x))

  numeral_reads : (level : ℕ) (s : Form) (t : List ℕ) (d : Departure) → is_number s ≡ true → numeral_at t ≡ Err d → Reads level s t d
  numeral_reads level OfByte t d n e = failing _ _ d (failing _ _ d e)
  numeral_reads level OfChar t d n e = failing _ _ d (failing _ _ d e)
  numeral_reads level (OfInt size) t d n e = failing _ _ d (failing _ _ d e)
  numeral_reads level (OfUint size) t d n e = failing _ _ d (failing _ _ d e)
  numeral_reads level (OfEnum count) t d n e = failing _ _ d (failing _ _ d e)
  numeral_reads level OfBool t d n e = absurd cc
  numeral_reads level (OfNamed number switch) t d n e = absurd cc
  numeral_reads level (OfStruct ss) t d n e = absurd cc
  numeral_reads level (OfUnion k arms) t d n e = absurd cc
  numeral_reads level (OfArray kind s) t d n e = absurd cc
  numeral_reads level (OfText most) t d n e = absurd cc
  numeral_reads level (OfRef s) t d n e = absurd cc
  numeral_reads level (OfUnique s) t d n e = absurd cc
  numeral_reads level (OfFull s) t d n e = absurd cc
  numeral_reads level (OfHandle kind) t d n e = absurd cc

  pub number_reads : (level : ℕ) (s : Form) (t : List ℕ) (d : Departure) → is_number s ≡ true → (heads 45 t || heads_digit t) ≡ true → NumberStops t d → Reads level s t d
  number_reads level s t d n h x = numeral_reads level s t d n (if_true (heads 45 t || heads_digit t) (number_at t) (Err (wrong t)) h ∙ number_err x)

  unsigned_above : (most : ℕ) (t rest : List ℕ) (minus : Bool) (n : ℕ) → numeral_at t ≡ Ok (npair (numeral minus (small n)) rest) → (not minus && is_below most (small n)) ≡ false → unsigned_at most t ≡ Err (Range (length t))
  unsigned_above most t rest minus n e r =
      through (numeral_at t) (λ x. if not x.0.minus && is_below most x.0.size then Ok (size_of x.0.size, x.1) else Err (Range (length t))) (npair (numeral minus (small n)) rest) e
      ∙ if_false (not minus && is_below most (small n)) (Ok (size_of (small n), rest)) (Err (Range (length t))) r

  signed_above : (size : ℕ) (t rest : List ℕ) (minus : Bool) (n : ℕ) → numeral_at t ≡ Ok (npair (numeral minus (small n)) rest) → is_signed size (numeral minus (small n)) ≡ false → signed_at size t ≡ Err (Range (length t))
  signed_above size t rest minus n e r =
      through (numeral_at t) (λ x. if is_signed size x.0 then Ok (signed x.0, x.1) else Err (Range (length t))) (npair (numeral minus (small n)) rest) e
      ∙ if_false (is_signed size (numeral minus (small n))) (Ok (signed (numeral minus (small n)), rest)) (Err (Range (length t))) r

  above_reads : (level : ℕ) (s : Form) (t rest : List ℕ) (minus : Bool) (n : ℕ) → is_number s ≡ true → numeral_at t ≡ Ok (npair (numeral minus (small n)) rest) → in_range s minus n ≡ false → Reads level s t (Range (length t))
  above_reads level OfByte t rest minus n b e r = failing _ _ _ (unsigned_above (2 ^ 8) t rest minus n e r)
  above_reads level OfChar t rest minus n b e r = failing _ _ _ (unsigned_above (2 ^ 8) t rest minus n e r)
  above_reads level (OfInt size) t rest minus n b e r = failing _ _ _ (signed_above size t rest minus n e r)
  above_reads level (OfUint size) t rest minus n b e r = failing _ _ _ (unsigned_above (limit size) t rest minus n e r)
  above_reads level (OfEnum count) t rest minus n b e r = failing _ _ _ (unsigned_above count t rest minus n e r)
  above_reads level OfBool t rest minus n b e r = absurd cc
  above_reads level (OfNamed number switch) t rest minus n b e r = absurd cc
  above_reads level (OfStruct ss) t rest minus n b e r = absurd cc
  above_reads level (OfUnion k arms) t rest minus n b e r = absurd cc
  above_reads level (OfArray kind s) t rest minus n b e r = absurd cc
  above_reads level (OfText most) t rest minus n b e r = absurd cc
  above_reads level (OfRef s) t rest minus n b e r = absurd cc
  above_reads level (OfUnique s) t rest minus n b e r = absurd cc
  above_reads level (OfFull s) t rest minus n b e r = absurd cc
  above_reads level (OfHandle kind) t rest minus n b e r = absurd cc

  pub range_reads : (level : ℕ) (s : Form) (t rest : List ℕ) (minus : Bool) (n : ℕ) → is_number s ≡ true → IsNumber t minus n rest → in_range s minus n ≡ false → Reads level s t (Range (length t))
  range_reads level s t rest minus n b x r = above_reads level s t rest minus n b (if_true (heads 45 t || heads_digit t) (number_at t) (Err (wrong t)) (number_heads x) ∙ number_is x) r

  index_reads : (level : ℕ) {c most : ℕ} {s : Form} (t : List ℕ) (d : Departure) → HasIndex s c most → index_at most t ≡ Err d → (goes begins (c ∷ t) ≡ true) × Reads level s (c ∷ t) d
  index_reads level t d an_item e = (refl, failing _ _ d e)
  index_reads level t d a_slot e = (refl, failing _ _ d e)

  pub index_stops : (level : ℕ) {c most : ℕ} {s : Form} {t : List ℕ} {d : Departure} → HasIndex s c most → NaturalStops t d → (goes begins (c ∷ t) ≡ true) × Reads level s (c ∷ t) d
  index_stops level {t = t} {d = d} i x = index_reads level t d i (failing _ _ d (natural_err x))

  pub index_range : (level : ℕ) {c most n : ℕ} {s : Form} {t rest : List ℕ} → HasIndex s c most → IsNatural t n rest → is_below most (small n) ≡ false → (goes begins (c ∷ t) ≡ true) × Reads level s (c ∷ t) (Range (length t))
  index_range level {most = most} {n = n} {t = t} {rest = rest} i x r =
      index_reads level t (Range (length t)) i
      (through (natural_at t) (λ y. if is_below most y.0 then Ok (size_of y.0, y.1) else Err (Range (length t))) (opair (small n) rest) (natural_is t n rest x) ∙ if_false (is_below most (small n)) (Ok (size_of (small n), rest)) (Err (Range (length t))) r)
