-- What a call asked stands in the base, or at the place of its Accept.
use Rattle.std.proofs.Common.{◌≡◌, ℕ, ◌+◌, ◌-◌, ◌≤◌, ◌<◌, ◌||◌, Option, Some, None, List, [], ◌∷◌, ◌++◌, length, reverse, refl, sym, ◌∙◌, ap, subst, arith, inl, inr}
use Rattle.std.specs.Prelude.{slice_get}
use Rattle.std.specs.List.{filter_map, cons_option}
use Rattle.std.specs.Option.{option_or, option_and_then}
use Rattle.std.proofs.lemmas.Bool.{cases_Bool}
use Rattle.std.proofs.lemmas.Bool.Decides.{eqb_tells}
use Rattle.std.proofs.lemmas.List.{length-append, length-reverse, reverse-reverse}
use Rattle.std.proofs.lemmas.Option.{slice_get_within, slice_get-get_or, get_or_from_slice_get}
use Rattle.std.proofs.Math.ListN.{get_or-append}
use Rattle.std.proofs.Math.Seq.{get_or-append_seam}
use Rattle.handle_model.specs.declared.entry.Home.{Home}
use Rattle.handle_model.specs.declared.entry.Asked.{Asked}
use Rattle.handle_model.specs.declared.entry.Entry.{Entry}
use Rattle.handle_model.specs.declared.entry.Entry.TheVariants.{Accept}
use Rattle.handle_model.specs.declared.base.BaseCall.{BaseCall}
use Rattle.handle_model.specs.declared.base.Base.{Base}
use Rattle.handle_model.specs.Bases.{asked_before}
use Rattle.handle_model.specs.Folds.{call_as, call_in, open_calls}
use Rattle.handle_model.specs.History.{History, since, history_of}
use Rattle.handle_model.specs.Journal.{Legal, asked, accepted, accept_count, waits, runs}
use Rattle.handle_model.proofs.Reversed.{reverse-cons}
use Rattle.handle_model.proofs.BaseFacts.{asked_before_within}
use Rattle.call_table.specs.declared.row.Row.{Row}
use Rattle.call_table.specs.Shown.{place_since, row_as, row_in, rows_of}
use Rattle.call_table.specs.Based.{asked_in, asked_at, stored, stored_call, stored_calls}
use Rattle.call_table.specs.Laws.{open_asked}
use Rattle.call_table.proofs.Found.{row_shown}

-- ONE ENTRY MORE

some_more : (xs : List Entry) (e x : Entry) (i : ℕ) → slice_get xs i ≡ Some x → slice_get (xs ++ e ∷ []) i ≡ Some x
some_more xs e x i h =
    let lt = slice_get_within xs i x h in
    let longer = length-append xs (e ∷ []) in
    slice_get-get_or (xs ++ e ∷ []) i x (omega (arith, lt, longer)) ∙ ap (λ y. Some y) (get_or-append xs (e ∷ []) x i lt ∙ get_or_from_slice_get xs i x x h)

in_more : (xs : List Entry) (e : Entry) (i : ℕ) (a : Asked) (q : Option Entry) → slice_get xs i ≡ q → asked_in q ≡ Some a → asked_in (slice_get (xs ++ e ∷ []) i) ≡ Some a
in_more xs e i a None h f = absurd (cc)
in_more xs e i a (Some x) h f = ap asked_in (some_more xs e x i h) ∙ f

or_more : (o : Option Asked) (xs : List Entry) (e : Entry) (i : ℕ) (a : Asked) → option_or o (asked_in (slice_get xs i)) ≡ Some a → option_or o (asked_in (slice_get (xs ++ e ∷ []) i)) ≡ Some a
or_more None xs e i a h = in_more xs e i a (slice_get xs i) refl h
or_more (Some b) xs e i a h = h

newest : (xs : List Entry) (e : Entry) → slice_get (xs ++ e ∷ []) (length xs) ≡ Some e
newest xs e =
    let longer = length-append xs (e ∷ []) in
    slice_get-get_or (xs ++ e ∷ []) (length xs) e (omega (arith, longer)) ∙ ap (λ y. Some y) (get_or-append_seam xs e [] e)

-- THE PLACE OF AN ACCEPT

accepts_from : (home : Home) (base : Base) (past : List Entry) → base.accepts ≤ accept_count (since home base past)
accepts_from home base [] = omega arith
accepts_from home base (Accept k a ∷ past) = let more = accepts_from home base past in omega (arith, more)
accepts_from home base (_ ∷ past) = accepts_from home base past

none_before : (home : Home) (base : Base) (k : ℕ) (o : Option Asked) → Legal (since home base []) → asked_before base k ≡ o → base.accepts < k → asked_before base k ≡ None
none_before home base k None s e lt = e
none_before home base k (Some a) s e lt = let low = asked_before_within home base k a s e in absurd (omega (arith, low, lt))

sound_base : (home : Home) (base : Base) (past : List Entry) → Legal (since home base past) → Legal (since home base [])
sound_base home base [] l = l
sound_base home base (e ∷ past) l = sound_base home base past l.1

abbrev pub Found : Base → List Entry → ℕ → Asked → Type 0
Found base past k a = option_or (asked_before base k) (asked_in (slice_get (reverse past) (place_since base past k - base.count))) ≡ Some a

turned_more : (o : Option Asked) (past : List Entry) (e : Entry) (i : ℕ) (a : Asked) → option_or o (asked_in (slice_get (reverse past) i)) ≡ Some a → option_or o (asked_in (slice_get (reverse (e ∷ past)) i)) ≡ Some a
turned_more o past e i a h = subst (λ xs. option_or o (asked_in (slice_get xs i)) ≡ Some a) (sym (reverse-cons e past)) (or_more o (reverse past) e i a h)

newest_found : (base : Base) (past : List Entry) (k : ℕ) (a : Asked) → asked_before base k ≡ None → option_or (asked_before base k) (asked_in (slice_get (reverse (Accept k a ∷ past)) (base.count + length past - base.count))) ≡ Some a
newest_found base past k a n =
    let turned = length-reverse past in
    let place : base.count + length past - base.count ≡ length (reverse past) = omega (arith, turned) in
    rw (n, place, reverse-cons (Accept k a) past) (ap asked_in (newest (reverse past) (Accept k a)))

found_since : (home : Home) (base : Base) (past : List Entry) (k : ℕ) (a : Asked) → Legal (since home base past) → asked (since home base past) k ≡ Some a → Found base past k a
found_since home base [] k a l e = let f : asked_before base k ≡ Some a = e in rw f refl
found_since home base (Accept m b ∷ past) k a l e =
    elim (eqb_tells m k) [
      | inl q ↦
          let same : b ≡ a = (let f = rw q.0 at e in cc) in
          let first = l.0.fits.0 in
          let low = accepts_from home base past in
          let number = q.1 in
          let n = none_before home base k (asked_before base k) (sound_base home base past l.1) refl (omega (arith, first, low, number)) in
          rw q.0 (subst (λ x. option_or (asked_before base k) (asked_in (slice_get (reverse (Accept m b ∷ past)) (base.count + length past - base.count))) ≡ Some x) same (subst (λ x. option_or (asked_before base k) (asked_in (slice_get (reverse (Accept x b ∷ past)) (base.count + length past - base.count))) ≡ Some b) (sym q.1) (newest_found base past k b n)))
      | inr q ↦ rw q.0 (turned_more (asked_before base k) past (Accept m b) (place_since base past k - base.count) a (found_since home base past k a l.1 (rw q.0 at e)))
    ]
found_since home base (e ∷ past) k a l h = turned_more (asked_before base k) past e (place_since base past k - base.count) a (found_since home base past k a l.1 h)

-- THE CALLS

abbrev pub then_stored : Base → List Entry → Option Row → Option BaseCall
then_stored base entries None = None
then_stored base entries (Some r) = stored_call base entries r

stored_one : (home : Home) (base : Base) (entries : List Entry) (k : ℕ) (o : Option Asked) → Legal (history_of home base entries) → asked (history_of home base entries) k ≡ o → then_stored base (reverse (reverse entries)) (row_as (history_of home base entries) k o) ≡ call_as (history_of home base entries) k o
stored_one home base entries k None l e = refl
stored_one home base entries k (Some a) l e =
    let j : History = history_of home base entries in
    let f = found_since home base (reverse entries) k a l e in
    elim (cases_Bool (waits j k || runs j k)) [
      | inl c ↦ rw (c, f) refl
      | inr c ↦ rw c refl
    ]

then_cons : (base : Base) (entries : List Entry) (o : Option Row) (rows : List Row) → filter_map (stored_call base entries) (cons_option o rows) ≡ cons_option (then_stored base entries o) (filter_map (stored_call base entries) rows)
then_cons base entries None rows = refl
then_cons base entries (Some r) rows = refl

then_all : (base : Base) (entries : List Entry) (f : ℕ → Option Row) (g : ℕ → Option BaseCall) (ks : List ℕ) → ((k : ℕ) → then_stored base entries (f k) ≡ g k) → filter_map (stored_call base entries) (filter_map f ks) ≡ filter_map g ks
then_all base entries f g [] e = refl
then_all base entries f g (k ∷ ks) e = then_cons base entries (f k) (filter_map f ks) ∙ rw (e k, then_all base entries f g ks e) refl

pub calls_shown : (home : Home) (base : Base) (entries : List Entry) → Legal (history_of home base entries) → stored_calls base entries (rows_of (history_of home base entries)) ≡ open_calls (history_of home base entries)
calls_shown home base entries l =
    let j : History = history_of home base entries in
    subst (λ es. stored_calls base es (rows_of j) ≡ open_calls j) (reverse-reverse entries) (then_all base (reverse (reverse entries)) (row_in j) (call_in j) (reverse (accepted j)) (λ k. stored_one home base entries k (asked j k) l refl))

-- ONE CALL

asked_one : (home : Home) (base : Base) (entries : List Entry) (k : ℕ) (o : Option Asked) → Legal (history_of home base entries) → asked (history_of home base entries) k ≡ o → option_and_then (stored base (reverse (reverse entries))) (row_as (history_of home base entries) k o) ≡ open_asked (history_of home base entries) k
asked_one home base entries k None l e =
    let j : History = history_of home base entries in
    elim (cases_Bool (waits j k || runs j k)) [
      | inl c ↦ rw (c, e) refl
      | inr c ↦ rw c refl
    ]
asked_one home base entries k (Some a) l e =
    let j : History = history_of home base entries in
    let f = found_since home base (reverse entries) k a l e in
    elim (cases_Bool (waits j k || runs j k)) [
      | inl c ↦ rw (c, f, e) refl
      | inr c ↦ rw c refl
    ]

pub asked_shown : (home : Home) (base : Base) (entries : List Entry) (k : ℕ) → Legal (history_of home base entries) → asked_at base entries (rows_of (history_of home base entries)) k ≡ open_asked (history_of home base entries) k
asked_shown home base entries k l =
    let j : History = history_of home base entries in
    let there : asked_at base (reverse (reverse entries)) (rows_of j) k ≡ open_asked j k =
    ap (option_and_then (stored base (reverse (reverse entries)))) (row_shown j k) ∙ asked_one home base entries k (asked j k) l refl in
    subst (λ es. asked_at base es (rows_of j) k ≡ open_asked j k) (reverse-reverse entries) there
