-- What a watch knows of the journal that it watched.
use Rattle.std.proofs.Common.{◌≡◌, ℕ, ◌+◌, ◌-◌, ◌≤◌, ◌<◌, Bool, true, false, Option, Some, None, List, [], ◌∷◌, ◌++◌, length, take, refl, sym, ◌∙◌, ap, subst, arith, append_assoc, inl, inr}
use Rattle.std.specs.List.{slice_get}
use Rattle.std.proofs.lemmas.List.{length_push, length-reverse, take-append-le, get_or_append_left, append-nil}
use Rattle.std.proofs.lemmas.Option.{slice_get_past, slice_get-get_or}
use Rattle.std.proofs.Math.Seq.{take-append_seam, take-length, get_or-append_seam}
use Rattle.handle_model.specs.declared.entry.Home.{Home}
use Rattle.handle_model.specs.declared.entry.Entry.{Entry}
use Rattle.handle_model.specs.declared.base.Base.{Base}
use Rattle.handle_model.specs.Sound.{IsSoundBase}
use Rattle.handle_model.specs.History.{History, since, with_entry, history_of, size}
use Rattle.handle_model.specs.Journal.{Legal, Allowed, due}
use Rattle.handle_model.proofs.Reversed.{reverse-snoc}
use Rattle.journal_audit.specs.Verdicts.{IsBreach, BreachAt, TellsVerdict}
use Rattle.journal_tables.specs.Tables.{Tables, Admits, entered, is_due}
use Rattle.journal_tables.specs.Shown.{tables_of}
use Rattle.journal_tables.proofs.Shown.{base_shown, admits_shown, follows, due_shown}
use Rattle.journal_audit.specs.Watching.{Watched, started, WatchesBy, Watches, WatchesAll, said_by, said_of}

-- the tables are those of the journal; or the place of its first breach is known
abbrev pub SeenAs : Home → Base → List Entry → Tables → Option ℕ → Type 0
SeenAs home base es t None = Legal (history_of home base es) × (t ≡ tables_of (history_of home base es))
SeenAs home base es t (Some p) = (base.count ≤ p) × (p - base.count < length es) × BreachAt home base es (p - base.count)

pub record Seen (home : Home) (base : Base) (es : List Entry) (w : Watched) : Type 0 where
  pub at : w.place ≡ base.count + length es
  pub known : SeenAs home base es w.tables w.breach

pub seen_start : (home : Home) (base : Base) → IsSoundBase home base → Seen home base [] (started home base)
seen_start home base s = record { at = omega arith; known = (s, sym (base_shown home base s)) }

history_more : (home : Home) (base : Base) (es : List Entry) (e : Entry) → history_of home base (es ++ e ∷ []) ≡ with_entry (history_of home base es) e
history_more home base es e = ap (λ past. since home base past) (reverse-snoc es e)

size_is : (home : Home) (base : Base) (es : List Entry) → size (history_of home base es) ≡ base.count + length es
size_is home base es = ap (λ n. base.count + n) (length-reverse es)

-- AN ENTRY THAT IS ALLOWED

grown : (home : Home) (base : Base) (es : List Entry) (e : Entry) (t new : Tables) (place : ℕ) → Legal (history_of home base es) → t ≡ tables_of (history_of home base es) → place ≡ base.count + length es → Admits t e → new ≡ entered t place e → SeenAs home base (es ++ e ∷ []) new None
grown home base es e t new place l q at a n =
    let j : History = history_of home base es in
    let ok = (admits_shown j e l).0 (subst (λ x. Admits x e) q a) in
    let legal : Legal (with_entry j e) = (ok, l) in
    let here : place ≡ size j = at ∙ sym (size_is home base es) in
    let tables : new ≡ tables_of (with_entry j e) = n ∙ (ap (λ x. entered x place e) q ∙ (ap (λ m. entered (tables_of j) m e) here ∙ sym (follows j e legal))) in
    subst (λ (h : History). Legal h × (new ≡ tables_of h)) (sym (history_more home base es e)) (legal, tables)

-- ONE THAT IS NOT

last_there : (es : List Entry) (e : Entry) → slice_get (es ++ e ∷ []) (length es) ≡ Some e
last_there es e =
    let long = length_push es e in
    slice_get-get_or (es ++ e ∷ []) (length es) e (omega arith) ∙ ap (λ x. Some x) (get_or-append_seam es e [] e)

broken : (home : Home) (base : Base) (es : List Entry) (e : Entry) (t new : Tables) (place : ℕ) → Legal (history_of home base es) → t ≡ tables_of (history_of home base es) → place ≡ base.count + length es → (Admits t e → ⊥) → SeenAs home base (es ++ e ∷ []) new (Some place)
broken home base es e t new place l q at n =
    let j : History = history_of home base es in
    let long = length_push es e in
    let index : place - base.count ≡ length es = omega arith in
    let not_allowed : Allowed j e → ⊥ = λ a. n (subst (λ x. Admits x e) (sym q) ((admits_shown j e l).1 a)) in
    let front : take (length es) (es ++ e ∷ []) ≡ es = take-append_seam es (e ∷ []) in
    let there : IsBreach j (slice_get (es ++ e ∷ []) (length es)) = subst (λ o. IsBreach j o) (sym (last_there es e)) not_allowed in
    let within : length es ≤ length (es ++ e ∷ []) = omega arith in
    let breach : BreachAt home base (es ++ e ∷ []) (length es) =
    (within, subst (λ xs. Legal (history_of home base xs)) (sym front) l, subst (λ xs. IsBreach (history_of home base xs) (slice_get (es ++ e ∷ []) (length es))) (sym front) there) in
    (omega arith, omega arith, subst (λ m. BreachAt home base (es ++ e ∷ []) m) (sym index) breach)

-- AND ONE BEHIND IT

kept : (home : Home) (base : Base) (es : List Entry) (e : Entry) (t new : Tables) (p : ℕ) → SeenAs home base es t (Some p) → SeenAs home base (es ++ e ∷ []) new (Some p)
kept home base es e t new p s =
    let n = p - base.count in
    let low = s.1 in
    let long = length_push es e in
    let front : take n (es ++ e ∷ []) ≡ take n es = take-append-le n es (e ∷ []) (omega arith) in
    let there : slice_get (es ++ e ∷ []) n ≡ slice_get es n =
    slice_get-get_or (es ++ e ∷ []) n e (omega arith) ∙ (ap (λ x. Some x) (get_or_append_left es (e ∷ []) e n low) ∙ sym (slice_get-get_or es n e low)) in
    let breach = s.2 in (
      s.0,
      omega arith,
      (omega arith, subst (λ xs. Legal (history_of home base xs)) (sym front) breach.1, subst (λ xs. IsBreach (history_of home base xs) (slice_get (es ++ e ∷ []) n)) (sym front) (subst (λ o. IsBreach (history_of home base (take n es)) o) (sym there) breach.2)),
    )

known_more : (home : Home) (base : Base) (es : List Entry) (old new : Watched) (e : Entry) (b : Option ℕ) → old.place ≡ base.count + length es → SeenAs home base es old.tables b → WatchesBy b old e new → SeenAs home base (es ++ e ∷ []) new.tables new.breach
known_more home base es old new e (Some p) at s w =
    subst (λ o. SeenAs home base (es ++ e ∷ []) new.tables o) (sym w) (kept home base es e old.tables new.tables p s)
known_more home base es old new e None at s (inl w) =
    subst (λ o. SeenAs home base (es ++ e ∷ []) new.tables o) (sym w.1) (grown home base es e old.tables new.tables old.place s.0 s.1 at w.0 w.2)
known_more home base es old new e None at s (inr w) =
    subst (λ o. SeenAs home base (es ++ e ∷ []) new.tables o) (sym w.1) (broken home base es e old.tables new.tables old.place s.0 s.1 at w.0)

pub seen_more : (home : Home) (base : Base) (es : List Entry) (old new : Watched) (e : Entry) → Seen home base es old → Watches old e new → Seen home base (es ++ e ∷ []) new
seen_more home base es old new e s w =
    let here = s.at in
    let next = w.0 in
    let long = length_push es e in
    record { at = omega arith; known = known_more home base es old new e old.breach s.at s.known w.1 }

pub seen_all : (home : Home) (base : Base) (es later : List Entry) (old new : Watched) → Seen home base es old → WatchesAll old later new → Seen home base (es ++ later) new
seen_all home base es [] old new s w = rw (append-nil es, w) s
seen_all home base es (e ∷ later) old new s w =
    subst (λ xs. Seen home base xs new) (append_assoc es (e ∷ []) later) (seen_all home base (es ++ e ∷ []) later w.0 new (seen_more home base es old w.0 e s w.1) w.2)

-- WHAT IS THEN SAID

said_none : (home : Home) (base : Base) (es : List Entry) (t : Tables) (place : ℕ) → place ≡ base.count + length es → Legal (history_of home base es) → t ≡ tables_of (history_of home base es) → (b : Bool) → is_due t ≡ b → TellsVerdict home base es (said_by None b place)
said_none home base es t place at l q false d =
    let j : History = history_of home base es in
    (at ∙ sym (size_is home base es), l, sym (due_shown j l) ∙ (ap is_due (sym q) ∙ d))
said_none home base es t place at l q true d =
    let j : History = history_of home base es in
    let now : due j ≡ true = sym (due_shown j l) ∙ (ap is_due (sym q) ∙ d) in
    let index : place - base.count ≡ length es = omega arith in
    let whole : take (length es) es ≡ es = take-length es in
    let none : slice_get es (length es) ≡ None = slice_get_past es (length es) (omega arith) in
    let breach : BreachAt home base es (length es) =
    (omega arith, subst (λ xs. Legal (history_of home base xs)) (sym whole) l, subst (λ xs. IsBreach (history_of home base xs) (slice_get es (length es))) (sym whole) (subst (λ o. IsBreach j o) (sym none) now)) in
    (omega arith, subst (λ n. BreachAt home base es n) (sym index) breach)

said : (home : Home) (base : Base) (es : List Entry) (w : Watched) (o : Option ℕ) → w.place ≡ base.count + length es → SeenAs home base es w.tables o → TellsVerdict home base es (said_by o (is_due w.tables) w.place)
said home base es w None at s = said_none home base es w.tables w.place at s.0 s.1 (is_due w.tables) refl
said home base es w (Some p) at s = (s.0, s.2)

pub seen_told : (home : Home) (base : Base) (es : List Entry) (w : Watched) → Seen home base es w → TellsVerdict home base es (said_of w)
seen_told home base es w s = said home base es w w.breach s.at s.known
