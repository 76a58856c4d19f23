-- What is told of a journal is one thing.
use Rattle.std.proofs.Common.{◌≡◌, ℕ, ◌-◌, ◌<◌, true, Some, None, inl, inr, List, [], ◌∷◌, ◌++◌, length, take, drop, get_or, ap, sym, ◌∙◌, subst, arith, append_assoc, drop-cons}
use Rattle.std.specs.Prelude.{reverse, suc}
use Rattle.std.proofs.lemmas.Bool.{cases_order}
use Rattle.std.proofs.lemmas.List.{reverse-append, take_all, take-append-drop, take-take, get_or-take, length-take-le}
use Rattle.std.proofs.lemmas.Option.{slice_get_cases}
use Rattle.handle_model.specs.declared.entry.Home.{Home}
use Rattle.handle_model.specs.declared.entry.Entry.{Entry}
use Rattle.handle_model.specs.declared.base.Base.{Base}
use Rattle.handle_model.specs.History.{IsSound, since, history_of, size}
use Rattle.handle_model.specs.Journal.{Legal, Allowed, due}
use Rattle.journal_audit.specs.declared.verdict.Verdict.{Verdict}
use Rattle.journal_audit.specs.declared.verdict.Verdict.TheVariants as verdicts
use Rattle.journal_audit.specs.Verdicts.{TellsVerdict, BreachAt, IsBreach}
use Rattle.handle_model.proofs.Older.{older_since}

-- each entry of a legal journal was allowed after those before it
allowed_there : (home : Home) (base : Base) (front : List Entry) (e : Entry) (more : List Entry) → Legal (history_of home base (front ++ e ∷ more)) → Allowed (history_of home base front) e
allowed_there home base front e more l =
    let turned : reverse (front ++ e ∷ more) ≡ reverse more ++ e ∷ reverse front =
    reverse-append front (e ∷ more) ∙ (ap (λ t. t ++ reverse front) (reverse-append (e ∷ []) more) ∙ append_assoc (reverse more) (e ∷ []) (reverse front)) in
    let there : Legal (since home base (reverse more ++ e ∷ reverse front)) = subst (λ past. Legal (since home base past)) turned l in
    (older_since home base (reverse more) (e ∷ reverse front) there).0

cut_there : (entries : List Entry) (n : ℕ) (e : Entry) → n < length entries → get_or entries n e ≡ e → entries ≡ take n entries ++ e ∷ drop (suc n) entries
cut_there entries n e lt at =
    sym (take-append-drop n entries) ∙ ap (λ t. take n entries ++ t) (drop-cons entries n e lt ∙ ap (λ x. x ∷ drop (suc n) entries) at)

no_breach : (home : Home) (base : Base) (entries : List Entry) (n : ℕ) → IsSound (history_of home base entries) → BreachAt home base entries n → ⊥
no_breach home base entries n s b =
    elim (slice_get_cases entries n).1 [
      | inl w ↦
          let e = w.0 in
          let at : IsBreach (history_of home base (take n entries)) (Some e) = subst (λ o. IsBreach (history_of home base (take n entries)) o) w.2 b.2 in
          let cut = cut_there entries n e w.1 w.3 in
          at (allowed_there home base (take n entries) e (drop (suc n) entries) (subst (λ es. Legal (history_of home base es)) cut s.legal))
      | inr w ↦
          let at : IsBreach (history_of home base (take n entries)) None = subst (λ o. IsBreach (history_of home base (take n entries)) o) w.1 b.2 in
          let due_here : due (history_of home base entries) ≡ true = subst (λ es. due (history_of home base es) ≡ true) (take_all n entries w.0) at in
          let settled = s.settled in
          absurd (cc)
    ]

pub good_is_legal : (home : Home) (base : Base) (entries : List Entry) (verdict : Verdict) → IsSound (history_of home base entries) → TellsVerdict home base entries verdict → verdict ≡ verdicts.Legal (size (history_of home base entries))
good_is_legal home base entries (verdicts.Legal n) s t = ap verdicts.Legal t.0
good_is_legal home base entries (verdicts.Breach place) s t = absurd (no_breach home base entries (place - base.count) s t.1)

-- a place where it breaks is the first
earlier_legal : (home : Home) (base : Base) (entries : List Entry) (p q : ℕ) → p < q → BreachAt home base entries p → BreachAt home base entries q → ⊥
earlier_legal home base entries p q lt b c =
    elim (slice_get_cases entries p).1 [
      | inl w ↦
          let e = w.0 in
          let front : List Entry = take q entries in
          let at : IsBreach (history_of home base (take p entries)) (Some e) = subst (λ o. IsBreach (history_of home base (take p entries)) o) w.2 b.2 in
          let high = w.1 in
          let less : p < length front = let n = length-take-le q entries c.0 in omega (arith, n, lt) in
          let same : get_or front p e ≡ e = get_or-take q entries p e lt ∙ w.3 in
          let cut = cut_there front p e less same in
          let shorter : take p front ≡ take p entries = take-take p q entries (omega (arith, lt)) in
          let allowed = allowed_there home base (take p front) e (drop (suc p) front) (subst (λ es. Legal (history_of home base es)) cut c.1) in
          at (subst (λ es. Allowed (history_of home base es) e) shorter allowed)
      | inr w ↦ let over = w.0 in let within = c.0 in absurd (omega (arith, over, within, lt))
    ]

one_breach : (home : Home) (base : Base) (entries : List Entry) (p q : ℕ) → BreachAt home base entries p → BreachAt home base entries q → p ≡ q
one_breach home base entries p q b c =
    elim (cases_order p q) [
      | inl e ↦ e
      | inr (inl lt) ↦ absurd (earlier_legal home base entries p q lt b c)
      | inr (inr lt) ↦ absurd (earlier_legal home base entries q p lt c b)
    ]

pub one_verdict : (home : Home) (base : Base) (entries : List Entry) (some other : Verdict) → TellsVerdict home base entries some → TellsVerdict home base entries other → some ≡ other
one_verdict home base entries (verdicts.Legal n) (verdicts.Legal m) s t = ap verdicts.Legal (s.0 ∙ sym t.0)
one_verdict home base entries (verdicts.Legal n) (verdicts.Breach q) s t =
    absurd (no_breach home base entries (q - base.count) (record { legal = s.1; settled = s.2 }) t.1)
one_verdict home base entries (verdicts.Breach p) (verdicts.Legal m) s t =
    absurd (no_breach home base entries (p - base.count) (record { legal = t.1; settled = t.2 }) s.1)
one_verdict home base entries (verdicts.Breach p) (verdicts.Breach q) s t =
    let same = one_breach home base entries (p - base.count) (q - base.count) s.1 t.1 in
    let low = s.0 in
    let below = t.0 in
    ap verdicts.Breach (omega (arith, same, low, below))
