-- A journal as it is printed names each connection that is there.
use Rattle.std.proofs.Common.{◌≡◌, ◌⊎◌, ◌∙◌, ◌==◌, ℕ, Bool, true, false, ◌&&◌, ◌||◌, not, Option, Some, None, List, [], ◌∷◌, ◌++◌, refl, sym, ap, subst, arith, inl, inr, true≢false, option_map}
use Rattle.std.specs.List.{list_any, filter, filter_map, find}
use Rattle.std.proofs.lemmas.Bool.{cases_Bool, eqb-true}
use Rattle.std.proofs.lemmas.Bool.Decides.{nat_tests}
use Rattle.handle_model.specs.declared.entry.Home.{Home}
use Rattle.handle_model.specs.declared.entry.Asked.{Asked}
use Rattle.handle_model.specs.declared.entry.Entry.{Entry}
use Rattle.handle_model.specs.declared.entry.Entry.TheVariants.{Join, Accept, Take, Deny, Cancel, Orphan, End, Leave, Shut}
use Rattle.handle_model.specs.declared.base.Base.{Base}
use Rattle.handle_model.specs.declared.base.BaseCall.{BaseCall}
use Rattle.handle_model.specs.Bases.{empty_base, has_conn, is_call, asked_before}
use Rattle.handle_model.specs.History.{History, since}
use Rattle.handle_model.specs.Since.{any_since}
use Rattle.handle_model.specs.Calls.{asked_since}
use Rattle.handle_model.specs.Journal.{Legal, joins, leaves, is_open, has_joined, joined, conns, asked, waits, runs}
use Rattle.handle_model.proofs.Held.{and_left, or_right, or_cases}
use Rattle.journal_tables.specs.FoldOf.{StandsFor}
use Rattle.journal_tables.proofs.Alike.{folds_stand}
use Rattle.hub_story.specs.Folded.{kept_since}
use Rattle.hub_story.proofs.FoldLemmas.{kept_folds}
use Rattle.conn_histories.specs.Tales.{whole}
use Rattle.server_rounds.specs.Endings.{IsThere}
use Rattle.server_command.specs.Groups.{Names}

-- ---- who is open is among the connections

abbrev Has : ℕ → List ℕ → Type 0
Has d xs = list_any (λ x. x == d) xs ≡ true

pub same_number : (d : ℕ) → (d == d) ≡ true
same_number d = grind (arith, nat_tests)

has_kept : (p : ℕ → Bool) (d : ℕ) (xs : List ℕ) → p d ≡ true → Has d xs → Has d (filter p xs)
has_kept p d [] t h = h
has_kept p d (x ∷ xs) t h = elim (or_cases (x == d) (list_any (λ y. y == d) xs) h) [
  | inl e ↦ let same : x ≡ d = eqb-true x d e in rw (ap p same ∙ t, e) refl
  | inr r ↦ elim (cases_Bool (p x)) [
    | inl y ↦ rw y (or_right (x == d) (list_any (λ y. y == d) (filter p xs)) (has_kept p d xs t r))
    | inr n ↦ rw n (has_kept p d xs t r)
  ]
]

kept_has : (p : ℕ → Bool) (d : ℕ) (xs : List ℕ) → Has d (filter p xs) → p d ≡ true
kept_has p d [] h = absurd (true≢false (sym h))
kept_has p d (x ∷ xs) h = elim (cases_Bool (p x)) [
  | inl y ↦ elim (or_cases (x == d) (list_any (λ y. y == d) (filter p xs)) (rw y at h)) [
    | inl e ↦ subst (λ z. p z ≡ true) (eqb-true x d e) y
    | inr r ↦ kept_has p d xs r
  ]
  | inr n ↦ kept_has p d xs (rw n at h)
]

-- of a journal whose base is empty
has_joined_there : (home : Home) (past : List Entry) (d : ℕ) → has_joined (whole home past) d ≡ true → Has d (joined (whole home past))
has_joined_there home [] d h = absurd (true≢false (sym h))
has_joined_there home (Join c ∷ past) d h = elim (or_cases (c == d) (has_joined (whole home past) d) h) [
  | inl e ↦ rw e refl
  | inr r ↦ or_right (c == d) (list_any (λ x. x == d) (joined (whole home past))) (has_joined_there home past d r)
]
has_joined_there home (_ ∷ past) d h = has_joined_there home past d h

-- ---- who is there is named

any_of : (b : Bool) (p : Entry → Bool) (past : List Entry) → any_since b p past ≡ true → (list_any p past ≡ true) ⊎ (b ≡ true)
any_of b p [] h = inr h
any_of b p (e ∷ past) h = elim (or_cases (p e) (any_since b p past) h) [
  | inl a ↦ inl (rw a refl)
  | inr r ↦ elim (any_of b p past r) [ inl m ↦ inl (or_right (p e) (list_any p past) m) | inr t ↦ inr t ]
]

named_joined : (home : Home) (base : Base) (past : List Entry) (d : ℕ) → has_joined (since home base past) d ≡ true → Names (since home base past) d
named_joined home base past d h = elim (any_of (has_conn base d) (joins d) past h) [ inl a ↦ inl a | inr b ↦ inr (inl b) ]

named_more : (home : Home) (base : Base) (past : List Entry) (e : Entry) (d : ℕ) → Names (since home base past) d → Names (since home base (e ∷ past)) d
named_more home base past e d (inl j) = inl (or_right (joins d e) (list_any (joins d) past) j)
named_more home base past e d (inr b) = inr b

named_call : (calls : List BaseCall) (k : ℕ) (a : Asked) → option_map (λ (c : BaseCall). c.asked) (find (is_call k) calls) ≡ Some a → list_any (λ (c : BaseCall). c.asked.conn == a.conn) calls ≡ true
named_call [] k a s = absurd (cc)
named_call (c ∷ calls) k a s = elim (cases_Bool (is_call k c)) [
  | inl t ↦ let same : c.asked ≡ a = some_asked (c.asked) a (rw t at s) in rw (ap (λ (x : Asked). x.conn == a.conn) same ∙ same_number a.conn) refl
  | inr f ↦ or_right (c.asked.conn == a.conn) (list_any (λ (c : BaseCall). c.asked.conn == a.conn) calls) (named_call calls k a (rw f at s))
]
  where
    some_asked : (x y : Asked) → Some x ≡ Some y → x ≡ y
    some_asked x y e = cc

named_asked : (home : Home) (base : Base) (past : List Entry) (k : ℕ) (a : Asked) → Legal (since home base past) → asked_since base past k ≡ Some a → Names (since home base past) a.conn
named_asked home base [] k a l s = inr (inr (named_call base.calls k a s))
named_asked home base (Accept m b ∷ past) k a l s =
    elim (cases_Bool (m == k)) [
      | inl e ↦ let same : b ≡ a = some_same b a (accept_here m k b a e s) in
          named_more home base past (Accept m b) a.conn
          (subst (λ (x : Asked). Names (since home base past) x.conn) same
          (named_joined home base past b.conn (and_left (has_joined (since home base past) b.conn) (not (list_any (leaves b.conn) past)) l.0.fits.1)))
      | inr e ↦ named_more home base past (Accept m b) a.conn (named_asked home base past k a l.1 (rw e at s))
    ]
  where
    some_same : (b a : Asked) → Some b ≡ Some a → b ≡ a
    some_same b a e = cc

    accept_here : (m k : ℕ) (b a : Asked) → (m == k) ≡ true → asked_since base (Accept m b ∷ past) k ≡ Some a → Some b ≡ Some a
    accept_here m k b a e s = rw e at s
named_asked home base (e ∷ past) k a l s = named_more home base past e a.conn (named_asked home base past k a l.1 s)

-- ---- of a journal as its group keeps it

module _ (home : Home) (past : List Entry) (legal : Legal (whole home past)) where
  kept_stands : StandsFor (kept_since home past) (whole home past)
  kept_stands = folds_stand (kept_since home past) (whole home past) legal (inr refl) (kept_folds home past legal)

  open_kept : (d : ℕ) → is_open (whole home past) d ≡ true → is_open (kept_since home past) d ≡ true
  open_kept d o =
      kept_has (is_open (kept_since home past)) d (joined (kept_since home past))
      (subst (Has d) (sym (kept_stands.conns_same))
      (has_kept (is_open (whole home past)) d (joined (whole home past)) o
      (has_joined_there home past d (and_left (has_joined (whole home past) d) (not (list_any (leaves d) past)) o))))

  pub named : (d : ℕ) → IsThere (whole home past) d → Names (kept_since home past) d
  named d (inl o) =
      let x : History = kept_since home past in
      named_joined x.home x.base x.past d (and_left (has_joined x d) (not (list_any (leaves d) x.past)) (open_kept d o))
  named d (inr c) =
      let x : History = kept_since home past in
      let s : asked x c.0 ≡ Some c.1 = kept_stands.asked_same c.0 (or_right (waits (whole home past) c.0) (runs (whole home past) c.0) c.2) ∙ c.3 in
      subst (Names x) c.4 (named_asked x.home x.base x.past c.0 c.1 kept_stands.legal s)
