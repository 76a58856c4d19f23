-- What a journal says of a connection's calls stays, whatever others enter.
use Rattle.std.proofs.Common.{◌≡◌, ℕ, Bool, true, false, ◌||◌, if◌then◌else◌, List, [], ◌∷◌, ◌++◌, filter, refl, ap, ◌∙◌}
use Rattle.std.specs.List.{list_any, AllByRecursion}
use Rattle.std.specs.List.{cons_option}
use Rattle.std.proofs.lemmas.List.Elements.{filter-append, filter_map-append}
use Rattle.handle_model.specs.declared.entry.Entry.{Entry}
use Rattle.conn_histories.specs.declared.turn.Deed.{Deed}
use Rattle.conn_histories.specs.declared.turn.Deed.TheVariants.{Pending, Refused, Accepted}
use Rattle.conn_histories.specs.declared.turn.Request.{Request}
use Rattle.conn_histories.specs.declared.turn.Turn.{Turn}
use Rattle.conn_histories.specs.declared.turn.Turn.TheVariants.{Binding, Bound, NotBound, Answered, Called, Closed}
use Rattle.conn_histories.specs.Entries.{deed_number, number_of, numbers_of}
use Rattle.conn_histories.specs.Tales.{of_call, of_conn, is_about, tale, accepted_of, calls_of, DeedStands, Stands, StandAll}
use Rattle.conn_turns.specs.Laws.{AreOfOthers}

pub filter_none : (p : Entry → Bool) (xs : List Entry) → list_any p xs ≡ false → filter p xs ≡ []
filter_none p [] h = refl
filter_none p (x ∷ xs) h = by_test (p x) (λ r. filter_none p xs r) h
  where
    by_test : (b : Bool) → (list_any p xs ≡ false → filter p xs ≡ []) → (b || list_any p xs) ≡ false → (if b then x ∷ filter p xs else filter p xs) ≡ []
    by_test true r h = absurd cc
    by_test false r h = r h

about_none : (c k : ℕ) (xs : List Entry) → list_any (of_conn c) xs ≡ false → list_any (of_call k) xs ≡ false → list_any (is_about c k) xs ≡ false
about_none c k [] h i = refl
about_none c k (x ∷ xs) h i = by_test (of_conn c x) (of_call k x) (λ a b. about_none c k xs a b) h i
  where
    by_test : (a b : Bool) → (list_any (of_conn c) xs ≡ false → list_any (of_call k) xs ≡ false → list_any (is_about c k) xs ≡ false)
        → (a || list_any (of_conn c) xs) ≡ false → (b || list_any (of_call k) xs) ≡ false → ((a || b) || list_any (is_about c k) xs) ≡ false
    by_test true b r h i = absurd cc
    by_test false true r h i = absurd cc
    by_test false false r h i = r h i

pub tale_quiet : (c k : ℕ) (newer past : List Entry) → list_any (of_conn c) newer ≡ false → list_any (of_call k) newer ≡ false → tale c k (newer ++ past) ≡ tale c k past
tale_quiet c k newer past h i = filter-append (is_about c k) newer past ∙ ap (λ l. l ++ tale c k past) (filter_none (is_about c k) newer (about_none c k newer h i))

module _ (c : ℕ) (gone : Bool) (newer past : List Entry) (no_conn : list_any (of_conn c) newer ≡ false) where
  abbrev pub NoneOf : List ℕ → Type 0
  NoneOf ks = AllByRecursion (λ k. list_any (of_call k) newer ≡ false) ks

  deed_stays : (r : Request) (deed : Deed) (ks : List ℕ) → NoneOf (cons_option (deed_number deed) ks) → DeedStands c gone past r deed → DeedStands c gone (newer ++ past) r deed × NoneOf ks
  deed_stays r Pending ks none h = (tt, none)
  deed_stays r (Refused status) ks none h = (tt, none)
  deed_stays r (Accepted k slots fate) ks none h = (tale_quiet c k newer past no_conn none.0 ∙ h, none.1)

  turn_stays : (t : Turn) (ks : List ℕ) → NoneOf (cons_option (number_of t) ks) → Stands c gone past t → Stands c gone (newer ++ past) t × NoneOf ks
  turn_stays (Binding asked) ks none h = (tt, none)
  turn_stays (Bound asked group octets) ks none h = (tt, none)
  turn_stays (NotBound asked reason octets) ks none h = (tt, none)
  turn_stays (Answered octets) ks none h = (tt, none)
  turn_stays (Called r) ks none h = deed_stays r r.deed ks none h
  turn_stays (Closed octets fault) ks none h = (tt, none)

  all_stay : (ts : List Turn) → NoneOf (numbers_of ts) → AllByRecursion (Stands c gone past) ts → AllByRecursion (Stands c gone (newer ++ past)) ts
  all_stay [] none h = tt
  all_stay (t ∷ ts) none h = let here = turn_stays t (numbers_of ts) none h.0 in (here.0, all_stay ts here.1 h.1)

pub turns_stay : (c : ℕ) (gone : Bool) (newer past : List Entry) (turns : List Turn) → AreOfOthers c turns newer → StandAll c gone past turns → StandAll c gone (newer ++ past) turns
turns_stay c gone newer past turns others s = record {
  calls = filter_map-append (accepted_of c) newer past ∙ (ap (λ l. l ++ calls_of c past) others.no_call ∙ s.calls);
  stand = all_stay c gone newer past others.no_conn turns others.none_of s.stand;
  none_open = s.none_open;
  none_left = s.none_left;
}
