-- Where deeds stand in histories.
use Rattle.std.proofs.Common.{◌≡◌, ◌≢◌, ℕ, zero, suc, ◌<◌, ◌≤◌, ◌==◌, Bool, true, false, Some, List, [], ◌∷◌, ◌++◌, length, map, filter, refl, sym, ap, subst, ◌∙◌, arith, append-nil, append_assoc, length-append}
use Rattle.std.specs.Prelude.{slice_get, if◌then◌else◌}
use Rattle.std.proofs.lemmas.Option.{slice_get_within}
use Rattle.std.proofs.lemmas.List.{map-append}
use Rattle.std.proofs.lemmas.List.Elements.{filter-append}
use Rattle.turn_lock.specs.Histories.{StartsWith}
use Rattle.turn_lock.specs.Passes.{own}
use Rattle.turn_lock.proofs.HistoryLemmas.{starts_self, starts_trans, starts_length}
use Rattle.server_calls.specs.Chains.{Deed}
use Rattle.desk_told.specs.Deeds.{DeedForm}
use Rattle.desk_told.specs.Passes.{PassForm, history, Enters}
use Rattle.manager_api.specs.Answers.{Ans}
use Rattle.manager_api.specs.Calls.{Call}
use Rattle.handle_model.specs.declared.entry.DueItem.{DueItem}
use Rattle.desk_locks.specs.Passes.{Halves, Both}
use Rattle.desk_locks.specs.Tellings.{iface_of, form_of, deeds_of, StandAt, Ascends, Gains}

-- ---- the deeds of one service

same_true : (a b : ℕ) → a ≡ b → (a == b) ≡ true
same_true a b e = grind arith

other_false : (a b : ℕ) → a ≢ b → (a == b) ≡ false
other_false a b e = grind arith

module _ {S : Type 0} (n : ℕ) (echoes : Bool) where
  pub its : (d : Deed) → iface_of echoes d ≡ n → deeds_of {S = S} n echoes (d ∷ []) ≡ form_of d ∷ []
  its d e = ap (λ b. map form_of (if b then d ∷ [] else [])) (same_true (iface_of echoes d) n e)

  pub others : (d : Deed) → iface_of echoes d ≢ n → deeds_of {S = S} n echoes (d ∷ []) ≡ []
  others d e = ap (λ b. map form_of (if b then d ∷ [] else [])) (other_false (iface_of echoes d) n e)

  pub deeds_append : (ds es : List Deed) → deeds_of {S = S} n echoes (ds ++ es) ≡ deeds_of n echoes ds ++ deeds_of n echoes es
  deeds_append ds es = ap (map form_of) (filter-append (λ d. iface_of echoes d == n) ds es) ∙ map-append form_of (filter (λ d. iface_of echoes d == n) ds) (filter (λ d. iface_of echoes d == n) es)

-- ---- places

get_more : {A : Type 0} (xs ys : List A) (n : ℕ) (x : A) → slice_get xs n ≡ Some x → slice_get (xs ++ ys) n ≡ Some x
get_more [] ys n x e = absurd cc
get_more (y ∷ xs) ys zero x e = e
get_more (y ∷ xs) ys (suc n) x e = get_more xs ys n x e

last_there : {A : Type 0} (xs : List A) (x : A) → slice_get (xs ++ x ∷ []) (length xs) ≡ Some x
last_there [] x = refl
last_there (y ∷ xs) x = last_there xs x

ascends_lower : (low high : ℕ) (ns : List ℕ) → low ≤ high → Ascends high ns → Ascends low ns
ascends_lower low high [] le a = tt
ascends_lower low high (n ∷ ns) le a = let h = a.0 in (omega (arith, h, le), a.1)

module _ {S : Type 0} where
  stand_longer : (h rest : List (DeedForm S)) (ns : List ℕ) (ds : List (DeedForm S)) → StandAt h ns ds → StandAt (h ++ rest) ns ds
  stand_longer h rest [] [] s = s
  stand_longer h rest (n ∷ ns) (d ∷ ds) s = (get_more h rest n d s.0, stand_longer h rest ns ds s.1)
  stand_longer h rest [] (d ∷ ds) s = absurd s
  stand_longer h rest (n ∷ ns) [] s = absurd s

  pub stand_more : (h k : List (DeedForm S)) (ns : List ℕ) (ds : List (DeedForm S)) → StartsWith k h → StandAt h ns ds → StandAt k ns ds
  stand_more h k ns ds w s = subst (λ l. StandAt l ns ds) (sym w.1) (stand_longer h w.0 ns ds s)

  pub stand_append : (h : List (DeedForm S)) (ns ms : List ℕ) (ds es : List (DeedForm S)) → StandAt h ns ds → StandAt h ms es → StandAt h (ns ++ ms) (ds ++ es)
  stand_append h [] ms [] es s t = t
  stand_append h (n ∷ ns) ms (d ∷ ds) es s t = (s.0, stand_append h ns ms ds es s.1 t)
  stand_append h [] ms (d ∷ ds) es s t = absurd s
  stand_append h (n ∷ ns) ms [] es s t = absurd s

  stand_none : (h : List (DeedForm S)) (ns : List ℕ) → StandAt h ns [] → ns ≡ []
  stand_none h [] s = refl
  stand_none h (n ∷ ns) s = absurd s

  ascends_append : (h : List (DeedForm S)) (ns ms : List ℕ) (ds : List (DeedForm S)) (low high : ℕ) → StandAt h ns ds → Ascends low ns → length h ≤ high → low ≤ high → Ascends high ms
      → Ascends low (ns ++ ms)
  ascends_append h [] ms [] low high s a le lh b = ascends_lower low high ms lh b
  ascends_append h (n ∷ ns) ms (d ∷ ds) low high s a le lh b =
      let inside : n < length h = slice_get_within h n d s.0 in
      (a.0, ascends_append h ns ms ds (suc n) high s.1 a.1 le (omega (arith, inside, le)) b)
  ascends_append h [] ms (d ∷ ds) low high s a le lh b = absurd s
  ascends_append h (n ∷ ns) ms [] low high s a le lh b = absurd s

  -- ---- what a pass gains

  pub gains_none : (p q : PassForm S) (ds : List (DeedForm S)) → StartsWith (history q) (history p) → own q ≡ own p → ds ≡ [] → Gains p ds q
  gains_none p q ds seen own_is none = subst (λ l. Gains p l q) (sym none) record {
    seen = seen;
    places = [];
    own_is = own_is ∙ sym (append-nil (own p));
    stand = tt;
    ascends = tt;
  }

  pub gains_same : (p q : PassForm S) (ds : List (DeedForm S)) → q ≡ p → ds ≡ [] → Gains p ds q
  gains_same p q ds e none = gains_none p q ds (subst (λ (r : PassForm S). StartsWith (history r) (history p)) (sym e) (starts_self (history p))) (ap own e) none

  pub gains_one : (may : S → Call → Bool → Ans → S → Type 0) (downs : S → DueItem → S → Type 0) (first : S) (p q : PassForm S) (d : DeedForm S) (ds : List (DeedForm S))
      → Enters may downs first p d q → ds ≡ d ∷ [] → Gains p ds q
  gains_one may downs first p q d ds e one =
      let low : length (history p) ≤ length (history p ++ e.between) = let m = length-append (history p) e.between in omega (arith, m) in
      subst (λ l. Gains p l q) (sym one) record {
        seen = (e.between ++ d ∷ [], e.history_is ∙ append_assoc (history p) e.between (d ∷ []));
        places = length (history p ++ e.between) ∷ [];
        own_is = e.own_is;
        stand = (subst (λ l. slice_get l (length (history p ++ e.between)) ≡ Some d) (sym e.history_is) (last_there (history p ++ e.between) d), tt);
        ascends = (low, tt);
      }

  pub gains_on : (p q r : PassForm S) (ds es : List (DeedForm S)) → Gains p ds q → Gains q es r → Gains p (ds ++ es) r
  gains_on p q r ds es a b =
      let stood = stand_more (history q) (history r) a.places ds b.seen a.stand in
      record {
        seen = starts_trans (history r) (history q) (history p) b.seen a.seen;
        places = a.places ++ b.places;
        own_is = b.own_is ∙ ap (λ l. l ++ b.places) a.own_is ∙ append_assoc (own p) a.places b.places;
        stand = stand_append (history r) a.places b.places ds es stood b.stand;
        ascends = ascends_append (history q) a.places b.places ds (length (history p)) (length (history q)) a.stand a.ascends (omega arith) (starts_length (history q) (history p) a.seen) b.ascends;
      }

  pub gains_back : (p q r other last t : PassForm S) (ds none : List (DeedForm S)) → Halves p q other → none ≡ [] → Gains q none r → Gains other ds last → Both r last t → Gains p ds t
  gains_back p q r other last t ds none h n a b j =
      let nothing : a.places ≡ [] = stand_none (history r) a.places (subst (λ l. StandAt (history r) a.places l) n a.stand) in
      let mine : own r ≡ own p = a.own_is ∙ ap (λ l. own q ++ l) nothing ∙ append-nil (own q) ∙ h.mine in
      let theirs : own last ≡ b.places = b.own_is ∙ ap (λ l. l ++ b.places) h.none in
      record {
        seen = starts_trans (history t) (history r) (history p) j.mine (subst (λ l. StartsWith (history r) l) h.seen a.seen);
        places = b.places;
        own_is = j.all ∙ (λ k. mine k ++ theirs k);
        stand = stand_more (history last) (history t) b.places ds j.theirs b.stand;
        ascends = subst (λ l. Ascends (length l) b.places) h.theirs b.ascends;
      }
