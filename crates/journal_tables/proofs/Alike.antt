-- A folded journal and the whole one: their tables are the same but for places.
use Rattle.std.proofs.Common.{◌≡◌, ℕ, ◌-◌, true, false, ◌||◌, List, [], ◌∷◌, ◌++◌, length, take, drop, reverse, refl, sym, ◌∙◌, ap, subst, arith, inl, inr, append_assoc}
use Rattle.std.specs.List.{list_any}
use Rattle.std.proofs.lemmas.Bool.{cases_Bool, or_parts}
use Rattle.std.proofs.lemmas.List.{take-append-drop, length-append, reverse-reverse}
use Rattle.std.proofs.lemmas.List.Folds.{list_any-append}
use Rattle.handle_model.specs.declared.entry.Home.{Home}
use Rattle.handle_model.specs.declared.entry.Entry.{Entry}
use Rattle.handle_model.specs.declared.base.Base.{Base}
use Rattle.handle_model.specs.Folds.{base_of, advance, fold}
use Rattle.handle_model.specs.History.{History, IsSound, since, size}
use Rattle.handle_model.specs.Journal.{Legal, asked, waits, runs, is_shut, due}
use Rattle.handle_model.specs.Further.{with_entries}
use Rattle.journal_tables.specs.Folding.{HasBegun, BaseBegun}
use Rattle.journal_tables.proofs.Going.{goes_on}
use Rattle.journal_tables.proofs.Sounds.{base_sound}
use Rattle.journal_tables.proofs.Stood.{stands, asked_newer}
use Rattle.journal_tables.proofs.Advanced.{has_begun, advance_since, advance_twice}
use Rattle.journal_tables.proofs.Folded.{front_legal, says_same}
use Rattle.journal_tables.specs.FoldOf.{IsFoldOf, StandsFor}

-- WHAT BOTH ARE

begun_of : (j : History) → HasBegun j → BaseBegun (base_of j)
begun_of j (inl lt) = inl lt
begun_of j (inr e) = inr (ap base_of e)

stands_to : (home : Home) (base : Base) (newer older : List Entry) → Legal (since home base (newer ++ older)) → BaseBegun base → list_any is_shut older ≡ false → due (since home base older) ≡ false
    → StandsFor (since home (advance home base older) newer) (since home base (newer ++ older))
stands_to home base newer older l b u q =
    let j : History = since home base older in
    let old : History = since home base (newer ++ older) in
    let l1 = front_legal j newer l in
    let h = has_begun home base older b l1 in
    let sound = base_sound j l1 u q h in
    let w = goes_on j (base_of j) newer sound (stands j u) l in
    let new : History = since home (base_of j) newer in
    let counts : size new ≡ size old = omega (arith, length-append newer older) in
    let asks : (k : ℕ) → (waits old k || runs old k) ≡ true → asked new k ≡ asked old k = λ k c. asked_newer j newer k sound l c in
    let says = says_same new old w.legal l counts w.tables asks in
    subst (λ a. StandsFor (since home a newer) old) (sym (advance_since home base older b l1 u)) (record {
      legal = w.legal;
      begun = begun_of j h;
      sizes = says.sizes;
      joins_same = says.joins;
      accepts_same = says.accepts;
      opens_same = says.opens;
      conns_same = says.conns_same;
      calls_same = says.calls;
      asked_same = asks;
      waits_same = says.waits_same;
      runs_same = says.runs_same;
      blockers_same = says.blockers;
      live_same = says.live;
      faults_same = says.faults;
      cookies_same = says.cookies;
      due_same = says.dues;
      allows_same = says.allows;
    })

pub folds_stand : (x j : History) → Legal j → BaseBegun j.base → IsFoldOf x j → StandsFor x j
folds_stand x j l b f =
    subst (λ z. StandsFor z j) (sym f.fold_is) (subst (λ p. StandsFor (since j.home (advance j.home j.base f.older) f.newer) (since j.home j.base p)) (sym f.past_is)
    (stands_to j.home j.base f.newer f.older (subst (λ p. Legal (since j.home j.base p)) f.past_is l) b f.open_is f.settled_is))

-- HOW A FOLD COMES ABOUT

quiet_front : (j : History) (newer : List Entry) → Legal (with_entries j newer) → list_any is_shut newer ≡ false → due (with_entries j newer) ≡ false → due j ≡ false
quiet_front j [] l u d = d
quiet_front j (e ∷ newer) l u d =
    let parts = or_parts (is_shut e) (list_any is_shut newer) u in
    let off = parts.0 in
    let quiet : due (with_entries j newer) ≡ false = elim (cases_Bool (due (with_entries j newer))) [ inl t ↦ absurd (let f = l.0.shut_when_due t in cc) | inr t ↦ t ] in
    quiet_front j newer l.1 parts.1 quiet

once_to : (home : Home) (base : Base) (newer older : List Entry) → IsSound (since home base (newer ++ older)) → list_any is_shut (newer ++ older) ≡ false → IsFoldOf (since home (advance home base older) newer) (since home base (newer ++ older))
once_to home base newer older s u =
    let parts = or_parts (list_any is_shut newer) (list_any is_shut older) (sym (list_any-append is_shut newer older) ∙ u) in
    record {
      newer = newer;
      older = older;
      past_is = refl;
      open_is = parts.1;
      settled_is = quiet_front (since home base older) newer s.legal parts.0 s.settled;
      fold_is = refl;
    }

pub folds_once : (j : History) (n : ℕ) → IsSound j → list_any is_shut j.past ≡ false → IsFoldOf (fold n j) j
folds_once j n s u =
    let m : ℕ = length j.past - n in
    let e : take m j.past ++ drop m j.past ≡ j.past = take-append-drop m j.past in
    subst (λ p. IsFoldOf (fold n j) (since j.home j.base p)) e
    (once_to j.home j.base (take m j.past) (drop m j.past) (subst (λ p. IsSound (since j.home j.base p)) (sym e) s) (subst (λ p. list_any is_shut p ≡ false) (sym e) u))

pub folds_on : (x j : History) (more : List Entry) → IsFoldOf x j → IsFoldOf (with_entries x more) (with_entries j more)
folds_on x j more f = record {
  newer = more ++ f.newer;
  older = f.older;
  past_is = ap (λ l. more ++ l) f.past_is ∙ sym (append_assoc more f.newer f.older);
  open_is = f.open_is;
  settled_is = f.settled_is;
  fold_is = ap (λ z. with_entries z more) f.fold_is;
}

twice_to : (home : Home) (base : Base) (newer middle older : List Entry) → Legal (since home base (newer ++ (middle ++ older))) → BaseBegun base → list_any is_shut older ≡ false → due (since home base older) ≡ false
    → list_any is_shut middle ≡ false → due (since home (advance home base older) middle) ≡ false
    → IsFoldOf (since home (advance home (advance home base older) middle) newer) (since home base (newer ++ (middle ++ older)))
twice_to home base newer middle older l b u q v r =
    let l1 : Legal (since home base (middle ++ older)) = front_legal (since home base (middle ++ older)) newer l in
    let s = stands_to home base middle older l1 b u q in
    let none : list_any is_shut middle || list_any is_shut older ≡ false = rw (v, u) refl in
    record {
      newer = newer;
      older = middle ++ older;
      past_is = refl;
      open_is = list_any-append is_shut middle older ∙ none;
      settled_is = sym s.due_same ∙ r;
      fold_is = ap (λ a. since home a newer) (sym (advance_twice home base middle older));
    }

twice_of : (y j : History) (home : Home) (base : Base) (newer middle older past : List Entry) → j ≡ since home base (past ++ older) → past ≡ newer ++ middle → y ≡ since home (advance home (advance home base older) middle) newer
    → IsFoldOf (since home (advance home (advance home base older) middle) newer) (since home base (newer ++ (middle ++ older))) → IsFoldOf y j
twice_of y j home base newer middle older past e p z f =
    let whole : since home base (newer ++ (middle ++ older)) ≡ j =
    ap (λ l. since home base l) (sym (append_assoc newer middle older)) ∙ (ap (λ l. since home base (l ++ older)) (sym p) ∙ sym e) in
    subst (λ h. IsFoldOf y h) whole (subst (λ h. IsFoldOf h (since home base (newer ++ (middle ++ older)))) (sym z) f)

pub folds_twice : (y x j : History) → Legal j → BaseBegun j.base → IsFoldOf y x → IsFoldOf x j → IsFoldOf y j
folds_twice y x j l b g f =
    let home = j.home in
    let base = j.base in
    let past : f.newer ≡ g.newer ++ g.older = ap (λ (z : History). z.past) (sym f.fold_is) ∙ g.past_is in
    let all : j.past ≡ g.newer ++ (g.older ++ f.older) = f.past_is ∙ (ap (λ l. l ++ f.older) past ∙ append_assoc g.newer g.older f.older) in
    let legal : Legal (since home base (g.newer ++ (g.older ++ f.older))) = subst (λ p. Legal (since home base p)) all l in
    let quiet : due (since home (advance home base f.older) g.older) ≡ false = subst (λ (z : History). due (since z.home z.base g.older) ≡ false) f.fold_is g.settled_is in
    let is : y ≡ since home (advance home (advance home base f.older) g.older) g.newer =
    subst (λ (z : History). y ≡ since z.home (advance z.home z.base g.older) g.newer) f.fold_is g.fold_is in
    twice_of y j home base g.newer g.older f.older f.newer (ap (λ p. since home base p) f.past_is) past is
    (twice_to home base g.newer g.older f.older legal b f.open_is f.settled_is g.open_is quiet)

unshut : (x j : History) → IsFoldOf x j → list_any is_shut j.past ≡ false → list_any is_shut x.past ≡ false
unshut x j f u =
    let parts = or_parts (list_any is_shut f.newer) (list_any is_shut f.older) (sym (list_any-append is_shut f.newer f.older) ∙ subst (λ l. list_any is_shut l ≡ false) f.past_is u) in
    ap (λ (z : History). list_any is_shut z.past) f.fold_is ∙ parts.0

pub folds_again : (x j : History) (n : ℕ) (more : List Entry) → IsSound j → list_any is_shut j.past ≡ false → BaseBegun j.base → IsFoldOf x j → IsFoldOf (with_entries (fold n x) more) (with_entries j more)
folds_again x j n more s u b f =
    let w = folds_stand x j s.legal b f in
    let sound : IsSound x = record { legal = w.legal; settled = w.due_same ∙ s.settled } in
    folds_on (fold n x) j more (folds_twice (fold n x) x j s.legal b (folds_once x n sound (unshut x j f u)) f)
