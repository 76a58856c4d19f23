-- What is open stays in what a group keeps.
use Rattle.std.proofs.Common.{◌≡◌, ℕ, Bool, true, false, ◌||◌, ◌&&◌, not, Option, Some, None, is_some, List, [], ◌∷◌, ◌++◌, refl, sym, ◌∙◌, ap, subst, arith, inl, inr, ◌⊎◌, append_assoc}
use Rattle.std.specs.List.{list_any}
use Rattle.std.proofs.lemmas.Bool.{cases_Bool, or_parts, not-true}
use Rattle.std.proofs.lemmas.Bool.Decides.{nat_tests}
use Rattle.std.proofs.lemmas.List.Folds.{list_any-append}
use Rattle.handle_model.specs.declared.entry.Home.{Home}
use Rattle.handle_model.specs.declared.entry.Asked.{Asked}
use Rattle.handle_model.specs.declared.entry.DueItem.{DueItem}
use Rattle.handle_model.specs.declared.entry.Entry.{Entry}
use Rattle.handle_model.specs.declared.entry.Entry.TheVariants.{Join, Accept, Take, Deny, Cancel, Orphan, End, Leave, Shut}
use Rattle.handle_model.specs.Bases.{empty_base, has_conn, taken_before}
use Rattle.handle_model.specs.Folds.{folded}
use Rattle.handle_model.specs.History.{History, since}
use Rattle.handle_model.specs.Journal.{Legal, Fits, any_since, is_join, joins, leaves, takes, ends, asked, has_joined, is_open, is_taken, waits, runs}
use Rattle.handle_model.proofs.Held.{and_left, and_right, or_right, or_cases, waits_open}
use Rattle.handle_model.specs.CallLaws.{accepts}
use Rattle.handle_model.proofs.Older.{shut_is_last}
use Rattle.handle_model.proofs.Accepted.{asks_as_accepted}
use Rattle.handle_model.proofs.Stages.{waits_asked, takes_after_accept}
use Rattle.journal_tables.specs.Folding.{BaseBegun}
use Rattle.journal_tables.specs.Kept.{Keeps}
use Rattle.journal_tables.proofs.Alike.{folds_stand}
use Rattle.journal_tables.proofs.FoldFloors.{keeps_joins, keeps_accepts}
use Rattle.journal_tables.proofs.Numbers.{holds_calls, holds_since_join, holds_since_accept}
use Rattle.hub_story.specs.Folded.{kept_with, kept_since}
use Rattle.hub_story.proofs.FoldLemmas.{kept_folds}
use Rattle.hub_story.proofs.PlaceLemmas.{a_join, self_is, asked_there}
use Rattle.hub_story.proofs.ApartLemmas.{a_take}
use Rattle.hub_story.proofs.OwnLemmas.{an_accepted}

-- LISTS OF ENTRIES

among : (p : Entry → Bool) (newer : List Entry) (e : Entry) (older : List Entry) → p e ≡ true → list_any p (newer ++ e ∷ older) ≡ true
among p [] e older h = rw h refl
among p (x ∷ newer) e older h = or_right (p x) (list_any p (newer ++ e ∷ older)) (among p newer e older h)

-- where one of them passes
record Stands (p : Entry → Bool) (past : List Entry) : Type 0 where
  newer : List Entry
  entry : Entry
  older : List Entry
  is : past ≡ newer ++ entry ∷ older
  passes : p entry ≡ true

stands : (p : Entry → Bool) (past : List Entry) → list_any p past ≡ true → Stands p past
stands p [] h = absurd cc
stands p (e ∷ past) h = by_first (λ r. stands p past r) (p e) refl h
  where
    by_first : (list_any p past ≡ true → Stands p past) → (b : Bool) → p e ≡ b → list_any p (e ∷ past) ≡ true → Stands p (e ∷ past)
    by_first rest true t h = record { newer = []; entry = e; older = past; is = refl; passes = t }
    by_first rest false t h =
        let s = rest (rw t at h) in
        record { newer = e ∷ s.newer; entry = s.entry; older = s.older; is = ap (λ l. e ∷ l) s.is; passes = s.passes }

since_any : (start : Bool) (p : Entry → Bool) (past : List Entry) → list_any p past ≡ true → any_since start p past ≡ true
since_any start p [] h = absurd cc
since_any start p (e ∷ past) h = by_first (λ r. since_any start p past r) (p e) refl h
  where
    by_first : (list_any p past ≡ true → any_since start p past ≡ true) → (b : Bool) → p e ≡ b → list_any p (e ∷ past) ≡ true → any_since start p (e ∷ past) ≡ true
    by_first rest true t h = rw t refl
    by_first rest false t h = rw t (rest (rw t at h))

-- where an entry stands with all that came after it, so does each that came after it
newer_too : (x : History) (newer later : List Entry) (d e : Entry) → Keeps x (newer ++ d ∷ later) e → Keeps x newer d
newer_too x newer later d e k = record { rest = later ++ e ∷ k.rest; past_is = k.past_is ∙ append_assoc newer (d ∷ later) (e ∷ k.rest) }

pub but_not : (a b : Bool) → a ≡ true → b ≡ false → (a && not b) ≡ true
but_not a b h k = rw (h, k) refl

-- ONE ENTRY MORE

-- what passes stays where a fold, before a Join, has it still
keeps_more : (e : Entry) (x : History) (p : Entry → Bool) → list_any p x.past ≡ true → (is_join e ≡ true → list_any p (folded x).past ≡ true) → list_any p (kept_with e x).past ≡ true
keeps_more (Join c) x p h f = or_right (p (Join c)) (list_any p (folded x).past) (f refl)
keeps_more (Accept k a) x p h f = or_right (p (Accept k a)) (list_any p x.past) h
keeps_more (Take k cookies) x p h f = or_right (p (Take k cookies)) (list_any p x.past) h
keeps_more (Deny k slot) x p h f = or_right (p (Deny k slot)) (list_any p x.past) h
keeps_more (Cancel k) x p h f = or_right (p (Cancel k)) (list_any p x.past) h
keeps_more (Orphan k) x p h f = or_right (p (Orphan k)) (list_any p x.past) h
keeps_more (End k results said) x p h f = or_right (p (End k results said)) (list_any p x.past) h
keeps_more (Leave c) x p h f = or_right (p (Leave c)) (list_any p x.past) h
keeps_more (Shut items) x p h f = or_right (p (Shut items)) (list_any p x.past) h

keeps_new : (e : Entry) (x : History) (c : ℕ) → joins c e ≡ true → list_any (joins c) (kept_with e x).past ≡ true
keeps_new (Join d) x c t = rw t refl
keeps_new _ x c t = absurd cc

fold_joins : (x : History) (c : ℕ) → list_any (joins c) x.past ≡ true → is_open x c ≡ true → list_any (joins c) (folded x).past ≡ true
fold_joins x c h o =
    let s = stands (joins c) x.past h in
    let k = keeps_joins x s.newer s.older c (s.is ∙ ap (λ e. s.newer ++ e ∷ s.older) (a_join c s.entry s.passes)) o in
    ap (list_any (joins c)) k.past_is ∙ among (joins c) s.newer (Join c) k.rest (self_is c)

fold_accepts : (x : History) (k : ℕ) → list_any (accepts k) x.past ≡ true → runs x k ≡ true → list_any (accepts k) (folded x).past ≡ true
fold_accepts x k h r =
    let s = stands (accepts k) x.past h in
    let a = an_accepted k s.entry s.passes in
    let m = keeps_accepts x s.newer s.older k a.asked (s.is ∙ ap (λ e. s.newer ++ e ∷ s.older) a.entry_is) r in
    ap (list_any (accepts k)) m.past_is ∙ among (accepts k) s.newer (Accept k a.asked) m.rest (self_is k)

-- CONNECTIONS

begun : BaseBegun empty_base
begun = inr refl

module _ (home : Home) where
  abbrev whole : List Entry → History
  whole past = since home empty_base past

  kept_open : (past : List Entry) (c : ℕ) → Legal (whole past) → is_open (whole past) c ≡ true → list_any (joins c) (kept_since home past).past ≡ true → is_open (kept_since home past) c ≡ true
  kept_open past c l o h =
      let x : History = kept_since home past in
      let f = kept_folds home past l in
      let none : list_any (leaves c) past ≡ false = not-true (list_any (leaves c) past) (and_right (has_joined (whole past) c) (not (list_any (leaves c) past)) o) in
      let parts = or_parts (list_any (leaves c) f.newer) (list_any (leaves c) f.older) (sym (list_any-append (leaves c) f.newer f.older) ∙ (sym (ap (list_any (leaves c)) f.past_is) ∙ none)) in
      let here : list_any (leaves c) x.past ≡ false = ap (λ (z : History). list_any (leaves c) z.past) f.fold_is ∙ parts.0 in
      but_not (has_joined x c) (list_any (leaves c) x.past) (since_any (has_conn x.base c) (joins c) x.past h) here

  -- open before an entry that isn't its Join
  open_before : (e : Entry) (past : List Entry) (c : ℕ) → joins c e ≡ false → is_open (whole (e ∷ past)) c ≡ true → is_open (whole past) c ≡ true
  open_before e past c n o =
      let joined : has_joined (whole (e ∷ past)) c ≡ true = and_left (has_joined (whole (e ∷ past)) c) (not (list_any (leaves c) (e ∷ past))) o in
      let gone = or_parts (leaves c e) (list_any (leaves c) past) (not-true (list_any (leaves c) (e ∷ past)) (and_right (has_joined (whole (e ∷ past)) c) (not (list_any (leaves c) (e ∷ past))) o)) in
      but_not (has_joined (whole past) c) (list_any (leaves c) past) (rw n at joined) gone.1

  kept_joins : (past : List Entry) (c : ℕ) → Legal (whole past) → is_open (whole past) c ≡ true → list_any (joins c) (kept_since home past).past ≡ true
  kept_joins [] c l o = absurd cc
  kept_joins (e ∷ past) c l o = by_first (λ r. kept_joins past c l.1 r) (joins c e) refl
    where
      by_first : (is_open (whole past) c ≡ true → list_any (joins c) (kept_since home past).past ≡ true) → (b : Bool) → joins c e ≡ b → list_any (joins c) (kept_since home (e ∷ past)).past ≡ true
      by_first rest true t = keeps_new e (kept_since home past) c t
      by_first rest false t =
          let before = open_before e past c t o in
          let there = rest before in
          keeps_more e (kept_since home past) (joins c) there (λ j. fold_joins (kept_since home past) c there (kept_open past c l.1 before there))

  pub joins_stay : (past newer older : List Entry) (c : ℕ) → Legal (whole past) → past ≡ newer ++ Join c ∷ older → is_open (whole past) c ≡ true → Keeps (kept_since home past) newer (Join c)
  joins_stay past newer older c l p o = holds_since_join (kept_since home past) (whole past) newer older c l begun (kept_folds home past l) p (kept_joins past c l o)

  -- CALLS

  asked_of : (past newer older : List Entry) (k : ℕ) (a : Asked) → Legal (whole past) → past ≡ newer ++ Accept k a ∷ older → asked (whole past) k ≡ Some a
  asked_of past newer older k a l p = ap (λ past. asked (whole past) k) p ∙ asks_as_accepted (whole older) newer k a (subst (λ past. Legal (whole past)) p l)

  kept_calls : (past : List Entry) (k : ℕ) (a : Asked) → Legal (whole past) → asked (whole past) k ≡ Some a → is_open (whole past) a.conn ≡ true → list_any (accepts k) (kept_since home past).past ≡ true
  kept_calls past k a l asks o = holds_calls (kept_since home past) (whole past) k a l begun (kept_folds home past l) asks (kept_joins past a.conn l o)

  pub calls_stay : (past newer older : List Entry) (k : ℕ) (a : Asked) → Legal (whole past) → past ≡ newer ++ Accept k a ∷ older → is_open (whole past) a.conn ≡ true → Keeps (kept_since home past) newer (Accept k a)
  calls_stay past newer older k a l p o =
      holds_since_accept (kept_since home past) (whole past) newer older k a l begun (kept_folds home past l) p (kept_calls past k a l (asked_of past newer older k a l p) o)

  -- CALLS THAT WAIT OR RUN

  some_is : (o : Option Asked) → is_some o ≡ true → (a : Asked) × (o ≡ Some a)
  some_is None h = absurd cc
  some_is (Some a) h = (a, refl)

  kept_waiting : (past : List Entry) (k : ℕ) → Legal (whole past) → waits (whole past) k ≡ true → list_any (accepts k) (kept_since home past).past ≡ true
  kept_waiting past k l w =
      let a = some_is (asked (whole past) k) (waits_asked (whole past) k w) in
      kept_calls past k a.0 l a.1 (waits_open (whole past) k a.0 l a.1 w)

  -- a call waits before its Take
  waited : (j : History) (e : Entry) (k : ℕ) → takes k e ≡ true → Fits j e → waits j k ≡ true
  waited j (Take m cookies) k t f = let same : m ≡ k = grind (arith, nat_tests) in subst (λ (n : ℕ). waits j n ≡ true) same f.0
  waited j _ k t f = absurd cc

  no_join : (e : Entry) (k : ℕ) → takes k e ≡ true → is_join e ≡ true → ⊥
  no_join (Take m cookies) k t j = absurd cc
  no_join _ k t j = absurd cc

  runs_before : (e : Entry) (past : List Entry) (k : ℕ) → runs (whole (e ∷ past)) k ≡ true → (takes k e ≡ true) ⊎ (runs (whole past) k ≡ true)
  runs_before e past k r =
      let going = or_parts (ends k e) (list_any (ends k) past) (not-true (list_any (ends k) (e ∷ past)) (and_right (is_taken (whole (e ∷ past)) k) (not (list_any (ends k) (e ∷ past))) r)) in
      elim (or_cases (takes k e) (is_taken (whole past) k) (and_left (is_taken (whole (e ∷ past)) k) (not (list_any (ends k) (e ∷ past))) r)) [
        | inl t ↦ inl t
        | inr t ↦ inr (but_not (is_taken (whole past) k) (list_any (ends k) past) t going.1)
      ]

  kept_running : (past : List Entry) (k : ℕ) → Legal (whole past) → runs (whole past) k ≡ true → list_any (accepts k) (kept_since home past).past ≡ true
  kept_running [] k l r = absurd cc
  kept_running (e ∷ past) k l r =
      elim (runs_before e past k r) [
        | inl t ↦ keeps_more e (kept_since home past) (accepts k) (kept_waiting past k l.1 (waited (whole past) e k t l.0.fits)) (λ j. absurd (no_join e k t j))
        | inr t ↦
            let there = kept_running past k l.1 t in
            let same = (folds_stand (kept_since home past) (whole past) l.1 begun (kept_folds home past l.1)).runs_same k in
            keeps_more e (kept_since home past) (accepts k) there (λ j. fold_accepts (kept_since home past) k there (same ∙ t))
      ]

  pub accepts_stay : (past newer older : List Entry) (k : ℕ) (a : Asked) → Legal (whole past) → past ≡ newer ++ Accept k a ∷ older → (waits (whole past) k || runs (whole past) k) ≡ true → Keeps (kept_since home past) newer (Accept k a)
  accepts_stay past newer older k a l p h =
      let there : list_any (accepts k) (kept_since home past).past ≡ true = elim (or_cases (waits (whole past) k) (runs (whole past) k) h) [ inl w ↦ kept_waiting past k l w | inr r ↦ kept_running past k l r ] in
      holds_since_accept (kept_since home past) (whole past) newer older k a l begun (kept_folds home past l) p there

  pub takes_stay : (past newer older : List Entry) (k : ℕ) (cookies : List (Option ℕ)) → Legal (whole past) → past ≡ newer ++ Take k cookies ∷ older → runs (whole past) k ≡ true → Keeps (kept_since home past) newer (Take k cookies)
  takes_stay past newer older k cookies l p r =
      let before = takes_after_accept (whole older) newer k cookies (subst (λ past. Legal (whole past)) p l) in
      let s = stands (accepts k) older (asked_there older k before) in
      let a = an_accepted k s.entry s.passes in
      let is : past ≡ (newer ++ Take k cookies ∷ s.newer) ++ Accept k a.asked ∷ s.older =
      p ∙ (ap (λ l. newer ++ Take k cookies ∷ l) (s.is ∙ ap (λ e. s.newer ++ e ∷ s.older) a.entry_is) ∙ sym (append_assoc newer (Take k cookies ∷ s.newer) (Accept k a.asked ∷ s.older))) in
      newer_too (kept_since home past) newer s.newer (Take k cookies) (Accept k a.asked)
      (accepts_stay past (newer ++ Take k cookies ∷ s.newer) s.older k a.asked l is (or_right (waits (whole past) k) (runs (whole past) k) r))

  -- THE END

  pub shuts_stay : (past newer older : List Entry) (items : List DueItem) → Legal (whole past) → past ≡ newer ++ Shut items ∷ older → Keeps (kept_since home past) newer (Shut items)
  shuts_stay past newer older items l p =
      let last : newer ≡ [] = shut_is_last (whole older) newer items (subst (λ past. Legal (whole past)) p l) in
      let is : past ≡ Shut items ∷ older = p ∙ ap (λ n. n ++ Shut items ∷ older) last in
      record { rest = (kept_since home older).past; past_is = ap (λ past. (kept_since home past).past) is ∙ ap (λ n. n ++ Shut items ∷ (kept_since home older).past) (sym last) }

  -- WHAT WAS FOLDED AWAY

  pub folded_left : (past : List Entry) (c : ℕ) → Legal (whole past) → list_any (joins c) past ≡ true → list_any (joins c) (kept_since home past).past ≡ false → list_any (leaves c) past ≡ true
  folded_left past c l j n = elim (cases_Bool (list_any (leaves c) past)) [
    | inl t ↦ t
    | inr f ↦
        let there = kept_joins past c l (but_not (has_joined (whole past) c) (list_any (leaves c) past) (since_any (has_conn empty_base c) (joins c) past j) f) in absurd cc
  ]

  pub folded_ended : (past : List Entry) (k : ℕ) → Legal (whole past) → list_any (takes k) past ≡ true → list_any (takes k) (kept_since home past).past ≡ false → list_any (ends k) past ≡ true
  folded_ended past k l t n = elim (cases_Bool (list_any (ends k) past)) [
    | inl e ↦ e
    | inr f ↦
        let runs_on = but_not (is_taken (whole past) k) (list_any (ends k) past) (since_any (taken_before empty_base k) (takes k) past t) f in
        let s = stands (takes k) past t in
        let a = a_take k s.entry s.passes in
        let m = takes_stay past s.newer s.older k a.cookies l (s.is ∙ ap (λ e. s.newer ++ e ∷ s.older) a.entry_is) runs_on in
        let there : list_any (takes k) (kept_since home past).past ≡ true = ap (list_any (takes k)) m.past_is ∙ among (takes k) s.newer (Take k a.cookies) m.rest (self_is k) in
        absurd cc
  ]
