-- Which Joins and Accepts stand in a fold: those with a number above what its base counts.
use Rattle.std.proofs.Common.{◌≡◌, ℕ, ◌≤◌, ◌<◌, Bool, true, false, ◌||◌, ◌==◌, ◌↔◌, Some, List, [], ◌∷◌, ◌++◌, refl, sym, ◌∙◌, ap, subst, arith, inl, inr, ◌⊎◌}
use Rattle.std.specs.List.{list_any}
use Rattle.std.proofs.lemmas.Bool.{cases_Bool, eqb-true, eq-eqb, or_parts}
use Rattle.std.proofs.lemmas.List.Folds.{list_any-append}
use Rattle.handle_model.specs.declared.entry.Home.{Home}
use Rattle.handle_model.specs.declared.entry.Asked.{Asked}
use Rattle.handle_model.specs.declared.entry.Entry.{Entry}
use Rattle.handle_model.specs.declared.entry.Entry.TheVariants.{Join, Accept}
use Rattle.handle_model.specs.declared.base.Base.{Base}
use Rattle.handle_model.specs.Folds.{base_of}
use Rattle.handle_model.specs.History.{History, since}
use Rattle.handle_model.specs.Journal.{Legal, joins, asked, join_count, accept_count}
use Rattle.handle_model.proofs.Held.{or_cases, or_right}
use Rattle.handle_model.specs.CallLaws.{accepts}
use Rattle.journal_tables.specs.Folding.{BaseBegun}
use Rattle.journal_tables.proofs.Advanced.{advance_since}
use Rattle.journal_tables.proofs.Folded.{front_legal}
use Rattle.journal_tables.proofs.Sounds.{conn_since}
use Rattle.journal_tables.specs.FoldOf.{IsFoldOf}
use Rattle.journal_tables.specs.Kept.{Keeps}
use Rattle.journal_tables.proofs.Alike.{folds_stand}

-- HOW THEY ARE NUMBERED

joins_low : (home : Home) (base : Base) (past : List Entry) → base.joins ≤ join_count (since home base past)
joins_low home base [] = omega arith
joins_low home base (Join c ∷ past) = let more = joins_low home base past in omega (arith, more)
joins_low home base (_ ∷ past) = joins_low home base past

accepts_low : (home : Home) (base : Base) (past : List Entry) → base.accepts ≤ accept_count (since home base past)
accepts_low home base [] = omega arith
accepts_low home base (Accept k a ∷ past) = let more = accepts_low home base past in omega (arith, more)
accepts_low home base (_ ∷ past) = accepts_low home base past

-- above the base's, and among those counted
record IsCounted (low n high : ℕ) : Type 0 where
  pub above : low < n
  pub within : n ≤ high

join_counted : (home : Home) (base : Base) (past : List Entry) (c : ℕ) → Legal (since home base past) → list_any (joins c) past ≡ true → IsCounted base.joins c (join_count (since home base past))
join_counted home base [] c l h = absurd (cc)
join_counted home base (Join d ∷ past) c l h =
    elim (cases_Bool (d == c)) [
      | inl t ↦
          let same = eqb-true d c t in
          let next = l.0.fits.0 in
          let low = joins_low home base past in
          record { above = omega (arith, same, next, low); within = omega (arith, same, next) }
      | inr f ↦
          let more = join_counted home base past c l.1 (rw f at h) in
          let within = more.within in
          record { above = more.above; within = omega (arith, within) }
    ]
join_counted home base (_ ∷ past) c l h = join_counted home base past c l.1 h

accept_counted : (home : Home) (base : Base) (past : List Entry) (k : ℕ) → Legal (since home base past) → list_any (accepts k) past ≡ true → IsCounted base.accepts k (accept_count (since home base past))
accept_counted home base [] k l h = absurd (cc)
accept_counted home base (Accept m a ∷ past) k l h =
    elim (cases_Bool (m == k)) [
      | inl t ↦
          let same = eqb-true m k t in
          let next = l.0.fits.0 in
          let low = accepts_low home base past in
          record { above = omega (arith, same, next, low); within = omega (arith, same, next) }
      | inr f ↦
          let more = accept_counted home base past k l.1 (rw f at h) in
          let within = more.within in
          record { above = more.above; within = omega (arith, within) }
    ]
accept_counted home base (_ ∷ past) k l h = accept_counted home base past k l.1 h

-- IN A FOLD

-- x is made of these entries, and its base counts what came before them
pub record Parts (x j : History) : Type 0 where
  pub newer : List Entry
  pub older : List Entry
  pub past_is : j.past ≡ newer ++ older
  pub mine_is : x.past ≡ newer
  pub older_legal : Legal (since j.home j.base older)
  pub joins_is : x.base.joins ≡ join_count (since j.home j.base older)
  pub accepts_is : x.base.accepts ≡ accept_count (since j.home j.base older)
  pub legal : Legal (since x.home x.base x.past)

parts : (x j : History) → Legal j → BaseBegun j.base → IsFoldOf x j → Parts x j
parts x j l b f =
    let l1 : Legal (since j.home j.base f.older) = front_legal (since j.home j.base f.older) f.newer (subst (λ p. Legal (since j.home j.base p)) f.past_is l) in
    let base : x.base ≡ base_of (since j.home j.base f.older) = ap (λ (z : History). z.base) f.fold_is ∙ advance_since j.home j.base f.older b l1 f.open_is in
    record {
      newer = f.newer;
      older = f.older;
      past_is = f.past_is;
      mine_is = ap (λ (z : History). z.past) f.fold_is;
      older_legal = l1;
      joins_is = ap (λ (z : Base). z.joins) base;
      accepts_is = ap (λ (z : Base). z.accepts) base;
      legal = (folds_stand x j l b f).legal;
    }

-- an entry of the newer part is one of the whole, and one of the whole is of the newer part unless it is of the older
newer_any : (p : Entry → Bool) (x j : History) (w : Parts x j) → list_any p x.past ≡ true → list_any p j.past ≡ true
newer_any p x j w h =
    let here : list_any p w.newer ≡ true = sym (ap (list_any p) w.mine_is) ∙ h in
    let both : list_any p w.newer || list_any p w.older ≡ true = rw here refl in
    ap (list_any p) w.past_is ∙ (list_any-append p w.newer w.older ∙ both)

any_newer : (p : Entry → Bool) (x j : History) (w : Parts x j) → list_any p j.past ≡ true → (list_any p w.older ≡ true → ⊥) → list_any p x.past ≡ true
any_newer p x j w h n =
    let both : list_any p w.newer || list_any p w.older ≡ true = sym (list_any-append p w.newer w.older) ∙ (sym (ap (list_any p) w.past_is) ∙ h) in
    ap (list_any p) w.mine_is ∙ elim (or_cases (list_any p w.newer) (list_any p w.older) both) [ inl t ↦ t | inr t ↦ absurd (n t) ]

-- a number above what the base counts stands in the newer part alone
joins_above : (x j : History) (c : ℕ) (w : Parts x j) → x.base.joins < c → list_any (joins c) w.older ≡ true → ⊥
joins_above x j c w lt t =
    let s = (join_counted j.home j.base w.older c w.older_legal t).within in
    let is = w.joins_is in
    absurd (omega (arith, s, is, lt))

accepts_above : (x j : History) (k : ℕ) (w : Parts x j) → x.base.accepts < k → list_any (accepts k) w.older ≡ true → ⊥
accepts_above x j k w lt t =
    let s = (accept_counted j.home j.base w.older k w.older_legal t).within in
    let is = w.accepts_is in
    absurd (omega (arith, s, is, lt))

joins_there : (x j : History) (c : ℕ) (w : Parts x j) → list_any (joins c) x.past ≡ true → x.base.joins < c
joins_there x j c w h = (join_counted x.home x.base x.past c w.legal h).above

accepts_there : (x j : History) (k : ℕ) (w : Parts x j) → list_any (accepts k) x.past ≡ true → x.base.accepts < k
accepts_there x j k w h = (accept_counted x.home x.base x.past k w.legal h).above

joins_newer : (x j : History) (c : ℕ) (w : Parts x j) → list_any (joins c) x.past ≡ true → list_any (joins c) w.older ≡ true → ⊥
joins_newer x j c w h = joins_above x j c w (joins_there x j c w h)

accepts_newer : (x j : History) (k : ℕ) (w : Parts x j) → list_any (accepts k) x.past ≡ true → list_any (accepts k) w.older ≡ true → ⊥
accepts_newer x j k w h = accepts_above x j k w (accepts_there x j k w h)

pub holds_joins : (x j : History) (c : ℕ) → Legal j → BaseBegun j.base → IsFoldOf x j → list_any (joins c) x.past ≡ true ↔ ((list_any (joins c) j.past ≡ true) × (x.base.joins < c))
holds_joins x j c l b f =
    let w = parts x j l b f in
    (λ h. (newer_any (joins c) x j w h, joins_there x j c w h), λ h. any_newer (joins c) x j w h.0 (joins_above x j c w h.1))

pub holds_accepts : (x j : History) (k : ℕ) → Legal j → BaseBegun j.base → IsFoldOf x j → list_any (accepts k) x.past ≡ true ↔ ((list_any (accepts k) j.past ≡ true) × (x.base.accepts < k))
holds_accepts x j k l b f =
    let w = parts x j l b f in
    (λ h. (newer_any (accepts k) x j w h, accepts_there x j k w h), λ h. any_newer (accepts k) x j w h.0 (accepts_above x j k w h.1))

-- CALLS OF A CONNECTION

-- what was asked before further entries, where none of them accepts the call
asked_before_more : (home : Home) (base : Base) (newer older : List Entry) (k : ℕ) → list_any (accepts k) newer ≡ false → asked (since home base (newer ++ older)) k ≡ asked (since home base older) k
asked_before_more home base [] older k n = refl
asked_before_more home base (Accept m a ∷ newer) older k n =
    let p = or_parts (m == k) (list_any (accepts k) newer) n in rw p.0 (asked_before_more home base newer older k p.1)
asked_before_more home base (_ ∷ newer) older k n = asked_before_more home base newer older k n

accepted_there : (x j : History) (k : ℕ) (a : Asked) (w : Parts x j) → asked j k ≡ Some a → list_any (joins a.conn) x.past ≡ true → list_any (accepts k) x.past ≡ true
accepted_there x j k a w e h =
    elim (cases_Bool (list_any (accepts k) x.past)) [
      | inl t ↦ t
      | inr n ↦
          let none : list_any (accepts k) w.newer ≡ false = sym (ap (list_any (accepts k)) w.mine_is) ∙ n in
          let before : asked (since j.home j.base w.older) k ≡ Some a =
          sym (asked_before_more j.home j.base w.newer w.older k none) ∙ (sym (ap (λ p. asked (since j.home j.base p) k) w.past_is) ∙ e) in
          let low : a.conn ≤ join_count (since j.home j.base w.older) = conn_since j.home j.base w.older k a w.older_legal before in
          let above : x.base.joins < a.conn = joins_there x j a.conn w h in
          let is = w.joins_is in
          absurd (omega (arith, low, above, is))
    ]

pub holds_calls : (x j : History) (k : ℕ) (a : Asked) → Legal j → BaseBegun j.base → IsFoldOf x j → asked j k ≡ Some a → list_any (joins a.conn) x.past ≡ true → list_any (accepts k) x.past ≡ true
holds_calls x j k a l b f e h = accepted_there x j k a (parts x j l b f) e h

-- WHAT CAME AFTER AN ENTRY

-- an entry stands in the one part with all that came after it, or in the other
record IsEarlier (older : List Entry) (e : Entry) : Type 0 where
  pub before : List Entry
  pub after : List Entry
  pub is : older ≡ before ++ e ∷ after

record IsLater (part newer : List Entry) (e : Entry) : Type 0 where
  pub rest : List Entry
  pub is : part ≡ newer ++ e ∷ rest

placed : (newer earlier part older : List Entry) (e : Entry) → newer ++ e ∷ earlier ≡ part ++ older → IsLater part newer e ⊎ IsEarlier older e
placed newer earlier [] older e q = inr (record { before = newer; after = earlier; is = sym q })
placed [] earlier (d ∷ part) older e q = let same : e ≡ d = cc in inl (record { rest = part; is = ap (λ x. x ∷ part) (sym same) })
placed (n ∷ newer) earlier (d ∷ part) older e q =
    let same : n ≡ d = cc in
    let more : newer ++ e ∷ earlier ≡ part ++ older = cc in
    elim (placed newer earlier part older e more) [
      | inl w ↦ inl (record { rest = w.rest; is = ap (λ x. x ∷ part) (sym same) ∙ ap (λ xs. n ∷ xs) w.is })
      | inr w ↦ inr w
    ]

among : (p : Entry → Bool) (before after : List Entry) (e : Entry) → p e ≡ true → list_any p (before ++ e ∷ after) ≡ true
among p [] after e h = rw h refl
among p (b ∷ before) after e h = or_right (p b) (list_any p (before ++ e ∷ after)) (among p before after e h)

since_in : (p : Entry → Bool) (x j : History) (newer earlier : List Entry) (e : Entry) (w : Parts x j) → j.past ≡ newer ++ e ∷ earlier → p e ≡ true → (list_any p w.older ≡ true → ⊥) → Keeps x newer e
since_in p x j newer earlier e w q h n =
    elim (placed newer earlier w.newer w.older e (sym q ∙ w.past_is)) [
      | inl t ↦ record { rest = t.rest; past_is = w.mine_is ∙ t.is }
      | inr t ↦ absurd (n (ap (list_any p) t.is ∙ among p t.before t.after e h))
    ]

pub holds_since_join : (x j : History) (newer older : List Entry) (c : ℕ) → Legal j → BaseBegun j.base → IsFoldOf x j → j.past ≡ newer ++ Join c ∷ older → list_any (joins c) x.past ≡ true → Keeps x newer (Join c)
holds_since_join x j newer older c l b f q h =
    let w = parts x j l b f in
    since_in (joins c) x j newer older (Join c) w q (eq-eqb c c refl) (joins_newer x j c w h)

pub holds_since_accept : (x j : History) (newer older : List Entry) (k : ℕ) (a : Asked) → Legal j → BaseBegun j.base → IsFoldOf x j → j.past ≡ newer ++ Accept k a ∷ older → list_any (accepts k) x.past ≡ true → Keeps x newer (Accept k a)
holds_since_accept x j newer older k a l b f q h =
    let w = parts x j l b f in
    since_in (accepts k) x j newer older (Accept k a) w q (eq-eqb k k refl) (accepts_newer x j k w h)
