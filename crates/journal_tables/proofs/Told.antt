-- What a call is told depends on the entries since its Accept alone.
use Rattle.std.proofs.Common.{◌≡◌, ℕ, ◌+◌, Bool, true, false, ◌||◌, not, ◌==◌, Some, None, List, [], ◌∷◌, ◌++◌, refl, sym, ◌∙◌, ap, subst, arith, inl, inr, append_assoc}
use Rattle.std.specs.List.{list_any}
use Rattle.std.proofs.lemmas.Bool.{cases_Bool, eqb-true, eq-eqb, or_parts, false_from_ne_true, not-true}
use Rattle.std.proofs.lemmas.List.Folds.{list_any-append}
use Rattle.handle_model.specs.declared.entry.Home.{Home}
use Rattle.handle_model.specs.declared.entry.Asked.{Asked}
use Rattle.handle_model.specs.declared.entry.Entry.{Entry}
use Rattle.handle_model.specs.declared.entry.Entry.TheVariants.{Join, Accept, Take, Deny, Cancel, Orphan, End, Leave, Shut}
use Rattle.handle_model.specs.declared.base.Base.{Base}
use Rattle.handle_model.specs.Bases.{taken_before, orphaned_before, cancelled_before}
use Rattle.handle_model.specs.Folds.{advance}
use Rattle.handle_model.specs.History.{History, since}
use Rattle.handle_model.specs.Journal.{Legal, any_since, leaves, takes, denies, cancels, orphans, ends, asked, has_joined, is_decided, is_taken, is_orphaned, accept_count}
use Rattle.handle_model.specs.Replies.{is_lost, ended_with, replies}
use Rattle.handle_model.proofs.Held.{and_right}
use Rattle.handle_model.proofs.Older.{older_since}
use Rattle.handle_model.proofs.Stages.{since_right, undecided}
use Rattle.call_table.proofs.Calls.{decided_within, ended_taken}
use Rattle.journal_tables.specs.Folding.{BaseBegun}
use Rattle.journal_tables.specs.FoldOf.{IsFoldOf}
use Rattle.journal_tables.proofs.Alike.{folds_stand}
use Rattle.handle_model.specs.CallLaws.{accepts}

-- WHERE IT WAS ACCEPTED

-- its newest Accept
pub record Split (past : List Entry) (k : ℕ) : Type 0 where
  pub later : List Entry
  pub asks : Asked
  pub earlier : List Entry
  pub is : past ≡ later ++ Accept k asks ∷ earlier
  pub none : list_any (accepts k) later ≡ false

passes : (e : Entry) (past : List Entry) (k : ℕ) → accepts k e ≡ false → Split past k → Split (e ∷ past) k
passes e past k f s =
    record { later = e ∷ s.later; asks = s.asks; earlier = s.earlier; is = ap (λ xs. e ∷ xs) s.is; none = rw f s.none }

split : (past : List Entry) (k : ℕ) → list_any (accepts k) past ≡ true → Split past k
split [] k h = absurd (cc)
split (Accept m a ∷ past) k h =
    elim (cases_Bool (m == k)) [
      | inl t ↦
          let same = eqb-true m k t in
          record { later = []; asks = a; earlier = past; is = ap (λ n. Accept n a ∷ past) same; none = refl }
      | inr f ↦ passes (Accept m a) past k f (split past k (rw f at h))
    ]
split (Join c ∷ past) k h = passes (Join c) past k refl (split past k h)
split (Take m cs ∷ past) k h = passes (Take m cs) past k refl (split past k h)
split (Deny m slot ∷ past) k h = passes (Deny m slot) past k refl (split past k h)
split (Cancel m ∷ past) k h = passes (Cancel m) past k refl (split past k h)
split (Orphan m ∷ past) k h = passes (Orphan m) past k refl (split past k h)
split (End m results said ∷ past) k h = passes (End m results said) past k refl (split past k h)
split (Leave c ∷ past) k h = passes (Leave c) past k refl (split past k h)
split (Shut items ∷ past) k h = passes (Shut items) past k refl (split past k h)

-- BEFORE IT

-- nothing is said of the call, and its connection has not left
pub record Fresh (home : Home) (base : Base) (past : List Entry) (k : ℕ) (a : Asked) : Type 0 where
  pub undenied : list_any (denies k) past ≡ false
  pub uncancelled : list_any (cancels k) past ≡ false
  pub untaken : is_taken (since home base past) k ≡ false
  pub unorphaned : is_orphaned (since home base past) k ≡ false
  pub unended : ended_with (since home base past) k ≡ None
  pub there : list_any (leaves a.conn) past ≡ false

none_said : (home : Home) (base : Base) (past : List Entry) (k : ℕ) → list_any (ends k) past ≡ false → ended_with (since home base past) k ≡ None
none_said home base [] k n = refl
none_said home base (End m results said ∷ past) k n =
    let p = or_parts (m == k) (list_any (ends k) past) n in rw p.0 (none_said home base past k p.1)
none_said home base (_ ∷ past) k n = none_said home base past k n

fresh : (home : Home) (base : Base) (past : List Entry) (k : ℕ) (a : Asked) → Legal (since home base (Accept k a ∷ past)) → Fresh home base past k a
fresh home base past k a l =
    let j : History = since home base past in
    let next : k ≡ accept_count j + 1 = l.0.fits.0 in
    let still : is_decided j k ≡ false = false_from_ne_true (is_decided j k) (λ t. let w = decided_within j k l.1 t in absurd (omega (arith, next, w))) in
    let u = undecided j k l.1 still in
    let quiet : list_any (ends k) past ≡ false = false_from_ne_true (list_any (ends k) past) (λ t. let w = ended_taken j k l.1 t in let f = u.untaken in absurd (cc)) in
    record {
      undenied = u.undenied;
      uncancelled = since_right (cancelled_before base k) (cancels k) past u.uncancelled;
      untaken = u.untaken;
      unorphaned = u.unorphaned;
      unended = none_said home base past k quiet;
      there = not-true (list_any (leaves a.conn) past) (and_right (has_joined j a.conn) (not (list_any (leaves a.conn) past)) l.0.fits.1);
    }

-- AFTER IT

any_later : (p : Entry → Bool) (later xs ys : List Entry) → list_any p xs ≡ list_any p ys → list_any p (later ++ xs) ≡ list_any p (later ++ ys)
any_later p later xs ys h =
    list_any-append p later xs ∙ (ap (λ b. list_any p later || b) h ∙ sym (list_any-append p later ys))

since_later : (s t : Bool) (p : Entry → Bool) (later xs ys : List Entry) → any_since s p xs ≡ any_since t p ys → any_since s p (later ++ xs) ≡ any_since t p (later ++ ys)
since_later s t p [] xs ys h = h
since_later s t p (e ∷ later) xs ys h = ap (λ b. p e || b) (since_later s t p later xs ys h)

asks : (home : Home) (base : Base) (later past : List Entry) (k : ℕ) (a : Asked) → list_any (accepts k) later ≡ false → asked (since home base (later ++ Accept k a ∷ past)) k ≡ Some a
asks home base [] past k a n = let own = eq-eqb k k refl in rw own refl
asks home base (Accept m b ∷ later) past k a n =
    let p = or_parts (m == k) (list_any (accepts k) later) n in rw p.0 (asks home base later past k a p.1)
asks home base (_ ∷ later) past k a n = asks home base later past k a n

lost_same : (home : Home) (base : Base) (past : List Entry) (home' : Home) (base' : Base) (past' later : List Entry) (k : ℕ) (a : Asked) → Fresh home base past k a → Fresh home' base' past' k a → list_any (accepts k) later ≡ false → is_lost (since home base (later ++ Accept k a ∷ past)) k ≡ is_lost (since home' base' (later ++ Accept k a ∷ past')) k
lost_same home base past home' base' past' later k a f f' n =
    let o : is_orphaned (since home base (later ++ Accept k a ∷ past)) k ≡ is_orphaned (since home' base' (later ++ Accept k a ∷ past')) k = since_later (orphaned_before base k) (orphaned_before base' k) (orphans k) later (Accept k a ∷ past) (Accept k a ∷ past') (f.unorphaned ∙ sym f'.unorphaned) in
    let c : list_any (leaves a.conn) (later ++ Accept k a ∷ past) ≡ list_any (leaves a.conn) (later ++ Accept k a ∷ past') = any_later (leaves a.conn) later (Accept k a ∷ past) (Accept k a ∷ past') (f.there ∙ sym f'.there) in
    rw (o, asks home base later past k a n, asks home' base' later past' k a n, c) refl

ended_same : (home : Home) (base : Base) (past : List Entry) (home' : Home) (base' : Base) (past' later : List Entry) (k : ℕ) (a : Asked) → Fresh home base past k a → Fresh home' base' past' k a → list_any (accepts k) later ≡ false → ended_with (since home base (later ++ Accept k a ∷ past)) k ≡ ended_with (since home' base' (later ++ Accept k a ∷ past')) k
ended_same home base past home' base' past' [] k a f f' n = f.unended ∙ sym f'.unended
ended_same home base past home' base' past' (End m results said ∷ later) k a f f' n =
    rw (lost_same home base past home' base' past' later k a f f' n, ended_same home base past home' base' past' later k a f f' n) refl
ended_same home base past home' base' past' (Accept m b ∷ later) k a f f' n =
    let p = or_parts (m == k) (list_any (accepts k) later) n in ended_same home base past home' base' past' later k a f f' p.1
ended_same home base past home' base' past' (_ ∷ later) k a f f' n = ended_same home base past home' base' past' later k a f f' n

told_same : (home : Home) (base : Base) (past : List Entry) (home' : Home) (base' : Base) (past' later : List Entry) (k : ℕ) (a : Asked) → Fresh home base past k a → Fresh home' base' past' k a → list_any (accepts k) later ≡ false → replies (since home base (later ++ Accept k a ∷ past)) k ≡ replies (since home' base' (later ++ Accept k a ∷ past')) k
told_same home base past home' base' past' later k a f f' n =
    let d = any_later (denies k) later (Accept k a ∷ past) (Accept k a ∷ past') (f.undenied ∙ sym f'.undenied) in
    let c = any_later (cancels k) later (Accept k a ∷ past) (Accept k a ∷ past') (f.uncancelled ∙ sym f'.uncancelled) in
    let t : is_taken (since home base (later ++ Accept k a ∷ past)) k ≡ is_taken (since home' base' (later ++ Accept k a ∷ past')) k = since_later (taken_before base k) (taken_before base' k) (takes k) later (Accept k a ∷ past) (Accept k a ∷ past') (f.untaken ∙ sym f'.untaken) in
    rw (d, c, t, ended_same home base past home' base' past' later k a f f' n, lost_same home base past home' base' past' later k a f f' n) refl

-- A FOLD

kept : (home : Home) (base base' : Base) (newer older : List Entry) (k : ℕ) → Legal (since home base (newer ++ older)) → Legal (since home base' newer) → list_any (accepts k) newer ≡ true → replies (since home base' newer) k ≡ replies (since home base (newer ++ older)) k
kept home base base' newer older k l l' h =
    let s = split newer k h in
    let whole : newer ++ older ≡ s.later ++ Accept k s.asks ∷ (s.earlier ++ older) =
    ap (λ xs. xs ++ older) s.is ∙ append_assoc s.later (Accept k s.asks ∷ s.earlier) older in
    let f' = fresh home base' s.earlier k s.asks (older_since home base' s.later (Accept k s.asks ∷ s.earlier) (subst (λ xs. Legal (since home base' xs)) s.is l')) in
    let f = fresh home base (s.earlier ++ older) k s.asks (older_since home base s.later (Accept k s.asks ∷ (s.earlier ++ older)) (subst (λ xs. Legal (since home base xs)) whole l)) in
    ap (λ xs. replies (since home base' xs) k) s.is ∙ (told_same home base' s.earlier home base (s.earlier ++ older) s.later k s.asks f' f s.none ∙ ap (λ xs. replies (since home base xs) k) (sym whole))

told_to : (x j : History) (k : ℕ) (newer older : List Entry) (base : Base) → x ≡ since j.home base newer → j.past ≡ newer ++ older → Legal x → Legal j → list_any (accepts k) x.past ≡ true → replies x k ≡ replies j k
told_to x j k newer older base e p l m h =
    let mine : Legal (since j.home base newer) = subst Legal e l in
    let legal : Legal (since j.home j.base (newer ++ older)) = subst (λ past. Legal (since j.home j.base past)) p m in
    let there : list_any (accepts k) newer ≡ true = sym (ap (λ (z : History). list_any (accepts k) z.past) e) ∙ h in
    ap (λ z. replies z k) e ∙ (kept j.home j.base base newer older k legal mine there ∙ sym (ap (λ past. replies (since j.home j.base past) k) p))

pub keeps_replies : (x j : History) (k : ℕ) → Legal j → BaseBegun j.base → IsFoldOf x j → list_any (accepts k) x.past ≡ true → replies x k ≡ replies j k
keeps_replies x j k l b f h =
    told_to x j k f.newer f.older (advance j.home j.base f.older) f.fold_is f.past_is (folds_stand x j l b f).legal l h
