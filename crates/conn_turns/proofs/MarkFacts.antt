-- What the entries of a taken call say.
use Rattle.std.proofs.Common.{◌≡◌, ◌==◌, ℕ, Bool, true, false, ◌||◌, if◌then◌else◌, List, [], ◌∷◌, ◌++◌, Option, Some, None, refl, ap, ◌∙◌, append_assoc}
use Rattle.std.specs.List.{list_any}
use Rattle.std.proofs.lemmas.List.Folds.{list_any-append}
use Rattle.handle_model.specs.declared.entry.Home.{Home}
use Rattle.handle_model.specs.declared.entry.Asked.{Asked}
use Rattle.handle_model.specs.declared.entry.Entry.{Entry}
use Rattle.handle_model.specs.declared.entry.Entry.TheVariants.{Join, Accept, Take, Deny, Cancel, Orphan, End, Leave, Shut}
use Rattle.handle_model.specs.Since.{any_since}
use Rattle.handle_model.specs.Journal.{leaves, takes, denies, orphans, ends, has_left}
use Rattle.handle_model.specs.Replies.{is_lost}
use Rattle.conn_histories.specs.declared.turn.Off.{Off}
use Rattle.conn_histories.specs.declared.turn.Off.TheVariants as off
use Rattle.conn_histories.specs.Entries.{is_cancel, is_orphan, is_like, entry_off, marks, taken}
use Rattle.conn_histories.specs.Tales.{whole}
use Rattle.conn_turns.proofs.TaleFacts.{same_number, or_false, or_true, since_none, asked_in, ended_in, is_foreign}

pub any_there : (p : Entry → Bool) (xs : List Entry) (e : Entry) (ys : List Entry) → p e ≡ true → list_any p (xs ++ e ∷ ys) ≡ true
any_there p [] e ys h = rw h refl
any_there p (x ∷ xs) e ys h = let r = any_there p xs e ys h in rw r (or_true (p x))

-- ---- marks

-- a test that no cancel and no orphaning of the call passes
pub marks_none : (p : Entry → Bool) (k : ℕ) → ((o : Off) → p (entry_off k o) ≡ false) → (offs : List Off) → list_any p (marks k offs) ≡ false
marks_none p k none [] = refl
marks_none p k none (o ∷ offs) = by_test (list_any (is_like o) offs) (marks_none p k none offs)
  where
    by_test : (b : Bool) → list_any p (marks k offs) ≡ false → list_any p (if b then marks k offs else entry_off k o ∷ marks k offs) ≡ false
    by_test true r = r
    by_test false r = let here = none o in rw (here, r) refl

pub marks_orphan : (k : ℕ) (offs : List Off) → list_any (orphans k) (marks k offs) ≡ list_any is_orphan offs
marks_orphan k [] = refl
marks_orphan k (off.Orphan ∷ offs) = by_test (list_any is_orphan offs) refl (marks_orphan k offs)
  where
    by_test : (b : Bool) → list_any is_orphan offs ≡ b → list_any (orphans k) (marks k offs) ≡ list_any is_orphan offs
        → list_any (orphans k) (if b then marks k offs else Orphan k ∷ marks k offs) ≡ true
    by_test true is r = r ∙ is
    by_test false is r = rw (same_number k) refl
marks_orphan k (off.Cancel ∷ offs) = by_test (list_any is_cancel offs) (marks_orphan k offs)
  where
    by_test : (b : Bool) → list_any (orphans k) (marks k offs) ≡ list_any is_orphan offs
        → list_any (orphans k) (if b then marks k offs else Cancel k ∷ marks k offs) ≡ list_any is_orphan offs
    by_test true r = r
    by_test false r = r

-- ---- a taken call, behind its connection's Join

abbrev pub ran : ℕ → Asked → List Off → List (Option ℕ) → List Entry
ran k a offs cookies = marks k offs ++ Take k cookies ∷ Accept k a ∷ Join a.conn ∷ []

pub ran_is : (k : ℕ) (a : Asked) (offs : List Off) (cookies : List (Option ℕ)) → taken k a offs cookies ++ Join a.conn ∷ [] ≡ ran k a offs cookies
ran_is k a offs cookies = append_assoc (marks k offs) (Take k cookies ∷ Accept k a ∷ []) (Join a.conn ∷ [])

module _ (k : ℕ) (a : Asked) (offs : List Off) (cookies : List (Option ℕ)) where
  -- a test that only marks may pass
  pub ran_any : (p : Entry → Bool) → p (Take k cookies) ≡ false → p (Accept k a) ≡ false → p (Join a.conn) ≡ false
      → list_any p (ran k a offs cookies) ≡ list_any p (marks k offs)
  ran_any p t c j = list_any-append p (marks k offs) (Take k cookies ∷ Accept k a ∷ Join a.conn ∷ []) ∙ rw (t, c, j) (or_false (list_any p (marks k offs)))

  pub ran_none : (p : Entry → Bool) → p (Take k cookies) ≡ false → p (Accept k a) ≡ false → p (Join a.conn) ≡ false → ((o : Off) → p (entry_off k o) ≡ false)
      → list_any p (ran k a offs cookies) ≡ false
  ran_none p t c j none = ran_any p t c j ∙ marks_none p k none offs

  pub ran_taken : list_any (takes k) (ran k a offs cookies) ≡ true
  ran_taken = any_there (takes k) (marks k offs) (Take k cookies) (Accept k a ∷ Join a.conn ∷ []) (same_number k)

  no_deny : (o : Off) → denies k (entry_off k o) ≡ false
  no_deny off.Cancel = refl
  no_deny off.Orphan = refl

  no_end : (o : Off) → ends k (entry_off k o) ≡ false
  no_end off.Cancel = refl
  no_end off.Orphan = refl

  no_leave : (o : Off) → leaves a.conn (entry_off k o) ≡ false
  no_leave off.Cancel = refl
  no_leave off.Orphan = refl

  none_foreign : (o : Off) → is_foreign a.conn k (entry_off k o) ≡ false
  none_foreign off.Cancel = refl
  none_foreign off.Orphan = refl

  pub ran_denied : list_any (denies k) (ran k a offs cookies) ≡ false
  ran_denied = ran_none (denies k) refl refl refl no_deny

  pub ran_ended : list_any (ends k) (ran k a offs cookies) ≡ false
  ran_ended = ran_none (ends k) refl refl refl no_end

  pub ran_left : list_any (leaves a.conn) (ran k a offs cookies) ≡ false
  ran_left = ran_none (leaves a.conn) refl refl refl no_leave

  pub ran_orphaned : list_any (orphans k) (ran k a offs cookies) ≡ list_any is_orphan offs
  ran_orphaned = ran_any (orphans k) refl refl refl ∙ marks_orphan k offs

  accept_theirs : is_foreign a.conn k (Accept k a) ≡ false
  accept_theirs = rw (same_number k, same_number a.conn) refl

  pub ran_theirs : list_any (is_foreign a.conn k) (ran k a offs cookies) ≡ false
  ran_theirs = ran_none (is_foreign a.conn k) refl accept_theirs refl none_foreign

-- behind marks the call asked the same
marks_ask : (k : ℕ) (a : Asked) (cookies : List (Option ℕ)) (offs : List Off) → asked_in k (ran k a offs cookies) ≡ Some a
marks_ask k a cookies [] = rw (same_number k) refl
marks_ask k a cookies (off.Cancel ∷ offs) = by_test (list_any is_cancel offs) (marks_ask k a cookies offs)
  where
    by_test : (b : Bool) → asked_in k (ran k a offs cookies) ≡ Some a
        → asked_in k ((if b then marks k offs else Cancel k ∷ marks k offs) ++ Take k cookies ∷ Accept k a ∷ Join a.conn ∷ []) ≡ Some a
    by_test true r = r
    by_test false r = r
marks_ask k a cookies (off.Orphan ∷ offs) = by_test (list_any is_orphan offs) (marks_ask k a cookies offs)
  where
    by_test : (b : Bool) → asked_in k (ran k a offs cookies) ≡ Some a
        → asked_in k ((if b then marks k offs else Orphan k ∷ marks k offs) ++ Take k cookies ∷ Accept k a ∷ Join a.conn ∷ []) ≡ Some a
    by_test true r = r
    by_test false r = r

pub ran_asked : (k : ℕ) (a : Asked) (offs : List Off) (cookies : List (Option ℕ)) → asked_in k (ran k a offs cookies) ≡ Some a
ran_asked k a offs cookies = marks_ask k a cookies offs

-- a call is lost where it was orphaned, and where its connection left
pub lost_so : (home : Home) (k : ℕ) (a : Asked) (xs : List Entry) (o l : Bool) → asked_in k xs ≡ Some a → list_any (orphans k) xs ≡ o → list_any (leaves a.conn) xs ≡ l
    → is_lost (whole home xs) k ≡ (o || l)
lost_so home k a xs o l asks orphaned left =
    let orphaned' : any_since false (orphans k) xs ≡ o = since_none (orphans k) xs ∙ orphaned in
    let left' : has_left (whole home xs) (asked_in k xs) ≡ l = ap (has_left (whole home xs)) asks ∙ left in
    λ i. orphaned' i || left' i

-- what its end said, before there is one
pub unended : (home : Home) (k : ℕ) (past : List Entry) → list_any (ends k) past ≡ false → ended_in home k past ≡ None
unended home k [] h = refl
unended home k (End m results said ∷ past) h = by_test (m == k) (unended home k past) h
  where
    by_test : (b : Bool) → (list_any (ends k) past ≡ false → ended_in home k past ≡ None) → (b || list_any (ends k) past) ≡ false
        → (if b then (if is_lost (whole home past) k then None else Some said) else ended_in home k past) ≡ None
    by_test true r h = absurd cc
    by_test false r h = r h
unended home k (Join d ∷ past) h = unended home k past h
unended home k (Accept m a ∷ past) h = unended home k past h
unended home k (Take m cookies ∷ past) h = unended home k past h
unended home k (Deny m slot ∷ past) h = unended home k past h
unended home k (Cancel m ∷ past) h = unended home k past h
unended home k (Orphan m ∷ past) h = unended home k past h
unended home k (Leave d ∷ past) h = unended home k past h
unended home k (Shut items ∷ past) h = unended home k past h
