-- Where a call is, by what became of it.
use Rattle.std.proofs.Common.{◌≡◌, ◌==◌, ℕ, Bool, true, false, ◌&&◌, ◌||◌, not, if◌then◌else◌, is_some, Option, Some, List, [], ◌∷◌, ◌++◌, refl, sym, ap, ◌∙◌}
use Rattle.std.specs.List.{list_any}
use Rattle.handle_model.specs.declared.entry.Home.{Home}
use Rattle.handle_model.specs.declared.entry.Asked.{Asked}
use Rattle.handle_model.specs.declared.entry.Entry.{Entry}
use Rattle.handle_model.specs.declared.entry.Entry.TheVariants.{Join, Accept, Take, Deny, Cancel, Orphan, End, Leave, Shut}
use Rattle.handle_model.specs.Bases.{empty_base}
use Rattle.conn_histories.specs.declared.turn.Off.{Off}
use Rattle.conn_histories.specs.declared.turn.Off.TheVariants as off
use Rattle.conn_histories.specs.declared.turn.Fate.{Fate}
use Rattle.conn_histories.specs.Tales.{whole}
use Rattle.conn_histories.specs.declared.turn.Fate.TheVariants.{Waiting, Denied, Cancelled, Orphaned, LeftWaiting, Running, LeftRunning, Ended, LeftEnded}
use Rattle.handle_model.specs.Since.{any_since}
use Rattle.handle_model.specs.Journal.{leaves, takes, cancels, orphans, ends, decides, asked, has_left, is_cancelled, is_orphaned, waits, runs}
use Rattle.group_core.specs.Stages.{is_asked_since, is_asked}
use Rattle.conn_histories.specs.Entries.{is_cancel, is_orphan, marks, fate_entries, is_running}
use Rattle.conn_histories.specs.Tales.{is_about, tale}
use Rattle.conn_turns.proofs.TaleFacts.{same_number, since_none, in_tale, takes_call, ends_call, leaves_conn, asked_in, asked_tale}
use Rattle.conn_turns.proofs.MarkFacts.{any_there, ran, ran_is, ran_any, ran_left, ran_taken, ran_ended, ran_orphaned, ran_asked}

pub decides_call : (c k : ℕ) (e : Entry) → decides k e ≡ true → is_about c k e ≡ true
decides_call c k (Join d) h = absurd cc
decides_call c k (Accept m a) h = absurd cc
decides_call c k (Take m cookies) h = h
decides_call c k (Deny m slot) h = h
decides_call c k (Cancel m) h = h
decides_call c k (Orphan m) h = h
decides_call c k (End m results said) h = absurd cc
decides_call c k (Leave d) h = absurd cc
decides_call c k (Shut items) h = absurd cc

cancels_call : (c k : ℕ) (e : Entry) → cancels k e ≡ true → is_about c k e ≡ true
cancels_call c k (Join d) h = absurd cc
cancels_call c k (Accept m a) h = absurd cc
cancels_call c k (Take m cookies) h = absurd cc
cancels_call c k (Deny m slot) h = absurd cc
cancels_call c k (Cancel m) h = h
cancels_call c k (Orphan m) h = absurd cc
cancels_call c k (End m results said) h = absurd cc
cancels_call c k (Leave d) h = absurd cc
cancels_call c k (Shut items) h = absurd cc

orphans_call : (c k : ℕ) (e : Entry) → orphans k e ≡ true → is_about c k e ≡ true
orphans_call c k (Join d) h = absurd cc
orphans_call c k (Accept m a) h = absurd cc
orphans_call c k (Take m cookies) h = absurd cc
orphans_call c k (Deny m slot) h = absurd cc
orphans_call c k (Cancel m) h = absurd cc
orphans_call c k (Orphan m) h = h
orphans_call c k (End m results said) h = absurd cc
orphans_call c k (Leave d) h = absurd cc
orphans_call c k (Shut items) h = absurd cc

-- an entry that says nothing may be kept or not
pub kept_skip : {X : Type 0} (F : List Entry → X) (e : Entry) (b : Bool) (xs past : List Entry) → ((zs : List Entry) → F (e ∷ zs) ≡ F zs) → F xs ≡ F past
    → F (if b then e ∷ xs else xs) ≡ F past
kept_skip F e true xs past skips h = skips xs ∙ h
kept_skip F e false xs past skips h = h

-- ---- whether it was told to end

abbrev told_in : ℕ → List Entry → Bool
told_in k past = is_asked_since empty_base past k

any_tale : (c k : ℕ) (past : List Entry) → any_since false (takes k) (tale c k past) ≡ any_since false (takes k) past
any_tale c k past = since_none (takes k) (tale c k past) ∙ (in_tale c k (takes k) (takes_call c k) past ∙ sym (since_none (takes k) past))

told_tale : (c k : ℕ) (past : List Entry) → told_in k (tale c k past) ≡ told_in k past
told_tale c k [] = refl
told_tale c k (Cancel m ∷ past) = by_test (m == k) refl (any_tale c k past) (told_tale c k past)
  where
    by_test : (b : Bool) → (m == k) ≡ b → any_since false (takes k) (tale c k past) ≡ any_since false (takes k) past → told_in k (tale c k past) ≡ told_in k past
        → told_in k (if b then Cancel m ∷ tale c k past else tale c k past) ≡ (b && any_since false (takes k) past || told_in k past)
    by_test true is t h = rw is (λ i. t i || h i)
    by_test false is t h = h
told_tale c k (Join d ∷ past) = kept_skip (told_in k) (Join d) (is_about c k (Join d)) (tale c k past) past (λ zs. refl) (told_tale c k past)
told_tale c k (Accept m a ∷ past) = kept_skip (told_in k) (Accept m a) (is_about c k (Accept m a)) (tale c k past) past (λ zs. refl) (told_tale c k past)
told_tale c k (Take m cookies ∷ past) = kept_skip (told_in k) (Take m cookies) (is_about c k (Take m cookies)) (tale c k past) past (λ zs. refl) (told_tale c k past)
told_tale c k (Deny m slot ∷ past) = kept_skip (told_in k) (Deny m slot) (is_about c k (Deny m slot)) (tale c k past) past (λ zs. refl) (told_tale c k past)
told_tale c k (Orphan m ∷ past) = kept_skip (told_in k) (Orphan m) (is_about c k (Orphan m)) (tale c k past) past (λ zs. refl) (told_tale c k past)
told_tale c k (End m results said ∷ past) = kept_skip (told_in k) (End m results said) (is_about c k (End m results said)) (tale c k past) past (λ zs. refl) (told_tale c k past)
told_tale c k (Leave d ∷ past) = kept_skip (told_in k) (Leave d) (is_about c k (Leave d)) (tale c k past) past (λ zs. refl) (told_tale c k past)
told_tale c k (Shut items ∷ past) = kept_skip (told_in k) (Shut items) (is_about c k (Shut items)) (tale c k past) past (λ zs. refl) (told_tale c k past)

-- ---- of a taken call

module _ (k : ℕ) (a : Asked) (cookies : List (Option ℕ)) where
  ran_took : (offs : List Off) → any_since false (takes k) (ran k a offs cookies) ≡ true
  ran_took offs = since_none (takes k) (ran k a offs cookies) ∙ ran_taken k a offs cookies

  ran_told : (offs : List Off) → told_in k (ran k a offs cookies) ≡ list_any is_cancel offs
  ran_told [] = refl
  ran_told (off.Cancel ∷ offs) = by_test (list_any is_cancel offs) refl (ran_took offs) (ran_told offs)
    where
      by_test : (b : Bool) → list_any is_cancel offs ≡ b → any_since false (takes k) (ran k a offs cookies) ≡ true → told_in k (ran k a offs cookies) ≡ list_any is_cancel offs
          → told_in k ((if b then marks k offs else Cancel k ∷ marks k offs) ++ Take k cookies ∷ Accept k a ∷ Join a.conn ∷ []) ≡ true
      by_test true is t r = r ∙ is
      by_test false is t r = rw (same_number k, t) refl
  ran_told (off.Orphan ∷ offs) = by_test (list_any is_orphan offs) (ran_told offs)
    where
      by_test : (b : Bool) → told_in k (ran k a offs cookies) ≡ list_any is_cancel offs
          → told_in k ((if b then marks k offs else Orphan k ∷ marks k offs) ++ Take k cookies ∷ Accept k a ∷ Join a.conn ∷ []) ≡ list_any is_cancel offs
      by_test true r = r
      by_test false r = r

marks_cancel : (k : ℕ) (offs : List Off) → list_any (cancels k) (marks k offs) ≡ list_any is_cancel offs
marks_cancel k [] = refl
marks_cancel k (off.Cancel ∷ offs) = by_test (list_any is_cancel offs) refl (marks_cancel k offs)
  where
    by_test : (b : Bool) → list_any is_cancel offs ≡ b → list_any (cancels k) (marks k offs) ≡ list_any is_cancel offs
        → list_any (cancels k) (if b then marks k offs else Cancel k ∷ marks k offs) ≡ true
    by_test true is r = r ∙ is
    by_test false is r = rw (same_number k) refl
marks_cancel k (off.Orphan ∷ offs) = by_test (list_any is_orphan offs) (marks_cancel k offs)
  where
    by_test : (b : Bool) → list_any (cancels k) (marks k offs) ≡ list_any is_cancel offs
        → list_any (cancels k) (if b then marks k offs else Orphan k ∷ marks k offs) ≡ list_any is_cancel offs
    by_test true r = r
    by_test false r = r

ran_cancelled : (k : ℕ) (a : Asked) (offs : List Off) (cookies : List (Option ℕ)) → list_any (cancels k) (ran k a offs cookies) ≡ list_any is_cancel offs
ran_cancelled k a offs cookies = ran_any k a offs cookies (cancels k) refl refl refl ∙ marks_cancel k offs

ran_decided : (k : ℕ) (a : Asked) (offs : List Off) (cookies : List (Option ℕ)) → list_any (decides k) (ran k a offs cookies) ≡ true
ran_decided k a offs cookies = any_there (decides k) (marks k offs) (Take k cookies) (Accept k a ∷ Join a.conn ∷ []) (same_number k)

-- ---- by the tale

module _ (home : Home) (k : ℕ) (a : Asked) (past t : List Entry) (is : tale a.conn k past ≡ t) (asks : asked_in k t ≡ Some a) where
  pub asked_is : asked (whole home past) k ≡ Some a
  asked_is = sym (asked_tale a.conn k past) ∙ (ap (asked_in k) is ∙ asks)

  seen_in : (p : Entry → Bool) → ((e : Entry) → p e ≡ true → is_about a.conn k e ≡ true) → list_any p past ≡ list_any p t
  seen_in p about = sym (in_tale a.conn k p about past) ∙ ap (list_any p) is

  pub waits_by : (l d : Bool) → list_any (leaves a.conn) t ≡ l → list_any (decides k) t ≡ d → waits (whole home past) k ≡ (not l && not d)
  waits_by l d left decided =
      let asked' : asked_in k past ≡ Some a = asked_is in
      let left' : has_left (whole home past) (asked_in k past) ≡ l = ap (has_left (whole home past)) asked_is ∙ (seen_in (leaves a.conn) (leaves_conn a.conn k) ∙ left) in
      let decided' : any_since false (decides k) past ≡ d = since_none (decides k) past ∙ (seen_in (decides k) (decides_call a.conn k) ∙ decided) in
      λ i. is_some (asked' i) && not (left' i) && not (decided' i)

  pub runs_by : (o e : Bool) → list_any (takes k) t ≡ o → list_any (ends k) t ≡ e → runs (whole home past) k ≡ (o && not e)
  runs_by o e took ended =
      let took' : any_since false (takes k) past ≡ o = since_none (takes k) past ∙ (seen_in (takes k) (takes_call a.conn k) ∙ took) in
      let ended' : list_any (ends k) past ≡ e = seen_in (ends k) (ends_call a.conn k) ∙ ended in
      λ i. took' i && not (ended' i)

  pub cancelled_by : (b : Bool) → list_any (cancels k) t ≡ b → is_cancelled (whole home past) k ≡ b
  cancelled_by b h = since_none (cancels k) past ∙ (seen_in (cancels k) (cancels_call a.conn k) ∙ h)

  pub orphaned_by : (b : Bool) → list_any (orphans k) t ≡ b → is_orphaned (whole home past) k ≡ b
  orphaned_by b h = since_none (orphans k) past ∙ (seen_in (orphans k) (orphans_call a.conn k) ∙ h)

-- ---- by what became of it

abbrev pub is_waiting : Fate → Bool
is_waiting Waiting = true
is_waiting _ = false

pub record Stage (home : Home) (past : List Entry) (k : ℕ) (a : Asked) (fate : Fate) : Type 0 where
  pub asks : asked (whole home past) k ≡ Some a
  pub waits_is : waits (whole home past) k ≡ is_waiting fate
  pub runs_is : runs (whole home past) k ≡ is_running fate

module _ (home : Home) (k : ℕ) (a : Asked) (past : List Entry) (offs : List Off) where
  staged : (fate : Fate) (t : List Entry) (l d o e : Bool) → tale a.conn k past ≡ t → asked_in k t ≡ Some a → list_any (leaves a.conn) t ≡ l → list_any (decides k) t ≡ d → list_any (takes k) t ≡ o → list_any (ends k) t ≡ e
      → (not l && not d) ≡ is_waiting fate → (o && not e) ≡ is_running fate → Stage home past k a fate
  staged fate t l d o e is asks left decided took ended w r = record {
    asks = asked_is home k a past t is asks;
    waits_is = waits_by home k a past t is asks l d left decided ∙ w;
    runs_is = runs_by home k a past t is asks o e took ended ∙ r;
  }

  pub stage : (fate : Fate) → tale a.conn k past ≡ fate_entries k a offs fate ++ Join a.conn ∷ [] → Stage home past k a fate
  stage Waiting is = staged Waiting (Accept k a ∷ Join a.conn ∷ []) false false false false is (rw (same_number k) refl) refl refl refl refl refl refl
  stage (Denied slot) is =
      staged (Denied slot) (Deny k slot ∷ Accept k a ∷ Join a.conn ∷ []) false true false false is (rw (same_number k) refl) refl (rw (same_number k) refl) refl refl refl refl
  stage Cancelled is =
      staged Cancelled (Cancel k ∷ Accept k a ∷ Join a.conn ∷ []) false true false false is (rw (same_number k) refl) refl (rw (same_number k) refl) refl refl refl refl
  stage Orphaned is =
      staged Orphaned (Orphan k ∷ Accept k a ∷ Join a.conn ∷ []) false true false false is (rw (same_number k) refl) refl (rw (same_number k) refl) refl refl refl refl
  stage LeftWaiting is =
      staged LeftWaiting (Leave a.conn ∷ Accept k a ∷ Join a.conn ∷ []) true false false false is (rw (same_number k) refl) (rw (same_number a.conn) refl) refl refl refl refl refl
  stage (Running cookies) is =
      staged (Running cookies) (ran k a offs cookies) false true true false (is ∙ ran_is k a offs cookies) (ran_asked k a offs cookies)
      (ran_left k a offs cookies) (ran_decided k a offs cookies) (ran_taken k a offs cookies) (ran_ended k a offs cookies) refl refl
  stage (LeftRunning cookies) is =
      staged (LeftRunning cookies) (Leave a.conn ∷ ran k a offs cookies) true true true false (is ∙ ap (λ l. Leave a.conn ∷ l) (ran_is k a offs cookies)) (ran_asked k a offs cookies)
      (rw (same_number a.conn) refl) (ran_decided k a offs cookies) (ran_taken k a offs cookies) (ran_ended k a offs cookies) refl refl
  stage (Ended run) is =
      staged (Ended run) (End k run.results run.said ∷ ran k a offs run.cookies) false true true true (is ∙ ap (λ l. End k run.results run.said ∷ l) (ran_is k a offs run.cookies)) (ran_asked k a offs run.cookies)
      (ran_left k a offs run.cookies) (ran_decided k a offs run.cookies) (ran_taken k a offs run.cookies) (rw (same_number k) refl) refl refl
  stage (LeftEnded run) is =
      staged (LeftEnded run) (End k run.results run.said ∷ Leave a.conn ∷ ran k a offs run.cookies) true true true true
      (is ∙ ap (λ l. End k run.results run.said ∷ Leave a.conn ∷ l) (ran_is k a offs run.cookies)) (ran_asked k a offs run.cookies)
      (rw (same_number a.conn) refl) (ran_decided k a offs run.cookies) (ran_taken k a offs run.cookies) (rw (same_number k) refl) refl refl

-- ---- of a running call

pub record Marked (home : Home) (past : List Entry) (k : ℕ) (offs : List Off) : Type 0 where
  pub cancelled : is_cancelled (whole home past) k ≡ list_any is_cancel offs
  pub orphaned : is_orphaned (whole home past) k ≡ list_any is_orphan offs
  pub told : is_asked (whole home past) k ≡ list_any is_cancel offs

module _ (home : Home) (k : ℕ) (a : Asked) (past : List Entry) (offs : List Off) (cookies : List (Option ℕ)) where
  marked_by : (t : List Entry) → tale a.conn k past ≡ t → asked_in k t ≡ Some a → list_any (cancels k) t ≡ list_any is_cancel offs → list_any (orphans k) t ≡ list_any is_orphan offs
      → told_in k t ≡ list_any is_cancel offs → Marked home past k offs
  marked_by t is asks cancelled orphaned told = record {
    cancelled = cancelled_by home k a past t is asks (list_any is_cancel offs) cancelled;
    orphaned = orphaned_by home k a past t is asks (list_any is_orphan offs) orphaned;
    told = sym (told_tale a.conn k past) ∙ (ap (told_in k) is ∙ told);
  }

  pub marked_running : tale a.conn k past ≡ fate_entries k a offs (Running cookies) ++ Join a.conn ∷ [] → Marked home past k offs
  marked_running is =
      marked_by (ran k a offs cookies) (is ∙ ran_is k a offs cookies) (ran_asked k a offs cookies) (ran_cancelled k a offs cookies) (ran_orphaned k a offs cookies)
      (ran_told k a cookies offs)

  pub marked_left : tale a.conn k past ≡ fate_entries k a offs (LeftRunning cookies) ++ Join a.conn ∷ [] → Marked home past k offs
  marked_left is =
      marked_by (Leave a.conn ∷ ran k a offs cookies) (is ∙ ap (λ l. Leave a.conn ∷ l) (ran_is k a offs cookies)) (ran_asked k a offs cookies) (ran_cancelled k a offs cookies) (ran_orphaned k a offs cookies)
      (ran_told k a cookies offs)
