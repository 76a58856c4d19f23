-- What a group answers by the journal that it keeps it answers by the whole one, which goes on with it.
use Rattle.std.proofs.Common.{◌≡◌, ◌≢◌, ℕ, ◌≤◌, Bool, true, false, ◌||◌, ◌&&◌, not, Option, Some, None, Ok, Err, List, ◌∷◌, ◌++◌, length, refl, sym, ap, subst, ◌∙◌}
use Rattle.std.specs.Prelude.{if◌then◌else◌, Result, IfOk, OnOk}
use Rattle.rpc_base.specs.declared.fault.NoMemory.{NoMemory}
use Rattle.std.specs.List.{list_any, AllByRecursion}
use Rattle.std.proofs.lemmas.List.Folds.{list_any-append}
use Rattle.handle_model.specs.declared.entry.Asked.{Asked}
use Rattle.handle_model.specs.declared.entry.Outcome.{Outcome}
use Rattle.handle_model.specs.declared.entry.Entry.{Entry}
use Rattle.handle_model.specs.declared.entry.Entry.TheVariants.{Join, Accept, Take, Deny, Cancel, Orphan, End, Leave, Shut}
use Rattle.handle_model.specs.Bases.{empty_base}
use Rattle.handle_model.specs.Folds.{folded}
use Rattle.handle_model.specs.History.{History, IsSound, with_entry}
use Rattle.handle_model.specs.Journal.{is_shut, waits, runs, is_open, suit, slots, cookies_for, asked, opened, is_cancelled, is_orphaned}
use Rattle.handle_model.specs.Limits.{accept_limit}
use Rattle.handle_model.proofs.Steps.{active_unshut, runs_unshut}
use Rattle.call_table.specs.Laws.{open_asked}
use Rattle.group_core.specs.declared.answer.AcceptRefusal.{AcceptRefusal}
use Rattle.group_core.specs.declared.answer.AcceptRefusal.TheVariants as refusal
use Rattle.group_core.specs.declared.answer.JoinRefusal.{JoinRefusal}
use Rattle.group_core.specs.declared.answer.JoinRefusal.TheVariants as join_refusal
use Rattle.group_core.specs.declared.answer.Taking.TheVariants as taking
use Rattle.group_core.specs.declared.answer.Cancelled.TheVariants as cancelled
use Rattle.group_core.specs.declared.answer.Orphaned.TheVariants as orphaned
use Rattle.group_core.specs.declared.answer.Rest.{Rest}
use Rattle.group_core.specs.declared.answer.Rest.TheVariants as rest
use Rattle.group_core.specs.Conns as conns
use Rattle.group_core.specs.Conns.{Settles}
use Rattle.group_core.specs.Calls as calls
use Rattle.group_core.specs.Calls.{numbered}
use Rattle.group_core.specs.declared.answer.Stage.{Stage}
use Rattle.group_core.specs.declared.answer.Stage.TheVariants as stage
use Rattle.group_core.specs.Stages.{stage_of}
use Rattle.hub_story.specs.Answers.{JoinsWhole}
use Rattle.hub_story.specs.Folded.{kept_since, kept_with}
use Rattle.hub_story.proofs.WholeLemmas.{Keeps, accepts_whole, takes_whole, cancels_whole, orphans_whole, settles_whole, joins_whole, open_kept, runs_mine, suit_kept, stage_kept, waits_kept, runs_kept, alike_kept}
use Rattle.hub_story.proofs.FoldLemmas.{kept_folds}
use Rattle.conn_histories.specs.Requests.{HasSlots}
use Rattle.server_calls.specs.Laws.{NumberedStay}
use Rattle.world_server.specs.Servers.{ServerView, home, whole, IsServed, IsWhole, Goes, Whole, Joins, Takes, Cancels, Orphans, behind}

-- ---- what always holds

or_none : (a b : Bool) → b ≡ false → (a || b) ≡ a
or_none true b none = refl
or_none false b none = none

-- a Shut stands in both journals or in neither
pub shut_same : (past : List Entry) → IsSound (whole past) → list_any is_shut (kept_since home past).past ≡ list_any is_shut past
shut_same past s =
    let f = kept_folds home past s.legal in
    ap (λ (z : History). list_any is_shut z.past) f.fold_is
    ∙ sym (or_none (list_any is_shut f.newer) (list_any is_shut f.older) f.open_is)
    ∙ sym (list_any-append is_shut f.newer f.older) ∙ sym (ap (list_any is_shut) f.past_is)

pub has_shut_is : (s : ServerView) → IsWhole s → list_any is_shut s.group.past ≡ list_any is_shut s.past
has_shut_is s w = ap (λ (j : History). list_any is_shut j.past) w.kept ∙ shut_same s.past w.sound

pub mine_unshut : (s : ServerView) → IsWhole s → list_any is_shut s.past ≡ false → list_any is_shut s.group.past ≡ false
mine_unshut s w u = has_shut_is s w ∙ u

pub mine_open : (s : ServerView) (c : ℕ) → IsWhole s → is_open (whole s.past) c ≡ true → is_open s.group c ≡ true
mine_open s c w o = ap (λ (j : History). is_open j c) w.kept ∙ open_kept home s.past c w.sound o

pub mine_runs : (s : ServerView) (k : ℕ) → IsWhole s → runs (whole s.past) k ≡ true → runs s.group k ≡ true
mine_runs s k w r = ap (λ (j : History). runs j k) w.kept ∙ runs_mine home s.past k w.sound r

pub mine_suit : (s : ServerView) (k : ℕ) (results : List Outcome) → IsWhole s → runs (whole s.past) k ≡ true → suit (slots (whole s.past) k) results ≡ true → suit (slots s.group k) results ≡ true
mine_suit s k results w r h = ap (λ (j : History). suit (slots j k) results) w.kept ∙ suit_kept home s.past k results w.sound r h

pub stage_is : (s : ServerView) (k : ℕ) → IsWhole s → stage_of s.group k ≡ stage_of (whole s.past) k
stage_is s k w = ap (λ (j : History). stage_of j k) w.kept ∙ stage_kept home s.past w.sound.legal k

abbrev asked_if : Bool → Option Asked → Option Asked
asked_if b o = if b then o else None

asked_either : (b : Bool) (x y : Option Asked) → (b ≡ true → x ≡ y) → asked_if b x ≡ asked_if b y
asked_either true x y e = e refl
asked_either false x y e = refl

pub asked_is : (s : ServerView) (k : ℕ) → IsWhole s → open_asked s.group k ≡ open_asked (whole s.past) k
asked_is s k w =
    let l = w.sound.legal in
    let mine : History = kept_since home s.past in
    let same : (waits mine k || runs mine k) ≡ (waits (whole s.past) k || runs (whole s.past) k) = rw (waits_kept home s.past l k, runs_kept home s.past l k) refl in
    ap (λ (j : History). open_asked j k) w.kept
    ∙ ap (λ (b : Bool). asked_if b (asked mine k)) same
    ∙ asked_either (waits (whole s.past) k || runs (whole s.past) k) (asked mine k) (asked (whole s.past) k) (λ h. (alike_kept home s.past l).asked_same k h)

pub waits_unshut : (past : List Entry) (k : ℕ) → IsSound (whole past) → waits (whole past) k ≡ true → list_any is_shut past ≡ false
waits_unshut past k s h = active_unshut (whole past) k true s.legal (rw h refl)

-- ---- entries come

-- the newest entry that the group keeps is the newest one
pub newest_kept : (e : Entry) (x : History) → (older : List Entry) × ((kept_with e x).past ≡ e ∷ older)
newest_kept (Join c) x = ((folded x).past, refl)
newest_kept (Accept k a) x = (x.past, refl)
newest_kept (Take k cookies) x = (x.past, refl)
newest_kept (Deny k slot) x = (x.past, refl)
newest_kept (Cancel k) x = (x.past, refl)
newest_kept (Orphan k) x = (x.past, refl)
newest_kept (End k results said) x = (x.past, refl)
newest_kept (Leave c) x = (x.past, refl)
newest_kept (Shut items) x = (x.past, refl)

abbrev pub Pushes : ServerView → History → Entry → ServerView → Type 0
Pushes s y e t = t ≡ record s { group = y; past = e ∷ s.past }

module _ (s t : ServerView) (y : History) (w : IsWhole s) (Says : History → History → Type 0) (k : Keeps home s.past y Says) where
  pub goes : (new : List Entry) → k.es ++ s.past ≡ new → t ≡ record s { group = y; past = new } → AllByRecursion (IsServed s.tables) new → Goes s (Whole Says) t
  goes new e is served =
      subst (Goes s (Whole Says)) (sym is)
      (record {
        tables = refl;
        is_whole = record {
          kept = k.kept_is ∙ ap (kept_since home) e;
          sound = subst (λ (p : List Entry). IsSound (whole p)) e k.sound;
          served = served;
        };
        says = subst (λ (p : List Entry). Says (whole s.past) (whole p)) e k.answers;
      })

  pub stays : k.es ++ s.past ≡ s.past → t ≡ record s { group = y } → Goes s (Whole Says) t
  stays e is = goes s.past e is w.served

  -- the newest one that the group keeps
  pub first : (e : Entry) → k.es ++ s.past ≡ e ∷ s.past → (older : List Entry) × (y.past ≡ e ∷ older)
  first e is =
      let n = newest_kept e (kept_since home s.past) in
      (n.0, ap (λ (z : History). z.past) (k.kept_is ∙ ap (kept_since home) is) ∙ n.1)

-- the entries that were added
added : (past more : List Entry) → whole past ≡ whole more → past ≡ more
added past more e = ap (λ (z : History). z.past) e

abbrev pub IsNewest : ServerView → History → ServerView → Type 0
IsNewest s y t = (e : Entry) (older : List Entry) → y.past ≡ e ∷ older → Pushes s y e t

module _ (s t : ServerView) (y : History) (w : IsWhole s) (ys : IsSound y) where
  -- ---- takes

  module _ (k : ℕ) (u : list_any is_shut s.past ≡ false) where
    pub takes_run : (row : List (Option ℕ)) (serial : ℕ) → calls.Takes s.group k (taking.Run row serial) y → IsNewest s y t → Goes s (Whole (λ i j. calls.Takes i k (taking.Run row serial) j)) t
    takes_run row serial a pushed =
        let Says : History → History → Type 0 = λ i j. calls.Takes i k (taking.Run row serial) j in
        let entry : Entry = Take k (cookies_for (whole s.past) (slots (whole s.past) k)) in
        let g = takes_whole home s.past k (taking.Run row serial) y w.sound u (subst (λ (x : History). calls.Takes x k (taking.Run row serial) y) w.kept a) ys in
        let e : g.es ++ s.past ≡ entry ∷ s.past = added (g.es ++ s.past) (entry ∷ s.past) g.answers.5 in
        let f = first s t y w Says g entry e in
        goes s t y w Says g (entry ∷ s.past) e (pushed entry f.0 f.1) (tt, w.served)

    pub takes_denied : (slot : ℕ) → calls.Takes s.group k (taking.Denied slot) y → Pushes s y (Deny k slot) t → Goes s (Whole (λ i j. calls.Takes i k (taking.Denied slot) j)) t
    takes_denied slot a pushed =
        let Says : History → History → Type 0 = λ i j. calls.Takes i k (taking.Denied slot) j in
        let g = takes_whole home s.past k (taking.Denied slot) y w.sound u (subst (λ (x : History). calls.Takes x k (taking.Denied slot) y) w.kept a) ys in
        goes s t y w Says g (Deny k slot ∷ s.past) (added (g.es ++ s.past) (Deny k slot ∷ s.past) g.answers.3) pushed (tt, w.served)

    pub takes_dropped : calls.Takes s.group k taking.Dropped y → t ≡ record s { group = y } → Goes s (Whole (λ i j. calls.Takes i k taking.Dropped j)) t
    takes_dropped a is =
        let Says : History → History → Type 0 = λ i j. calls.Takes i k taking.Dropped j in
        let g = takes_whole home s.past k taking.Dropped y w.sound u (subst (λ (x : History). calls.Takes x k taking.Dropped y) w.kept a) ys in
        stays s t y w Says g (added (g.es ++ s.past) s.past g.answers.1) is

    pub takes_wait : (m : ℕ) → calls.Takes s.group k (taking.Wait m) y → t ≡ record s { group = y } → Goes s (Whole (λ i j. calls.Takes i k (taking.Wait m) j)) t
    takes_wait m a is =
        let Says : History → History → Type 0 = λ i j. calls.Takes i k (taking.Wait m) j in
        let g = takes_whole home s.past k (taking.Wait m) y w.sound u (subst (λ (x : History). calls.Takes x k (taking.Wait m) y) w.kept a) ys in
        stays s t y w Says g (added (g.es ++ s.past) s.past g.answers.2) is

    -- ---- cancels

    pub cancels_ended : calls.Cancels s.group k cancelled.Ended y → Pushes s y (Cancel k) t → Goes s (Whole (λ i j. calls.Cancels i k cancelled.Ended j)) t
    cancels_ended a pushed =
        let Says : History → History → Type 0 = λ i j. calls.Cancels i k cancelled.Ended j in
        let g = cancels_whole home s.past k cancelled.Ended y w.sound u (subst (λ (x : History). calls.Cancels x k cancelled.Ended y) w.kept a) ys in
        goes s t y w Says g (Cancel k ∷ s.past) (added (g.es ++ s.past) (Cancel k ∷ s.past) g.answers.1) pushed (tt, w.served)

    pub cancels_flagged : calls.Cancels s.group k cancelled.Flagged y → Pushes s y (Cancel k) t → Goes s (Whole (λ i j. calls.Cancels i k cancelled.Flagged j)) t
    cancels_flagged a pushed =
        let Says : History → History → Type 0 = λ i j. calls.Cancels i k cancelled.Flagged j in
        let g = cancels_whole home s.past k cancelled.Flagged y w.sound u (subst (λ (x : History). calls.Cancels x k cancelled.Flagged y) w.kept a) ys in
        goes s t y w Says g (Cancel k ∷ s.past) (added (g.es ++ s.past) (Cancel k ∷ s.past) g.answers.1) pushed (tt, w.served)

    pub cancels_late : calls.Cancels s.group k cancelled.Late y → t ≡ record s { group = y } → Goes s (Whole (λ i j. calls.Cancels i k cancelled.Late j)) t
    cancels_late a is =
        let Says : History → History → Type 0 = λ i j. calls.Cancels i k cancelled.Late j in
        let g = cancels_whole home s.past k cancelled.Late y w.sound u (subst (λ (x : History). calls.Cancels x k cancelled.Late y) w.kept a) ys in
        stays s t y w Says g (added (g.es ++ s.past) s.past g.answers.2) is

    -- ---- orphanings

    pub orphans_dropped : calls.Orphans s.group k orphaned.Dropped y → Pushes s y (Orphan k) t → Goes s (Whole (λ i j. calls.Orphans i k orphaned.Dropped j)) t
    orphans_dropped a pushed =
        let Says : History → History → Type 0 = λ i j. calls.Orphans i k orphaned.Dropped j in
        let g = orphans_whole home s.past k orphaned.Dropped y w.sound u (subst (λ (x : History). calls.Orphans x k orphaned.Dropped y) w.kept a) ys in
        goes s t y w Says g (Orphan k ∷ s.past) (added (g.es ++ s.past) (Orphan k ∷ s.past) g.answers.1) pushed (tt, w.served)

    pub orphans_running : calls.Orphans s.group k orphaned.Running y → Pushes s y (Orphan k) t → Goes s (Whole (λ i j. calls.Orphans i k orphaned.Running j)) t
    orphans_running a pushed =
        let Says : History → History → Type 0 = λ i j. calls.Orphans i k orphaned.Running j in
        let g = orphans_whole home s.past k orphaned.Running y w.sound u (subst (λ (x : History). calls.Orphans x k orphaned.Running y) w.kept a) ys in
        goes s t y w Says g (Orphan k ∷ s.past) (added (g.es ++ s.past) (Orphan k ∷ s.past) g.answers.1) pushed (tt, w.served)

    pub orphans_late : calls.Orphans s.group k orphaned.Late y → t ≡ record s { group = y } → Goes s (Whole (λ i j. calls.Orphans i k orphaned.Late j)) t
    orphans_late a is =
        let Says : History → History → Type 0 = λ i j. calls.Orphans i k orphaned.Late j in
        let g = orphans_whole home s.past k orphaned.Late y w.sound u (subst (λ (x : History). calls.Orphans x k orphaned.Late y) w.kept a) ys in
        stays s t y w Says g (added (g.es ++ s.past) s.past g.answers.2) is

  -- ---- accepts

  module _ (a : Asked) (u : list_any is_shut s.past ≡ false) where
    pub accepts_as : (n : ℕ) → NumberedStay → HasSlots s.tables a.iface a.op a.order a.stub a.slots → length a.slots ≤ 4 → calls.Accepts s.group a (Ok n) y → IsNewest s y t → Goes s (Takes a (Some n)) t
    accepts_as n stay has few acc pushed =
        let Says : History → History → Type 0 = λ i j. calls.Accepts i a (Ok n) j in
        let entry : Entry = Accept n (numbered (whole s.past) a) in
        let g = accepts_whole home s.past a (Ok n) y w.sound u (subst (λ (x : History). calls.Accepts x a (Ok n) y) w.kept acc) ys in
        let e : g.es ++ s.past ≡ entry ∷ s.past = added (g.es ++ s.past) (entry ∷ s.past) g.answers.2 in
        let f = first s t y w Says g entry e in
        let n = stay s.tables a.iface a.op a.order a.stub a.slots (opened (whole s.past)) has in
        let r = goes s t y w Says g (entry ∷ s.past) e (pushed entry f.0 f.1) ((n.0, subst (λ (c : ℕ). c ≤ 4) (sym n.1) few), w.served) in
        record { tables = r.tables; is_whole = r.is_whole; says = r.says }

    limited : (b : Asked) (r : AcceptRefusal) (g : Keeps home s.past y (λ i j. calls.Accepts i a (Err (b, r)) j)) → g.es ++ s.past ≡ s.past → accept_limit (whole s.past) a.slots ≢ None → t ≡ record s { group = y } → Goes s (Takes a None) t
    limited b r g e limit is =
        let r = stays s t y w (λ i j. calls.Accepts i a (Err (b, r)) j) g e is in
        record { tables = r.tables; is_whole = r.is_whole; says = (limit, ap (λ (z : ServerView). z.past) is) }

    some_limit : {L : Type 0} (o : Option L) (l : L) → o ≡ Some l → o ≢ None
    some_limit o l e n = let f = sym e ∙ n in absurd cc

    pub accepts_not : (b : Asked) (r : AcceptRefusal) → r ≢ refusal.Memory → calls.Accepts s.group a (Err (b, r)) y → t ≡ record s { group = y } → Goes s (Takes a None) t
    accepts_not b refusal.Calls m acc is =
        let g = accepts_whole home s.past a (Err (b, refusal.Calls)) y w.sound u (subst (λ (x : History). calls.Accepts x a (Err (b, refusal.Calls)) y) w.kept acc) ys in
        limited b refusal.Calls g (added (g.es ++ s.past) s.past g.answers.2) (some_limit _ _ g.answers.0) is
    accepts_not b refusal.Handles m acc is =
        let g = accepts_whole home s.past a (Err (b, refusal.Handles)) y w.sound u (subst (λ (x : History). calls.Accepts x a (Err (b, refusal.Handles)) y) w.kept acc) ys in
        limited b refusal.Handles g (added (g.es ++ s.past) s.past g.answers.2) (some_limit _ _ g.answers.0) is
    accepts_not b refusal.Numbers m acc is =
        let g = accepts_whole home s.past a (Err (b, refusal.Numbers)) y w.sound u (subst (λ (x : History). calls.Accepts x a (Err (b, refusal.Numbers)) y) w.kept acc) ys in
        limited b refusal.Numbers g (added (g.es ++ s.past) s.past g.answers.2) (some_limit _ _ g.answers.0) is
    accepts_not b refusal.Memory m acc is = absurd (m refl)

  -- ---- joins

  module _ (u : list_any is_shut s.past ≡ false) where
    pub joins_as : (n : ℕ) → conns.Joins s.group (Ok n) y → Pushes s y (Join n) t → Goes s (Joins (Some n)) t
    joins_as n a pushed =
        let Says : History → History → Type 0 = λ i j. JoinsWhole i (Ok n) j in
        let g = joins_whole home s.past (Ok n) y w.sound u (subst (λ (x : History). conns.Joins x (Ok n) y) w.kept a) ys in
        let r = goes s t y w Says g (Join n ∷ s.past) (added (g.es ++ s.past) (Join n ∷ s.past) g.answers.2) pushed (tt, w.served) in
        record { tables = r.tables; is_whole = r.is_whole; says = (g.answers.0, g.answers.1, ap (λ (z : ServerView). z.past) pushed) }

    pub joins_not : (r : JoinRefusal) → r ≢ join_refusal.Memory → conns.Joins s.group (Err r) y → t ≡ record s { group = y } → Goes s (Joins None) t
    joins_not join_refusal.TooMany m a is =
        let Says : History → History → Type 0 = λ i j. JoinsWhole i (Err join_refusal.TooMany) j in
        let g = joins_whole home s.past (Err join_refusal.TooMany) y w.sound u (subst (λ (x : History). conns.Joins x (Err join_refusal.TooMany) y) w.kept a) ys in
        let r = stays s t y w Says g (added (g.es ++ s.past) s.past g.answers.1) is in
        record { tables = r.tables; is_whole = r.is_whole; says = (λ n. let f = sym g.answers.0 ∙ n in absurd cc, ap (λ (z : ServerView). z.past) is) }
    joins_not join_refusal.Numbers m a is =
        let Says : History → History → Type 0 = λ i j. JoinsWhole i (Err join_refusal.Numbers) j in
        let g = joins_whole home s.past (Err join_refusal.Numbers) y w.sound u (subst (λ (x : History). conns.Joins x (Err join_refusal.Numbers) y) w.kept a) ys in
        let r = stays s t y w Says g (added (g.es ++ s.past) s.past g.answers.1) is in
        record { tables = r.tables; is_whole = r.is_whole; says = (λ n. let f = sym g.answers.0 ∙ n in absurd cc, ap (λ (z : ServerView). z.past) is) }
    joins_not join_refusal.Memory m a is = absurd (m refl)

  -- ---- an End or a Leave, and what comes behind it

  settled_past : (e : Entry) (r : Rest) (es : List Entry) → Settles (whole s.past) e r (whole (es ++ s.past)) → es ++ s.past ≡ behind r e s.past
  settled_past e rest.Stays es a = added (es ++ s.past) (e ∷ s.past) a.1
  settled_past e (rest.Shut items) es a = added (es ++ s.past) (Shut items ∷ e ∷ s.past) a.2

  behind_served : (e : Entry) (r : Rest) → IsServed s.tables e → AllByRecursion (IsServed s.tables) (behind r e s.past)
  behind_served e rest.Stays v = (v, w.served)
  behind_served e (rest.Shut items) v = (tt, (v, w.served))

  behind_kept : (e : Entry) (r : Rest) → kept_with e (kept_since home s.past) ≡ with_entry (kept_since home s.past) e → (kept_since home (behind r e s.past)).past ≡ behind r e (kept_since home s.past).past
  behind_kept e rest.Stays k = ap (λ (z : History). z.past) k
  behind_kept e (rest.Shut items) k = ap (λ (z : History). Shut items ∷ z.past) k

  pub settles : (e : Entry) (r : Rest) → kept_with e (kept_since home s.past) ≡ with_entry (kept_since home s.past) e → IsServed s.tables e → Settles s.group e r y
      → ((older : List Entry) → y.past ≡ behind r e older → t ≡ record s { group = y; past = behind r e s.past }) → Goes s (Whole (λ i j. Settles i e r j)) t
  settles e r kw v a pushed =
      let Says : History → History → Type 0 = λ i j. Settles i e r j in
      let g = settles_whole home s.past e r y kw w.sound (subst (λ (x : History). Settles x e r y) w.kept a) ys in
      let is : g.es ++ s.past ≡ behind r e s.past = settled_past e r g.es g.answers in
      let top : y.past ≡ behind r e (kept_since home s.past).past = ap (λ (z : History). z.past) (g.kept_is ∙ ap (kept_since home) is) ∙ behind_kept e r kw in
      goes s t y w Says g (behind r e s.past) is (pushed (kept_since home s.past).past top) (behind_served e r v)

-- ---- by what is answered

module _ (s t : ServerView) (y : History) (w : IsWhole s) (ys : IsSound y) (is : t ≡ record s { group = y }) where
  pub not_joined : (r : JoinRefusal) (answer : Result (Option ℕ) NoMemory) → list_any is_shut s.past ≡ false → conns.Joins s.group (Err r) y → IfOk answer (λ o. (o ≡ None) × (r ≢ join_refusal.Memory))
      → IfOk answer (λ o. Goes s (Joins o) t)
  not_joined r (Ok o) u a h = subst (λ (z : Option ℕ). Goes s (Joins z) t) (sym h.0) (joins_not s t y w ys u r h.1 a is)
  not_joined r (Err e) u a h = tt

  pub not_accepted : (a b : Asked) (r : AcceptRefusal) (answer : Result (Option ℕ) NoMemory) → list_any is_shut s.past ≡ false → calls.Accepts s.group a (Err (b, r)) y → IfOk answer (λ o. (o ≡ None) × (r ≢ refusal.Memory))
      → IfOk answer (λ o. Goes s (Takes a o) t)
  not_accepted a b r (Ok o) u acc h = subst (λ (z : Option ℕ). Goes s (Takes a z) t) (sym h.0) (accepts_not s t y w ys a u b r h.1 acc is)
  not_accepted a b r (Err e) u acc h = tt

-- an End or a Leave, once it is entered
pub settled : (s t : ServerView) (y : History) (w : IsWhole s) (ys : IsSound y) (e : Entry) (r : Rest) (answer : Result Unit NoMemory) → kept_with e (kept_since home s.past) ≡ with_entry (kept_since home s.past) e
    → IsServed s.tables e → Settles s.group e r y → OnOk answer ((older : List Entry) → y.past ≡ behind r e older → t ≡ record s { group = y; past = behind r e s.past })
    → OnOk answer ((rest : Rest) × Goes s (Whole (λ i j. Settles i e rest j)) t)
settled s t y w ys e r (Ok u) kw v a h = (r, settles s t y w ys e r kw v a h)
settled s t y w ys e r (Err u) kw v a h = tt

-- a cancel and an orphaning, once they are entered
module _ (s t : ServerView) (y : History) (w : IsWhole s) (ys : IsSound y) (k : ℕ) (u : list_any is_shut s.past ≡ false) where
  pub cancel_ended : (answer : Result Unit NoMemory) → calls.Cancels s.group k cancelled.Ended y → OnOk answer (Pushes s y (Cancel k) t) → OnOk answer (Cancels s k t)
  cancel_ended (Ok v) a h = (cancelled.Ended, cancels_ended s t y w ys k u a h)
  cancel_ended (Err v) a h = tt

  pub cancel_flagged : (answer : Result Unit NoMemory) → calls.Cancels s.group k cancelled.Flagged y → OnOk answer (Pushes s y (Cancel k) t) → OnOk answer (Cancels s k t)
  cancel_flagged (Ok v) a h = (cancelled.Flagged, cancels_flagged s t y w ys k u a h)
  cancel_flagged (Err v) a h = tt

  pub orphan_dropped : (answer : Result Unit NoMemory) → calls.Orphans s.group k orphaned.Dropped y → OnOk answer (Pushes s y (Orphan k) t) → OnOk answer (Orphans s k t)
  orphan_dropped (Ok v) a h = (orphaned.Dropped, orphans_dropped s t y w ys k u a h)
  orphan_dropped (Err v) a h = tt

  pub orphan_running : (answer : Result Unit NoMemory) → calls.Orphans s.group k orphaned.Running y → OnOk answer (Pushes s y (Orphan k) t) → OnOk answer (Orphans s k t)
  orphan_running (Ok v) a h = (orphaned.Running, orphans_running s t y w ys k u a h)
  orphan_running (Err v) a h = tt

-- ---- a call that is over stays as it is

abbrev pub is_over : List Entry → ℕ → Bool
is_over past k = not (waits (whole past) k || runs (whole past) k)

over_both : (a b : Bool) → not (a || b) ≡ true → (a ≡ false) × (b ≡ false)
over_both true b e = absurd cc
over_both false true e = absurd cc
over_both false false e = (refl, refl)

and_false : (a b : Bool) → a ≡ false → (a && b) ≡ false
and_false a b e = ap (λ (z : Bool). z && b) e

pub over_cancels : (s : ServerView) (k : ℕ) → IsWhole s → is_over s.past k ≡ true → Cancels s k s
over_cancels s k w o =
    let f = over_both (waits (whole s.past) k) (runs (whole s.past) k) o in (
      cancelled.Late,
      record { tables = refl; is_whole = w; says = (f.0, and_false (runs (whole s.past) k) (not (is_cancelled (whole s.past) k)) f.1, refl) },
    )

pub over_orphans : (s : ServerView) (k : ℕ) → IsWhole s → is_over s.past k ≡ true → Orphans s k s
over_orphans s k w o =
    let f = over_both (waits (whole s.past) k) (runs (whole s.past) k) o in (
      orphaned.Late,
      record { tables = refl; is_whole = w; says = (f.0, and_false (runs (whole s.past) k) (not (is_orphaned (whole s.past) k)) f.1, refl) },
    )

-- one that isn't has a group that goes on
pub open_unshut_call : (past : List Entry) (k : ℕ) → IsSound (whole past) → is_over past k ≡ false → list_any is_shut past ≡ false
open_unshut_call past k s o = either (waits (whole past) k) refl
  where
    not_over : (a b : Bool) → a ≡ false → not (a || b) ≡ false → b ≡ true
    not_over true b e n = absurd cc
    not_over false true e n = refl
    not_over false false e n = absurd cc

    either : (b : Bool) → waits (whole past) k ≡ b → list_any is_shut past ≡ false
    either true h = waits_unshut past k s h
    either false h = runs_unshut home empty_base past k s.legal (not_over (waits (whole past) k) (runs (whole past) k) h o)

-- what the stage says
abbrev pub is_stage_over : Stage → Bool
is_stage_over stage.Over = true
is_stage_over _ = false

over_of : (a b : Bool) → (r : Stage) → r ≡ (if a then stage.Waiting else (if b then stage.Running else stage.Over)) → is_stage_over r ≡ not (a || b)
over_of true b r e = ap is_stage_over e
over_of false true r e = ap is_stage_over e
over_of false false r e = ap is_stage_over e

pub over_is : (s : ServerView) (k : ℕ) (r : Stage) → r ≡ stage_of (whole s.past) k → is_stage_over r ≡ is_over s.past k
over_is s k r e = over_of (waits (whole s.past) k) (runs (whole s.past) k) r e
