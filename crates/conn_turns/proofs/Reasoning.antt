-- Each turn of a legal journal has its reason, and keeps it.
use Rattle.std.proofs.Common.{◌≡◌, ℕ, Bool, true, false, ◌&&◌, not, List, [], ◌∷◌, ◌++◌, Option, Some, is_some, refl, sym, ap, ◌∙◌, append_assoc}
use Rattle.std.specs.List.{list_any, AllByRecursion}
use Rattle.handle_model.specs.declared.entry.Home.{Home}
use Rattle.handle_model.specs.declared.entry.Asked.{Asked}
use Rattle.handle_model.specs.declared.entry.Entry.{Entry}
use Rattle.handle_model.specs.declared.entry.Entry.TheVariants.{Join, Accept, Take, Deny, Cancel, Orphan, End, Leave, Shut}
use Rattle.handle_model.specs.Since.{any_since}
use Rattle.handle_model.specs.History.{History}
use Rattle.handle_model.specs.Journal.{leaves, takes, ends, decides, has_left, waits, runs, Legal}
use Rattle.conn_histories.specs.declared.turn.Off.{Off}
use Rattle.conn_histories.specs.declared.turn.Run.{Run}
use Rattle.conn_histories.specs.declared.turn.Fate.{Fate}
use Rattle.conn_histories.specs.declared.turn.Fate.TheVariants.{Waiting, Denied, Cancelled, Orphaned, LeftWaiting, Running, LeftRunning, Ended, LeftEnded}
use Rattle.conn_histories.specs.declared.turn.Deed.{Deed}
use Rattle.conn_histories.specs.declared.turn.Deed.TheVariants.{Pending, Refused, Accepted}
use Rattle.conn_histories.specs.declared.turn.Request.{Request}
use Rattle.conn_histories.specs.declared.turn.Turn.{Turn}
use Rattle.conn_histories.specs.declared.turn.Turn.TheVariants.{Binding, Bound, NotBound, Answered, Called, Closed}
use Rattle.conn_histories.specs.Entries.{asked_as, marks, taken, fate_entries, has_left as fate_left, leave_behind}
use Rattle.conn_histories.specs.Tales.{whole, is_about, tale, DeedStands, Stands, StandAll}
use Rattle.conn_turns.specs.Reasons.{Came, Whatever, Waited, Ran, FateHasReason, DeedHasReason, HasReason}
use Rattle.conn_turns.proofs.TaleFacts.{same_number, since_none, in_tale, takes_call, ends_call, leaves_conn, asked_in, asked_tale}
use Rattle.conn_turns.proofs.MarkFacts.{ran, ran_is, ran_taken, ran_ended}
use Rattle.conn_turns.proofs.Moments.{split, came}

decides_call : (c k : ℕ) (e : Entry) → decides k e ≡ true → is_about c k e ≡ true
decides_call c k (Take m cookies) h = h
decides_call c k (Deny m slot) h = h
decides_call c k (Cancel m) h = h
decides_call c k (Orphan m) h = h
decides_call c k (Join d) h = absurd cc
decides_call c k (Accept m a) h = absurd cc
decides_call c k (End m results said) h = absurd cc
decides_call c k (Leave d) h = absurd cc
decides_call c k (Shut items) h = absurd cc

-- the Accept of a call is its oldest entry
accept_last : (k : ℕ) (a : Asked) (offs : List Off) (fate : Fate) → (front : List Entry) × (fate_entries k a offs fate ≡ front ++ Accept k a ∷ [])
accept_last k a offs Waiting = ([], refl)
accept_last k a offs (Denied slot) = (Deny k slot ∷ [], refl)
accept_last k a offs Cancelled = (Cancel k ∷ [], refl)
accept_last k a offs Orphaned = (Orphan k ∷ [], refl)
accept_last k a offs LeftWaiting = (Leave a.conn ∷ [], refl)
accept_last k a offs (Running cookies) = (marks k offs ++ Take k cookies ∷ [], sym (append_assoc (marks k offs) (Take k cookies ∷ []) (Accept k a ∷ [])))
accept_last k a offs (LeftRunning cookies) =
    (Leave a.conn ∷ (marks k offs ++ Take k cookies ∷ []), ap (λ l. Leave a.conn ∷ l) (sym (append_assoc (marks k offs) (Take k cookies ∷ []) (Accept k a ∷ []))))
accept_last k a offs (Ended run) = (
  End k run.results run.said ∷ (marks k offs ++ Take k run.cookies ∷ []),
  ap (λ l. End k run.results run.said ∷ l) (sym (append_assoc (marks k offs) (Take k run.cookies ∷ []) (Accept k a ∷ []))),
)
accept_last k a offs (LeftEnded run) = (
  End k run.results run.said ∷ Leave a.conn ∷ (marks k offs ++ Take k run.cookies ∷ []),
  ap (λ l. End k run.results run.said ∷ Leave a.conn ∷ l) (sym (append_assoc (marks k offs) (Take k run.cookies ∷ []) (Accept k a ∷ []))),
)

-- ---- at a moment

module _ (home : Home) (k : ℕ) (a : Asked) (older : List Entry) where
  waits_by : tale a.conn k older ≡ Accept k a ∷ Join a.conn ∷ [] → waits (whole home older) k ≡ true
  waits_by is =
      let asks : asked_in k (Accept k a ∷ Join a.conn ∷ []) ≡ Some a = rw (same_number k) refl in
      let asked : asked_in k older ≡ Some a = sym (asked_tale a.conn k older) ∙ (ap (asked_in k) is ∙ asks) in
      let stays : list_any (leaves a.conn) older ≡ false = sym (in_tale a.conn k (leaves a.conn) (leaves_conn a.conn k) older) ∙ ap (list_any (leaves a.conn)) is in
      let left : has_left (whole home older) (asked_in k older) ≡ false = ap (has_left (whole home older)) asked ∙ stays in
      let decided : any_since false (decides k) older ≡ false =
      since_none (decides k) older ∙ (sym (in_tale a.conn k (decides k) (decides_call a.conn k) older) ∙ ap (list_any (decides k)) is) in
      λ i. is_some (asked i) && not (left i) && not (decided i)

  runs_by : (offs : List Off) (cookies : List (Option ℕ)) → tale a.conn k older ≡ ran k a offs cookies → runs (whole home older) k ≡ true
  runs_by offs cookies is =
      let took : any_since false (takes k) older ≡ true =
      since_none (takes k) older ∙ (sym (in_tale a.conn k (takes k) (takes_call a.conn k) older) ∙ (ap (list_any (takes k)) is ∙ ran_taken k a offs cookies)) in
      let ended : list_any (ends k) older ≡ false =
      sym (in_tale a.conn k (ends k) (ends_call a.conn k) older) ∙ (ap (list_any (ends k)) is ∙ ran_ended k a offs cookies) in
      λ i. took i && not (ended i)

-- ---- reasons

module _ (home : Home) (k : ℕ) (a : Asked) (past : List Entry) (legal : Legal (whole home past)) where
  -- an entry of the tale came, and that was so where it follows from the tale before it
  in_its_tale : (So : History → Type 0) (front : List Entry) (e : Entry) (back : List Entry) → tale a.conn k past ≡ front ++ e ∷ back
      → ((older : List Entry) → tale a.conn k older ≡ back → So (whole home older)) → Came home So past e
  in_its_tale So front e back is so =
      let s = split (is_about a.conn k) past front e back is in
      came home past legal So s.newer e s.older s.is (so s.older s.rest)

  was_taken : (front : List Entry) (offs : List Off) (cookies : List (Option ℕ)) → tale a.conn k past ≡ front ++ (taken k a offs cookies ++ Join a.conn ∷ [])
      → Came home Whatever past (Take k cookies)
  was_taken front offs cookies is =
      in_its_tale Whatever (front ++ marks k offs) (Take k cookies) (Accept k a ∷ Join a.conn ∷ [])
      (is ∙ (ap (λ l. front ++ l) (ran_is k a offs cookies) ∙ sym (append_assoc front (marks k offs) (Take k cookies ∷ Accept k a ∷ Join a.conn ∷ [])))) (λ o i. tt)

  was_left : (front : List Entry) (offs : List Off) (cookies : List (Option ℕ)) → tale a.conn k past ≡ front ++ Leave a.conn ∷ (taken k a offs cookies ++ Join a.conn ∷ [])
      → Came home (Ran k) past (Leave a.conn)
  was_left front offs cookies is =
      in_its_tale (Ran k) front (Leave a.conn) (taken k a offs cookies ++ Join a.conn ∷ []) is (λ o i. runs_by home k a o offs cookies (i ∙ ran_is k a offs cookies))

  waited : (o : List Entry) → tale a.conn k o ≡ Accept k a ∷ Join a.conn ∷ [] → Waited k (whole home o)
  waited o i = waits_by home k a o i

  was_accepted : (front : List Entry) (offs : List Off) (fate : Fate) → tale a.conn k past ≡ front ++ (fate_entries k a offs fate ++ Join a.conn ∷ [])
      → Came home Whatever past (Accept k a)
  was_accepted front offs fate is =
      let last = accept_last k a offs fate in
      in_its_tale Whatever (front ++ last.0) (Accept k a) (Join a.conn ∷ [])
      (is ∙ (ap (λ l. front ++ (l ++ Join a.conn ∷ [])) last.1
      ∙ (ap (λ l. front ++ l) (append_assoc last.0 (Accept k a ∷ []) (Join a.conn ∷ [])) ∙ sym (append_assoc front last.0 (Accept k a ∷ Join a.conn ∷ [])))))
      (λ o i. tt)

  fate_reason : (front : List Entry) (offs : List Off) (fate : Fate) → tale a.conn k past ≡ front ++ (fate_entries k a offs fate ++ Join a.conn ∷ []) → FateHasReason home past k a fate
  fate_reason front offs Waiting is = tt
  fate_reason front offs (Denied slot) is = in_its_tale Whatever front (Deny k slot) (Accept k a ∷ Join a.conn ∷ []) is (λ o i. tt)
  fate_reason front offs Cancelled is = in_its_tale (Waited k) front (Cancel k) (Accept k a ∷ Join a.conn ∷ []) is waited
  fate_reason front offs Orphaned is = in_its_tale (Waited k) front (Orphan k) (Accept k a ∷ Join a.conn ∷ []) is waited
  fate_reason front offs LeftWaiting is = in_its_tale (Waited k) front (Leave a.conn) (Accept k a ∷ Join a.conn ∷ []) is waited
  fate_reason front offs (Running cookies) is = was_taken front offs cookies is
  fate_reason front offs (LeftRunning cookies) is = (
    was_taken (front ++ Leave a.conn ∷ []) offs cookies (is ∙ sym (append_assoc front (Leave a.conn ∷ []) (taken k a offs cookies ++ Join a.conn ∷ []))),
    was_left front offs cookies is,
  )
  fate_reason front offs (Ended run) is = (
    was_taken (front ++ End k run.results run.said ∷ []) offs run.cookies (is ∙ sym (append_assoc front (End k run.results run.said ∷ []) (taken k a offs run.cookies ++ Join a.conn ∷ []))),
    in_its_tale Whatever front (End k run.results run.said) (taken k a offs run.cookies ++ Join a.conn ∷ []) is (λ o i. tt),
  )
  fate_reason front offs (LeftEnded run) is = (
    was_taken (front ++ End k run.results run.said ∷ Leave a.conn ∷ []) offs run.cookies
        (is ∙ sym (append_assoc front (End k run.results run.said ∷ Leave a.conn ∷ []) (taken k a offs run.cookies ++ Join a.conn ∷ []))),
    was_left (front ++ End k run.results run.said ∷ []) offs run.cookies
        (is ∙ sym (append_assoc front (End k run.results run.said ∷ []) (Leave a.conn ∷ (taken k a offs run.cookies ++ Join a.conn ∷ [])))),
    in_its_tale Whatever front (End k run.results run.said) (Leave a.conn ∷ (taken k a offs run.cookies ++ Join a.conn ∷ [])) is (λ o i. tt),
  )

module _ (home : Home) (c : ℕ) (gone : Bool) (past : List Entry) (legal : Legal (whole home past)) where
  deed_reason : (r : Request) (deed : Deed) → DeedStands c gone past r deed → DeedHasReason home c past r deed
  deed_reason r Pending h = tt
  deed_reason r (Refused status) h = tt
  deed_reason r (Accepted k slots fate) h =
      let a = asked_as c r slots in
      let left = leave_behind c gone (fate_left fate) in
      let tale_is : tale c k past ≡ left ++ (fate_entries k a r.offs fate ++ Join c ∷ []) = h ∙ append_assoc left (fate_entries k a r.offs fate) (Join c ∷ []) in
      (was_accepted home k a past legal left r.offs fate tale_is, fate_reason home k a past legal left r.offs fate tale_is)

  turn_reason : (t : Turn) → Stands c gone past t → HasReason home c past t
  turn_reason (Binding asked) h = tt
  turn_reason (Bound asked group octets) h = tt
  turn_reason (NotBound asked reason octets) h = tt
  turn_reason (Answered octets) h = tt
  turn_reason (Called r) h = deed_reason r r.deed h
  turn_reason (Closed octets fault) h = tt

  all_reasons : (ts : List Turn) → AllByRecursion (Stands c gone past) ts → AllByRecursion (HasReason home c past) ts
  all_reasons [] h = tt
  all_reasons (t ∷ ts) h = (turn_reason t h.0, all_reasons ts h.1)

pub turns_have_reasons : (home : Home) (c : ℕ) (gone : Bool) (past : List Entry) (turns : List Turn) → Legal (whole home past) → StandAll c gone past turns
    → AllByRecursion (HasReason home c past) turns
turns_have_reasons home c gone past turns legal s = all_reasons home c gone past legal turns s.stand

-- ---- in a longer journal

module _ (home : Home) (newer past : List Entry) where
  came_stays : (So : History → Type 0) (e : Entry) → Came home So past e → Came home So (newer ++ past) e
  came_stays So e m = record {
    newer = newer ++ m.newer;
    older = m.older;
    moment = ap (λ l. newer ++ l) m.moment ∙ sym (append_assoc newer m.newer (e ∷ m.older));
    fits = m.fits;
    so = m.so;
  }

  fate_stays : (k : ℕ) (a : Asked) (fate : Fate) → FateHasReason home past k a fate → FateHasReason home (newer ++ past) k a fate
  fate_stays k a Waiting h = tt
  fate_stays k a (Denied slot) h = came_stays Whatever (Deny k slot) h
  fate_stays k a Cancelled h = came_stays (Waited k) (Cancel k) h
  fate_stays k a Orphaned h = came_stays (Waited k) (Orphan k) h
  fate_stays k a LeftWaiting h = came_stays (Waited k) (Leave a.conn) h
  fate_stays k a (Running cookies) h = came_stays Whatever (Take k cookies) h
  fate_stays k a (LeftRunning cookies) h = (came_stays Whatever (Take k cookies) h.0, came_stays (Ran k) (Leave a.conn) h.1)
  fate_stays k a (Ended run) h = (came_stays Whatever (Take k run.cookies) h.0, came_stays Whatever (End k run.results run.said) h.1)
  fate_stays k a (LeftEnded run) h =
      (came_stays Whatever (Take k run.cookies) h.0, came_stays (Ran k) (Leave a.conn) h.1, came_stays Whatever (End k run.results run.said) h.2)

  reason_stays : (c : ℕ) (r : Request) (deed : Deed) → DeedHasReason home c past r deed → DeedHasReason home c (newer ++ past) r deed
  reason_stays c r Pending h = tt
  reason_stays c r (Refused status) h = tt
  reason_stays c r (Accepted k slots fate) h = (came_stays Whatever (Accept k (asked_as c r slots)) h.0, fate_stays k (asked_as c r slots) fate h.1)

  turn_keeps : (c : ℕ) (t : Turn) → HasReason home c past t → HasReason home c (newer ++ past) t
  turn_keeps c (Binding asked) h = tt
  turn_keeps c (Bound asked group octets) h = tt
  turn_keeps c (NotBound asked reason octets) h = tt
  turn_keeps c (Answered octets) h = tt
  turn_keeps c (Called r) h = reason_stays c r r.deed h
  turn_keeps c (Closed octets fault) h = tt

pub reasons_stay : (home : Home) (c : ℕ) (newer past : List Entry) (turns : List Turn) → AllByRecursion (HasReason home c past) turns
    → AllByRecursion (HasReason home c (newer ++ past)) turns
reasons_stay home c newer past [] h = tt
reasons_stay home c newer past (t ∷ ts) h = (turn_keeps home newer past c t h.0, reasons_stay home c newer past ts h.1)
