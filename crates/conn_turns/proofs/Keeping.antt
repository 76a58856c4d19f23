-- A connection's story stays in a longer journal.
use Rattle.std.proofs.Common.{◌≡◌, ℕ, ◌==◌, Bool, true, false, List, [], ◌∷◌, ◌++◌, filter, refl, sym, ap, ◌∙◌, subst, append_assoc}
use Rattle.std.specs.List.{list_any, AllByRecursion}
use Rattle.std.proofs.lemmas.List.Elements.{filter-append}
use Rattle.rpc_base.specs.declared.identifiers.Status.{Status}
use Rattle.rpc_base.specs.declared.identifiers.Order.{Order}
use Rattle.handle_model.specs.declared.entry.Home.{Home}
use Rattle.handle_model.specs.declared.entry.Slot.{Slot}
use Rattle.handle_model.specs.declared.entry.DueItem.{DueItem}
use Rattle.handle_model.specs.declared.entry.Entry.{Entry}
use Rattle.handle_model.specs.declared.entry.Entry.TheVariants.{Join, Accept, Take, Deny, Cancel, Orphan, End, Leave, Shut}
use Rattle.handle_model.specs.Bases.{empty_base}
use Rattle.handle_model.specs.Journal.{is_shut, due, Legal, LegalSince}
use Rattle.ndr_table.specs.Tables.{TableForm}
use Rattle.conn_histories.specs.Histories.{Event}
use Rattle.conn_histories.specs.Requests.{IsRefused}
use Rattle.conn_histories.specs.Requests.IsRefused.{no_operation, no_stub, no_room, full}
use Rattle.conn_histories.specs.declared.turn.Deed.{Deed}
use Rattle.conn_histories.specs.declared.turn.Deed.TheVariants.{Pending, Refused, Accepted}
use Rattle.conn_histories.specs.declared.turn.Request.{Request}
use Rattle.conn_histories.specs.declared.turn.Fate.{Fate}
use Rattle.conn_histories.specs.declared.turn.Fate.TheVariants.{Waiting, Denied, Cancelled, Orphaned, LeftWaiting, Running, LeftRunning, Ended, LeftEnded}
use Rattle.conn_histories.specs.declared.turn.Turn.{Turn}
use Rattle.conn_histories.specs.declared.turn.Turn.TheVariants.{Binding, Bound, NotBound, Answered, Called, Closed}
use Rattle.conn_histories.specs.Entries.{leave_behind, numbers_of}
use Rattle.conn_histories.specs.Tales.{whole, of_call, of_conn}
use Rattle.conn_histories.specs.Stories.{Server, may_shut, MadeNoneDue, HasOwnShut, WasFull, FateIsDue, DeedIsDue, IsDue, AllDue, Made, Finished, Story}
use Rattle.conn_turns.specs.Laws.{AreOfOthers}
use Rattle.conn_turns.proofs.MarkFacts.{any_there}
use Rattle.conn_turns.proofs.Moments.{legal_at}
use Rattle.conn_turns.proofs.Staying.{filter_none, turns_stay}
use Rattle.conn_turns.proofs.TaleFacts.{any_first, any_rest}

-- a request that is refused where this holds is refused where that follows from it
refused_more : (tables : List TableForm) (iface op : ℕ) (order : Order) (stub : List ℕ) (Full Fuller : List Slot → Type 0) (status : Status) → ((slots : List Slot) → Full slots → Fuller slots)
    → IsRefused tables iface op order stub Full status → IsRefused tables iface op order stub Fuller status
refused_more tables iface op order stub Full Fuller status more (no_operation a b) = no_operation a b
refused_more tables iface op order stub Full Fuller status more (no_stub o d a b e) = no_stub o d a b e
refused_more tables iface op order stub Full Fuller status more (no_room o a b) = no_room o a b
refused_more tables iface op order stub Full Fuller status more (full slots a b e) = full slots a (more slots b) e

-- where nothing comes after a Shut
shut_last : (home : Home) (newer older : List Entry) (e : Entry) → is_shut e ≡ true → Legal (whole home (newer ++ e ∷ older)) → newer ≡ []
shut_last home [] older e shuts legal = refl
shut_last home (x ∷ newer) older e shuts legal =
    let none = legal.0.before_shut in let there : list_any is_shut (newer ++ e ∷ older) ≡ true = any_there is_shut newer e older shuts in absurd cc

-- ---- whose entry made a Shut due

ends_none : (k : ℕ) (calls : List ℕ) → AllByRecursion (λ n. (k == n) ≡ false) calls → list_any (λ n. k == n) calls ≡ false
ends_none k [] apart = refl
ends_none k (n ∷ calls) apart = let one = apart.0 in let more = ends_none k calls apart.1 in rw (one, more) refl

others_shut : (c : ℕ) (calls : List ℕ) (e : Entry) → of_conn c e ≡ false → AllByRecursion (λ k. of_call k e ≡ false) calls → may_shut c calls e ≡ false
others_shut c calls (Leave d) conn apart = conn
others_shut c calls (End k results said) conn apart = ends_none k calls apart
others_shut c calls (Join d) conn apart = refl
others_shut c calls (Accept k a) conn apart = refl
others_shut c calls (Take k cookies) conn apart = refl
others_shut c calls (Deny k slot) conn apart = refl
others_shut c calls (Cancel k) conn apart = refl
others_shut c calls (Orphan k) conn apart = refl
others_shut c calls (Shut items) conn apart = refl

first_apart : (e : Entry) (es : List Entry) (calls : List ℕ) → AllByRecursion (λ k. list_any (of_call k) (e ∷ es) ≡ false) calls → AllByRecursion (λ k. of_call k e ≡ false) calls
first_apart e es [] h = tt
first_apart e es (k ∷ calls) h = (any_first (of_call k e) (list_any (of_call k) es) h.0, first_apart e es calls h.1)

rest_apart : (e : Entry) (es : List Entry) (calls : List ℕ) → AllByRecursion (λ k. list_any (of_call k) (e ∷ es) ≡ false) calls → AllByRecursion (λ k. list_any (of_call k) es ≡ false) calls
rest_apart e es [] h = tt
rest_apart e es (k ∷ calls) h = (any_rest (of_call k e) (list_any (of_call k) es) h.0, rest_apart e es calls h.1)

-- the newest entry is another's
newest_other : (home : Home) (c : ℕ) (calls : List ℕ) (e : Entry) (past : List Entry) → is_shut e ≡ false → may_shut c calls e ≡ false → MadeNoneDue home c calls (e ∷ past)
newest_other home c calls (Join d) past plain h = λ x. absurd cc
newest_other home c calls (Accept k a) past plain h = λ x. absurd cc
newest_other home c calls (Take k cookies) past plain h = λ x. absurd cc
newest_other home c calls (Deny k slot) past plain h = λ x. absurd cc
newest_other home c calls (Cancel k) past plain h = λ x. absurd cc
newest_other home c calls (Orphan k) past plain h = λ x. absurd cc
newest_other home c calls (End k results said) past plain h = λ x. absurd (cc (x, h))
newest_other home c calls (Leave d) past plain h = λ x. absurd (cc (x, h))
newest_other home c calls (Shut items) past plain h = absurd cc

-- a Shut came that was due
shut_behind : (home : Home) (c : ℕ) (calls : List ℕ) (items : List DueItem) (past : List Entry) → due (whole home past) ≡ true → MadeNoneDue home c calls past → MadeNoneDue home c calls (Shut items ∷ past)
shut_behind home c calls items [] d h = tt
shut_behind home c calls items (Leave e ∷ past) d h = by_test (may_shut c calls (Leave e)) h
  where
    by_test : (b : Bool) → (b ≡ true → due (whole home (Leave e ∷ past)) ≡ false) → b ≡ false
    by_test true f = let x = f refl in absurd (cc (x, d))
    by_test false f = refl
shut_behind home c calls items (End k results said ∷ past) d h = by_test (may_shut c calls (End k results said)) h
  where
    by_test : (b : Bool) → (b ≡ true → due (whole home (End k results said ∷ past)) ≡ false) → b ≡ false
    by_test true f = let x = f refl in absurd (cc (x, d))
    by_test false f = refl
shut_behind home c calls items (Join e ∷ past) d h = refl
shut_behind home c calls items (Accept k a ∷ past) d h = refl
shut_behind home c calls items (Take k cookies ∷ past) d h = refl
shut_behind home c calls items (Deny k slot ∷ past) d h = refl
shut_behind home c calls items (Cancel k ∷ past) d h = refl
shut_behind home c calls items (Orphan k ∷ past) d h = refl
shut_behind home c calls items (Shut items' ∷ past) d h = refl

shut_was_due : (home : Home) (items : List DueItem) (past : List Entry) → Legal (whole home (Shut items ∷ past)) → due (whole home past) ≡ true
shut_was_due home items past legal = legal.0.fits.0

-- where others entered what is newer, the connection made none due then either
none_due : (home : Home) (c : ℕ) (calls : List ℕ) (newer past : List Entry) → Legal (whole home (newer ++ past)) → list_any (of_conn c) newer ≡ false
    → AllByRecursion (λ k. list_any (of_call k) newer ≡ false) calls → MadeNoneDue home c calls past → MadeNoneDue home c calls (newer ++ past)
none_due home c calls [] past legal conns apart h = h
none_due home c calls (e ∷ newer) past legal conns apart h =
    by_kind e legal (none_due home c calls newer past legal.1 (any_rest (of_conn c e) (list_any (of_conn c) newer) conns) (rest_apart e newer calls apart) h)
    (others_shut c calls e (any_first (of_conn c e) (list_any (of_conn c) newer) conns) (first_apart e newer calls apart))
  where
    by_kind : (x : Entry) → Legal (whole home (x ∷ (newer ++ past))) → MadeNoneDue home c calls (newer ++ past) → may_shut c calls x ≡ false → MadeNoneDue home c calls (x ∷ (newer ++ past))
    by_kind (Shut items) l r o = shut_behind home c calls items (newer ++ past) (shut_was_due home items (newer ++ past) l) r
    by_kind (Join d) l r o = newest_other home c calls (Join d) (newer ++ past) refl o
    by_kind (Accept k a) l r o = newest_other home c calls (Accept k a) (newer ++ past) refl o
    by_kind (Take k cookies) l r o = newest_other home c calls (Take k cookies) (newer ++ past) refl o
    by_kind (Deny k slot) l r o = newest_other home c calls (Deny k slot) (newer ++ past) refl o
    by_kind (Cancel k) l r o = newest_other home c calls (Cancel k) (newer ++ past) refl o
    by_kind (Orphan k) l r o = newest_other home c calls (Orphan k) (newer ++ past) refl o
    by_kind (End k results said) l r o = newest_other home c calls (End k results said) (newer ++ past) refl o
    by_kind (Leave d) l r o = newest_other home c calls (Leave d) (newer ++ past) refl o

module _ (server : Server) (home : Home) (c : ℕ) (newer past : List Entry) where
  full_stays : (turns : List Turn) (slots : List Slot) → WasFull server home c past turns slots → WasFull server home c (newer ++ past) turns slots
  full_stays turns slots f = record {
    newer = newer ++ f.newer;
    older = f.older;
    moment = ap (λ l. newer ++ l) f.moment ∙ sym (append_assoc newer f.newer f.older);
    before = f.before;
    there = f.there;
    limited = f.limited;
  }

  deed_due : (turns : List Turn) (r : Request) (deed : Deed) → DeedIsDue server home c past turns r deed → DeedIsDue server home c (newer ++ past) turns r deed
  deed_due turns r Pending h = h
  deed_due turns r (Refused status) h =
      (h.0, refused_more server.tables r.iface r.joined.op r.joined.order r.joined.stub (WasFull server home c past turns) (WasFull server home c (newer ++ past) turns) status (full_stays turns) h.1)
  deed_due turns r (Accepted k slots fate) h = h

  turn_due : (turns : List Turn) (t : Turn) → IsDue server home c past turns t → IsDue server home c (newer ++ past) turns t
  turn_due turns (Binding asked) h = tt
  turn_due turns (Bound asked group octets) h = h
  turn_due turns (NotBound asked reason octets) h = h
  turn_due turns (Answered octets) h = tt
  turn_due turns (Called r) h = deed_due turns r r.deed h
  turn_due turns (Closed octets fault) h = tt

  all_due : (ts : List Turn) → AllDue server home c past ts → AllDue server home c (newer ++ past) ts
  all_due [] h = tt
  all_due (t ∷ ts) h = (turn_due ts t h.0, all_due ts h.1)

  module _ (legal : Legal (whole home (newer ++ past))) where
    shut_stays : (calls : List ℕ) (own : List Entry) → list_any (of_conn c) newer ≡ false → AllByRecursion (λ k. list_any (of_call k) newer ≡ false) calls
        → HasOwnShut home c calls past own → HasOwnShut home c calls (newer ++ past) own
    shut_stays calls (Shut items ∷ e ∷ own) conns apart h =
        let none : newer ≡ [] = shut_last home newer (e ∷ h.1.0) (Shut items) refl (subst (λ l. Legal (whole home (newer ++ l))) h.1.1 legal) in
        (h.0, (h.1.0, ap (λ l. l ++ past) none ∙ h.1.1))
    shut_stays calls (Shut items ∷ []) conns apart h = (h.0, none_due home c calls newer past legal conns apart h.1)
    shut_stays calls [] conns apart h = (h.0, none_due home c calls newer past legal conns apart h.1)
    shut_stays calls (Join d ∷ own) conns apart h = (h.0, none_due home c calls newer past legal conns apart h.1)
    shut_stays calls (Accept k a ∷ own) conns apart h = (h.0, none_due home c calls newer past legal conns apart h.1)
    shut_stays calls (Take k cookies ∷ own) conns apart h = (h.0, none_due home c calls newer past legal conns apart h.1)
    shut_stays calls (Deny k slot ∷ own) conns apart h = (h.0, none_due home c calls newer past legal conns apart h.1)
    shut_stays calls (Cancel k ∷ own) conns apart h = (h.0, none_due home c calls newer past legal conns apart h.1)
    shut_stays calls (Orphan k ∷ own) conns apart h = (h.0, none_due home c calls newer past legal conns apart h.1)
    shut_stays calls (End k results said ∷ own) conns apart h = (h.0, none_due home c calls newer past legal conns apart h.1)
    shut_stays calls (Leave d ∷ own) conns apart h = (h.0, none_due home c calls newer past legal conns apart h.1)

    made_stays : (gone : Bool) (turns : List Turn) (own : List Entry) → AreOfOthers c turns newer → Made server home c past gone turns own → Made server home c (newer ++ past) gone turns own
    made_stays gone turns own others m = record {
      entries = m.entries;
      shut = shut_stays (numbers_of turns) own others.no_conn others.none_of m.shut;
      due = all_due turns m.due;
      stand = turns_stay c gone newer past turns others m.stand;
      conns = filter-append (of_conn c) newer past ∙ (ap (λ l. l ++ filter (of_conn c) past) (filter_none (of_conn c) newer others.no_conn) ∙ m.conns);
    }

pub dues_stay : (server : Server) (home : Home) (c : ℕ) (newer past : List Entry) (turns : List Turn) → AllDue server home c past turns → AllDue server home c (newer ++ past) turns
dues_stay server home c newer past turns h = all_due server home c newer past turns h

pub stories_stay : (server : Server) (home : Home) (c : ℕ) (gone : Bool) (newer past : List Entry) (turns : List Turn) (own : List Entry) (seen : List Event) (put : List ℕ)
    → Legal (whole home (newer ++ past)) → AreOfOthers c turns newer → Story server home c past gone turns own seen put → Story server home c (newer ++ past) gone turns own seen put
stories_stay server home c gone newer past turns own seen put legal others s =
    record { made = made_stays server home c newer past legal gone turns own others s.made; events = s.events; octets = s.octets }

pub finished_stay : (server : Server) (home : Home) (c : ℕ) (newer past : List Entry) (turns : List Turn) (own : List Entry)
    → Legal (whole home (newer ++ past)) → AreOfOthers c turns newer → Finished server home c past turns own → Finished server home c (newer ++ past) turns own
finished_stay server home c newer past turns own legal others f =
    record { made = made_stays server home c newer past legal true turns own others f.made; none_runs = f.none_runs }
