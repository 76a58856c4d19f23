-- A connection's entries go on with its turns.
use Rattle.std.proofs.Common.{subst, ◌≡◌, ◌==◌, ℕ, Bool, true, false, ◌||◌, not, Option, None, List, [], ◌∷◌, ◌++◌, filter, refl, sym, ap, ◌∙◌}
use Rattle.std.specs.List.{list_any, cons_option, AllByRecursion}
use Rattle.handle_model.specs.declared.entry.Home.{Home}
use Rattle.handle_model.specs.declared.entry.Slot.{Slot}
use Rattle.handle_model.specs.declared.entry.DueItem.{DueItem}
use Rattle.handle_model.specs.declared.entry.Entry.{Entry}
use Rattle.handle_model.specs.declared.entry.Entry.TheVariants.{Join, Accept, Take, Deny, Cancel, Orphan, End, Leave, Shut}
use Rattle.handle_model.specs.Entries.{is_shut}
use Rattle.pdu_stream.specs.declared.joined.Joined.{Joined}
use Rattle.conn_histories.specs.declared.turn.Off.{Off}
use Rattle.conn_histories.specs.declared.turn.Fate.{Fate}
use Rattle.conn_histories.specs.declared.turn.Deed.{Deed}
use Rattle.conn_histories.specs.declared.turn.Request.{Request}
use Rattle.conn_histories.specs.declared.turn.Turn.{Turn}
use Rattle.conn_histories.specs.Stories.{Server}
use Rattle.conn_histories.specs.Tales.{whole}
use Rattle.conn_histories.specs.declared.turn.Fate.TheVariants.{Waiting, Denied, Cancelled, Orphaned, LeftWaiting, Running, LeftRunning, Ended, LeftEnded}
use Rattle.conn_histories.specs.declared.turn.Deed.TheVariants.{Pending, Refused, Accepted}
use Rattle.conn_histories.specs.declared.turn.Turn.TheVariants.{Binding, Bound, NotBound, Answered, Called, Closed}
use Rattle.handle_model.specs.Journal.{due, Legal}
use Rattle.conn_histories.specs.Entries.{asked_as, deed_entries, entries_of, all_entries, has_left, deed_left, turn_left, is_open, deed_open, turn_open, leave_behind, story_entries, number_of, numbers_of, marks, is_like, fate_entries}
use Rattle.conn_histories.specs.Events.{all_events, all_octets}
use Rattle.conn_histories.specs.Stories.{MadeNoneDue, HasOwnShut, DeedIsDue, IsDue, AllDue, Made}
use Rattle.conn_histories.specs.Tales.{of_call, of_conn, Stands, StandAll}
use Rattle.conn_turns.specs.Laws.{AreOfOthers}
use Rattle.conn_turns.specs.Steps.{GoesOn, left_turns, left_fate, OnlyNewestOpen}
use Rattle.conn_turns.proofs.TaleFacts.{same_number, any_first, any_rest}
use Rattle.conn_turns.proofs.Going.{turns_go_on, turns_are_left}
use Rattle.conn_turns.proofs.Keeping.{dues_stay, stories_stay}
use Rattle.conn_turns.proofs.Staying.{turns_stay}

-- ---- Shuts

-- none of it is a Shut, and none is due at the connection's newest entry
pub unshut_own : (home : Home) (c : ℕ) (calls : List ℕ) (past own : List Entry) → list_any is_shut own ≡ false → MadeNoneDue home c calls past → HasOwnShut home c calls past own
unshut_own home c calls past [] h none = (h, none)
unshut_own home c calls past (Join d ∷ own) h none = (h, none)
unshut_own home c calls past (Accept m a ∷ own) h none = (h, none)
unshut_own home c calls past (Take m cookies ∷ own) h none = (h, none)
unshut_own home c calls past (Deny m slot ∷ own) h none = (h, none)
unshut_own home c calls past (Cancel m ∷ own) h none = (h, none)
unshut_own home c calls past (Orphan m ∷ own) h none = (h, none)
unshut_own home c calls past (End m results said ∷ own) h none = (h, none)
unshut_own home c calls past (Leave d ∷ own) h none = (h, none)
unshut_own home c calls past (Shut items ∷ own) h none = absurd cc

-- where more may come, there is no Shut among them
pub own_unshut : (home : Home) (c : ℕ) (calls : List ℕ) (past own : List Entry) → HasOwnShut home c calls past own → list_any is_shut past ≡ false → list_any is_shut own ≡ false
own_unshut home c calls past [] h none = h.0
own_unshut home c calls past (Shut items ∷ []) h none = h.0
own_unshut home c calls past (Shut items ∷ e ∷ own) h none = let shut : list_any is_shut past ≡ true = ap (list_any is_shut) h.1.1 in absurd (cc (shut, none))
own_unshut home c calls past (Join d ∷ own) h none = h.0
own_unshut home c calls past (Accept m a ∷ own) h none = h.0
own_unshut home c calls past (Take m cookies ∷ own) h none = h.0
own_unshut home c calls past (Deny m slot ∷ own) h none = h.0
own_unshut home c calls past (Cancel m ∷ own) h none = h.0
own_unshut home c calls past (Orphan m ∷ own) h none = h.0
own_unshut home c calls past (End m results said ∷ own) h none = h.0
own_unshut home c calls past (Leave d ∷ own) h none = h.0

keep_one : (e : Entry) (own : List Entry) → is_shut e ≡ false → filter (λ x. not (is_shut x)) (e ∷ own) ≡ e ∷ filter (λ x. not (is_shut x)) own
keep_one e own h = rw h refl

neither : (x y : Bool) → x ≡ false → y ≡ false → (x || y) ≡ false
neither x y h i = rw (h, i) refl

call_no_conn : (c k : ℕ) (e : Entry) → of_call k e ≡ true → of_conn c e ≡ false
call_no_conn c k (Join d) h = absurd cc
call_no_conn c k (Accept m a) h = refl
call_no_conn c k (Take m cookies) h = refl
call_no_conn c k (Deny m slot) h = refl
call_no_conn c k (Cancel m) h = refl
call_no_conn c k (Orphan m) h = refl
call_no_conn c k (End m results said) h = refl
call_no_conn c k (Leave d) h = absurd cc
call_no_conn c k (Shut items) h = absurd cc

call_no_shut : (k : ℕ) (e : Entry) → of_call k e ≡ true → is_shut e ≡ false
call_no_shut k (Join d) h = absurd cc
call_no_shut k (Accept m a) h = refl
call_no_shut k (Take m cookies) h = refl
call_no_shut k (Deny m slot) h = refl
call_no_shut k (Cancel m) h = refl
call_no_shut k (Orphan m) h = refl
call_no_shut k (End m results said) h = refl
call_no_shut k (Leave d) h = absurd cc
call_no_shut k (Shut items) h = absurd cc

passed : (c : ℕ) (e : Entry) (past : List Entry) → of_conn c e ≡ false → filter (of_conn c) (e ∷ past) ≡ filter (of_conn c) past
passed c e past h = rw h refl

-- ---- a turn without entries

pub record IsPlain (c : ℕ) (t : Turn) : Type 0 where
  pub entries : entries_of c t ≡ []
  pub number : number_of t ≡ None
  pub open_ : turn_open t ≡ false
  pub left : turn_left t ≡ false
  pub stands : (gone : Bool) (past : List Entry) → Stands c gone past t

abbrev pub called : Joined → ℕ → List Off → Deed → Option (List ℕ) → Turn
called j iface offs deed answer = Called (record { joined = j; iface = iface; offs = offs; deed = deed; answer = answer })

pub plain_pending : (c : ℕ) (j : Joined) (iface : ℕ) → IsPlain c (called j iface [] Pending None)
plain_pending c j iface = record { entries = refl; number = refl; open_ = refl; left = refl; stands = λ gone past. tt }

pub all_stand_more : (c : ℕ) (gone : Bool) (past : List Entry) (t : Turn) (turns : List Turn) → IsPlain c t → StandAll c gone past turns → StandAll c gone past (t ∷ turns)
all_stand_more c gone past t turns p s = record {
  calls = s.calls ∙ sym (λ i. cons_option (p.number i) (numbers_of turns));
  stand = (p.stands gone past, s.stand);
  none_open = λ is. neither (turn_open t) (list_any turn_open turns) p.open_ (s.none_open is);
  none_left = λ is. neither (turn_left t) (list_any turn_left turns) p.left (s.none_left is);
}

-- what is made, but for whose Shut it is
pub record Entered (server : Server) (home : Home) (c : ℕ) (past : List Entry) (gone : Bool) (turns : List Turn) (own : List Entry) : Type 0 where
  pub entries : filter (λ e. not (is_shut e)) own ≡ story_entries c gone turns
  pub due : AllDue server home c past turns
  pub stand : StandAll c gone past turns
  pub conns : filter (of_conn c) past ≡ leave_behind c gone false ++ Join c ∷ []

pub made_so : (server : Server) (home : Home) (c : ℕ) (past : List Entry) (gone : Bool) (turns : List Turn) (own : List Entry) → HasOwnShut home c (numbers_of turns) past own → Entered server home c past gone turns own
    → Made server home c past gone turns own
made_so server home c past gone turns own shut m = record { entries = m.entries; shut = shut; due = m.due; stand = m.stand; conns = m.conns }

module _ (server : Server) (home : Home) (c : ℕ) where
  pub made_plain : (past : List Entry) (gone : Bool) (t : Turn) (turns : List Turn) (own : List Entry) → IsPlain c t → IsDue server home c past turns t → Made server home c past gone turns own
      → Made server home c past gone (t ∷ turns) own
  made_plain past gone t turns own p due m = record {
    entries = m.entries ∙ sym (λ i. leave_behind c gone (p.left i || list_any turn_left turns) ++ (p.entries i ++ all_entries c turns));
    shut = subst (λ (ks : List ℕ). HasOwnShut home c ks past own) (sym (λ i. cons_option (p.number i) (numbers_of turns))) m.shut;
    due = (due, m.due);
    stand = all_stand_more c gone past t turns p m.stand;
    conns = m.conns;
  }

  -- ---- an answer

  pub made_answered : (past : List Entry) (gone : Bool) (j : Joined) (iface : ℕ) (offs : List Off) (deed : Deed) (before after : Option (List ℕ)) (ts : List Turn) (own : List Entry)
      → Made server home c past gone (called j iface offs deed before ∷ ts) own → Made server home c past gone (called j iface offs deed after ∷ ts) own
  made_answered past gone j iface offs Pending before after ts own m = record {
    entries = m.entries;
    shut = m.shut;
    due = m.due;
    stand = record { calls = m.stand.calls; stand = m.stand.stand; none_open = m.stand.none_open; none_left = m.stand.none_left };
    conns = m.conns;
  }
  made_answered past gone j iface offs (Refused status) before after ts own m = record {
    entries = m.entries;
    shut = m.shut;
    due = m.due;
    stand = record { calls = m.stand.calls; stand = m.stand.stand; none_open = m.stand.none_open; none_left = m.stand.none_left };
    conns = m.conns;
  }
  made_answered past gone j iface offs (Accepted k slots fate) before after ts own m = record {
    entries = m.entries;
    shut = m.shut;
    due = m.due;
    stand = record { calls = m.stand.calls; stand = m.stand.stand; none_open = m.stand.none_open; none_left = m.stand.none_left };
    conns = m.conns;
  }

  -- ---- an entry of a call

  told_by : (gone : Bool) (e : Entry) (past : List Entry) (k : ℕ) (r s : Request) (ts : List Turn) → GoesOn c k e past r s → (gone ≡ true → deed_left s.deed ≡ true)
      → story_entries c gone (Called s ∷ ts) ≡ e ∷ story_entries c gone (Called r ∷ ts)
  told_by false e past k r s ts g left = ap (λ l. l ++ all_entries c ts) g.entries
  told_by true e past k r s ts g left =
      let after : deed_left s.deed ≡ true = left refl in
      let before : deed_left r.deed ≡ true = sym g.left_same ∙ after in
      let first : story_entries c true (Called s ∷ ts) ≡ deed_entries c s s.deed ++ all_entries c ts =
      (λ i. leave_behind c true (after i || list_any turn_left ts) ++ (deed_entries c s s.deed ++ all_entries c ts)) in
      let then_ : story_entries c true (Called r ∷ ts) ≡ deed_entries c r r.deed ++ all_entries c ts =
      (λ i. leave_behind c true (before i || list_any turn_left ts) ++ (deed_entries c r r.deed ++ all_entries c ts)) in
      first ∙ (ap (λ l. l ++ all_entries c ts) g.entries ∙ ap (λ l. e ∷ l) (sym then_))

  pub entered_more : (past : List Entry) (gone : Bool) (k : ℕ) (e : Entry) (r s : Request) (ts : List Turn) (own : List Entry) → list_any is_shut past ≡ false → GoesOn c k e past r s
      → (gone ≡ true → deed_left s.deed ≡ true) → AllByRecursion (λ m. (k == m) ≡ false) (numbers_of ts) → DeedIsDue server home c (e ∷ past) ts s s.deed
      → Made server home c past gone (Called r ∷ ts) own → Entered server home c (e ∷ past) gone (Called s ∷ ts) (e ∷ own)
  entered_more past gone k e r s ts own none g left apart due m = record {
    entries = keep_one e own (call_no_shut k e g.of_it) ∙ (ap (λ l. e ∷ l) m.entries ∙ sym (told_by gone e past k r s ts g left));
    due = (due, dues_stay server home c (e ∷ []) past ts m.due.1);
    stand = turns_go_on c k gone e past r s ts g left apart m.stand;
    conns = passed c e past (call_no_conn c k e g.of_it) ∙ m.conns;
  }

  -- none of the connection's is a Shut, with one more that is none
  pub unshut_more : (past : List Entry) (gone : Bool) (turns : List Turn) (e : Entry) (own : List Entry) → is_shut e ≡ false → list_any is_shut past ≡ false → Made server home c past gone turns own → list_any is_shut (e ∷ own) ≡ false
  unshut_more past gone turns e own plain none m = neither (is_shut e) (list_any is_shut own) plain (own_unshut home c (numbers_of turns) past own m.shut none)

  pub made_entered : (past : List Entry) (gone : Bool) (k : ℕ) (e : Entry) (r s : Request) (ts : List Turn) (own : List Entry) → list_any is_shut past ≡ false → GoesOn c k e past r s
      → (gone ≡ true → deed_left s.deed ≡ true) → AllByRecursion (λ m. (k == m) ≡ false) (numbers_of ts) → DeedIsDue server home c (e ∷ past) ts s s.deed
      → MadeNoneDue home c (numbers_of (Called s ∷ ts)) (e ∷ past)
      → Made server home c past gone (Called r ∷ ts) own → Made server home c (e ∷ past) gone (Called s ∷ ts) (e ∷ own)
  made_entered past gone k e r s ts own none g left apart due stays m =
      made_so server home c (e ∷ past) gone (Called s ∷ ts) (e ∷ own)
      (unshut_own home c (numbers_of (Called s ∷ ts)) (e ∷ past) (e ∷ own) (unshut_more past gone (Called r ∷ ts) e own (call_no_shut k e g.of_it) none m) stays)
      (entered_more past gone k e r s ts own none g left apart due m)

  -- ---- what calls off a running call again

  pub made_again : (past : List Entry) (gone : Bool) (j : Joined) (iface : ℕ) (o : Off) (offs : List Off) (k : ℕ) (slots : List Slot) (cookies : List (Option ℕ)) (ts : List Turn) (own : List Entry)
      → list_any (is_like o) offs ≡ true → Made server home c past gone (called j iface offs (Accepted k slots (Running cookies)) None ∷ ts) own
      → Made server home c past gone (called j iface (o ∷ offs) (Accepted k slots (Running cookies)) None ∷ ts) own
  made_again past gone j iface o offs k slots cookies ts own like m =
      let same : marks k offs ≡ marks k (o ∷ offs) = rw like refl in
      let a = asked_as c (record { joined = j; iface = iface; offs = offs; deed = Accepted k slots (Running cookies); answer = None }) slots in
      record {
        entries = m.entries ∙ (λ i. leave_behind c gone (list_any turn_left ts) ++ ((same i ++ Take k cookies ∷ Accept k a ∷ []) ++ all_entries c ts));
        shut = m.shut;
        due = m.due;
        stand = record {
          calls = m.stand.calls;
          stand = (m.stand.stand.0 ∙ (λ i. leave_behind c gone false ++ (same i ++ Take k cookies ∷ Accept k a ∷ []) ++ Join c ∷ []), m.stand.stand.1);
          none_open = m.stand.none_open;
          none_left = m.stand.none_left;
        };
        conns = m.conns;
      }

  -- ---- the connection leaves

  left_told : (turns : List Turn) → list_any turn_left turns ≡ false → story_entries c true (left_turns turns) ≡ Leave c ∷ story_entries c false turns
  left_told [] h = refl
  left_told (Binding asked ∷ ts) h = rw h refl
  left_told (Bound asked group octets ∷ ts) h = rw h refl
  left_told (NotBound asked reason octets ∷ ts) h = rw h refl
  left_told (Answered octets ∷ ts) h = rw h refl
  left_told (Closed octets fault ∷ ts) h = rw h refl
  left_told (Called r ∷ ts) h = by_deed r.deed (any_first (deed_left r.deed) (list_any turn_left ts) h) (any_rest (deed_left r.deed) (list_any turn_left ts) h)
    where
      by_fate : (k : ℕ) (slots : List Slot) (fate : Fate) → has_left fate ≡ false → list_any turn_left ts ≡ false
          → leave_behind c true (has_left (left_fate fate) || list_any turn_left ts) ++ (fate_entries k (asked_as c r slots) r.offs (left_fate fate) ++ all_entries c ts)
          ≡ Leave c ∷ (fate_entries k (asked_as c r slots) r.offs fate ++ all_entries c ts)
      by_fate k slots Waiting l h = refl
      by_fate k slots (Running cookies) l h = refl
      by_fate k slots (Denied slot) l h = rw h refl
      by_fate k slots Cancelled l h = rw h refl
      by_fate k slots Orphaned l h = rw h refl
      by_fate k slots (Ended run) l h = rw h refl
      by_fate k slots LeftWaiting l h = absurd cc
      by_fate k slots (LeftRunning cookies) l h = absurd cc
      by_fate k slots (LeftEnded run) l h = absurd cc

      by_deed : (deed : Deed) → deed_left deed ≡ false → list_any turn_left ts ≡ false → story_entries c true (left_turns (Called (record r { deed = deed }) ∷ ts)) ≡ Leave c ∷ story_entries c false (Called (record r { deed = deed }) ∷ ts)
      by_deed Pending l h = rw h refl
      by_deed (Refused status) l h = rw h refl
      by_deed (Accepted k slots fate) l h = by_fate k slots fate l h

  -- the newest call may be left, where it isn't marked
  abbrev pub MayLeave : List Turn → Type 0
  MayLeave [] = Unit {0}
  MayLeave (Called r ∷ ts) = deed_open r.deed ≡ true → r.joined.cancel ≡ false
  MayLeave (t ∷ ts) = Unit {0}

  module _ (past : List Entry) where
    fate_due : (ts : List Turn) (r : Request) (k : ℕ) (slots : List Slot) (fate : Fate) → (is_open fate ≡ true → r.joined.cancel ≡ false) → DeedIsDue server home c past ts r (Accepted k slots fate)
        → DeedIsDue server home c past ts (record r { deed = Accepted k slots (left_fate fate) }) (Accepted k slots (left_fate fate))
    fate_due ts r k slots Waiting may h = (h.0, (may refl, h.1), tt)
    fate_due ts r k slots (Running cookies) may h = (h.0, may refl, tt)
    fate_due ts r k slots (Denied slot) may h = h
    fate_due ts r k slots Cancelled may h = h
    fate_due ts r k slots Orphaned may h = h
    fate_due ts r k slots (Ended run) may h = h
    fate_due ts r k slots LeftWaiting may h = h
    fate_due ts r k slots (LeftRunning cookies) may h = h
    fate_due ts r k slots (LeftEnded run) may h = h

    left_due : (turns : List Turn) → MayLeave turns → AllDue server home c past turns → AllDue server home c past (left_turns turns)
    left_due [] may h = h
    left_due (Binding asked ∷ ts) may h = h
    left_due (Bound asked group octets ∷ ts) may h = h
    left_due (NotBound asked reason octets ∷ ts) may h = h
    left_due (Answered octets ∷ ts) may h = h
    left_due (Closed octets fault ∷ ts) may h = h
    left_due (Called r ∷ ts) may h = by_deed r.deed may h
      where
        by_deed : (deed : Deed) → (deed_open deed ≡ true → r.joined.cancel ≡ false) → AllDue server home c past (Called (record r { deed = deed }) ∷ ts)
            → AllDue server home c past (left_turns (Called (record r { deed = deed }) ∷ ts))
        by_deed Pending may h = h
        by_deed (Refused status) may h = h
        by_deed (Accepted k slots fate) may h = (fate_due ts r k slots fate may h.0, h.1)

  leave_kept : (past : List Entry) → filter (of_conn c) (Leave c ∷ past) ≡ Leave c ∷ filter (of_conn c) past
  leave_kept past = rw (same_number c) refl

  pub entered_left : (past : List Entry) (turns : List Turn) (own : List Entry) → OnlyNewestOpen turns → MayLeave turns → Made server home c past false turns own
      → Entered server home c (Leave c ∷ past) true (left_turns turns) (Leave c ∷ own)
  entered_left past turns own newest may m = record {
    entries = ap (λ l. Leave c ∷ l) m.entries ∙ sym (left_told turns (m.stand.none_left refl));
    due = dues_stay server home c (Leave c ∷ []) past (left_turns turns) (left_due past turns may m.due);
    stand = turns_are_left c past turns newest m.stand;
    conns = leave_kept past ∙ ap (λ l. Leave c ∷ l) m.conns;
  }

  pub made_left : (past : List Entry) (turns : List Turn) (own : List Entry) → list_any is_shut past ≡ false → OnlyNewestOpen turns → MayLeave turns → due (whole home (Leave c ∷ past)) ≡ false
      → Made server home c past false turns own → Made server home c (Leave c ∷ past) true (left_turns turns) (Leave c ∷ own)
  made_left past turns own none newest may stays m =
      made_so server home c (Leave c ∷ past) true (left_turns turns) (Leave c ∷ own)
      (unshut_own home c (numbers_of (left_turns turns)) (Leave c ∷ past) (Leave c ∷ own) (unshut_more past false turns (Leave c) own refl none m) (λ x. stays))
      (entered_left past turns own newest may m)

  -- ---- others, and a Shut

  pub made_stays : (newer past : List Entry) (gone : Bool) (turns : List Turn) (own : List Entry) → Legal (whole home (newer ++ past)) → AreOfOthers c turns newer → Made server home c past gone turns own
      → Made server home c (newer ++ past) gone turns own
  made_stays newer past gone turns own legal others m =
      (stories_stay server home c gone newer past turns own (all_events turns) (all_octets turns) legal others (record { made = m; events = refl; octets = refl })).made

  none_called : (items : List DueItem) (ks : List ℕ) → AllByRecursion (λ k. list_any (of_call k) (Shut items ∷ []) ≡ false) ks
  none_called items [] = tt
  none_called items (k ∷ ks) = (refl, none_called items ks)

  pub made_shut : (e : Entry) (items : List DueItem) (past : List Entry) (gone : Bool) (turns : List Turn) (own : List Entry) → list_any is_shut (e ∷ own) ≡ false
      → Entered server home c (e ∷ past) gone turns (e ∷ own) → Made server home c (Shut items ∷ e ∷ past) gone turns (Shut items ∷ e ∷ own)
  made_shut e items past gone turns own none m = record {
    entries = m.entries;
    shut = (none, (past, refl));
    due = dues_stay server home c (Shut items ∷ []) (e ∷ past) turns m.due;
    stand = turns_stay c gone (Shut items ∷ []) (e ∷ past) turns (record { no_conn = refl; no_call = refl; none_of = none_called items (numbers_of turns) }) m.stand;
    conns = m.conns;
  }
