-- Turns go on, entry by entry.
use Rattle.std.proofs.Common.{◌≡◌, ◌==◌, ℕ, Bool, true, false, ◌||◌, ◌⊎◌, inl, inr, if◌then◌else◌, List, [], ◌∷◌, ◌++◌, Some, None, filter, refl, sym, ap, ◌∙◌, subst}
use Rattle.std.specs.List.{list_any, AllByRecursion}
use Rattle.std.specs.List.{cons_option}
use Rattle.handle_model.specs.declared.entry.Asked.{Asked}
use Rattle.handle_model.specs.declared.entry.Slot.{Slot}
use Rattle.handle_model.specs.declared.entry.Entry.{Entry}
use Rattle.handle_model.specs.declared.entry.Entry.TheVariants.{Join, Accept, Take, Deny, Cancel, Orphan, End, Leave, Shut}
use Rattle.conn_histories.specs.declared.turn.Fate.{Fate}
use Rattle.conn_histories.specs.declared.turn.Fate.TheVariants.{Waiting, Denied, Cancelled, Orphaned, LeftWaiting, Running, LeftRunning, Ended, LeftEnded}
use Rattle.conn_histories.specs.declared.turn.Deed.{Deed}
use Rattle.conn_histories.specs.declared.turn.Deed.TheVariants.{Pending, Refused, Accepted}
use Rattle.conn_histories.specs.declared.turn.Request.{Request}
use Rattle.conn_histories.specs.declared.turn.Turn.{Turn}
use Rattle.conn_histories.specs.declared.turn.Turn.TheVariants.{Binding, Bound, NotBound, Answered, Called, Closed}
use Rattle.conn_histories.specs.Entries.{asked_as, fate_entries, deed_entries, has_left, deed_left, turn_left, is_open, deed_open, turn_open, leave_behind, deed_number, number_of, numbers_of}
use Rattle.conn_histories.specs.Tales.{of_call, of_conn, tale, accepted_of, calls_of, DeedStands, Stands, StandAll}
use Rattle.conn_turns.specs.Steps.{IsAccepted, IsFurther, GoesOn, left_fate, left_deed, left_turn, left_turns, OnlyNewestOpen}
use Rattle.conn_turns.proofs.TaleFacts.{any_first, any_rest, same_number, same_if}

-- an entry of a call is none of a connection, and none of another call
call_no_conn : (c k : ℕ) (e : Entry) → of_call k e ≡ true → of_conn c e ≡ false
call_no_conn c k (Join d) h = absurd cc
call_no_conn c k (Leave d) h = absurd cc
call_no_conn c k (Shut items) h = absurd cc
call_no_conn c k (Accept m a) h = refl
call_no_conn c k (Take m cookies) h = refl
call_no_conn c k (Deny m slot) h = refl
call_no_conn c k (Cancel m) h = refl
call_no_conn c k (Orphan m) h = refl
call_no_conn c k (End m results said) h = refl

other_call : (k n : ℕ) (e : Entry) → of_call k e ≡ true → (k == n) ≡ false → of_call n e ≡ false
other_call k n (Join d) h i = absurd cc
other_call k n (Leave d) h i = absurd cc
other_call k n (Shut items) h i = absurd cc
other_call k n (Accept m a) h i = subst (λ (x : ℕ). (x == n) ≡ false) (sym (same_if m k h)) i
other_call k n (Take m cookies) h i = subst (λ (x : ℕ). (x == n) ≡ false) (sym (same_if m k h)) i
other_call k n (Deny m slot) h i = subst (λ (x : ℕ). (x == n) ≡ false) (sym (same_if m k h)) i
other_call k n (Cancel m) h i = subst (λ (x : ℕ). (x == n) ≡ false) (sym (same_if m k h)) i
other_call k n (Orphan m) h i = subst (λ (x : ℕ). (x == n) ≡ false) (sym (same_if m k h)) i
other_call k n (End m results said) h i = subst (λ (x : ℕ). (x == n) ≡ false) (sym (same_if m k h)) i

kept_by : (c n : ℕ) (e : Entry) (past : List Entry) → of_conn c e ≡ false → of_call n e ≡ true → tale c n (e ∷ past) ≡ e ∷ tale c n past
kept_by c n e past h i = rw (h, i) refl

passed_by : (c n : ℕ) (e : Entry) (past : List Entry) → of_conn c e ≡ false → of_call n e ≡ false → tale c n (e ∷ past) ≡ tale c n past
passed_by c n e past h i = rw (h, i) refl

-- ---- an entry of a call

module _ (c k : ℕ) (gone : Bool) (e : Entry) (past : List Entry) (of_it : of_call k e ≡ true) where
  apart : of_conn c e ≡ false
  apart = call_no_conn c k e of_it

  deed_passes : (r : Request) (deed : Deed) (ks : List ℕ) → AllByRecursion (λ m. (k == m) ≡ false) (cons_option (deed_number deed) ks) → DeedStands c gone past r deed
      → DeedStands c gone (e ∷ past) r deed × AllByRecursion (λ m. (k == m) ≡ false) ks
  deed_passes r Pending ks other h = (tt, other)
  deed_passes r (Refused status) ks other h = (tt, other)
  deed_passes r (Accepted n slots fate) ks other h = (passed_by c n e past apart (other_call k n e of_it other.0) ∙ h, other.1)

  turn_passes : (t : Turn) (ks : List ℕ) → AllByRecursion (λ m. (k == m) ≡ false) (cons_option (number_of t) ks) → Stands c gone past t
      → Stands c gone (e ∷ past) t × AllByRecursion (λ m. (k == m) ≡ false) ks
  turn_passes (Binding asked) ks other h = (tt, other)
  turn_passes (Bound asked group octets) ks other h = (tt, other)
  turn_passes (NotBound asked reason octets) ks other h = (tt, other)
  turn_passes (Answered octets) ks other h = (tt, other)
  turn_passes (Called r) ks other h = deed_passes r r.deed ks other h
  turn_passes (Closed octets fault) ks other h = (tt, other)

  all_pass : (ts : List Turn) → AllByRecursion (λ m. (k == m) ≡ false) (numbers_of ts) → AllByRecursion (Stands c gone past) ts → AllByRecursion (Stands c gone (e ∷ past)) ts
  all_pass [] other h = tt
  all_pass (t ∷ ts) other h = let here = turn_passes t (numbers_of ts) other h.0 in (here.0, all_pass ts here.1 h.1)

-- no Leave stands behind a call that is unopened, or that the connection left
no_leave : (c : ℕ) (gone left : Bool) → (gone ≡ true → left ≡ true) → leave_behind c gone left ≡ []
no_leave c false left h = refl
no_leave c true left h = let e = h refl in rw e refl

tale_new : (c k : ℕ) (past : List Entry) → list_any (of_call k) past ≡ false → tale c k past ≡ filter (of_conn c) past
tale_new c k [] h = refl
tale_new c k (x ∷ past) h = by_test (of_conn c x) (of_call k x) (λ r. tale_new c k past r) h
  where
    by_test : (a b : Bool) → (list_any (of_call k) past ≡ false → tale c k past ≡ filter (of_conn c) past) → (b || list_any (of_call k) past) ≡ false
        → (if a || b then x ∷ tale c k past else tale c k past) ≡ (if a then x ∷ filter (of_conn c) past else filter (of_conn c) past)
    by_test a true r h = absurd cc
    by_test true false r h = ap (λ l. x ∷ l) (r h)
    by_test false false r h = r h

no_number : (c : ℕ) (e : Entry) → ((a : Asked) → (m : ℕ) → e ≡ Accept m a → ⊥) → accepted_of c e ≡ None
no_number c (Accept m a) h = absurd (h a m refl)
no_number c (Join d) h = refl
no_number c (Take m cookies) h = refl
no_number c (Deny m slot) h = refl
no_number c (Cancel m) h = refl
no_number c (Orphan m) h = refl
no_number c (End m results said) h = refl
no_number c (Leave d) h = refl
no_number c (Shut items) h = refl

left_not_open : (fate : Fate) → has_left fate ≡ true → is_open fate ≡ false
left_not_open Waiting h = absurd cc
left_not_open (Running cookies) h = absurd cc
left_not_open (Denied slot) h = refl
left_not_open Cancelled h = refl
left_not_open Orphaned h = refl
left_not_open LeftWaiting h = refl
left_not_open (LeftRunning cookies) h = refl
left_not_open (Ended run) h = refl
left_not_open (LeftEnded run) h = refl

deed_not_open : (deed : Deed) → deed_left deed ≡ true → deed_open deed ≡ false
deed_not_open Pending h = refl
deed_not_open (Refused status) h = refl
deed_not_open (Accepted k slots fate) h = left_not_open fate h

some_same : (a b : ℕ) → Some a ≡ Some b → a ≡ b
some_same a b h = cc

module _ (c k : ℕ) (gone : Bool) (e : Entry) (past : List Entry) (of_it : of_call k e ≡ true) where
  stood : (r : Request) (before : Deed) → IsAccepted c k e past before ⊎ IsFurther k e before → (gone ≡ true → deed_left before ≡ true) → DeedStands c gone past r before
      → tale c k past ≡ deed_entries c r before ++ Join c ∷ []
  stood r Pending (inl a) left h = tale_new c k past a.new ∙ a.joined
  stood r Pending (inr f) left h = let no = f.same in absurd cc
  stood r (Refused status) (inl a) left h = tale_new c k past a.new ∙ a.joined
  stood r (Refused status) (inr f) left h = let no = f.same in absurd cc
  stood r (Accepted m slots fate) (inl a) left h = let no = a.before in absurd cc
  stood r (Accepted m slots fate) (inr f) left h =
      let same = some_same m k f.same in
      ap (λ n. tale c n past) (sym same) ∙ (h ∙ ap (λ l. l ++ fate_entries m (asked_as c r slots) r.offs fate ++ Join c ∷ []) (no_leave c gone (has_left fate) left))

  goes : (r s : Request) (before after : Deed) → deed_entries c s after ≡ e ∷ deed_entries c r before → deed_number after ≡ Some k → IsAccepted c k e past before ⊎ IsFurther k e before
      → deed_left after ≡ deed_left before → (gone ≡ true → deed_left after ≡ true) → DeedStands c gone past r before → DeedStands c gone (e ∷ past) s after
  goes r s before Pending es number from same left h = absurd cc
  goes r s before (Refused status) es number from same left h = absurd cc
  goes r s before (Accepted n slots fate) es number from same left h =
      let is = some_same n k number in
      let stands = stood r before from (λ g. sym same ∙ left g) h in
      let kept : tale c k (e ∷ past) ≡ e ∷ tale c k past = kept_by c k e past (call_no_conn c k e of_it) of_it in
      let grown : tale c k (e ∷ past) ≡ fate_entries n (asked_as c s slots) s.offs fate ++ Join c ∷ [] =
      kept ∙ (ap (λ l. e ∷ l) stands ∙ ap (λ l. l ++ Join c ∷ []) (sym es)) in
      ap (λ m. tale c m (e ∷ past)) is ∙ (grown ∙ ap (λ l. l ++ fate_entries n (asked_as c s slots) s.offs fate ++ Join c ∷ []) (sym (no_leave c gone (has_left fate) left)))

  calls_go : (before : Deed) (ks : List ℕ) → IsAccepted c k e past before ⊎ IsFurther k e before → calls_of c past ≡ cons_option (deed_number before) ks → calls_of c (e ∷ past) ≡ k ∷ ks
  calls_go before ks (inl a) h =
      let first : accepted_of c e ≡ Some k = ap (accepted_of c) a.accept ∙ theirs a.asked a.theirs in
      let later : calls_of c past ≡ ks = h ∙ ap (λ o. cons_option o ks) a.before in
      λ i. cons_option (first i) (later i)
    where
      theirs : (x : Asked) → x.conn ≡ c → (if x.conn == c then Some k else None) ≡ Some k
      theirs x is = let same : (x.conn == c) ≡ true = ap (λ d. d == c) is ∙ same_number c in rw same refl
  calls_go before ks (inr f) h =
      let first : accepted_of c e ≡ None = no_number c e f.no_accept in
      let later : calls_of c past ≡ k ∷ ks = h ∙ ap (λ o. cons_option o ks) f.same in
      λ i. cons_option (first i) (later i)

neither : (x y : Bool) → x ≡ false → y ≡ false → (x || y) ≡ false
neither x y h i = rw (h, i) refl

pub turns_go_on : (c k : ℕ) (gone : Bool) (e : Entry) (past : List Entry) (r s : Request) (ts : List Turn) → GoesOn c k e past r s → (gone ≡ true → deed_left s.deed ≡ true)
    → AllByRecursion (λ m. (k == m) ≡ false) (numbers_of ts) → StandAll c gone past (Called r ∷ ts) → StandAll c gone (e ∷ past) (Called s ∷ ts)
turns_go_on c k gone e past r s ts g left others h = record {
  calls = calls_go c k gone e past g.of_it r.deed (numbers_of ts) g.from h.calls ∙ ap (λ o. cons_option o (numbers_of ts)) (sym g.number);
  stand = (goes c k gone e past g.of_it r s r.deed s.deed g.entries g.number g.from g.left_same left h.stand.0, all_pass c k gone e past g.of_it ts others h.stand.1);
  none_open = λ is. neither (deed_open s.deed) (list_any turn_open ts) (deed_not_open s.deed (left is)) (any_rest (deed_open r.deed) (list_any turn_open ts) (h.none_open is));
  none_left = λ is. neither (deed_left s.deed) (list_any turn_left ts) (g.left_same ∙ any_first (deed_left r.deed) (list_any turn_left ts) (h.none_left is)) (any_rest (deed_left r.deed) (list_any turn_left ts) (h.none_left is));
}

-- ---- the connection's Leave

leave_kept : (c k : ℕ) (past : List Entry) → tale c k (Leave c ∷ past) ≡ Leave c ∷ tale c k past
leave_kept c k past = rw (same_number c) refl

module _ (c : ℕ) (past : List Entry) where
  -- a turn that isn't unopened
  fate_behind : (k : ℕ) (r : Request) (deed : Deed) → deed_open deed ≡ false → deed_left deed ≡ false → DeedStands c false past r deed → DeedStands c true (Leave c ∷ past) r deed
  fate_behind k r Pending unopened left h = tt
  fate_behind k r (Refused status) unopened left h = tt
  fate_behind k r (Accepted m slots fate) unopened left h =
      leave_kept c m past ∙ (ap (λ l. Leave c ∷ l) h ∙ rw left refl)

  turn_behind : (t : Turn) → turn_open t ≡ false → turn_left t ≡ false → Stands c false past t → Stands c true (Leave c ∷ past) t
  turn_behind (Binding asked) unopened left h = tt
  turn_behind (Bound asked group octets) unopened left h = tt
  turn_behind (NotBound asked reason octets) unopened left h = tt
  turn_behind (Answered octets) unopened left h = tt
  turn_behind (Called r) unopened left h = fate_behind 0 r r.deed unopened left h
  turn_behind (Closed octets fault) unopened left h = tt

  all_behind : (ts : List Turn) → list_any turn_open ts ≡ false → list_any turn_left ts ≡ false → AllByRecursion (Stands c false past) ts → AllByRecursion (Stands c true (Leave c ∷ past)) ts
  all_behind [] unopened left h = tt
  all_behind (t ∷ ts) unopened left h = (
    turn_behind t (any_first (turn_open t) (list_any turn_open ts) unopened) (any_first (turn_left t) (list_any turn_left ts) left) h.0,
    all_behind ts (any_rest (turn_open t) (list_any turn_open ts) unopened) (any_rest (turn_left t) (list_any turn_left ts) left) h.1,
  )

  fate_left : (k : ℕ) (slots : List Slot) (r : Request) (fate : Fate) → has_left fate ≡ false → DeedStands c false past r (Accepted k slots fate)
      → DeedStands c true (Leave c ∷ past) (record r { deed = left_deed r.deed }) (Accepted k slots (left_fate fate))
  fate_left k slots r Waiting left h = leave_kept c k past ∙ ap (λ l. Leave c ∷ l) h
  fate_left k slots r (Running cookies) left h = leave_kept c k past ∙ ap (λ l. Leave c ∷ l) h
  fate_left k slots r (Denied slot) left h = leave_kept c k past ∙ ap (λ l. Leave c ∷ l) h
  fate_left k slots r Cancelled left h = leave_kept c k past ∙ ap (λ l. Leave c ∷ l) h
  fate_left k slots r Orphaned left h = leave_kept c k past ∙ ap (λ l. Leave c ∷ l) h
  fate_left k slots r (Ended run) left h = leave_kept c k past ∙ ap (λ l. Leave c ∷ l) h
  fate_left k slots r LeftWaiting left h = absurd cc
  fate_left k slots r (LeftRunning cookies) left h = absurd cc
  fate_left k slots r (LeftEnded run) left h = absurd cc

  deed_leaves : (r : Request) (deed : Deed) → deed_left deed ≡ false → DeedStands c false past r deed → DeedStands c true (Leave c ∷ past) (record r { deed = left_deed r.deed }) (left_deed deed)
  deed_leaves r Pending left h = tt
  deed_leaves r (Refused status) left h = tt
  deed_leaves r (Accepted k slots fate) left h = fate_left k slots r fate left h

  turn_leaves : (t : Turn) → turn_left t ≡ false → Stands c false past t → Stands c true (Leave c ∷ past) (left_turn t)
  turn_leaves (Binding asked) left h = tt
  turn_leaves (Bound asked group octets) left h = tt
  turn_leaves (NotBound asked reason octets) left h = tt
  turn_leaves (Answered octets) left h = tt
  turn_leaves (Called r) left h = deed_leaves r r.deed left h
  turn_leaves (Closed octets fault) left h = tt

left_number : (deed : Deed) → deed_number (left_deed deed) ≡ deed_number deed
left_number Pending = refl
left_number (Refused status) = refl
left_number (Accepted k slots fate) = refl

turn_number : (t : Turn) → number_of (left_turn t) ≡ number_of t
turn_number (Binding asked) = refl
turn_number (Bound asked group octets) = refl
turn_number (NotBound asked reason octets) = refl
turn_number (Answered octets) = refl
turn_number (Called r) = left_number r.deed
turn_number (Closed octets fault) = refl

fate_closed : (fate : Fate) → is_open (left_fate fate) ≡ false
fate_closed Waiting = refl
fate_closed (Running cookies) = refl
fate_closed (Denied slot) = refl
fate_closed Cancelled = refl
fate_closed Orphaned = refl
fate_closed LeftWaiting = refl
fate_closed (LeftRunning cookies) = refl
fate_closed (Ended run) = refl
fate_closed (LeftEnded run) = refl

deed_closed : (deed : Deed) → deed_open (left_deed deed) ≡ false
deed_closed Pending = refl
deed_closed (Refused status) = refl
deed_closed (Accepted k slots fate) = fate_closed fate

turn_closed : (t : Turn) → turn_open (left_turn t) ≡ false
turn_closed (Binding asked) = refl
turn_closed (Bound asked group octets) = refl
turn_closed (NotBound asked reason octets) = refl
turn_closed (Answered octets) = refl
turn_closed (Called r) = deed_closed r.deed
turn_closed (Closed octets fault) = refl

pub turns_are_left : (c : ℕ) (past : List Entry) (turns : List Turn) → OnlyNewestOpen turns → StandAll c false past turns → StandAll c true (Leave c ∷ past) (left_turns turns)
turns_are_left c past [] unopened h = record { calls = h.calls; stand = tt; none_open = λ is. refl; none_left = λ is. absurd cc }
turns_are_left c past (t ∷ ts) unopened h =
    let left = h.none_left refl in
    record {
      calls = h.calls ∙ ap (λ o. cons_option o (numbers_of ts)) (sym (turn_number t));
      stand = (turn_leaves c past t (any_first (turn_left t) (list_any turn_left ts) left) h.stand.0, all_behind c past ts unopened (any_rest (turn_left t) (list_any turn_left ts) left) h.stand.1);
      none_open = λ is. neither (turn_open (left_turn t)) (list_any turn_open ts) (turn_closed t) unopened;
      none_left = λ is. absurd cc;
    }
