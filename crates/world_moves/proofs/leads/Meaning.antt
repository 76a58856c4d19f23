-- What the server's end does has a meaning to the group.
use Rattle.std.proofs.Common.{◌≡◌, ◌≢◌, ℕ, ◌+◌, inl, inr, Bool, true, false, List, [], ◌∷◌, map, Option, Some, None, Result, Ok, Err, refl, ap, arith}
use Rattle.rpc_base.specs.declared.identifiers.Status.{Status}
use Rattle.rpc_base.specs.declared.identifiers.WireHandle.{WireHandle}
use Rattle.handle_model.specs.declared.entry.Entry.{Entry}
use Rattle.handle_model.specs.declared.entry.Entry.TheVariants.{Accept, Cancel, Orphan}
use Rattle.handle_model.specs.declared.entry.Slot.{Slot}
use Rattle.handle_model.specs.declared.limits.AcceptLimit.{AcceptLimit}
use Rattle.handle_model.specs.Journal.{waits, accept_count}
use Rattle.handle_model.specs.Limits.{accept_limit}
use Rattle.handle_model.specs.Slots.{is_null, with_serial}
use Rattle.pdu_stream.specs.declared.joined.Joined.{Joined}
use Rattle.ndr_value.specs.Values.{Msg}
use Rattle.ndr_table.specs.declared.operation.HandleUse.{HandleUse}
use Rattle.ndr_table.specs.Tables.{OpForm, TableForm}
use Rattle.ndr_model.specs.declared.way.Way.TheVariants.{Request}
use Rattle.ndr_model.specs.declared.departure.Departure.{Departure}
use Rattle.ndr_model.specs.declared.departure.Departure.TheVariants as departures
use Rattle.ndr_laws.specs.Laws.{ReadIsStub}
use Rattle.manager_api.specs.Messages.{read_stub, fault_of, status_of}
use Rattle.group_core.specs.declared.answer.Cancelled.TheVariants as cancelled
use Rattle.group_core.specs.declared.answer.Orphaned.TheVariants as orphaned
use Rattle.group_core.specs.Calls.{is_cancellable, is_orphanable, numbered}
use Rattle.std.specs.Prelude.{if◌then◌else◌}
use Rattle.handle_model.specs.declared.entry.Slot.TheVariants.{Shares, Holds, Changes}
use Rattle.conn_histories.specs.Requests.{kind_in, IsAsked, HasSlots, op_of, types_of, uses_of, slots_for, slot_for, opening, op_range, too_busy, no_memory}
use Rattle.conn_histories.specs.Requests.IsRefused.{no_operation, no_stub, full}
use Rattle.conn_histories.specs.Entries.{asked_as}
use Rattle.world_laws.specs.Journals.{journal, IsCancelled, IsOrphaned}
use Rattle.world_laws.specs.Ends.{ServerEnd}
use Rattle.world_laws.specs.Ends.Waiting.{Refused, Call}
use Rattle.world_laws.specs.Serving.{numbered as with_number}
use Rattle.world_laws.specs.Serving.{request, CancelsMarked, RefusesRequest, Requests}

pub some_cancel : (past : List Entry) (k : ℕ) → (new : List Entry) × IsCancelled past k new
some_cancel past k = by (waits (journal past) k) (is_cancellable (journal past) k) refl refl
  where
    by : (a b : Bool) → waits (journal past) k ≡ a → is_cancellable (journal past) k ≡ b → (new : List Entry) × IsCancelled past k new
    by true b e f = (Cancel k ∷ past, (cancelled.Ended, (e, refl)))
    by false true e f = (Cancel k ∷ past, (cancelled.Flagged, (f, refl)))
    by false false e f = (past, (cancelled.Late, (e, f, refl)))

pub some_orphan : (past : List Entry) (k : ℕ) → (new : List Entry) × IsOrphaned past k new
some_orphan past k = by (waits (journal past) k) (is_orphanable (journal past) k) refl refl
  where
    by : (a b : Bool) → waits (journal past) k ≡ a → is_orphanable (journal past) k ≡ b → (new : List Entry) × IsOrphaned past k new
    by true b e f = (Orphan k ∷ past, (orphaned.Dropped, (e, refl)))
    by false true e f = (Orphan k ∷ past, (orphaned.Running, (f, refl)))
    by false false e f = (past, (orphaned.Late, (e, f, refl)))

-- ---- a request

slot_again : (iface : ℕ) (u : HandleUse) (w : WireHandle) → with_serial 0 (slot_for iface u w) ≡ slot_for iface u w
slot_again iface u w = by u.outward (is_null w) u.serialised
  where
    by : (o n s : Bool) → with_serial 0 (if o then (if n then opening iface u else Changes (kind_in iface u) w) else (if s then Holds (kind_in iface u) w else Shares (kind_in iface u) w))
        ≡ (if o then (if n then opening iface u else Changes (kind_in iface u) w) else (if s then Holds (kind_in iface u) w else Shares (kind_in iface u) w))
    by true true s = refl
    by true false s = refl
    by false n true = refl
    by false n false = refl

slots_again : (iface : ℕ) (us : List HandleUse) (ws : List WireHandle) → map (with_serial 0) (slots_for iface us ws) ≡ slots_for iface us ws
slots_again iface [] ws = refl
slots_again iface (u ∷ us) [] = by u.inward (slots_again iface us [])
  where
    by : (b : Bool) → map (with_serial 0) (slots_for iface us []) ≡ slots_for iface us []
        → map (with_serial 0) (if b then [] else opening iface u ∷ slots_for iface us []) ≡ (if b then [] else opening iface u ∷ slots_for iface us [])
    by true e = refl
    by false e = ap (λ (x : List Slot). opening iface u ∷ x) e
slots_again iface (u ∷ us) (w ∷ ws) = by u.inward (slots_again iface us ws) (slots_again iface us (w ∷ ws))
  where
    by : (b : Bool) → map (with_serial 0) (slots_for iface us ws) ≡ slots_for iface us ws → map (with_serial 0) (slots_for iface us (w ∷ ws)) ≡ slots_for iface us (w ∷ ws)
        → map (with_serial 0) (if b then slot_for iface u w ∷ slots_for iface us ws else opening iface u ∷ slots_for iface us (w ∷ ws))
        ≡ (if b then slot_for iface u w ∷ slots_for iface us ws else opening iface u ∷ slots_for iface us (w ∷ ws))
    by true e f = λ i. slot_again iface u w i ∷ e i
    by false e f = ap (λ (x : List Slot). opening iface u ∷ x) f

abbrev SomeRequest : TableForm → List Entry → ServerEnd → Joined → ℕ → ℕ → Type 0
SomeRequest table past s j iface c = (t : ServerEnd) × (new : List Entry) × Requests (table ∷ []) past s j iface c t new

refuse : (table : TableForm) (past : List Entry) (s : ServerEnd) (j : Joined) (iface c : ℕ) (status : Status) → RefusesRequest (table ∷ []) past j iface status → SomeRequest table past s j iface c
refuse table past s j iface c status r = (with_number s None (Refused status), past, inl (status, r, refl, refl))

some_mark : (b : Bool) (past : List Entry) (k : ℕ) → (new : List Entry) × CancelsMarked b past k new
some_mark true past k = some_cancel past k
some_mark false past k = (past, refl)

not_memory : (d : Departure) → status_of (fault_of d) ≢ no_memory
not_memory (departures.Short n) e = absurd (omega (arith, ap (λ (s : Status). s.0) e))
not_memory (departures.Bound i) e = absurd (omega (arith, ap (λ (s : Status). s.0) e))
not_memory (departures.Tag i) e = absurd (omega (arith, ap (λ (s : Status). s.0) e))
not_memory (departures.Pointer i) e = absurd (omega (arith, ap (λ (s : Status). s.0) e))
not_memory (departures.Text i) e = absurd (omega (arith, ap (λ (s : Status). s.0) e))
not_memory (departures.TooDeep i) e = absurd (omega (arith, ap (λ (s : Status). s.0) e))
not_memory (departures.Trailing n) e = absurd (omega (arith, ap (λ (s : Status). s.0) e))

with_slots : (table : TableForm) (past : List Entry) (s : ServerEnd) (j : Joined) (iface c : ℕ) (slots : List Slot) → HasSlots (table ∷ []) iface j.op j.order j.stub slots → (limit : Option AcceptLimit) → accept_limit (journal past) slots ≡ limit
    → SomeRequest table past s j iface c
with_slots table past s j iface c slots has (Some limit) e =
    refuse table past s j iface c too_busy (record { cause = full slots has (λ none. absurd (cc (e, none))) refl; memory = λ x. absurd (omega (arith, ap (λ (y : Status). y.0) x)) })
with_slots table past s j iface c slots has None e =
    let k = accept_count (journal past) + 1 in
    let accepted = Accept k (numbered (journal past) (asked_as c (request j iface) slots)) ∷ past in
    let (new, marked) = some_mark j.cancel accepted k in
    (with_number s (Some k) (Call k), new, inr (k, record { slots = slots; has = has; accepted = accepted; accepts = (e, refl, refl); marked = marked }, refl))

pub some_request : (table : TableForm) (past : List Entry) (s : ServerEnd) (j : Joined) (iface c : ℕ) → ReadIsStub → SomeRequest table past s j iface c
some_request table past s j iface c law = by_op (op_of (table ∷ []) iface j.op) refl
  where
    by_message : (o : OpForm) → op_of (table ∷ []) iface j.op ≡ Some o → (read : Result Msg Departure) → read_stub (types_of (table ∷ []) iface) o Request j.order None j.stub ≡ read → SomeRequest table past s j iface c
    by_message o found (Err d) e = refuse table past s j iface c (status_of (fault_of d)) (record { cause = no_stub o d found e refl; memory = not_memory d })
    by_message o found (Ok m) e =
        let slots = slots_for iface (uses_of (table ∷ []) iface j.op) m.wires in
        let asked : IsAsked (table ∷ []) iface j.op j.order j.stub m = record { operation = o; found = found; decoded = law (types_of (table ∷ []) iface) o Request j.order None j.stub m e } in
        with_slots table past s j iface c slots (record { message = m; asked = asked; slots_are = slots_again iface (uses_of (table ∷ []) iface j.op) m.wires }) (accept_limit (journal past) slots) refl

    by_op : (o : Option OpForm) → op_of (table ∷ []) iface j.op ≡ o → SomeRequest table past s j iface c
    by_op None e = refuse table past s j iface c op_range (record { cause = no_operation e refl; memory = λ x. absurd (omega (arith, ap (λ (y : Status). y.0) x)) })
    by_op (Some o) e = by_message o e (read_stub (types_of (table ∷ []) iface) o Request j.order None j.stub) refl
