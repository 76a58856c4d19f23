-- A row's fate is what is told first behind the start of its call.
use Rattle.std.proofs.Common.{◌≡◌, ◌≢◌, ℕ, zero, suc, ◌+◌, ◌⊎◌, inl, inr, Bool, true, false, not, Option, Some, None, Ok, List, [], ◌∷◌, ◌++◌, length, refl, sym, ap, subst, ◌∙◌, append_assoc, arith}
use Rattle.std.specs.Prelude.{slice_get}
use Rattle.rpc_base.specs.declared.identifiers.Status.{Status}
use Rattle.pdu_codec.specs.declared.pdu.Pdu.{Pdu}
use Rattle.ndr_value.specs.Values.{Msg}
use Rattle.ndr_table.specs.Tables.{OpForm, TableForm}
use Rattle.client_core.specs.declared.begun.Stage.{Stage}
use Rattle.client_core.specs.declared.begun.Stage.TheVariants as stages
use Rattle.client_core.specs.States as callers
use Rattle.client_core.specs.States.{Outcome, ClientState, is_bound_at, is_binding_at, is_bound, is_calling}
use Rattle.client_core.specs.States.Outcome.{TBound, TNotBound, TDone, TFault, TBroken}
use Rattle.client_core.specs.Calls.{Binds, Calls, Cancels, with_call}
use Rattle.client_core.specs.Histories.{ClientEvent}
use Rattle.client_core.specs.Histories.ClientEvent.{DidBind, DidAlter, DidCall, DidCancel, Received, Lost}
use Rattle.client_laws.proofs.Keeping.{keeps}
use Rattle.world_laws.specs.Moves.{Fate}
use Rattle.world_laws.specs.Moves.{Fate as fates}
use Rattle.world_laws.specs.Ends.{Row, CallerEnd, new_row, with_last, told_if}
use Rattle.world_laws.specs.Calling.{tells, breaks, HearsPdu, IfBroken, HearsPdus, HearsOctets, lost_caller}
use Rattle.world_laws.specs.Counts.{started}
use Rattle.world_laws.specs.Telling.{first_told, told_of, IsTold}
use Rattle.world_laws.proofs.Lists.{some_is, within, OfMore, of_more, length_more}
use Rattle.world_laws.proofs.Lists.OfMore.{before, last}
use Rattle.world_laws.proofs.Counting.{started_append}
use Rattle.world_laws.proofs.Callers.{rows_if}
use Rattle.world_laws.proofs.Outs.{tells_call, OnlyCalls, hears_on}

-- ---- what is told first

told_first : (a b : List ClientEvent) → first_told a ≢ fates.Open → first_told (a ++ b) ≡ first_told a
told_first [] b ne = absurd (ne refl)
told_first (Received p (Some (TDone m)) ∷ a) b ne = refl
told_first (Received p (Some (TFault status not_run)) ∷ a) b ne = refl
told_first (Received p (Some (TBound group)) ∷ a) b ne = told_first a b ne
told_first (Received p (Some (TNotBound reason)) ∷ a) b ne = told_first a b ne
told_first (Received p (Some (TBroken fault)) ∷ a) b ne = told_first a b ne
told_first (Received p None ∷ a) b ne = told_first a b ne
told_first (Lost true ∷ a) b ne = refl
told_first (Lost false ∷ a) b ne = told_first a b ne
told_first (DidBind group octets ∷ a) b ne = told_first a b ne
told_first (DidAlter context octets ∷ a) b ne = told_first a b ne
told_first (DidCall op m octets ∷ a) b ne = told_first a b ne
told_first (DidCancel octets ∷ a) b ne = told_first a b ne

told_then : (a b : List ClientEvent) → first_told a ≡ fates.Open → first_told (a ++ b) ≡ first_told b
told_then [] b e = refl
told_then (Received p (Some (TDone m)) ∷ a) b e = absurd (cc (e))
told_then (Received p (Some (TFault status not_run)) ∷ a) b e = absurd (cc (e))
told_then (Received p (Some (TBound group)) ∷ a) b e = told_then a b e
told_then (Received p (Some (TNotBound reason)) ∷ a) b e = told_then a b e
told_then (Received p (Some (TBroken fault)) ∷ a) b e = told_then a b e
told_then (Received p None ∷ a) b e = told_then a b e
told_then (Lost true ∷ a) b e = absurd (cc (e))
told_then (Lost false ∷ a) b e = told_then a b e
told_then (DidBind group octets ∷ a) b e = told_then a b e
told_then (DidAlter context octets ∷ a) b e = told_then a b e
told_then (DidCall op m octets ∷ a) b e = told_then a b e
told_then (DidCancel octets ∷ a) b e = told_then a b e

-- nobody waits, or it is told
abbrev pub IsSettled : Bool → List ClientEvent → Type 0
IsSettled maybe later = (maybe ≡ true) ⊎ (first_told later ≢ fates.Open)

told_more : (maybe : Bool) (later more : List ClientEvent) → IsSettled maybe later → told_of maybe (later ++ more) ≡ told_of maybe later
told_more true later more s = refl
told_more false later more (inl e) = absurd (cc (e))
told_more false later more (inr ne) = told_first later more ne

settled_more : (maybe : Bool) (later more : List ClientEvent) → IsSettled maybe later → IsSettled maybe (later ++ more)
settled_more maybe later more (inl e) = inl e
settled_more maybe later more (inr ne) = inr (λ e. ne (sym (told_first later more ne) ∙ e))

told_false : (maybe : Bool) (later : List ClientEvent) → maybe ≡ false → told_of maybe later ≡ first_told later
told_false true later e = absurd (cc (e))
told_false false later e = refl

told_nothing : (maybe : Bool) → told_of maybe [] ≡ fates.Open
told_nothing true = refl
told_nothing false = refl

-- ---- a row

-- Its fate stays, and it isn't the row of the call that is out; or it is the last one, and its call is out.
pub data RowIs (table : TableForm) (events : List ClientEvent) (calling : Bool) (count x : ℕ) (r : Row) : Type 0 where
  over : (b : IsTold table events x r) → IsSettled b.operation.maybe b.later → (calling ≡ true → count ≢ x + 1) → RowIs table events calling count x r
  out : (b : IsTold table events x r) → b.operation.maybe ≡ false → first_told b.later ≡ fates.Open → count ≡ x + 1 → calling ≡ true → RowIs table events calling count x r

-- one thing more happened, and this was told
told_on : (table : TableForm) (events : List ClientEvent) (event : ClientEvent) (x : ℕ) (r : Row) (fate : Fate) (b : IsTold table events x r) → fate ≡ told_of b.operation.maybe (b.later ++ event ∷ [])
    → IsTold table (events ++ event ∷ []) x (record r { fate = fate })
told_on table events event x r fate b is = record {
  operation = b.operation;
  found = b.found;
  before = b.before;
  octets = b.octets;
  later = b.later ++ event ∷ [];
  is = ap (λ (e : List ClientEvent). e ++ event ∷ []) b.is ∙ append_assoc b.before (DidCall r.op r.message b.octets ∷ b.later) (event ∷ []);
  place_is = b.place_is;
  fate_is = is;
}

over_on : (table : TableForm) (events : List ClientEvent) (event : ClientEvent) (calling : Bool) (count x : ℕ) (r : Row) (b : IsTold table events x r) → IsSettled b.operation.maybe b.later → (calling ≡ true → count ≢ x + 1)
    → RowIs table (events ++ event ∷ []) calling count x r
unfolding told_on
over_on table events event calling count x r b s ne =
    over (told_on table events event x r r.fate b (b.fate_is ∙ sym (told_more b.operation.maybe b.later (event ∷ []) s))) (settled_more b.operation.maybe b.later (event ∷ []) s) ne

out_on : (table : TableForm) (events : List ClientEvent) (event : ClientEvent) (calling : Bool) (count x : ℕ) (r : Row) (b : IsTold table events x r) → b.operation.maybe ≡ false → first_told b.later ≡ fates.Open
    → count ≡ x + 1 → calling ≡ true → first_told (event ∷ []) ≡ fates.Open → RowIs table (events ++ event ∷ []) calling count x r
unfolding told_on
out_on table events event calling count x r b wants open_ last_ calls none =
    let before_ : r.fate ≡ fates.Open = b.fate_is ∙ (told_false b.operation.maybe b.later wants ∙ open_) in
    let after_ : first_told (b.later ++ event ∷ []) ≡ fates.Open = told_then b.later (event ∷ []) open_ ∙ none in
    out (told_on table events event x r r.fate b (before_ ∙ sym (told_false b.operation.maybe (b.later ++ event ∷ []) wants ∙ after_))) wants after_ last_ calls

out_over : (table : TableForm) (events : List ClientEvent) (event : ClientEvent) (count x : ℕ) (r : Row) (fate : Fate) (b : IsTold table events x r) → b.operation.maybe ≡ false → first_told b.later ≡ fates.Open
    → first_told (event ∷ []) ≡ fate → fate ≢ fates.Open → RowIs table (events ++ event ∷ []) false count x (record r { fate = fate })
unfolding told_on
out_over table events event count x r fate b wants open_ is ne =
    let after_ : first_told (b.later ++ event ∷ []) ≡ fate = told_then b.later (event ∷ []) open_ ∙ is in
    over (told_on table events event x r fate b (sym (told_false b.operation.maybe (b.later ++ event ∷ []) wants ∙ after_))) (inr (λ e. ne (sym after_ ∙ e))) (λ e. absurd (cc (e)))

-- ---- the rows of a caller's end

abbrev pub Rows : TableForm → List ClientEvent → Bool → List Row → Type 0
Rows table events calling rows = (x : ℕ) (r : Row) → slice_get rows x ≡ Some r → RowIs table events calling (length rows) x r

-- something happens of which no call is told
quiet_row : (table : TableForm) (events : List ClientEvent) (event : ClientEvent) (calling : Bool) (count x : ℕ) (r : Row) → first_told (event ∷ []) ≡ fates.Open → RowIs table events calling count x r → RowIs table (events ++ event ∷ []) calling count x r
quiet_row table events event calling count x r none (over b s ne) = over_on table events event calling count x r b s ne
quiet_row table events event calling count x r none (out b wants open_ last_ calls) = out_on table events event calling count x r b wants open_ last_ calls none

quiet_rows : (table : TableForm) (events : List ClientEvent) (event : ClientEvent) (calling : Bool) (rows : List Row) → first_told (event ∷ []) ≡ fates.Open → Rows table events calling rows → Rows table (events ++ event ∷ []) calling rows
quiet_rows table events event calling rows none h x r at = quiet_row table events event calling (length rows) x r none (h x r at)

-- where no call is out nothing changes, and then none is out
unheard : (table : TableForm) (events : List ClientEvent) (event : ClientEvent) (count x : ℕ) (r : Row) → RowIs table events false count x r → RowIs table (events ++ event ∷ []) false count x r
unheard table events event count x r (over b s ne) = over_on table events event false count x r b s ne
unheard table events event count x r (out b wants open_ last_ calls) = absurd (cc (calls))

-- the last row, and the others
data LastOf (fate : Fate) (rows : List Row) (x : ℕ) (r : Row) : Type 0 where
  other : slice_get rows x ≡ Some r → length rows ≢ x + 1 → LastOf fate rows x r
  the_last : (was : Row) → slice_get rows x ≡ Some was → r ≡ record was { fate = fate } → length rows ≡ x + 1 → LastOf fate rows x r

last_of : (fate : Fate) (rows : List Row) (x : ℕ) (r : Row) → slice_get (with_last fate rows) x ≡ Some r → LastOf fate rows x r
last_of fate [] x r at = absurd (cc (at))
last_of fate (a ∷ []) zero r at = the_last a refl (sym (some_is (record a { fate = fate }) r at)) (omega arith)
last_of fate (a ∷ []) (suc x) r at = absurd (cc (at))
last_of fate (a ∷ b ∷ more) zero r at = other at (λ e. absurd (omega (arith, e)))
last_of fate (a ∷ b ∷ more) (suc x) r at = next (last_of fate (b ∷ more) x r at)
  where
    next : LastOf fate (b ∷ more) x r → LastOf fate (a ∷ b ∷ more) (suc x) r
    next (other found ne) = other found (λ e. ne (omega (arith, e)))
    next (the_last was found is count) = the_last was found is (omega (arith, count))

-- the call that is out is told this
told_last : (table : TableForm) (events : List ClientEvent) (event : ClientEvent) (fate : Fate) (rows : List Row) (x : ℕ) (r : Row) → first_told (event ∷ []) ≡ fate → fate ≢ fates.Open → Rows table events true rows → LastOf fate rows x r
    → RowIs table (events ++ event ∷ []) false (length rows) x r
told_last table events event fate rows x r is ne h (other found not_last) = by (h x r found)
  where
    by : RowIs table events true (length rows) x r → RowIs table (events ++ event ∷ []) false (length rows) x r
    by (over b s nl) = over_on table events event false (length rows) x r b s (λ e. absurd (cc (e)))
    by (out b wants open_ last_ calls) = absurd (not_last last_)
told_last table events event fate rows x r is ne h (the_last was found row_is last_) = subst (λ (z : Row). RowIs table (events ++ event ∷ []) false (length rows) x z) (sym row_is) (by (h x was found))
  where
    by : RowIs table events true (length rows) x was → RowIs table (events ++ event ∷ []) false (length rows) x (record was { fate = fate })
    by (over b s nl) = absurd (nl refl last_)
    by (out b wants open_ last2 calls) = out_over table events event (length rows) x was fate b wants open_ is ne

told_rows : (table : TableForm) (events : List ClientEvent) (event : ClientEvent) (fate : Fate) (rows : List Row) (out_ : Bool) → (out_ ≡ true → (first_told (event ∷ []) ≡ fate) × (fate ≢ fates.Open)) → Rows table events out_ rows
    → Rows table (events ++ event ∷ []) false (told_if out_ fate rows)
told_rows table events event fate rows false says h x r at = unheard table events event (length rows) x r (h x r at)
told_rows table events event fate rows true says h x r at =
    subst (λ (n : ℕ). RowIs table (events ++ event ∷ []) false n x r) (sym (rows_if true fate rows))
    (told_last table events event fate rows x r (says refl).0 (says refl).1 h (last_of fate rows x r at))

-- ---- a caller's end

pub record CallerIs (table : TableForm) (c : CallerEnd) : Type 0 where
  pub only : OnlyCalls c.state
  pub interface : c.state.interface ≡ table
  pub count : length c.rows ≡ started c.events
  pub rows : Rows table c.events (is_calling c.state) c.rows

-- ---- it is told something

quiet_first : (p : Pdu) (t : Option Outcome) → tells_call t ≡ false → first_told (Received p t ∷ []) ≡ fates.Open
quiet_first p None h = refl
quiet_first p (Some (TDone m)) h = absurd (cc (h))
quiet_first p (Some (TFault status not_run)) h = absurd (cc (h))
quiet_first p (Some (TBound group)) h = refl
quiet_first p (Some (TNotBound reason)) h = refl
quiet_first p (Some (TBroken fault)) h = refl

quiet_tells : (out_ : Bool) (t : Option Outcome) (rows : List Row) → tells_call t ≡ false → tells out_ t rows ≡ rows
quiet_tells out_ None rows h = refl
quiet_tells out_ (Some (TDone m)) rows h = absurd (cc (h))
quiet_tells out_ (Some (TFault status not_run)) rows h = absurd (cc (h))
quiet_tells out_ (Some (TBound group)) rows h = refl
quiet_tells out_ (Some (TNotBound reason)) rows h = refl
quiet_tells out_ (Some (TBroken fault)) rows h = refl

done_is : (m : Msg) → fates.Done m ≢ fates.Open
done_is m e = absurd (cc (e))

fault_is : (status : Status) (not_run : Bool) → fates.Fault status not_run ≢ fates.Open
fault_is status not_run e = absurd (cc (e))

lost_is : fates.Lost ≢ fates.Open
lost_is e = absurd (cc (e))

-- the rows behind a PDU, by whether a call was out and is
heard_rows : (table : TableForm) (events : List ClientEvent) (p : Pdu) (t : Option Outcome) (rows : List Row) (was is : Bool) → (tells_call t ≡ false → is ≡ was) → (tells_call t ≡ true → is ≡ false) → Rows table events was rows
    → Rows table (events ++ Received p t ∷ []) is (tells was t rows)
heard_rows table events p None rows was is quiet told h =
    subst (λ (b : Bool). Rows table (events ++ Received p None ∷ []) b rows) (sym (quiet refl)) (quiet_rows table events (Received p None) was rows refl h)
heard_rows table events p (Some (TBound group)) rows was is quiet told h =
    subst (λ (b : Bool). Rows table (events ++ Received p (Some (TBound group)) ∷ []) b rows) (sym (quiet refl)) (quiet_rows table events (Received p (Some (TBound group))) was rows refl h)
heard_rows table events p (Some (TNotBound reason)) rows was is quiet told h =
    subst (λ (b : Bool). Rows table (events ++ Received p (Some (TNotBound reason)) ∷ []) b rows) (sym (quiet refl)) (quiet_rows table events (Received p (Some (TNotBound reason))) was rows refl h)
heard_rows table events p (Some (TBroken fault)) rows was is quiet told h =
    subst (λ (b : Bool). Rows table (events ++ Received p (Some (TBroken fault)) ∷ []) b rows) (sym (quiet refl)) (quiet_rows table events (Received p (Some (TBroken fault))) was rows refl h)
heard_rows table events p (Some (TDone m)) rows was is quiet told h =
    subst (λ (b : Bool). Rows table (events ++ Received p (Some (TDone m)) ∷ []) b (told_if was (fates.Done m) rows)) (sym (told refl))
    (told_rows table events (Received p (Some (TDone m))) (fates.Done m) rows was (λ e. (refl, done_is m)) h)
heard_rows table events p (Some (TFault status not_run)) rows was is quiet told h =
    subst (λ (b : Bool). Rows table (events ++ Received p (Some (TFault status not_run)) ∷ []) b (told_if was (fates.Fault status not_run) rows)) (sym (told refl))
    (told_rows table events (Received p (Some (TFault status not_run))) (fates.Fault status not_run) rows was (λ e. (refl, fault_is status not_run)) h)

rows_told : (out_ : Bool) (t : Option Outcome) (rows : List Row) → length (tells out_ t rows) ≡ length rows
rows_told out_ None rows = refl
rows_told out_ (Some (TDone m)) rows = rows_if out_ (fates.Done m) rows
rows_told out_ (Some (TFault status not_run)) rows = rows_if out_ (fates.Fault status not_run) rows
rows_told out_ (Some (TBound group)) rows = refl
rows_told out_ (Some (TNotBound reason)) rows = refl
rows_told out_ (Some (TBroken fault)) rows = refl

hears_pdu : (table : TableForm) (c d : CallerEnd) (p : Pdu) (t : Option Outcome) → HearsPdu c p t d → CallerIs table c → CallerIs table d
hears_pdu table c d p t h i =
    let on = hears_on c.state h.state p p.body t i.only h.hears in
    subst (λ (x : CallerEnd). CallerIs table x) (sym h.after) (record {
      only = on.only;
      interface = (keeps c.state h.state p p.body t h.hears).interface ∙ i.interface;
      count = omega (arith, rows_told (is_calling c.state) t c.rows, i.count, started_append c.events (Received p t ∷ []));
      rows = heard_rows table c.events p t c.rows (is_calling c.state) (is_calling h.state) on.quiet on.told i.rows;
    })

unless : (b : Bool) (table : TableForm) (c d : CallerEnd) (more : List Pdu) (broken : Bool) → (HearsPdus c more d broken → CallerIs table d) → CallerIs table c → IfBroken b ((d ≡ c) × (broken ≡ true)) (HearsPdus c more d broken) → CallerIs table d
unless true table c d more broken go i h = subst (λ (x : CallerEnd). CallerIs table x) (sym h.0) i
unless false table c d more broken go i h = go h

hears_pdus : (pdus : List Pdu) (table : TableForm) (c d : CallerEnd) (broken : Bool) → HearsPdus c pdus d broken → CallerIs table c → CallerIs table d
hears_pdus [] table c d broken h i = subst (λ (x : CallerEnd). CallerIs table x) (sym h.0) i
hears_pdus (p ∷ more) table c d broken (t, between, first, later) i =
    let on = hears_pdu table c between p t first i in
    unless (breaks t) table between d more broken (λ h. hears_pdus more table between d broken h on) on later

pub hears_rows : (table : TableForm) (c d : CallerEnd) (octets : List ℕ) (broken : Bool) → HearsOctets c octets d broken → CallerIs table c → CallerIs table d
hears_rows table c d octets broken h i =
    let k = hears_pdus h.cut.pdus table c h.heard h.by_pdu h.hears i in
    subst (λ (x : CallerEnd). CallerIs table x) (sym h.after) (record { only = k.only; interface = k.interface; count = k.count; rows = k.rows })

-- ---- the connection is lost

lost_first : (called : Bool) → called ≡ true → (first_told (Lost called ∷ []) ≡ fates.Lost) × (fates.Lost ≢ fates.Open)
lost_first true e = (refl, lost_is)
lost_first false e = absurd (cc (e))

pub lost_rows : (table : TableForm) (c : CallerEnd) → CallerIs table c → CallerIs table (lost_caller c)
lost_rows table c i = record {
  only = record { alters = refl; unbound = λ e. absurd (cc (e)) };
  interface = i.interface;
  count = omega (arith, rows_if (is_calling c.state) fates.Lost c.rows, i.count, started_append c.events (Lost (is_calling c.state) ∷ []));
  rows = told_rows table c.events (Lost (is_calling c.state)) fates.Lost c.rows (is_calling c.state) (λ e. lost_first (is_calling c.state) e) i.rows;
}

-- ---- it binds, calls and cancels

pub opens_rows : (table : TableForm) (group : ℕ) (octets : List ℕ) (state : ClientState) → Binds (callers.at_start table) group (Ok octets) state
    → CallerIs table (record { events = DidBind group octets ∷ []; state = state; rest = []; rows = [] })
opens_rows table group octets state binds = record {
  only = subst (λ (x : ClientState). OnlyCalls x) (sym binds.1) (record { alters = refl; unbound = λ e. absurd (cc (e)) });
  interface = ap (λ (x : ClientState). x.interface) binds.1;
  count = refl;
  rows = λ x r at. absurd (none x r at);
}
  where
    none : (x : ℕ) (r : Row) → (let rs : List Row = [] in slice_get rs x) ≡ Some r → ⊥
    none x r at = absurd (cc (at))

pub cancels_rows : (table : TableForm) (c : CallerEnd) (octets : List ℕ) (state : ClientState) → Cancels c.state (Ok octets) state → CallerIs table c → CallerIs table (record c { events = c.events ++ DidCancel octets ∷ []; state = state })
cancels_rows table c octets state h i = subst (λ (s : ClientState). CallerIs table (record c { events = c.events ++ DidCancel octets ∷ []; state = s })) (sym h.1) (record {
  only = i.only;
  interface = i.interface;
  count = omega (arith, i.count, started_append c.events (DidCancel octets ∷ []));
  rows = quiet_rows table c.events (DidCancel octets) (is_calling c.state) c.rows refl i.rows;
})

not_binding : (stage : Stage) → is_bound_at stage ≡ true → is_binding_at stage ≡ false
not_binding stages.Unbound h = refl
not_binding stages.Binding h = absurd (cc (h))
not_binding stages.Bound h = refl

calls_if : (s : ClientState) (op : ℕ) (m : Msg) (maybe : Bool) → is_calling (with_call s op m maybe) ≡ not maybe
calls_if s op m true = refl
calls_if s op m false = refl

-- the row of the call that is started, and those before it
started_row : (table : TableForm) (c : CallerEnd) (op : ℕ) (m : Msg) (octets : List ℕ) (o : OpForm) (maybe : Bool) (x : ℕ) (r : Row) → o.maybe ≡ maybe → slice_get table.ops op ≡ Some o → CallerIs table c → is_calling c.state ≡ false
    → OfMore c.rows (new_row op m) x r → RowIs table (c.events ++ DidCall op m octets ∷ []) (not maybe) (length c.rows + 1) x r
started_row table c op m octets o maybe x r is found i none (before at) = by (i.rows x r at)
  where
    by : RowIs table c.events (is_calling c.state) (length c.rows) x r → RowIs table (c.events ++ DidCall op m octets ∷ []) (not maybe) (length c.rows + 1) x r
    by (over b s ne) = over_on table c.events (DidCall op m octets) (not maybe) (length c.rows + 1) x r b s (λ e f. absurd (omega (arith, within c.rows x r at, f)))
    by (out b wants open_ last_ calls) = absurd (cc (calls, none))
started_row table c op m octets o true x r is found i none (last place row_is) = subst (λ (z : Row). RowIs table (c.events ++ DidCall op m octets ∷ []) false (length c.rows + 1) x z) (sym row_is)
    (over (record { operation = o; found = found; before = c.events; octets = octets; later = []; is = refl; place_is = sym i.count ∙ sym place; fate_is = sym (told_nothing o.maybe) }) (inl is) (λ e. absurd (cc (e))))
started_row table c op m octets o false x r is found i none (last place row_is) = subst (λ (z : Row). RowIs table (c.events ++ DidCall op m octets ∷ []) true (length c.rows + 1) x z) (sym row_is)
    (out (record { operation = o; found = found; before = c.events; octets = octets; later = []; is = refl; place_is = sym i.count ∙ sym place; fate_is = sym (told_nothing o.maybe) }) is refl (omega (arith, place)) refl)

pub starts_rows : (table : TableForm) (c : CallerEnd) (op : ℕ) (m : Msg) (octets : List ℕ) (state : ClientState) → is_bound c.state ≡ true → is_calling c.state ≡ false → Calls c.state op m (Ok octets) state → CallerIs table c
    → CallerIs table (record c { events = c.events ++ DidCall op m octets ∷ []; state = state; rows = c.rows ++ new_row op m ∷ [] })
starts_rows table c op m octets state bound none (o, found, (short, (request, after))) i =
    let mine : slice_get table.ops op ≡ Some o = ap (λ (x : TableForm). slice_get x.ops op) (sym i.interface) ∙ found in
    let calling : is_calling state ≡ not o.maybe = ap (λ (x : ClientState). is_calling x) after ∙ calls_if c.state op m o.maybe in
    let count = length_more c.rows (new_row op m) in
    record {
      only = subst (λ (x : ClientState). OnlyCalls x) (sym after) (record { alters = i.only.alters; unbound = λ e. not_binding c.state.stage bound });
      interface = ap (λ (x : ClientState). x.interface) after ∙ i.interface;
      count = omega (arith, count, i.count, started_append c.events (DidCall op m octets ∷ []));
      rows = λ x r at.
          subst (λ (n : ℕ). RowIs table (c.events ++ DidCall op m octets ∷ []) (is_calling state) n x r) (sym count)
          (subst (λ (b : Bool). RowIs table (c.events ++ DidCall op m octets ∷ []) b (length c.rows + 1) x r) (sym calling)
          (started_row table c op m octets o o.maybe x r refl mine i none (of_more c.rows (new_row op m) x r at)));
    }

-- what a row was told
pub is_told : (table : TableForm) (c : CallerEnd) (x : ℕ) (r : Row) → CallerIs table c → slice_get c.rows x ≡ Some r → IsTold table c.events x r
is_told table c x r i at = by (i.rows x r at)
  where
    by : RowIs table c.events (is_calling c.state) (length c.rows) x r → IsTold table c.events x r
    by (over b s ne) = b
    by (out b wants open_ last_ calls) = b
