-- What a caller knows of its calls stays true whatever the caller does and hears.
use Rattle.std.proofs.Common.{◌≡◌, ℕ, ◌+◌, Bool, true, false, ◌||◌, Option, Some, None, List, [], ◌∷◌, ◌++◌, length, refl, sym, ap, subst, ◌∙◌, append_assoc, arith}
use Rattle.std.specs.Prelude.{slice_get, not, is_some}
use Rattle.rpc_base.specs.declared.identifiers.Order.TheVariants.{Little}
use Rattle.handle_model.specs.declared.entry.Entry.{Entry}
use Rattle.handle_model.specs.declared.entry.Said.{Said}
use Rattle.pdu_codec.specs.declared.pdu.Pdu.{Pdu}
use Rattle.pdu_codec.specs.Pdus.{IsPdu, AreSpelled}
use Rattle.pdu_stream.specs.declared.cut.Cut.{Cut}
use Rattle.pdu_stream.specs.declared.joined.Joined.{Joined}
use Rattle.ndr_value.specs.Values.{Msg}
use Rattle.ndr_table.specs.Tables.{TableForm}
use Rattle.ndr_model.specs.declared.way.Way.TheVariants.{Response}
use Rattle.ndr_model.specs.Message.{IsStub}
use Rattle.client_core.specs.States as callers
use Rattle.client_core.specs.States.{Outcome, ClientState, Calling, is_bound, is_bound_at, is_binding_at, is_calling, bind_id, next_id}
use Rattle.client_core.specs.States.Outcome.{TBound, TNotBound, TDone, TFault, TBroken}
use Rattle.client_core.specs.Histories.ClientEvent.{Received}
use Rattle.client_laws.specs.Sending.{EventsAsk}
use Rattle.client_laws.proofs.Keeping.{keeps}
use Rattle.world_laws.specs.Moves.{Fate}
use Rattle.world_laws.specs.Moves.{Fate as fates}
use Rattle.world_laws.specs.Ends.{Row, CallerEnd, Line}
use Rattle.world_laws.specs.Calling.{tells, breaks, IfBroken, HearsPdus, HearsOctets}
use Rattle.world_laws.proofs.Lists.{some_is, within}
use Rattle.world_laws.proofs.Statics.{calls_in}
use Rattle.world_laws.proofs.Truths.{Knows, Says, Answering, answered, OnWay, HasBound, IsOutAt, Phase}
use Rattle.world_laws.proofs.Truths.Says.{refusal, reply}
use Rattle.world_laws.proofs.Truths.Phase.{unbound, binding, free, calling, answering, dropped}
use Rattle.world_laws.proofs.Hearing.{front_of}
use Rattle.world_laws.proofs.Callers.{rows_last}
use Rattle.world_laws.proofs.Truth.{More, TrueLine, knows_on}
use Rattle.world_laws.proofs.Told.{Told, hear_answer, asks_kept, none_more, hear_none, OfLast, of_last, knows_done, knows_fault}
use Rattle.world_laws.proofs.Told.Told.{still, told_fault, told_done, broke_it}
use Rattle.world_laws.proofs.Told.OfLast.{old, changed}

same_numbers : (a : List (Option ℕ)) → More a a
same_numbers a y o at = at

pub knows_same : (table : TableForm) (past : List Entry) (l : Line) (c : CallerEnd) (up down : List ℕ) (standing : Bool) (x : ℕ) (r : Row) (fate : Fate) → Knows table past l x r fate
    → Knows table past (record l { caller = c; up = up; down = down; standing = standing }) x r fate
knows_same table past l c up down standing x r fate h = knows_on table past past l (record l { caller = c; up = up; down = down; standing = standing }) x r fate (same_numbers l.server.numbers) ([], refl) h

pub says_same : (past : List Entry) (l : Line) (c : CallerEnd) (up down : List ℕ) (x : ℕ) (said : Said) (executed : Bool) → Says past l x said executed → Says past (record l { caller = c; up = up; down = down }) x said executed
says_same past l c up down x said executed (refusal at st is none) = refusal at st is none
says_same past l c up down x said executed (reply k answer at r word ran) = reply k answer at r word ran

-- ---- octets come to the caller

record HearTrue (table : TableForm) (past : List Entry) (l : Line) (d : CallerEnd) (left : List ℕ) (broken : Bool) (js : List Joined) : Type 0 where
  told : (x : ℕ) (r : Row) → slice_get d.rows x ≡ Some r → Knows table past l x r r.fate
  rows : length d.rows ≡ length l.caller.rows
  phase : broken ≡ false → Phase (record l { caller = d; down = left }) past js

-- what is known of the connection before
record Before (table : TableForm) (past : List Entry) (l : Line) (js : List Joined) : Type 0 where
  told : (x : ℕ) (r : Row) → slice_get l.caller.rows x ≡ Some r → Knows table past l x r r.fate
  interface : l.caller.state.interface ≡ table
  rows : length js ≡ length l.caller.rows

way_front : (l : Line) (pdus : List Pdu) (front left : List ℕ) (cut : Cut) → OnWay l pdus → l.down ≡ front ++ left → AreSpelled IsPdu pdus ((l.caller.rest ++ front) ++ left)
way_front l pdus front left cut way is = subst (λ (x : List ℕ). AreSpelled IsPdu pdus x) (ap (λ (x : List ℕ). l.caller.rest ++ x) is ∙ sym (append_assoc l.caller.rest front left)) way

-- nothing is heard where nothing is on the way
quiet : (table : TableForm) (past : List Entry) (l : Line) (d : CallerEnd) (front left : List ℕ) (broken : Bool) (js : List Joined) → Before table past l js → HearsOctets l.caller front d broken → l.down ≡ front ++ left → OnWay l []
    → ((rest : List ℕ) → AreSpelled IsPdu [] (rest ++ left) → Phase (record l { caller = record l.caller { rest = rest }; down = left }) past js) → HearTrue table past l d left broken js
quiet table past l d front left broken js b h is way go =
    let f = front_of [] (l.caller.rest ++ front) left h.cut (way_front l [] front left h.cut way is) h.is_cut in
    let nothing = none_more h.cut.pdus f.later (sym f.is) in
    let end = hear_none h.cut.pdus l.caller h.heard h.by_pdu nothing.0 h.hears in
    let d_is : d ≡ record l.caller { rest = h.cut.rest } = h.after ∙ ap (λ (x : CallerEnd). record x { rest = h.cut.rest }) end.0 in
    subst (λ (x : CallerEnd). HearTrue table past l x left broken js) (sym d_is)
    (record { told = b.told; rows = refl; phase = λ whole. go h.cut.rest (subst (λ (x : List Pdu). AreSpelled IsPdu x (h.cut.rest ++ left)) nothing.1 f.spelled) })

tells_none : (t : Option Outcome) (rows : List Row) → tells false t rows ≡ rows
tells_none None rows = refl
tells_none (Some (TDone m)) rows = refl
tells_none (Some (TFault status not_run)) rows = refl
tells_none (Some (TBound group)) rows = refl
tells_none (Some (TNotBound reason)) rows = refl
tells_none (Some (TBroken fault)) rows = refl

-- the answer to a bind
bind_heard : (table : TableForm) (past : List Entry) (l : Line) (heard : CallerEnd) (rest left : List ℕ) (by_pdu broken : Bool) (js : List Joined) (came later : List Pdu) (p : Pdu) → Before table past l js
    → is_bound l.caller.state ≡ false → l.caller.state.call ≡ None → js ≡ [] → HasBound l.server → p ∷ [] ≡ came ++ later → HearsPdus l.caller came heard by_pdu → AreSpelled IsPdu later (rest ++ left)
    → HearTrue table past l (record heard { rest = rest }) left broken js
bind_heard table past l heard rest left by_pdu broken js [] later p b no_bound no_call nothing has is (same, none) spelled =
    subst (λ (x : CallerEnd). HearTrue table past l (record x { rest = rest }) left broken js) (sym same)
    (record { told = b.told; rows = refl; phase = λ whole. binding no_bound no_call nothing has p (subst (λ (x : List Pdu). AreSpelled IsPdu x (rest ++ left)) (sym is) spelled) })
bind_heard table past l heard rest left by_pdu broken js (q ∷ []) later p b no_bound no_call nothing has is (t, between, first, end) spelled =
    let none_left : later ≡ [] = later_none p q later is in
    let heard_is : heard ≡ between = ended (breaks t) heard between by_pdu end in
    let rows : first.state.call ≡ None = no_calls (first.state.call) refl in
    let rows_same : between.rows ≡ l.caller.rows = ap (λ (x : CallerEnd). x.rows) first.after ∙ (ap (λ (x : Option Calling). tells (is_some x) t l.caller.rows) no_call ∙ tells_none t l.caller.rows) in
    let n : CallerEnd = record { events = l.caller.events ++ Received q t ∷ []; state = first.state; rest = rest; rows = l.caller.rows } in
    let is_n : record heard { rest = rest } ≡ n =
    ap (λ (x : CallerEnd). record x { rest = rest }) (heard_is ∙ first.after) ∙ ap (λ (rs : List Row). record { events = l.caller.events ++ Received q t ∷ []; state = first.state; rest = rest; rows = rs })
    (ap (λ (x : Option Calling). tells (is_some x) t l.caller.rows) no_call ∙ tells_none t l.caller.rows) in
    let way : AreSpelled IsPdu [] (rest ++ left) = subst (λ (x : List Pdu). AreSpelled IsPdu x (rest ++ left)) none_left spelled in
    subst (λ (x : CallerEnd). HearTrue table past l x left broken js) (sym is_n)
    (record { told = b.told; rows = refl; phase = λ whole. by_bound (is_bound first.state) refl rows way })
  where
    later_none : (a b2 : Pdu) (xs : List Pdu) → a ∷ [] ≡ b2 ∷ xs → xs ≡ []
    later_none a b2 xs e = cc

    ended : (broke : Bool) (x y : CallerEnd) (b2 : Bool) → IfBroken broke ((x ≡ y) × (b2 ≡ true)) ((x ≡ y) × (b2 ≡ false)) → x ≡ y
    ended true x y b2 e = e.0
    ended false x y b2 e = e.0

    no_calls : (call : Option Calling) → first.state.call ≡ call → call ≡ None
    no_calls None e = refl
    no_calls (Some c) e = let k = (keeps l.caller.state first.state q q.body t first.hears).call c e in absurd (cc (k.1, no_call))

    by_bound : (bd : Bool) → is_bound first.state ≡ bd → first.state.call ≡ None → AreSpelled IsPdu [] (rest ++ left)
        → Phase (record l { caller = record { events = l.caller.events ++ Received q t ∷ []; state = first.state; rest = rest; rows = l.caller.rows }; down = left }) past js
    by_bound false e none way = unbound e none nothing way
    by_bound true e none way = free none has (λ x j le at. absurd (omega (arith, within js x j at, ap length nothing))) way
bind_heard table past l heard rest left by_pdu broken js (q ∷ r ∷ came) later p b no_bound no_call nothing has is h spelled = absurd (omega (arith, ap length is))

-- the answer to a call
call_heard : (table : TableForm) (past : List Entry) (l : Line) (heard : CallerEnd) (rest left : List ℕ) (by_pdu broken : Bool) (js : List Joined) (c : Calling) (x : ℕ) (said : Said) (executed : Bool) (later : List Pdu)
    → Before table past l js → (by_pdu ≡ true → broken ≡ true) → IsOutAt l js c x → HasBound l.server → answered l.server ≡ x + 1 → Says past l x said executed → AreSpelled IsPdu later (rest ++ left)
    → Told table l.caller heard c said executed later by_pdu → HearTrue table past l (record heard { rest = rest }) left broken js
call_heard table past l heard rest left by_pdu broken js c x said executed later b breaks_too out has all says spelled (still whole on out_on op message left_on rows) = record {
  told = λ y r at. b.told y r (ap (λ (rs : List Row). slice_get rs y) (sym rows) ∙ at);
  rows = ap length rows;
  phase = λ unbroken. answering on x said executed later
      (record { out = out_on; last_row = ap length rows ∙ out.last_row; row = out.row; is_row = ap (λ (rs : List Row). slice_get rs x) rows ∙ out.is_row; op = op ∙ out.op; message = message ∙ out.message })
      has all (says_same past l (record heard { rest = rest }) l.up left x said executed says) left_on spelled;
}
call_heard table past l heard rest left by_pdu broken js c x said executed later b breaks_too out has all says spelled (told_fault whole status is rows none nothing) = record {
  told = λ y r at. told y r (of_last (fates.Fault status (not executed)) l.caller.rows y r (ap (λ (rs : List Row). slice_get rs y) (sym rows) ∙ at));
  rows = ap length rows ∙ rows_last (fates.Fault status (not executed)) l.caller.rows;
  phase = λ unbroken. free none has (λ y j le at. absurd (omega (arith, within js y j at, b.rows, out.last_row, all, le))) (subst (λ (ps : List Pdu). AreSpelled IsPdu ps (rest ++ left)) nothing spelled);
}
  where
    told : (y : ℕ) (r : Row) → OfLast (fates.Fault status (not executed)) l.caller.rows y r → Knows table past l y r r.fate
    told y r (old found) = b.told y r found
    told y r (changed was found is_r count) =
        let place : x ≡ y = omega (arith, count, out.last_row) in
        subst (λ (z : Row). Knows table past l y z z.fate) (sym is_r)
        (knows_fault table past l y (record was { fate = fates.Fault status (not executed) }) executed said status (subst (λ (n : ℕ). Says past l n said executed) place says))
call_heard table past l heard rest left by_pdu broken js c x said executed later b breaks_too out has all says spelled (told_done whole m j is o found stub rows none nothing) = record {
  told = λ y r at. told y r (of_last (fates.Done m) l.caller.rows y r (ap (λ (rs : List Row). slice_get rs y) (sym rows) ∙ at));
  rows = ap length rows ∙ rows_last (fates.Done m) l.caller.rows;
  phase = λ unbroken. free none has (λ y i le at. absurd (omega (arith, within js y i at, b.rows, out.last_row, all, le))) (subst (λ (ps : List Pdu). AreSpelled IsPdu ps (rest ++ left)) nothing spelled);
}
  where
    told : (y : ℕ) (r : Row) → OfLast (fates.Done m) l.caller.rows y r → Knows table past l y r r.fate
    told y r (old at) = b.told y r at
    told y r (changed was at is_r count) =
        let place : x ≡ y = omega (arith, count, out.last_row) in
        let row_is : out.row ≡ was = some_is out.row was (sym out.is_row ∙ (ap (λ (n : ℕ). slice_get l.caller.rows n) place ∙ at)) in
        let op : c.op ≡ was.op = out.op ∙ ap (λ (z : Row). z.op) row_is in
        let message : c.message ≡ was.message = out.message ∙ ap (λ (z : Row). z.message) row_is in
        subst (λ (z : Row). Knows table past l y z z.fate) (sym is_r)
        (knows_done table past l y (record was { fate = fates.Done m }) executed said m j o (subst (λ (n : ℕ). Says past l n said executed) place says) is
        (ap (slice_get table.ops) (sym op) ∙ found) (subst (λ (z : Msg). IsStub table.types o Response Little (Some z) m j.stub) message stub))
call_heard table past l heard rest left by_pdu broken js c x said executed later b breaks_too out has all says spelled (broke_it whole rows) = record {
  told = λ y r at. b.told y r (ap (λ (rs : List Row). slice_get rs y) (sym rows) ∙ at);
  rows = ap length rows;
  phase = λ unbroken. absurd (cc (breaks_too whole, unbroken));
}

hear_phase : (table : TableForm) (past : List Entry) (l : Line) (d : CallerEnd) (front left : List ℕ) (broken : Bool) (js : List Joined) → Before table past l js → HearsOctets l.caller front d broken → l.down ≡ front ++ left
    → Phase l past js → HearTrue table past l d left broken js
hear_phase table past l d front left broken js b h is (unbound no_bound none nothing way) = quiet table past l d front left broken js b h is way (λ rest on. unbound no_bound none nothing on)
hear_phase table past l d front left broken js b h is (free none has only way) = quiet table past l d front left broken js b h is way (λ rest on. free none has only on)
hear_phase table past l d front left broken js b h is (calling c x j out has fresh at wants id only way) =
    quiet table past l d front left broken js b h is way
    (λ rest on. calling c x j (record { out = out.out; last_row = out.last_row; row = out.row; is_row = out.is_row; op = out.op; message = out.message }) has fresh at wants id only on)
hear_phase table past l d front left broken js b h is (dropped c x out has all way) =
    quiet table past l d front left broken js b h is way
    (λ rest on. dropped c x (record { out = out.out; last_row = out.last_row; row = out.row; is_row = out.is_row; op = out.op; message = out.message }) has all on)
hear_phase table past l d front left broken js b h is (binding no_bound none nothing has p way) =
    let f = front_of (p ∷ []) (l.caller.rest ++ front) left h.cut (way_front l (p ∷ []) front left h.cut way is) h.is_cut in
    subst (λ (x : CallerEnd). HearTrue table past l x left broken js) (sym h.after)
    (bind_heard table past l h.heard h.cut.rest left h.by_pdu broken js h.cut.pdus f.later p b no_bound none nothing has f.is h.hears f.spelled)
hear_phase table past l d front left broken js b h is (answering c x said executed later out has all says left_on way) =
    let f = front_of later (l.caller.rest ++ front) left h.cut (way_front l later front left h.cut way is) h.is_cut in
    let told = hear_answer h.cut.pdus f.later table l.caller h.heard c said executed h.by_pdu b.interface out.out (subst (λ (ps : List Pdu). Answering l.caller.state c said executed ps) f.is left_on) h.hears in
    subst (λ (y : CallerEnd). HearTrue table past l y left broken js) (sym h.after)
    (call_heard table past l h.heard h.cut.rest left h.by_pdu broken js c x said executed f.later b (λ e. h.broken_is ∙ ap (λ (y : Bool). y || is_some h.cut.fault) e) out has all says f.spelled told)

-- both where the connection goes on and where it breaks
pub record Hearing (table : TableForm) (past : List Entry) (l : Line) (d : CallerEnd) (left : List ℕ) (broken : Bool) : Type 0 where
  pub goes_on : broken ≡ false → TrueLine table past (record l { caller = d; down = left })
  pub ends : TrueLine table past (record l { caller = d; down = left; standing = false })

pub hears_true : (table : TableForm) (past : List Entry) (l : Line) (d : CallerEnd) (front left : List ℕ) (broken : Bool) → TrueLine table past l → l.standing ≡ true → HearsOctets l.caller front d broken → l.down ≡ front ++ left
    → Hearing table past l d left broken
hears_true table past l d front left broken t stands h is =
    let b : Before table past l (calls_in t.asked) = record { told = t.told; interface = t.interface; rows = t.rows } in
    let r = hear_phase table past l d front left broken (calls_in t.asked) b h is (t.phase stands) in
    let asked = asks_kept h.cut.pdus (callers.at_start table) l.caller h.heard h.by_pdu t.asked table h.hears (t.begun, t.interface) in
    let begun = subst (λ (x : CallerEnd). EventsAsk (callers.at_start table) x.events x.state t.asked) (sym h.after) asked.0 in
    let known = subst (λ (x : CallerEnd). x.state.interface ≡ table) (sym h.after) asked.1 in
    record {
      goes_on = λ whole. record {
        asked = t.asked;
        begun = begun;
        interface = known;
        rows = t.rows ∙ sym r.rows;
        told = λ x row at. knows_same table past l d l.up left l.standing x row row.fate (r.told x row at);
        waits = t.waits;
        accepted = t.accepted;
        phase = λ s. r.phase whole;
      };
      ends = record {
        asked = t.asked;
        begun = begun;
        interface = known;
        rows = t.rows ∙ sym r.rows;
        told = λ x row at. knows_same table past l d l.up left false x row row.fate (r.told x row at);
        waits = t.waits;
        accepted = t.accepted;
        phase = λ s. absurd (cc (s));
      };
    }
