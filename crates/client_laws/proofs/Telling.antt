-- The answer to a call is told.
use Rattle.std.proofs.Common.{◌≡◌, ◌≢◌, ℕ, ◌+◌, ◌≤◌, Bool, true, false, cond, eqb, List, [], ◌∷◌, ◌++◌, length, Option, Some, None, Ok, Err, refl, sym, ap, subst, ◌∙◌, append_assoc, arith, length-append}
use Rattle.std.proofs.lemmas.Bool.{eq-eqb}
use Rattle.std.specs.Prelude.{◌&&◌, slice_get, Result}
use Rattle.pdu_stream.specs.declared.joined.Joined.{Joined}
use Rattle.pdu_stream.specs.declared.joined.JoinFault.{JoinFault}
use Rattle.pdu_stream.specs.declared.joined.JoinFault.TheVariants as joins_by
use Rattle.pdu_stream.specs.Pieces.{ArePieces}
use Rattle.pdu_stream.specs.Fragments.{Fragment, is_last, with_fragment, HasOrder, HasOtherOrder, IsTaken, IsJoinFault, AddsFragment, most_stub}
use Rattle.ndr_value.specs.Values.{Msg}
use Rattle.ndr_table.specs.Tables.{OpForm}
use Rattle.ndr_model.specs.declared.departure.Departure.{Departure}
use Rattle.ndr_model.specs.declared.way.Way.TheVariants.{Response}
use Rattle.ndr_model.specs.Message.{IsStub, read_stub}
use Rattle.ndr_laws.specs.Laws.{IsOp, OneMessage, StubIsRead}
use Rattle.ndr_model.specs.declared.fault.NdrFault.{NdrFault}
use Rattle.ndr_model.specs.declared.fault.NdrFault.TheVariants as ndr
use Rattle.ndr_model.specs.Faults.{IsFault}
use Rattle.conn_asks.specs.declared.events.Caller.{Caller}
use Rattle.conn_asks.specs.Answers.{octets_in}
use Rattle.client_core.specs.declared.begun.Out.TheVariants as outs
use Rattle.client_core.specs.declared.begun.Out as begun
use Rattle.client_core.specs.declared.told.ClientFault.TheVariants.{Direction, Join, Ndr}
use Rattle.client_core.specs.States.{Outcome, ClientState, Calling, is_binding_at, bind_id, has_id, out_with}
use Rattle.client_core.specs.States.Outcome.{TBound, TNotBound, TDone, TFault, TBroken}
use Rattle.client_core.specs.Histories.{with_outcome}
use Rattle.client_core.proofs.Putting.{octets_in-pieces}
use Rattle.client_core.specs.Hears.{HearsResponse, AnswersCall, IsAnswer, Departs, joined_so_far}
use Rattle.client_laws.specs.Meeting.{HearsAll}
use Rattle.client_laws.specs.Ends.{IsWaiting}
use Rattle.client_laws.proofs.Joining.{positive}
use Rattle.client_laws.proofs.Responses.{says_last, response_pdus, whole_answer, run_at, Begins, fragment_at, joins, taken}

-- ---- what is out

-- a call is out, joined so far to this, and it isn't taken for a bind
pub record IsOut (s : ClientState) (c : Calling) : Type 0 where
  pub call : s.call ≡ Some c
  pub no_bind : (is_binding_at s.stage && eqb c.id bind_id) ≡ false

found_by : (b : Bool) (id : ℕ) (c : Calling) (other : Option begun.Out) → c.id ≡ id → b ≡ false
    → cond b (Some outs.Bind) (cond (has_id id (Some c)) (Some outs.Call) other) ≡ Some outs.Call
found_by true id c other is h = absurd (cc (h))
found_by false id c other is h = rw (eq-eqb c.id id is) refl

not_bind : (b : Bool) (rest : Option begun.Out) → cond b (Some outs.Bind) rest ≡ Some outs.Call → b ≡ false
not_bind true rest h = absurd (cc (h))
not_bind false rest h = refl

pub is_out : (s : ClientState) (c : Calling) → IsWaiting s c → IsOut s c
is_out s c w = record { call = w.call; no_bind = not_bind (is_binding_at s.stage && eqb c.id bind_id) _ w.out }

pub out_is : (s : ClientState) (c : Calling) → IsOut s c → out_with s c.id ≡ Some outs.Call
out_is s c o = rw o.call (found_by (is_binding_at s.stage && eqb c.id bind_id) c.id c _ refl o.no_bind)

-- ---- what can't be answered to a fragment that is taken

other_order : (run : Option Joined) (f : Fragment) → HasOrder run f → HasOtherOrder run f → ⊥
other_order None f h k = k
other_order (Some j) f h k = k h

untaken : (run : Option Joined) (f : Fragment) (why : JoinFault) → IsTaken run f → why ≢ joins_by.Memory → IsJoinFault run f why → ⊥
untaken run f joins_by.FragOrder t known h = absurd (cc (t.0, h))
untaken run f joins_by.FragDrep t known h = other_order run f t.1 h.1
untaken run f joins_by.TooLong t known h = omega (arith, t.2, h.2)
untaken run f joins_by.Memory t known h = known refl

no_fault : (why : NdrFault) (read : Result Msg Departure) (m : Msg) → read ≡ Ok m → why ≢ ndr.Memory → IsFault why read → ⊥
no_fault ndr.Memory read m is known h = known refl
no_fault (ndr.Short i) read m is known h = absurd (cc (is, h))
no_fault (ndr.Bound i) read m is known h = absurd (cc (is, h))
no_fault (ndr.Tag i) read m is known h = absurd (cc (is, h))
no_fault (ndr.Pointer i) read m is known h = absurd (cc (is, h))
no_fault (ndr.Text i) read m is known h = absurd (cc (is, h))
no_fault (ndr.TooDeep i) read m is known h = absurd (cc (is, h))
no_fault (ndr.Trailing i) read m is known h = absurd (cc (is, h))

-- ---- one fragment

-- the response of an operation, as far as laws of stubs tell
pub record IsResponseTo (s : ClientState) (c : Calling) (o : OpForm) : Type 0 where
  pub op : slice_get s.interface.ops c.op ≡ Some o
  pub is_op : IsOp s.interface.types o
  pub one : OneMessage
  pub read : StubIsRead

abbrev pub IsFor : ClientState → Calling → OpForm → Caller → Msg → List ℕ → Type 0
IsFor s c o caller m stub = IsStub s.interface.types o Response caller.order (Some c.message) m stub

same_op : (a : Option OpForm) (o p : OpForm) → a ≡ Some o → a ≡ Some p → p ≡ o
same_op a o p h k = cc (h, k)

-- the message of the joined response is the one that was said
same_message : (s : ClientState) (c : Calling) (o : OpForm) (caller : Caller) (m other : Msg) (stub : List ℕ) (j : Joined) → IsResponseTo s c o → IsFor s c o caller m stub → j ≡ whole_answer caller stub
    → IsAnswer s c j other → other ≡ m
same_message s c o caller m other stub j r is joined (p, found, that) =
    let at_op : IsStub s.interface.types o Response j.order (Some c.message) other j.stub =
    subst (λ (x : OpForm). IsStub s.interface.types x Response j.order (Some c.message) other j.stub) (same_op (slice_get s.interface.ops c.op) o p r.op found) that in
    let there : IsFor s c o caller other stub = subst (λ (x : Joined). IsStub s.interface.types o Response x.order (Some c.message) other x.stub) joined at_op in
    r.one s.interface.types o Response caller.order (Some c.message) stub other m r.is_op there is

-- so it departs nowhere
no_departure : (s : ClientState) (c : Calling) (o : OpForm) (caller : Caller) (m : Msg) (stub : List ℕ) (j : Joined) (why : NdrFault) → IsResponseTo s c o → IsFor s c o caller m stub → j ≡ whole_answer caller stub
    → Departs s c j why → ⊥
no_departure s c o caller m stub j why r is joined (p, found, known, that) =
    let at_op : IsFault why (read_stub s.interface.types o Response j.order (Some c.message) j.stub) =
    subst (λ (x : OpForm). IsFault why (read_stub s.interface.types x Response j.order (Some c.message) j.stub)) (same_op (slice_get s.interface.ops c.op) o p r.op found) that in
    let there : IsFault why (read_stub s.interface.types o Response caller.order (Some c.message) stub) =
    subst (λ (x : Joined). IsFault why (read_stub s.interface.types o Response x.order (Some c.message) x.stub)) joined at_op in
    no_fault why (read_stub s.interface.types o Response caller.order (Some c.message) stub) m (r.read s.interface.types o Response caller.order (Some c.message) stub m r.is_op is) known there

-- A fragment that joins and isn't the last tells nothing.
pub inner : (s n : ClientState) (c : Calling) (run : Option Joined) (f : Fragment) (t : Option Outcome) → c.joining ≡ Ok run → IsTaken run f → is_last f ≡ false → AnswersCall s c f t n
    → (t ≡ None) × (n ≡ joined_so_far s c (Ok (Some (with_fragment run f))))
inner s n c run f None at taken unended (joining, adds, is) =
    let added : AddsFragment (Ok run) f (Ok None) joining = subst (λ (x : Result (Option Joined) JoinFault). AddsFragment x f (Ok None) joining) at adds in
    (refl, is ∙ ap (joined_so_far s c) added.2)
inner s n c run f (Some (TBroken (Join why))) at taken unended (known, joining, adds, is) =
    let added : AddsFragment (Ok run) f (Err why) joining = subst (λ (x : Result (Option Joined) JoinFault). AddsFragment x f (Err why) joining) at adds in
    absurd (untaken run f why taken known added.0)
inner s n c run f (Some (TBroken (Ndr why))) at taken unended (j, joining, adds, departs, is) =
    let added : AddsFragment (Ok run) f (Ok (Some j)) joining = subst (λ (x : Result (Option Joined) JoinFault). AddsFragment x f (Ok (Some j)) joining) at adds in
    absurd (cc (added.1, unended))
inner s n c run f (Some (TBroken Direction)) at taken unended h = absurd h
inner s n c run f (Some (TDone m)) at taken unended (j, joining, adds, answer, is) =
    let added : AddsFragment (Ok run) f (Ok (Some j)) joining = subst (λ (x : Result (Option Joined) JoinFault). AddsFragment x f (Ok (Some j)) joining) at adds in
    absurd (cc (added.1, unended))
inner s n c run f (Some (TBound group)) at taken unended h = absurd h
inner s n c run f (Some (TNotBound reason)) at taken unended h = absurd h
inner s n c run f (Some (TFault status not_run)) at taken unended h = absurd h

-- The last one tells the message.
last : (s n : ClientState) (c : Calling) (o : OpForm) (caller : Caller) (m : Msg) (stub : List ℕ) (run : Option Joined) (f : Fragment) (t : Option Outcome) → c.joining ≡ Ok run → IsTaken run f → is_last f ≡ true
    → with_fragment run f ≡ whole_answer caller stub → IsResponseTo s c o → IsFor s c o caller m stub → AnswersCall s c f t n → (t ≡ Some (TDone m)) × (n ≡ record s { call = None })
last s n c o caller m stub run f None at taken ends joined r is (joining, adds, same) =
    let added : AddsFragment (Ok run) f (Ok None) joining = subst (λ (x : Result (Option Joined) JoinFault). AddsFragment x f (Ok None) joining) at adds in
    absurd (cc (added.1, ends))
last s n c o caller m stub run f (Some (TBroken (Join why))) at taken ends joined r is (known, joining, adds, same) =
    let added : AddsFragment (Ok run) f (Err why) joining = subst (λ (x : Result (Option Joined) JoinFault). AddsFragment x f (Err why) joining) at adds in
    absurd (untaken run f why taken known added.0)
last s n c o caller m stub run f (Some (TBroken (Ndr why))) at taken ends joined r is (j, joining, adds, departs, same) =
    let added : AddsFragment (Ok run) f (Ok (Some j)) joining = subst (λ (x : Result (Option Joined) JoinFault). AddsFragment x f (Ok (Some j)) joining) at adds in
    absurd (no_departure s c o caller m stub j why r is (added.2 ∙ joined) departs)
last s n c o caller m stub run f (Some (TBroken Direction)) at taken ends joined r is h = absurd h
last s n c o caller m stub run f (Some (TDone other)) at taken ends joined r is (j, joining, adds, answer, same) =
    let added : AddsFragment (Ok run) f (Ok (Some j)) joining = subst (λ (x : Result (Option Joined) JoinFault). AddsFragment x f (Ok (Some j)) joining) at adds in
    (ap (λ (x : Msg). Some (TDone x)) (same_message s c o caller m other stub j r is (added.2 ∙ joined) answer), same)
last s n c o caller m stub run f (Some (TBound group)) at taken ends joined r is h = absurd h
last s n c o caller m stub run f (Some (TNotBound reason)) at taken ends joined r is h = absurd h
last s n c o caller m stub run f (Some (TFault status not_run)) at taken ends joined r is h = absurd h

-- ---- one fragment after the other

same_call : (a : Option Calling) (c d : Calling) → a ≡ Some c → a ≡ Some d → d ≡ c
same_call a c d h k = cc (h, k)

-- what is heard of a fragment
pub heard_as : (s n : ClientState) (c : Calling) (caller : Caller) (f : Fragment) (t : Option Outcome) → IsOut s c → caller.call_id ≡ c.id → HearsResponse s (out_with s caller.call_id) f t n → AnswersCall s c f t n
heard_as s n c caller f t o same h =
    let (d, call, answers) : HearsResponse s (Some outs.Call) f t n = subst (λ (x : Option begun.Out). HearsResponse s x f t n) (ap (out_with s) same ∙ out_is s c o) h in
    subst (λ (x : Calling). AnswersCall s x f t n) (same_call s.call c d o.call call) answers

pub heard : (pieces : List (List ℕ)) (s n : ClientState) (c : Calling) (o : OpForm) (caller : Caller) (m : Msg) (size : ℕ) (first : Bool) (so_far stub : List ℕ) (told : List Outcome)
    → IsOut s c → c.joining ≡ Ok (run_at caller first so_far) → caller.call_id ≡ c.id → IsResponseTo s c o → ArePieces size stub pieces → Begins first so_far
    → length so_far + length stub ≤ most_stub → IsFor s c o caller m (so_far ++ stub) → HearsAll s (response_pdus caller first pieces) told n
    → (told ≡ TDone m ∷ []) × (n ≡ record s { call = None })
heard [] s n c o caller m size first so_far stub told out at id r are begins short is h = absurd are
heard (piece ∷ []) s n c o caller m size first so_far stub told out at id r (whole, long) begins short is (t, between, others, hears, told_is, end) =
    let f = fragment_at caller first piece 0 in
    let run = run_at caller first so_far in
    let takes : IsTaken run f = taken caller first so_far piece 0 begins (omega (arith, short, ap length whole)) in
    let joined : with_fragment run f ≡ whole_answer caller (so_far ++ stub) = joins caller first so_far piece 0 begins ∙ ap (λ (x : List ℕ). whole_answer caller (so_far ++ x)) (sym whole) in
    let one = last s between c o caller m (so_far ++ stub) run f t at takes (says_last first true) joined r is (heard_as s between c caller f t out id hears) in
    (told_is ∙ (λ i. with_outcome (one.0 i) (end.0 i)), end.1 ∙ one.1)
heard (piece ∷ next ∷ more) s n c o caller m size first so_far stub told out at id r (behind, whole, long, some, are) begins short is (t, between, others, hears, told_is, later) =
    let left = octets_in (next ∷ more) in
    let count : left ≡ length behind = octets_in-pieces size behind (next ∷ more) are in
    let total : length stub ≡ length piece + length behind = ap length whole ∙ length-append piece behind in
    let f = fragment_at caller first piece left in
    let run = run_at caller first so_far in
    let takes : IsTaken run f = taken caller first so_far piece left begins (omega (arith, short, total)) in
    let unended : is_last f ≡ false = says_last first (eqb left 0) ∙ positive left (omega (arith, count, some)) in
    let one = inner s between c run f t at takes unended (heard_as s between c caller f t out id hears) in
    let joined : with_fragment run f ≡ whole_answer caller (so_far ++ piece) = joins caller first so_far piece left begins in
    let d : Calling = record c { joining = Ok (Some (whole_answer caller (so_far ++ piece))) } in
    let s2 : ClientState = record s { call = Some d } in
    let there : between ≡ s2 = one.1 ∙ ap (λ (j : Joined). joined_so_far s c (Ok (Some j))) joined in
    let same : so_far ++ stub ≡ (so_far ++ piece) ++ behind = ap (λ (x : List ℕ). so_far ++ x) whole ∙ sym (append_assoc so_far piece behind) in
    let rest = heard (next ∷ more) s2 n d o caller m size false (so_far ++ piece) behind others (record { call = refl; no_bind = out.no_bind }) refl id (record { op = r.op; is_op = r.is_op; one = r.one; read = r.read }) are tt
    (omega (arith, short, total, length-append so_far piece)) (subst (λ (x : List ℕ). IsFor s c o caller m x) same is)
    (subst (λ (x : ClientState). HearsAll x (response_pdus caller false (next ∷ more)) others n) there later) in
    (told_is ∙ (ap (λ (x : Option Outcome). with_outcome x others) one.0 ∙ rest.0), rest.1)
