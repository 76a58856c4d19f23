-- Octets that come to a caller lead to one world alone.
use Rattle.std.proofs.Common.{◌≡◌, ◌≢◌, ℕ, Bool, true, false, ◌||◌, Option, Some, None, Result, Ok, Err, List, [], ◌∷◌, ◌++◌, refl, sym, ap, subst, ◌∙◌, arith}
use Rattle.std.specs.Prelude.{slice_get, is_some}
use Rattle.handle_model.specs.declared.entry.Entry.{Entry}
use Rattle.pdu_codec.specs.declared.pdu.Pdu.{Pdu}
use Rattle.pdu_codec.specs.declared.pdu.Body.{Body}
use Rattle.pdu_codec.specs.declared.pdu.Body.TheVariants as bodies
use Rattle.pdu_codec.specs.declared.pdu.BindAckBody.{BindAckBody}
use Rattle.pdu_codec.specs.declared.pdu.BindNakBody.{BindNakBody}
use Rattle.pdu_codec.specs.declared.pdu.AlterRespBody.{AlterRespBody}
use Rattle.pdu_codec.specs.declared.pdu.ContextResult.{ContextResult}
use Rattle.pdu_stream.specs.declared.cut.Cut.{Cut}
use Rattle.pdu_stream.specs.declared.joined.Joined.{Joined}
use Rattle.pdu_stream.specs.declared.joined.JoinFault.{JoinFault}
use Rattle.pdu_stream.specs.declared.joined.JoinFault.TheVariants as joins
use Rattle.pdu_stream.specs.Fragments.{Fragment, Joining, is_last, AddsFragment}
use Rattle.pdu_stream.proofs.CutLaws.{one_cut}
use Rattle.rpc_base.specs.declared.identifiers.Status.{Status}
use Rattle.ndr_value.specs.Values.{Msg}
use Rattle.ndr_table.specs.Tables.{OpForm, TableForm}
use Rattle.ndr_model.specs.declared.way.Way.TheVariants.{Response}
use Rattle.ndr_model.specs.declared.departure.Departure.{Departure}
use Rattle.ndr_model.specs.declared.departure.Departure.TheVariants as departures
use Rattle.ndr_model.specs.declared.fault.NdrFault.{NdrFault}
use Rattle.ndr_model.specs.declared.fault.NdrFault.TheVariants as faults
use Rattle.ndr_model.specs.Faults.{fault_of, IsFault}
use Rattle.ndr_model.specs.Message.{IsStub, read_stub}
use Rattle.ndr_laws.specs.Laws.{OneMessage, StubIsRead}
use Rattle.client_core.specs.declared.begun.Out.{Out}
use Rattle.client_core.specs.declared.begun.Out.TheVariants as outs
use Rattle.client_core.specs.declared.told.ClientFault.TheVariants.{Direction, Join, Ndr}
use Rattle.client_core.specs.States.{Outcome, ClientState, Calling, is_calling, out_with}
use Rattle.client_core.specs.Histories.ClientEvent.{Received}
use Rattle.client_core.specs.States.Outcome.{TBound, TNotBound, TDone, TFault, TBroken}
use Rattle.client_core.specs.Hears.{AcksBind, AcksAlter, HearsBindAck, HearsBindNak, HearsAlterResp, FaultTells, HearsResponse, IsAnswer, Departs, AnswersCall, HearsBody, answer_fragment, joined_so_far}
use Rattle.conn_histories.proofs.OneAsk.{one_fault, taken_sound}
use Rattle.client_laws.proofs.Keeping.{keeps}
use Rattle.world_laws.specs.Ends.{CallerEnd, Line}
use Rattle.world_laws.specs.Keeping.{IsWholeTable}
use Rattle.world_laws.specs.Calling.{tells, breaks, HearsPdu, IfBroken, HearsPdus, HearsOctets, LosesLine}
use Rattle.world_laws.specs.Worlds.{World, with_line, Moves, Comes}
use Rattle.world_laws.proofs.Lists.{some_is}
use Rattle.world_laws.proofs.RowCalls.{is_op}
use Rattle.world_laws.proofs.Worlds.{is_true}
use Rattle.pdu_stream.proofs.CutLaws.{same_fronts}
use Rattle.world_moves.specs.One.{CallersLeadToOne}
use Rattle.world_moves.proofs.one.Names.{apart, one_line}
use Rattle.world_moves.proofs.one.Still.{one_left}

abbrev Alike : Option Outcome → Option Outcome → ClientState → ClientState → Type 0
Alike t u n k = (t ≡ u) × (n ≡ k)

-- the same is told, and the state is the same
both : (t u x : Option Outcome) (n k y : ClientState) → (t ≡ x) × (n ≡ y) → (u ≡ x) × (k ≡ y) → Alike t u n k
both t u x n k y (a, b) (c, d) = (a ∙ sym c, b ∙ sym d)

-- ---- fragments of a response

true_false : {A : Type 0} (b : Bool) → b ≡ true → b ≡ false → A
true_false b t f = absurd (cc (t, f))

abbrev Adding : Type 0
Adding = Result (Option Joined) JoinFault

-- memory doesn't run out
abbrev Known : Adding → Type 0
Known r = r ≢ Err joins.Memory

fault_known : (f : JoinFault) → (let r : Adding = Err f in Known r) → f ≢ joins.Memory
fault_known f known e = known (ap (λ (x : JoinFault). let r : Adding = Err x in r) e)

one_added : (old : Joining) (f : Fragment) (a b : Adding) (n k : Joining) → Known a → Known b → AddsFragment old f a n → AddsFragment old f b k → (a ≡ b) × (n ≡ k)
one_added (Err fault) f a b n k x y (is, after) (are, later) = (is ∙ sym are, after ∙ sym later)
one_added (Ok run) f (Ok None) (Ok None) n k x y (t, last, after) (t2, last2, later) = (refl, after ∙ sym later)
one_added (Ok run) f (Ok None) (Ok (Some j)) n k x y (t, last, after) (t2, last2, is, later) = true_false (is_last f) last2 last
one_added (Ok run) f (Ok None) (Err fault) n k x y (t, last, after) (h, later) = absurd (taken_sound run f fault (fault_known fault y) t h)
one_added (Ok run) f (Ok (Some j)) (Ok None) n k x y (t, last, is, after) (t2, last2, later) = true_false (is_last f) last last2
one_added (Ok run) f (Ok (Some j)) (Ok (Some i)) n k x y (t, last, is, after) (t2, last2, are, later) = (ap (λ (z : Joined). let r : Adding = Ok (Some z) in r) (is ∙ sym are), after ∙ sym later)
one_added (Ok run) f (Ok (Some j)) (Err fault) n k x y (t, last, is, after) (h, later) = absurd (taken_sound run f fault (fault_known fault y) t h)
one_added (Ok run) f (Err fault) (Ok None) n k x y (h, after) (t, last, later) = absurd (taken_sound run f fault (fault_known fault x) t h)
one_added (Ok run) f (Err fault) (Ok (Some j)) n k x y (h, after) (t, last, is, later) = absurd (taken_sound run f fault (fault_known fault x) t h)
one_added (Ok run) f (Err fault) (Err other) n k x y (h, after) (g, later) =
    let same = one_fault run f fault other (fault_known fault x) (fault_known other y) h g in
    (ap (λ (z : JoinFault). let r : Adding = Err z in r) same, after ∙ (ap (λ (z : JoinFault). let r : Joining = Err z in r) same ∙ sym later))

-- ---- whole responses

departure_of : (fault : NdrFault) (read : Result Msg Departure) → fault ≢ faults.Memory → IsFault fault read → (d : Departure) × (read ≡ Err d) × (fault ≡ fault_of d)
departure_of faults.Memory read known h = absurd (known refl)
departure_of (faults.Short n) read known h = (departures.Short n, h, refl)
departure_of (faults.Bound i) read known h = (departures.Bound i, h, refl)
departure_of (faults.Tag i) read known h = (departures.Tag i, h, refl)
departure_of (faults.Pointer i) read known h = (departures.Pointer i, h, refl)
departure_of (faults.Text i) read known h = (departures.Text i, h, refl)
departure_of (faults.TooDeep i) read known h = (departures.TooDeep i, h, refl)
departure_of (faults.Trailing n) read known h = (departures.Trailing n, h, refl)

err_is : (d e : Departure) → (let r : Result Msg Departure = Err d in r) ≡ Err e → d ≡ e
err_is d e h = cc

one_departure : (s : ClientState) (c : Calling) (j : Joined) (a b : NdrFault) → Departs s c j a → Departs s c j b → a ≡ b
one_departure s c j a b (o, at, known, h) (p, found, sure, g) =
    let same : p ≡ o = some_is p o (sym found ∙ at) in
    let read = read_stub s.interface.types o Response j.order (Some c.message) j.stub in
    let (d, is, from) = departure_of a read known h in
    let (e, are, of_) = departure_of b read sure (subst (λ (x : OpForm). IsFault b (read_stub s.interface.types x Response j.order (Some c.message) j.stub)) same g) in
    from ∙ (ap fault_of (err_is d e (sym is ∙ are)) ∙ sym of_)

abbrev Whole : ClientState → Type 0
Whole s = IsWholeTable s.interface

one_answer : (s : ClientState) (c : Calling) (j : Joined) (m n : Msg) → OneMessage → Whole s → IsAnswer s c j m → IsAnswer s c j n → m ≡ n
one_answer s c j m n law whole (o, at, h) (p, found, g) =
    law s.interface.types o Response j.order (Some c.message) j.stub m n (is_op s.interface c.op o whole at) h
    (subst (λ (x : OpForm). IsStub s.interface.types x Response j.order (Some c.message) n j.stub) (some_is p o (sym found ∙ at)) g)

no_departure : (s : ClientState) (c : Calling) (j : Joined) (m : Msg) (fault : NdrFault) → StubIsRead → Whole s → IsAnswer s c j m → Departs s c j fault → ⊥
no_departure s c j m fault law whole (o, at, h) (p, found, sure, g) =
    let read = read_stub s.interface.types o Response j.order (Some c.message) j.stub in
    let (e, are, of_) = departure_of fault read sure (subst (λ (x : OpForm). IsFault fault (read_stub s.interface.types x Response j.order (Some c.message) j.stub)) (some_is p o (sym found ∙ at)) g) in
    absurd (cc (are, law s.interface.types o Response j.order (Some c.message) j.stub m (is_op s.interface c.op o whole at) h))

data Answers (s : ClientState) (c : Calling) (f : Fragment) (t : Option Outcome) (n : ClientState) : Type 0 where
  part : (joining : Joining) → AddsFragment c.joining f (Ok None) joining → t ≡ None → n ≡ joined_so_far s c joining → Answers s c f t n
  torn : (fault : JoinFault) (joining : Joining) → fault ≢ joins.Memory → AddsFragment c.joining f (Err fault) joining → t ≡ Some (TBroken (Join fault)) → n ≡ joined_so_far s c joining → Answers s c f t n
  wrong : (fault : NdrFault) (j : Joined) (joining : Joining) → AddsFragment c.joining f (Ok (Some j)) joining → Departs s c j fault → t ≡ Some (TBroken (Ndr fault)) → n ≡ joined_so_far s c joining → Answers s c f t n
  done : (m : Msg) (j : Joined) (joining : Joining) → AddsFragment c.joining f (Ok (Some j)) joining → IsAnswer s c j m → t ≡ Some (TDone m) → n ≡ record s { call = None } → Answers s c f t n

answers : (s : ClientState) (c : Calling) (f : Fragment) (t : Option Outcome) (n : ClientState) → AnswersCall s c f t n → Answers s c f t n
answers s c f None n (joining, adds, after) = part joining adds refl after
answers s c f (Some (TBroken (Join fault))) n (known, joining, adds, after) = torn fault joining known adds refl after
answers s c f (Some (TBroken (Ndr fault))) n (j, joining, adds, departs, after) = wrong fault j joining adds departs refl after
answers s c f (Some (TBroken Direction)) n h = absurd h
answers s c f (Some (TDone m)) n (j, joining, adds, is, after) = done m j joining adds is refl after
answers s c f (Some (TBound group)) n h = absurd h
answers s c f (Some (TNotBound reason)) n h = absurd h
answers s c f (Some (TFault status not_run)) n h = absurd h

ok_known : (x : Option Joined) → (let r : Adding = Ok x in Known r)
ok_known x e = absurd (cc (e))

err_known : (f : JoinFault) → f ≢ joins.Memory → (let r : Adding = Err f in Known r)
err_known f known e = known (cc (e))

joined_is : (i j : Joined) → (let r : Adding = Ok (Some i) in r) ≡ Ok (Some j) → i ≡ j
joined_is i j e = cc

join_fault_is : (i j : JoinFault) → (let r : Adding = Err i in r) ≡ Err j → i ≡ j
join_fault_is i j e = cc

apart_results : (old : Joining) (f : Fragment) (a b : Adding) (n k : Joining) → Known a → Known b → AddsFragment old f a n → AddsFragment old f b k → a ≢ b → ⊥
apart_results old f a b n k x y h g other = other (one_added old f a b n k x y h g).0

one_answered : (s : ClientState) (c : Calling) (f : Fragment) (t u : Option Outcome) (n k : ClientState) → OneMessage → StubIsRead → Whole s → Answers s c f t n → Answers s c f u k → Alike t u n k
one_answered s c f t u n k one read whole (part x h is after) (part y g are later) =
    (is ∙ sym are, after ∙ (ap (joined_so_far s c) (one_added c.joining f (Ok None) (Ok None) x y (ok_known None) (ok_known None) h g).1 ∙ sym later))
one_answered s c f t u n k one read whole (part x h is after) (torn fault y known g are later) = absurd (apart_results c.joining f (Ok None) (Err fault) x y (ok_known None) (err_known fault known) h g (λ e. absurd (cc (e))))
one_answered s c f t u n k one read whole (part x h is after) (wrong fault j y g departs are later) = absurd (apart_results c.joining f (Ok None) (Ok (Some j)) x y (ok_known None) (ok_known (Some j)) h g (λ e. absurd (cc (e))))
one_answered s c f t u n k one read whole (part x h is after) (done m j y g answer are later) = absurd (apart_results c.joining f (Ok None) (Ok (Some j)) x y (ok_known None) (ok_known (Some j)) h g (λ e. absurd (cc (e))))
one_answered s c f t u n k one read whole (torn fault x known h is after) (part y g are later) = absurd (apart_results c.joining f (Err fault) (Ok None) x y (err_known fault known) (ok_known None) h g (λ e. absurd (cc (e))))
one_answered s c f t u n k one read whole (torn fault x known h is after) (torn other y sure g are later) =
    let same = one_added c.joining f (Err fault) (Err other) x y (err_known fault known) (err_known other sure) h g in
    (is ∙ (ap (λ (z : JoinFault). Some (TBroken (Join z))) (join_fault_is fault other same.0) ∙ sym are), after ∙ (ap (joined_so_far s c) same.1 ∙ sym later))
one_answered s c f t u n k one read whole (torn fault x known h is after) (wrong other j y g departs are later) = absurd (apart_results c.joining f (Err fault) (Ok (Some j)) x y (err_known fault known) (ok_known (Some j)) h g (λ e. absurd (cc (e))))
one_answered s c f t u n k one read whole (torn fault x known h is after) (done m j y g answer are later) = absurd (apart_results c.joining f (Err fault) (Ok (Some j)) x y (err_known fault known) (ok_known (Some j)) h g (λ e. absurd (cc (e))))
one_answered s c f t u n k one read whole (wrong fault i x h departs is after) (part y g are later) = absurd (apart_results c.joining f (Ok (Some i)) (Ok None) x y (ok_known (Some i)) (ok_known None) h g (λ e. absurd (cc (e))))
one_answered s c f t u n k one read whole (wrong fault i x h departs is after) (torn other y known g are later) = absurd (apart_results c.joining f (Ok (Some i)) (Err other) x y (ok_known (Some i)) (err_known other known) h g (λ e. absurd (cc (e))))
one_answered s c f t u n k one read whole (wrong fault i x h departs is after) (wrong other j y g departs_too are later) =
    let same = one_added c.joining f (Ok (Some i)) (Ok (Some j)) x y (ok_known (Some i)) (ok_known (Some j)) h g in
    let cause = one_departure s c j fault other (subst (λ (z : Joined). Departs s c z fault) (joined_is i j same.0) departs) departs_too in
    (is ∙ (ap (λ (z : NdrFault). Some (TBroken (Ndr z))) cause ∙ sym are), after ∙ (ap (joined_so_far s c) same.1 ∙ sym later))
one_answered s c f t u n k one read whole (wrong fault i x h departs is after) (done m j y g answer are later) =
    let same = one_added c.joining f (Ok (Some i)) (Ok (Some j)) x y (ok_known (Some i)) (ok_known (Some j)) h g in
    absurd (no_departure s c j m fault read whole answer (subst (λ (z : Joined). Departs s c z fault) (joined_is i j same.0) departs))
one_answered s c f t u n k one read whole (done m i x h answer is after) (part y g are later) = absurd (apart_results c.joining f (Ok (Some i)) (Ok None) x y (ok_known (Some i)) (ok_known None) h g (λ e. absurd (cc (e))))
one_answered s c f t u n k one read whole (done m i x h answer is after) (torn other y known g are later) = absurd (apart_results c.joining f (Ok (Some i)) (Err other) x y (ok_known (Some i)) (err_known other known) h g (λ e. absurd (cc (e))))
one_answered s c f t u n k one read whole (done m i x h answer is after) (wrong fault j y g departs are later) =
    let same = one_added c.joining f (Ok (Some i)) (Ok (Some j)) x y (ok_known (Some i)) (ok_known (Some j)) h g in
    absurd (no_departure s c j m fault read whole (subst (λ (z : Joined). IsAnswer s c z m) (joined_is i j same.0) answer) departs)
one_answered s c f t u n k one read whole (done m i x h answer is after) (done q j y g other are later) =
    let same = one_added c.joining f (Ok (Some i)) (Ok (Some j)) x y (ok_known (Some i)) (ok_known (Some j)) h g in
    let message = one_answer s c j m q one whole (subst (λ (z : Joined). IsAnswer s c z m) (joined_is i j same.0) answer) other in
    (is ∙ (ap (λ (z : Msg). Some (TDone z)) message ∙ sym are), after ∙ sym later)

-- ---- PDUs

acks_bind : (s n k : ClientState) (r : Option ContextResult) (group most : ℕ) (t u : Option Outcome) → AcksBind s r group most t n → AcksBind s r group most u k → Alike t u n k
acks_bind s n k None group most t u h g = both t u _ n k _ h g
acks_bind s n k (Some r) group most t u h g = both t u _ n k _ h g

acks_alter : (s n k : ClientState) (id : ℕ) (r : Option ContextResult) (group : ℕ) (t u : Option Outcome) → AcksAlter s id r group t n → AcksAlter s id r group u k → Alike t u n k
acks_alter s n k id None group t u h g = both t u _ n k _ h g
acks_alter s n k id (Some r) group t u h g = both t u _ n k _ h g

bind_ack : (s n k : ClientState) (o : Option Out) (b : BindAckBody) (t u : Option Outcome) → HearsBindAck s o b t n → HearsBindAck s o b u k → Alike t u n k
bind_ack s n k None b t u h g = both t u _ n k _ h g
bind_ack s n k (Some outs.Bind) b t u h g = acks_bind s n k (slice_get b.results 0) b.group b.max_recv t u h g
bind_ack s n k (Some outs.Alter) b t u h g = both t u _ n k _ h g
bind_ack s n k (Some outs.Call) b t u h g = both t u _ n k _ h g

bind_nak : (s n k : ClientState) (o : Option Out) (b : BindNakBody) (t u : Option Outcome) → HearsBindNak s o b t n → HearsBindNak s o b u k → Alike t u n k
bind_nak s n k None b t u h g = both t u _ n k _ h g
bind_nak s n k (Some outs.Bind) b t u h g = both t u _ n k _ h g
bind_nak s n k (Some outs.Alter) b t u h g = both t u _ n k _ h g
bind_nak s n k (Some outs.Call) b t u h g = both t u _ n k _ h g

alter_resp : (s n k : ClientState) (o : Option Out) (id : ℕ) (b : AlterRespBody) (t u : Option Outcome) → HearsAlterResp s o id b t n → HearsAlterResp s o id b u k → Alike t u n k
alter_resp s n k None id b t u h g = both t u _ n k _ h g
alter_resp s n k (Some outs.Bind) id b t u h g = both t u _ n k _ h g
alter_resp s n k (Some outs.Alter) id b t u h g = acks_alter s n k id (slice_get b.results 0) b.group t u h g
alter_resp s n k (Some outs.Call) id b t u h g = both t u _ n k _ h g

fault_tells : (s n k : ClientState) (o : Option Out) (id flags : ℕ) (status : Status) (t u : Option Outcome) → FaultTells s o id flags status t n → FaultTells s o id flags status u k → Alike t u n k
fault_tells s n k None id flags status t u h g = both t u _ n k _ h g
fault_tells s n k (Some out) id flags status t u h g = both t u _ n k _ h g

response : (s n k : ClientState) (o : Option Out) (f : Fragment) (t u : Option Outcome) → OneMessage → StubIsRead → Whole s → HearsResponse s o f t n → HearsResponse s o f u k → Alike t u n k
response s n k None f t u one read whole h g = both t u _ n k _ h g
response s n k (Some outs.Bind) f t u one read whole h g = both t u _ n k _ h g
response s n k (Some outs.Alter) f t u one read whole h g = both t u _ n k _ h g
response s n k (Some outs.Call) f t u one read whole (c, is, h) (d, are, g) =
    one_answered s c f t u n k one read whole (answers s c f t n h) (answers s c f u k (subst (λ (x : Calling). AnswersCall s x f u k) (some_is d c (sym are ∙ is)) g))

one_body : (s n k : ClientState) (p : Pdu) (body : Body) (t u : Option Outcome) → OneMessage → StubIsRead → Whole s → HearsBody s p body t n → HearsBody s p body u k → Alike t u n k
one_body s n k p (bodies.BindAck b) t u one read whole h g = bind_ack s n k (out_with s p.call_id) b t u h g
one_body s n k p (bodies.BindNak b) t u one read whole h g = bind_nak s n k (out_with s p.call_id) b t u h g
one_body s n k p (bodies.AlterResp b) t u one read whole h g = alter_resp s n k (out_with s p.call_id) p.call_id b t u h g
one_body s n k p (bodies.Fault b) t u one read whole h g = fault_tells s n k (out_with s p.call_id) p.call_id p.flags b.status t u h g
one_body s n k p (bodies.Response b) t u one read whole h g = response s n k (out_with s p.call_id) (answer_fragment p b) t u one read whole h g
one_body s n k p bodies.Shutdown t u one read whole h g = both t u _ n k _ h g
one_body s n k p (bodies.Request b) t u one read whole h g = both t u _ n k _ h g
one_body s n k p (bodies.Bind b) t u one read whole h g = both t u _ n k _ h g
one_body s n k p (bodies.Alter b) t u one read whole h g = both t u _ n k _ h g
one_body s n k p bodies.CoCancel t u one read whole h g = both t u _ n k _ h g
one_body s n k p bodies.Orphaned t u one read whole h g = both t u _ n k _ h g

-- ---- one after the other

abbrev Same : CallerEnd → CallerEnd → Bool → Bool → Type 0
Same c d x y = (c ≡ d) × (x ≡ y)

abbrev heard : CallerEnd → Pdu → Option Outcome → ClientState → CallerEnd
heard c p t n = record c { events = c.events ++ Received p t ∷ []; state = n; rows = tells (is_calling c.state) t c.rows }

one_heard : (c d e : CallerEnd) (p : Pdu) (t u : Option Outcome) (n k : ClientState) → Alike t u n k → d ≡ heard c p t n → e ≡ heard c p u k → d ≡ e
one_heard c d e p t u n k (same, are) is also = is ∙ (ap (λ (x : Option Outcome). heard c p x n) same ∙ (ap (λ (x : ClientState). heard c p u x) are ∙ sym also))

one_pdu : (c d e : CallerEnd) (p : Pdu) (t u : Option Outcome) → OneMessage → StubIsRead → Whole c.state → HearsPdu c p t d → HearsPdu c p u e → (t ≡ u) × (d ≡ e)
one_pdu c d e p t u one read whole h g =
    let same = one_body c.state h.state g.state p p.body t u one read whole h.hears g.hears in
    (same.0, one_heard c d e p t u h.state g.state same h.after g.after)

whole_on : (c d : CallerEnd) (p : Pdu) (t : Option Outcome) → HearsPdu c p t d → Whole c.state → Whole d.state
whole_on c d p t h whole =
    subst (λ (x : TableForm). IsWholeTable x) (sym (ap (λ (x : CallerEnd). x.state.interface) h.after ∙ (keeps c.state h.state p p.body t h.hears).interface)) whole

one_hearing : (came : List Pdu) (c d e : CallerEnd) (x y : Bool) → OneMessage → StubIsRead → Whole c.state → HearsPdus c came d x → HearsPdus c came e y → Same d e x y
one_hearing [] c d e x y one read whole (is, on) (are, also) = (is ∙ sym are, on ∙ sym also)
one_hearing (p ∷ came) c d e x y one read whole (t, a, first, later) (u, b, begun, more) =
    let same = one_pdu c a b p t u one read whole first begun in
    let more_so : IfBroken (breaks t) ((e ≡ a) × (y ≡ true)) (HearsPdus a came e y) =
    subst (λ (z : CallerEnd). IfBroken (breaks t) ((e ≡ z) × (y ≡ true)) (HearsPdus z came e y)) (sym same.1)
    (subst (λ (z : Option Outcome). IfBroken (breaks z) ((e ≡ b) × (y ≡ true)) (HearsPdus b came e y)) (sym same.0) more) in
    by (breaks t) (λ h g. one_hearing came a d e x y one read (whole_on c a p t first whole) h g) later more_so
  where
    by : (broken : Bool) → (HearsPdus a came d x → HearsPdus a came e y → Same d e x y) → IfBroken broken ((d ≡ a) × (x ≡ true)) (HearsPdus a came d x) → IfBroken broken ((e ≡ a) × (y ≡ true)) (HearsPdus a came e y) → Same d e x y
    by true go (is, on) (are, also) = (is ∙ sym are, on ∙ sym also)
    by false go h g = go h g

one_octets : (c d e : CallerEnd) (octets : List ℕ) (x y : Bool) → OneMessage → StubIsRead → Whole c.state → HearsOctets c octets d x → HearsOctets c octets e y → Same d e x y
one_octets c d e octets x y one read whole h g =
    let cut : g.cut ≡ h.cut = one_cut (c.rest ++ octets) g.cut h.cut g.is_cut h.is_cut in
    let same = one_hearing h.cut.pdus c h.heard g.heard h.by_pdu g.by_pdu one read whole h.hears (subst (λ (z : Cut). HearsPdus c z.pdus g.heard g.by_pdu) cut g.hears) in (
      h.after ∙ (ap (λ (z : CallerEnd). record z { rest = h.cut.rest }) same.0 ∙ (ap (λ (z : Cut). record g.heard { rest = z.rest }) (sym cut) ∙ sym g.after)),
      h.broken_is ∙ (ap (λ (z : Bool). z || is_some h.cut.fault) same.1 ∙ (ap (λ (z : Cut). g.by_pdu || is_some z.fault) (sym cut) ∙ sym g.broken_is)),
    )

-- ---- the move

abbrev Stands : Bool → Line → List Entry → Line → List Entry → Type 0
Stands broken l past m new = IfBroken broken (LosesLine l past m new) ((m ≡ l) × (new ≡ past))

one_end : (broken : Bool) (l m n : Line) (past new other : List Entry) → Stands broken l past m new → Stands broken l past n other → (m ≡ n) × (new ≡ other)
one_end true l m n past new other (is, left) (are, leaves) = (is ∙ sym are, one_left l.server.member past new other left leaves)
one_end false l m n past new other (is, same) (are, also) = (is ∙ sym are, same ∙ sym also)

one_front : (n : ℕ) (way f g x y : List ℕ) → Moves n way f x → Moves n way g y → (f ≡ g) × (x ≡ y)
one_front n way f g x y (is, count, some) (are, number, more) = same_fronts f g x y (sym is ∙ are) (count ∙ sym number)

abbrev with_caller : Line → CallerEnd → List ℕ → Line
with_caller l c down = record l { caller = c; down = down }

comes : (table : TableForm) (w u v : World) (n i : ℕ) (l : Line) → OneMessage → StubIsRead → Whole l.caller.state → Comes table w n i l u → Comes table w n i l v → u ≡ v
comes table w u v n i l one read whole a b =
    let way = one_front n l.down b.front a.front b.left a.left b.way a.way in
    let ends = one_octets l.caller b.caller a.caller a.front b.broken a.broken one read whole (subst (λ (x : List ℕ). HearsOctets l.caller x b.caller b.broken) way.0 b.hears) a.hears in
    let is_line : Stands a.broken (with_caller l a.caller a.left) w.past b.line b.past =
    subst (λ (x : List ℕ). Stands a.broken (with_caller l a.caller x) w.past b.line b.past) way.1
    (subst (λ (x : CallerEnd). Stands a.broken (with_caller l x b.left) w.past b.line b.past) ends.0
    (subst (λ (x : Bool). Stands x (with_caller l b.caller b.left) w.past b.line b.past) ends.1 b.is_line)) in
    let same = one_end a.broken (with_caller l a.caller a.left) a.line b.line w.past a.past b.past a.is_line is_line in
    a.after ∙ (ap (λ (x : Line). with_line w i x a.past) same.0 ∙ (ap (λ (x : List Entry). with_line w i b.line x) same.1 ∙ sym b.after))

pub callers_lead_to_one : OneMessage → StubIsRead → CallersLeadToOne
callers_lead_to_one one read table played w c n fits whole p u v (i, l, at, named, stands, a) b =
    one_line w c (λ j m. (slice_get w.lines j ≡ Some m) × Comes table w n j m u) (λ j m. Comes table w n j m v) (u ≡ v) (apart table played w p) (i, l, at, named, stands, (at, a)) b
    (λ j m s t. comes table w u v n j m one read (known j m s.0) s.1 t)
  where
    known : (j : ℕ) (m : Line) → slice_get w.lines j ≡ Some m → Whole m.caller.state
    known j m found = subst (λ (x : TableForm). IsWholeTable x) (sym ((is_true table played w fits (omega (arith, whole.is.few)) p).lines j m found).interface) whole
