-- Octets that are on the way to a caller may come there.
use Rattle.std.proofs.Common.{◌≡◌, ℕ, Bool, true, false, ◌||◌, Option, Some, None, List, [], ◌∷◌, ◌++◌, take, drop, refl, sym, ap, subst, ◌∙◌, append_assoc}
use Rattle.std.proofs.lemmas.List.{length-take-le, take-append-drop}
use Rattle.std.specs.Prelude.{slice_get, is_some}
use Rattle.handle_model.specs.declared.entry.Entry.{Entry}
use Rattle.handle_model.specs.declared.entry.Said.{Said}
use Rattle.pdu_codec.specs.declared.pdu.Pdu.{Pdu}
use Rattle.pdu_codec.specs.declared.pdu.Body.{Body}
use Rattle.pdu_codec.specs.Pdus.{IsPdu, AreSpelled}
use Rattle.pdu_stream.specs.declared.joined.Joined.{Joined}
use Rattle.ndr_table.specs.Tables.{OpForm, TableForm}
use Rattle.ndr_laws.specs.Laws.{ReadIsStub}
use Rattle.client_core.specs.States.{Outcome, ClientState, Calling, is_calling}
use Rattle.client_core.specs.Hears.{HearsBody}
use Rattle.client_core.specs.Histories.ClientEvent.{Received}
use Rattle.client_laws.proofs.Keeping.{keeps}
use Rattle.client_laws.proofs.Responses.{run_at}
use Rattle.client_laws.proofs.Telling.{IsOut}
use Rattle.world_laws.specs.Ends.{CallerEnd, Line}
use Rattle.world_laws.specs.Calling.{tells, breaks, HearsPdu, IfBroken, HearsPdus, HearsOctets, lost_line, LosesLine}
use Rattle.world_laws.specs.Worlds.{World, with_line, Comes}
use Rattle.world_laws.specs.Leading.{AreOnWay}
use Rattle.world_laws.proofs.Lists.{some_is}
use Rattle.world_laws.proofs.Told.{none_more}
use Rattle.world_laws.proofs.Hearing.{Heard, front_of, hear_one}
use Rattle.world_laws.proofs.Hearing.Heard.{part, failed, done, broke}
use Rattle.world_laws.proofs.Truths.{Answering, OnWay, Phase}
use Rattle.world_laws.proofs.Truths.Answering.{by_fault, by_pieces}
use Rattle.world_laws.proofs.Truths.Phase.{unbound, binding, free, calling, answering, dropped}
use Rattle.world_laws.proofs.AskedRows.{AllAsked}
use Rattle.world_laws.proofs.Worlds.{is_true}
use Rattle.world_laws.proofs.TellFates.{tells_all}
use Rattle.world_laws.proofs.Leading.{some_leave}
use Rattle.world_moves.specs.Leads.{CallersLead}
use Rattle.world_moves.proofs.leads.Cuts.{front_cut}
use Rattle.world_moves.proofs.leads.Hearing.{IsReady, AllReady, hears_any}

-- ---- PDUs, one after the other

abbrev HearsSo : CallerEnd → List Pdu → Type 0
HearsSo c came = (d : CallerEnd) × (broken : Bool) × HearsPdus c came d broken

abbrev heard : CallerEnd → Pdu → Option Outcome → ClientState → CallerEnd
heard c p t n = record c { events = c.events ++ Received p t ∷ []; state = n; rows = tells (is_calling c.state) t c.rows }

then_hear : (c : CallerEnd) (p : Pdu) (came : List Pdu) (t : Option Outcome) (n : ClientState) → HearsBody c.state p p.body t n → (breaks t ≡ false → HearsSo (heard c p t n) came) → HearsSo c (p ∷ came)
then_hear c p came t n h go = by (breaks t) refl
  where
    first : HearsPdu c p t (heard c p t n)
    first = record { state = n; hears = h; after = refl }

    by : (b : Bool) → breaks t ≡ b → HearsSo c (p ∷ came)
    by true e =
        let end : IfBroken true ((heard c p t n ≡ heard c p t n) × (true ≡ true)) (HearsPdus (heard c p t n) came (heard c p t n) true) = (refl, refl) in
        (heard c p t n, true, (t, heard c p t n, first, subst (λ (x : Bool). IfBroken x ((heard c p t n ≡ heard c p t n) × (true ≡ true)) (HearsPdus (heard c p t n) came (heard c p t n) true)) (sym e) end))
    by false e =
        let (d, broken, rest) = go e in
        (d, broken, (t, heard c p t n, first, subst (λ (x : Bool). IfBroken x ((d ≡ heard c p t n) × (broken ≡ true)) (HearsPdus (heard c p t n) came d broken)) (sym e) rest))

hear_nothing : (came : List Pdu) (c : CallerEnd) → came ≡ [] → HearsSo c came
hear_nothing [] c e = (c, false, (refl, refl))
hear_nothing (p ∷ came) c e = absurd (cc (e))

-- ---- while no call is out

none_ready : (s : ClientState) (body : Body) → s.call ≡ None → AllReady s body
none_ready s body none b is c at = absurd (cc (none, at))

hear_one_alone : (came later : List Pdu) (q : Pdu) (c : CallerEnd) → ReadIsStub → c.state.call ≡ None → q ∷ [] ≡ came ++ later → HearsSo c came
hear_one_alone [] later q c law none e = (c, false, (refl, refl))
hear_one_alone (p ∷ came) later q c law none e =
    let (t, n, h) = hears_any c.state p law (none_ready c.state p.body none) in
    let nothing : [] ≡ came ++ later = tail q p [] (came ++ later) e in
    then_hear c p came t n h (λ on. hear_nothing came (heard c p t n) (none_more came later (sym nothing)).0)
  where
    tail : (a b : Pdu) (xs ys : List Pdu) → a ∷ xs ≡ b ∷ ys → xs ≡ ys
    tail a b xs ys e = cc

-- ---- the answer to a call

ready_for : (s : ClientState) (call : Calling) (said : Said) (executed : Bool) (p : Pdu) (later : List Pdu) (o : OpForm) → slice_get s.interface.ops call.op ≡ Some o → IsOut s call → Answering s call said executed (p ∷ later) → AllReady s p.body
ready_for s call said executed p later o found out (by_fault caller status id said_is is) b body c at = absurd (cc (body, is))
ready_for s call said executed p later o found out (by_pieces caller first so_far stub size pieces id little said_is joining are begins short is) b body c at =
    let same : call ≡ c = some_is call c (sym out.call ∙ at) in
    subst (λ (x : Calling). IsReady s x) same (record { run = run_at caller first so_far; joining = joining; operation = o; found = found })

hear_answer : (came later : List Pdu) (c : CallerEnd) (call : Calling) (said : Said) (executed : Bool) (o : OpForm) → ReadIsStub → slice_get c.state.interface.ops call.op ≡ Some o → IsOut c.state call
    → Answering c.state call said executed (came ++ later) → HearsSo c came
hear_answer [] later c call said executed o law found out left = (c, false, (refl, refl))
hear_answer (p ∷ came) later c call said executed o law found out left =
    let (t, n, h) = hears_any c.state p law (ready_for c.state call said executed p (came ++ later) o found out left) in
    then_hear c p came t n h (λ on. go t n h on
    (λ (d : Calling) op out_d left_d. hear_answer came later (heard c p t n) d said executed o law (open_ t n h d op) out_d left_d)
    (hear_one c.state n call said executed p (came ++ later) t out left h))
  where
    open_ : (t : Option Outcome) (n : ClientState) → HearsBody c.state p p.body t n → (d : Calling) → d.op ≡ call.op → slice_get n.interface.ops d.op ≡ Some o
    open_ t n h d op =
        ap (λ (x : TableForm). slice_get x.ops d.op) (keeps c.state n p p.body t h).interface ∙ (ap (slice_get c.state.interface.ops) op ∙ found)

    go : (t : Option Outcome) (n : ClientState) → HearsBody c.state p p.body t n → breaks t ≡ false
        → ((d : Calling) → d.op ≡ call.op → IsOut n d → Answering n d said executed (came ++ later) → HearsSo (heard c p t n) came)
        → Heard c.state call said executed (came ++ later) t n → HearsSo (heard c p t n) came
    go t n h on later_on (part none d out_d op message left_d) = later_on d op out_d left_d
    go t n h on later_on (failed status is said_is after none) = hear_nothing came (heard c p t n) (none_more came later none).0
    go t n h on later_on (done m j is said_is little answer after none) = hear_nothing came (heard c p t n) (none_more came later none).0
    go t n h on later_on (broke it) = absurd (cc (it, on))

-- ---- what is on the way in each phase

record Way (l : Line) : Type 0 where
  pdus : List Pdu
  spelled : AreSpelled IsPdu pdus (l.caller.rest ++ l.down)
  hears : (came later : List Pdu) → pdus ≡ came ++ later → HearsSo l.caller came

hears_none : (came later : List Pdu) (c : CallerEnd) → [] ≡ came ++ later → HearsSo c came
hears_none came later c e = hear_nothing came c (none_more came later (sym e)).0

nothing_on : (l : Line) → OnWay l [] → Way l
nothing_on l way = record { pdus = []; spelled = way; hears = λ came later e. hears_none came later l.caller e }

way_of : (table : TableForm) (past : List Entry) (js : List Joined) (l : Line) → ReadIsStub → l.caller.state.interface ≡ table → AllAsked table l.caller.rows → Phase l past js → Way l
way_of table past js l law known asked (unbound a b c way) = nothing_on l way
way_of table past js l law known asked (binding a none b c p way) = record { pdus = p ∷ []; spelled = way; hears = λ came later e. hear_one_alone came later p l.caller law none e }
way_of table past js l law known asked (free a b c way) = nothing_on l way
way_of table past js l law known asked (calling c x j out a b d e f g way) = nothing_on l way
way_of table past js l law known asked (answering c x said executed later out a b says left way) =
    let h = asked x out.row out.is_row in
    let found : slice_get l.caller.state.interface.ops c.op ≡ Some h.operation = ap (λ (y : TableForm). slice_get y.ops c.op) known ∙ (ap (slice_get table.ops) out.op ∙ h.found) in
    record {
      pdus = later;
      spelled = way;
      hears = λ came behind e. hear_answer came behind l.caller c said executed h.operation law found out.out (subst (λ (y : List Pdu). Answering l.caller.state c said executed y) e left);
    }
way_of table past js l law known asked (dropped c x out a b way) = nothing_on l way

-- ---- the move

hears_octets : (l : Line) (front left : List ℕ) → l.down ≡ front ++ left → Way l → (d : CallerEnd) × (broken : Bool) × HearsOctets l.caller front d broken
hears_octets l front left whole way =
    let spelled : AreSpelled IsPdu way.pdus ((l.caller.rest ++ front) ++ left) =
    subst (λ (x : List ℕ). AreSpelled IsPdu way.pdus x) (ap (λ (x : List ℕ). l.caller.rest ++ x) whole ∙ sym (append_assoc l.caller.rest front left)) way.spelled in
    let (cut, is_cut) = front_cut way.pdus (l.caller.rest ++ front) left spelled in
    let f = front_of way.pdus (l.caller.rest ++ front) left cut spelled is_cut in
    let (heard_all, by_pdu, hears) = way.hears cut.pdus f.later f.is in
    (record heard_all { rest = cut.rest }, by_pdu || is_some cut.fault, record { cut = cut; is_cut = is_cut; heard = heard_all; by_pdu = by_pdu; hears = hears; after = refl; broken_is = refl })

-- the connection is lost where the protocol is broken
stands_or_lost : (b : Bool) (l : Line) (past : List Entry) → (m : Line) × (new : List Entry) × IfBroken b (LosesLine l past m new) ((m ≡ l) × (new ≡ past))
stands_or_lost true l past = let (new, leaves) = some_leave past l.server.member in (lost_line l, new, (refl, leaves))
stands_or_lost false l past = (l, past, (refl, refl))

comes_by : (table : TableForm) (w : World) (n i : ℕ) (l : Line) → AreOnWay n l.down → Way l → (v : World) × Comes table w n i l v
comes_by table w n i l (some, few) way =
    let whole : l.down ≡ take n l.down ++ drop n l.down = sym (take-append-drop n l.down) in
    let (caller, broken, hears) = hears_octets l (take n l.down) (drop n l.down) whole way in
    let (line, past, is_line) = stands_or_lost broken (record l { caller = caller; down = drop n l.down }) w.past in (
      with_line w i line past,
      record {
        front = take n l.down;
        left = drop n l.down;
        way = (whole, length-take-le n l.down few, some);
        caller = caller;
        broken = broken;
        hears = hears;
        line = line;
        past = past;
        is_line = is_line;
        after = refl;
      },
    )

pub callers_lead : ReadIsStub → CallersLead
callers_lead law table played w c n fits few p (i, l, at, named, stands, on) =
    let h = (is_true table played w fits few p).lines i l at in
    let t = tells_all table played w p i l at in
    let (v, comes) = comes_by table w n i l on (way_of table w.past _ l law h.interface t.asked (h.phase stands)) in
    (v, (i, l, at, named, stands, comes))
