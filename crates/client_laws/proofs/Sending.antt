-- What a caller that binds once sends asks what it began.
use Rattle.std.proofs.Common.{◌≡◌, ℕ, ◌^◌, ◌<◌, ◌≤◌, Bool, true, false, List, [], ◌∷◌, ◌++◌, length, reverse, Option, Some, None, Ok, refl, sym, ap, subst, ◌∙◌, arith}
use Rattle.std.proofs.lemmas.Bool.{eq-eqb}
use Rattle.std.proofs.lemmas.Option.{slice_get_within}
use Rattle.std.specs.Prelude.{slice_get}
use Rattle.std.specs.List.{list_any}
use Rattle.handle_model.proofs.Reversed.{reverse-cons}
use Rattle.pdu_codec.specs.Constants.{stub_offset}
use Rattle.pdu_codec.specs.Pdus.{pdu_octets, IsPdu, AreSpelled}
use Rattle.pdu_codec.specs.declared.pdu.Pdu.{Pdu}
use Rattle.pdu_codec.proofs.AnswerLaws.{pdu_written}
use Rattle.pdu_stream.specs.Pieces.{piece_size}
use Rattle.pdu_stream.specs.Runs.{IsJoining}
use Rattle.pdu_stream.proofs.CutLaws.{spelled_append}
use Rattle.pdu_stream.proofs.RunLaws.{runs_go_on}
use Rattle.ndr_value.specs.Values.{Msg}
use Rattle.ndr_table.specs.Tables.{OpForm, TableForm}
use Rattle.conn_asks.specs.Asks.{is_bound, called, Asks, AreAsks}
use Rattle.conn_asks.specs.declared.events.Ask.{Ask}
use Rattle.conn_asks.specs.declared.events.Ask.TheVariants as asks
use Rattle.client_core.specs.States.{Calling, ClientState, at_start, next_id}
use Rattle.client_core.specs.Octets.{bind_pdu, co_cancel, request_fragments}
use Rattle.client_core.specs.Calls.{asking, binding, out_call, CancelsCall}
use Rattle.client_core.specs.Histories.{ClientEvent, Lives, sent}
use Rattle.client_core.specs.Histories.ClientEvent.{DidBind, DidAlter, DidCall, DidCancel, Received, Lost}
use Rattle.client_core.proofs.Writable.{cancel_writable}
use Rattle.client_laws.specs.Meeting.{IsLawful}
use Rattle.client_laws.specs.Ends.{request_of}
use Rattle.client_laws.specs.Sending.{bind_asked, cancel_asked, EventsAsk, offers, AsksAreSent, SentAsks}
use Rattle.client_laws.proofs.Responses.{all_cut}
use Rattle.client_laws.proofs.Binding.{is_bind, none_open}
use Rattle.client_laws.proofs.Requesting.{Requests, requests, request_spelled}
use Rattle.client_laws.proofs.Keeping.{Keeps, keeps}

-- The caller is at this state, of the interface, and the server has taken these PDUs, the newest first.
record Stands (interface : TableForm) (s : ClientState) (past : List Pdu) : Type 0 where
  interface_is : s.interface ≡ interface
  lawful : IsLawful s.most
  bound : is_bound past ≡ true
  joining : IsJoining (reverse past) None
  called_is : (c : Calling) → s.call ≡ Some c → (called past ≡ Some c.id) × (c.id < 2 ^ 32)

-- what is sent from there on
record Sends (past : List Pdu) (events : List ClientEvent) (asked : List Ask) : Type 0 where
  pdus : List Pdu
  spelled : AreSpelled IsPdu pdus (sent events)
  are : AreAsks past pdus [] asked

joined_on : (past : List Pdu) (p : Pdu) → IsJoining (reverse past ++ p ∷ []) None → IsJoining (reverse (p ∷ past)) None
joined_on past p h = subst (λ (ps : List Pdu). IsJoining ps None) (sym (reverse-cons p past)) h

id_small : (s : ClientState) → next_id s < 2 ^ 32
id_small s = omega arith

-- ---- a call

out_id : (s : ClientState) (op : ℕ) (m : Msg) (maybe : Bool) (c : Calling) → out_call s op m maybe ≡ Some c → next_id s ≡ c.id
out_id s op m true c e = absurd (cc (e))
out_id s op m false c e = ap (λ (x : Calling). x.id) (inner (record { id = next_id s; op = op; message = m; joining = Ok None }) e)
  where
    inner : (d : Calling) → Some d ≡ Some c → d ≡ c
    inner d h = cc

op_few : (interface : TableForm) (s : ClientState) (op : ℕ) (o : OpForm) → s.interface ≡ interface → length interface.ops ≤ 2 ^ 16 → slice_get s.interface.ops op ≡ Some o → op < 2 ^ 16
op_few interface s op o is few found = omega (arith, few, slice_get_within s.interface.ops op o found, ap (λ (t : TableForm). length t.ops) is)

-- ---- a cancel

cancel_is : (id : ℕ) → id < 2 ^ 32 → IsPdu (co_cancel id) (pdu_octets (co_cancel id))
cancel_is id small = pdu_written (co_cancel id) (record { flags = omega arith; call_id = small; body = tt }) (cancel_writable id)

cancel_asks : (past : List Pdu) (id : ℕ) → IsJoining (reverse past) None → called past ≡ Some id → Asks past (co_cancel id) (Some (asks.Cancel id))
cancel_asks past id joining out = record {
  run = None;
  joining = joining;
  asks = rw (out, eq-eqb id id refl) refl;
}

-- ---- one event

-- behind a PDU that is received, or a loss
stays : (interface : TableForm) (s n : ClientState) (past : List Pdu) → Keeps s n → Stands interface s past → Stands interface n past
stays interface s n past k h = record {
  interface_is = k.interface ∙ h.interface_is;
  lawful = k.lawful h.lawful;
  bound = h.bound;
  joining = h.joining;
  called_is = λ c out. (let (d, was, same) = k.call c out in let (called_was, small) = h.called_is d was in (called_was ∙ ap (λ (i : ℕ). Some i) same, omega (arith, small, same)));
}

lost_keeps : (s : ClientState) → Keeps s (at_start s.interface)
lost_keeps s = record { interface = refl; lawful = λ h. (omega arith, omega arith); call = λ c is. absurd (cc (is)) }

silent : (past : List Pdu) (event : ClientEvent) (later : List ClientEvent) (asked first others : List Ask) → sent (event ∷ later) ≡ sent later → first ≡ [] → asked ≡ first ++ others → Sends past later others
    → Sends past (event ∷ later) asked
silent past event later asked first others none nothing whole x = record {
  pdus = x.pdus;
  spelled = subst (λ (octets : List ℕ). AreSpelled IsPdu x.pdus octets) (sym none) x.spelled;
  are = subst (λ (a : List Ask). AreAsks past x.pdus [] a) (sym (whole ∙ ap (λ (a : List Ask). a ++ others) nothing)) x.are;
}

same_op : (a : Option OpForm) (o p : OpForm) → a ≡ Some o → a ≡ Some p → p ≡ o
same_op a o p h k = cc (h, k)

-- ---- a cancel of the call that is out

cancels : (later : List ClientEvent) (interface : TableForm) (s between : ClientState) (past : List Pdu) (octets : List ℕ) (asked first others : List Ask) (call : Option Calling)
    → Stands interface s past → s.call ≡ call → CancelsCall call (Ok octets) → between ≡ s → first ≡ cancel_asked call → asked ≡ first ++ others
    → ((behind : List Pdu) → Stands interface between behind → Sends behind later others) → Sends past (DidCancel octets ∷ later) asked
unfolding called
cancels later interface s between past octets asked first others None h out cancelling after is whole go = absurd cancelling
cancels later interface s between past octets asked first others (Some c) h out cancelling after is whole go =
    let p = co_cancel c.id in
    let (called_is, small) = h.called_is c out in
    let there : Stands interface between (p ∷ past) =
    subst (λ (x : ClientState). Stands interface x (p ∷ past)) (sym after)
    (record {
      interface_is = h.interface_is;
      lawful = h.lawful;
      bound = h.bound;
      joining = joined_on past p (runs_go_on (reverse past) p None None h.joining (false, (refl, refl)));
      called_is = λ d was. still d was;
    }) in
    let rest = go (p ∷ past) there in
    record {
      pdus = p ∷ rest.pdus;
      spelled = (pdu_octets p, sent later, ap (λ (x : List ℕ). x ++ sent later) cancelling, cancel_is c.id small, rest.spelled);
      are = (Some (asks.Cancel c.id), cancel_asks past c.id h.joining called_is, (others, whole ∙ ap (λ (a : List Ask). a ++ others) is, rest.are));
    }
  where
    still : (d : Calling) → s.call ≡ Some d → (called (co_cancel c.id ∷ past) ≡ Some d.id) × (d.id < 2 ^ 32)
    still d was = h.called_is d was

-- ---- one event after the other

sends : (events : List ClientEvent) (interface : TableForm) (s n : ClientState) (past : List Pdu) (asked : List Ask) → length interface.ops ≤ 2 ^ 16 → list_any offers events ≡ false → Stands interface s past
    → EventsAsk s events n asked → Sends past events asked
sends [] interface s n past asked few once h e = record { pdus = []; spelled = refl; are = e.1 }
sends (DidBind group octets ∷ later) interface s n past asked few once h e = absurd (cc (once))
sends (DidAlter context octets ∷ later) interface s n past asked few once h e = absurd (cc (once))
sends (DidCall op m octets ∷ later) interface s n past asked few once h (between, first, others, (o, found, (short, ((pieces, are, put), after))), (p, found_too, first_is), whole, begun) =
    let r : Requests past (request_fragments (next_id s) op o.maybe true pieces) (request_of s op o m) =
    requests pieces past (next_id s) op (piece_size s.most stub_offset) o.maybe true [] (asking s.interface o m) refl (omega (arith, short)) are h.bound h.joining in
    let there : Stands interface between r.behind =
    record {
      interface_is = ap (λ (x : ClientState). x.interface) after ∙ h.interface_is;
      lawful = subst (λ (x : ClientState). IsLawful x.most) (sym after) h.lawful;
      bound = r.bound;
      joining = r.joining;
      called_is = λ c out. (let same : next_id s ≡ c.id = out_id s op m o.maybe c (ap (λ (x : ClientState). x.call) (sym after) ∙ out) in (r.called_is ∙ ap (λ (i : ℕ). Some i) same, omega (arith, same, id_small s)));
    } in
    let rest = sends later interface between n r.behind others few once there begun in
    let pdus = request_fragments (next_id s) op o.maybe true pieces in
    let spelled : AreSpelled IsPdu pdus octets =
    subst (λ (x : List ℕ). AreSpelled IsPdu pdus x) (sym put)
    (request_spelled pieces (next_id s) op (piece_size s.most stub_offset) o.maybe true (asking s.interface o m) (id_small s) (op_few interface s op o h.interface_is few found) short (omega (arith, h.lawful.0, h.lawful.1)) are) in
    let asks_it : asked ≡ asks.Call (request_of s op o m) ∷ others =
    whole ∙ (ap (λ (a : List Ask). a ++ others) first_is ∙ ap (λ (x : OpForm). asks.Call (request_of s op x m) ∷ others) (same_op (slice_get s.interface.ops op) o p found found_too)) in
    record {
      pdus = pdus ++ rest.pdus;
      spelled = spelled_append pdus rest.pdus octets (sent later) spelled rest.spelled;
      are = subst (λ (a : List Ask). AreAsks past (pdus ++ rest.pdus) [] a) (sym asks_it) (r.asks rest.pdus others rest.are);
    }
sends (DidCancel octets ∷ later) interface s n past asked few once h (between, first, others, cancelling, first_is, whole, begun) =
    cancels later interface s between past octets asked first others s.call h refl cancelling.0 cancelling.1 first_is whole (λ behind there. sends later interface between n behind others few once there begun)
sends (Received p t ∷ later) interface s n past asked few once h (between, first, others, hears, first_is, whole, begun) =
    silent past (Received p t) later asked first others refl first_is whole (sends later interface between n past others few once (stays interface s between past (keeps s between p p.body t hears) h) begun)
sends (Lost out ∷ later) interface s n past asked few once h (between, first, others, loses, first_is, whole, begun) =
    silent past (Lost out) later asked first others refl first_is whole
    (sends later interface between n past others few once (stays interface s between past (subst (λ (x : ClientState). Keeps s x) (sym loses.1) (lost_keeps s)) h) begun)

-- ---- from the bind on

bind_asks : (interface : TableForm) (group : ℕ) → Asks [] (bind_pdu interface.id group) (Some (bind_asked (at_start interface) group))
bind_asks interface group = record { run = None; joining = none_open; asks = refl }

behind_bind : (interface : TableForm) (group : ℕ) → Stands interface (binding (at_start interface)) (bind_pdu interface.id group ∷ [])
behind_bind interface group = record {
  interface_is = refl;
  lawful = (omega arith, omega arith);
  bound = refl;
  joining = runs_go_on [] (bind_pdu interface.id group) None None none_open refl;
  called_is = λ c is. absurd (cc (is));
}

pub asks_are_sent : AsksAreSent
asks_are_sent interface [] n asked fits few e once = record { cut = _; is_cut = all_cut [] [] refl; asked = e.1 }
asks_are_sent interface (DidBind group octets ∷ later) n asked fits few (between, first, others, (put, after), first_is, whole, begun) (small, once) =
    let p = bind_pdu interface.id group in
    let there : Stands interface between (p ∷ []) = subst (λ (x : ClientState). Stands interface x (p ∷ [])) (sym after) (behind_bind interface group) in
    let rest = sends later interface between n (p ∷ []) others few once there begun in
    let ask = bind_asked (at_start interface) group in
    let spelled : AreSpelled IsPdu (p ∷ rest.pdus) (octets ++ sent later) =
    (pdu_octets p, sent later, ap (λ (x : List ℕ). x ++ sent later) put, is_bind interface.id group fits small, rest.spelled) in
    record {
      cut = _;
      is_cut = all_cut (p ∷ rest.pdus) (octets ++ sent later) spelled;
      asked = (Some ask, bind_asks interface group, (others, whole ∙ ap (λ (a : List Ask). a ++ others) first_is, rest.are));
    }
asks_are_sent interface (DidAlter context octets ∷ later) n asked fits few e once = absurd once
asks_are_sent interface (DidCall op m octets ∷ later) n asked fits few e once = absurd once
asks_are_sent interface (DidCancel octets ∷ later) n asked fits few e once = absurd once
asks_are_sent interface (Received p t ∷ later) n asked fits few e once = absurd once
asks_are_sent interface (Lost called ∷ later) n asked fits few e once = absurd once

-- ---- there is such a list

pub begun : (events : List ClientEvent) (s n : ClientState) → Lives s events n → (asked : List Ask) × EventsAsk s events n asked
begun [] s n lives = ([], (lives, refl))
begun (DidBind group octets ∷ later) s n (between, h, lives) = (let r = begun later between n lives in (bind_asked s group ∷ r.0, (between, bind_asked s group ∷ [], r.0, h, refl, refl, r.1)))
begun (DidAlter context octets ∷ later) s n (between, h, lives) = (let r = begun later between n lives in (r.0, (between, [], r.0, h, refl, refl, r.1)))
begun (DidCall op m octets ∷ later) s n (between, h, lives) =
    (let r = begun later between n lives in (asks.Call (request_of s op h.0 m) ∷ r.0, (between, asks.Call (request_of s op h.0 m) ∷ [], r.0, h, (h.0, h.1, refl), refl, r.1)))
begun (DidCancel octets ∷ later) s n (between, h, lives) = (let r = begun later between n lives in (cancel_asked s.call ++ r.0, (between, cancel_asked s.call, r.0, h, refl, refl, r.1)))
begun (Received p t ∷ later) s n (between, h, lives) = (let r = begun later between n lives in (r.0, (between, [], r.0, h, refl, refl, r.1)))
begun (Lost out ∷ later) s n (between, h, lives) = (let r = begun later between n lives in (r.0, (between, [], r.0, h, refl, refl, r.1)))

pub sent_asks : SentAsks
sent_asks interface events n fits few lives once =
    let r = begun events (at_start interface) n lives in
    (r.0, asks_are_sent interface events n r.0 fits few r.1 once, r.1)
