-- Octets come in order, on both ways of each connection.
use Rattle.std.proofs.Common.{◌≡◌, ℕ, Bool, true, false, ◌||◌, Option, Some, None, List, [], ◌∷◌, ◌++◌, refl, sym, ap, subst, ◌∙◌, append-nil, append_assoc, inl, arith}
use Rattle.std.specs.Prelude.{is_some}
use Rattle.handle_model.specs.declared.entry.Entry.{Entry}
use Rattle.pdu_codec.specs.declared.pdu.Pdu.{Pdu}
use Rattle.pdu_codec.specs.Pdus.{IsPdu, AreSpelled}
use Rattle.pdu_codec.specs.declared.fault.PduFault.{PduFault}
use Rattle.pdu_stream.specs.Cuts.{IsPartial, Remains}
use Rattle.pdu_stream.proofs.CutLaws.{spelled_append}
use Rattle.ndr_value.specs.Values.{Msg}
use Rattle.ndr_table.specs.Tables.{TableForm}
use Rattle.conn_histories.specs.Histories.{Event, stream, put}
use Rattle.conn_histories.specs.Histories.Event.{Came}
use Rattle.conn_histories.proofs.Along.{put_in_order}
use Rattle.client_core.specs.States.{Outcome, ClientState, is_calling}
use Rattle.client_core.specs.Histories.{ClientEvent, sent}
use Rattle.client_core.specs.Histories.ClientEvent.{DidBind, DidAlter, DidCall, DidCancel, Received, Lost}
use Rattle.world_laws.specs.Ends.{CallerEnd, Line, new_row}
use Rattle.world_laws.specs.Serving.{ServerDoes}
use Rattle.world_laws.specs.Calling.{breaks, HearsPdu, IfBroken, HearsPdus, HearsOctets, lost_line}
use Rattle.world_laws.specs.Worlds.{opened, starting, cancelling}
use Rattle.world_laws.specs.Telling.{received, ComesInOrder}
use Rattle.world_laws.proofs.Counting.{came_more}
use Rattle.world_laws.proofs.Callers.{sent_more, hears_octets}

pub received_append : (a b : List ClientEvent) → received (a ++ b) ≡ received a ++ received b
received_append [] b = refl
received_append (Received p t ∷ a) b = ap (λ (x : List Pdu). p ∷ x) (received_append a b)
received_append (DidBind group octets ∷ a) b = received_append a b
received_append (DidAlter context octets ∷ a) b = received_append a b
received_append (DidCall op m octets ∷ a) b = received_append a b
received_append (DidCancel octets ∷ a) b = received_append a b
received_append (Lost called ∷ a) b = received_append a b

no_pdu : (events : List ClientEvent) (event : ClientEvent) → received (event ∷ []) ≡ [] → received (events ++ event ∷ []) ≡ received events
no_pdu events event none = received_append events (event ∷ []) ∙ (ap (λ (x : List Pdu). received events ++ x) none ∙ append-nil (received events))

-- ---- the caller sends

pub opens_ways : (table : TableForm) (c group : ℕ) (octets : List ℕ) (state : ClientState) → ComesInOrder (opened table c group octets state)
opens_ways table c group octets state = record { up = octets; to_server = append-nil octets; front = []; down = []; to_caller = refl; pdus = refl; on_way = λ s. (refl, refl); waits = λ s. inl (omega arith); gone = λ s. absurd (cc (s)) }

sends : (l : Line) (c : CallerEnd) (event : ClientEvent) (octets : List ℕ) → l.standing ≡ true → c.events ≡ l.caller.events ++ event ∷ [] → c.rest ≡ l.caller.rest → sent (event ∷ []) ≡ octets → received (event ∷ []) ≡ [] → ComesInOrder l
    → ComesInOrder (record l { caller = c; up = l.up ++ octets })
sends l c event octets stands events rest is none w = record {
  up = w.up ++ octets;
  to_server = ap sent events ∙ (sent_more l.caller.events event ∙ ((λ i. w.to_server i ++ is i) ∙ append_assoc (stream l.server.events) w.up octets));
  front = w.front;
  down = w.down;
  to_caller = w.to_caller;
  pdus = subst (λ (ps : List Pdu). AreSpelled IsPdu ps w.front) (sym (ap received events ∙ no_pdu l.caller.events event none)) w.pdus;
  on_way = λ s. (let p = w.on_way s in (ap (λ (x : List ℕ). x ++ octets) p.0, p.1 ∙ ap (λ (x : List ℕ). x ++ l.down) (sym rest)));
  waits = λ s. subst (λ (x : List ℕ). IsPartial x) (sym rest) (w.waits s);
  gone = λ s. absurd (cc (stands, s));
}

pub starts_ways : (table : TableForm) (l : Line) (op : ℕ) (m : Msg) (octets : List ℕ) (state : ClientState) → l.standing ≡ true → ComesInOrder l → ComesInOrder (starting table l op m octets state)
starts_ways table l op m octets state stands w =
    sends l (record l.caller { events = l.caller.events ++ DidCall op m octets ∷ []; state = state; rows = l.caller.rows ++ new_row op m ∷ [] }) (DidCall op m octets) octets stands refl refl (append-nil octets) refl w

pub cancels_ways : (table : TableForm) (l : Line) (octets : List ℕ) (state : ClientState) → l.standing ≡ true → ComesInOrder l → ComesInOrder (cancelling table l octets state)
cancels_ways table l octets state stands w = sends l (record l.caller { events = l.caller.events ++ DidCancel octets ∷ []; state = state }) (DidCancel octets) octets stands refl refl (append-nil octets) refl w

-- ---- the server

pub does_ways : (table : TableForm) (l m : Line) (past new : List Entry) (event : Event) → l.standing ≡ true → stream (event ∷ []) ≡ [] → ServerDoes (table ∷ []) l past event m new → ComesInOrder l → ComesInOrder m
does_ways table l m past new event stands none d w =
    let both = (put_in_order l.server.events (event ∷ [])).0 in
    subst (λ (x : Line). ComesInOrder x) (sym d.then_) (record {
      up = w.up;
      to_server = w.to_server ∙ ap (λ (x : List ℕ). x ++ w.up) (sym (both.came ∙ (ap (λ (x : List ℕ). stream l.server.events ++ x) none ∙ append-nil (stream l.server.events))));
      front = w.front;
      down = w.down ++ put (event ∷ []);
      to_caller = both.puts ∙ (ap (λ (x : List ℕ). x ++ put (event ∷ [])) w.to_caller ∙ append_assoc w.front w.down (put (event ∷ [])));
      pdus = w.pdus;
      on_way = λ s. (let p = w.on_way s in (p.0, ap (λ (x : List ℕ). x ++ put (event ∷ [])) p.1 ∙ append_assoc l.caller.rest l.down (put (event ∷ []))));
      waits = w.waits;
      gone = λ s. absurd (cc (stands, s));
    })

pub comes_ways : (table : TableForm) (l m : Line) (past new : List Entry) (front left : List ℕ) → l.standing ≡ true → l.up ≡ front ++ left → ServerDoes (table ∷ []) (record l { up = left }) past (Came front) m new → ComesInOrder l → ComesInOrder m
comes_ways table l m past new front left stands way d w =
    let both = (put_in_order l.server.events (Came front ∷ [])).0 in
    let p = w.on_way stands in
    subst (λ (x : Line). ComesInOrder x) (sym d.then_) (record {
      up = left;
      to_server = w.to_server ∙ (ap (λ (x : List ℕ). stream l.server.events ++ x) (p.0 ∙ way) ∙ (sym (append_assoc (stream l.server.events) front left)
          ∙ ap (λ (x : List ℕ). x ++ left) (sym (came_more l.server.events front).0)));
      front = w.front;
      down = w.down;
      to_caller = both.puts ∙ (append-nil (put l.server.events) ∙ w.to_caller);
      pdus = w.pdus;
      on_way = λ s. (refl, p.1 ∙ ap (λ (x : List ℕ). l.caller.rest ++ x) (sym (append-nil l.down)));
      waits = w.waits;
      gone = λ s. absurd (cc (stands, s));
    })

-- ---- the caller hears

-- PDUs were heard up to one that broke the protocol
record HeardFront (c d : CallerEnd) (pdus : List Pdu) (broken : Bool) : Type 0 where
  came : List Pdu
  unheard : List Pdu
  is : pdus ≡ came ++ unheard
  events : received d.events ≡ received c.events ++ came
  all : broken ≡ false → unheard ≡ []

heard_one : (c d : CallerEnd) (p : Pdu) (t : Option Outcome) → HearsPdu c p t d → received d.events ≡ received c.events ++ p ∷ []
heard_one c d p t h = ap (λ (x : CallerEnd). received x.events) h.after ∙ received_append c.events (Received p t ∷ [])

heard_more : (b : Bool) (c between d : CallerEnd) (p : Pdu) (more : List Pdu) (broken : Bool) → received between.events ≡ received c.events ++ p ∷ [] → (HearsPdus between more d broken → HeardFront between d more broken)
    → IfBroken b ((d ≡ between) × (broken ≡ true)) (HearsPdus between more d broken) → HeardFront c d (p ∷ more) broken
heard_more true c between d p more broken first go h = record {
  came = p ∷ [];
  unheard = more;
  is = refl;
  events = ap (λ (x : CallerEnd). received x.events) h.0 ∙ first;
  all = λ e. absurd (cc (e, h.1));
}
heard_more false c between d p more broken first go h =
    let r = go h in
    record {
      came = p ∷ r.came;
      unheard = r.unheard;
      is = ap (λ (x : List Pdu). p ∷ x) r.is;
      events = r.events ∙ (ap (λ (x : List Pdu). x ++ r.came) first ∙ append_assoc (received c.events) (p ∷ []) r.came);
      all = r.all;
    }

heard_pdus : (pdus : List Pdu) (c d : CallerEnd) (broken : Bool) → HearsPdus c pdus d broken → HeardFront c d pdus broken
heard_pdus [] c d broken h = record { came = []; unheard = []; is = refl; events = ap (λ (x : CallerEnd). received x.events) h.0 ∙ sym (append-nil (received c.events)); all = λ e. refl }
heard_pdus (p ∷ more) c d broken (t, between, first, later) =
    heard_more (breaks t) c between d p more broken (heard_one c between p t first) (λ h. heard_pdus more between d broken h) later

record Spelled (a b : List Pdu) (octets : List ℕ) : Type 0 where
  front : List ℕ
  left : List ℕ
  whole : octets ≡ front ++ left
  first : AreSpelled IsPdu a front
  second : AreSpelled IsPdu b left

spelled_parts : (a b : List Pdu) (octets : List ℕ) → AreSpelled IsPdu (a ++ b) octets → Spelled a b octets
spelled_parts [] b octets h = record { front = []; left = octets; whole = refl; first = refl; second = h }
spelled_parts (p ∷ a) b octets (first, others, whole, is, more) =
    let r = spelled_parts a b others more in
    record {
      front = first ++ r.front;
      left = r.left;
      whole = whole ∙ (ap (λ (x : List ℕ). first ++ x) r.whole ∙ sym (append_assoc first r.front r.left));
      first = (first, r.front, refl, is, r.first);
      second = r.second;
    }

or_parts : (a b c : Bool) → c ≡ (a || b) → c ≡ false → a ≡ false
or_parts true b c e f = absurd (cc (e, f))
or_parts false b c e f = refl

or_second : (a b c : Bool) → c ≡ (a || b) → c ≡ false → b ≡ false
or_second true b c e f = absurd (cc (e, f))
or_second false b c e f = sym e ∙ f

is_partial : (rest : List ℕ) (fault : Option PduFault) → is_some fault ≡ false → Remains rest fault → IsPartial rest
is_partial rest None none r = r
is_partial rest (Some fault) none r = absurd (cc (none))

-- what was heard, and what is left of what the server put
record After (l : Line) (d : CallerEnd) (left : List ℕ) (broken : Bool) : Type 0 where
  front : List ℕ
  down : List ℕ
  to_caller : put l.server.events ≡ front ++ down
  pdus : AreSpelled IsPdu (received d.events) front
  whole : broken ≡ false → down ≡ d.rest ++ left

after_hearing : (l : Line) (d : CallerEnd) (came left : List ℕ) (broken : Bool) → l.standing ≡ true → l.down ≡ came ++ left → HearsOctets l.caller came d broken → ComesInOrder l → After l d left broken
after_hearing l d came left broken stands way h w =
    let hp = heard_pdus h.cut.pdus l.caller h.heard h.by_pdu h.hears in
    let cut = h.is_cut in
    let parts = spelled_parts hp.came hp.unheard cut.front (subst (λ (ps : List Pdu). AreSpelled IsPdu ps cut.front) hp.is cut.pdus) in
    let rest = l.caller.rest in
    let first : (rest ++ came) ++ left ≡ ((parts.front ++ parts.left) ++ h.cut.rest) ++ left = ap (λ (x : List ℕ). x ++ left) (cut.whole ∙ ap (λ (x : List ℕ). x ++ h.cut.rest) parts.whole) in
    let second : ((parts.front ++ parts.left) ++ h.cut.rest) ++ left ≡ parts.front ++ (parts.left ++ (h.cut.rest ++ left)) =
    append_assoc (parts.front ++ parts.left) h.cut.rest left ∙ append_assoc parts.front parts.left (h.cut.rest ++ left) in
    let down : w.down ≡ parts.front ++ (parts.left ++ (h.cut.rest ++ left)) =
    (w.on_way stands).1 ∙ (ap (λ (x : List ℕ). rest ++ x) way ∙ (sym (append_assoc rest came left) ∙ (first ∙ second))) in
    record {
      front = w.front ++ parts.front;
      down = parts.left ++ (h.cut.rest ++ left);
      to_caller = w.to_caller ∙ (ap (λ (x : List ℕ). w.front ++ x) down ∙ sym (append_assoc w.front parts.front (parts.left ++ (h.cut.rest ++ left))));
      pdus = subst (λ (ps : List Pdu). AreSpelled IsPdu ps (w.front ++ parts.front)) (sym (ap (λ (x : CallerEnd). received x.events) h.after ∙ hp.events))
          (spelled_append (received l.caller.events) hp.came w.front parts.front w.pdus parts.first);
      whole = λ e.
          (let none : parts.left ≡ [] = subst (λ (ps : List Pdu). AreSpelled IsPdu ps parts.left) (hp.all (or_parts h.by_pdu (is_some h.cut.fault) broken h.broken_is e)) parts.second in
          ap (λ (x : List ℕ). x ++ (h.cut.rest ++ left)) none ∙ ap (λ (x : CallerEnd). x.rest ++ left) (sym h.after));
    }

pub hears_ways : (l : Line) (d : CallerEnd) (came left : List ℕ) → l.standing ≡ true → l.down ≡ came ++ left → HearsOctets l.caller came d false → ComesInOrder l → ComesInOrder (record l { caller = d; down = left })
hears_ways l d came left stands way h w =
    let a = after_hearing l d came left false stands way h w in
    record {
      up = w.up;
      to_server = (hears_octets l.caller d came false h).sent_is ∙ w.to_server;
      front = a.front;
      down = a.down;
      to_caller = a.to_caller;
      pdus = a.pdus;
      on_way = λ s. ((w.on_way stands).0, a.whole refl);
      waits = λ s.
          subst (λ (x : CallerEnd). IsPartial x.rest) (sym h.after) (is_partial h.cut.rest h.cut.fault (or_second h.by_pdu (is_some h.cut.fault) false h.broken_is refl) h.is_cut.remains);
      gone = λ s. absurd (cc (stands, s));
    }

-- ---- the connection is lost

lost_ways : (l : Line) (up front down : List ℕ) → sent l.caller.events ≡ stream l.server.events ++ up → put l.server.events ≡ front ++ down → AreSpelled IsPdu (received l.caller.events) front → ComesInOrder (lost_line l)
lost_ways l up front down to_server to_caller pdus = record {
  up = up;
  to_server = sent_more l.caller.events (Lost (is_calling l.caller.state)) ∙ (append-nil (sent l.caller.events) ∙ to_server);
  front = front;
  down = down;
  to_caller = to_caller;
  pdus = subst (λ (ps : List Pdu). AreSpelled IsPdu ps front) (sym (no_pdu l.caller.events (Lost (is_calling l.caller.state)) refl)) pdus;
  on_way = λ s. absurd (cc (s));
  waits = λ s. absurd (cc (s));
  gone = λ s. (refl, refl);
}

pub breaks_ways : (l : Line) (d : CallerEnd) (came left : List ℕ) → l.standing ≡ true → l.down ≡ came ++ left → HearsOctets l.caller came d true → ComesInOrder l → ComesInOrder (lost_line (record l { caller = d; down = left }))
breaks_ways l d came left stands way h w =
    let a = after_hearing l d came left true stands way h w in
    lost_ways (record l { caller = d; down = left }) w.up a.front a.down ((hears_octets l.caller d came true h).sent_is ∙ w.to_server) a.to_caller a.pdus

pub loses_ways : (l : Line) → ComesInOrder l → ComesInOrder (lost_line l)
loses_ways l w = lost_ways l w.up w.front w.down w.to_server w.to_caller w.pdus
