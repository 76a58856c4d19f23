-- What is done from a state on is what is asked from there on.
use Rattle.std.proofs.Common.{◌≡◌, ℕ, inl, inr, Bool, List, [], ◌∷◌, ◌++◌, Option, Some, None, Ok, refl, sym, ap, subst, ◌∙◌}
use Rattle.pdu_codec.specs.declared.pdu.Pdu.{Pdu}
use Rattle.pdu_codec.specs.declared.fault.PduFault.{PduFault}
use Rattle.pdu_stream.specs.declared.joined.Joined.{Joined}
use Rattle.pdu_stream.specs.declared.cut.Cut.{Cut}
use Rattle.pdu_stream.specs.Cuts.{IsCut, Remains}
use Rattle.pdu_stream.proofs.CutLaws.{one_cut}
use Rattle.presentation.specs.Offers.{contexts_after, interface_of}
use Rattle.conn_asks.specs.declared.events.Caller.{Caller}
use Rattle.conn_asks.specs.declared.events.ConnFault.{ConnFault}
use Rattle.conn_asks.specs.declared.events.Ask.{Ask}
use Rattle.conn_asks.specs.declared.events.Ask.TheVariants as asks
use Rattle.conn_asks.specs.declared.events.Act.{Act}
use Rattle.conn_asks.specs.declared.events.Act.TheVariants as acts
use Rattle.conn_asks.specs.declared.events.Waits.{Waits}
use Rattle.conn_asks.specs.declared.events.Waits.TheVariants.{Nothing, Group, Call, Over, Failed}
use Rattle.conn_asks.specs.Asks.{Asks, caller_at, broken_by, broken_end, AsksFirst, AreAsks}
use Rattle.conn_asks.specs.States.{ConnState, accepted, DoesWith, is_calling_off, MayCome, TakesPdu, IsIdle, Skips, SkipsAll, ActsAt, StopsAt, Acts, IsStuck, Goes}
use Rattle.conn_asks.specs.States as states
use Rattle.conn_histories.specs.Histories.{Decision, Event, AnswersDecision}
use Rattle.conn_histories.specs.Histories.Decision.{ToGroup, RefuseGroup, Reply}
use Rattle.conn_histories.specs.Histories.Event.{Came, Paused, Did, Decided}
use Rattle.conn_histories.specs.Plays.{Negotiated, offering, Binds, Runs, PlaysCall, Plays, EndsRefused}
use Rattle.conn_histories.proofs.OneAsk.{one_ask}
use Rattle.conn_histories.proofs.Decided.{AnswersAt, at_waits, skips_keep}
use Rattle.conn_histories.proofs.Early.{Acted}
use Rattle.conn_histories.proofs.Passing.{IsOff, idle_off, off_asked}
use Rattle.conn_histories.proofs.Left.{elements_of, Offers, offers_asked, accepted_on, none_offered, Left, left_takes}
use Rattle.conn_histories.proofs.Left.Offers.{offers, broken}

-- ---- what is known at a state

abbrev pub negotiated : ConnState → Negotiated
negotiated m = record { ids = m.ids; accepted = accepted m; agreement = m.agreement }

abbrev sound : Option Ask → Type 0
sound (Some (asks.Broken c f)) = ⊥
sound _ = Unit {0}

known_by : (m n : ConnState) (p : Pdu) (ask : Option Ask) → TakesPdu m p n → sound ask → Offers p.body ask → negotiated n ≡ offering (negotiated m) (elements_of ask)
known_by m n p ask t s (offers e) =
    let accepts : accepted n ≡ contexts_after m.ids (accepted m) (elements_of ask) = accepted_on m n p t ∙ ap (contexts_after m.ids (accepted m)) e in
    λ i. record { ids = t.ids i; accepted = accepts i; agreement = t.agreement i }
known_by m n p ask t s (broken c f e) = absurd (subst sound e s)

known_on : (m n : ConnState) (p : Pdu) (ask : Option Ask) → TakesPdu m p n → sound ask → Asks m.past p ask → negotiated n ≡ offering (negotiated m) (elements_of ask)
known_on m n p ask t s h = known_by m n p ask t s (offers_asked m.past p ask h)

known_same : (m n : ConnState) (p : Pdu) (ask : Option Ask) → TakesPdu m p n → sound ask → elements_of ask ≡ [] → Asks m.past p ask → negotiated n ≡ negotiated m
known_same m n p ask t s none h =
    known_on m n p ask t s h
    ∙ (λ i. record { ids = m.ids; accepted = (ap (contexts_after m.ids (accepted m)) none ∙ none_offered m.ids (accepted m)) i; agreement = m.agreement })

-- ---- what is done from a state on

abbrev pub PlaysAt : Waits → Negotiated → List Ask → List Event → Type 0
PlaysAt Nothing k done all = Plays k done all
PlaysAt (Group c ack) k done all = Binds c ack (λ agreement rest. Plays (record k { agreement = agreement }) done rest) done all
PlaysAt (Call c maybe) k done all = Runs c k.agreement.max_xmit maybe (λ rest. Plays k done rest) done all
PlaysAt Over k done all = (done ≡ []) × (all ≡ [])
PlaysAt Failed k done all = (done ≡ []) × (all ≡ [])

nothing_plays : (w : Waits) (k : Negotiated) → PlaysAt w k [] []
nothing_plays Nothing k = refl
nothing_plays (Group c ack) k = refl
nothing_plays (Call c maybe) k = ([], [], [], refl, refl, refl)
nothing_plays Over k = (refl, refl)
nothing_plays Failed k = (refl, refl)

-- what is left: what is asked from there on; or nothing, since the connection was closed; or what nobody asks for, since
-- its bind was refused
pub data Rest (k : ConnState) (left : List Ask) (all : List Event) : Type 0 where
  open_yet : (k.waits ≡ Over → ⊥) → Left k left → Rest k left all
  closed : k.waits ≡ Over → left ≡ [] → Rest k left all
  refused : k.waits ≡ Over → EndsRefused all → Rest k left all

rest_first : (e : Event) (k : ConnState) (left : List Ask) (all : List Event) → Rest k left all → Rest k left (e ∷ all)
rest_first e k left all (open_yet live l) = open_yet live l
rest_first e k left all (closed over none) = closed over none
rest_first e k left all (refused over r) = refused over (e ∷ r.0, r.1, r.2, ap (λ (x : List Event). e ∷ x) r.3)

pub record Walk (m : ConnState) (all : List Event) (k : ConnState) (asked : List Ask) : Type 0 where
  pub done : List Ask
  pub left : List Ask
  pub whole : asked ≡ done ++ left
  pub plays : PlaysAt m.waits (negotiated m) done all
  pub remaining : Rest k left all

abbrev ask_first : Ask → List Ask → List Ask
ask_first ask later = ask ∷ later

abbrev did_first : List Event → Act → List Event
did_first later act = Did act ∷ later

-- ---- PDUs that are skipped

-- an ask at which nothing is done
ask_passed : (m : ConnState) (all : List Event) (k : ConnState) (asked later : List Ask) (ask : Ask) → m.waits ≡ Nothing → asked ≡ ask ∷ later
    → ((negotiated : Negotiated) (done : List Ask) → Plays negotiated done all → Plays negotiated (ask ∷ done) all) → Walk m all k later → Walk m all k asked
ask_passed m all k asked later ask free e on w =
    let here : Plays (negotiated m) w.done all = subst (λ (v : Waits). PlaysAt v (negotiated m) w.done all) free w.plays in
    record {
      done = ask ∷ w.done;
      left = w.left;
      whole = e ∙ ap (ask_first ask) w.whole;
      plays = subst (λ (v : Waits). PlaysAt v (negotiated m) (ask ∷ w.done) all) (sym free) (on (negotiated m) w.done here);
      remaining = w.remaining;
    }

-- the same state for what is done
walk_from : (m n : ConnState) (all : List Event) (k : ConnState) (asked : List Ask) → n.waits ≡ m.waits → negotiated n ≡ negotiated m → Walk n all k asked → Walk m all k asked
walk_from m n all k asked waits know w = record {
  done = w.done;
  left = w.left;
  whole = w.whole;
  plays = subst (λ (x : Negotiated). PlaysAt m.waits x w.done all) know (subst (λ (v : Waits). PlaysAt v (negotiated n) w.done all) waits w.plays);
  remaining = w.remaining;
}

not_idle : (v : Waits) (ask : Ask) → IsIdle v (Some ask) → (v ≡ Nothing) × IsOff (Some ask)
not_idle Nothing ask h = (refl, idle_off Nothing (Some ask) h)
not_idle (Group c ack) ask h = absurd h
not_idle (Call c maybe) ask h = absurd h
not_idle Over ask h = absurd h
not_idle Failed ask h = absurd h

skip_by : (m n : ConnState) (all : List Event) (k : ConnState) (asked : List Ask) (p : Pdu) (ask : Option Ask) → TakesPdu m p n → Asks m.past p ask → IsIdle m.waits ask → n.waits ≡ m.waits
    → AsksFirst ask (Left n) asked → ((rest : List Ask) → Left n rest → Walk n all k rest) → Walk m all k asked
skip_by m n all k asked p None t h idle waits l go =
    walk_from m n all k asked waits (known_same m n p None t tt refl h) (go asked l)
skip_by m n all k asked p (Some (asks.Cancel id)) t h idle waits l go =
    let on = walk_from m n all k l.0 waits (known_same m n p (Some (asks.Cancel id)) t tt refl h) (go l.0 l.2) in
    ask_passed m all k asked l.0 (asks.Cancel id) (not_idle m.waits (asks.Cancel id) idle).0 l.1 (λ negotiated done x. x) on
skip_by m n all k asked p (Some (asks.Orphan id)) t h idle waits l go =
    let on = walk_from m n all k l.0 waits (known_same m n p (Some (asks.Orphan id)) t tt refl h) (go l.0 l.2) in
    ask_passed m all k asked l.0 (asks.Orphan id) (not_idle m.waits (asks.Orphan id) idle).0 l.1 (λ negotiated done x. x) on
skip_by m n all k asked p (Some (asks.Bind c flags b)) t h idle waits l go = absurd (not_idle m.waits (asks.Bind c flags b) idle).1
skip_by m n all k asked p (Some (asks.Alter c b)) t h idle waits l go = absurd (not_idle m.waits (asks.Alter c b) idle).1
skip_by m n all k asked p (Some (asks.Call j)) t h idle waits l go = absurd (not_idle m.waits (asks.Call j) idle).1
skip_by m n all k asked p (Some (asks.Broken c f)) t h idle waits l go = absurd (not_idle m.waits (asks.Broken c f) idle).1

asked_as : (m n : ConnState) (p : Pdu) (ask : Option Ask) (asked : List Ask) → Left m asked → TakesPdu m p n → Asks m.past p ask → AsksFirst ask (Left n) asked
asked_as m n p ask asked l t h =
    let found = left_takes m n p asked l t in
    subst (λ (x : Option Ask). AsksFirst x (Left n) asked) (one_ask m.past p found.0 ask found.1 h) found.2

walk_skip : (m n : ConnState) (all : List Event) (k : ConnState) (asked : List Ask) (p : Pdu) → Skips m p n → Left m asked → ((rest : List Ask) → Left n rest → Walk n all k rest) → Walk m all k asked
walk_skip m n all k asked p s l go = skip_by m n all k asked p s.ask s.takes s.asks s.idle s.waits (asked_as m n p s.ask asked l s.takes s.asks) go

pub walk_skips : (m : ConnState) (ps : List Pdu) (x : ConnState) (all : List Event) (k : ConnState) (asked : List Ask) → SkipsAll m ps x → Left m asked → ((rest : List Ask) → Left x rest → Walk x all k rest) → Walk m all k asked
walk_skips m [] x all k asked e l go =
    subst (λ (z : ConnState). Walk z all k asked) e (go asked (subst (λ (z : ConnState). Left z asked) (sym e) l))
walk_skips m (p ∷ ps) x all k asked s l go =
    walk_skip m s.0 all k asked p s.1 l (λ rest later. walk_skips s.0 ps x all k rest s.2 later go)

-- ---- an act

abbrev Go : ConnState → List Event → ConnState → Type 0
Go n later k = (rest : List Ask) → Left n rest → (n.waits ≡ Over → ⊥) → Walk n later k rest

-- behind a close nothing is done
abbrev Shut : ConnState → List Event → ConnState → Type 0
Shut n later k = n.waits ≡ Over → (later ≡ []) × (k.waits ≡ Over)

-- the protocol is broken
walk_broken : (m n : ConnState) (act : Act) (later : List Event) (k : ConnState) (asked : List Ask) (c : Caller) (f : ConnFault) → m.waits ≡ Nothing → asked ≡ asks.Broken c f ∷ []
    → DoesWith m.ids (accepted m) m.agreement Nothing (asks.Broken c f) act n.waits → Shut n later k → Walk m (Did act ∷ later) k asked
walk_broken m n act later k asked c f free e d shut =
    let over = shut d.1 in
    let events : Did act ∷ later ≡ Did (acts.Close _ f) ∷ [] = λ i. Did (d.0 i) ∷ over.0 i in
    let here : Plays (negotiated m) (asks.Broken c f ∷ []) (Did act ∷ later) = (events, refl) in
    record {
      done = asks.Broken c f ∷ [];
      left = [];
      whole = e;
      plays = subst (λ (v : Waits). PlaysAt v (negotiated m) (asks.Broken c f ∷ []) (Did act ∷ later)) (sym free) here;
      remaining = closed over.1 refl;
    }

-- what is asked is done, and then what is asked behind it
done_first : (m n : ConnState) (act : Act) (later : List Event) (k : ConnState) (asked behind : List Ask) (ask : Ask) (old new : Waits) (know : Negotiated) → m.waits ≡ old → n.waits ≡ new → negotiated n ≡ know
    → asked ≡ ask ∷ behind → ((done : List Ask) → PlaysAt new know done later → PlaysAt old (negotiated m) (ask ∷ done) (Did act ∷ later)) → Walk n later k behind → Walk m (Did act ∷ later) k asked
done_first m n act later k asked behind ask old new know was is knows e on w =
    let here : PlaysAt new know w.done later =
    subst (λ (x : Negotiated). PlaysAt new x w.done later) knows (subst (λ (v : Waits). PlaysAt v (negotiated n) w.done later) is w.plays) in
    record {
      done = ask ∷ w.done;
      left = w.left;
      whole = e ∙ ap (ask_first ask) w.whole;
      plays = subst (λ (v : Waits). PlaysAt v (negotiated m) (ask ∷ w.done) (Did act ∷ later)) (sym was) (on w.done here);
      remaining = rest_first (Did act) k w.left later w.remaining;
    }

call_by : (m n : ConnState) (act : Act) (later : List Event) (k : ConnState) (asked behind : List Ask) (j : Joined) (number : Option ℕ) → interface_of (accepted m) j.context ≡ number → m.waits ≡ Nothing → negotiated n ≡ negotiated m
    → asked ≡ asks.Call j ∷ behind → states.ActsOnCall number j act n.waits → ((n.waits ≡ Over → ⊥) → Walk n later k behind) → Walk m (Did act ∷ later) k asked
call_by m n act later k asked behind j (Some number) found free knows e d go =
    done_first m n act later k asked behind (asks.Call j) Nothing (Call (states.caller_of j) j.maybe) (negotiated m) free d.1 knows e
    (λ done h.
    (let here : PlaysCall (Some number) j m.agreement.max_xmit (λ rest. Plays (negotiated m) done rest) done (Did act ∷ later) = (later, ap (did_first later) d.0, h) in
    subst (λ (x : Option ℕ). PlaysCall x j m.agreement.max_xmit (λ rest. Plays (negotiated m) done rest) done (Did act ∷ later)) (sym found) here)) (go (λ o. absurd (cc (d.1, o))))
call_by m n act later k asked behind j None found free knows e d go =
    done_first m n act later k asked behind (asks.Call j) Nothing Nothing (negotiated m) free d.1 knows e
    (λ done h.
    (let here : PlaysCall None j m.agreement.max_xmit (λ rest. Plays (negotiated m) done rest) done (Did act ∷ later) = (later, ap (did_first later) d.0, h) in
    subst (λ (x : Option ℕ). PlaysCall x j m.agreement.max_xmit (λ rest. Plays (negotiated m) done rest) done (Did act ∷ later)) (sym found) here)) (go (λ o. absurd (cc (d.1, o))))

-- where nothing is waited for
act_free : (m n : ConnState) (p : Pdu) (act : Act) (later : List Event) (k : ConnState) (asked : List Ask) (ask : Ask) → m.waits ≡ Nothing → TakesPdu m p n → Asks m.past p (Some ask)
    → DoesWith m.ids (accepted m) m.agreement Nothing ask act n.waits → AsksFirst (Some ask) (Left n) asked → Go n later k → Shut n later k → Walk m (Did act ∷ later) k asked
act_free m n p act later k asked (asks.Bind c flags b) free t h d l go shut =
    done_first m n act later k asked l.0 (asks.Bind c flags b) Nothing _ (offering (negotiated m) b.elements) free d.1 (known_on m n p (Some (asks.Bind c flags b)) t tt h) l.1
    (λ done x. (later, ap (did_first later) d.0, x)) (go l.0 l.2 (λ o. absurd (cc (d.1, o))))
act_free m n p act later k asked (asks.Alter c b) free t h d l go shut =
    done_first m n act later k asked l.0 (asks.Alter c b) Nothing Nothing (offering (negotiated m) b.elements) free d.1 (known_on m n p (Some (asks.Alter c b)) t tt h) l.1
    (λ done x. (later, ap (did_first later) d.0, x)) (go l.0 l.2 (λ o. absurd (cc (d.1, o))))
act_free m n p act later k asked (asks.Call j) free t h d l go shut =
    call_by m n act later k asked l.0 j (interface_of (accepted m) j.context) refl free (known_same m n p (Some (asks.Call j)) t tt refl h) l.1 d (go l.0 l.2)
act_free m n p act later k asked (asks.Cancel id) free t h d l go shut = absurd (cc (d.0.2))
act_free m n p act later k asked (asks.Orphan id) free t h d l go shut = absurd (cc (d.0.2))
act_free m n p act later k asked (asks.Broken c f) free t h d l go shut = walk_broken m n act later k asked c f free l d shut

-- while a call is unanswered
act_called : (m n : ConnState) (p : Pdu) (act : Act) (later : List Event) (k : ConnState) (asked : List Ask) (ask : Ask) (c : Caller) (maybe : Bool) → m.waits ≡ Call c maybe → TakesPdu m p n → Asks m.past p (Some ask)
    → DoesWith m.ids (accepted m) m.agreement (Call c maybe) ask act n.waits → IsOff (Some ask) → AsksFirst (Some ask) (Left n) asked → Go n later k → Walk m (Did act ∷ later) k asked
act_called m n p act later k asked (asks.Cancel id) c maybe w t h d off l go =
    done_first m n act later k asked l.0 (asks.Cancel id) (Call c maybe) (Call c maybe) (negotiated m) w d.2 (known_same m n p (Some (asks.Cancel id)) t tt refl h) l.1
    (λ done x. (Did (acts.Cancel id) ∷ x.0, x.1, x.2, (λ i. Did (d.1 i) ∷ x.3 i), (done, refl, x.4), x.5)) (go l.0 l.2 (λ o. absurd (cc (d.2, o))))
act_called m n p act later k asked (asks.Orphan id) c maybe w t h d off l go =
    done_first m n act later k asked l.0 (asks.Orphan id) (Call c maybe) (Call c maybe) (negotiated m) w d.2 (known_same m n p (Some (asks.Orphan id)) t tt refl h) l.1
    (λ done x. (Did (acts.Orphan id) ∷ x.0, x.1, x.2, (λ i. Did (d.1 i) ∷ x.3 i), (done, refl, x.4), x.5)) (go l.0 l.2 (λ o. absurd (cc (d.2, o))))
act_called m n p act later k asked (asks.Bind e flags b) c maybe w t h d off l go = absurd off
act_called m n p act later k asked (asks.Alter e b) c maybe w t h d off l go = absurd off
act_called m n p act later k asked (asks.Call j) c maybe w t h d off l go = absurd off
act_called m n p act later k asked (asks.Broken e f) c maybe w t h d off l go = absurd off

act_by : (m n : ConnState) (p : Pdu) (act : Act) (later : List Event) (k : ConnState) (asked : List Ask) (ask : Ask) (v : Waits) → m.waits ≡ v → TakesPdu m p n → MayCome v p.body → Asks m.past p (Some ask)
    → DoesWith m.ids (accepted m) m.agreement v ask act n.waits → AsksFirst (Some ask) (Left n) asked → Go n later k → Shut n later k → Walk m (Did act ∷ later) k asked
act_by m n p act later k asked ask Nothing w t may h d l go shut = act_free m n p act later k asked ask w t h d l go shut
act_by m n p act later k asked ask (Call c maybe) w t may h d l go shut = act_called m n p act later k asked ask c maybe w t h d (off_asked m.past p (Some ask) may h) l go
act_by m n p act later k asked ask (Group c ack) w t may h d l go shut = absurd may
act_by m n p act later k asked ask Over w t may h d l go shut = absurd may
act_by m n p act later k asked ask Failed w t may h d l go shut = absurd may

-- octets that are no PDU
cut_at : (rest : List ℕ) (fault : Option PduFault) (cut : Cut) → Remains rest fault → IsCut rest cut → cut ≡ record { pdus = []; rest = rest; fault = fault }
cut_at rest fault cut remains is =
    one_cut rest cut (record { pdus = []; rest = rest; fault = fault }) is (record { front = []; whole = refl; pdus = refl; remains = remains })

pub left_at : (m : ConnState) (fault : Option PduFault) (asked : List Ask) → Remains m.rest fault → Left m asked → asked ≡ broken_end m.rest fault
left_at m fault asked remains l =
    subst (λ (x : Cut). AreAsks m.past x.pdus (broken_end x.rest x.fault) asked) (cut_at m.rest fault l.cut remains l.is_cut) l.asks

walk_stop : (m n : ConnState) (fault : PduFault) (act : Act) (later : List Event) (k : ConnState) (asked : List Ask) → StopsAt m fault act n → Left m asked → Shut n later k → Walk m (Did act ∷ later) k asked
walk_stop m n fault act later k asked s l shut =
    walk_broken m n act later k asked (caller_at m.rest) (broken_by m.rest fault) s.free (left_at m (Some fault) asked s.stops l) (s.act_is, ap (λ (x : ConnState). x.waits) s.after) shut

walk_act : (m n : ConnState) (act : Act) (later : List Event) (k : ConnState) (asked : List Ask) → Acts m act n → Left m asked → Go n later k → Shut n later k → Walk m (Did act ∷ later) k asked
walk_act m n act later k asked (inl a) l go shut =
    let s = a.1 in
    act_by m n a.0 act later k asked s.ask m.waits refl s.takes s.takes.may s.asks s.does (asked_as m n a.0 (Some s.ask) asked l s.takes s.asks) go shut
walk_act m n act later k asked (inr s) l go shut = walk_stop m n s.0 act later k asked s.1 l shut

-- ---- what the server decides

walk_decided : (m n : ConnState) (decision : Decision) (octets : List ℕ) (later : List Event) (k : ConnState) (asked : List Ask) (v : Waits) → m.waits ≡ v → AnswersAt v m decision octets n → Left m asked → Go n later k
    → Shut n later k → Walk m (Decided decision octets ∷ later) k asked
walk_decided m n (ToGroup group) octets later k asked (Group c ack) w a l go shut =
    let on = subst (λ (z : ConnState). Go z later k) a.1 go asked (record { cut = l.cut; is_cut = l.is_cut; asks = l.asks }) (λ o. absurd (cc (o))) in
    record {
      done = on.done;
      left = on.left;
      whole = on.whole;
      plays = subst (λ (v : Waits). PlaysAt v (negotiated m) on.done (Decided (ToGroup group) octets ∷ later)) (sym w) (a.0, on.plays);
      remaining = rest_first (Decided (ToGroup group) octets) k on.left later on.remaining;
    }
walk_decided m n (RefuseGroup reason) octets later k asked (Group c ack) w a l go shut =
    let over = shut (ap (λ (x : ConnState). x.waits) a.1) in
    record {
      done = [];
      left = asked;
      whole = refl;
      plays = subst (λ (v : Waits). PlaysAt v (negotiated m) [] (Decided (RefuseGroup reason) octets ∷ later)) (sym w) (a.0, over.0, refl);
      remaining = refused over.1 ([], reason, octets, ap (λ (x : List Event). Decided (RefuseGroup reason) octets ∷ x) over.0);
    }
walk_decided m n (Reply said executed) octets later k asked (Call c maybe) w a l go shut =
    let on = subst (λ (z : ConnState). Go z later k) a.1 go asked (record { cut = l.cut; is_cut = l.is_cut; asks = l.asks }) (λ o. absurd (cc (o))) in
    record {
      done = on.done;
      left = on.left;
      whole = on.whole;
      plays = subst (λ (v : Waits). PlaysAt v (negotiated m) on.done (Decided (Reply said executed) octets ∷ later)) (sym w)
          ([], on.done, Decided (Reply said executed) octets ∷ later, refl, refl, (a.0, on.plays));
      remaining = rest_first (Decided (Reply said executed) octets) k on.left later on.remaining;
    }
walk_decided m n (Reply said executed) octets later k asked (Group c ack) w a l go shut = absurd a
walk_decided m n (ToGroup group) octets later k asked (Call c maybe) w a l go shut = absurd a
walk_decided m n (RefuseGroup reason) octets later k asked (Call c maybe) w a l go shut = absurd a
walk_decided m n (ToGroup group) octets later k asked Nothing w a l go shut = absurd a
walk_decided m n (RefuseGroup reason) octets later k asked Nothing w a l go shut = absurd a
walk_decided m n (Reply said executed) octets later k asked Nothing w a l go shut = absurd a
walk_decided m n (ToGroup group) octets later k asked Over w a l go shut = absurd a
walk_decided m n (RefuseGroup reason) octets later k asked Over w a l go shut = absurd a
walk_decided m n (Reply said executed) octets later k asked Over w a l go shut = absurd a
walk_decided m n (ToGroup group) octets later k asked Failed w a l go shut = absurd a
walk_decided m n (RefuseGroup reason) octets later k asked Failed w a l go shut = absurd a
walk_decided m n (Reply said executed) octets later k asked Failed w a l go shut = absurd a

-- ---- behind a close nothing is done

pub over_takes : (m n : ConnState) (p : Pdu) → m.waits ≡ Over → TakesPdu m p n → ⊥
over_takes m n p e t = subst (λ (v : Waits). MayCome v p.body) e t.may

over_skips : (m n : ConnState) (ps : List Pdu) → m.waits ≡ Over → SkipsAll m ps n → n ≡ m
over_skips m n [] e s = s
over_skips m n (p ∷ ps) e s = absurd (over_takes m s.0 p e s.1.takes)

over_acts : (m n : ConnState) (act : Act) → m.waits ≡ Over → Acts m act n → ⊥
over_acts m n act e (inl a) = over_takes m n a.0 e a.1.takes
over_acts m n act e (inr s) = let wrong : Nothing ≡ Over = sym s.1.free ∙ e in absurd (cc (wrong))

over_goes : (m n : ConnState) (act : Act) → m.waits ≡ Over → Goes m (Ok (Some act)) n → ⊥
over_goes m n act e g = over_acts m n act e (subst (λ (z : ConnState). Acts z act n) (over_skips m g.1 g.0 e g.2) g.3)

over_decided : (m n : ConnState) (decision : Decision) (octets : List ℕ) → m.waits ≡ Over → AnswersDecision m decision octets n → ⊥
over_decided m n decision octets e a = over_answers decision (subst (λ (v : Waits). AnswersAt v m decision octets n) e (at_waits m n decision octets a))
  where
    over_answers : (w : Decision) → AnswersAt Over m w octets n → ⊥
    over_answers (ToGroup group) h = h
    over_answers (RefuseGroup reason) h = h
    over_answers (Reply said executed) h = h

-- ---- the whole

over_done : (all : List Event) (m last k : ConnState) (qs : List Pdu) → Acted m all last → SkipsAll last qs k → m.waits ≡ Over → (all ≡ []) × (k.waits ≡ Over)
over_done [] m last k qs a s over =
    (refl, ap (λ (z : ConnState). z.waits) (over_skips m k qs over (subst (λ (z : ConnState). SkipsAll z qs k) a s)) ∙ over)
over_done (Did act ∷ later) m last k qs a s over = absurd (over_goes m a.0 act over a.1)
over_done (Decided decision octets ∷ later) m last k qs a s over = absurd (over_decided m a.0 decision octets over a.1)
over_done (Came octets ∷ later) m last k qs a s over = absurd a
over_done (Paused ∷ later) m last k qs a s over = absurd a

rests : (m : ConnState) (rest : List Ask) → (m.waits ≡ Over → ⊥) → Left m rest → Walk m [] m rest
rests m rest live l = record { done = []; left = rest; whole = refl; plays = nothing_plays m.waits (negotiated m); remaining = open_yet live l }

pub walk : (all : List Event) (m last k : ConnState) (qs : List Pdu) (asked : List Ask) → Acted m all last → SkipsAll last qs k → (m.waits ≡ Over → ⊥) → Left m asked → Walk m all k asked
walk [] m last k qs asked a s live l =
    let skips : SkipsAll m qs k = subst (λ (z : ConnState). SkipsAll z qs k) a s in
    walk_skips m qs k [] k asked skips l (λ rest left. rests k rest (λ o. live (sym (skips_keep m qs k skips).0 ∙ o)) left)
walk (Did act ∷ later) m last k qs asked a s live l =
    let g = a.1 in
    walk_skips m g.0 g.1 (Did act ∷ later) k asked g.2 l
    (λ rest left. walk_act g.1 a.0 act later k rest g.3 left (λ more r on. walk later a.0 last k qs more a.2 s on r) (over_done later a.0 last k qs a.2 s))
walk (Decided decision octets ∷ later) m last k qs asked a s live l =
    walk_decided m a.0 decision octets later k asked m.waits refl (at_waits m a.0 decision octets a.1) l (λ more r on. walk later a.0 last k qs more a.2 s on r)
    (over_done later a.0 last k qs a.2 s)
walk (Came octets ∷ later) m last k qs asked a s live l = absurd a
walk (Paused ∷ later) m last k qs asked a s live l = absurd a
