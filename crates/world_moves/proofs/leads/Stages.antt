-- How far the server's end of a connection is with what its caller asks: one bind, and then calls and cancels.
use Rattle.std.proofs.Common.{◌≡◌, ℕ, ◌≤◌, ◌^◌, ◌⊎◌, inl, inr, Bool, true, false, ◌||◌, List, [], ◌∷◌, ◌++◌, length, Option, Some, None, Ok, refl, sym, ap, subst, ◌∙◌, append_assoc, arith}
use Rattle.std.specs.List.{list_any}
use Rattle.rpc_base.specs.Fields.{FitsSyntax}
use Rattle.pdu_codec.specs.declared.pdu.Pdu.{Pdu}
use Rattle.pdu_codec.specs.declared.pdu.BindBody.{BindBody}
use Rattle.pdu_codec.specs.declared.pdu.BindAckBody.{BindAckBody}
use Rattle.pdu_stream.specs.declared.joined.Joined.{Joined}
use Rattle.presentation.specs.Offers.{interface_of}
use Rattle.ndr_table.specs.Tables.{TableForm}
use Rattle.conn_asks.specs.declared.events.Caller.{Caller}
use Rattle.conn_asks.specs.declared.events.Ask.{Ask}
use Rattle.conn_asks.specs.declared.events.Ask.TheVariants as asks
use Rattle.conn_asks.specs.declared.events.Act.{Act}
use Rattle.conn_asks.specs.declared.events.Waits.{Waits}
use Rattle.conn_asks.specs.declared.events.Waits.TheVariants.{Nothing, Group, Call, Over, Failed}
use Rattle.pdu_stream.specs.Cuts.{IsCut}
use Rattle.conn_asks.specs.declared.events.Agreement.{Agreement}
use Rattle.conn_asks.specs.Asks.{Asks, AsksFirst, AreAsks, AreAsksOf, broken_end}
use Rattle.conn_asks.specs.States.{ConnState, at_start, with_octets, accepted, ActsOnCall, DoesWith, MayCome, TakesPdu, SkipsAll, Acts, Goes}
use Rattle.conn_histories.specs.Histories.{Decision, Event, Lives, stream}
use Rattle.conn_histories.specs.Histories.Event.{Came, Paused, Did, Decided}
use Rattle.conn_histories.specs.Histories.Decision.{ToGroup, RefuseGroup, Reply}
use Rattle.conn_histories.proofs.Left.{Left, left_takes}
use Rattle.conn_histories.proofs.Passing.{IsOff, idle_off}
use Rattle.conn_histories.proofs.Walks.{over_takes}
use Rattle.conn_histories.proofs.OneAsk.{one_ask}
use Rattle.conn_histories.proofs.Decided.{AnswersAt, at_waits}
use Rattle.client_core.specs.States as callers
use Rattle.client_laws.specs.Sending.{EventsAsk}
use Rattle.client_laws.proofs.Sending.{asks_are_sent}
use Rattle.world_laws.specs.Ends.{Line}
use Rattle.world_laws.proofs.Holds.{LineHolds, binds_once}
use Rattle.world_laws.proofs.Asked.{asked_so}
use Rattle.world_laws.proofs.Statics.{ArePlain}
use Rattle.world_moves.proofs.leads.Acting.{NoneBroken, Onward, lifted}

-- the server decided on a group
abbrev pub to_group : Event → Bool
to_group (Decided (ToGroup group) octets) = true
to_group _ = false

pub data Stage (m : ConnState) (grouped : Bool) (left : List Ask) : Type 0 where
  unbound : (c : Caller) (flags : ℕ) (b : BindBody) (others : List Ask) → m.waits ≡ Nothing → left ≡ asks.Bind c flags b ∷ others → 1432 ≤ b.max_recv → ArePlain others → Stage m grouped left
  asking : (c : Caller) (ack : BindAckBody) → m.waits ≡ Group c ack → 1432 ≤ ack.max_xmit → ArePlain left → Stage m grouped left
  bound : grouped ≡ true → 1432 ≤ m.agreement.max_xmit → ArePlain left → (m.waits ≡ Failed → ⊥) → ((c : Caller) (ack : BindAckBody) → m.waits ≡ Group c ack → ⊥) → Stage m grouped left
  over : m.waits ≡ Over → Stage m grouped left

pub record Stands (m : ConnState) (up : List ℕ) (grouped : Bool) : Type 0 where
  pub left : List Ask
  pub is_left : Left (with_octets m up) left
  pub stage : Stage m grouped left

same_left : (m n : ConnState) (up : List ℕ) (left : List Ask) → n.rest ≡ m.rest → n.past ≡ m.past → Left (with_octets m up) left → Left (with_octets n up) left
same_left m n up left rest past l = record {
  cut = l.cut;
  is_cut = subst (λ (x : List ℕ). IsCut x l.cut) (ap (λ (x : List ℕ). x ++ up) (sym rest)) l.is_cut;
  asks = subst (λ (x : List Pdu). AreAsks x l.cut.pdus (broken_end l.cut.rest l.cut.fault) left) (sym past) l.asks;
}

no_group : (m n : ConnState) (p : Pdu) (c : Caller) (ack : BindAckBody) → m.waits ≡ Group c ack → TakesPdu m p n → ⊥
no_group m n p c ack e t = subst (λ (v : Waits). MayCome v p.body) e t.may

asked_first : (m n : ConnState) (up : List ℕ) (p : Pdu) (ask : Option Ask) (left : List Ask) → Left (with_octets m up) left → TakesPdu m p n → Asks m.past p ask → AsksFirst ask (Left (with_octets n up)) left
asked_first m n up p ask left l t h =
    let (found, asks_, first) = left_takes (with_octets m up) (with_octets n up) p left l (lifted m n p up t) in
    subst (λ (x : Option Ask). AsksFirst x (Left (with_octets n up)) left) (one_ask m.past p found ask asks_ h) first

-- ---- a PDU is skipped

skip_by : (m n : ConnState) (up : List ℕ) (grouped : Bool) (left : List Ask) (ask : Option Ask) → n.waits ≡ m.waits → n.agreement ≡ m.agreement → IsOff ask → AsksFirst ask (Left (with_octets n up)) left
    → (m.waits ≡ Over → ⊥) → ((c : Caller) (ack : BindAckBody) → m.waits ≡ Group c ack → ⊥) → Stage m grouped left → Stands n up grouped
skip_by m n up grouped left None waits agreed off l live free (unbound c flags b others w is long plain) = record { left = left; is_left = l; stage = unbound c flags b others (waits ∙ w) is long plain }
skip_by m n up grouped left None waits agreed off l live free (asking c ack w long plain) = absurd (free c ack w)
skip_by m n up grouped left None waits agreed off l live free (bound g long plain fine none) =
    record { left = left; is_left = l; stage = bound g (omega (arith, long, ap (λ (x : Agreement). x.max_xmit) agreed)) plain (λ e. fine (sym waits ∙ e)) (λ c ack e. none c ack (sym waits ∙ e)) }
skip_by m n up grouped left ask waits agreed off l live free (over w) = absurd (live w)
skip_by m n up grouped left (Some (asks.Cancel id)) waits agreed off l live free (unbound c flags b others w is long plain) = absurd (cc (is, l.1))
skip_by m n up grouped left (Some (asks.Cancel id)) waits agreed off l live free (asking c ack w long plain) = absurd (free c ack w)
skip_by m n up grouped left (Some (asks.Cancel id)) waits agreed off l live free (bound g long plain fine none) =
    record { left = l.0; is_left = l.2; stage = bound g (omega (arith, long, ap (λ (x : Agreement). x.max_xmit) agreed)) (subst (λ (x : List Ask). ArePlain x) l.1 plain) (λ e. fine (sym waits ∙ e)) (λ c ack e. none c ack (sym waits ∙ e)) }
skip_by m n up grouped left (Some (asks.Orphan id)) waits agreed off l live free (unbound c flags b others w is long plain) = absurd (cc (is, l.1))
skip_by m n up grouped left (Some (asks.Orphan id)) waits agreed off l live free (asking c ack w long plain) = absurd (free c ack w)
skip_by m n up grouped left (Some (asks.Orphan id)) waits agreed off l live free (bound g long plain fine none) = absurd (subst (λ (x : List Ask). ArePlain x) l.1 plain)
skip_by m n up grouped left (Some (asks.Bind c flags b)) waits agreed off l live free s = absurd off
skip_by m n up grouped left (Some (asks.Alter c b)) waits agreed off l live free s = absurd off
skip_by m n up grouped left (Some (asks.Call j)) waits agreed off l live free s = absurd off
skip_by m n up grouped left (Some (asks.Broken c f)) waits agreed off l live free s = absurd off

skips : (m : ConnState) (ps : List Pdu) (n : ConnState) (up : List ℕ) (grouped : Bool) → SkipsAll m ps n → Stands m up grouped → Stands n up grouped
skips m [] n up grouped e s = subst (λ (x : ConnState). Stands x up grouped) (sym e) s
skips m (p ∷ ps) n up grouped (x, s, more) h =
    skips x ps n up grouped more
    (skip_by m x up grouped h.left s.ask s.waits s.takes.agreement (idle_off m.waits s.ask s.idle) (asked_first m x up p s.ask h.left h.is_left s.takes s.asks) (λ o. over_takes m x p o s.takes) (λ c ack e. no_group m x p c ack e s.takes) h.stage)

-- ---- what is asked is done

call_by : (number : Option ℕ) (j : Joined) (act : Act) (w : Waits) → ActsOnCall number j act w → (w ≡ Failed → ⊥) × ((c : Caller) (ack : BindAckBody) → w ≡ Group c ack → ⊥)
call_by (Some k) j act w d = (λ e. absurd (cc (d.1, e)), λ c ack e. absurd (cc (d.1, e)))
call_by None j act w d = (λ e. absurd (cc (d.1, e)), λ c ack e. absurd (cc (d.1, e)))

acts_by : (m n : ConnState) (up : List ℕ) (grouped : Bool) (left : List Ask) (ask : Ask) (act : Act) → n.agreement ≡ m.agreement → DoesWith m.ids (accepted m) m.agreement m.waits ask act n.waits → AsksFirst (Some ask) (Left (with_octets n up)) left
    → (m.waits ≡ Over → ⊥) → ((c : Caller) (ack : BindAckBody) → m.waits ≡ Group c ack → ⊥) → Stage m grouped left → Stands n up grouped
acts_by m n up grouped left ask act agreed d l live free (over w) = absurd (live w)
acts_by m n up grouped left ask act agreed d l live free (asking c ack w long plain) = absurd (free c ack w)
acts_by m n up grouped left (asks.Bind c flags b) act agreed d l live free (unbound c2 flags2 b2 others w is long plain) =
    let both : asks.Bind c flags b ∷ l.0 ≡ asks.Bind c2 flags2 b2 ∷ others = sym l.1 ∙ is in
    let same : b ≡ b2 = cc (both) in
    let rest : others ≡ l.0 = cc (both) in
    record { left = l.0; is_left = l.2; stage = asking c _ d.1 (omega (arith, long, ap (λ (x : BindBody). x.max_recv) same)) (subst (λ (x : List Ask). ArePlain x) rest plain) }
acts_by m n up grouped left (asks.Bind c flags b) act agreed d l live free (bound g long plain fine none) = absurd (subst (λ (x : List Ask). ArePlain x) l.1 plain)
acts_by m n up grouped left (asks.Alter c b) act agreed d l live free (unbound c2 flags2 b2 others w is long plain) = absurd (cc (is, l.1))
acts_by m n up grouped left (asks.Alter c b) act agreed d l live free (bound g long plain fine none) = absurd (subst (λ (x : List Ask). ArePlain x) l.1 plain)
acts_by m n up grouped left (asks.Call j) act agreed d l live free (unbound c2 flags2 b2 others w is long plain) = absurd (cc (is, l.1))
acts_by m n up grouped left (asks.Call j) act agreed d l live free (bound g long plain fine none) =
    let c = call_by (interface_of (accepted m) j.context) j act n.waits d in
    record { left = l.0; is_left = l.2; stage = bound g (omega (arith, long, ap (λ (x : Agreement). x.max_xmit) agreed)) (subst (λ (x : List Ask). ArePlain x) l.1 plain).3 c.0 c.1 }
acts_by m n up grouped left (asks.Cancel id) act agreed d l live free (unbound c2 flags2 b2 others w is long plain) = absurd (cc (is, l.1))
acts_by m n up grouped left (asks.Cancel id) act agreed d l live free (bound g long plain fine none) =
    record { left = l.0; is_left = l.2; stage = bound g (omega (arith, long, ap (λ (x : Agreement). x.max_xmit) agreed)) (subst (λ (x : List Ask). ArePlain x) l.1 plain) (λ e. fine (sym d.2 ∙ e)) (λ c ack e. none c ack (sym d.2 ∙ e)) }
acts_by m n up grouped left (asks.Orphan id) act agreed d l live free (unbound c2 flags2 b2 others w is long plain) = absurd (cc (is, l.1))
acts_by m n up grouped left (asks.Orphan id) act agreed d l live free (bound g long plain fine none) = absurd (subst (λ (x : List Ask). ArePlain x) l.1 plain)
acts_by m n up grouped left (asks.Broken c f) act agreed d l live free (unbound c2 flags2 b2 others w is long plain) = absurd (cc (is, l))
acts_by m n up grouped left (asks.Broken c f) act agreed d l live free (bound g long plain fine none) = absurd (subst (λ (x : List Ask). ArePlain x) l plain)

acts : (m n : ConnState) (act : Act) (up : List ℕ) (grouped : Bool) → Acts m act n → Stands m up grouped → Stands n up grouped
acts m n act up grouped (inl (p, a)) h =
    acts_by m n up grouped h.left a.ask act a.takes.agreement a.does (asked_first m n up p (Some a.ask) h.left h.is_left a.takes a.asks) (λ o. over_takes m n p o a.takes) (λ c ack e. no_group m n p c ack e a.takes) h.stage
acts m n act up grouped (inr (fault, s)) h =
    record { left = h.left; is_left = same_left m n up h.left (ap (λ (x : ConnState). x.rest) s.after) (ap (λ (x : ConnState). x.past) s.after) h.is_left; stage = over (ap (λ (x : ConnState). x.waits) s.after) }

pub goes : (m n : ConnState) (act : Option Act) (up : List ℕ) (grouped : Bool) → Goes m (Ok act) n → Stands m up grouped → Stands n up grouped
goes m n None up grouped g h = skips m g.0 n up grouped g.1 h
goes m n (Some act) up grouped g h = acts g.1 n act up grouped g.3 (skips m g.0 g.1 up grouped g.2 h)

-- ---- the server decides

or_true : (a : Bool) → (a || true) ≡ true
or_true true = refl
or_true false = refl

decided : (m n : ConnState) (decision : Decision) (octets up : List ℕ) (grouped : Bool) (v : Waits) → m.waits ≡ v → AnswersAt v m decision octets n → Stands m up grouped → Stands n up (grouped || to_group (Decided decision octets))
decided m n (ToGroup group) octets up grouped (Group c ack) w a h =
    record { left = h.left; is_left = same_left m n up h.left (ap (λ (x : ConnState). x.rest) a.1) (ap (λ (x : ConnState). x.past) a.1) h.is_left; stage = by h.stage }
  where
    live : n.waits ≡ Nothing
    live = ap (λ (x : ConnState). x.waits) a.1

    by : Stage m grouped h.left → Stage n (grouped || true) h.left
    by (unbound c2 flags b others w2 is long plain) = absurd (cc (w, w2))
    by (asking c2 ack2 w2 long plain) =
        let same : ack2 ≡ ack = cc (w, w2) in
        bound (or_true grouped) (omega (arith, long, ap (λ (x : BindAckBody). x.max_xmit) same, ap (λ (x : ConnState). x.agreement.max_xmit) a.1)) plain (λ e. absurd (cc (live, e))) (λ c3 ack3 e. absurd (cc (live, e)))
    by (bound g long plain fine none) = absurd (none c ack w)
    by (over w2) = absurd (cc (w, w2))
decided m n (RefuseGroup reason) octets up grouped (Group c ack) w a h =
    record { left = h.left; is_left = same_left m n up h.left (ap (λ (x : ConnState). x.rest) a.1) (ap (λ (x : ConnState). x.past) a.1) h.is_left; stage = over (ap (λ (x : ConnState). x.waits) a.1) }
decided m n (Reply said executed) octets up grouped (Call c maybe) w a h =
    record { left = h.left; is_left = same_left m n up h.left (ap (λ (x : ConnState). x.rest) a.1) (ap (λ (x : ConnState). x.past) a.1) h.is_left; stage = by h.stage }
  where
    live : n.waits ≡ Nothing
    live = ap (λ (x : ConnState). x.waits) a.1

    or_false : (g : Bool) → g ≡ true → (g || false) ≡ true
    or_false true e = refl
    or_false false e = absurd (cc (e))

    by : Stage m grouped h.left → Stage n (grouped || false) h.left
    by (unbound c2 flags b others w2 is long plain) = absurd (cc (w, w2))
    by (asking c2 ack2 w2 long plain) = absurd (cc (w, w2))
    by (bound g long plain fine none) = bound (or_false grouped g) (omega (arith, long, ap (λ (x : ConnState). x.agreement.max_xmit) a.1)) plain (λ e. absurd (cc (live, e))) (λ c3 ack3 e. absurd (cc (live, e)))
    by (over w2) = absurd (cc (w, w2))
decided m n (Reply said executed) octets up grouped (Group c ack) w a h = absurd a
decided m n (ToGroup group) octets up grouped (Call c maybe) w a h = absurd a
decided m n (RefuseGroup reason) octets up grouped (Call c maybe) w a h = absurd a
decided m n (ToGroup group) octets up grouped Nothing w a h = absurd a
decided m n (RefuseGroup reason) octets up grouped Nothing w a h = absurd a
decided m n (Reply said executed) octets up grouped Nothing w a h = absurd a
decided m n (ToGroup group) octets up grouped Over w a h = absurd a
decided m n (RefuseGroup reason) octets up grouped Over w a h = absurd a
decided m n (Reply said executed) octets up grouped Over w a h = absurd a
decided m n (ToGroup group) octets up grouped Failed w a h = absurd a
decided m n (RefuseGroup reason) octets up grouped Failed w a h = absurd a
decided m n (Reply said executed) octets up grouped Failed w a h = absurd a

-- ---- one event after the other

or_assoc : (a b c : Bool) → ((a || b) || c) ≡ (a || (b || c))
or_assoc true b c = refl
or_assoc false b c = refl

came_stage : (m : ConnState) (octets : List ℕ) (g : Bool) (left : List Ask) → Stage m g left → Stage (with_octets m octets) g left
came_stage m octets g left (unbound c flags b others w is long plain) = unbound c flags b others w is long plain
came_stage m octets g left (asking c ack w long plain) = asking c ack w long plain
came_stage m octets g left (bound h long plain fine none) = bound h long plain fine none
came_stage m octets g left (over w) = over w

along : (events : List Event) (m n : ConnState) (up : List ℕ) (g : Bool) → Lives m events n → Stands m (stream events ++ up) g → Stands n up (g || list_any to_group events)
along [] m n up g e s = subst (λ (x : ConnState). Stands x up (g || false)) (sym e) (subst (λ (b : Bool). Stands m up b) (or_none g) s)
  where
    or_none : (b : Bool) → b ≡ (b || false)
    or_none true = refl
    or_none false = refl
along (Came octets ∷ later) m n up g (x, first, more) s =
    let here : Stands (with_octets m octets) (stream later ++ up) g = record {
      left = s.left;
      is_left = record {
        cut = s.is_left.cut;
        is_cut = subst (λ (y : List ℕ). IsCut y s.is_left.cut) (ap (λ (y : List ℕ). m.rest ++ y) (append_assoc octets (stream later) up) ∙ sym (append_assoc m.rest octets (stream later ++ up))) s.is_left.is_cut;
        asks = s.is_left.asks;
      };
      stage = came_stage m octets g s.left s.stage;
    } in
    along later x n up g more (subst (λ (y : ConnState). Stands y (stream later ++ up) g) (sym first) here)
along (Paused ∷ later) m n up g (x, first, more) s = along later x n up g more (goes m x None (stream later ++ up) g first s)
along (Did act ∷ later) m n up g (x, first, more) s = along later x n up g more (goes m x (Some act) (stream later ++ up) g first s)
along (Decided decision octets ∷ later) m n up g (x, first, more) s =
    let next = decided m x decision octets (stream later ++ up) g m.waits refl (at_waits m x decision octets first) s in
    subst (λ (b : Bool). Stands n up b) (or_assoc g (to_group (Decided decision octets)) (list_any to_group later)) (along later x n up (g || to_group (Decided decision octets)) more next)

-- what the caller asks
abbrev pub AsksOf : TableForm → Line → Type 0
AsksOf table l = (asked : List Ask) × EventsAsk (callers.at_start table) l.caller.events l.caller.state asked

pub stands : (table : TableForm) (l : Line) → FitsSyntax table.id → length table.ops ≤ 2 ^ 16 → LineHolds table l → l.standing ≡ true → AsksOf table l → Stands l.server.state l.up (list_any to_group l.server.events)
stands table l fits few h standing (asked, begun) =
    let so = asked_so table l.caller.events l.caller.state asked h.once begun in
    let are = asks_are_sent table l.caller.events l.caller.state asked fits few begun (binds_once l.caller.events h.once) in
    let there : AreAsksOf (stream l.server.events ++ l.up) asked = subst (λ (x : List ℕ). AreAsksOf x asked) (h.ways standing) are in
    let start : Stands (at_start (table.id ∷ [])) (stream l.server.events ++ l.up) false = record {
      left = asked;
      is_left = record { cut = there.cut; is_cut = there.is_cut; asks = there.asked };
      stage = unbound _ _ _ so.0 refl so.1.is (omega arith) so.1.plain;
    } in
    along l.server.events (at_start (table.id ∷ [])) l.server.state l.up false h.served start

-- nothing that is asked breaks the protocol, unless the connection is closed
none_broken : (left : List Ask) → ArePlain left → NoneBroken left
none_broken [] h = tt
none_broken (asks.Call j ∷ more) h = none_broken more h.3
none_broken (asks.Cancel id ∷ more) h = none_broken more h
none_broken (asks.Bind c flags b ∷ more) h = absurd h
none_broken (asks.Alter c b ∷ more) h = absurd h
none_broken (asks.Orphan id ∷ more) h = absurd h
none_broken (asks.Broken c f ∷ more) h = absurd h

pub onward : (m : ConnState) (up : List ℕ) (g : Bool) → Stands m up g → (m.waits ≡ Over) ⊎ ((m.waits ≡ Failed → ⊥) × Onward m up)
onward m up g s = by s.stage
  where
    by : Stage m g s.left → (m.waits ≡ Over) ⊎ ((m.waits ≡ Failed → ⊥) × Onward m up)
    by (unbound c flags b others w is long plain) = inr (λ e. absurd (cc (w, e)), record { left = s.left; is_left = s.is_left; sound = subst NoneBroken (sym is) (none_broken others plain) })
    by (asking c ack w long plain) = inr (λ e. absurd (cc (w, e)), record { left = s.left; is_left = s.is_left; sound = none_broken s.left plain })
    by (bound h long plain fine none) = inr (fine, record { left = s.left; is_left = s.is_left; sound = none_broken s.left plain })
    by (over w) = inl w
