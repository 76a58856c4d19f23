-- A PDU is heard while nothing is waited for.
use Rattle.std.proofs.Common.{◌≡◌, Bool, List, [], Option, Some, None, Ok, sym, ap, subst, ◌∙◌}
use Rattle.std.specs.Prelude.{◌||◌}
use Rattle.rpc_base.specs.declared.identifiers.SyntaxId.{SyntaxId}
use Rattle.pdu_codec.specs.declared.pdu.Pdu.{Pdu}
use Rattle.pdu_codec.specs.declared.pdu.Element.{Element}
use Rattle.pdu_stream.specs.declared.joined.Joined.{Joined}
use Rattle.pdu_stream.specs.Fragments.{Joining}
use Rattle.pdu_stream.specs.Runs.{Changes}
use Rattle.presentation.specs.declared.verdict.Accepted.{Accepted}
use Rattle.presentation.specs.Offers.{ServedSyntaxes, contexts_after}
use Rattle.conn_asks.specs.declared.events.Agreement.{Agreement}
use Rattle.conn_asks.specs.declared.events.Act.{Act}
use Rattle.conn_asks.specs.declared.events.Ask.{Ask}
use Rattle.conn_asks.specs.declared.events.Ask.TheVariants.{Bind, Alter, Call, Cancel, Orphan, Broken}
use Rattle.conn_asks.specs.declared.events.Waits.{Waits}
use Rattle.conn_asks.specs.declared.events.Waits.TheVariants.{Nothing}
use Rattle.conn_asks.specs.Asks.{is_bind, called, offered_by, AsksWith, Asks}
use Rattle.conn_asks.specs.Asking.{Follows, Finds, elements_in}
use Rattle.conn_asks.specs.States.{ConnState, accepted, DoesWith, Does, IsIdle}
use Rattle.conn_core.specs.Doing.{ActsWith, with_elements}
use Rattle.conn_core.specs.Fields.{ConnFields, KeepsState, Knows}
use Rattle.conn_core.specs.Steps.{IsFree, HearsAt, behind}
use Rattle.conn_core.specs.declared.next.Step.TheVariants.{Skipped, Acted}
use Rattle.conn_core.proofs.Heard.{Recalls, recalled, offers, offers_none, keeps_more, knows_more}

found : (bound : Bool) (old : Joining) (run : Option Joined) (p : Pdu) (ask : Option Ask) (new : Joining) → old ≡ Ok run → Finds bound old None p (Ok ask) new
    → AsksWith bound run None p p.body ask × Follows (Changes run p p.body) ask new
found bound old run p ask new is h = subst (λ (j : Joining). Finds bound j None p (Ok ask) new) is h

asked : (t : ConnFields) (m : ConnState) (k : KeepsState t m) (p : Pdu) (other : Option Ask) → AsksWith t.bound k.run (called m.past) p p.body other → Asks m.past p other
asked t m k p other h = record {
  run = k.run;
  joining = k.runs;
  asks = subst (λ (b : Bool). AsksWith b k.run (called m.past) p p.body other) k.bound h;
}

-- nothing is asked
pub heard_none : (t u : ConnFields) (m : ConnState) (p : Pdu) → IsFree t m → Finds t.bound t.joining None p (Ok None) u.joining → u.bound ≡ (is_bind p.body || t.bound) → u.served ≡ t.served → u.waits ≡ Nothing
    → HearsAt m p (Ok Skipped) u
unfolding contexts_after
heard_none t u m p free finds bound served waits =
    let k = free.keeps in
    let h = found t.bound t.joining k.run p None u.joining k.joining finds in
    let r = recalled t.bound k.run (called m.past) p p.body None h.0 in
    let none : offered_by p.body ≡ [] = offers_none t.bound k.run p p.body h.0 in
    let same : u.served.accepted ≡ contexts_after m.ids (accepted m) (offered_by p.body) = rw (none, served) k.accepted in
    (r.0, asked t m k p r.0 r.1, r.2, waits, keeps_more t u m p Nothing h.1.0 k bound h.1.1 h.1.2 same)

-- what is asked is done
does_at : (t : ConnFields) (m : ConnState) (ask : Ask) (act : Act) (w : Waits) → t.served.ids ≡ m.ids → t.served.accepted ≡ accepted m → t.agreement ≡ m.agreement
    → DoesWith t.served.ids t.served.accepted t.agreement Nothing ask act w → DoesWith m.ids (accepted m) m.agreement Nothing ask act w
does_at t m ask act w ids acc agreement h =
    let a : DoesWith m.ids t.served.accepted t.agreement Nothing ask act w = subst (λ (x : List SyntaxId). DoesWith x t.served.accepted t.agreement Nothing ask act w) ids h in
    let b : DoesWith m.ids (accepted m) t.agreement Nothing ask act w = subst (λ (x : List Accepted). DoesWith m.ids x t.agreement Nothing ask act w) acc a in
    subst (λ (x : Agreement). DoesWith m.ids (accepted m) x Nothing ask act w) agreement b

offered_at : (t : ConnFields) (m : ConnState) (es : List Element) (s : ServedSyntaxes) → t.served.ids ≡ m.ids → t.served.accepted ≡ accepted m → s ≡ with_elements t.served es
    → s.accepted ≡ contexts_after m.ids (accepted m) es
offered_at t m es s ids acc e =
    ap (λ (x : ServedSyntaxes). x.accepted) e
    ∙ (ap (λ (x : List SyntaxId). contexts_after x t.served.accepted es) ids ∙ ap (λ (x : List Accepted). contexts_after m.ids x es) acc)

same_ask : (a : Ask) (other : Option Ask) → Recalls (Some a) other → other ≡ Some a
same_ask a other h = h

pub heard_act : (t u : ConnFields) (m : ConnState) (p : Pdu) (ask : Ask) (act : Act) (w : Waits) → IsFree t m → Finds t.bound t.joining None p (Ok (Some ask)) u.joining → u.bound ≡ (is_bind p.body || t.bound)
    → ActsWith t.served t.agreement ask (Ok (Some (act, w))) u.served → u.waits ≡ w → HearsAt m p (Ok (Acted act)) u
heard_act t u m p ask act w free finds bound done waits =
    let k = free.keeps in
    let h = found t.bound t.joining k.run p (Some ask) u.joining k.joining finds in
    let r = recalled t.bound k.run (called m.past) p p.body (Some ask) h.0 in
    let asks : Asks m.past p (Some ask) = subst (λ (x : Option Ask). Asks m.past p x) (same_ask ask r.0 r.2) (asked t m k p r.0 r.1) in
    let does : DoesWith m.ids (accepted m) m.agreement Nothing ask act w = does_at t m ask act w free.ids k.accepted free.agreement done.0 in
    let here : Does m ask act w = subst (λ (x : Waits). DoesWith m.ids (accepted m) m.agreement x ask act w) (sym free.free) does in
    let offer : u.served.accepted ≡ contexts_after m.ids (accepted m) (elements_in ask) = offered_at t m (elements_in ask) u.served free.ids k.accepted done.1 in
    let knows : Knows w u (behind m p w) = knows_more t u m p ask act w k bound h.0 h.1 does offer in
    (ask, asks, subst (λ (x : Waits). Does m ask act x) (sym waits) here, subst (λ (x : Waits). Knows x u (behind m p x)) (sym waits) knows)

-- what is asked needs nothing to be done
idle_known : (t u : ConnFields) (m : ConnState) (p : Pdu) (ask : Ask) → (k : KeepsState t m) → IsIdle Nothing (Some ask) → u.bound ≡ (is_bind p.body || t.bound)
    → AsksWith t.bound k.run None p p.body (Some ask) → Follows (Changes k.run p p.body) (Some ask) u.joining → u.served ≡ t.served → KeepsState u (behind m p Nothing)
unfolding contexts_after
idle_known t u m p (Bind c flags b) k idle bound asks follows served = absurd idle
idle_known t u m p (Alter c b) k idle bound asks follows served = absurd idle
idle_known t u m p (Call j) k idle bound asks follows served = absurd idle
idle_known t u m p (Cancel id) k idle bound asks follows served =
    let none : offered_by p.body ≡ [] = offers t.bound k.run p p.body (Cancel id) asks in
    keeps_more t u m p Nothing follows.0 k bound follows.1 follows.2 (rw (none, served) k.accepted)
idle_known t u m p (Orphan id) k idle bound asks follows served =
    let none : offered_by p.body ≡ [] = offers t.bound k.run p p.body (Orphan id) asks in
    keeps_more t u m p Nothing follows.0 k bound follows.1 follows.2 (rw (none, served) k.accepted)
idle_known t u m p (Broken c x) k idle bound asks follows served = absurd idle

pub heard_idle : (t u : ConnFields) (m : ConnState) (p : Pdu) (ask : Ask) → IsFree t m → Finds t.bound t.joining None p (Ok (Some ask)) u.joining → u.bound ≡ (is_bind p.body || t.bound)
    → ActsWith t.served t.agreement ask (Ok None) u.served → u.waits ≡ Nothing → HearsAt m p (Ok Skipped) u
heard_idle t u m p ask free finds bound done waits =
    let k = free.keeps in
    let h = found t.bound t.joining k.run p (Some ask) u.joining k.joining finds in
    let r = recalled t.bound k.run (called m.past) p p.body (Some ask) h.0 in
    let asks : Asks m.past p (Some ask) = subst (λ (x : Option Ask). Asks m.past p x) (same_ask ask r.0 r.2) (asked t m k p r.0 r.1) in
    (Some ask, asks, done.0, waits, idle_known t u m p ask k done.0 bound h.0 h.1 done.1)
