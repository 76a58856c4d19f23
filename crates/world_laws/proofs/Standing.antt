-- A connection stands until it is lost, or its octets break the protocol.
use Rattle.std.proofs.Common.{◌≡◌, ℕ, Bool, true, false, ◌&&◌, ◌||◌, Option, Some, None, List, [], ◌∷◌, ◌++◌, refl, sym, subst, ◌∙◌}
use Rattle.std.specs.Prelude.{is_some}
use Rattle.std.specs.List.{list_all}
use Rattle.pdu_codec.specs.declared.pdu.Pdu.{Pdu}
use Rattle.client_core.specs.States.{Outcome, is_calling}
use Rattle.client_core.specs.States.Outcome.{TBound, TNotBound, TDone, TFault, TBroken}
use Rattle.client_core.specs.Histories.{ClientEvent}
use Rattle.client_core.specs.Histories.ClientEvent.{Received}
use Rattle.world_laws.specs.Ends.{CallerEnd, Line}
use Rattle.world_laws.specs.Calling.{breaks, HearsPdu, IfBroken, HearsPdus, HearsOctets, lost_line}
use Rattle.world_laws.specs.Telling.{goes_on, EndsByLoss}

and_parts : (a b : Bool) → (a && b) ≡ true → (a ≡ true) × (b ≡ true)
and_parts true b e = (refl, e)
and_parts false b e = absurd (cc (e))

and_both : (a b : Bool) → a ≡ true → b ≡ true → (a && b) ≡ true
and_both true b e f = f
and_both false b e f = absurd (cc (e))

all_more : (a b : List ClientEvent) → list_all goes_on a ≡ true → list_all goes_on b ≡ true → list_all goes_on (a ++ b) ≡ true
all_more [] b h k = k
all_more (e ∷ a) b h k = let p = and_parts (goes_on e) (list_all goes_on a) h in and_both (goes_on e) (list_all goes_on (a ++ b)) p.0 (all_more a b p.1 k)

pub goes_with : (m : Line) → m.standing ≡ true → list_all goes_on m.caller.events ≡ true → EndsByLoss m
goes_with m stands all = record { stands = λ s. all; lost = λ s. absurd (cc (stands, s)) }

-- the caller does something more
pub does_more : (l m : Line) (event : ClientEvent) → l.standing ≡ true → m.standing ≡ l.standing → m.caller.events ≡ l.caller.events ++ event ∷ [] → goes_on event ≡ true → EndsByLoss l → EndsByLoss m
does_more l m event stands same is goes h =
    goes_with m (same ∙ stands)
    (subst (λ (x : List ClientEvent). list_all goes_on x ≡ true) (sym is) (all_more l.caller.events (event ∷ []) (h.stands stands) (and_both (goes_on event) true goes refl)))

-- it hears PDUs
not_broken : (p : Pdu) (t : Option Outcome) → breaks t ≡ false → goes_on (Received p t) ≡ true
not_broken p None h = refl
not_broken p (Some (TDone m)) h = refl
not_broken p (Some (TFault status not_run)) h = refl
not_broken p (Some (TBound group)) h = refl
not_broken p (Some (TNotBound reason)) h = refl
not_broken p (Some (TBroken fault)) h = absurd (cc (h))

heard_one : (c d : CallerEnd) (p : Pdu) (t : Option Outcome) → HearsPdu c p t d → breaks t ≡ false → list_all goes_on c.events ≡ true → list_all goes_on d.events ≡ true
heard_one c d p t h b all =
    subst (λ (x : CallerEnd). list_all goes_on x.events ≡ true) (sym h.after) (all_more c.events (Received p t ∷ []) all (and_both (goes_on (Received p t)) true (not_broken p t b) refl))

heard_more : (b : Bool) (c between d : CallerEnd) (p : Pdu) (t : Option Outcome) (more : List Pdu) (broken : Bool) → breaks t ≡ b → HearsPdu c p t between → broken ≡ false → list_all goes_on c.events ≡ true
    → (HearsPdus between more d broken → list_all goes_on between.events ≡ true → list_all goes_on d.events ≡ true) → IfBroken b ((d ≡ between) × (broken ≡ true)) (HearsPdus between more d broken) → list_all goes_on d.events ≡ true
heard_more true c between d p t more broken b first e all go h = absurd (cc (e, h.1))
heard_more false c between d p t more broken b first e all go h = go h (heard_one c between p t first b all)

heard_pdus : (pdus : List Pdu) (c d : CallerEnd) (broken : Bool) → HearsPdus c pdus d broken → broken ≡ false → list_all goes_on c.events ≡ true → list_all goes_on d.events ≡ true
heard_pdus [] c d broken h e all = subst (λ (x : CallerEnd). list_all goes_on x.events ≡ true) (sym h.0) all
heard_pdus (p ∷ more) c d broken (t, between, first, later) e all =
    heard_more (breaks t) c between d p t more broken refl first e all (λ h a. heard_pdus more between d broken h e a) later

or_first : (a b c : Bool) → c ≡ (a || b) → c ≡ false → a ≡ false
or_first true b c e f = absurd (cc (e, f))
or_first false b c e f = refl

pub hears_more : (l : Line) (d : CallerEnd) (octets left : List ℕ) → l.standing ≡ true → HearsOctets l.caller octets d false → EndsByLoss l → EndsByLoss (record l { caller = d; down = left })
hears_more l d octets left stands h ends =
    goes_with (record l { caller = d; down = left }) stands
    (subst (λ (x : CallerEnd). list_all goes_on x.events ≡ true) (sym h.after) (heard_pdus h.cut.pdus l.caller h.heard h.by_pdu h.hears (or_first h.by_pdu (is_some h.cut.fault) false h.broken_is refl) (ends.stands stands)))

-- it is lost
pub is_lost : (l : Line) → EndsByLoss (lost_line l)
is_lost l = record { stands = λ s. absurd (cc (s)); lost = λ s. (l.caller.events, is_calling l.caller.state, refl) }
