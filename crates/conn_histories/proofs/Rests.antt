-- Each state of a history comes to rest.
use Rattle.std.proofs.Common.{◌≡◌, ℕ, zero, suc, ◌<◌, ◌≤◌, ◌⊎◌, inl, inr, List, [], ◌∷◌, length, Option, Some, None, Ok, refl, sym, ap, subst, arith}
use Rattle.std.proofs.lemmas.List.{length-append}
use Rattle.rpc_base.specs.declared.identifiers.SyntaxId.{SyntaxId}
use Rattle.rpc_base.specs.Fields.{IsOctets}
use Rattle.pdu_codec.specs.declared.pdu.Pdu.{Pdu}
use Rattle.pdu_codec.proofs.PduLaws.{pdu_long}
use Rattle.conn_asks.specs.declared.events.Act.{Act}
use Rattle.conn_asks.specs.declared.events.Waits.{Waits}
use Rattle.conn_asks.specs.declared.events.Waits.TheVariants.{Over}
use Rattle.conn_asks.specs.States.{ConnState, at_start, TakesPdu, SkipsAll, Acts, IsStuck, Goes}
use Rattle.conn_histories.specs.Histories.{Event, Lives, IsAtRest, stream}
use Rattle.conn_histories.specs.Continued.{Rests}
use Rattle.conn_histories.specs.Histories.Event.{Paused, Did}
use Rattle.conn_histories.proofs.Goes.{Sound, sound_goes, next_of, octets_left, sound_all}

takes_less : (m n : ConnState) (p : Pdu) → TakesPdu m p n → length n.rest < length m.rest
takes_less m n p t = omega (arith, ap length t.next.2, length-append t.next.0 n.rest, pdu_long p t.next.0 t.next.1)

skips_less : (m : ConnState) (ps : List Pdu) (n : ConnState) → SkipsAll m ps n → length n.rest ≤ length m.rest
skips_less m [] n e = omega (arith, ap (λ (x : ConnState). length x.rest) e)
skips_less m (p ∷ ps) n all = omega (arith, takes_less m all.0 p all.1.takes, skips_less all.0 ps n all.2)

-- fewer octets are left behind an act, or the connection is closed
acts_less : (m n : ConnState) (act : Act) → Goes m (Ok (Some act)) n → (length n.rest < length m.rest) ⊎ (n.waits ≡ Over)
acts_less m n act g = by_end g.3
  where
    by_end : Acts g.1 act n → (length n.rest < length m.rest) ⊎ (n.waits ≡ Over)
    by_end (inl a) = inl (omega (arith, takes_less g.1 n a.0 a.1.takes, skips_less m g.0 g.1 g.2))
    by_end (inr s) = inr (ap (λ (x : ConnState). x.waits) s.1.after)

over_rests : (m : ConnState) → m.waits ≡ Over → IsAtRest m
over_rests m e = subst (λ (w : Waits). IsStuck w m.rest) (sym e) tt

event_first : (m n : ConnState) (act : Act) → Goes m (Ok (Some act)) n → Rests n → Rests m
event_first m n act g r = record {
  events = Did act ∷ r.events;
  after = r.after;
  lives = (n, g, r.lives);
  at_rest = r.at_rest;
  no_octets = r.no_octets;
  no_decisions = r.no_decisions;
}

already : (m : ConnState) → IsAtRest m → Rests m
already m rest = record { events = []; after = m; lives = refl; at_rest = rest; no_octets = refl; no_decisions = refl }

by_act : (n : ℕ) (m k : ConnState) (act : Option Act) → Goes m (Ok act) k → length m.rest < suc n → ((k : ConnState) → length k.rest < n → (act : Act) → Goes m (Ok (Some act)) k → Rests k) → Rests m
by_act n m k None g lt later = record { events = Paused ∷ []; after = k; lives = (k, g, refl); at_rest = g.2; no_octets = refl; no_decisions = refl }
by_act n m k (Some act) g lt later = event_first m k act g (by_less (acts_less m k act g))
  where
    by_less : (length k.rest < length m.rest) ⊎ (k.waits ≡ Over) → Rests k
    by_less (inl less) = later k (omega (arith, less, lt)) act g
    by_less (inr over) = already k (over_rests k over)

rests_within : (n : ℕ) (m : ConnState) → length m.rest < n → IsOctets m.rest → Sound m → Rests m
rests_within zero m lt fits s = absurd (omega arith)
rests_within (suc n) m lt fits s =
    let next = next_of m fits s in
    by_act n m next.after next.act next.goes lt
    (λ k less act g. rests_within n k less (octets_left m k (Some act) g fits) (sound_goes m k (Some act) g s))

pub each_rests : (ids : List SyntaxId) (events : List Event) (m : ConnState) → Lives (at_start ids) events m → IsOctets (stream events) → Rests m
each_rests ids events m l fits =
    let sound = sound_all ids events m l fits in
    rests_within (suc (length m.rest)) m (omega arith) sound.0 sound.1
