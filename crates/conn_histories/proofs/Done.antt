-- What is done and answered is what the octets that came ask.
use Rattle.std.proofs.Common.{◌⊎◌, inl, inr, ◌≡◌, List, [], None, refl, sym, subst, ◌∙◌}
use Rattle.rpc_base.specs.declared.identifiers.SyntaxId.{SyntaxId}
use Rattle.pdu_stream.specs.Cuts.{IsPartial}
use Rattle.conn_asks.specs.declared.events.Ask.{Ask}
use Rattle.conn_asks.specs.declared.events.Waits.{Waits}
use Rattle.conn_asks.specs.declared.events.Waits.TheVariants.{Nothing, Over}
use Rattle.conn_asks.specs.Asks.{AreAsksOf}
use Rattle.conn_asks.specs.States.{ConnState, at_start, with_octets, IsStuck}
use Rattle.conn_histories.specs.Histories.{Event, Lives, IsAtRest, stream, seen}
use Rattle.conn_histories.specs.Plays.{Negotiated, negotiated_at_start, Plays, EndsRefused}
use Rattle.conn_histories.specs.Played.{Done}
use Rattle.conn_histories.proofs.Early.{early}
use Rattle.conn_histories.proofs.Left.{Left, none_at_start}
use Rattle.conn_histories.proofs.Walks.{negotiated, Rest, walk, left_at}
use Rattle.conn_histories.proofs.Walks.Rest.{open_yet, closed, refused}

at_rest : (m : ConnState) (left : List Ask) (all : List Event) → Rest m left all → m.waits ≡ Nothing → IsAtRest m → left ≡ []
at_rest m left all (open_yet live l) free rest =
    let part : IsPartial m.rest = subst (λ (w : Waits). IsStuck w m.rest) free rest in
    left_at m None left part l
at_rest m left all (closed over none) free rest = none
at_rest m left all (refused over r) free rest = let wrong : Nothing ≡ Over = sym free ∙ over in absurd (cc (wrong))

when_over : (m : ConnState) (left : List Ask) (all : List Event) → Rest m left all → m.waits ≡ Over → (left ≡ []) ⊎ EndsRefused all
when_over m left all (open_yet live l) e = absurd (live e)
when_over m left all (closed is none) e = inl none
when_over m left all (refused is r) e = inr r

pub acts_are_asks : (ids : List SyntaxId) (events : List Event) (m : ConnState) (asked : List Ask) → Lives (at_start ids) events m → AreAsksOf (stream events) asked → Done ids events m asked
acts_are_asks ids events m asked h a =
    let start = with_octets (at_start ids) (stream events) in
    let e = early events (at_start ids) m start [] refl h in
    let l : Left start asked = record { cut = a.cut; is_cut = a.is_cut; asks = a.asked } in
    let w = walk (seen events) start e.reached m e.skipped asked e.acted e.skips (λ o. absurd (cc (o))) l in
    let knows : negotiated start ≡ negotiated_at_start ids = λ i. record { ids = ids; accepted = none_at_start ids i; agreement = start.agreement } in
    record {
      done = w.done;
      left = w.left;
      whole = w.whole;
      plays = subst (λ (k : Negotiated). Plays k w.done (seen events)) knows w.plays;
      free = at_rest m w.left (seen events) w.remaining;
      over = when_over m w.left (seen events) w.remaining;
    }
