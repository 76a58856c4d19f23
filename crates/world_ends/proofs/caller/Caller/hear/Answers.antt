use Rattle.std.proofs.Common.{ℕ, List, Bool, ◌||◌, ◌++◌, refl, ap, subst, ◌∙◌}
use Rattle.pdu_codec.specs.declared.pdu.Pdu.{Pdu}
use Rattle.pdu_stream.specs.Cuts.{IsCut}
use Rattle.world_laws.specs.Calling.{HearsPdus}
use Rattle.world_ends.proofs.Told.{heard_octets}
use Rattle.world_ends.proofs.caller.Caller.hear.Goals as goal

pub returns : goal.returns
returns c c' is =
    let h = c.in_ok-broken.ensures c' is in
    heard_octets c.args.self.now c.hear_pdus.new.self _ c' h.0 c.args.octets.now c.in_ok-cut.cut c.in_ok-broken.broken c.either.result is
    (subst (λ (o : List ℕ). IsCut (o ++ c.args.octets.now) c.in_ok-cut.cut) c.as_slice.ensures.value c.in_ok-cut.ensures)
    (subst (λ (ps : List Pdu). HearsPdus c' ps h.0 c.in_ok-broken.broken) c.into_vec.ensures h.1) h.2
    (c.either.ensures ∙ ap (λ (b : Bool). c.in_ok-broken.broken || b) c.is_some-faulty.ensures) refl c.into_vec-2.ensures
