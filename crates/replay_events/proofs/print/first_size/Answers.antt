use Rattle.std.proofs.Common.{◌≡◌, ◌++◌, List, ℕ, length, take, drop, refl, sym, ap, ◌∙◌, arith}
use Rattle.std.proofs.lemmas.List.{take-append-drop, length-take}
use Rattle.pdu_codec.specs.Constants.{header_size}
use Rattle.server_counts.proofs.Heads.{first_long, first_sound, first_size, head_len}
use Rattle.replay_events.proofs.print.first_size.Goals as goal

pub unreachable-requires : goal.unreachable-requires
unreachable-requires c = absurd (omega (arith, first_long c.args.octets.now c.requires, c.in_default.ensures.cases))

pub unreachable-requires-in-Err : goal.unreachable-requires-in-Err
unreachable-requires-in-Err c =
    let o = c.args.octets.now in
    let first = c.in-Some.ensures.cases in
    first_sound o c.in-Some.header.now (drop header_size o) c.in-Err.field-0 c.requires (ap length first.same ∙ omega (arith, length-take header_size o, first.enough))
    (sym (take-append-drop header_size o) ∙ ap (λ (t : List ℕ). t ++ drop header_size o) (sym first.same)) c.in-Err.ensures.fault

pub returns : goal.returns
returns c =
    let o = c.args.octets.now in
    let first = c.in-Some.ensures.cases in
    first_size o c.in-Some.header.now (drop header_size o) c.in-Ok.head c.in-Ok.head.length c.requires (sym (take-append-drop header_size o) ∙ ap (λ (t : List ℕ). t ++ drop header_size o) (sym first.same)) c.in-Ok.ensures.head refl
