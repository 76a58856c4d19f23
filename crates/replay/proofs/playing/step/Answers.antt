use Rattle.std.proofs.Common.{◌∙◌, ◌≡◌, ◌∷◌, ℕ, List, ap, drop, length, subst, arith}
use Rattle.replay_script.specs.Knowing.{Knows}
use Rattle.replay.proofs.Stepping.{grown, stepped}
use Rattle.replay.proofs.playing.step.Goals as goal

pub split_at-requires : goal.split_at-requires
split_at-requires c =
    let more = grown c.in_ok-lines.field-0.items c.args.player.now c.play_lines.new.player c.requires.world c.in_ok-play_lines.ensures in
    omega (arith, more, c.len-before.ensures, ap length c.as_slice.ensures.value)

pub returns : goal.returns
returns c = λ number rounds at.
    let before : c.len-before.result ≡ length c.args.player.now.out.items = omega (arith, c.len-before.ensures, c.args.player.now.out.ok.0) in
    let printed : c.split_at.result.1.now ≡ drop (length c.args.player.now.out.items) c.play_lines.new.player.out.items =
    c.split_at.ensures.back ∙ (λ i. drop (before i) (c.as_slice.ensures.value i)) in
    stepped number rounds c.args.player.now c.play_lines.new.player c.args.load.now c.played.new.self c.next-step.result c.in_ok-lines.field-0.items c.split_at.result.1.now c.in_ok-answers.answers.items at
    (c.next-step.ensures.step number rounds at.knows) c.in_ok-lines.ensures c.in_ok-play_lines.ensures printed c.in_ok-answers.ensures
    (subst (λ (pdus : List (List ℕ)). Knows number (record { step = c.next-step.result; answers = pdus } ∷ rounds) c.played.new.self) c.as_slice-2.ensures.value (c.played.ensures number rounds at.knows))
