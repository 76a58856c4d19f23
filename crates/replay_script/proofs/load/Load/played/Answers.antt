use Rattle.std.proofs.Common.{refl, arith}
use Rattle.replay_script.proofs.Behind.{opened_low, call_small, knows_more}
use Rattle.replay_script.proofs.load.Load.played.Goals as goal

pub returns : goal.returns
returns c = λ number past k.
    let n = k.steps_are in
    let o = k.opened_are in
    let more = c.requires.more in
    knows_more number past c.args.self.now k _ c.args.step c.args.answers.now c.after-slot.result c.requires.slot c.requires.more
    c.next_number-self.ensures refl (c.opened_by-self.ensures (omega (arith, n, o, more, opened_low past))) refl
    (c.after-slot.ensures (call_small number past c.args.self.now k c.args.step.slot c.requires.slot c.requires.more))
