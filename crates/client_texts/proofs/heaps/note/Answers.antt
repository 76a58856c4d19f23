use Rattle.client_texts.proofs.Pointers.{note_more, note_all}
use Rattle.client_texts.proofs.heaps.note.Goals as goal

pub loop-aim-preserved : goal.loop-aim-preserved
loop-aim-preserved c = λ before h.
    let i = c.loop-aim.invariant before h in
    (_, c.in_ok-note_one.ensures i.0 i.1, note_more before i.0 c.args.aims.now c.loop-aim.aim-index c.aim-item.result c.loop-aim-test.true c.aim-item.is i.2)

pub returns : goal.returns
returns c = λ before h. let i = c.loop-aim.invariant before h in note_all c.loop-aim.firsts before i.0 c.args.aims.now c.loop-aim.aim-index c.loop-aim-test.false i.1 i.2
