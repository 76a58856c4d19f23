use Rattle.std.proofs.Common.{◌-◌, ap, ◌∙◌, arith, take, length, drop, length-take, length-drop}
use Rattle.std.specs.Io.KnownBytes.{append_known}
use Rattle.rpc_base.proofs.Puts.{grown, rest_is}
use Rattle.rpc_base.proofs.sink.put_all.Goals as goal

pub loop-done-preserved : goal.loop-done-preserved
loop-done-preserved g c =
    let text = c.args.text.now in
    let k = c.loop-done.done in
    let n = c.in_ok-done.field-0 in
    let so_far = c.loop-done.invariant in
    record {
      within = omega (arith, c.in_ok-done.ensures.at_most, length-take (length text - k) (drop k text), length-drop k text);
      written =
          c.in_ok-done.ensures.written ∙ (ap (λ o. append_known o (take n (take (length text - k) (drop k text)))) so_far.written ∙ grown (g.S.Sink.written c.args.sink.now) text (take (length text - k) (drop k text)) k n (rest_is text k));
      later = omega (arith, c.in_ok-done.ensures.cause.later, so_far.later);
    }
