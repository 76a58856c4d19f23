use Rattle.std.proofs.Common.{rules, ◌≡◌, ◌∙◌, ◌++◌, ◌∷◌, [], length, refl, sym, ap, subst, append_assoc, arith}
use Rattle.std.specs.Vec.Iter.{into_iter_items, into_iter_len}
use Rattle.rpc_outside.specs.Doors.{Backs}
use Rattle.server_command.specs.Doors.{links_in, IsAtLeast, TakesBack}
use Rattle.server_command.proofs.Doors.{takes_none, takes_more, links_more, one_less}
use Rattle.server_command.proofs.back.give_back.Goals as goal

pub loop-settled-init : goal.loop-settled-init
loop-settled-init g c =
    let gives = c.into_iter-settled-iterator.ensures.into_iter_gives in
    let len : into_iter_len c.into_iter-settled-iterator.result ≡ length c.args.finished.items = search rules in (
      refl,
      takes_none (g.D.Door.shows c.args.door.now),
      subst (λ l. IsAtLeast (length l) (g.D.Door.shows c.args.door.now).out) (sym gives.0) c.requires,
      len ∙ ap length (sym gives.0),
    )

pub loop-settled-preserved : goal.loop-settled-preserved
loop-settled-preserved g c =
    let at = c.loop-settled in
    let x = c.in-Some.settled in
    let shows = g.D.Door.shows in
    let steps : into_iter_items at.settled-iterator ≡ x ∷ into_iter_items c.next.new.self = c.in-Some.ensures.steps.0 in (
      append_assoc at.yielded (x ∷ []) _ ∙ rw (← steps) at.invariant.0,
      subst (λ l. TakesBack (shows c.args.door.now) l (shows c.back.new.self)) (sym (links_more at.yielded x))
          (takes_more (shows c.args.door.now) (shows at.door) (shows c.back.new.self) (links_in at.yielded) x.link at.invariant.1
          (subst (λ l. Backs (shows at.door) l (shows c.back.new.self)) c.into_inner.ensures c.back.ensures)),
      one_less (length (into_iter_items at.settled-iterator)) (length (into_iter_items c.next.new.self)) (shows at.door).out (shows c.back.new.self).out (ap length steps) at.invariant.2 c.back.ensures.out,
      let was = at.invariant.3 in
          let gone = c.in-Some.ensures.steps.1 in
          let short = ap length steps in
          omega arith,
    )
