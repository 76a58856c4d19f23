use Rattle.std.proofs.Common.{◌≡◌, ℕ, Bool, true, false, refl, sym, ◌∙◌, arith}
use Rattle.ndr_value.specs.Values.{msg}
use Rattle.manager_api.specs.Answers.{ans}
use Rattle.manager_api.specs.Calls.{Call}
use Rattle.desk_service.specs.Views.{services}
use Rattle.desk_service.proofs.Told.{cancelled_open, told_apart, untold}
use Rattle.desk_service.proofs.desks.ServiceDesks.answer.Goals as goal
use Rattle.desk_service.proofs.desks.ServiceDesks.answer.Goals.{else-cancelled-via-then-cancelled+then-iface-eq-PROBE+else-op-eq-OPEN, else-cancelled-via-then-cancelled+else-iface-eq-PROBE, else-cancelled-via-else-cancelled}

pub returns-then-op-eq-OPEN-clause-may : goal.returns-then-op-eq-OPEN-clause-may
returns-then-op-eq-OPEN-clause-may c =
    let k : Call = record { iface = c.args.iface; op = c.args.op; message = msg c.args.message; cookies = c.args.cookies } in
    cancelled_open (services c.args.self.now) c.args.numbers k c.args.cancelled c.if-iface-eq-PROBE.true c.if-op-eq-OPEN.true c.if-cancelled.true

pub returns-clause-may : goal.returns-clause-may
returns-clause-may c =
    let k : Call = record { iface = c.args.iface; op = c.args.op; message = msg c.args.message; cookies = c.args.cookies } in
    let known : c.call-answer.new.probe.cancelled ≡ c.args.cancelled = c.call-answer.ensures.key ∙ c.new-probe.ensures.cancelled in
    told_apart (services c.args.self.now) (services c.call-answer.new.self) c.args.numbers k (ans c.call-answer.result) c.call-answer.new.probe.told c.args.cancelled
    (λ (i : c.args.iface ≡ 0) (o : c.args.op ≡ 0).
    let no : c.args.cancelled ≡ false = elim c.else-cancelled.branch [
      | else-cancelled-via-then-cancelled+then-iface-eq-PROBE+else-op-eq-OPEN w ↦ absurd (omega (arith, w.if-op-eq-OPEN.false, o))
      | else-cancelled-via-then-cancelled+else-iface-eq-PROBE w ↦ absurd (omega (arith, w.if-iface-eq-PROBE.false, i))
      | else-cancelled-via-else-cancelled w ↦ w.if-cancelled.false
    ] in
    untold c.call-answer.new.probe.told c.call-answer.new.probe.cancelled c.args.cancelled c.is_honest.ensures known no)
    c.call-answer.ensures.may

pub returns-clause-told : goal.returns-clause-told
returns-clause-told c =
    let known : c.call-answer.new.probe.cancelled ≡ c.args.cancelled = c.call-answer.ensures.key ∙ c.new-probe.ensures.cancelled in
    λ is. sym known ∙ c.is_honest.ensures (c.call-answer.ensures.told is)
