use Rattle.std.proofs.Common.{ap}
use Rattle.std.specs.Option.{option_map}
use Rattle.client_core.specs.State.{state}
use Rattle.client_core.specs.States.{told}
use Rattle.world_ends.specs.declared.caller.Caller.{Caller}
use Rattle.world_ends.proofs.Told.{heard, hears_so, heard_is}
use Rattle.world_ends.proofs.caller.Caller.hear_pdu.Goals as goal

pub returns : goal.returns
returns c c' is =
    let t = option_map told c.in_ok-outcome.outcome in
    let mid : Caller = record c.args.self.now { client = c.on_pdu.new.self } in
    let n = state c.on_pdu.new.self in (
      t,
      heard c' c.args.pdu t n,
      hears_so c.args.self.now mid c' c.args.pdu t is c.in_ok-outcome.ensures.hears,
      c.tell.ensures.breaks,
      heard_is c.args.self.now c.tell.new.self c' c.args.pdu t n c.is_calling-out.result is (ap (λ (z : Caller). state z.client) c.tell.ensures.same) c.is_calling-out.ensures
          (ap (λ (z : Caller). z.rest.items) c.tell.ensures.same) c.tell.ensures.fates,
    )
