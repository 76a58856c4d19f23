use Rattle.std.proofs.Common.{refl}
use Rattle.conn_core.proofs.Fits.{nothing_offered}
use Rattle.mpx_conn.proofs.Hearing.{does_bind, does_call, does_close}
use Rattle.mpx_conn.proofs.acts.act.Goals as goal

pub returns-in-Bind-clause-acts : goal.returns-in-Bind-clause-acts
returns-in-Bind-clause-acts c =
    rw c.in-Bind.is
    (does_bind c.args.contexts.now c.args.out.now c.args.agreement c.in-Bind.caller c.in-Bind.field-1 c.in-Bind.body c.bind.result c.bind.new.contexts (c.bind.ensures.acts c.in-Bind.field-1))

pub returns-in-Call-clause-acts : goal.returns-in-Call-clause-acts
returns-in-Call-clause-acts c =
    rw c.in-Call.is (does_call c.args.contexts.now c.args.out.now c.args.agreement c.in-Call.joined c.call.result c.call.new.out c.call.ensures.calls)

pub returns-in-Cancel-clause-acts : goal.returns-in-Cancel-clause-acts
returns-in-Cancel-clause-acts c = rw c.in-Cancel.is ((refl, refl, refl), nothing_offered _)

pub returns-in-Orphan-clause-acts : goal.returns-in-Orphan-clause-acts
returns-in-Orphan-clause-acts c = rw c.in-Orphan.is ((refl, refl, c.remove.ensures), nothing_offered _)

pub returns-in-Broken-clause-acts : goal.returns-in-Broken-clause-acts
returns-in-Broken-clause-acts c =
    rw c.in-Broken.is (does_close c.args.contexts.now c.args.out.now c.args.agreement c.in-Broken.caller c.in-Broken.why c.close.result c.close.ensures.closes)
