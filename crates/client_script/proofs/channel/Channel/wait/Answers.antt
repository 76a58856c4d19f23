use Rattle.std.proofs.Common.{Ok, ap, ◌∙◌}
use Rattle.client_script.proofs.Channels.{heard, broke, deafened}
use Rattle.client_script.proofs.channel.Channel.wait.Goals as goal

pub returns-in-Ok-Broken-clause-hears : goal.returns-in-Ok-Broken-clause-hears
returns-in-Ok-Broken-clause-hears g c =
    let waits = rw (c.in-Ok-Broken.is ∙ ap Ok c.in-Ok-Broken.field-0-is) at c.wait.ensures.waits in
    λ interface a h o. broke g.K.Link.shows interface c.args.self.now a c.wait.new.self h o c.wait.ensures.stays _ (waits interface a.events a.state (h.lived o).0)

pub returns-in-Ok-clause-hears : goal.returns-in-Ok-clause-hears
returns-in-Ok-clause-hears g c = λ interface a h o. heard g.K.Link.shows interface c.args.self.now a c.wait.new.self h o c.wait.ensures.stays c.in-Ok.told (c.in-Ok.ensures.waits interface a.events a.state (h.lived o).0)

pub returns-in-Err-clause-hears : goal.returns-in-Err-clause-hears
returns-in-Err-clause-hears g c = λ interface a h o.
    deafened g.K.Link.shows interface c.args.self.now a c.wait.new.self h o c.wait.ensures.stays c.in-Err.why c.lose.result c.lose.new.self (c.in-Err.ensures.waits interface a.events a.state (h.lived o).0) c.lose.ensures
