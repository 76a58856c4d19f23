use Rattle.std.proofs.Common.{refl}
use Rattle.std.proofs.lemmas.Result.{err_from_is_err_and}
use Rattle.client_core.specs.Histories.ClientEvent.{DidBind}
use Rattle.client_script.specs.Worlds.{with_event}
use Rattle.client_script.proofs.Channels.{bound, bound_not, unbegun}
use Rattle.client_script.proofs.channel.Channel.bind.Goals as goal

pub returns-in_err-begin_bind-clause-binds : goal.returns-in_err-begin_bind-clause-binds
returns-in_err-begin_bind-clause-binds g c =
    let p = err_from_is_err_and c.from_residual.result c.from_residual.ensures.1 in
    rw (p.1, p.2) (λ interface a h o. unbegun g.K.Link.shows interface c.args.self.now c.begin_bind.new.self a c.args.group c.in_err-begin_bind.field-0.0 (c.in_err-begin_bind.ensures.begins interface a h o))

pub returns-in_err-told-clause-binds : goal.returns-in_err-told-clause-binds
returns-in_err-told-clause-binds g c =
    let p = err_from_is_err_and c.from_residual-in_err-told.result c.from_residual-in_err-told.ensures.1 in
    rw (p.1, p.2) (λ interface a h o.
    let l = c.in_ok-begin_bind.ensures.begins interface a h o in
    bound_not g.K.Link.shows interface c.args.self.now c.begin_bind.new.self c.wait.new.self a c.args.group c.in_err-told.field-0.0 l (c.in_err-told.ensures.hears interface (with_event a (DidBind c.args.group l.0) l.1) l.3 o))

pub returns-clause-binds : goal.returns-clause-binds
returns-clause-binds g c = λ interface a h o.
    let l = c.in_ok-begin_bind.ensures.begins interface a h o in
    bound g.K.Link.shows interface c.args.self.now c.begin_bind.new.self c.wait.new.self (record c.wait.new.self { group = c.group_of-self.result }) a c.args.group c.group_of-self.result c.in_ok-told.told l
    (c.in_ok-told.ensures.hears interface (with_event a (DidBind c.args.group l.0) l.1) l.3 o) c.group_of-self.ensures refl
