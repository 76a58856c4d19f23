use Rattle.std.proofs.Common.{Option, Bor}
use Rattle.ndr_value.specs.Values.{Msg, msg}
use Rattle.ndr_value.specs.declared.value.Message.{Message}
use Rattle.ndr_table.specs.Shown.{shown}
use Rattle.ndr_model.specs.Fits.{IsOfOp}
use Rattle.ndr_agree.specs.Views.{asked_of}
use Rattle.ndr_codec.proofs.Fitting.{with_op, any_stub}
use Rattle.ndr_codec.proofs.fit.fits.Goals as goal

pub returns-clause-only : goal.returns-clause-only
returns-clause-only c =
    let t = shown c.args.table.now in
    let asked : Option Msg = asked_of {A = Bor Message} (λ n. n.now) c.args.asked in
    any_stub t.types t.ops c.args.op (λ o is. record { ops = t.ops; uses = t.uses; number = c.args.op; table = c.is_whole.ensures; shallow = c.is_shallow.ensures; is = is })
    c.fits_at.result c.args.way asked (msg c.args.message.now) c.fits_at.ensures.exact

pub returns-clause-exact : goal.returns-clause-exact
returns-clause-exact c =
    let t = shown c.args.table.now in
    let asked : Option Msg = asked_of {A = Bor Message} (λ n. n.now) c.args.asked in
    with_op t.types t.ops c.args.op (λ o is. record { ops = t.ops; uses = t.uses; number = c.args.op; table = c.is_whole.ensures; shallow = c.is_shallow.ensures; is = is })
    c.fits_at.result (λ o. IsOfOp t.types o c.args.way asked (msg c.args.message.now)) c.fits_at.ensures.exact
