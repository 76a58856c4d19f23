use Rattle.std.proofs.Common.{subst}
use Rattle.app_words.proofs.Unasked.{IsNone, no_call}
use Rattle.app_words.proofs.words.call_of.Goals as goal

pub returns-in_err-ip : goal.returns-in_err-ip
returns-in_err-ip c = rw c.from_residual.ensures (no_call c.args.address.now c.args.idl.now c.args.script.now (subst IsNone c.as_bytes.ensures.value c.in_err-ip.ensures))
