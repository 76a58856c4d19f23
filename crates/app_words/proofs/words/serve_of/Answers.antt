use Rattle.std.proofs.Common.{option_map, subst}
use Rattle.app_words.proofs.Unasked.{IsNone, no_serve}
use Rattle.app_words.proofs.words.serve_of.Goals as goal

pub returns-in_err-ip : goal.returns-in_err-ip
returns-in_err-ip c = rw c.from_residual.ensures (no_serve c.args.address.now c.args.connections.now (option_map (λ text. text.now) c.args.idl) (subst IsNone c.as_bytes.ensures.value c.in_err-ip.ensures))
