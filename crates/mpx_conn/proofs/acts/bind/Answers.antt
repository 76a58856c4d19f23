use Rattle.std.proofs.Common.{arith}
use Rattle.conn_core.proofs.Fits.{results_fit}
use Rattle.mpx_conn.proofs.acts.bind.Goals as goal

pub returns-clause-can : goal.returns-clause-can
returns-clause-can c = (
  c.new.ensures,
  rw c.in_ok-results.ensures.results (results_fit _ _ _ c.requires.few),
  rw c.agreement-agreement.ensures (omega (arith, c.requires.wide), omega (arith, c.requires.wide)),
)
