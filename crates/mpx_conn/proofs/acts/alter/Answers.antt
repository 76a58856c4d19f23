use Rattle.conn_core.proofs.Fits.{results_fit}
use Rattle.mpx_conn.proofs.acts.alter.Goals as goal

pub alter_resp-requires : goal.alter_resp-requires
alter_resp-requires c = rw c.in_ok-results.ensures.results (results_fit _ _ _ c.requires)
