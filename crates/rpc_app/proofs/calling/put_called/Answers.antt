use Rattle.std.proofs.Common.{refl, inl, inr}
use Rattle.rpc_app.proofs.calling.put_called.Goals as goal

pub returns-in-Ok : goal.returns-in-Ok
returns-in-Ok g c = inl (c.in-Ok.ensures.0, rw c.in-Ok.ensures.1 at c.put_text.ensures)

pub returns-in-Err : goal.returns-in-Err
returns-in-Err g c = inr (refl, refl)
