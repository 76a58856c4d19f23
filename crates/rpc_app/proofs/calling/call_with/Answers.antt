use Rattle.rpc_app.proofs.calling.call_with.Goals as goal

pub returns : goal.returns
returns g c = (c.call-called.result.end, c.call-called.result.out, rw c.as_slice.ensures.value at c.call-called.ensures, c.put_called.ensures)
