use Rattle.std.proofs.Common.{rules, refl, inl, inr}
use Rattle.rpc_app.proofs.serving.serve_with.Goals as goal

pub returns-in-Ok : goal.returns-in-Ok
returns-in-Ok g c =
    inl (c.in-Ok.printed.status, record { printed = c.in-Ok.printed.out; logged = c.in-Ok.printed.log; serves = c.in-Ok.ensures.serves; desks = c.in-Ok.ensures.desks; put = c.put_served.ensures })

pub returns-in-Err-Failed : goal.returns-in-Err-Failed
returns-in-Err-Failed g c = inr ((refl, refl), inl (refl, rw c.in-Err-Failed.field-0-is at c.in-Err-Failed.ensures.why))

pub returns-in-Err-Memory : goal.returns-in-Err-Memory
returns-in-Err-Memory g c = inr ((refl, refl), inr (refl, rw c.in-Err-Memory.field-0-is at c.in-Err-Memory.ensures.why))
