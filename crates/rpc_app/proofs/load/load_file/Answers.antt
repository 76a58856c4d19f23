use Rattle.std.proofs.Common.{arith}
use Rattle.rpc_app.proofs.Loads.{too_long, whole_file}
use Rattle.rpc_app.proofs.load.load_file.Goals as goal

pub returns-then-len-most-clause-long : goal.returns-then-len-most-clause-long
returns-then-len-most-clause-long g c = λ e. too_long c.args.most (g.F.Shelf.files c.args.shelf.now) c.args.name.now c.in-Ok.octets.items c.in-Ok.ensures.load (omega (arith, c.in-Ok.octets.ok.0))

pub returns-else-len-most-clause-loaded : goal.returns-else-len-most-clause-loaded
returns-else-len-most-clause-loaded g c = whole_file c.args.most (g.F.Shelf.files c.args.shelf.now) c.args.name.now c.in-Ok.octets.items c.in-Ok.ensures.load (omega (arith, c.in-Ok.octets.ok.0))
