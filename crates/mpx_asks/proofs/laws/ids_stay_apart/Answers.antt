use Rattle.mpx_asks.proofs.Apart.{stay_apart}
use Rattle.mpx_asks.proofs.laws.ids_stay_apart.Goals as goal

pub returns : goal.returns
returns c = stay_apart
