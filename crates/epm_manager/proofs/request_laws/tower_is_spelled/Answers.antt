use Rattle.epm_manager.proofs.TowerLemmas.{tower_is}
use Rattle.epm_manager.proofs.request_laws.tower_is_spelled.Goals as goal

pub returns : goal.returns
returns c = tower_is
