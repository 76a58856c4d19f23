use Rattle.epm_manager.proofs.TowerLemmas.{spelled_is}
use Rattle.epm_manager.proofs.request_laws.spelled_is_tower.Goals as goal

pub returns : goal.returns
returns c = spelled_is
