use Rattle.tower_codec.proofs.TowerLaws.{only_tower}
use Rattle.tower_codec.proofs.reading.read_tower.Goals as goal

pub returns-clause-only : goal.returns-clause-only
returns-clause-only c = only_tower c.parse_tower.result c.args.octets.now c.parse_tower.ensures.found c.parse_tower.ensures.fault
