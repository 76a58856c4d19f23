-- What the definitions say of towers.
use Rattle.std.specs.Prelude.{◌≡◌, List, ℕ, Some}
use Rattle.rpc_base.specs.Fields.{IsOctets}
use Rattle.tower_codec.specs.declared.tower.Tower.{Tower}
use Rattle.tower_codec.specs.Towers.{IsTower}
use Rattle.epm_manager.specs.Asked.{tower_of}

-- the tower of octets is the one that they spell
abbrev pub TowerIsSpelled : Type 0
TowerIsSpelled = (octets : List ℕ) (tower : Tower) → IsOctets octets → tower_of octets ≡ Some tower → IsTower tower octets

abbrev pub SpelledIsTower : Type 0
SpelledIsTower = (octets : List ℕ) (tower : Tower) → IsTower tower octets → tower_of octets ≡ Some tower
