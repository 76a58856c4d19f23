-- What the desk keeps of its files and their names.
use Rattle.std.specs.Prelude.{◌≡◌, ℕ, ◌≤◌, true, List, [], ◌∷◌, ◌++◌, length, slice_get, slice_set, Some, bytes_eq, if◌then◌else◌}
use Rattle.std.specs.List.{list_all}
use Rattle.std.specs.declared.vec.Vec.{Vec}
use Rattle.std.specs.declared.alloc.Global.{Global}
use Rattle.std.specs.BTreeMap.{BTreeMap}
use Rattle.rpc_base.specs.Named.{at_name}
use Rattle.store_manager.specs.declared.file.File.{File}
use Rattle.store_manager.specs.Files.{number_named, is_short, most_files}

abbrev pub NamesNumbers : Type 0
NamesNumbers = BTreeMap (Vec ℕ Global) ℕ

-- the names have the numbers of the files, and the limits are kept
pub record IsWhole (files : List File) (names : NamesNumbers) : Type 0 where
  pub named : (name : List ℕ) → at_name names name ≡ number_named name files
  pub few : length files ≤ most_files
  pub short : list_all is_short files ≡ true

-- the octets of an argument stand behind those of the file of an index
abbrev pub AppendsOctets : List File → ℕ → List ℕ → List File → Type 0
AppendsOctets files index octets after = (f : File) → slice_get files index ≡ Some f → after ≡ slice_set files index (record { name = f.name; octets = f.octets ++ octets })

-- an empty file of a name stands behind the others, and beside theirs its name leads to its number
abbrev pub AddsFile : List File → NamesNumbers → List ℕ → ℕ → List File → NamesNumbers → Type 0
AddsFile files names name number after renamed = (after ≡ files ++ record { name = name; octets = [] } ∷ []) × ((other : List ℕ) → at_name renamed other ≡ (if bytes_eq name other then Some number else at_name names other))
