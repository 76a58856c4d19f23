-- Files by name.
use Rattle.std.specs.Prelude.{◌≡◌, ℕ, List, [], ◌∷◌, take, Option, Some, None, IsSomeAnd, ⊤, if◌then◌else◌}
use Rattle.std.specs.Str.{bytes_eq}
use Rattle.rpc_base.specs.declared.shelf.ShelfFile.{ShelfFile}

-- what a shelf may tell: the octets of each name that it has
abbrev pub Files : Type 0
Files = List ℕ → Option (List ℕ)

-- what files in a list are by name: of several of one name the first counts
abbrev pub file_of : List ShelfFile → Files
file_of [] name = None
file_of (file ∷ files) name = if bytes_eq file.name name then Some file.octets else file_of files name

-- where the files are told, one of that name is there and has P
abbrev pub HasFile : Option Files → List ℕ → (List ℕ → Type 0) → Type 0
HasFile None name P = ⊤
HasFile (Some files) name P = IsSomeAnd (files name) P

-- A load answered these octets: where the files are told, the first ones of the file of that name.
abbrev pub IsLoad : Option Files → List ℕ → ℕ → List ℕ → Type 0
IsLoad told name most octets = HasFile told name (λ file. octets ≡ take most file)

-- the files are told, and one of that name has these octets
abbrev pub TellsFile : Option Files → List ℕ → List ℕ → Type 0
TellsFile None name octets = ⊥
TellsFile (Some files) name octets = files name ≡ Some octets
