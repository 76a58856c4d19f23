-- The store's files, and its cookies as numbers.
use Rattle.std.specs.Prelude.{ℕ, zero, suc, ◌+◌, ◌*◌, ◌/◌, ◌%◌, ◌^◌, Bool, ◌&&◌, nat_le, List, [], ◌∷◌, length, slice_get, slice_set, Option, Some, None, bytes_eq, if◌then◌else◌}
use Rattle.store_manager.specs.declared.file.File.{File}

-- the files, in the order in which they were opened first, and the number of handles: of those issued and neither closed nor run down
pub record Store : Type 0 where
  pub files : List File
  pub handles : ℕ

-- ---- cookies: a cursor's is the number of its file, from 1, times 2^32 plus its position; a view's has position 0

abbrev pub cookie_of : ℕ → ℕ → ℕ
cookie_of number position = number * 2 ^ 32 + position

abbrev pub number_of : ℕ → ℕ
number_of cookie = cookie / 2 ^ 32

abbrev pub position_of : ℕ → ℕ
position_of cookie = cookie % 2 ^ 32

-- ---- files

-- the file of a number, from 1
abbrev pub file_at : List File → ℕ → Option File
file_at files zero = None
file_at files (suc n) = slice_get files n

-- the number of the first file of a name, where the first of these has number n
abbrev pub named_from : ℕ → List ℕ → List File → Option ℕ
named_from n name [] = None
named_from n name (f ∷ fs) = if bytes_eq f.name name then Some n else named_from (n + 1) name fs

abbrev pub number_named : List ℕ → List File → Option ℕ
number_named name files = named_from 1 name files

-- the same with other octets in the file of a number
abbrev pub with_file : List File → ℕ → File → List File
with_file files zero file = files
with_file files (suc n) file = slice_set files n file

-- a file has a name of 1 to 255 octets
abbrev pub is_name : List ℕ → Bool
is_name name = nat_le 1 (length name) && nat_le (length name) 255

abbrev pub most_files : ℕ
most_files = 1024

-- a file has at most 16 MiB
abbrev pub most_octets : ℕ
most_octets = 2 ^ 24

-- no file has more
abbrev pub is_short : File → Bool
is_short f = nat_le (length f.octets) most_octets
