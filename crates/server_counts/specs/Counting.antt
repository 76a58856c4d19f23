-- Where the counting of two streams stands.
use Rattle.std.specs.Prelude.{◌≡◌, ℕ, Some, List, ◌++◌}
use Rattle.rpc_outside.specs.Links.{Shown}
use Rattle.desk_counts.specs.Numbers.{none_yet}
use Rattle.server_counts.specs.Packets.{Stands, at_start}
use Rattle.server_counts.specs.declared.counting.Counting.{Counting}
use Rattle.server_counts.specs.Stats.{numbers_of}

abbrev pub at_first : Counting
at_first = record { came = at_start; gone = at_start; numbers = none_yet }

-- it has counted the packets of the octets that were taken and of those that were put
pub record HasCounted (taken put : List ℕ) (c : Counting) : Type 0 where
  pub came : List (List ℕ)
  pub came_stands : Stands c.came came taken
  pub gone : List (List ℕ)
  pub gone_stands : Stands c.gone gone put
  pub numbers_are : c.numbers ≡ numbers_of came gone

-- of a link, where it tells both
abbrev pub Counts : Shown → Counting → Type 0
Counts a c = (taken put : List ℕ) → a.taken ≡ Some taken → a.put ≡ Some put → HasCounted taken put c

-- further octets were taken, or put
abbrev pub Takes : Counting → List ℕ → Counting → Type 0
Takes old octets new = (taken put : List ℕ) → HasCounted taken put old → HasCounted (taken ++ octets) put new

abbrev pub Puts : Counting → List ℕ → Counting → Type 0
Puts old octets new = (taken put : List ℕ) → HasCounted taken put old → HasCounted taken (put ++ octets) new
