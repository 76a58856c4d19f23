-- What is counted of the octets that were taken from a link and put on it (C706, "Remote Management Interface",
-- rpc__mgmt_inq_stats).
use Rattle.std.specs.Prelude.{◌≡◌, ℕ, Some, List, length, filter}
use Rattle.rpc_outside.specs.Links.{Shown}
use Rattle.desk_counts.specs.Numbers.{Numbers, listed, stopped}
use Rattle.server_counts.specs.Packets.{ArePackets, ends_call}

-- of these packets that came and these that were put
abbrev pub numbers_of : List (List ℕ) → List (List ℕ) → Numbers
numbers_of came gone = record {
  calls = stopped (length (filter ends_call came));
  packets_in = stopped (length came);
  packets_out = stopped (length gone);
}

-- Calls in, calls out, packets in and packets out of the octets that were taken and of those that were put: a call is a packet that
-- came with a request's last fragment, and each number stops at the greatest of 32 bits.
pub record AreStats (taken put numbers : List ℕ) : Type 0 where
  pub came : List (List ℕ)
  pub are_came : ArePackets came taken
  pub gone : List (List ℕ)
  pub are_gone : ArePackets gone put
  pub numbers_are : numbers ≡ listed (numbers_of came gone)

-- of a link, where it tells both
abbrev pub Tell : Shown → List ℕ → Type 0
Tell a numbers = (taken put : List ℕ) → a.taken ≡ Some taken → a.put ≡ Some put → AreStats taken put numbers
