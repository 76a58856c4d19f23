-- What a connection took from its link and put on it.
use Rattle.std.specs.Prelude.{◌≡◌, ℕ, true, List}
use Rattle.std.specs.Io.KnownBytes.{append_known, prepend_known}
use Rattle.rpc_outside.specs.Links.{Shown, Counts}

-- These octets, the first that were to come, were taken from the link, and these were put on it. It is closed.
pub record OnLink (a b : Shown) (came put : List ℕ) : Type 0 where
  pub counts : Counts a b
  pub taken : b.taken ≡ append_known a.taken came
  pub left : a.left ≡ prepend_known came b.left
  pub put_is : b.put ≡ append_known a.put put
  pub closed : b.closed ≡ true
