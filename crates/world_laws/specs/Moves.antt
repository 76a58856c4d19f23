-- What may happen to a caller, a server and the connections between them, and what a caller is told of a call.
use Rattle.std.specs.Prelude.{ℕ, Bool, List}
use Rattle.rpc_base.specs.declared.identifiers.Status.{Status}
use Rattle.ndr_value.specs.Values.{Msg}
use Rattle.manager_api.specs.declared.answer.Kept.{Kept}

-- A move. The caller opens a connection, asking for the group of that id, 0 for a new one; it starts a call on a connection;
-- so many octets arrive, at the server or at the caller; the caller asks for the cancelling of its call; a connection is lost;
-- the caller restarts; the server takes a call that waits; a call that runs ends, with what becomes of its handles and the
-- message that goes out.
pub data Move : Type 0 where
  Open : ℕ → ℕ → Move
  Start : ℕ → ℕ → Msg → Move
  ToServer : ℕ → ℕ → Move
  ToCaller : ℕ → ℕ → Move
  Cancel : ℕ → Move
  Lose : ℕ → Move
  Restart : Move
  Take : ℕ → Move
  Finish : ℕ → List Kept → Msg → Move

-- What the caller knows of a call: nothing yet; it is done, with that message; it failed, and the server says that it never
-- ran or doesn't; its connection was lost, and the caller can't know.
pub data Fate : Type 0 where
  Open : Fate
  Done : Msg → Fate
  Fault : Status → Bool → Fate
  Lost : Fate
