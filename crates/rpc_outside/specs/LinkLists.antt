-- Lists of links in memory.
use Rattle.std.specs.Prelude.{ℕ, List, [], ◌∷◌, ◌==◌, Bool, true, ◌&&◌, not, length}
use Rattle.std.specs.Option.{is_some}
use Rattle.rpc_outside.specs.declared.script_link.ScriptLink.{ScriptLink}

pub record Listed : Type 0 where
  pub items : List ScriptLink
  -- for how many more there is room
  pub room : ℕ

-- the link is open, nothing was taken from it or put on it, and it didn't end
abbrev pub is_new : ScriptLink → Bool
is_new link = not link.closed && (length link.script.taken == 0) && (length link.written == 0) && not (is_some link.put_at_end)

-- each of them is new
abbrev pub are_new : List ScriptLink → Bool
are_new [] = true
are_new (link ∷ links) = is_new link && are_new links
