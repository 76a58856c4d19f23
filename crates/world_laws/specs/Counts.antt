-- How many calls a caller started, and how many of them the server did.
use Rattle.std.specs.Prelude.{ℕ, ◌+◌, List, [], ◌∷◌}
use Rattle.conn_asks.specs.declared.events.Ask.{Ask}
use Rattle.conn_asks.specs.declared.events.Ask.TheVariants as asks
use Rattle.conn_asks.specs.declared.events.Act.{Act}
use Rattle.conn_asks.specs.declared.events.Act.TheVariants as acts
use Rattle.conn_histories.specs.Histories.{Event}
use Rattle.conn_histories.specs.Histories.Event.{Did}
use Rattle.client_core.specs.Histories.{ClientEvent}
use Rattle.client_core.specs.Histories.ClientEvent.{DidCall}

-- at the caller's end: the calls that were started
abbrev pub starts_in : ClientEvent → ℕ
starts_in (DidCall op m octets) = 1
starts_in _ = 0

abbrev pub started : List ClientEvent → ℕ
started [] = 0
started (event ∷ later) = starts_in event + started later

-- on the way: what is asked that has an answer of its own
abbrev pub asks_in : Ask → ℕ
asks_in (asks.Call j) = 1
asks_in (asks.Alter c b) = 1
asks_in _ = 0

abbrev pub calls_asked : List Ask → ℕ
calls_asked [] = 0
calls_asked (ask ∷ more) = asks_in ask + calls_asked more

-- at the server's end: the calls that came to the server, or were refused before
abbrev pub act_does : Act → ℕ
act_does (acts.Call j number) = 1
act_does (acts.Answer octets) = 1
act_does _ = 0

abbrev pub does_in : Event → ℕ
does_in (Did act) = act_does act
does_in _ = 0

abbrev pub done : List Event → ℕ
done [] = 0
done (event ∷ later) = does_in event + done later
