-- The state in which a caller's connection is.
use Rattle.std.specs.Option.{option_map}
use Rattle.ndr_table.specs.Shown.{shown}
use Rattle.client_core.specs.States.{ClientState, calling}
use Rattle.client_core.specs.declared.client.Client.{Client}

abbrev pub state : Client → ClientState
state c = record { interface = shown c.table; newest = c.newest; stage = c.stage; most = c.most; alters = c.alters.items; call = option_map calling c.call }
