-- What a door in memory counts and tells.
use Rattle.std.specs.Prelude.{Some, None, List, []}
use Rattle.rpc_outside.specs.declared.script_link.ScriptLink.{ScriptLink}
use Rattle.rpc_outside.specs.declared.script_door.ScriptDoor.{ScriptDoor}
use Rattle.rpc_outside.specs.Doors.{DoorShown}

abbrev pub door_shown : ScriptDoor → DoorShown ScriptLink
door_shown door = record {
  faults = door.faults;
  closings = door.closings;
  listens = Some door.listens;
  to_come = Some door.to_come.items;
  back = Some door.given_back.items;
  out = Some door.out;
}

-- of a door that nothing was done with
abbrev pub door_opening : List ScriptLink → DoorShown ScriptLink
door_opening links = record { faults = 0; closings = 0; listens = Some None; to_come = Some links; back = Some []; out = Some 0 }
