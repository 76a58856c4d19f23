use Rattle.std.proofs.Common.{◌≡◌, ◌++◌, map, drop, true}
use Rattle.std.specs.List.{flat_map, list_all}
use Rattle.ndr_value.specs.Forms.{types_of}
use Rattle.ndr_table.specs.Tables.{op_form}
use Rattle.marshal_table.specs.Bodies.{type_in}
use Rattle.marshal_table.specs.Interfaces.{op_in, uses_in, is_few}
use Rattle.marshal_table.proofs.draft.drafted.Given as goal

-- with what is still to come, it is that of all events
abbrev pub invariant-loop-event : goal.invariant-loop-event
invariant-loop-event l = record {
  types : types_of l.types.items ++ flat_map type_in (drop l.event-index l.events) ≡ flat_map type_in l.events;
  ops : map op_form l.ops.items ++ flat_map op_in (drop l.event-index l.events) ≡ flat_map op_in l.events;
  few : list_all is_few l.uses.items ≡ true;
  uses : l.uses.items ++ flat_map uses_in (drop l.event-index l.events) ≡ flat_map uses_in l.events;
}
