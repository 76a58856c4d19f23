-- What a dial in memory counts and tells.
use Rattle.std.specs.Prelude.{Some, []}
use Rattle.rpc_outside.specs.declared.script_link.ScriptLink.{ScriptLink}
use Rattle.rpc_outside.specs.declared.script_dial.ScriptDial.{ScriptDial}
use Rattle.rpc_outside.specs.Dials.{DialShown}

abbrev pub dial_shown : ScriptDial → DialShown ScriptLink
dial_shown dial = record {
  faults = dial.faults;
  dialled = Some dial.dialled;
  back = Some dial.given_back.items;
  out = Some dial.out;
}

-- of a dial that nothing was done with
abbrev pub dial_opening : DialShown ScriptLink
dial_opening = record { faults = 0; dialled = Some []; back = Some []; out = Some 0 }
