-- What a link in memory counts and tells.
use Rattle.std.specs.Prelude.{false, Some, None, List, []}
use Rattle.rpc_outside.specs.declared.script.LinkStep.{LinkStep}
use Rattle.rpc_outside.specs.declared.script_link.ScriptLink.{ScriptLink}
use Rattle.rpc_outside.specs.Links.{Shown}
use Rattle.rpc_outside.specs.Scripts.{to_come}

abbrev pub shown : ScriptLink → Shown
shown link = record {
  faults = link.faults;
  quiets = link.quiets;
  ends = link.ends;
  taken = Some link.script.taken;
  left = Some (to_come link.script.rest);
  put = Some link.written;
  put_at_end = link.put_at_end;
  closed = link.closed;
}

-- of a link that nothing was done with
abbrev pub opening : List LinkStep → Shown
opening steps = record {
  faults = 0;
  quiets = 0;
  ends = 0;
  taken = Some [];
  left = Some (to_come steps);
  put = Some [];
  put_at_end = None;
  closed = false;
}
