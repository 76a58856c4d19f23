-- PDUs are taken off the octets that are still to be read.
use Rattle.std.specs.Prelude.{◌≡◌, Bool, true, false, Option, Result, Ok, Err, ⊤}
use Rattle.rpc_base.specs.declared.fault.NoMemory.{NoMemory}
use Rattle.pdu_codec.specs.declared.pdu.Pdu.{Pdu}
use Rattle.pdu_codec.specs.declared.fault.PduFault.{PduFault}
use Rattle.pdu_stream.specs.Cuts.{Fed, IsNext, Remains}
use Rattle.conn_core.specs.Fields.{HasCause}

-- a PDU was taken off, or there is none
abbrev pub SkipsNext : Fed → Result Bool NoMemory → Fed → Type 0
SkipsNext old (Ok true) new = (p : Pdu) × IsNext old.rest p new.rest × HasCause new.fault new.rest
SkipsNext old (Ok false) new = (fault : Option PduFault) × Remains old.rest fault × (new.rest ≡ old.rest)
SkipsNext old (Err _) new = ⊤
