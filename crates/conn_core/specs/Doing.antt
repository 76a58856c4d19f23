-- What a connection was found to do at an ask while it waits for nothing.
use Rattle.std.specs.Prelude.{◌≡◌, Option, Some, None, Result, Ok, Err, List, ⊤}
use Rattle.rpc_base.specs.declared.fault.NoMemory.{NoMemory}
use Rattle.pdu_codec.specs.declared.pdu.Element.{Element}
use Rattle.presentation.specs.Offers.{ServedSyntaxes, contexts_after}
use Rattle.conn_asks.specs.declared.events.Agreement.{Agreement}
use Rattle.conn_asks.specs.declared.events.Ask.{Ask}
use Rattle.pdu_codec.specs.Pdus.{pdu_octets}
use Rattle.conn_asks.specs.declared.events.Caller.{Caller}
use Rattle.conn_asks.specs.declared.events.ConnFault.{ConnFault}
use Rattle.conn_asks.specs.declared.events.Act.{Act}
use Rattle.conn_asks.specs.declared.events.Act.TheVariants.{Close}
use Rattle.conn_asks.specs.declared.events.Waits.{Waits}
use Rattle.conn_asks.specs.declared.events.Waits.TheVariants.{Nothing, Over}
use Rattle.conn_asks.specs.Answers.{closing}
use Rattle.conn_asks.specs.Asking.{elements_in}
use Rattle.conn_asks.specs.States.{DoesWith, IsIdle}
use Rattle.conn_core.specs.Fields.{CanBind}

-- the same interfaces, and the contexts accepted after some elements
abbrev pub with_elements : ServedSyntaxes → List Element → ServedSyntaxes
with_elements s elements = record { ids = s.ids; accepted = contexts_after s.ids s.accepted elements }

-- the last answer
abbrev pub IsClose : Caller → ConnFault → Act → Waits → Type 0
IsClose c why act waits = (act ≡ Close (pdu_octets (closing c why)) why) × (waits ≡ Over)

abbrev pub ActsWith : ServedSyntaxes → Agreement → Ask → Result (Option (Act × Waits)) NoMemory → ServedSyntaxes → Type 0
ActsWith old agreement ask (Ok (Some done)) new =
    DoesWith old.ids old.accepted agreement Nothing ask done.0 done.1 × (new ≡ with_elements old (elements_in ask))
ActsWith old agreement ask (Ok None) new = IsIdle Nothing (Some ask) × (new ≡ old)
ActsWith old agreement ask (Err _) new = new.ids ≡ old.ids

-- what is waited for then can be answered
abbrev pub CanWait : Result (Option (Act × Waits)) NoMemory → Type 0
CanWait (Ok (Some done)) = CanBind done.1
CanWait (Ok None) = ⊤
CanWait (Err _) = ⊤
