-- What a connection was found to do at an ask while it takes PDUs.
use Rattle.std.specs.Prelude.{◌≡◌, ℕ, Bool, true, false, Option, Result, Ok, Err, List}
use Rattle.rpc_base.specs.declared.fault.NoMemory.{NoMemory}
use Rattle.pdu_stream.specs.declared.joined.Joined.{Joined}
use Rattle.pdu_stream.specs.declared.joined.JoinFault.TheVariants.{FragOrder}
use Rattle.presentation.specs.Offers.{ServedSyntaxes}
use Rattle.conn_asks.specs.declared.events.Agreement.{Agreement}
use Rattle.conn_asks.specs.declared.events.ConnFault.TheVariants.{Join}
use Rattle.conn_asks.specs.declared.events.Ask.{Ask}
use Rattle.conn_asks.specs.declared.events.Act.{Act}
use Rattle.conn_asks.specs.declared.events.Waits.{Waits}
use Rattle.conn_asks.specs.declared.events.Waits.TheVariants.{Nothing}
use Rattle.conn_asks.specs.Asking.{elements_in}
use Rattle.conn_asks.specs.States.{caller_of, DoesWith}
use Rattle.conn_core.specs.Doing.{IsClose, with_elements}
use Rattle.mpx_asks.specs.declared.open_calls.OpenCall.{OpenCall}
use Rattle.mpx_asks.specs.Among.{barred, ActsOnRequest, DoesWithin}

-- a whole request, whose id an unanswered call has or not
abbrev pub CallsWithin : Bool → Bool → Option ℕ → Joined → List OpenCall → Act → Waits → List OpenCall → Type 0
CallsWithin true full iface j out act waits new = IsClose (caller_of j) (Join FragOrder) act waits × (new ≡ out)
CallsWithin false full iface j out act waits new = ActsOnRequest full iface j out act new × (waits ≡ Nothing)

-- what is done at a bind or an alter_context; of want of memory, the interfaces are as before
abbrev pub OffersWith : ServedSyntaxes → Agreement → Ask → Result (Act × Waits) NoMemory → ServedSyntaxes → Type 0
OffersWith old agreement ask (Ok done) new =
    DoesWith old.ids old.accepted agreement Nothing ask done.0 done.1 × (new ≡ with_elements old (elements_in ask))
OffersWith old agreement ask (Err _) new = new.ids ≡ old.ids

-- what is done at an ask, as it is among the unanswered calls; of want of memory, the interfaces are as before
abbrev pub ActsWith : ServedSyntaxes → List OpenCall → Agreement → Ask → Result (Act × Waits) NoMemory → ServedSyntaxes → List OpenCall → Type 0
ActsWith old out agreement ask (Ok done) new after =
    DoesWithin old.ids old.accepted agreement out (barred out ask) done.0 done.1 after × (new ≡ with_elements old (elements_in ask))
ActsWith old out agreement ask (Err _) new after = new.ids ≡ old.ids
