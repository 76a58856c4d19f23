-- What a caller is told of an answer of which only a part came.
use Rattle.std.specs.Prelude.{◌≡◌, ℕ, Bool, false, Some, None, List, [], ◌∷◌, ◌++◌, slice_get}
use Rattle.pdu_codec.specs.declared.pdu.Pdu.{Pdu}
use Rattle.pdu_stream.specs.declared.cut.Cut.{Cut}
use Rattle.pdu_stream.specs.Cuts.{IsCut}
use Rattle.pdu_stream.specs.Fragments.{Joining}
use Rattle.handle_model.specs.declared.entry.Said.{Said}
use Rattle.ndr_table.specs.Tables.{OpForm}
use Rattle.ndr_laws.specs.Laws.{IsOp}
use Rattle.conn_asks.specs.declared.events.Caller.{Caller}
use Rattle.conn_asks.specs.Answers.{Replies}
use Rattle.client_core.specs.States.{Outcome, ClientState, Calling}
use Rattle.client_core.specs.Hears.{joined_so_far}
use Rattle.client_laws.specs.Meeting.{IsLawful, HearsAll}
use Rattle.client_laws.specs.Ends.{IsWaiting, FitsCaller, SaysSome, TellsSaid}

-- With the last PDU of an answer the caller is told what the server said, and before that nothing: its call is out, and the
-- answer is joined as far as it came.
abbrev pub TellsLast : ClientState → Calling → OpForm → Caller → Bool → Said → List Pdu → List Outcome → ClientState → Type 0
TellsLast s c o caller executed said [] told n = (one : Outcome) × (told ≡ one ∷ []) × TellsSaid s c o caller executed said one × (n ≡ record s { call = None })
TellsLast s c o caller executed said (p ∷ later) told n = (told ≡ []) × ((joining : Joining) × (n ≡ joined_so_far s c joining))

abbrev pub RepliesTellLast : Type 0
RepliesTellLast =
    (s n : ClientState) (c : Calling) (o : OpForm) (caller : Caller) (most : ℕ) (executed : Bool) (said : Said) (octets : List ℕ) (cut : Cut) (front later : List Pdu) (told : List Outcome)
    → IsWaiting s c → slice_get s.interface.ops c.op ≡ Some o → IsOp s.interface.types o → caller.call_id ≡ c.id → FitsCaller caller → IsLawful most
    → SaysSome o s c caller said → Replies caller most false executed (Some said) octets → IsCut octets cut → cut.pdus ≡ front ++ later → HearsAll s front told n
    → TellsLast s c o caller executed said later told n
