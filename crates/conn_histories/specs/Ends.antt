-- What the end of a call says and does, by what its manager answered.
use Rattle.std.specs.Prelude.{◌≡◌, ℕ, ◌<◌, ◌≤◌, Bool, true, Option, Some, None, unwrap_or, List, [], ◌∷◌, ◌++◌, length, take, ◌⊎◌}
use Rattle.rpc_base.specs.declared.identifiers.Status.{Status}
use Rattle.rpc_base.specs.declared.identifiers.WireHandle.{WireHandle}
use Rattle.pdu_stream.specs.Fragments.{most_stub}
use Rattle.handle_model.specs.declared.entry.Home.{Home}
use Rattle.handle_model.specs.declared.entry.Slot.{Slot}
use Rattle.handle_model.specs.declared.entry.Slot.TheVariants.{Shares, Holds, Changes, Opens}
use Rattle.handle_model.specs.declared.entry.Outcome.{Outcome}
use Rattle.handle_model.specs.declared.entry.Outcome.TheVariants.{Keep, Close, Issue, Nothing}
use Rattle.handle_model.specs.declared.entry.Said.{Said}
use Rattle.handle_model.specs.declared.entry.Said.TheVariants.{Out, Fault}
use Rattle.handle_model.specs.declared.entry.Asked.{Asked}
use Rattle.handle_model.specs.Slots.{wire_of}
use Rattle.ndr_value.specs.Values.{Msg}
use Rattle.ndr_table.specs.Tables.{OpForm, TableForm}
use Rattle.manager_api.specs.Messages.{Response}
use Rattle.manager_api.specs.Messages.{stub}
use Rattle.manager_api.specs.declared.answer.Kept.{Kept}
use Rattle.manager_api.specs.declared.answer.Kept.TheVariants.{Cookie}
use Rattle.manager_api.specs.Answers.{Ans, AOut, AFault, cancelled as as_cancelled}
use Rattle.manager_api.specs.Calls.{Call}
use Rattle.manager_api.specs.Responses.{null_handle}
use Rattle.conn_histories.specs.Requests.{IsAsked, types_of, no_memory}

-- ---- what becomes of the handles

-- by what the answer does at the slot: a handle that is changed is kept with a cookie or closed, one that may be opened
-- is issued with a cookie or not at all
abbrev pub outcome_of : Slot → Kept → Outcome
outcome_of (Changes kind wire) (Cookie cookie) = Keep cookie
outcome_of (Changes kind wire) _ = Close
outcome_of (Opens kind serial) (Cookie cookie) = Issue serial cookie
outcome_of _ _ = Nothing

abbrev pub outcomes_of : List Slot → List Kept → List Outcome
outcomes_of (s ∷ ss) (k ∷ ks) = outcome_of s k ∷ outcomes_of ss ks
outcomes_of _ _ = []

-- after a fault a handle that was given to be changed keeps the cookie that it came with, and none is issued
abbrev pub unchanged : Slot → Option ℕ → Outcome
unchanged (Changes kind wire) cookie = Keep (unwrap_or cookie 0)
unchanged _ cookie = Nothing

abbrev pub all_unchanged : List Slot → List (Option ℕ) → List Outcome
all_unchanged (s ∷ ss) (c ∷ cs) = unchanged s c ∷ all_unchanged ss cs
all_unchanged _ _ = []

abbrev pub results_of : List Slot → List (Option ℕ) → Ans → List Outcome
results_of slots cookies (AOut out kepts) = outcomes_of slots kepts
results_of slots cookies (AFault status) = all_unchanged slots cookies

-- ---- the handles that go out

-- at a slot that a handle goes out of: the one that is kept or issued, else null
abbrev pub wire_at : Home → Slot → Outcome → List WireHandle
wire_at home (Shares kind wire) o = []
wire_at home (Holds kind wire) o = []
wire_at home (Changes kind wire) (Keep cookie) = wire ∷ []
wire_at home (Opens kind serial) (Issue h cookie) = wire_of home h ∷ []
wire_at home _ o = null_handle ∷ []

abbrev pub wires_at : Home → List Slot → List Outcome → List WireHandle
wires_at home (s ∷ ss) (o ∷ os) = wire_at home s o ++ wires_at home ss os
wires_at home _ _ = []

abbrev pub with_wires : Msg → List WireHandle → Msg
with_wires m wires = record { values = m.values; heap = m.heap; wires = wires }

-- ---- what is said

-- nca_s_fault_unspec
abbrev pub unspecified : Status
unspecified = record { 0 = 0x1C000012 }

-- the canonical octets of a response; an unspecified fault exactly where they are more than a stub may have; or memory
-- ran out
abbrev pub SaysStub : List ℕ → Said → Type 0
SaysStub octets (Out said) = (said ≡ octets) × (length octets ≤ most_stub)
SaysStub octets (Fault status) = ((status ≡ unspecified) × (most_stub < length octets)) ⊎ (status ≡ no_memory)

-- the response of that operation to a request, or the fault
abbrev pub Says : Home → List TableForm → Asked → OpForm → Msg → List Outcome → Ans → Said → Type 0
Says home tables a o m results (AOut out kepts) said =
    SaysStub (stub (types_of tables a.iface) o Response a.order (Some m) (with_wires out (wires_at home a.slots results))) said
Says home tables a o m results (AFault status) said = said ≡ Fault status

-- the same cookies in a row of four
abbrev pub row_of : List (Option ℕ) → List (Option ℕ)
row_of cookies = take 4 (cookies ++ None ∷ None ∷ None ∷ None ∷ [])

abbrev pub call_with : Asked → Msg → List (Option ℕ) → Call
call_with a m cookies = record { iface = a.iface; op = a.op; message = m; cookies = row_of cookies }

-- The end of a call meets its manager's relation: the message is that of the call's stub, the answer is one that the
-- manager may give to it with the cookies that the call was given, and what the end does and says follows from it. The
-- manager was told of a cancel only where there was one, and only then may it answer nca_s_fault_cancel.
pub record Meets (home : Home) (tables : List TableForm) (may : Call → Bool → Ans → Type 0) (a : Asked) (cookies : List (Option ℕ)) (cancelled : Bool) (results : List Outcome) (said : Said) : Type 0 where
  pub message : Msg
  pub asked : IsAsked tables a.iface a.op a.order a.stub message
  pub told : Bool
  pub cause : told ≡ true → cancelled ≡ true
  pub answer : Ans
  pub answers : may (call_with a message cookies) told answer
  pub blames : answer ≡ as_cancelled → told ≡ true
  pub results_are : results ≡ results_of a.slots cookies answer
  pub says : Says home tables a asked.operation message results answer said
