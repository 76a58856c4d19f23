-- Requests that are ready, and the calls that managers are given.
use Rattle.std.proofs.Common.{◌≡◌, ℕ, Option, Some, List, inl, inr, refl, sym, ap, subst, ◌∙◌}
use Rattle.handle_model.specs.declared.entry.Slot.{Slot}
use Rattle.handle_model.specs.declared.entry.Asked.{Asked}
use Rattle.handle_model.specs.declared.entry.Said.{Said}
use Rattle.handle_model.specs.declared.entry.Said.TheVariants.{Out, Fault}
use Rattle.pdu_stream.specs.declared.joined.Joined.{Joined}
use Rattle.conn_asks.specs.Answers.{FitsStub}
use Rattle.ndr_value.specs.Values.{Msg}
use Rattle.ndr_table.specs.Tables.{TableForm, OpForm}
use Rattle.manager_api.specs.Answers.{Ans, AOut, AFault}
use Rattle.manager_api.specs.Calls.{Call}
use Rattle.conn_histories.specs.Requests.{IsRefused, no_memory}
use Rattle.conn_histories.specs.Ends.{Says, call_with, row_of}
use Rattle.manager_api.specs.ServedCalls.{IsCall, Owed}
use Rattle.server_calls.specs.Suited.{Opened, never_full}
use Rattle.handle_model.specs.declared.entry.Home.{Home}
use Rattle.handle_model.specs.declared.entry.Outcome.{Outcome}
use Rattle.conn_histories.specs.Entries.{asked_as}
use Rattle.server_calls.specs.declared.ready.Ready.{Ready}
use Rattle.server_calls.specs.Ready.{request_of, IsReady, Repeats}

-- where there is the operation, memory may run out
pub ran_short : (tables : List TableForm) (a : Asked) → Opened tables a.iface a.op a.order a.stub a.slots → IsRefused tables a.iface a.op a.order a.stub never_full no_memory
ran_short tables a o = IsRefused.no_room o.has.asked.operation o.has.asked.found refl

pub ready_as : (tables : List TableForm) (c : ℕ) (j : Joined) (iface : ℕ) (given : Asked) (slots : List Slot) (r : Ready) → given ≡ asked_as c (request_of j iface) slots → IsReady tables given r
    → IsReady tables (asked_as c (request_of j iface) r.asked.slots) r
ready_as tables c j iface given slots r is h =
    let same : r.asked.slots ≡ slots = ap (λ (a : Asked). a.slots) (h.asked ∙ is) in
    subst (λ (a : Asked). IsReady tables a r) (is ∙ ap (λ ss. asked_as c (request_of j iface) ss) (sym same)) h

-- ---- the call

same_call : (a : Asked) (m given : Msg) (cs row : List (Option ℕ)) → given ≡ m → row ≡ row_of cs → call_with a m cs ≡ record { iface = a.iface; op = a.op; message = given; cookies = row }
same_call a m given cs row e f = λ i. record { iface = a.iface; op = a.op; message = sym e i; cookies = sym f i }

pub call_is : (tables others : List TableForm) (a : Asked) (m given : Msg) (cs row : List (Option ℕ)) → others ≡ tables → given ≡ m → row ≡ row_of cs → IsCall tables (call_with a m cs)
    → IsCall others (record { iface = a.iface; op = a.op; message = given; cookies = row })
call_is tables others a m given cs row t e f is = subst (λ (x : List TableForm). IsCall x (record { iface = a.iface; op = a.op; message = given; cookies = row })) (sym t) (subst (IsCall tables) (same_call a m given cs row e f) is)

pub owed_is : (tables others : List TableForm) (a : Asked) (m given : Msg) (cs row : List (Option ℕ)) (answer : Ans) → others ≡ tables → given ≡ m → row ≡ row_of cs
    → Owed others (record { iface = a.iface; op = a.op; message = given; cookies = row }) answer → Owed tables (call_with a m cs) answer
owed_is tables others a m given cs row answer t e f owes =
    subst (λ (x : List TableForm). Owed x (call_with a m cs) answer) t (subst (λ (c : Call). Owed others c answer) (sym (same_call a m given cs row e f)) owes)

pub may_is : (P : Call → Type 0) (a : Asked) (m given : Msg) (cs row : List (Option ℕ)) → given ≡ m → row ≡ row_of cs
    → P (record { iface = a.iface; op = a.op; message = given; cookies = row }) → P (call_with a m cs)
may_is P a m given cs row e f is = subst P (sym (same_call a m given cs row e f)) is

-- ---- what is said

pub says_fit : (home : Home) (tables : List TableForm) (a : Asked) (o : OpForm) (m : Msg) (results : List Outcome) (answer : Ans) (said : Said) → Says home tables a o m results answer said → FitsStub (Some said)
says_fit home tables a o m results (AOut out kepts) (Out octets) h = subst (λ (l : List ℕ). FitsStub (Some (Out l))) (sym h.0) h.1
says_fit home tables a o m results (AOut out kepts) (Fault status) h = tt
says_fit home tables a o m results (AFault status) said h = subst (λ (s : Said). FitsStub (Some s)) (sym h) tt

-- what repeats it may be said too
pub says_again : (home : Home) (tables : List TableForm) (a : Asked) (o : OpForm) (m : Msg) (results : List Outcome) (answer : Ans) (said told : Said) → Says home tables a o m results answer said → Repeats said told
    → Says home tables a o m results answer told
says_again home tables a o m results (AOut out kepts) (Out octets) told h (inl is) = subst (λ (s : Said). Says home tables a o m results (AOut out kepts) s) (sym is) h
says_again home tables a o m results (AOut out kepts) (Out octets) told h (inr is) = subst (λ (s : Said). Says home tables a o m results (AOut out kepts) s) (sym is) (inr refl)
says_again home tables a o m results (AFault status) (Out octets) told h (inl is) = is ∙ h
says_again home tables a o m results (AFault status) (Out octets) told h (inr is) = let no = h in absurd cc
says_again home tables a o m results answer (Fault status) told h is = subst (λ (s : Said). Says home tables a o m results answer s) (sym is) h
