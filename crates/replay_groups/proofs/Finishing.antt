-- The end of a call by its desk's answer.
use Rattle.std.proofs.Common.{◌≡◌, ℕ, suc, ◌≤◌, Bool, true, false, ◌&&◌, ◌⊎◌, inl, inr, Option, Some, None, List, [], ◌∷◌, length, refl, sym, ap, subst, ◌∙◌}
use Rattle.std.specs.Bool.{beq}
use Rattle.handle_model.specs.declared.entry.Home.{Home}
use Rattle.handle_model.specs.declared.entry.Slot.{Slot}
use Rattle.handle_model.specs.declared.entry.Asked.{Asked}
use Rattle.handle_model.specs.declared.entry.Outcome.{Outcome}
use Rattle.handle_model.specs.declared.entry.Said.{Said}
use Rattle.handle_model.specs.declared.entry.Said.TheVariants.{Out, Fault}
use Rattle.handle_model.specs.Slots.{opens}
use Rattle.pdu_stream.specs.Fragments.{most_stub}
use Rattle.conn_asks.specs.Answers.{FitsStub}
use Rattle.ndr_value.specs.Values.{Msg}
use Rattle.ndr_table.specs.Tables.{TableForm, OpForm}
use Rattle.manager_api.specs.Answers.{Ans, AOut, AFault}
use Rattle.manager_api.specs.Calls.{Call}
use Rattle.desk_counts.specs.Numbers.{Numbers}
use Rattle.conn_histories.specs.Ends.{Meets, Says, SaysStub, call_with, row_of}
use Rattle.manager_api.specs.ServedCalls.{IsCall, Owed}
use Rattle.server_calls.specs.Suited.{suit_cookies}
use Rattle.desk_service.specs.State.{Services}
use Rattle.desk_service.specs.Calls.{May, with_probes, with_store, with_endpoints}
use Rattle.desk_service.specs.Calls.May.{by_probe, by_store, by_endpoints, by_management, by_echo}
use Rattle.replay_groups.specs.Rows.{AreIn, HasCookies}

-- ---- cookies

and_second : (a b : Bool) → (a && b) ≡ true → b ≡ true
and_second true b e = e
and_second false b e = absurd (cc)

pub suit_many : (ss : List Slot) (cs : List (Option ℕ)) → suit_cookies ss cs ≡ true → length cs ≡ length ss
suit_many [] [] e = refl
suit_many [] (c ∷ cs) e = absurd (cc)
suit_many (s ∷ ss) [] e = absurd (cc)
suit_many (s ∷ ss) (c ∷ cs) e = ap suc (suit_many ss cs (and_second _ _ e))

-- the first of a row are the cookies that are in it
pub first_suit : (ss : List Slot) (row first : List (Option ℕ)) → ((cs : List (Option ℕ)) → row ≡ row_of cs → length cs ≡ length ss → first ≡ cs) → HasCookies row ss → suit_cookies ss first ≡ true
first_suit ss row first are has = let e = are has.0 has.1.row_is (suit_many ss has.0 has.1.suits) in ap (suit_cookies ss) e ∙ has.1.suits

-- and there are no others in it
pub first_is : (ss : List Slot) (row first given : List (Option ℕ)) → ((cs : List (Option ℕ)) → row ≡ row_of cs → length cs ≡ length ss → first ≡ cs) → AreIn row ss given → first ≡ given
first_is ss row first given are is = are given is.row_is (suit_many ss given is.suits)

pub meets_with : (home : Home) (tables : List TableForm) (may : Call → Bool → Ans → Type 0) (a : Asked) (first given : List (Option ℕ)) (cancelled : Bool) (results : List Outcome) (said : Said) → first ≡ given
    → Meets home tables may a first cancelled results said → Meets home tables may a given cancelled results said
meets_with home tables may a first given cancelled results said e m = subst (λ (cs : List (Option ℕ)). Meets home tables may a cs cancelled results said) e m

-- ---- the call

same_call : (a : Asked) (m given : Msg) (cs row : List (Option ℕ)) → given ≡ m → row ≡ row_of cs → call_with a m cs ≡ record { iface = a.iface; op = a.op; message = given; cookies = row }
same_call a m given cs row e f = λ i. record { iface = a.iface; op = a.op; message = sym e i; cookies = sym f i }

pub call_is : (tables desks : List TableForm) (a : Asked) (m given : Msg) (cs row : List (Option ℕ)) → tables ≡ desks → given ≡ m → row ≡ row_of cs → IsCall tables (call_with a m cs)
    → IsCall desks (record { iface = a.iface; op = a.op; message = given; cookies = row })
call_is tables desks a m given cs row t e f is = subst (λ (x : List TableForm). IsCall x (record { iface = a.iface; op = a.op; message = given; cookies = row })) t (subst (IsCall tables) (same_call a m given cs row e f) is)

pub owed_is : (tables desks : List TableForm) (a : Asked) (m given : Msg) (cs row : List (Option ℕ)) (answer : Ans) → tables ≡ desks → given ≡ m → row ≡ row_of cs
    → Owed desks (record { iface = a.iface; op = a.op; message = given; cookies = row }) answer → Owed tables (call_with a m cs) answer
owed_is tables desks a m given cs row answer t e f owes =
    subst (λ (x : List TableForm). Owed x (call_with a m cs) answer) (sym t) (subst (λ (c : Call). Owed desks c answer) (sym (same_call a m given cs row e f)) owes)

pub may_is : (old new : Services) (numbers : Numbers) (told : Bool) (a : Asked) (m given : Msg) (cs row : List (Option ℕ)) (answer : Ans) → given ≡ m → row ≡ row_of cs
    → May old numbers (record { iface = a.iface; op = a.op; message = given; cookies = row }) told answer new → May old numbers (call_with a m cs) told answer new
may_is old new numbers told a m given cs row answer e f may = subst (λ (c : Call). May old numbers c told answer new) (sym (same_call a m given cs row e f)) may

pub echo_stays : (old new : Services) (numbers : Numbers) (c : Call) (told : Bool) (answer : Ans) → May old numbers c told answer new → new.echo ≡ old.echo
echo_stays old new numbers c told answer (by_probe next iface does is) = ap (λ (s : Services). s.echo) is
echo_stays old new numbers c told answer (by_store next iface does is) = ap (λ (s : Services). s.echo) is
echo_stays old new numbers c told answer (by_endpoints next iface does is) = ap (λ (s : Services). s.echo) is
echo_stays old new numbers c told answer (by_management iface tells is) = ap (λ (s : Services). s.echo) is
echo_stays old new numbers c told answer (by_echo t iface there answers is) = ap (λ (s : Services). s.echo) is

-- ---- what is said

stub_fits : (octets : List ℕ) (said : Said) → SaysStub octets said → FitsStub (Some said)
stub_fits octets (Out stub) s = subst (λ (l : List ℕ). length l ≤ most_stub) (sym s.0) s.1
stub_fits octets (Fault status) s = tt

fault_fits : (said : Said) (status : _) → said ≡ Fault status → FitsStub (Some said)
fault_fits said status e = subst (λ (x : Said). FitsStub (Some x)) (sym e) tt

says_fits : (home : Home) (tables : List TableForm) (a : Asked) (o : OpForm) (m : Msg) (results : List Outcome) (answer : Ans) (said : Said) → Says home tables a o m results answer said → FitsStub (Some said)
says_fits home tables a o m results (AOut out kepts) said s = stub_fits _ said s
says_fits home tables a o m results (AFault status) said s = fault_fits said status s

pub fits : (home : Home) (tables : List TableForm) (may : Call → Bool → Ans → Type 0) (a : Asked) (cs : List (Option ℕ)) (cancelled : Bool) (results : List Outcome) (said : Said) → Meets home tables may a cs cancelled results said
    → FitsStub (Some said)
fits home tables may a cs cancelled results said m = says_fits home tables a m.asked.operation m.message results m.answer said m.says
