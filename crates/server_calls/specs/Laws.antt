-- What holds of calls on their way to a manager and back.
use Rattle.std.specs.Prelude.{◌≡◌, ℕ, ◌≤◌, true, None, Some, Option, List, length, map, slice_get}
use Rattle.rpc_base.specs.declared.identifiers.Order.{Order}
use Rattle.handle_model.specs.declared.entry.Slot.{Slot}
use Rattle.handle_model.specs.Slots.{with_serial}
use Rattle.handle_model.specs.Journal.{filled, suit}
use Rattle.ndr_table.specs.Tables.{TableForm, OpForm}
use Rattle.ndr_table.specs.Sound.{IsSound}
use Rattle.ndr_value.specs.Values.{Msg}
use Rattle.ndr_model.specs.declared.way.Way.TheVariants.{Request}
use Rattle.ndr_model.specs.Fits.{IsOfOp}
use Rattle.manager_api.specs.Answers.{Ans}
use Rattle.manager_api.specs.Calls.{Owes, has_cookies, uses_at}
use Rattle.conn_histories.specs.Requests.{HasSlots, slots_for}
use Rattle.conn_histories.specs.Ends.{results_of, row_of}
use Rattle.server_calls.specs.Suited.{suit_cookies, IsFor}

-- what becomes of the handles suits the slots, where cookies and answer do
abbrev pub ResultsSuit : Type 0
ResultsSuit = (ss : List Slot) (cookies : List (Option ℕ)) (answer : Ans)
    → suit_cookies ss cookies ≡ true → IsFor ss answer → suit ss (results_of ss cookies answer) ≡ true

-- The message of a call and the cookies for its slots are what a desk is given: there is a cookie for each handle that the group has.
abbrev pub CookiesAreGiven : Type 0
CookiesAreGiven = (t : TableForm) (o : OpForm) (iface op : ℕ) (m : Msg) (ss : List Slot) (cookies : List (Option ℕ))
    → IsSound t.types t.ops t.uses → slice_get t.ops op ≡ Some o → IsOfOp t.types o Request None m
    → map (with_serial 0) ss ≡ slots_for iface (uses_at t op) m.wires → length ss ≤ 4 → suit_cookies ss cookies ≡ true
    → has_cookies (uses_at t op) m.wires (row_of cookies) ≡ true

-- a response to a request has a Kept for each slot
abbrev pub KeptsAreForSlots : Type 0
KeptsAreForSlots = (t : TableForm) (o : OpForm) (iface op : ℕ) (m : Msg) (ss : List Slot) (answer : Ans)
    → IsSound t.types t.ops t.uses → slice_get t.ops op ≡ Some o → IsOfOp t.types o Request None m
    → map (with_serial 0) ss ≡ slots_for iface (uses_at t op) m.wires → Owes t op m answer → IsFor ss answer

-- slots that get their serials are still those of the request, and as many
abbrev pub NumberedStay : Type 0
NumberedStay = (tables : List TableForm) (iface op : ℕ) (order : Order) (stub : List ℕ) (ss : List Slot) (n : ℕ)
    → HasSlots tables iface op order stub ss → HasSlots tables iface op order stub (filled n ss) × (length (filled n ss) ≡ length ss)
