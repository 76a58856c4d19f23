-- Slots, cookies and answers of one call.
use Rattle.std.specs.Prelude.{◌≡◌, ℕ, ◌≤◌, ◌==◌, Bool, true, false, ◌&&◌, not, Option, is_some, Result, Ok, Err, List, [], ◌∷◌, map, length}
use Rattle.std.specs.Bool.{beq}
use Rattle.rpc_base.specs.declared.identifiers.Order.{Order}
use Rattle.rpc_base.specs.declared.identifiers.Status.{Status}
use Rattle.handle_model.specs.declared.entry.Slot.{Slot}
use Rattle.handle_model.specs.Slots.{opens, with_serial}
use Rattle.ndr_table.specs.Tables.{TableForm}
use Rattle.manager_api.specs.declared.answer.Kept.{Kept}
use Rattle.manager_api.specs.Answers.{Ans, AOut, AFault}
use Rattle.conn_histories.specs.Requests.{HasSlots, IsRefused}

-- one cookie for each slot, which is there exactly where the slot names a handle
abbrev pub suit_cookies : List Slot → List (Option ℕ) → Bool
suit_cookies [] [] = true
suit_cookies (s ∷ ss) (c ∷ cs) = beq (is_some c) (not (opens s)) && suit_cookies ss cs
suit_cookies _ _ = false

-- an answer with a Kept for each slot, or a fault
abbrev pub IsFor : List Slot → Ans → Type 0
IsFor slots (AOut out kepts) = length kepts ≡ length slots
IsFor slots (AFault status) = Unit {0}

-- ---- requests

-- the slots of a request, at most four and none with a serial
pub record Opened (tables : List TableForm) (iface op : ℕ) (order : Order) (stub : List ℕ) (slots : List Slot) : Type 0 where
  pub has : HasSlots tables iface op order stub slots
  pub unnumbered : map (with_serial 0) slots ≡ slots
  pub few : length slots ≤ 4

-- no group is full yet
abbrev pub never_full : List Slot → Type 0
never_full slots = ⊥

-- what a request comes to before a group is asked: its slots, or the status that it is refused with
abbrev pub ComesTo : List TableForm → ℕ → ℕ → Order → List ℕ → Result (List Slot) Status → Type 0
ComesTo tables iface op order stub (Ok slots) = Opened tables iface op order stub slots
ComesTo tables iface op order stub (Err status) = IsRefused tables iface op order stub never_full status
