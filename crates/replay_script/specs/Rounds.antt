-- The rounds of a load: what happened in each step, what was answered, and what happens in the next one.
use Rattle.std.specs.Prelude.{◌≡◌, ℕ, suc, ◌+◌, ◌%◌, ◌==◌, nat_le, Bool, true, false, ◌&&◌, if◌then◌else◌, Option, Some, None, List, [], ◌∷◌, length, filter, take, drop, get_or, ⊤}
use Rattle.std.specs.List.{list_any}
use Rattle.std.specs.Int.{w32}
use Rattle.rpc_base.specs.declared.identifiers.Order.TheVariants.{Little}
use Rattle.rpc_base.specs.declared.identifiers.WireHandle.{WireHandle}
use Rattle.rpc_base.specs.Fields.{number_of, wire_of}
use Rattle.pdu_codec.specs.Constants.{bind_ack_type, response_type}
use Rattle.replay_script.specs.declared.deed.Deed.{Deed}
use Rattle.replay_script.specs.declared.deed.Deed.TheVariants.{Open, Lose, Run, Finish, Cancel, Issue, Close}
use Rattle.replay_script.specs.declared.deed.Step.{Step}
use Rattle.replay_script.specs.Drawing.{number_at, drawn, slot_of, choice_of, rest_of}

-- a step, and the PDUs that were answered on its connection, in order
pub record Round : Type 0 where
  pub step : Step
  pub answers : List (List ℕ)

-- ---- what was answered

-- a PDU of that kind with at least so many octets
abbrev pub is_long : ℕ → ℕ → List ℕ → Bool
is_long kind least pdu = nat_le least (length pdu) && (get_or pdu 2 255 == kind)

-- a bind_ack tells the group's id, in the four octets behind the header and the two maxima
abbrev pub is_ack : List ℕ → Bool
is_ack pdu = is_long bind_ack_type 24 pdu

abbrev pub group_in : List ℕ → ℕ
group_in pdu = number_of Little w32 (take 4 (drop 20 pdu))

-- a response of the probe tells a handle, in the 20 octets at the front of its stub
abbrev pub is_response : List ℕ → Bool
is_response pdu = is_long response_type 44 pdu

abbrev pub handle_in : List ℕ → WireHandle
handle_in pdu = wire_of Little (take 20 (drop 24 pdu))

-- what the last of the PDUs tells that is one of those, or what was told before
abbrev pub told_last : {A : Type 0} → (List ℕ → Bool) → (List ℕ → A) → List (List ℕ) → A → A
told_last is tells [] before = before
told_last is tells (pdu ∷ more) before = told_last is tells more (if is pdu then tells pdu else before)

-- ---- what the rounds of a slot made of it, one after the other

abbrev pub at_slot : {A : Type 0} → (Round → A → A) → A → ℕ → List Round → A
at_slot after start s [] = start
at_slot after start s (r ∷ past) = if r.step.slot == s then after r (at_slot after start s past) else at_slot after start s past

-- Its connection is the one that was opened last, unless the bind was refused or it was lost.
abbrev pub conn_by : Deed → Bool → Option ℕ → Option ℕ
conn_by (Open name group) bound before = if bound then Some name else None
conn_by (Lose name) bound before = None
conn_by _ bound before = before

abbrev pub conn_after : Round → Option ℕ → Option ℕ
conn_after r before = conn_by r.step.deed (list_any is_ack r.answers) before

abbrev pub conn_of : List Round → ℕ → Option ℕ
conn_of past s = at_slot conn_after None s past

-- Calls of a connection have ids from 1: the bind has the first.
abbrev pub call_by : Deed → ℕ → ℕ
call_by (Open name group) before = 1
call_by (Issue name call number) before = before + 1
call_by (Close name call handle) before = before + 1
call_by _ before = before

abbrev pub call_after : Round → ℕ → ℕ
call_after r before = call_by r.step.deed before

abbrev pub call_of : List Round → ℕ → ℕ
call_of past s = at_slot call_after 0 s past

-- the handle that was answered last, null too, or null where none was
abbrev pub no_handle : WireHandle
no_handle = record { attributes = 0; id = 0 }

abbrev pub handle_after : Round → WireHandle → WireHandle
handle_after r before = told_last is_response handle_in r.answers before

abbrev pub handle_of : List Round → ℕ → WireHandle
handle_of past s = at_slot handle_after no_handle s past

-- the group that it got last
abbrev pub group_after : Round → Option ℕ → Option ℕ
group_after r before = told_last is_ack (λ pdu. Some (group_in pdu)) r.answers before

abbrev pub group_of : List Round → ℕ → Option ℕ
group_of past s = at_slot group_after None s past

-- ---- the next step

-- connections are named from 1, as they are opened
abbrev pub opens : Deed → Bool
opens (Open name group) = true
opens _ = false

abbrev pub opened : List Round → ℕ
opened past = length (filter (λ r. opens r.step.deed) past)

-- A connection asks for a new group one time in four, and while the first slot never was bound; else for that slot's.
abbrev pub group_or_new : Option ℕ → ℕ
group_or_new None = 0
group_or_new (Some group) = group

abbrev pub group_asked : List Round → ℕ → ℕ
group_asked past y = if rest_of y % 4 == 0 then 0 else group_or_new (group_of past 0)

-- what is chosen where the slot has a connection: of eight choices one loses it, two take its call, two end it, one cancels its
-- last call, one asks for a handle by the number of the step, and one gives back the handle that was answered last to a slot
abbrev pub deed_on : List Round → ℕ → ℕ → ℕ → Deed
deed_on past s y c =
    if choice_of y == 0 then Lose c
    else (if nat_le (choice_of y) 2 then Run c
    else (if nat_le (choice_of y) 4 then Finish c
    else (if choice_of y == 5 then Cancel c (call_of past s)
    else (if choice_of y == 6 then Issue c (call_of past s + 1) (length past + 1)
    else Close c (call_of past s + 1) (handle_of past (rest_of y % 8))))))

-- a slot without a connection opens the next one
abbrev pub deed_at : List Round → ℕ → ℕ → Option ℕ → Deed
deed_at past s y None = Open (opened past + 1) (group_asked past y)
deed_at past s y (Some c) = deed_on past s y c

abbrev pub step_by : List Round → ℕ → Step
step_by past y = record { slot = slot_of y; deed = deed_at past (slot_of y) y (conn_of past (slot_of y)) }

abbrev pub step_after : ℕ → List Round → Step
step_after number past = step_by past (drawn (number_at number (suc (length past))))

-- The rounds, the newest first, are those of the load of that number, by what was answered in them.
abbrev pub AreMade : ℕ → List Round → Type 0
AreMade number [] = ⊤
AreMade number (r ∷ past) = AreMade number past × (r.step ≡ step_after number past)
