-- Fragments of requests, and what they join to (C706, "Connection-oriented RPC PDUs", fragmentation and reassembly).
use Rattle.std.specs.Prelude.{◌≡◌, ◌≢◌, ℕ, ◌^◌, ◌<◌, ◌≤◌, ◌==◌, ◌&&◌, ◌||◌, bit_and, Bool, true, false, not, List, [], ◌∷◌, ◌++◌, length, Option, Some, None, Result, Ok, Err, ⊤}
use Rattle.std.specs.List.{flat_map, list_any}
use Rattle.rpc_base.specs.declared.identifiers.Order.{Order}
use Rattle.pdu_codec.specs.Constants.{first_frag, last_frag, pending_cancel, maybe_flag}
use Rattle.pdu_codec.specs.declared.pdu.RequestBody.{RequestBody}
use Rattle.pdu_stream.specs.declared.joined.Joined.{Joined}
use Rattle.pdu_stream.specs.declared.joined.JoinFault.{JoinFault}
use Rattle.pdu_stream.specs.declared.joined.JoinFault.TheVariants.{FragOrder, FragDrep, TooLong, Memory}

-- A request PDU: a fragment of a request, which may be all of it.
pub record Fragment : Type 0 where
  pub order : Order
  pub flags : ℕ
  pub call_id : ℕ
  pub part : RequestBody

-- ---- what its flags say

abbrev pub has_flag : ℕ → ℕ → Bool
has_flag flag flags = not (bit_and flags flag == 0)

abbrev pub is_first : Fragment → Bool
is_first f = has_flag first_frag f.flags

abbrev pub is_last : Fragment → Bool
is_last f = has_flag last_frag f.flags

abbrev pub is_cancelled : Fragment → Bool
is_cancelled f = has_flag pending_cancel f.flags

abbrev pub is_maybe : Fragment → Bool
is_maybe f = has_flag maybe_flag f.flags

-- ---- what fragments join to

abbrev pub stub_of : Fragment → List ℕ
stub_of f = f.part.stub

-- The first fragment and the later ones in their order: the stubs, one after the other. The request is maybe where
-- the first one is, and is cancelled where one of them is or a cancel came between them.
unfoldable pub joined_of : Fragment → List Fragment → Bool → Joined
joined_of first later cancelled =
    record {
      call_id = first.call_id;
      order = first.order;
      context = first.part.context;
      op = first.part.op;
      maybe = is_maybe first;
      cancel = cancelled || list_any is_cancelled (first ∷ later);
      stub = flat_map stub_of (first ∷ later);
    }

-- most octets of a stub: 64 MiB
abbrev pub most_stub : ℕ
most_stub = 2 ^ 26

-- ---- a fragment after others, which have joined to a request so far

-- The fragment's place: it is the first one where no request is being joined, and else a later one of that request.
abbrev pub is_in_order : Option Joined → Fragment → Bool
is_in_order None f = is_first f
is_in_order (Some j) f = not (is_first f) && (f.call_id == j.call_id) && (f.part.context == j.context) && (f.part.op == j.op)

-- Its numbers have the order of those of the first fragment.
abbrev pub HasOrder : Option Joined → Fragment → Type 0
HasOrder None f = ⊤
HasOrder (Some j) f = f.order ≡ j.order

abbrev pub HasOtherOrder : Option Joined → Fragment → Type 0
HasOtherOrder None f = ⊥
HasOtherOrder (Some j) f = f.order ≢ j.order

-- what stands with it
abbrev pub with_fragment : Option Joined → Fragment → Joined
with_fragment None f = joined_of f [] false
with_fragment (Some j) f = record j { cancel = j.cancel || is_cancelled f; stub = j.stub ++ stub_of f }

abbrev pub IsTaken : Option Joined → Fragment → Type 0
IsTaken run f = (is_in_order run f ≡ true) × HasOrder run f × (length (with_fragment run f).stub ≤ most_stub)

-- The fault is the first one of the fragment. Want of memory has no cause in it.
abbrev pub IsJoinFault : Option Joined → Fragment → JoinFault → Type 0
IsJoinFault run f FragOrder = is_in_order run f ≡ false
IsJoinFault run f FragDrep = (is_in_order run f ≡ true) × HasOtherOrder run f
IsJoinFault run f TooLong = (is_in_order run f ≡ true) × HasOrder run f × (most_stub < length (with_fragment run f).stub)
IsJoinFault run f Memory = ⊤

-- the request with the fragment, or the fault
abbrev pub JoinsTo : Option Joined → Fragment → Result Joined JoinFault → Type 0
JoinsTo run f (Ok j) = IsTaken run f × (j ≡ with_fragment run f)
JoinsTo run f (Err fault) = IsJoinFault run f fault

-- ---- the calls of a joiner, which is seen as the request being joined, where there is one, or the fault that it
-- has answered

abbrev pub Joining : Type 0
Joining = Result (Option Joined) JoinFault

-- A fragment comes: the request is whole at its last one. A fault is answered for good.
abbrev pub AddsFragment : Joining → Fragment → Result (Option Joined) JoinFault → Joining → Type 0
AddsFragment (Err fault) f result new = (result ≡ Err fault) × (new ≡ Err fault)
AddsFragment (Ok run) f (Ok None) new = IsTaken run f × (is_last f ≡ false) × (new ≡ Ok (Some (with_fragment run f)))
AddsFragment (Ok run) f (Ok (Some j)) new = IsTaken run f × (is_last f ≡ true) × (j ≡ with_fragment run f) × (new ≡ Ok None)
AddsFragment (Ok run) f (Err fault) new = IsJoinFault run f fault × (new ≡ Err fault)

-- a request with that call id is being joined
abbrev pub is_joining : Joining → ℕ → Bool
is_joining (Ok None) id = false
is_joining (Ok (Some j)) id = j.call_id == id
is_joining (Err fault) id = false

-- A cancel of a call comes: the request with its id is marked.
abbrev pub Marks : Joining → ℕ → Bool → Joining → Type 0
Marks old id true new =
    (is_joining old id ≡ true) × (j : Joined) × (old ≡ Ok (Some j)) × (new ≡ Ok (Some (record j { cancel = true })))
Marks old id false new = (is_joining old id ≡ false) × (new ≡ old)

-- The client no longer waits for a call: the fragments of the request with its id are dropped.
abbrev pub Drops : Joining → ℕ → Bool → Joining → Type 0
Drops old id true new = (is_joining old id ≡ true) × (new ≡ Ok None)
Drops old id false new = (is_joining old id ≡ false) × (new ≡ old)
