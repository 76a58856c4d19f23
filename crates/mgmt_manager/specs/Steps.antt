-- What the management interface answers: by the interfaces that are served, and by numbers of calls and packets.
use Rattle.std.specs.Prelude.{◌≡◌, ◌⊎◌, ℕ, min, ◌==◌, List, [], ◌∷◌, length, take, Some, if◌then◌else◌}
use Rattle.rpc_base.specs.declared.identifiers.SyntaxId.{SyntaxId}
use Rattle.ndr_value.specs.Values.{Val, VUint, VStruct, VArray, VFull, Vals, no_val, then_val, Msg}
use Rattle.desk_kit.specs.MessageParts.{syntax_value, pointers}
use Rattle.manager_api.specs.Answers.{Ans, AOut, no_memory}
use Rattle.manager_api.specs.Arguments.{uint_at}
use Rattle.manager_api.specs.Calls.{Call}
use Rattle.manager_api.specs.Responses.{response}

-- ---- inq_if_ids: all served interfaces by rising number

abbrev pub syntax_values : List SyntaxId → Vals
syntax_values [] = no_val
syntax_values (s ∷ ss) = then_val (syntax_value s) (syntax_values ss)

-- their number, and a pointer to each
abbrev pub vector : List SyntaxId → Val
vector ids = VStruct (then_val (VUint (length ids)) (then_val (VArray (pointers 1 (length ids))) no_val))

abbrev pub heap : List SyntaxId → Vals
heap ids = then_val (vector ids) (syntax_values ids)

-- a pointer to the vector, status 0
abbrev pub ids_message : List SyntaxId → Msg
ids_message ids = record { values = then_val (VFull (Some 0)) (then_val (VUint 0) no_val); heap = heap ids; wires = [] }

-- ---- inq_stats: the lesser of count and 4 statistics

abbrev pub uints : List ℕ → Vals
uints [] = no_val
uints (n ∷ ns) = then_val (VUint n) (uints ns)

abbrev pub stats_message : ℕ → List ℕ → Msg
stats_message given numbers = response (then_val (VUint given) (then_val (VArray (uints (take given numbers))) (then_val (VUint 0) no_val))) 0

-- ---- is_server_listening: 1

abbrev pub listening_message : Msg
listening_message = response (then_val (VUint 0) (then_val (VUint 1) no_val)) 0

-- ---- a call

-- the response to an operation's request
abbrev pub message_of : List SyntaxId → List ℕ → ℕ → Msg → Msg
message_of ids numbers op asked =
    if op == 0 then ids_message ids
    else (if op == 1 then stats_message (min (uint_at asked 0) 4) numbers
    else listening_message)

-- the answer of the interfaces that are served and of numbers that may be given, or the fault of want of memory
abbrev pub Says : List SyntaxId → (List ℕ → Type 0) → Call → Ans → Type 0
Says ids Gives c a = ((numbers : List ℕ) × Gives numbers × (a ≡ AOut (message_of ids numbers c.op c.message) [])) ⊎ (a ≡ no_memory)
