-- What an echo answers: the parameters that come out are those that came in, with the items of the heap that they lead to numbered anew,
-- and the result is success.
use Rattle.std.specs.Prelude.{◌≡◌, ◌⊎◌, ℕ, Bool, true, false, ◌&&◌, ◌||◌, not, ◌==◌, List, [], ◌∷◌, Option, Some, None}
use Rattle.std.specs.List.{list_all}
use Rattle.ndr_value.specs.Forms.{Form, OfUint}
use Rattle.ndr_value.specs.Values.{VUint, Vals, no_val, then_val, Msg}
use Rattle.ndr_table.specs.declared.operation.HandleUse.{HandleUse}
use Rattle.ndr_table.specs.Tables.{ParamForm, OpForm, TableForm}
use Rattle.ndr_model.specs.declared.way.Way.TheVariants.{Response}
use Rattle.ndr_model.specs.Fits.{IsOfOp}
use Rattle.manager_api.specs.Answers.{Ans, AOut, AFault, no_memory}
use Rattle.manager_api.specs.Messages.{ForOp}
use Rattle.manager_api.specs.Calls.{uses_at}
use Rattle.echo_manager.specs.Met.{met_in}
use Rattle.echo_manager.specs.Numbered.{items_of, brought_back}

-- ---- which operations

-- it goes in where it comes out
abbrev pub comes_back : ParamForm → Bool
comes_back p = not p.outward || p.inward

abbrev pub has_none : List HandleUse → Bool
has_none [] = true
has_none (u ∷ us) = false

abbrev pub is_word : Form → Bool
is_word (OfUint size) = size == 4
is_word _ = false

-- no result, or an error_status_t
abbrev pub may_succeed : Bool → Option Form → Bool
may_succeed status None = true
may_succeed status (Some s) = status && is_word s

-- each parameter that comes out goes in, none is a handle, and the result can say success
abbrev pub is_echoed : List HandleUse → OpForm → Bool
is_echoed uses o = has_none uses && (list_all comes_back o.params && may_succeed o.status o.result)

-- ---- the echo

-- status 0, where there is one
abbrev pub success : Option Form → Vals
success None = no_val
success (Some s) = then_val (VUint 0) no_val

abbrev pub met : List Form → OpForm → Msg → List ℕ
met types o asked = met_in types asked.heap o.params asked.values []

abbrev pub echo : List Form → OpForm → Msg → Msg
echo types o asked = record {
  values = brought_back (met types o asked) (success o.result) o.params asked.values;
  heap = items_of asked.heap (met types o asked) (met types o asked);
  wires = [];
}

-- ---- a call

-- nca_s_fault_unspec
abbrev pub unspecified : Ans
unspecified = AFault (record { 0 = 0x1C000012 })

-- the echo where it is a message of the operation's response: a chain of full pointers may pass 256 levels, once the parameters that only
-- go in are gone
pub data Says (t : TableForm) (asked : Msg) (o : OpForm) : Ans → Type 0 where
  echoed : IsOfOp t.types o Response (Some asked) (echo t.types o asked) → Says t asked o (AOut (echo t.types o asked) [])
  no_response : (IsOfOp t.types o Response (Some asked) (echo t.types o asked) → ⊥) → Says t asked o unspecified

-- that of an operation that is echoed
pub data Echoes (t : TableForm) (op : ℕ) (asked : Msg) (o : OpForm) : Ans → Type 0 where
  says : {a : Ans} → is_echoed (uses_at t op) o ≡ true → Says t asked o a → Echoes t op asked o a
  not_echoed : is_echoed (uses_at t op) o ≡ false → Echoes t op asked o unspecified

-- an operation's answer to a request, or want of memory
abbrev pub Answers : TableForm → ℕ → Msg → Ans → Type 0
Answers t op asked a = ForOp t op (λ o. Echoes t op asked o a) ⊎ (a ≡ no_memory)
