-- What the names of counts and switches stand for: a parameter, or a member of the same body. In a response a parameter that doesn't
-- come out is the request's.
use Rattle.std.specs.Prelude.{ℕ, zero, suc, ℤ, pos, ◌+ℤ◌, Bool, true, false, List, [], ◌∷◌, take, slice_get, Option, Some, None, if◌then◌else◌}
use Rattle.ndr_value.specs.declared.shape.Count.{Count}
use Rattle.ndr_value.specs.declared.shape.Count.TheVariants as counts
use Rattle.ndr_value.specs.Values.{Val, VBool, VByte, VChar, VInt, VUint, VEnum, VNull, VPtr, VFull, Vals, no_val, then_val, Msg}
use Rattle.ndr_table.specs.Tables.{ParamForm, OpForm}
use Rattle.ndr_model.specs.declared.way.Way.{Way}
use Rattle.ndr_model.specs.declared.way.Way.TheVariants.{Request}
use Rattle.ndr_model.specs.Stub.{goes}

-- a message of an operation and its way; asked: the request, for a response
pub record Call : Type 0 where
  pub op : OpForm
  pub way : Way
  pub asked : Option Msg
  pub said : Msg

abbrev pub nth : Vals → ℕ → Option Val
nth no_val n = None
nth (then_val v vs) zero = Some v
nth (then_val v vs) (suc n) = nth vs n

-- how many of the parameters go that way
abbrev pub how_many : Way → List ParamForm → ℕ
how_many way [] = 0
how_many way (p ∷ ps) = if goes way p then suc (how_many way ps) else how_many way ps

-- a value, and the heap that it points into
pub record Known : Type 0 where
  pub value : Val
  pub heap : Vals

abbrev pub with_heap : Option Val → Vals → Option Known
with_heap None heap = None
with_heap (Some v) heap = Some (record { value = v; heap = heap })

abbrev pub if_goes : Way → Option ParamForm → Option Val → Option Val
if_goes way None v = None
if_goes way (Some p) v = if goes way p then v else None

-- the value of a parameter in a message of that way
abbrev pub sent : Way → OpForm → Msg → ℕ → Option Known
sent way op m n = with_heap (if_goes way (slice_get op.params n) (nth m.values (how_many way (take n op.params)))) m.heap

abbrev pub in_request : OpForm → Option Msg → ℕ → Option Known
in_request op None n = None
in_request op (Some m) n = sent Request op m n

abbrev pub or_asked : Option Known → Option Known → Option Known
or_asked None k = k
or_asked (Some k) _ = Some k

abbrev pub known : Call → ℕ → Option Known
known c n = or_asked (sent c.way c.op c.said n) (in_request c.op c.asked n)

abbrev pub number : Val → Option ℤ
number (VBool b) = Some (pos (if b then 1 else 0))
number (VByte n) = Some (pos n)
number (VChar n) = Some (pos n)
number (VInt z) = Some z
number (VUint n) = Some (pos n)
number (VEnum n) = Some (pos n)
number _ = None

abbrev pub added : ℕ → Option ℤ → Option ℤ
added plus None = None
added plus (Some z) = Some (z +ℤ pos plus)

abbrev pub number_of : Option Val → Option ℤ
number_of None = None
number_of (Some v) = number v

-- what the value points to, or itself; 0 behind a null pointer, whatever is added
abbrev pub pointed : Vals → ℕ → Val → Option ℤ
pointed heap plus VNull = Some (pos 0)
pointed heap plus (VPtr v) = added plus (number v)
pointed heap plus (VFull None) = Some (pos 0)
pointed heap plus (VFull (Some n)) = added plus (number_of (nth heap n))
pointed heap plus v = added plus (number v)

abbrev pub of_known : Bool → ℕ → Option Known → Option ℤ
of_known through plus None = None
of_known true plus (Some k) = pointed k.heap plus k.value
of_known false plus (Some k) = added plus (number k.value)

-- what a count or a tag has to be, in a body of those members
abbrev pub named : Call → Vals → Count → Option ℤ
named c body (counts.Number n) = Some (pos n)
named c body (counts.Param index through plus) = of_known through plus (known c index)
named c body (counts.Member index plus) = added plus (number_of (nth body index))
