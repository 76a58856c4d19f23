-- From what is read to what is decoded.
use Rattle.std.proofs.Common.{◌≡◌, ℕ, List, Option, Some, None, Result, Ok, Err, refl, sym, ap, subst, ◌∙◌}
use Rattle.std.specs.Prelude.{slice_get, IfOk, IfErr}
use Rattle.rpc_base.specs.declared.identifiers.Order.{Order}
use Rattle.rpc_base.specs.Fields.{IsOctets}
use Rattle.ndr_value.specs.Forms.{Form}
use Rattle.ndr_value.specs.Values.{Vals, Msg, msg}
use Rattle.ndr_value.specs.declared.value.Message.{Message}
use Rattle.ndr_table.specs.Tables.{OpForm}
use Rattle.ndr_arrays.specs.Bind.{◌>>=◌}
use Rattle.ndr_arrays.proofs.Steps.{ok_is}
use Rattle.ndr_model.specs.declared.departure.Departure.{Departure}
use Rattle.ndr_model.specs.declared.departure.Departure.TheVariants as departures
use Rattle.ndr_model.specs.declared.way.Way.{Way}
use Rattle.ndr_model.specs.declared.mark.Mark.{Mark}
use Rattle.ndr_model.specs.Places.{Last}
use Rattle.ndr_model.specs.Stub.{entries}
use Rattle.ndr_model.specs.Build.{read_values}
use Rattle.ndr_model.specs.Message.{IsStub, enough, message_of, unless_off, compared, read_stub}
use Rattle.ndr_pointers.specs.declared.scan_fault.ReadError.{ReadError}
use Rattle.ndr_pointers.specs.declared.scan_fault.ReadError.TheVariants as errors
use Rattle.ndr_pointers.specs.Gives.{Fails}
use Rattle.ndr_read.specs.Readings.{reading, reading_of}
use Rattle.ndr_laws.specs.Laws.{IsOp}
use Rattle.ndr_laws.proofs.Stubs.{read_stands, stub_found}
use Rattle.ndr_model.specs.Fits.{IsOfOp}
use Rattle.ndr_laws.proofs.WrittenStubs.{read_of_op}
use Rattle.ndr_model.specs.declared.fault.NdrFault.{NdrFault}
use Rattle.ndr_model.specs.declared.fault.NdrFault.TheVariants.{Short, Bound, Tag, Pointer, Text, TooDeep, Trailing, Memory}
use Rattle.ndr_model.specs.Faults.{fault_of, IsFault}
use Rattle.ndr_faults.specs.First.{IsOpOf}
use Rattle.ndr_faults.specs.Off.{HasCause}
use Rattle.ndr_faults.proofs.Departing.{departs}
use Rattle.ndr_codec.specs.Faults.{of_error, Decodes, IsThat}

abbrev ok_msg : Msg → Result Msg Departure
ok_msg m = Ok m

clash : {m : Msg} {d : Departure} → ok_msg m ≡ Err d → ⊥
clash e = absurd cc

pub fault_is : (d : Departure) (read : Result Msg Departure) → read ≡ Err d → IsFault (fault_of d) read
fault_is (departures.Short n) read e = e
fault_is (departures.Bound i) read e = e
fault_is (departures.Tag i) read e = e
fault_is (departures.Pointer i) read e = e
fault_is (departures.Text i) read e = e
fault_is (departures.TooDeep i) read e = e
fault_is (departures.Trailing n) read e = e

abbrev clear : Option Departure → Message → Result Message NdrFault
clear None m = Ok m
clear (Some d) m = Err (fault_of d)

pub off_decodes : (o : Option Departure) (m : Message) → Decodes (clear o m) (unless_off (msg m) o)
off_decodes None m = refl
off_decodes (Some d) m = fault_is d (Err d) refl

abbrev ready : Msg × List Mark → Result (Msg × List Mark) Departure
ready y = Ok y

module _ (types : List Form) (op : OpForm) (way : Way) (order : Order) (asked : Option Msg) (octets : List ℕ) where
  with_message : (x : Vals × Last) (r : Result Msg Departure)
      → (r >>= λ m. compared types op way asked x.1.marks m) ≡ ((r >>= λ m. ready (m, x.1.marks)) >>= λ y. compared types op way asked y.1 y.0)
  with_message x (Ok m) = refl
  with_message x (Err d) = refl

  then_compared : (r : Result (Vals × Last) Departure)
      → (r >>= λ x. message_of x.0 x.1 >>= λ m. compared types op way asked x.1.marks m) ≡ ((r >>= λ x. reading_of x) >>= λ y. compared types op way asked y.1 y.0)
  then_compared (Ok x) = with_message x (message_of x.0 x.1)
  then_compared (Err d) = refl

  -- a stub is read, and then compared
  pub in_two : read_stub types op way order asked octets ≡ (reading types op way order octets >>= λ y. compared types op way asked y.1 y.0)
  unfolding read_stub
  in_two = then_compared (read_values types order octets enough (entries way op))

  pub read_decodes : (y : Msg × List Mark) (r : Result Message NdrFault) → reading types op way order octets ≡ Ok y → Decodes r (compared types op way asked y.1 y.0) → Decodes r (read_stub types op way order asked octets)
  read_decodes y r e d =
      let same : read_stub types op way order asked octets ≡ compared types op way asked y.1 y.0 = in_two ∙ ap (λ (q : Result (Msg × List Mark) Departure). q >>= λ z. compared types op way asked z.1 z.0) e in
      subst (λ (q : Result Msg Departure). Decodes r q) (sym same) d

  pub error_decodes : (x : ReadError) → Fails x (reading types op way order octets) → IsFault (of_error x) (read_stub types op way order asked octets)
  error_decodes errors.Memory e = tt
  error_decodes (errors.Departs d) e =
      fault_is d (read_stub types op way order asked octets) (in_two ∙ ap (λ (q : Result (Msg × List Mark) Departure). q >>= λ z. compared types op way asked z.1 z.0) e)

  pub decoded_stands : (r : Result Message NdrFault) (m : Message) → r ≡ Ok m → Decodes r (read_stub types op way order asked octets) → IsStub types op way order asked (msg m) octets
  decoded_stands r m is d = read_stands types op way order asked octets (msg m) (subst (λ (q : Result Message NdrFault). Decodes q (read_stub types op way order asked octets)) is d)

  pub no_fault : (f : NdrFault) (m : Msg) → read_stub types op way order asked octets ≡ Ok m → IsFault f (read_stub types op way order asked octets) → f ≡ Memory
  no_fault Memory m e d = refl
  no_fault (Short n) m e d = absurd (clash (sym e ∙ d))
  no_fault (Bound n) m e d = absurd (clash (sym e ∙ d))
  no_fault (Tag n) m e d = absurd (clash (sym e ∙ d))
  no_fault (Pointer n) m e d = absurd (clash (sym e ∙ d))
  no_fault (Text n) m e d = absurd (clash (sym e ∙ d))
  no_fault (TooDeep n) m e d = absurd (clash (sym e ∙ d))
  no_fault (Trailing n) m e d = absurd (clash (sym e ∙ d))

  pub stub_decoded : (r : Result Message NdrFault) (m : Msg) → IsOp types op → IsStub types op way order asked m octets → Decodes r (read_stub types op way order asked octets) → IsThat r m
  stub_decoded (Ok x) m o s d = ok_is Departure (msg x) m (sym d ∙ stub_found types op way order asked octets m o s)
  stub_decoded (Err f) m o s d = no_fault f m (stub_found types op way order asked octets m o s) d

-- whatever operation has that number
pub found_all : (types : List Form) (ops : List OpForm) (n : ℕ) (way : Way) (order : Order) (asked : Option Msg) (octets : List ℕ) (r : Result Message NdrFault)
    → ((o : OpForm) → slice_get ops n ≡ Some o → Decodes r (read_stub types o way order asked octets)) → IfOk r (λ m. (o : OpForm) → slice_get ops n ≡ Some o → IsStub types o way order asked (msg m) octets)
found_all types ops n way order asked octets (Ok m) h = λ o is. read_stands types o way order asked octets (msg m) (h o is)
found_all types ops n way order asked octets (Err f) h = tt

pub of_op_all : (types : List Form) (ops : List OpForm) (n : ℕ) (way : Way) (order : Order) (asked : Option Msg) (octets : List ℕ) (r : Result Message NdrFault) → IsOctets octets
    → ((o : OpForm) → slice_get ops n ≡ Some o → Decodes r (read_stub types o way order asked octets)) → IfOk r (λ m. (o : OpForm) → slice_get ops n ≡ Some o → IsOfOp types o way asked (msg m))
of_op_all types ops n way order asked octets (Ok m) are h = λ o is. read_of_op types o way order asked octets (msg m) are (h o is)
of_op_all types ops n way order asked octets (Err f) are h = tt

module _ (types : List Form) (op : OpForm) (way : Way) (order : Order) (asked : Option Msg) (octets : List ℕ) (o : IsOpOf types op) where
  caused : (f : NdrFault) → IsFault f (read_stub types op way order asked octets) → HasCause types op way order asked octets f
  caused Memory e = tt
  caused (Short n) e = departs types op way order asked octets (departures.Short n) o e
  caused (Bound i) e = departs types op way order asked octets (departures.Bound i) o e
  caused (Tag i) e = departs types op way order asked octets (departures.Tag i) o e
  caused (Pointer i) e = departs types op way order asked octets (departures.Pointer i) o e
  caused (Text i) e = departs types op way order asked octets (departures.Text i) o e
  caused (TooDeep i) e = departs types op way order asked octets (departures.TooDeep i) o e
  caused (Trailing n) e = departs types op way order asked octets (departures.Trailing n) o e

pub cause_all : (types : List Form) (ops : List OpForm) (n : ℕ) (way : Way) (order : Order) (asked : Option Msg) (octets : List ℕ) (r : Result Message NdrFault) → ((o : OpForm) → slice_get ops n ≡ Some o → IsOpOf types o)
    → ((o : OpForm) → slice_get ops n ≡ Some o → Decodes r (read_stub types o way order asked octets)) → IfErr r (λ f. (o : OpForm) → slice_get ops n ≡ Some o → HasCause types o way order asked octets f)
cause_all types ops n way order asked octets (Ok m) are h = tt
cause_all types ops n way order asked octets (Err f) are h = λ o is. caused types o way order asked octets (are o is) f (h o is)
