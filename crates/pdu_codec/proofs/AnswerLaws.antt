-- The spelling that is written is one, and octets have one answer.
use Rattle.std.proofs.Common.{◌≡◌, ◌≢◌, ℕ, ◌+◌, ◌<◌, ◌≤◌, ◌⊎◌, inl, inr, Bool, true, false, List, [], ◌∷◌, ◌++◌, length, slice_index, drop, Option, Some, None, refl, sym, ap, subst, ◌∙◌, arith}
use Rattle.std.specs.Prelude.{replicate}
use Rattle.std.specs.List.{flat_map, AllByRecursion}
use Rattle.std.proofs.lemmas.List.{length-replicate}
use Rattle.rpc_base.specs.declared.identifiers.Order.{Order}
use Rattle.pdu_codec.specs.declared.pdu.Pdu.{Pdu}
use Rattle.pdu_codec.specs.declared.pdu.Body.{Body}
use Rattle.pdu_codec.specs.declared.pdu.Body.TheVariants.{Request, Response, Fault, Bind, BindAck, BindNak, Alter, AlterResp, Shutdown, CoCancel, Orphaned}
use Rattle.pdu_codec.specs.declared.pdu.BindBody.{BindBody}
use Rattle.pdu_codec.specs.declared.pdu.BindAckBody.{BindAckBody}
use Rattle.pdu_codec.specs.declared.pdu.Element.{Element}
use Rattle.pdu_codec.specs.declared.fault.PduFault.{PduFault}
use Rattle.pdu_codec.specs.declared.fault.PduFault.TheVariants as faults
use Rattle.pdu_codec.specs.Pdus.{kind_of, zeros_3, head_octets, head_of, element_octets, gap, as_bind, as_bind_ack, IsElement, AreSpelled, IsBind, IsBindAck, IsBody, FitsPdu, IsPdu, written_bind, written_bind_ack, body_octets, pdu_octets, HasCounts, HasAckCounts, HasSpelling, IsWritable}
use Rattle.rpc_base.specs.Fields.{order_of}
use Rattle.pdu_codec.specs.Constants.{header_size}
use Rattle.pdu_codec.specs.Faults.{is_known, kind_at, flags_at, frag_length, IsRightLength, IsWrongLength, PassesVersion, PassesHead, IsHeadFault, Spells, EndsEarly, IsFault}
use Rattle.pdu_codec.proofs.WritingLaws.{length-pdu_octets}
use Rattle.pdu_codec.proofs.PduLaws.{pdu_says, pdu_long, pdu_no_head_fault, some_same}

-- ---- what is written

elements_written : (order : Order) (es : List Element) → AllByRecursion (λ e. length e.transfers < 256) es → AreSpelled (IsElement order) es (flat_map (element_octets order 0) es)
elements_written order [] few = refl
elements_written order (e ∷ es) few =
    let first : IsElement order e (element_octets order 0 e) = record { few = few.0; reserved = 0; whole = refl } in
    (element_octets order 0 e, flat_map (element_octets order 0) es, refl, first, elements_written order es few.1)

bind_written : (order : Order) (b : BindBody) → HasCounts b → IsBind order b (written_bind order b)
bind_written order b h = record {
  few = h.0;
  reserved = zeros_3;
  three = refl;
  elements = flat_map (element_octets order 0) b.elements;
  are = elements_written order b.elements h.1;
  rest = [];
  whole = refl;
}

bind_ack_written : (order : Order) (b : BindAckBody) → HasAckCounts b → IsBindAck order b (written_bind_ack order b)
bind_ack_written order b h = record {
  short = h.0;
  few = h.1;
  padding = replicate (gap (10 + length b.address)) 0;
  aligned = length-replicate (gap (10 + length b.address)) 0;
  reserved = zeros_3;
  three = refl;
  rest = [];
  whole = refl;
}

body_written : (order : Order) (flags : ℕ) (body : Body) → HasSpelling flags body → IsBody order flags body (body_octets order body)
body_written order flags (Request b) h = record { object = h; whole = refl }
body_written order flags (Response b) h = record { reserved = 0; whole = refl }
body_written order flags (Fault b) h = record { reserved = 0; rest = 0 ∷ zeros_3; four = omega arith; whole = refl }
body_written order flags (Bind b) h = bind_written order b h
body_written order flags (BindAck b) h = bind_ack_written order b h
body_written order flags (BindNak b) h = record { few = h; rest = []; whole = refl }
body_written order flags (Alter b) h = bind_written order (as_bind b) h
body_written order flags (AlterResp b) h = bind_ack_written order (as_bind_ack b) h
body_written order flags Shutdown h = tt
body_written order flags CoCancel h = tt
body_written order flags Orphaned h = tt

-- what is written spells the PDU
pub pdu_written : (p : Pdu) → FitsPdu p → IsWritable p → IsPdu p (pdu_octets p)
unfolding pdu_octets
pdu_written p fits w =
    let body = body_octets p.order p.body in
    record {
      fits = fits;
      minor = w.minor;
      drep = zeros_3;
      three = refl;
      size = w.size;
      body = body;
      is_body = body_written p.order p.flags p.body w.body;
      whole = ap (λ n. head_octets p.minor zeros_3 (head_of p n) ++ body) (sym (length-pdu_octets p));
    }

-- ---- one answer

not_version : (octets : List ℕ) → (slice_index octets 0 ≢ 5) ⊎ (1 < slice_index octets 1) → PassesVersion octets → ⊥
not_version octets (inl other) passes = other passes.0
not_version octets (inr above) passes = absurd (omega (arith, above, passes.1))

not_length : (size : Option ℕ) (n : ℕ) → IsWrongLength size n → IsRightLength size n → ⊥
not_length None n wrong right = absurd (omega (arith, wrong, right))
not_length (Some size) n (inl less) right = absurd (omega (arith, less, right.0))
not_length (Some size) n (inr other) right = other right.1

not_kind : (known : Bool) → known ≡ false → known ≡ true → ⊥
not_kind known is_false is_true = absurd (cc (is_false, is_true))

not_order : (o : Option Order) (order : Order) → o ≡ None → o ≡ Some order → ⊥
not_order o order none some = absurd (cc (none, some))

-- a header's fault, and a header that passes
fault_passes : (size : Option ℕ) (order : Order) (octets : List ℕ) (f : PduFault) → IsHeadFault size octets f → PassesHead size order octets → ⊥
fault_passes size order octets faults.Version h p = not_version octets h p.0.0.0.0
fault_passes size order octets faults.Kind h p = not_kind (is_known (kind_at octets)) h.1 p.0.0.0.1
fault_passes size order octets faults.Length h p = not_length size (frag_length octets) h.1 p.0.0.1
fault_passes size order octets faults.Auth h p = h.1 p.0.1
fault_passes size order octets faults.Characters h p = not_order (order_of (slice_index octets 4)) order h.1 p.1
fault_passes size order octets faults.Body h p = h
fault_passes size order octets faults.Memory h p = h

-- a header has one first fault
pub head_one : (size : Option ℕ) (octets : List ℕ) (f g : PduFault) → IsHeadFault size octets f → IsHeadFault size octets g → f ≡ g
head_one size octets faults.Version faults.Version h k = refl
head_one size octets faults.Version faults.Kind h k = absurd (not_version octets h k.0)
head_one size octets faults.Version faults.Length h k = absurd (not_version octets h k.0.0)
head_one size octets faults.Version faults.Auth h k = absurd (not_version octets h k.0.0.0)
head_one size octets faults.Version faults.Characters h k = absurd (not_version octets h k.0.0.0.0)
head_one size octets faults.Version faults.Body h k = absurd k
head_one size octets faults.Version faults.Memory h k = absurd k
head_one size octets faults.Kind faults.Version h k = absurd (not_version octets k h.0)
head_one size octets faults.Kind faults.Kind h k = refl
head_one size octets faults.Kind faults.Length h k = absurd (not_kind (is_known (kind_at octets)) h.1 k.0.1)
head_one size octets faults.Kind faults.Auth h k = absurd (not_kind (is_known (kind_at octets)) h.1 k.0.0.1)
head_one size octets faults.Kind faults.Characters h k = absurd (not_kind (is_known (kind_at octets)) h.1 k.0.0.0.1)
head_one size octets faults.Kind faults.Body h k = absurd k
head_one size octets faults.Kind faults.Memory h k = absurd k
head_one size octets faults.Length faults.Version h k = absurd (not_version octets k h.0.0)
head_one size octets faults.Length faults.Kind h k = absurd (not_kind (is_known (kind_at octets)) k.1 h.0.1)
head_one size octets faults.Length faults.Length h k = refl
head_one size octets faults.Length faults.Auth h k = absurd (not_length size (frag_length octets) h.1 k.0.1)
head_one size octets faults.Length faults.Characters h k = absurd (not_length size (frag_length octets) h.1 k.0.0.1)
head_one size octets faults.Length faults.Body h k = absurd k
head_one size octets faults.Length faults.Memory h k = absurd k
head_one size octets faults.Auth faults.Version h k = absurd (not_version octets k h.0.0.0)
head_one size octets faults.Auth faults.Kind h k = absurd (not_kind (is_known (kind_at octets)) k.1 h.0.0.1)
head_one size octets faults.Auth faults.Length h k = absurd (not_length size (frag_length octets) k.1 h.0.1)
head_one size octets faults.Auth faults.Auth h k = refl
head_one size octets faults.Auth faults.Characters h k = absurd (h.1 k.0.1)
head_one size octets faults.Auth faults.Body h k = absurd k
head_one size octets faults.Auth faults.Memory h k = absurd k
head_one size octets faults.Characters faults.Version h k = absurd (not_version octets k h.0.0.0.0)
head_one size octets faults.Characters faults.Kind h k = absurd (not_kind (is_known (kind_at octets)) k.1 h.0.0.0.1)
head_one size octets faults.Characters faults.Length h k = absurd (not_length size (frag_length octets) k.1 h.0.0.1)
head_one size octets faults.Characters faults.Auth h k = absurd (k.1 h.0.1)
head_one size octets faults.Characters faults.Characters h k = refl
head_one size octets faults.Characters faults.Body h k = absurd k
head_one size octets faults.Characters faults.Memory h k = absurd k
head_one size octets faults.Body g h k = absurd h
head_one size octets faults.Memory g h k = absurd h

-- what a first fault is, by where it lies
data Lies (octets : List ℕ) (f : PduFault) : Type 0 where
  lies_short : length octets < header_size → f ≡ faults.Length → Lies octets f
  lies_front : header_size ≤ length octets → IsHeadFault (Some (length octets)) octets f → Lies octets f
  lies_behind : f ≡ faults.Body → header_size ≤ length octets → (order : Order) → PassesHead (Some (length octets)) order octets
      → EndsEarly order (flags_at octets) (kind_at octets) (drop header_size octets) → Lies octets f
  lies_nowhere : f ≡ faults.Memory → Lies octets f

lies : (octets : List ℕ) (f : PduFault) → IsFault octets f → Lies octets f
lies octets faults.Version h = lies_front h.0 h.1
lies octets faults.Kind h = lies_front h.0 h.1
lies octets faults.Length (inl short) = lies_short short refl
lies octets faults.Length (inr h) = lies_front h.0 h.1
lies octets faults.Auth h = lies_front h.0 h.1
lies octets faults.Characters h = lies_front h.0 h.1
lies octets faults.Body h = lies_behind refl h.0 h.1 h.2 h.3
lies octets faults.Memory h = lies_nowhere refl

lie_same : (octets : List ℕ) (f g : PduFault) → f ≢ faults.Memory → g ≢ faults.Memory → Lies octets f → Lies octets g → f ≡ g
lie_same octets f g f' g' (lies_nowhere is) k = absurd (f' is)
lie_same octets f g f' g' (lies_short short is) (lies_short short' is') = is ∙ sym is'
lie_same octets f g f' g' (lies_short short is) (lies_front long h) = absurd (omega arith)
lie_same octets f g f' g' (lies_short short is) (lies_behind is' long order passes early) = absurd (omega arith)
lie_same octets f g f' g' (lies_short short is) (lies_nowhere is') = absurd (g' is')
lie_same octets f g f' g' (lies_front long h) (lies_short short is') = absurd (omega arith)
lie_same octets f g f' g' (lies_front long h) (lies_front long' k) = head_one (Some (length octets)) octets f g h k
lie_same octets f g f' g' (lies_front long h) (lies_behind is' long' order passes early) = absurd (fault_passes (Some (length octets)) order octets f h passes)
lie_same octets f g f' g' (lies_front long h) (lies_nowhere is') = absurd (g' is')
lie_same octets f g f' g' (lies_behind is long order passes early) (lies_short short is') = absurd (omega arith)
lie_same octets f g f' g' (lies_behind is long order passes early) (lies_front long' k) = absurd (fault_passes (Some (length octets)) order octets g k passes)
lie_same octets f g f' g' (lies_behind is long order passes early) (lies_behind is' long' order' passes' early') = is ∙ sym is'
lie_same octets f g f' g' (lies_behind is long order passes early) (lies_nowhere is') = absurd (g' is')

-- octets have one first fault
pub one_fault : (octets : List ℕ) (f g : PduFault) → IsFault octets f → IsFault octets g → f ≢ faults.Memory → g ≢ faults.Memory → f ≡ g
one_fault octets f g h k f' g' = lie_same octets f g f' g' (lies octets f h) (lies octets g k)

pdu_no_lie : (p : Pdu) (octets : List ℕ) (f : PduFault) → IsPdu p octets → Lies octets f → f ≡ faults.Memory
pdu_no_lie p octets f is (lies_short short f_is) = absurd (omega (arith, pdu_long p octets is))
pdu_no_lie p octets f is (lies_front long h) = absurd (pdu_no_head_fault p octets is f h)
pdu_no_lie p octets f is (lies_behind f_is long order passes early) =
    let s = pdu_says p octets is in
    let order_is : p.order ≡ order = some_same p.order order (sym s.order ∙ passes.1) in
    let own : Spells p.order p.flags (kind_of p.body) p.body is.body = record { is_kind = refl; fits = is.fits.body; is_body = is.is_body } in
    let spelled : Spells order (flags_at octets) (kind_at octets) p.body (drop header_size octets) =
    subst (λ (x : Order × ℕ × ℕ × List ℕ). Spells x.0 x.1 x.2 p.body x.3) (λ i. (order_is i, sym s.flags i, sym s.kind i, sym s.behind i)) own in
    absurd (early.alone p.body spelled)
pdu_no_lie p octets f is (lies_nowhere f_is) = f_is

-- octets that spell a PDU have no fault
pub no_fault : (p : Pdu) (octets : List ℕ) (f : PduFault) → IsPdu p octets → IsFault octets f → f ≡ faults.Memory
no_fault p octets f is h = pdu_no_lie p octets f is (lies octets f h)
