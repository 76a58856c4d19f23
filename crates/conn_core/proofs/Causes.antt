-- Faults and fronts of what a connection has still to read.
use Rattle.std.proofs.Common.{◌≡◌, ℕ, ◌<◌, ◌≤◌, ◌⊎◌, inl, inr, List, ◌++◌, length, Option, Some, None, Result, Ok, Err, ap, subst, arith, length-append}
use Rattle.std.specs.Prelude.{OnOk, OnErr}
use Rattle.rpc_base.specs.declared.fault.NoMemory.{NoMemory}
use Rattle.pdu_codec.specs.Constants.{header_size}
use Rattle.pdu_codec.specs.declared.pdu.Pdu.{Pdu}
use Rattle.pdu_codec.specs.declared.fault.PduFault.{PduFault}
use Rattle.pdu_codec.specs.declared.fault.PduFault.TheVariants as faults
use Rattle.pdu_codec.proofs.PduLaws.{pdu_long}
use Rattle.pdu_stream.specs.Cuts.{Fed, IsNext, IsStop, IsCause, IsPartial}
use Rattle.pdu_stream.proofs.CutLaws.{fault_stays, not_remains, stops_by, StopsBy}
use Rattle.pdu_stream.proofs.CutLaws.StopsBy.{by_head, by_body}
use Rattle.conn_core.specs.Fields.{HasCause}

stays : (rest more : List ℕ) (f : PduFault) → IsStop rest f ⊎ (f ≡ faults.Memory) → IsStop (rest ++ more) f ⊎ (f ≡ faults.Memory)
stays rest more f (inl stop) = inl (fault_stays rest more f stop)
stays rest more f (inr memory) = inr memory

pub cause_stays : (f : Option PduFault) (rest more : List ℕ) → HasCause f rest → HasCause f (rest ++ more)
cause_stays None rest more h = tt
cause_stays (Some f) rest more h = stays rest more f h

-- a fault that is answered has its cause
answered : (o : Option PduFault) (rest : List ℕ) (f : PduFault) → HasCause o rest → o ≡ Some f → IsStop rest f ⊎ (f ≡ faults.Memory)
answered None rest f h e = absurd (cc (e))
answered (Some g) rest f h e = subst (λ (o : Option PduFault). HasCause o rest) e h

pub cause : (old : Fed) (f : PduFault) → HasCause old.fault old.rest → IsCause old f → IsStop old.rest f ⊎ (f ≡ faults.Memory)
cause old f h (inl again) = answered old.fault old.rest f h again
cause old f h (inr new) = new.1

-- and where it isn't want of memory, that is in the octets
pub in_octets : (rest : List ℕ) (f : PduFault) → (f ≡ faults.Memory → ⊥) → IsStop rest f ⊎ (f ≡ faults.Memory) → IsStop rest f
in_octets rest f known (inl stop) = stop
in_octets rest f known (inr memory) = absurd (known memory)

-- no PDU stands where octets stop, or are the beginning of one
pub no_next_stop : (rest others : List ℕ) (p : Pdu) (f : PduFault) → IsStop rest f → IsNext rest p others → ⊥
no_next_stop rest others p f stop next =
    not_remains p next.0 others (Some f) next.1 (subst (λ (t : List ℕ). IsStop t f) next.2 stop)

pub no_next_partial : (rest others : List ℕ) (p : Pdu) → IsPartial rest → IsNext rest p others → ⊥
no_next_partial rest others p part next =
    not_remains p next.0 others None next.1 (subst (λ (t : List ℕ). IsPartial t) next.2 part)

-- a header stands where octets stop
long_by : (rest : List ℕ) (f : PduFault) → StopsBy rest f → header_size ≤ length rest
long_by rest f (by_head h) = h.0
long_by rest f (by_body f_is whole more e fault) = omega (arith, ap length e, length-append whole more, fault.0)

pub stop_long : (rest : List ℕ) (f : PduFault) → IsStop rest f → header_size ≤ length rest
stop_long rest f stop = long_by rest f (stops_by rest f stop)

pub next_shorter : (rest others : List ℕ) (p : Pdu) → IsNext rest p others → length others < length rest
next_shorter rest others p next = omega (arith, ap length next.2, length-append next.0 others, pdu_long p next.0 next.1)

-- octets that came, or didn't for want of memory
pub pushed : (old new : Fed) (piece : List ℕ) (r : Result (Unit {0}) NoMemory) → OnOk r (new ≡ record { rest = old.rest ++ piece; fault = old.fault }) → OnErr r (new ≡ old)
    → HasCause old.fault old.rest → HasCause new.fault new.rest
pushed old new piece (Ok x) ok err h = rw ok (cause_stays old.fault old.rest piece h)
pushed old new piece (Err e) ok err h = rw err h
