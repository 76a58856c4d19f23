-- A stream of octets as PDUs, one after the other, and what follows them. Each PDU takes as many octets as its
-- header says (C706, "Connection-oriented RPC PDUs", common fields).
use Rattle.std.specs.Prelude.{◌≡◌, ℕ, ◌<◌, ◌≤◌, List, [], ◌∷◌, ◌++◌, length, take, Option, Some, None, Result, Ok, Err, ◌⊎◌, ⊤}
use Rattle.pdu_codec.specs.Constants.{header_size}
use Rattle.pdu_codec.specs.declared.pdu.Pdu.{Pdu}
use Rattle.pdu_codec.specs.declared.fault.PduFault.{PduFault}
use Rattle.pdu_codec.specs.declared.fault.PduFault.TheVariants as faults
use Rattle.pdu_codec.specs.Pdus.{IsPdu, AreSpelled}
use Rattle.pdu_codec.specs.Faults.{frag_length, IsHeadFault, IsFault}
use Rattle.pdu_stream.specs.declared.cut.Cut.{Cut}

-- The octets begin with a header that has no fault.
pub record HasHead (octets : List ℕ) : Type 0 where
  pub long : header_size ≤ length octets
  pub sound : (fault : PduFault) → IsHeadFault None octets fault → ⊥

-- The octets may still become a PDU: they end within a header, or its header has no fault and says more octets.
abbrev pub IsPartial : List ℕ → Type 0
IsPartial rest = (length rest < header_size) ⊎ (HasHead rest × (length rest < frag_length rest))

-- a header stands in front, and the fault is its first one
abbrev pub HeadStops : List ℕ → PduFault → Type 0
HeadStops rest fault = (header_size ≤ length rest) × IsHeadFault None rest fault

-- The octets begin with a fault: that of a header as soon as all of it stands, that of a body where all octets
-- of its PDU do. Want of memory has no cause in the octets.
abbrev pub IsStop : List ℕ → PduFault → Type 0
IsStop rest faults.Version = HeadStops rest faults.Version
IsStop rest faults.Kind = HeadStops rest faults.Kind
IsStop rest faults.Length = HeadStops rest faults.Length
IsStop rest faults.Auth = HeadStops rest faults.Auth
IsStop rest faults.Characters = HeadStops rest faults.Characters
IsStop rest faults.Body = (whole : List ℕ) × (more : List ℕ) × (rest ≡ whole ++ more) × IsFault whole faults.Body
IsStop rest faults.Memory = ⊥

-- what may follow the PDUs of a stream, with or without a fault
abbrev pub Remains : List ℕ → Option PduFault → Type 0
Remains rest None = IsPartial rest
Remains rest (Some fault) = IsStop rest fault

-- The stream is these PDUs, and then a rest that begins with no further one.
pub record IsCut (stream : List ℕ) (cut : Cut) : Type 0 where
  pub front : List ℕ
  pub whole : stream ≡ front ++ cut.rest
  pub pdus : AreSpelled IsPdu cut.pdus front
  pub remains : Remains cut.rest cut.fault

-- The cut leaves so many octets after the whole PDUs.
abbrev pub LeavesUncut : List ℕ → ℕ → Type 0
LeavesUncut octets count = (cut : Cut) × IsCut octets cut × (count ≡ length cut.rest)

-- ---- a stream that comes in pieces

-- The octets that came and weren't given as PDUs, and the fault that was answered.
pub record Fed : Type 0 where
  pub rest : List ℕ
  pub fault : Option PduFault

-- The octets are a PDU's, and then others.
abbrev pub IsNext : List ℕ → Pdu → List ℕ → Type 0
IsNext octets p others = (front : List ℕ) × IsPdu p front × (octets ≡ front ++ others)

-- what stands at the front of octets: a PDU of so many of them, the beginning of one, or a fault, unless memory ran
-- out
abbrev pub IsFront : List ℕ → Result (Option (Pdu × ℕ)) PduFault → Type 0
IsFront octets (Ok (Some found)) = (found.1 ≤ length octets) × IsPdu found.0 (take found.1 octets)
IsFront octets (Ok None) = IsPartial octets
IsFront octets (Err fault) = IsStop octets fault ⊎ (fault ≡ faults.Memory)

-- A fault that was answered is answered again. Else it is that of the octets, or memory ran out.
abbrev pub IsCause : Fed → PduFault → Type 0
IsCause old fault = (old.fault ≡ Some fault) ⊎ ((old.fault ≡ None) × (IsStop old.rest fault ⊎ (fault ≡ faults.Memory)))

-- The next PDU is given, or there is none yet, or a fault.
abbrev pub GivesNext : Fed → Result (Option Pdu) PduFault → Fed → Type 0
GivesNext old (Ok (Some p)) new = (old.fault ≡ None) × IsNext old.rest p new.rest × (new.fault ≡ None)
GivesNext old (Ok None) new = (old.fault ≡ None) × IsPartial old.rest × (new ≡ old)
GivesNext old (Err fault) new = IsCause old fault × (new ≡ record { rest = old.rest; fault = Some fault })

-- ---- the stream so far, whatever the pieces in which it came

-- A fault that was answered is that of the octets, or memory ran out.
abbrev pub IsAnswered : List ℕ → Option PduFault → Type 0
IsAnswered rest None = ⊤
IsAnswered rest (Some fault) = IsStop rest fault ⊎ (fault ≡ faults.Memory)

-- Of the stream so far these PDUs were given, and the octets after them are held.
pub record HasGiven (stream : List ℕ) (given : List Pdu) (fed : Fed) : Type 0 where
  pub front : List ℕ
  pub spelled : AreSpelled IsPdu given front
  pub whole : stream ≡ front ++ fed.rest
  pub cause : IsAnswered fed.rest fed.fault

-- The answer is what the cut has after the PDUs given: a further one, nothing yet, or its fault, unless memory ran
-- out.
abbrev pub TellsNext : Cut → List Pdu → Result (Option Pdu) PduFault → Type 0
TellsNext cut given (Ok (Some p)) = (later : List Pdu) × (cut.pdus ≡ given ++ p ∷ later)
TellsNext cut given (Ok None) = (cut.pdus ≡ given) × (cut.fault ≡ None)
TellsNext cut given (Err fault) = ((cut.pdus ≡ given) × (cut.fault ≡ Some fault)) ⊎ (fault ≡ faults.Memory)

-- the PDUs given with an answer
abbrev pub with_answer : List Pdu → Result (Option Pdu) PduFault → List Pdu
with_answer given (Ok (Some p)) = given ++ p ∷ []
with_answer given (Ok None) = given
with_answer given (Err fault) = given

-- Wherever these PDUs of the stream were given, the next answer is what the cut has after them.
abbrev pub NextIsOfCut : List ℕ → List Pdu → Cut → Type 0
NextIsOfCut stream given cut =
    (old new : Fed) (answer : Result (Option Pdu) PduFault) → HasGiven stream given old → GivesNext old answer new → TellsNext cut given answer

-- Wherever these PDUs of the stream were given, those given with the next answer are of the stream too.
abbrev pub NextGoesOn : List ℕ → List Pdu → Type 0
NextGoesOn stream given =
    (old new : Fed) (answer : Result (Option Pdu) PduFault) → HasGiven stream given old → GivesNext old answer new
    → HasGiven stream (with_answer given answer) new

-- PDUs are taken from the front of what is fed, and added to those before, until none is whole or a fault comes.
pub record TakesPdus (old : Fed) (before : List Pdu) (fault : Option PduFault) (new : Fed) (after : List Pdu) : Type 0 where
  pub front : List ℕ
  pub pdus : List Pdu
  pub spelled : AreSpelled IsPdu pdus front
  pub whole : old.rest ≡ front ++ new.rest
  pub added : after ≡ before ++ pdus
  pub said_fault : new.fault ≡ fault
  pub remains : Remains new.rest fault

-- Of the stream so far, these PDUs were taken, and the rest is held, with or without a fault.
pub record IsCutSoFar (stream : List ℕ) (given : List Pdu) (fed : Fed) (fault : Option PduFault) : Type 0 where
  pub front : List ℕ
  pub spelled : AreSpelled IsPdu given front
  pub whole : stream ≡ front ++ fed.rest
  pub said_fault : fed.fault ≡ fault
  pub remains : Remains fed.rest fault
