-- The fragments of a caller's request.
use Rattle.std.proofs.Common.{ℕ, ◌+◌, ◌^◌, ◌<◌, ◌≤◌, Bool, eqb, List, length, None, sym, arith}
use Rattle.rpc_base.specs.declared.identifiers.Order.TheVariants.{Little}
use Rattle.pdu_codec.specs.Constants.{stub_offset}
use Rattle.pdu_codec.specs.Pdus.{pdu_octets, IsPdu, FitsPdu, IsWritable}
use Rattle.pdu_codec.specs.declared.pdu.RequestBody.{RequestBody}
use Rattle.pdu_codec.proofs.SizeLaws.{length-request}
use Rattle.pdu_codec.proofs.WritingLaws.{length-pdu_octets}
use Rattle.pdu_codec.proofs.AnswerLaws.{pdu_written}
use Rattle.pdu_stream.specs.Fragments.{Fragment, most_stub}
use Rattle.client_core.specs.Octets.{request_flags, request_fragment}
use Rattle.client_core.proofs.Flags.{no_object, flags_small}

-- ---- the PDU of a fragment

-- what a fragment of a request has, by its piece and what is behind it
abbrev pub body_of : ℕ → List ℕ → ℕ → RequestBody
body_of op piece later = record { alloc_hint = length piece + later; context = 0; op = op; object = None; stub = piece }

abbrev pub fragment_with : ℕ → ℕ → Bool → Bool → List ℕ → ℕ → Fragment
fragment_with id op maybe first piece later =
    record { order = Little; flags = request_flags maybe first (eqb later 0); call_id = id; part = body_of op piece later }

fits : (id op : ℕ) (maybe first : Bool) (piece : List ℕ) (later : ℕ) → id < 2 ^ 32 → op < 2 ^ 16 → length piece + later ≤ most_stub
    → FitsPdu (request_fragment id op maybe first piece later)
fits id op maybe first piece later small few short = record {
  flags = flags_small maybe first (eqb later 0);
  call_id = small;
  body = record { alloc_hint = omega (arith, short); context = omega arith; op = few; object = tt };
}

writable : (id op : ℕ) (maybe first : Bool) (piece : List ℕ) (later : ℕ) → stub_offset + length piece < 2 ^ 16 → IsWritable (request_fragment id op maybe first piece later)
writable id op maybe first piece later short =
    let p = request_fragment id op maybe first piece later in
    record {
      minor = omega arith;
      body = sym (no_object maybe first (eqb later 0));
      size = omega (arith, length-pdu_octets p, length-request Little (body_of op piece later), short);
    }

pub is_pdu : (id op : ℕ) (maybe first : Bool) (piece : List ℕ) (later : ℕ) → id < 2 ^ 32 → op < 2 ^ 16
    → length piece + later ≤ most_stub → stub_offset + length piece < 2 ^ 16
    → IsPdu (request_fragment id op maybe first piece later) (pdu_octets (request_fragment id op maybe first piece later))
is_pdu id op maybe first piece later small few short long =
    pdu_written (request_fragment id op maybe first piece later) (fits id op maybe first piece later small few short) (writable id op maybe first piece later long)
