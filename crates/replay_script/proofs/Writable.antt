-- The PDUs of a load can be written.
use Rattle.std.proofs.Common.{◌≡◌, ℕ, ◌<◌, List, [], ◌∷◌, ◌++◌, length, refl, arith}
use Rattle.std.specs.List.{flat_map}
use Rattle.std.proofs.lemmas.List.{length-append}
use Rattle.rpc_base.specs.Fields.{FitsSyntax, u16_octets, u32_octets, syntax_octets, handle_octets}
use Rattle.rpc_base.specs.declared.identifiers.WireHandle.{WireHandle}
use Rattle.rpc_base.proofs.FieldLaws.{wide16, wide32, length-syntax_octets, length-handle_octets}
use Rattle.rpc_base.specs.declared.identifiers.Order.TheVariants.{Little}
use Rattle.pdu_codec.specs.declared.pdu.Body.TheVariants.{Bind, CoCancel}
use Rattle.pdu_codec.specs.declared.pdu.BindBody.{BindBody}
use Rattle.pdu_codec.specs.declared.pdu.Element.{Element}
use Rattle.pdu_codec.specs.Constants.{most_fragment, header_size}
use Rattle.pdu_codec.specs.Pdus.{pdu_octets, element_octets, zeros_3, IsWritable}
use Rattle.pdu_codec.proofs.SizeLaws.{length-bind, plain_writable}
use Rattle.pdu_codec.proofs.WritingLaws.{length-pdu_octets}
use Rattle.presentation.specs.Serving.{ndr}
use Rattle.replay_script.specs.Sending.{probe, sent}

abbrev pub offer : Element
offer = record { context = 0; syntax = probe; transfers = ndr ∷ [] }

abbrev pub bind_body : ℕ → BindBody
bind_body group = record { max_xmit = most_fragment; max_recv = most_fragment; group = group; elements = offer ∷ [] }

fits_probe : FitsSyntax probe
fits_probe = record { id = refl; major = omega arith; minor = omega arith }

fits_ndr : FitsSyntax ndr
fits_ndr = record { id = refl; major = omega arith; minor = omega arith }

element_length : length (element_octets Little 0 offer) ≡ 44
unfolding element_octets
element_length =
    let c = u16_octets Little 0 in
    let s = syntax_octets Little probe in
    let t = syntax_octets Little ndr in
    omega (arith, length-append c (1 ∷ 0 ∷ (s ++ (t ++ []))), length-append s (t ++ []), length-append t [], wide16.len Little 0, length-syntax_octets Little probe fits_probe, length-syntax_octets Little ndr fits_ndr)

elements_length : length (flat_map (element_octets Little 0) (offer ∷ [])) ≡ 44
elements_length = omega (arith, length-append (element_octets Little 0 offer) [], element_length)

pub bind_writable : (group : ℕ) → IsWritable (sent 1 (Bind (bind_body group)))
bind_writable group =
    let p = sent 1 (Bind (bind_body group)) in
    record {
      minor = omega arith;
      body = (omega arith, (omega arith, tt));
      size = omega (arith, length-pdu_octets p, length-bind Little zeros_3 (flat_map (element_octets Little 0) (offer ∷ [])) [] (bind_body group), elements_length);
    }

pub cancel_writable : (call : ℕ) → IsWritable (sent call CoCancel)
cancel_writable call = plain_writable (sent call CoCancel) (omega arith) tt refl

pub number_short : (number : ℕ) → length (u32_octets Little number) < 100
number_short number = omega (arith, wide32.len Little number)

pub handle_short : (handle : WireHandle) → length (handle_octets Little handle) < 100
handle_short handle = omega (arith, length-handle_octets Little handle)
