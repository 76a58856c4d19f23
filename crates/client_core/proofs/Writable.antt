-- What a caller sends can be written.
use Rattle.std.proofs.Common.{◌≡◌, ℕ, [], ◌∷◌, ◌++◌, length, refl, arith}
use Rattle.std.specs.List.{flat_map}
use Rattle.std.proofs.lemmas.List.{length-append}
use Rattle.rpc_base.specs.Fields.{FitsSyntax, u16_octets, syntax_octets}
use Rattle.rpc_base.specs.declared.identifiers.SyntaxId.{SyntaxId}
use Rattle.rpc_base.proofs.FieldLaws.{wide16, length-syntax_octets}
use Rattle.rpc_base.specs.declared.identifiers.Order.TheVariants.{Little}
use Rattle.pdu_codec.specs.declared.pdu.BindBody.{BindBody}
use Rattle.pdu_codec.specs.declared.pdu.Element.{Element}
use Rattle.pdu_codec.specs.Constants.{most_fragment}
use Rattle.pdu_codec.specs.Pdus.{element_octets, zeros_3, IsWritable}
use Rattle.pdu_codec.proofs.SizeLaws.{length-bind, plain_writable}
use Rattle.pdu_codec.proofs.WritingLaws.{length-pdu_octets}
use Rattle.presentation.specs.Serving.{ndr}
use Rattle.client_core.specs.Octets.{offer, bind_pdu, alter_pdu, co_cancel}

pub fits_ndr : FitsSyntax ndr
fits_ndr = record { id = refl; major = omega arith; minor = omega arith }

abbrev one_offer : SyntaxId → ℕ → Element
one_offer syntax context = record { context = context; syntax = syntax; transfers = ndr ∷ [] }

element_length : (syntax : SyntaxId) (context : ℕ) → FitsSyntax syntax → length (element_octets Little 0 (one_offer syntax context)) ≡ 44
unfolding element_octets
element_length syntax context fits =
    let c = u16_octets Little context in
    let s = syntax_octets Little syntax in
    let t = syntax_octets Little ndr in
    omega (arith, length-append c (1 ∷ 0 ∷ (s ++ (t ++ []))), length-append s (t ++ []), length-append t [], wide16.len Little context, length-syntax_octets Little syntax fits, length-syntax_octets Little ndr fits_ndr)

elements_length : (syntax : SyntaxId) (context : ℕ) → FitsSyntax syntax → length (flat_map (element_octets Little 0) (offer syntax context)) ≡ 44
elements_length syntax context fits = omega (arith, length-append (element_octets Little 0 (one_offer syntax context)) [], element_length syntax context fits)

abbrev offering : SyntaxId → ℕ → ℕ → BindBody
offering syntax context group = record { max_xmit = most_fragment; max_recv = most_fragment; group = group; elements = offer syntax context }

pub bind_writable : (syntax : SyntaxId) (group : ℕ) → FitsSyntax syntax → IsWritable (bind_pdu syntax group)
bind_writable syntax group fits =
    let p = bind_pdu syntax group in
    record {
      minor = omega arith;
      body = (omega arith, (omega arith, tt));
      size = omega (arith, length-pdu_octets p, length-bind Little zeros_3 (flat_map (element_octets Little 0) (offer syntax 0)) [] (offering syntax 0 group), elements_length syntax 0 fits);
    }

pub alter_writable : (id : ℕ) (syntax : SyntaxId) (context : ℕ) → FitsSyntax syntax → IsWritable (alter_pdu id syntax context)
alter_writable id syntax context fits =
    let p = alter_pdu id syntax context in
    record {
      minor = omega arith;
      body = (omega arith, (omega arith, tt));
      size = omega (arith, length-pdu_octets p, length-bind Little zeros_3 (flat_map (element_octets Little 0) (offer syntax context)) [] (offering syntax context 0), elements_length syntax context fits);
    }

pub cancel_writable : (id : ℕ) → IsWritable (co_cancel id)
cancel_writable id = plain_writable (co_cancel id) (omega arith) tt refl
