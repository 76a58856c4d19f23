-- The PDUs that the connections of a load send, each in one fragment, little-endian.
use Rattle.std.specs.Prelude.{ℕ, List, [], ◌∷◌, length}
use Rattle.rpc_base.specs.declared.identifiers.Order.TheVariants.{Little}
use Rattle.rpc_base.specs.declared.identifiers.SyntaxId.{SyntaxId}
use Rattle.rpc_base.specs.declared.identifiers.WireHandle.{WireHandle}
use Rattle.rpc_base.specs.Fields.{u32_octets, handle_octets}
use Rattle.pdu_codec.specs.declared.pdu.Pdu.{Pdu}
use Rattle.pdu_codec.specs.declared.pdu.Body.{Body}
use Rattle.pdu_codec.specs.declared.pdu.Body.TheVariants.{Bind, CoCancel}
use Rattle.pdu_codec.specs.declared.fragments.FragmentHead.{FragmentHead}
use Rattle.pdu_codec.specs.Constants.{only_frag, most_fragment}
use Rattle.pdu_codec.specs.Pdus.{pdu_octets}
use Rattle.pdu_codec.specs.Fragments.{request_pdu}
use Rattle.presentation.specs.Serving.{ndr}

-- the interface of the probe, 5f0c7a12-3b4d-4e6f-8a90-b1c2d3e4f506 version 1.0
abbrev pub probe : SyntaxId
probe = record { id = 0x5f ∷ 0x0c ∷ 0x7a ∷ 0x12 ∷ 0x3b ∷ 0x4d ∷ 0x4e ∷ 0x6f ∷ 0x8a ∷ 0x90 ∷ 0xb1 ∷ 0xc2 ∷ 0xd3 ∷ 0xe4 ∷ 0xf5 ∷ 0x06 ∷ []; major = 1; minor = 0 }

abbrev pub sent : ℕ → Body → Pdu
sent call body = record { minor = 0; flags = only_frag; order = Little; call_id = call; body = body }

-- a bind with call id 1, to the group of that id, with one context, that of the probe over NDR
abbrev pub bind_of : ℕ → List ℕ
bind_of group =
    pdu_octets (sent 1 (Bind (record {
      max_xmit = most_fragment;
      max_recv = most_fragment;
      group = group;
      elements = (record { context = 0; syntax = probe; transfers = ndr ∷ [] }) ∷ [];
    })))

abbrev pub cancel_of : ℕ → List ℕ
cancel_of call = pdu_octets (sent call CoCancel)

-- a whole request for an operation of the probe
abbrev pub request_of : ℕ → ℕ → List ℕ → List ℕ
request_of call op stub =
    pdu_octets (request_pdu (record { flags = only_frag; order = Little; call_id = call; alloc_hint = length stub; context = 0 }) op stub)

-- probe_open of a number, and probe_close of a handle
abbrev pub issue_of : ℕ → ℕ → List ℕ
issue_of call number = request_of call 0 (u32_octets Little number)

abbrev pub close_of : ℕ → WireHandle → List ℕ
close_of call handle = request_of call 1 (handle_octets Little handle)
