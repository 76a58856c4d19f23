-- Fragments of requests and responses.
use Rattle.std.specs.Prelude.{ℕ, List, None}
use Rattle.pdu_codec.specs.declared.pdu.Pdu.{Pdu}
use Rattle.pdu_codec.specs.declared.pdu.Body.{Body}
use Rattle.pdu_codec.specs.declared.pdu.Body.TheVariants.{Request, Response}
use Rattle.pdu_codec.specs.declared.fragments.FragmentHead.{FragmentHead}

abbrev fragment_with : FragmentHead → Body → Pdu
fragment_with f body = record { minor = 0; flags = f.flags; order = f.order; call_id = f.call_id; body = body }

-- a request's fragment, with no object
abbrev pub request_pdu : FragmentHead → ℕ → List ℕ → Pdu
request_pdu f op stub = fragment_with f (Request (record { alloc_hint = f.alloc_hint; context = f.context; op = op; object = None; stub = stub }))

-- a response's fragment, with no cancels
abbrev pub response_pdu : FragmentHead → List ℕ → Pdu
response_pdu f stub = fragment_with f (Response (record { alloc_hint = f.alloc_hint; context = f.context; cancel_count = 0; stub = stub }))
