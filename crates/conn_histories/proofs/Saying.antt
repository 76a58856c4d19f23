-- Whatever a call's end says, there are octets for it.
use Rattle.std.proofs.Common.{ℕ, ◌<◌, ◌≤◌, Bool, true, false, List, [], Option, Some, None, refl, arith}
use Rattle.handle_model.specs.declared.entry.Said.{Said}
use Rattle.handle_model.specs.declared.entry.Said.TheVariants.{Out, Fault}
use Rattle.pdu_codec.specs.Constants.{stub_offset, least_fragment}
use Rattle.pdu_codec.specs.Pdus.{pdu_octets}
use Rattle.pdu_stream.specs.Pieces.{piece_size}
use Rattle.pdu_stream.proofs.Covers.{pieces_cover}
use Rattle.conn_asks.specs.declared.events.Caller.{Caller}
use Rattle.conn_asks.specs.Answers.{FitsStub, Replies, fault, response_octets}

some_room : (most : ℕ) → least_fragment ≤ most → 0 < piece_size most stub_offset
some_room most wide = omega (arith, wide)

pub each_reply : (c : Caller) (most : ℕ) (maybe executed : Bool) (said : Option Said) → least_fragment ≤ most → FitsStub said → (octets : List ℕ) × Replies c most maybe executed said octets
each_reply c most true executed said wide fits = ([], refl)
each_reply c most false executed None wide fits = ([], refl)
each_reply c most false executed (Some (Fault status)) wide fits = (pdu_octets (fault c executed status), refl)
each_reply c most false executed (Some (Out stub)) wide fits =
    let p = pieces_cover (piece_size most stub_offset) stub (some_room most wide) in
    (response_octets c true p.0, (p.0, p.1, refl))
