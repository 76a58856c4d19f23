use Rattle.std.proofs.Common.{◌≡◌, ℕ, length, List, take, drop, Some, None, rules, refl, sym, ap, subst, ◌∙◌}
use Rattle.pdu_codec.specs.Constants.{stub_offset}
use Rattle.pdu_stream.specs.Pieces.{piece_size, piece_at}
use Rattle.conn_asks.proofs.Responses.{place_of, few, fewer, some_room}
use Rattle.client_core.proofs.Putting.{PutSoFar, begins, next, ends}
use Rattle.client_core.proofs.requests.Request.octets.Goals as goal

pub loop-start-init : goal.loop-start-init
loop-start-init c =
    let size = piece_size c.args.most stub_offset in
    let start = begins c.args.self size c.args.stub.now (some_room c.args.most c.requires.most.0) in
    record { put = subst (λ (xs : List ℕ). PutSoFar c.args.self size 0 (length c.args.stub.now) xs c.args.stub.now) (sym c.in_ok-octets.ensures.items) start }

pub overflow_sub-left : goal.overflow_sub-left
overflow_sub-left c =
    let size = piece_size c.args.most stub_offset in
    let stub = c.args.stub.now in
    let at : piece_at size (length stub) c.loop-start.k ≡ Some (c.in-Some.start, c.in-Some.size) = search rules in
    (next c.args.self size c.loop-start.k c.loop-start.left c.loop-start.octets.items stub (take c.in-Some.size (drop c.in-Some.start stub)) (c.in-Some.start, c.in-Some.size) at refl c.loop-start.invariant.put).enough

pub loop-start-smaller : goal.loop-start-smaller
loop-start-smaller c =
    let size = piece_size c.args.most stub_offset in
    let stub = c.args.stub.now in
    let at : piece_at size (length stub) c.loop-start.k ≡ Some (c.in-Some.start, c.in-Some.size) = search rules in
    fewer (length stub) c.loop-start.k (few size (length stub) c.loop-start.k (c.in-Some.start, c.in-Some.size) (some_room c.args.most c.requires.most.0) (place_of size (length stub) c.loop-start.k (c.in-Some.start, c.in-Some.size) at))

pub loop-start-preserved : goal.loop-start-preserved
loop-start-preserved c =
    let size = piece_size c.args.most stub_offset in
    let stub = c.args.stub.now in
    let at : piece_at size (length stub) c.loop-start.k ≡ Some (c.in-Some.start, c.in-Some.size) = search rules in
    let part = c.split_at-in-Some.result.0.now in
    let is : part ≡ take c.in-Some.size (drop c.in-Some.start stub) = c.split_at-in-Some.ensures.front ∙ ap (take c.in-Some.size) c.split_at.ensures.back in
    let on = next c.args.self size c.loop-start.k c.loop-start.left c.loop-start.octets.items stub part (c.in-Some.start, c.in-Some.size) at is c.loop-start.invariant.put in
    record { put = on.goes_on c.put_fragment.new.into.items c.in_ok-put_fragment.ensures }

pub returns : goal.returns
returns c =
    let size = piece_size c.args.most stub_offset in
    let stub = c.args.stub.now in
    let at : piece_at size (length stub) c.loop-start.k ≡ None = search rules in
    rw c.from_vec.ensures (ends c.args.self size c.loop-start.k c.loop-start.left c.loop-start.octets.items stub at c.loop-start.invariant.put)
