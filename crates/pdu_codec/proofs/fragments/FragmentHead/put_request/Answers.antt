use Rattle.pdu_codec.proofs.FragmentLaws.{request_put}
use Rattle.pdu_codec.proofs.fragments.FragmentHead.put_request.Goals as goal

pub returns-clause-ok : goal.returns-clause-ok
returns-clause-ok c =
    request_put c.args.self c.args.op c.args.stub.now c.args.into.now.items c.put_head.new.into.items c.put_request.new.into.items c.head.result
    c.head.ensures c.in_ok-put_head.ensures.ok c.in_ok-put_request.ensures.ok
