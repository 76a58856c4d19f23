use Rattle.pdu_codec.proofs.FragmentLaws.{response_put}
use Rattle.pdu_codec.proofs.fragments.FragmentHead.put_response.Goals as goal

pub returns-clause-ok : goal.returns-clause-ok
returns-clause-ok c =
    response_put c.args.self c.args.stub.now c.args.into.now.items c.put_head.new.into.items c.put_response.new.into.items c.head.result
    c.head.ensures c.in_ok-put_head.ensures.ok c.in_ok-put_response.ensures.ok
