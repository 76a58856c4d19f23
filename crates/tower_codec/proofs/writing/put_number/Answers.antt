use Rattle.tower_codec.proofs.WritingLaws.{number_put}
use Rattle.tower_codec.proofs.writing.put_number.Goals as goal

pub returns-clause-ok : goal.returns-clause-ok
returns-clause-ok c = number_put c.args.protocol c.args.value c.args.order c.args.into.now.items c.put_u16.new.into.items c.put.new.into.items c.put_u16-2.new.into.items c.put_u16-3.new.into.items
    c.in_ok-put_u16.ensures.ok c.in_ok-put.ensures.ok c.in_ok-put_u16-2.ensures.ok c.in_ok-put_u16-3.ensures.ok
