use Rattle.ndr_value.specs.Forms.{form, types_of}
use Rattle.client_texts.proofs.Lists.{item_none}
use Rattle.client_texts.proofs.items.read_item.Goals as goal

pub returns-in_ok-unless_memory-in-Err : goal.returns-in_ok-unless_memory-in-Err
returns-in_ok-unless_memory-in-Err c =
    item_none (types_of c.args.types.now.items) (form c.args.shape.now) c.args.first c.args.text.now c.in-Some.text.now c.in-Some.ensures
    (c.in-Err.ensures.none c.in_ok-unless_memory-in-Err.ensures)
