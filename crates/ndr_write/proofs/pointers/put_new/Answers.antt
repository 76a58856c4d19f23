use Rattle.std.proofs.Common.{[], ◌∷◌, ◌++◌, map, ap, sym, ◌∙◌}
use Rattle.ndr_write.specs.Views.{behind_of}
use Rattle.ndr_write.proofs.Chains.{item_more}
use Rattle.ndr_write.proofs.pointers.put_new.Goals as goal

pub returns : goal.returns
returns c =
    item_more c.args.writer.now.order c.args.out.now.octets.items c.number.new.into.items c.args.out.now.count _ c.args.out.now.items.items c.push.new.self.items (map behind_of c.args.behind.now.items) (map behind_of c.put_behind.new.behind.items) _
    (c.from.ensures ∙ c.next_id-id.ensures c.args.out.now.items.items) c.in_ok-number.ensures (c.in_ok-push.ensures.items ∙ ap (λ k. c.args.out.now.items.items ++ k ∷ []) (sym c.from.ensures)) c.in_ok-put_behind.ensures
