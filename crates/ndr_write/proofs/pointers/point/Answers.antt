use Rattle.std.proofs.Common.{◌≡◌, [], ◌∷◌, ◌++◌, length, map, ap, sym, ◌∙◌, refl}
use Rattle.std.proofs.lemmas.List.{map-append, append-nil}
use Rattle.ndr_model.specs.Pieces.{number}
use Rattle.ndr_write.specs.Views.{behind_of}
use Rattle.ndr_write.proofs.Chains.{pointed_more}
use Rattle.ndr_write.proofs.pointers.point.Goals as goal

pub returns : goal.returns
returns c =
    pointed_more c.args.writer.now.order c.args.out.now.octets.items c.number.new.into.items c.args.out.now.count _ c.args.out.now.items.items (map behind_of c.args.behind.now.items) (map behind_of c.push.new.self.items) (behind_of c.args.pending)
    (c.from.ensures ∙ c.next_id.ensures c.args.out.now.items.items) c.in_ok-number.ensures (ap (map behind_of) c.in_ok-push.ensures.items ∙ map-append behind_of c.args.behind.now.items (c.args.pending ∷ []))
