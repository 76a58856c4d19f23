use Rattle.std.proofs.Common.{◌≡◌, ◌∙◌, ◌∷◌, ◌++◌, [], ap, arith}
use Rattle.std.proofs.lemmas.Grind.{common_steps}
use Rattle.ndr_value.specs.Forms.{form}
use Rattle.ndr_pointers.specs.Known.{mets}
use Rattle.ndr_pointers.proofs.Indexes.{index_more, mets_more}
use Rattle.ndr_pointers.proofs.referents.Referents.add.Goals as goal

pub invariant_of-self-in-Ok : goal.invariant_of-self-in-Ok
invariant_of-self-in-Ok c =
    let old = c.args.self.now in
    let e : mets c.push.new.self.items ≡ mets old.met.items ++ (c.args.id, form c.args.shape.now) ∷ [] = ap mets c.in_ok-push.ensures.items ∙ mets_more old.met.items (record { id = c.args.id; shape = c.args.shape }) in
    record {
      indexed = rw e (index_more old.index c.insert.new.self (mets old.met.items) c.args.id c.len-number.result (form c.args.shape.now) old.indexed c.requires c.len-number.ensures (grind (arith, common_steps, c.if-number.false, old.indexed.few, c.len-number.ensures)) c.in-Ok.ensures.updates);
    }
