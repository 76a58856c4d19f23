use Rattle.std.proofs.Common.{ℤ, ℕ, sym, subst}
use Rattle.ndr_value.specs.declared.shape.Shape.{Shape}
use Rattle.ndr_value.specs.Forms.{form, arms_of}
use Rattle.ndr_model.specs.Reading.{tag_at}
use Rattle.ndr_pointers.specs.Gives.{Gives}
use Rattle.ndr_pointers.proofs.state.Reader.tag.Goals as goal

pub returns-in-Uint-clause-exact : goal.returns-in-Uint-clause-exact
returns-in-Uint-clause-exact c =
    subst (λ (s : Shape). Gives (λ (x : ℤ × ℕ). x) c.unsigned_tag.result (tag_at c.args.self.now.order c.args.self.now.octets.now (form s) (arms_of c.args.arms.now) c.args.at))
    (sym c.in-Uint.is) (c.unsigned_tag.ensures.exact (arms_of c.args.arms.now))
