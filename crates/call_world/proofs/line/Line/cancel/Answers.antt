use Rattle.std.proofs.Common.{ℕ, List, ◌++◌, refl, sym, ap, ◌∙◌}
use Rattle.call_world.proofs.Lines.{cancelled, not_out}
use Rattle.call_world.proofs.line.Line.cancel.Goals as goal

pub returns-then-not-is_calling : goal.returns-then-not-is_calling
returns-then-not-is_calling c = λ table. not_out c.args.self.now (sym c.is_calling.ensures ∙ c.if-not-is_calling.true)

pub cancel-requires : goal.cancel-requires
cancel-requires c = sym c.is_calling.ensures ∙ c.if-not-is_calling.false

pub returns : goal.returns
returns c =
    λ table. cancelled table c.args.self.now _ c.in_ok-octets.octets (sym c.is_calling.ensures ∙ c.if-not-is_calling.false) c.in_ok-octets.ensures.cancels c.in_ok-octets.ensures.same (c.in_ok-extend_from_slice.ensures.items ∙ ap (λ (o : List ℕ). c.args.self.now.up.items ++ o) c.as_slice.ensures) refl
