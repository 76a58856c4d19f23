use Rattle.std.proofs.Common.{ℕ, List, ◌++◌, refl, sym, ap, ◌∙◌}
use Rattle.ndr_value.specs.Values.{msg}
use Rattle.call_world.proofs.Lines.{started, unbound, busy, untaken}
use Rattle.call_world.proofs.line.Line.start.Goals as goal

pub returns-then-not-is_bound : goal.returns-then-not-is_bound
returns-then-not-is_bound c = λ table. unbound c.args.op (msg c.args.message.now) c.args.self.now (sym c.is_bound.ensures ∙ c.if-not-is_bound.true)

pub returns-then-is_calling : goal.returns-then-is_calling
returns-then-is_calling c = λ table. busy c.args.op (msg c.args.message.now) c.args.self.now (sym c.is_calling.ensures ∙ c.if-is_calling.true)

pub returns-then-not-branch : goal.returns-then-not-branch
returns-then-not-branch c =
    λ table. untaken c.args.op (msg c.args.message.now) c.args.self.now (λ m. (let f = sym (c.in_ok-takes.ensures.1 m) ∙ c.if-not-branch.true in absurd cc))

pub start-requires-clause-bound : goal.start-requires-clause-bound
start-requires-clause-bound c = sym c.is_bound.ensures ∙ c.if-not-is_bound.false

pub start-requires-clause-free : goal.start-requires-clause-free
start-requires-clause-free c = sym c.is_calling.ensures ∙ c.if-is_calling.false

pub start-requires-clause-message : goal.start-requires-clause-message
start-requires-clause-message c = c.in_ok-takes.ensures.0 c.if-not-branch.false

pub returns-in_ok-extend_from_slice-in-Ok : goal.returns-in_ok-extend_from_slice-in-Ok
returns-in_ok-extend_from_slice-in-Ok c =
    λ table. started table c.args.op (msg c.args.message.now) c.args.self.now _ c.in-Ok.octets (sym c.is_bound.ensures ∙ c.if-not-is_bound.false) (sym c.is_calling.ensures ∙ c.if-is_calling.false) (c.in_ok-takes.ensures.0 c.if-not-branch.false)
    c.in-Ok.ensures.calls c.in-Ok.ensures.rest c.in-Ok.ensures.fates (c.in_ok-extend_from_slice-in-Ok.ensures.items ∙ ap (λ (o : List ℕ). c.args.self.now.up.items ++ o) c.as_slice.ensures) refl
