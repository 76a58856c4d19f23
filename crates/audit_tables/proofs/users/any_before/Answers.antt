use Rattle.std.proofs.Common.{rules, refl}
use Rattle.audit_tables.proofs.Using.{in_range, out_of_range}
use Rattle.audit_tables.proofs.users.any_before.Goals as goal

pub returns-in-Some : goal.returns-in-Some
returns-in-Some c =
    let first = rw c.in-Some.ensures.steps at (c.range.ensures.in_range (search rules)).1 in
    (λ _. in_range c.args.users.now c.args.wire c.args.call c.in-Some.field-0.now first.0 first.1, λ _. refl)

pub returns-in-None : goal.returns-in-None
returns-in-None c = (
  λ t. absurd (cc),
  λ b. absurd (out_of_range c.args.users.now c.args.wire c.args.call ((c.range.ensures.in_range (search rules)).5 c.in-None.ensures.steps.0) b),
)
