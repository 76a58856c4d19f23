use Rattle.std.proofs.Common.{◌≡◌, ℕ, ◌+◌, ◌<◌, true, Option, Some, length, sym, ap, subst, ◌∙◌, arith}
use Rattle.call_world.specs.declared.line.Line.{Line as Wire}
use Rattle.call_world.specs.Rows.{is_lesser}
use Rattle.call_world.proofs.Places.{LeastBefore, least_new, least_old, least_none, least_some, read_same}
use Rattle.call_world.proofs.finding.least.Goals as goal
use Rattle.call_world.proofs.finding.least.Goals.{then-is_lesser, else-is_lesser}

pub loop-at-preserved : goal.loop-at-preserved
loop-at-preserved c =
    let ts = c.args.lines.now in
    let i = c.loop-at.at in
    let o = c.loop-at.least in
    let lt : i < length ts = omega arith in
    elim c.if-is_lesser.branch [
      | then-is_lesser w ↦
          let t = w.index-lines-at-then-is_lesser.result in
          let same = read_same ts i c.index-lines-at.result t lt c.index-lines-at.is w.index-lines-at-then-is_lesser.is in
          let lesser = subst (λ (z : Wire). is_lesser o z ≡ true) same (sym c.is_lesser.ensures ∙ w.if-is_lesser.true) in
          let same_now = ap (λ (z : Wire). let q : Option (ℕ × ℕ) = Some (z.name, i) in q) w.index-lines-at-then-is_lesser.is ∙ sym w.least-is in
          subst (λ (q : Option (ℕ × ℕ)). LeastBefore ts q (i + 1)) same_now (least_new ts i t lt w.index-lines-at-then-is_lesser.is o c.loop-at.invariant lesser)
      | else-is_lesser w ↦
          subst (λ (q : Option (ℕ × ℕ)). LeastBefore ts q (i + 1)) (sym w.least-is)
          (least_old ts i c.index-lines-at.result lt c.index-lines-at.is o c.loop-at.invariant (sym c.is_lesser.ensures ∙ w.if-is_lesser.false))
    ]

pub returns-in-None : goal.returns-in-None
returns-in-None c =
    let ts = c.args.lines.now in
    least_none ts c.loop-at.at (subst (λ (q : Option (ℕ × ℕ)). LeastBefore ts q c.loop-at.at) c.in-None.is c.loop-at.invariant) (omega arith)

pub returns-in-Some : goal.returns-in-Some
returns-in-Some c =
    let ts = c.args.lines.now in
    least_some ts c.in-Some.field-0-0 c.in-Some.at c.loop-at.at (subst (λ (q : Option (ℕ × ℕ)). LeastBefore ts q c.loop-at.at) c.in-Some.is c.loop-at.invariant) (omega arith)
