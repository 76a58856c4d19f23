use Rattle.std.proofs.Common.{ℕ, ◌<◌, ◌≤◌, ◌+◌, sym, subst, ◌∙◌, arith}
use Rattle.group_hub.specs.declared.opening.Looked.{Looked}
use Rattle.group_hub.specs.Openings.{StandsSo}
use Rattle.group_hub.proofs.OpenLemmas.{one_more}
use Rattle.group_hub.proofs.hub.Hub.open_among.Goals as goal

low_number : (n b : ℕ) → n < b → b ≤ 16 → n < 16
low_number n b low high = omega arith

next_low : (a n : ℕ) → a ≤ n → a ≤ n + 1
next_low a n low = omega arith

pub returns-in-Opened-clause-looks : goal.returns-in-Opened-clause-looks
returns-in-Opened-clause-looks g c = subst (λ (x : Looked). StandsSo c.args.self.now.boot c.args.from c.loop-number.number c.args.to c.args.pass.now x c.open_at-result.new.pass) (sym c.after.ensures ∙ c.in-Opened.is)
    (one_more c.args.self.now.boot c.args.from c.loop-number.number c.args.to c.loop-number.full c.args.pass.now c.loop-number.pass c.open_at-result.new.pass c.loop-number.invariant.1 c.loop-number.invariant.2 c.loop-number-test.true
    (low_number c.loop-number.number c.args.to c.loop-number-test.true c.requires.range.1) c.open_at-result.result c.open_at-result.ensures.call)

pub returns-in-NoMemory-clause-looks : goal.returns-in-NoMemory-clause-looks
returns-in-NoMemory-clause-looks g c = subst (λ (x : Looked). StandsSo c.args.self.now.boot c.args.from c.loop-number.number c.args.to c.args.pass.now x c.open_at-result.new.pass) (sym c.after.ensures ∙ c.in-NoMemory.is)
    (one_more c.args.self.now.boot c.args.from c.loop-number.number c.args.to c.loop-number.full c.args.pass.now c.loop-number.pass c.open_at-result.new.pass c.loop-number.invariant.1 c.loop-number.invariant.2 c.loop-number-test.true
    (low_number c.loop-number.number c.args.to c.loop-number-test.true c.requires.range.1) c.open_at-result.result c.open_at-result.ensures.call)

pub loop-number-preserved : goal.loop-number-preserved
loop-number-preserved g c = (
  c.open_at-result.ensures.pass,
  subst (λ (x : Looked). StandsSo c.args.self.now.boot c.args.from c.loop-number.number c.args.to c.args.pass.now x c.open_at-result.new.pass) (sym c.after.ensures ∙ c.in-NoRoom.is)
      (one_more c.args.self.now.boot c.args.from c.loop-number.number c.args.to c.loop-number.full c.args.pass.now c.loop-number.pass c.open_at-result.new.pass c.loop-number.invariant.1 c.loop-number.invariant.2 c.loop-number-test.true
      (low_number c.loop-number.number c.args.to c.loop-number-test.true c.requires.range.1) c.open_at-result.result c.open_at-result.ensures.call),
  next_low c.args.from c.loop-number.number c.loop-number.invariant.2,
)
