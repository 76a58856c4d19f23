use Rattle.std.proofs.Common.{◌∙◌, arith, inl, sym, refl}
use Rattle.app_words.specs.Texts.{three_text}
use Rattle.app_words.proofs.Parts.{parts, no_parts, both, whole, begins}
use Rattle.app_words.proofs.read.read_address.Goals as goal

pub returns-in_err-first : goal.returns-in_err-first
returns-in_err-first c = rw c.from_residual.ensures (λ x fits e.
    let b = begins x fits in no_parts 46 b.first (three_text b.others) c.args.text.now c.in_err-first.ensures (sym b.text ∙ e))

pub returns-in_err-first-2 : goal.returns-in_err-first-2
returns-in_err-first-2 c = rw c.from_residual-in_err-first-2.ensures (λ x fits e.
    let b = begins x fits in
    let cut = c.in_ok-first.ensures in
    let two = parts 46 b.first (three_text b.others) c.in_ok-first.first.now c.in_ok-first.rest.now (inl (omega arith)) b.small cut.1 (sym b.text ∙ (e ∙ cut.0)) in
    c.in_err-first-2.ensures b.first b.small two.0)

pub returns-in_err-second : goal.returns-in_err-second
returns-in_err-second c = rw c.from_residual-in_err-second.ensures (λ x fits e.
    let b = begins x fits in
    let cut = c.in_ok-first.ensures in
    let two = parts 46 b.first (three_text b.others) c.in_ok-first.first.now c.in_ok-first.rest.now (inl (omega arith)) b.small cut.1 (sym b.text ∙ (e ∙ cut.0)) in
    c.in_err-second.ensures b.others b.fit two.1)

pub returns : goal.returns
returns c =
    let one = c.in_ok-first-2.ensures in
    let three = c.in_ok-second.ensures in
    let cut = c.in_ok-first.ensures in (
      (refl, (one.0, (three.0.0, (three.0.1.0, (three.0.1.1.0, tt)))), three.0.1.1.1),
      whole _ _ _ _ _ ∙ both 46 c.in_ok-first-2.first _ c.in_ok-first.first.now c.in_ok-first.rest.now c.args.text.now cut.0 one.1 three.1,
    )
