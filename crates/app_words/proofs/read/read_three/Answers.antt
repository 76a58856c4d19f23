use Rattle.std.proofs.Common.{◌∙◌, arith, inl}
use Rattle.app_words.specs.Texts.{two_text}
use Rattle.app_words.proofs.Parts.{parts, no_parts}
use Rattle.app_words.proofs.read.read_three.Goals as goal

pub returns-in_err-number : goal.returns-in_err-number
returns-in_err-number c = rw c.from_residual.ensures (λ x fits e. no_parts 46 x.0 (two_text x.1) c.args.text.now c.in_err-number.ensures e)

pub returns-in_err-number-2 : goal.returns-in_err-number-2
returns-in_err-number-2 c = rw c.from_residual-in_err-number-2.ensures (λ x fits e.
    let cut = c.in_ok-number.ensures in
    let two = parts 46 x.0 (two_text x.1) c.in_ok-number.number.now c.in_ok-number.rest.now (inl (omega arith)) fits.0 cut.1 (e ∙ cut.0) in
    c.in_err-number-2.ensures x.0 fits.0 two.0)

pub returns-in_err-tail : goal.returns-in_err-tail
returns-in_err-tail c = rw c.from_residual-in_err-tail.ensures (λ x fits e.
    let cut = c.in_ok-number.ensures in
    let two = parts 46 x.0 (two_text x.1) c.in_ok-number.number.now c.in_ok-number.rest.now (inl (omega arith)) fits.0 cut.1 (e ∙ cut.0) in
    c.in_err-tail.ensures x.1 fits.1 two.1)
