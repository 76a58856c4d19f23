use Rattle.std.proofs.Common.{sym, ◌∙◌, subst, List, ℕ}
use Rattle.base_words.specs.Reads.{HasNo}
use Rattle.client_script.proofs.Parts.{no_line_without_feed, body_of_cut, text_of_cut}
use Rattle.client_script.proofs.read.next_line.Goals as goal

pub returns-in_default : goal.returns-in_default
returns-in_default c = λ l tail fits e. no_line_without_feed l tail c.args.text.now c.in_default.ensures e

pub returns-in_default-2 : goal.returns-in_default-2
returns-in_default-2 c = λ l tail fits e.
    let cut = c.in-Some.ensures in
    let body = body_of_cut l tail _ _ fits cut.1 (sym e ∙ cut.0) in
    let none = rw c.in_default-2.is at c.in_ok-line.ensures in
    none l fits.0 body.0

pub returns : goal.returns
returns c =
    let cut = c.in-Some.ensures in
    let some = rw c.in-Some-2.is at c.in_ok-line.ensures in
    ((some.0, subst (λ (b : List ℕ). HasNo 10 b) (sym some.1) cut.1), cut.0 ∙ text_of_cut c.in-Some-2.line _ _ some.1)
