use Rattle.std.proofs.Common.{sym, ◌∙◌}
use Rattle.journal_reader.proofs.Heads.{no_line_without_feed, body_of_cut, text_of_cut}
use Rattle.journal_reader.proofs.next.next.Goals as goal

pub returns-in_default : goal.returns-in_default
returns-in_default g c = λ x tail fits e. no_line_without_feed g.T.Lined.body_of x tail c.args.text.now c.in_default.ensures e

pub returns-in_default-2 : goal.returns-in_default-2
returns-in_default-2 g c = λ x tail fits e.
    let cut = c.in-Some.ensures in
    let none = rw c.in_default-2.is at c.in_ok-found.ensures in
    none x fits (body_of_cut g.T.Lined.body_of x tail _ _ (c.requires x fits) cut.1 (sym e ∙ cut.0))

pub returns : goal.returns
returns g c =
    let cut = c.in-Some.ensures in
    let some = rw c.in-Some-2.is at c.in_ok-found.ensures in
    (some.0, cut.0 ∙ text_of_cut g.T.Lined.body_of c.in-Some-2.found _ _ some.1)
