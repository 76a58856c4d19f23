use Rattle.std.proofs.Common.{◌≡◌, ◌++◌, drop}
use Rattle.journal_text.specs.Texts.{tail_text}
use Rattle.journal_text.proofs.part.put_tail.Given as goal

-- with the texts of what is left, it is all
abbrev pub invariant-loop-item : goal.invariant-loop-item
invariant-loop-item g l =
    l.into.items ++ tail_text g.T.Text.text (drop l.item-index l.items) ≡ l.initial.into.items ++ tail_text g.T.Text.text l.items
