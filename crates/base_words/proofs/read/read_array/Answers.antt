use Rattle.std.proofs.Common.{sym, ◌∙◌}
use Rattle.std.proofs.lemmas.Bool.{false≢true}
use Rattle.base_words.proofs.Hexadecimal.{decodes_marks, read_sized}
use Rattle.base_words.proofs.read.read_array.Goals as goal

pub returns-then-not-are_hex_marks : goal.returns-then-not-are_hex_marks
returns-then-not-are_hex_marks g c = λ xs fits e.
    false≢true (sym c.if-not-are_hex_marks.true ∙ (c.are_hex_marks.ensures ∙ decodes_marks xs c.args.text.now fits.0 e))

pub returns : goal.returns
returns g c =
    read_sized g.row.N c.args.text.now c.from_hex.result c.ok.result (sym c.are_hex_marks.ensures ∙ c.if-not-are_hex_marks.false) c.from_hex.ensures c.ok.ensures.value
