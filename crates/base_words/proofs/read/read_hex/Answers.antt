use Rattle.std.proofs.Common.{sym, ◌∙◌, inl, inr}
use Rattle.std.proofs.lemmas.Bool.{false≢true}
use Rattle.base_words.proofs.Hexadecimal.{decodes, decodes_marks, decoded}
use Rattle.base_words.proofs.read.read_hex.Goals as goal

pub returns-then-not-are_hex_marks : goal.returns-then-not-are_hex_marks
returns-then-not-are_hex_marks c = λ xs bytes e.
    false≢true (sym c.if-not-are_hex_marks.true ∙ (c.are_hex_marks.ensures ∙ decodes_marks xs c.args.text.now bytes e))

pub returns-in-Ok : goal.returns-in-Ok
returns-in-Ok c =
    rw c.from_vec.ensures (decoded c.in-Ok.octets.items c.args.text.now (sym c.are_hex_marks.ensures ∙ c.if-not-are_hex_marks.false) c.in-Ok.ensures.ok)

pub returns-in_ok-unless_memory-in-Err : goal.returns-in_ok-unless_memory-in-Err
returns-in_ok-unless_memory-in-Err c = λ xs bytes e.
    let read = decodes xs c.args.text.now bytes e in
    elim c.in-Err.ensures.err [ inl o ↦ c.in_ok-unless_memory-in-Err.ensures o | inr f ↦ cc ]
