use Rattle.std.proofs.Common.{◌∙◌, sym, arith}
use Rattle.journal_reader.proofs.Wires.{wire_parts, wire_joined, rest_of}
use Rattle.journal_reader.proofs.part.read_wire.Goals as goal

pub returns-then-text-lt8 : goal.returns-then-text-lt8
returns-then-text-lt8 c = λ w fits e. let h = wire_parts w c.args.text.now e in let short = c.if-text-lt8.true in let long = h.long in absurd (omega arith)

pub returns-in_err-attributes : goal.returns-in_err-attributes
returns-in_err-attributes c = rw c.from_residual.ensures (λ w fits e.
    let h = wire_parts w c.args.text.now e in
    c.in_err-attributes.ensures w.attributes fits.0 h.front)

pub returns-in_err-id : goal.returns-in_err-id
returns-in_err-id c = rw c.from_residual-in_err-id.ensures (λ w fits e.
    let h = wire_parts w c.args.text.now e in
    c.in_err-id.ensures w.id fits.1 (h.back ∙ sym (rest_of c.args.text.now)))

pub returns : goal.returns
returns c =
    let front = c.in_ok-attributes.ensures in
    let back = c.in_ok-id.ensures in
    ((front.0, back.0), wire_joined c.in_ok-attributes.attributes c.in_ok-id.id c.args.text.now front.1 (back.1 ∙ rest_of c.args.text.now))
