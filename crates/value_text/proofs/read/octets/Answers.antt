use Rattle.std.proofs.Common.{◌∙◌, ℕ, List, ap, sym, subst}
use Rattle.std.proofs.lemmas.Result.{err_from_is_err_and}
use Rattle.ndr_value.specs.Forms.{types_of}
use Rattle.value_text.specs.Reading.{Found, byte_at, items_at, in_array}
use Rattle.value_text.specs.Gives.{Fails}
use Rattle.value_text.proofs.Parts.{read_bytes, array_fails}
use Rattle.value_text.proofs.read.octets.Goals as goal

pub returns-in_err-octets : goal.returns-in_err-octets
returns-in_err-octets c =
    let p = err_from_is_err_and c.from_residual.result c.from_residual.ensures.1 in
    let e = c.in_err-octets.field-0.0 in
    let same = read_bytes (types_of c.args.reader.now.types.now) c.args.room c.args.level c.if-room-eq0.false in
    rw (p.1, p.2) (subst (λ (go : List ℕ → Found). Fails e (in_array (items_at go c.args.kind.now c.args.text.now))) same (array_fails e (items_at byte_at c.args.kind.now c.args.text.now) c.in_err-octets.ensures))

pub returns : goal.returns
returns c =
    let same = read_bytes (types_of c.args.reader.now.types.now) c.args.room c.args.level c.if-room-eq0.false in
    sym (ap (λ (go : List ℕ → Found). in_array (items_at go c.args.kind.now c.args.text.now)) same) ∙ ap in_array c.in_ok-octets.ensures
