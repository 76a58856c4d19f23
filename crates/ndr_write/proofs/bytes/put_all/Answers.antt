use Rattle.std.proofs.Common.{◌≡◌, ap, sym, ◌∙◌, arith}
use Rattle.ndr_write.specs.Views.{given_of, behind_of, piece_of}
use Rattle.ndr_write.proofs.Chains.{piece}
use Rattle.ndr_write.proofs.Steps.{none_written, all_written}
use Rattle.std.proofs.Common.{map}
use Rattle.ndr_write.proofs.bytes.put_all.Goals as goal

pub returns-then-fuel-eq0 : goal.returns-then-fuel-eq0
returns-then-fuel-eq0 c = λ types order call body b. none_written types order call c.args.fuel body c.args.octets.now (piece_of c.args.out.now b) c.if-fuel-eq0.true

pub returns : goal.returns
returns c = λ types order call body b.
    ap (λ xs. piece xs (given_of c.args.out.now) (map behind_of b)) c.in_ok-extend_from_slice.ensures.items
    ∙ all_written types order call c.args.fuel body c.args.octets.now (piece_of c.args.out.now b) c.if-fuel-eq0.false (λ i. omega (arith, c.type_inv.octets i))
