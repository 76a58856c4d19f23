use Rattle.std.proofs.Common.{◌≡◌, ℕ, ◌≤◌, ◌^◌, List, ◌++◌, length, ap, ◌∙◌, arith}
use Rattle.rpc_base.specs.declared.identifiers.Order.TheVariants.{Little}
use Rattle.ndr_model.specs.Written.{stub}
use Rattle.ndr_agree.specs.Views.{types_in, call_of}
use Rattle.ndr_codec.proofs.Fitting.{no_told}
use Rattle.ndr_codec.proofs.fit.fits_call.Goals as goal

pub returns-clause-exact : goal.returns-clause-exact
returns-clause-exact c =
    let k = call_of c.args.call.now in
    let octets = stub (types_in c.args.call.now) k.op k.way Little k.asked k.said in
    let e : c.as_slice.result.now ≡ octets = c.as_slice.ensures.value ∙ c.in_ok-write.ensures.ok ∙ ap (λ (xs : List ℕ). xs ++ octets) c.new-octets.ensures.items in
    let short : length c.as_slice.result.now ≤ 2 ^ 31 = grind (arith, c.if-len-gt-IDS_SUFFICE.false, c.len.ensures, c.as_slice.ensures.len, c.as_slice.ensures.value) in
    no_told (types_in c.args.call.now) k.op k.way Little k.asked k.said c.as_slice.result.now c.in_ok-is_stub_of.field-0 e c.if-branch.false c.in_ok-is_stub_of.ensures.exact short
