use Rattle.std.proofs.Common.{◌≡◌, ◌∙◌, ◌+◌, length, sym, ap, arith, List}
use Rattle.rpc_base.specs.declared.identifiers.WireHandle.{WireHandle}
use Rattle.client_texts.specs.Handles as spec
use Rattle.client_texts.proofs.Index.{found, not_found}
use Rattle.client_texts.proofs.handles.Handles.place.Goals as goal

pub returns-in-Some : goal.returns-in-Some
returns-in-Some c =
    found c.self.inside.places c.self.inside.came.items c.args.wire.now c.in-Some.place.now c.self.invariant c.in-Some.ensures.value
    ∙ ap (λ (known : List WireHandle). spec.place known c.args.wire.now) c.self.view_is

pub returns-in-None : goal.returns-in-None
returns-in-None c =
    let len = c.self.inside.came.ok.0 in
    let said = c.len.ensures in
    let next : c.len.result + 1 ≡ length c.self.inside.came.items + 1 = omega (arith, len, said) in
    next
    ∙ (sym (not_found c.self.inside.places c.self.inside.came.items c.args.wire.now c.self.invariant c.in-None.ensures.value)
    ∙ ap (λ (known : List WireHandle). spec.place known c.args.wire.now) c.self.view_is)
