use Rattle.std.proofs.Common.{◌≡◌, ◌+◌, length, false, sym, subst, arith, List}
use Rattle.rpc_base.specs.declared.identifiers.WireHandle.{WireHandle}
use Rattle.client_texts.specs.Handles.{is_among}
use Rattle.client_texts.proofs.Index.{index_more}
use Rattle.client_texts.proofs.handles.Handles.add.Goals as goal

pub invariant_of-self-in-Ok : goal.invariant_of-self-in-Ok
invariant_of-self-in-Ok c =
    let len = c.self.inside.came.ok.0 in
    let said = c.len-count.ensures in
    let next : c.len-count.result + 1 ≡ length c.self.inside.came.items + 1 = omega (arith, len, said) in
    let other = subst (λ (known : List WireHandle). is_among known c.args.wire.now ≡ false) (sym c.self.view_is) c.requires in
    rw c.in_ok-push.ensures.items
    (index_more c.self.inside.places c.insert.new.self c.self.inside.came.items c.args.wire.now (c.len-count.result + 1) c.self.invariant other next c.in-Ok.ensures.updates)
