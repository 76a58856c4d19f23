use Rattle.std.proofs.Common.{◌∙◌, List, [], ◌∷◌, ◌++◌, ap, sym, subst}
use Rattle.mpx_asks.specs.declared.open_calls.OpenCall.{OpenCall}
use Rattle.mpx_asks.specs.Open.{AreOpen}
use Rattle.mpx_asks.proofs.Apart.{open_more}
use Rattle.mpx_asks.proofs.open_calls.OpenCalls.add.Goals as goal

pub invariant_of-self-2 : goal.invariant_of-self-2
invariant_of-self-2 c =
    let before : AreOpen c.args.self.now = subst (λ (x : List OpenCall). AreOpen x) c.self.view_is c.self.invariant in
    subst (λ (x : List OpenCall). AreOpen x) (sym (c.in_ok-push.ensures.items ∙ ap (λ (x : List OpenCall). x ++ c.args.call ∷ []) c.self.view_is))
    (open_more c.args.self.now c.args.call before c.requires.room c.requires.free)
