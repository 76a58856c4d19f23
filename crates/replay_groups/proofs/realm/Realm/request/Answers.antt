use Rattle.std.proofs.Common.{◌≡◌, ℕ, List, Err, ap, sym, subst, ◌∙◌}
use Rattle.std.proofs.lemmas.Bool.Decides.{eqb_tells}
use Rattle.server_calls.specs.Suited.{ComesTo}
use Rattle.manager_api.specs.Served.{tables_in}
use Rattle.replay_groups.proofs.Requesting.{refused, other_status}
use Rattle.replay_groups.proofs.realm.Realm.request.Goals as goal

pub returns-in-Err : goal.returns-in-Err
returns-in-Err c =
    let old = c.args.self.now in
    refused old c.args.member c.args.joined c.args.iface c.in-Err.status
    (subst (λ (octets : List ℕ). ComesTo (tables_in old.served) c.args.iface c.args.joined.op c.args.joined.order octets (Err c.in-Err.status)) c.as_slice-stub.ensures
    (subst (λ r. ComesTo (tables_in old.served) c.args.iface c.args.joined.op c.args.joined.order c.as_slice-stub.result.now r) c.in-Err.is c.slots_of.ensures))
    (other_status c.in-Err.status (sym c.eq.ensures ∙ c.if-eq.false))
