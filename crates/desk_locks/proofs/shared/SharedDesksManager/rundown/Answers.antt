use Rattle.std.proofs.Common.{◌≡◌, ◌∙◌, refl, sym, ap, subst, is_some}
use Rattle.desk_told.specs.Deeds.{ran_down}
use Rattle.desk_told.specs.Desks as told
use Rattle.desk_locks.specs.declared.pass.SharedPass.{SharedPass}
use Rattle.desk_locks.specs.Keepers.{Place, place_for}
use Rattle.desk_locks.specs.Passes.{probe_may, probe_downs, store_may, store_downs, map_may, map_downs, ProbeDoes, StoreDoes, MapDoes}
use Rattle.desk_locks.specs.Rundowns.{RanAt}
use Rattle.desk_locks.proofs.shared.SharedDesksManager.rundown.Goals as goal

pub run_down-requires : goal.run_down-requires
run_down-requires g c = record { pass = subst (λ d. told.IsPassOf probe_may probe_downs d c.args.pass.probe) (sym c.in-Probe.ensures.own) c.requires.probe }

pub returns-in-Probe-clause-pass : goal.returns-in-Probe-clause-pass
returns-in-Probe-clause-pass g c = record {
  probe = subst (λ d. told.IsPassOf probe_may probe_downs d c.run_down.result) c.in-Probe.ensures.own c.run_down.ensures.pass;
  store = c.requires.store;
  endpoints = c.requires.endpoints;
}

pub returns-in-Probe-clause-runs_down : goal.returns-in-Probe-clause-runs_down
returns-in-Probe-clause-runs_down g c =
    let after : SharedPass = record { probe = c.run_down.result; store = c.args.pass.store; endpoints = c.args.pass.endpoints } in
    let did : ProbeDoes c.args.self.now c.args.pass (ran_down c.args.due) after = record {
      does = subst (λ d. told.Does probe_may probe_downs d c.args.pass.probe (ran_down c.args.due) c.run_down.result) c.in-Probe.ensures.own c.run_down.ensures.done;
      store = refl;
      endpoints = refl;
    } in
    subst (λ (at : Place). RanAt at c.args.self.now c.args.pass c.args.due after) (c.in-Probe.ensures.place ∙ ap (place_for (is_some c.args.self.now.echo)) c.kind.ensures) did

pub run_down-requires-in-Store : goal.run_down-requires-in-Store
run_down-requires-in-Store g c = record { pass = subst (λ d. told.IsPassOf store_may store_downs d c.args.pass.store) (sym c.in-Store.ensures.own) c.requires.store }

pub returns-in-Store-clause-pass : goal.returns-in-Store-clause-pass
returns-in-Store-clause-pass g c = record {
  store = subst (λ d. told.IsPassOf store_may store_downs d c.run_down-in-Store.result) c.in-Store.ensures.own c.run_down-in-Store.ensures.pass;
  probe = c.requires.probe;
  endpoints = c.requires.endpoints;
}

pub returns-in-Store-clause-runs_down : goal.returns-in-Store-clause-runs_down
returns-in-Store-clause-runs_down g c =
    let after : SharedPass = record { probe = c.args.pass.probe; store = c.run_down-in-Store.result; endpoints = c.args.pass.endpoints } in
    let did : StoreDoes c.args.self.now c.args.pass (ran_down c.args.due) after = record {
      does = subst (λ d. told.Does store_may store_downs d c.args.pass.store (ran_down c.args.due) c.run_down-in-Store.result) c.in-Store.ensures.own c.run_down-in-Store.ensures.done;
      probe = refl;
      endpoints = refl;
    } in
    subst (λ (at : Place). RanAt at c.args.self.now c.args.pass c.args.due after) (c.in-Store.ensures.place ∙ ap (place_for (is_some c.args.self.now.echo)) c.kind.ensures) did

pub run_down-requires-in-Endpoints : goal.run_down-requires-in-Endpoints
run_down-requires-in-Endpoints g c = record { pass = subst (λ d. told.IsPassOf map_may map_downs d c.args.pass.endpoints) (sym c.in-Endpoints.ensures.own) c.requires.endpoints }

pub returns-in-Endpoints-clause-pass : goal.returns-in-Endpoints-clause-pass
returns-in-Endpoints-clause-pass g c = record {
  endpoints = subst (λ d. told.IsPassOf map_may map_downs d c.run_down-in-Endpoints.result) c.in-Endpoints.ensures.own c.run_down-in-Endpoints.ensures.pass;
  probe = c.requires.probe;
  store = c.requires.store;
}

pub returns-in-Endpoints-clause-runs_down : goal.returns-in-Endpoints-clause-runs_down
returns-in-Endpoints-clause-runs_down g c =
    let after : SharedPass = record { probe = c.args.pass.probe; store = c.args.pass.store; endpoints = c.run_down-in-Endpoints.result } in
    let did : MapDoes c.args.self.now c.args.pass (ran_down c.args.due) after = record {
      does = subst (λ d. told.Does map_may map_downs d c.args.pass.endpoints (ran_down c.args.due) c.run_down-in-Endpoints.result) c.in-Endpoints.ensures.own c.run_down-in-Endpoints.ensures.done;
      probe = refl;
      store = refl;
    } in
    subst (λ (at : Place). RanAt at c.args.self.now c.args.pass c.args.due after) (c.in-Endpoints.ensures.place ∙ ap (place_for (is_some c.args.self.now.echo)) c.kind.ensures) did
