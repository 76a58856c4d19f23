use Rattle.std.proofs.Common.{◌≡◌, true, List, refl, sym, subst}
use Rattle.handle_model.specs.declared.entry.Outcome.{Outcome}
use Rattle.handle_model.specs.declared.entry.Said.{Said}
use Rattle.handle_model.specs.declared.entry.Entry.TheVariants.{End}
use Rattle.handle_model.specs.Journal.{suit, slots}
use Rattle.group_core.specs.Conns.{Settles}
use Rattle.world_server.specs.Servers.{seen}
use Rattle.world_server.proofs.Going.{mine_runs, mine_suit, settled}
use Rattle.world_server.proofs.server.Server.end.Goals as goal

pub end_of-rest-requires-clause-runs : goal.end_of-rest-requires-clause-runs
end_of-rest-requires-clause-runs c = mine_runs (seen c.args.self.now) c.args.call c.requires.is_whole c.requires.runs

pub end_of-rest-requires-clause-suit : goal.end_of-rest-requires-clause-suit
end_of-rest-requires-clause-suit c =
    let s = seen c.args.self.now in
    subst (λ (rs : List Outcome). suit (slots s.group c.args.call) rs ≡ true) (sym c.in_ok-given.ensures) (mine_suit s c.args.call c.args.results c.requires.is_whole c.requires.runs c.requires.suit)

pub returns : goal.returns
returns c =
    let s = seen c.args.self.now in
    let e = subst (λ (rs : List Outcome). Settles s.group (End c.args.call rs c.args.said) c.end_of-rest.result c.end_of-rest.new.group) c.in_ok-given.ensures
    (subst (λ (w : Said). Settles s.group (End c.args.call c.in_ok-given.given w) c.end_of-rest.result c.end_of-rest.new.group) c.in_ok-word.ensures c.end_of-rest.ensures.ends) in
    settled s (seen c.settle.new.self) c.end_of-rest.new.group c.requires.is_whole c.end_of-rest.ensures.sound (End c.args.call c.args.results c.args.said) c.end_of-rest.result c.settle.result refl tt e c.settle.ensures
