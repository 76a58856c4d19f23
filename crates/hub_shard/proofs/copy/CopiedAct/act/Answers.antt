use Rattle.std.proofs.Common.{refl, Some, None, Ok}
use Rattle.hub_shard.specs.Copies.{gives_copy}
use Rattle.hub_shard.proofs.TellLemmas.{acted_none}
use Rattle.hub_shard.proofs.FindLemmas.{unopened_id, opened_from, kept_there}
use Rattle.hub_shard.proofs.copy.CopiedAct.act.Goals as goal

pub index-requires : goal.index-requires
index-requires c = c.requires.1.small

pub returns-in-None : goal.returns-in-None
returns-in-None c = λ log t o.
    acted_none c.args.shard.now log (gives_copy c.args.self c.args.shard.now.boot c.args.shard.now.number log (Ok None)) t (unopened_id c.args.shard.now log c.args.self.id t c.in-None.ensures, refl)

pub returns-in-Ok : goal.returns-in-Ok
returns-in-Ok c = λ log t o.
    let at = c.in-Some.ensures in
    acted_none c.args.shard.now log (gives_copy c.args.self c.args.shard.now.boot c.args.shard.now.number log (Ok (Some c.in-Ok.journal))) t
    (opened_from c.args.shard.now log c.in-Some.at c.args.self.id t at.0 at.1, kept_there c.args.shard.now log c.in-Some.at c.args.self.id c.in-Ok.journal.base c.in-Ok.journal.entries t at.0 at.1 c.in-Ok.ensures, refl)
