use Rattle.std.proofs.Common.{◌≡◌, ◌≤◌, ℕ, not, sym, ap, subst, arith}
use Rattle.handle_model.proofs.Tests.{and_left}
use Rattle.hub_story.specs.Directories.{is_opened_id, is_retired_id}
use Rattle.hub_story.specs.Histories.{marks_in}
use Rattle.hub_shard.specs.Shards.{Has}
use Rattle.hub_shard.specs.Retirings.{RetiresAs}
use Rattle.hub_shard.proofs.TellLemmas.{opened_has}
use Rattle.hub_shard.proofs.RetireLemmas.{open_some, acts_retire}
use Rattle.hub_shard.proofs.retiring.RetireAct.act.Goals as goal

pub retire-requires-clause-there : goal.retire-requires-clause-there
retire-requires-clause-there c =
    subst (λ (n : ℕ). Has c.args.shard.now n) (sym c.key.view_is)
    (opened_has c.args.shard.now c.requires.0 c.args.self.key c.requires.1
    (and_left (is_opened_id (marks_in c.requires.0) c.args.self.key) (not (is_retired_id (marks_in c.requires.0) c.args.self.key)) c.requires.2.0))

pub retire-requires-clause-open : goal.retire-requires-clause-open
retire-requires-clause-open c = let some = open_some c.args.shard.now c.requires.0 c.args.self.key c.requires.1 c.requires.2.0 in omega (arith, some)

pub returns : goal.returns
returns c = λ log t o.
    acts_retire c.args.self c.args.shard.now c.retire.new.self log (record { group = c.key.inside.group }) t o.0 o.1
    (subst (λ (n : ℕ). RetiresAs c.args.shard.now n c.retire.new.self) c.key.view_is c.retire.ensures) (λ i. record { group = c.key.view_is i })
