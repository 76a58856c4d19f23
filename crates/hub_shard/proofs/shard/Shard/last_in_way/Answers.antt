use Rattle.std.proofs.Common.{◌≡◌, ◌∙◌, ap, List, slice_index_or}
use Rattle.call_table.specs.Ahead.{last_ahead}
use Rattle.hub_story.specs.Directories.{index_of}
use Rattle.hub_shard.specs.declared.shard.Listed.{Listed}
use Rattle.hub_shard.specs.Shards.{ShardView, unlisted, listed_at}
use Rattle.hub_shard.proofs.TellLemmas.{any_default}
use Rattle.hub_shard.proofs.shard.Shard.last_in_way.Goals as goal

pub returns : goal.returns
returns c =
    let groups = ap (λ (z : ShardView). z.groups) c.self.view_is in
    let there : c.index-listed.result.now ≡ listed_at c.args.self.now (index_of c.args.group) =
    c.index-listed.ensures ∙ ((λ k. slice_index_or (groups k) (c.index_of.ensures k) c.index-listed.result.now) ∙ any_default c.args.self.now.groups (index_of c.args.group) c.index-listed.result.now unlisted c.requires.1) in
    c.last_ahead.ensures ∙ ap (λ (l : Listed). last_ahead l.group c.args.call) there
