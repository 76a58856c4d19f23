use Rattle.std.proofs.Common.{subst, Err}
use Rattle.group_core.specs.Conns.{Joins}
use Rattle.hub_shard.specs.Shards.{listed_at}
use Rattle.hub_shard.proofs.FindLemmas.{unopened_from, retired_from, acts_miss, acts_shut_at, acts_join, acts_many, acts_numbers}
use Rattle.hub_shard.proofs.find.FindAct.act.Goals as goal

pub index-requires : goal.index-requires
index-requires c = c.requires.1.small

pub returns-in_default : goal.returns-in_default
returns-in_default c = λ log t o. acts_miss c.args.self c.args.shard.now c.miss.new.shard log t c.miss.result.0 c.miss.result.1 (unopened_from c.args.shard.now log c.args.self.id t c.in_default.ensures) c.miss.ensures

pub returns-in-Retired : goal.returns-in-Retired
returns-in-Retired c = λ log t o.
    let at = c.in-Some.ensures in
    acts_miss c.args.self c.args.shard.now c.miss-in-Retired.new.shard log t c.miss-in-Retired.result.0 c.miss-in-Retired.result.1 (retired_from c.args.shard.now log c.in-Some.at c.args.self.id t at.0 at.1 c.in-Retired.ensures) c.miss-in-Retired.ensures

pub returns-in-Shut : goal.returns-in-Shut
returns-in-Shut c = λ log t o.
    let at = c.in-Some.ensures in
    let is = c.in-Shut.ensures in
    acts_shut_at c.args.self c.args.shard.now c.args.shard.now log c.in-Some.at t at.0 at.1 c.in-Shut.entries is.0 is.1 is.2

pub returns-in-Ok : goal.returns-in-Ok
returns-in-Ok c = λ log t o.
    let at = c.in-Some.ensures in
    let live = c.in-Open.ensures in
    let d = c.in-Ok.ensures in
    acts_join c.args.self c.args.shard.now c.join.new.self log c.in-Some.at t at.0 at.1 c.in-Ok.conn d.0 live.0 live.1 d.1 d.2

pub returns-in-Err-TooMany : goal.returns-in-Err-TooMany
returns-in-Err-TooMany c = λ log t o.
    let at = c.in-Some.ensures in
    let live = c.in-Open.ensures in
    let d = c.in-Err-TooMany.ensures in
    let did = subst (λ r. Joins (listed_at c.args.shard.now c.in-Some.at).group (Err r) d.0.group) c.in-Err-TooMany.field-0-is d.2 in
    acts_many c.args.self c.args.shard.now c.join.new.self log c.in-Some.at t at.0 at.1 d.0 live.0 live.1 d.1 did

pub returns-in-Err-Numbers : goal.returns-in-Err-Numbers
returns-in-Err-Numbers c = λ log t o.
    let at = c.in-Some.ensures in
    let live = c.in-Open.ensures in
    let d = c.in-Err-Numbers.ensures in
    let did = subst (λ r. Joins (listed_at c.args.shard.now c.in-Some.at).group (Err r) d.0.group) c.in-Err-Numbers.field-0-is d.2 in
    acts_numbers c.args.self c.args.shard.now c.join.new.self log c.in-Some.at t at.0 at.1 d.0 live.0 live.1 d.1 did
