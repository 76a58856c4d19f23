use Rattle.std.proofs.Common.{◌≡◌, ◌<◌, ◌++◌, ◌∙◌, refl, sym, subst, ap, ℕ, List, length, IsSomeAnd}
use Rattle.turn_lock.specs.Histories.{times, places}
use Rattle.turn_lock.specs.Steps.{MayAdd}
use Rattle.turn_lock.specs.Passes.{front, own}
use Rattle.turn_lock.proofs.AddingLemmas.{may_add}
use Rattle.hub_story.specs.declared.item.Item.{Item}
use Rattle.hub_story.specs.Ties.{ties}
use Rattle.hub_shard.specs.declared.shard.Shard.{Shard}
use Rattle.hub_shard.specs.Shards.{ShardView, Told, Acted}
use Rattle.group_hub.specs.ShardPasses.{seen_by}
use Rattle.group_hub.specs.Turns.{Ran}
use Rattle.group_hub.proofs.TurnLemmas.{Entered, entered, same_items, enters}
use Rattle.group_hub.proofs.lock.ShardLock.run_on.Goals as goal

pub act-answer-requires : goal.act-answer-requires
act-answer-requires g c =
    let at = c.enter-held.ensures in
    let log = front c.enter-held.result.pass in
    let told : Told c.value.result.now log = subst (λ o. IsSomeAnd o (λ x. Told x log)) c.value.ensures.value at.value in
    let e = entered c.args.self.now.boot c.args.self.now.number (seen_by c.args.seat) log c.value.result.now c.requires.begins at.front at.own.1 at.own.2 at.own.3 told in
    (log, e.told, subst (λ (b : ℕ). g.A.Act.asks c.args.act b log) (sym e.boot_is) (c.requires.asks log e.met))

pub commit-requires-clause-adds : goal.commit-requires-clause-adds
commit-requires-clause-adds g c =
    let at = c.enter-held.ensures in
    let log = front c.enter-held.result.pass in
    let told : Told c.value.result.now log = subst (λ o. IsSomeAnd o (λ x. Told x log)) c.value.ensures.value at.value in
    let e = entered c.args.self.now.boot c.args.self.now.number (seen_by c.args.seat) log c.value.result.now c.requires.begins at.front at.own.1 at.own.2 at.own.3 told in
    let did = c.act-answer.ensures log e.told (subst (λ (b : ℕ). g.A.Act.asks c.args.act b log) (sym e.boot_is) (c.requires.asks log e.met)) in
    let gives = subst (λ (b : ℕ). g.A.Act.gives c.args.act b c.args.self.now.number log c.act-answer.result.0 did.more) e.boot_is (subst (λ (s : ℕ). g.A.Act.gives c.args.act c.value.result.now.boot s log c.act-answer.result.0 did.more) e.number_is did.gives) in
    let tied = c.requires.ties log c.act-answer.result.0 did.more e.met gives in
    subst (λ n. MayAdd Told ties c.enter-held.result.pass.me.0 c.act-answer.new.shard n) did.count
    (may_add Told ties c.enter-held.result.pass.me.0 c.act-answer.new.shard did.more did.told
    (λ k i there p t. subst (λ o. 0 < times p (o ++ places (length log) (length did.more))) (sym at.own.0) (tied k i there p t)))

pub returns-clause-call : goal.returns-clause-call
returns-clause-call g c =
    let at = c.enter-held.ensures in
    let log = front c.enter-held.result.pass in
    let told : Told c.value.result.now log = subst (λ o. IsSomeAnd o (λ x. Told x log)) c.value.ensures.value at.value in
    let e = entered c.args.self.now.boot c.args.self.now.number (seen_by c.args.seat) log c.value.result.now c.requires.begins at.front at.own.1 at.own.2 at.own.3 told in
    let did = c.act-answer.ensures log e.told (subst (λ (b : ℕ). g.A.Act.asks c.args.act b log) (sym e.boot_is) (c.requires.asks log e.met)) in
    let gives = subst (λ (b : ℕ). g.A.Act.gives c.args.act b c.args.self.now.number log c.act-answer.result.0 did.more) e.boot_is (subst (λ (s : ℕ). g.A.Act.gives c.args.act c.value.result.now.boot s log c.act-answer.result.0 did.more) e.number_is did.gives) in
    let adds = c.commit.ensures.adds in
    record {
      between = at.front.0;
      more = did.more;
      gives = subst (λ l. g.A.Act.gives c.args.act c.args.self.now.boot c.args.self.now.number l c.act-answer.result.0 did.more) at.front.1 gives;
      entered = adds.0;
      same = same_items c.act-answer.new.shard log did.more adds.0 did.told adds.2 (adds.1 ∙ sym did.count) did.newest;
      enters = enters c.args.self.now.boot c.args.self.now.number (seen_by c.args.seat) (seen_by c.exit.result) c.enter-held.result.pass.me.0 c.commit.new.self.pass.me.0 c.act-answer.new.shard c.act-answer.result.1 at.front.0 at.front.1 e.met at.own.0
          c.exit.ensures.front c.exit.ensures.own (c.exit.ensures.pass.0 ∙ (c.commit.ensures.lock ∙ (at.lock ∙ sym c.requires.pass.0))) adds;
    }
