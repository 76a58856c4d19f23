use Rattle.std.proofs.Common.{◌≡◌, ◌++◌, sym, subst, ap, ◌∙◌}
use Rattle.turn_lock.specs.Histories.{StartsWith}
use Rattle.turn_lock.specs.Passes.{front}
use Rattle.hub_story.specs.Passes.{Seen}
use Rattle.group_hub.specs.ShardPasses.{seen, seen_by}
use Rattle.group_hub.proofs.TurnLemmas.{merges}
use Rattle.group_hub.proofs.lock.ShardLock.join.Goals as goal

pub returns-clause-merges : goal.returns-clause-merges
returns-clause-merges c =
    let v : c.args.pass.now ≡ seen_by c.in-Some.seat = sym c.pass.view_is ∙ ap seen c.in-Some.is in
    let o : c.args.other ≡ seen_by c.in-Some-take.theirs = sym c.other.view_is ∙ ap seen (sym c.take.ensures.value ∙ c.in-Some-take.is) in
    let at = c.join.ensures in
    merges c.args.self.now.lock.table.shared.table_id c.args.self.now.boot c.args.self.now.number c.args.pass.now c.args.other (seen_by c.join.new.pass) at.told.0 c.requires.pass
    (at.pass.0 ∙ sym c.requires.pass.lock_is)
    (subst (λ (u : Seen). StartsWith (front c.join.new.pass) u.log) (sym v) at.front.0)
    (subst (λ (u : Seen). StartsWith (front c.join.new.pass) u.log) (sym o) at.front.1)
    (at.own ∙ (λ i. (sym v i).own ++ (sym o i).own))
    at.told.1 at.places.0 at.places.1 at.places.2
