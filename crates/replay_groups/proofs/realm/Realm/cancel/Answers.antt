use Rattle.std.proofs.Common.{refl}
use Rattle.std.specs.Prelude.{⊤}
use Rattle.group_core.specs.Calls.{Cancels}
use Rattle.replay_groups.proofs.BindLaws.{kept}
use Rattle.replay_groups.proofs.Moving.{goes}
use Rattle.replay_groups.proofs.realm.Realm.cancel.Goals as goal

pub goes_on-requires : goal.goes_on-requires
goes_on-requires c = kept c.args.self.now (λ w. ⊤) c.requires

pub returns : goal.returns
returns c =
    let old = c.args.self.now in
    goes old (record old { groups = c.cancel.new.self }) c.args.member.group refl (λ j l. Cancels j c.args.call c.cancel.result l) c.cancel.ensures refl
