use Rattle.std.proofs.Common.{refl}
use Rattle.std.specs.Prelude.{⊤}
use Rattle.replay_groups.proofs.BindLaws.{kept, bound}
use Rattle.replay_groups.proofs.realm.Realm.bind.Goals as goal

pub bind-requires : goal.bind-requires
bind-requires c = kept c.args.self.now (λ w. ⊤) c.requires

pub returns : goal.returns
returns c =
    let old = c.args.self.now in
    bound old (record old { groups = c.bind.new.groups }) refl refl c.args.asked c.bind.result c.bind.ensures.binds
