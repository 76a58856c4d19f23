use Rattle.std.proofs.Common.{◌≡◌, true, refl}
use Rattle.handle_model.specs.Journal.{is_open}
use Rattle.handle_model.specs.declared.entry.Entry.TheVariants.{Leave}
use Rattle.replay_world.specs.Worlds.{journal}
use Rattle.replay_groups.proofs.BindLaws.{kept}
use Rattle.replay_groups.proofs.Moving.{known_groups, settles}
use Rattle.replay_groups.proofs.realm.Realm.leave.Goals as goal

pub goes_on-requires : goal.goes_on-requires
goes_on-requires c = kept c.args.self.now (λ w. is_open (journal w c.args.member.group) c.args.member.number ≡ true) c.requires

pub leave-rest-requires-clause-is_open : goal.leave-rest-requires-clause-is_open
leave-rest-requires-clause-is_open c = known_groups c.args.self.now c.args.member.group (λ j. is_open j c.args.member.number ≡ true) c.requires

pub returns : goal.returns
returns c =
    let old = c.args.self.now in
    settles old (record old { groups = c.leave-rest.new.self; desks = c.settle.new.desks }) c.args.member.group refl (Leave c.args.member.number) c.leave-rest.result c.leave-rest.ensures c.settle.ensures.down c.settle.ensures.echo
