use Rattle.replay_groups.proofs.realm.Realm.counts.Goals as goal

pub returns : goal.returns
returns c = λ echo w h. c.counts.ensures w.groups h.keeps
