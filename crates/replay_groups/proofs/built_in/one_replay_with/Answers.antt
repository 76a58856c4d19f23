use Rattle.replay_groups.proofs.built_in.one_replay_with.Goals as goal

pub returns : goal.returns
returns c = λ echo e. c.one_replay.ensures echo (c.is_determined.ensures echo e)
