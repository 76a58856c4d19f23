use Rattle.client_core.specs.States.{told}
use Rattle.client_script.proofs.Telling.{was_added}
use Rattle.client_script.proofs.player.line_of.Goals as goal

pub unreachable-requires : goal.unreachable-requires
unreachable-requires c =
    was_added c.args.known.now c.args.name (told c.args.told.now) c.in_ok-put_answer.field-0 _ _ c.requires c.if-branch.false c.in_ok-put_answer.ensures
