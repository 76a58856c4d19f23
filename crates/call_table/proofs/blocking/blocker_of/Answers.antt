use Rattle.std.proofs.Common.{◌≡◌, Some, None, sym, ◌∙◌, ap}
use Rattle.std.specs.Option.{option_or}
use Rattle.handle_model.specs.Journal.{least}
use Rattle.call_table.specs.declared.blocks.Blockers.TheVariants.{Running, WaitingBelow}
use Rattle.call_table.specs.Rows.{calls, least_running, least_waiting}
use Rattle.call_table.proofs.Sharing.{blocks_shared}
use Rattle.call_table.proofs.blocking.blocker_of.Goals as goal

pub returns-in-Some : goal.returns-in-Some
returns-in-Some c =
    let first : Some c.in-Some.other ≡ least_running c.args.slots.now c.args.rows.now.items =
    sym c.in-Some.is ∙ (c.least_blocker.ensures ∙ ap (λ rs. least (calls rs)) (blocks_shared Running c.args.slots.now c.args.rows.now.items)) in
    ap (λ o. option_or o (least_waiting c.args.slots.now c.args.call c.args.rows.now.items)) first

pub returns-in-None : goal.returns-in-None
returns-in-None c =
    let first : None ≡ least_running c.args.slots.now c.args.rows.now.items =
    sym c.in-None.is ∙ (c.least_blocker.ensures ∙ ap (λ rs. least (calls rs)) (blocks_shared Running c.args.slots.now c.args.rows.now.items)) in
    c.least_blocker-in-None.ensures
    ∙ (ap (λ rs. least (calls rs)) (blocks_shared (WaitingBelow c.args.call) c.args.slots.now c.args.rows.now.items)
    ∙ ap (λ o. option_or o (least_waiting c.args.slots.now c.args.call c.args.rows.now.items)) first)
