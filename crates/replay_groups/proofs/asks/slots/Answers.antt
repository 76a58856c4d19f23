use Rattle.std.proofs.Common.{true, ◌≡◌, ◌||◌, ap, sym, subst, ◌∙◌}
use Rattle.handle_model.specs.History.{History}
use Rattle.handle_model.specs.Journal.{runs, waits, slots}
use Rattle.replay_groups.proofs.Asking.{slots_told, open_call_at}
use Rattle.replay_groups.proofs.asks.slots.Goals as goal

pub slots-requires : goal.slots-requires
slots-requires c =
    subst (λ (j : History). (waits j c.args.call || runs j c.args.call) ≡ true) (sym c.group_of.ensures)
    (open_call_at c.args.groups.now c.args.id c.args.call c.requires.there c.requires.open_call)

pub returns : goal.returns
returns c = λ pasts k o.
    c.slots.ensures ∙ ap (λ (j : History). slots j c.args.call) c.group_of.ensures ∙ slots_told c.args.groups.now c.args.id c.args.call c.requires.there pasts k o
