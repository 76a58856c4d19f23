use Rattle.std.proofs.Common.{◌≡◌, ◌∙◌, ℕ, ◌++◌, Ok, Some, None, ap}
use Rattle.handle_model.specs.History.{history_of}
use Rattle.hub_story.specs.Histories.{home_of}
use Rattle.group_hub.specs.Shards.{shard_of}
use Rattle.journal_text.specs.Histories.{history_text}
use Rattle.server_command.proofs.Lists.{on_ok}
use Rattle.server_command.proofs.Walking.{as_it_is, not_over_at, looked, looked_sees, walk_copies, walk_ends, found_opened, found_kept, none_opened}
use Rattle.server_command.proofs.journals.put_next.Goals as goal

pub returns-in-Ok-Some-clause-seen : goal.returns-in-Ok-Some-clause-seen
returns-in-Ok-Some-clause-seen g c =
    looked_sees c.args.hub.now.boot (shard_of c.args.id) c.args.pass.now c.journal.new.pass (looked c.args.hub.now.boot c.args.id c.args.pass.now c.journal.new.pass c.journal.result c.journal.ensures.call)

pub returns-in-Ok-Some-clause-walked : goal.returns-in-Ok-Some-clause-walked
returns-in-Ok-Some-clause-walked g c =
    let boot = c.args.hub.now.boot in
    let j = c.in-Ok-Some.journal in
    let l = looked boot c.args.id c.args.pass.now c.journal.new.pass c.journal.result c.journal.ensures.call in
    let found = as_it_is boot c.args.id c.args.pass.now c.journal.new.pass c.journal.result (Ok (Some j)) (c.in-Ok-Some.is ∙ ap Ok c.in-Ok-Some.field-0-is) c.journal.ensures.call in
    let home = ap (λ (b : ℕ). history_of (home_of b c.args.id) j.base j.entries) c.boot.ensures ∙ found_kept boot c.args.id c.args.pass.now c.journal.new.pass j found in
    on_ok c.put_copy.result
    (λ text_is p text w. walk_copies boot p c.args.pass.now c.journal.new.pass text c.args.into.now.items c.args.id c.args.over.now c.requires.id (not_over_at c.args.over.now c.args.id c.requires.count c.if-over-number.false) l w
    c.put_copy.new.into.items (found_opened boot c.args.id c.args.pass.now c.journal.new.pass j found) (text_is ∙ ap (λ h. c.args.into.now.items ++ history_text h) home))
    c.put_copy.ensures

pub returns-in-Ok-None-clause-seen : goal.returns-in-Ok-None-clause-seen
returns-in-Ok-None-clause-seen g c =
    looked_sees c.args.hub.now.boot (shard_of c.args.id) c.args.pass.now c.journal.new.pass (looked c.args.hub.now.boot c.args.id c.args.pass.now c.journal.new.pass c.journal.result c.journal.ensures.call)

pub returns-in-Ok-None-clause-walked : goal.returns-in-Ok-None-clause-walked
returns-in-Ok-None-clause-walked g c p text w =
    let boot = c.args.hub.now.boot in
    let l = looked boot c.args.id c.args.pass.now c.journal.new.pass c.journal.result c.journal.ensures.call in
    walk_ends boot p c.args.pass.now c.journal.new.pass text c.args.into.now.items c.args.id c.args.over.now c.requires.id (not_over_at c.args.over.now c.args.id c.requires.count c.if-over-number.false) l w c.requires.count
    (none_opened boot c.args.id c.args.pass.now c.journal.new.pass (as_it_is boot c.args.id c.args.pass.now c.journal.new.pass c.journal.result (Ok None) (c.in-Ok-None.is ∙ ap Ok c.in-Ok-None.field-0-is) c.journal.ensures.call))

pub returns-in-Err-clause-seen : goal.returns-in-Err-clause-seen
returns-in-Err-clause-seen g c =
    looked_sees c.args.hub.now.boot (shard_of c.args.id) c.args.pass.now c.journal.new.pass (looked c.args.hub.now.boot c.args.id c.args.pass.now c.journal.new.pass c.journal.result c.journal.ensures.call)
