use Rattle.std.proofs.Common.{Ok, Err}
use Rattle.hub_shard.specs.declared.answer.OpenRefusal.TheVariants.{GroupsFull, Ids, Memory}
use Rattle.group_hub.proofs.OpenLemmas.{opened_first, opened_second, quiet_second, full_first, full_second, none_left, open_serves, open_still, mod_low}
use Rattle.group_hub.proofs.hub.Hub.open_group.Goals as goal

pub returns-in-Opened-clause-serves : goal.returns-in-Opened-clause-serves
returns-in-Opened-clause-serves g c =
    open_serves c.args.self.now.boot c.args.pass.now (Ok (c.in-Opened.id, 1)) c.open_among.new.pass
    (opened_first c.args.self.now.boot _ c.args.pass.now c.open_among.new.pass c.open_among.new.pass c.in-Opened.id c.in-Opened.ensures.looks)

pub returns-in-Opened-open_among-clause-opens : goal.returns-in-Opened-open_among-clause-opens
returns-in-Opened-open_among-clause-opens g c = opened_second c.args.self.now.boot _ c.args.pass.now c.open_among.new.pass c.open_among-2.new.pass c.in-NoRoom.full c.in-NoRoom.ensures.looks c.in-Opened-open_among.id c.in-Opened-open_among.ensures.looks

pub returns-in-Opened-open_among-clause-serves : goal.returns-in-Opened-open_among-clause-serves
returns-in-Opened-open_among-clause-serves g c =
    open_serves c.args.self.now.boot c.args.pass.now (Ok (c.in-Opened-open_among.id, 1)) c.open_among-2.new.pass
    (opened_second c.args.self.now.boot _ c.args.pass.now c.open_among.new.pass c.open_among-2.new.pass c.in-NoRoom.full c.in-NoRoom.ensures.looks c.in-Opened-open_among.id c.in-Opened-open_among.ensures.looks)

pub returns-in-NoMemory-open_among-clause-opens : goal.returns-in-NoMemory-open_among-clause-opens
returns-in-NoMemory-open_among-clause-opens g c = quiet_second c.args.self.now.boot _ c.args.pass.now c.open_among.new.pass c.open_among-2.new.pass c.in-NoRoom.full c.in-NoRoom.ensures.looks c.in-NoMemory-open_among.ensures.looks

pub returns-then-one_full-clause-opens : goal.returns-then-one_full-clause-opens
returns-then-one_full-clause-opens g c = full_first c.args.self.now.boot _ c.args.pass.now c.open_among.new.pass c.open_among-2.new.pass c.in-NoRoom.full c.in-NoRoom.ensures.looks c.in-NoRoom-open_among.full c.in-NoRoom-open_among.ensures.looks c.if-one_full.true

pub returns-then-full-clause-opens : goal.returns-then-full-clause-opens
returns-then-full-clause-opens g c = full_second c.args.self.now.boot _ c.args.pass.now c.open_among.new.pass c.open_among-2.new.pass c.in-NoRoom.full c.in-NoRoom.ensures.looks c.in-NoRoom-open_among.full c.in-NoRoom-open_among.ensures.looks (mod_low _) c.if-full.true

pub returns-in-Opened-clause-still : goal.returns-in-Opened-clause-still
returns-in-Opened-clause-still g c =
    open_still c.args.self.now c.args.pass.now c.open_among.new.pass c.requires c.args.self.now.whole.count (Ok (c.in-Opened.id, 1))
    (opened_first c.args.self.now.boot _ c.args.pass.now c.open_among.new.pass c.open_among.new.pass c.in-Opened.id c.in-Opened.ensures.looks)

pub returns-in-NoMemory-clause-still : goal.returns-in-NoMemory-clause-still
returns-in-NoMemory-clause-still g c =
    open_still c.args.self.now c.args.pass.now c.open_among.new.pass c.requires c.args.self.now.whole.count (Err Memory)
    (c.in-NoMemory.ensures.looks.quiet)

pub returns-in-Opened-open_among-clause-still : goal.returns-in-Opened-open_among-clause-still
returns-in-Opened-open_among-clause-still g c =
    open_still c.args.self.now c.args.pass.now c.open_among-2.new.pass c.requires c.args.self.now.whole.count (Ok (c.in-Opened-open_among.id, 1))
    (opened_second c.args.self.now.boot _ c.args.pass.now c.open_among.new.pass c.open_among-2.new.pass c.in-NoRoom.full c.in-NoRoom.ensures.looks c.in-Opened-open_among.id c.in-Opened-open_among.ensures.looks)

pub returns-in-NoMemory-open_among-clause-still : goal.returns-in-NoMemory-open_among-clause-still
returns-in-NoMemory-open_among-clause-still g c =
    open_still c.args.self.now c.args.pass.now c.open_among-2.new.pass c.requires c.args.self.now.whole.count (Err Memory)
    (quiet_second c.args.self.now.boot _ c.args.pass.now c.open_among.new.pass c.open_among-2.new.pass c.in-NoRoom.full c.in-NoRoom.ensures.looks c.in-NoMemory-open_among.ensures.looks)

pub returns-then-one_full-clause-still : goal.returns-then-one_full-clause-still
returns-then-one_full-clause-still g c =
    open_still c.args.self.now c.args.pass.now c.open_among-2.new.pass c.requires c.args.self.now.whole.count (Err GroupsFull)
    (full_first c.args.self.now.boot _ c.args.pass.now c.open_among.new.pass c.open_among-2.new.pass c.in-NoRoom.full c.in-NoRoom.ensures.looks c.in-NoRoom-open_among.full c.in-NoRoom-open_among.ensures.looks c.if-one_full.true)

pub returns-then-full-clause-still : goal.returns-then-full-clause-still
returns-then-full-clause-still g c =
    open_still c.args.self.now c.args.pass.now c.open_among-2.new.pass c.requires c.args.self.now.whole.count (Err GroupsFull)
    (full_second c.args.self.now.boot _ c.args.pass.now c.open_among.new.pass c.open_among-2.new.pass c.in-NoRoom.full c.in-NoRoom.ensures.looks c.in-NoRoom-open_among.full c.in-NoRoom-open_among.ensures.looks (mod_low _) c.if-full.true)

pub returns-else-full-clause-still : goal.returns-else-full-clause-still
returns-else-full-clause-still g c =
    open_still c.args.self.now c.args.pass.now c.open_among-2.new.pass c.requires c.args.self.now.whole.count (Err Ids)
    (none_left c.args.self.now.boot _ c.args.pass.now c.open_among.new.pass c.open_among-2.new.pass c.in-NoRoom.full c.in-NoRoom.ensures.looks c.in-NoRoom-open_among.full c.in-NoRoom-open_among.ensures.looks c.if-one_full.false c.if-full.false)
