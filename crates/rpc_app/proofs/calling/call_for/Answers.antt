use Rattle.std.proofs.Common.{rules, ◌≡◌, refl}
use Rattle.ndr_table.specs.Shown.{shown}
use Rattle.rpc_app.specs.Calling.{HasInterface, RefusesCall}
use Rattle.rpc_app.specs.Commands.{call_limit}
use Rattle.rpc_app.specs.Runs.{Gains, GainsFront, IsLoaded}
use Rattle.rpc_app.specs.Words.{told_caller}
use Rattle.rpc_app.proofs.Called.{played, refused_so, shelf_failed, memory_out}
use Rattle.rpc_app.proofs.calling.call_for.Goals as goal

pub returns-in-Ok : goal.returns-in-Ok
returns-in-Ok g c =
    let has : HasInterface (g.F.Shelf.files c.args.shelf.now) (told_caller c.args.task).idl (shown c.in-Ok.files.table) = search rules in
    let loaded : IsLoaded call_limit (g.F.Shelf.files c.args.shelf.now) (told_caller c.args.task).script c.in-Ok.files.script.items = search rules in
    played g.Q.Link.Link.shows (told_caller c.args.task) _ _ _ c.call_with.result (shown c.in-Ok.files.table) c.in-Ok.files.script.items has loaded c.call_with.ensures

pub returns-in-Err-Refused : goal.returns-in-Err-Refused
returns-in-Err-Refused g c =
    let refuses : RefusesCall (g.F.Shelf.files c.args.shelf.now) (told_caller c.args.task) c.in-Err-Refused.line.items = search rules in
    let e = c.refuse_text.ensures in
    let said : c.refuse_text.result ≡ 2 → Gains (g.S.Sink.written c.args.out.now) (g.S.Sink.written c.refuse_text.new.out) c.in-Err-Refused.line.items = search rules in
    let front : c.refuse_text.result ≡ 4 → GainsFront (g.S.Sink.written c.args.out.now) (g.S.Sink.written c.refuse_text.new.out) c.in-Err-Refused.line.items = search rules in
    refused_so g.Q.Link.Link.shows (told_caller c.args.task) _ _ _ c.refuse_text.result c.in-Err-Refused.line.items refuses e.known said e.failed front refl

pub returns-in-Err-Failed : goal.returns-in-Err-Failed
returns-in-Err-Failed g c = shelf_failed g.Q.Link.Link.shows (told_caller c.args.task) _ _ _ _ (search rules) refl refl refl

pub returns-in-Err-Memory : goal.returns-in-Err-Memory
returns-in-Err-Memory g c = memory_out g.Q.Link.Link.shows (told_caller c.args.task) _ _ _ _ refl refl refl
