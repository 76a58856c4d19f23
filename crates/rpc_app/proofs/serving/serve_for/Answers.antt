use Rattle.std.proofs.Common.{rules, ◌≡◌, refl, inl}
use Rattle.server_command.specs.Tables.{shown_by}
use Rattle.rpc_app.specs.Runs.{Gains, GainsFront, RefusesText, Serves}
use Rattle.rpc_app.specs.Words.{told_server}
use Rattle.rpc_app.proofs.Served.{refused_so, shelf_failed, memory_out, served_for}
use Rattle.rpc_app.proofs.serving.serve_for.Goals as goal

pub returns-in-Ok : goal.returns-in-Ok
returns-in-Ok g c =
    let interface : Serves (g.F.Shelf.files c.args.shelf.now) (told_server c.args.task).idl (shown_by (λ t. t) c.in-Ok.echo) = search rules in
    served_for g.D.Link.Link.shows (told_server c.args.task) c.args.boot _ _ _ _ (shown_by (λ t. t) c.in-Ok.echo) interface c.serve_with.result c.serve_with.ensures

pub returns-in-Err-Refused : goal.returns-in-Err-Refused
returns-in-Err-Refused g c =
    let refuses : RefusesText (g.F.Shelf.files c.args.shelf.now) (told_server c.args.task).idl c.in-Err-Refused.line.items = search rules in
    let e = c.refuse_text.ensures in
    let said : c.refuse_text.result ≡ 2 → Gains (g.S.Sink.written c.args.out.now) (g.S.Sink.written c.refuse_text.new.out) c.in-Err-Refused.line.items = search rules in
    let front : c.refuse_text.result ≡ 4 → GainsFront (g.S.Sink.written c.args.out.now) (g.S.Sink.written c.refuse_text.new.out) c.in-Err-Refused.line.items = search rules in
    refused_so g.D.Link.Link.shows (told_server c.args.task) c.args.boot _ _ _ _ c.refuse_text.result c.in-Err-Refused.line.items refuses e.known said e.failed front refl refl

pub returns-in-Err-Failed : goal.returns-in-Err-Failed
returns-in-Err-Failed g c = shelf_failed g.D.Link.Link.shows (told_server c.args.task) c.args.boot _ _ _ _ (search rules) (refl, refl) refl

pub returns-in-Err-Memory : goal.returns-in-Err-Memory
returns-in-Err-Memory g c = memory_out g.D.Link.Link.shows (told_server c.args.task) c.args.boot _ _ _ _ (refl, refl) (inl refl)
