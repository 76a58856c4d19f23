-- A connection leaves while its call runs: the group goes on.
use Rattle.std.proofs.Common.{◌≡◌, ℕ, Bool, false, Option, List, ◌∷◌}
use Rattle.rpc_outside.specs.Links.{Shown}
use Rattle.handle_model.specs.declared.entry.Asked.{Asked}
use Rattle.handle_model.specs.declared.entry.Entry.TheVariants.{Leave}
use Rattle.hub_story.specs.Histories.{home_of}
use Rattle.group_hub.specs.declared.hub.Hub.{Hub}
use Rattle.group_hub.specs.declared.pass.Pass.{Pass}
use Rattle.group_hub.specs.Passes.{CallsAt}
use Rattle.hub_shard.specs.declared.answer.HubRest.{HubRest}
use Rattle.hub_shard.specs.declared.answer.HubRest.TheVariants as hub_rest
use Rattle.hub_shard.specs.Answers.{SettlesWith}
use Rattle.ndr_table.specs.Tables.{TableForm}
use Rattle.manager_api.specs.Answers.{Ans}
use Rattle.manager_api.specs.Calls.{Call}
use Rattle.conn_histories.specs.declared.turn.Fate.TheVariants.{Running}
use Rattle.conn_histories.specs.declared.turn.Deed.TheVariants.{Accepted}
use Rattle.conn_histories.specs.Entries.{asked_as}
use Rattle.conn_turns.proofs.Staged.{stage}
use Rattle.server_calls.specs.Ready.{request_of}
use Rattle.server_steps.specs.declared.line.Line.{Line}
use Rattle.server_steps.specs.declared.stop.Stop.{Stop}
use Rattle.server_steps.specs.Lines.{server}
use Rattle.server_steps.specs.Calls.{request}
use Rattle.server_steps.specs.Endings.{IsCutRunning}
use Rattle.server_steps.proofs.Holding.{stepped}
use Rattle.server_steps.proofs.Dealing.{none_shut_yet}

pub stays_running : {K : Type 0} (shows : K → Shown) (may : Call → Bool → Ans → Type 0) (tables : List TableForm) (hub : Hub) (l : Line K) (q : Pass) (why : Stop) (rest : HubRest) (k : ℕ) (a : Asked) (cookies : List (Option ℕ))
    → IsCutRunning shows may tables hub l why k a cookies → CallsAt hub.boot l.group l.pass q (SettlesWith l.group (Leave l.number) rest) → rest ≡ hub_rest.Stays
stays_running shows may tables hub l q why rest k a cookies x call =
    let home = home_of hub.boot l.group in
    let turns = request x.j x.iface x.offs (Accepted k a.slots (Running cookies)) ∷ x.turns in
    let b = stepped (server shows may tables hub) hub.boot l.began.value l.pass q l.group l.number l.retired false turns x.held (SettlesWith l.group (Leave l.number) rest) call in
    let runs = (stage home k (asked_as l.number (request_of x.j x.iface) a.slots) b.before x.offs (Running cookies) b.made.stand.stand.0).runs_is in
    none_shut_yet home b.before b.es l.group l.number k rest runs b.answers
