use Rattle.std.proofs.Common.{rules, ◌≡◌, Some, refl, map, string_bytes}
use Rattle.rpc_app.specs.declared.words.Wanted.TheVariants as wanted
use Rattle.rpc_app.specs.Words.{told_task, told_server}
use Rattle.rpc_app.specs.Asks.{ToServe, ToCall}
use Rattle.rpc_app.proofs.Carried.{in_range, within}
use Rattle.rpc_app.proofs.Obeying.{obeyed, unasked, memory, no_server, no_caller}
use Rattle.rpc_app.proofs.top.obey.Goals as goal

pub carry_out-requires : goal.carry_out-requires
carry_out-requires g c =
    let is : c.in-Ok.wanted ≡ Some (wanted.Task c.in-Some-Task.task) = search rules in
    in_range (map string_bytes c.args.words.now) (told_task c.in-Some-Task.task) (rw is at c.in-Ok.ensures.asked)

pub returns-in-Some-Task-clause-comes : goal.returns-in-Some-Task-clause-comes
returns-in-Some-Task-clause-comes g c =
    let e = c.carry_out.ensures in
    let is : c.in-Ok.wanted ≡ Some (wanted.Task c.in-Some-Task.task) = search rules in
    let asks = rw is at c.in-Ok.ensures.asked in
    let alone = rw is at c.in-Ok.ensures.alone in (
      obeyed _ _ _ _ _ (told_task c.in-Some-Task.task) asks alone e.known e.done e.refused e.shelf e.sinks e.fronts e.silent e.quiet,
      no_server (map string_bytes c.args.words.now) (told_task c.in-Some-Task.task) c.carry_out.result alone,
      no_caller (map string_bytes c.args.words.now) (told_task c.in-Some-Task.task) c.carry_out.result alone,
    )

pub returns-in-Some-Serve-clause-comes : goal.returns-in-Some-Serve-clause-comes
returns-in-Some-Serve-clause-comes g c =
    let is : c.in-Ok.wanted ≡ Some (wanted.Serve c.in-Some-Serve.task) = search rules in
    let asks = rw is at c.in-Ok.ensures.asked in
    let alone = rw is at c.in-Ok.ensures.alone in ((asks, alone), within (map string_bytes c.args.words.now) (told_server c.in-Some-Serve.task) asks)

pub returns-in-Some-Call-clause-comes : goal.returns-in-Some-Call-clause-comes
returns-in-Some-Call-clause-comes g c =
    let is : c.in-Ok.wanted ≡ Some (wanted.Call c.in-Some-Call.task) = search rules in
    (rw is at c.in-Ok.ensures.asked, rw is at c.in-Ok.ensures.alone)

pub returns-in-None-clause-comes : goal.returns-in-None-clause-comes
returns-in-None-clause-comes g c =
    let e = c.refuse.ensures in
    let nothing = rw c.in-None.is at c.in-Ok.ensures.nothing in (
      unasked _ _ _ _ _ nothing e.known e.said e.failed e.front refl,
      λ task a. absurd (nothing (ToServe task) a),
      λ task a. absurd (nothing (ToCall task) a),
    )

pub returns-in-Err-clause-comes : goal.returns-in-Err-clause-comes
returns-in-Err-clause-comes g c = (memory _ _ _ _ refl refl, λ task a. refl, λ task a. refl)
