use Rattle.std.proofs.Common.{rules, Option}
use Rattle.ndr_table.specs.Tables.{TableForm}
use Rattle.desk_service.specs.Shows.{shown_by}
use Rattle.desk_service.specs.Start.{at_start}
use Rattle.replay_world.specs.Worlds.{booted}
use Rattle.replay_groups.specs.Service.{service_of}
use Rattle.replay.proofs.Read.{departs_first, departs_there, stops_first, stops_there, still_played}
use Rattle.replay.proofs.Whole.{replayed, served}
use Rattle.replay.proofs.replaying.replay.Goals as goal

pub play_rest-requires : goal.play_rest-requires
play_rest-requires c =
    let echo : Option TableForm = shown_by (λ t. t.now) c.args.echo in
    (echo, booted c.in-Some.boot (at_start echo), c.in_ok-player.ensures.stands)

pub left-requires : goal.left-requires
left-requires c =
    let echo : Option TableForm = shown_by (λ t. t.now) c.args.echo in
    still_played c.in_ok-player.player c.play_rest.new.player c.in-Some.rest.now (echo, booted c.in-Some.boot (at_start echo), c.in_ok-player.ensures.stands) c.in_ok-play_rest.ensures.played

pub returns-in_default-clause-fault : goal.returns-in_default-clause-fault
returns-in_default-clause-fault c = departs_first (service_of (shown_by (λ t. t.now) c.args.echo)) c.args.text.now (rw c.in_default.is at c.in_ok-boot.ensures.boot)

pub returns-in_default-clause-stops : goal.returns-in_default-clause-stops
returns-in_default-clause-stops c = stops_first (service_of (shown_by (λ t. t.now) c.args.echo)) c.args.text.now (rw c.in_default.is at c.in_ok-boot.ensures.boot)

pub returns-in_err-play_rest-clause-stops : goal.returns-in_err-play_rest-clause-stops
returns-in_err-play_rest-clause-stops c =
    let echo : Option TableForm = shown_by (λ t. t.now) c.args.echo in
    let cause =
    stops_there echo c.is_echo.ensures c.in-Some.boot c.args.text.now c.in-Some.rest.now (rw c.in-Some.is at c.in_ok-boot.ensures.boot) c.in_ok-player.player c.in_ok-player.ensures.stands c.in_err-play_rest.field-0.0 c.in_err-play_rest.ensures.fault in
    search rules

pub returns-in_err-play_rest-clause-fault : goal.returns-in_err-play_rest-clause-fault
returns-in_err-play_rest-clause-fault c =
    let echo : Option TableForm = shown_by (λ t. t.now) c.args.echo in
    let cause =
    departs_there echo c.is_echo.ensures c.in-Some.boot c.args.text.now c.in-Some.rest.now (rw c.in-Some.is at c.in_ok-boot.ensures.boot) c.in_ok-player.player c.in_ok-player.ensures.stands c.in_err-play_rest.field-0.0 c.in_err-play_rest.ensures.fault in
    search rules

pub returns-clause-replayed : goal.returns-clause-replayed
returns-clause-replayed c =
    let echo : Option TableForm = shown_by (λ t. t.now) c.args.echo in
    replayed echo c.in-Some.boot c.args.text.now c.in-Some.rest.now c.in_ok-player.player c.play_rest.new.player c.in_ok-replayed.replayed.out c.in_ok-replayed.replayed.log
    (rw c.in-Some.is at c.in_ok-boot.ensures.boot) c.in_ok-player.ensures.stands c.in_ok-play_rest.ensures.played c.in_ok-replayed.ensures.left

pub returns-clause-served : goal.returns-clause-served
returns-clause-served c =
    let echo : Option TableForm = shown_by (λ t. t.now) c.args.echo in
    served echo c.in-Some.boot c.args.text.now c.in-Some.rest.now c.in_ok-player.player c.play_rest.new.player c.in_ok-replayed.replayed.out c.in_ok-replayed.replayed.log
    (rw c.in-Some.is at c.in_ok-boot.ensures.boot) c.in_ok-player.ensures.stands c.in_ok-play_rest.ensures.played c.in_ok-replayed.ensures.left (c.replays_serve_all.ensures echo)
