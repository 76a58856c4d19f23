use Rattle.std.proofs.Common.{subst}
use Rattle.rpc_base.specs.Fields.{FitsSyntax}
use Rattle.rpc_base.specs.declared.identifiers.SyntaxId.{SyntaxId}
use Rattle.ndr_table.specs.Shown.{shown}
use Rattle.call_world.specs.Moves.{moves_of}
use Rattle.call_world.proofs.Playing.{if_ok, if_err}
use Rattle.call_world.proofs.Runs.{leads_so, leads_nowhere}
use Rattle.call_world.proofs.play.play_world.Goals as goal

pub returns-clause-leads : goal.returns-clause-leads
returns-clause-leads c =
    let fits = subst (λ (id : SyntaxId). FitsSyntax id) c.syntax.ensures c.is_syntax.ensures in
    if_ok c.play_all.result _ _
    (λ x played. leads_so (shown c.args.table.now) (moves_of c.args.moves.items) x fits (record { is = c.is_whole.ensures; shallow = c.is_shallow.ensures; sound = c.is_sound.ensures })
    (record { rows = c.calls_are_rows.ensures; fates = c.fates_are_true.ensures; told = c.fates_are_told.ensures; starts = c.starts_are_rows.ensures; handles = c.handles_are_kept.ensures }) played)
    c.play_all.ensures.played

pub returns-clause-leads_nowhere : goal.returns-clause-leads_nowhere
returns-clause-leads_nowhere c =
    if_err c.play_all.result _ _ (λ e stops. leads_nowhere (shown c.args.table.now) (moves_of c.args.moves.items) e c.only_where_it_may.ensures stops) c.play_all.ensures.stops
