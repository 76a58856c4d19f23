use Rattle.std.proofs.Common.{◌∙◌, ap, sym, subst, refl}
use Rattle.call_table.specs.Rows.{runs_at, cancelled, with_cancel}
use Rattle.call_table.specs.Tally.{IsTally}
use Rattle.call_table.specs.Queues.{IsQueued}
use Rattle.call_table.specs.Waits.{IsListed}
use Rattle.call_table.specs.Places.{IsPlaced}
use Rattle.call_table.proofs.Nearest.{mark_queued}
use Rattle.call_table.proofs.Keyed.{set_call}
use Rattle.call_table.proofs.Marks.{runs_called, marked}
use Rattle.call_table.proofs.Tallied.{tally_marked}
use Rattle.call_table.proofs.Waits.{listed_marked}
use Rattle.call_table.proofs.Places.{placed_marked}
use Rattle.call_table.proofs.table.CallTable.cancel.Goals as goal

pub place-at-requires-clause-there : goal.place-at-requires-clause-there
place-at-requires-clause-there c = runs_called c.self.inside.rows.items c.args.call (ap (λ v. runs_at v.rows c.args.call) c.self.view_is ∙ c.requires)

pub cancel-requires : goal.cancel-requires
cancel-requires c = c.place-at.ensures.within

pub invariant_of-self : goal.invariant_of-self
invariant_of-self c =
    let same = ap (λ v. v.items) c.cancel.ensures ∙ set_call cancelled 0 _ _ _ c.self.invariant.0.rises c.place-at.ensures in
    (marked _ _ _ _ _ cancelled c.self.invariant.0 (record { call = λ r. refl; slots = λ r. refl }) (λ r. refl) same (ap (λ v. v.room) c.cancel.ensures), subst (λ rows. IsTally rows c.self.inside.tally) (sym same) (tally_marked cancelled _ _ c.args.call (λ r. refl) (λ r. refl) c.self.invariant.1), subst (λ rows. IsQueued rows c.self.inside.queues c.self.inside.room) (sym same) (mark_queued c.args.call cancelled _ _ _ (record { call = λ r. refl; slots = λ r. refl }) c.self.invariant.2), subst (λ rows. IsListed rows c.self.inside.waiting c.self.inside.room) (sym same) (listed_marked cancelled _ c.self.inside.waiting c.self.inside.room c.args.call (λ n r. refl) c.self.invariant.3), subst (λ rows. IsPlaced rows c.self.inside.running c.self.inside.room) (sym same) (placed_marked cancelled _ c.self.inside.running c.self.inside.room c.args.call (λ n r. refl) (λ r. refl) c.self.invariant.4))

pub returns-clause-rows : goal.returns-clause-rows
returns-clause-rows c =
    ap (λ v. v.items) c.cancel.ensures ∙ (set_call cancelled 0 _ _ _ c.self.invariant.0.rises c.place-at.ensures ∙ ap (λ v. with_cancel c.args.call v.rows) c.self.view_is)
