use Rattle.std.proofs.Common.{◌≡◌, Option, subst}
use Rattle.std.specs.Prelude.{IfOk}
use Rattle.ndr_value.specs.Values.{val, vals}
use Rattle.epm_manager.specs.declared.entry.MapEntry.{MapEntry}
use Rattle.epm_manager.proofs.EntryLemmas.{entry_is}
use Rattle.epm_manager.proofs.asked.entry_of.Goals as goal

pub returns-in-Some-tower : goal.returns-in-Some-tower
returns-in-Some-tower c =
    let is = entry_is (vals c.args.heap.now) (val c.args.value.now) (vals c.members_of-members.result.now) c.in-Some.object c.in-Some-tower.tower c.text_in.result.now c.in_ok-object.object c.in_ok-tower.tower
    c.members_of-members.ensures c.in_ok-object.ensures c.in-Some.is c.in_ok-tower.ensures c.in-Some-tower.is c.text_in.ensures in
    subst (λ (x : Option MapEntry). IfOk c.with_note.result (λ o. o ≡ x)) is c.with_note.ensures
