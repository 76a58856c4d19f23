use Rattle.std.proofs.Common.{◌≡◌, ℕ, ◌-◌, List, ap, sym, ◌∙◌}
use Rattle.ndr_value.specs.Forms.{types_of}
use Rattle.ndr_value.specs.Values.{vals}
use Rattle.echo_manager.specs.declared.lead.Lead.{Lead}
use Rattle.echo_manager.specs.Met as met
use Rattle.echo_manager.specs.Views.{lead_of}
use Rattle.echo_manager.proofs.Walks.{then_so, whole_step}
use Rattle.echo_manager.proofs.walk.+whole.Goals as goal

pub whole-returns-in-Value : goal.whole-returns-in-Value
whole-returns-in-Value t c =
    let types = types_of c.args.walk.now.types.now in
    let heap = vals c.args.walk.now.heap.now in
    let n : ℕ = c.args.levels in
    let ms : List ℕ = c.args.met.now in
    let go = met.whole types heap (n - 1) in
    then_so c.whole_value.result
    (λ e. e ∙ sym (whole_step types heap n (lead_of c.args.lead) ms c.if-levels-eq0.false ∙ ap (λ (l : Lead). met.whole_lead types heap go (lead_of l) ms) c.in-Value.is))
    c.whole_value.ensures

pub whole-returns-in-Item : goal.whole-returns-in-Item
whole-returns-in-Item t c =
    let types = types_of c.args.walk.now.types.now in
    let heap = vals c.args.walk.now.heap.now in
    let n : ℕ = c.args.levels in
    let ms : List ℕ = c.args.met.now in
    let go = met.whole types heap (n - 1) in
    then_so c.whole_item.result
    (λ e. e ∙ sym (whole_step types heap n (lead_of c.args.lead) ms c.if-levels-eq0.false ∙ ap (λ (l : Lead). met.whole_lead types heap go (lead_of l) ms) c.in-Item.is))
    c.whole_item.ensures
