use Rattle.std.proofs.Common.{◌≡◌, ◌==◌, ℕ, List, [], Bool, Some, None, length, map, ap, sym, subst, ◌∙◌}
use Rattle.ndr_value.specs.Forms.{form, types_of}
use Rattle.ndr_value.specs.Values.{Val, val}
use Rattle.client_texts.specs.Heaps.{first_aim}
use Rattle.client_texts.specs.Pointers.{aim_of}
use Rattle.client_texts.specs.Renaming.{is_none, ItemStands}
use Rattle.client_texts.proofs.Lists.{none_is}
use Rattle.client_texts.proofs.Pointers.{none_noted}
use Rattle.client_texts.proofs.Listed.{GoesOn, came_none, came_more, came_all, never_aimed, never_stands}
use Rattle.client_texts.proofs.heaps.read_items.Goals as goal

pub loop-rest-init : goal.loop-rest-init
loop-rest-init c = (
  map aim_of c.args.before.now,
  c.in_ok-note.ensures [] (none_noted c.new-firsts.result c.new-firsts.ensures.empty),
  came_none (types_of c.args.types.now.items) (map aim_of c.args.before.now) c.args.text.now c.new-items.result.items c.new-items.ensures.items,
)

pub returns-in_default : goal.returns-in_default
returns-in_default c =
    let i = c.loop-rest.invariant in
    let ok = c.loop-rest.items.ok.0 in
    let said = c.len.ensures in
    let number : c.len.result ≡ length c.loop-rest.items.items = cc in
    let none = rw c.in_default.is at (c.shape_of.ensures i.0 i.1) in
    let on : GoesOn c.loop-rest.items.items c.loop-rest.rest.now = λ e. sym (ap is_none c.deref.ensures.value) ∙ c.loop-rest-test.ensures e in
    never_aimed (types_of c.args.types.now.items) (map aim_of c.args.before.now) c.args.text.now c.loop-rest.items.items i.0 c.loop-rest.rest.now on (subst (λ (n : ℕ). first_aim i.0 n ≡ None) number none) i.2

pub returns-in_default-2 : goal.returns-in_default-2
returns-in_default-2 c =
    let i = c.loop-rest.invariant in
    let ok = c.loop-rest.items.ok.0 in
    let said = c.len.ensures in
    let number : c.len.result ≡ length c.loop-rest.items.items = cc in
    let aim = rw c.in-Some.is at (c.shape_of.ensures i.0 i.1) in
    let empty = c.is_empty-first.ensures in
    let first : c.is_empty-first.result ≡ (length c.loop-rest.items.items == 0) = cc in
    let is = none_is c.loop-rest.items.items c.is_empty-first.result first in
    let none = rw c.in_default-2.is at c.in_ok-item.ensures in
    let on : GoesOn c.loop-rest.items.items c.loop-rest.rest.now = λ e. sym (ap is_none c.deref.ensures.value) ∙ c.loop-rest-test.ensures e in
    never_stands (types_of c.args.types.now.items) (map aim_of c.args.before.now) c.args.text.now c.loop-rest.items.items i.0 c.loop-rest.rest.now (form c.in-Some.shape.now) on
    (subst (λ (n : ℕ). first_aim i.0 n ≡ Some (form c.in-Some.shape.now)) number aim)
    (subst (λ (b : Bool). (v : Val) (rest : List ℕ) → ItemStands (types_of c.args.types.now.items) (form c.in-Some.shape.now) b c.loop-rest.rest.now v rest → ⊥) is none) i.2

pub loop-rest-preserved : goal.loop-rest-preserved
loop-rest-preserved c =
    let i = c.loop-rest.invariant in
    let ok = c.loop-rest.items.ok.0 in
    let said = c.len.ensures in
    let number : c.len.result ≡ length c.loop-rest.items.items = cc in
    let aim = rw c.in-Some.is at (c.shape_of.ensures i.0 i.1) in
    let empty = c.is_empty-first.ensures in
    let first : c.is_empty-first.result ≡ (length c.loop-rest.items.items == 0) = cc in
    let is = none_is c.loop-rest.items.items c.is_empty-first.result first in
    let item = rw c.in-Some-2.is at c.in_ok-item.ensures in
    let on : GoesOn c.loop-rest.items.items c.loop-rest.rest.now = λ e. sym (ap is_none c.deref.ensures.value) ∙ c.loop-rest-test.ensures e in
    rw c.in_ok-push.ensures.items (
      _,
      c.in_ok-note_item.ensures i.0 i.1,
      came_more (types_of c.args.types.now.items) (map aim_of c.args.before.now) c.args.text.now c.loop-rest.items.items i.0 c.loop-rest.rest.now c.in-Some-2.after.now (form c.in-Some.shape.now) c.in-Some-2.item on
          (subst (λ (n : ℕ). first_aim i.0 n ≡ Some (form c.in-Some.shape.now)) number aim)
          (subst (λ (b : Bool). ItemStands (types_of c.args.types.now.items) (form c.in-Some.shape.now) b c.loop-rest.rest.now (val c.in-Some-2.item) c.in-Some-2.after.now) is item) i.2,
    )

pub returns : goal.returns
returns c =
    let i = c.loop-rest.invariant in
    let over = c.loop-rest-test.ensures in
    came_all (types_of c.args.types.now.items) (map aim_of c.args.before.now) c.args.text.now c.loop-rest.items.items i.0 c.loop-rest.rest.now over.1 (sym (ap is_none c.deref.ensures.value) ∙ over.0) i.2
