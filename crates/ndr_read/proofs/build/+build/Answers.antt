use Rattle.std.proofs.Common.{◌≡◌, ℕ, suc, ℤ, sym, subst, ◌∙◌, ◌-◌, ◌+◌, List, [], ◌∷◌, true, ap, None, Some, Ok, Err, arith, length, to_z, of_z, w64, rules}
use mir.Val.{SFits}
use Rattle.std.proofs.lemmas.Int.{to_z-of_z}
use Rattle.ndr_value.specs.Fits.{arm_of}
use Rattle.ndr_arrays.specs.Bind.{◌>>=◌}
use Rattle.ndr_model.specs.declared.departure.Departure.TheVariants.{Tag}
use Rattle.ndr_model.specs.declared.mark.Mark.TheVariants.{Number, Referent}
use Rattle.ndr_model.specs.Places.{Last, noting, keeping}
use Rattle.ndr_model.specs.Scan.{scan}
use Rattle.ndr_pointers.proofs.Alikes.{struct_is, union_is}
use Rattle.std.proofs.lemmas.Result.{err_from_is_err_and}
use Rattle.ndr_value.specs.Forms.{form, forms, body, arms_of, OfUnion}
use Rattle.ndr_value.specs.Values.{Val, val, vals, no_val, then_val, VFull}
use Rattle.ndr_model.specs.Build.{Built, Found, build, build_at, built_each, built_arm, in_struct, referent, ahead, ends}
use Rattle.ndr_pointers.specs.Gives.{Gives}
use Rattle.ndr_pointers.specs.Views.{types_in, place}
use Rattle.ndr_read.specs.Views.{cursor_of, items_of, last_of}
use Rattle.ndr_pointers.proofs.Walks.{moved_is}
use Rattle.ndr_read.specs.Readings.{join}
use Rattle.ndr_read.proofs.Flats.{alone_whole}
use Rattle.ndr_read.proofs.Rows.{vals_push, one_more, one_fails, all_done, each_more, each_fails, each_done, build_step, struct_build, union_build, items_push}
use Rattle.ndr_read.proofs.build.+build.Goals as goal

pub build_value-returns : goal.build_value-returns
build_value-returns t c =
    subst (λ (f : Built). Gives (λ v. (val v, ends (cursor_of c.build_one.new.flat) (last_of c.build_one.new.tail))) c.build_one.result f)
    (sym (build_step (types_in c.args.reader.now) c.args.reader.now.order c.args.reader.now.octets.now c.args.fuel c.args.room c.args.moved (form c.args.shape.now) (cursor_of c.args.flat.now) (last_of c.args.tail.now) c.if-fuel-eq0.false))
    c.build_one.ensures

pub build_times-returns-in_err-value : goal.build_times-returns-in_err-value
build_times-returns-in_err-value t c =
    let p = err_from_is_err_and c.from_residual.result c.from_residual.ensures.1 in
    rw (p.1, p.2) (one_fails c.in_err-value.field-0.0 (build (types_in c.args.reader.now) c.args.reader.now.order c.args.reader.now.octets.now c.args.fuel c.args.room None (form c.args.shape.now)) (vals c.loop.values.items) c.args.count c.loop.counter (cursor_of c.loop.flat) (last_of c.loop.tail) _ c.loop-test.true c.in_err-value.ensures c.loop.invariant)

pub build_times-loop-preserved : goal.build_times-loop-preserved
build_times-loop-preserved t c =
    let e : vals c.add.new.values.items ≡ join (vals c.loop.values.items) (then_val (val c.in_ok-value.value) no_val) = rw c.in_ok-add.ensures (vals_push c.loop.values.items c.in_ok-value.value) in
    rw e (one_more (build (types_in c.args.reader.now) c.args.reader.now.order c.args.reader.now.octets.now c.args.fuel c.args.room None (form c.args.shape.now)) (vals c.loop.values.items) c.args.count c.loop.counter (cursor_of c.loop.flat) (last_of c.loop.tail) (val c.in_ok-value.value) (ends (cursor_of c.build_value.new.flat) (last_of c.build_value.new.tail)) _ c.loop-test.true c.in_ok-value.ensures c.loop.invariant)

pub build_times-returns : goal.build_times-returns
build_times-returns t c =
    all_done (build (types_in c.args.reader.now) c.args.reader.now.order c.args.reader.now.octets.now c.args.fuel c.args.room None (form c.args.shape.now)) (vals c.loop.values.items) c.args.count c.loop.counter (cursor_of c.loop.flat) (last_of c.loop.tail) _ c.loop-test.false c.loop.invariant

pub build_each-returns-in_err-value : goal.build_each-returns-in_err-value
build_each-returns-in_err-value t c =
    let i = c.loop-shape.invariant in
    let p = err_from_is_err_and c.from_residual.result c.from_residual.ensures.1 in
    let k : c.loop-shape.left - 1 + (c.loop-shape.shape-index + 1) ≡ length c.args.shapes.now = omega (arith, i.0, c.loop-shape-test.true) in
    rw (p.1, p.2) (each_fails c.in_err-value.field-0.0 (build (types_in c.args.reader.now) c.args.reader.now.order c.args.reader.now.octets.now c.args.fuel c.args.room) c.args.own c.if_last-moved.result (vals c.loop-shape.values.items) c.args.shapes.now c.loop-shape.shape-index c.shape-item.result (cursor_of c.loop-shape.flat) (last_of c.loop-shape.tail) _ c.loop-shape-test.true c.shape-item.is
    (c.if_last-moved.ensures ∙ moved_is c.args.own c.args.shapes.now (c.loop-shape.left - 1) c.loop-shape.shape-index k) c.in_err-value.ensures i.1)

pub build_each-loop-shape-preserved : goal.build_each-loop-shape-preserved
build_each-loop-shape-preserved t c =
    let i = c.loop-shape.invariant in
    let k : c.loop-shape.left - 1 + (c.loop-shape.shape-index + 1) ≡ length c.args.shapes.now = omega (arith, i.0, c.loop-shape-test.true) in
    let e : vals c.add.new.values.items ≡ join (vals c.loop-shape.values.items) (then_val (val c.in_ok-value.value) no_val) = rw c.in_ok-add.ensures (vals_push c.loop-shape.values.items c.in_ok-value.value) in (
      k,
      rw e (each_more (build (types_in c.args.reader.now) c.args.reader.now.order c.args.reader.now.octets.now c.args.fuel c.args.room) c.args.own c.if_last-moved.result (vals c.loop-shape.values.items) c.args.shapes.now c.loop-shape.shape-index c.shape-item.result (cursor_of c.loop-shape.flat) (last_of c.loop-shape.tail) (val c.in_ok-value.value) (ends (cursor_of c.build_value.new.flat) (last_of c.build_value.new.tail)) _ c.loop-shape-test.true c.shape-item.is
          (c.if_last-moved.ensures ∙ moved_is c.args.own c.args.shapes.now (c.loop-shape.left - 1) c.loop-shape.shape-index k) c.in_ok-value.ensures i.1),
    )

pub build_each-returns : goal.build_each-returns
build_each-returns t c =
    each_done (build (types_in c.args.reader.now) c.args.reader.now.order c.args.reader.now.octets.now c.args.fuel c.args.room) c.args.own (vals c.loop-shape.values.items) c.args.shapes.now c.loop-shape.shape-index (cursor_of c.loop-shape.flat) (last_of c.loop-shape.tail) _ c.loop-shape-test.false c.loop-shape.invariant.1

pub build_new-returns : goal.build_new-returns
build_new-returns t c =
    let n = c.args.number in
    let v = val c.in_ok-value.value in
    let tail = c.build_referent.new.tail in
    let flat = c.args.flat.now in
    let found : referent (scan (types_in c.args.reader.now) c.args.reader.now.order c.args.reader.now.octets.now c.args.fuel) (build (types_in c.args.reader.now) c.args.reader.now.order c.args.reader.now.octets.now c.args.fuel) c.args.room c.args.place (form c.args.inner.now) (noting (Referent true ∷ []) (last_of c.args.tail.now)) ≡ Ok (v, last_of tail) =
    subst (λ (q : Last). referent (scan (types_in c.args.reader.now) c.args.reader.now.order c.args.reader.now.octets.now c.args.fuel) (build (types_in c.args.reader.now) c.args.reader.now.order c.args.reader.now.octets.now c.args.fuel) c.args.room c.args.place (form c.args.inner.now) q ≡ Ok (v, last_of tail)) c.in_ok-note.ensures c.in_ok-value.ensures in
    let items : items_of c.push.new.self.items ≡ (n, v) ∷ items_of tail.items.items = ap items_of c.in_ok-push.ensures.items ∙ items_push tail.items.items (record { number = n; value = c.in_ok-value.value }) in
    let k : suc flat.ids ≡ n + 1 = omega (arith, c.requires) in
    ap (λ (r : Found). r >>= λ x. Ok (VFull (Some n), ends (record { at = flat.at; ids = suc flat.ids; handles = flat.handles }) (keeping n x.0 x.1))) found
    ∙ ap (λ (j : ℕ). Ok (VFull (Some n), ends (record { at = flat.at; ids = j; handles = flat.handles }) (keeping n v (last_of tail)))) k
    ∙ ap (λ (xs : List (ℕ × Val)). Ok (VFull (Some n), ends (record { at = flat.at; ids = n + 1; handles = flat.handles }) (record { here = place tail.at tail.seen; items = xs; marks = tail.marks }))) (sym items)

pub build_one-returns-in-Handle : goal.build_one-returns-in-Handle
build_one-returns-in-Handle t c = rw c.in-Handle.is (c.build_handle.ensures (last_of c.args.tail.now))

pub build_one-returns-in-Int : goal.build_one-returns-in-Int
build_one-returns-in-Int t c = rw c.in-Int.is (c.build_int.ensures (last_of c.args.tail.now))

pub build_one-build_struct-requires : goal.build_one-build_struct-requires
build_one-build_struct-requires t c = (search rules, struct_is c.args.shape.now _ c.deref.result.now c.in-Struct.is c.deref.ensures.value)

pub build_one-build_union-requires : goal.build_one-build_union-requires
build_one-build_union-requires t c = (search rules, union_is c.args.shape.now _ _ c.deref-in-Union.result.now c.deref-in-Union-2.result.now c.in-Union.is c.deref-in-Union.ensures c.deref-in-Union-2.ensures.value)

pub build_union-returns-in-None : goal.build_union-returns-in-None
build_union-returns-in-None t c = λ moved.
    let n = c.in_ok-tag.tag in
    let after = c.in_ok-tag.after in
    let kind = form c.args.kind.now in
    let arms = arms_of c.args.arms.now in
    let fits : SFits w64 n = search rules in
    let k : to_z w64 (of_z w64 n) ≡ n = to_z-of_z w64 n fits in
    let none : arm_of (OfUnion kind arms) n ≡ None = subst (λ (z : ℤ). arm_of (OfUnion kind arms) z ≡ None) k c.in-None.ensures in
    union_build (types_in c.args.reader.now) c.args.reader.now.order c.args.reader.now.octets.now (scan (types_in c.args.reader.now) c.args.reader.now.order c.args.reader.now.octets.now c.args.fuel) (build (types_in c.args.reader.now) c.args.reader.now.order c.args.reader.now.octets.now c.args.fuel) c.args.room moved (form c.args.shape.now) kind arms (cursor_of c.args.flat.now) (last_of c.args.tail.now) n after None c.requires c.in_ok-tag.ensures.exact c.in_ok-tag.ensures.place none
    ∙ ap (λ (w : ℕ). Err (Tag (after - w))) (sym c.tag_octets.ensures.exact)

pub build_union-returns-in_ok-note-in-Some : goal.build_union-returns-in_ok-note-in-Some
build_union-returns-in_ok-note-in-Some t c = λ moved.
    let n = c.in_ok-tag.tag in
    let after = c.in_ok-tag.after in
    let kind = form c.args.kind.now in
    let arms = arms_of c.args.arms.now in
    let b = body c.in-Some.arm.now.shape in
    let go = build (types_in c.args.reader.now) c.args.reader.now.order c.args.reader.now.octets.now c.args.fuel c.args.room None in
    let fits : SFits w64 n = search rules in
    let k : to_z w64 (of_z w64 n) ≡ n = to_z-of_z w64 n fits in
    let some : arm_of (OfUnion kind arms) n ≡ Some b = subst (λ (z : ℤ). arm_of (OfUnion kind arms) z ≡ Some b) k c.in-Some.ensures in
    let i = after - c.tag_octets.result in
    let e : build_at (types_in c.args.reader.now) c.args.reader.now.order c.args.reader.now.octets.now (scan (types_in c.args.reader.now) c.args.reader.now.order c.args.reader.now.octets.now c.args.fuel) (build (types_in c.args.reader.now) c.args.reader.now.order c.args.reader.now.octets.now c.args.fuel) c.args.room moved (form c.args.shape.now) (cursor_of c.args.flat.now) (last_of c.args.tail.now) ≡ built_arm (Some b) i n (ahead (cursor_of c.args.flat.now) after) (last_of c.note.new.tail) go =
    union_build (types_in c.args.reader.now) c.args.reader.now.order c.args.reader.now.octets.now (scan (types_in c.args.reader.now) c.args.reader.now.order c.args.reader.now.octets.now c.args.fuel) (build (types_in c.args.reader.now) c.args.reader.now.order c.args.reader.now.octets.now c.args.fuel) c.args.room moved (form c.args.shape.now) kind arms (cursor_of c.args.flat.now) (last_of c.args.tail.now) n after (Some b) c.requires c.in_ok-tag.ensures.exact c.in_ok-tag.ensures.place some
    ∙ ap (λ (w : ℕ). built_arm (Some b) (after - w) n (ahead (cursor_of c.args.flat.now) after) (noting (Number (after - w) n ∷ []) (last_of c.args.tail.now)) go) (sym c.tag_octets.ensures.exact)
    ∙ ap (λ (z : ℤ). built_arm (Some b) i n (ahead (cursor_of c.args.flat.now) after) (noting (Number i z ∷ []) (last_of c.args.tail.now)) go) (sym k)
    ∙ ap (λ (q : Last). built_arm (Some b) i n (ahead (cursor_of c.args.flat.now) after) q go) (sym c.in_ok-note-in-Some.ensures) in
    let r = subst (λ (z : ℤ). Gives (λ v. (val v, ends (cursor_of c.build_arm.new.flat) (last_of c.build_arm.new.tail))) c.build_arm.result (built_arm (Some b) i z (ahead (cursor_of c.args.flat.now) after) (last_of c.note.new.tail) go)) k (c.build_arm.ensures i) in
    subst (λ (f : Built). Gives (λ v. (val v, ends (cursor_of c.build_arm.new.flat) (last_of c.build_arm.new.tail))) c.build_arm.result f) (sym e) r

pub build_struct-returns : goal.build_struct-returns
build_struct-returns t c =
    let ss = forms c.args.members.now in
    let own = c.in_ok-own.own in
    let go = build (types_in c.args.reader.now) c.args.reader.now.order c.args.reader.now.octets.now c.args.fuel c.args.room in
    let e : build_at (types_in c.args.reader.now) c.args.reader.now.order c.args.reader.now.octets.now (scan (types_in c.args.reader.now) c.args.reader.now.order c.args.reader.now.octets.now c.args.fuel) (build (types_in c.args.reader.now) c.args.reader.now.order c.args.reader.now.octets.now c.args.fuel) c.args.room c.args.moved (form c.args.shape.now) (cursor_of c.args.flat.now) (last_of c.args.tail.now) ≡ in_struct (built_each go own ss (ahead (cursor_of c.args.flat.now) c.in_ok-own.begin) (last_of c.note_front.new.tail)) =
    struct_build (types_in c.args.reader.now) c.args.reader.now.order c.args.reader.now.octets.now (scan (types_in c.args.reader.now) c.args.reader.now.order c.args.reader.now.octets.now c.args.fuel) (build (types_in c.args.reader.now) c.args.reader.now.order c.args.reader.now.octets.now c.args.fuel) c.args.room c.args.moved own (form c.args.shape.now) ss (cursor_of c.args.flat.now) (last_of c.args.tail.now) c.in_ok-own.begin c.requires (c.in_ok-own.ensures ss c.requires)
    ∙ ap (λ (q : Last). in_struct (built_each go own ss (ahead (cursor_of c.args.flat.now) c.in_ok-own.begin) q)) (sym c.in_ok-note_front.ensures) in
    subst (λ (f : Built). Gives (λ v. (val v, ends (cursor_of c.build_members.new.flat) (last_of c.build_members.new.tail))) c.build_members.result f) (sym e) c.build_members.ensures

pub build_whole-returns-then-stands_alone : goal.build_whole-returns-then-stands_alone
build_whole-returns-then-stands_alone t c =
    subst (λ (f : Found). Gives (λ v. (val v, last_of c.build_alone.new.tail)) c.build_alone.result f)
    (sym (alone_whole (types_in c.args.reader.now) c.args.reader.now.order c.args.reader.now.octets.now c.args.fuel c.args.room (form c.args.shape.now) (last_of c.args.tail.now) (sym c.stands_alone.ensures ∙ c.if-stands_alone.true)))
    c.build_alone.ensures
