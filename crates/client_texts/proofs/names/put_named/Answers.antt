use Rattle.std.proofs.Common.{◌∷◌, [], ◌++◌, ◌∙◌, ◌≡◌, true, false, refl, ap, sym, List, ℕ}
use Rattle.client_texts.specs.Handles.{name, has_name}
use Rattle.client_texts.proofs.Renamed.{adds_handle, adds_quoted, adds_other, adds_end, empty}
use Rattle.client_texts.proofs.Lacks.{left_handle, left_quoted, left_open, left_other, unnamed}
use Rattle.client_texts.proofs.names.put_named.Goals as goal

pub loop-first-init : goal.loop-first-init
loop-first-init c = record { adds = λ b n. (b, n, refl); left = λ h. h }

pub loop-first-preserved-then-first-eq36 : goal.loop-first-preserved-then-first-eq36
loop-first-preserved-then-first-eq36 c =
    let at = c.in-Some-wire_at.ensures.found in
    let digits = c.cut_digits.ensures in
    let rest_is = c.in-Some.ensures.cases.0 ∙ (ap (λ x. x ∷ c.in-Some.after.now) c.if-first-eq36.true ∙ ap (λ (x : List ℕ). 36 ∷ x) digits.text) in
    let now_is = c.in_ok-put_name.ensures ∙ ap (λ (x : List ℕ). x ++ name c.args.known.now c.in-Some-wire_at.wire) c.in_ok-put.ensures.ok in
    let has : has_name c.args.known.now c.in-Some-wire_at.wire ≡ true = sym c.has_name.ensures ∙ c.if-not-has_name.false in
    record {
      adds =
          rw now_is (adds_handle c.args.known.now c.args.wires.now c.args.text.now c.args.into.now.items at.0 c.in-Some-wire_at.wire c.loop-first.rest.now c.loop-first.into.items c.cut_digits.result.0.now c.cut_digits.result.1.now rest_is at.1 at.2
          has digits.behind c.loop-first.invariant.adds);
      left = λ h. let b = c.loop-first.invariant.left h in
          (left_handle c.args.known.now c.args.wires.now c.loop-first.rest.now b.0 c.cut_digits.result.0.now c.cut_digits.result.1.now c.in-Some-wire_at.ensures.few b.1 rest_is digits.digits digits.behind).left;
    }

pub loop-first-preserved-then-first-eq34 : goal.loop-first-preserved-then-first-eq34
loop-first-preserved-then-first-eq34 c =
    let cut = c.in-Some-cut_at.ensures in
    let rest_is = c.in-Some.ensures.cases.0 ∙ (ap (λ x. x ∷ c.in-Some.after.now) c.if-first-eq34.true ∙ ap (λ (x : List ℕ). 34 ∷ x) cut.0) in
    let now_is = c.in_ok-put-4.ensures.ok ∙ ap (λ (x : List ℕ). x ++ 34 ∷ []) (c.in_ok-put-3.ensures.ok ∙ ap (λ (x : List ℕ). x ++ c.in-Some-cut_at.inside.now) c.in_ok-put-2.ensures.ok) in
    record {
      adds = rw now_is (adds_quoted c.args.known.now c.args.wires.now c.args.text.now c.args.into.now.items c.loop-first.rest.now c.loop-first.into.items c.in-Some-cut_at.inside.now c.in-Some-cut_at.after.now rest_is cut.1 c.loop-first.invariant.adds);
      left = λ h. let b = c.loop-first.invariant.left h in left_quoted c.args.known.now c.args.wires.now c.loop-first.rest.now b.0 c.in-Some-cut_at.inside.now c.in-Some-cut_at.after.now b.1 rest_is cut.1;
    }

pub loop-first-preserved : goal.loop-first-preserved
loop-first-preserved c =
    record {
      adds =
          rw c.in_ok-put-5.ensures.ok (adds_other c.args.known.now c.args.wires.now c.args.text.now c.args.into.now.items c.loop-first.rest.now c.loop-first.into.items c.in-Some.first.now c.in-Some.after.now c.in-Some.ensures.cases.0
          c.if-first-eq36.false c.if-first-eq34.false c.loop-first.invariant.adds);
      left = λ h. let b = c.loop-first.invariant.left h in left_other c.args.known.now c.args.wires.now c.loop-first.rest.now b.0 c.in-Some.first.now c.in-Some.after.now b.1 c.in-Some.ensures.cases.0 c.if-first-eq36.false c.if-first-eq34.false;
    }

pub returns-in_default-wire_at : goal.returns-in_default-wire_at
returns-in_default-wire_at c = λ named n.
    let b = c.loop-first.invariant.left (named, n) in
    let digits = c.cut_digits.ensures in
    let rest_is = c.in-Some.ensures.cases.0 ∙ (ap (λ x. x ∷ c.in-Some.after.now) c.if-first-eq36.true ∙ ap (λ (x : List ℕ). 36 ∷ x) digits.text) in
    let p = left_handle c.args.known.now c.args.wires.now c.loop-first.rest.now b.0 c.cut_digits.result.0.now c.cut_digits.result.1.now c.in_default-wire_at.ensures.few b.1 rest_is digits.digits digits.behind in
    c.in_default-wire_at.ensures.found p.at p.wire p.digits_are p.there

pub returns-then-not-has_name : goal.returns-then-not-has_name
returns-then-not-has_name c = λ named n.
    let b = c.loop-first.invariant.left (named, n) in
    let digits = c.cut_digits.ensures in
    let rest_is = c.in-Some.ensures.cases.0 ∙ (ap (λ x. x ∷ c.in-Some.after.now) c.if-first-eq36.true ∙ ap (λ (x : List ℕ). 36 ∷ x) digits.text) in
    let at = c.in-Some-wire_at.ensures.found in
    let few = c.in-Some-wire_at.ensures.few in
    let p = left_handle c.args.known.now c.args.wires.now c.loop-first.rest.now b.0 c.cut_digits.result.0.now c.cut_digits.result.1.now few b.1 rest_is digits.digits digits.behind in
    let no : has_name c.args.known.now c.in-Some-wire_at.wire ≡ false = sym c.has_name.ensures ∙ c.if-not-has_name.true in
    unnamed c.args.known.now c.args.wires.now p.at at.0 p.wire c.in-Some-wire_at.wire few (p.digits_are ∙ sym at.1) p.there at.2 p.has no

pub returns-in_default-cut_at : goal.returns-in_default-cut_at
returns-in_default-cut_at c = λ named n. let b = c.loop-first.invariant.left (named, n) in
    left_open c.args.known.now c.args.wires.now c.loop-first.rest.now b.0 c.in-Some.after.now b.1 (c.in-Some.ensures.cases.0 ∙ ap (λ x. x ∷ c.in-Some.after.now) c.if-first-eq34.true) c.in_default-cut_at.ensures

pub returns : goal.returns
returns c = adds_end c.args.known.now c.args.wires.now c.args.text.now c.args.into.now.items c.loop-first.rest.now c.loop-first.into.items (empty c.loop-first.rest.now c.in_default.ensures.cases) c.loop-first.invariant.adds
