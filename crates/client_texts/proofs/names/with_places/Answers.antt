use Rattle.std.proofs.Common.{◌∷◌, [], ◌++◌, ◌∙◌, ap, List, ℕ, length, decimal}
use Rattle.client_texts.proofs.Requests.{goes_handle, goes_quoted, goes_other, goes_end, back_handle, back_quoted, back_other, back_end, on_handle, on_open}
use Rattle.client_texts.proofs.Renamed.{empty}
use Rattle.client_texts.proofs.names.with_places.Goals as goal

pub loop-first-preserved-then-first-eq36 : goal.loop-first-preserved-then-first-eq36
loop-first-preserved-then-first-eq36 c =
    let named = c.in-Some-read_name.ensures.found in
    let rest_is = c.in-Some.ensures.cases.0 ∙ (ap (λ x. x ∷ c.in-Some.after.now) c.if-first-eq36.true ∙ ap (λ (x : List ℕ). 36 ∷ x) named.0) in
    let plain_is = c.in_ok-put_decimal.ensures.ok
    ∙ (ap (λ (x : List ℕ). x ++ decimal c.len.result) c.in_ok-put.ensures.ok ∙ ap (λ n. (c.loop-first.plain.items ++ 36 ∷ []) ++ decimal n) c.len.ensures) in
    rw (c.in_ok-push.ensures.ok, plain_is) record {
      goes = goes_handle c.args.known.now c.args.text.now c.loop-first.wires c.in-Some-read_name.wire c.loop-first.plain.items c.loop-first.rest.now c.in-Some-read_name.after.now rest_is named.2 named.1 c.loop-first.invariant.goes;
      back = back_handle c.args.known.now c.args.text.now c.read_name.ensures.few c.loop-first.wires c.in-Some-read_name.wire c.loop-first.plain.items c.loop-first.rest.now c.in-Some-read_name.after.now rest_is named.2 named.1 c.loop-first.invariant.back;
    }

pub loop-first-preserved-then-first-eq34 : goal.loop-first-preserved-then-first-eq34
loop-first-preserved-then-first-eq34 c =
    let cut = c.in-Some-cut_at.ensures in
    let rest_is = c.in-Some.ensures.cases.0 ∙ (ap (λ x. x ∷ c.in-Some.after.now) c.if-first-eq34.true ∙ ap (λ (x : List ℕ). 34 ∷ x) cut.0) in
    let plain_is = c.in_ok-put-4.ensures.ok ∙ ap (λ (x : List ℕ). x ++ 34 ∷ []) (c.in_ok-put-3.ensures.ok ∙ ap (λ (x : List ℕ). x ++ c.in-Some-cut_at.inside.now) c.in_ok-put-2.ensures.ok) in
    rw plain_is record {
      goes = goes_quoted c.args.known.now c.args.text.now c.loop-first.wires c.loop-first.plain.items c.loop-first.rest.now c.in-Some-cut_at.inside.now c.in-Some-cut_at.after.now rest_is cut.1 c.loop-first.invariant.goes;
      back = back_quoted c.args.known.now c.args.text.now c.loop-first.wires c.loop-first.plain.items c.loop-first.rest.now c.in-Some-cut_at.inside.now c.in-Some-cut_at.after.now rest_is cut.1 c.loop-first.invariant.back;
    }

pub loop-first-preserved : goal.loop-first-preserved
loop-first-preserved c =
    rw c.in_ok-put-5.ensures.ok record {
      goes = goes_other c.args.known.now c.args.text.now c.loop-first.wires c.loop-first.plain.items c.loop-first.rest.now c.in-Some.first.now c.in-Some.after.now c.in-Some.ensures.cases.0 c.if-first-eq36.false c.if-first-eq34.false c.loop-first.invariant.goes;
      back = back_other c.args.known.now c.args.text.now c.loop-first.wires c.loop-first.plain.items c.loop-first.rest.now c.in-Some.first.now c.in-Some.after.now c.in-Some.ensures.cases.0 c.if-first-eq36.false c.if-first-eq34.false c.loop-first.invariant.back;
    }

pub returns : goal.returns
returns c = (
  goes_end c.args.known.now c.args.text.now c.loop-first.wires c.loop-first.plain.items c.loop-first.rest.now (empty c.loop-first.rest.now c.in_default.ensures.cases) c.loop-first.invariant.goes,
  back_end c.args.known.now c.args.text.now c.loop-first.wires c.loop-first.plain.items c.loop-first.rest.now (empty c.loop-first.rest.now c.in_default.ensures.cases) c.loop-first.invariant.back,
)

pub returns-in_default-read_name : goal.returns-in_default-read_name
returns-in_default-read_name c = λ ws p n.
    let l = c.loop-first.invariant.back ws p n in
    let rest_is = c.in-Some.ensures.cases.0 ∙ ap (λ x. x ∷ c.in-Some.after.now) c.if-first-eq36.true in
    let h = on_handle c.args.known.now (length c.loop-first.wires) l.more l.places c.loop-first.rest.now c.in-Some.after.now l.named rest_is in
    c.in_default-read_name.ensures.found h.wire h.after h.text_is h.stops h.has

pub returns-in_default-cut_at : goal.returns-in_default-cut_at
returns-in_default-cut_at c = λ ws p n.
    let l = c.loop-first.invariant.back ws p n in
    let rest_is = c.in-Some.ensures.cases.0 ∙ ap (λ x. x ∷ c.in-Some.after.now) c.if-first-eq34.true in
    on_open c.args.known.now (length c.loop-first.wires) l.more l.places c.loop-first.rest.now c.in-Some.after.now l.named rest_is c.in_default-cut_at.ensures
