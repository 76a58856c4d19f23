use Rattle.std.proofs.Common.{◌≡◌, ◌≤◌, ℕ, arith, sym, ◌∙◌, ap, subst, refl}
use Rattle.std.proofs.lemmas.Fmt.{decimal_injective}
use Rattle.client_texts.specs.Handles as spec
use Rattle.client_texts.proofs.Apart.{at_place, among_is, few_of, small_place, null_from, came_is, clash}
use Rattle.client_texts.proofs.names.came_at.Goals as goal
use Rattle.client_texts.proofs.names.came_at.Goals.{then-is_null-via-then-is_null, then-is_null-via-else-is_null+then-not-has_name, then-is_null-via-else-is_null+else-not-has_name+then-place-number}

pub returns-in_err-number-clause-found : goal.returns-in_err-number-clause-found
returns-in_err-number-clause-found c =
    rw c.from_residual.ensures (λ w n h e.
    let few = few_of c.args.known.now c.args.count c.ranges.count.fits c.requires in
    c.in_err-number.ensures (spec.place c.args.known.now w) (small_place c.args.known.now few w (among_is c.args.known.now w n h)) e)

pub returns-in_err-at-clause-found : goal.returns-in_err-at-clause-found
returns-in_err-at-clause-found c =
    rw c.from_residual-in_err-at.ensures (λ w n h e.
    let few = few_of c.args.known.now c.args.count c.ranges.count.fits c.requires in
    let a = among_is c.args.known.now w n h in
    let s = small_place c.args.known.now few w a in
    let p : spec.place c.args.known.now w ≡ c.in_ok-number.number = decimal_injective (spec.place c.args.known.now w) c.in_ok-number.number s c.in_ok-number.ensures.0 (e ∙ sym c.in_ok-number.ensures.1) in
    let some = (at_place c.args.known.now w a).some in
    c.in_err-at.ensures (subst (λ (m : ℕ). 1 ≤ m) p some))

pub returns-then-at-count-clause-found : goal.returns-then-at-count-clause-found
returns-then-at-count-clause-found c = λ w n h e.
    let few = few_of c.args.known.now c.args.count c.ranges.count.fits c.requires in
    let a = among_is c.args.known.now w n h in
    let s = small_place c.args.known.now few w a in
    let p : spec.place c.args.known.now w ≡ c.in_ok-number.number = decimal_injective (spec.place c.args.known.now w) c.in_ok-number.number s c.in_ok-number.ensures.0 (e ∙ sym c.in_ok-number.ensures.1) in
    let most = (at_place c.args.known.now w a).most in
    let is = c.requires in
    let k = c.if-at-count.true in
    let m = c.in_ok-at.ensures.0 in
    let o = c.in_ok-at.ensures.1 in
    omega (arith, p, most, is, k, m, o)

pub returns-then-is_null-clause-found : goal.returns-then-is_null-clause-found
returns-then-is_null-clause-found c = λ w n h e.
    let few = few_of c.args.known.now c.args.count c.ranges.count.fits c.requires in
    let a = among_is c.args.known.now w n h in
    let s = small_place c.args.known.now few w a in
    let p : spec.place c.args.known.now w ≡ c.in_ok-number.number = decimal_injective (spec.place c.args.known.now w) c.in_ok-number.number s c.in_ok-number.ensures.0 (e ∙ sym c.in_ok-number.ensures.1) in
    let same = came_is c.args.known.now w c.in_ok-number.number c.in_ok-at.at c.at-wire.result a p c.in_ok-at.ensures.1 c.at-wire.ensures in
    elim c.then-is_null.branch [
      | then-is_null-via-then-is_null x ↦
          clash (spec.is_null w) (null_from _ w (x.if-is_null.ensures.0 refl).0 (x.if-is_null.ensures.0 refl).1 same) n
      | then-is_null-via-else-is_null+then-not-has_name x ↦
          clash (spec.has_name c.args.known.now w) h (ap (spec.has_name c.args.known.now) (sym same) ∙ (sym x.has_name.ensures ∙ x.if-not-has_name.true))
      | then-is_null-via-else-is_null+else-not-has_name+then-place-number x ↦
          x.if-place-number.true (x.place.ensures ∙ (ap (spec.place c.args.known.now) same ∙ p))
    ]
