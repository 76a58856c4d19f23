-- Parameters that are read stand one behind the other.
use Rattle.std.proofs.Common.{◌≡◌, ℕ, ◌+◌, ◌-◌, ◌≤◌, List, [], ◌∷◌, length, Ok, refl, subst}
use Rattle.std.specs.Prelude.{nat_lt}
use Rattle.std.proofs.lemmas.Bool.{ltb-false}
use Rattle.rpc_base.specs.declared.identifiers.Order.{Order}
use Rattle.ndr_value.specs.Forms.{Form}
use Rattle.ndr_value.specs.Values.{Vals, no_val, then_val}
use Rattle.ndr_arrays.specs.Bind.{◌>>=◌}
use Rattle.ndr_arrays.proofs.Steps.{bind_ok, unless_ok, ok_is}
use Rattle.ndr_model.specs.declared.departure.Departure.{Departure}
use Rattle.ndr_model.specs.declared.departure.Departure.TheVariants.{Trailing}
use Rattle.ndr_model.specs.Places.{Last, noting}
use Rattle.ndr_model.specs.Stub.{Entry, range_marks, start, Follow}
use Rattle.ndr_model.specs.Build.{whole, follows, no_more, read_values}
use Rattle.ndr_model.proofs.Sound.{whole_stands}

module _ (types : List Form) (order : Order) (octets : List ℕ) where
  follows_stand : (n : ℕ) (es : List Entry) (q : Last) (x : Vals × Last) → follows types order octets n es q ≡ Ok x → Follow types order octets es x.0 q x.1
  follows_stand n [] q x e =
      subst (λ (y : Vals × Last). Follow types order octets [] y.0 q y.1) (ok_is Departure (no_val, q) x e) refl
  follows_stand n (s ∷ es) q x e =
      let a = bind_ok (whole types order octets n 256 s.shape q) (λ y. follows types order octets n es (noting (range_marks s q.here.at) y.1) >>= λ z. Ok (then_val y.0 z.0, z.1)) x e in
      let b = bind_ok (follows types order octets n es (noting (range_marks s q.here.at) a.0.1)) (λ z. Ok (then_val a.0.0 z.0, z.1)) x a.2 in
      subst (λ (y : Vals × Last). Follow types order octets (s ∷ es) y.0 q y.1) (ok_is Departure (then_val a.0.0 b.0.0, b.0.1) x b.2)
      (a.0.1, whole_stands types order octets n 256 s.shape q a.0 a.1, follows_stand n es (noting (range_marks s q.here.at) a.0.1) b.0 b.1)

  pub values_stand : (fuel : ℕ) (es : List Entry) (x : Vals × Last) → read_values types order octets fuel es ≡ Ok x → Follow types order octets es x.0 start x.1 × (length octets ≤ x.1.here.at + 7)
  unfolding read_values
  values_stand fuel es x e =
      let a = bind_ok (follows types order octets fuel es start) (λ y. no_more types order octets y) x e in
      let u = unless_ok (nat_lt (a.0.1.here.at + 7) (length octets)) (Trailing (length octets - a.0.1.here.at)) (Ok a.0) x a.2 in
      subst (λ (y : Vals × Last). Follow types order octets es y.0 start y.1 × (length octets ≤ y.1.here.at + 7)) (ok_is Departure a.0 x u.1)
      (follows_stand fuel es start a.0 a.1, ltb-false _ _ u.0)
