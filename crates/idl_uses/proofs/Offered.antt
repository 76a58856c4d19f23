-- What a list offers is what the rule asks for.
use Rattle.std.proofs.Common.{◌≡◌, ℕ, Bool, true, false, ◌&&◌, ◌||◌, List, [], ◌∷◌, refl, ap, sym, ◌∙◌}
use Rattle.std.specs.Prelude.{bytes_eq, not}
use Rattle.std.specs.List.{list_any}
use Rattle.idl_outline.specs.declared.field.Declared.{Declared}
use Rattle.idl_outline.specs.declared.field.Field.{Field}
use Rattle.idl_outline.specs.declared.field.NameRef.{NameRef}
use Rattle.idl_rules.specs.declared.asked.Asked.{Asked}
use Rattle.idl_rules.specs.declared.asked.Asked.TheVariants as asks
use Rattle.idl_rules.specs.Types.{has, says_in, is_parameter}
use Rattle.idl_rules.specs.SizeName.{is_of, is_it, offers}
use Rattle.idl_uses.specs.declared.offers.Want.{Want}
use Rattle.idl_uses.specs.Offers.{meets, want, offer_of, offers_as}

and_in : (a k : Bool) → k && a ≡ a && (k || false)
and_in true true = refl
and_in true false = refl
and_in false true = refl
and_in false false = refl

and_any : (a k : Bool) → a ≡ a && (k || true)
and_any true true = refl
and_any true false = refl
and_any false true = refl
and_any false false = refl

meets_is : (k : Asked) (star inward : Bool) (g : Field) (d : Declared) → meets (offer_of g d) (record { asked = k; star = star; inward = inward }) ≡ is_of k star g d && (has says_in g || not inward)
meets_is asks.Integer true true g d = and_in (is_of asks.Integer true g d) (has says_in g)
meets_is asks.Integer false true g d = and_in (is_of asks.Integer false g d) (has says_in g)
meets_is asks.Tag true true g d = and_in (is_of asks.Tag true g d) (has says_in g)
meets_is asks.Tag false true g d = and_in (is_of asks.Tag false g d) (has says_in g)
meets_is asks.Integer true false g d = and_any (is_of asks.Integer true g d) (has says_in g)
meets_is asks.Integer false false g d = and_any (is_of asks.Integer false g d) (has says_in g)
meets_is asks.Tag true false g d = and_any (is_of asks.Tag true g d) (has says_in g)
meets_is asks.Tag false false g d = and_any (is_of asks.Tag false g d) (has says_in g)

spread : (e o a k : Bool) → (e && (o && k)) || (a && k) ≡ ((e && o) || a) && k
spread true true true true = refl
spread true true true false = refl
spread true true false true = refl
spread true true false false = refl
spread true false a k = refl
spread false o a k = refl

each : (k : Asked) (f : Field) (n : NameRef) (g : Field) (ds : List Declared) → list_any (offers_as n.name.text (want k f n) g) ds ≡ list_any (is_it k n g) ds && (has says_in g || not (is_parameter f.place && has says_in f))
each k f n g [] = refl
each k f n g (d ∷ ds) =
    (λ j. (bytes_eq d.name.text n.name.text && meets_is k n.star (is_parameter f.place && has says_in f) g d j) || each k f n g ds j)
    ∙ spread (bytes_eq d.name.text n.name.text) (is_of k n.star g d) (list_any (is_it k n g) ds) (has says_in g || not (is_parameter f.place && has says_in f))

pub offered_by : (k : Asked) (f : Field) (n : NameRef) (list : List Field) → list_any (λ g. list_any (offers_as n.name.text (want k f n) g) g.declared) list ≡ list_any (offers k f n) list
offered_by k f n [] = refl
offered_by k f n (g ∷ gs) = λ j. each k f n g g.declared j || offered_by k f n gs j
