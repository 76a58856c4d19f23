-- What a connection's pass has, call by call.
use Rattle.std.proofs.Common.{◌≡◌, ◌≢◌, ℕ, zero, suc, List, [], ◌∷◌, ◌++◌, length, map, length-append, refl, sym, ap, ◌∙◌, subst, arith, append_assoc}
use Rattle.std.proofs.lemmas.List.{map-append}
use mathlib.Core.Option.{some, some-ne-none}
use mathlib.Core.Logic.{dite}
use native.Mathlib.Decide.{ℕ_discrete}
use lib.ListN.{get_elem?}
use Rattle.turn_lock.specs.Histories.{StartsWith, places}
use Rattle.turn_lock.proofs.AddingLemmas.{at_behind}
use Rattle.hub_story.specs.declared.item.Item.{Item}
use Rattle.hub_story.specs.Passes.{Seen}
use Rattle.hub_story.specs.Calls.{Enters}
use Rattle.group_hub.specs.declared.pass.Pass.{Pass}
use Rattle.group_hub.specs.Passes.{at_shard}
use Rattle.server_ends.specs.Owning.{Owns, Grown}

at_more : (log more : List Item) (p : ℕ) (a : Item) → get_elem? log p ≡ some a → get_elem? (log ++ more) p ≡ some a
at_more [] more p a h = absurd (some-ne-none a (sym h))
at_more (x ∷ log) more zero a h = h
at_more (x ∷ log) more (suc p) a h = at_more log more p a h

head_is : {A : Type 0} (x y : A) (xs ys : List A) → x ∷ xs ≡ y ∷ ys → x ≡ y
head_is x y xs ys h = cc

tail_is : {A : Type 0} (x y : A) (xs ys : List A) → x ∷ xs ≡ y ∷ ys → xs ≡ ys
tail_is x y xs ys h = cc

stand_more : (log more : List Item) (ps : List ℕ) (items : List Item) → map (λ p. get_elem? log p) ps ≡ map some items → map (λ p. get_elem? (log ++ more) p) ps ≡ map some items
stand_more log more [] items h = h
stand_more log more (p ∷ ps) [] h = absurd cc
stand_more log more (p ∷ ps) (a ∷ items) h = λ i. at_more log more p a (head_is _ _ _ _ h) i ∷ stand_more log more ps items (tail_is _ _ _ _ h) i

stand_new : (log items : List Item) → map (λ p. get_elem? (log ++ items) p) (places (length log) (length items)) ≡ map some items
stand_new log [] = refl
stand_new log (a ∷ items) =
    let same = append_assoc log (a ∷ []) items in
    let long : suc (length log) ≡ length (log ++ a ∷ []) = omega (arith, length-append log (a ∷ [])) in
    let first : get_elem? (log ++ a ∷ items) (length log) ≡ some a = subst (λ (n : ℕ). get_elem? (log ++ a ∷ items) n ≡ some a) (omega arith) (at_behind log (a ∷ items) 0) in
    let rest = stand_new (log ++ a ∷ []) items in
    λ i. first i ∷ (subst (λ (z : List Item × ℕ). map (λ p. get_elem? z.0 p) (places z.1 (length items)) ≡ map some items) (λ j. (same j, sym long j)) rest) i

pub owns_more : (boot s : ℕ) (v w0 w1 : Seen) (items between more : List Item) → Owns v w0 items → Enters boot s w0 w1 between more → Owns v w1 (items ++ more)
owns_more boot s v w0 w1 items between more o e =
    let n : ℕ = length (w0.log ++ between) in
    let get : ℕ → mathlib.Core.Option.Option Item = λ p. get_elem? w1.log p in
    let all = append_assoc w0.log between more in
    let old : map get o.0 ≡ map some items = subst (λ l. map (λ p. get_elem? l p) o.0 ≡ map some items) (sym (e.log ∙ all)) (stand_more w0.log (between ++ more) o.0 items o.2) in
    let new : map get (places n (length more)) ≡ map some more = subst (λ l. map (λ p. get_elem? l p) (places n (length more)) ≡ map some more) (sym e.log) (stand_new (w0.log ++ between) more) in (
      o.0 ++ places n (length more),
      e.own ∙ (ap (λ l. l ++ places n (length more)) o.1 ∙ append_assoc v.own o.0 (places n (length more))),
      map-append get o.0 (places n (length more)) ∙ ((λ i. old i ++ new i) ∙ sym (map-append some items more)),
    )

pub starts_on : (boot s : ℕ) (v w0 w1 : Seen) (between more : List Item) → StartsWith w0.log v.log → Enters boot s w0 w1 between more → StartsWith w1.log v.log
starts_on boot s v w0 w1 between more h e = (
  h.0 ++ (between ++ more),
  e.log ∙ (append_assoc w0.log between more ∙ (ap (λ l. l ++ (between ++ more)) h.1 ∙ append_assoc v.log h.0 (between ++ more))),
)

-- a call at the shard enters further items there
pub grown_more : (boot s : ℕ) (p q r : Pass) (items between more : List Item) → Grown s p q items → Enters boot s (at_shard q s) (at_shard r s) between more
    → ((t : ℕ) → t ≢ s → at_shard r t ≡ at_shard q t) → Grown s p r (items ++ more)
grown_more boot s p q r items between more g e others = record {
  fronts = λ t low. dite (ℕ_discrete t s)
      (λ same. subst (λ (x : ℕ). StartsWith (at_shard r x).log (at_shard p x).log) (sym same) (starts_on boot s (at_shard p s) (at_shard q s) (at_shard r s) between more (subst (λ (x : ℕ). StartsWith (at_shard q x).log (at_shard p x).log) same (g.fronts t low)) e))
      (λ apart. subst (λ (v : Seen). StartsWith v.log (at_shard p t).log) (sym (others t apart)) (g.fronts t low));
  owns = owns_more boot s (at_shard p s) (at_shard q s) (at_shard r s) items between more g.owns e;
  others = λ t low apart. ap (λ (v : Seen). v.own) (others t apart) ∙ g.others t low apart;
}
