use Rattle.std.proofs.Common.{◌≡◌, ◌||◌, ◌+◌, [], ◌∷◌, ◌++◌, take, ap, sym, ◌∙◌, arith}
use Rattle.std.proofs.lemmas.List.{take_more}
use Rattle.idl_rules.specs.Key.{same_key}
use Rattle.idl_rules.specs.Least.{lesser, least}
use Rattle.idl_rules.specs.Places.{at_if}
use Rattle.idl_rules.specs.Seen.{has_key}
use Rattle.idl_rules.proofs.Seen.{least_more, any_more, any_by_key}
use Rattle.idl_rules.proofs.again.repeated.Goals as goal

pub loop-item-preserved : goal.loop-item-preserved
loop-item-preserved g c =
    let xs = c.args.items.now in
    let i = c.loop-item.item-index in
    let y = c.item-item.result in
    let same = g.T.Again.same in
    let key = g.T.Again.key_of in
    let taken : take (i + 1) xs ≡ take i xs ++ y ∷ [] = take_more xs i y (omega arith) ∙ ap (λ z. take i xs ++ z ∷ []) (sym c.item-item.is) in
    record {
      least_is = least_more same g.T.Again.place_of (take i xs) (take (i + 1) xs) y c.loop-item.found c.lesser-found.result c.in_ok-again.again taken
          c.loop-item.invariant.least_is
          (c.in_ok-again.ensures.before ∙ (ap (has_key c.loop-item.seen) c.key.ensures ∙ (c.loop-item.invariant.seen (key y) ∙ any_by_key same key g.met.T.Again.by_key (take i xs) y)))
          (c.lesser-found.ensures ∙ ap (lesser c.loop-item.found) (c.place_if.ensures ∙ ap (λ n. least (at_if c.in_ok-again.again n)) c.place.ensures));
      seen = λ k. any_more (λ x. same_key (key x) k) (take i xs) (take (i + 1) xs) y (has_key c.loop-item.seen k) (has_key c.was_key.new.seen k) taken (c.loop-item.invariant.seen k)
          (c.in_ok-again.ensures.now k ∙ ap (λ q. same_key q k || has_key c.loop-item.seen k) c.key.ensures);
    }
