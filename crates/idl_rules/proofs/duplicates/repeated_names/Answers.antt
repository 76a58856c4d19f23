use Rattle.std.proofs.Common.{◌≡◌, ◌+◌, [], ◌∷◌, ◌++◌, take, ap, sym, ◌∙◌, arith}
use Rattle.std.specs.Prelude.{bytes_eq}
use Rattle.std.proofs.lemmas.List.{take_more}
use Rattle.idl_rules.specs.Least.{lesser}
use Rattle.idl_rules.specs.Duplicate.{same_name, place_of}
use Rattle.idl_rules.specs.Seen.{has_name}
use Rattle.idl_rules.proofs.Seen.{least_more, any_more}
use Rattle.idl_rules.proofs.duplicates.repeated_names.Goals as goal

pub loop-name-preserved : goal.loop-name-preserved
loop-name-preserved c =
    let xs = c.args.names.now in
    let i = c.loop-name.name-index in
    let y = c.name-item.result in
    let taken : take (i + 1) xs ≡ take i xs ++ y ∷ [] = take_more xs i y (omega arith) ∙ ap (λ z. take i xs ++ z ∷ []) (sym c.name-item.is) in
    record {
      least_is = least_more same_name place_of (take i xs) (take (i + 1) xs) y c.loop-name.found c.lesser-found.result c.in_ok-again.again taken
          c.loop-name.invariant.least_is (c.in_ok-again.ensures.before ∙ c.loop-name.invariant.seen y.text) (c.lesser-found.ensures ∙ ap (lesser c.loop-name.found) c.place_if.ensures);
      seen = λ text. any_more (λ n. bytes_eq n.text text) (take i xs) (take (i + 1) xs) y (has_name c.loop-name.seen text) (has_name c.was_seen.new.seen text) taken (c.loop-name.invariant.seen text) (c.in_ok-again.ensures.now text);
    }
