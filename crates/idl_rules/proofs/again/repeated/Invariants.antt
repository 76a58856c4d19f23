use Rattle.std.proofs.Common.{◌≡◌, take}
use Rattle.std.specs.List.{list_any}
use Rattle.idl_rules.specs.declared.again.Key.{Key}
use Rattle.idl_rules.specs.Key.{same_key}
use Rattle.idl_rules.specs.Least.{least}
use Rattle.idl_rules.specs.Places.{repeats}
use Rattle.idl_rules.specs.Seen.{has_key}
use Rattle.idl_rules.proofs.again.repeated.Given as goal

-- those passed were seen
abbrev pub invariant-loop-item : goal.invariant-loop-item
invariant-loop-item g l = record {
  least_is : l.found ≡ least (repeats g.T.Again.same g.T.Again.place_of (take l.item-index l.items));
  seen : (key : Key) → has_key l.seen key ≡ list_any (λ x. same_key (g.T.Again.key_of x) key) (take l.item-index l.items);
}
