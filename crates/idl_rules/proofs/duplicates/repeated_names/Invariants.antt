use Rattle.std.proofs.Common.{◌≡◌, ℕ, List, take}
use Rattle.std.specs.Prelude.{bytes_eq}
use Rattle.std.specs.List.{list_any}
use Rattle.idl_rules.specs.Least.{least}
use Rattle.idl_rules.specs.Places.{repeats}
use Rattle.idl_rules.specs.Duplicate.{same_name, place_of}
use Rattle.idl_rules.specs.Seen.{has_name}
use Rattle.idl_rules.proofs.duplicates.repeated_names.Given as goal

-- those passed were seen
abbrev pub invariant-loop-name : goal.invariant-loop-name
invariant-loop-name l = record {
  least_is : l.found ≡ least (repeats same_name place_of (take l.name-index l.names));
  seen : (text : List ℕ) → has_name l.seen text ≡ list_any (λ n. bytes_eq n.text text) (take l.name-index l.names);
}
