-- What those that are the same have in common.
use Rattle.std.specs.Prelude.{Bool, true, false}
use Rattle.std.specs.Ordering.{int_eq}
use Rattle.idl_rules.specs.declared.again.Key.{Key}
use Rattle.idl_rules.specs.declared.again.Key.TheVariants as keys

abbrev pub same_key : Key → Key → Bool
same_key (keys.Number a) (keys.Number b) = int_eq a b
same_key keys.Word keys.Word = true
same_key _ _ = false
