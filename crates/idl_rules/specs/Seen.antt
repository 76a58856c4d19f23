-- The names and keys that were seen.
use Rattle.std.specs.Prelude.{ℕ, ℤ, Bool, false, List}
use Rattle.std.specs.declared.vec.Vec.{Vec}
use Rattle.std.specs.declared.alloc.Global.{Global}
use Rattle.std.specs.Ordering.{nat_cmp, int_cmp}
use Rattle.std.specs.Cmp.Lexicographic.{slice_cmp}
use Rattle.std.specs.BTreeSet.{BTreeSet, contains_by}
use Rattle.idl_rules.specs.declared.again.Key.{Key}
use Rattle.idl_rules.specs.declared.again.Key.TheVariants as keys
use Rattle.idl_rules.specs.declared.again.Seen.{Seen}

abbrev pub has_name : BTreeSet (Vec ℕ Global) → List ℕ → Bool
has_name seen text = contains_by (λ k. slice_cmp nat_cmp text k.items) seen

abbrev pub has_number : BTreeSet ℤ → ℤ → Bool
has_number seen z = contains_by (int_cmp z) seen

abbrev pub has_key : Seen → Key → Bool
has_key seen (keys.Number z) = has_number seen.numbers z
has_key seen keys.Word = seen.word
has_key seen keys.Own = false
