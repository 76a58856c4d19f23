-- Values by name.
use Rattle.std.specs.Prelude.{ℕ, List, Option}
use Rattle.std.specs.declared.vec.Vec.{Vec}
use Rattle.std.specs.declared.alloc.Global.{Global}
use Rattle.std.specs.Ordering.{nat_cmp}
use Rattle.std.specs.Cmp.Lexicographic.{slice_cmp}
use Rattle.std.specs.BTreeMap.{BTreeMap, get_by}

-- the value at the name
abbrev pub at_name : {X : Type 0} → BTreeMap (Vec ℕ Global) X → List ℕ → Option X
at_name names name = get_by (λ k. slice_cmp nat_cmp name k.items) names
