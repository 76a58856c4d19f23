use Rattle.std.proofs.Common.{◌≡◌, ◌+◌, drop, length, slice_get}
use Rattle.std.specs.List.{filter}
use Rattle.idl_rules.specs.TooManyHandles.{is_handle}
use Rattle.idl_check.proofs.handles.handle_behind.Given as goal

-- those passed and those to come are as many as were to come
abbrev pub invariant-loop-one : goal.invariant-loop-one
invariant-loop-one l = record {
  same : slice_get (filter is_handle (drop l.one-index l.declared)) l.left ≡ slice_get (filter is_handle l.declared) l.count;
  passed : length (filter is_handle (drop l.one-index l.declared)) + l.count ≡ length (filter is_handle l.declared) + l.left;
}
