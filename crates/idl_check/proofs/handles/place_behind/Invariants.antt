use Rattle.std.proofs.Common.{◌≡◌, drop, slice_get}
use Rattle.idl_rules.specs.TooManyHandles.{place_if, declared_of}
use Rattle.idl_check.proofs.handles.place_behind.Given as goal

abbrev pub invariant-loop-field : goal.invariant-loop-field
invariant-loop-field l = place_if (slice_get (declared_of (drop l.field-index l.fields)) l.left) ≡ place_if (slice_get (declared_of l.fields) l.count)
