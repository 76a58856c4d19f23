use Rattle.std.proofs.Common.{◌≡◌, drop, slice_get}
use Rattle.idl_rules.specs.TooManyHandles.{place_if, handles}
use Rattle.idl_check.proofs.handles.place_of_handle.Given as goal

abbrev pub invariant-loop-field : goal.invariant-loop-field
invariant-loop-field l = place_if (slice_get (handles (drop l.field-index l.fields)) l.left) ≡ place_if (slice_get (handles l.fields) l.count)
