-- What is out with a call id.
use Rattle.std.proofs.Common.{◌≡◌, ℕ, Bool, true, false, cond, eqb, Option, Some, None, refl}
use Rattle.std.specs.Prelude.{◌&&◌, is_some}
use Rattle.std.specs.List.{list_any}
use Rattle.client_core.specs.declared.begun.Out.TheVariants as outs
use Rattle.client_core.specs.States.{ClientState, Calling, is_binding_at, bind_id, has_id, is_id, is_calling, out_with}

no_alter : (b : Bool) → cond b (Some outs.Alter) None ≡ Some outs.Call → ⊥
no_alter true h = cc (h)
no_alter false h = cc (h)

by_tests : (a b : Bool) (id : ℕ) (call : Option Calling) → cond a (Some outs.Bind) (cond (has_id id call) (Some outs.Call) (cond b (Some outs.Alter) None)) ≡ Some outs.Call → is_some call ≡ true
by_tests true b id call h = absurd (cc (h))
by_tests false b id None h = absurd (no_alter b h)
by_tests false b id (Some c) h = refl

pub call_is_out : (s : ClientState) (id : ℕ) → out_with s id ≡ Some outs.Call → is_calling s ≡ true
call_is_out s id h = by_tests (is_binding_at s.stage && eqb id bind_id) (list_any (is_id id) s.alters) id s.call h
