-- The refusal for a limit that is reached.
use Rattle.handle_model.specs.declared.limits.AcceptLimit.{AcceptLimit}
use Rattle.handle_model.specs.declared.limits.AcceptLimit.TheVariants as limit
use Rattle.group_core.specs.declared.answer.AcceptRefusal.{AcceptRefusal}
use Rattle.group_core.specs.declared.answer.AcceptRefusal.TheVariants as refusal

abbrev pub refusal_of : AcceptLimit → AcceptRefusal
refusal_of limit.Calls = refusal.Calls
refusal_of limit.Handles = refusal.Handles
refusal_of limit.Numbers = refusal.Numbers
