use Rattle.std.proofs.Common.{ℕ, ◌-◌, ◌^◌, ◌≤◌, ◌≡◌, length}
use Rattle.group_hub.specs.Passes.{IsPassOf}
use Rattle.server_command.specs.Walks.{Walked}
use Rattle.server_command.proofs.journals.put_journals.Given as goal

abbrev pub invariant-loop-alloc : goal.invariant-loop-alloc
invariant-loop-alloc g l = IsPassOf l.hub l.pass × (1 ≤ l.id) × (length l.over ≡ 16) × Walked l.hub.boot l.initial.pass l.pass l.initial.into.items l.into.items l.id l.over

abbrev pub decreases-loop-alloc : goal.decreases-loop-alloc
decreases-loop-alloc g l = 2 ^ 32 - l.id
