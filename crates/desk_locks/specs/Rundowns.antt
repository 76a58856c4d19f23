-- What a run-down leaves at the services.
use Rattle.std.specs.Prelude.{◌≡◌, is_some}
use Rattle.handle_model.specs.declared.entry.DueItem.{DueItem}
use Rattle.desk_told.specs.Deeds.{ran_down}
use Rattle.desk_locks.specs.declared.pass.SharedPass.{SharedPass}
use Rattle.desk_locks.specs.declared.shared.SharedDesks.{SharedDesks}
use Rattle.desk_locks.specs.Keepers.{Place, at_probe, at_store, at_endpoints, at_management, at_echo, place_for}
use Rattle.desk_locks.specs.Passes.{ProbeDoes, StoreDoes, MapDoes}

-- whoever keeps something behind the handle runs it down, in a turn of the pass
abbrev pub RanAt : Place → SharedDesks → SharedPass → DueItem → SharedPass → Type 0
RanAt at_probe d p item q = ProbeDoes d p (ran_down item) q
RanAt at_store d p item q = StoreDoes d p (ran_down item) q
RanAt at_endpoints d p item q = MapDoes d p (ran_down item) q
RanAt at_management d p item q = q ≡ p
RanAt at_echo d p item q = q ≡ p

-- that is the service of the handle's kind
abbrev pub RanDown : SharedDesks → SharedPass → DueItem → SharedPass → Type 0
RanDown d p item q = RanAt (place_for (is_some d.echo) item.kind) d p item q
