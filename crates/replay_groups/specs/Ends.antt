-- What the end of a running call comes to.
use Rattle.std.specs.Prelude.{◌≢◌, ℕ, Option, List}
use Rattle.handle_model.specs.declared.entry.Asked.{Asked}
use Rattle.handle_model.specs.declared.entry.Said.{Said}
use Rattle.handle_model.specs.declared.entry.Said.TheVariants.{Fault}
use Rattle.handle_model.specs.declared.entry.Outcome.{Outcome}
use Rattle.handle_model.specs.declared.entry.Entry.TheVariants.{End}
use Rattle.ndr_table.specs.Tables.{TableForm}
use Rattle.desk_counts.specs.Numbers.{Numbers}
use Rattle.group_core.specs.Stages.{is_asked}
use Rattle.conn_histories.specs.Requests.{no_memory}
use Rattle.conn_histories.specs.Ends.{Meets}
use Rattle.desk_service.specs.State.{Services, tables_with}
use Rattle.replay_groups.specs.Rows.{AreIn, MayAnswer}
use Rattle.replay_world.specs.declared.peer.Member.{Member}
use Rattle.replay_world.specs.Worlds.{World, home_of, journal}
use Rattle.replay_world.specs.Groups.{SettlesIn}
use Rattle.replay_groups.specs.Service.{service_of}

-- A running call ends as its manager answers it, with the cookies of its Take.
pub record EndsIn (m : Member) (k : ℕ) (a : Asked) (row : List (Option ℕ)) (numbers : Numbers) (said : Said) (echo : Option TableForm) (w v : World Services) : Type 0 where
  pub desks : Services
  pub results : List Outcome
  pub meets : (cookies : List (Option ℕ)) → AreIn row a.slots cookies
      → Meets (home_of w m.group) (tables_with echo) (MayAnswer w.desks numbers (is_asked (journal w m.group) k) desks) a cookies (is_asked (journal w m.group) k) results said
  pub memory : said ≢ Fault no_memory
  pub settles : SettlesIn (service_of echo) (record w { desks = desks }) m.group (End k results said) v
