-- The definitions by which a replay is understood, for what stands above it.
pub use Rattle.replay_script.specs.Scripts.{IsScript, DepartsAt}
pub use Rattle.replay_world.specs.Replays.{IsReplay}
pub use Rattle.replay_world.specs.Loads.{IsSummary}
pub use Rattle.replay_groups.specs.Service.{service_of}
