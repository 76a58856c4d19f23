-- The tables of the services, and how one of an echo is seen, for what stands above them.
pub use Rattle.desk_service.specs.Shows.{shown_by}
pub use Rattle.desk_service.specs.State.{tables_with}
