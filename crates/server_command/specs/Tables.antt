-- The tables of the services, and how one of an echo is seen, for what stands above them.
pub use Rattle.desk_locks.specs.Tables.{shown_by, tables_with}
