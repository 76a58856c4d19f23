-- The live handles by serial.
use Rattle.std.specs.Prelude.{ℕ, List}
use Rattle.handle_model.specs.declared.entry.Home.{Home}
use Rattle.handle_model.specs.declared.entry.DueItem.{DueItem}

abbrev pub serial_of : DueItem → ℕ
serial_of i = i.serial

-- whose they are, and the handles by rising serial
pub record Live : Type 0 where
  pub home : Home
  pub items : List DueItem
