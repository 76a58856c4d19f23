-- A desk behind its lock, and the passes that are of it.
use Rattle.std.specs.Prelude.{Bool}
use Rattle.handle_model.specs.declared.entry.DueItem.{DueItem}
use Rattle.manager_api.specs.Answers.{Ans}
use Rattle.manager_api.specs.Calls.{Call}
use Rattle.desk_told.specs.declared.desk.ToldDesk.{ToldDesk}
use Rattle.desk_told.specs.Deeds.{DeedForm}
use Rattle.desk_told.specs.Passes.{PassForm, IsOf, Enters}

module _ {S : Type 0} (may : S → Call → Bool → Ans → S → Type 0) (downs : S → DueItem → S → Type 0) where
  -- a pass of the desk
  abbrev pub IsPassOf : ToldDesk S → PassForm S → Type 0
  IsPassOf desk p = IsOf may downs desk.lock.table.shared.table_id desk.first.value p

  -- the desk did the deed in one turn of the pass p, which has then become q
  abbrev pub Does : ToldDesk S → PassForm S → DeedForm S → PassForm S → Type 0
  Does desk p deed q = Enters may downs desk.first.value p deed q
