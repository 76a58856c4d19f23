-- What a connection that is being served will come to.
use Rattle.std.specs.Prelude.{◌≡◌, ℕ, Bool, List}
use Rattle.rpc_outside.specs.Links.{Shown, IsNew}
use Rattle.ndr_table.specs.Tables.{TableForm}
use Rattle.manager_api.specs.Answers.{Ans}
use Rattle.manager_api.specs.Calls.{Call}
use Rattle.server_ends.specs.declared.ended.Finished.{Finished}
use Rattle.server_rounds.specs.declared.running.Promised.{Promised}
use Rattle.server_rounds.specs.declared.running.Place.{Place}
use Rattle.server_rounds.specs.declared.running.Place.TheVariants.{There, Here}
use Rattle.server_rounds.specs.Served.{IsServed}

module _ {S K P : Type 0} (shows : K → Shown) (may : S → Call → Bool → Ans → Type 0) (tables : S → List TableForm) where
  abbrev pub Keeps : Promised S K P → Finished K → Type 0
  Keeps p r = IsServed shows (may p.service.value) (tables p.service.value) p.hub.value p.began.value p.came.value r

  abbrev pub WillKeep : Place S K P → Promised S K P → Type 0
  WillKeep (There handle) p = (r : Finished K) → Keeps handle.promise r → Keeps p r
  WillKeep (Here e) p = Keeps p e.finished
