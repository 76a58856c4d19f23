-- Further entries are legal after a base that says what a journal says.
use Rattle.std.proofs.Common.{◌≡◌, ◌∙◌, sym, List, [], ◌∷◌, ap}
use Rattle.handle_model.specs.declared.entry.Entry.{Entry}
use Rattle.handle_model.specs.declared.base.Base.{Base}
use Rattle.handle_model.specs.History.{History, since, size}
use Rattle.handle_model.specs.Sound.{IsSoundBase}
use Rattle.handle_model.specs.Journal.{Legal, Allowed}
use Rattle.handle_model.specs.Further.{with_entries}
use Rattle.journal_tables.specs.Tables.{Admits, entered}
use Rattle.journal_tables.specs.Shown.{tables_of}
use Rattle.journal_tables.proofs.Shown.{admits_shown, follows, base_shown}
use Rattle.journal_tables.specs.Unplaced.{unplaced}
use Rattle.journal_tables.specs.Folding.{Stands, GoesOn}
use Rattle.journal_tables.proofs.Places.{admits_alike, entered_alike}

pub goes_on : (j : History) (base : Base) (newer : List Entry) → IsSoundBase j.home base → Stands base j → Legal (with_entries j newer) → GoesOn base j newer
goes_on j base [] s q l = record { legal = s; tables = ap unplaced (base_shown j.home base s) ∙ q }
goes_on j base (e ∷ newer) s q l =
    let before = goes_on j base newer s q l.1 in
    let old : History = with_entries j newer in
    let new : History = since j.home base newer in
    let admitted : Admits (tables_of old) e = (admits_shown old e l.1).1 l.0 in
    let allowed : Allowed new e = (admits_shown new e before.legal).0 (admits_alike (tables_of old) (tables_of new) e (sym before.tables) admitted) in
    let legal : Legal (since j.home base (e ∷ newer)) = (allowed, before.legal) in
    record {
      legal = legal;
      tables = ap unplaced (follows new e legal) ∙ (entered_alike (tables_of new) (tables_of old) (size new) (size old) e before.tables ∙ sym (ap unplaced (follows old e l)));
    }
