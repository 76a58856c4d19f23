-- What is legal behind a fold is legal behind the journal.
use Rattle.std.proofs.Common.{◌≡◌, List, [], ◌∷◌, ◌++◌, sym, ◌∙◌, ap, subst, append_assoc}
use Rattle.handle_model.specs.declared.entry.Entry.{Entry}
use Rattle.handle_model.specs.declared.base.Base.{Base}
use Rattle.handle_model.specs.Sound.{IsSoundBase}
use Rattle.handle_model.specs.Folds.{base_of, advance}
use Rattle.handle_model.specs.History.{History, since, size}
use Rattle.handle_model.specs.Journal.{Legal, Allowed}
use Rattle.handle_model.specs.Further.{with_entries}
use Rattle.journal_tables.specs.Tables.{Admits}
use Rattle.journal_tables.specs.Shown.{tables_of}
use Rattle.journal_tables.proofs.Shown.{admits_shown, follows, base_shown}
use Rattle.journal_tables.specs.Unplaced.{unplaced}
use Rattle.journal_tables.specs.Folding.{Stands, BaseBegun}
use Rattle.journal_tables.proofs.Places.{admits_alike, entered_alike}
use Rattle.journal_tables.proofs.Sounds.{base_sound}
use Rattle.journal_tables.proofs.Stood.{stands}
use Rattle.journal_tables.proofs.Advanced.{has_begun, advance_since}
use Rattle.journal_tables.proofs.Folded.{front_legal}
use Rattle.journal_tables.specs.FoldOf.{IsFoldOf}

record GoesBack (base : Base) (j : History) (newer : List Entry) : Type 0 where
  pub legal : Legal (with_entries j newer)
  pub tables : unplaced (tables_of (since j.home base newer)) ≡ unplaced (tables_of (with_entries j newer))

goes_back : (j : History) (base : Base) (newer : List Entry) → Legal j → IsSoundBase j.home base → Stands base j → Legal (since j.home base newer) → GoesBack base j newer
goes_back j base [] l s q k = record { legal = l; tables = ap unplaced (base_shown j.home base s) ∙ q }
goes_back j base (e ∷ newer) l s q k =
    let before = goes_back j base newer l s q k.1 in
    let old : History = with_entries j newer in
    let new : History = since j.home base newer in
    let admitted : Admits (tables_of new) e = (admits_shown new e k.1).1 k.0 in
    let allowed : Allowed old e = (admits_shown old e before.legal).0 (admits_alike (tables_of new) (tables_of old) e before.tables admitted) in
    let legal : Legal (with_entries j (e ∷ newer)) = (allowed, before.legal) in
    record {
      legal = legal;
      tables = ap unplaced (follows new e k) ∙ (entered_alike (tables_of new) (tables_of old) (size new) (size old) e before.tables ∙ sym (ap unplaced (follows old e legal)));
    }

pub folds_back : (x j : History) (more : List Entry) → Legal j → BaseBegun j.base → IsFoldOf x j → Legal (with_entries x more) → Legal (with_entries j more)
folds_back x j more l b f k =
    let home = j.home in
    let base = j.base in
    let past : more ++ j.past ≡ (more ++ f.newer) ++ f.older = ap (λ p. more ++ p) f.past_is ∙ sym (append_assoc more f.newer f.older) in
    let old : History = since home base f.older in
    let legal : Legal old = front_legal old f.newer (subst (λ p. Legal (since home base p)) f.past_is l) in
    let same : base_of old ≡ advance home base f.older = sym (advance_since home base f.older b legal f.open_is) in
    let sound = base_sound old legal f.open_is f.settled_is (has_begun home base f.older b legal) in
    let mine : Legal (since home (base_of old) (more ++ f.newer)) = subst (λ a. Legal (since home a (more ++ f.newer))) (sym same) (subst (λ z. Legal (with_entries z more)) f.fold_is k) in
    let w = goes_back old (base_of old) (more ++ f.newer) legal sound (stands old f.open_is) mine in
    subst (λ p. Legal (since home base p)) (sym past) w.legal
