-- What is told of journals that are legal and settled, and of others.
use Rattle.std.proofs.Common.{◌≡◌, ℕ, true, false, List, [], ◌∷◌, refl, ap, subst, inl, inr}
use Rattle.std.specs.List.{list_all, AllByRecursion}
use Rattle.handle_model.proofs.Held.{and_left, and_right}
use Rattle.journal_audit.specs.declared.verdict.Verdict.{Verdict}
use Rattle.journal_audit.specs.declared.verdict.Verdict.TheVariants as verdicts
use Rattle.journal_audit.specs.Verdicts.{TellsVerdict}
use Rattle.journal_audit.specs.declared.verdict.GroupVerdict.{GroupVerdict}
use Rattle.journal_audit.specs.Files.{Journal, DepartsAt}
use Rattle.journal_audit.specs.Told.{Audited, TellsAll}
use Rattle.journal_audit.proofs.TextJournals.{one_reading, neither_both}
use Rattle.journal_audit.proofs.VerdictLaws.{good_is_legal}
use Rattle.rpc_app.specs.Audits.{is_legal, is_good, IsGood, AreGood, IsAudited, HasBreach, DepartsAtJournalLine, verdict_lines, journal_refusal}
use Rattle.rpc_app.specs.Commands.{RefusesJournals}

-- a journal with a good verdict is legal and settled
good_by : (g : Journal) (v : Verdict) → TellsVerdict g.home g.base g.entries v → is_legal v ≡ true → IsGood g
good_by g (verdicts.Legal n) t a = record { legal = t.1; settled = t.2 }
good_by g (verdicts.Breach place) t a = absurd (cc)

all_good : (gs : List Journal) (vs : List GroupVerdict) → TellsAll gs vs → list_all is_good vs ≡ true → AllByRecursion IsGood gs
all_good [] [] t a = tt
all_good [] (v ∷ vs) t a = absurd t
all_good (g ∷ gs) [] t a = absurd t
all_good (g ∷ gs) (v ∷ vs) t a =
    (good_by g v.verdict t.0.1 (and_left (is_good v) (list_all is_good vs) a), all_good gs vs t.1 (and_right (is_good v) (list_all is_good vs) a))

pub good_text : (text said : List ℕ) → IsAudited text said → AreGood text
good_text text said a =
    record { journals = a.told.0; written = a.told.1; good = all_good a.told.0 a.verdicts a.told.2 a.good }

-- and one that is legal and settled has a good verdict
all_told : (gs : List Journal) (vs : List GroupVerdict) → TellsAll gs vs → AllByRecursion IsGood gs → list_all is_good vs ≡ true
all_told [] [] t f = refl
all_told [] (v ∷ vs) t f = absurd t
all_told (g ∷ gs) [] t f = absurd t
all_told (g ∷ gs) (v ∷ vs) t f =
    let here : is_legal v.verdict ≡ true = ap is_legal (good_is_legal g.home g.base g.entries v.verdict f.0 t.0.1) in
    let later = all_told gs vs t.1 f.1 in
    rw (here, later) refl

-- no text of good journals departs, or has a breach
pub no_journals : (text said : List ℕ) → DepartsAtJournalLine text said → AreGood text → ⊥
no_journals text said d good = neither_both text d.line good.journals d.departs good.written

pub no_breach : (text said : List ℕ) → HasBreach text said → AreGood text → ⊥
no_breach text said b good =
    let one = one_reading text b.told.0 good.journals b.told.1 good.written in
    let all : list_all is_good b.verdicts ≡ true = all_told good.journals b.verdicts (subst (λ js. TellsAll js b.verdicts) one b.told.2) good.good in
    let bad = b.breach in
    absurd (cc (all, bad))

-- the fault of a text, as it is said
pub departs_line : (text said : List ℕ) (line : ℕ) → DepartsAt text line → said ≡ journal_refusal line → RefusesJournals text said
departs_line text said line d e = inl (record { line = line; departs = d; said_is = e })

-- the verdicts where one is a breach
pub breaches : (text said : List ℕ) (vs : List GroupVerdict) → Audited text vs → list_all is_good vs ≡ false → said ≡ verdict_lines vs → RefusesJournals text said
breaches text said vs told bad e = inr (record { verdicts = vs; told = told; breach = bad; said_is = e })

-- the verdicts where none is
pub audited : (text said : List ℕ) (vs : List GroupVerdict) → Audited text vs → list_all is_good vs ≡ true → said ≡ verdict_lines vs → IsAudited text said
audited text said vs told good e = record { verdicts = vs; told = told; good = good; said_is = e }
