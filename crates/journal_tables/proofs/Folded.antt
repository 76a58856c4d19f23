-- A folded journal is legal and settled, and says the same.
use Rattle.std.proofs.Common.{◌≡◌, ℕ, ◌+◌, ◌-◌, ◌≤◌, ◌<◌, Bool, true, false, ◌||◌, ◌↔◌, None, List, [], ◌∷◌, ◌++◌, length, take, drop, reverse, refl, sym, ◌∙◌, ap, subst, arith, inl, inr, ◌⊎◌}
use Rattle.std.specs.List.{list_any}
use Rattle.std.proofs.lemmas.Bool.{cases_Bool, or_parts}
use Rattle.std.proofs.lemmas.List.{take-append-drop, length-append, reverse-reverse}
use Rattle.std.proofs.lemmas.List.Folds.{list_any-append}
use Rattle.handle_model.specs.declared.entry.Home.{Home}
use Rattle.handle_model.specs.declared.entry.Slot.{Slot}
use Rattle.handle_model.specs.declared.entry.Entry.{Entry}
use Rattle.handle_model.specs.declared.base.Base.{Base}
use Rattle.handle_model.specs.Bases.{empty_base}
use Rattle.handle_model.specs.Sound.{IsSoundBase}
use Rattle.handle_model.specs.Folds.{base_of, advance, fold}
use Rattle.handle_model.specs.History.{History, IsSound, since, size}
use Rattle.handle_model.specs.Journal.{Legal, Allowed, asked, is_shut, join_count, conns, accept_count, waits, runs, blocker, opened, due_items, fault_in, cookies_for, due}
use Rattle.handle_model.specs.Further.{with_entries}
use Rattle.handle_table.specs.Uses.{fault_at, cookies_at}
use Rattle.handle_table.proofs.Named.{fault_shown, cookies_shown}
use Rattle.call_table.specs.Rows.{row_at, conflict_of}
use Rattle.call_table.specs.Shown.{rows_of}
use Rattle.call_table.proofs.Found.{conflict_shown}
use Rattle.journal_tables.specs.Tables.{Tables, waits_in, runs_in, is_due, Admits}
use Rattle.journal_tables.specs.Shown.{tables_of}
use Rattle.journal_tables.proofs.Shown.{waits_row, runs_row, due_shown, admits_shown}
use Rattle.journal_tables.specs.Unplaced.{unplaced}
use Rattle.journal_tables.specs.Folding.{Stands, GoesOn, HasBegun, BaseBegun, SaysSame, FoldsTo}
use Rattle.journal_tables.proofs.Places.{due_same, row_waits, row_runs, row_conflict, admits_alike}
use Rattle.journal_tables.proofs.Going.{goes_on}
use Rattle.journal_tables.proofs.Sounds.{base_sound}
use Rattle.journal_tables.proofs.Stood.{stands, asked_newer, calls_alike, conns_alike}
use Rattle.journal_tables.proofs.Advanced.{has_begun, advance_since}

-- THE FRONT OF A JOURNAL

pub front_legal : (j : History) (newer : List Entry) → Legal (with_entries j newer) → Legal j
front_legal j [] l = l
front_legal j (e ∷ newer) l = front_legal j newer l.1

front_quiet : (j : History) (newer : List Entry) → Legal (with_entries j newer) → list_any is_shut newer ≡ false → due (with_entries j newer) ≡ false → due j ≡ false
front_quiet j [] l u d = d
front_quiet j (e ∷ newer) l u d =
    let parts = or_parts (is_shut e) (list_any is_shut newer) u in
    let off = parts.0 in
    let quiet : due (with_entries j newer) ≡ false = elim (cases_Bool (due (with_entries j newer))) [ inl t ↦ absurd (let f = l.0.shut_when_due t in cc) | inr t ↦ t ] in
    front_quiet j newer l.1 parts.1 quiet

-- WHAT ALIKE TABLES SAY

pub says_same : (new old : History) → Legal new → Legal old → size new ≡ size old → unplaced (tables_of new) ≡ unplaced (tables_of old) → ((k : ℕ) → (waits old k || runs old k) ≡ true → asked new k ≡ asked old k) → SaysSame new old
says_same new old l m n q f =
    let w : (k : ℕ) → waits new k ≡ waits old k =
    λ k. sym (waits_row new k) ∙ (sym (row_waits (rows_of new) k) ∙ (ap (λ (t : Tables). waits_in (row_at t.rows k)) q ∙ (row_waits (rows_of old) k ∙ waits_row old k))) in
    let items : due_items new ≡ due_items old = ap (λ (t : Tables). t.items) q in
    let home = ap (λ (t : Tables). t.home) q in
    let faulty : (ss : List Slot) → fault_in new ss ≡ fault_in old ss =
    λ ss. sym (fault_shown new ss l) ∙ (ap (λ (t : Tables). fault_at t.home t.items ss) q ∙ fault_shown old ss m) in
    record {
      sizes = n;
      joins = ap (λ (t : Tables). t.joins) q;
      accepts = ap (λ (t : Tables). t.accepts) q;
      opens = ap (λ (t : Tables). t.opens) q;
      conns_same = sym (reverse-reverse (conns new)) ∙ (ap reverse (conns_alike new old q) ∙ reverse-reverse (conns old));
      calls = calls_alike new old q f;
      waits_same = w;
      runs_same = λ k. sym (runs_row new k l) ∙ (sym (row_runs (rows_of new) k) ∙ (ap (λ (t : Tables). runs_in (row_at t.rows k)) q ∙ (row_runs (rows_of old) k ∙ runs_row old k m)));
      blockers = λ k v. sym (conflict_shown new k l (w k ∙ v)) ∙ (sym (row_conflict (rows_of new) k) ∙ (ap (λ (t : Tables). conflict_of t.rows k) q ∙ (row_conflict (rows_of old) k ∙ conflict_shown old k m v)));
      live = items;
      faults = faulty;
      cookies = λ ss v. sym (cookies_shown new ss l (faulty ss ∙ v)) ∙ (ap (λ (t : Tables). cookies_at t.home t.items ss) q ∙ cookies_shown old ss m v);
      dues = sym (due_shown new l) ∙ (sym (due_same (tables_of new)) ∙ (ap is_due q ∙ (due_same (tables_of old) ∙ due_shown old m)));
      allows = λ e. (λ a. (admits_shown old e m).0 (admits_alike (tables_of new) (tables_of old) e q ((admits_shown new e l).1 a)), λ a. (admits_shown new e l).0 (admits_alike (tables_of old) (tables_of new) e (sym q) ((admits_shown old e m).1 a)));
    }

-- A FOLD

pub record Moved (home : Home) (base : Base) (newer older : List Entry) : Type 0 where
  pub sound : IsSound (since home (advance home base older) newer)
  pub begun : BaseBegun (advance home base older)
  pub says : SaysSame (since home (advance home base older) newer) (since home base (newer ++ older))
  pub tables : unplaced (tables_of (since home (advance home base older) newer)) ≡ unplaced (tables_of (since home base (newer ++ older)))

base_begun : (j : History) → HasBegun j → BaseBegun (base_of j)
base_begun j (inl lt) = inl lt
base_begun j (inr e) = inr (ap base_of e)

moved_to : (home : Home) (base : Base) (newer older : List Entry) → IsSound (since home base (newer ++ older)) → list_any is_shut (newer ++ older) ≡ false → BaseBegun base → (b : Base) → b ≡ base_of (since home base older) → b ≡ advance home base older → Moved home base newer older
moved_to home base newer older s u g b e f =
    let j : History = since home base older in
    let old : History = since home base (newer ++ older) in
    let l1 = front_legal j newer s.legal in
    let parts = or_parts (list_any is_shut newer) (list_any is_shut older) (sym (list_any-append is_shut newer older) ∙ u) in
    let quiet = front_quiet j newer s.legal parts.0 s.settled in
    let h = has_begun home base older g l1 in
    let sound = base_sound j l1 parts.1 quiet h in
    let w = goes_on j (base_of j) newer sound (stands j parts.1) s.legal in
    let new : History = since home (base_of j) newer in
    let counts : size new ≡ size old = omega (arith, length-append newer older) in
    let says = says_same new old w.legal s.legal counts w.tables (λ k c. asked_newer j newer k sound s.legal c) in
    let same : base_of j ≡ advance home base older = sym e ∙ f in
    record {
      sound = subst (λ x. IsSound (since home x newer)) same (record { legal = w.legal; settled = says.dues ∙ s.settled });
      begun = subst BaseBegun same (base_begun j h);
      says = subst (λ x. SaysSame (since home x newer) old) same says;
      tables = subst (λ x. unplaced (tables_of (since home x newer)) ≡ unplaced (tables_of old)) same w.tables;
    }

pub moved : (home : Home) (base : Base) (newer older : List Entry) → IsSound (since home base (newer ++ older)) → list_any is_shut (newer ++ older) ≡ false → BaseBegun base → Moved home base newer older
moved home base newer older s u g =
    let l1 = front_legal (since home base older) newer s.legal in
    let parts = or_parts (list_any is_shut newer) (list_any is_shut older) (sym (list_any-append is_shut newer older) ∙ u) in
    moved_to home base newer older s u g (base_of (since home base older)) refl (sym (advance_since home base older g l1 parts.1))

pub folds : (j : History) (n : ℕ) → IsSound j → list_any is_shut j.past ≡ false → BaseBegun j.base → FoldsTo n j
folds j n s u g =
    let m : ℕ = length j.past - n in
    let e : take m j.past ++ drop m j.past ≡ j.past = take-append-drop m j.past in
    let w = moved j.home j.base (take m j.past) (drop m j.past) (subst (λ p. IsSound (since j.home j.base p)) (sym e) s) (subst (λ p. list_any is_shut p ≡ false) (sym e) u) g in
    record {
      sound = w.sound;
      begun = w.begun;
      says = subst (λ p. SaysSame (fold n j) (since j.home j.base p)) e w.says;
    }
