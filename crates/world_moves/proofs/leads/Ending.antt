-- A call that may end has its End; in every world it may end, and a call that waits may be taken or denied.
use Rattle.std.proofs.Common.{◌≡◌, ◌≢◌, ℕ, zero, suc, ◌≤◌, ◌^◌, ◌⊎◌, inl, inr, Bool, true, false, eqb, Option, Some, None, List, [], ◌∷◌, length, refl, sym, ap, subst}
use Rattle.std.specs.Prelude.{slice_get}
use Rattle.std.proofs.lemmas.Bool.{eq-eqb, eqb-true}
use Rattle.rpc_base.specs.Fields.{FitsSyntax}
use Rattle.handle_model.specs.declared.entry.Entry.{Entry}
use Rattle.handle_model.specs.declared.entry.Entry.TheVariants.{Deny, End, Shut}
use Rattle.handle_model.specs.declared.entry.Said.TheVariants.{Out}
use Rattle.handle_model.specs.Journal.{due, due_items, fault}
use Rattle.handle_model.specs.History.{with_entry}
use Rattle.ndr_table.specs.Tables.{TableForm}
use Rattle.ndr_model.specs.declared.way.Way.TheVariants.{Response}
use Rattle.ndr_model.specs.Written.{stub}
use Rattle.ndr_laws.specs.Laws.{ReadIsStub}
use Rattle.group_core.specs.declared.answer.Rest.TheVariants as rest
use Rattle.conn_histories.specs.Ends.{outcomes_of, with_wires, wires_at}
use Rattle.world_laws.specs.Moves.{Move}
use Rattle.world_laws.specs.Moves.{Move as moves}
use Rattle.world_laws.specs.Journals.{home, journal, Enters}
use Rattle.world_laws.specs.Ends.{Line, Waiting}
use Rattle.world_laws.specs.Ends.{Waiting as waiting}
use Rattle.world_laws.specs.Worlds.{World, with_line, entered, GoesOnFor, Played}
use Rattle.world_laws.specs.Worlds.GoesOnFor.{answered, unheard}
use Rattle.world_laws.specs.Worlds.Tries.{denied}
use Rattle.world_laws.specs.Leading.{Leads}
use Rattle.world_laws.proofs.Leading as leading
use Rattle.world_laws.proofs.Lists.{some_is}
use Rattle.world_laws.proofs.Moving.{holds}
use Rattle.world_laws.proofs.Worlds.{is_true}
use Rattle.world_moves.specs.Leads.{EndsEnter, FinishesLead, TakesAllLead}
use Rattle.world_moves.proofs.leads.Going.{Ready, goes_on}
use Rattle.world_moves.proofs.leads.Walking.{all_fit}

-- an entry comes, with the Shut where it is due
enters : (past : List Entry) (e : Entry) → (new : List Entry) × Enters past e new
enters past e = by (due (with_entry (journal past) e)) refl
  where
    by : (b : Bool) → due (with_entry (journal past) e) ≡ b → (new : List Entry) × Enters past e new
    by false is = (e ∷ past, (rest.Stays, (is, refl)))
    by true is = (Shut (due_items (with_entry (journal past) e)) ∷ e ∷ past, (rest.Shut (due_items (with_entry (journal past) e)), (is, refl, refl)))

pub ends_enter : EndsEnter
ends_enter table w k kepts m may =
    let results = outcomes_of may.asked.slots kepts in
    let octets = stub table.types may.is.operation Response may.asked.order (Some may.message) (with_wires m (wires_at home may.asked.slots results)) in
    let (past, comes) = enters w.past (End k results (Out octets)) in (
      past,
      record {
        runs = may.runs;
        asked = may.asked;
        asks = may.asks;
        message = may.message;
        is = may.is;
        owes = may.owes;
        results = results;
        results_are = refl;
        octets = octets;
        octets_are = refl;
        short = may.short;
        enters = comes;
      },
    )

-- ---- the connection that waits for the answer

abbrev NoneHears : List Line → ℕ → Type 0
NoneHears lines k = (i : ℕ) (l : Line) → slice_get lines i ≡ Some l → l.standing ≡ true → l.server.waiting ≢ waiting.Call k

-- one that stands waits for the call's answer, or none does
data Hears (lines : List Line) (k : ℕ) : Type 0 where
  one : (i : ℕ) (l : Line) → slice_get lines i ≡ Some l → l.standing ≡ true → l.server.waiting ≡ waiting.Call k → Hears lines k
  none : NoneHears lines k → Hears lines k

same_call : (n k : ℕ) → waiting.Call n ≡ waiting.Call k → n ≡ k
same_call n k e = cc

waits_for : (w : Waiting) (k : ℕ) → (w ≡ waiting.Call k) ⊎ (w ≢ waiting.Call k)
waits_for waiting.Nothing k = inr (λ e. absurd (cc (e)))
waits_for (waiting.Bind asked) k = inr (λ e. absurd (cc (e)))
waits_for (waiting.Refused status) k = inr (λ e. absurd (cc (e)))
waits_for (waiting.Call n) k = by (eqb n k) refl
  where
    by : (b : Bool) → eqb n k ≡ b → (waiting.Call n ≡ waiting.Call k) ⊎ (waiting.Call n ≢ waiting.Call k)
    by true e = inl (ap (λ (x : ℕ). waiting.Call x) (eqb-true n k e))
    by false e = inr (λ same. absurd (cc (e, eq-eqb n k (same_call n k same))))

none_more : (x : Line) (xs : List Line) (k : ℕ) → (x.standing ≡ true → x.server.waiting ≢ waiting.Call k) → NoneHears xs k → NoneHears (x ∷ xs) k
none_more x xs k first others zero l at stands = subst (λ (y : Line). y.server.waiting ≢ waiting.Call k) (some_is x l at) (first (subst (λ (y : Line). y.standing ≡ true) (sym (some_is x l at)) stands))
none_more x xs k first others (suc i) l at stands = others i l at stands

more : (x : Line) (xs : List Line) (k : ℕ) → (x.standing ≡ true → x.server.waiting ≢ waiting.Call k) → Hears xs k → Hears (x ∷ xs) k
more x xs k first (one i l at stands is) = one (suc i) l at stands is
more x xs k first (none others) = none (none_more x xs k first others)

hears : (lines : List Line) (k : ℕ) → Hears lines k
hears [] k = none (λ i l at stands same. absurd (cc (at)))
hears (x ∷ xs) k = by x.standing refl (waits_for x.server.waiting k) (hears xs k)
  where
    by : (b : Bool) → x.standing ≡ b → (x.server.waiting ≡ waiting.Call k) ⊎ (x.server.waiting ≢ waiting.Call k) → Hears xs k → Hears (x ∷ xs) k
    by true stands (inl is) others = one zero x refl stands is
    by true stands (inr other) others = more x xs k (λ s. other) others
    by false lost waits others = more x xs k (λ s same. absurd (cc (s, lost))) others

-- in every world each connection that stands goes on with any journal
ready_at : (table : TableForm) (played : List Move) (w : World) (i : ℕ) (l : Line) → FitsSyntax table.id → length table.ops ≤ 2 ^ 16 → Played table played w → slice_get w.lines i ≡ Some l → l.standing ≡ true → Ready table l
ready_at table played w i l fits few p at stands =
    let t = (is_true table played w fits few p).lines i l at in
    record { holds = (holds table played w fits few p).lines i l at; standing = stands; asked = (t.asked, t.begun); fit = all_fit table played w p i l at }

answers : (table : TableForm) (played : List Move) (w : World) (k : ℕ) (past : List Entry) → ReadIsStub → FitsSyntax table.id → length table.ops ≤ 2 ^ 16 → Played table played w → (v : World) × GoesOnFor table k (entered w past) v
answers table played w k past law fits few p = by (hears w.lines k)
  where
    by : Hears w.lines k → (v : World) × GoesOnFor table k (entered w past) v
    by (none others) = (entered w past, unheard others refl)
    by (one i l at stands is) =
        let (m, new, goes) = goes_on table fits few law l past (ready_at table played w i l fits few p at stands) in
        (with_line (entered w past) i m new, answered i l m new at stands is goes refl)

-- ---- the moves

pub finishes_lead : ReadIsStub → FinishesLead
finishes_lead law table played w k kepts m fits few p may =
    let (past, ends) = ends_enter table w k kepts m may in
    let (v, goes) = answers table played w k past law fits few p in
    (v, (past, ends, goes))

pub takes_all_lead : ReadIsStub → TakesAllLead
takes_all_lead law table played w k fits few p (waits, free) = by (fault (journal w.past) k) refl
  where
    by : (at : Option ℕ) → fault (journal w.past) k ≡ at → Leads table w (moves.Take k)
    by None is = leading.takes_lead table w k (waits, free) is
    by (Some slot) is =
        let past = Deny k slot ∷ w.past in
        let (v, goes) = answers table played w k past law fits few p in
        (v, denied slot past (waits, free, is, refl) goes)
