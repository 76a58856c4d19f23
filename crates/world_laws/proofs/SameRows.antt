-- Whatever a caller is told, its rows are those of the same calls.
use Rattle.std.proofs.Common.{◌≡◌, ℕ, zero, suc, Bool, true, false, Option, Some, None, List, [], ◌∷◌, length, refl, sym, ap, subst, ◌∙◌}
use Rattle.std.specs.Prelude.{slice_get}
use Rattle.handle_model.specs.declared.entry.Entry.{Entry}
use Rattle.pdu_codec.specs.declared.pdu.Pdu.{Pdu}
use Rattle.ndr_table.specs.Tables.{TableForm}
use Rattle.conn_histories.specs.Histories.{Event}
use Rattle.client_core.specs.States.{Outcome, is_calling}
use Rattle.client_core.specs.States.Outcome.{TBound, TNotBound, TDone, TFault, TBroken}
use Rattle.world_laws.specs.Moves.{Fate}
use Rattle.world_laws.specs.Moves.{Fate as fates}
use Rattle.world_laws.specs.Ends.{Row, CallerEnd, Line, with_last, told_if}
use Rattle.world_laws.specs.Serving.{ServerDoes}
use Rattle.world_laws.specs.Calling.{tells, breaks, HearsPdu, IfBroken, HearsPdus, HearsOctets, lost_line}
use Rattle.world_laws.proofs.Lists.{some_is}
use Rattle.world_laws.proofs.Callers.{rows_last}
use Rattle.world_laws.proofs.Walking.{Stays}

pub record IsSameCall (rows : List Row) (x : ℕ) (r : Row) : Type 0 where
  pub row : Row
  pub at : slice_get rows x ≡ Some row
  pub op : row.op ≡ r.op
  pub message : row.message ≡ r.message

pub record AreSameCalls (a b : List Row) : Type 0 where
  pub count : length b ≡ length a
  pub each : (x : ℕ) (r : Row) → slice_get a x ≡ Some r → IsSameCall b x r

same_rows : (a b : List Row) → b ≡ a → AreSameCalls a b
same_rows a b e = record { count = ap length e; each = λ x r at. record { row = r; at = ap (λ (rs : List Row). slice_get rs x) e ∙ at; op = refl; message = refl } }

pub then_rows : (a b c : List Row) → AreSameCalls a b → AreSameCalls b c → AreSameCalls a c
then_rows a b c p q = record {
  count = q.count ∙ p.count;
  each = λ x r at. (let s = p.each x r at in let t = q.each x s.row s.at in record { row = t.row; at = t.at; op = t.op ∙ s.op; message = t.message ∙ s.message });
}

last_at : (fate : Fate) (rows : List Row) (x : ℕ) (r : Row) → slice_get rows x ≡ Some r → IsSameCall (with_last fate rows) x r
last_at fate [] x r at = absurd (cc (at))
last_at fate (a ∷ []) zero r at = record { row = record a { fate = fate }; at = refl; op = ap (λ (z : Row). z.op) (some_is a r at); message = ap (λ (z : Row). z.message) (some_is a r at) }
last_at fate (a ∷ []) (suc x) r at = absurd (cc (at))
last_at fate (a ∷ b ∷ more) zero r at = record { row = r; at = at; op = refl; message = refl }
last_at fate (a ∷ b ∷ more) (suc x) r at = let s = last_at fate (b ∷ more) x r at in record { row = s.row; at = s.at; op = s.op; message = s.message }

pub if_told : (out : Bool) (fate : Fate) (rows : List Row) → AreSameCalls rows (told_if out fate rows)
if_told true fate rows = record { count = rows_last fate rows; each = λ x r at. last_at fate rows x r at }
if_told false fate rows = same_rows rows rows refl

told : (out : Bool) (t : Option Outcome) (rows : List Row) → AreSameCalls rows (tells out t rows)
told out None rows = same_rows rows rows refl
told out (Some (TDone m)) rows = if_told out (fates.Done m) rows
told out (Some (TFault status not_run)) rows = if_told out (fates.Fault status not_run) rows
told out (Some (TBound group)) rows = same_rows rows rows refl
told out (Some (TNotBound reason)) rows = same_rows rows rows refl
told out (Some (TBroken fault)) rows = same_rows rows rows refl

heard_one : (c d : CallerEnd) (p : Pdu) (t : Option Outcome) → HearsPdu c p t d → AreSameCalls c.rows d.rows
heard_one c d p t h = subst (λ (x : CallerEnd). AreSameCalls c.rows x.rows) (sym h.after) (told (is_calling c.state) t c.rows)

heard_more : (b : Bool) (c d : CallerEnd) (more : List Pdu) (broken : Bool) → (HearsPdus c more d broken → AreSameCalls c.rows d.rows) → IfBroken b ((d ≡ c) × (broken ≡ true)) (HearsPdus c more d broken) → AreSameCalls c.rows d.rows
heard_more true c d more broken go h = same_rows c.rows d.rows (ap (λ (x : CallerEnd). x.rows) h.0)
heard_more false c d more broken go h = go h

heard : (pdus : List Pdu) (c d : CallerEnd) (broken : Bool) → HearsPdus c pdus d broken → AreSameCalls c.rows d.rows
heard [] c d broken h = same_rows c.rows d.rows (ap (λ (x : CallerEnd). x.rows) h.0)
heard (p ∷ more) c d broken (t, between, first, later) =
    then_rows c.rows between.rows d.rows (heard_one c between p t first) (heard_more (breaks t) between d more broken (λ h. heard more between d broken h) later)

pub heard_octets : (c d : CallerEnd) (octets : List ℕ) (broken : Bool) → HearsOctets c octets d broken → AreSameCalls c.rows d.rows
heard_octets c d octets broken h = subst (λ (x : CallerEnd). AreSameCalls c.rows x.rows) (sym h.after) (heard h.cut.pdus c h.heard h.by_pdu h.hears)

-- ---- a connection

pub record IsSameLine (l m : Line) : Type 0 where
  pub name : m.name ≡ l.name
  pub rows : AreSameCalls l.caller.rows m.caller.rows

pub same_line : (l : Line) → IsSameLine l l
same_line l = record { name = refl; rows = same_rows l.caller.rows l.caller.rows refl }

then_line : (k l m : Line) → IsSameLine k l → m.name ≡ l.name → AreSameCalls l.caller.rows m.caller.rows → IsSameLine k m
then_line k l m a name rows = record { name = name ∙ a.name; rows = then_rows k.caller.rows l.caller.rows m.caller.rows a.rows rows }

does_same : (table : TableForm) (k l m : Line) (past new : List Entry) (event : Event) → ServerDoes (table ∷ []) l past event m new → IsSameLine k l → IsSameLine k m
does_same table k l m past new event d a = then_line k l m a (ap (λ (x : Line). x.name) d.then_) (same_rows l.caller.rows m.caller.rows (ap (λ (x : Line). x.caller.rows) d.then_))

pub stays_same : (table : TableForm) (k : Line) → Stays table (λ (m : Line). IsSameLine k m)
stays_same table k = record {
  cancels = λ l octets state stands out cancels a. record { name = a.name; rows = a.rows };
  comes = λ l m past new front left stands way d a. does_same table k (record l { up = left }) m past new _ d (record { name = a.name; rows = a.rows });
  does = λ l m past new event stands none d a. does_same table k l m past new event d a;
  hears = λ l d front left stands way h a. then_line k l (record l { caller = d; down = left }) a refl (heard_octets l.caller d front false h);
  breaks = λ l d front left stands way h a.
      then_line k l (lost_line (record l { caller = d; down = left })) a refl (then_rows l.caller.rows d.rows (told_if (is_calling d.state) fates.Lost d.rows) (heard_octets l.caller d front true h) (if_told (is_calling d.state) fates.Lost d.rows));
  loses = λ l stands a. then_line k l (lost_line l) a refl (if_told (is_calling l.caller.state) fates.Lost l.caller.rows);
}
