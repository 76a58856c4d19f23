-- The message of each row is one of its operation, and has few enough octets.
use Rattle.std.proofs.Common.{◌≡◌, ℕ, ◌≤◌, Some, None, Ok, List, [], ◌∷◌, ◌++◌, length, sym, ap, subst, ◌∙◌, arith}
use Rattle.std.specs.Prelude.{slice_get}
use Rattle.pdu_stream.specs.Fragments.{most_stub}
use Rattle.ndr_value.specs.Values.{Msg}
use Rattle.ndr_table.specs.Tables.{OpForm, TableForm}
use Rattle.ndr_model.specs.declared.way.Way.TheVariants.{Request}
use Rattle.ndr_model.specs.Fits.{IsOfOp}
use Rattle.client_core.specs.States.{ClientState}
use Rattle.client_core.specs.Calls.{Calls, IsMessage, asking}
use Rattle.world_laws.specs.Ends.{Row, new_row}
use Rattle.world_laws.proofs.Lists.{some_is, within, there, OfMore, of_more}
use Rattle.world_laws.proofs.Lists.OfMore.{before, last}
use Rattle.world_laws.proofs.SameRows.{AreSameCalls}

pub record HasAsked (table : TableForm) (op : ℕ) (m : Msg) : Type 0 where
  pub operation : OpForm
  pub found : slice_get table.ops op ≡ Some operation
  pub of_op : IsOfOp table.types operation Request None m
  pub short : length (asking table operation m) ≤ most_stub

abbrev pub AllAsked : TableForm → List Row → Type 0
AllAsked table rows = (x : ℕ) (r : Row) → slice_get rows x ≡ Some r → HasAsked table r.op r.message

asked_same : (table : TableForm) (s r : Row) → s.op ≡ r.op → s.message ≡ r.message → HasAsked table r.op r.message → HasAsked table s.op s.message
asked_same table s r op message h = subst (λ (o : ℕ). HasAsked table o s.message) (sym op) (subst (λ (m : Msg). HasAsked table r.op m) (sym message) h)

pub asked_on : (table : TableForm) (a b : List Row) → AreSameCalls a b → AllAsked table a → AllAsked table b
asked_on table a b same h x s at =
    let (r, found) = there a x (omega (arith, within b x s at, same.count)) in
    let t = same.each x r found in
    let is : t.row ≡ s = some_is t.row s (sym t.at ∙ at) in
    asked_same table s r (ap (λ (y : Row). y.op) (sym is) ∙ t.op) (ap (λ (y : Row). y.message) (sym is) ∙ t.message) (h x r found)

of_start : (table : TableForm) (s n : ClientState) (op : ℕ) (m : Msg) (octets : List ℕ) → s.interface ≡ table → IsMessage s.interface op m → Calls s op m (Ok octets) n → HasAsked table op m
of_start table s n op m octets known (o, found, of_op) (p, found2, (short, begins)) =
    let same : p ≡ o = some_is p o (sym found2 ∙ found) in
    subst (λ (t : TableForm). HasAsked t op m) known
    (record { operation = o; found = found; of_op = of_op; short = subst (λ (y : OpForm). length (asking s.interface y m) ≤ most_stub) same short })

pub asked_start : (table : TableForm) (s n : ClientState) (op : ℕ) (m : Msg) (octets : List ℕ) (rows : List Row) → s.interface ≡ table → IsMessage s.interface op m → Calls s op m (Ok octets) n → AllAsked table rows → AllAsked table (rows ++ new_row op m ∷ [])
asked_start table s n op m octets rows known message calls h x r at = by (of_more rows (new_row op m) x r at)
  where
    by : OfMore rows (new_row op m) x r → HasAsked table r.op r.message
    by (before found) = h x r found
    by (last place is) = subst (λ (y : Row). HasAsked table y.op y.message) (sym is) (of_start table s n op m octets known message calls)
