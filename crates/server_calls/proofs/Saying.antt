-- What is said at the table of a call's interface is what the definition says.
use Rattle.std.proofs.Common.{◌≡◌, ℕ, List, Option, Some, sym, subst}
use Rattle.std.specs.Prelude.{slice_get}
use Rattle.handle_model.specs.declared.entry.Home.{Home}
use Rattle.handle_model.specs.declared.entry.Asked.{Asked}
use Rattle.handle_model.specs.declared.entry.Outcome.{Outcome}
use Rattle.handle_model.specs.declared.entry.Said.{Said}
use Rattle.ndr_value.specs.Values.{Msg}
use Rattle.ndr_table.specs.Tables.{OpForm, TableForm}
use Rattle.ndr_model.specs.declared.way.Way.TheVariants.{Response}
use Rattle.ndr_model.specs.Written.{stub}
use Rattle.manager_api.specs.Answers.{Ans, AOut, AFault}
use Rattle.conn_histories.specs.Requests.{types_in, op_in, op_of}
use Rattle.conn_histories.specs.Ends.{Says, SaysStub, wires_at, with_wires}
use Rattle.server_calls.specs.Said.{SaysAt}

says_same : (home : Home) (tables : List TableForm) (t : TableForm) (a : Asked) (o : OpForm) (m : Msg) (results : List Outcome) (answer : Ans) (said : Said)
    → slice_get tables a.iface ≡ Some t → SaysAt t o a.order m (wires_at home a.slots results) answer said → Says home tables a o m results answer said
says_same home tables t a o m results (AOut out kepts) said at f =
    subst (λ (x : Option TableForm). SaysStub (stub (types_in x) o Response a.order (Some m) (with_wires out (wires_at home a.slots results))) said) (sym at) f
says_same home tables t a o m results (AFault status) said at f = f

-- the results are those of the slice that was read
pub says_at : (home : Home) (tables : List TableForm) (t : TableForm) (a : Asked) (o : OpForm) (m : Msg) (read results : List Outcome) (answer : Ans) (said : Said)
    → slice_get tables a.iface ≡ Some t → read ≡ results → SaysAt t o a.order m (wires_at home a.slots read) answer said → Says home tables a o m results answer said
says_at home tables t a o m read results answer said at e f =
    says_same home tables t a o m results answer said at (subst (λ (rs : List Outcome). SaysAt t o a.order m (wires_at home a.slots rs) answer said) e f)

pub op_there : (tables : List TableForm) (t : TableForm) (iface op : ℕ) (o : OpForm) → slice_get tables iface ≡ Some t → op_of tables iface op ≡ Some o → slice_get t.ops op ≡ Some o
op_there tables t iface op o at e = subst (λ (x : Option TableForm). op_in x op ≡ Some o) at e
