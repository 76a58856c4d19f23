-- A table without where its parts lie in memory. Two tables that are equal so are the same in every item.
use Rattle.std.specs.Prelude.{ℕ, ◌<◌, ◌≡◌, Bool, true, ◌&&◌, nat_le, List, map, length, Option, Some, None}
use Rattle.std.specs.List.{list_all}
use Rattle.rpc_base.specs.declared.identifiers.SyntaxId.{SyntaxId}
use Rattle.ndr_value.specs.declared.shape.Shape.{Shape}
use Rattle.ndr_value.specs.Forms.{Form, form}
use Rattle.ndr_table.specs.declared.operation.Bounds.{Bounds}
use Rattle.ndr_table.specs.declared.operation.HandleUse.{HandleUse}
use Rattle.ndr_table.specs.declared.operation.Op.{Op}
use Rattle.ndr_table.specs.declared.operation.Param.{Param}
use Rattle.ndr_table.specs.Ordered.{is_below, ordered}

pub record ParamForm : Type 0 where
  pub shape : Form
  pub inward : Bool
  pub outward : Bool
  pub range : Option Bounds

-- an operation: its name, its parameters, its result, whether that is an error_status_t, and whether nobody waits for an answer
pub record OpForm : Type 0 where
  pub name : List ℕ
  pub params : List ParamForm
  pub result : Option Form
  pub status : Bool
  pub maybe : Bool

-- an interface: its identifier and version, its structures and unions, its operations, and the handles of each
pub record TableForm : Type 0 where
  pub id : SyntaxId
  pub types : List Form
  pub ops : List OpForm
  pub uses : List (List HandleUse)

abbrev pub param_form : Param → ParamForm
param_form p = record { shape = form p.shape; inward = p.inward; outward = p.outward; range = p.range }

abbrev pub result_form : Option Shape → Option Form
result_form None = None
result_form (Some s) = Some (form s)

abbrev pub op_form : Op → OpForm
op_form o = record { name = o.name; params = map param_form o.params.items; result = result_form o.result; status = o.status; maybe = o.maybe }

-- ---- names are those of the table's types

abbrev pub param_below : ℕ → ParamForm → Bool
param_below far p = is_below far far p.shape

abbrev pub result_below : ℕ → Option Form → Bool
result_below far None = true
result_below far (Some s) = is_below far far s

abbrev pub op_below : ℕ → OpForm → Bool
op_below far o = list_all (param_below far) o.params && result_below far o.result

-- what holds of every table; an operation has four handles at most
pub record IsTable (types : List Form) (ops : List OpForm) (uses : List (List HandleUse)) : Type 0 where
  pub few : length ops < 65536
  pub of_each : length uses ≡ length ops
  pub few_uses : list_all (λ us. nat_le (length us) 4) uses ≡ true
  pub types_are : ordered types ≡ true
  pub ops_are : list_all (op_below (length types)) ops ≡ true
