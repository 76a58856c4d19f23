-- The operation of a name.
use Rattle.std.proofs.Common.{◌≡◌, ℕ, ◌+◌, ◌<◌, ◌≤◌, Bool, true, false, true≢false, inl, inr, Some, List, length, refl, sym, ◌∙◌, subst, arith}
use Rattle.std.specs.Prelude.{slice_get, map, MatchBool, Option, None, MatchOption}
use Rattle.std.proofs.lemmas.Bool.{cases_lt}
use Rattle.rpc_base.specs.declared.identifiers.WireHandle.{WireHandle}
use Rattle.ndr_value.specs.Forms.{Form}
use Rattle.ndr_value.specs.Values.{Msg}
use Rattle.ndr_table.specs.declared.operation.Op.{Op}
use Rattle.ndr_table.specs.declared.operation.Param.{Param}
use Rattle.ndr_table.specs.Tables.{OpForm, TableForm, op_form, param_form}
use Rattle.client_texts.specs.Texts.{IsRequestText, inwards}
use Rattle.client_script.specs.Steps.{HasOp, IsRequestOf, IsNoMessage}
use Rattle.client_script.specs.Steps.IsNoMessage.{no_request}
use Rattle.client_script.proofs.Lists.{is_within}

-- none of those before a number has the name
abbrev pub NoneBefore : TableForm → List ℕ → ℕ → Type 0
NoneBefore t name at = (k : ℕ) → k < at → HasOp t k name → ⊥

pub none_at_first : (t : TableForm) (name : List ℕ) → NoneBefore t name 0
none_at_first t name k low h = absurd (omega arith)

pub none_more : (t : TableForm) (name : List ℕ) (at : ℕ) → NoneBefore t name at → (HasOp t at name → ⊥) → NoneBefore t name (at + 1)
none_more t name at none not k low h =
    elim (cases_lt k at) [
      | inl less ↦ none k less h
      | inr more ↦ (let same : k ≡ at = omega arith in not (subst (λ (n : ℕ). HasOp t n name) same h))
    ]

pub none_at_all : (t : TableForm) (name : List ℕ) (at : ℕ) → NoneBefore t name at → length t.ops ≤ at → (op : ℕ) → HasOp t op name → ⊥
none_at_all t name at none all op h = let within = is_within t.ops op h.0 h.1 in none op (omega (arith, within, all)) h

pub not_there : (t : TableForm) (op : ℕ) (known : List WireHandle) (text : List ℕ) → length t.ops ≤ op → IsNoMessage t op known text
not_there t op known text all = no_request (λ m r. let within = is_within t.ops op r.form r.of in absurd (omega (arith, within, all)))

pub is_not : (b : Bool) (M : Type 0) → b ≡ false → MatchBool b M (M → ⊥) → M → ⊥
is_not true M e h = absurd (true≢false e)
is_not false M e h = h

module _ (t : TableForm) (op : ℕ) (known : List WireHandle) (text : List ℕ) (form : Op) (types : List Form) (params : List Param) (of : slice_get t.ops op ≡ Some (op_form form)) (types_are : types ≡ t.types) (params_are : params ≡ form.params.items) where
  pub row_is : (m : Msg) → IsRequestText types (inwards (map param_form params)) known m text → IsRequestOf t op known m text
  row_is m h =
      let as_params = subst (λ (ps : List Param). IsRequestText types (inwards (map param_form ps)) known m text) params_are h in
      record { form = op_form form; of = of; has_text = subst (λ (ts : List Form). IsRequestText ts (inwards (op_form form).params) known m text) types_are as_params }

  pub no_row : ((m : Msg) → IsRequestText types (inwards (map param_form params)) known m text → ⊥) → IsNoMessage t op known text
  no_row none = no_request (λ m r.
      let both : Some r.form ≡ Some (op_form form) = sym r.of ∙ of in
      let same : r.form ≡ op_form form = cc in
      let here : IsRequestText t.types (inwards (op_form form).params) known m text = subst (λ (f : OpForm). IsRequestText t.types (inwards f.params) known m text) same r.has_text in
      let typed : IsRequestText types (inwards (op_form form).params) known m text = subst (λ (ts : List Form). IsRequestText ts (inwards (op_form form).params) known m text) (sym types_are) here in
      none m (subst (λ (ps : List Param). IsRequestText types (inwards (map param_form ps)) known m text) (sym params_are) typed))

pub is_none : {A : Type 0} (found : Option A) (P : Type 0) (Q : A → Type 0) → ((x : A) → found ≡ Some x → ⊥) → MatchOption found P Q → P
is_none None P Q not h = h
is_none (Some x) P Q not h = absurd (not x refl)
