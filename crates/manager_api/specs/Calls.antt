-- Calls on a desk: what is given, and what an answer owes.
use Rattle.std.specs.Prelude.{◌≡◌, ℕ, Bool, true, false, ◌&&◌, ◌||◌, not, List, [], ◌∷◌, slice_get, Option, Some, None, is_some, if◌then◌else◌}
use Rattle.std.specs.Bool.{beq}
use Rattle.std.specs.List.{list_any}
use Rattle.rpc_base.specs.declared.identifiers.WireHandle.{WireHandle}
use Rattle.handle_model.specs.Slots.{is_null}
use Rattle.ndr_value.specs.Values.{Msg}
use Rattle.ndr_table.specs.declared.operation.HandleUse.{HandleUse}
use Rattle.ndr_table.specs.Tables.{TableForm}
use Rattle.manager_api.specs.declared.answer.Kept.{Kept}
use Rattle.manager_api.specs.declared.answer.Kept.TheVariants.{Stays, Cookie, Null}
use Rattle.manager_api.specs.Answers.{Ans, AOut, AFault}
use Rattle.manager_api.specs.Messages.{IsResponse}

-- a call: the numbers of its interface and operation, its message, and the cookie of each of its handles
pub record Call : Type 0 where
  pub iface : ℕ
  pub op : ℕ
  pub message : Msg
  pub cookies : List (Option ℕ)

-- ---- handles

abbrev pub uses_or : Option (List HandleUse) → List HandleUse
uses_or None = []
uses_or (Some uses) = uses

-- the handle parameters of an operation
abbrev pub uses_at : TableForm → ℕ → List HandleUse
uses_at t op = uses_or (slice_get t.uses op)

-- the handle parameter names a handle that the group has: an [in] one does, and an [in, out] one that didn't come as null
abbrev pub is_given : HandleUse → WireHandle → Bool
is_given u w = u.inward && (not u.outward || not (is_null w))

-- one cookie for each place that has a handle, of those in a row
abbrev pub has_cookies : List HandleUse → List WireHandle → List (Option ℕ) → Bool
has_cookies [] ws cs = not (list_any is_some cs)
has_cookies (u ∷ us) ws [] = false
has_cookies (u ∷ us) [] (c ∷ cs) = not u.inward && not (is_some c) && has_cookies us [] cs
has_cookies (u ∷ us) (w ∷ ws) (c ∷ cs) = beq (is_some c) (is_given u w) && has_cookies us (if u.inward then ws else w ∷ ws) cs

abbrev pub is_stays : Kept → Bool
is_stays Stays = true
is_stays _ = false

-- one for each handle parameter, which stays exactly where it doesn't go out
abbrev pub has_kepts : List HandleUse → List Kept → Bool
has_kepts [] [] = true
has_kepts (u ∷ us) (k ∷ ks) = beq (is_stays k) (not u.outward) && has_kepts us ks
has_kepts _ _ = false

-- what is owed by an answer to a request: an Out message is of the operation's response to it, with a Kept for each handle
abbrev pub Owes : TableForm → ℕ → Msg → Ans → Type 0
Owes t op asked (AOut m kepts) = IsResponse t op asked m × (has_kepts (uses_at t op) kepts ≡ true)
Owes t op asked (AFault status) = Unit {0}
