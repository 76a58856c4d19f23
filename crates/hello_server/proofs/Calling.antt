-- Which manager serves a call.
use Rattle.std.proofs.Common.{◌≡◌, ◌≢◌, ℕ, zero, suc, Bool, List, [], ◌∷◌, Some, refl, sym, subst}
use Rattle.std.specs.Prelude.{slice_get}
use Rattle.ndr_table.specs.Tables.{TableForm}
use Rattle.manager_api.specs.Answers.{Ans}
use Rattle.manager_api.specs.Calls.{Call, Owes}
use Rattle.manager_api.specs.ServedCalls.{IsCall, Owed}
use Rattle.desk_service.proofs.Serving.{one_some}
use Rattle.desk_text.specs.Managers.{MayAt}
use Rattle.hello_server.specs.Calls.{May, managers, tables_with}

third_at : (a b c t : TableForm) (n : ℕ) → n ≢ 0 → n ≢ 1 → slice_get (a ∷ b ∷ c ∷ []) n ≡ Some t → n ≡ 2
third_at a b c t zero p q e = absurd (p refl)
third_at a b c t (suc zero) p q e = absurd (q refl)
third_at a b c t (suc (suc zero)) p q e = refl
third_at a b c t (suc (suc (suc n))) p q e = absurd (cc)

-- a call of neither hello nor the endpoint map is of management
pub is_third : (hello : TableForm) (k : Call) → IsCall (tables_with hello) k → k.iface ≢ 0 → k.iface ≢ 1 → k.iface ≡ 2
is_third hello k call p q = third_at _ _ _ call.table k.iface p q call.served

-- the manager of that number answers
pub may_at : (hello : TableForm) (k : Call) (n : ℕ) (told : Bool) (a : Ans) → k.iface ≡ n → MayAt n (managers hello) k told a → May hello k told a
may_at hello k n told a e m = subst (λ (i : ℕ). MayAt i (managers hello) k told a) (sym e) m

-- what is owed to that table is owed to the call's interface
pub owed_at : (tables : List TableForm) (k : Call) (t : TableForm) (a : Ans) → slice_get tables k.iface ≡ Some t → Owes t k.op k.message a → Owed tables k a
owed_at tables k t a at owes u e = subst (λ (v : TableForm). Owes v k.op k.message a) (one_some t u (slice_get tables k.iface) at e) owes
