-- Which desk serves a call.
use Rattle.std.proofs.Common.{◌≡◌, ◌≢◌, ℕ, zero, suc, ◌<◌, Bool, true, List, [], ◌∷◌, length, Option, Some, None, refl, sym, ap, subst, ◌∙◌}
use Rattle.std.specs.Prelude.{slice_get}
use Rattle.ndr_table.specs.Tables.{TableForm}
use Rattle.echo_manager.specs.Table.{probe_table}
use Rattle.store_manager.specs.Table.{store_table}
use Rattle.epm_manager.specs.Table.{epm_table}
use Rattle.mgmt_manager.specs.Table.{mgmt_table}
use Rattle.manager_api.specs.Calls.{Call, has_cookies, uses_at}
use Rattle.manager_api.specs.Messages.{IsRequest}
use Rattle.desk_service.specs.State.{Services, tables_of, echoed}
use Rattle.manager_api.specs.ServedCalls.{IsCall, IsNumbered}

-- what a desk of that table asks of a call
pub record IsOn (t : TableForm) (c : Call) : Type 0 where
  pub number : c.op < length t.ops
  pub request : IsRequest t c.op c.message
  pub handles : has_cookies (uses_at t c.op) c.message.wires c.cookies ≡ true

pub one_some : {A : Type 0} (a b : A) (o : Option A) → o ≡ Some a → o ≡ Some b → a ≡ b
one_some a b o p q = cc

on_own : (tables : List TableForm) (c : Call) (call : IsCall tables c) → IsOn call.table c
on_own tables c call = record { number = call.number; request = call.request; handles = call.handles }

pub on_table : (tables : List TableForm) (c : Call) (t : TableForm) → IsCall tables c → slice_get tables c.iface ≡ Some t → IsOn t c
on_table tables c t call at =
    subst (λ (u : TableForm). IsOn u c) (one_some call.table t (slice_get tables c.iface) call.served at) (on_own tables c call)

pub numbered_on : (tables : List TableForm) (c : Call) (t : TableForm) → IsNumbered tables c → slice_get tables c.iface ≡ Some t → c.op < length t.ops
numbered_on tables c t call at =
    subst (λ (u : TableForm). c.op < length u.ops) (one_some call.table t (slice_get tables c.iface) call.served at) call.number

pub at_number : (tables : List TableForm) (i n : ℕ) (t : TableForm) → i ≡ n → slice_get tables n ≡ Some t → slice_get tables i ≡ Some t
at_number tables i n t e at = ap (λ (k : ℕ). slice_get tables k) e ∙ at

-- the interface of the echo
abbrev pub IsEcho : Option TableForm → ℕ → TableForm → Type 0
IsEcho echo n t = (n ≡ 4) × (echo ≡ Some t)

behind : (echo : Option TableForm) (n : ℕ) (t : TableForm) → slice_get (echoed echo) n ≡ Some t → (n ≡ 0) × (echo ≡ Some t)
behind None n t e = absurd cc
behind (Some u) zero t e = (refl, e)
behind (Some u) (suc n) t e = absurd cc

pub echo_at : (a b c d : TableForm) (echo : Option TableForm) (n : ℕ) (t : TableForm)
    → n ≢ 0 → n ≢ 1 → n ≢ 2 → n ≢ 3 → slice_get (a ∷ b ∷ c ∷ d ∷ echoed echo) n ≡ Some t → IsEcho echo n t
echo_at a b c d echo zero t p q r s e = absurd (p refl)
echo_at a b c d echo (suc zero) t p q r s e = absurd (q refl)
echo_at a b c d echo (suc (suc zero)) t p q r s e = absurd (r refl)
echo_at a b c d echo (suc (suc (suc zero))) t p q r s e = absurd (s refl)
echo_at a b c d echo (suc (suc (suc (suc n)))) t p q r s e =
    let f = behind echo n t e in (ap (λ (k : ℕ). suc (suc (suc (suc k)))) f.0, f.1)

-- the interface behind the others is the echo's
pub echo_is : (s : Services) (n : ℕ) (t u : TableForm) → n ≢ 0 → n ≢ 1 → n ≢ 2 → n ≢ 3 → slice_get (tables_of s) n ≡ Some t → s.echo ≡ Some u → (n ≡ 4) × (t ≡ u)
echo_is s n t u p q r v e f =
    let g = echo_at probe_table store_table epm_table mgmt_table s.echo n t p q r v e in
    (g.0, one_some t u s.echo g.1 f)

pub on_echo : (s : Services) (c : Call) (u : TableForm) → c.iface ≢ 0 → c.iface ≢ 1 → c.iface ≢ 2 → c.iface ≢ 3 → (call : IsCall (tables_of s) c) → s.echo ≡ Some u
    → (c.iface ≡ 4) × IsOn u c
on_echo s c u p q r v call e =
    let f = echo_is s c.iface call.table u p q r v call.served e in
    (f.0, subst (λ (t : TableForm). IsOn t c) f.1 (on_own (tables_of s) c call))
