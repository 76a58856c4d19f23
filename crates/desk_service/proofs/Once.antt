-- An answer is one, unless memory ran out.
use Rattle.std.proofs.Common.{◌≡◌, ℕ, zero, suc, ◌<◌, Bool, true, false, List, [], ◌∷◌, length, Option, Some, None, inl, inr, refl, sym, ap, subst, ◌∙◌, arith}
use Rattle.std.specs.Prelude.{slice_get}
use Rattle.ndr_table.specs.Tables.{OpForm, TableForm}
use Rattle.ndr_value.specs.Values.{Msg}
use Rattle.manager_api.specs.Answers.{Ans, Step, Does, no_memory, AOut}
use Rattle.manager_api.specs.Calls.{Call}
use Rattle.manager_api.specs.Messages.{ForOp}
use Rattle.mgmt_manager.specs.Steps.{Says as SaysOfServing, message_of}
use Rattle.rpc_base.specs.declared.identifiers.SyntaxId.{SyntaxId}
use Rattle.echo_manager.specs.Steps.{Says, echoed, no_response, Echoes, says, not_echoed, Answers}
use Rattle.echo_manager.specs.ProbeSteps.{probe_step}
use Rattle.store_manager.specs.Steps.{store_step}
use Rattle.epm_manager.specs.Steps.{epm_step}
use Rattle.desk_counts.specs.Numbers.{Numbers, listed}
use Rattle.desk_service.proofs.Serving.{one_some, at_number, numbered_on}
use Rattle.desk_service.specs.State.{Services, tables_of, tables_with}
use Rattle.desk_service.specs.Calls.{ids_in, with_probes, with_store, with_endpoints, May, by_probe, by_store, by_endpoints, by_management, by_echo}
use Rattle.manager_api.specs.ServedCalls.{IsNumbered}
use Rattle.desk_service.specs.Laws.{OneAnswer, TablesStay}

-- ---- a step

pub does_once : {S : Type 0} (step : Step S) (before one other : S) (a b : Ans) → Does step before a one → Does step before b other
    → (a ≡ no_memory → ⊥) → (b ≡ no_memory → ⊥) → (a ≡ b) × (one ≡ other)
does_once step before one other a b (inl p) (inl q) na nb = (p.0 ∙ sym q.0, p.1 ∙ sym q.1)
does_once step before one other a b (inr p) q na nb = absurd (na p.0)
does_once step before one other a b (inl p) (inr q) na nb = absurd (nb q.0)

-- ---- management

tells_once : (ids : List SyntaxId) (numbers : List ℕ) (c : Call) (a b : Ans) → SaysOfServing ids (λ (ns : List ℕ). ns ≡ numbers) c a → SaysOfServing ids (λ (ns : List ℕ). ns ≡ numbers) c b
    → (a ≡ no_memory → ⊥) → (b ≡ no_memory → ⊥) → a ≡ b
tells_once ids numbers c a b (inl p) (inl q) na nb =
    p.2 ∙ ap (λ (ns : List ℕ). AOut (message_of ids ns c.op c.message) []) (p.1 ∙ sym q.1) ∙ sym q.2
tells_once ids numbers c a b (inr p) q na nb = absurd (na p)
tells_once ids numbers c a b (inl p) (inr q) na nb = absurd (nb q)

-- ---- the echo

says_once : (t : TableForm) (asked : Msg) (o : OpForm) (a b : Ans) → Says t asked o a → Says t asked o b → a ≡ b
says_once t asked o _ _ (echoed p) (echoed q) = refl
says_once t asked o _ _ (echoed p) (no_response q) = absurd (q p)
says_once t asked o _ _ (no_response p) (echoed q) = absurd (p q)
says_once t asked o _ _ (no_response p) (no_response q) = refl

clash : {b : Bool} → b ≡ true → b ≡ false → ⊥
clash p q = absurd cc

echoes_once : (t : TableForm) (op : ℕ) (asked : Msg) (o : OpForm) (a b : Ans) → Echoes t op asked o a → Echoes t op asked o b → a ≡ b
echoes_once t op asked o a b (says p x) (says q y) = says_once t asked o a b x y
echoes_once t op asked o a _ (says p x) (not_echoed q) = absurd (clash p q)
echoes_once t op asked o _ b (not_echoed p) (says q y) = absurd (clash q p)
echoes_once t op asked o _ _ (not_echoed p) (not_echoed q) = refl

some_op : (ops : List OpForm) (n : ℕ) → n < length ops → (o : OpForm) × (slice_get ops n ≡ Some o)
some_op [] n lt = absurd (omega (arith, lt))
some_op (o ∷ ops) zero lt = (o, refl)
some_op (o ∷ ops) (suc n) lt = some_op ops n (omega (arith, lt))

answers_once : (t : TableForm) (op : ℕ) (asked : Msg) (a b : Ans) → op < length t.ops → Answers t op asked a → Answers t op asked b
    → (a ≡ no_memory → ⊥) → (b ≡ no_memory → ⊥) → a ≡ b
answers_once t op asked a b lt (inl p) (inl q) na nb =
    let s = some_op t.ops op lt in echoes_once t op asked s.0 a b (p s.0 s.1) (q s.0 s.1)
answers_once t op asked a b lt (inr p) q na nb = absurd (na p)
answers_once t op asked a b lt (inl p) (inr q) na nb = absurd (nb q)

-- ---- the services

module _ {before : Services} {numbers : Numbers} {c : Call} {told : Bool} where
  abbrev iface_of : {a : Ans} {after : Services} → May before numbers c told a after → ℕ
  iface_of (by_probe next is does to) = 0
  iface_of (by_store next is does to) = 1
  iface_of (by_endpoints next is does to) = 2
  iface_of (by_management is tells to) = 3
  iface_of (by_echo t is at answers to) = 4

  numbered : {a : Ans} {after : Services} (m : May before numbers c told a after) → c.iface ≡ iface_of m
  numbered (by_probe next is does to) = is
  numbered (by_store next is does to) = is
  numbered (by_endpoints next is does to) = is
  numbered (by_management is tells to) = is
  numbered (by_echo t is at answers to) = is

  once : {a b : Ans} {one other : Services} → IsNumbered (tables_of before) c → May before numbers c told a one → May before numbers c told b other
      → (a ≡ no_memory → ⊥) → (b ≡ no_memory → ⊥) → (a ≡ b) × (one ≡ other)
  once {a = a} {b = b} call (by_probe n i d to) (by_probe m j e up) na nb =
      let f = does_once (probe_step before.probes c told) before.probes n m a b d e na nb in
      (f.0, to ∙ ap (with_probes before) f.1 ∙ sym up)
  once {a = a} {b = b} call (by_store n i d to) (by_store m j e up) na nb =
      let f = does_once (store_step before.store c) before.store n m a b d e na nb in
      (f.0, to ∙ ap (with_store before) f.1 ∙ sym up)
  once {a = a} {b = b} call (by_endpoints n i d to) (by_endpoints m j e up) na nb =
      let f = does_once (epm_step before.endpoints c) before.endpoints n m a b d e na nb in
      (f.0, to ∙ ap (with_endpoints before) f.1 ∙ sym up)
  once {a = a} {b = b} call (by_management i d to) (by_management j e up) na nb =
      (tells_once (ids_in (tables_of before)) (listed numbers) c a b d e na nb, to ∙ sym up)
  once {a = a} {b = b} call (by_echo t i at d to) (by_echo u j is e up) na nb =
      let same : u ≡ t = one_some u t before.echo is at in
      let there : slice_get (tables_of before) c.iface ≡ Some t =
      at_number (tables_of before) c.iface 4 t i (ap (λ (x : Option TableForm). slice_get (tables_with x) 4) at) in
      let number : c.op < length t.ops = numbered_on (tables_of before) c t call there in
      let e_too : Answers t c.op c.message b = subst (λ (x : TableForm). Answers x c.op c.message b) same e in
      (answers_once t c.op c.message a b number d e_too na nb, to ∙ sym up)
  once call x y na nb = absurd (omega (arith, numbered x, numbered y))

pub one_answer : OneAnswer
one_answer before one other numbers c told a b call x y na nb = once call x y na nb

pub tables_stay : TablesStay
tables_stay before after numbers c told a (by_probe n i d to) = ap tables_of to
tables_stay before after numbers c told a (by_store n i d to) = ap tables_of to
tables_stay before after numbers c told a (by_endpoints n i d to) = ap tables_of to
tables_stay before after numbers c told a (by_management i d to) = ap tables_of to
tables_stay before after numbers c told a (by_echo t i at d to) = ap tables_of to
