-- What the echo answers is a response.
use Rattle.std.proofs.Common.{◌≡◌, ℕ, zero, suc, ◌<◌, Bool, true, false, List, [], ◌∷◌, length, Option, Some, None, Result, Ok, Err, inl, inr, refl, sym, ap, subst, ◌∙◌, arith}
use Rattle.std.specs.Prelude.{◌&&◌, ◌==◌, slice_get, IfOk}
use Rattle.std.specs.List.{list_all}
use Rattle.rpc_base.specs.declared.fault.NoMemory.{NoMemory}
use Rattle.ndr_value.specs.Values.{Msg}
use Rattle.ndr_table.specs.declared.operation.HandleUse.{HandleUse}
use Rattle.ndr_table.specs.Tables.{OpForm, TableForm}
use Rattle.ndr_model.specs.declared.way.Way.TheVariants.{Response}
use Rattle.ndr_model.specs.Fits.{IsOfOp}
use Rattle.manager_api.specs.declared.answer.Answer.{Answer}
use Rattle.manager_api.specs.Answers.{Ans, AOut, AFault, ans, settled, no_memory, cancelled}
use Rattle.manager_api.specs.Messages.{ForOp}
use Rattle.manager_api.specs.Calls.{Owes, has_kepts, uses_at}
use Rattle.desk_kit.proofs.Owed.{for_op}
use Rattle.echo_manager.specs.Steps.{comes_back, has_none, may_succeed, is_echoed, echo, unspecified, Says, echoed, no_response, Echoes, says, not_echoed, Answers}

both : (a b : Bool) → (a && b) ≡ true → (a ≡ true) × (b ≡ true)
both true true e = (refl, refl)
both true false e = absurd (cc)
both false b e = absurd (cc)

-- ---- what is said

pub says_echo : (t : TableForm) (op : ℕ) (asked : Msg) (o : OpForm) (m : Msg) (a : Ans) → slice_get t.ops op ≡ Some o → m ≡ echo t.types o asked → IsOfOp t.types o Response (Some asked) m → a ≡ AOut m []
    → ForOp t op (λ x. Says t asked x a)
says_echo t op asked o m a at is fits e =
    let f : IsOfOp t.types o Response (Some asked) (echo t.types o asked) = subst (IsOfOp t.types o Response (Some asked)) is fits in
    let g : a ≡ AOut (echo t.types o asked) [] = e ∙ ap (λ (x : Msg). AOut x []) is in
    for_op t op (λ x. Says t asked x a) o at (subst (λ (x : Ans). Says t asked o x) (sym g) (echoed f))

pub says_none : (t : TableForm) (op : ℕ) (asked : Msg) (o : OpForm) (m : Msg) (a : Ans) → slice_get t.ops op ≡ Some o → m ≡ echo t.types o asked → (IsOfOp t.types o Response (Some asked) m → ⊥) → a ≡ unspecified
    → ForOp t op (λ x. Says t asked x a)
says_none t op asked o m a at is none e =
    for_op t op (λ x. Says t asked x a) o at
    (subst (λ (x : Ans). Says t asked o x) (sym e) (no_response (λ f. none (subst (IsOfOp t.types o Response (Some asked)) (sym is) f))))

pub echoes_said : (t : TableForm) (op : ℕ) (asked : Msg) (o : OpForm) (a : Ans) → slice_get t.ops op ≡ Some o → is_echoed (uses_at t op) o ≡ true → ForOp t op (λ x. Says t asked x a) → ForOp t op (λ x. Echoes t op asked x a)
echoes_said t op asked o a at can said = for_op t op (λ x. Echoes t op asked x a) o at (says can (said o at))

pub echoes_not : (t : TableForm) (op : ℕ) (asked : Msg) (o : OpForm) (a : Ans) → slice_get t.ops op ≡ Some o → is_echoed (uses_at t op) o ≡ false → a ≡ unspecified → ForOp t op (λ x. Echoes t op asked x a)
echoes_not t op asked o a at off e = for_op t op (λ x. Echoes t op asked x a) o at (subst (λ (x : Ans). Echoes t op asked o x) (sym e) (not_echoed off))

pub settled_answers : (t : TableForm) (op : ℕ) (asked : Msg) (r : Result Answer NoMemory) → IfOk r (λ a. ForOp t op (λ o. Echoes t op asked o (ans a))) → Answers t op asked (settled r)
settled_answers t op asked (Ok a) f = inl f
settled_answers t op asked (Err x) f = inr refl

-- ---- what is owed

some_op : (ops : List OpForm) (n : ℕ) → n < length ops → (o : OpForm) × (slice_get ops n ≡ Some o)
some_op [] n lt = absurd (omega (arith, lt))
some_op (o ∷ ops) zero lt = (o, refl)
some_op (o ∷ ops) (suc n) lt = some_op ops n (omega (arith, lt))

no_kepts : (uses : List HandleUse) → has_none uses ≡ true → has_kepts uses [] ≡ true
no_kepts [] e = refl
no_kepts (u ∷ us) e = absurd (cc)

owes_by : (t : TableForm) (op : ℕ) (asked : Msg) (o : OpForm) (a : Ans) → slice_get t.ops op ≡ Some o → Echoes t op asked o a → Owes t op asked a
owes_by t op asked o a at (says can (echoed fits)) = (
  for_op t op (λ x. IsOfOp t.types x Response (Some asked) (echo t.types o asked)) o at fits,
  no_kepts (uses_at t op) (both (has_none (uses_at t op)) (list_all comes_back o.params && may_succeed o.status o.result) can).0,
)
owes_by t op asked o a at (says can (no_response none)) = tt
owes_by t op asked o a at (not_echoed off) = tt

pub answers_owe : (t : TableForm) (op : ℕ) (asked : Msg) (a : Ans) → op < length t.ops → Answers t op asked a → Owes t op asked a
answers_owe t op asked a lt (inl f) = let s = some_op t.ops op lt in owes_by t op asked s.0 a s.1 (f s.0 s.1)
answers_owe t op asked a lt (inr e) = subst (Owes t op asked) (sym e) tt

-- ---- an echo asks no probe

abbrev number_of : Ans → ℕ
number_of (AOut m kepts) = 0
number_of (AFault status) = status.0

apart : unspecified ≡ cancelled → ⊥
apart e = let n : false ≡ true = ap (λ (a : Ans). number_of a == 0x1C00000D) e in absurd (cc)

wants : no_memory ≡ cancelled → ⊥
wants e = let n : false ≡ true = ap (λ (a : Ans). number_of a == 0x1C00000D) e in absurd (cc)

never_by : (t : TableForm) (op : ℕ) (asked : Msg) (o : OpForm) (a : Ans) → Echoes t op asked o a → a ≡ cancelled → ⊥
never_by t op asked o a (says can (echoed fits)) e = absurd (cc)
never_by t op asked o a (says can (no_response none)) e = apart e
never_by t op asked o a (not_echoed off) e = apart e

pub answers_never : (t : TableForm) (op : ℕ) (asked : Msg) (a : Ans) → op < length t.ops → Answers t op asked a → a ≡ cancelled → ⊥
answers_never t op asked a lt (inl f) e = let s = some_op t.ops op lt in never_by t op asked s.0 a (f s.0 s.1) e
answers_never t op asked a lt (inr f) e = wants (sym f ∙ e)

-- ---- in parts

pub if_so : {A E : Type 0} {P Q : A → Type 0} (r : Result A E) → ((a : A) → P a → Q a) → IfOk r P → IfOk r Q
if_so (Ok a) f h = f a h
if_so (Err e) f h = tt
