-- Which answers suit, what they owe, and what a call's parts come to.
use Rattle.std.proofs.Common.{◌≡◌, ℕ, zero, suc, ◌<◌, Bool, true, false, true≢false, List, [], ◌∷◌, length, Some, Result, Ok, Err, refl, sym, ap, subst, ◌∙◌, arith}
use Rattle.std.specs.Prelude.{slice_get, ◌==◌, ◌↔◌, IsTrue, IfOk}
use Rattle.rpc_base.specs.declared.fault.NoMemory.{NoMemory}
use Rattle.ndr_value.specs.Values.{Msg}
use Rattle.ndr_table.specs.Tables.{OpForm, TableForm}
use Rattle.ndr_model.specs.Fits.{IsOfOp}
use Rattle.manager_api.specs.declared.answer.Answer.{Answer}
use Rattle.manager_api.specs.declared.answer.Kept.{Kept}
use Rattle.manager_api.specs.Answers.{Ans, AOut, AFault, Step, settled, no_memory, cancelled}
use Rattle.manager_api.specs.Calls.{Call, Owes, has_kepts, uses_at}
use Rattle.manager_api.specs.Messages.{IsResponse, Response}
use Rattle.desk_text.specs.Suited.{Suits}
use Rattle.desk_text.specs.Played.{Follows, stepped, unsuited, without_memory, Leads, unspecified}

some_op : (ops : List OpForm) (n : ℕ) → n < length ops → (o : OpForm) × (slice_get ops n ≡ Some o)
some_op [] n lt = absurd (omega (arith, lt))
some_op (o ∷ ops) zero lt = (o, refl)
some_op (o ∷ ops) (suc n) lt = some_op ops n (omega (arith, lt))

-- what holds of an operation of that number exactly where B does, holds of each exactly where B does
for_each_op : (t : TableForm) (op : ℕ) (P : OpForm → Type 0) (B : Type 0) → op < length t.ops
    → ((o : OpForm) → slice_get t.ops op ≡ Some o → B ↔ P o) → B ↔ ((o : OpForm) → slice_get t.ops op ≡ Some o → P o)
for_each_op t op P B lt each =
    let s = some_op t.ops op lt in
    (λ b o at. (each o at).0 b, λ f. (each s.0 s.1).1 (f s.0 s.1))

pub response_fits : (t : TableForm) (op : ℕ) (asked m : Msg) (r : Result Bool NoMemory) → op < length t.ops
    → IfOk r (λ b. (o : OpForm) → slice_get t.ops op ≡ Some o → IsTrue b ↔ IsOfOp t.types o Response (Some asked) m) → IfOk r (λ b. IsTrue b ↔ IsResponse t op asked m)
response_fits t op asked m (Ok b) lt each = for_each_op t op (λ o. IsOfOp t.types o Response (Some asked) m) (IsTrue b) lt each
response_fits t op asked m (Err e) lt each = tt

pub out_suits : (t : TableForm) (op : ℕ) (asked m : Msg) (kepts : List Kept) (r : Result Bool NoMemory) → has_kepts (uses_at t op) kepts ≡ true
    → IfOk r (λ b. IsTrue b ↔ IsResponse t op asked m) → IfOk r (λ b. IsTrue b ↔ Suits t op asked (AOut m kepts))
out_suits t op asked m kepts (Ok b) has is = (λ e. (is.0 e, has), λ s. is.1 s.0)
out_suits t op asked m kepts (Err e) has is = tt

abbrev number_of : Ans → ℕ
number_of (AOut m kepts) = 0
number_of (AFault status) = status.0

apart : unspecified ≡ cancelled → ⊥
apart e = let n : false ≡ true = ap (λ (a : Ans). number_of a == 0x1C00000D) e in absurd (cc)

wants : no_memory ≡ cancelled → ⊥
wants e = let n : false ≡ true = ap (λ (a : Ans). number_of a == 0x1C00000D) e in absurd (cc)

-- ---- a call

module _ {S : Type 0} (t : TableForm) (step : S → Call → Step S) (c : Call) where
  pub unsuited_follows : (before : S) (a r : Ans) (b : Bool) → a ≡ (step before c).answer → IsTrue b ↔ Suits t c.op c.message a → b ≡ false → r ≡ unspecified → Follows t step c before r before
  unsuited_follows before a r b is iff n e = unsuited (λ s. true≢false (sym (iff.1 (subst (Suits t c.op c.message) (sym is) s)) ∙ n)) e refl

  pub leads_follows : (before after : S) (r : Result Answer NoMemory) → Leads t step c before r after → Follows t step c before (settled r) after
  leads_follows before after (Ok a) h = h
  leads_follows before after (Err e) h = without_memory refl h

  suits_owe : (a : Ans) → Suits t c.op c.message a → Owes t c.op c.message a
  suits_owe (AOut m kepts) s = s
  suits_owe (AFault status) s = tt

  pub follows_owe : (before after : S) (a : Ans) → Follows t step c before a after → Owes t c.op c.message a
  follows_owe before after a (stepped s e n) = subst (Owes t c.op c.message) (sym e) (suits_owe (step before c).answer s)
  follows_owe before after a (unsuited s e n) = subst (Owes t c.op c.message) (sym e) tt
  follows_owe before after a (without_memory e n) = subst (Owes t c.op c.message) (sym e) tt

  pub follows_uncancelled : (before after : S) (a : Ans) → Follows t step c before a after → a ≡ cancelled → ⊥
  follows_uncancelled before after a (stepped s e n) is = let f : false ≡ true = subst (Suits t c.op c.message) (sym e ∙ is) s in absurd (cc)
  follows_uncancelled before after a (unsuited s e n) is = apart (sym e ∙ is)
  follows_uncancelled before after a (without_memory e n) is = wants (sym e ∙ is)
