-- The causes of the faults.
use Rattle.std.proofs.Common.{◌≡◌, ℕ, ◌<◌, ◌-◌, Bool, true, List, refl, subst, inl, inr, length, get_or, arith}
use Rattle.std.specs.Prelude.{◌⊎◌, Result, Ok, Err, IfErr}
use Rattle.idl_tokens.proofs.Once.{cut_once}
use Rattle.idl_tokens.specs.Machine.{parse}
use Rattle.idl_tokens.specs.declared.kinds.Kind.{Kind}
use Rattle.idl_tokens.specs.declared.kinds.Kind.TheVariants as kinds
use Rattle.idl_tokens.specs.declared.kinds.Token.{Token}
use Rattle.idl_tokens.specs.Terminals.{terminal, terminals}
use Rattle.idl_tokens.specs.Tokens.{AreTokens}
use Rattle.idl_tokens.specs.Laws.{EndsOnce}
use Rattle.idl_tree.specs.Grammar.{rule, file}
use Rattle.idl_tree.specs.Idl.{FirstDeparture, IsTree, IsIdl}
use Rattle.idl_tree.specs.declared.declaration.Ast.{Ast}
use Rattle.idl_reader.specs.declared.fault.IdlFault.{IdlFault}
use Rattle.idl_reader.specs.declared.fault.IdlFault.TheVariants.{BadToken, Expected, TooLarge, TooDeep, Memory}
use Rattle.idl_reader.specs.Causes.{IsNumber, IsOpening, Refuses, IsCause, IsCalled}
use Rattle.idl_reader.proofs.Top.{first_departure, stands_there, oversized_kind, not_taken, is_tree}

-- what has a size is a number or opens a bracket
pub sized_told : (k : Kind) → 0 < (terminal k).size → IsNumber k ⊎ IsOpening k
sized_told (kinds.Word w) l = absurd (omega arith)
sized_told (kinds.Name text) l = absurd (omega arith)
sized_told (kinds.Number n) l = inl (n, refl)
sized_told (kinds.Text text) l = absurd (omega arith)
sized_told (kinds.Uuid id) l = absurd (omega arith)
sized_told (kinds.Mark m) l = absurd (omega arith)
sized_told (kinds.Open b level) l = inr (b, level, refl)
sized_told (kinds.Shut b) l = absurd (omega arith)
sized_told kinds.End l = absurd (omega arith)
sized_told kinds.Bad l = absurd (omega arith)

pub ruleset calling = (sized_told)

positive : (n : ℕ) → (n ≡ 0 → ⊥) → 0 < n
positive n h = grind arith

pub has_size : (tokens rest : List Token) (token : Token) (odd : Bool) → EndsOnce tokens → parse rule file (terminals tokens) ≡ Err (record { odd = odd; rest = terminals rest }) → token ≡ get_or tokens (length tokens - length rest) token → odd ≡ true → 0 < (terminal token.kind).size
has_size tokens rest token odd o e g t =
    let d = first_departure tokens rest token odd o e g in
    positive (terminal token.kind).size (oversized_kind tokens token (subst (λ (b : Bool). FirstDeparture tokens token b) t d))

called : (tokens : List Token) (token : Token) (odd : Bool) (f : IdlFault) → FirstDeparture tokens token odd → IsCalled odd token f → Refuses tokens f
called tokens token odd (BadToken at) d c = record { token = token; oversized = odd; first = d; place = c.0; kind_is = c.1 }
called tokens token odd (Expected at) d c = record { token = token; oversized = odd; first = d; place = c.0; kind_is = (c.1, c.2) }
called tokens token odd (TooLarge at) d c = record { token = token; oversized = odd; first = d; place = c.0; kind_is = (c.1, c.2) }
called tokens token odd (TooDeep at) d c = record { token = token; oversized = odd; first = d; place = c.0; kind_is = (c.1, c.2) }
called tokens token odd Memory d c = absurd c

pub refuses : (tokens rest : List Token) (token : Token) (odd : Bool) (f : IdlFault) → EndsOnce tokens → parse rule file (terminals tokens) ≡ Err (record { odd = odd; rest = terminals rest }) → token ≡ get_or tokens (length tokens - length rest) token → IsCalled odd token f → Refuses tokens f
refuses tokens rest token odd f o e g c = called tokens token odd f (first_departure tokens rest token odd o e g) c

pub no_tree : (tokens rest : List Token) (odd : Bool) → parse rule file (terminals tokens) ≡ Err (record { odd = odd; rest = terminals rest }) → (tree : Ast) → IsTree tokens tree → ⊥
no_tree tokens rest odd e tree t = not_taken tokens (record { odd = odd; rest = terminals rest }) e t.taken

pub ruleset reading = (is_tree, stands_there, has_size, refuses, no_tree)

-- ---- by the text

pub is_cause : (text : List ℕ) (tokens : List Token) (f : IdlFault) → AreTokens text tokens → Refuses tokens f → IsCause text f
is_cause text tokens (BadToken at) a r = (tokens, a, r)
is_cause text tokens (Expected at) a r = (tokens, a, r)
is_cause text tokens (TooLarge at) a r = (tokens, a, r)
is_cause text tokens (TooDeep at) a r = (tokens, a, r)
is_cause text tokens Memory a r = tt

pub is_idl : (text : List ℕ) (tokens : List Token) (tree : Ast) → AreTokens text tokens → IsTree tokens tree → IsIdl text tree
is_idl text tokens tree a t = record { tokens = tokens; cut = a; tree_is = t }

pub ruleset texts = (is_cause, is_idl)

pub no_text : (text : List ℕ) (tokens : List Token) (r : Result Ast IdlFault) → AreTokens text tokens → IfErr r (λ e. (e ≡ Memory) ⊎ ((tree : Ast) → IsTree tokens tree → ⊥)) → IfErr r (λ e. (e ≡ Memory) ⊎ ((tree : Ast) → IsIdl text tree → ⊥))
no_text text tokens (Ok x) a h = h
no_text text tokens (Err e) a h =
    elim h [
      | inl m ↦ inl m
      | inr n ↦ inr (λ tree i. n tree (subst (λ (ts : List Token). IsTree ts tree) (cut_once i.cut a) i.tree_is))
    ]
