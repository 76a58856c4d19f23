-- Each context that is accepted was asked for.
use Rattle.std.proofs.Common.{◌≡◌, ℕ, suc, Bool, true, false, nat_eq, Option, Some, None, List, [], ◌∷◌, ◌++◌, refl, ap, ◌∙◌, arith, inl, inr}
use Rattle.std.specs.Prelude.{◌⊎◌, Contains}
use Rattle.std.specs.List.{find}
use Rattle.std.specs.Option.{option_map, option_or}
use Rattle.std.proofs.lemmas.List.Folds.{find-append}
use Rattle.std.proofs.lemmas.Option.{none-some}
use Rattle.rpc_base.specs.declared.identifiers.SyntaxId.{SyntaxId}
use Rattle.pdu_codec.specs.declared.pdu.Element.{Element}
use Rattle.presentation.specs.declared.verdict.Accepted.{Accepted}
use Rattle.presentation.specs.Serving.{serving, has_ndr}
use Rattle.presentation.specs.Offers.{after, contexts_after, interface_of, is_of}
use Rattle.presentation.specs.Laws.{AsksForContext}
use Rattle.presentation.proofs.Offered.{AddsContext, one}

abbrev Backed : List SyntaxId → List Element → List Accepted → Type 0
Backed ids all a = (c k : ℕ) → interface_of a c ≡ Some k → (e : Element) × Contains all e × AsksForContext ids c k e

-- the new one, or one of those before
in_either : (o p : Option Accepted) (k : ℕ) → option_map (λ (x : Accepted). x.interface) (option_or o p) ≡ Some k
    → (option_map (λ (x : Accepted). x.interface) o ≡ Some k) ⊎ (option_map (λ (x : Accepted). x.interface) p ≡ Some k)
in_either None p k h = inr h
in_either (Some x) p k h = inl h

in_new : (x : Accepted) (c k : ℕ) (b : Bool) → nat_eq x.context c ≡ b → interface_of (x ∷ []) c ≡ Some k → (x.context ≡ c) × (x.interface ≡ k)
in_new x c k true b h = (grind arith, grind arith)
in_new x c k false b h = grind arith

backed_in : (ids : List SyntaxId) (all : List Element) (a : List Accepted) (e : Element) (j : ℕ) → Contains all e → serving ids e.syntax ≡ Some j → has_ndr e.transfers ≡ true → Backed ids all a
    → (c k : ℕ) → (interface_of a c ≡ Some k) ⊎ (interface_of (record { context = e.context; interface = j } ∷ []) c ≡ Some k) → (e : Element) × Contains all e × AsksForContext ids c k e
backed_in ids all a e j within serves ndr backed c k (inl h) = backed c k h
backed_in ids all a e j within serves ndr backed c k (inr h) =
    let x : Accepted = record { context = e.context; interface = j } in
    let both : (x.context ≡ c) × (x.interface ≡ k) = in_new x c k (nat_eq x.context c) refl h in
    (e, within, record { context_is = both.0; interface_is = serves ∙ ap Some both.1; ndr = ndr })

backed_new : (ids : List SyntaxId) (all : List Element) (a : List Accepted) (e : Element) (j : ℕ) → Contains all e → serving ids e.syntax ≡ Some j → has_ndr e.transfers ≡ true → Backed ids all a
    → Backed ids all (a ++ record { context = e.context; interface = j } ∷ [])
backed_new ids all a e j within serves ndr backed c k h =
    let x : List Accepted = record { context = e.context; interface = j } ∷ [] in
    backed_in ids all a e j within serves ndr backed c k (in_either (find (is_of c) a) (find (is_of c) x) k (rw (find-append (is_of c) a x) at h))

backed_one : (ids : List SyntaxId) (all : List Element) (a : List Accepted) (e : Element) → Contains all e → (after ids a e ≡ a) ⊎ AddsContext ids a e → Backed ids all a
    → Backed ids all (after ids a e)
backed_one ids all a e within (inl same) backed = rw same backed
backed_one ids all a e within (inr adds) backed = rw adds.new (λ c k h. backed_new ids all a e adds.k within adds.serves adds.ndr backed c k h)

first : (e : Element) (es : List Element) → Contains (e ∷ es) e
first e es = (0, omega arith, refl)

behind : (e : Element) (es : List Element) (x : Element) → Contains es x → Contains (e ∷ es) x
behind e es x (k, lt, is) = (suc k, omega arith, is)

backed_all : (ids : List SyntaxId) (all : List Element) (a : List Accepted) (es : List Element) → ((x : Element) → Contains es x → Contains all x) → Backed ids all a
    → Backed ids all (contexts_after ids a es)
unfolding contexts_after
backed_all ids all a [] within backed = backed
backed_all ids all a (e ∷ es) within backed =
    backed_all ids all (after ids a e) es (λ x h. within x (behind e es x h)) (backed_one ids all a e (within e (first e es)) (one ids a e) backed)

pub backed : (ids : List SyntaxId) (es : List Element) (c k : ℕ) → interface_of (contexts_after ids [] es) c ≡ Some k → (e : Element) × Contains es e × AsksForContext ids c k e
backed ids es = backed_all ids es [] es (λ x h. h) (λ c k h. absurd (none-some k h))
