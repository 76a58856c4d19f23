-- Links that are new.
use Rattle.std.proofs.Common.{◌≡◌, ℕ, ◌==◌, true, not, Option, Some, None, List, [], ◌∷◌, ◌++◌, length, refl, arith}
use Rattle.std.specs.Option.{is_some}
use Rattle.rpc_outside.specs.declared.script_link.ScriptLink.{ScriptLink}
use Rattle.rpc_outside.specs.Links.{IsNew}
use Rattle.rpc_outside.specs.ScriptLinks.{shown}
use Rattle.rpc_outside.specs.LinkLists.{is_new, are_new}

no_items : (xs : List ℕ) → (length xs == 0) ≡ true → xs ≡ []
no_items [] is = refl
no_items (x ∷ xs) is = absurd (grind arith)

no_value : (o : Option ℕ) → not (is_some o) ≡ true → o ≡ None
no_value None is = refl
no_value (Some n) is = absurd cc

pub new_shown : (link : ScriptLink) → is_new link ≡ true → IsNew (shown link)
new_shown link is = record {
  is_open = grind arith;
  taken = no_items link.script.taken (grind arith);
  put = no_items link.written (grind arith);
  put_at_end = no_value link.put_at_end (grind arith);
}

pub first_new : (link : ScriptLink) (links : List ScriptLink) → are_new (link ∷ links) ≡ true → (is_new link ≡ true) × (are_new links ≡ true)
first_new link links is = (grind arith, grind arith)

pub new_push : (links : List ScriptLink) (link : ScriptLink) → are_new links ≡ true → is_new link ≡ true → are_new (links ++ link ∷ []) ≡ true
new_push [] link all one = grind arith
new_push (first ∷ links) link all one =
    let here = first_new first links all in
    let rest = new_push links link here.1 one in grind arith
