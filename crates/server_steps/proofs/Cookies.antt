-- Cookies for slots.
use Rattle.std.proofs.Common.{◌≡◌, ℕ, suc, Bool, true, false, ◌&&◌, Option, List, [], ◌∷◌, length, refl, ap}
use Rattle.handle_model.specs.declared.entry.Slot.{Slot}
use Rattle.server_calls.specs.Suited.{suit_cookies}

second : (a b : Bool) → (a && b) ≡ true → b ≡ true
second true b h = h
second false b h = absurd cc

pub suit_length : (ss : List Slot) (cs : List (Option ℕ)) → suit_cookies ss cs ≡ true → length cs ≡ length ss
suit_length [] [] h = refl
suit_length [] (c ∷ cs) h = absurd cc
suit_length (s ∷ ss) [] h = absurd cc
suit_length (s ∷ ss) (c ∷ cs) h = ap suc (suit_length ss cs (second _ (suit_cookies ss cs) h))
