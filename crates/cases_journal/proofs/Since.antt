-- What an entry or the base says, read from the other end.
use Rattle.std.proofs.Common.{◌≡◌, Bool, true, false, ◌||◌, List, [], ◌∷◌, refl, sym, reverse}
use Rattle.std.specs.List.{list_any}
use Rattle.handle_model.specs.declared.entry.Entry.{Entry}
use Rattle.handle_model.specs.Journal.{any_since}
use Rattle.handle_model.proofs.Reversed.{list_any-reverse}

or_assoc : (a b c : Bool) → ((a || b) || c) ≡ (a || (b || c))
or_assoc true b c = refl
or_assoc false b c = refl

pub since_or : (start : Bool) (p : Entry → Bool) (past : List Entry) → any_since start p past ≡ (list_any p past || start)
since_or start p [] = refl
since_or start p (e ∷ past) = rw (since_or start p past) (sym (or_assoc (p e) (list_any p past) start))

pub any_since-reverse : (start : Bool) (p : Entry → Bool) (xs : List Entry) → any_since start p (reverse xs) ≡ (list_any p xs || start)
any_since-reverse start p xs = rw (since_or start p (reverse xs), list_any-reverse p xs) refl
