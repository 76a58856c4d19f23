-- The moments at which the entries of a journal came.
use Rattle.std.proofs.Common.{◌≡◌, ℕ, Bool, true, false, if◌then◌else◌, List, [], ◌∷◌, ◌++◌, filter, refl, ap, ◌∙◌, subst}
use Rattle.handle_model.specs.declared.entry.Home.{Home}
use Rattle.handle_model.specs.declared.entry.Entry.{Entry}
use Rattle.handle_model.specs.declared.base.Base.{Base}
use Rattle.handle_model.specs.Bases.{empty_base}
use Rattle.handle_model.specs.History.{History, since}
use Rattle.handle_model.specs.Journal.{Allowed, LegalSince, Legal}
use Rattle.conn_histories.specs.Tales.{whole}
use Rattle.conn_turns.specs.Reasons.{Came}

-- an entry that a test lets through, and those before it
pub record Split (p : Entry → Bool) (xs : List Entry) (e : Entry) (back : List Entry) : Type 0 where
  pub newer : List Entry
  pub older : List Entry
  pub is : xs ≡ newer ++ e ∷ older
  pub rest : filter p older ≡ back

further : (p : Entry → Bool) (x : Entry) (xs : List Entry) (e : Entry) (back : List Entry) → Split p xs e back → Split p (x ∷ xs) e back
further p x xs e back s = record { newer = x ∷ s.newer; older = s.older; is = ap (λ l. x ∷ l) s.is; rest = s.rest }

pub split : (p : Entry → Bool) (xs front : List Entry) (e : Entry) (back : List Entry) → filter p xs ≡ front ++ e ∷ back → Split p xs e back
split p [] [] e back h = absurd cc
split p [] (f ∷ front) e back h = absurd cc
split p (x ∷ xs) front e back h = by_test (p x) (λ g i. split p xs g e back i) front h
  where
    by_test : (b : Bool) → ((g : List Entry) → filter p xs ≡ g ++ e ∷ back → Split p xs e back) → (g : List Entry)
        → (if b then x ∷ filter p xs else filter p xs) ≡ g ++ e ∷ back → Split p (x ∷ xs) e back
    by_test true r [] h = let same : x ≡ e = cc in record { newer = []; older = xs; is = ap (λ y. y ∷ xs) same; rest = cc }
    by_test true r (f ∷ g) h = let i : filter p xs ≡ g ++ e ∷ back = cc in further p x xs e back (r g i)
    by_test false r g h = further p x xs e back (r g h)

pub legal_at : (home : Home) (base : Base) (newer : List Entry) (e : Entry) (older : List Entry) → LegalSince home base (newer ++ e ∷ older) → Allowed (since home base older) e
legal_at home base [] e older l = l.0
legal_at home base (x ∷ newer) e older l = legal_at home base newer e older l.1

pub came : (home : Home) (past : List Entry) → Legal (whole home past) → (So : History → Type 0) (newer : List Entry) (e : Entry) (older : List Entry) → past ≡ newer ++ e ∷ older → So (whole home older)
    → Came home So past e
came home past legal So newer e older is so =
    let at = legal_at home empty_base newer e older (subst (LegalSince home empty_base) is legal) in
    record { newer = newer; older = older; moment = is; fits = at.fits; so = so }
