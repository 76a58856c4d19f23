-- A ring as contracts see it: its links in order, without the stop.
use Rattle.std.specs.Prelude.{◌≡◌, List, [], ◌∷◌, ◌++◌, map}
use Rattle.lru.specs.Linked.{IsApart}
use denote.RawPtr.{Ptr}

-- a link: its address, and what it carries
pub record Linked (T : Type 0) : Type 0 where
  pub at : Ptr
  pub val : T

module _ {T : Type 0} where
  abbrev pub linked : Ptr → T → Linked T
  linked p v = record { at = p; val = v }

  abbrev pub places : List (Linked T) → List Ptr
  places = map (λ n. n.at)

  -- the addresses of the links after the stop, and of the stop again
  abbrev pub turn : Ptr → List (Linked T) → List Ptr
  turn s ns = places ns ++ s ∷ []

  -- no address comes twice
  abbrev pub AreApart : List (Linked T) → Type 0
  AreApart ns = IsApart (places ns)

  -- one of the links lies at p
  abbrev pub IsAt : List (Linked T) → Ptr → Type 0
  IsAt ns p = (xs : List (Linked T)) × (n : Linked T) × (ys : List (Linked T)) × (ns ≡ xs ++ n ∷ ys) × (n.at ≡ p)

  -- P holds of the links before the one at p, of that one, and of the links after it
  abbrev pub AtLink : List (Linked T) → Ptr → (List (Linked T) → Linked T → List (Linked T) → Type 0) → Type 0
  AtLink ns p P = (xs : List (Linked T)) (n : Linked T) (ys : List (Linked T)) → ns ≡ xs ++ n ∷ ys → n.at ≡ p → P xs n ys

  -- the address of the first link, or of the stop where there is none
  abbrev pub first_of : Ptr → List (Linked T) → Ptr
  first_of s [] = s
  first_of s (n ∷ ns) = n.at

  -- what the first link carries, or v where there is none
  abbrev pub first_val : T → List (Linked T) → T
  first_val v [] = v
  first_val v (n ∷ ns) = n.val
