-- How a text's tokens stand.
use Rattle.std.specs.Prelude.{◌≡◌, ◌<◌, ◌⊎◌, List, [], ◌∷◌}
use Rattle.idl_tokens.specs.declared.kinds.Kind.{Kind}
use Rattle.idl_tokens.specs.declared.kinds.Kind.TheVariants as kinds
use Rattle.idl_tokens.specs.declared.kinds.Token.{Token}

-- the end of the text, or what is no token
abbrev pub IsLast : Kind → Type 0
IsLast kind = (kind ≡ kinds.End) ⊎ (kind ≡ kinds.Bad)

-- the last token is the only one that ends the text
abbrev pub EndsOnce : List Token → Type 0
EndsOnce [] = ⊥
EndsOnce (t ∷ []) = IsLast t.kind
EndsOnce (t ∷ u ∷ ts) = (IsLast t.kind → ⊥) × EndsOnce (u ∷ ts)

-- each token begins behind the one before it
abbrev pub PlacesRise : List Token → Type 0
PlacesRise [] = Unit {0}
PlacesRise (t ∷ []) = Unit {0}
PlacesRise (t ∷ u ∷ ts) = (t.at < u.at) × PlacesRise (u ∷ ts)
