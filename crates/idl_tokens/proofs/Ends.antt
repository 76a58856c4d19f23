-- How tokens stand.
use Rattle.std.proofs.Common.{◌≡◌, ℕ, ◌+◌, ◌<◌, ◌≤◌, List, [], ◌∷◌, length, Bool, true, false, MatchBool, inl, inr, arith}
use Rattle.idl_tokens.specs.declared.kinds.Kind.{Kind}
use Rattle.idl_tokens.specs.declared.kinds.Kind.TheVariants as kinds
use Rattle.idl_tokens.specs.declared.kinds.Token.{Token}
use Rattle.idl_tokens.specs.Laws.{IsLast, EndsOnce, PlacesRise}
use Rattle.idl_tokens.specs.Tokens.{IsUuidAt, Spells, Cut, wants_uuid, depth_of}
use Rattle.idl_tokens.specs.Tokens.Cut.{end, bad, next}
use Rattle.idl_tokens.proofs.Shorter.{BeginsWith-lt, gap-le}

spells_no_last : (depth : ℕ) (text : List ℕ) (kind : Kind) (rest : List ℕ) → Spells depth text kind rest → IsLast kind → ⊥
spells_no_last depth text (kinds.Word word) rest h (inl e) = cc
spells_no_last depth text (kinds.Word word) rest h (inr e) = cc
spells_no_last depth text (kinds.Name name) rest h (inl e) = cc
spells_no_last depth text (kinds.Name name) rest h (inr e) = cc
spells_no_last depth text (kinds.Number value) rest h (inl e) = cc
spells_no_last depth text (kinds.Number value) rest h (inr e) = cc
spells_no_last depth text (kinds.Text inside) rest h (inl e) = cc
spells_no_last depth text (kinds.Text inside) rest h (inr e) = cc
spells_no_last depth text (kinds.Uuid id) rest h e = h
spells_no_last depth text (kinds.Mark mark) rest h (inl e) = cc
spells_no_last depth text (kinds.Mark mark) rest h (inr e) = cc
spells_no_last depth text (kinds.Open bracket level) rest h (inl e) = cc
spells_no_last depth text (kinds.Open bracket level) rest h (inr e) = cc
spells_no_last depth text (kinds.Shut bracket) rest h (inl e) = cc
spells_no_last depth text (kinds.Shut bracket) rest h (inr e) = cc
spells_no_last depth text kinds.End rest h e = h
spells_no_last depth text kinds.Bad rest h e = h

uuid_no_last : (kind : Kind) (id : List ℕ) → kind ≡ kinds.Uuid id → IsLast kind → ⊥
uuid_no_last kind id e (inl f) = cc
uuid_no_last kind id e (inr f) = cc

begins_no_last : (b : Bool) (depth : ℕ) (text : List ℕ) (kind : Kind) (rest : List ℕ) → MatchBool b ((id : List ℕ) × (kind ≡ kinds.Uuid id) × IsUuidAt text id rest) (Spells depth text kind rest) → IsLast kind → ⊥
begins_no_last true depth text kind rest h e = uuid_no_last kind h.0 h.1 e
begins_no_last false depth text kind rest h e = spells_no_last depth text kind rest h e

-- one token in front of others
joins : (t : Token) (ts : List Token) → (IsLast t.kind → ⊥) → EndsOnce ts → EndsOnce (t ∷ ts)
joins t [] h e = absurd e
joins t (u ∷ us) h e = (h, e)

pub ends_once : {total : ℕ} {before : List Kind} {text : List ℕ} {ts : List Token} → Cut total before text ts → EndsOnce ts
ends_once (end t g at is) = inl is
ends_once (bad t g at is stuck) = inr is
ends_once {before = before} (next {here = here} {rest = rest} {ts = ts} t g at begins cut) =
    joins t ts (begins_no_last (wants_uuid before) (depth_of before) here t.kind rest begins) (ends_once cut)

-- the first token stands where the text has no more than this left
abbrev StandsIn : ℕ → ℕ → List Token → Type 0
StandsIn total left [] = Unit {0}
StandsIn total left (t ∷ ts) = total ≤ t.at + left

stands_in : {total : ℕ} {before : List Kind} {text : List ℕ} {ts : List Token} → Cut total before text ts → StandsIn total (length text) ts
stands_in (end t g at is) = omega arith
stands_in {text = text} (bad {here = here} t g at is stuck) = omega (arith, gap-le {here = here} {text = text} g)
stands_in {text = text} (next {here = here} t g at begins cut) = omega (arith, gap-le {here = here} {text = text} g)

above : (total left : ℕ) (t : Token) (ts : List Token) → t.at + left < total → StandsIn total left ts → PlacesRise ts → PlacesRise (t ∷ ts)
above total left t [] h s p = tt
above total left t (u ∷ us) h s p = (omega arith, p)

pub places_rise : {total : ℕ} {before : List Kind} {text : List ℕ} {ts : List Token} → Cut total before text ts → PlacesRise ts
places_rise (end t g at is) = tt
places_rise (bad t g at is stuck) = tt
places_rise {total} {before = before} (next {here = here} {rest = rest} {ts = ts} t g at begins cut) =
    above total (length rest) t ts (omega (arith, BeginsWith-lt before here t.kind rest begins)) (stands_in cut) (places_rise cut)
