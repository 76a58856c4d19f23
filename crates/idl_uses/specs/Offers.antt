-- What the names of a list may stand for in attributes.
use Rattle.std.specs.Prelude.{◌≡◌, ℕ, Bool, true, false, not, ◌&&◌, ◌||◌, List, Option, Some, None, bytes_eq, if◌then◌else◌}
use Rattle.std.specs.List.{list_any}
use Rattle.std.specs.declared.vec.Vec.{Vec}
use Rattle.std.specs.declared.alloc.Global.{Global}
use Rattle.std.specs.BTreeMap.{BTreeMap}
use Rattle.rpc_base.specs.Named.{at_name}
use Rattle.idl_outline.specs.declared.field.Declared.{Declared}
use Rattle.idl_outline.specs.declared.field.Field.{Field}
use Rattle.idl_outline.specs.declared.field.NameRef.{NameRef}
use Rattle.idl_rules.specs.declared.asked.Asked.{Asked}
use Rattle.idl_rules.specs.declared.asked.Asked.TheVariants as asks
use Rattle.idl_rules.specs.Types.{has, says_in, is_parameter}
use Rattle.idl_rules.specs.SizeName.{is_of}
use Rattle.idl_uses.specs.declared.offers.Want.{Want}
use Rattle.idl_uses.specs.declared.offers.Kinds.{Kinds}
use Rattle.idl_uses.specs.declared.offers.Offer.{Offer}

abbrev pub kind : Kinds → Asked → Bool
kind k asks.Integer = k.integer
kind k asks.Tag = k.tag

abbrev pub meets : Offer → Want → Bool
meets o w = if w.inward then (if w.star then kind o.star_in w.asked else kind o.plain_in w.asked) else (if w.star then kind o.star w.asked else kind o.plain w.asked)

abbrev pub both : Kinds → Kinds → Kinds
both a b = record { integer = a.integer || b.integer; tag = a.tag || b.tag }

abbrev pub joined : Offer → Offer → Offer
joined a b = record { plain = both a.plain b.plain; star = both a.star b.star; plain_in = both a.plain_in b.plain_in; star_in = both a.star_in b.star_in }

abbrev pub no_kinds : Kinds
no_kinds = record { integer = false; tag = false }

abbrev pub no_offer : Offer
no_offer = record { plain = no_kinds; star = no_kinds; plain_in = no_kinds; star_in = no_kinds }

abbrev pub kinds_of : Bool → Field → Declared → Kinds
kinds_of star g d = record { integer = is_of asks.Integer star g d; tag = is_of asks.Tag star g d }

abbrev pub kinds_if : Bool → Kinds → Kinds
kinds_if b k = record { integer = b && k.integer; tag = b && k.tag }

abbrev pub offer_of : Field → Declared → Offer
offer_of g d = record {
  plain = kinds_of false g d;
  star = kinds_of true g d;
  plain_in = kinds_if (has says_in g) (kinds_of false g d);
  star_in = kinds_if (has says_in g) (kinds_of true g d);
}

-- what is asked where the attributes of f name n
abbrev pub want : Asked → Field → NameRef → Want
want k f n = record { asked = k; star = n.star; inward = is_parameter f.place && has says_in f }

-- ---- the names of a list

abbrev pub Key : Type 0
Key = Vec ℕ Global

abbrev pub or_none : Option Offer → Offer
or_none None = no_offer
or_none (Some o) = o

abbrev pub found : BTreeMap Key Offer → List ℕ → Offer
found offers name = or_none (at_name offers name)

-- the declarator has that name, and may stand there
abbrev pub offers_as : List ℕ → Want → Field → Declared → Bool
offers_as name w g d = bytes_eq d.name.text name && meets (offer_of g d) w

abbrev pub IsOffers : List Field → BTreeMap Key Offer → Type 0
IsOffers list offers = (name : List ℕ) (w : Want) → meets (found offers name) w ≡ list_any (λ g. list_any (offers_as name w g) g.declared) list

-- ---- offers more

-- the declarator has that name, and the offer suits
abbrev pub meets_as : Declared → Offer → List ℕ → Want → Bool
meets_as d o name w = bytes_eq d.name.text name && meets o w

-- some declarator of the field has that name, and may stand there
abbrev pub any_meets : Field → List ℕ → Want → Bool
any_meets g name w = list_any (offers_as name w g) g.declared

-- each name has what more says of it beside what it had
abbrev pub Gains : (List ℕ → Want → Bool) → BTreeMap Key Offer → BTreeMap Key Offer → Type 0
Gains more old new = (name : List ℕ) (w : Want) → meets (found new name) w ≡ (more name w || meets (found old name) w)
