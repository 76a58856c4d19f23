-- Pieces of a flat part: names, handles, texts, and the mark of a max_count in its place.
use Rattle.std.specs.Prelude.{ℕ, suc, pos, List, [], ◌∷◌, Option, Some, None, Ok}
use Rattle.rpc_base.specs.declared.identifiers.Order.{Order}
use Rattle.ndr_value.specs.Values.{VEnum, VText, VHandle}
use Rattle.ndr_scalars.specs.Scalars.{up}
use Rattle.ndr_arrays.specs.Bind.{◌>>=◌}
use Rattle.ndr_model.specs.declared.mark.Mark.{Mark}
use Rattle.ndr_model.specs.declared.mark.Mark.TheVariants.{Number}
use Rattle.ndr_model.specs.Places.{Last}
use Rattle.ndr_model.specs.Reading.{name_at, wire_at, chars_at}
use Rattle.ndr_model.specs.Build.{Cursor, Built, ahead, ends}

abbrev pub wire_build : Order → List ℕ → Cursor → Last → Built
wire_build order octets a q = wire_at order octets a.at >>= λ x. Ok (VHandle a.handles, ends (record { at = x.1; ids = a.ids; handles = suc a.handles }) q)

abbrev pub name_build : Order → List ℕ → ℕ → Cursor → Last → Built
name_build order octets count a q = name_at order octets count a.at >>= λ x. Ok (VEnum x.0, ends (ahead a x.1) q)

abbrev pub chars_build : Order → List ℕ → Option ℕ → Option ℕ → Cursor → Last → Built
chars_build order octets size moved a q = chars_at order octets size moved a.at >>= λ x. Ok (VText x.0, ends (ahead a x.1) q)

-- a max_count after index i, unless it has moved in front of a structure
abbrev pub most_marks : Option ℕ → ℕ → ℕ → List Mark
most_marks (Some most) n i = []
most_marks None n i = Number (up i 4) (pos n) ∷ []
