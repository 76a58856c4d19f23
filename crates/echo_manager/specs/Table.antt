-- The table of the probe's interface.
use Rattle.std.specs.Prelude.{[], ◌∷◌, true, false, codes}
use Rattle.ndr_value.specs.Forms.{OfUint, OfRef, OfHandle}
use Rattle.ndr_table.specs.Tables.{OpForm, TableForm}
use Rattle.desk_kit.specs.TableParts.{goes_in, goes_out, goes_both, operation, used}

-- probe_open(n, h): n goes in, h comes out
abbrev pub open_form : OpForm
open_form = operation (codes "probe_open") (goes_in (OfUint 4) ∷ goes_out (OfRef (OfHandle 0)) ∷ [])

-- probe_close(h): h goes both ways
abbrev pub close_form : OpForm
close_form = operation (codes "probe_close") (goes_both (OfRef (OfHandle 0)) ∷ [])

abbrev pub probe_table : TableForm
probe_table = record {
  id = record { id = 0x5f ∷ 0x0c ∷ 0x7a ∷ 0x12 ∷ 0x3b ∷ 0x4d ∷ 0x4e ∷ 0x6f ∷ 0x8a ∷ 0x90 ∷ 0xb1 ∷ 0xc2 ∷ 0xd3 ∷ 0xe4 ∷ 0xf5 ∷ 0x06 ∷ []; major = 1; minor = 0 };
  types = [];
  ops = open_form ∷ close_form ∷ [];
  uses = (used 0 false true true ∷ []) ∷ (used 0 true true true ∷ []) ∷ [];
}
