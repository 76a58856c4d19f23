-- Shapes whose values have no referents and no handles.
use Rattle.std.specs.Prelude.{Bool, true, false, Ok}
use Rattle.ndr_value.specs.Forms.{Form, OfBool, OfByte, OfChar, OfInt, OfUint, OfEnum, OfArray, OfText}
use Rattle.ndr_arrays.specs.Bind.{◌>>=◌}
use Rattle.ndr_model.specs.Places.{past, onto}
use Rattle.ndr_model.specs.Build.{Built, Found}

abbrev pub is_byte : Form → Bool
is_byte OfByte = true
is_byte _ = false

-- numbers, names, texts, and arrays of octets
abbrev pub alone : Form → Bool
alone OfBool = true
alone OfByte = true
alone OfChar = true
alone (OfInt size) = true
alone (OfUint size) = true
alone (OfEnum count) = true
alone (OfText size) = true
alone (OfArray kind s) = is_byte s
alone _ = false

-- a value that ends where its flat part ends
abbrev pub ended : Built → Found
ended built = built >>= λ x. Ok (x.0, onto (past x.1.all.here x.1.flat.at) x.1.all)
