-- What a reader reads, by what names stand for in it.
use Rattle.std.specs.Prelude.{ℕ, List}
use Rattle.ndr_value.specs.Forms.{Form, types_of}
use Rattle.value_text.specs.Reading as spec
use Rattle.value_text.specs.declared.read.Reader.{Reader}

-- values of shapes, so many constructs and names deep at most
abbrev pub read_of : Reader → ℕ → ℕ → Form → List ℕ → spec.Found
read_of r room = spec.read (types_of r.types.now) room
