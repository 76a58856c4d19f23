-- Laws of value texts.
use Rattle.std.specs.Prelude.{◌≡◌, ℕ, List}
use Rattle.ndr_value.specs.Forms.{Form}
use Rattle.ndr_value.specs.Values.{Val}
use Rattle.value_text.specs.Stands.{Stands}

-- one value of a shape at most stands at the front of a text
abbrev pub OneValue : Type 0
OneValue = (types : List Form) (heap level : ℕ) (s : Form) (text : List ℕ) (v w : Val) (x y : List ℕ) → Stands types heap level s text v x → Stands types heap level s text w y → (v ≡ w) × (x ≡ y)
