-- What the program has of full pointers. Only private clauses speak of this.
use Rattle.std.specs.Prelude.{◌≡◌, ℕ, Option, Some, None}
use Rattle.std.specs.Ordering.{nat_cmp}
use Rattle.std.specs.BTreeMap.{BTreeMap, get}
use Rattle.ndr_value.specs.Forms.{Form, form}
use Rattle.client_texts.specs.declared.aims.Aim.{Aim}
use Rattle.client_texts.specs.Heaps.{Aims, first_aim}

abbrev pub aim_of : Aim → ℕ × Form
aim_of a = (a.number, form a.shape.now)

abbrev pub pointed : Option Aim → Option Form
pointed None = None
pointed (Some a) = Some (form a.shape.now)

-- of these full pointers the map has the first to each item
abbrev pub HasFirsts : BTreeMap ℕ Aim → Aims → Type 0
HasFirsts firsts before = (n : ℕ) → pointed (get nat_cmp firsts n) ≡ first_aim before n
