-- Rule 2, Duplicate: a name is declared twice among the interface's names (types, constants, names of enumerations, operations),
-- among its tags, among one operation's parameters, or among one body's members.
use Rattle.std.specs.Prelude.{ℕ, Bool, List, [], ◌++◌, Option, Some, None, map, bytes_eq}
use Rattle.std.specs.List.{flat_map}
use Rattle.idl_tree.specs.declared.leaf.Ident.{Ident}
use Rattle.idl_outline.specs.declared.field.Declared.{Declared}
use Rattle.idl_outline.specs.declared.field.Field.{Field}
use Rattle.idl_outline.specs.declared.event.Event.{Event}
use Rattle.idl_outline.specs.declared.event.Event.TheVariants as events
use Rattle.idl_outline.specs.Names.{Past, is_declared, is_tag_declared, name_in, tag_in}
use Rattle.idl_rules.specs.Places.{at_if, repeats}

abbrev pub again : (List ℕ → Past → Bool) → Past → Option Ident → List ℕ
again declared past None = []
again declared past (Some i) = at_if (declared i.text past) i.at

-- the names that a list of fields declares, in order
abbrev pub name_of : Declared → Ident
name_of d = d.name

abbrev pub field_names : Field → List Ident
field_names f = map name_of f.declared

abbrev pub names_of : List Field → List Ident
names_of fs = flat_map field_names fs

abbrev pub same_name : Ident → Ident → Bool
same_name a b = bytes_eq a.text b.text

abbrev pub place_of : Ident → ℕ
place_of i = i.at

abbrev pub names_again : List Field → List ℕ
names_again fs = repeats same_name place_of (names_of fs)

abbrev pub listed_again : Event → List ℕ
listed_again (events.Body tag fs) = names_again fs
listed_again (events.Call r ps) = names_again ps
listed_again _ = []

abbrev pub duplicate : Past → Event → List ℕ
duplicate past e = again is_declared past (name_in e) ++ (again is_tag_declared past (tag_in e) ++ listed_again e)
