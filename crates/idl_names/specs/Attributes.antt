-- What a list of attributes says. Of two of one kind the first counts.
use Rattle.std.specs.Prelude.{Bool, true, false, not, ◌||◌, List, [], ◌∷◌, Option, Some, None}
use Rattle.std.specs.Option.{option_or}
use Rattle.idl_tree.specs.declared.leaf.Pk.{Pk}
use Rattle.idl_tree.specs.declared.leaf.Pk.TheVariants as pks
use Rattle.idl_forms.specs.Forms.{AttrKindForm, OfIn, OfOut, OfPointer, OfText, OfMaybe, OfContext, OfSerialize, OfNoserialize, AttrForm, an_attr, AttrForms, no_attr, then_attr, FileKindForm, OfPointerDefault, FileForm}
use Rattle.idl_names.specs.declared.attributes.Word.{Word}
use Rattle.idl_names.specs.declared.attributes.Word.TheVariants as words
use Rattle.idl_names.specs.declared.place.Place.{Place}
use Rattle.idl_names.specs.declared.place.Place.TheVariants as places

abbrev pub kind_of : AttrForm → AttrKindForm
kind_of (an_attr at m) = m

-- what the first attribute of a kind gives
abbrev pub given : {X : Type 0} → (AttrKindForm → Option X) → AttrForms → Option X
given f no_attr = None
given f (then_attr a rest) = option_or (f (kind_of a)) (given f rest)

abbrev pub says : (AttrKindForm → Bool) → AttrForms → Bool
says f no_attr = false
says f (then_attr a rest) = f (kind_of a) || says f rest

abbrev pub says_in : AttrKindForm → Bool
says_in OfIn = true
says_in _ = false

abbrev pub says_out : AttrKindForm → Bool
says_out OfOut = true
says_out _ = false

abbrev pub says_string : AttrKindForm → Bool
says_string OfText = true
says_string _ = false

abbrev pub says_maybe : AttrKindForm → Bool
says_maybe OfMaybe = true
says_maybe _ = false

-- one of the three words for context handles
abbrev pub says_handle : AttrKindForm → Bool
says_handle OfContext = true
says_handle OfSerialize = true
says_handle OfNoserialize = true
says_handle _ = false

abbrev pub says_noserialize : AttrKindForm → Bool
says_noserialize OfNoserialize = true
says_noserialize _ = false

abbrev pub is_word : Word → AttrKindForm → Bool
is_word words.In = says_in
is_word words.Out = says_out
is_word words.Text = says_string
is_word words.Maybe = says_maybe
is_word words.Handle = says_handle
is_word words.Noserialize = says_noserialize

-- each word for context handles but context_handle_noserialize
abbrev pub is_serialised : AttrForms → Bool
is_serialised as' = not (says says_noserialize as')

-- ---- classes of pointers

abbrev pub pointer_in : AttrKindForm → Option Pk
pointer_in (OfPointer k) = Some k
pointer_in _ = None

abbrev pub or_class : Option Pk → Pk → Pk
or_class None p = p
or_class (Some p) _ = p

-- a parameter's own pointers are ref, where no attribute says otherwise
abbrev pub class_at : Pk → Place → Pk
class_at default places.Parameter = pks.Ref
class_at default _ = default

-- the class of the outermost pointer of what a declarator declares that is no array. default: that of the interface
abbrev pub outer_class : Pk → Place → AttrForms → Pk
outer_class default place as' = or_class (given pointer_in as') (class_at default place)

abbrev pub default_in : FileKindForm → Option Pk
default_in (OfPointerDefault k) = Some k
default_in _ = None

-- the class of an interface, unique where it says none
abbrev pub pointer_default : List FileForm → Pk
pointer_default [] = pks.Unique
pointer_default (a ∷ as') = or_class (default_in a.what) (pointer_default as')
