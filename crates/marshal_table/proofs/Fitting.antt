-- What fits a table: shapes of types and declarators, rows of members, arms. A shape fits where the types that it names are below near, and
-- behind pointers below far.
use Rattle.std.proofs.Common.{◌≡◌, ℕ, zero, suc, ◌-◌, ◌<◌, ◌≤◌, List, [], ◌∷◌, ◌++◌, refl, sym, subst, ◌∙◌, arith, Bool, true, false, Option, None}
use Rattle.std.specs.Prelude.{◌==◌, ◌&&◌, nat_lt, if◌then◌else◌}
use Rattle.std.proofs.lemmas.Grind.{common_steps}
use Rattle.idl_tree.specs.declared.leaf.Pk.{Pk}
use Rattle.idl_tree.specs.declared.leaf.Pk.TheVariants as pks
use Rattle.idl_names.specs.declared.place.Extent.{Extent}
use Rattle.idl_names.specs.declared.place.Extent.TheVariants as extents
use Rattle.idl_outline.specs.declared.ty.Core.{Core}
use Rattle.idl_outline.specs.declared.ty.Core.TheVariants as cores
use Rattle.idl_outline.specs.declared.ty.Text.TheVariants as texts
use Rattle.idl_outline.specs.declared.ty.Layer.{Layer}
use Rattle.idl_outline.specs.declared.ty.Layer.TheVariants as layers
use Rattle.idl_outline.specs.declared.ty.DataType.{DataType}
use Rattle.idl_outline.specs.declared.manner.Manner.{Manner}
use Rattle.idl_outline.specs.Types.{chain, pointers, in_array, outermost, text_array, declared_type, is_char_core, is_characters}
use Rattle.ndr_value.specs.declared.shape.Count.{Count}
use Rattle.ndr_value.specs.Forms.{Form, OfNamed, OfStruct, OfUnion, OfArray, Forms, no_form, then_form, Body, empty, holds, ArmForms, no_arm, then_arm}
use Rattle.ndr_table.specs.Ordered.{is_below, each_below, arms_below, body_below}
use Rattle.marshal_table.specs.declared.said.Terms.{Terms}
use Rattle.marshal_table.specs.Shapes.{core_form, pointer, layer, layered, counted, own_layers, by_extent}
use Rattle.marshal_table.specs.Bodies.{Face, row, arm_row, held}

pub both_of : (a b : Bool) → (a && b) ≡ true → (a ≡ true) × (b ≡ true)
both_of true true e = (refl, refl)
both_of true false e = (refl, e)
both_of false b e = absurd cc

pub and_of : (a b : Bool) → a ≡ true → b ≡ true → (a && b) ≡ true
and_of true true p q = refl
and_of true false p q = q
and_of false b p q = p

pub less_of : (a b : ℕ) → nat_lt a b ≡ true → a < b
less_of a b e = grind (arith, common_steps)

pub less_is : (a b : ℕ) → a < b → nat_lt a b ≡ true
less_is a b h = grind (arith, common_steps)

-- ---- more types

mutual
  pub fits_more : (near more far : ℕ) → near ≤ more → (s : Form) → is_below near far s ≡ true → is_below more far s ≡ true
  fits_more near more far le (OfNamed number switch) e = let h = less_of number near e in less_is number more (omega (arith, h, le))
  fits_more near more far le (OfStruct ss) e = each_more near more far le ss e
  fits_more near more far le (OfUnion tag arms) e =
      let h = both_of (is_below near far tag) (arms_below near far arms) e in
      and_of (is_below more far tag) (arms_below more far arms) (fits_more near more far le tag h.0) (arms_more near more far le arms h.1)
  fits_more near more far le (OfArray kind s) e = fits_more near more far le s e
  fits_more near more far le _ e = e

  each_more : (near more far : ℕ) → near ≤ more → (ss : Forms) → each_below near far ss ≡ true → each_below more far ss ≡ true
  each_more near more far le no_form e = e
  each_more near more far le (then_form s ss) e =
      let h = both_of (is_below near far s) (each_below near far ss) e in
      and_of (is_below more far s) (each_below more far ss) (fits_more near more far le s h.0) (each_more near more far le ss h.1)

  arms_more : (near more far : ℕ) → near ≤ more → (as' : ArmForms) → arms_below near far as' ≡ true → arms_below more far as' ≡ true
  arms_more near more far le no_arm e = e
  arms_more near more far le (then_arm cases default b rest) e =
      let h = both_of (body_below near far b) (arms_below near far rest) e in
      and_of (body_below more far b) (arms_below more far rest) (body_more near more far le b h.0) (arms_more near more far le rest h.1)

  pub body_more : (near more far : ℕ) → near ≤ more → (b : Body) → body_below near far b ≡ true → body_below more far b ≡ true
  body_more near more far le empty e = e
  body_more near more far le (holds s) e = fits_more near more far le s e

-- ---- types

-- a type whose names fit
abbrev pub TypeFits : ℕ → ℕ → List Layer → Core → Type 0
TypeFits near far ls c = is_below near far (layered ls (core_form None c)) ≡ true

pointer_fits : (near far : ℕ) (class : Pk) (s : Form) → is_below near far (pointer class s) ≡ is_below far far s
pointer_fits near far pks.Ref s = refl
pointer_fits near far pks.Unique s = refl
pointer_fits near far pks.Ptr s = refl

-- what names a tag is no name of a type
core_any : (near far : ℕ) (o : Option Count) (c : Core) → is_below near far (core_form o c) ≡ is_below near far (core_form None c)
core_any near far o (cores.Text texts.Pointed) = refl
core_any near far o (cores.Text (texts.Fixed n)) = refl
core_any near far o (cores.Text texts.Open) = refl
core_any near far o (cores.Int true size) = refl
core_any near far o (cores.Int false size) = refl
core_any near far o cores.Boolean = refl
core_any near far o cores.Byte = refl
core_any near far o cores.Char = refl
core_any near far o cores.ErrorStatus = refl
core_any near far o (cores.Enum n) = refl
core_any near far o (cores.Struct ends number) = refl
core_any near far o (cores.Union switched number) = refl
core_any near far o cores.Void = refl
core_any near far o cores.HandleT = refl
core_any near far o (cores.ContextHandle kind serialised) = refl
core_any near far o cores.Unknown = refl

layers_any : (near far : ℕ) (o : Option Count) (ls : List Layer) (c : Core) → is_below near far (layered ls (core_form o c)) ≡ is_below near far (layered ls (core_form None c))
layers_any near far o [] c = core_any near far o c
layers_any near far o (layers.Pointer class ∷ ls) c = pointer_fits near far class (layered ls (core_form o c)) ∙ (layers_any far far o ls c ∙ sym (pointer_fits near far class (layered ls (core_form None c))))
layers_any near far o (layers.Array n ∷ ls) c = layers_any near far o ls c
layers_any near far o (layers.OpenArray ∷ ls) c = layers_any near far o ls c

-- counts change nothing
counted_any : (near far : ℕ) (t : Terms) (l : Layer) (s : Form) → is_below near far (counted t l s) ≡ is_below near far (layer l s)
counted_any near far t (layers.Pointer class) s = refl
counted_any near far t (layers.Array n) s = refl
counted_any near far t layers.OpenArray s = refl

own_any : (near far : ℕ) (t : Terms) (ls : List Layer) (s : Form) → is_below near far (own_layers t ls s) ≡ is_below near far (layered ls s)
own_any near far t [] s = refl
own_any near far t (l ∷ ls) s = counted_any near far t l (layered ls s)

extent_any : (near far : ℕ) (t : Terms) (e : Extent) (ls : List Layer) (s : Form) → is_below near far (by_extent t e ls s) ≡ is_below near far (layered ls s)
extent_any near far t extents.Single ls s = refl
extent_any near far t extents.Open ls s = own_any near far t ls s
extent_any near far t (extents.Fixed size) ls s = own_any near far t ls s

-- a declarator of a type that fits
pub shape_fits : (near far : ℕ) (t : Terms) (e : Extent) (ls : List Layer) (c : Core) → TypeFits near far ls c → is_below near far (by_extent t e ls (core_form t.switch c)) ≡ true
shape_fits near far t e ls c h = extent_any near far t e ls (core_form t.switch c) ∙ (layers_any near far t.switch ls c ∙ h)

-- ---- what a declarator adds to a type

array_fits : (near far : ℕ) (e : Extent) (ls : List Layer) (c : Core) → TypeFits near far ls c → TypeFits near far (in_array e ls) c
array_fits near far extents.Single ls c h = h
array_fits near far extents.Open ls c h = h
array_fits near far (extents.Fixed size) ls c h = h

chain_fits : (far : ℕ) (class : Pk) (n : ℕ) (ls : List Layer) (c : Core) → TypeFits far far ls c → TypeFits far far (chain class n ls) c
chain_fits far class zero ls c h = h
chain_fits far class (suc n) ls c h = pointer_fits far far class (layered (chain class n ls) (core_form None c)) ∙ chain_fits far class n ls c h

pointers_if : (near far : ℕ) (b : Bool) (inner outer : Pk) (m : ℕ) (ls : List Layer) (c : Core) → (b ≡ true → TypeFits near far ls c) → TypeFits far far ls c
    → TypeFits near far (if b then ls else layers.Pointer outer ∷ chain inner m ls) c
pointers_if near far true inner outer m ls c here there = here refl
pointers_if near far false inner outer m ls c here there = pointer_fits near far outer (layered (chain inner m ls) (core_form None c)) ∙ chain_fits far inner m ls c there

char_fits : (near far : ℕ) (b : Bool) (e : Extent) → TypeFits near far [] (if b then text_array e cores.Char else cores.Text texts.Pointed)
char_fits near far true extents.Single = refl
char_fits near far true extents.Open = refl
char_fits near far true (extents.Fixed size) = refl
char_fits near far false e = refl

-- a string of characters names no type
layers_of_char : (near far : ℕ) (b : Bool) (e : Extent) (ls : List Layer) → TypeFits near far ls cores.Char → TypeFits near far ls (if b then text_array e cores.Char else cores.Text texts.Pointed)
layers_of_char near far b e [] h = char_fits near far b e
layers_of_char near far b e (layers.Pointer class ∷ ls) h =
    let c : Core = if b then text_array e cores.Char else cores.Text texts.Pointed in
    pointer_fits near far class (layered ls (core_form None c)) ∙ layers_of_char far far b e ls (sym (pointer_fits near far class (layered ls (core_form None cores.Char))) ∙ h)
layers_of_char near far b e (layers.Array n ∷ ls) h = layers_of_char near far b e ls h
layers_of_char near far b e (layers.OpenArray ∷ ls) h = layers_of_char near far b e ls h

is_char_there : (t : DataType) (b : Bool) → (b && is_characters t) ≡ true → t.core ≡ cores.Char
is_char_there t b e = char_core t.core (left_of (is_char_core t.core) _ (right_of b (is_characters t) e))
  where
    right_of : (a b : Bool) → (a && b) ≡ true → b ≡ true
    right_of true b e = e
    right_of false b e = absurd cc

    left_of : (a b : Bool) → (a && b) ≡ true → a ≡ true
    left_of true b e = refl
    left_of false b e = absurd cc

    char_core : (c : Core) → is_char_core c ≡ true → c ≡ cores.Char
    char_core cores.Char e = refl
    char_core _ e = absurd cc

-- by value the type that is declared fits where that of the spec does; behind a pointer any type may stand
plain_fits : (near far : ℕ) (m : Manner) (n : ℕ) (e : Extent) (t : DataType) → ((n == 0) ≡ true → TypeFits near far t.layers t.core) → TypeFits far far t.layers t.core
    → TypeFits near far (in_array e (pointers m.inner (outermost m e) n t.layers)) t.core
plain_fits near far m n e t here there =
    array_fits near far e (pointers m.inner (outermost m e) n t.layers) t.core (pointers_if near far (n == 0) m.inner (outermost m e) (n - 1) t.layers t.core here there)

with_fits : (near far : ℕ) (b z : Bool) (m : Manner) (n : ℕ) (e : Extent) (t : DataType) → (n == 0) ≡ z → (b ≡ true → t.core ≡ cores.Char) → TypeFits near far (in_array e (pointers m.inner (outermost m e) n t.layers)) t.core
    → TypeFits near far (if b && z then [] else in_array e (pointers m.inner (outermost m e) n t.layers)) (if b then (if z then text_array e t.core else cores.Text texts.Pointed) else t.core)
with_fits near far false z m n e t same char h = h
with_fits near far true true m n e t same char h =
    subst (λ (c : Core). TypeFits near far [] (text_array e c)) (sym (char refl)) (char_fits near far true e)
with_fits near far true false m n e t same char h =
    layers_of_char near far false e (in_array e (pointers m.inner (outermost m e) n t.layers)) (subst (λ (c : Core). TypeFits near far (in_array e (pointers m.inner (outermost m e) n t.layers)) c) (char refl) h)

pub declared_fits : (near far : ℕ) (handle : Bool) (kind : ℕ) (m : Manner) (n : ℕ) (e : Extent) (t : DataType) → ((n == 0) ≡ true → TypeFits near far t.layers t.core) → TypeFits far far t.layers t.core
    → TypeFits near far (declared_type handle kind m n e t).layers (declared_type handle kind m n e t).core
declared_fits near far true kind m n e t here there = refl
declared_fits near far false kind m n e t here there =
    with_fits near far (m.text && is_characters t) (n == 0) m n e t refl (is_char_there t m.text) (plain_fits near far m n e t here there)

-- ---- rows

abbrev pub AllFit : ℕ → ℕ → List Form → Type 0
AllFit near far [] = Unit {0}
AllFit near far (s ∷ ss) = (is_below near far s ≡ true) × AllFit near far ss

pub all_more : (near more far : ℕ) → near ≤ more → (ss : List Form) → AllFit near far ss → AllFit more far ss
all_more near more far le [] h = tt
all_more near more far le (s ∷ ss) h = (fits_more near more far le s h.0, all_more near more far le ss h.1)

pub all_join : (near far : ℕ) (xs ys : List Form) → AllFit near far xs → AllFit near far ys → AllFit near far (xs ++ ys)
all_join near far [] ys h k = k
all_join near far (x ∷ xs) ys h k = (h.0, all_join near far xs ys h.1 k)

pub row_fits : (near far : ℕ) (ss : List Form) → AllFit near far ss → each_below near far (row ss) ≡ true
row_fits near far [] h = refl
row_fits near far (s ∷ ss) h = and_of (is_below near far s) (each_below near far (row ss)) h.0 (row_fits near far ss h.1)

pub held_fits : (near far : ℕ) (ss : List Form) → AllFit near far ss → body_below near far (held ss) ≡ true
held_fits near far [] h = refl
held_fits near far (s ∷ []) h = h.0
held_fits near far (s ∷ t ∷ ss) h = row_fits near far (s ∷ t ∷ ss) h

-- ---- arms

abbrev pub FacesFit : ℕ → ℕ → List Face → Type 0
FacesFit near far [] = Unit {0}
FacesFit near far (a ∷ rest) = (body_below near far a.2 ≡ true) × FacesFit near far rest

pub arm_row_fits : (near far : ℕ) (as' : List Face) → FacesFit near far as' → arms_below near far (arm_row as') ≡ true
arm_row_fits near far [] h = refl
arm_row_fits near far (a ∷ rest) h = and_of (body_below near far a.2) (arms_below near far (arm_row rest)) h.0 (arm_row_fits near far rest h.1)
