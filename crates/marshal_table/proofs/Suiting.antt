-- The shape of a type suits it.
use Rattle.std.proofs.Common.{◌≡◌, ℕ, List, [], ◌∷◌, ◌++◌, map, refl, arith, ap, ◌∙◌, Bool, true, false, Option, None, Some}
use Rattle.std.specs.Prelude.{◌==◌, not, ◌&&◌, if◌then◌else◌}
use Rattle.std.specs.List.{flat_map}
use Rattle.idl_tree.specs.declared.leaf.Ident.{Ident}
use Rattle.idl_tree.specs.declared.leaf.Pk.TheVariants as pks
use Rattle.idl_tree.specs.declared.declaration.Ast.{Ast}
use Rattle.idl_forms.specs.Forms.{tree_form}
use Rattle.idl_names.specs.declared.place.Extent.{Extent}
use Rattle.idl_names.specs.declared.place.Extent.TheVariants as extents
use Rattle.idl_outline.specs.declared.ty.DataType.{DataType}
use Rattle.idl_outline.specs.declared.ty.Core.{Core}
use Rattle.idl_outline.specs.declared.ty.Core.TheVariants as cores
use Rattle.idl_outline.specs.declared.ty.Text.{Text}
use Rattle.idl_outline.specs.declared.ty.Text.TheVariants as texts
use Rattle.idl_outline.specs.declared.ty.Layer.{Layer}
use Rattle.idl_outline.specs.declared.ty.Layer.TheVariants as layers
use Rattle.idl_outline.specs.declared.field.Declared.{Declared}
use Rattle.idl_outline.specs.declared.field.Field.{Field}
use Rattle.idl_outline.specs.declared.event.Tag.{Tag}
use Rattle.idl_outline.specs.declared.event.Event.{Event}
use Rattle.idl_outline.specs.declared.event.Event.TheVariants as events
use Rattle.idl_outline.specs.Names.{Past}
use Rattle.idl_outline.specs.Types.{core_layer, first_layer, outer}
use Rattle.idl_outline.specs.Outline.{outline}
use Rattle.ndr_value.specs.declared.shape.Count.{Count}
use Rattle.ndr_value.specs.Forms.{Form, ArmForms}
use Rattle.ndr_table.specs.Aligned.{octets_of}
use Rattle.ndr_table.specs.Tables.{ParamForm, OpForm}
use Rattle.marshal_table.specs.declared.said.Terms.{Terms}
use Rattle.marshal_table.specs.Shapes.{core_form, layer, layered, type_form, terms, fixed_kind, open_kind, or_none, counted, own_layers, by_extent, declared_form}
use Rattle.marshal_table.specs.Bodies.{row, arm_row, held, names_of, field_forms, face, body_form, type_in}
use Rattle.marshal_table.specs.Interfaces.{is_listed, one_param, params_listed, names_listed, params_of, core_result, op_of, op_in, collected, tabled}
use Rattle.marshal_table.specs.Suits.{bottom, is_kind, is_fixed, is_layer, suits, fields_in, all_bodies, row_suits, all_declared, some_declared, each_declared, arms_suit, body_suits, bodies_suit, all_suit, listed_in, result_suits, op_suits, Call, calls_in, all_calls, ops_suit}
use Rattle.marshal_table.proofs.Found.{both}

is_itself : (n : ℕ) → (n == n) ≡ true
is_itself n = grind arith

-- ---- types

text_kind : (t : Text) (switch : Option Count) → is_kind (cores.Text t) (core_form switch (cores.Text t)) ≡ true
text_kind texts.Pointed switch = refl
text_kind (texts.Fixed n) switch = refl
text_kind texts.Open switch = refl

core_kind : (c : Core) (switch : Option Count) → is_kind c (bottom (core_form switch c)) ≡ true
core_kind cores.Boolean switch = refl
core_kind cores.Byte switch = refl
core_kind cores.Char switch = refl
core_kind (cores.Text texts.Pointed) switch = refl
core_kind (cores.Text (texts.Fixed n)) switch = refl
core_kind (cores.Text texts.Open) switch = refl
core_kind (cores.Int true size) switch = is_itself (octets_of size)
core_kind (cores.Int false size) switch = is_itself (octets_of size)
core_kind cores.ErrorStatus switch = refl
core_kind (cores.Enum n) switch = is_itself n
core_kind (cores.Struct ends number) switch = is_itself number
core_kind (cores.Union switched number) switch = is_itself number
core_kind cores.Void switch = refl
core_kind cores.HandleT switch = refl
core_kind (cores.ContextHandle kind serialised) switch = is_itself kind
core_kind cores.Unknown switch = refl

core_outer : (c : Core) (switch : Option Count) → is_layer (core_layer c) (core_form switch c) ≡ true
core_outer (cores.Text texts.Pointed) switch = refl
core_outer (cores.Text (texts.Fixed n)) switch = refl
core_outer (cores.Text texts.Open) switch = refl
core_outer (cores.Int true size) switch = refl
core_outer (cores.Int false size) switch = refl
core_outer cores.Boolean switch = refl
core_outer cores.Byte switch = refl
core_outer cores.Char switch = refl
core_outer cores.ErrorStatus switch = refl
core_outer (cores.Enum n) switch = refl
core_outer (cores.Struct ends number) switch = refl
core_outer (cores.Union switched number) switch = refl
core_outer cores.Void switch = refl
core_outer cores.HandleT switch = refl
core_outer (cores.ContextHandle kind serialised) switch = refl
core_outer cores.Unknown switch = refl

layer_bottom : (l : Layer) (s : Form) → bottom (layer l s) ≡ bottom s
layer_bottom (layers.Pointer pks.Ref) s = refl
layer_bottom (layers.Pointer pks.Unique) s = refl
layer_bottom (layers.Pointer pks.Ptr) s = refl
layer_bottom (layers.Array n) s = refl
layer_bottom layers.OpenArray s = refl

layers_bottom : (ls : List Layer) (s : Form) → bottom (layered ls s) ≡ bottom s
layers_bottom [] s = refl
layers_bottom (l ∷ ls) s = layer_bottom l (layered ls s) ∙ layers_bottom ls s

layer_outer : (l : Layer) (s : Form) → is_layer (Some l) (layer l s) ≡ true
layer_outer (layers.Pointer pks.Ref) s = refl
layer_outer (layers.Pointer pks.Unique) s = refl
layer_outer (layers.Pointer pks.Ptr) s = refl
layer_outer (layers.Array n) s = refl
layer_outer layers.OpenArray s = refl

layers_outer : (ls : List Layer) (c : Core) (switch : Option Count) → is_layer (first_layer ls (core_layer c)) (layered ls (core_form switch c)) ≡ true
layers_outer [] c switch = core_outer c switch
layers_outer (l ∷ ls) c switch = layer_outer l (layered ls (core_form switch c))

kind_behind : (c : Core) (switch : Option Count) (s : Form) → bottom s ≡ bottom (core_form switch c) → is_kind c (bottom s) ≡ true
kind_behind c switch s e = ap (is_kind c) e ∙ core_kind c switch

pub type_suits : (t : DataType) → suits t (type_form t) ≡ true
type_suits t =
    both (is_layer (outer t) (type_form t)) (is_kind t.core (bottom (type_form t))) (layers_outer t.layers t.core None)
    (kind_behind t.core None (type_form t) (layers_bottom t.layers (core_form None t.core)))

-- ---- declarators

kind_fixed : (n : ℕ) (travel : Option Count) → is_fixed (fixed_kind n travel) ≡ true
kind_fixed n None = refl
kind_fixed n (Some c) = refl

kind_open : (most : Count) (travel : Option Count) → not (is_fixed (open_kind most travel)) ≡ true
kind_open most None = refl
kind_open most (Some c) = refl

counted_outer : (t : Terms) (l : Layer) (s : Form) → is_layer (Some l) (counted t l s) ≡ true
counted_outer t (layers.Pointer pks.Ref) s = refl
counted_outer t (layers.Pointer pks.Unique) s = refl
counted_outer t (layers.Pointer pks.Ptr) s = refl
counted_outer t (layers.Array n) s = kind_fixed n t.travel
counted_outer t layers.OpenArray s = kind_open (or_none t.most) t.travel

counted_bottom : (t : Terms) (l : Layer) (s : Form) → bottom (counted t l s) ≡ bottom s
counted_bottom t (layers.Pointer pks.Ref) s = refl
counted_bottom t (layers.Pointer pks.Unique) s = refl
counted_bottom t (layers.Pointer pks.Ptr) s = refl
counted_bottom t (layers.Array n) s = refl
counted_bottom t layers.OpenArray s = refl

own_outer : (t : Terms) (ls : List Layer) (c : Core) → is_layer (first_layer ls (core_layer c)) (own_layers t ls (core_form t.switch c)) ≡ true
own_outer t [] c = core_outer c t.switch
own_outer t (l ∷ ls) c = counted_outer t l (layered ls (core_form t.switch c))

own_bottom : (t : Terms) (ls : List Layer) (s : Form) → bottom (own_layers t ls s) ≡ bottom s
own_bottom t [] s = refl
own_bottom t (l ∷ ls) s = counted_bottom t l (layered ls s) ∙ layers_bottom ls s

extent_outer : (t : Terms) (e : Extent) (ls : List Layer) (c : Core) → is_layer (first_layer ls (core_layer c)) (by_extent t e ls (core_form t.switch c)) ≡ true
extent_outer t extents.Single ls c = layers_outer ls c t.switch
extent_outer t extents.Open ls c = own_outer t ls c
extent_outer t (extents.Fixed size) ls c = own_outer t ls c

extent_bottom : (t : Terms) (e : Extent) (ls : List Layer) (s : Form) → bottom (by_extent t e ls s) ≡ bottom s
extent_bottom t extents.Single ls s = layers_bottom ls s
extent_bottom t extents.Open ls s = own_bottom t ls s
extent_bottom t (extents.Fixed size) ls s = own_bottom t ls s

pub declared_suits : (t : Terms) (d : Declared) → suits d.ty (declared_form t d) ≡ true
declared_suits t d =
    both (is_layer (outer d.ty) (declared_form t d)) (is_kind d.ty.core (bottom (declared_form t d))) (extent_outer t d.extent d.ty.layers d.ty.core)
    (kind_behind d.ty.core t.switch (declared_form t d) (extent_bottom t d.extent d.ty.layers (core_form t.switch d.ty.core)))

-- ---- bodies

row_own : (t : Terms) (ds : List Declared) (es : List Declared) (ss : List Form) → row_suits es (row ss) ≡ true → row_suits (ds ++ es) (row (map (declared_form t) ds ++ ss)) ≡ true
row_own t [] es ss h = h
row_own t (d ∷ ds) es ss h = both (suits d.ty (declared_form t d)) _ (declared_suits t d) (row_own t ds es ss h)

row_all : (names : List Ident) (fs : List Field) → row_suits (all_declared fs) (row (flat_map (field_forms names) fs)) ≡ true
row_all names [] = refl
row_all names (f ∷ fs) = row_own (terms f.place names f.attributes) f.declared (all_declared fs) (flat_map (field_forms names) fs) (row_all names fs)

row_map : (t : Terms) (ds : List Declared) → row_suits ds (row (map (declared_form t) ds)) ≡ true
row_map t [] = refl
row_map t (d ∷ ds) = both (suits d.ty (declared_form t d)) _ (declared_suits t d) (row_map t ds)

arms_with : (t : Terms) (ds : List Declared) (cases : List _) (default : Bool) (rest : ArmForms) (dss : List (List Declared)) → arms_suit rest dss ≡ true
    → arms_suit (ArmForms.then_arm cases default (held (map (declared_form t) ds)) rest) (some_declared ds ++ dss) ≡ true
arms_with t [] cases default rest dss h = h
arms_with t (d ∷ []) cases default rest dss h = both (suits d.ty (declared_form t d)) (arms_suit rest dss) (declared_suits t d) h
arms_with t (d ∷ e ∷ ds) cases default rest dss h = both (row_suits (d ∷ e ∷ ds) (row (map (declared_form t) (d ∷ e ∷ ds)))) (arms_suit rest dss) (row_map t (d ∷ e ∷ ds)) h

arms_all : (names : List Ident) (fs : List Field) → arms_suit (arm_row (map (face names) fs)) (each_declared fs) ≡ true
arms_all names [] = refl
arms_all names (f ∷ fs) = arms_with (terms f.place names f.attributes) f.declared (face names f).0 (face names f).1 (arm_row (map (face names) fs)) (each_declared fs) (arms_all names fs)

body_suited : (tag : Option Tag) (fs : List Field) → body_suits fs (body_form tag fs) ≡ true
body_suited None fs = row_all (names_of fs) fs
body_suited (Some t) fs = arms_all (names_of fs) fs

bodies_join : (xs : List (List Field)) (ss : List Form) (fs : List Field) (s : Form) → bodies_suit xs ss ≡ true → body_suits fs s ≡ true → bodies_suit (xs ++ fs ∷ []) (ss ++ s ∷ []) ≡ true
bodies_join [] [] fs s h k = both (body_suits fs s) true k refl
bodies_join [] (t ∷ ts) fs s h k = absurd cc
bodies_join (x ∷ xs) [] fs s h k = absurd cc
bodies_join (x ∷ xs) (t ∷ ts) fs s h k = both (body_suits x t) _ (left_of (body_suits x t) (bodies_suit xs ts) h) (bodies_join xs ts fs s (right_of (body_suits x t) (bodies_suit xs ts) h) k)
  where
    left_of : (a b : Bool) → (a && b) ≡ true → a ≡ true
    left_of true b e = refl
    left_of false b e = absurd cc

    right_of : (a b : Bool) → (a && b) ≡ true → b ≡ true
    right_of true b e = e
    right_of false b e = absurd cc

bodies_same : (xs : List (List Field)) (ss : List Form) → bodies_suit xs ss ≡ true → bodies_suit (xs ++ []) (ss ++ []) ≡ true
bodies_same [] [] h = refl
bodies_same [] (t ∷ ts) h = absurd cc
bodies_same (x ∷ xs) [] h = absurd cc
bodies_same (x ∷ xs) (t ∷ ts) h = both_same (body_suits x t) (bodies_suit xs ts) (bodies_suit (xs ++ []) (ts ++ [])) h (bodies_same xs ts)
  where
    both_same : (a b c : Bool) → (a && b) ≡ true → (b ≡ true → c ≡ true) → (a && c) ≡ true
    both_same true b c e f = f e
    both_same false b c e f = absurd cc

bodies_step : (e : Event) (xs : List (List Field)) (ss : List Form) → bodies_suit xs ss ≡ true → bodies_suit (xs ++ fields_in e) (ss ++ type_in e) ≡ true
bodies_step (events.Body tag fs) xs ss h = bodies_join xs ss fs (body_form tag fs) h (body_suited tag fs)
bodies_step _ xs ss h = bodies_same xs ss h

bodies_all : (p : Past) → bodies_suit (all_bodies p) (collected type_in p) ≡ true
bodies_all [] = refl
bodies_all (e ∷ p) = bodies_step e (all_bodies p) (collected type_in p) (bodies_all p)

pub bodies_suited : (tree : Ast) → bodies_suit (all_bodies (outline (tree_form tree))) (tabled tree).types ≡ true
bodies_suited tree = bodies_all (outline (tree_form tree))

-- ---- operations

params_own : (names : List Ident) (f : Field) (ds : List Declared) (es : List Declared) (xs : List ParamForm) → all_suit es xs ≡ true → all_suit (ds ++ es) (map (one_param names f) ds ++ xs) ≡ true
params_own names f [] es xs h = h
params_own names f (d ∷ ds) es xs h = both (suits d.ty (one_param names f d).shape) _ (declared_suits (terms f.place names f.attributes) d) (params_own names f ds es xs h)

params_if : (b : Bool) (names : List Ident) (f : Field) (es : List Declared) (xs : List ParamForm) → all_suit es xs ≡ true
    → all_suit ((if b then f.declared else []) ++ es) ((if b then map (one_param names f) f.declared else []) ++ xs) ≡ true
params_if true names f es xs h = params_own names f f.declared es xs h
params_if false names f es xs h = h

params_all : (names : List Ident) (fs : List Field) → all_suit (flat_map listed_in fs) (flat_map (params_listed names) fs) ≡ true
params_all names [] = refl
params_all names (f ∷ fs) = params_if (is_listed f) names f (flat_map listed_in fs) (flat_map (params_listed names) fs) (params_all names fs)

result_suited : (c : Core) (ls : List Layer) → result_suits (record { core = c; layers = ls }) (core_result c (type_form (record { core = c; layers = ls }))) ≡ true
result_suited cores.Void ls = refl
result_suited c ls = type_suits (record { core = c; layers = ls })

op_suited : (r : Field) (fs : List Field) → op_suits r fs (op_of r fs) ≡ true
op_suited r fs =
    both (result_suits r.spec (op_of r fs).result) (all_suit (flat_map listed_in fs) (params_of fs)) (result_suited r.spec.core r.spec.layers) (params_all (names_listed fs) fs)

ops_join : (xs : List Call) (ss : List OpForm) (c : Call) (o : OpForm) → ops_suit xs ss ≡ true → op_suits c.0 c.1 o ≡ true → ops_suit (xs ++ c ∷ []) (ss ++ o ∷ []) ≡ true
ops_join [] [] c o h k = both (op_suits c.0 c.1 o) true k refl
ops_join [] (t ∷ ts) c o h k = absurd cc
ops_join (x ∷ xs) [] c o h k = absurd cc
ops_join (x ∷ xs) (t ∷ ts) c o h k = both_more (op_suits x.0 x.1 t) (ops_suit xs ts) (ops_suit (xs ++ c ∷ []) (ts ++ o ∷ [])) h (λ e. ops_join xs ts c o e k)
  where
    both_more : (a b c : Bool) → (a && b) ≡ true → (b ≡ true → c ≡ true) → (a && c) ≡ true
    both_more true b c e f = f e
    both_more false b c e f = absurd cc

ops_same : (xs : List Call) (ss : List OpForm) → ops_suit xs ss ≡ true → ops_suit (xs ++ []) (ss ++ []) ≡ true
ops_same [] [] h = refl
ops_same [] (t ∷ ts) h = absurd cc
ops_same (x ∷ xs) [] h = absurd cc
ops_same (x ∷ xs) (t ∷ ts) h = both_more (op_suits x.0 x.1 t) (ops_suit xs ts) (ops_suit (xs ++ []) (ts ++ [])) h (ops_same xs ts)
  where
    both_more : (a b c : Bool) → (a && b) ≡ true → (b ≡ true → c ≡ true) → (a && c) ≡ true
    both_more true b c e f = f e
    both_more false b c e f = absurd cc

ops_step : (e : Event) (xs : List Call) (ss : List OpForm) → ops_suit xs ss ≡ true → ops_suit (xs ++ calls_in e) (ss ++ op_in e) ≡ true
ops_step (events.Call r fs) xs ss h = ops_join xs ss (r, fs) (op_of r fs) h (op_suited r fs)
ops_step _ xs ss h = ops_same xs ss h

ops_all : (p : Past) → ops_suit (all_calls p) (collected op_in p) ≡ true
ops_all [] = refl
ops_all (e ∷ p) = ops_step e (all_calls p) (collected op_in p) (ops_all p)

pub operations_suited : (tree : Ast) → ops_suit (all_calls (outline (tree_form tree))) (tabled tree).ops ≡ true
operations_suited tree = ops_all (outline (tree_form tree))
