-- One walk over declarations, specs and what they hold, in the order of the text. A reader says what it makes of the parts; the walk reads
-- them to it, and X_at gives what the reader has of an X at a place, and what it keeps behind it.
use Rattle.std.specs.Prelude.{ℕ, List, [], ◌∷◌, Option, Some, None}
use Rattle.idl_tree.specs.declared.leaf.Ident.{Ident}
use Rattle.idl_tree.specs.declared.leaf.Num.{Num}
use Rattle.idl_tree.specs.declared.leaf.Pk.{Pk}
use Rattle.idl_tree.specs.declared.leaf.Base.{Base}
use Rattle.idl_tree.specs.declared.leaf.Dtor.{Dtor}
use Rattle.idl_tree.specs.declared.spec.Label.{Label}
use Rattle.idl_forms.specs.Forms.{SpecForm, a_spec, KindForm, OfStruct, OfUnion, SwitchForm, no_switch, a_switch, MemberForm, a_member, MemberForms, no_member, then_member, ArmForm, member_arm, empty_arm, ArmForms, no_arm, then_arm, AttrKindForm, OfSwitchType, AttrForm, an_attr, AttrForms, no_attr, then_attr, ParamForm, DeclKindForm, OfConst, OfTypedef, OfLone, OfOp, DeclForm}
use Rattle.idl_names.specs.declared.place.Place.{Place}
use Rattle.idl_names.specs.declared.place.Place.TheVariants as places
use Rattle.idl_names.specs.Members.{dtors_of, lone_member, result_member, param_member}

-- ---- what a reader keeps. S: what it knows at a place of the text; T: what a spec stands for; X: what an attribute gives; C: what stands
-- around a spec; G: what gives a union its tag

-- attributes, each with its place
abbrev pub Marks : Type 0 → Type 0
Marks X = List (ℕ × X)

-- what is read of a member before its declarators: what its attributes give, what its spec stands for, and what is known behind that
pub record Read (S T X : Type 0) : Type 0 where
  pub marks : Marks X
  pub spec : T
  pub known : S

abbrev pub ReadMember : Type 0 → Type 0 → Type 0 → Type 0
ReadMember S T X = MemberForm × Read S T X

-- an arm's labels, what is known before them, and its member
pub record ReadArm (S T X : Type 0) : Type 0 where
  pub labels : List Label
  pub known : S
  pub member : Option (ReadMember S T X)

-- from the attributes of a spec and the declarators behind it
abbrev pub Around : Type 0 → Type 0 → Type 0
Around X C = AttrForms → List Dtor → Marks X → C

pub record Reader (S T X C G : Type 0) : Type 0 where
  -- what stands around a spec at a place
  pub around : Pk → Place → Around X C
  -- a spec that holds no other, by its place in the text
  pub leaf : C → ℕ → KindForm → S → T × S
  -- a structure, by its members
  pub struct_begins : Option Ident → MemberForms → S → S
  pub struct_ends : Pk → Option Ident → MemberForms → List (ReadMember S T X) × S → T × S
  -- a union, by what gives it its tag and by its arms
  pub union_begins : Option Ident → S → S
  pub union_ends : Pk → SwitchForm → ArmForms → G → List (ReadArm S T X) × S → T × S
  -- what gives a union its tag: what stands around it, or the spec and the name of its switch
  pub given : C → G
  pub switched : Pk → SpecForm → Ident → T × S → G × S
  -- an attribute, and a switch_type by what its spec stands for
  pub mark : AttrKindForm → X
  pub switch_type : SpecForm → T → X
  -- labels and declarators read
  pub labelled : List Label → S → S
  pub sized : List Dtor → S → S

-- ---- the walk over specs. default: the pointer class of the interface

module _ {S T X C G : Type 0} (r : Reader S T X C G) where
  -- around a spec without attributes and declarators
  abbrev pub alone : Pk → C
  alone default = r.around default places.Alone no_attr [] []

  -- behind a member's declarators
  abbrev pub behind : MemberForm → Read S T X → S
  behind m read = r.sized (dtors_of m) read.known

  abbrev mutual
    pub spec_at : Pk → C → SpecForm → S → T × S
    spec_at default c (a_spec at k) p = kind_at default c at k p

    pub kind_at : Pk → C → ℕ → KindForm → S → T × S
    kind_at default c at (OfStruct tag ms) p = r.struct_ends default tag ms (members_at default ms (r.struct_begins tag ms p))
    kind_at default c at (OfUnion tag s arms) p =
        let switch : G × S = switch_at default (r.given c) s (r.union_begins tag p) in
        r.union_ends default s arms switch.0 (arms_at default arms switch.1)
    kind_at default c at k p = r.leaf c at k p

    pub switch_at : Pk → G → SwitchForm → S → G × S
    switch_at default given no_switch p = (given, p)
    switch_at default given (a_switch s i body) p = r.switched default s i (spec_at default (alone default) s p)

    pub mark_at : Pk → AttrKindForm → S → X × S
    mark_at default (OfSwitchType s) p =
        let spec : T × S = spec_at default (alone default) s p in
        (r.switch_type s spec.0, spec.1)
    mark_at default m p = (r.mark m, p)

    pub attr_at : Pk → AttrForm → S → (ℕ × X) × S
    attr_at default (an_attr at m) p =
        let mark : X × S = mark_at default m p in
        ((at, mark.0), mark.1)

    pub attrs_at : Pk → AttrForms → S → Marks X × S
    attrs_at default no_attr p = ([], p)
    attrs_at default (then_attr a rest) p =
        let first : (ℕ × X) × S = attr_at default a p in
        let others : Marks X × S = attrs_at default rest first.1 in
        (first.0 ∷ others.0, others.1)

    pub read_at : Pk → Around X C → MemberForm → S → Read S T X
    read_at default around (a_member as' s ds) p =
        let marks : Marks X × S = attrs_at default as' p in
        let spec : T × S = spec_at default (around as' ds marks.0) s marks.1 in
        record { marks = marks.0; spec = spec.0; known = spec.1 }

    pub members_at : Pk → MemberForms → S → List (ReadMember S T X) × S
    members_at default no_member p = ([], p)
    members_at default (then_member m ms) p =
        let read : Read S T X = read_at default (r.around default places.Member) m p in
        let others : List (ReadMember S T X) × S = members_at default ms (behind m read) in
        ((m, read) ∷ others.0, others.1)

    pub arm_at : Pk → ArmForm → S → ReadArm S T X × S
    arm_at default (empty_arm ls) p = (record { labels = ls; known = p; member = None }, r.labelled ls p)
    arm_at default (member_arm ls m) p =
        let read : Read S T X = read_at default (r.around default places.Arm) m (r.labelled ls p) in
        (record { labels = ls; known = p; member = Some (m, read) }, behind m read)

    pub arms_at : Pk → ArmForms → S → List (ReadArm S T X) × S
    arms_at default no_arm p = ([], p)
    arms_at default (then_arm a rest) p =
        let first : ReadArm S T X × S = arm_at default a p in
        let others : List (ReadArm S T X) × S = arms_at default rest first.1 in
        (first.0 ∷ others.0, others.1)

-- ---- declarations: what each holds is read as a member at its place. D: what a reader keeps of them

pub record TextReader (S T X C G D : Type 0) : Type 0 where
  pub specs : Reader S T X C G
  -- what is known behind them
  pub known : D → S
  pub constant : Base → Ident → Num → D → D
  -- a typedef, or a spec without a declarator
  pub own : Pk → Place → ReadMember S T X → D → D
  -- an operation's name is declared behind its result and before its parameters
  pub named : Ident → S → S
  -- an operation, by its result and its parameters
  pub operation : Pk → Ident → List ParamForm → ReadMember S T X → List (ReadMember S T X) × S → D → D

module _ {S T X C G D : Type 0} (r : TextReader S T X C G D) where
  abbrev pub read_as : Pk → Place → MemberForm → S → ReadMember S T X
  read_as default place m p = (m, read_at r.specs default (r.specs.around default place) m p)

  -- behind a member
  abbrev pub after : ReadMember S T X → S
  after x = behind r.specs x.0 x.1

  abbrev pub params_at : Pk → List ParamForm → S → List (ReadMember S T X) × S
  params_at default [] p = ([], p)
  params_at default (n ∷ ns) p =
      let first : ReadMember S T X = read_as default places.Parameter (param_member n) p in
      let others : List (ReadMember S T X) × S = params_at default ns (after first) in
      (first ∷ others.0, others.1)

  -- a typedef, or a spec without a declarator
  abbrev pub own_at : Pk → Place → MemberForm → D → D
  own_at default place m d = r.own default place (read_as default place m (r.known d)) d

  -- an operation; m: its result
  abbrev pub op_at : Pk → MemberForm → Ident → List ParamForm → D → D
  op_at default m name ns d =
      let result : ReadMember S T X = read_as default places.Operation m (r.known d) in
      r.operation default name ns result (params_at default ns (r.named name (after result))) d

  abbrev pub decl_at : Pk → DeclKindForm → D → D
  decl_at default (OfConst base name value) d = r.constant base name value d
  decl_at default (OfTypedef as' s ds) d = own_at default places.Typedef (a_member as' s ds) d
  decl_at default (OfLone as' s) d = own_at default places.Alone (lone_member as' s) d
  decl_at default (OfOp as' s name void ns) d = op_at default (result_member as' s name) name ns d

  abbrev pub decls_at : Pk → List DeclForm → D → D
  decls_at default [] d = d
  decls_at default (x ∷ xs) d = decls_at default xs (decl_at default x.what d)
