-- What is kept by each function of two readers is kept by their walks.
use Rattle.std.specs.Prelude.{ℕ, List, [], ◌∷◌, Option}
use Rattle.idl_tree.specs.declared.leaf.Ident.{Ident}
use Rattle.idl_tree.specs.declared.leaf.Num.{Num}
use Rattle.idl_tree.specs.declared.leaf.Pk.{Pk}
use Rattle.idl_tree.specs.declared.leaf.Base.{Base}
use Rattle.idl_tree.specs.declared.leaf.Dtor.{Dtor}
use Rattle.idl_tree.specs.declared.spec.Label.{Label}
use Rattle.idl_forms.specs.Forms.{SpecForm, a_spec, KindForm, OfStruct, OfUnion, SwitchForm, no_switch, a_switch, MemberForm, a_member, MemberForms, no_member, then_member, ArmForm, member_arm, empty_arm, ArmForms, no_arm, then_arm, AttrKindForm, OfSwitchType, AttrForm, an_attr, AttrForms, no_attr, then_attr, ParamForm, DeclKindForm, OfConst, OfTypedef, OfLone, OfOp, DeclForm}
use Rattle.idl_names.specs.declared.place.Place.{Place}
use Rattle.idl_names.specs.declared.place.Place.TheVariants as places
use Rattle.idl_names.specs.Members.{dtors_of, lone_member, result_member, param_member}
use Rattle.idl_names.specs.Walk.{Around, Read, ReadMember, ReadArm, Reader, alone, behind, spec_at, kind_at, switch_at, mark_at, attr_at, attrs_at, read_at, members_at, arm_at, arms_at, TextReader, read_as, after, params_at, own_at, op_at, decl_at, decls_at}

-- R stands between what two readers know
pub record Keep {S T X C G S' T' X' C' G' : Type 0} (r : Reader S T X C G) (z : Reader S' T' X' C' G') (R : S → S' → Type 0) : Type 0 where
  pub leaf : (c : C) (d : C') (at : ℕ) (what : KindForm) (p : S) (q : S') → R p q → R (r.leaf c at what p).1 (z.leaf d at what q).1
  pub struct_begins : (tag : Option Ident) (ms : MemberForms) (p : S) (q : S') → R p q → R (r.struct_begins tag ms p) (z.struct_begins tag ms q)
  pub struct_ends : (k l : Pk) (tag : Option Ident) (ms : MemberForms) (x : List (ReadMember S T X) × S) (y : List (ReadMember S' T' X') × S') → R x.1 y.1 → R (r.struct_ends k tag ms x).1 (z.struct_ends l tag ms y).1
  pub union_begins : (tag : Option Ident) (p : S) (q : S') → R p q → R (r.union_begins tag p) (z.union_begins tag q)
  pub union_ends : (k l : Pk) (s : SwitchForm) (arms : ArmForms) (t : G) (u : G') (x : List (ReadArm S T X) × S) (y : List (ReadArm S' T' X') × S') → R x.1 y.1 → R (r.union_ends k s arms t x).1 (z.union_ends l s arms u y).1
  pub switched : (k l : Pk) (s : SpecForm) (i : Ident) (x : T × S) (y : T' × S') → R x.1 y.1 → R (r.switched k s i x).1 (z.switched l s i y).1
  pub labelled : (ls : List Label) (p : S) (q : S') → R p q → R (r.labelled ls p) (z.labelled ls q)
  pub sized : (ds : List Dtor) (p : S) (q : S') → R p q → R (r.sized ds p) (z.sized ds q)

module _ {S T X C G S' T' X' C' G' : Type 0} (r : Reader S T X C G) (z : Reader S' T' X' C' G') (R : S → S' → Type 0) (keep : Keep r z R) (k l : Pk) where
  mutual
    pub spec_kept : (c : C) (d : C') (s : SpecForm) (p : S) (q : S') → R p q → R (spec_at r k c s p).1 (spec_at z l d s q).1
    spec_kept c d (a_spec at what) p q h = kind_kept c d at what p q h

    pub kind_kept : (c : C) (d : C') (at : ℕ) (what : KindForm) (p : S) (q : S') → R p q → R (kind_at r k c at what p).1 (kind_at z l d at what q).1
    kind_kept c d at (OfStruct tag ms) p q h =
        keep.struct_ends k l tag ms (members_at r k ms (r.struct_begins tag ms p)) (members_at z l ms (z.struct_begins tag ms q))
        (members_kept ms (r.struct_begins tag ms p) (z.struct_begins tag ms q) (keep.struct_begins tag ms p q h))
    kind_kept c d at (OfUnion tag s arms) p q h =
        let t : G × S = switch_at r k (r.given c) s (r.union_begins tag p) in
        let u : G' × S' = switch_at z l (z.given d) s (z.union_begins tag q) in
        keep.union_ends k l s arms t.0 u.0 (arms_at r k arms t.1) (arms_at z l arms u.1)
        (arms_kept arms t.1 u.1 (switch_kept (r.given c) (z.given d) s (r.union_begins tag p) (z.union_begins tag q) (keep.union_begins tag p q h)))
    kind_kept c d at what p q h = keep.leaf c d at what p q h

    pub switch_kept : (t : G) (u : G') (s : SwitchForm) (p : S) (q : S') → R p q → R (switch_at r k t s p).1 (switch_at z l u s q).1
    switch_kept t u no_switch p q h = h
    switch_kept t u (a_switch s i body) p q h =
        keep.switched k l s i (spec_at r k (alone r k) s p) (spec_at z l (alone z l) s q) (spec_kept (alone r k) (alone z l) s p q h)

    pub mark_kept : (m : AttrKindForm) (p : S) (q : S') → R p q → R (mark_at r k m p).1 (mark_at z l m q).1
    mark_kept (OfSwitchType s) p q h = spec_kept (alone r k) (alone z l) s p q h
    mark_kept m p q h = h

    pub attr_kept : (a : AttrForm) (p : S) (q : S') → R p q → R (attr_at r k a p).1 (attr_at z l a q).1
    attr_kept (an_attr at m) p q h = mark_kept m p q h

    pub attrs_kept : (as' : AttrForms) (p : S) (q : S') → R p q → R (attrs_at r k as' p).1 (attrs_at z l as' q).1
    attrs_kept no_attr p q h = h
    attrs_kept (then_attr a rest) p q h = attrs_kept rest (attr_at r k a p).1 (attr_at z l a q).1 (attr_kept a p q h)

    pub read_kept : (f : Around X C) (g : Around X' C') (m : MemberForm) (p : S) (q : S') → R p q → R (read_at r k f m p).known (read_at z l g m q).known
    read_kept f g (a_member as' s ds) p q h =
        spec_kept (f as' ds (attrs_at r k as' p).0) (g as' ds (attrs_at z l as' q).0) s (attrs_at r k as' p).1 (attrs_at z l as' q).1 (attrs_kept as' p q h)

    pub members_kept : (ms : MemberForms) (p : S) (q : S') → R p q → R (members_at r k ms p).1 (members_at z l ms q).1
    members_kept no_member p q h = h
    members_kept (then_member m ms) p q h =
        let x = read_at r k (r.around k places.Member) m p in
        let y = read_at z l (z.around l places.Member) m q in
        members_kept ms (behind r m x) (behind z m y) (keep.sized (dtors_of m) x.known y.known (read_kept (r.around k places.Member) (z.around l places.Member) m p q h))

    pub arm_kept : (a : ArmForm) (p : S) (q : S') → R p q → R (arm_at r k a p).1 (arm_at z l a q).1
    arm_kept (empty_arm ls) p q h = keep.labelled ls p q h
    arm_kept (member_arm ls m) p q h =
        let x = read_at r k (r.around k places.Arm) m (r.labelled ls p) in
        let y = read_at z l (z.around l places.Arm) m (z.labelled ls q) in
        keep.sized (dtors_of m) x.known y.known (read_kept (r.around k places.Arm) (z.around l places.Arm) m (r.labelled ls p) (z.labelled ls q) (keep.labelled ls p q h))

    pub arms_kept : (as' : ArmForms) (p : S) (q : S') → R p q → R (arms_at r k as' p).1 (arms_at z l as' q).1
    arms_kept no_arm p q h = h
    arms_kept (then_arm a rest) p q h = arms_kept rest (arm_at r k a p).1 (arm_at z l a q).1 (arm_kept a p q h)

-- ---- declarations

pub record KeepText {S T X C G D S' T' X' C' G' D' : Type 0} (r : TextReader S T X C G D) (z : TextReader S' T' X' C' G' D') (R : S → S' → Type 0) : Type 0 where
  pub read : (k l : Pk) (place : Place) (m : MemberForm) (p : S) (q : S') → R p q → R (after r (read_as r k place m p)) (after z (read_as z l place m q))
  pub constant : (base : Base) (i : Ident) (n : Num) (d : D) (e : D') → R (r.known d) (z.known e) → R (r.known (r.constant base i n d)) (z.known (z.constant base i n e))
  pub own : (k l : Pk) (place : Place) (m : MemberForm) (x : Read S T X) (y : Read S' T' X') (d : D) (e : D') → R (after r (m, x)) (after z (m, y)) → R (r.known (r.own k place (m, x) d)) (z.known (z.own l place (m, y) e))
  pub named : (i : Ident) (p : S) (q : S') → R p q → R (r.named i p) (z.named i q)
  pub operation : (k l : Pk) (i : Ident) (ns : List ParamForm) (x : ReadMember S T X) (y : ReadMember S' T' X') (ps : List (ReadMember S T X) × S) (qs : List (ReadMember S' T' X') × S') (d : D) (e : D') → R ps.1 qs.1
      → R (r.known (r.operation k i ns x ps d)) (z.known (z.operation l i ns y qs e))

module _ {S T X C G D S' T' X' C' G' D' : Type 0} (r : TextReader S T X C G D) (z : TextReader S' T' X' C' G' D') (R : S → S' → Type 0) (keep : KeepText r z R) (k l : Pk) where
  params_kept : (ns : List ParamForm) (p : S) (q : S') → R p q → R (params_at r k ns p).1 (params_at z l ns q).1
  params_kept [] p q h = h
  params_kept (n ∷ ns) p q h =
      params_kept ns (after r (read_as r k places.Parameter (param_member n) p)) (after z (read_as z l places.Parameter (param_member n) q)) (keep.read k l places.Parameter (param_member n) p q h)

  own_kept : (place : Place) (m : MemberForm) (d : D) (e : D') → R (r.known d) (z.known e) → R (r.known (own_at r k place m d)) (z.known (own_at z l place m e))
  own_kept place m d e h = keep.own k l place m (read_as r k place m (r.known d)).1 (read_as z l place m (z.known e)).1 d e (keep.read k l place m (r.known d) (z.known e) h)

  op_kept : (m : MemberForm) (i : Ident) (ns : List ParamForm) (d : D) (e : D') → R (r.known d) (z.known e) → R (r.known (op_at r k m i ns d)) (z.known (op_at z l m i ns e))
  op_kept m i ns d e h =
      let x : ReadMember S T X = read_as r k places.Operation m (r.known d) in
      let y : ReadMember S' T' X' = read_as z l places.Operation m (z.known e) in
      let p : S = r.named i (after r x) in
      let q : S' = z.named i (after z y) in
      keep.operation k l i ns x y (params_at r k ns p) (params_at z l ns q) d e
      (params_kept ns p q (keep.named i (after r x) (after z y) (keep.read k l places.Operation m (r.known d) (z.known e) h)))

  pub decl_kept : (x : DeclKindForm) (d : D) (e : D') → R (r.known d) (z.known e) → R (r.known (decl_at r k x d)) (z.known (decl_at z l x e))
  decl_kept (OfConst base i n) d e h = keep.constant base i n d e h
  decl_kept (OfTypedef as' s ds) d e h = own_kept places.Typedef (a_member as' s ds) d e h
  decl_kept (OfLone as' s) d e h = own_kept places.Alone (lone_member as' s) d e h
  decl_kept (OfOp as' s i void ns) d e h = op_kept (result_member as' s i) i ns d e h

  pub decls_kept : (xs : List DeclForm) (d : D) (e : D') → R (r.known d) (z.known e) → R (r.known (decls_at r k xs d)) (z.known (decls_at z l xs e))
  decls_kept [] d e h = h
  decls_kept (x ∷ xs) d e h = decls_kept xs (decl_at r k x.what d) (decl_at z l x.what e) (decl_kept x.what d e h)
