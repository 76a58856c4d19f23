-- A block is cut into room for its five links, and made of them again. Assumes `Logic`.
use mathlib.Core.Path.{◌≡◌, refl, sym}
use Prim.Native.Nat.{ℕ, ◌+◌}
use mathlib.Core.List.{List, [], ◌∷◌, ◌++◌}
use seplogic.Ra.Ura.{Ura}
use mir.Syntax.{Ty, Tys, Args, a_type, ty_ptr, ty_struct, tcons, tnil, dcons, dnil}
use mir.Val.{Val, vstruct, vcons, vnil, of_list}
use base.Logic.{SProp, ent, sep, emp, wand, apply∗}
use base.Fml.{Fml, ftrue, fwand, froom}
use prog.Memory.{align, up}
use prog.Model.{rooms_at}
use types.Logic.{Logic, sem}
use types.Kit.{Item, Goal, Seq, ‵, raw, ◌⊛◌, ◌$◌, ◌∵◌, !, qed, move, drop, keep, use1, use2, group, split, split3, assume, fsplit, fjoin, fpick, fpack, feq_i, feq_l, rewrite, done}
use denote.RattleType.{RattleType, Valss}
use denote.Param.{param, bounded}
use denote.RawPtr.{block_ptr, room_for}
use denote.Shadow.{makes_shadow}
use denote.Steps.{nothing}
use denote.Struct.Struct.{Struct, within}
use denote.Struct.Declared as Declared
use denote.Struct.Owning.{shape}
use denote.Struct.Tuple.{Tuple, tuple_type}
use Rattle.std.proofs.Common.{add-zero, subst}
use Rattle.core.proofs.alloc.Calls.{Al}
use Rattle.core.specs.contracts.option.Option as Maybe
use Rattle.lru.proofs.Memory.{mark}
use Rattle.wait_list.specs.Block.{link_ty, head_ty, side_ty, block_ty, link_at, parts}
use Rattle.wait_list.specs.contracts.node.Node as N
use Rattle.wait_list.specs.contracts.node.Ticket as T
use Rattle.wait_list.specs.contracts.node.BlockTitle as D
use Rattle.wait_list.specs.contracts.node.Spare as S
use Rattle.wait_list.specs.contracts.link.LinkRoom as Empty

abbrev pub HeadR : RattleType
HeadR = Maybe.the_row N.the_row

abbrev pub SideR : RattleType
SideR = Maybe.the_row T.the_row

abbrev pub RmH : RattleType
RmH = Empty.the_row HeadR

abbrev pub RmS : RattleType
RmS = Empty.the_row SideR

module _ (Z : Al) where
  abbrev pub args : Args
  args = bounded (a_type ∷ []) (Z.row, tt) (dcons Z.d (dcons Z.drops dnil))

  abbrev pub RA : RattleType
  RA = param 0 Z.row

  abbrev pub Dd : RattleType
  Dd = D.the_row RA Z.g

  abbrev pub Sp : RattleType
  Sp = S.the_row RA Z.g

  -- the title's own field, which takes no bytes
  abbrev pub Mark : RattleType
  Mark = Struct (shape (D.the_type RA Z.g))

pub deed_mark_made : (Z : Al) {M : Type 1} {𝓤 : Ura M} (𝓛 : Logic 𝓤) → ent 𝓤 (emp 𝓤) (sem 𝓛 ((Mark Z).own_val (tt, tt) (mark ∷ [])))
deed_mark_made Z 𝓛 = makes_shadow 𝓛 ((Mark Z).own_val (tt, tt) (mark ∷ [])) (λ vss. (tt, ((λ uss. (tt, tt)), tt))) ((vstruct vnil ∷ [], tt), (refl, ((tt, (refl, tt)), tt)))

module _ {M : Type 1} {𝓤 : Ura M} {𝓛 : Logic 𝓤} {K : Type 0} {Γ : List (Item 𝓤)} {G : Goal 𝓤 𝓛.H} where
  pub deed_mark_had : K → (Z : Al) (vs : List Val) → (vs ≡ mark ∷ [] → Seq K 𝓛 Γ G) → Seq K 𝓛 (‵ ((Mark Z).own_val (tt, tt) vs) ∷ Γ) G
  deed_mark_had t Z vs k = fpick t (λ vss. fsplit t $ feq_l t (λ ev. fsplit t $ fpick t (λ uss. fsplit t $ feq_l t (λ e. drop t $ drop t $
      k (subst (λ (ws : List Val). vs ≡ vstruct (of_list (ws ++ [])) ∷ []) e ev)))))

module _ {M : Type 1} {𝓤 : Ura M} (𝓛 : Logic 𝓤) where
  open 𝓛 use {H}

  module _ (τ : Ty) (b o : ℕ) where
    abbrev fields : Tys
    fields = tcons ty_ptr (tcons ty_ptr (tcons τ tnil))

    abbrev Joins : SProp 𝓤
    Joins = wand 𝓤 (rooms_at 𝓤 H fields 0 b o) (H.room (ty_struct [] fields) b o)

    abbrev Rejoins : Fml
    Rejoins = fwand (link_at τ (block_ptr b o)) (froom (link_ty τ) b o)

    rejoins : ent 𝓤 Joins (sem 𝓛 Rejoins)
    rejoins = qed 𝓛 (raw Joins ∷ []) ∵ assume ! (‵ (link_at τ (block_ptr b o))) $ fsplit ! $ fsplit ! $ nothing ! $ move ! (1 ∷ 2 ∷ 3 ∷ 0 ∷ []) $ group ! 4 $
        use2 𝓛 (‵ (froom (link_ty τ) b o)) (apply∗ 𝓤 (rooms_at 𝓤 H fields 0 b o) (H.room (ty_struct [] fields) b o)) $ done !

    link_cut : ent 𝓤 (H.room (link_ty τ) b o) (sep 𝓤 (sem 𝓛 (link_at τ (block_ptr b o))) (sem 𝓛 Rejoins))
    link_cut = qed 𝓛 (‵ (froom (link_ty τ) b o) ∷ []) ∵
        use1 𝓛 ((‵ (froom ty_ptr b (o + 0)) ⊛ ‵ (froom ty_ptr b (o + 8)) ⊛ ‵ (froom τ b (o + up (align τ) 16)) ⊛ ‵ ftrue) ⊛ raw Joins) (𝓛.laws.room_fields [] fields b o) $
        split ! $ split3 ! $ fjoin ! $ move ! (1 ∷ []) $ split ! $ move ! (2 ∷ 0 ∷ []) $ fjoin ! $ move ! (1 ∷ []) $ drop ! $
        move ! (1 ∷ []) $ use1 𝓛 (‵ Rejoins) rejoins $ move ! (1 ∷ []) $ done !

  module _ (b o : ℕ) where
    abbrev five : Tys
    five = tcons (link_ty head_ty) (tcons (link_ty side_ty) (tcons (link_ty side_ty) (tcons (link_ty side_ty) (tcons (link_ty side_ty) tnil))))

    abbrev All : SProp 𝓤
    All = wand 𝓤 (rooms_at 𝓤 H five 0 b o) (H.room block_ty b o)

    abbrev pub Whole : Fml
    Whole = fwand (parts (block_ptr b o)) (room_for block_ty (block_ptr b o))

    abbrev L : Ty → ℕ → Fml
    L τ k = link_at τ (block_ptr b k)

    abbrev W : Ty → ℕ → Fml
    W τ k = Rejoins τ b k

    joined : (τ : Ty) (k : ℕ) → ent 𝓤 (sep 𝓤 (sem 𝓛 (L τ k)) (sem 𝓛 (W τ k))) (H.room (link_ty τ) b k)
    joined τ k = apply∗ 𝓤 (sem 𝓛 (L τ k)) (H.room (link_ty τ) b k)

    all_rejoins : ent 𝓤 (sep 𝓤 (sem 𝓛 (W head_ty o)) (sep 𝓤 (sem 𝓛 (W side_ty (o + 96))) (sep 𝓤 (sem 𝓛 (W side_ty (o + 128))) (sep 𝓤 (sem 𝓛 (W side_ty (o + 160))) (sep 𝓤 (sem 𝓛 (W side_ty (o + 192))) All))))) (sem 𝓛 Whole)
    all_rejoins = qed 𝓛 (‵ (W head_ty o) ∷ ‵ (W side_ty (o + 96)) ∷ ‵ (W side_ty (o + 128)) ∷ ‵ (W side_ty (o + 160)) ∷ ‵ (W side_ty (o + 192)) ∷ raw All ∷ []) ∵
        assume ! (‵ (parts (block_ptr b o))) $ fsplit ! $
        move ! (0 ∷ 2 ∷ []) $ use2 𝓛 (‵ (froom (link_ty head_ty) b o)) (joined head_ty o) $ rewrite ! 0 (λ (k : ℕ). ‵ (froom (link_ty head_ty) b k)) (sym (add-zero o)) refl $
        move ! (1 ∷ []) $ fsplit ! $ move ! (0 ∷ 3 ∷ []) $ use2 𝓛 (‵ (froom (link_ty side_ty) b (o + 96))) (joined side_ty (o + 96)) $
        move ! (1 ∷ []) $ fsplit ! $ move ! (0 ∷ 4 ∷ []) $ use2 𝓛 (‵ (froom (link_ty side_ty) b (o + 128))) (joined side_ty (o + 128)) $
        move ! (1 ∷ []) $ fsplit ! $ move ! (0 ∷ 5 ∷ []) $ use2 𝓛 (‵ (froom (link_ty side_ty) b (o + 160))) (joined side_ty (o + 160)) $
        move ! (1 ∷ 5 ∷ []) $ use2 𝓛 (‵ (froom (link_ty side_ty) b (o + 192))) (joined side_ty (o + 192)) $
        nothing ! $ move ! (5 ∷ 4 ∷ 3 ∷ 2 ∷ 1 ∷ 0 ∷ []) $ group ! 6 $ use2 𝓛 (‵ (froom block_ty b o)) (apply∗ 𝓤 (rooms_at 𝓤 H five 0 b o) (H.room block_ty b o)) $ done !

    pub block_cut : ent 𝓤 (H.room block_ty b o) (sep 𝓤 (sem 𝓛 (parts (block_ptr b o))) (sem 𝓛 Whole))
    block_cut = qed 𝓛 (‵ (froom block_ty b o) ∷ []) ∵
        use1 𝓛 ((‵ (froom (link_ty head_ty) b (o + 0)) ⊛ ‵ (froom (link_ty side_ty) b (o + 96)) ⊛ ‵ (froom (link_ty side_ty) b (o + 128)) ⊛ ‵ (froom (link_ty side_ty) b (o + 160)) ⊛ ‵ (froom (link_ty side_ty) b (o + 192)) ⊛ ‵ ftrue) ⊛ raw All)
        (𝓛.laws.room_fields [] five b o) $ split ! $ split ! $
        rewrite ! 0 (λ (k : ℕ). ‵ (froom (link_ty head_ty) b k)) (add-zero o) refl $ use1 𝓛 (‵ (L head_ty o) ⊛ ‵ (W head_ty o)) (link_cut head_ty b o) $ split ! $
        move ! (2 ∷ []) $ split ! $ use1 𝓛 (‵ (L side_ty (o + 96)) ⊛ ‵ (W side_ty (o + 96))) (link_cut side_ty b (o + 96)) $ split ! $
        move ! (2 ∷ []) $ split ! $ use1 𝓛 (‵ (L side_ty (o + 128)) ⊛ ‵ (W side_ty (o + 128))) (link_cut side_ty b (o + 128)) $ split ! $
        move ! (2 ∷ []) $ split ! $ use1 𝓛 (‵ (L side_ty (o + 160)) ⊛ ‵ (W side_ty (o + 160))) (link_cut side_ty b (o + 160)) $ split ! $
        move ! (2 ∷ []) $ split ! $ use1 𝓛 (‵ (L side_ty (o + 192)) ⊛ ‵ (W side_ty (o + 192))) (link_cut side_ty b (o + 192)) $ split ! $
        move ! (3 ∷ 0 ∷ []) $ fjoin ! $ move ! (4 ∷ 0 ∷ []) $ fjoin ! $ move ! (5 ∷ 0 ∷ []) $ fjoin ! $ move ! (6 ∷ 0 ∷ []) $ fjoin ! $
        move ! (6 ∷ 5 ∷ 4 ∷ 3 ∷ 1 ∷ 7 ∷ []) $ group ! 6 $ use1 𝓛 (‵ Whole) all_rejoins $ keep ! (1 ∷ 0 ∷ []) $ done !

    pub block_glue : ent 𝓤 (sep 𝓤 (sem 𝓛 (parts (block_ptr b o))) (sem 𝓛 Whole)) (H.room block_ty b o)
    block_glue = apply∗ 𝓤 (sem 𝓛 (parts (block_ptr b o))) (H.room block_ty b o)

abbrev pub seven_val : Val → Val → Val → Val → Val → Val → Val → Val
seven_val u0 u1 u2 u3 u4 u5 u6 = vstruct (vcons u0 (vcons u1 (vcons u2 (vcons u3 (vcons u4 (vcons u5 (vcons u6 vnil)))))))

module _ (R0 R1 R2 R3 R4 R5 R6 : RattleType) where
  abbrev Rs : List RattleType
  Rs = R0 ∷ R1 ∷ R2 ∷ R3 ∷ R4 ∷ R5 ∷ R6 ∷ []

  pub seven_of : {M : Type 1} {𝓤 : Ura M} (𝓛 : Logic 𝓤) (x0 : R0.Denot) (x1 : R1.Denot) (x2 : R2.Denot) (x3 : R3.Denot) (x4 : R4.Denot) (x5 : R5.Denot) (x6 : R6.Denot) (u0 u1 u2 u3 u4 u5 u6 : Val)
      → ent 𝓤 (sep 𝓤 (sem 𝓛 (R0.own_val x0 (u0 ∷ []))) (sep 𝓤 (sem 𝓛 (R1.own_val x1 (u1 ∷ []))) (sep 𝓤 (sem 𝓛 (R2.own_val x2 (u2 ∷ []))) (sep 𝓤 (sem 𝓛 (R3.own_val x3 (u3 ∷ []))) (sep 𝓤 (sem 𝓛 (R4.own_val x4 (u4 ∷ []))) (sep 𝓤 (sem 𝓛 (R5.own_val x5 (u5 ∷ []))) (sem 𝓛 (R6.own_val x6 (u6 ∷ [])))))))))
      (sem 𝓛 ((Tuple Rs).own_val (x0, x1, x2, x3, x4, x5, x6) (seven_val u0 u1 u2 u3 u4 u5 u6 ∷ [])))
  seven_of 𝓛 x0 x1 x2 x3 x4 x5 x6 u0 u1 u2 u3 u4 u5 u6 =
      qed 𝓛 (‵ (R0.own_val x0 (u0 ∷ [])) ∷ ‵ (R1.own_val x1 (u1 ∷ [])) ∷ ‵ (R2.own_val x2 (u2 ∷ [])) ∷ ‵ (R3.own_val x3 (u3 ∷ [])) ∷ ‵ (R4.own_val x4 (u4 ∷ [])) ∷ ‵ (R5.own_val x5 (u5 ∷ [])) ∷ ‵ (R6.own_val x6 (u6 ∷ [])) ∷ []) ∵
      nothing ! $ move ! (7 ∷ 0 ∷ []) $ fjoin ! $ move ! (6 ∷ 0 ∷ []) $ fjoin ! $ move ! (5 ∷ 0 ∷ []) $ fjoin ! $ move ! (4 ∷ 0 ∷ []) $ fjoin ! $ move ! (3 ∷ 0 ∷ []) $ fjoin ! $ move ! (2 ∷ 0 ∷ []) $ fjoin ! $ move ! (1 ∷ 0 ∷ []) $ fjoin ! $
      feq_i ! (List Val) (seven_val u0 u1 u2 u3 u4 u5 u6 ∷ []) (seven_val u0 u1 u2 u3 u4 u5 u6 ∷ []) refl $ fjoin ! $
      fpack ! (Valss Rs) (within (Declared.shape (tuple_type Rs)) (x0, (x1, (x2, (x3, (x4, (x5, (x6, tt))))))) (seven_val u0 u1 u2 u3 u4 u5 u6 ∷ [])) (u0 ∷ [], (u1 ∷ [], (u2 ∷ [], (u3 ∷ [], (u4 ∷ [], (u5 ∷ [], (u6 ∷ [], tt))))))) $ done !
