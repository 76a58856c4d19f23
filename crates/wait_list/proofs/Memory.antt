-- What the walks share. Assumes `Logic`.
use mathlib.Core.Path.{◌≡◌, refl, subst}
use mathlib.Core.List.{List, [], ◌∷◌, ◌++◌}
use Prim.Native.Nat.{ℕ}
use seplogic.Ra.Ura.{Ura}
use base.Fraction.{full_share}
use base.Logic.{SProp, ent, sep, via, fst∗, snd∗, id⊢, emp, mono_r}
use contract.Monad.{fact, fact_use}
use base.Fml.{Fml, Lft}
use mir.Syntax.{Args, a_type}
use mir.Val.{Val, of_list}
use types.Logic.{Logic, sem}
use types.Kit.{Item, Goal, Seq, ‵, ◌⊛◌, ◌$◌, ◌∵◌, !, qed, move, drop, use1, use2, split, fsplit, fjoin, fpick, feq_l, done}
use denote.RattleType.{RattleType}
use denote.Param.{param, layouts}
use denote.Param.Laws.{Laws}
use denote.RawPtr.{lies_at}
use denote.Shadow.{makes_shadow}
use denote.Struct.Lending.{lent_at}
use denote.Struct.Struct.{Struct}
use denote.Struct.Owning.{shape}
use Rattle.lru.proofs.Memory.{mark}
use mir.Val.{vstruct, vnil}
use Rattle.wait_list.specs.Linked.{Linked}
use Rattle.wait_list.specs.Ownership.{val_offset, val_of, vals_own, vals_lent}
use Rattle.wait_list.specs.contracts.ring.Ring as Links
use Rattle.wait_list.specs.contracts.link.LinkRoom as Empty
use Rattle.wait_list.specs.contracts.link.LooseLink as Loose
use Rattle.wait_list.specs.contracts.link.LinkPlace as Spot

pub record One : Type 2 where
  pub row : RattleType
  pub laws : Laws row

abbrev pub Pl : RattleType
Pl = Spot.the_row

module _ (E : One) where
  abbrev pub args : Args
  args = layouts (a_type ∷ []) (E.row, tt)

  abbrev pub RT : RattleType
  RT = param 0 E.row

  abbrev pub vo : ℕ
  vo = val_offset RT

  abbrev pub Node : Type 0
  Node = Linked E.row.Denot

  abbrev pub Rg : RattleType
  Rg = Links.the_row RT

  abbrev pub Rm : RattleType
  Rm = Empty.the_row RT

  abbrev pub Hd : RattleType
  Hd = Loose.the_row RT

  -- the ring's own field, which takes no bytes
  abbrev pub Mark : RattleType
  Mark = Struct (shape (Links.the_type RT))

  abbrev pub Val-own : Node → Fml
  Val-own n = lies_at RT full_share (val_of RT n.at) n.val

pub mark_made : (E : One) {M : Type 1} {𝓤 : Ura M} (𝓛 : Logic 𝓤) → ent 𝓤 (emp 𝓤) (sem 𝓛 ((Mark E).own_val (tt, tt) (mark ∷ [])))
mark_made E 𝓛 = makes_shadow 𝓛 ((Mark E).own_val (tt, tt) (mark ∷ [])) (λ vss. (tt, ((λ uss. (tt, tt)), tt))) ((vstruct vnil ∷ [], tt), (refl, ((tt, (refl, tt)), tt)))

module _ {M : Type 1} {𝓤 : Ura M} {𝓛 : Logic 𝓤} {K : Type 0} {Γ : List (Item 𝓤)} {G : Goal 𝓤 𝓛.H} where
  pub ring_mark_had : K → (E : One) (vs : List Val) → (vs ≡ mark ∷ [] → Seq K 𝓛 Γ G) → Seq K 𝓛 (‵ ((Mark E).own_val (tt, tt) vs) ∷ Γ) G
  ring_mark_had t E vs k = fpick t (λ vss. fsplit t $ feq_l t (λ ev. fsplit t $ fpick t (λ uss. fsplit t $ feq_l t (λ e. drop t $ drop t $
      k (subst (λ (ws : List Val). vs ≡ vstruct (of_list (ws ++ [])) ∷ []) e ev)))))

module _ (E : One) {M : Type 1} {𝓤 : Ura M} (𝓛 : Logic 𝓤) where
  abbrev Vals : List (Node E) → Fml
  Vals = vals_own (RT E)

  pub vals_cut : (xs : List (Node E)) (n : Node E) (ys : List (Node E)) → ent 𝓤 (sem 𝓛 (Vals (xs ++ n ∷ ys))) (sep 𝓤 (sem 𝓛 (Val-own E n)) (sem 𝓛 (Vals (xs ++ ys))))
  vals_cut [] n ys = id⊢ 𝓤 _
  vals_cut (x ∷ xs) n ys = qed 𝓛 (‵ (Vals (x ∷ xs ++ n ∷ ys)) ∷ []) ∵ fsplit ! $ move ! (1 ∷ []) $
      use1 𝓛 (‵ (Val-own E n) ⊛ ‵ (Vals (xs ++ ys))) (vals_cut xs n ys) $ split ! $ move ! (2 ∷ 1 ∷ []) $ fjoin ! $ move ! (1 ∷ []) $ done !

  pub vals_glue : (xs : List (Node E)) (n : Node E) (ys : List (Node E)) → ent 𝓤 (sep 𝓤 (sem 𝓛 (Val-own E n)) (sem 𝓛 (Vals (xs ++ ys)))) (sem 𝓛 (Vals (xs ++ n ∷ ys)))
  vals_glue [] n ys = id⊢ 𝓤 _
  vals_glue (x ∷ xs) n ys = qed 𝓛 (‵ (Val-own E n) ∷ ‵ (Vals (x ∷ xs ++ ys)) ∷ []) ∵ move ! (1 ∷ []) $ fsplit ! $ move ! (2 ∷ 1 ∷ []) $
      use2 𝓛 (‵ (Vals (xs ++ n ∷ ys))) (vals_glue xs n ys) $ move ! (1 ∷ 0 ∷ []) $ fjoin ! $ done !

  pub val_seen : (κ : Lft) (xs : List (Node E)) (n : Node E) (ys : List (Node E)) → ent 𝓤 (sem 𝓛 (vals_lent (RT E) (xs ++ n ∷ ys) κ)) (sem 𝓛 (lent_at (RT E) (val_of (RT E) n.at) n.val κ))
  val_seen κ [] n ys = fst∗ 𝓤 _ (sem 𝓛 (vals_lent (RT E) ys κ))
  val_seen κ (x ∷ xs) n ys = via 𝓤 _ (snd∗ 𝓤 (sem 𝓛 (lent_at (RT E) (val_of (RT E) x.at) x.val κ)) _) (val_seen κ xs n ys)

-- the first fact of a `requires` is learned, and the rest stays
pub after_fact : {M : Type 1} (𝓤 : Ura M) (φ : Type 0) (P R : SProp 𝓤) {Q : SProp 𝓤} → (φ → ent 𝓤 (sep 𝓤 P R) Q) → ent 𝓤 (sep 𝓤 P (sep 𝓤 (fact 𝓤 φ) R)) Q
after_fact 𝓤 φ P R k =
    let S : SProp 𝓤 = sep 𝓤 (fact 𝓤 φ) R in
    fact_use 𝓤 φ (via 𝓤 S (snd∗ 𝓤 P S) (fst∗ 𝓤 (fact 𝓤 φ) R)) (λ x. via 𝓤 (sep 𝓤 P R) (mono_r 𝓤 P {Q = S} {Q' = R} (snd∗ 𝓤 (fact 𝓤 φ) R)) (k x))
