-- `give_back` makes the block of its five links, and hands it back with the allocator's token. Assumes `Logic`.
use mathlib.Core.Path.{◌≡◌, refl, sym, ap, subst, ◌∙◌}
use Prim.Native.Nat.{ℕ}
use mathlib.Core.List.{List, [], ◌∷◌, ◌++◌}
use lib.Dec.{T, lit<}
use seplogic.Ra.Ura.{Ura}
use mir.Syntax.{Fn, named, ty_unit}
use mir.MapTy.{inst_fn}
use mir.Val.{Val, vptr, vunit, vstruct, of_list, has_ty, WT}
use base.Logic.{SProp, ent, via, fst∗, id⊢}
use base.Fml.{Lft, Share, ftrue, froom, flft, Incl-trans}
use prog.Memory.{Memory}
use prog.Routine.{Routine}
use prog.Wp.{Env, Calls, Loops, WpFn, Tables}
use types.Logic.{Logic, sem}
use contract.Monad.{fact, Fun}
use contract.BorrowLft.{◌⊑◌}
use contract.Running.{tables, tables_of}
use sound.WpLaws.{WpFn-mono, FmC, fm_of}
use types.Kit.{Item, ⋆, ‵, raw, ◌⊛◌, given, later, await, learn, at_ret, ◌$◌, ◌∵◌, !, qed, by, move, keep, use1, use2, split, join, group, rewrite, fsplit, fjoin, fpick, feq_i, feq_l, suffices, done}
use types.Part.{whole, sub}
use types.Run.{stop, fld, lit, unit_lit, of_opd, and_then, no_more, first, blocks, exec, returns, enter}
use types.ByLocal.{alloc_all, pass_all, free_all, look_at, get, get_in, sets, is, lands_last, env}
use denote.Exit.{yes, no}
use denote.RattleType.{owns}
use denote.Memory.{hidden_shr}
use denote.Param.{layout}
use denote.RawPtr.{Ptr, null_ptr, block_ptr, ptr_val, in_a_block}
use denote.Ref.{Bor, ShrRef}
use denote.Builtin.{RefOf}
use denote.Signature.{plain}
use denote.Steps.{nothing}
use denote.Struct.Struct.{as_fields}
use denote.Triple.Call.{calls_at_last}
use denote.Triple.Clauses.{Clauses, Ended, closing}
use denote.Triple.Entry.{on_entry}
use denote.Triple.Spec.{Meets, triple_of}
use denote.Triple.Statement.{Triple}
use denote.Triple.Table.{entered}
use denote.Triple.Walked.{needs, Stays, stay_dropped, walk_of, ends_at, Goes-dropped, walk_Meets}
use Rattle.core.proofs.alloc.Calls.{Goes-blank, Al, token, gives_key, Gives, at_gives, Gives-goes, Gives-Gives}
use Rattle.std_alloc.proofs.VecSteps.Shapes.{after}
use Rattle.std_alloc.proofs.RcSteps.{Good, word, word-Good}
use Rattle.lru.proofs.Memory.{mark, word_had, no_room}
use Rattle.wait_list.specs.Block.{block_ty, parts, title_owns, a_of, b_of, c_of, d_of}
use Rattle.wait_list.specs.Ownership.{room_owns, val_room}
use Rattle.wait_list.proofs.Memory.{Pl, after_fact}
use Rattle.wait_list.proofs.Blocks.{args, RA, Dd, Sp, HeadR, SideR, RmH, RmS, deed_mark_had, block_glue, seven_val}
use Rattle.wait_list.specs.contracts.node.give_back as F
use Rattle.wait_list.specs.contracts.node.give_back.Key.{name as #self}
use Rattle.wait_list.proofs.node.give_back.Statement as stated
use Rattle.wait_list.proofs.node.give_back.Code as code

module _ (Z : Al) where
  abbrev function : Fn
  function = inst_fn (args Z) code.function

  abbrev ended : Ended
  ended = F.ended Z.row Z.g Z.d Z.drops

  abbrev clauses : {M : Type 1} {𝓤 : Ura M} (𝓛 : Logic 𝓤) → (Memory → SProp 𝓤) → (Routine → Fun 𝓤) → Clauses 𝓤 ended
  clauses 𝓛 = F.clauses Z.row Z.g Z.d Z.drops 𝓛

  abbrev stayed : Stays ended.signature.params ended.kept
  stayed = (stay_dropped (RefOf (0 ∷ []) tt (plain (λ _. RA Z)) (λ _. tt)) yes, (stay_dropped (plain (λ _. Sp Z)) no, tt))

  abbrev Asks : Z.row.Denot → (Sp Z).Denot → Type 0
  Asks a s = s.title.alloc ≡ a

module _ (Z : Al) {M : Type 1} {𝓤 : Ura M} (𝓛 : Logic 𝓤) (at_mem : Memory → SProp 𝓤) (run : Routine → Fun 𝓤) (C : Calls 𝓤 𝓛.H) (Λ : Loops 𝓤 𝓛.H) (fm : FmC 𝓤 𝓛.H 𝓛.laws C)
    (callee : Triple 𝓤 (C (gives_key Z)) (Gives Z 𝓛 at_mem run)) (κ κ₁ : Lft) (q q₁ : Share) (short : κ ⊑ κ₁) (within : κ₁ ⊑ Z.row.lives) (rb ro : ℕ) (a : Z.row.Denot) (s : (Sp Z).Denot) (us0 us1 : List Val) where
  open 𝓛 use {H, A}

  abbrev self : Bor Z.row.Denot
  self = record { ref_ptr = (rb, ro); now = a }

  abbrev others : Item 𝓤
  others = ‵ (flft κ₁ q₁) ⊛ ‵ ftrue

  abbrev bound : (walk_of 𝓛 (ended Z) (stayed Z) (clauses Z 𝓛 at_mem run)).Ghost
  bound = (((κ, (κ₁, tt)), (q, (q₁, tt)), (short, tt), (self, (s, tt)), (us0, (us1, tt))), tt)

  abbrev Post : Val → SProp 𝓤
  Post = (walk_of 𝓛 (ended Z) (stayed Z) (clauses Z 𝓛 at_mem run)).post bound

  exits : ent 𝓤 (⋆ 𝓛 (‵ (flft κ q) ∷ others ∷ [])) (Post vunit)
  exits =
      qed 𝓛 (‵ (flft κ q) ∷ others ∷ []) ∵
      suffices ! _ (ends_at 𝓛 (ended Z) (stayed Z) (clauses Z 𝓛 at_mem run) bound vunit tt (tt, ((tt, (tt, (tt, (tt, (tt, (tt, (tt, tt))))))), tt)) (tt, (tt, tt))) $
      join ! $ feq_i ! (List Val) (vunit ∷ []) (vunit ∷ []) refl $ nothing ! $ nothing ! $ fjoin ! $ nothing ! $ fjoin ! $ join ! $
      move ! (1 ∷ 0 ∷ []) $ join ! $ nothing ! $ move ! (1 ∷ 0 ∷ []) $ done !

  abbrev spare_val : Val
  spare_val = seven_val (word s.at.ptr) (word s.head.ptr) (word s.a.ptr) (word s.b.ptr) (word s.c.ptr) (word s.d.ptr) mark

  abbrev Had : List (Item 𝓤)
  Had = ‵ (room_owns HeadR s.head.ptr) ∷ ‵ (room_owns SideR s.a.ptr) ∷ ‵ (room_owns SideR s.b.ptr) ∷ ‵ (room_owns SideR s.c.ptr) ∷ ‵ (room_owns SideR s.d.ptr)
      ∷ ‵ (title_owns (token Z s.title.alloc) s.title.at) ∷ ‵ (hidden_shr (RA Z) κ a rb ro) ∷ ‵ (flft κ q) ∷ others ∷ []

  walk : Asks Z a s → ent 𝓤 (⋆ 𝓛 Had) (WpFn 𝓤 H C Λ (function Z) (vptr rb ro ∷ spare_val ∷ []) Post)
  walk asked =
      let w = s.whole in
      let typed : Good (layout (Sp Z)) spare_val = as_fields (layout Pl ∷ layout RmH ∷ layout RmS ∷ layout RmS ∷ layout RmS ∷ layout RmS ∷ layout (Dd Z) ∷ [])
      (word s.at.ptr ∷ word s.head.ptr ∷ word s.a.ptr ∷ word s.b.ptr ∷ word s.c.ptr ∷ word s.d.ptr ∷ mark ∷ [])
      (word-Good [] s.at.ptr, (word-Good [] s.head.ptr, (word-Good [] s.a.ptr, (word-Good [] s.b.ptr, (word-Good [] s.c.ptr, (word-Good [] s.d.ptr, ((tt, (tt, tt)), tt))))))) in
      qed 𝓛 Had ∵ enter ! C Λ (function Z) (vptr rb ro ∷ spare_val ∷ []) _ $ alloc_all ! (λ l. pass_all ! refl ((tt, tt), (typed, tt)) $
      let En : Env 𝓤 H = env (function Z).locals l in
      rewrite ! 0 (λ (p : Ptr). ‵ (room_owns HeadR p)) w.1 refl $ rewrite ! 1 (λ (p : Ptr). ‵ (room_owns SideR p)) w.2 refl $ rewrite ! 2 (λ (p : Ptr). ‵ (room_owns SideR p)) w.3 refl $
      rewrite ! 3 (λ (p : Ptr). ‵ (room_owns SideR p)) w.4 refl $ rewrite ! 4 (λ (p : Ptr). ‵ (room_owns SideR p)) w.5 refl $
      rewrite ! 5 (λ (d : Z.row.Denot × Ptr). ‵ (title_owns (token Z d.0) d.1)) (λ i. (asked i, w.0 i)) refl $
      in_a_block ! s.at.ptr (room_owns HeadR) (via 𝓤 _ (fst∗ 𝓤 _ (sem 𝓛 (val_room HeadR null_ptr))) (no_room 𝓛)) (λ b o ep.
      rewrite ! 1 (λ (p : Ptr). ‵ (room_owns SideR (a_of p))) ep refl $ rewrite ! 2 (λ (p : Ptr). ‵ (room_owns SideR (b_of p))) ep refl $
      rewrite ! 3 (λ (p : Ptr). ‵ (room_owns SideR (c_of p))) ep refl $ rewrite ! 4 (λ (p : Ptr). ‵ (room_owns SideR (d_of p))) ep refl $
      rewrite ! 5 (λ (p : Ptr). ‵ (title_owns (token Z a) p)) ep refl $
      let y : (Gives Z 𝓛 at_mem run).Ghost = at_gives Z 𝓛 at_mem run κ q (rb, ro) a b o 224 8 block_ty in
      move ! (3 ∷ 4 ∷ []) $ fjoin ! $ move ! (3 ∷ 0 ∷ []) $ fjoin ! $ move ! (2 ∷ 0 ∷ []) $ fjoin ! $ move ! (1 ∷ 0 ∷ []) $ fjoin ! $
      use1 𝓛 (‵ (parts (block_ptr b o))) (id⊢ 𝓤 _) $
      move ! (1 ∷ []) $ fsplit ! $ move ! (2 ∷ 1 ∷ []) $ use2 𝓛 (‵ (froom block_ty b o)) (block_glue 𝓛 b o) $
      sets ! (is ! (of_opd ! (get_in ! (fld ! refl (fld ! refl (stop !))) (sub ! 0 refl (sub ! 0 refl (whole !))))) (ap ptr_val ep)) refl (tt, tt) $ first ! $ blocks ! $
      group ! 4 $ use1 𝓛 (raw ((Gives Z 𝓛 at_mem run).pre y)) (Gives-goes Z 𝓛 at_mem run κ q (rb, ro) a (Incl-trans short within) b o 224 8 block_ty refl refl (lit< tt) (lit< tt)) $
      calls_at_last ! fm (Gives Z 𝓛 at_mem run) callee y (and_then ! (get ! refl) (and_then ! (get ! refl) (and_then ! (lit ! tt) (and_then ! (lit ! tt) (no_more !))))) (λ v.
      use1 𝓛 (later (given (v ≡ vunit) (‵ (flft κ q)))) (Gives-Gives Z 𝓛 at_mem run κ q (rb, ro) a b o 224 8 block_ty v) $ await ! tt $ learn ! (λ e.
      lands_last ! refl (subst (λ (z : Val). T (has_ty ty_unit z) × WT z) (sym e) (tt, tt)) $ exec ! C Λ En (after 2 (function Z).body) (at_ret En Post) $
      sets ! (of_opd ! (unit_lit !)) refl (tt, tt) $ returns ! (look_at ! 0 refl) $ free_all ! refl $ keep ! (0 ∷ 1 ∷ []) $ by ! exits))))

  entry : Asks Z a s → ent 𝓤 (on_entry 𝓛 (ended Z).signature (κ, (κ₁, tt)) (q, (q₁, tt)) (self, (s, tt)) (us0, (us1, tt))) (WpFn 𝓤 H C Λ (function Z) (us0 ++ (us1 ++ [])) Post)
  entry asked =
      qed 𝓛 ((‵ (flft κ q) ⊛ others) ∷ ‵ (owns (ShrRef (named 0) κ (RA Z) ∷ Sp Z ∷ []) (self, (s, tt)) (us0, (us1, tt))) ∷ []) ∵ split ! $ move ! (2 ∷ []) $ fsplit ! $ fsplit ! $ feq_l ! (λ e0.
      move ! (1 ∷ []) $ fsplit ! $ fpick ! (λ vss. fsplit ! $ feq_l ! (λ ev.
      fsplit ! $ word_had ! s.at.ptr vss.0 (λ n0.
      fsplit ! $ fsplit ! $ word_had ! s.head.ptr vss.1.0 (λ n1. move ! (1 ∷ []) $
      fsplit ! $ fsplit ! $ word_had ! s.a.ptr vss.1.1.0 (λ n2. move ! (1 ∷ []) $
      fsplit ! $ fsplit ! $ word_had ! s.b.ptr vss.1.1.1.0 (λ n3. move ! (1 ∷ []) $
      fsplit ! $ fsplit ! $ word_had ! s.c.ptr vss.1.1.1.1.0 (λ n4. move ! (1 ∷ []) $
      fsplit ! $ fsplit ! $ word_had ! s.d.ptr vss.1.1.1.1.1.0 (λ n5. move ! (1 ∷ []) $
      fsplit ! $ fsplit ! $ deed_mark_had ! Z vss.1.1.1.1.1.1.0 (λ n6.
      let e1 : us1 ≡ spare_val ∷ [] = ev ∙ (λ i. vstruct (of_list (n0 i ++ (n1 i ++ (n2 i ++ (n3 i ++ (n4 i ++ (n5 i ++ (n6 i ++ [])))))))) ∷ []) in
      keep ! (6 ∷ 5 ∷ 4 ∷ 3 ∷ 2 ∷ 0 ∷ 8 ∷ 9 ∷ 10 ∷ []) $
      by ! (subst (λ (ws : List Val × List Val). ent 𝓤 (⋆ 𝓛 Had) (WpFn 𝓤 H C Λ (function Z) (ws.0 ++ (ws.1 ++ [])) Post)) (λ j. (sym e0 j, sym e1 j)) (walk asked))))))))))))

meets : (Z : Al) {M : Type 1} {𝓤 : Ura M} (𝓛 : Logic 𝓤) (at_mem : Memory → SProp 𝓤) (run : Routine → Fun 𝓤) (𝓣 : Tables 𝓤 𝓛.H) → Triple 𝓤 (𝓣.C (gives_key Z)) (Gives Z 𝓛 at_mem run)
    → Meets 𝓛 (ended Z).signature (WpFn 𝓤 𝓛.H 𝓣.C 𝓣.Λ (function Z)) (closing 𝓛 (ended Z) (clauses Z 𝓛 at_mem run))
meets Z {𝓤 = 𝓤} 𝓛 at_mem run 𝓣 callee =
    walk_Meets 𝓛 (ended Z) (stayed Z) (Goes-dropped 𝓛 2 (RefOf (0 ∷ []) tt (plain (λ _. RA Z)) (λ _. tt)) yes (λ κs x f. refl), (Goes-blank 𝓛 2 (plain (λ _. Sp Z)) no (λ κs x f. tt), tt))
    (clauses Z 𝓛 at_mem run) (WpFn 𝓤 𝓛.H 𝓣.C 𝓣.Λ (function Z)) (WpFn-mono 𝓤 𝓛.H 𝓛.laws 𝓣 (function Z))
    (λ z. let κs = z.0.0 in let qs = z.0.1 in let a = z.0.3 in let vss = z.0.4 in let On : SProp 𝓤 = on_entry 𝓛 (ended Z).signature κs qs a vss in
    let asks = Asks Z a.0.now a.1.0 in
    after_fact 𝓤 (κs.1.0 ⊑ Z.row.lives) On (fact 𝓤 asks) (λ within. needs 𝓤 asks On
    (entry Z 𝓛 at_mem run 𝓣.C 𝓣.Λ (fm_of 𝓤 𝓛.H 𝓛.laws 𝓣) callee κs.0 κs.1.0 qs.0 qs.1.0 z.0.2.0 within a.0.ref_ptr.0 a.0.ref_ptr.1 a.0.now a.1.0 vss.0 vss.1.0)))

pub give_back_spec : {M : Type 1} → stated.statement M
unfolding tables_of
give_back_spec 𝓤 𝓛 𝓜 𝓡 wired W LW g d dd met md =
    let Z : Al = record { row = W; laws = LW; g = g; d = d; drops = dd } in
    let 𝓣 : Tables 𝓤 𝓛.H = tables_of 𝓤 𝓛.H 𝓜 (tables 𝓤 𝓛.H 𝓜 𝓡 𝓡.env) in
    entered 𝓤 𝓛.H (triple_of 𝓛 (ended Z).signature (F.spec W g d dd 𝓛 𝓜.mem 𝓡.returns)) 𝓣.C 𝓣.Λ (#self (args Z)) (function Z) (code.unfolded 𝓤 𝓛.H 𝓜 𝓡 wired (W, tt) d dd)
    (meets Z 𝓛 𝓜.mem 𝓡.returns 𝓣 (met.deallocate dd))
