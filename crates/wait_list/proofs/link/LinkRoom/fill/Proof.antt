-- `fill` writes the value. Assumes `Logic`.
use mathlib.Core.Path.{◌≡◌, refl, sym, ap, subst}
use Prim.Native.Nat.{◌+◌}
use mathlib.Core.List.{List, [], ◌∷◌, ◌++◌}
use seplogic.Ra.Ura.{Ura}
use base.Fraction.{full_share}
use mir.Syntax.{Fn}
use mir.MapTy.{inst_fn}
use mir.Val.{Val}
use base.Logic.{SProp, ent, emp, never, via, fst∗, id⊢}
use base.Fml.{ftrue}
use prog.Model.{Model}
use prog.Wp.{Env, Calls, Loops, WpFn, Tables}
use types.Logic.{Logic}
use contract.Monad.{fact}
use contract.Running.{tables, tables_of}
use sound.WpLaws.{WpFn-mono}
use types.Kit.{Item, ⋆, ‵, at_ret, ◌$◌, ◌∵◌, !, qed, by, move, keep, use2, rewrite, fsplit, fjoin, suffices, frame, done}
use types.Part.{whole, sub, agg}
use types.Run.{init, stop, fld, addr, of_opd, and_then, no_more, assigns_last, first, blocks, exec, returns, enter}
use types.ByLocal.{alloc_all, pass_all, free_all, look_at, get, get_in, through, sets, is, env}
use denote.Exit.{no}
use denote.RattleType.{owns}
use denote.Memory.{part_at}
use denote.Param.{layout}
use denote.RawPtr.{Ptr, block_ptr, ptr_val, in_a_block, lies_at}
use denote.Signature.{plain}
use denote.Steps.{nothing}
use denote.Triple.Carry.{spared}
use denote.Triple.Clauses.{Clauses, Ended, closing}
use denote.Triple.Entry.{on_entry}
use denote.Triple.Spec.{Meets, triple_of}
use denote.Triple.Table.{entered, run_framed}
use denote.Triple.Walked.{says, Stays, stay_dropped, walk_of, ends_at, Goes-dropped, walk_Meets}
use Rattle.core.proofs.alloc.Calls.{Goes-blank}
use Rattle.std_alloc.proofs.VecSteps.Shapes.{after}
use Rattle.std_alloc.proofs.RcSteps.{Good, word, word-Good}
use Rattle.std_alloc.proofs.RawLayout.{as_written}
use Rattle.lru.proofs.Memory.{word_had, word_made, value_in, tells}
use Rattle.wait_list.specs.Ownership.{val_of, val_room, room_owns}
use Rattle.wait_list.proofs.Memory.{One, args, RT, vo, Rm, Hd}
use Rattle.wait_list.specs.contracts.link.LinkRoom.fill.Key.{name as #self}
use Rattle.wait_list.proofs.link.LinkRoom.fill.Statement as stated
use Rattle.wait_list.proofs.link.LinkRoom.fill.Code as code

module _ (E : One) where
  abbrev function : Fn
  function = inst_fn (args E) code.function

  abbrev ended : Ended
  ended = record { signature = record { lifetimes = 0; outlives = []; params = plain (λ _. Rm E) ∷ plain (λ _. RT E) ∷ []; result = plain (λ _. Hd E) }; kept = (no, (no, tt)) }

  abbrev stayed : Stays ended.signature.params ended.kept
  stayed = (stay_dropped (plain (λ _. Rm E)) no, (stay_dropped (plain (λ _. RT E)) no, tt))

  abbrev Gives0 : (Rm E).Denot → (RT E).Denot → (Hd E).Denot → Type 0
  Gives0 room val r = (r.ptr ≡ room.ptr) × (r.val ≡ val)

  abbrev spec : {M : Type 1} {𝓤 : Ura M} (𝓛 : Logic 𝓤) → Clauses 𝓤 ended
  spec {𝓤 = 𝓤} 𝓛 κs a = record { ghost = Unit {0}; requires = λ _. emp 𝓤; ensures = λ _ r w. fact 𝓤 (Gives0 a.0 a.1.0 r) }

module _ (E : One) {M : Type 1} {𝓤 : Ura M} (𝓛 : Logic 𝓤) (𝓜 : Model 𝓤 𝓛.H) (C : Calls 𝓤 𝓛.H) (Λ : Loops 𝓤 𝓛.H) (room : (Rm E).Denot) (val : (RT E).Denot) (us0 us1 : List Val) where
  open 𝓛 use {H, A}

  abbrev bound : (walk_of 𝓛 (ended E) (stayed E) (spec E 𝓛)).Ghost
  bound = ((tt, tt, tt, (room, (val, tt)), (us0, (us1, tt))), tt)

  abbrev Post : Val → SProp 𝓤
  Post = (walk_of 𝓛 (ended E) (stayed E) (spec E 𝓛)).post bound

  exits : (r : (Hd E).Denot) (v : Val) → Gives0 E room val r → ent 𝓤 (⋆ 𝓛 (‵ ((Hd E).own_val r (v ∷ [])) ∷ [])) (Post v)
  exits r v g0 =
      qed 𝓛 (‵ ((Hd E).own_val r (v ∷ [])) ∷ []) ∵
      suffices ! _ (ends_at 𝓛 (ended E) (stayed E) (spec E 𝓛) bound v r (tt, (tt, tt)) (tt, (tt, tt))) $ says ! g0 $
      nothing ! $ frame ! $ nothing ! $ nothing ! $ fjoin ! $ nothing ! $ fjoin ! $ done !

  abbrev Had : Val → List (Item 𝓤)
  Had v = ‵ (room_owns (RT E) room.ptr) ∷ ‵ (E.row.own_val val (v ∷ [])) ∷ []

  walk : (v : Val) → Good (layout E.row) v → ent 𝓤 (⋆ 𝓛 (Had v)) (WpFn 𝓤 H C Λ (function E) (word room.ptr ∷ v ∷ []) Post)
  walk v gv =
      let out : (Hd E).Denot = record { ptr = room.ptr; val = val } in
      qed 𝓛 (Had v) ∵ enter ! C Λ (function E) (word room.ptr ∷ v ∷ []) _ $ alloc_all ! (λ l. pass_all ! refl (word-Good [] room.ptr, (gv, tt)) $
      let En : Env 𝓤 H = env (function E).locals l in
      fsplit ! $ move ! (1 ∷ []) $ in_a_block ! room.ptr (val_room (RT E)) (id⊢ 𝓤 (never 𝓤)) (λ pb po ep.
      as_written ! (layout E.row) pb (po + vo E) $
      -- [room for the value; for the links; what the value owns]
      sets ! (is ! (of_opd ! (get_in ! (fld ! refl (stop !)) (sub ! 0 refl (whole !)))) (ap ptr_val ep)) refl (tt, tt) $ first ! $ blocks ! $
      sets ! (addr ! (through ! refl (fld ! refl (stop !)))) refl (tt, tt) $ sets ! (of_opd ! (get ! refl)) refl gv $ assigns_last ! (of_opd ! (get ! refl)) (through ! refl (stop !)) (init ! 0 refl gv) $
      exec ! C Λ En (after 2 (function E).body) (at_ret En Post) $ sets ! (agg ! (and_then ! (get ! refl) (no_more !))) refl (word-Good [] (block_ptr pb po)) $
      move ! (0 ∷ 2 ∷ []) $ use2 𝓛 (‵ (part_at (RT E) full_share val pb (po + vo E))) (value_in 0 E.row E.laws 𝓛 val pb (po + vo E) v) $
      rewrite ! 0 (λ (p : Ptr). ‵ (lies_at (RT E) full_share (val_of (RT E) p) val)) (sym ep) refl $ move ! (1 ∷ 0 ∷ []) $ fjoin ! $ word_made ! room.ptr $ fjoin ! $
      returns ! (look_at ! 0 refl) $ free_all ! refl $ keep ! (0 ∷ []) $
      by ! (subst (λ (p : Ptr). ent 𝓤 (⋆ 𝓛 (‵ ((Hd E).own_val out (word room.ptr ∷ [])) ∷ [])) (Post (word p))) ep (exits out (word room.ptr) (refl, refl)))))

  entry : ent 𝓤 (on_entry 𝓛 (ended E).signature tt tt (room, (val, tt)) (us0, (us1, tt))) (WpFn 𝓤 H C Λ (function E) (us0 ++ (us1 ++ [])) Post)
  entry =
      qed 𝓛 (‵ ftrue ∷ ‵ (owns (Rm E ∷ RT E ∷ []) (room, (val, tt)) (us0, (us1, tt))) ∷ []) ∵
      move ! (1 ∷ []) $ fsplit ! $ fsplit ! $ word_had ! room.ptr us0 (λ e0. move ! (1 ∷ []) $ fsplit ! $ tells E.row E.laws ! val us1 (λ v e1 gv. keep ! (2 ∷ 0 ∷ []) $
      by ! (subst (λ (ws : List Val × List Val). ent 𝓤 (⋆ 𝓛 (Had v)) (WpFn 𝓤 H C Λ (function E) (ws.0 ++ (ws.1 ++ [])) Post)) (λ j. (sym e0 j, sym e1 j)) (walk v gv))))

meets : (E : One) {M : Type 1} {𝓤 : Ura M} (𝓛 : Logic 𝓤) (𝓜 : Model 𝓤 𝓛.H) (𝓣 : Tables 𝓤 𝓛.H)
    → Meets 𝓛 (ended E).signature (WpFn 𝓤 𝓛.H 𝓣.C 𝓣.Λ (function E)) (closing 𝓛 (ended E) (spec E 𝓛))
meets E {𝓤 = 𝓤} 𝓛 𝓜 𝓣 =
    walk_Meets 𝓛 (ended E) (stayed E) (Goes-blank 𝓛 0 (plain (λ _. Rm E)) no (λ κs x f. tt), (Goes-dropped 𝓛 0 (plain (λ _. RT E)) no (λ κs x f. refl), tt)) (spec E 𝓛) (WpFn 𝓤 𝓛.H 𝓣.C 𝓣.Λ (function E)) (WpFn-mono 𝓤 𝓛.H 𝓛.laws 𝓣 (function E))
    (λ z. via 𝓤 _ (fst∗ 𝓤 _ (emp 𝓤)) (entry E 𝓛 𝓜 𝓣.C 𝓣.Λ z.0.3.0 z.0.3.1.0 z.0.4.0 z.0.4.1.0))

pub fill_spec : {M : Type 1} → stated.statement M
unfolding tables_of
fill_spec 𝓤 𝓛 𝓜 𝓡 wired X LX y =
    let E : One = record { row = X; laws = LX } in
    let 𝓣 : Tables 𝓤 𝓛.H = tables_of 𝓤 𝓛.H 𝓜 (tables 𝓤 𝓛.H 𝓜 𝓡 𝓡.env) in
    let k = #self (args E) in
    spared 𝓛 (ended E).signature (𝓡.run (𝓡.env k)) (run_framed 𝓤 𝓛.H 𝓜 𝓡 (𝓡.env k)) 1 (X.lives, tt) (closing 𝓛 (ended E) (spec E 𝓛))
    (entered 𝓤 𝓛.H (triple_of 𝓛 (ended E).signature (closing 𝓛 (ended E) (spec E 𝓛))) 𝓣.C 𝓣.Λ k (function E) (code.unfolded 𝓤 𝓛.H 𝓜 𝓡 wired (X, tt)) (meets E 𝓛 𝓜 𝓣))
    ((y.0.0, y.0.1, tt, y.0.3, y.0.4), y.1)
