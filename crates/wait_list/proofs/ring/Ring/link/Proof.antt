-- `link` cuts the last edge in two, at a link that lies apart from the others. Assumes `Logic`.
use mathlib.Core.Path.{◌≡◌, refl, sym, ap, subst, ◌∙◌}
use Prim.Native.Nat.{ℕ}
use mathlib.Core.List.{List, [], ◌∷◌, ◌++◌}
use seplogic.Ra.Ura.{Ura}
use mir.Syntax.{Fn, named}
use mir.MapTy.{inst_fn}
use mir.Val.{Val, vptr}
use base.Logic.{SProp, ent, sep}
use base.Fml.{Lft, GName, Share, ftrue, flft, fobs, fbor}
use prog.Model.{Model}
use prog.Wp.{Env, Calls, Loops, WpFn, Tables}
use types.Logic.{Logic}
use contract.Monad.{fact}
use contract.Running.{tables, tables_of}
use sound.WpLaws.{WpFn-mono}
use types.Kit.{Item, ⋆, ‵, ◌⊛◌, at_ret, ◌$◌, ◌∵◌, !, qed, by, move, keep, use1, use2, split, join, rewrite, fsplit, fsplit3, fjoin, fjoin3, feq_i, feq_l, suffices, frame, done}
use types.Part.{whole, sub, agg}
use types.Run.{look, store, init, stop, hop, fld, load, of_opd, and_then, no_more, assigns, assigns_last, first, blocks, exec, returns, enter}
use types.ByLocal.{alloc_all, pass_all, free_all, look_at, get, get_in, through, sets, is, env}
use types.SemTy.{Body as Borrowed}
use denote.Exit.{yes, no}
use denote.RattleType.{owns}
use denote.Memory.{mem}
use denote.RawPtr.{Ptr, block_ptr, ptr_val, in_a_block}
use denote.Ref.{MutBor, MutRef}
use denote.Builtin.{RefMutOf}
use denote.Signature.{plain}
use denote.Steps.{nothing, opens, closes}
use denote.Triple.Carry.{spared}
use denote.Triple.Clauses.{Clauses, Ended, closing}
use denote.Triple.Entry.{on_entry}
use denote.Triple.Spec.{Meets, triple_of}
use denote.Triple.Table.{entered, run_framed}
use denote.Triple.Walked.{needs, Stays, stay_dropped, stay_ref, walk_of, ends_at, Goes-dropped, Goes-ref, walk_Meets}
use Rattle.core.proofs.alloc.Calls.{Goes-blank}
use Rattle.std_alloc.proofs.VecSteps.Shapes.{after}
use Rattle.std_alloc.proofs.RcSteps.{word, word-Good}
use Rattle.lru.specs.Ownership.{link_room, edge, path}
use Rattle.lru.proofs.Splits.{last_from}
use Rattle.lru.proofs.Apart.{IsFresh}
use Rattle.lru.proofs.Memory.{word_had, word_made, knows, edge_out, edge_in, says_both, no_source, no_target, no_room, path_cut, path_glue, fresh}
use Rattle.wait_list.specs.Linked.{linked, places, turn}
use Rattle.wait_list.specs.Ownership.{loose_owns, vals_own}
use Rattle.wait_list.proofs.Apart.{turn_cut, apart_linked}
use Rattle.wait_list.proofs.Memory.{One, args, RT, Node, Rg, Hd, Pl, vals_glue}
use Rattle.wait_list.specs.contracts.ring.Ring.link.Key.{name as #self}
use Rattle.wait_list.proofs.ring.Ring.link.Statement as stated
use Rattle.wait_list.proofs.ring.Ring.link.Code as code
use mathlib.Core.Bool.{false}
use mathlib.Core.List.{append-nil}
use Rattle.lru.specs.Linked.{same_ptr}
use Rattle.lru.proofs.Splits.{all_left}

module _ (E : One) where
  abbrev function : Fn
  function = inst_fn (args E) code.function

  abbrev ended : Ended
  ended = record { signature = record { lifetimes = 1; outlives = []; params = RefMutOf (0 ∷ []) tt (plain (λ _. Rg E)) (λ _. tt) ∷ plain (λ _. Pl) ∷ plain (λ _. Hd E) ∷ []; result = plain (λ _. Pl) }; kept = (yes, (no, (no, tt))) }

  abbrev stayed : Stays ended.signature.params ended.kept
  stayed = (stay_ref (0 ∷ []) tt (plain (λ _. Rg E)), (stay_dropped (plain (λ _. Pl)) no, (stay_dropped (plain (λ _. Hd E)) no, tt)))

  abbrev Asks : (Rg E).Denot → (Pl).Denot → (Hd E).Denot → Type 0
  Asks d at node = at.ptr ≡ d.stop.at

  abbrev Gives0 : (Rg E).Denot → (Pl).Denot → (Hd E).Denot → (Pl).Denot → (Rg E).Denot → Type 0
  Gives0 d at node r new = new.stop ≡ d.stop

  abbrev Gives1 : (Rg E).Denot → (Pl).Denot → (Hd E).Denot → (Pl).Denot → (Rg E).Denot → Type 0
  Gives1 d at node r new = (new.nodes ≡ d.nodes ++ linked node.ptr node.val ∷ []) × (r.ptr ≡ node.ptr)

  abbrev spec : {M : Type 1} {𝓤 : Ura M} (𝓛 : Logic 𝓤) → Clauses 𝓤 ended
  spec {𝓤 = 𝓤} 𝓛 κs a = record { ghost = Unit {0}; requires = λ _. fact 𝓤 (Asks a.0.now a.1.0 a.1.1.0); ensures = λ _ r w. sep 𝓤 (fact 𝓤 (Gives0 a.0.now a.1.0 a.1.1.0 r w.0.now)) (fact 𝓤 (Gives1 a.0.now a.1.0 a.1.1.0 r w.0.now)) }

module _ (E : One) {M : Type 1} {𝓤 : Ura M} (𝓛 : Logic 𝓤) (𝓜 : Model 𝓤 𝓛.H) (C : Calls 𝓤 𝓛.H) (Λ : Loops 𝓤 𝓛.H) (κ : Lft) (q : Share) (rb ro : ℕ) (γ : GName) (d : (Rg E).Denot) (at : (Pl).Denot) (node : (Hd E).Denot) (us0 us1 us2 : List Val) where
  open 𝓛 use {H, A}

  abbrev self : MutBor (Rg E).Denot
  self = record { ref_ptr = (rb, ro); ghost_name = γ; now = d }

  abbrev bound : (walk_of 𝓛 (ended E) (stayed E) (spec E 𝓛)).Ghost
  bound = (((κ, tt), (q, tt), tt, (self, (at, (node, tt))), (us0, (us1, (us2, tt)))), tt)

  abbrev Post : Val → SProp 𝓤
  Post = (walk_of 𝓛 (ended E) (stayed E) (spec E 𝓛)).post bound

  exits : us0 ≡ vptr rb ro ∷ [] → (r : (Pl).Denot) (v : Val) (new : (Rg E).Denot) → Gives0 E d at node r new → Gives1 E d at node r new → ent 𝓤 (⋆ 𝓛 (‵ (fobs γ ((Rg E).coded.code new)) ∷ ‵ (fbor κ (Borrowed (mem (Rg E)) rb ro γ)) ∷ ‵ (flft κ q) ∷ ‵ ((Pl).own_val r (v ∷ [])) ∷ [])) (Post v)
  exits passed r v new g0 g1 =
      qed 𝓛 (‵ (fobs γ ((Rg E).coded.code new)) ∷ ‵ (fbor κ (Borrowed (mem (Rg E)) rb ro γ)) ∷ ‵ (flft κ q) ∷ ‵ ((Pl).own_val r (v ∷ [])) ∷ []) ∵
      suffices ! _ (ends_at 𝓛 (ended E) (stayed E) (spec E 𝓛) bound v r (new, (tt, (tt, tt))) (tt, (tt, (tt, tt)))) $ says_both ! g0 g1 $
      nothing ! $ move ! (3 ∷ 0 ∷ []) $ join ! $ frame ! $ feq_i ! (List Val) us0 (vptr rb ro ∷ []) passed $ fjoin3 ! $ nothing ! $ nothing ! $ fjoin ! $ nothing ! $ fjoin ! $ move ! (1 ∷ 0 ∷ []) $ fjoin ! $ done !

  abbrev Had : List (Item 𝓤)
  Had = ‵ (fobs γ ((Rg E).coded.code d)) ∷ ‵ (fbor κ (Borrowed (mem (Rg E)) rb ro γ)) ∷ ‵ (flft κ q) ∷ ‵ (loose_owns (RT E) node.ptr node.val) ∷ []

  walk : us0 ≡ vptr rb ro ∷ [] → Asks E d at node → ent 𝓤 (⋆ 𝓛 Had) (WpFn 𝓤 H C Λ (function E) (vptr rb ro ∷ word at.ptr ∷ word node.ptr ∷ []) Post)
  walk passed asked =
      let s : Ptr = d.stop.at in
      let n : Node E = linked node.ptr node.val in
      let before : Ptr = last_from s (places d.nodes) in
      let out : Pl.Denot = record { ptr = node.ptr } in
      qed 𝓛 Had ∵ enter ! C Λ (function E) (vptr rb ro ∷ word at.ptr ∷ word node.ptr ∷ []) _ $ alloc_all ! (λ l. pass_all ! refl ((tt, tt), (word-Good [] at.ptr, (word-Good [] node.ptr, tt))) $
      let En : Env 𝓤 H = env (function E).locals l in
      opens ! tt (Rg E) {h = d} rb ro (λ vs. move ! (1 ∷ []) $ fsplit ! $ move ! (1 ∷ []) $ fsplit ! $ move ! (7 ∷ []) $ fsplit ! $ move ! (0 ∷ 2 ∷ []) $
      -- [room for the links; the path; the value; the values; the mark; its cell; ..]
      knows ! (IsFresh node.ptr (s ∷ turn s d.nodes)) (fresh 𝓛 𝓜 node.ptr s (places d.nodes) s) (λ free.
      let new : (Rg E).Denot = record { mark = d.mark; stop = d.stop; nodes = d.nodes ++ n ∷ []; apart = apart_linked (d.stop ∷ d.nodes) n (all_left (λ q. same_ptr node.ptr q ≡ false) (s ∷ places d.nodes) (s ∷ []) free) d.apart } in
      in_a_block ! node.ptr link_room (no_room 𝓛) (λ pb po ep. fsplit ! $ move ! (2 ∷ []) $
      use1 𝓛 (‵ (path s (places d.nodes)) ⊛ ‵ (path before (s ∷ []))) (path_cut 𝓛 s (places d.nodes) (s ∷ [])) $ split ! $ move ! (1 ∷ []) $ fsplit ! $
      in_a_block ! before (λ p. edge p s) (no_source 𝓛 s) (λ lb lo el. in_a_block ! s (edge (block_ptr lb lo)) (no_target 𝓛 (block_ptr lb lo)) (λ tb to et. edge_out ! lb lo tb to $
      -- [before.next; stop.prev; nothing; the path before; room for node.prev, and for node.next; the value; the values; the mark; its cell; ..]
      sets ! (is ! (of_opd ! (get_in ! (fld ! refl (stop !)) (sub ! 0 refl (whole !)))) (ap ptr_val (asked ∙ et))) refl (tt, tt) $ sets ! (is ! (of_opd ! (get_in ! (fld ! refl (stop !)) (sub ! 0 refl (whole !)))) (ap ptr_val ep)) refl (tt, tt) $ first ! $ blocks ! $
      assigns ! (of_opd ! (get ! refl)) (through ! refl (fld ! refl (stop !))) (init ! 5 refl (tt, tt)) $
      sets ! (of_opd ! (load ! (through ! refl (fld ! refl (stop !))) (look ! 1 refl))) refl (tt, tt) $
      assigns ! (of_opd ! (get ! refl)) (through ! refl (fld ! refl (stop !))) (init ! 4 refl (tt, tt)) $
      assigns ! (of_opd ! (get ! refl)) (through ! refl (fld ! refl (stop !))) (store ! 1 refl (tt, tt)) $
      assigns_last ! (of_opd ! (get ! refl)) (through ! refl (fld ! refl (hop ! (look ! 4 refl) (fld ! refl (stop !))))) (store ! 0 refl (tt, tt)) $
      exec ! C Λ En (after 3 (function E).body) (at_ret En Post) $ sets ! (of_opd ! (get ! refl)) refl (tt, tt) $ sets ! (agg ! (and_then ! (get ! refl) (no_more !))) refl (word-Good [] (block_ptr pb po)) $
      move ! (0 ∷ 4 ∷ []) $ edge_in ! lb lo pb po $ move ! (4 ∷ 1 ∷ []) $ edge_in ! pb po tb to $
      rewrite ! 0 (λ (p : Ptr × Ptr). ‵ (edge p.0 p.1)) (λ i. (sym ep i, sym et i)) refl $ rewrite ! 1 (λ (p : Ptr × Ptr). ‵ (edge p.0 p.1)) (λ i. (sym el i, sym ep i)) refl $
      move ! (0 ∷ 2 ∷ []) $ fjoin ! $ move ! (1 ∷ 0 ∷ []) $ fjoin ! $ move ! (1 ∷ 0 ∷ []) $
      use2 𝓛 (‵ (path s (places d.nodes ++ node.ptr ∷ s ∷ []))) (path_glue 𝓛 s (places d.nodes) (node.ptr ∷ s ∷ [])) $
      rewrite ! 0 (λ (ps : List Ptr). ‵ (path s ps)) (sym (turn_cut d.nodes n [] s)) refl $
      rewrite ! 2 (λ (ns : List (Node E)). ‵ (vals_own (RT E) (d.stop ∷ ns))) (sym (append-nil d.nodes)) refl $ move ! (1 ∷ 2 ∷ []) $
      use2 𝓛 (‵ (vals_own (RT E) (d.stop ∷ d.nodes ++ n ∷ []))) (vals_glue E 𝓛 (d.stop ∷ d.nodes) n []) $
      move ! (1 ∷ 0 ∷ []) $ fjoin ! $ move ! (1 ∷ 0 ∷ []) $ fjoin ! $ move ! (1 ∷ 0 ∷ []) $ closes ! tt (Rg E) new vs rb ro $
      returns ! (look_at ! 0 refl) $ free_all ! refl $ keep ! (0 ∷ 1 ∷ 2 ∷ []) $ word_made ! node.ptr $ move ! (1 ∷ 2 ∷ 3 ∷ 0 ∷ []) $
      by ! (subst (λ (p : Ptr). ent 𝓤 (⋆ 𝓛 (‵ (fobs γ ((Rg E).coded.code new)) ∷ ‵ (fbor κ (Borrowed (mem (Rg E)) rb ro γ)) ∷ ‵ (flft κ q) ∷ ‵ (Pl.own_val out (word node.ptr ∷ [])) ∷ [])) (Post (word p))) ep
      (exits passed out (word node.ptr) new refl (refl, refl)))))))))

  entry : Asks E d at node → ent 𝓤 (on_entry 𝓛 (ended E).signature (κ, tt) (q, tt) (self, (at, (node, tt))) (us0, (us1, (us2, tt)))) (WpFn 𝓤 H C Λ (function E) (us0 ++ (us1 ++ (us2 ++ []))) Post)
  entry asked =
      qed 𝓛 ((‵ (flft κ q) ⊛ ‵ ftrue) ∷ ‵ (owns (MutRef (named 0) κ (Rg E) ∷ Pl ∷ Hd E ∷ []) (self, (at, (node, tt))) (us0, (us1, (us2, tt)))) ∷ []) ∵
      split ! $ move ! (2 ∷ []) $ fsplit ! $ fsplit3 ! $ feq_l ! (λ e0. move ! (2 ∷ []) $ fsplit ! $ word_had ! at.ptr us1 (λ e1.
      fsplit ! $ fsplit ! $ word_had ! node.ptr us2 (λ e2.
      keep ! (2 ∷ 3 ∷ 4 ∷ 0 ∷ []) $
      by ! (subst (λ (ws : List Val × List Val × List Val). ent 𝓤 (⋆ 𝓛 Had) (WpFn 𝓤 H C Λ (function E) (ws.0 ++ (ws.1 ++ (ws.2 ++ []))) Post)) (λ j. (sym e0 j, sym e1 j, sym e2 j)) (walk e0 asked)))))

meets : (E : One) {M : Type 1} {𝓤 : Ura M} (𝓛 : Logic 𝓤) (𝓜 : Model 𝓤 𝓛.H) (𝓣 : Tables 𝓤 𝓛.H)
    → Meets 𝓛 (ended E).signature (WpFn 𝓤 𝓛.H 𝓣.C 𝓣.Λ (function E)) (closing 𝓛 (ended E) (spec E 𝓛))
meets E {𝓤 = 𝓤} 𝓛 𝓜 𝓣 =
    walk_Meets 𝓛 (ended E) (stayed E) (Goes-ref 𝓛 1 0 tt (plain (λ _. Rg E)), (Goes-dropped 𝓛 1 (plain (λ _. Pl)) no (λ κs x f. refl), (Goes-blank 𝓛 1 (plain (λ _. Hd E)) no (λ κs x f. tt), tt))) (spec E 𝓛) (WpFn 𝓤 𝓛.H 𝓣.C 𝓣.Λ (function E)) (WpFn-mono 𝓤 𝓛.H 𝓛.laws 𝓣 (function E))
    (λ z. needs 𝓤 (Asks E z.0.3.0.now z.0.3.1.0 z.0.3.1.1.0) _ (entry E 𝓛 𝓜 𝓣.C 𝓣.Λ z.0.0.0 z.0.1.0 z.0.3.0.ref_ptr.0 z.0.3.0.ref_ptr.1 z.0.3.0.ghost_name z.0.3.0.now z.0.3.1.0 z.0.3.1.1.0 z.0.4.0 z.0.4.1.0 z.0.4.1.1.0))

pub link_spec : {M : Type 1} → stated.statement M
unfolding tables_of
link_spec 𝓤 𝓛 𝓜 𝓡 wired X LX y =
    let E : One = record { row = X; laws = LX } in
    let 𝓣 : Tables 𝓤 𝓛.H = tables_of 𝓤 𝓛.H 𝓜 (tables 𝓤 𝓛.H 𝓜 𝓡 𝓡.env) in
    let k = #self (args E) in
    spared 𝓛 (ended E).signature (𝓡.run (𝓡.env k)) (run_framed 𝓤 𝓛.H 𝓜 𝓡 (𝓡.env k)) 1 (X.lives, tt) (closing 𝓛 (ended E) (spec E 𝓛))
    (entered 𝓤 𝓛.H (triple_of 𝓛 (ended E).signature (closing 𝓛 (ended E) (spec E 𝓛))) 𝓣.C 𝓣.Λ k (function E) (code.unfolded 𝓤 𝓛.H 𝓜 𝓡 wired (X, tt)) (meets E 𝓛 𝓜 𝓣))
    ((y.0.0, y.0.1, tt, y.0.3, y.0.4), y.1)
