-- A ring may cross threads as what its links carry may.
use Rattle.std.specs.Prelude.{List, [], ◌∷◌}
use base.Shift.{Keyless}
use denote.RattleType.{RattleType}
use mir.Syntax.{Ty}
use denote.RawPtr.{Ptr, block_ptr, null_ptr, room_for}
use denote.Builtin.{RawPtr}
use denote.Struct.Struct.{exits_of}
use denote.Struct.Owning.{shape, fields, to}
use denote.Param.Send.{IsSend, IsSync, Common, AllSend, owning_send, struct_send, struct_sync, sendable}
use Rattle.std_alloc.proofs.SendSync.{FreesAnywhere, quiet, lies, seen}
use Rattle.lru.specs.Ownership.{path, path_lent}
use Rattle.wait_list.specs.Linked.{Linked}
use Rattle.wait_list.specs.Ownership.{vals_own, vals_lent}
use Rattle.wait_list.specs.Block.{link_at, head_ty, side_ty, a_of, b_of, c_of, d_of}
use Rattle.core.specs.declared.alloc.Allocator.{Ghosts}
use Rattle.wait_list.specs.contracts.link.LinkRoom as Empty
use Rattle.wait_list.specs.contracts.node.BlockTitle as Right
use Rattle.wait_list.specs.contracts.ring.Ring as Links

pointer_send : IsSend RawPtr
pointer_send = search sendable

pointer_sync : IsSync RawPtr
pointer_sync = search sendable

path-Keyless : (a : Ptr) (ps : List Ptr) → Keyless (path a ps)
path-Keyless a [] = tt
path-Keyless a (p ∷ ps) = ((lies RawPtr pointer_send _ p, lies RawPtr pointer_send _ a), path-Keyless p ps)

path_lent-Common : (a : Ptr) (ps : List Ptr) → Common (path_lent a ps)
path_lent-Common a [] κ = tt
path_lent-Common a (p ∷ ps) κ = ((seen RawPtr pointer_sync _ p κ, seen RawPtr pointer_sync _ a κ), path_lent-Common p ps κ)

room : (τ : Ty) (p : Ptr) → Keyless (room_for τ p)
room τ (block_ptr b o) = tt
room τ null_ptr = tt

module _ (T : RattleType) where
  pub LinkRoom-send : IsSend (Empty.the_row T)
  LinkRoom-send =
      let O = Empty.the_type T in let all : AllSend (fields O) = (pointer_send, tt) in
      owning_send O all (λ d. ((room _ _, room _ _), room _ _)) (λ k. quiet (to O) (exits_of k (fields O)) ((struct_send (shape O) all).leaving k))

  vals-Keyless : IsSend T → (ns : List (Linked T.Denot)) → Keyless (vals_own T ns)
  vals-Keyless s [] = tt
  vals-Keyless s (n ∷ ns) = (lies T s _ n.val, vals-Keyless s ns)

  vals_lent-Common : IsSync T → (ns : List (Linked T.Denot)) → Common (vals_lent T ns)
  vals_lent-Common y [] κ = tt
  vals_lent-Common y (n ∷ ns) κ = (seen T y _ n.val κ, vals_lent-Common y ns κ)

  pub Ring-send : IsSend T → IsSend (Links.the_row T)
  Ring-send s =
      let O = Links.the_type T in let all : AllSend (fields O) = (search sendable, tt) in
      owning_send O all (λ d. (path-Keyless d.stop.at _, vals-Keyless s (d.stop ∷ d.nodes)))
      (λ k. quiet (to O) (exits_of k (fields O)) ((struct_send (shape O) all).leaving k))

  pub Ring-sync : IsSync T → IsSync (Links.the_row T)
  Ring-sync y = let O = Links.the_type T in record {
    shared = λ d b o κ. ((struct_sync (shape O) (search sendable, tt)).shared (to O d) b o κ, (path_lent-Common d.stop.at _ κ, vals_lent-Common y (d.stop ∷ d.nodes) κ));
  }

module _ (A : RattleType) (g : Ghosts A.Denot) where
  pub BlockTitle-send : FreesAnywhere A.Denot g → IsSend (Right.the_row A g)
  BlockTitle-send f =
      let O = Right.the_type A g in let all : AllSend (fields O) = (search sendable, tt) in
      let one : (p : Ptr) (τ : Ty) → Keyless (link_at τ p) = λ p τ. ((room _ _, room _ _), room _ _) in
      owning_send O all (λ d. let p = d.at in (f.frees d.alloc _ p, ((one p head_ty, (one (a_of p) side_ty, (one (b_of p) side_ty, (one (c_of p) side_ty, one (d_of p) side_ty)))), room _ p)))
      (λ k. quiet (to O) (exits_of k (fields O)) ((struct_send (shape O) all).leaving k))
