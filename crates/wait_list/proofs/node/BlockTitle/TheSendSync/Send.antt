use denote.RattleType.{RattleType}
use denote.Param.Send.{IsSend, Frees}
use Rattle.core.specs.declared.alloc.Allocator.{Ghosts}
use Rattle.wait_list.proofs.Crosses.{BlockTitle-send}
use Rattle.wait_list.specs.contracts.node.BlockTitle.{the_row}

pub send : (A : RattleType) (g : Ghosts A.Denot) → IsSend A → Frees g g.dealloc_token → IsSend (the_row A g)
send A g s = BlockTitle-send A g
