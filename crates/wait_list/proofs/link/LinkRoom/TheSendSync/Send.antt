use denote.RattleType.{RattleType}
use denote.Param.Send.{IsSend}
use Rattle.wait_list.proofs.Crosses.{LinkRoom-send}
use Rattle.wait_list.specs.contracts.link.LinkRoom.{the_row}

pub send : (T : RattleType) → IsSend T → IsSend (the_row T)
send T s = LinkRoom-send T
