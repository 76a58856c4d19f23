-- What memory a ring, a link and room for a link own and lend. The values that are carried are of the row T.
use Rattle.std.specs.Prelude.{ℕ, List, [], ◌∷◌}
use base.Fraction.{full_share}
use base.Fml.{Lft, Fml, ftrue, fsep}
use mir.Raw.{raw}
use prog.Memory.{align, up}
use denote.RattleType.{RattleType}
use denote.Memory.{lone}
use denote.Sharing.{nothing, beside}
use denote.RawPtr.{Ptr, lies_at, room_for, ◌+ₚ◌}
use denote.Struct.Lending.{lent_at}
use Rattle.lru.specs.Ownership.{link_room, path, path_lent}
use Rattle.wait_list.specs.Linked.{Linked, turn}

module _ (T : RattleType) where
  abbrev pub val_offset : ℕ
  val_offset = up (align (lone T.mir)) 16

  abbrev pub val_of : Ptr → Ptr
  val_of p = p +ₚ val_offset

  abbrev pub val_room : Ptr → Fml
  val_room p = room_for (raw (lone T.mir)) (val_of p)

  -- the words of a link, and memory for what it carries
  abbrev pub room_owns : Ptr → Fml
  room_owns p = fsep (link_room p) (val_room p)

  -- the words of a link, and what it carries
  abbrev pub loose_owns : Ptr → T.Denot → Fml
  loose_owns p v = fsep (link_room p) (lies_at T full_share (val_of p) v)

  abbrev pub vals_own : List (Linked T.Denot) → Fml
  vals_own [] = ftrue
  vals_own (n ∷ ns) = fsep (lies_at T full_share (val_of n.at) n.val) (vals_own ns)

  abbrev pub ring_owns : Linked T.Denot → List (Linked T.Denot) → Fml
  ring_owns s ns = fsep (path s.at (turn s.at ns)) (vals_own (s ∷ ns))

  abbrev pub vals_lent : List (Linked T.Denot) → Lft → Fml
  vals_lent [] = nothing
  vals_lent (n ∷ ns) = beside (lent_at T (val_of n.at) n.val) (vals_lent ns)

  abbrev pub ring_lent : Linked T.Denot → List (Linked T.Denot) → Lft → Fml
  ring_lent s ns = beside (path_lent s.at (turn s.at ns)) (vals_lent (s ∷ ns))
