-- At which addresses of its block a node's links for queues lie.
use Rattle.std.specs.Prelude.{◌≡◌}
use denote.RawPtr.{Ptr}
use Rattle.wait_list.specs.declared.node.Membership.{Membership}
use Rattle.wait_list.specs.declared.node.Membership.TheVariants.{In, Idle}
use Rattle.wait_list.specs.Block.{a_of, b_of, c_of, d_of}

abbrev pub place_of : Membership → Ptr
place_of (In q p) = p.ptr
place_of (Idle r) = r.ptr

abbrev pub ArePlaced : Ptr → Membership → Membership → Membership → Membership → Type 0
ArePlaced at a b c d = (place_of a ≡ a_of at) × (place_of b ≡ b_of at) × (place_of c ≡ c_of at) × (place_of d ≡ d_of at)
