-- How a node's block is laid out, and which part owns what of it.
use Rattle.std.specs.Prelude.{◌≡◌, []}
use base.Fml.{Fml, fsep, fwand}
use mir.Syntax.{Ty, ty_int, ty_ptr, ty_struct, ty_enum, tcons, tnil, ttcons, ttnil, w32}
use prog.Memory.{align, up}
use denote.RawPtr.{Ptr, room_for, ◌+ₚ◌}
use Rattle.lru.specs.Ownership.{link_room}

-- LAYOUT

abbrev pub word_ty : Ty
word_ty = ty_struct [] (tcons ty_ptr tnil)

abbrev pub option_ty : Ty → Ty
option_ty τ = ty_enum [] (ttcons tnil (ttcons (tcons τ tnil) ttnil))

abbrev pub link_ty : Ty → Ty
link_ty τ = ty_struct [] (tcons ty_ptr (tcons ty_ptr (tcons τ tnil)))

abbrev pub side_ty : Ty
side_ty = option_ty (ty_struct [] (tcons word_ty tnil))

abbrev pub membership_ty : Ty
membership_ty = ty_enum [] (ttcons (tcons (ty_int w32) (tcons word_ty tnil)) (ttcons (tcons word_ty tnil) ttnil))

abbrev pub title_ty : Ty
title_ty = ty_struct [] (tcons (ty_struct [] tnil) tnil)

abbrev pub head_ty : Ty
head_ty = option_ty (ty_struct [] (tcons (ty_int w32) (tcons membership_ty (tcons membership_ty (tcons membership_ty (tcons membership_ty (tcons title_ty tnil)))))))

abbrev pub block_ty : Ty
block_ty = ty_struct [] (tcons (link_ty head_ty) (tcons (link_ty side_ty) (tcons (link_ty side_ty) (tcons (link_ty side_ty) (tcons (link_ty side_ty) tnil)))))

-- ADDRESSES

abbrev pub a_of : Ptr → Ptr
a_of p = p +ₚ 96

abbrev pub b_of : Ptr → Ptr
b_of p = p +ₚ 128

abbrev pub c_of : Ptr → Ptr
c_of p = p +ₚ 160

abbrev pub d_of : Ptr → Ptr
d_of p = p +ₚ 192

abbrev pub link_at : Ty → Ptr → Fml
link_at τ p = fsep (link_room p) (room_for τ (p +ₚ up (align τ) 16))

-- memory for the five links
abbrev pub parts : Ptr → Fml
parts p = fsep (link_at head_ty p) (fsep (link_at side_ty (a_of p)) (fsep (link_at side_ty (b_of p)) (fsep (link_at side_ty (c_of p)) (link_at side_ty (d_of p)))))

-- the allocator's token for the block, and that memory for the five links is memory for the block
abbrev pub title_owns : (Ty → Ptr → Fml) → Ptr → Fml
title_owns token p = fsep (token block_ty p) (fwand (parts p) (room_for block_ty p))

-- the link for the list lies at the block's beginning, and the others each at its own address
abbrev pub IsWhole : Ptr → Ptr → Ptr → Ptr → Ptr → Ptr → Ptr → Type 0
IsWhole at title head a b c d = (title ≡ at) × (head ≡ at) × (a ≡ a_of at) × (b ≡ b_of at) × (c ≡ c_of at) × (d ≡ d_of at)
