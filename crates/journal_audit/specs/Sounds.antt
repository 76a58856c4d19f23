-- The tests of a base's own line, and its taken calls.
use Rattle.std.specs.Prelude.{Bool, ◌&&◌, List}
use Rattle.std.specs.List.{filter}
use Rattle.handle_model.specs.declared.base.BaseCall.{BaseCall}
use Rattle.handle_model.specs.declared.base.Base.{Base}
use Rattle.handle_model.specs.Bases.{serials_of}
use Rattle.handle_model.specs.Sound.{rise_above, rise, at_most}

-- those that were taken
abbrev pub taken_of : List BaseCall → List BaseCall
taken_of cs = filter (λ (c : BaseCall). c.taken) cs

-- what is asked of a base's own line
abbrev pub is_head : Base → Bool
is_head base =
    rise base.conns && at_most base.joins base.conns && rise_above 0 (serials_of base.handles) && at_most base.opens (serials_of base.handles)
