use Rattle.std.proofs.Common.{◌≡◌, ◌+◌, ◌∷◌, [], ◌++◌, List, ℕ, length, take, set, refl, sym, ap, ◌∙◌, arith}
use Rattle.std.proofs.lemmas.List.{take_more_set, take_all, length-take, length-set}
use Rattle.server_counts.specs.Packets.{PacketsView}
use Rattle.server_counts.proofs.Steps.{octet_in, header_in}
use Rattle.server_counts.proofs.packets.Packets.head_octet.Goals as goal

pub returns-then-self-lt-HEADER_SIZE-clause-comes :
    goal.returns-then-self-lt-HEADER_SIZE-clause-comes
returns-then-self-lt-HEADER_SIZE-clause-comes c =
    let head = c.self.inside.head in
    let count = c.self.inside.count in
    let octet = c.args.octet in
    let held : take (count + 1) (set head count octet) ≡ c.args.self.now.held ++ octet ∷ [] =
    take_more_set head count octet (omega arith) ∙ ap (λ (v : PacketsView). v.held ++ octet ∷ []) c.self.view_is in
    let y : PacketsView = record { held = take (count + 1) (set head count octet); place = c.self.inside.place } in
    octet_in c.args.self.now y octet (record { packets = 0; calls = 0 }) c.requires (ap (λ (v : PacketsView). v.place) c.self.view_is ∙ c.requires) held
    (omega (arith, length-take (count + 1) (set head count octet))) refl refl

pub returns-clause-comes : goal.returns-clause-comes
returns-clause-comes c =
    let head = c.self.inside.head in
    let count = c.self.inside.count in
    let octet = c.args.octet in
    let held : set head count octet ≡ c.args.self.now.held ++ octet ∷ [] =
    sym (take_all (count + 1) (set head count octet) (omega (arith, length-set head count octet)))
    ∙ take_more_set head count octet (omega arith) ∙ ap (λ (v : PacketsView). v.held ++ octet ∷ []) c.self.view_is in
    let y : PacketsView = record { held = []; place = c.behind-place.result.0 } in
    header_in c.args.self.now y (set head count octet) octet c.behind-place.result.1 c.requires refl held c.behind-place.ensures.behind
