use Rattle.std.proofs.Common.{◌≡◌, ◌<◌, List, ℕ, length, take, refl, sym, ap, subst, ◌∙◌, arith}
use Rattle.std.proofs.lemmas.List.{take_all, length-take}
use Rattle.server_counts.specs.declared.place.Place.{Place}
use Rattle.server_counts.specs.declared.place.NewPackets.{NewPackets}
use Rattle.server_counts.specs.Packets.{PacketsView, IsOpen, Comes}
use Rattle.server_counts.proofs.Heads.{take_one}
use Rattle.server_counts.proofs.Steps.{body_in, stopped_in}
use Rattle.server_counts.proofs.packets.Packets.step.Goals as goal

pub returns-in-Head-clause-comes : goal.returns-in-Head-clause-comes
returns-in-Head-clause-comes c =
    subst (λ (t : List ℕ). Comes c.args.self.now t c.head_octet.result c.head_octet.new.self) (sym (take_one c.args.piece.now c.requires)) c.head_octet.ensures.comes

pub returns-in-Body-clause-size : goal.returns-in-Body-clause-size
returns-in-Body-clause-size c =
    let some : 0 < c.in-Body.missing = subst IsOpen c.in-Body.is c.self.invariant.1 in
    (omega (arith, some, c.min-size.ensures, c.requires), omega (arith, c.min-size.ensures))

pub returns-in-Body-clause-comes : goal.returns-in-Body-clause-comes
returns-in-Body-clause-comes c =
    let size = c.min-size.result in
    let piece = c.args.piece.now in
    let y : PacketsView = record { held = take c.self.inside.count c.self.inside.head; place = c.entered-place.result.0 } in
    body_in c.args.self.now y (take size piece) c.in-Body.call c.in-Body.missing size c.entered-place.result.1 (ap (λ (v : PacketsView). v.place) (sym c.self.view_is) ∙ c.in-Body.is)
    (ap (λ (v : PacketsView). v.held) c.self.view_is) (omega (arith, length-take size piece, c.min-size.ensures)) (omega (arith, c.min-size.ensures)) c.entered-place.ensures.enters

pub returns-in-Stopped-clause-comes : goal.returns-in-Stopped-clause-comes
returns-in-Stopped-clause-comes c =
    let none : NewPackets = record { packets = 0; calls = 0 } in
    subst (λ (t : List ℕ). Comes c.args.self.now t none c.args.self.now) (sym (take_all (length c.args.piece.now) c.args.piece.now (omega arith)))
    (stopped_in c.args.self.now c.args.piece.now none (ap (λ (v : PacketsView). v.place) (sym c.self.view_is) ∙ c.in-Stopped.is) refl refl)
