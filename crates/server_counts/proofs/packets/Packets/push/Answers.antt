use Rattle.std.proofs.Common.{◌≡◌, ◌+◌, ◌++◌, List, ℕ, length, take, drop, refl, sym, ap, subst, ◌∙◌, arith}
use Rattle.std.proofs.Math.Seq.{take-add}
use Rattle.std.proofs.lemmas.List.{take_all, length-drop}
use Rattle.server_counts.specs.declared.place.NewPackets.{NewPackets}
use Rattle.server_counts.specs.Packets.{Comes}
use Rattle.server_counts.proofs.Steps.{comes_on}
use Rattle.server_counts.proofs.packets.Packets.push.Goals as goal

pub loop-start-preserved : goal.loop-start-preserved
loop-start-preserved c =
    let inv = c.loop-start.invariant in
    let step = c.step-size.ensures in
    let piece = c.args.piece.now in
    let start = c.loop-start.start in
    let size = c.step-size.result.0 in
    let new = c.step-size.result.1 in
    let left : c.split_at.result.1.now ≡ drop start piece = c.split_at.ensures.back in
    let all : NewPackets = record { packets = c.loop-start.all.packets + new.packets; calls = c.loop-start.all.calls + new.calls } in
    let then_ : Comes c.loop-start.self (take size (drop start piece)) new c.step-size.new.self = subst (λ (t : List ℕ). Comes c.loop-start.self (take size t) new c.step-size.new.self) left step.comes in
    record {
      within = omega (arith, step.size.1, ap length left, length-drop start piece);
      few_packets = omega (arith, inv.few_packets, step.few.0, step.size.0);
      few_calls = omega (arith, inv.few_calls, step.few.1, step.size.0);
      comes = subst (λ (t : List ℕ). Comes c.args.self.now t all c.step-size.new.self) (sym (take-add start size piece))
          (comes_on c.args.self.now c.loop-start.self c.step-size.new.self (take start piece) (take size (drop start piece)) c.loop-start.all new all refl refl inv.comes then_);
    }

pub returns : goal.returns
returns c =
    subst (λ (t : List ℕ). Comes c.args.self.now t c.loop-start.all c.loop-start.self) (take_all c.loop-start.start c.args.piece.now (omega arith)) c.loop-start.invariant.comes
