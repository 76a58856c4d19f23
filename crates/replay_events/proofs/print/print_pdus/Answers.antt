use Rattle.std.proofs.Common.{rules, ◌≡◌, ◌+◌, ◌^◌, ◌<◌, ◌++◌, List, ℕ, length, take, drop, refl, sym, ap, ◌∙◌, arith}
use Rattle.std.proofs.lemmas.List.{length-append, length-take, length-drop, take-append-drop}
use Rattle.std.proofs.lemmas.Bool.Decides.{nat_tests}
use Rattle.hex.specs.Hex.{IsBytes}
use Rattle.server_counts.proofs.Heads.{first_within}
use Rattle.replay_events.proofs.Printing.{starts, begins, prints_on, printed}
use Rattle.replay_events.proofs.print.print_pdus.Goals as goal

pub loop-left-init : goal.loop-left-init
loop-left-init c = starts c.args.name c.args.octets.now c.args.out.now.items c.requires

pub first_size-requires : goal.first_size-requires
first_size-requires c = begins c.loop-left.left.now (grind (arith, nat_tests)) c.loop-left.invariant.rest

pub loop-left-smaller : goal.loop-left-smaller
loop-left-smaller c =
    let within = first_within c.loop-left.left.now c.first_size.result c.first_size.ensures in
    omega (arith, within.0, within.1, ap length c.split_at.ensures.back, length-drop c.first_size.result c.loop-left.left.now)

pub loop-left-preserved : goal.loop-left-preserved
loop-left-preserved c =
    let left = c.loop-left.left.now in
    let size = c.first_size.result in
    let within = first_within left size c.first_size.ensures in
    let front = c.split_at.ensures.front in
    let back = c.split_at.ensures.back in
    prints_on c.args.name c.args.octets.now left c.args.out.now.items c.loop-left.out.items c.print_line.new.out.items c.split_at.result.0.now c.split_at.result.1.now c.loop-left.count size
    (omega (arith, within.0, within.1)) c.loop-left.invariant c.first_size.ensures (sym (take-append-drop size left) ∙ (λ i. sym front i ++ sym back i))
    (omega (arith, ap length front, length-take size left, within.1)) c.in_ok-print_line.ensures

pub returns : goal.returns
returns c =
    let bytes : IsBytes c.args.octets.now = search rules in
    let small : c.args.name < 2 ^ 32 = search rules in
    let low : c.args.name < 2 ^ 64 = omega (arith, small) in
    printed c.args.name c.args.octets.now c.loop-left.left.now c.args.out.now.items c.loop-left.out.items c.loop-left.count low bytes (grind (arith, nat_tests)) c.loop-left.invariant
