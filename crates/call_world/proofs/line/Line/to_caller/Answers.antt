use Rattle.std.proofs.Common.{◌≡◌, ◌≤◌, ◌<◌, ℕ, Bool, true, false, List, length, refl, subst, rules, arith}
use Rattle.world_laws.specs.Ends.{CallerEnd}
use Rattle.world_laws.specs.Calling.{HearsOctets}
use Rattle.world_server.specs.Servers.{seen}
use Rattle.world_ends.specs.Callers.{IsCaller}
use Rattle.call_world.proofs.Lines.{hears_front, breaks_front, not_so_many_down, none_move, too_few}
use Rattle.call_world.proofs.line.Line.to_caller.Goals as goal

pub returns-then-count-eq0 : goal.returns-then-count-eq0
returns-then-count-eq0 c = not_so_many_down c.args.self.now c.args.count (none_move c.args.count c.args.self.now.serving.down.items c.if-count-eq0.true)

pub returns-then-count-len : goal.returns-then-count-len
returns-then-count-len c =
    let n : c.len.result ≡ length c.args.self.now.serving.down.items = search rules in
    let few : length c.args.self.now.serving.down.items < c.args.count = omega (arith, n, c.if-count-len.true) in
    not_so_many_down c.args.self.now c.args.count (too_few c.args.count c.args.self.now.serving.down.items few)

pub returns-then-not-broken : goal.returns-then-not-broken
returns-then-not-broken c =
    let s = c.args.self.now in
    let n : c.len.result ≡ length s.serving.down.items = search rules in
    let enough : c.args.count ≤ length s.serving.down.items = omega (arith, n, c.if-count-len.false) in
    hears_front (seen c.args.server.now) (seen c.args.server.now) s _ c.args.count c.if-count-eq0.false enough c.requires
    (λ e is. subst (λ (octets : List ℕ). (d : CallerEnd) × HearsOctets e octets d false × IsCaller c.hear.new.self d) c.front_of.ensures (subst (λ (b : Bool). (d : CallerEnd) × HearsOctets e c.front_of.result.now d b × IsCaller c.hear.new.self d) c.if-not-broken.true (c.in_ok-broken.ensures e is))) refl c.drop_front.ensures refl

pub returns : goal.returns
returns c =
    let s = c.args.self.now in
    let n : c.len.result ≡ length s.serving.down.items = search rules in
    let enough : c.args.count ≤ length s.serving.down.items = omega (arith, n, c.if-count-len.false) in
    breaks_front (seen c.args.server.now) (seen c.lose.new.server) s c.lose.new.self c.args.count c.if-count-eq0.false enough _
    (λ e is. subst (λ (octets : List ℕ). (d : CallerEnd) × HearsOctets e octets d true × IsCaller c.hear.new.self d) c.front_of.ensures (subst (λ (b : Bool). (d : CallerEnd) × HearsOctets e c.front_of.result.now d b × IsCaller c.hear.new.self d) c.if-not-broken.false (c.in_ok-broken.ensures e is))) refl c.drop_front.ensures refl c.in_ok-lose.ensures
