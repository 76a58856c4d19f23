use denote.Param.Send.{param_send}
use Rattle.std.proofs.Common.{◌≡◌, ℕ, ◌-◌, ◌≤◌, List, length, sym, ap, ◌∙◌, subst}
use Rattle.handle_model.specs.declared.entry.Slot.{Slot}
use Rattle.handle_model.specs.Rules.{filled}
use Rattle.hub_story.specs.Passes.{Knows}
use Rattle.group_hub.specs.Passes.{at_shard}
use Rattle.group_hub.specs.Shards.{shard_of}
use Rattle.manager_api.specs.Served.{tables_in}
use Rattle.server_steps.proofs.Cookies.{suit_length}
use Rattle.server_steps.specs.Deeds.{Quiet}
use Rattle.server_steps.proofs.Dealing.{quiet_then}
use Rattle.server_run.proofs.Having.{line_ends, gone_ends}
use Rattle.server_run.proofs.Serving.{filled_length, given_so, running_so, row_so, same_then}
use Rattle.server_run.proofs.running.run_call.Goals as goal

pub first_cookies-cookies-requires : goal.first_cookies-cookies-requires
first_cookies-cookies-requires g c =
    let t = c.args.taken in
    let slots : c.number_slots.new.slots ≡ filled (t.serial - 1) t.asked.slots = c.number_slots.ensures ∙ ap (λ (n : ℕ). filled n t.asked.slots) c.saturating_sub.ensures in
    let many : c.len.result ≡ length t.asked.slots = c.len.ensures ∙ (ap (λ (l : List Slot). length l) slots ∙ filled_length (t.serial - 1) t.asked.slots) in
    subst (λ (n : ℕ). n ≤ 4) (sym many) c.requires.taken.taken.opened.few

pub split_pass-pass-requires : goal.split_pass-pass-requires
split_pass-pass-requires g c =
    let a = c.args.taken.asked in
    let serial = c.args.taken.serial in
    let t = c.requires.taken.taken in
    let slots : c.number_slots.new.slots ≡ filled (serial - 1) a.slots = c.number_slots.ensures ∙ ap (λ (n : ℕ). filled n a.slots) c.saturating_sub.ensures in
    let cookies = c.first_cookies-cookies.ensures t.cookies t.row_is (suit_length (filled (serial - 1) a.slots) t.cookies t.suits ∙ (ap (λ (l : List Slot). length l) (sym slots) ∙ sym c.len.ensures)) in (
      param_send 0 _ c.type_bounds.send-K,
      (
        param_send 2 _ c.type_bounds.send-M-Pass,
        running_so g.K.Link.shows (g.M.Manager.may c.args.server.manager.now) (g.M.Manager.tables c.args.server.manager.now) c.args.server.hub.now c.args.line c.args.taken.call a (record a { slots = c.number_slots.new.slots }) c.args.taken.row c.first_cookies-cookies.result.now serial t
            (ap (λ (ss : List Slot). record a { slots = ss }) slots) cookies,
      ),
    )

pub run_beside-requires-clause-ready : goal.run_beside-requires-clause-ready
run_beside-requires-clause-ready g c = λ κs within.
    let a = c.args.taken.asked in
    let serial = c.args.taken.serial in
    let t = c.requires.taken.taken in
    let slots : c.number_slots.new.slots ≡ filled (serial - 1) a.slots = c.number_slots.ensures ∙ ap (λ (n : ℕ). filled n a.slots) c.saturating_sub.ensures in
    let cookies = c.first_cookies-cookies.ensures t.cookies t.row_is (suit_length (filled (serial - 1) a.slots) t.cookies t.suits ∙ (ap (λ (l : List Slot). length l) (sym slots) ∙ sym c.len.ensures)) in
    let same = ap (λ (ss : List Slot). record a { slots = ss }) slots in
    let s = c.split_pass-pass.ensures in
    record {
      running = s.running;
      row = row_so g.K.Link.shows (g.M.Manager.may c.args.server.manager.now) (g.M.Manager.tables c.args.server.manager.now) c.args.server.hub.now c.args.line c.args.taken.call a (record a { slots = c.number_slots.new.slots }) c.args.taken.row c.first_cookies-cookies.result.now serial t same cookies;
      ready = record {
        served = c.requires.taken.served;
        asks = record { pass = s.pass; none = s.none; known = subst (λ (g : ℕ). Knows (at_shard c.split_pass-pass.result (shard_of g)) g c.args.taken.call) (sym s.group) s.known };
        given = given_so g.K.Link.shows (g.M.Manager.may c.args.server.manager.now) (g.M.Manager.tables c.args.server.manager.now) c.args.server.hub.now (tables_in c.args.server.served.now) c.args.line c.args.taken.call a (record a { slots = c.number_slots.new.slots }) c.args.taken.row serial
            c.args.taken.message c.args.taken.again c.requires.taken.served same t c.requires.taken.message c.requires.taken.again;
      };
    }

pub finish_departed-finished-requires-clause-departed : goal.finish_departed-finished-requires-clause-departed
finish_departed-finished-requires-clause-departed g c = λ κs within. (c.split_pass-pass.new.self, c.in-Left.ensures.runs.0)

pub returns-in-On-clause-on : goal.returns-in-On-clause-on
returns-in-On-clause-on g c =
    let l = c.args.line in
    let x = c.split_pass-pass.new.self in
    let s = c.split_pass-pass.ensures in
    let o = c.in-On.ensures in
    line_ends g.M.Manager.tables g.M.Manager.enters g.M.Manager.runs_down g.M.Manager.splits g.M.Manager.joins c.args.server.manager.now c.args.server.hub.now.boot l c.in-On.line c.end-desks.new.self c.args.desks c.split-other.new.pass c.split-other.result c.end-desks.result.0
    _ _ c.in-On.worked x.group (same_then l x c.in-On.line s.same o.runs.0) (o.runs.1 ∙ s.group) c.end-desks.ensures.same c.end-desks.ensures.group (sym o.runs.1)
    (quiet_then l.group l.pass x.pass c.in-On.line.pass s.quiet (subst (λ (n : ℕ). Quiet n x.pass c.in-On.line.pass) s.group o.quiet.0)) c.split-other.ensures.splits o.quiet.1.1 c.end-desks.ensures.carries

pub returns-clause-on : goal.returns-clause-on
returns-clause-on g c =
    let l = c.args.line in
    let x = c.split_pass-pass.new.self in
    let s = c.split_pass-pass.ensures in
    let o = c.in-Left.ensures in
    let d = c.in-Left.departed in
    gone_ends g.M.Manager.tables g.M.Manager.enters g.M.Manager.runs_down g.M.Manager.splits g.M.Manager.joins c.args.server.manager.now c.args.server.hub.now.boot l d.gone c.args.desks c.split-other.new.pass c.split-other.result c.finish_departed-finished.result.1
    _ _ c.in-Left.worked x.group c.finish_departed-finished.result.0 (o.runs.0.group ∙ s.group) (o.runs.0.began ∙ s.same.0) s.group
    (quiet_then l.group l.pass x.pass d.gone.pass s.quiet (subst (λ (n : ℕ). Quiet n x.pass d.gone.pass) s.group o.quiet.0)) c.split-other.ensures.splits o.quiet.1.1 c.finish_departed-finished.ensures.on
