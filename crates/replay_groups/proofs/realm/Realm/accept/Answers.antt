use Rattle.std.proofs.Common.{◌≡◌, true, Ok, Err, Result, ℕ, refl, sym, ap, subst, ◌∙◌}
use Rattle.handle_model.specs.declared.entry.Asked.{Asked}
use Rattle.handle_model.specs.Journal.{is_open, slots}
use Rattle.replay_world.specs.Worlds.{journal}
use Rattle.group_core.specs.Calls.{Accepts}
use Rattle.replay_groups.specs.Keeps.{Answers, whole_of, past_at}
use Rattle.replay_groups.proofs.BindLaws.{kept}
use Rattle.replay_groups.proofs.Requesting.{has_now, waits_now, accepted, limited_as}
use Rattle.replay_groups.proofs.realm.Realm.accept.Goals as goal

pub goes_on-requires : goal.goes_on-requires
goes_on-requires c = kept c.args.self.now (λ w. is_open (journal w c.args.member.group) c.args.member.number ≡ true) c.requires.is_open

pub numbered-requires-clause-there : goal.numbered-requires-clause-there
numbered-requires-clause-there c =
    let old = c.args.self.now in
    let g = c.args.member.group in
    has_now old (λ w. is_open (journal w g) c.args.member.number ≡ true) c.accept.new.self g c.in-Ok.call c.asked_as-asked.result c.requires.is_open (c.goes_on.ensures.known c.if-not-goes_on.false).0
    (subst (λ r. Answers old.groups g (λ j l. Accepts j c.asked_as-asked.result r l) c.accept.new.self) c.in-Ok.is c.accept.ensures)

pub numbered-requires-clause-waits : goal.numbered-requires-clause-waits
numbered-requires-clause-waits c =
    let old = c.args.self.now in
    let g = c.args.member.group in
    waits_now old (λ w. is_open (journal w g) c.args.member.number ≡ true) c.accept.new.self g c.in-Ok.call c.asked_as-asked.result c.requires.is_open (c.goes_on.ensures.known c.if-not-goes_on.false).0
    (subst (λ r. Answers old.groups g (λ j l. Accepts j c.asked_as-asked.result r l) c.accept.new.self) c.in-Ok.is c.accept.ensures)

pub returns-in_ok-asked-in-Ok : goal.returns-in_ok-asked-in-Ok
returns-in_ok-asked-in-Ok c =
    let old = c.args.self.now in
    let g = c.args.member.group in
    let k = c.in-Ok.call in
    let new = record old { groups = c.accept.new.self } in
    let answers = subst (λ r. Answers old.groups g (λ j l. Accepts j c.asked_as-asked.result r l) new.groups) c.in-Ok.is c.accept.ensures in
    accepted old new c.args.member c.args.joined c.args.iface refl refl c.args.slots k c.in_ok-asked-in-Ok.asked (c.goes_on.ensures.known c.if-not-goes_on.false).0 c.requires.opened
    (subst (λ (a : Asked). Answers old.groups g (λ j l. Accepts j a (Ok k) l) new.groups) c.asked_as-asked.ensures answers)
    (λ pasts ks o. c.in_ok-asked-in-Ok.ensures pasts ks o ∙ ap (λ (a : Asked). record a { slots = slots (whole_of new.groups.boot g (past_at pasts g)) k }) (c.in_ok-copy.ensures ∙ c.asked_as-asked.ensures))
    c.numbered_stay.ensures

pub returns-in-Err : goal.returns-in-Err
returns-in-Err c =
    let old = c.args.self.now in
    let g = c.args.member.group in
    let b = c.in-Err.field-0-0 in
    let why = c.in-Err.refusal in
    let new = record old { groups = c.accept.new.self } in
    let answers = subst (λ r. Answers old.groups g (λ j l. Accepts j c.asked_as-asked.result r l) new.groups) c.in-Err.is c.accept.ensures in
    limited_as old new c.args.member c.args.joined c.args.iface refl refl c.args.slots b why c.limited.result c.limited.ensures c.requires.opened
    (subst (λ (a : Asked). Answers old.groups g (λ j l. Accepts j a (Err (b, why)) l) new.groups) c.asked_as-asked.ensures answers)
