use Rattle.std.proofs.Common.{◌≡◌, ◌+◌, ◌∙◌, ap, sym, subst, true, false, [], ◌∷◌, ◌++◌, arith, Ok, Err}
use Rattle.handle_model.specs.declared.entry.Entry.TheVariants.{Accept}
use Rattle.handle_model.specs.Journal.{is_open, accept_count}
use Rattle.handle_model.specs.History.{History, size}
use Rattle.call_table.specs.Rows.{over}
use Rattle.call_table.proofs.Found.{over_shown}
use Rattle.group_core.specs.Refusals.{refusal_of}
use Rattle.group_core.specs.Calls.{Accepts, numbered}
use Rattle.group_core.proofs.Keeping.{came_after, place_is, accept_kept}
use Rattle.group_core.proofs.Limits.{accept_limit_is, refused, fits_accept, opens_numbered, few_numbered}
use Rattle.group_core.proofs.Telling.{adds_one}
use Rattle.group_core.specs.Kept.{logged}
use Rattle.group_core.proofs.group.Group.accept.Goals as goal

pub returns-in-Some : goal.returns-in-Some
returns-in-Some c =
    let found = rw (c.in-Some.is, c.len-calls.ensures, c.live-live.ensures, c.openings-openings.ensures) at c.accept_limit.ensures in
    let many = rw c.as_slice.ensures at c.count_opens-opens.ensures.count in
    let why = sym (found ∙ accept_limit_is _ _ _ _ _ c.args.asked.slots c.count_opens-opens.result c.self.invariant many) in
    rw c.of.ensures
    (subst (λ (h : History). Accepts h c.args.asked (Err (c.args.asked, refusal_of c.in-Some.limit)) h) c.self.view_is
    (refused (logged c.self.inside.home c.self.inside.log) c.args.asked c.in-Some.limit why))

pub accept-requires-clause-few : goal.accept-requires-clause-few
accept-requires-clause-few c =
    let j = logged c.self.inside.home c.self.inside.log in
    let asked = rw c.self.invariant.shows.opened_is at c.numbered-asked.ensures in
    few_numbered j c.args.asked c.numbered-asked.result asked c.requires.few

pub accept-requires-clause-last : goal.accept-requires-clause-last
accept-requires-clause-last c =
    let j = logged c.self.inside.home c.self.inside.log in
    let rows = c.in-Ok.ensures.rows ∙ c.self.invariant.shows.rows_are in
    ap (λ rs. over (c.self.inside.counts.accepted + 1) rs) rows
    ∙ over_shown j (c.self.inside.counts.accepted + 1) c.self.invariant.sound.legal (omega (arith, c.self.invariant.shows.accepted_is))

pub invariant_of-self-2 : goal.invariant_of-self-2
invariant_of-self-2 c =
    let j = logged c.self.inside.home c.self.inside.log in
    let open_then : is_open j c.args.asked.conn ≡ true = ap (λ h. is_open h c.args.asked.conn) c.self.view_is ∙ c.requires.open in
    let found = rw (c.in-None.is, c.len-calls.ensures, c.live-live.ensures, c.openings-openings.ensures) at c.accept_limit.ensures in
    let many = rw c.as_slice.ensures at c.count_opens-opens.ensures.count in
    let free = sym (found ∙ accept_limit_is _ _ _ _ _ c.args.asked.slots c.count_opens-opens.result c.self.invariant many) in
    let number : c.self.inside.counts.accepted + 1 ≡ accept_count j + 1 = ap (λ n. n + 1) c.self.invariant.shows.accepted_is in
    let asked = rw c.self.invariant.shows.opened_is at c.numbered-asked.ensures in
    let entries = came_after c.self.inside.log c.enter.new.self _ _ (Accept (c.self.inside.counts.accepted + 1) c.numbered-asked.result) c.in-Ok.ensures.entries c.enter.ensures.entries in
    let fits = fits_accept j c.args.asked c.numbered-asked.result (c.self.inside.counts.accepted + 1) open_then c.requires.few free number asked in
    let many_numbered = opens_numbered j c.args.asked c.numbered-asked.result c.count_opens-opens.result asked many in
    let place = place_is c.self.inside.home c.self.inside.log c.make_room-made.new.log c.size-place.result c.in-Ok.ensures.entries (rw c.journal.ensures at c.size-place.ensures) in
    let rows = rw place at c.accept.ensures.rows ∙ ap (λ rs. rs ++ record { call = c.self.inside.counts.accepted + 1; conn = c.numbered-asked.result.conn; slots = c.numbered-asked.result.slots; place = size j; runs = false; cancelled = false; orphaned = false } ∷ []) c.in-Ok.ensures.rows in
    let room = rw c.openings-openings.ensures at c.in-Ok.ensures.handles in
    accept_kept c.self.inside.home c.self.inside.log c.enter.new.self (c.self.inside.counts.accepted + 1) c.numbered-asked.result c.self.inside.handles
    c.make_room-made.new.handles c.self.inside.calls c.accept.new.self c.self.inside.counts c.count_opens-opens.result c.self.invariant fits entries
    (omega (arith, c.in-Ok.ensures.spare, c.enter.ensures.spare)) c.in-Ok.ensures.items.0 c.in-Ok.ensures.items.1 rows many_numbered room

pub returns : goal.returns
returns c =
    let j = logged c.self.inside.home c.self.inside.log in
    let found = rw (c.in-None.is, c.len-calls.ensures, c.live-live.ensures, c.openings-openings.ensures) at c.accept_limit.ensures in
    let many = rw c.as_slice.ensures at c.count_opens-opens.ensures.count in
    let free = sym (found ∙ accept_limit_is _ _ _ _ _ c.args.asked.slots c.count_opens-opens.result c.self.invariant many) in
    let number : c.self.inside.counts.accepted + 1 ≡ accept_count j + 1 = ap (λ n. n + 1) c.self.invariant.shows.accepted_is in
    let asked = rw c.self.invariant.shows.opened_is at c.numbered-asked.ensures in
    let entries = came_after c.self.inside.log c.enter.new.self _ _ (Accept (c.self.inside.counts.accepted + 1) c.numbered-asked.result) c.in-Ok.ensures.entries c.enter.ensures.entries in
    let exact = rw asked at entries in
    subst (λ (h : History). Accepts h c.args.asked (Ok (c.self.inside.counts.accepted + 1)) (logged c.self.inside.home c.enter.new.self)) c.self.view_is
    (free, number, adds_one c.self.inside.home c.self.inside.log c.enter.new.self (Accept (c.self.inside.counts.accepted + 1) (numbered j c.args.asked)) exact)
