use Rattle.std.proofs.Common.{refl, arith}
use Rattle.std.proofs.lemmas.Result.{err_from_is_err_and}
use Rattle.journal_audit.proofs.Read.{group_shorter, base_fault, journal_told}
use Rattle.journal_audit.proofs.journals.read_journal.Goals as goal

pub overflow_add-result : goal.overflow_add-result
overflow_add-result c = let room = c.requires in omega arith

pub overflow_add-line : goal.overflow_add-line
overflow_add-line c = let room = c.requires in omega arith

pub read_base-requires : goal.read_base-requires
read_base-requires c =
    let found = rw c.in-Some.is at c.in_ok-home.ensures in
    let short = group_shorter c.in-Some.home c.in-Some.headless.now c.args.text.now found.1 in
    let room = c.requires in omega arith

pub returns-in_err-base-clause-exact : goal.returns-in_err-base-clause-exact
returns-in_err-base-clause-exact c =
    let found = rw c.in-Some.is at c.in_ok-home.ensures in
    let r = err_from_is_err_and c.from_residual-in_err-base.result c.from_residual-in_err-base.ensures.1 in
    rw (r.1, r.2) (base_fault c.in-Some.home c.args.line c.in-Some.headless.now c.args.text.now c.in_err-base.field-0.0 found c.in_err-base.ensures.exact)

pub read_entries-requires-clause-line : goal.read_entries-requires-clause-line
read_entries-requires-clause-line c =
    let found = rw c.in-Some.is at c.in_ok-home.ensures in
    let short = group_shorter c.in-Some.home c.in-Some.headless.now c.args.text.now found.1 in
    let behind = c.in_ok-base.ensures.room in
    let room = c.requires in omega arith

pub returns-clause-exact : goal.returns-clause-exact
returns-clause-exact c =
    let found = rw c.in-Some.is at c.in_ok-home.ensures in
    let entries = rw c.in_ok-watch.ensures at c.in_ok-watch-2.ensures.exact in
    journal_told c.in-Some.home c.args.line c.in_ok-base.now c.in_ok-watch-2.now c.in_ok-base.base c.args.text.now c.in-Some.headless.now c.in_ok-base.baseless.now c.in_ok-watch-2.rest.now c.in_ok-watch-2.watch (record { group = c.in-Some.home.group; verdict = c.verdict-verdict.result }) found c.in_ok-base.ensures.exact entries refl c.verdict-verdict.ensures

pub returns-clause-room : goal.returns-clause-room
returns-clause-room c =
    let found = rw c.in-Some.is at c.in_ok-home.ensures in
    let short = group_shorter c.in-Some.home c.in-Some.headless.now c.args.text.now found.1 in
    let behind = c.in_ok-base.ensures.room in
    let last = c.in_ok-watch-2.ensures.room in omega arith

pub returns-clause-shorter : goal.returns-clause-shorter
returns-clause-shorter c =
    let found = rw c.in-Some.is at c.in_ok-home.ensures in
    let short = group_shorter c.in-Some.home c.in-Some.headless.now c.args.text.now found.1 in
    let behind = c.in_ok-base.ensures.room in
    let last = c.in_ok-watch-2.ensures.room in
    let lines = c.in_ok-base.ensures.exact.1 in
    let more = c.in_ok-watch-2.ensures.exact.3 in omega arith
