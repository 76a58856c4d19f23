use Rattle.std.proofs.Common.{rules, ◌≡◌, ◌∙◌, ◌≤◌, ◌<◌, sym, ap, subst, take, List}
use Rattle.handle_model.specs.declared.entry.Entry.{Entry}
use Rattle.handle_model.specs.declared.base.Base.{Base}
use Rattle.handle_model.specs.History.{history_of}
use Rattle.handle_model.specs.Journal.{Legal}
use Rattle.group_core.specs.Kept.{Logged, accepted_in}
use Rattle.group_core.specs.Folds.{older_count, base_after}
use Rattle.group_core.proofs.Folding.{older_legal}
use Rattle.group_core.proofs.Resting.{base_within}
use Rattle.group_core.proofs.Joining.{ready_same, ready_fold, fold_tells}
use Rattle.group_core.proofs.fold.make_way.Goals as goal

pub returns-then-count-eq0-clause-ok : goal.returns-then-count-eq0-clause-ok
returns-then-count-eq0-clause-ok c =
    let none : c.older_count-count.result ≡ 0 = search rules in
    let count : c.older_count-count.result ≡ older_count c.args.log.now c.args.calls.now.rows c.args.counts.now.conns.conns = rw c.journal.ensures at c.older_count-count.ensures in
    ready_same c.args.home c.args.log.now c.reserve-then-count-eq0.new.self c.args.handles.now c.args.calls.now c.args.counts.now c.reserve.new.self
    c.requires.kept c.requires.unshut (sym count ∙ none) c.in_ok-reserve-2.ensures.entries c.in_ok-reserve-2.ensures.ok c.in_ok-reserve.ensures.same c.in_ok-reserve.ensures.ok

pub folded_base-requires-clause-legal : goal.folded_base-requires-clause-legal
folded_base-requires-clause-legal c =
    let base : c.base.result.now ≡ c.args.log.now.base = c.base.ensures ∙ ap (λ (l : Logged). l.base) c.journal-3.ensures in
    let front : c.split_at.result.0.now ≡ take c.older_count-count.result c.args.log.now.entries =
    c.split_at.ensures.front ∙ ap (λ (es : List Entry). take c.older_count-count.result es) (c.as_slice.ensures ∙ ap (λ (l : Logged). l.entries) c.journal-2.ensures) in
    subst (λ (b : Base). Legal (history_of c.args.home b c.split_at.result.0.now)) (sym base)
    (subst (λ (es : List Entry). Legal (history_of c.args.home c.args.log.now.base es)) (sym front)
    (older_legal c.args.home c.args.log.now c.older_count-count.result c.requires.kept.sound.legal))

pub marks_after-requires : goal.marks_after-requires
marks_after-requires c =
    let base : c.base.result.now ≡ c.args.log.now.base = c.base.ensures ∙ ap (λ (l : Logged). l.base) c.journal-3.ensures in
    let front : c.split_at.result.0.now ≡ take c.older_count-count.result c.args.log.now.entries =
    c.split_at.ensures.front ∙ ap (λ (es : List Entry). take c.older_count-count.result es) (c.as_slice.ensures ∙ ap (λ (l : Logged). l.entries) c.journal-2.ensures) in
    let made : c.in_ok-base.base ≡ base_after c.args.home c.args.log.now c.older_count-count.result = rw (base, front) at c.in_ok-base.ensures in
    subst (λ (b : Base). (c.args.log.now.base.accepts ≤ b.accepts) × (b.accepts ≤ accepted_in c.args.log.now)) (sym made)
    (base_within c.args.home c.args.log.now c.older_count-count.result c.requires.kept.sound c.requires.kept.begun c.requires.unshut)

pub fold-requires-clause-tells : goal.fold-requires-clause-tells
fold-requires-clause-tells c =
    let base : c.base.result.now ≡ c.args.log.now.base = c.base.ensures ∙ ap (λ (l : Logged). l.base) c.journal-3.ensures in
    let front : c.split_at.result.0.now ≡ take c.older_count-count.result c.args.log.now.entries =
    c.split_at.ensures.front ∙ ap (λ (es : List Entry). take c.older_count-count.result es) (c.as_slice.ensures ∙ ap (λ (l : Logged). l.entries) c.journal-2.ensures) in
    let made : c.in_ok-base.base ≡ base_after c.args.home c.args.log.now c.older_count-count.result = rw (base, front) at c.in_ok-base.ensures in
    fold_tells c.args.home c.args.log.now c.reserve-3.new.self c.older_count-count.result c.in_ok-base.base c.in_ok-marks.marks c.args.handles.now
    c.args.calls.now c.args.counts.now c.requires.kept c.requires.unshut made c.in_ok-marks.ensures c.in_ok-reserve-4.ensures.entries

pub returns-clause-ok : goal.returns-clause-ok
returns-clause-ok c =
    let base : c.base.result.now ≡ c.args.log.now.base = c.base.ensures ∙ ap (λ (l : Logged). l.base) c.journal-3.ensures in
    let front : c.split_at.result.0.now ≡ take c.older_count-count.result c.args.log.now.entries =
    c.split_at.ensures.front ∙ ap (λ (es : List Entry). take c.older_count-count.result es) (c.as_slice.ensures ∙ ap (λ (l : Logged). l.entries) c.journal-2.ensures) in
    let made : c.in_ok-base.base ≡ base_after c.args.home c.args.log.now c.older_count-count.result = rw (base, front) at c.in_ok-base.ensures in
    let some : 0 < c.older_count-count.result = search rules in
    let count : c.older_count-count.result ≡ older_count c.args.log.now c.args.calls.now.rows c.args.counts.now.conns.conns = rw c.journal.ensures at c.older_count-count.ensures in
    ready_fold c.args.home c.args.log.now c.reserve-3.new.self c.fold.new.self c.older_count-count.result c.in_ok-base.base c.args.handles.now c.args.calls.now
    c.args.counts.now c.reserve-2.new.self c.requires.kept c.requires.unshut count some made c.in_ok-reserve-4.ensures.entries c.in_ok-reserve-4.ensures.ok
    c.fold.ensures.base c.fold.ensures.entries c.fold.ensures.spare c.in_ok-reserve-3.ensures.same c.in_ok-reserve-3.ensures.ok
