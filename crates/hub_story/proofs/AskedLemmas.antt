-- Whether a call was asked to end: as the group keeps its journal, and by the whole one.
use Rattle.std.proofs.Common.{◌≡◌, ℕ, Bool, true, false, ◌&&◌, ◌||◌, is_some, List, ◌++◌, refl, sym, ◌∙◌, ap, subst, inr}
use Rattle.std.specs.List.{list_any}
use Rattle.handle_model.specs.declared.entry.Home.{Home}
use Rattle.handle_model.specs.declared.entry.Entry.{Entry}
use Rattle.handle_model.specs.declared.base.Base.{Base}
use Rattle.handle_model.specs.Bases.{empty_base}
use Rattle.handle_model.specs.Folds.{base_of, advance}
use Rattle.handle_model.specs.History.{History, since}
use Rattle.handle_model.specs.Journal.{Legal, asked, is_shut, waits, runs, due}
use Rattle.handle_model.proofs.Tests.{and_right}
use Rattle.journal_tables.specs.Folding.{BaseBegun}
use Rattle.journal_tables.proofs.Sounds.{base_sound}
use Rattle.journal_tables.proofs.Stood.{stands}
use Rattle.journal_tables.proofs.Advanced.{has_begun, advance_since}
use Rattle.journal_tables.proofs.Folded.{front_legal}
use Rattle.call_table.proofs.Calls.{runs_asked}
use Rattle.group_core.specs.Stages.{is_asked, is_asked_since}
use Rattle.group_core.proofs.Pruning.{asked_stays}
use Rattle.hub_story.specs.Folded.{kept_since, kept}
use Rattle.hub_story.specs.Histories.{journal_in, home_of, past_in}
use Rattle.hub_story.specs.declared.item.Item.{Item}
use Rattle.journal_tables.specs.FoldOf.{IsFoldOf}
use Rattle.hub_story.proofs.FoldLemmas.{Alike, alike, kept_folds}

asked_to : (home : Home) (base : Base) (newer older : List Entry) (k : ℕ) → BaseBegun base → Legal (since home base (newer ++ older)) → list_any is_shut older ≡ false → due (since home base older) ≡ false
    → is_asked_since (advance home base older) newer k ≡ (is_some (asked (since home (advance home base older) newer) k) && is_asked_since base (newer ++ older) k)
asked_to home base newer older k b l u q =
    let j : History = since home base older in
    let l1 = front_legal j newer l in
    let same : base_of j ≡ advance home base older = sym (advance_since home base older b l1 u) in
    let sound = base_sound j l1 u q (has_begun home base older b l1) in
    subst (λ a. is_asked_since a newer k ≡ (is_some (asked (since home a newer) k) && is_asked_since base (newer ++ older) k)) same (asked_stays j newer k sound (stands j u) l)

-- a folded journal says so of the calls that it knows
asked_fold : (x j : History) (k : ℕ) → IsFoldOf x j → BaseBegun j.base → Legal j → is_asked x k ≡ (is_some (asked x k) && is_asked j k)
asked_fold x j k f b l =
    subst (λ z. is_asked z k ≡ (is_some (asked z k) && is_asked j k)) (sym f.fold_is)
    (subst (λ p. is_asked_since (advance j.home j.base f.older) f.newer k ≡ (is_some (asked (since j.home (advance j.home j.base f.older) f.newer) k) && is_asked_since j.base p k)) (sym f.past_is)
    (asked_to j.home j.base f.newer f.older k b (subst (λ p. Legal (since j.home j.base p)) f.past_is l) f.open_is f.settled_is))

-- what the group says is so by the whole journal
pub told_since : (home : Home) (past : List Entry) (k : ℕ) → Legal (since home empty_base past) → is_asked (kept_since home past) k ≡ true → is_asked (since home empty_base past) k ≡ true
told_since home past k l t =
    let j : History = since home empty_base past in
    let f = kept_folds home past l in
    and_right (is_some (asked (kept_since home past) k)) (is_asked j k) (sym (asked_fold (kept_since home past) j k f (inr refl) l) ∙ t)

both_true : (s a : Bool) → s ≡ true → (s && a) ≡ a
both_true s a t = rw t refl

or_true : (b : Bool) → (b || true) ≡ true
or_true true = refl
or_true false = refl

-- and of a call that runs it says what the whole journal says
pub running_since : (home : Home) (past : List Entry) (k : ℕ) → Legal (since home empty_base past) → runs (since home empty_base past) k ≡ true
    → is_asked (kept_since home past) k ≡ is_asked (since home empty_base past) k
running_since home past k l r =
    let j : History = since home empty_base past in
    let x : History = kept_since home past in
    let f = kept_folds home past l in
    let a = alike x j f (inr refl) l in
    let active : (waits j k || runs j k) ≡ true = ap (λ b. waits j k || b) r ∙ or_true (waits j k) in
    let some : is_some (asked x k) ≡ true = ap is_some (a.asked_same k active) ∙ runs_asked j k (asked j k) l refl r in
    asked_fold x j k f (inr refl) l ∙ both_true (is_some (asked x k)) (is_asked j k) some

pub told_whole : (boot g : ℕ) (log : List Item) (k : ℕ) → Legal (journal_in boot g log) → is_asked (kept (journal_in boot g log)) k ≡ true → is_asked (journal_in boot g log) k ≡ true
told_whole boot g log k l t = told_since (home_of boot g) (past_in g log) k l t

pub told_running : (boot g : ℕ) (log : List Item) (k : ℕ) → Legal (journal_in boot g log) → runs (journal_in boot g log) k ≡ true → is_asked (kept (journal_in boot g log)) k ≡ is_asked (journal_in boot g log) k
told_running boot g log k l r = running_since (home_of boot g) (past_in g log) k l r
