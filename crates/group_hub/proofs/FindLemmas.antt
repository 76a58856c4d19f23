-- What a connection that looks for a group enters, and that it may.
use Rattle.std.specs.List.{list_any}
use Rattle.std.proofs.Common.{◌≡◌, ℕ, Bool, false, Result, Ok, Err, IfOk, List, [], ◌∷◌, ◌++◌, length, refl, sym, ◌∙◌, ap, subst}
use Rattle.std.proofs.lemmas.List.{append_cancel_right}
use Rattle.handle_model.specs.declared.entry.Entry.{Entry}
use Rattle.handle_model.specs.declared.entry.Entry.TheVariants as entry
use Rattle.handle_model.specs.History.{History}
use Rattle.hub_story.specs.declared.item.Mark.TheVariants.{Missed}
use Rattle.hub_story.specs.declared.item.Item.{Item}
use Rattle.hub_story.specs.declared.item.Item.TheVariants.{Listed, Of}
use Rattle.hub_story.specs.Histories.{marks_in, past_in, journal_in, items_of}
use Rattle.hub_story.specs.Passes.{Seen, Serves}
use Rattle.hub_story.proofs.HaveLemmas.{serves_new}
use Rattle.turn_lock.specs.Histories.{Within}
use Rattle.hub_story.specs.Calls.{IsNewConn, TiesOwn, Enters}
use Rattle.hub_story.specs.Still.{StillHas}
use Rattle.hub_story.proofs.NewLemmas.{new_conn}
use Rattle.hub_story.proofs.StillLemmas.{is_last, still_first, still_has}
use Rattle.hub_story.proofs.ItemLemmas.{past_items, length_items, exact_items, exact_mark, no_more}
use Rattle.hub_story.proofs.OwnLemmas.{ties_none, ties_one}
use Rattle.hub_shard.specs.declared.answer.Absence.TheVariants.{Directory, Shut}
use Rattle.hub_shard.specs.declared.answer.FindRefusal.{FindRefusal}
use Rattle.hub_shard.specs.declared.answer.FindRefusal.TheVariants.{NoGroup, TooMany, Numbers, Memory}
use Rattle.hub_shard.specs.declared.find.Find.{Find}
use Rattle.hub_shard.specs.Finds.{gives_find}
use Rattle.group_hub.specs.Turns.{IsSame, Ran}

none : (v : Seen) (log more : List Item) → more ≡ [] → TiesOwn v log more
none v log more is = subst (TiesOwn v log) (sym is) (ties_none v log)

-- what may be entered
pub find_may : (boot s : ℕ) (a : Find) (v : Seen) (log : List Item) (r : Result ℕ FindRefusal) (more : List Item) → gives_find a boot s log r more → TiesOwn v log more
find_may boot s a v log (Ok c) more d =
    let es : d.1.0 ≡ entry.Join c ∷ [] = append_cancel_right d.1.0 (entry.Join c ∷ []) (past_in a.id log) (ap (λ (z : History). z.past) d.1.2.2) in
    subst (TiesOwn v log) (sym (d.1.1 ∙ ap (items_of a.id) es)) (ties_one v log (Of a.id (entry.Join c)) (λ p t. absurd t.2))
find_may boot s a v log (Err (NoGroup (Directory n))) more d = subst (TiesOwn v log) (sym d.2) (ties_one v log (Listed (Missed a.id)) (λ p t. absurd t.2))
find_may boot s a v log (Err (NoGroup (Shut n))) more d = none v log more d.3
find_may boot s a v log (Err TooMany) more d = none v log more d.2
find_may boot s a v log (Err Numbers) more d = none v log more d.2
find_may boot s a v log (Err Memory) more d = none v log more d

-- the items are these
same_nothing : (more other : List Item) → IsSame more other → more ≡ [] → other ≡ more
same_nothing more other s is = no_more other (s.count ∙ ap length is) ∙ sym is

pub same_found : (boot s : ℕ) (a : Find) (log : List Item) (r : Result ℕ FindRefusal) (more other : List Item) → gives_find a boot s log r more → IsSame more other → other ≡ more
same_found boot s a log (Ok c) more other d same =
    let n : length other ≡ length d.1.0 = same.count ∙ (ap length d.1.1 ∙ length_items a.id d.1.0) in
    let past : past_in a.id other ≡ d.1.0 = same.entries a.id ∙ (ap (past_in a.id) d.1.1 ∙ past_items a.id d.1.0) in
    exact_items a.id d.1.0 other n past ∙ sym d.1.1
same_found boot s a log (Err (NoGroup (Directory n))) more other d same =
    exact_mark (Missed a.id) other (same.count ∙ ap length d.2) (same.marks ∙ ap marks_in d.2) ∙ sym d.2
same_found boot s a log (Err (NoGroup (Shut n))) more other d same = same_nothing more other same d.3
same_found boot s a log (Err TooMany) more other d same = same_nothing more other same d.2
same_found boot s a log (Err Numbers) more other d same = same_nothing more other same d.2
same_found boot s a log (Err Memory) more other d same = same_nothing more other same d

-- what was answered and entered, and that of a connection that joined nothing stood before
abbrev pub FoundSo : ℕ → ℕ → Find → Seen → Seen → Result ℕ FindRefusal → Type 0
FoundSo boot s a v w r =
    (between : List Item) × (more : List Item) × Enters boot s v w between more
    × (gives_find a boot s (v.log ++ between) r more × IfOk r (λ c. IsNewConn c (journal_in boot a.id (v.log ++ between))))

found_new : (boot s : ℕ) (a : Find) (v w : Seen) (between more : List Item) (r : Result ℕ FindRefusal) → Enters boot s v w between more → gives_find a boot s (v.log ++ between) r more → IfOk r (λ c. IsNewConn c (journal_in boot a.id (v.log ++ between)))
found_new boot s a v w between more (Ok c) e d =
    let es : d.1.0 ≡ entry.Join c ∷ [] = append_cancel_right d.1.0 (entry.Join c ∷ []) (past_in a.id (v.log ++ between)) (ap (λ (z : History). z.past) d.1.2.2) in
    new_conn boot s v w between (Of a.id (entry.Join c) ∷ []) (subst (Enters boot s v w between) (d.1.1 ∙ ap (items_of a.id) es) e) a.id 0 c refl
found_new boot s a v w between more (Err f) e d = tt

pub ran_found : (boot s : ℕ) (a : Find) (v w : Seen) (r : Result ℕ FindRefusal) → Ran boot s v w (λ log more. gives_find a boot s log r more) → FoundSo boot s a v w r
ran_found boot s a v w r ran =
    let e = subst (Enters boot s v w ran.between) (same_found boot s a (v.log ++ ran.between) r ran.more ran.entered ran.gives ran.same) ran.enters in
    (ran.between, ran.more, e, (ran.gives, found_new boot s a v w ran.between ran.more r e ran.gives))

-- the pass has joined what it found
pub found_serves : (boot s : ℕ) (a : Find) (v w : Seen) (r : Result ℕ FindRefusal) → FoundSo boot s a v w r → IfOk r (λ c. Serves w a.id c)
found_serves boot s a v w (Ok c) d =
    let gave = d.3.0 in
    let es : gave.1.0 ≡ entry.Join c ∷ [] = append_cancel_right gave.1.0 (entry.Join c ∷ []) (past_in a.id (v.log ++ d.0)) (ap (λ (z : History). z.past) gave.1.2.2) in
    serves_new boot s v w d.0 d.1 d.2 a.id c (ap (past_in a.id) gave.1.1 ∙ (past_items a.id gave.1.0 ∙ es))
found_serves boot s a v w (Err e) d = tt

-- and what it had to call with it still has
found_quiet : (boot s : ℕ) (a : Find) (log : List Item) (r : Result ℕ FindRefusal) (more : List Item) → gives_find a boot s log r more → list_any is_last more ≡ false
found_quiet boot s a log (Ok c) more d =
    let es : d.1.0 ≡ entry.Join c ∷ [] = append_cancel_right d.1.0 (entry.Join c ∷ []) (past_in a.id log) (ap (λ (z : History). z.past) d.1.2.2) in
    ap (list_any is_last) (d.1.1 ∙ ap (items_of a.id) es)
found_quiet boot s a log (Err (NoGroup (Directory n))) more d = ap (list_any is_last) d.2
found_quiet boot s a log (Err (NoGroup (Shut n))) more d = ap (list_any is_last) d.3
found_quiet boot s a log (Err TooMany) more d = ap (list_any is_last) d.2
found_quiet boot s a log (Err Numbers) more d = ap (list_any is_last) d.2
found_quiet boot s a log (Err Memory) more d = ap (list_any is_last) d

pub found_still : (boot s : ℕ) (a : Find) (v w : Seen) (r : Result ℕ FindRefusal) → Within v.own (length v.log) → FoundSo boot s a v w r → StillHas v w []
found_still boot s a v w r within d = still_first v w [] d.1 (found_quiet boot s a (v.log ++ d.0) r d.1 d.3.0) (still_has boot s v w d.0 d.1 d.2 within)
