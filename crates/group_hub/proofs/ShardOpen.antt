-- What opening a group and copying a journal enter, and that they may.
use Rattle.std.proofs.Common.{◌≡◌, ℕ, zero, suc, ◌<◌, ◌==◌, Bool, true, false, if◌then◌else◌, reverse, Option, Some, None, Result, Ok, Err, IfOk, List, [], ◌∷◌, ◌++◌, length, take, refl, sym, ◌∙◌, ap, subst, arith}
use mathlib.Core.Option.{some, some-injective, some-ne-none}
use Rattle.std.specs.List.{cons_option, list_any}
use Rattle.handle_model.specs.declared.entry.Entry.{Entry}
use lib.ListN.{get_elem?}
use Rattle.rpc_base.specs.declared.fault.NoMemory.{NoMemory}
use Rattle.handle_model.specs.declared.entry.Entry.TheVariants.{Join}
use Rattle.group_core.specs.Kept.{Logged}
use Rattle.handle_model.specs.Journal.{joins}
use Rattle.turn_lock.specs.Histories.{times, places, Within}
use Rattle.hub_story.specs.declared.item.Mark.{Mark}
use Rattle.hub_story.specs.declared.item.Mark.TheVariants.{Opened}
use Rattle.hub_story.specs.declared.item.Item.{Item}
use Rattle.hub_story.specs.declared.item.Item.TheVariants.{Begun, Listed, Of}
use Rattle.hub_story.specs.Histories.{marks_in, past_in, journal_in}
use Rattle.hub_story.specs.Ties.{Follows, ties}
use Rattle.hub_story.specs.Passes.{Seen}
use Rattle.hub_story.specs.Calls.{IsNewConn, TiesOwn, Enters}
use Rattle.hub_story.specs.Still.{StillHas}
use Rattle.hub_story.proofs.ItemLemmas.{no_more, Found, found}
use Rattle.hub_story.proofs.PlaceLemmas.{a_join as is_join}
use Rattle.hub_story.proofs.NewLemmas.{new_conn}
use Rattle.hub_story.proofs.StillLemmas.{is_last, still_first, still_has}
use Rattle.hub_story.specs.Passes.{Serves}
use Rattle.hub_story.proofs.HaveLemmas.{serves_new}
use Rattle.hub_story.proofs.OwnLemmas.{ties_none}
use Rattle.hub_shard.specs.declared.answer.OpenRefusal.{OpenRefusal}
use Rattle.hub_shard.specs.declared.answer.OpenRefusal.TheVariants.{GroupsFull, Ids, Memory}
use Rattle.hub_shard.specs.declared.opening.OpenNext.{OpenNext}
use Rattle.hub_shard.specs.declared.copy.Copied.{Copied}
use Rattle.hub_shard.specs.Openings.{gives_open}
use Rattle.hub_shard.specs.Copies.{gives_copy}
use Rattle.group_hub.specs.Turns.{IsSame, Ran}

none : (v : Seen) (log more : List Item) → more ≡ [] → TiesOwn v log more
none v log more is = subst (TiesOwn v log) (sym is) (ties_none v log)

same_nothing : (more other : List Item) → IsSame more other → more ≡ [] → other ≡ more
same_nothing more other s is = no_more other (s.count ∙ ap length is) ∙ sym is

-- COPIES

pub copy_may : (boot s : ℕ) (a : Copied) (v : Seen) (log : List Item) (r : Result (Option Logged) NoMemory) (more : List Item) → gives_copy a boot s log r more → TiesOwn v log more
copy_may boot s a v log (Ok None) more d = none v log more d.1
copy_may boot s a v log (Ok (Some j)) more d = none v log more d.2
copy_may boot s a v log (Err e) more d = none v log more d

copied_nothing : (boot s : ℕ) (a : Copied) (log : List Item) (r : Result (Option Logged) NoMemory) (more : List Item) → gives_copy a boot s log r more → more ≡ []
copied_nothing boot s a log (Ok None) more d = d.1
copied_nothing boot s a log (Ok (Some j)) more d = d.2
copied_nothing boot s a log (Err e) more d = d

pub copied_still : (boot s : ℕ) (a : Copied) (v w : Seen) (r : Result (Option Logged) NoMemory) → Within v.own (length v.log)
    → (between : List Item) × (more : List Item) × Enters boot s v w between more × gives_copy a boot s (v.log ++ between) r more → StillHas v w []
copied_still boot s a v w r within d =
    still_has boot s v w d.0 [] (subst (Enters boot s v w d.0) (copied_nothing boot s a (v.log ++ d.0) r d.1 d.3) d.2) within

pub ran_copied : (boot s : ℕ) (a : Copied) (v w : Seen) (r : Result (Option Logged) NoMemory) → Ran boot s v w (λ log more. gives_copy a boot s log r more)
    → (between : List Item) × (more : List Item) × Enters boot s v w between more × gives_copy a boot s (v.log ++ between) r more
ran_copied boot s a v w r ran =
    (ran.between, ran.more, subst (Enters boot s v w ran.between) (same_nothing ran.more ran.entered ran.same (copied_nothing boot s a (v.log ++ ran.between) r ran.more ran.gives)) ran.enters, ran.gives)

-- OPENINGS

-- an item that is tied to nothing
abbrev pub Free : Item → Type 0
Free e = (before : List Item) (a : Item) → Follows before e a → ⊥

free_mark : (id : ℕ) (m : Mark) → m ≡ Opened id → Free (Listed m)
free_mark id m is before a f = subst (λ d. Follows before (Listed d) a) is f

free_join : (g c : ℕ) (d : Entry) → d ≡ Join c → Free (Of g d)
free_join g c d is before a f = subst (λ z. Follows before (Of g z) a) is f

kept : Bool → Entry → List Entry
kept b d = cons_option (if b then Some d else None) []

a_join : (b : Bool) (d e : Entry) → reverse (kept b d) ≡ e ∷ [] → d ≡ e
unfolding kept
a_join true d e h = cc
a_join false d e h = absurd cc

-- two items, the mark of an opening and a Join
both_free : (id : ℕ) (x y : Item) → marks_in (x ∷ y ∷ []) ≡ Opened id ∷ [] → past_in id (x ∷ y ∷ []) ≡ Join 1 ∷ [] → Free x × Free y
unfolding kept
both_free id (Listed m) (Of g d) ms ps = (free_mark id m cc, free_join g 1 d (a_join (g == id) d (Join 1) ps))
both_free id (Of g d) (Listed m) ms ps = (free_join g 1 d (a_join (g == id) d (Join 1) ps), free_mark id m cc)
both_free id (Listed m) (Listed n) ms ps = absurd cc
both_free id (Listed m) (Begun b s) ms ps = absurd cc
both_free id (Begun b s) (Listed m) ms ps = absurd cc
both_free id (Begun b s) (Of g d) ms ps = absurd cc
both_free id (Begun b s) (Begun c t) ms ps = absurd cc
both_free id (Of g d) (Of h e) ms ps = absurd cc
both_free id (Of g d) (Begun b s) ms ps = absurd cc

two_free : (v : Seen) (log : List Item) (x y : Item) → Free x → Free y → TiesOwn v log (x ∷ y ∷ [])
two_free v log x y fx fy zero e at p t = absurd (fx (log ++ take zero (x ∷ y ∷ [])) t.0 (subst (λ z. Follows (log ++ take zero (x ∷ y ∷ [])) z t.0) (sym (some-injective x e at)) t.2))
two_free v log x y fx fy (suc zero) e at p t = absurd (fy (log ++ take (suc zero) (x ∷ y ∷ [])) t.0 (subst (λ z. Follows (log ++ take (suc zero) (x ∷ y ∷ [])) z t.0) (sym (some-injective y e at)) t.2))
two_free v log x y fx fy (suc (suc k)) e at p t = absurd (some-ne-none e (sym at))

opened_may : (id : ℕ) (v : Seen) (log more : List Item) → length more ≡ 2 → marks_in more ≡ Opened id ∷ [] → past_in id more ≡ Join 1 ∷ [] → TiesOwn v log more
opened_may id v log [] n ms ps = absurd (omega arith)
opened_may id v log (x ∷ []) n ms ps = absurd (omega arith)
opened_may id v log (x ∷ y ∷ []) n ms ps = let f = both_free id x y ms ps in two_free v log x y f.0 f.1
opened_may id v log (x ∷ y ∷ z ∷ more) n ms ps = absurd (omega arith)

pub open_may : (boot s : ℕ) (a : OpenNext) (v : Seen) (log : List Item) (r : Result ℕ OpenRefusal) (more : List Item) → gives_open a boot s log r more → TiesOwn v log more
open_may boot s a v log (Ok id) more d = opened_may id v log more d.4 d.5 d.6
open_may boot s a v log (Err GroupsFull) more d = none v log more d.1
open_may boot s a v log (Err Ids) more d = none v log more d.2
open_may boot s a v log (Err Memory) more d = none v log more d

-- what was answered and entered, and that of the connection that joined nothing stood before
abbrev pub OpenedSo : ℕ → ℕ → OpenNext → Seen → Seen → Result ℕ OpenRefusal → Type 0
OpenedSo boot s a v w r =
    (between : List Item) × (more : List Item) × Enters boot s v w between more
    × (gives_open a boot s (v.log ++ between) r more × IfOk r (λ id. IsNewConn 1 (journal_in boot id (v.log ++ between))))

opened_new : (boot s id : ℕ) (v w : Seen) (between more : List Item) → Enters boot s v w between more → past_in id more ≡ Join 1 ∷ [] → IsNewConn 1 (journal_in boot id (v.log ++ between))
opened_new boot s id v w between more e is =
    let f = found id more (joins 1) (ap (list_any (joins 1)) is) in
    new_conn boot s v w between more e id f.place 1 (f.at ∙ ap (λ d. some (Of id d)) (is_join 1 f.entry f.passes))

pub ran_opened : (boot s : ℕ) (a : OpenNext) (v w : Seen) (r : Result ℕ OpenRefusal) → Ran boot s v w (λ log more. gives_open a boot s log r more) → OpenedSo boot s a v w r
ran_opened boot s a v w (Ok id) ran =
    let d = ran.gives in
    let joined : past_in id ran.entered ≡ Join 1 ∷ [] = ran.same.entries id ∙ d.6 in
    (ran.between, ran.entered, ran.enters, ((d.0, d.1, d.2, d.3, ran.same.count ∙ d.4, ran.same.marks ∙ d.5, joined), opened_new boot s id v w ran.between ran.entered ran.enters joined))
ran_opened boot s a v w (Err GroupsFull) ran = (ran.between, ran.more, subst (Enters boot s v w ran.between) (same_nothing ran.more ran.entered ran.same ran.gives.1) ran.enters, (ran.gives, tt))
ran_opened boot s a v w (Err Ids) ran = (ran.between, ran.more, subst (Enters boot s v w ran.between) (same_nothing ran.more ran.entered ran.same ran.gives.2) ran.enters, (ran.gives, tt))
ran_opened boot s a v w (Err Memory) ran = (ran.between, ran.more, subst (Enters boot s v w ran.between) (same_nothing ran.more ran.entered ran.same ran.gives) ran.enters, (ran.gives, tt))

-- the pass has joined what it opened
pub opened_serves : (boot s : ℕ) (a : OpenNext) (v w : Seen) (r : Result ℕ OpenRefusal) → OpenedSo boot s a v w r → IfOk r (λ id. Serves w id 1)
opened_serves boot s a v w (Ok id) d = serves_new boot s v w d.0 d.1 d.2 id 1 d.3.0.6
opened_serves boot s a v w (Err e) d = tt

-- and what it had to call with it still has
both_quiet : (id : ℕ) (m : Mark) (g : ℕ) (d : Entry) → m ≡ Opened id → d ≡ Join 1 → (list_any is_last (Listed m ∷ Of g d ∷ []) ≡ false) × (list_any is_last (Of g d ∷ Listed m ∷ []) ≡ false)
both_quiet id m g d m_is d_is =
    let mark : is_last (Listed m) ≡ false = ap (λ n. is_last (Listed n)) m_is in
    let join : is_last (Of g d) ≡ false = ap (λ e. is_last (Of g e)) d_is in
    (rw (mark, join) refl, rw (join, mark) refl)

pair_quiet : (id : ℕ) (x y : Item) → marks_in (x ∷ y ∷ []) ≡ Opened id ∷ [] → past_in id (x ∷ y ∷ []) ≡ Join 1 ∷ [] → list_any is_last (x ∷ y ∷ []) ≡ false
unfolding kept
pair_quiet id (Listed m) (Of g d) ms ps = let m_is : m ≡ Opened id = cc in (both_quiet id m g d m_is (a_join (g == id) d (Join 1) ps)).0
pair_quiet id (Of g d) (Listed m) ms ps = let m_is : m ≡ Opened id = cc in (both_quiet id m g d m_is (a_join (g == id) d (Join 1) ps)).1
pair_quiet id (Listed m) (Listed n) ms ps = absurd cc
pair_quiet id (Listed m) (Begun b s) ms ps = absurd cc
pair_quiet id (Begun b s) (Listed m) ms ps = absurd cc
pair_quiet id (Begun b s) (Of g d) ms ps = absurd cc
pair_quiet id (Begun b s) (Begun c t) ms ps = absurd cc
pair_quiet id (Of g d) (Of h e) ms ps = absurd cc
pair_quiet id (Of g d) (Begun b s) ms ps = absurd cc

two_quiet : (id : ℕ) (more : List Item) → length more ≡ 2 → marks_in more ≡ Opened id ∷ [] → past_in id more ≡ Join 1 ∷ [] → list_any is_last more ≡ false
two_quiet id [] n ms ps = absurd (omega arith)
two_quiet id (x ∷ []) n ms ps = absurd (omega arith)
two_quiet id (x ∷ y ∷ []) n ms ps = pair_quiet id x y ms ps
two_quiet id (x ∷ y ∷ z ∷ more) n ms ps = absurd (omega arith)

opened_quiet : (boot s : ℕ) (a : OpenNext) (log : List Item) (r : Result ℕ OpenRefusal) (more : List Item) → gives_open a boot s log r more → list_any is_last more ≡ false
opened_quiet boot s a log (Ok id) more d = two_quiet id more d.4 d.5 d.6
opened_quiet boot s a log (Err GroupsFull) more d = ap (list_any is_last) d.1
opened_quiet boot s a log (Err Ids) more d = ap (list_any is_last) d.2
opened_quiet boot s a log (Err Memory) more d = ap (list_any is_last) d

pub opened_still : (boot s : ℕ) (a : OpenNext) (v w : Seen) (r : Result ℕ OpenRefusal) → Within v.own (length v.log) → OpenedSo boot s a v w r → StillHas v w []
opened_still boot s a v w r within d = still_first v w [] d.1 (opened_quiet boot s a (v.log ++ d.0) r d.1 d.3.0) (still_has boot s v w d.0 d.1 d.2 within)
