-- Where entries of a legal journal stand in a history.
use Rattle.std.proofs.Common.{◌≡◌, ◌≢◌, ◌==◌, ℕ, suc, ◌+◌, ◌≤◌, ◌<◌, ◌&&◌, ◌||◌, not, Bool, true, false, List, [], ◌∷◌, ◌++◌, length, take, drop, Option, Some, None, is_some, refl, sym, ap, ◌∙◌, subst, arith, length-append}
use Rattle.std.specs.List.{list_any, filter}
use Rattle.std.proofs.lemmas.Grind.{common_steps}
use Rattle.std.proofs.lemmas.Bool.{or_parts}
use Rattle.std.proofs.lemmas.Bool.Decides.{nat_tests}
use mathlib.Core.Option.{some}
use mathlib.Core.Logic.{dite}
use native.Mathlib.Decide.{dec_lt}
use lib.ListN.{get_elem?}
use Rattle.handle_model.specs.declared.entry.Home.{Home}
use Rattle.handle_model.specs.declared.entry.Asked.{Asked}
use Rattle.handle_model.specs.declared.entry.DueItem.{DueItem}
use Rattle.handle_model.specs.declared.entry.Entry.{Entry}
use Rattle.handle_model.specs.declared.entry.Entry.TheVariants.{Join, Accept, Take, Deny, Cancel, Orphan, End, Leave, Shut}
use Rattle.handle_model.specs.Bases.{empty_base}
use Rattle.handle_model.specs.Journal.{any_since, asked_since, asked, joins, leaves, takes, ends, decides, is_shut, is_open, has_joined, is_taken, Legal}
use Rattle.handle_model.specs.History.{History, since, with_entry}
use Rattle.handle_model.proofs.Tests.{and_left}
use Rattle.handle_model.specs.CallLaws.{accepts}
use Rattle.handle_model.specs.Further.{with_entries}
use Rattle.handle_model.proofs.Joins.{joins_once, leaves_after_join, accepts_of_open}
use Rattle.handle_model.proofs.Accepted.{accepts_once, asks_as_accepted}
use Rattle.handle_model.proofs.Older.{older_since}
use Rattle.handle_model.proofs.Stages.{takes_once, decides_after_accept, ends_after_take}
use Rattle.turn_lock.specs.Histories.{Tied}
use Rattle.hub_story.specs.declared.item.Item.{Item}
use Rattle.hub_story.specs.declared.item.Item.TheVariants.{Listed, Of}
use Rattle.hub_story.specs.Histories.{home_of, past_in, journal_in}
use Rattle.hub_story.specs.Ties.{IsJoinOf, EntryFollows, Follows, ties}
use Rattle.hub_story.proofs.ItemLemmas.{past_at, at_front, at_whole, has_there, Found, found}

-- THE JOURNAL BEFORE AN ENTRY

pub legal_at : (boot g : ℕ) (log : List Item) (p : ℕ) (e : Entry) → Legal (journal_in boot g log) → get_elem? log p ≡ some (Of g e)
    → Legal (with_entries (with_entry (journal_in boot g (take p log)) e) (past_in g (drop (suc p) log)))
legal_at boot g log p e legal at = subst (λ l. Legal (since (home_of boot g) empty_base l)) (past_at g log p e at) legal

-- ONE PLACE

some_passes : (test : Entry → Bool) (xs : List Entry) → list_any test xs ≡ true → 1 ≤ length (filter test xs)
some_passes test [] h = absurd cc
some_passes test (x ∷ xs) h = by_first (λ r. some_passes test xs r) (test x) refl h
  where
    by_first : (list_any test xs ≡ true → 1 ≤ length (filter test xs)) → (b : Bool) → test x ≡ b → list_any test (x ∷ xs) ≡ true → 1 ≤ length (filter test (x ∷ xs))
    by_first rest true t h = rw t (omega arith)
    by_first rest false t h = rw t (rest (rw t at h))

two_pass : (test : Entry → Bool) (xs : List Entry) (e : Entry) (ys : List Entry) → test e ≡ true → list_any test ys ≡ true → 2 ≤ length (filter test (xs ++ e ∷ ys))
two_pass test [] e ys t h = let one = some_passes test ys h in rw t (omega arith)
two_pass test (x ∷ xs) e ys t h = by_first (test x) refl (two_pass test xs e ys t h)
  where
    by_first : (b : Bool) → test x ≡ b → 2 ≤ length (filter test (xs ++ e ∷ ys)) → 2 ≤ length (filter test (x ∷ (xs ++ e ∷ ys)))
    by_first true t h = rw t (omega arith)
    by_first false t h = rw t h

not_earlier : (g : ℕ) (log : List Item) (test : Entry → Bool) (p q : ℕ) (d e : Entry) → length (filter test (past_in g log)) ≤ 1
    → get_elem? log p ≡ some (Of g d) → test d ≡ true → get_elem? log q ≡ some (Of g e) → test e ≡ true → q < p → ⊥
not_earlier g log test p q d e once at t too u early =
    let there : list_any test (past_in g (take p log)) ≡ true = has_there g (take p log) q e test (at_front log p q (Of g e) early too) u in
    let two = two_pass test (past_in g (drop (suc p) log)) d (past_in g (take p log)) t there in
    let few : length (filter test (past_in g (drop (suc p) log) ++ d ∷ past_in g (take p log))) ≤ 1 = subst (λ l. length (filter test l) ≤ 1) (past_at g log p d at) once in
    omega arith

-- where one entry of a kind stands in the journal at most, it stands at one place
pub one_place : (g : ℕ) (log : List Item) (test : Entry → Bool) (p q : ℕ) (d e : Entry) → length (filter test (past_in g log)) ≤ 1
    → get_elem? log p ≡ some (Of g d) → test d ≡ true → get_elem? log q ≡ some (Of g e) → test e ≡ true → p ≡ q
one_place g log test p q d e once at t too u =
    dite (dec_lt p q) (λ l. absurd (not_earlier g log test q p e d once too u at t l))
    (λ a. dite (dec_lt q p) (λ l. absurd (not_earlier g log test p q d e once at t too u l)) (λ b. omega arith))

-- ENTRIES THAT STAND ONCE

pub joined_once : (boot g : ℕ) (log : List Item) (c : ℕ) → Legal (journal_in boot g log) → length (filter (joins c) (past_in g log)) ≤ 1
joined_once boot g log c legal = let most = joins_once (journal_in boot g log) c legal in omega (arith, most)

pub accepted_once : (boot g : ℕ) (log : List Item) (k : ℕ) → Legal (journal_in boot g log) → length (filter (accepts k) (past_in g log)) ≤ 1
accepted_once boot g log k legal = let most = accepts_once (journal_in boot g log) k legal in omega (arith, most)

pub taken_once : (boot g : ℕ) (log : List Item) (k : ℕ) → Legal (journal_in boot g log) → length (filter (takes k) (past_in g log)) ≤ 1
taken_once boot g log k legal = let most = takes_once (journal_in boot g log) k legal in omega (arith, most)

none_passes : (test : Entry → Bool) (xs : List Entry) → list_any test xs ≡ false → length (filter test xs) ≡ 0
none_passes test [] h = refl
none_passes test (x ∷ xs) h = let parts = or_parts (test x) (list_any test xs) h in rw parts.0 (none_passes test xs parts.1)

shut_since : (home : Home) (past : List Entry) → Legal (since home empty_base past) → length (filter is_shut past) ≤ 1
shut_since home [] legal = omega arith
shut_since home (e ∷ past) legal = by_first (none_passes is_shut past legal.0.before_shut) (is_shut e) refl
  where
    by_first : length (filter is_shut past) ≡ 0 → (b : Bool) → is_shut e ≡ b → length (filter is_shut (e ∷ past)) ≤ 1
    by_first none true t = rw t (omega arith)
    by_first none false t = rw t (omega arith)

pub shut_once : (boot g : ℕ) (log : List Item) → Legal (journal_in boot g log) → length (filter is_shut (past_in g log)) ≤ 1
shut_once boot g log legal = shut_since (home_of boot g) (past_in g log) legal

-- FROM THE EMPTY BASE ON

pub since_false : (test : Entry → Bool) (past : List Entry) → any_since false test past ≡ list_any test past
since_false test [] = refl
since_false test (e ∷ past) = ap (λ b. test e || b) (since_false test past)

pub asked_there : (past : List Entry) (k : ℕ) → is_some (asked_since empty_base past k) ≡ true → list_any (accepts k) past ≡ true
asked_there [] k h = absurd cc
asked_there (Accept m a ∷ past) k h = by_number (λ r. asked_there past k r) (m == k) refl h
  where
    by_number : (is_some (asked_since empty_base past k) ≡ true → list_any (accepts k) past ≡ true) → (b : Bool) → (m == k) ≡ b → is_some (asked_since empty_base (Accept m a ∷ past) k) ≡ true → list_any (accepts k) (Accept m a ∷ past) ≡ true
    by_number rest true t h = rw t refl
    by_number rest false t h = rw t (rest (rw t at h))
asked_there (Join c ∷ past) k h = asked_there past k h
asked_there (Take m cookies ∷ past) k h = asked_there past k h
asked_there (Deny m slot ∷ past) k h = asked_there past k h
asked_there (Cancel m ∷ past) k h = asked_there past k h
asked_there (Orphan m ∷ past) k h = asked_there past k h
asked_there (End m results said ∷ past) k h = asked_there past k h
asked_there (Leave c ∷ past) k h = asked_there past k h
asked_there (Shut items ∷ past) k h = asked_there past k h

-- WHAT AN ENTRY IS

pub a_join : (c : ℕ) (e : Entry) → joins c e ≡ true → e ≡ Join c
a_join c (Join d) h = let same : d ≡ c = grind (arith, nat_tests) in ap Join same
a_join c (Accept m a) h = absurd cc
a_join c (Take m cookies) h = absurd cc
a_join c (Deny m slot) h = absurd cc
a_join c (Cancel m) h = absurd cc
a_join c (Orphan m) h = absurd cc
a_join c (End m results said) h = absurd cc
a_join c (Leave d) h = absurd cc
a_join c (Shut items) h = absurd cc

pub self_is : (k : ℕ) → (k == k) ≡ true
self_is k = grind (arith, nat_tests)

-- THE JOIN OF A CALL'S CONNECTION

-- the Join stands before the Accept
pub joined_before : (boot g : ℕ) (log : List Item) (p t k : ℕ) (a : Asked) → Legal (journal_in boot g log) → get_elem? log p ≡ some (Of g (Join a.conn)) → get_elem? log t ≡ some (Of g (Accept k a)) → p < t
joined_before boot g log p t k a legal at too =
    let open_ : is_open (journal_in boot g (take t log)) a.conn ≡ true = accepts_of_open (journal_in boot g (take t log)) (past_in g (drop (suc t) log)) k a (legal_at boot g log t (Accept k a) legal too) in
    let has : list_any (joins a.conn) (past_in g (take t log)) ≡ true = sym (since_false (joins a.conn) (past_in g (take t log))) ∙ and_left (has_joined (journal_in boot g (take t log)) a.conn) (not (list_any (leaves a.conn) (past_in g (take t log)))) open_ in
    let f = found g (take t log) (joins a.conn) has in
    let w = at_whole log t f.place (Of g f.entry) f.at in
    let same : f.place ≡ p = one_place g log (joins a.conn) f.place p f.entry (Join a.conn) (joined_once boot g log a.conn legal) w.1 f.passes at (self_is a.conn) in
    let low = w.0 in omega arith

-- and before the Leave
pub left_behind : (boot g : ℕ) (log : List Item) (p q c : ℕ) → Legal (journal_in boot g log) → get_elem? log p ≡ some (Of g (Join c)) → get_elem? log q ≡ some (Of g (Leave c)) → p < q
left_behind boot g log p q c legal at gone =
    let before = leaves_after_join (journal_in boot g (take q log)) (past_in g (drop (suc q) log)) c (legal_at boot g log q (Leave c) legal gone) in
    let f = found g (take q log) (joins c) (sym (since_false (joins c) (past_in g (take q log))) ∙ before) in
    let w = at_whole log q f.place (Of g f.entry) f.at in
    let same : f.place ≡ p = one_place g log (joins c) f.place p f.entry (Join c) (joined_once boot g log c legal) w.1 f.passes at (self_is c) in
    let low = w.0 in omega arith

-- what a call asked
pub asked_in : (boot g : ℕ) (log : List Item) (t k : ℕ) (a : Asked) → Legal (journal_in boot g log) → get_elem? log t ≡ some (Of g (Accept k a)) → asked_since empty_base (past_in g log) k ≡ Some a
asked_in boot g log t k a legal at =
    ap (λ l. asked_since empty_base l k) (past_at g log t (Accept k a) at)
    ∙ asks_as_accepted (journal_in boot g (take t log)) (past_in g (drop (suc t) log)) k a (legal_at boot g log t (Accept k a) legal at)

-- what a call asked, from its Accept on
pub asked_at : (boot g : ℕ) (log : List Item) (t n k : ℕ) (a : Asked) → Legal (journal_in boot g (take n log)) → t < n → get_elem? log t ≡ some (Of g (Accept k a)) → asked_since empty_base (past_in g (take n log)) k ≡ Some a
asked_at boot g log t n k a legal early at = asked_in boot g (take n log) t k a legal (at_front log n t (Of g (Accept k a)) early at)

-- what came before is legal
pub legal_front : (boot g : ℕ) (log : List Item) (p : ℕ) (e : Entry) → Legal (journal_in boot g log) → get_elem? log p ≡ some (Of g e) → Legal (journal_in boot g (take p log))
legal_front boot g log p e legal at =
    older_since (home_of boot g) empty_base (past_in g (drop (suc p) log) ++ e ∷ []) (past_in g (take p log))
    (subst (λ l. Legal (since (home_of boot g) empty_base l)) (past_at g log p e at ∙ sym (snoc_append (past_in g (drop (suc p) log)) e (past_in g (take p log)))) legal)
  where
    snoc_append : (xs : List Entry) (e : Entry) (ys : List Entry) → (xs ++ e ∷ []) ++ ys ≡ xs ++ e ∷ ys
    snoc_append [] e ys = refl
    snoc_append (x ∷ xs) e ys = ap (λ l. x ∷ l) (snoc_append xs e ys)

decides_ties : (g : ℕ) (past : List Entry) (k : ℕ) (a : Asked) (e : Entry) → decides k e ≡ true → asked_since empty_base past k ≡ Some a → EntryFollows g past e (Of g (Join a.conn))
decides_ties g past k a (Take m cookies) d is = let same : m ≡ k = grind (arith, nat_tests) in subst (λ o. IsJoinOf g o (Of g (Join a.conn))) (sym (ap (asked_since empty_base past) same ∙ is)) refl
decides_ties g past k a (Deny m slot) d is = let same : m ≡ k = grind (arith, nat_tests) in subst (λ o. IsJoinOf g o (Of g (Join a.conn))) (sym (ap (asked_since empty_base past) same ∙ is)) refl
decides_ties g past k a (Cancel m) d is = let same : m ≡ k = grind (arith, nat_tests) in subst (λ o. IsJoinOf g o (Of g (Join a.conn))) (sym (ap (asked_since empty_base past) same ∙ is)) refl
decides_ties g past k a (Orphan m) d is = let same : m ≡ k = grind (arith, nat_tests) in subst (λ o. IsJoinOf g o (Of g (Join a.conn))) (sym (ap (asked_since empty_base past) same ∙ is)) refl
decides_ties g past k a (Join c) d is = absurd cc
decides_ties g past k a (Accept m b) d is = absurd cc
decides_ties g past k a (End m results said) d is = absurd cc
decides_ties g past k a (Leave c) d is = absurd cc
decides_ties g past k a (Shut items) d is = absurd cc

-- a Take, Deny, Cancel or Orphan of a call is tied to the Join of its connection
pub decides_tied : (boot g : ℕ) (log : List Item) (p t u k : ℕ) (a : Asked) (e : Entry) → Legal (journal_in boot g log)
    → get_elem? log p ≡ some (Of g (Join a.conn)) → get_elem? log t ≡ some (Of g (Accept k a)) → get_elem? log u ≡ some (Of g e) → decides k e ≡ true → Tied ties log u p
decides_tied boot g log p t u k a e legal at too there d =
    let before = decides_after_accept (journal_in boot g (take u log)) (past_in g (drop (suc u) log)) e k (legal_at boot g log u e legal there) d in
    let f = found g (take u log) (accepts k) (asked_there (past_in g (take u log)) k before) in
    let w = at_whole log u f.place (Of g f.entry) f.at in
    let same : f.place ≡ t = one_place g log (accepts k) f.place t f.entry (Accept k a) (accepted_once boot g log k legal) w.1 f.passes too (self_is k) in
    let low = w.0 in
    let early : t < u = omega arith in
    let order = joined_before boot g log p t k a legal at too in
    let first : p < u = omega arith in
    let is = asked_at boot g log t u k a (legal_front boot g log u e legal there) early too in
    (first, (Of g e, there, (Of g (Join a.conn), at_front log u p (Of g (Join a.conn)) first at, decides_ties g (past_in g (take u log)) k a e d is)))

-- an End has a Take of its call before it
pub taken_before_end : (boot g : ℕ) (log : List Item) (u k : ℕ) (e : Entry) → Legal (journal_in boot g log) → get_elem? log u ≡ some (Of g e) → ends k e ≡ true → Found g (takes k) (take u log)
taken_before_end boot g log u k (End m results said) legal there h =
    let same : m ≡ k = grind (arith, nat_tests) in
    let is = ends_after_take (journal_in boot g (take u log)) (past_in g (drop (suc u) log)) m results said (legal_at boot g log u (End m results said) legal there) in
    let taken : list_any (takes k) (past_in g (take u log)) ≡ true = sym (since_false (takes k) (past_in g (take u log))) ∙ subst (λ (n : ℕ). is_taken (journal_in boot g (take u log)) n ≡ true) same is in
    found g (take u log) (takes k) taken
taken_before_end boot g log u k (Join c) legal there h = absurd cc
taken_before_end boot g log u k (Accept m a) legal there h = absurd cc
taken_before_end boot g log u k (Take m cookies) legal there h = absurd cc
taken_before_end boot g log u k (Deny m slot) legal there h = absurd cc
taken_before_end boot g log u k (Cancel m) legal there h = absurd cc
taken_before_end boot g log u k (Orphan m) legal there h = absurd cc
taken_before_end boot g log u k (Leave c) legal there h = absurd cc
taken_before_end boot g log u k (Shut items) legal there h = absurd cc
