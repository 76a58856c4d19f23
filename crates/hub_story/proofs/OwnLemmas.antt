-- What own entries say of a group, and which items a call may enter.
use Rattle.std.proofs.Common.{◌≡◌, ◌≢◌, ◌==◌, ℕ, zero, suc, ◌+◌, ◌≤◌, ◌<◌, ◌&&◌, ◌||◌, not, Bool, true, false, Option, List, [], ◌∷◌, ◌++◌, length, take, drop, Some, None, is_some, refl, sym, ap, ◌∙◌, subst, arith, inl, inr}
use Rattle.std.specs.List.{list_any}
use Rattle.std.proofs.lemmas.Bool.{false_from_ne_true, cases_Bool}
use Rattle.std.proofs.lemmas.Bool.Decides.{nat_tests}
use Rattle.std.proofs.lemmas.List.{append-nil, take-append-drop}
use mathlib.Core.Option.{some, some-injective, some-ne-none}
use lib.ListN.{get_elem?}
use Rattle.handle_model.specs.declared.entry.Asked.{Asked}
use Rattle.handle_model.specs.declared.entry.Outcome.{Outcome}
use Rattle.handle_model.specs.declared.entry.Said.{Said}
use Rattle.handle_model.specs.declared.entry.DueItem.{DueItem}
use Rattle.handle_model.specs.declared.entry.Entry.{Entry}
use Rattle.handle_model.specs.declared.entry.Entry.TheVariants.{Join, Accept, Take, Deny, Cancel, Orphan, End, Leave, Shut}
use Rattle.handle_model.specs.Bases.{empty_base}
use Rattle.handle_model.specs.History.{since}
use Rattle.handle_model.specs.Journal.{asked_since, slots_in, slots, suit, joins, leaves, takes, ends, decides, is_shut, is_open, has_joined, is_taken, runs, Legal}
use Rattle.handle_model.proofs.Reversed.{list_any-reverse}
use Rattle.handle_model.specs.CallLaws.{accepts}
use Rattle.handle_model.proofs.Older.{older_since}
use Rattle.handle_model.proofs.Stages.{decides_after_accept}
use Rattle.turn_lock.specs.Histories.{times, places, Tied, Closed, Within, StartsWith}
use Rattle.turn_lock.proofs.HistoryLemmas.{at_append, at_within, times-append}
use Rattle.hub_story.specs.declared.item.Mark.{Mark}
use Rattle.hub_story.specs.declared.item.Mark.TheVariants.{Opened, Missed, Retired}
use Rattle.hub_story.specs.declared.item.Item.{Item}
use Rattle.hub_story.specs.declared.item.Item.TheVariants.{Listed, Of}
use Rattle.hub_story.specs.Directories.{is_opened_id, is_retired_id, retires_id}
use Rattle.hub_story.specs.Histories.{home_of, marks_in, past_in, journal_in}
use Rattle.hub_story.specs.Ties.{IsJoinOf, EntryFollows, Follows, ties}
use Rattle.hub_story.specs.Passes.{Seen, HasOwn, accepts_of, Serves, HasCall, Knows, Runs, HasShut}
use Rattle.hub_story.specs.Calls.{Met, TiesOwn}
use Rattle.hub_story.proofs.ItemLemmas.{at_front, at_whole, has_there, Found, found, FoundMark, found_mark, past-append}
use Rattle.hub_story.proofs.PlaceLemmas.{one_place, joined_once, accepted_once, taken_once, shut_once, self_is, since_false, asked_there, asked_in, left_behind, taken_before_end, legal_at}
use Rattle.hub_story.proofs.ApartLemmas.{an_accept, a_take}

-- which entry it is
a_leave : (c : ℕ) (e : Entry) → leaves c e ≡ true → e ≡ Leave c
a_leave c (Leave d) h = let same : d ≡ c = grind (arith, nat_tests) in ap Leave same
a_leave c (Join d) h = absurd cc
a_leave c (Accept m a) h = absurd cc
a_leave c (Take m cookies) h = absurd cc
a_leave c (Deny m slot) h = absurd cc
a_leave c (Cancel m) h = absurd cc
a_leave c (Orphan m) h = absurd cc
a_leave c (End m results said) h = absurd cc
a_leave c (Shut items) h = absurd cc

record AnEnd (k : ℕ) (e : Entry) : Type 0 where
  results : List Outcome
  said : Said
  entry_is : e ≡ End k results said

an_end : (k : ℕ) (e : Entry) → ends k e ≡ true → AnEnd k e
an_end k (End m results said) h = let same : m ≡ k = grind (arith, nat_tests) in record { results = results; said = said; entry_is = ap (λ n. End n results said) same }
an_end k (Leave d) h = absurd cc
an_end k (Join d) h = absurd cc
an_end k (Accept m a) h = absurd cc
an_end k (Take m cookies) h = absurd cc
an_end k (Deny m slot) h = absurd cc
an_end k (Cancel m) h = absurd cc
an_end k (Orphan m) h = absurd cc
an_end k (Shut items) h = absurd cc

pub record AnAccepted (k : ℕ) (e : Entry) : Type 0 where
  pub asked : Asked
  pub entry_is : e ≡ Accept k asked

pub an_accepted : (k : ℕ) (e : Entry) → accepts k e ≡ true → AnAccepted k e
an_accepted k (Accept m a) h = let same : m ≡ k = grind (arith, nat_tests) in record { asked = a; entry_is = ap (λ n. Accept n a) same }
an_accepted k (End m results said) h = absurd cc
an_accepted k (Leave d) h = absurd cc
an_accepted k (Join d) h = absurd cc
an_accepted k (Take m cookies) h = absurd cc
an_accepted k (Deny m slot) h = absurd cc
an_accepted k (Cancel m) h = absurd cc
an_accepted k (Orphan m) h = absurd cc
an_accepted k (Shut items) h = absurd cc

pub a_retired : (g : ℕ) (m : Mark) → retires_id g m ≡ true → m ≡ Retired g
a_retired g (Retired h) t = let same : h ≡ g = grind (arith, nat_tests) in ap Retired same
a_retired g (Opened h) t = absurd cc
a_retired g (Missed h) t = absurd cc

-- an entry of a call follows the Join of its connection
join_followed : (g : ℕ) (past : List Entry) (k : ℕ) (a : Asked) (e : Entry) (b : Item) → decides k e ≡ true → asked_since empty_base past k ≡ Some a → EntryFollows g past e b → b ≡ Of g (Join a.conn)
join_followed g past k a (Take m cookies) b d is f = let same : m ≡ k = grind (arith, nat_tests) in subst (λ o. IsJoinOf g o b) (ap (asked_since empty_base past) same ∙ is) f
join_followed g past k a (Deny m slot) b d is f = let same : m ≡ k = grind (arith, nat_tests) in subst (λ o. IsJoinOf g o b) (ap (asked_since empty_base past) same ∙ is) f
join_followed g past k a (Cancel m) b d is f = let same : m ≡ k = grind (arith, nat_tests) in subst (λ o. IsJoinOf g o b) (ap (asked_since empty_base past) same ∙ is) f
join_followed g past k a (Orphan m) b d is f = let same : m ≡ k = grind (arith, nat_tests) in subst (λ o. IsJoinOf g o b) (ap (asked_since empty_base past) same ∙ is) f
join_followed g past k a (Join c) b d is f = absurd cc
join_followed g past k a (Accept m o) b d is f = absurd cc
join_followed g past k a (End m results said) b d is f = absurd cc
join_followed g past k a (Leave c) b d is f = absurd cc
join_followed g past k a (Shut items) b d is f = absurd cc

-- WHAT MAY BE ENTERED

pub ties_none : (v : Seen) (log : List Item) → TiesOwn v log []
ties_none v log k e at p t = absurd (some-ne-none e (sym at))

pub ties_one : (v : Seen) (log : List Item) (e : Item) → ((p : ℕ) → ties log e p → 0 < times p v.own) → TiesOwn v log (e ∷ [])
ties_one v log e own zero d at p t =
    let same : e ≡ d = some-injective e d at in
    let tied : ties log e p = subst (λ (a : List Item × Item). ties a.0 a.1 p) (λ i. (append-nil log i, sym same i)) t in
    let mine = own p tied in let both = times-append p v.own (places (length log) 1) in omega arith
ties_one v log e own (suc k) d at p t = absurd (some-ne-none d (sym at))

-- the second is tied to none
pub ties_two : (v : Seen) (log : List Item) (e f : Item) → ((p : ℕ) → ties log e p → 0 < times p v.own) → ((before : List Item) (a : Item) → Follows before f a → ⊥) → TiesOwn v log (e ∷ f ∷ [])
ties_two v log e f own free zero d at p t =
    let same : e ≡ d = some-injective e d at in
    let tied : ties log e p = subst (λ (a : List Item × Item). ties a.0 a.1 p) (λ i. (append-nil log i, sym same i)) t in
    let mine = own p tied in let both = times-append p v.own (places (length log) 2) in omega arith
ties_two v log e f own free (suc zero) d at p t = let same : f ≡ d = some-injective f d at in absurd (free (log ++ e ∷ []) t.0 (subst (λ z. Follows (log ++ e ∷ []) z t.0) (sym same) t.2))
ties_two v log e f own free (suc (suc k)) d at p t = absurd (some-ne-none d (sym at))

and_both : (a b : Bool) → a ≡ true → b ≡ false → (a && not b) ≡ true
and_both a b h k = rw (h, k) refl

module _ (boot s : ℕ) (v : Seen) (log : List Item) (met : Met boot s v log) where
  seen_at : (q : ℕ) (a : Item) → get_elem? v.log q ≡ some a → get_elem? log q ≡ some a
  seen_at q a at = let low = at_within v.log q a at in ap (λ l. get_elem? l q) met.starts.1 ∙ (at_append v.log met.starts.0 q low ∙ at)

  -- an own item stands in the history, and stood in the front
  own_back : (q : ℕ) (a : Item) → 0 < times q v.own → get_elem? log q ≡ some a → HasOwn v a
  own_back q a mine at = let low = met.within q mine in (q, mine, sym (at_append v.log met.starts.0 q low) ∙ (sym (ap (λ l. get_elem? l q) met.starts.1) ∙ at))

  own_at : (a : Item) → (o : HasOwn v a) → get_elem? log o.0 ≡ some a
  own_at a o = seen_at o.0 a o.2

  -- A GROUP THAT HAS AN ENTRY WAS OPENED

  opened_at : (g q : ℕ) (e : Entry) → get_elem? log q ≡ some (Of g e) → is_opened_id (marks_in log) g ≡ true
  opened_at g q e at = elim (cases_Bool (is_opened_id (marks_in log) g)) [
    | inl t ↦ t
    | inr f ↦ absurd (let there : list_any (λ d. true) (past_in g log) ≡ true = has_there g log q e (λ d. true) at refl in
        let none : list_any (λ d. true) (past_in g log) ≡ false = ap (list_any (λ (d : Entry). true)) (met.story.unopened g f) in cc)
  ]

  pub own_opened : (g : ℕ) (e : Entry) → HasOwn v (Of g e) → is_opened_id (marks_in log) g ≡ true
  own_opened g e o = opened_at g o.0 e (own_at (Of g e) o)

  pub known_opened : (g k : ℕ) → Knows v g k → is_opened_id (marks_in log) g ≡ true
  known_opened g k known = let f = found g v.log (accepts k) known in opened_at g f.place f.entry (seen_at f.place (Of g f.entry) f.at)

  -- ITS CONNECTIONS

  never_left : (g c : ℕ) → Serves v g c → list_any (leaves c) (past_in g log) ≡ true → ⊥
  never_left g c serves gone =
      let f = found g log (leaves c) gone in
      let there : get_elem? log f.place ≡ some (Of g (Leave c)) = f.at ∙ ap (λ e. some (Of g e)) (a_leave c f.entry f.passes) in
      let at = own_at (Of g (Join c)) serves.joined in
      let order : serves.joined.0 < f.place = left_behind boot g log serves.joined.0 f.place c (met.story.sound g).legal at there in
      let mine = met.closed f.place serves.joined.0 (order, (Of g (Leave c), there, (Of g (Join c), at_front log f.place serves.joined.0 (Of g (Join c)) order at, refl))) serves.joined.1 in
      serves.stays (own_back f.place (Of g (Leave c)) mine there)

  pub serves_open : (g c : ℕ) → Serves v g c → is_open (journal_in boot g log) c ≡ true
  serves_open g c serves =
      let at = own_at (Of g (Join c)) serves.joined in
      let joined : has_joined (journal_in boot g log) c ≡ true = since_false (joins c) (past_in g log) ∙ has_there g log serves.joined.0 (Join c) (joins c) at (self_is c) in
      and_both (has_joined (journal_in boot g log) c) (list_any (leaves c) (past_in g log)) joined (false_from_ne_true (list_any (leaves c) (past_in g log)) (λ t. never_left g c serves t))

  -- ITS CALLS

  never_ended : (g k : ℕ) (results : List Outcome) → Runs v g k results → list_any (ends k) (past_in g log) ≡ true → ⊥
  never_ended g k results r gone =
      let f = found g log (ends k) gone in
      let e = an_end k f.entry f.passes in
      let there : get_elem? log f.place ≡ some (Of g (End k e.results e.said)) = f.at ∙ ap (λ d. some (Of g d)) e.entry_is in
      let at = own_at (Of g (Take k r.cookies)) r.taken in
      let b = taken_before_end boot g log f.place k f.entry (met.story.sound g).legal f.at f.passes in
      let w = at_whole log f.place b.place (Of g b.entry) b.at in
      let same : b.place ≡ r.taken.0 = one_place g log (takes k) b.place r.taken.0 b.entry (Take k r.cookies) (taken_once boot g log k (met.story.sound g).legal) w.1 b.passes at (self_is k) in
      let low = w.0 in
      let order : r.taken.0 < f.place = omega arith in
      let mine = met.closed f.place r.taken.0 (order, (Of g (End k e.results e.said), there, (Of g (Take k r.cookies), at_front log f.place r.taken.0 (Of g (Take k r.cookies)) order at, (r.cookies, refl)))) r.taken.1 in
      r.runs e.results e.said (own_back f.place (Of g (End k e.results e.said)) mine there)

  pub runs_there : (g k : ℕ) (results : List Outcome) → Runs v g k results → runs (journal_in boot g log) k ≡ true
  runs_there g k results r =
      let at = own_at (Of g (Take k r.cookies)) r.taken in
      let taken : is_taken (journal_in boot g log) k ≡ true = since_false (takes k) (past_in g log) ∙ has_there g log r.taken.0 (Take k r.cookies) (takes k) at (self_is k) in
      and_both (is_taken (journal_in boot g log) k) (list_any (ends k) (past_in g log)) taken (false_from_ne_true (list_any (ends k) (past_in g log)) (λ t. never_ended g k results r t))

  seen_legal : (g : ℕ) → Legal (journal_in boot g v.log)
  seen_legal g =
      older_since (home_of boot g) empty_base (past_in g met.starts.0) (past_in g v.log)
      (subst (λ l. Legal (since (home_of boot g) empty_base l)) (ap (past_in g) met.starts.1 ∙ past-append g v.log met.starts.0) (met.story.sound g).legal)

  pub suits_there : (g k : ℕ) (results : List Outcome) → Runs v g k results → suit (slots (journal_in boot g log) k) results ≡ true
  suits_there g k results r =
      let u : ℕ = r.taken.0 in
      let at = own_at (Of g (Take k r.cookies)) r.taken in
      let before = decides_after_accept (journal_in boot g (take u log)) (past_in g (drop (suc u) log)) (Take k r.cookies) k (legal_at boot g log u (Take k r.cookies) (met.story.sound g).legal at) (self_is k) in
      let f = found g (take u log) (accepts k) (asked_there (past_in g (take u log)) k before) in
      let w = at_whole log u f.place (Of g f.entry) f.at in
      let a = an_accepted k f.entry f.passes in
      let there : get_elem? log f.place ≡ some (Of g (Accept k a.asked)) = w.1 ∙ ap (λ d. some (Of g d)) a.entry_is in
      let low = w.0 in
      let high = met.within u r.taken.1 in
      let early : f.place < length v.log = omega arith in
      let seen : get_elem? v.log f.place ≡ some (Of g (Accept k a.asked)) = sym (at_append v.log met.starts.0 f.place early) ∙ (sym (ap (λ l. get_elem? l f.place) met.starts.1) ∙ there) in
      let now = asked_in boot g log f.place k a.asked (met.story.sound g).legal there in
      let then = asked_in boot g v.log f.place k a.asked (seen_legal g) seen in
      ap (λ o. suit (slots_in o) results) (now ∙ sym then) ∙ r.suits

  -- WHAT MAY BE ENTERED

  join_own : (g c p : ℕ) → HasOwn v (Of g (Join c)) → get_elem? log p ≡ some (Of g (Join c)) → 0 < times p v.own
  join_own g c p o at =
      let same : o.0 ≡ p = one_place g log (joins c) o.0 p (Join c) (Join c) (joined_once boot g log c (met.story.sound g).legal) (own_at (Of g (Join c)) o) (self_is c) at (self_is c) in
      subst (λ (n : ℕ). 0 < times n v.own) same o.1

  pub accept_ties : (g c k : ℕ) (a : Asked) → Serves v g c → a.conn ≡ c → (p : ℕ) → ties log (Of g (Accept k a)) p → 0 < times p v.own
  accept_ties g c k a serves is p t = join_own g c p serves.joined (t.1 ∙ (ap some t.2 ∙ ap (λ n. some (Of g (Join n))) is))

  pub leave_ties : (g c : ℕ) → Serves v g c → (p : ℕ) → ties log (Of g (Leave c)) p → 0 < times p v.own
  leave_ties g c serves p t = join_own g c p serves.joined (t.1 ∙ ap some t.2)

  pub decides_ties : (g c k : ℕ) (e : Entry) → HasCall v g c k → decides k e ≡ true → (p : ℕ) → ties log (Of g e) p → 0 < times p v.own
  decides_ties g c k e has d p t =
      let f = found g v.log (accepts_of c k) has.accepted in
      let a = an_accept c k f.entry f.passes in
      let there = seen_at f.place (Of g (Accept k a.asked)) (f.at ∙ ap (λ d. some (Of g d)) a.entry_is) in
      let is = asked_in boot g log f.place k a.asked (met.story.sound g).legal there in
      join_own g c p has.serves.joined (t.1 ∙ (ap some (join_followed g (past_in g log) k a.asked e t.0 d is t.2) ∙ ap (λ n. some (Of g (Join n))) a.conn_is))

  pub end_ties : (g k : ℕ) (results others : List Outcome) (said : Said) → Runs v g k results → (p : ℕ) → ties log (Of g (End k others said)) p → 0 < times p v.own
  end_ties g k results others said r p t =
      let at : get_elem? log p ≡ some (Of g (Take k t.2.0)) = t.1 ∙ ap some t.2.1 in
      let same : r.taken.0 ≡ p = one_place g log (takes k) r.taken.0 p (Take k r.cookies) (Take k t.2.0) (taken_once boot g log k (met.story.sound g).legal) (own_at (Of g (Take k r.cookies)) r.taken) (self_is k) at (self_is k) in
      subst (λ (n : ℕ). 0 < times n v.own) same r.taken.1

  pub retire_ties : (g : ℕ) → HasShut v g → (p : ℕ) → ties log (Listed (Retired g)) p → 0 < times p v.own
  retire_ties g h p t =
      let at : get_elem? log p ≡ some (Of g (Shut t.2.0)) = t.1 ∙ ap some t.2.1 in
      let same : h.shut.0 ≡ p = one_place g log is_shut h.shut.0 p (Shut h.items) (Shut t.2.0) (shut_once boot g log (met.story.sound g).legal) (own_at (Of g (Shut h.items)) h.shut) refl at refl in
      subst (λ (n : ℕ). 0 < times n v.own) same h.shut.1

  -- A GROUP THAT HAS ENDED

  pub shut_there : (g : ℕ) → HasShut v g → list_any is_shut (past_in g log) ≡ true
  shut_there g h = has_there g log h.shut.0 (Shut h.items) is_shut (own_at (Of g (Shut h.items)) h.shut) refl

  pub never_retired : (g : ℕ) → HasShut v g → is_retired_id (marks_in log) g ≡ true → ⊥
  never_retired g h gone =
      let m = found_mark log (retires_id g) gone in
      let there : get_elem? log m.place ≡ some (Listed (Retired g)) = m.at ∙ ap (λ d. some (Listed d)) (a_retired g m.mark m.passes) in
      let before = found g (take m.place log) is_shut (met.story.ended m.place g there) in
      let w = at_whole log m.place before.place (Of g before.entry) before.at in
      let at = own_at (Of g (Shut h.items)) h.shut in
      let same : before.place ≡ h.shut.0 = one_place g log is_shut before.place h.shut.0 before.entry (Shut h.items) (shut_once boot g log (met.story.sound g).legal) w.1 before.passes at refl in
      let low = w.0 in
      let order : h.shut.0 < m.place = omega arith in
      let mine = met.closed m.place h.shut.0 (order, (Listed (Retired g), there, (Of g (Shut h.items), at_front log m.place h.shut.0 (Of g (Shut h.items)) order at, (h.items, refl)))) h.shut.1 in
      h.stays (own_back m.place (Listed (Retired g)) mine there)
