-- What others entered has nothing of a pass's own connections, nor of their calls.
use Rattle.std.proofs.Common.{◌≡◌, ◌==◌, ℕ, suc, ◌+◌, ◌≤◌, ◌<◌, ◌&&◌, Bool, true, false, Option, List, ◌∷◌, ◌++◌, length, take, refl, sym, ap, ◌∙◌, subst, arith}
use Rattle.std.specs.List.{list_any}
use Rattle.std.proofs.lemmas.Bool.{false_from_ne_true}
use Rattle.std.proofs.lemmas.Bool.Decides.{nat_tests}
use mathlib.Core.Option.{some}
use lib.ListN.{get_elem?}
use Rattle.handle_model.specs.declared.entry.Asked.{Asked}
use Rattle.handle_model.specs.declared.entry.Entry.{Entry}
use Rattle.handle_model.specs.declared.entry.Entry.TheVariants.{Join, Accept, Take, Deny, Cancel, Orphan, End, Leave, Shut}
use Rattle.handle_model.specs.Journal.{joins, decides, takes, ends, Legal}
use Rattle.handle_model.proofs.Tests.{and_left, and_right}
use Rattle.handle_model.specs.CallLaws.{accepts}
use Rattle.turn_lock.specs.Histories.{times, Tied, Closed, Within}
use Rattle.turn_lock.proofs.HistoryLemmas.{at_append, at_within}
use Rattle.turn_lock.proofs.AddingLemmas.{at_behind}
use Rattle.hub_story.specs.declared.item.Item.{Item}
use Rattle.hub_story.specs.declared.item.Item.TheVariants.{Listed, Of}
use Rattle.hub_story.specs.Histories.{past_in, journal_in}
use Rattle.hub_story.specs.Ties.{IsTakeOf, ties}
use Rattle.hub_story.specs.Passes.{Seen, HasOwn, accepts_of}
use Rattle.hub_story.specs.Calls.{of_conn, of_call, Apart}
use Rattle.hub_story.proofs.ItemLemmas.{at_front, at_whole, Found, found}
use Rattle.hub_story.proofs.PlaceLemmas.{one_place, joined_once, accepted_once, self_is, decides_tied, taken_before_end}

-- an Accept that `accepts_of` takes
pub record AnAccept (c k : ℕ) (e : Entry) : Type 0 where
  pub asked : Asked
  pub conn_is : asked.conn ≡ c
  pub entry_is : e ≡ Accept k asked

pub an_accept : (c k : ℕ) (e : Entry) → accepts_of c k e ≡ true → AnAccept c k e
an_accept c k (Accept m a) h =
    let first = and_left (m == k) (a.conn == c) h in
    let second = and_right (m == k) (a.conn == c) h in
    let same : m ≡ k = grind (arith, nat_tests) in
    record { asked = a; conn_is = grind (arith, nat_tests); entry_is = ap (λ n. Accept n a) same }
an_accept c k (Join d) h = absurd cc
an_accept c k (Take m cookies) h = absurd cc
an_accept c k (Deny m slot) h = absurd cc
an_accept c k (Cancel m) h = absurd cc
an_accept c k (Orphan m) h = absurd cc
an_accept c k (End m results said) h = absurd cc
an_accept c k (Leave d) h = absurd cc
an_accept c k (Shut items) h = absurd cc

-- a Take
pub record ATake (k : ℕ) (e : Entry) : Type 0 where
  pub cookies : List (Option ℕ)
  pub entry_is : e ≡ Take k cookies

pub a_take : (k : ℕ) (e : Entry) → takes k e ≡ true → ATake k e
a_take k (Take m cookies) h = let same : m ≡ k = grind (arith, nat_tests) in record { cookies = cookies; entry_is = ap (λ n. Take n cookies) same }
a_take k (Join d) h = absurd cc
a_take k (Accept m a) h = absurd cc
a_take k (Deny m slot) h = absurd cc
a_take k (Cancel m) h = absurd cc
a_take k (Orphan m) h = absurd cc
a_take k (End m results said) h = absurd cc
a_take k (Leave d) h = absurd cc
a_take k (Shut items) h = absurd cc

module _ (boot : ℕ) (v : Seen) (between : List Item) (within : Within v.own (length v.log)) (closed : Closed ties (v.log ++ between) v.own)
    (legal : (g : ℕ) → Legal (journal_in boot g (v.log ++ between))) where
  abbrev pub all : List Item
  all = v.log ++ between

  -- what others entered isn't own
  pub not_own : (r p : ℕ) → length v.log ≤ r → Tied ties all r p → 0 < times p v.own → ⊥
  not_own r p low t mine = let own_too = closed r p t mine in let high = within r own_too in omega arith

  pub seen_at : (q : ℕ) (a : Item) → get_elem? v.log q ≡ some a → (q < length v.log) × (get_elem? all q ≡ some a)
  seen_at q a at = let low = at_within v.log q a at in (low, at_append v.log between q low ∙ at)

  conns_entry : (g c r p : ℕ) (e : Entry) → length v.log ≤ r → p < length v.log → 0 < times p v.own → get_elem? all p ≡ some (Of g (Join c)) → get_elem? all r ≡ some (Of g e) → of_conn c e ≡ true → ⊥
  conns_entry g c r p (Join d) late low mine at is h =
      let twice : p ≡ r = one_place g all (joins c) p r (Join c) (Join d) (joined_once boot g all c (legal g)) at (self_is c) is h in omega arith
  conns_entry g c r p (Accept k a) late low mine at is h =
      let same : c ≡ a.conn = grind (arith, nat_tests) in
      let before : p < r = omega arith in
      not_own r p late (before, (Of g (Accept k a), is, (Of g (Join c), at_front all r p (Of g (Join c)) before at, ap (λ n. Of g (Join n)) same))) mine
  conns_entry g c r p (Leave d) late low mine at is h =
      let same : c ≡ d = grind (arith, nat_tests) in
      let before : p < r = omega arith in
      not_own r p late (before, (Of g (Leave d), is, (Of g (Join c), at_front all r p (Of g (Join c)) before at, ap (λ n. Of g (Join n)) same))) mine
  conns_entry g c r p (Take k cookies) late low mine at is h = absurd cc
  conns_entry g c r p (Deny k slot) late low mine at is h = absurd cc
  conns_entry g c r p (Cancel k) late low mine at is h = absurd cc
  conns_entry g c r p (Orphan k) late low mine at is h = absurd cc
  conns_entry g c r p (End k results said) late low mine at is h = absurd cc
  conns_entry g c r p (Shut items) late low mine at is h = absurd cc

  others_conns : (g c : ℕ) → HasOwn v (Of g (Join c)) → list_any (of_conn c) (past_in g between) ≡ true → ⊥
  others_conns g c mine there =
      let f = found g between (of_conn c) there in
      let at = seen_at mine.0 (Of g (Join c)) mine.2 in
      let late : length v.log ≤ length v.log + f.place = omega arith in
      conns_entry g c (length v.log + f.place) mine.0 f.entry late at.0 mine.1 at.1 (at_behind v.log between f.place ∙ f.at) f.passes

  -- a Take, Deny, Cancel or Orphan of an own call is own
  pub decides_own : (g k p t u : ℕ) (a : Asked) (e : Entry) → 0 < times p v.own → get_elem? all p ≡ some (Of g (Join a.conn)) → get_elem? all t ≡ some (Of g (Accept k a)) → get_elem? all u ≡ some (Of g e) → decides k e ≡ true → 0 < times u v.own
  decides_own g k p t u a e mine at too there d = closed u p (decides_tied boot g all p t u k a e (legal g) at too there d) mine

  -- an End behind an own Take is own
  pub end_tied : (g k r u : ℕ) (cookies : List (Option ℕ)) (e : Entry) → get_elem? all u ≡ some (Of g (Take k cookies)) → get_elem? all r ≡ some (Of g e) → ends k e ≡ true → u < r → Tied ties all r u
  end_tied g k r u cookies (End m results said) at is h before =
      let same : k ≡ m = grind (arith, nat_tests) in
      (before, (Of g (End m results said), is, (Of g (Take k cookies), at_front all r u (Of g (Take k cookies)) before at, (cookies, ap (λ n. Of g (Take n cookies)) same))))
  end_tied g k r u cookies (Join d) at is h before = absurd cc
  end_tied g k r u cookies (Accept m a) at is h before = absurd cc
  end_tied g k r u cookies (Take m others) at is h before = absurd cc
  end_tied g k r u cookies (Deny m slot) at is h before = absurd cc
  end_tied g k r u cookies (Cancel m) at is h before = absurd cc
  end_tied g k r u cookies (Orphan m) at is h before = absurd cc
  end_tied g k r u cookies (Leave d) at is h before = absurd cc
  end_tied g k r u cookies (Shut items) at is h before = absurd cc

  decided_entry : (g k p t r : ℕ) (a : Asked) (e : Entry) → length v.log ≤ r → 0 < times p v.own → get_elem? all p ≡ some (Of g (Join a.conn)) → get_elem? all t ≡ some (Of g (Accept k a)) → get_elem? all r ≡ some (Of g e) → decides k e ≡ true → ⊥
  decided_entry g k p t r a e late mine at too is d = let own_too = decides_own g k p t r a e mine at too is d in let high = within r own_too in omega arith

  calls_entry : (g k p t r : ℕ) (a : Asked) (e : Entry) → length v.log ≤ r → t < length v.log → 0 < times p v.own → get_elem? all p ≡ some (Of g (Join a.conn)) → get_elem? all t ≡ some (Of g (Accept k a)) → get_elem? all r ≡ some (Of g e) → of_call k e ≡ true → ⊥
  calls_entry g k p t r a (Accept m b) late low mine at too is h =
      let twice : t ≡ r = one_place g all (accepts k) t r (Accept k a) (Accept m b) (accepted_once boot g all k (legal g)) too (self_is k) is h in omega arith
  calls_entry g k p t r a (Take m cookies) late low mine at too is h = decided_entry g k p t r a (Take m cookies) late mine at too is h
  calls_entry g k p t r a (Deny m slot) late low mine at too is h = decided_entry g k p t r a (Deny m slot) late mine at too is h
  calls_entry g k p t r a (Cancel m) late low mine at too is h = decided_entry g k p t r a (Cancel m) late mine at too is h
  calls_entry g k p t r a (Orphan m) late low mine at too is h = decided_entry g k p t r a (Orphan m) late mine at too is h
  calls_entry g k p t r a (End m results said) late low mine at too is h =
      let f = taken_before_end boot g all r k (End m results said) (legal g) is h in
      let w = at_whole all r f.place (Of g f.entry) f.at in
      let take_ = a_take k f.entry f.passes in
      let there : get_elem? all f.place ≡ some (Of g (Take k take_.cookies)) = w.1 ∙ ap (λ e. some (Of g e)) take_.entry_is in
      let own_too = decides_own g k p t f.place a (Take k take_.cookies) mine at too there (self_is k) in
      not_own r f.place late (end_tied g k r f.place take_.cookies (End m results said) there is h w.0) own_too
  calls_entry g k p t r a (Join c) late low mine at too is h = absurd cc
  calls_entry g k p t r a (Leave c) late low mine at too is h = absurd cc
  calls_entry g k p t r a (Shut items) late low mine at too is h = absurd cc

  others_calls : (g c k : ℕ) → HasOwn v (Of g (Join c)) → list_any (accepts_of c k) (past_in g v.log) ≡ true → list_any (of_call k) (past_in g between) ≡ true → ⊥
  others_calls g c k mine known there =
      let f = found g between (of_call k) there in
      let b = found g v.log (accepts_of c k) known in
      let acc = an_accept c k b.entry b.passes in
      let at = seen_at mine.0 (Of g (Join c)) mine.2 in
      let too = seen_at b.place (Of g (Accept k acc.asked)) (b.at ∙ ap (λ e. some (Of g e)) acc.entry_is) in
      let late : length v.log ≤ length v.log + f.place = omega arith in
      calls_entry g k mine.0 b.place (length v.log + f.place) acc.asked f.entry late too.0 mine.1
      (at.1 ∙ ap (λ n. some (Of g (Join n))) (sym acc.conn_is)) too.1 (at_behind v.log between f.place ∙ f.at) f.passes

  pub others_apart : Apart v between
  others_apart = record {
    conns = λ h c mine. false_from_ne_true (list_any (of_conn c) (past_in h between)) (λ t. others_conns h c mine t);
    calls = λ h c k mine known. false_from_ne_true (list_any (of_call k) (past_in h between)) (λ t. others_calls h c k mine known t);
  }
