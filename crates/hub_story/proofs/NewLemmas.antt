-- A connection that joins and a call that is accepted have no entry before.
use Rattle.std.proofs.Common.{◌≡◌, ◌==◌, ℕ, suc, ◌+◌, ◌≤◌, ◌<◌, Bool, true, false, List, [], ◌∷◌, ◌++◌, length, take, drop, refl, sym, ◌∙◌, ap, subst, arith}
use Rattle.std.specs.List.{list_any}
use Rattle.std.proofs.lemmas.Bool.{false_from_ne_true}
use Rattle.std.proofs.lemmas.Bool.Decides.{nat_tests}
use mathlib.Core.Option.{some}
use lib.ListN.{get_elem?}
use Rattle.handle_model.specs.declared.entry.Asked.{Asked}
use Rattle.handle_model.specs.declared.entry.Entry.{Entry}
use Rattle.handle_model.specs.declared.entry.Entry.TheVariants.{Join, Accept, Take, Deny, Cancel, Orphan, End, Leave, Shut}
use Rattle.handle_model.specs.Journal.{joins, decides, takes, ends, Legal}
use Rattle.handle_model.specs.CallLaws.{accepts}
use Rattle.handle_model.proofs.Stages.{decides_after_accept}
use Rattle.turn_lock.proofs.HistoryLemmas.{at_append, at_within}
use Rattle.turn_lock.proofs.AddingLemmas.{at_behind}
use Rattle.hub_story.specs.declared.item.Item.{Item}
use Rattle.hub_story.specs.declared.item.Item.TheVariants.{Of}
use Rattle.hub_story.specs.Histories.{past_in, journal_in}
use Rattle.hub_story.specs.Passes.{Seen}
use Rattle.hub_story.specs.Calls.{of_conn, of_call, IsNewConn, IsNewCall, Enters}
use Rattle.hub_story.proofs.ItemLemmas.{at_whole, Found, found}
use Rattle.hub_story.proofs.PlaceLemmas.{legal_at, one_place, joined_once, accepted_once, self_is, asked_there, joined_before, left_behind, taken_before_end}
use Rattle.hub_story.proofs.ApartLemmas.{ATake, a_take}

module _ (boot g : ℕ) (log : List Item) (legal : Legal (journal_in boot g log)) where
  -- no entry of a connection stands before its Join
  conn_before : (c t r : ℕ) (e : Entry) → get_elem? log t ≡ some (Of g (Join c)) → get_elem? log r ≡ some (Of g e) → of_conn c e ≡ true → r < t → ⊥
  conn_before c t r (Join d) at is h early = let twice : t ≡ r = one_place g log (joins c) t r (Join c) (Join d) (joined_once boot g log c legal) at (self_is c) is h in omega arith
  conn_before c t r (Accept k a) at is h early =
      let same : c ≡ a.conn = grind (arith, nat_tests) in
      let order = joined_before boot g log t r k a legal (at ∙ ap (λ n. some (Of g (Join n))) same) is in omega arith
  conn_before c t r (Leave d) at is h early =
      let same : d ≡ c = grind (arith, nat_tests) in
      let order = left_behind boot g log t r c legal at (is ∙ ap (λ n. some (Of g (Leave n))) same) in omega arith
  conn_before c t r (Take k cookies) at is h early = absurd cc
  conn_before c t r (Deny k slot) at is h early = absurd cc
  conn_before c t r (Cancel k) at is h early = absurd cc
  conn_before c t r (Orphan k) at is h early = absurd cc
  conn_before c t r (End k results said) at is h early = absurd cc
  conn_before c t r (Shut items) at is h early = absurd cc

  -- and none of a call before its Accept
  decided_before : (k t r : ℕ) (a : Asked) (e : Entry) → get_elem? log t ≡ some (Of g (Accept k a)) → get_elem? log r ≡ some (Of g e) → decides k e ≡ true → r < t → ⊥
  decided_before k t r a e at is d early =
      let before = decides_after_accept (journal_in boot g (take r log)) (past_in g (drop (suc r) log)) e k (legal_at boot g log r e legal is) d in
      let f = found g (take r log) (accepts k) (asked_there (past_in g (take r log)) k before) in
      let w = at_whole log r f.place (Of g f.entry) f.at in
      let same : f.place ≡ t = one_place g log (accepts k) f.place t f.entry (Accept k a) (accepted_once boot g log k legal) w.1 f.passes at (self_is k) in
      let low = w.0 in omega arith

  call_before : (k t r : ℕ) (a : Asked) (e : Entry) → get_elem? log t ≡ some (Of g (Accept k a)) → get_elem? log r ≡ some (Of g e) → of_call k e ≡ true → r < t → ⊥
  call_before k t r a (Accept m b) at is h early =
      let twice : t ≡ r = one_place g log (accepts k) t r (Accept k a) (Accept m b) (accepted_once boot g log k legal) at (self_is k) is h in omega arith
  call_before k t r a (Take m cookies) at is h early = decided_before k t r a (Take m cookies) at is h early
  call_before k t r a (Deny m slot) at is h early = decided_before k t r a (Deny m slot) at is h early
  call_before k t r a (Cancel m) at is h early = decided_before k t r a (Cancel m) at is h early
  call_before k t r a (Orphan m) at is h early = decided_before k t r a (Orphan m) at is h early
  call_before k t r a (End m results said) at is h early =
      let f = taken_before_end boot g log r k (End m results said) legal is h in
      let w = at_whole log r f.place (Of g f.entry) f.at in
      let took = a_take k f.entry f.passes in
      let there : get_elem? log f.place ≡ some (Of g (Take k took.cookies)) = w.1 ∙ ap (λ e. some (Of g e)) took.entry_is in
      let low = w.0 in
      decided_before k t f.place a (Take k took.cookies) at there (self_is k) (omega arith)
  call_before k t r a (Join c) at is h early = absurd cc
  call_before k t r a (Leave c) at is h early = absurd cc
  call_before k t r a (Shut items) at is h early = absurd cc

module _ (boot s : ℕ) (v w : Seen) (between more : List Item) (e : Enters boot s v w between more) (g n : ℕ) where
  abbrev before : List Item
  before = v.log ++ between

  entered_at : (a : Item) → get_elem? more n ≡ some a → get_elem? w.log (length before + n) ≡ some a
  entered_at a at = ap (λ l. get_elem? l (length before + n)) e.log ∙ (at_behind before more n ∙ at)

  earlier_at : (r : ℕ) (a : Item) → get_elem? before r ≡ some a → (r < length before + n) × (get_elem? w.log r ≡ some a)
  earlier_at r a at = let low = at_within before r a at in (omega arith, ap (λ l. get_elem? l r) e.log ∙ (at_append before more r low ∙ at))

  pub new_conn : (c : ℕ) → get_elem? more n ≡ some (Of g (Join c)) → IsNewConn c (journal_in boot g before)
  new_conn c at = false_from_ne_true (list_any (of_conn c) (past_in g before)) (λ there.
      let f = found g before (of_conn c) there in
      let is = earlier_at f.place (Of g f.entry) f.at in
      conn_before boot g w.log (e.story.sound g).legal c (length before + n) f.place f.entry (entered_at (Of g (Join c)) at) is.1 f.passes is.0)

  pub new_call : (k : ℕ) (a : Asked) → get_elem? more n ≡ some (Of g (Accept k a)) → IsNewCall k (journal_in boot g before)
  new_call k a at = false_from_ne_true (list_any (of_call k) (past_in g before)) (λ there.
      let f = found g before (of_call k) there in
      let is = earlier_at f.place (Of g f.entry) f.at in
      call_before boot g w.log (e.story.sound g).legal k (length before + n) f.place a f.entry (entered_at (Of g (Accept k a)) at) is.1 f.passes is.0)
