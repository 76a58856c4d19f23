-- What a pass entered and is still open stays in each front since then.
use Rattle.std.proofs.Common.{◌≡◌, ℕ, suc, Bool, true, false, not, Option, List, [], ◌∷◌, ◌++◌, take, drop, refl, sym, ◌∙◌, ap}
use Rattle.std.specs.List.{list_any}
use Rattle.std.proofs.lemmas.Bool.{or_parts, not-true}
use Rattle.std.proofs.lemmas.List.Folds.{list_any-append}
use mathlib.Core.Option.{some}
use lib.ListN.{get_elem?}
use Rattle.turn_lock.specs.Histories.{StartsWith}
use Rattle.turn_lock.proofs.HistoryLemmas.{at_append, at_within}
use Rattle.handle_model.specs.declared.entry.Asked.{Asked}
use Rattle.handle_model.specs.declared.entry.DueItem.{DueItem}
use Rattle.handle_model.specs.declared.entry.Slot.{Slot}
use Rattle.handle_model.specs.declared.entry.Slot.TheVariants.{Shares, Holds, Changes, Opens}
use Rattle.handle_model.specs.declared.entry.Outcome.{Outcome}
use Rattle.handle_model.specs.declared.entry.Outcome.TheVariants.{Close, Nothing}
use Rattle.handle_model.specs.declared.entry.Said.{Said}
use Rattle.handle_model.specs.declared.entry.Entry.{Entry}
use Rattle.handle_model.specs.declared.entry.Entry.TheVariants.{Join, Accept, Take, End, Shut}
use Rattle.handle_model.specs.Journal.{Legal, suit, joins, leaves, takes, ends, has_joined, is_open, is_taken, runs}
use Rattle.handle_model.proofs.Held.{and_right}
use Rattle.journal_tables.specs.Kept.{Keeps}
use Rattle.hub_story.specs.declared.item.Item.{Item}
use Rattle.hub_story.specs.declared.item.Item.TheVariants.{Of}
use Rattle.hub_story.specs.Histories.{home_of, past_in, journal_in}
use Rattle.hub_story.specs.Passes.{Seen, HasOwn, Serves, HasCall, accepts_of, slots_seen}
use Rattle.hub_story.specs.Calls.{Met}
use Rattle.hub_story.proofs.ItemLemmas.{past-append, past_at, has_there, found}
use Rattle.hub_story.proofs.PlaceLemmas.{self_is, since_false}
use Rattle.hub_story.proofs.ApartLemmas.{an_accept}
use Rattle.hub_story.proofs.OwnLemmas.{serves_open, runs_there}
use Rattle.hub_story.specs.FrontLaws.{kept_in}
use Rattle.hub_story.specs.Open.{StaysIn, HasOpen}
use Rattle.hub_story.proofs.PrefixLemmas.{front_legal}
use Rattle.hub_story.proofs.OpenLemmas.{but_not, joins_stay, calls_stay, takes_stay, shuts_stay}

-- there are results that suit
abbrev results_of : List Slot → List Outcome
results_of [] = []
results_of (Shares k w ∷ ss) = Nothing ∷ results_of ss
results_of (Holds k w ∷ ss) = Nothing ∷ results_of ss
results_of (Changes k w ∷ ss) = Close ∷ results_of ss
results_of (Opens k serial ∷ ss) = Nothing ∷ results_of ss

they_suit : (ss : List Slot) → suit ss (results_of ss) ≡ true
they_suit [] = refl
they_suit (Shares k w ∷ ss) = they_suit ss
they_suit (Holds k w ∷ ss) = they_suit ss
they_suit (Changes k w ∷ ss) = they_suit ss
they_suit (Opens k serial ∷ ss) = they_suit ss

module _ (boot s : ℕ) (v : Seen) (front history : List Item) (met : Met boot s v history) (seen : StartsWith front v.log) (known : StartsWith history front) where
  legal : (g : ℕ) → Legal (journal_in boot g front)
  legal g = front_legal boot s g history front met.story known

  seen_at : (q : ℕ) (a : Item) → get_elem? v.log q ≡ some a → get_elem? front q ≡ some a
  seen_at q a at = let low = at_within v.log q a at in ap (λ l. get_elem? l q) seen.1 ∙ (at_append v.log seen.0 q low ∙ at)

  -- what the history hasn't, the front hasn't
  none_there : (g : ℕ) (test : Entry → Bool) → list_any test (past_in g history) ≡ false → list_any test (past_in g front) ≡ false
  none_there g test n =
      let is : past_in g history ≡ past_in g known.0 ++ past_in g front = ap (past_in g) known.1 ∙ past-append g front known.0 in
      (or_parts (list_any test (past_in g known.0)) (list_any test (past_in g front)) (sym (list_any-append test (past_in g known.0) (past_in g front)) ∙ (sym (ap (list_any test) is) ∙ n))).1

  stays_at : (g p : ℕ) (e : Entry) → get_elem? front p ≡ some (Of g e) → Keeps (kept_in boot g front) (past_in g (drop (suc p) front)) e → StaysIn boot g front e
  stays_at g p e at k = record { newer = past_in g (drop (suc p) front); older = past_in g (take p front); past_is = past_at g front p e at; kept = k }

  open_there : (g c : ℕ) → Serves v g c → is_open (journal_in boot g front) c ≡ true
  open_there g c serves =
      let o = serves_open boot s v history met g c serves in
      let gone = none_there g (leaves c) (not-true (list_any (leaves c) (past_in g history)) (and_right (has_joined (journal_in boot g history) c) (not (list_any (leaves c) (past_in g history))) o)) in
      let at = seen_at serves.joined.0 (Of g (Join c)) serves.joined.2 in
      but_not (has_joined (journal_in boot g front) c) (list_any (leaves c) (past_in g front)) (since_false (joins c) (past_in g front) ∙ has_there g front serves.joined.0 (Join c) (joins c) at (self_is c)) gone

  own_joins : (g c : ℕ) → Serves v g c → StaysIn boot g front (Join c)
  own_joins g c serves =
      let p : ℕ = serves.joined.0 in
      let at = seen_at p (Of g (Join c)) serves.joined.2 in
      stays_at g p (Join c) at (joins_stay (home_of boot g) (past_in g front) (past_in g (drop (suc p) front)) (past_in g (take p front)) c (legal g) (past_at g front p (Join c) at) (open_there g c serves))

  own_accepts : (g c k : ℕ) → HasCall v g c k → (a : Asked) × (a.conn ≡ c) × StaysIn boot g front (Accept k a)
  own_accepts g c k has =
      let f = found g v.log (accepts_of c k) has.accepted in
      let a = an_accept c k f.entry f.passes in
      let p : ℕ = f.place in
      let at = seen_at p (Of g (Accept k a.asked)) (f.at ∙ ap (λ d. some (Of g d)) a.entry_is) in
      let open_ : is_open (journal_in boot g front) a.asked.conn ≡ true = ap (is_open (journal_in boot g front)) a.conn_is ∙ open_there g c has.serves in (
        a.asked,
        a.conn_is,
        stays_at g p (Accept k a.asked) at
            (calls_stay (home_of boot g) (past_in g front) (past_in g (drop (suc p) front)) (past_in g (take p front)) k a.asked (legal g) (past_at g front p (Accept k a.asked) at) open_),
      )

  own_takes : (g k : ℕ) (cookies : List (Option ℕ)) → HasOwn v (Of g (Take k cookies)) → ((results : List Outcome) (said : Said) → HasOwn v (Of g (End k results said)) → ⊥) → StaysIn boot g front (Take k cookies)
  own_takes g k cookies own never =
      let results : List Outcome = results_of (slots_seen v g k) in
      let r = runs_there boot s v history met g k results (record { cookies = cookies; taken = own; runs = never; suits = they_suit (slots_seen v g k) }) in
      let gone = none_there g (ends k) (not-true (list_any (ends k) (past_in g history)) (and_right (is_taken (journal_in boot g history) k) (not (list_any (ends k) (past_in g history))) r)) in
      let p : ℕ = own.0 in
      let at = seen_at p (Of g (Take k cookies)) own.2 in
      let there : runs (journal_in boot g front) k ≡ true =
      but_not (is_taken (journal_in boot g front) k) (list_any (ends k) (past_in g front)) (since_false (takes k) (past_in g front) ∙ has_there g front p (Take k cookies) (takes k) at (self_is k)) gone in
      stays_at g p (Take k cookies) at (takes_stay (home_of boot g) (past_in g front) (past_in g (drop (suc p) front)) (past_in g (take p front)) k cookies (legal g) (past_at g front p (Take k cookies) at) there)

  own_shuts : (g : ℕ) (items : List DueItem) → HasOwn v (Of g (Shut items)) → StaysIn boot g front (Shut items)
  own_shuts g items own =
      let p : ℕ = own.0 in
      let at = seen_at p (Of g (Shut items)) own.2 in
      stays_at g p (Shut items) at (shuts_stay (home_of boot g) (past_in g front) (past_in g (drop (suc p) front)) (past_in g (take p front)) items (legal g) (past_at g front p (Shut items) at))

  pub own_stays : HasOpen boot v front
  own_stays = record { joins = own_joins; accepts = own_accepts; takes = own_takes; shuts = own_shuts }
