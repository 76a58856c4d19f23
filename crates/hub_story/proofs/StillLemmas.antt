-- What a pass had to call with it has behind a call.
use Rattle.std.proofs.Common.{◌≡◌, ◌==◌, ℕ, zero, suc, ◌+◌, ◌≤◌, ◌<◌, Bool, true, false, ◌||◌, List, [], ◌∷◌, ◌++◌, length, take, drop, refl, sym, ◌∙◌, ap, subst, arith, ⊎_elim, Option, length-append}
use Rattle.std.specs.List.{list_any}
use Rattle.std.proofs.lemmas.Bool.{or_parts, false_from_ne_true}
use mathlib.Core.Option.{some, some-injective, some-ne-none}
use lib.ListN.{get_elem?}
use Rattle.handle_model.specs.declared.entry.Asked.{Asked}
use Rattle.handle_model.specs.declared.entry.Outcome.{Outcome}
use Rattle.handle_model.specs.declared.entry.Said.{Said}
use Rattle.handle_model.specs.declared.entry.Entry.{Entry}
use Rattle.handle_model.specs.declared.entry.Entry.TheVariants.{Join, Accept, Take, Deny, Cancel, Orphan, End, Leave, Shut}
use Rattle.handle_model.specs.Bases.{empty_base}
use Rattle.handle_model.specs.History.{since}
use Rattle.handle_model.specs.Journal.{asked_since, slots_in, suit, leaves, ends, Legal}
use Rattle.handle_model.specs.CallLaws.{accepts}
use Rattle.handle_model.proofs.Older.{older_since}
use Rattle.handle_model.proofs.Stages.{decides_after_accept}
use Rattle.turn_lock.specs.Histories.{Within}
use Rattle.turn_lock.proofs.HistoryLemmas.{at_append, at_within}
use Rattle.hub_story.specs.declared.item.Mark.TheVariants.{Opened, Missed, Retired}
use Rattle.hub_story.specs.declared.item.Item.{Item}
use Rattle.hub_story.specs.declared.item.Item.TheVariants.{Begun, Listed, Of}
use Rattle.hub_story.specs.Histories.{home_of, past_in, journal_in}
use Rattle.hub_story.specs.Passes.{Seen, HasOwn, accepts_of, Serves, HasCall, Knows, Runs, HasShut, slots_seen}
use Rattle.hub_story.specs.Calls.{Enters}
use Rattle.hub_story.specs.Still.{IsNoneOf, StillHas}
use Rattle.hub_story.proofs.ItemLemmas.{past-append, at_whole, has_there, Found, found}
use Rattle.hub_story.proofs.PlaceLemmas.{asked_there, asked_in, legal_at, self_is}
use Rattle.hub_story.proofs.OwnLemmas.{an_accepted}
use Rattle.hub_story.proofs.HaveLemmas.{own_stays, own_was, seen_stays}

-- NONE OF THESE

none_at : (a : Item) (more : List Item) → IsNoneOf a more → (k : ℕ) → get_elem? more k ≡ some a → ⊥
none_at a [] n k at = some-ne-none a (sym at)
none_at a (b ∷ more) n zero at = n.0 (some-injective b a at)
none_at a (b ∷ more) n (suc k) at = none_at a more n.1 k at

-- an item after which its connection, call or group is over
abbrev pub is_last : Item → Bool
is_last (Of g (Leave c)) = true
is_last (Of g (End k results said)) = true
is_last (Of g (Join c)) = false
is_last (Of g (Accept k asked)) = false
is_last (Of g (Take k cookies)) = false
is_last (Of g (Deny k slot)) = false
is_last (Of g (Cancel k)) = false
is_last (Of g (Orphan k)) = false
is_last (Of g (Shut items)) = false
is_last (Listed (Retired g)) = true
is_last (Listed (Opened g)) = false
is_last (Listed (Missed g)) = false
is_last (Begun boot s) = false

none_more : (a : Item) (fewer more : List Item) → is_last a ≡ true → list_any is_last more ≡ false → IsNoneOf a fewer → IsNoneOf a (fewer ++ more)
none_more a [] [] last off n = n
none_more a [] (b ∷ more) last off n =
    let parts = or_parts (is_last b) (list_any is_last more) off in
    (λ e. let same = ap is_last e in let now = parts.0 in absurd cc, none_more a [] more last parts.1 n)
none_more a (b ∷ fewer) more last off n = (n.0, none_more a fewer more last off n.1)

-- behind these items nothing more is over
pub still_first : (v w : Seen) (fewer more : List Item) → list_any is_last more ≡ false → StillHas v w (fewer ++ more) → StillHas v w fewer
still_first v w fewer more off h = record {
  serves = λ g c n s. h.serves g c (none_more (Of g (Leave c)) fewer more refl off n) s;
  has_call = λ g c k n s. h.has_call g c k (none_more (Of g (Leave c)) fewer more refl off n) s;
  knows = h.knows;
  asks = h.asks;
  runs = λ g k results n s. h.runs g k results (λ others said. none_more (Of g (End k others said)) fewer more refl off (n others said)) s;
  has_shut = λ g n s. h.has_shut g (none_more (Listed (Retired g)) fewer more refl off n) s;
}

pub still_self : (v : Seen) → StillHas v v []
still_self v = record { serves = λ g c n s. s; has_call = λ g c k n s. s; knows = λ g k s. s; asks = λ g k s. refl; runs = λ g k results n s. s; has_shut = λ g n s. s }

-- WHAT WAS ASKED

-- a call that was taken was accepted
pub taken_known : (boot : ℕ) (v : Seen) (g k : ℕ) (cookies : List (Option ℕ)) → Legal (journal_in boot g v.log) → HasOwn v (Of g (Take k cookies)) → Knows v g k
taken_known boot v g k cookies legal taken =
    let u : ℕ = taken.0 in
    let before = decides_after_accept (journal_in boot g (take u v.log)) (past_in g (drop (suc u) v.log)) (Take k cookies) k (legal_at boot g v.log u (Take k cookies) legal taken.2) (self_is k) in
    let f = found g (take u v.log) (accepts k) (asked_there (past_in g (take u v.log)) k before) in
    let t = at_whole v.log u f.place (Of g f.entry) f.at in
    has_there g v.log f.place f.entry (accepts k) t.1 f.passes

module _ (boot s : ℕ) (v w : Seen) (between more : List Item) (e : Enters boot s v w between more) where
  legal_before : (g : ℕ) → Legal (journal_in boot g v.log)
  legal_before g =
      let front : Legal (since (home_of boot g) empty_base (past_in g more ++ past_in g (v.log ++ between))) =
      subst (λ l. Legal (since (home_of boot g) empty_base l)) (ap (past_in g) e.log ∙ past-append g (v.log ++ between) more) (e.story.sound g).legal in
      let middle = older_since (home_of boot g) empty_base (past_in g more) (past_in g (v.log ++ between)) front in
      older_since (home_of boot g) empty_base (past_in g between) (past_in g v.log) (subst (λ l. Legal (since (home_of boot g) empty_base l)) (past-append g v.log between) middle)

  asks_same : (g k : ℕ) → Knows v g k → slots_seen w g k ≡ slots_seen v g k
  asks_same g k known =
      let f = found g v.log (accepts k) known in
      let a = an_accepted k f.entry f.passes in
      let there : get_elem? v.log f.place ≡ some (Of g (Accept k a.asked)) = f.at ∙ ap (λ d. some (Of g d)) a.entry_is in
      let low = at_within v.log f.place (Of g (Accept k a.asked)) there in
      let n = length-append v.log between in
      let later : get_elem? w.log f.place ≡ some (Of g (Accept k a.asked)) =
      ap (λ l. get_elem? l f.place) e.log ∙ (at_append (v.log ++ between) more f.place (omega arith) ∙ (at_append v.log between f.place low ∙ there)) in
      ap slots_in (asked_in boot g w.log f.place k a.asked (e.story.sound g).legal later ∙ sym (asked_in boot g v.log f.place k a.asked (legal_before g) there))

  -- what is own now and none of these was own
  was_own : Within v.own (length v.log) → (a : Item) → IsNoneOf a more → HasOwn w a → HasOwn v a
  was_own within a n h = ⊎_elim (λ old. old) (λ new. absurd (none_at a more n new.0 new.1)) (own_was boot s v w between more e within a h)

  pub still_has : Within v.own (length v.log) → StillHas v w more
  still_has within = record {
    serves = still_serves;
    has_call = λ g c k n has. record { serves = still_serves g c n has.serves; accepted = seen_stays boot s v w between more e g (accepts_of c k) has.accepted };
    knows = λ g k known. seen_stays boot s v w between more e g (accepts k) known;
    asks = asks_same;
    runs = λ g k results n r. record {
      cookies = r.cookies;
      taken = own_stays boot s v w between more e (Of g (Take k r.cookies)) r.taken;
      runs = λ others said h. r.runs others said (was_own within (Of g (End k others said)) (n others said) h);
      suits = ap (λ ss. suit ss results) (asks_same g k (taken_known boot v g k r.cookies (legal_before g) r.taken)) ∙ r.suits;
    };
    has_shut = λ g n h. record {
      items = h.items;
      shut = own_stays boot s v w between more e (Of g (Shut h.items)) h.shut;
      stays = λ gone. h.stays (was_own within (Listed (Retired g)) n gone);
    };
  }
    where
      still_serves : (g c : ℕ) → IsNoneOf (Of g (Leave c)) more → Serves v g c → Serves w g c
      still_serves g c n serves = record {
        joined = own_stays boot s v w between more e (Of g (Join c)) serves.joined;
        stays = λ gone. serves.stays (was_own within (Of g (Leave c)) n gone);
      }

-- BY THE FRONT

-- a connection without a Leave in the front is the pass's still
pub serves_by_front : (v : Seen) (g c : ℕ) → HasOwn v (Of g (Join c)) → list_any (leaves c) (past_in g v.log) ≡ false → Serves v g c
serves_by_front v g c joined none = record {
  joined = joined;
  stays = λ gone. let there : list_any (leaves c) (past_in g v.log) ≡ true = has_there g v.log gone.0 (Leave c) (leaves c) gone.2 (self_is c) in absurd cc;
}

-- and a call without an End there runs
pub runs_by_front : (v : Seen) (g k : ℕ) (cookies : List (Option ℕ)) (results : List Outcome) → HasOwn v (Of g (Take k cookies)) → list_any (ends k) (past_in g v.log) ≡ false → suit (slots_seen v g k) results ≡ true → Runs v g k results
runs_by_front v g k cookies results taken none suits = record {
  cookies = cookies;
  taken = taken;
  runs = λ others said gone. let there : list_any (ends k) (past_in g v.log) ≡ true = has_there g v.log gone.0 (End k others said) (ends k) gone.2 (self_is k) in absurd cc;
  suits = suits;
}
