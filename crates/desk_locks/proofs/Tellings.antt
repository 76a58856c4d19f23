-- What chains of passes come to.
use Rattle.std.proofs.Common.{◌≡◌, ◌≢◌, ◌≤◌, ℕ, Bool, List, [], ◌∷◌, ◌++◌, map, refl, sym, ap, subst, ◌∙◌, arith, append-nil}
use Rattle.std.specs.Prelude.{is_some}
use Rattle.std.specs.List.{AllByRecursion, flat_map}
use Rattle.std.proofs.lemmas.List.{flat_map_more}
use Rattle.turn_lock.specs.Histories.{StartsWith, AtMostOnce}
use Rattle.turn_lock.specs.Passes.{own}
use Rattle.turn_lock.proofs.HistoryLemmas.{starts_self, starts_trans}
use Rattle.handle_model.specs.declared.entry.DueItem.{DueItem}
use Rattle.manager_api.specs.Answers.{Ans}
use Rattle.manager_api.specs.Calls.{Call}
use Rattle.server_calls.specs.Chains.{Deed, answered, ran_down, Chain, stays, answers, downs, parts, goes_on, takes_back, Takes, begins, splits_off, takes_in, StartsFrom}
use Rattle.desk_told.specs.Deeds.{DeedForm}
use Rattle.desk_told.specs.Passes.{PassForm, history}
use Rattle.desk_locks.specs.declared.pass.SharedPass.{SharedPass}
use Rattle.desk_locks.specs.declared.shared.SharedDesks.{SharedDesks}
use Rattle.desk_locks.specs.Passes.{IsPassOf, Halves, Both, Splits, Joins}
use Rattle.desk_locks.specs.Keepers.{Place, place_for}
use Rattle.desk_locks.specs.Keepers as keepers
use Rattle.desk_locks.specs.Entering.{Enters, at_probe, at_store, at_endpoints, at_none}
use Rattle.desk_locks.specs.Rundowns.{RanDown, RanAt}
use Rattle.desk_locks.specs.Tellings.{number_of, iface_of, deeds_of, StandAt, Gains, HasAll, EachService, EachGains, EachHasAll, ChainsGain, Course, EachStandsOnce}
use Rattle.desk_locks.proofs.Standing.{its, others, deeds_append, stand_more, stand_append, gains_none, gains_same, gains_one, gains_on, gains_back}

-- ---- each of a list

module _ {A : Type 0} where
  all_snoc : (P : A → Type 0) (xs : List A) (x : A) → AllByRecursion P xs → P x → AllByRecursion P (xs ++ x ∷ [])
  all_snoc P [] x h p = (p, tt)
  all_snoc P (y ∷ ys) x h p = (h.0, all_snoc P ys x h.1 p)

  all_more : (P Q : A → Type 0) (xs : List A) → ((x : A) → P x → Q x) → AllByRecursion P xs → AllByRecursion Q xs
  all_more P Q [] f h = tt
  all_more P Q (x ∷ xs) f h = (f x h.0, all_more P Q xs f h.1)

-- ---- passes that are taken in

module _ {P S : Type 0} (splits joins : P → P → P → Type 0) (at : P → PassForm S) (halves : (p q o : P) → splits p q o → Halves (at p) (at q) (at o)) (both : (p o q : P) → joins p o q → Both (at p) (at o) (at q)) where
  pub takes : (p q : P) (os : List P) → Takes splits joins p os q
      → StartsWith (history (at q)) (history (at p)) × AllByRecursion (λ o. StartsWith (history (at q)) (history (at o))) os × (own (at q) ≡ own (at p) ++ flat_map (λ o. own (at o)) os)
  takes p q os begins = (starts_self (history (at p)), tt, sym (append-nil (own (at p))))
  takes p q os (splits_off {q = m} {other = other} t s) =
      let k = takes p m os t in
      let h = halves m q other s in (
        subst (λ l. StartsWith l (history (at p))) (sym h.seen) k.0,
        subst (λ l. AllByRecursion (λ o. StartsWith l (history (at o))) os) (sym h.seen) k.1,
        h.mine ∙ k.2,
      )
  takes p q os (takes_in {q = m} {other = other} {others = before} t j) =
      let k = takes p m before t in
      let b = both m other q j in (
        starts_trans (history (at q)) (history (at m)) (history (at p)) b.mine k.0,
        all_snoc (λ o. StartsWith (history (at q)) (history (at o))) before other
            (all_more (λ o. StartsWith (history (at m)) (history (at o))) (λ o. StartsWith (history (at q)) (history (at o))) before (λ o w. starts_trans (history (at q)) (history (at m)) (history (at o)) b.mine w) k.1)
            b.theirs,
        b.all ∙ ap (λ l. l ++ own (at other)) k.2 ∙ flat_map_more (λ o. own (at o)) (own (at p)) before other,
      )

-- ---- one service, by its passes in those of all

module _ {P S : Type 0} (enters : P → Call → Bool → Ans → P → Type 0) (runs_down : P → DueItem → P → Type 0) (splits joins : P → P → P → Type 0) (at : P → PassForm S) (n : ℕ) (echoes : Bool)
    (called : (p q : P) (c : Call) (told : Bool) (a : Ans) → enters p c told a q → Gains (at p) (deeds_of n echoes (answered c told a ∷ [])) (at q))
    (downed : (p q : P) (item : DueItem) → runs_down p item q → Gains (at p) (deeds_of n echoes (ran_down item ∷ [])) (at q))
    (halves : (p q o : P) → splits p q o → Halves (at p) (at q) (at o))
    (both : (p o q : P) → joins p o q → Both (at p) (at o) (at q)) where
  pub chain_gains : (p q : P) (ds : List Deed) → Chain enters runs_down splits joins p ds q → Gains (at p) (deeds_of n echoes ds) (at q)
  chain_gains p q ds stays = gains_same (at p) (at p) [] refl refl
  chain_gains p q ds (answers {c = c} {told = told} {answer = answer} e) = called p q c told answer e
  chain_gains p q ds (downs {item = item} e) = downed p q item e
  chain_gains p q ds (parts {other = other} s) =
      let h = halves p q other s in
      gains_none (at p) (at q) [] (subst (λ l. StartsWith (history (at q)) l) h.seen (starts_self (history (at q)))) h.mine refl
  chain_gains p q ds (goes_on {q = m} {ds = us} {es = vs} x y) =
      subst (λ l. Gains (at p) l (at q)) (sym (deeds_append n echoes us vs)) (gains_on (at p) (at m) (at q) (deeds_of n echoes us) (deeds_of n echoes vs) (chain_gains p m us x) (chain_gains m q vs y))
  chain_gains p q ds (takes_back {q = kept} {r = r} {other = other} {last = last} s x y j) =
      gains_back (at p) (at kept) (at r) (at other) (at last) (at q) (deeds_of n echoes ds) [] (halves p kept other s) refl (chain_gains kept r [] x) (chain_gains other last ds y) (both r last q j)

  -- a pass that was split off the first
  started : (p began : P) → StartsFrom splits joins p began → own (at began) ≡ []
  started p began s = (halves s.before s.after began s.splits_off).none

  -- what is there of passes of connections is in the history of a pass that has seen what they have
  all_stand : (p : P) (whole : List (DeedForm S)) (cs : List (Course P)) → AllByRecursion (λ c. StartsFrom splits joins p c.began × Chain enters runs_down splits joins c.began c.deeds c.last) cs
      → AllByRecursion (λ o. StartsWith whole (history (at o))) (map (λ c. c.last) cs) → StandAt whole (flat_map (λ o. own (at o)) (map (λ c. c.last) cs)) (deeds_of n echoes (flat_map (λ c. c.deeds) cs))
  all_stand p whole [] h w = tt
  all_stand p whole (c ∷ cs) h w =
      let g = chain_gains c.began c.last c.deeds h.0.1 in
      let mine : own (at c.last) ≡ g.places = g.own_is ∙ ap (λ l. l ++ g.places) (started p c.began h.0.0) in
      let here : StandAt whole (own (at c.last)) (deeds_of n echoes c.deeds) = subst (λ l. StandAt whole l (deeds_of n echoes c.deeds)) (sym mine) (stand_more (history (at c.last)) whole g.places (deeds_of n echoes c.deeds) w.0 g.stand) in
      subst (λ l. StandAt whole (own (at c.last) ++ flat_map (λ o. own (at o)) (map (λ c. c.last) cs)) l) (sym (deeds_append n echoes c.deeds (flat_map (λ c. c.deeds) cs)))
      (stand_append whole (own (at c.last)) (flat_map (λ o. own (at o)) (map (λ c. c.last) cs)) (deeds_of n echoes c.deeds) (deeds_of n echoes (flat_map (λ c. c.deeds) cs)) here (all_stand p whole cs h.1 w.1))

  pub has_all : (p q : P) (cs : List (Course P)) → AllByRecursion (λ c. StartsFrom splits joins p c.began × Chain enters runs_down splits joins c.began c.deeds c.last) cs
      → Takes splits joins p (map (λ c. c.last) cs) q → AtMostOnce (own (at q)) → HasAll (at p) (deeds_of n echoes (flat_map (λ c. c.deeds) cs)) (at q)
  has_all p q cs h t once = let k = takes splits joins at halves both p q (map (λ c. c.last) cs) t in record {
    seen = k.0;
    places = flat_map (λ o. own (at o)) (map (λ c. c.last) cs);
    own_is = k.2;
    stand = all_stand p (history (at q)) cs h k.1;
    once = once;
  }

-- ---- the services of a server

module _ (d : SharedDesks) where
  -- which service did the deed of a call
  abbrev OneOf : Bool → SharedPass → Deed → SharedPass → Type 0
  OneOf echoes p x q = EachGains echoes p (x ∷ []) q

  called : (p q : SharedPass) (c : Call) (told : Bool) (a : Ans) → Enters d p c told a q → OneOf (is_some d.echo) p (answered c told a) q
  called p q c told a (at_probe at e) = let x = answered c told a in record {
    probe = gains_one _ _ d.probe.first.value p.probe q.probe _ _ e.does (its 0 (is_some d.echo) x at);
    store = gains_same p.store q.store _ e.store (others 1 (is_some d.echo) x (omega (arith, at)));
    endpoints = gains_same p.endpoints q.endpoints _ e.endpoints (others 2 (is_some d.echo) x (omega (arith, at)));
  }
  called p q c told a (at_store at e) = let x = answered c told a in record {
    probe = gains_same p.probe q.probe _ e.probe (others 0 (is_some d.echo) x (omega (arith, at)));
    store = gains_one _ _ d.store.first.value p.store q.store _ _ e.does (its 1 (is_some d.echo) x at);
    endpoints = gains_same p.endpoints q.endpoints _ e.endpoints (others 2 (is_some d.echo) x (omega (arith, at)));
  }
  called p q c told a (at_endpoints at e) = let x = answered c told a in record {
    probe = gains_same p.probe q.probe _ e.probe (others 0 (is_some d.echo) x (omega (arith, at)));
    store = gains_same p.store q.store _ e.store (others 1 (is_some d.echo) x (omega (arith, at)));
    endpoints = gains_one _ _ d.endpoints.first.value p.endpoints q.endpoints _ _ e.does (its 2 (is_some d.echo) x at);
  }
  called p q c told a (at_none low e) = let x = answered c told a in record {
    probe = gains_same p.probe q.probe _ (ap (λ (r : SharedPass). r.probe) e) (others 0 (is_some d.echo) x (omega (arith, low)));
    store = gains_same p.store q.store _ (ap (λ (r : SharedPass). r.store) e) (others 1 (is_some d.echo) x (omega (arith, low)));
    endpoints = gains_same p.endpoints q.endpoints _ (ap (λ (r : SharedPass). r.endpoints) e) (others 2 (is_some d.echo) x (omega (arith, low)));
  }

  none : (p q : SharedPass) (item : DueItem) (m : ℕ) → q ≡ p → number_of (place_for (is_some d.echo) item.kind) ≡ m → 3 ≤ m → OneOf (is_some d.echo) p (ran_down item) q
  none p q item m e at high = let x = ran_down item in record {
    probe = gains_same p.probe q.probe _ (ap (λ (r : SharedPass). r.probe) e) (others 0 (is_some d.echo) x (omega (arith, at, high)));
    store = gains_same p.store q.store _ (ap (λ (r : SharedPass). r.store) e) (others 1 (is_some d.echo) x (omega (arith, at, high)));
    endpoints = gains_same p.endpoints q.endpoints _ (ap (λ (r : SharedPass). r.endpoints) e) (others 2 (is_some d.echo) x (omega (arith, at, high)));
  }

  downed_at : (place : Place) (p q : SharedPass) (item : DueItem) → place ≡ place_for (is_some d.echo) item.kind → RanAt place d p item q → OneOf (is_some d.echo) p (ran_down item) q
  downed_at keepers.at_probe p q item is e = let x = ran_down item in let at : number_of (place_for (is_some d.echo) item.kind) ≡ 0 = sym (ap number_of is) in record {
    probe = gains_one _ _ d.probe.first.value p.probe q.probe _ _ e.does (its 0 (is_some d.echo) x at);
    store = gains_same p.store q.store _ e.store (others 1 (is_some d.echo) x (omega (arith, at)));
    endpoints = gains_same p.endpoints q.endpoints _ e.endpoints (others 2 (is_some d.echo) x (omega (arith, at)));
  }
  downed_at keepers.at_store p q item is e = let x = ran_down item in let at : number_of (place_for (is_some d.echo) item.kind) ≡ 1 = sym (ap number_of is) in record {
    probe = gains_same p.probe q.probe _ e.probe (others 0 (is_some d.echo) x (omega (arith, at)));
    store = gains_one _ _ d.store.first.value p.store q.store _ _ e.does (its 1 (is_some d.echo) x at);
    endpoints = gains_same p.endpoints q.endpoints _ e.endpoints (others 2 (is_some d.echo) x (omega (arith, at)));
  }
  downed_at keepers.at_endpoints p q item is e = let x = ran_down item in let at : number_of (place_for (is_some d.echo) item.kind) ≡ 2 = sym (ap number_of is) in record {
    probe = gains_same p.probe q.probe _ e.probe (others 0 (is_some d.echo) x (omega (arith, at)));
    store = gains_same p.store q.store _ e.store (others 1 (is_some d.echo) x (omega (arith, at)));
    endpoints = gains_one _ _ d.endpoints.first.value p.endpoints q.endpoints _ _ e.does (its 2 (is_some d.echo) x at);
  }
  downed_at keepers.at_management p q item is e = none p q item 3 e (sym (ap number_of is)) (omega arith)
  downed_at keepers.at_echo p q item is e = none p q item 4 e (sym (ap number_of is)) (omega arith)

  downed : (p q : SharedPass) (item : DueItem) → RanDown d p item q → OneOf (is_some d.echo) p (ran_down item) q
  downed p q item e = downed_at (place_for (is_some d.echo) item.kind) p q item refl e

  gains : (p q : SharedPass) (ds : List Deed) → Chain (Enters d) (RanDown d) Splits Joins p ds q → EachGains (is_some d.echo) p ds q
  gains p q ds x = record {
    probe = chain_gains (Enters d) (RanDown d) Splits Joins (λ r. r.probe) 0 (is_some d.echo) (λ a b c t o e. (called a b c t o e).probe) (λ a b item e. (downed a b item e).probe) (λ a b o s. s.probe) (λ a o b j. j.probe) p q ds x;
    store = chain_gains (Enters d) (RanDown d) Splits Joins (λ r. r.store) 1 (is_some d.echo) (λ a b c t o e. (called a b c t o e).store) (λ a b item e. (downed a b item e).store) (λ a b o s. s.store) (λ a o b j. j.store) p q ds x;
    endpoints = chain_gains (Enters d) (RanDown d) Splits Joins (λ r. r.endpoints) 2 (is_some d.echo) (λ a b c t o e. (called a b c t o e).endpoints) (λ a b item e. (downed a b item e).endpoints) (λ a b o s. s.endpoints) (λ a o b j. j.endpoints) p q ds x;
  }

  stands_once : (p q : SharedPass) (cs : List (Course SharedPass)) → AllByRecursion (λ c. StartsFrom Splits Joins p c.began × Chain (Enters d) (RanDown d) Splits Joins c.began c.deeds c.last) cs
      → Takes Splits Joins p (map (λ c. c.last) cs) q → IsPassOf d q → EachHasAll (is_some d.echo) p (flat_map (λ c. c.deeds) cs) q
  stands_once p q cs h t is = record {
    probe = has_all (Enters d) (RanDown d) Splits Joins (λ r. r.probe) 0 (is_some d.echo) (λ a b c t o e. (called a b c t o e).probe) (λ a b item e. (downed a b item e).probe) (λ a b o s. s.probe) (λ a o b j. j.probe) p q cs h t is.probe.once;
    store = has_all (Enters d) (RanDown d) Splits Joins (λ r. r.store) 1 (is_some d.echo) (λ a b c t o e. (called a b c t o e).store) (λ a b item e. (downed a b item e).store) (λ a b o s. s.store) (λ a o b j. j.store) p q cs h t is.store.once;
    endpoints = has_all (Enters d) (RanDown d) Splits Joins (λ r. r.endpoints) 2 (is_some d.echo) (λ a b c t o e. (called a b c t o e).endpoints) (λ a b item e. (downed a b item e).endpoints) (λ a b o s. s.endpoints) (λ a o b j. j.endpoints) p q cs h t is.endpoints.once;
  }

pub chains_gain : ChainsGain
chains_gain = gains

pub each_stands_once : EachStandsOnce
each_stands_once d p q cs h t is = stands_once d p q cs h t is
