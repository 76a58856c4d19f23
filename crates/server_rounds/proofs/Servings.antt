-- A round in the middle, one step on.
use Rattle.std.proofs.Common.{◌≡◌, ◌∙◌, ◌==◌, true, ℕ, ◌+◌, ◌<◌, ◌≤◌, Bool, arith, length, vec_len, vec_capacity, List, [], ◌∷◌, ◌++◌, refl, sym, ap, ap₂, subst, map, append_assoc}
use Rattle.std.specs.List.{AllByRecursion}
use Rattle.std.specs.VecDeque.{deque_len, deque_capacity}
use Rattle.std.proofs.lemmas.Bool.{eqb-true}
use Rattle.std.proofs.lemmas.List.{map-append, append-nil, length-map}
use Rattle.rpc_outside.specs.Links.{Shown, IsNew}
use Rattle.ndr_table.specs.Tables.{TableForm}
use Rattle.manager_api.specs.Answers.{Ans}
use Rattle.manager_api.specs.Calls.{Call}
use Rattle.hub_story.specs.Passes.{halved}
use Rattle.group_hub.specs.ShardPasses.{Merges}
use Rattle.group_hub.specs.declared.hub.Hub.{Hub}
use Rattle.group_hub.specs.declared.pass.Pass.{Pass}
use Rattle.group_hub.specs.Passes.{IsPassOf, at_shard}
use Rattle.server_rounds.specs.declared.settled.Settled.{Settled}
use Rattle.server_rounds.specs.declared.running.Running.{Running}
use Rattle.server_rounds.specs.declared.running.Promised.{Promised}
use Rattle.server_rounds.specs.declared.serving.Serving.{Serving}
use Rattle.server_rounds.specs.declared.round.Round.{Round}
use Rattle.server_rounds.specs.Passes.{StartsFrom, TakesIn}
use Rattle.server_rounds.specs.Served.{AreNumbers, IsServed, IsSettled, finished_of}
use Rattle.server_rounds.specs.Running.{Keeps, WillKeep}
use Rattle.rpc_outside.specs.Doors.{DoorShown}
use Rattle.server_rounds.specs.Rounds.{came, passes, HandsOutAll, Stops, IsRound}
use Rattle.server_rounds.specs.Serving.{IsRunning, Stands, IsServing, HasRoom, links_of}
use Rattle.server_rounds.specs.Serving as serving
use Rattle.server_rounds.proofs.Lists.{all_snoc}
use Rattle.server_rounds.proofs.Takes.{takes_none, takes_same, takes_more, starts_from}

module _ {S K P : Type 0} (shows : K → Shown) (may : S → Call → Bool → Ans → Type 0) (tables : S → List TableForm) (h : Hub) where
  pub stands_none : (v : S) (p : Pass) → IsPassOf h p → Stands {P = P} shows may tables h v p p [] []
  stands_none v p of = record { pass = of; takes = takes_none p; settled = tt; served = tt }

  pub is_running : (v : S) (p q o : Pass) (finished : List (Settled K)) (running : List (Running S K P)) (r : Running S K P) (link : K)
      → Stands shows may tables h v p q finished running → ((s : ℕ) → s < 16 → at_shard o s ≡ halved (at_shard q s)) → IsNew (shows link)
      → r.promise.service.value ≡ v → r.promise.hub.value ≡ h → r.promise.began.value ≡ o → r.promise.came.value ≡ link → WillKeep shows may tables r.place r.promise
      → IsRunning shows may tables h v p r
  is_running v p q o finished running r link st half new service hub began came_is kept = record {
    service_is = service;
    hub_is = hub;
    new = subst (λ k. IsNew (shows k)) (sym came_is) new;
    starts = subst (StartsFrom p) (sym began) (starts_from p q o (passes finished) st.takes half);
    kept = kept;
  }

  pub stands_more : (v : S) (p q q2 : Pass) (finished : List (Settled K)) (running : List (Running S K P)) (r : Running S K P)
      → Stands shows may tables h v p q finished running → IsPassOf h q2 → ((s : ℕ) → at_shard q2 s ≡ at_shard q s) → IsRunning shows may tables h v p r
      → Stands shows may tables h v p q2 finished (running ++ r ∷ [])
  stands_more v p q q2 finished running r st of same more = record {
    pass = of;
    takes = takes_same p q q2 (passes finished) st.takes same;
    settled = st.settled;
    served = all_snoc (IsRunning shows may tables h v p) running r st.served more;
  }

  served_as : (v : S) (x : Promised S K P) (c : Settled K) → x.service.value ≡ v → x.hub.value ≡ h → c.came.value ≡ x.came.value → c.began.value ≡ x.began.value
      → Keeps shows may tables x (finished_of c) → IsServed shows (may v) (tables v) h c.began.value c.came.value (finished_of c)
  served_as v x c service hub came_is began k =
      subst (λ y. IsServed shows (may v) (tables v) h y c.came.value (finished_of c)) (sym began)
      (subst (λ y. IsServed shows (may v) (tables v) h x.began.value y (finished_of c)) (sym came_is)
      (subst (λ y. IsServed shows (may v) (tables v) y x.began.value x.came.value (finished_of c)) hub
      (subst (λ y. IsServed shows (may y) (tables y) x.hub.value x.began.value x.came.value (finished_of c)) service k)))

  pub is_settled : (v : S) (p : Pass) (r : Running S K P) (c : Settled K) → IsRunning shows may tables h v p r
      → c.came.value ≡ r.promise.came.value → c.began.value ≡ r.promise.began.value → Keeps shows may tables r.promise (finished_of c) → AreNumbers c.joined
      → IsSettled shows (may v) (tables v) h p c
  is_settled v p r c running came_is began k numbers = record {
    new = subst (λ y. IsNew (shows y)) (sym came_is) running.new;
    starts = subst (StartsFrom p) (sym began) running.starts;
    served = served_as v r.promise c running.service_is running.hub_is came_is began k;
    numbers = numbers;
  }

  pub stands_settled : (boot : ℕ) (v : S) (p q q2 : Pass) (finished : List (Settled K)) (r : Running S K P) (running : List (Running S K P)) (c : Settled K)
      → Stands shows may tables h v p q finished (r ∷ running) → IsPassOf h q2
      → ((s : ℕ) → s < 16 → Merges boot s (at_shard q s) (at_shard c.pass.value s) (at_shard q2 s))
      → c.came.value ≡ r.promise.came.value → c.began.value ≡ r.promise.began.value → Keeps shows may tables r.promise (finished_of c) → AreNumbers c.joined
      → Stands shows may tables h v p q2 (finished ++ c ∷ []) running
  stands_settled boot v p q q2 finished r running c st of merges came_is began k numbers = record {
    pass = of;
    takes = subst (λ l. TakesIn p l q2) (sym (map-append (λ x. x.pass.value) finished (c ∷ []))) (takes_more boot p q c.pass.value q2 (passes finished) st.takes merges);
    settled = all_snoc (IsSettled shows (may v) (tables v) h p) finished c st.settled (is_settled v p r c st.served.0 came_is began k numbers);
    served = st.served.1;
  }

module _ {S K P : Type 0} where
  abbrev links : List (Settled K) → List (Running S K P) → List K
  links finished running = came finished ++ map (λ r. r.promise.came.value) running

  pub links_more : (finished : List (Settled K)) (running : List (Running S K P)) (r : Running S K P) (link : K) → r.promise.came.value ≡ link
      → links finished (running ++ r ∷ []) ≡ links finished running ++ link ∷ []
  links_more finished running r link is =
      ap (λ l. came finished ++ l) (map-append (λ x. x.promise.came.value) running (r ∷ []) ∙ ap (λ k. map (λ x. x.promise.came.value) running ++ k ∷ []) is)
      ∙ sym (append_assoc (came finished) (map (λ x. x.promise.came.value) running) (link ∷ []))

  pub links_settled : (finished : List (Settled K)) (r : Running S K P) (running : List (Running S K P)) (c : Settled K) → c.came.value ≡ r.promise.came.value
      → links (finished ++ c ∷ []) running ≡ links finished (r ∷ running)
  links_settled finished r running c is =
      ap (λ l. l ++ map (λ x. x.promise.came.value) running) (map-append (λ x. x.came.value) finished (c ∷ []) ∙ ap (λ k. came finished ++ k ∷ []) is)
      ∙ append_assoc (came finished) (r.promise.came.value ∷ []) (map (λ x. x.promise.came.value) running)

module _ {S K P : Type 0} (shows : K → Shown) (may : S → Call → Bool → Ans → Type 0) (tables : S → List TableForm) (h : Hub) where
  abbrev AtStart : S → Pass → Pass → List (Settled K) → List (Running S K P) → Type 0
  AtStart v p q finished running = Stands shows may tables h v p q finished running

  pub serving_new : (st : Serving S K P) → st.first.value ≡ st.pass → IsPassOf h st.pass → st.finished.items ≡ [] → st.running.items ≡ [] → vec_len st.finished ≡ 0 → deque_len st.running ≡ 0
      → IsServing shows may tables h st
  serving_new st first of finished running none empty = record {
    stands =
        subst (λ p. AtStart st.service.value p st.pass st.finished.items st.running.items) (sym first)
        (subst (λ l. AtStart st.service.value st.pass st.pass l st.running.items) (sym finished)
        (subst (λ l. AtStart st.service.value st.pass st.pass [] l) (sym running) (stands_none shows may tables h st.service.value st.pass of)));
    room = omega (arith, none, empty);
  }

  pub serving_more : (a b : Serving S K P) (o : Pass) (r : Running S K P) (link : K) → IsServing shows may tables h a → HasRoom a
      → IsPassOf h b.pass → ((s : ℕ) → at_shard b.pass s ≡ at_shard a.pass s) → ((s : ℕ) → s < 16 → at_shard o s ≡ halved (at_shard a.pass s))
      → b.finished ≡ a.finished → b.running.items ≡ a.running.items ++ r ∷ [] → deque_len b.running ≡ deque_len a.running + 1 → b.service ≡ a.service → b.first ≡ a.first
      → IsNew (shows link) → r.promise.service.value ≡ a.service.value → r.promise.hub.value ≡ h → r.promise.began.value ≡ o → r.promise.came.value ≡ link → WillKeep shows may tables r.place r.promise
      → IsServing shows may tables h b
  serving_more a b o r link st room of same half finished running len service first new service_is hub_is began came_is kept =
      let one = is_running shows may tables h a.service.value a.first.value a.pass o a.finished.items a.running.items r link st.stands half new service_is hub_is began came_is kept in
      let more = stands_more shows may tables h a.service.value a.first.value a.pass b.pass a.finished.items a.running.items r st.stands of same one in
      let has = room.finished in
      let long : vec_len b.finished ≡ vec_len a.finished = ap (λ v. vec_len v) finished in
      let wide : vec_capacity b.finished ≡ vec_capacity a.finished = ap (λ v. vec_capacity v) finished in record {
        stands =
            subst (λ v. AtStart v b.first.value b.pass b.finished.items b.running.items) (ap (λ x. x.value) (sym service))
            (subst (λ p. AtStart a.service.value p b.pass b.finished.items b.running.items) (ap (λ x. x.value) (sym first))
            (subst (λ l. AtStart a.service.value a.first.value b.pass l b.running.items) (ap (λ x. x.items) (sym finished))
            (subst (λ l. AtStart a.service.value a.first.value b.pass a.finished.items l) (sym running) more)));
        room = omega (arith, has, long, wide, len);
      }

  pub serving_settled : (a b : Serving S K P) (boot : ℕ) (r : Running S K P) (c : Settled K) → IsServing shows may tables h a
      → IsPassOf h b.pass → ((s : ℕ) → s < 16 → Merges boot s (at_shard a.pass s) (at_shard c.pass.value s) (at_shard b.pass s))
      → a.running.items ≡ r ∷ b.running.items → deque_len b.running + 1 ≡ deque_len a.running
      → b.finished.items ≡ a.finished.items ++ c ∷ [] → vec_len b.finished ≡ vec_len a.finished + 1 → vec_capacity b.finished ≡ vec_capacity a.finished
      → b.service ≡ a.service → b.first ≡ a.first
      → c.came.value ≡ r.promise.came.value → c.began.value ≡ r.promise.began.value → Keeps shows may tables r.promise (finished_of c) → AreNumbers c.joined
      → IsServing shows may tables h b
  serving_settled a b boot r c st of merges running less finished more wide service first came_is began k numbers =
      let was = subst (λ l. AtStart a.service.value a.first.value a.pass a.finished.items l) running st.stands in
      let on = stands_settled shows may tables h boot a.service.value a.first.value a.pass b.pass a.finished.items r b.running.items c was of merges came_is began k numbers in
      let has = st.room in record {
        stands =
            subst (λ v. AtStart v b.first.value b.pass b.finished.items b.running.items) (ap (λ x. x.value) (sym service))
            (subst (λ p. AtStart a.service.value p b.pass b.finished.items b.running.items) (ap (λ x. x.value) (sym first))
            (subst (λ l. AtStart a.service.value a.first.value b.pass l b.running.items) (sym finished) on));
        room = omega (arith, has, less, more, wide);
      }

  -- ---- the end of a round

  pub settled_all : (a b : Serving S K P) → IsServing shows may tables h b → serving.Keeps a b
      → AllByRecursion (IsSettled shows (may a.service.value) (tables a.service.value) h a.first.value) b.finished.items
  settled_all a b st k =
      subst (λ v. AllByRecursion (IsSettled shows (may v) (tables v) h a.first.value) b.finished.items) k.service
      (subst (λ p. AllByRecursion (IsSettled shows (may b.service.value) (tables b.service.value) h p) b.finished.items) k.first st.stands.settled)

  pub takes_all : (a b : Serving S K P) → IsServing shows may tables h b → serving.Keeps a b → TakesIn a.first.value (passes b.finished.items) b.pass
  takes_all a b st k = subst (λ p. TakesIn p (passes b.finished.items) b.pass) k.first st.stands.takes

  pub is_round : (st : Serving S K P) (v : S) (p : Pass) (a b : DoorShown K) (most : ℕ) (r : Round K) → st.service.value ≡ v → st.first.value ≡ p
      → HandsOutAll a b (links_of st) → Stops a b most (length (links_of st)) r.stop → came r.finished.items ≡ links_of st
      → AllByRecursion (IsSettled shows (may st.service.value) (tables st.service.value) h st.first.value) r.finished.items → TakesIn st.first.value (passes r.finished.items) r.pass
      → IsRound shows (may v) (tables v) h p a most r b
  is_round st v p a b most r service first door stop links settled takes = record {
    door = subst (HandsOutAll a b) (sym links) door;
    stop = subst (λ n. Stops a b most n r.stop) (ap length (sym links) ∙ length-map r.finished.items (λ x. x.came.value)) stop;
    settled = subst (λ x. AllByRecursion (IsSettled shows (may x) (tables x) h p) r.finished.items) service
        (subst (λ q. AllByRecursion (IsSettled shows (may st.service.value) (tables st.service.value) h q) r.finished.items) first settled);
    takes = subst (λ q. TakesIn q (passes r.finished.items) r.pass) first takes;
  }

pub none_long : {A : Type 0} (xs : List A) → length xs ≡ 0 → xs ≡ []
none_long [] e = refl
none_long (x ∷ xs) e = absurd (omega (arith, e))

pub none_left : {S K P : Type 0} (st : Serving S K P) → deque_len st.running ≡ 0 → came st.finished.items ≡ links_of st
none_left st e =
    let none : st.running.items ≡ [] = none_long st.running.items (sym st.running.ok.0 ∙ e) in
    sym (ap (λ l. came st.finished.items ++ map (λ r. r.promise.came.value) l) none ∙ append-nil (came st.finished.items))

pub left_none : {S K P : Type 0} (st : Serving S K P) (b : Bool) → b ≡ (deque_len st.running == 0) → b ≡ true → came st.finished.items ≡ links_of st
left_none st b e t = none_left st (eqb-true (deque_len st.running) 0 (sym e ∙ t))

-- ---- threads are joined where they stand

module _ {A : Type 0} where
  pub all_swap : (P : A → Type 0) (xs : List A) (x y : A) (rest : List A) → AllByRecursion P (xs ++ x ∷ rest) → (P x → P y) → AllByRecursion P ((xs ++ y ∷ []) ++ rest)
  all_swap P [] x y rest h f = (f h.0, h.1)
  all_swap P (z ∷ xs) x y rest h f = (h.0, all_swap P xs x y rest h.1 f)

  map_swap : {B : Type 0} (f : A → B) (xs : List A) (x y : A) (rest : List A) → f y ≡ f x → map f ((xs ++ y ∷ []) ++ rest) ≡ map f (xs ++ x ∷ rest)
  map_swap f [] x y rest e = ap (λ b. b ∷ map f rest) e
  map_swap f (z ∷ xs) x y rest e = ap (λ l. f z ∷ l) (map_swap f xs x y rest e)

module _ {S K P : Type 0} (shows : K → Shown) (may : S → Call → Bool → Ans → Type 0) (tables : S → List TableForm) (h : Hub) where
  -- how far the threads of those that are being served were looked at
  pub record Swept (a b : Serving S K P) (waiting : List (Running S K P)) (left : ℕ) : Type 0 where
    pub service : b.service ≡ a.service
    pub first : b.first ≡ a.first
    pub first_desks : b.first_desks ≡ a.first_desks
    pub pass : b.pass ≡ a.pass
    pub finished : b.finished ≡ a.finished
    pub served : AllByRecursion (IsRunning shows may tables h a.service.value a.first.value) (b.running.items ++ waiting)
    pub same : map (λ r. r.promise.came.value) (b.running.items ++ waiting) ≡ map (λ r. r.promise.came.value) a.running.items
    pub count : deque_len b.running + left ≡ deque_len a.running
    pub room : deque_len a.running ≤ deque_capacity b.running

  pub swept_first : (a b : Serving S K P) (waiting : List (Running S K P)) (left : ℕ) → IsServing shows may tables h a → b.service ≡ a.service → b.first ≡ a.first → b.first_desks ≡ a.first_desks → b.pass ≡ a.pass → b.finished ≡ a.finished
      → b.running.items ≡ [] → deque_len b.running ≡ 0 → waiting ≡ a.running.items → left ≡ deque_len a.running → deque_len a.running ≤ deque_capacity b.running → Swept a b waiting left
  swept_first a b waiting left st service first first_desks pass finished none empty all long room = record {
    service = service;
    first = first;
    first_desks = first_desks;
    pass = pass;
    finished = finished;
    served = subst (λ l. AllByRecursion (IsRunning shows may tables h a.service.value a.first.value) l) (sym (ap₂ (λ x y. x ++ y) none all)) st.stands.served;
    same = ap (map (λ r. r.promise.came.value)) (ap₂ (λ x y. x ++ y) none all);
    count = omega (arith, empty, long);
    room = room;
  }

  rested : (v : S) (p : Pass) (r q : Running S K P) → q.promise ≡ r.promise → WillKeep shows may tables q.place q.promise → IsRunning shows may tables h v p r → IsRunning shows may tables h v p q
  rested v p r q is kept was = record {
    service_is = ap (λ x. x.service.value) is ∙ was.service_is;
    hub_is = ap (λ x. x.hub.value) is ∙ was.hub_is;
    new = subst (λ x. IsNew (shows x)) (ap (λ x. x.came.value) (sym is)) was.new;
    starts = subst (StartsFrom p) (ap (λ x. x.began.value) (sym is)) was.starts;
    kept = kept;
  }

  pub swept_more : (a b c : Serving S K P) (waiting rest : List (Running S K P)) (left fewer : ℕ) (r q : Running S K P) → Swept a b waiting left → waiting ≡ r ∷ rest → fewer + 1 ≡ left
      → c.service ≡ b.service → c.first ≡ b.first → c.first_desks ≡ b.first_desks → c.pass ≡ b.pass → c.finished ≡ b.finished
      → c.running.items ≡ b.running.items ++ q ∷ [] → deque_len c.running ≡ deque_len b.running + 1 → deque_capacity c.running ≡ deque_capacity b.running
      → q.promise ≡ r.promise → WillKeep shows may tables q.place q.promise → Swept a c rest fewer
  swept_more a b c waiting rest left fewer r q s front less service first first_desks pass finished items len capacity is kept =
      let count = s.count in
      let room = s.room in record {
        service = service ∙ s.service;
        first = first ∙ s.first;
        first_desks = first_desks ∙ s.first_desks;
        pass = pass ∙ s.pass;
        finished = finished ∙ s.finished;
        served = subst (λ l. AllByRecursion (IsRunning shows may tables h a.service.value a.first.value) (l ++ rest)) (sym items)
            (all_swap (IsRunning shows may tables h a.service.value a.first.value) b.running.items r q rest
            (subst (λ l. AllByRecursion (IsRunning shows may tables h a.service.value a.first.value) (b.running.items ++ l)) front s.served) (rested a.service.value a.first.value r q is kept));
        same = ap (λ l. map (λ r. r.promise.came.value) (l ++ rest)) items ∙ map_swap (λ r. r.promise.came.value) b.running.items r q rest (ap (λ x. x.came.value) is)
            ∙ ap (λ l. map (λ r. r.promise.came.value) (b.running.items ++ l)) (sym front) ∙ s.same;
        count = omega (arith, count, less, len);
        room = omega (arith, room, capacity);
      }

  -- what the first of them will come to
  pub swept_kept : (a b : Serving S K P) (waiting rest : List (Running S K P)) (left : ℕ) (r : Running S K P) → Swept a b waiting left → waiting ≡ r ∷ rest → WillKeep shows may tables r.place r.promise
  swept_kept a b waiting rest left r s front = (at_end b.running.items (subst (λ l. AllByRecursion (IsRunning shows may tables h a.service.value a.first.value) (b.running.items ++ l)) front s.served)).kept
    where
      at_end : (xs : List (Running S K P)) → AllByRecursion (IsRunning shows may tables h a.service.value a.first.value) (xs ++ r ∷ rest) → IsRunning shows may tables h a.service.value a.first.value r
      at_end [] h = h.0
      at_end (x ∷ xs) h = at_end xs h.1

  pub swept_all : (a b : Serving S K P) (waiting : List (Running S K P)) → IsServing shows may tables h a → Swept a b waiting 0 → waiting ≡ []
      → IsServing shows may tables h b × serving.Keeps a b × (links_of b ≡ links_of a) × (deque_len b.running ≡ deque_len a.running)
  swept_all a b waiting st s none =
      let count = s.count in
      let room = st.room in
      let long : vec_len b.finished ≡ vec_len a.finished = ap (λ v. vec_len v) s.finished in
      let wide : vec_capacity b.finished ≡ vec_capacity a.finished = ap (λ v. vec_capacity v) s.finished in
      let served = subst (λ l. AllByRecursion (IsRunning shows may tables h a.service.value a.first.value) l) (ap (λ l. b.running.items ++ l) none ∙ append-nil b.running.items) s.served in
      let was = st.stands in
      let now : Stands shows may tables h a.service.value a.first.value a.pass a.finished.items b.running.items = record { pass = was.pass; takes = was.takes; settled = was.settled; served = served } in
      let same : map (λ r. r.promise.came.value) b.running.items ≡ map (λ r. r.promise.came.value) a.running.items =
      ap (map (λ r. r.promise.came.value)) (sym (ap (λ l. b.running.items ++ l) none ∙ append-nil b.running.items)) ∙ s.same in (
        record {
          stands =
              subst (λ v. Stands shows may tables h v b.first.value b.pass b.finished.items b.running.items) (ap (λ x. x.value) (sym s.service))
              (subst (λ p. Stands shows may tables h a.service.value p b.pass b.finished.items b.running.items) (ap (λ x. x.value) (sym s.first))
              (subst (λ q. Stands shows may tables h a.service.value a.first.value q b.finished.items b.running.items) (sym s.pass)
              (subst (λ l. Stands shows may tables h a.service.value a.first.value a.pass l b.running.items) (ap (λ x. x.items) (sym s.finished)) now)));
          room = omega (arith, count, room, long, wide);
        },
        record { service = ap (λ x. x.value) s.service; first = ap (λ x. x.value) s.first; first_desks = ap (λ x. x.value) s.first_desks },
        ap₂ (λ x y. came x ++ y) (ap (λ x. x.items) s.finished) same,
        omega (arith, count),
      )

  pub swept_end : (a b : Serving S K P) (waiting : List (Running S K P)) (left : ℕ) → IsServing shows may tables h a → Swept a b waiting left → left ≡ 0 → length waiting ≡ left
      → IsServing shows may tables h b × serving.Keeps a b × (links_of b ≡ links_of a) × (deque_len b.running ≡ deque_len a.running)
  swept_end a b waiting left st s none len = swept_all a b waiting st (subst (Swept a b waiting) none s) (none_long waiting (len ∙ none))
