-- What the connections of a round had their manager do, one step on.
use Rattle.std.proofs.Common.{◌≡◌, ◌∙◌, ℕ, Bool, List, [], ◌∷◌, ◌++◌, sym, ap, subst, append-nil}
use Rattle.std.specs.List.{AllByRecursion}
use Rattle.handle_model.specs.declared.entry.DueItem.{DueItem}
use Rattle.ndr_table.specs.Tables.{TableForm}
use Rattle.manager_api.specs.Answers.{Ans}
use Rattle.manager_api.specs.Calls.{Call}
use Rattle.group_hub.specs.declared.hub.Hub.{Hub}
use Rattle.group_hub.specs.declared.pass.Pass.{Pass}
use Rattle.server_calls.specs.Chains.{Takes, StartsFrom}
use Rattle.server_calls.specs.Chains.Takes.{begins, splits_off, takes_in}
use Rattle.server_run.specs.Deeds.{HadIn}
use Rattle.server_rounds.specs.declared.running.Running.{Running}
use Rattle.server_rounds.specs.declared.serving.Serving.{Serving}
use Rattle.server_rounds.specs.declared.settled.Settled.{Settled}
use Rattle.server_rounds.specs.Served.{finished_of}
use Rattle.server_rounds.specs.Serving.{Keeps, Same}
use Rattle.server_rounds.specs.Desks.{KeepsHad, WillKeepHad, IsRunningHad, IsDealt, AreDealt, RoundHad, ServingHad}
use Rattle.server_rounds.proofs.Lists.{all_snoc}
use Rattle.server_rounds.proofs.Servings.{all_swap}

module _ {S K P : Type 0} (tables : S → List TableForm) (is_pass : S → P → Type 0) (enters : S → P → Call → Bool → Ans → P → Type 0) (runs_down : S → P → DueItem → P → Type 0)
    (splits joins : S → P → P → P → Type 0) (h : Hub) where
  -- ---- a round

  abbrev IsHadBy : S → P → Running S K P → Type 0
  IsHadBy service first r = IsRunningHad tables is_pass enters runs_down splits joins service h.boot first r

  abbrev Dealt : S → P → List (Settled K) → P → Type 0
  Dealt service first finished now = RoundHad tables enters runs_down splits joins service h.boot first finished now

  abbrev Is : Serving S K P → Type 0
  Is st = ServingHad tables is_pass enters runs_down splits joins h st

  -- the facts, by their parts
  abbrev At : S × P × P × List (Settled K) × List (Running S K P) → Type 0
  At (service, first, now, finished, running) = is_pass service now × Dealt service first finished now × AllByRecursion (IsHadBy service first) running

  abbrev parts : Serving S K P → S × P × P × List (Settled K) × List (Running S K P)
  parts st = (st.service.value, st.first_desks.value, st.desks, st.finished.items, st.running.items)

  at_parts : (st : Serving S K P) (z : S × P × P × List (Settled K) × List (Running S K P)) → parts st ≡ z → At z → Is st
  at_parts st z is x = let y : At (parts st) = subst At (sym is) x in record { pass = y.0; round = y.1; served = y.2 }

  of_parts : (st : Serving S K P) → Is st → At (parts st)
  of_parts st x = (x.pass, x.round, x.served)

  pub had_new : (st : Serving S K P) → is_pass st.service.value st.desks → st.first_desks.value ≡ st.desks → st.finished.items ≡ [] → st.running.items ≡ [] → Is st
  had_new st of first finished running =
      at_parts st (st.service.value, st.desks, st.desks, [], []) (λ i. (st.service.value, first i, st.desks, finished i, running i))
      (of, record { lasts = []; dealt = tt; takes = begins }, tt)

  -- all but the room stays
  pub had_same : (a b : Serving S K P) → ServingHad tables is_pass enters runs_down splits joins h a → Same a b → ServingHad tables is_pass enters runs_down splits joins h b
  had_same a b x s = at_parts b (parts a) (λ i. (s.keeps.service i, s.keeps.first_desks i, s.desks i, s.finished i, s.running i)) (of_parts a x)

  -- one more is being served
  pub had_more : (a b : Serving S K P) (o : P) (r : Running S K P) → Is a → b.service.value ≡ a.service.value → b.first_desks.value ≡ a.first_desks.value → b.finished.items ≡ a.finished.items → b.running.items ≡ a.running.items ++ r ∷ []
      → is_pass a.service.value b.desks → splits a.service.value a.desks b.desks o → r.promise.service.value ≡ a.service.value → r.promise.hub.value ≡ h → r.promise.desks.value ≡ o
      → WillKeepHad tables is_pass enters runs_down splits joins r.place r.promise → Is b
  had_more a b o r x service first finished running of split service_is hub_is desks_is kept =
      let starts : StartsFrom (splits a.service.value) (joins a.service.value) a.first_desks.value o =
      record { others = x.round.lasts; before = a.desks; after = b.desks; takes = x.round.takes; splits_off = split } in
      let one : IsHadBy a.service.value a.first_desks.value r = record {
        service_is = service_is;
        boot_is = ap (λ (z : Hub). z.boot) hub_is;
        starts = subst (StartsFrom (splits a.service.value) (joins a.service.value) a.first_desks.value) (sym desks_is) starts;
        kept = kept;
      } in
      at_parts b (a.service.value, a.first_desks.value, b.desks, a.finished.items, a.running.items ++ r ∷ []) (λ i. (service i, first i, b.desks, finished i, running i))
      (of, record { lasts = x.round.lasts; dealt = x.round.dealt; takes = splits_off x.round.takes split }, all_snoc (IsHadBy a.service.value a.first_desks.value) a.running.items r x.served one)

  dealt_more : (service : S) (first : P) (cs : List (Settled K)) (lasts : List P) (c : Settled K) (last : P) → AreDealt tables enters runs_down splits joins service h.boot first cs lasts
      → IsDealt tables enters runs_down splits joins service h.boot first c last → AreDealt tables enters runs_down splits joins service h.boot first (cs ++ c ∷ []) (lasts ++ last ∷ [])
  dealt_more service first [] [] c last d one = (one, tt)
  dealt_more service first [] (l ∷ lasts) c last d one = absurd d
  dealt_more service first (x ∷ cs) [] c last d one = absurd d
  dealt_more service first (x ∷ cs) (l ∷ lasts) c last d one = (d.0, dealt_more service first cs lasts c last d.1 one)

  -- the first of them is over
  pub had_settled : (a b : Serving S K P) (r : Running S K P) (c : Settled K) (last : P) → Is a → b.service.value ≡ a.service.value → b.first_desks.value ≡ a.first_desks.value → a.running.items ≡ r ∷ b.running.items → b.finished.items ≡ a.finished.items ++ c ∷ []
      → is_pass a.service.value b.desks → joins a.service.value a.desks last b.desks → c.began.value ≡ r.promise.began.value
      → KeepsHad tables is_pass enters runs_down splits joins r.promise (record { finished = finished_of c; desks = last }) → Is b
  had_settled a b r c last x service first running finished of join began k =
      let all : AllByRecursion (IsHadBy a.service.value a.first_desks.value) (r ∷ b.running.items) = subst (AllByRecursion (IsHadBy a.service.value a.first_desks.value)) running x.served in
      let one : IsDealt tables enters runs_down splits joins a.service.value h.boot a.first_desks.value c last = record {
        began = r.promise.desks.value;
        starts = all.0.starts;
        had = subst (λ (z : S × ℕ × Pass). HadIn tables enters runs_down splits joins z.0 z.1 c.joined z.2 r.promise.desks.value c.pass.value last) (λ i. (all.0.service_is i, all.0.boot_is i, sym began i)) k.1;
      } in
      at_parts b (a.service.value, a.first_desks.value, b.desks, a.finished.items ++ c ∷ [], b.running.items) (λ i. (service i, first i, b.desks, finished i, b.running.items)) (
        of,
        record {
          lasts = x.round.lasts ++ last ∷ [];
          dealt = dealt_more a.service.value a.first_desks.value a.finished.items x.round.lasts c last x.round.dealt one;
          takes = takes_in x.round.takes join;
        },
        all.1,
      )

  -- what the first of them will come to
  pub had_kept : (a : Serving S K P) (r : Running S K P) (rest : List (Running S K P)) → Is a → a.running.items ≡ r ∷ rest → WillKeepHad tables is_pass enters runs_down splits joins r.place r.promise
  had_kept a r rest x front = (subst (AllByRecursion (IsHadBy a.service.value a.first_desks.value)) front x.served).0.kept

  pub had_first : (a : Serving S K P) (r : Running S K P) (rest : List (Running S K P)) → Is a → a.running.items ≡ r ∷ rest → r.promise.service.value ≡ a.service.value
  had_first a r rest x front = (subst (AllByRecursion (IsHadBy a.service.value a.first_desks.value)) front x.served).0.service_is

  -- the end of a round
  pub round_all : (a b : Serving S K P) → Is b → Keeps a b → Dealt a.service.value a.first_desks.value b.finished.items b.desks × is_pass a.service.value b.desks
  round_all a b x k =
      subst (λ (z : S × P). Dealt z.0 z.1 b.finished.items b.desks × is_pass z.0 b.desks) (λ i. (k.service i, k.first_desks i)) (x.round, x.pass)

  -- ---- threads are joined where they stand

  pub record SweptHad (a b : Serving S K P) (waiting : List (Running S K P)) : Type 0 where
    pub service : b.service ≡ a.service
    pub first_desks : b.first_desks ≡ a.first_desks
    pub desks : b.desks ≡ a.desks
    pub finished : b.finished ≡ a.finished
    pub served : AllByRecursion (IsHadBy a.service.value a.first_desks.value) (b.running.items ++ waiting)

  pub swept_first_had : (a b : Serving S K P) (waiting : List (Running S K P)) → Is a → b.service ≡ a.service → b.first_desks ≡ a.first_desks → b.desks ≡ a.desks → b.finished ≡ a.finished → b.running.items ≡ [] → waiting ≡ a.running.items → SweptHad a b waiting
  swept_first_had a b waiting x service first desks finished none all = record {
    service = service;
    first_desks = first;
    desks = desks;
    finished = finished;
    served = subst (λ (l : List (Running S K P) × List (Running S K P)). AllByRecursion (IsHadBy a.service.value a.first_desks.value) (l.0 ++ l.1)) (λ i. (sym none i, sym all i)) x.served;
  }

  rested_had : (v : S) (p : P) (r q : Running S K P) → q.promise ≡ r.promise → WillKeepHad tables is_pass enters runs_down splits joins q.place q.promise → IsHadBy v p r → IsHadBy v p q
  rested_had v p r q is kept was = record {
    service_is = ap (λ z. z.service.value) is ∙ was.service_is;
    boot_is = ap (λ z. z.hub.value.boot) is ∙ was.boot_is;
    starts = subst (StartsFrom (splits v) (joins v) p) (ap (λ z. z.desks.value) (sym is)) was.starts;
    kept = kept;
  }

  pub swept_more_had : (a b c : Serving S K P) (waiting rest : List (Running S K P)) (r q : Running S K P) → SweptHad a b waiting → waiting ≡ r ∷ rest → c.service ≡ b.service → c.first_desks ≡ b.first_desks → c.desks ≡ b.desks → c.finished ≡ b.finished
      → c.running.items ≡ b.running.items ++ q ∷ [] → q.promise ≡ r.promise → WillKeepHad tables is_pass enters runs_down splits joins q.place q.promise → SweptHad a c rest
  swept_more_had a b c waiting rest r q s front service first desks finished items is kept = record {
    service = service ∙ s.service;
    first_desks = first ∙ s.first_desks;
    desks = desks ∙ s.desks;
    finished = finished ∙ s.finished;
    served = subst (λ l. AllByRecursion (IsHadBy a.service.value a.first_desks.value) (l ++ rest)) (sym items)
        (all_swap (IsHadBy a.service.value a.first_desks.value) b.running.items r q rest
        (subst (λ l. AllByRecursion (IsHadBy a.service.value a.first_desks.value) (b.running.items ++ l)) front s.served) (rested_had a.service.value a.first_desks.value r q is kept));
  }

  pub swept_kept_had : (a b : Serving S K P) (waiting rest : List (Running S K P)) (r : Running S K P) → SweptHad a b waiting → waiting ≡ r ∷ rest → WillKeepHad tables is_pass enters runs_down splits joins r.place r.promise
  swept_kept_had a b waiting rest r s front = (at_end b.running.items (subst (λ l. AllByRecursion (IsHadBy a.service.value a.first_desks.value) (b.running.items ++ l)) front s.served)).kept
    where
      at_end : (xs : List (Running S K P)) → AllByRecursion (IsHadBy a.service.value a.first_desks.value) (xs ++ r ∷ rest) → IsHadBy a.service.value a.first_desks.value r
      at_end [] h = h.0
      at_end (x ∷ xs) h = at_end xs h.1

  pub swept_end_had : (a b : Serving S K P) (waiting : List (Running S K P)) → Is a → SweptHad a b waiting → waiting ≡ [] → Is b
  swept_end_had a b waiting x s none =
      let served : AllByRecursion (IsHadBy a.service.value a.first_desks.value) b.running.items = subst (AllByRecursion (IsHadBy a.service.value a.first_desks.value)) (ap (λ l. b.running.items ++ l) none ∙ append-nil b.running.items) s.served in
      at_parts b (a.service.value, a.first_desks.value, a.desks, a.finished.items, b.running.items) (λ i. ((s.service i).value, (s.first_desks i).value, s.desks i, (s.finished i).items, b.running.items))
      (x.pass, x.round, served)
