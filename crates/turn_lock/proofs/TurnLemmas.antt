-- Getting the turn, entering what was added and giving the turn back keep the rule.
use Rattle.std.proofs.Common.{◌≡◌, ℕ, ◌+◌, ◌%◌, ◌^◌, ◌<◌, ◌≤◌, eqb, Bool, true, false, List, [], ◌∷◌, ◌++◌, length, get_or, set, Option, Some, None, refl, sym, ap, ◌∙◌, subst, ⊎_elim, arith, length-set, length-append, get_or-set_other, get_or-set_same}
use Rattle.std.proofs.lemmas.List.{set-get_or}
use Rattle.std.proofs.Math.Nat.{mod-add-mod}
use mathlib.Core.Option.{some, none}
use mathlib.Core.Logic.{dite}
use native.Mathlib.Decide.{dec_lt}
use lib.ListN.{get_elem?}
use prog.Atomic.{either}
use Rattle.atomic_table.specs.Table.{State, Me, step, Act, keeps, takes, gives, carried_after, stepped, Valid, Allows}
use Rattle.atomic_table.proofs.Lists.{set_here, set_again, exchanged}
use Rattle.turn_lock.specs.declared.views.View.{View}
use Rattle.turn_lock.specs.Histories.{times, total, once_below, places, StartsWith, Closed, Within}
use Rattle.turn_lock.specs.Rule.{view, Lawful}
use Rattle.turn_lock.specs.Steps.{got_turn, MayAdd, Adds, committed, gave_turn}
use Rattle.turn_lock.proofs.HistoryLemmas.{total_at, times-append, times-places-below, once_below-places, place_at, at_place, once_most, times_either, total_set, total_two, starts_self, starts_length, starts_append, at_within, tied_before}
use Rattle.turn_lock.proofs.ViewLemmas.{each, has_turn}

is_false : (b : Bool) → ¬ (b ≡ true) → b ≡ false
is_false true never = absurd (never refl)
is_false false never = refl

module _ {T E : Type 0} (tells : T → List E → Type 0) (ties : List E → E → ℕ → Type 0) (first : List E) where
  abbrev D : Type 0
  D = View E

  abbrev St : Type 0
  St = State (Option T) D

  abbrev M : Type 0
  M = Me (Option T) D

  abbrev Rule : St → Type 0
  Rule = Lawful tells ties first

  abbrev turn : St → ℕ
  turn s = get_or s.words 0 0

  abbrev owns : ℕ → D → ℕ
  owns p v = times p v.own

  -- nothing changes
  unmoved : (s : St) (r : Rule s) (i id : ℕ) (me : M) → get_elem? s.views id ≡ some me.0 → Rule (stepped s i (get_or s.words i 0) id me.1 me.0 keeps)
  unmoved s r i id me at = subst (λ (x : List ℕ × List D). Rule record { words = x.0; homes = s.homes; views = x.1 }) (λ k. (sym (set-get_or s.words i 0) k, sym (set_again s.views id me.0 at) k)) r

  -- the seat id gets the turn, and the value x with it
  gets : (s : St) (r : Rule s) (id : ℕ) (me : M) → get_elem? s.views id ≡ some me.0 → turn s ≡ 0 → (x : T)
      → Rule (stepped s 0 1 id me.1 (view true r.history me.0.own) (takes 0 (Some x)))
  gets s r id me at zero x =
      let w : D = view true r.history me.0.own in
      let wide = r.wide in
      let none_has = (r.free zero).1 in
      let on : get_or (set s.words 0 1) 0 0 ≡ 1 = get_or-set_same s.words 0 1 0 (omega arith) in
      let mine = r.fronts id me.0 at in
      let inside = starts_length r.history me.0.front mine.0 in
      record {
        history = r.history;
        holder = id;
        wide = length-set s.words 0 1 ∙ r.wide;
        counted = (r.counted.0, r.counted.1, get_or-set_other s.words 0 1 1 0 (λ e. omega arith) ∙ r.counted.2);
        told = r.told;
        free = λ off. absurd (omega arith);
        held = λ _. (
          on,
          (w, set_here s.views id w (at_within s.views id me.0 at), refl),
          each (λ j v. v.holds ≡ true → (j ≡ id) × (v.front ≡ r.history)) s.views id w (λ _. (refl, refl))
              (λ j v other there yes. let not_so = none_has j v there in absurd (cc)),
        );
        fronts = each (λ j v. StartsWith r.history v.front × Within v.own (length v.front)) s.views id w
            (starts_self r.history, λ p own. let b = mine.1 p own in omega arith) (λ j v other there. r.fronts j v there);
        also = each (λ j v. StartsWith r.history v.also_seen) s.views id w (r.history, refl) (λ j v other there. r.also j v there);
        once = λ p. let t = total_set (owns p) s.views id me.0 w at in let b = r.once p in omega arith;
        tied = each (λ j v. Closed ties r.history v.own) s.views id w (r.tied id me.0 at) (λ j v other there. r.tied j v there);
      }

  pub enters : (slots id : ℕ) (me : M) → Allows Rule slots id me 0 (λ n. either (eqb n 0) 1 n) (got_turn tells ties (step slots 0 0 1 none) me)
  enters slots id me s r _ at _ =
      let told = got_turn tells ties (step slots 0 0 1 none) me (turn s) in
      exchanged (turn s) 0 1 (λ n. (w : D) × (a : Act (Option T)) × Valid s.homes me.1 a × Rule (stepped s 0 n id me.1 w a) × told (w, carried_after me.1 a))
      (λ zero.
      let home = (r.free zero).0 in
      let mine = r.fronts id me.0 at in (
        view true r.history me.0.own,
        takes 0 (Some home.0),
        home.1,
        gets s r id me at zero home.0,
        ((λ _. (refl, (home.0, refl, home.2), mine.0, mine.1, r.tied id me.0 at, λ p. let a = total_at (owns p) s.views id me.0 at in let b = r.once p in let c = once_most p (length r.history) in omega arith)), λ busy. absurd (busy zero)),
      ))
      (λ busy. (me.0, keeps, tt, unmoved s r 0 id me at, ((λ zero. absurd (busy zero)), λ _. refl)))

  abbrev inner : T → Option T → T
  inner d (Some x) = x
  inner d None = d

  abbrev value_in : T → List (ℕ × Option T) → T
  value_in d [] = d
  value_in d (c ∷ cs) = inner d c.1

  same_value : (x y : T) (c : List (ℕ × Option T)) → c ≡ (0, Some x) ∷ [] → c ≡ (0, Some y) ∷ [] → x ≡ y
  same_value x y c a b = sym (ap (value_in y) a) ∙ ap (value_in y) b

  -- n entries are added to the history
  adds : (s : St) (r : Rule s) (id n : ℕ) (me : M) (x : T) → get_elem? s.views id ≡ some me.0 → me.0.holds ≡ true → (may : MayAdd tells ties me.0 x n)
      → Rule (stepped s 1 ((get_or s.words 1 0 + n) % 2 ^ 64) id me.1 (view true (me.0.front ++ may.0) (me.0.own ++ places (length me.0.front) n)) keeps)
  adds s r id n me x at holds may =
      let v : D = me.0 in
      let m : ℕ = length v.front in
      let whole : List E = v.front ++ may.0 in
      let new : List ℕ = places m n in
      let w : D = view true whole (v.own ++ new) in
      let has = has_turn tells ties first s r id v at holds in
      let is : v.front ≡ r.history = has.1.1 in
      let long : length whole ≡ m + n = omega (arith, length-append v.front may.0, may.1) in
      let still : get_or (set s.words 1 ((get_or s.words 1 0 + n) % 2 ^ 64)) 0 0 ≡ turn s = get_or-set_other s.words 1 0 _ 0 (λ e. omega arith) in
      let held = r.held has.0 in
      let same_id : id ≡ r.holder = has.1.0 in
      let starts : (j : ℕ) (u : D) → get_elem? s.views j ≡ some u → StartsWith v.front u.front = λ j u there. subst (λ l. StartsWith l u.front) (sym is) (r.fronts j u there).0 in
      let closed : (j : ℕ) (u : D) → get_elem? s.views j ≡ some u → Closed ties v.front u.own = λ j u there. subst (λ l. Closed ties l u.own) (sym is) (r.tied j u there) in
      let most : (p : ℕ) → total (owns p) s.views ≤ once_below p m = λ p. subst (λ l. total (owns p) s.views ≤ once_below p (length l)) (sym is) (r.once p) in
      let wide = r.wide in
      record {
        history = whole;
        holder = id;
        wide = length-set s.words 1 _ ∙ r.wide;
        counted = (
          r.counted.0 + n,
          let same = ap length is in let old = r.counted.1 in omega arith,
          get_or-set_same s.words 1 _ 0 (omega arith) ∙ (ap (λ (z : ℕ). (z + n) % 2 ^ 64) r.counted.2 ∙ mod-add-mod r.counted.0 (2 ^ 64) n),
        );
        told = (x, may.2);
        free = λ off. absurd (has.0 (sym still ∙ off));
        held = λ _. (
          still ∙ held.0,
          (w, set_here s.views id w (at_within s.views id v at), refl),
          each (λ j u. u.holds ≡ true → (j ≡ id) × (u.front ≡ whole)) s.views id w (λ _. (refl, refl))
              (λ j u other there yes. absurd (other ((held.2 j u there yes).0 ∙ sym same_id))),
        );
        fronts = each (λ j u. StartsWith whole u.front × Within u.own (length u.front)) s.views id w
            (starts_self whole, λ p own. ⊎_elim (λ old. let b = (r.fronts id v at).1 p old in omega arith) (λ late. let b = place_at p m n late in omega arith) (times_either p v.own new own))
            (λ j u other there. (starts_append v.front u.front may.0 (starts j u there), (r.fronts j u there).1));
        also = each (λ j u. StartsWith whole u.also_seen) s.views id w (whole, refl) (λ j u other there. starts_append v.front u.also_seen may.0 (subst (λ l. StartsWith l u.also_seen) (sym is) (r.also j u there)));
        once = λ p. let t = total_set (owns p) s.views id v w at in let b = most p in let c = times-append p v.own new in let d = once_below-places p m n in
            subst (λ (z : ℕ). total (owns p) (set s.views id w) ≤ once_below p z) (sym long) (omega arith);
        tied = each (λ j u. Closed ties whole u.own) s.views id w
            (λ q p t own. dite (dec_lt q m)
            (λ early. let old = tied_before ties v.front may.0 q p early t in let low : p < q = t.0 in let c = times-append p v.own new in let e = times-append q v.own new in let z = times-places-below p m n (omega arith) in
            let kept = closed id v at q p old (omega arith) in omega arith)
            (λ late. let b = at_within whole q t.1.0 t.1.1 in let e = times-append q v.own new in let z = at_place q m n (omega arith) (omega arith) in omega arith))
            (λ j u other there q p t own. dite (dec_lt q m)
            (λ early. closed j u there q p (tied_before ties v.front may.0 q p early t) own)
            (λ late. absurd (⊎_elim
            (λ here. let two = total_two (owns p) s.views j id u v other there at in let b = most p in let c = once_most p m in omega arith)
            (λ new_one. let b = (place_at p m n new_one).0 in let c = (r.fronts j u there).1 p own in let d = starts_length v.front u.front (starts j u there) in omega arith)
            (times_either p v.own new (may.3 q p (omega arith) t)))));
      }

  pub commits : (slots id n : ℕ) (me : M) (x : T) → me.0.holds ≡ true → me.1 ≡ (0, Some x) ∷ [] → MayAdd tells ties me.0 x n
      → Allows Rule slots id me 1 (λ z. (z + n) % 2 ^ 64) (committed tells ties (step slots 1 n 0 none) me)
  commits slots id n me x holds has may s r _ at _ = (
    view true (me.0.front ++ may.0) (me.0.own ++ places (length me.0.front) n),
    keeps,
    tt,
    adds s r id n me x at holds may,
    (refl, λ y is. subst (λ (z : T). Adds tells ties me.0 z n (view true (me.0.front ++ may.0) (me.0.own ++ places (length me.0.front) n))) (same_value x y me.1 has is) (may.0, may.1, may.2, refl)),
  )

  -- the turn is given back, and the value x with it
  gives_back : (s : St) (r : Rule s) (id : ℕ) (me : M) (x : T) → get_elem? s.views id ≡ some me.0 → me.0.holds ≡ true → 0 < length s.homes → tells x me.0.front
      → Rule record { words = set s.words 0 0; homes = set s.homes 0 (some (Some x)); views = set s.views id (view false me.0.front me.0.own) }
  gives_back s r id me x at holds room is_told =
      let v : D = me.0 in
      let w : D = view false v.front v.own in
      let has = has_turn tells ties first s r id v at holds in
      let wide = r.wide in
      let off : get_or (set s.words 0 0) 0 0 ≡ 0 = get_or-set_same s.words 0 0 0 (omega arith) in
      record {
        history = r.history;
        holder = id;
        wide = length-set s.words 0 0 ∙ r.wide;
        counted = (r.counted.0, r.counted.1, get_or-set_other s.words 0 1 0 0 (λ e. omega arith) ∙ r.counted.2);
        told = r.told;
        free = λ _. (
          (x, set_here s.homes 0 (some (Some x)) room, subst (tells x) has.1.1 is_told),
          each (λ j u. u.holds ≡ false) s.views id w refl
              (λ j u other there. is_false u.holds (λ yes. other (((r.held has.0).2 j u there yes).0 ∙ sym has.1.0))),
        );
        held = λ busy. absurd (busy off);
        fronts = each (λ j u. StartsWith r.history u.front × Within u.own (length u.front)) s.views id w (r.fronts id v at) (λ j u other there. r.fronts j u there);
        also = each (λ j u. StartsWith r.history u.also_seen) s.views id w (r.history, refl) (λ j u other there. r.also j u there);
        once = λ p. let t = total_set (owns p) s.views id v w at in let b = r.once p in omega arith;
        tied = each (λ j u. Closed ties r.history u.own) s.views id w (r.tied id v at) (λ j u other there. r.tied j u there);
      }

  pub gives_turn : (slots id : ℕ) (me : M) (x : T) → 0 < slots → me.0.holds ≡ true → me.1 ≡ (0, Some x) ∷ [] → tells x me.0.front
      → Allows Rule slots id me 0 (λ _. 0) (λ _. gave_turn (step slots 0 0 0 none) me 0)
  gives_turn slots id me x room holds has is_told s r count at _ = (
    view false me.0.front me.0.own,
    gives,
    tt,
    subst (λ (c : List (ℕ × Option T)). Rule (stepped s 0 0 id c (view false me.0.front me.0.own) gives)) (sym has) (gives_back s r id me x at holds (omega arith) is_told),
    refl,
  )
