-- How many connections are open after each entry.
use Rattle.std.proofs.Common.{◌≡◌, ◌≢◌, ℕ, ◌+◌, ◌<◌, Bool, true, false, not, List, [], ◌∷◌, length, refl, sym, ◌∙◌, arith, subst, inl, inr}
use Rattle.std.specs.List.{list_any, filter}
use Rattle.std.proofs.lemmas.Grind.{common_steps}
use Rattle.std.proofs.lemmas.Bool.Decides.{eqb_tells}
use Rattle.handle_model.specs.declared.entry.Home.{Home}
use Rattle.handle_model.specs.declared.entry.Entry.{Entry}
use Rattle.handle_model.specs.declared.entry.Entry.TheVariants.{Join, Leave}
use Rattle.handle_model.specs.declared.base.Base.{Base}
use Rattle.handle_model.specs.Bases.{is_number}
use Rattle.handle_model.specs.Journal.{leaves, join_count, has_joined, joined, is_open, conns, Legal}
use Rattle.handle_model.specs.History.{History, since, with_entry}
use Rattle.handle_model.proofs.Tests.{and_left}
use Rattle.handle_model.proofs.Held.{left_joined, joined_within}
use Rattle.handle_model.proofs.Reversed.{list_any-reverse}
use Rattle.call_table.proofs.Calls.{Falls, rises_fall}

joins_since : (home : Home) (base : Base) (past : List Entry) (c : ℕ) → has_joined (since home base past) c ≡ true → list_any (is_number c) (joined (since home base past)) ≡ true
joins_since home base [] c h = list_any-reverse (is_number c) base.conns ∙ h
joins_since home base (Join d ∷ past) c h = grind (arith, common_steps, joins_since home base past c)
joins_since home base (_ ∷ past) c h = joins_since home base past c h

pub joins_among : (j : History) (c : ℕ) → has_joined j c ≡ true → list_any (is_number c) (joined j) ≡ true
joins_among j c h = joins_since j.home j.base j.past c h

-- the numbers fall
falls_since : (home : Home) (base : Base) (past : List Entry) → Legal (since home base past) → Falls (join_count (since home base past) + 1) 0 (joined (since home base past))
falls_since home base [] l = rises_fall base.joins base.conns l.conns_rise l.conns_within
falls_since home base (Join c ∷ past) l =
    let first = l.0.fits.0 in
    (omega (arith, first), subst (λ n. Falls n 0 (joined (since home base past))) (sym first) (falls_since home base past l.1))
falls_since home base (_ ∷ past) l = falls_since home base past l.1

joined_falls : (j : History) → Legal j → Falls (join_count j + 1) 0 (joined j)
joined_falls j l = falls_since j.home j.base j.past l

-- two tests agree below a number
abbrev pub Agree : (ℕ → Bool) → (ℕ → Bool) → ℕ → Type 0
Agree p q n = (m : ℕ) → m < n → p m ≡ q m

same_count : (p q : ℕ → Bool) (high : ℕ) (ns : List ℕ) → Falls high 0 ns → Agree p q high → length (filter p ns) ≡ length (filter q ns)
same_count p q high [] f a = refl
same_count p q high (n ∷ ns) f a =
    let top = f.0 in
    let more = same_count p q n ns f.1 (λ m h. a m (omega (arith, h, top))) in
    let here = a n top in grind (arith, common_steps)

-- one that passed passes no more
one_less : (p q : ℕ → Bool) (high : ℕ) (ns : List ℕ) (c : ℕ) → Falls high 0 ns → ((m : ℕ) → c ≢ m → q m ≡ p m) → p c ≡ true → q c ≡ false → list_any (is_number c) ns ≡ true → length (filter q ns) + 1 ≡ length (filter p ns)
one_less p q high [] c f a t u i = absurd (cc)
one_less p q high (n ∷ ns) c f a t u i =
    elim (eqb_tells n c) [
      | inl e ↦ let here : p n ≡ true = subst (λ (m : ℕ). p m ≡ true) (sym e.1) t in
          let gone : q n ≡ false = subst (λ (m : ℕ). q m ≡ false) (sym e.1) u in
          let more = same_count q p n ns f.1 (λ m h. a m (λ x. omega (arith, h, e.1, x))) in grind (arith, common_steps)
      | inr e ↦ let more = one_less p q n ns c f.1 a t u (rw e.0 at i) in
          let here = a n (λ x. e.1 (sym x)) in grind (arith, common_steps)
    ]

open_others : (j : History) (c m : ℕ) → c ≢ m → is_open (with_entry j (Join c)) m ≡ is_open j m
open_others j c m n = elim (eqb_tells c m) [ inl e ↦ absurd (n e.1) | inr e ↦ rw e.0 refl ]

left_others : (j : History) (c m : ℕ) → c ≢ m → is_open (with_entry j (Leave c)) m ≡ is_open j m
left_others j c m n = elim (eqb_tells c m) [ inl e ↦ absurd (n e.1) | inr e ↦ rw e.0 refl ]

left_itself : (j : History) (c : ℕ) → is_open (with_entry j (Leave c)) c ≡ false
left_itself j c = grind (arith, common_steps)

not_left : (j : History) (c : ℕ) (b : Bool) → Legal j → join_count j < c → list_any (leaves c) j.past ≡ b → b ≡ false
not_left j c false l f h = refl
not_left j c true l f h =
    let w = joined_within j.home j.base j.past c l (left_joined j.home j.base j.past c l h) in absurd (omega arith)

joined_open : (j : History) (c : ℕ) → Legal j → c ≡ join_count j + 1 → is_open (with_entry j (Join c)) c ≡ true
joined_open j c l e = let n = not_left j c (list_any (leaves c) j.past) l (omega (arith, e)) refl in grind (arith, common_steps)

pub join_counted : (j : History) (c : ℕ) → Legal j → c ≡ join_count j + 1 → length (conns (with_entry j (Join c))) ≡ length (conns j) + 1
join_counted j c l e =
    let here = joined_open j c l e in
    let more = same_count (is_open (with_entry j (Join c))) (is_open j) (join_count j + 1) (joined j) (joined_falls j l) (λ m h. open_others j c m (λ x. omega (arith, h, e, x))) in
    grind (arith, common_steps)

pub leave_counted : (j : History) (c : ℕ) → Legal j → is_open j c ≡ true → length (conns (with_entry j (Leave c))) + 1 ≡ length (conns j)
leave_counted j c l o =
    one_less (is_open j) (is_open (with_entry j (Leave c))) (join_count j + 1) (joined j) c (joined_falls j l) (left_others j c) o (left_itself j c)
    (joins_among j c (and_left (has_joined j c) (not (list_any (leaves c) j.past)) o))
