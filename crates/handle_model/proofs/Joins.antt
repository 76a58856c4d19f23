-- The order of the entries of a connection.
use Rattle.std.proofs.Common.{◌≡◌, ℕ, ◌+◌, ◌≤◌, true, false, not, List, [], ◌∷◌, length, refl, sym, subst, arith, inl, inr}
use Rattle.std.specs.List.{list_any, filter}
use Rattle.std.proofs.lemmas.Bool.Decides.{eqb_tells}
use Rattle.std.proofs.lemmas.Bool.{false_from_ne_true}
use Rattle.handle_model.specs.declared.entry.Home.{Home}
use Rattle.handle_model.specs.declared.entry.Asked.{Asked}
use Rattle.handle_model.specs.declared.entry.Entry.{Entry}
use Rattle.handle_model.specs.declared.entry.Entry.TheVariants.{Join, Accept, Leave}
use Rattle.handle_model.specs.declared.base.Base.{Base}
use Rattle.handle_model.specs.Bases.{has_conn}
use Rattle.handle_model.specs.History.{History, since, with_entry}
use Rattle.handle_model.specs.Journal.{Legal, joins, leaves, has_joined, is_open, join_count}
use Rattle.handle_model.proofs.Held.{and_left, and_right, or_right, or_cases, joined_within}
use Rattle.handle_model.specs.Further.{with_entries, once_where}
use Rattle.handle_model.proofs.Older.{older_legal}
use Rattle.handle_model.proofs.Once.{once_more, once_since, once_start}

pub leaves_after_join : (j : History) (newer : List Entry) (c : ℕ) → Legal (with_entries (with_entry j (Leave c)) newer) → has_joined j c ≡ true
leaves_after_join j newer c l =
    let here = older_legal (with_entry j (Leave c)) newer l in
    and_left (has_joined j c) (not (list_any (leaves c) j.past)) here.0.fits

-- a further connection has not joined
fresh_unjoined : (j : History) (c : ℕ) → Legal j → c ≡ join_count j + 1 → has_joined j c ≡ false
fresh_unjoined j c l e =
    false_from_ne_true (has_joined j c) (λ h. let low = joined_within j.home j.base j.past c l h in absurd (omega arith))

pub joins_new : (j : History) (newer : List Entry) (c : ℕ) → Legal (with_entries (with_entry j (Join c)) newer) → has_joined j c ≡ false
joins_new j newer c l = let here = older_legal (with_entry j (Join c)) newer l in fresh_unjoined j c here.1 here.0.fits.0

-- who joined before the base, or by a Join, has joined
base_joined : (home : Home) (base : Base) (past : List Entry) (c : ℕ) → has_conn base c ≡ true → has_joined (since home base past) c ≡ true
base_joined home base [] c h = h
base_joined home base (e ∷ past) c h = or_right (joins c e) (has_joined (since home base past) c) (base_joined home base past c h)

entry_joined : (home : Home) (base : Base) (past : List Entry) (c : ℕ) → list_any (joins c) past ≡ true → has_joined (since home base past) c ≡ true
entry_joined home base [] c h = absurd (cc)
entry_joined home base (e ∷ past) c h =
    elim (or_cases (joins c e) (list_any (joins c) past) h) [
      | inl t ↦ rw t refl
      | inr r ↦ or_right (joins c e) (has_joined (since home base past) c) (entry_joined home base past c r)
    ]

joined_once : (home : Home) (base : Base) (past : List Entry) (c : ℕ) → Legal (since home base past) → once_where (has_conn base c) + length (filter (joins c) past) ≤ 1
joined_once home base [] c l = once_start (has_conn base c)
joined_once home base (Join d ∷ past) c l =
    let off = fresh_unjoined (since home base past) d l.1 l.0.fits.0 in
    once_since (has_conn base c) (joins c) (Join d) past (λ t. false_from_ne_true (has_conn base c) (λ again.
    elim (eqb_tells d c) [
      | inl e ↦ let on = base_joined home base past d (subst (λ n. has_conn base n ≡ true) (sym e.1) again) in cc
      | inr e ↦ let f = e.0 in cc
    ])) (λ t. false_from_ne_true (list_any (joins c) past) (λ again.
    elim (eqb_tells d c) [
      | inl e ↦ let on = entry_joined home base past d (subst (λ n. list_any (joins n) past ≡ true) (sym e.1) again) in cc
      | inr e ↦ let f = e.0 in cc
    ])) (joined_once home base past c l.1)
joined_once home base (_ ∷ past) c l = joined_once home base past c l.1

pub joins_once : (j : History) (c : ℕ) → Legal j → once_where (has_conn j.base c) + length (filter (joins c) j.past) ≤ 1
joins_once j c l = joined_once j.home j.base j.past c l

left_once : (home : Home) (base : Base) (past : List Entry) (c : ℕ) → Legal (since home base past) → length (filter (leaves c) past) ≤ 1
left_once home base [] c l = omega arith
left_once home base (Leave d ∷ past) c l =
    let here : is_open (since home base past) d ≡ true = l.0.fits in
    once_more (leaves c) (Leave d) past (λ t. false_from_ne_true (list_any (leaves c) past) (λ again.
    elim (eqb_tells d c) [
      | inl e ↦ let gone : list_any (leaves d) past ≡ true = subst (λ n. list_any (leaves n) past ≡ true) (sym e.1) again in let stays = and_right (has_joined (since home base past) d) (not (list_any (leaves d) past)) here in let f = rw gone at stays in cc
      | inr e ↦ let f = e.0 in cc
    ])) (left_once home base past c l.1)
left_once home base (_ ∷ past) c l = left_once home base past c l.1

pub leaves_once : (j : History) (c : ℕ) → Legal j → length (filter (leaves c) j.past) ≤ 1
leaves_once j c l = left_once j.home j.base j.past c l

pub accepts_of_open : (j : History) (newer : List Entry) (k : ℕ) (a : Asked) → Legal (with_entries (with_entry j (Accept k a)) newer) → is_open j a.conn ≡ true
accepts_of_open j newer k a l = let here = older_legal (with_entry j (Accept k a)) newer l in here.0.fits.1
