-- The cookies of a call's slots are those that its desk is given.
use Rattle.std.proofs.Common.{◌≡◌, ℕ, zero, suc, ◌+◌, ◌≤◌, ◌<◌, Bool, true, false, List, [], ◌∷◌, ◌++◌, length, take, Option, Some, None, refl, sym, ap, subst, ◌∙◌, arith}
use Rattle.std.specs.Prelude.{◌&&◌, ◌||◌, ◌==◌, not, is_some, map, slice_get, if◌then◌else◌}
use Rattle.std.specs.Bool.{beq}
use Rattle.std.proofs.lemmas.List.{length-map}
use Rattle.std.specs.List.{list_any}
use Rattle.rpc_base.specs.declared.identifiers.WireHandle.{WireHandle}
use Rattle.handle_model.specs.declared.entry.Slot.{Slot}
use Rattle.handle_model.specs.declared.entry.Slot.TheVariants.{Shares, Holds, Changes, Opens}
use Rattle.handle_model.specs.declared.entry.Outcome.{Outcome}
use Rattle.handle_model.specs.Slots.{is_null, opens, with_serial}
use Rattle.handle_model.specs.Journal.{suits, suit, next_serial, filled}
use Rattle.ndr_table.specs.declared.operation.HandleUse.{HandleUse}
use Rattle.ndr_table.specs.Tables.{OpForm, TableForm}
use Rattle.ndr_table.specs.Sound.{IsSound}
use Rattle.ndr_value.specs.Values.{Msg}
use Rattle.ndr_model.specs.declared.way.Way.TheVariants.{Request}
use Rattle.ndr_model.specs.Fits.{IsOfOp}
use Rattle.manager_api.specs.declared.answer.Kept.{Kept}
use Rattle.manager_api.specs.declared.answer.Kept.TheVariants.{Stays, Cookie, Null}
use Rattle.manager_api.specs.Answers.{Ans, AOut, AFault}
use Rattle.manager_api.specs.Calls.{Owes, uses_at, is_given, has_cookies, is_stays, has_kepts}
use Rattle.conn_histories.specs.Requests.{kind_in, opening, slot_for, slots_for}
use Rattle.conn_histories.specs.Ends.{outcome_of, outcomes_of, unchanged, all_unchanged, results_of, row_of}
use Rattle.server_calls.specs.Suited.{suit_cookies, IsFor}
use Rattle.server_calls.specs.Laws.{ResultsSuit, CookiesAreGiven, KeptsAreForSlots, NumberedStay}
use Rattle.server_calls.proofs.Wires.{both, inward_in, wires_are}

-- ---- results suit

is_itself : (n : ℕ) → (n == n) ≡ true
is_itself n = grind arith

outcome_suits : (s : Slot) (k : Kept) → suits s (outcome_of s k) ≡ true
outcome_suits (Shares kind wire) k = refl
outcome_suits (Holds kind wire) k = refl
outcome_suits (Changes kind wire) Stays = refl
outcome_suits (Changes kind wire) (Cookie c) = refl
outcome_suits (Changes kind wire) Null = refl
outcome_suits (Opens kind serial) Stays = refl
outcome_suits (Opens kind serial) (Cookie c) = is_itself serial
outcome_suits (Opens kind serial) Null = refl

unchanged_suits : (s : Slot) (c : Option ℕ) → suits s (unchanged s c) ≡ true
unchanged_suits (Shares kind wire) c = refl
unchanged_suits (Holds kind wire) c = refl
unchanged_suits (Changes kind wire) c = refl
unchanged_suits (Opens kind serial) c = refl

join_true : (a b : Bool) → a ≡ true → b ≡ true → (a && b) ≡ true
join_true a b p q = rw p q

outcomes_suit : (ss : List Slot) (ks : List Kept) → length ks ≡ length ss → suit ss (outcomes_of ss ks) ≡ true
outcomes_suit [] [] e = refl
outcomes_suit [] (k ∷ ks) e = absurd (omega (arith, e))
outcomes_suit (s ∷ ss) [] e = absurd (omega (arith, e))
outcomes_suit (s ∷ ss) (k ∷ ks) e =
    join_true (suits s (outcome_of s k)) (suit ss (outcomes_of ss ks)) (outcome_suits s k) (outcomes_suit ss ks (omega (arith, e)))

all_suit : (ss : List Slot) (cs : List (Option ℕ)) → suit_cookies ss cs ≡ true → suit ss (all_unchanged ss cs) ≡ true
all_suit [] [] e = refl
all_suit [] (c ∷ cs) e = absurd cc
all_suit (s ∷ ss) [] e = absurd cc
all_suit (s ∷ ss) (c ∷ cs) e =
    join_true (suits s (unchanged s c)) (suit ss (all_unchanged ss cs)) (unchanged_suits s c)
    (all_suit ss cs (both (beq (is_some c) (not (opens s))) (suit_cookies ss cs) e).1)

pub results_suit : ResultsSuit
results_suit ss cs (AOut m ks) e f = outcomes_suit ss ks f
results_suit ss cs (AFault status) e f = all_suit ss cs e

-- ---- cookies are given

-- serials don't matter
same_opens : (s : Slot) → opens (with_serial 0 s) ≡ opens s
same_opens (Shares kind wire) = refl
same_opens (Holds kind wire) = refl
same_opens (Changes kind wire) = refl
same_opens (Opens kind serial) = refl

without_serials : (ss : List Slot) (cs : List (Option ℕ)) → suit_cookies (map (with_serial 0) ss) cs ≡ suit_cookies ss cs
without_serials [] [] = refl
without_serials [] (c ∷ cs) = refl
without_serials (s ∷ ss) [] = refl
without_serials (s ∷ ss) (c ∷ cs) = rw (same_opens s, without_serials ss cs) refl

-- no cookie is behind
row_is : (cs : List (Option ℕ)) → length cs ≤ 4 → (rest : List (Option ℕ)) × (row_of cs ≡ cs ++ rest) × (list_any is_some rest ≡ false)
row_is [] h = (None ∷ None ∷ None ∷ None ∷ [], refl, refl)
row_is (a ∷ []) h = (None ∷ None ∷ None ∷ [], refl, refl)
row_is (a ∷ b ∷ []) h = (None ∷ None ∷ [], refl, refl)
row_is (a ∷ b ∷ c ∷ []) h = (None ∷ [], refl, refl)
row_is (a ∷ b ∷ c ∷ d ∷ []) h = ([], refl, refl)
row_is (a ∷ b ∷ c ∷ d ∷ e ∷ cs) h = absurd (omega (arith, h))

named_by : (iface kind : ℕ) (u : HandleUse) (w : WireHandle) (o n s : Bool)
    → not (opens (if o then (if n then opening iface u else Changes kind w) else (if s then Holds kind w else Shares kind w))) ≡ (not o || not n)
named_by iface kind u w true true s = refl
named_by iface kind u w true false s = refl
named_by iface kind u w false n true = refl
named_by iface kind u w false n false = refl

-- the slot of a handle that goes in names one exactly where the group has one
opens_for : (iface : ℕ) (u : HandleUse) (w : WireHandle) → u.inward ≡ true → not (opens (slot_for iface u w)) ≡ is_given u w
opens_for iface u w e = rw e (named_by iface (kind_in iface u) u w u.outward (is_null w) u.serialised)

-- each handle that goes in has its wire handle
abbrev pub Enough : List HandleUse → List WireHandle → Type 0
Enough us ws = inward_in us ≤ length ws

module _ (iface : ℕ) (rest : List (Option ℕ)) (none : list_any is_some rest ≡ false) where
  abbrev Goes : List HandleUse → List WireHandle → Type 0
  Goes us ws = (cs : List (Option ℕ)) → Enough us ws → suit_cookies (slots_for iface us ws) cs ≡ true → has_cookies us ws (cs ++ rest) ≡ true

  lone : (u : HandleUse) (us : List HandleUse) (cs : List (Option ℕ)) (b : Bool) → Goes us [] → u.inward ≡ b
      → (if b then suc (inward_in us) else inward_in us) ≤ 0
      → suit_cookies (if b then [] else opening iface u ∷ slots_for iface us []) cs ≡ true → has_cookies (u ∷ us) [] (cs ++ rest) ≡ true
  lone u us cs true go i h e = absurd (omega (arith, h))
  lone u us [] false go i h e = absurd cc
  lone u us (Some x ∷ cs) false go i h e = absurd cc
  lone u us (None ∷ cs) false go i h e = rw (i, go cs h e) refl

  pair : (u : HandleUse) (us : List HandleUse) (w : WireHandle) (ws : List WireHandle) (cs : List (Option ℕ)) (b : Bool) → Goes us ws → Goes us (w ∷ ws) → u.inward ≡ b
      → (if b then suc (inward_in us) else inward_in us) ≤ suc (length ws)
      → suit_cookies (if b then slot_for iface u w ∷ slots_for iface us ws else opening iface u ∷ slots_for iface us (w ∷ ws)) cs ≡ true
      → has_cookies (u ∷ us) (w ∷ ws) (cs ++ rest) ≡ true
  pair u us w ws [] true go on i h e = absurd cc
  pair u us w ws (c ∷ cs) true go on i h e =
      let p = both (beq (is_some c) (not (opens (slot_for iface u w)))) (suit_cookies (slots_for iface us ws) cs) e in
      let k : beq (is_some c) (is_given u w) ≡ true = ap (λ (b : Bool). beq (is_some c) b) (sym (opens_for iface u w i)) ∙ p.0 in
      let f : has_cookies us ws (cs ++ rest) ≡ true = go cs (omega (arith, h)) p.1 in
      rw (k, i, f) refl
  pair u us w ws [] false go on i h e = absurd cc
  pair u us w ws (Some x ∷ cs) false go on i h e = absurd cc
  pair u us w ws (None ∷ cs) false go on i h e = rw (i, on cs h e) refl

  pub given : (us : List HandleUse) (ws : List WireHandle) → Goes us ws
  given [] ws [] h e = rw none refl
  given [] ws (c ∷ cs) h e = absurd cc
  given (u ∷ us) [] cs h e = lone u us cs u.inward (given us []) refl h e
  given (u ∷ us) (w ∷ ws) cs h e = pair u us w ws cs u.inward (given us ws) (given us (w ∷ ws)) refl h e

-- ---- as many slots as handle parameters

module _ (iface : ℕ) where
  abbrev AsMany : List HandleUse → List WireHandle → Type 0
  AsMany us ws = Enough us ws → length (slots_for iface us ws) ≡ length us

  many_lone : (u : HandleUse) (us : List HandleUse) (b : Bool) → AsMany us [] → (if b then suc (inward_in us) else inward_in us) ≤ 0
      → length (if b then [] else opening iface u ∷ slots_for iface us []) ≡ suc (length us)
  many_lone u us true go h = absurd (omega (arith, h))
  many_lone u us false go h = ap suc (go h)

  many_pair : (u : HandleUse) (us : List HandleUse) (w : WireHandle) (ws : List WireHandle) (b : Bool) → AsMany us ws → AsMany us (w ∷ ws)
      → (if b then suc (inward_in us) else inward_in us) ≤ suc (length ws)
      → length (if b then slot_for iface u w ∷ slots_for iface us ws else opening iface u ∷ slots_for iface us (w ∷ ws)) ≡ suc (length us)
  many_pair u us w ws true go on h = ap suc (go (omega (arith, h)))
  many_pair u us w ws false go on h = ap suc (on h)

  pub as_many : (us : List HandleUse) (ws : List WireHandle) → AsMany us ws
  as_many [] ws h = refl
  as_many (u ∷ us) [] h = many_lone u us u.inward (as_many us []) h
  as_many (u ∷ us) (w ∷ ws) h = many_pair u us w ws u.inward (as_many us ws) (as_many us (w ∷ ws)) h

pub kepts_many : (us : List HandleUse) (ks : List Kept) → has_kepts us ks ≡ true → length ks ≡ length us
kepts_many [] [] e = refl
kepts_many [] (k ∷ ks) e = absurd cc
kepts_many (u ∷ us) [] e = absurd cc
kepts_many (u ∷ us) (k ∷ ks) e = ap suc (kepts_many us ks (both (beq (is_stays k) (not u.outward)) (has_kepts us ks) e).1)

-- ---- the laws

enough : (t : TableForm) (o : OpForm) (op : ℕ) (m : Msg) → IsSound t.types t.ops t.uses → slice_get t.ops op ≡ Some o → IsOfOp t.types o Request None m → Enough (uses_at t op) m.wires
enough t o op m sound at is = let e = wires_are t.types t.ops t.uses op o None m sound at is in omega (arith, e)

suited : (iface : ℕ) (us : List HandleUse) (ws : List WireHandle) (ss : List Slot) (cs : List (Option ℕ)) → map (with_serial 0) ss ≡ slots_for iface us ws
    → suit_cookies ss cs ≡ true → suit_cookies (slots_for iface us ws) cs ≡ true
suited iface us ws ss cs e f = ap (λ (x : List Slot). suit_cookies x cs) (sym e) ∙ without_serials ss cs ∙ f

as_long : (ss : List Slot) (cs : List (Option ℕ)) → suit_cookies ss cs ≡ true → length cs ≡ length ss
as_long [] [] e = refl
as_long [] (c ∷ cs) e = absurd cc
as_long (s ∷ ss) [] e = absurd cc
as_long (s ∷ ss) (c ∷ cs) e = ap suc (as_long ss cs (both (beq (is_some c) (not (opens s))) (suit_cookies ss cs) e).1)

pub cookies_are_given : CookiesAreGiven
cookies_are_given t o iface op m ss cs sound at is slots few suit =
    let n = as_long ss cs suit in
    let row = row_is cs (omega (arith, n, few)) in
    let f : has_cookies (uses_at t op) m.wires (cs ++ row.0) ≡ true =
    given iface row.0 row.2 (uses_at t op) m.wires cs (enough t o op m sound at is) (suited iface (uses_at t op) m.wires ss cs slots suit) in
    ap (λ (x : List (Option ℕ)). has_cookies (uses_at t op) m.wires x) row.1 ∙ f

pub kepts_are_for_slots : KeptsAreForSlots
kepts_are_for_slots t o iface op m ss (AFault status) sound at is slots owes = tt
kepts_are_for_slots t o iface op m ss (AOut out ks) sound at is slots owes =
    let a = kepts_many (uses_at t op) ks owes.1 in
    let b = as_many iface (uses_at t op) m.wires (enough t o op m sound at is) in
    let c : length (map (with_serial 0) ss) ≡ length ss = length-map ss (with_serial 0) in
    let d : length (map (with_serial 0) ss) ≡ length (slots_for iface (uses_at t op) m.wires) = ap length slots in
    a ∙ sym b ∙ sym d ∙ c

-- ---- serials

bare : (n : ℕ) (s : Slot) → with_serial 0 (with_serial n s) ≡ with_serial 0 s
bare n (Shares kind wire) = refl
bare n (Holds kind wire) = refl
bare n (Changes kind wire) = refl
bare n (Opens kind serial) = refl

bare_all : (n : ℕ) (ss : List Slot) → map (with_serial 0) (filled n ss) ≡ map (with_serial 0) ss
bare_all n [] = refl
bare_all n (s ∷ ss) = rw (bare (next_serial n s) s, bare_all (next_serial n s) ss) refl

as_many_filled : (n : ℕ) (ss : List Slot) → length (filled n ss) ≡ length ss
as_many_filled n [] = refl
as_many_filled n (s ∷ ss) = ap suc (as_many_filled (next_serial n s) ss)

pub numbered_stay : NumberedStay
numbered_stay tables iface op order stub ss n h =
    (record { message = h.message; asked = h.asked; slots_are = bare_all n ss ∙ h.slots_are }, as_many_filled n ss)

-- ---- the front of a row

front_of : (cs rest : List (Option ℕ)) → take (length cs) (cs ++ rest) ≡ cs
front_of [] rest = refl
front_of (c ∷ cs) rest = ap (λ (x : List (Option ℕ)). c ∷ x) (front_of cs rest)

pub first_cookies : (cs row : List (Option ℕ)) (n : ℕ) → n ≤ 4 → row ≡ row_of cs → length cs ≡ n → take n row ≡ cs
first_cookies cs row n h e f =
    let r = row_is cs (omega (arith, h, f)) in
    let g : row ≡ cs ++ r.0 = e ∙ r.1 in
    rw (← f, g) (front_of cs r.0)
