-- Texts of requests, whose handles are renamed piece by piece.
use Rattle.std.proofs.Common.{◌≡◌, ◌≢◌, ℕ, suc, ◌^◌, ◌<◌, true, false, List, [], ◌∷◌, ◌++◌, length, refl, ap, sym, ◌∙◌, subst, append_assoc, arith, decimal}
use Rattle.std.proofs.lemmas.List.{append-nil}
use Rattle.rpc_base.specs.declared.identifiers.WireHandle.{WireHandle}
use Rattle.base_words.specs.Reads.{HasNo}
use Rattle.value_text.specs.Marks.{heads_digit}
use Rattle.client_texts.specs.Handles.{name, has_name}
use Rattle.client_texts.specs.Texts.{NamedFrom}
use Rattle.client_texts.specs.Texts.NamedFrom.{the_end, handle, quoted, other}
use Rattle.client_texts.proofs.Lacks.{head_is, tail_is, same_inside, no_quote}
use Rattle.client_texts.proofs.Apart.{same_name}

one_longer : (ws : List WireHandle) (w : WireHandle) → length (ws ++ w ∷ []) ≡ suc (length ws)
one_longer [] w = refl
one_longer (v ∷ ws) w = ap suc (one_longer ws w)

module _ (known : List WireHandle) where
  -- both texts begin with the same octet
  pub same_head : (k : ℕ) (ws : List WireHandle) (a b : List ℕ) → NamedFrom known k ws a b → heads_digit a ≡ heads_digit b
  same_head k ws a b (the_end k') = refl
  same_head k ws a b (handle k' w ws' r s has behind n) = refl
  same_head k ws a b (quoted k' ws' i r s none n) = refl
  same_head k ws a b (other k' ws' c r s d e n) = refl

  -- ---- what stands at the front

  pub record Handled (k : ℕ) (ws : List WireHandle) (p u : List ℕ) : Type 0 where
    pub wire : WireHandle
    pub others : List WireHandle
    pub left : List ℕ
    pub after : List ℕ
    pub wires_are : ws ≡ wire ∷ others
    pub places_are : p ≡ 36 ∷ decimal k ++ left
    pub text_is : u ≡ name known wire ++ after
    pub has : has_name known wire ≡ true
    pub stops : heads_digit after ≡ false
    pub goes_on : NamedFrom known (suc k) others left after

  pub on_handle : (k : ℕ) (ws : List WireHandle) (p t u : List ℕ) → NamedFrom known k ws p t → t ≡ 36 ∷ u → Handled k ws p u
  on_handle k ws p t u (the_end k') e = absurd cc
  on_handle k ws p t u (handle k' w ws' r s has behind n) e = record {
    wire = w;
    others = ws';
    left = r;
    after = s;
    wires_are = refl;
    places_are = refl;
    text_is = sym (tail_is 36 36 (name known w ++ s) u e);
    has = has;
    stops = sym (same_head (suc k) ws' r s n) ∙ behind;
    goes_on = n;
  }
  on_handle k ws p t u (quoted k' ws' i r s none n) e = let h = head_is 34 36 (i ++ 34 ∷ s) u e in absurd (omega (arith, h))
  on_handle k ws p t u (other k' ws' c r s off quote n) e = absurd (off (head_is c 36 s u e))

  abbrev pub Quoted : ℕ → List WireHandle → List ℕ → List ℕ → List ℕ → Type 0
  Quoted k ws p inside after = (left : List ℕ) × (p ≡ 34 ∷ inside ++ 34 ∷ left) × NamedFrom known k ws left after

  pub on_quoted : (k : ℕ) (ws : List WireHandle) (p t inside after : List ℕ) → NamedFrom known k ws p t → t ≡ 34 ∷ inside ++ 34 ∷ after → HasNo 34 inside → Quoted k ws p inside after
  on_quoted k ws p t inside after (the_end k') e none = absurd cc
  on_quoted k ws p t inside after (handle k' w ws' r s has behind n) e none = let h = head_is 36 34 (name known w ++ s) (inside ++ 34 ∷ after) e in absurd (omega (arith, h))
  on_quoted k ws p t inside after (quoted k' ws' i r s free n) e none =
      let same = same_inside i inside s after free none (tail_is 34 34 (i ++ 34 ∷ s) (inside ++ 34 ∷ after) e) in
      (r, ap (λ (x : List ℕ). 34 ∷ x ++ 34 ∷ r) same.0, subst (λ (x : List ℕ). NamedFrom known k ws r x) same.1 n)
  on_quoted k ws p t inside after (other k' ws' c r s off quote n) e none = absurd (quote (head_is c 34 s (inside ++ 34 ∷ after) e))

  pub on_open : (k : ℕ) (ws : List WireHandle) (p t after : List ℕ) → NamedFrom known k ws p t → t ≡ 34 ∷ after → HasNo 34 after → ⊥
  on_open k ws p t after (the_end k') e none = absurd cc
  on_open k ws p t after (handle k' w ws' r s has behind n) e none = let h = head_is 36 34 (name known w ++ s) after e in omega (arith, h)
  on_open k ws p t after (quoted k' ws' i r s free n) e none = no_quote i s after none (sym (tail_is 34 34 (i ++ 34 ∷ s) after e))
  on_open k ws p t after (other k' ws' c r s off quote n) e none = quote (head_is c 34 s after e)

  abbrev pub Other : ℕ → List WireHandle → List ℕ → ℕ → List ℕ → Type 0
  Other k ws p c after = (left : List ℕ) × (p ≡ c ∷ left) × NamedFrom known k ws left after

  pub on_other : (k : ℕ) (ws : List WireHandle) (p t : List ℕ) (c : ℕ) (after : List ℕ) → NamedFrom known k ws p t → t ≡ c ∷ after → c ≢ 36 → c ≢ 34 → Other k ws p c after
  on_other k ws p t c after (the_end k') e off quote = absurd cc
  on_other k ws p t c after (handle k' w ws' r s has behind n) e off quote = absurd (off (sym (head_is 36 c (name known w ++ s) after e)))
  on_other k ws p t c after (quoted k' ws' i r s free n) e off quote = absurd (quote (sym (head_is 34 c (i ++ 34 ∷ s) after e)))
  on_other k ws p t c after (other k' ws' d r s no_h no_q n) e off quote =
      (r, ap (λ (x : ℕ). x ∷ r) (head_is d c s after e), subst (λ (x : List ℕ). NamedFrom known k ws r x) (tail_is d c s after e) n)

  pub on_end : (k : ℕ) (ws : List WireHandle) (p t : List ℕ) → NamedFrom known k ws p t → t ≡ [] → (ws ≡ []) × (p ≡ [])
  on_end k ws p t (the_end k') e = (refl, refl)
  on_end k ws p t (handle k' w ws' r s has behind n) e = absurd cc
  on_end k ws p t (quoted k' ws' i r s free n) e = absurd cc
  on_end k ws p t (other k' ws' d r s no_h no_q n) e = absurd cc

-- ---- from names to places: what is renamed so far goes on with what is left, in one way

module _ (known : List WireHandle) (text : List ℕ) where
  abbrev pub Goes : List WireHandle → List ℕ → List ℕ → Type 0
  Goes wires plain rest = (more : List WireHandle) (b : List ℕ) → NamedFrom known (length wires) more b rest → NamedFrom known 0 (wires ++ more) (plain ++ b) text

  -- the whole renaming is that which was done so far, and one of what is left
  pub record Left (wires : List WireHandle) (plain rest : List ℕ) (ws : List WireHandle) (p : List ℕ) : Type 0 where
    pub more : List WireHandle
    pub places : List ℕ
    pub named : NamedFrom known (length wires) more places rest
    pub wires_are : ws ≡ wires ++ more
    pub places_are : p ≡ plain ++ places

  abbrev pub Back : List WireHandle → List ℕ → List ℕ → Type 0
  Back wires plain rest = (ws : List WireHandle) (p : List ℕ) → NamedFrom known 0 ws p text → Left wires plain rest ws p

  pub back_start : Back [] [] text
  back_start ws p n = record { more = ws; places = p; named = n; wires_are = refl; places_are = refl }

  pub goes_end : (wires : List WireHandle) (plain rest : List ℕ) → rest ≡ [] → Goes wires plain rest → NamedFrom known 0 wires plain text
  goes_end wires plain rest none go =
      let n = go [] [] (subst (λ (x : List ℕ). NamedFrom known (length wires) [] [] x) (sym none) (the_end (length wires))) in
      subst (λ (x : List ℕ). NamedFrom known 0 wires x text) (append-nil plain) (subst (λ (x : List WireHandle). NamedFrom known 0 x (plain ++ []) text) (append-nil wires) n)

  pub back_end : (wires : List WireHandle) (plain rest : List ℕ) → rest ≡ [] → Back wires plain rest → (ws : List WireHandle) (p : List ℕ) → NamedFrom known 0 ws p text → (ws ≡ wires) × (p ≡ plain)
  back_end wires plain rest none back ws p n =
      let l = back ws p n in
      let e = on_end known (length wires) l.more l.places rest l.named none in
      (l.wires_are ∙ (ap (λ (x : List WireHandle). wires ++ x) e.0 ∙ append-nil wires), l.places_are ∙ (ap (λ (x : List ℕ). plain ++ x) e.1 ∙ append-nil plain))

  pub goes_handle : (wires : List WireHandle) (w : WireHandle) (plain rest after : List ℕ) → rest ≡ 36 ∷ name known w ++ after → has_name known w ≡ true → heads_digit after ≡ false → Goes wires plain rest
      → Goes (wires ++ w ∷ []) ((plain ++ 36 ∷ []) ++ decimal (length wires)) after
  goes_handle wires w plain rest after is has behind go more b n =
      let m = subst (λ (k : ℕ). NamedFrom known k more b after) (one_longer wires w) n in
      let one : NamedFrom known (length wires) (w ∷ more) (36 ∷ decimal (length wires) ++ b) (36 ∷ name known w ++ after) =
      handle (length wires) w more b after has (same_head known (suc (length wires)) more b after m ∙ behind) m in
      let on = go (w ∷ more) (36 ∷ decimal (length wires) ++ b) (subst (λ (x : List ℕ). NamedFrom known (length wires) (w ∷ more) (36 ∷ decimal (length wires) ++ b) x) (sym is) one) in
      let put = subst (λ (x : List ℕ). NamedFrom known 0 (wires ++ w ∷ more) x text)
      (sym (append_assoc (plain ++ 36 ∷ []) (decimal (length wires)) b ∙ append_assoc plain (36 ∷ []) (decimal (length wires) ++ b))) on in
      subst (λ (x : List WireHandle). NamedFrom known 0 x (((plain ++ 36 ∷ []) ++ decimal (length wires)) ++ b) text) (sym (append_assoc wires (w ∷ []) more)) put

  pub back_handle : length known < 2 ^ 64 → (wires : List WireHandle) (w : WireHandle) (plain rest after : List ℕ) → rest ≡ 36 ∷ name known w ++ after → has_name known w ≡ true → heads_digit after ≡ false → Back wires plain rest
      → Back (wires ++ w ∷ []) ((plain ++ 36 ∷ []) ++ decimal (length wires)) after
  back_handle few wires w plain rest after is has behind back ws p n =
      let l = back ws p n in
      let h = on_handle known (length wires) l.more l.places rest (name known w ++ after) l.named is in
      let same = same_name known few h.wire w h.after after h.has has h.stops behind (sym h.text_is) in
      let named : NamedFrom known (suc (length wires)) h.others h.left after = subst (λ (x : List ℕ). NamedFrom known (suc (length wires)) h.others h.left x) same.1 h.goes_on in
      record {
        more = h.others;
        places = h.left;
        named = subst (λ (k : ℕ). NamedFrom known k h.others h.left after) (sym (one_longer wires w)) named;
        wires_are = l.wires_are ∙ (ap (λ (x : List WireHandle). wires ++ x) (h.wires_are ∙ ap (λ (v : WireHandle). v ∷ h.others) same.0) ∙ sym (append_assoc wires (w ∷ []) h.others));
        places_are = l.places_are ∙ (ap (λ (x : List ℕ). plain ++ x) h.places_are
            ∙ sym (append_assoc (plain ++ 36 ∷ []) (decimal (length wires)) h.left ∙ append_assoc plain (36 ∷ []) (decimal (length wires) ++ h.left)));
      }

  pub goes_quoted : (wires : List WireHandle) (plain rest inside after : List ℕ) → rest ≡ 34 ∷ inside ++ 34 ∷ after → HasNo 34 inside → Goes wires plain rest
      → Goes wires (((plain ++ 34 ∷ []) ++ inside) ++ 34 ∷ []) after
  goes_quoted wires plain rest inside after is none go more b n =
      let one : NamedFrom known (length wires) more (34 ∷ inside ++ 34 ∷ b) (34 ∷ inside ++ 34 ∷ after) = quoted (length wires) more inside b after none n in
      let on = go more (34 ∷ inside ++ 34 ∷ b) (subst (λ (x : List ℕ). NamedFrom known (length wires) more (34 ∷ inside ++ 34 ∷ b) x) (sym is) one) in
      subst (λ (x : List ℕ). NamedFrom known 0 (wires ++ more) x text)
      (sym (append_assoc ((plain ++ 34 ∷ []) ++ inside) (34 ∷ []) b ∙ (append_assoc (plain ++ 34 ∷ []) inside (34 ∷ b) ∙ append_assoc plain (34 ∷ []) (inside ++ 34 ∷ b)))) on

  pub back_quoted : (wires : List WireHandle) (plain rest inside after : List ℕ) → rest ≡ 34 ∷ inside ++ 34 ∷ after → HasNo 34 inside → Back wires plain rest
      → Back wires (((plain ++ 34 ∷ []) ++ inside) ++ 34 ∷ []) after
  back_quoted wires plain rest inside after is none back ws p n =
      let l = back ws p n in
      let q = on_quoted known (length wires) l.more l.places rest inside after l.named is none in
      record {
        more = l.more;
        places = q.0;
        named = q.2;
        wires_are = l.wires_are;
        places_are = l.places_are ∙ (ap (λ (x : List ℕ). plain ++ x) q.1
            ∙ sym (append_assoc ((plain ++ 34 ∷ []) ++ inside) (34 ∷ []) q.0 ∙ (append_assoc (plain ++ 34 ∷ []) inside (34 ∷ q.0) ∙ append_assoc plain (34 ∷ []) (inside ++ 34 ∷ q.0))));
      }

  pub goes_other : (wires : List WireHandle) (plain rest : List ℕ) (c : ℕ) (after : List ℕ) → rest ≡ c ∷ after → c ≢ 36 → c ≢ 34 → Goes wires plain rest → Goes wires (plain ++ c ∷ []) after
  goes_other wires plain rest c after is off quote go more b n =
      let one : NamedFrom known (length wires) more (c ∷ b) (c ∷ after) = other (length wires) more c b after off quote n in
      let on = go more (c ∷ b) (subst (λ (x : List ℕ). NamedFrom known (length wires) more (c ∷ b) x) (sym is) one) in
      subst (λ (x : List ℕ). NamedFrom known 0 (wires ++ more) x text) (sym (append_assoc plain (c ∷ []) b)) on

  pub back_other : (wires : List WireHandle) (plain rest : List ℕ) (c : ℕ) (after : List ℕ) → rest ≡ c ∷ after → c ≢ 36 → c ≢ 34 → Back wires plain rest → Back wires (plain ++ c ∷ []) after
  back_other wires plain rest c after is off quote back ws p n =
      let l = back ws p n in
      let o = on_other known (length wires) l.more l.places rest c after l.named is off quote in
      record { more = l.more; places = o.0; named = o.2; wires_are = l.wires_are; places_are = l.places_are ∙ (ap (λ (x : List ℕ). plain ++ x) o.1 ∙ sym (append_assoc plain (c ∷ []) o.0)) }
