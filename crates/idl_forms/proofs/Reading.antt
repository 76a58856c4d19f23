-- What is read off a part's tokens is the part.
use Rattle.std.proofs.Common.{◌≡◌, ℕ, zero, suc, ◌≤◌, Bool, true, false, eqb, List, [], ◌∷◌, ◌++◌, length, map, refl, ap, sym, ◌∙◌, subst, None, Some, arith, inl, inr}
use Rattle.std.specs.List.{flat_map}
use Rattle.std.proofs.lemmas.Bool.{eq-eqb}
use Rattle.std.proofs.Math.Bool.{or-false}
use Rattle.idl_tokens.specs.Ebnf.{has}
use Rattle.idl_tokens.specs.Checks.{apart}
use Rattle.idl_tokens.proofs.Sets.{has_either, has_left, has_right}
use Rattle.idl_tokens.specs.declared.words.Word.{Word}
use Rattle.idl_tokens.specs.declared.marks.Mark.{Mark}
use Rattle.idl_tokens.specs.declared.marks.Mark.TheVariants as marks
use Rattle.idl_tokens.specs.declared.marks.Bracket.{Bracket}
use Rattle.idl_tokens.specs.declared.marks.Bracket.TheVariants as brackets
use Rattle.idl_tokens.specs.declared.kinds.Kind.TheVariants as kinds
use Rattle.idl_tokens.specs.Terminals.{of_word, of_mark, closing, opening, bad_class}
use Rattle.idl_tree.specs.Pieces.{Piece, Pieces, alone, placed, range_pieces, word_pieces, mark_pieces, open_pieces, shut_pieces, if_word, if_mark, within, commas}
use Rattle.idl_tree.specs.Trees.{in_squares}
use Rattle.idl_forms.proofs.Stream.{Seen, bare, AllAt, head, tail, place, class, Clean, Shown, heads, if_true, if_false, head_is, off_left, off_right, not_among, ends, shown_cut, shown_length, shown_clean, shown_heads, shown_placed}
use Rattle.idl_forms.proofs.Readers.{mapped, both, split, single, behind, upto, chosen, flag, maybe, loop, listed, maybe_listed, squares, at_place}

-- A part is read off its tokens, which are at most n, if the rest begins with none of the classes of off.
pub record Reads (f : ℕ → ℕ) {M : Type 0} (n : ℕ) (off : List ℕ) (d : List Seen → M × List Seen) (ps : Pieces) (m : M) : Type 0 where
  pub read : (ss rest : List Seen) → length ss ≤ n → Clean ss → has (head rest) off ≡ false → Shown f ps ss rest → d ss ≡ (m, rest)

wider : (c : ℕ) (ds cs : List ℕ) → has c (bad_class ∷ cs) ≡ true → has c (bad_class ∷ (ds ++ cs)) ≡ true
wider c ds cs e = elim (has_either c (bad_class ∷ []) cs e) [ inl h ↦ has_left c (bad_class ∷ []) (ds ++ cs) h | inr h ↦ has_right c (bad_class ∷ []) (ds ++ cs) (has_right c ds cs h) ]

pub heads_append : (cs : List ℕ) (ps qs : Pieces) → heads cs ps ≡ true → heads cs (ps ++ qs) ≡ true
heads_append cs [] qs e = cc
heads_append cs (p ∷ ps) qs e = e

pub heads_placed : (cs : List ℕ) (at : ℕ) (ps : Pieces) → heads cs ps ≡ true → heads cs (placed at ps) ≡ true
heads_placed cs at [] e = cc
heads_placed cs at (p ∷ ps) e = e

pub heads_left : (cs ds : List ℕ) (ps : Pieces) → heads cs ps ≡ true → heads (cs ++ ds) ps ≡ true
heads_left cs ds [] e = cc
heads_left cs ds (p ∷ ps) e = has_left (class p.what) (bad_class ∷ cs) ds e

pub heads_right : (ds cs : List ℕ) (ps : Pieces) → heads cs ps ≡ true → heads (ds ++ cs) ps ≡ true
heads_right ds cs [] e = cc
heads_right ds cs (p ∷ ps) e = wider (class p.what) ds cs e

never_bad : (f : ℕ → ℕ) (ss rest : List Seen) → Clean ss → Shown f (alone kinds.Bad ∷ []) ss rest → ⊥
never_bad f [] rest k h = absurd h
never_bad f (s ∷ ss) rest k h = k.0 (ap class h.0)

placed_again : (f : ℕ → ℕ) (cs : List ℕ) (at : ℕ) (ps : Pieces) (ss rest : List Seen) → heads cs ps ≡ true → Shown f (placed at ps) ss rest → Shown f ps ss rest × (place ss ≡ f at)
placed_again f cs at [] ss rest e h = cc
placed_again f cs at (p ∷ ps) ss rest e h = shown_placed f at p ps ss rest h

module _ {f : ℕ → ℕ} where
  pub reads_as : {M : Type 0} {n : ℕ} {off : List ℕ} {d : List Seen → M × List Seen} {ps qs : Pieces} {a b : M} → ps ≡ qs → b ≡ a → Reads f n off d qs a → Reads f n off d ps b
  reads_as {n = n} {off = off} {d = d} {ps = ps} {qs = qs} {a = a} {b = b} e same r = record {
    read = λ ss rest l c o h. r.read ss rest l c o (subst (λ (v : Pieces). Shown f v ss rest) e h) ∙ ap (λ v. (v, rest)) (sym same);
  }

  -- a part that no token carries on
  pub reads_any : {M : Type 0} {n : ℕ} (off : List ℕ) {d : List Seen → M × List Seen} {ps : Pieces} {m : M} → Reads f n [] d ps m → Reads f n off d ps m
  reads_any off r = record { read = λ ss rest l c o h. r.read ss rest l c refl h }

  pub reads_fewer : {M : Type 0} {n : ℕ} {off : List ℕ} {d : List Seen → M × List Seen} {ps : Pieces} {m : M} → Reads f (suc n) off d ps m → Reads f n off d ps m
  reads_fewer r = record { read = λ ss rest l c o h. r.read ss rest (omega arith) c o h }

  pub reads_mapped : {A B : Type 0} (g : A → B) {n : ℕ} {off : List ℕ} {d : List Seen → A × List Seen} {ps : Pieces} {m : A} → Reads f n off d ps m → Reads f n off (mapped g d) ps (g m)
  unfolding mapped
  reads_mapped g r = record { read = λ ss rest l c o h. ap (λ v. (g v.0, v.1)) (r.read ss rest l c o h) }

  pub reads_left : {M : Type 0} {n : ℕ} (on : List ℕ) {off : List ℕ} {d : List Seen → M × List Seen} {ps : Pieces} {m : M} → Reads f n off d ps m → Reads f n (off ++ on) d ps m
  reads_left on {off = off} r = record { read = λ ss rest l c o h. r.read ss rest l c (off_left (head rest) off on o) h }

  pub reads_right : {M : Type 0} {n : ℕ} (on : List ℕ) {off : List ℕ} {d : List Seen → M × List Seen} {ps : Pieces} {m : M} → Reads f n off d ps m → Reads f n (on ++ off) d ps m
  reads_right on {off = off} r = record { read = λ ss rest l c o h. r.read ss rest l c (off_right (head rest) on off o) h }

  -- one part, and another one; what follows the first does not carry it on
  next : {A B : Type 0} (n : ℕ) (off on : List ℕ) (d : List Seen → A × List Seen) (e : List Seen → B × List Seen) (ps qs : Pieces) (a : A) (b : B)
      → ((ss rest : List Seen) → Clean ss → has (head rest) off ≡ false → Shown f qs ss rest → has (head ss) on ≡ false)
      → Reads f n on d ps a → Reads f n off e qs b → Reads f n off (both d e) (ps ++ qs) (a, b)
  unfolding both
  next n off on d e ps qs a b follows p q = record {
    read = λ ss rest l c o h.
        let k = shown_cut f ps qs ss rest h in
        let c2 = shown_clean f ps ss k.0 k.1 c in
        let len = shown_length f ps ss k.0 k.1 in
        let first : d ss ≡ (a, k.0) = p.read ss k.0 l c (follows k.0 rest c2 o k.2) k.1 in
        let second : e k.0 ≡ (b, rest) = q.read k.0 rest (omega arith) c2 o k.2 in
        ap (λ v. ((v.0, (e v.1).0), (e v.1).1)) first ∙ ap (λ v. ((a, v.0), v.1)) second;
  }

  pub reads_both : {A B : Type 0} {n : ℕ} {off on : List ℕ} {d : List Seen → A × List Seen} {e : List Seen → B × List Seen} {ps qs : Pieces} {a : A} {b : B} (cs : List ℕ)
      → heads cs qs ≡ true → apart cs on ≡ true → Reads f n on d ps a → Reads f n off e qs b → Reads f n off (both d e) (ps ++ qs) (a, b)
  reads_both {n = n} {off = off} {on = on} {d = d} {e = e} {ps = ps} {qs = qs} {a = a} {b = b} cs starts far p q =
      next n off on d e ps qs a b (λ ss rest c o h. not_among (head ss) cs on far (shown_heads f cs qs ss rest starts h c).0) p q

  -- the first part is carried on by no token
  pub reads_then : {A B : Type 0} {n : ℕ} {off : List ℕ} {d : List Seen → A × List Seen} {e : List Seen → B × List Seen} {ps qs : Pieces} {a : A} {b : B}
      → Reads f n [] d ps a → Reads f n off e qs b → Reads f n off (both d e) (ps ++ qs) (a, b)
  reads_then {n = n} {off = off} {d = d} {e = e} {ps = ps} {qs = qs} {a = a} {b = b} p q = next n off [] d e ps qs a b (λ ss rest c o h. refl) p q

  -- ---- behind one token, and up to one token

  reads_behind : {A : Type 0} {n : ℕ} {off : List ℕ} {d : List Seen → A × List Seen} {ps : Pieces} {a : A} (p : Piece) → Reads f n off d ps a → Reads f (suc n) off (behind d) (p ∷ ps) a
  unfolding behind
  reads_behind {n = n} {off = off} {d = d} {ps = ps} {a = a} p r = record {
    read = λ ss rest. elim ss as (λ v. length v ≤ suc n → Clean v → has (head rest) off ≡ false → Shown f (p ∷ ps) v rest → d (tail v) ≡ (a, rest)) [
      | [] ↦ λ l c o h. absurd h
      | s ∷ more ↦ λ l c o h. r.read more rest (omega arith) c.1 o h.2
    ];
  }

  pub behind_word : {A : Type 0} {n : ℕ} {off : List ℕ} {d : List Seen → A × List Seen} {ps : Pieces} {a : A} (w : Word) → Reads f n off d ps a → Reads f n off (behind d) (word_pieces w ++ ps) a
  unfolding word_pieces
  behind_word w r = reads_fewer (reads_behind _ r)

  pub behind_range : {A : Type 0} {n : ℕ} {off : List ℕ} {d : List Seen → A × List Seen} {ps : Pieces} {a : A} → Reads f n off d ps a → Reads f n off (behind d) (range_pieces ++ ps) a
  unfolding range_pieces
  behind_range r = reads_fewer (reads_behind _ r)

  pub behind_mark : {A : Type 0} {n : ℕ} {off : List ℕ} {d : List Seen → A × List Seen} {ps : Pieces} {a : A} (m : Mark) → Reads f n off d ps a → Reads f n off (behind d) (mark_pieces m ++ ps) a
  unfolding mark_pieces
  behind_mark m r = reads_fewer (reads_behind _ r)

  pub reads_upto : {A : Type 0} {n : ℕ} {off : List ℕ} {d : List Seen → A × List Seen} {ps : Pieces} {a : A} (p : Piece) → has (class p.what) off ≡ false → Reads f n off d ps a → Reads f n [] (upto d) (ps ++ p ∷ []) a
  unfolding upto
  reads_upto {off = off} {d = d} {ps = ps} {a = a} p e r = record {
    read = λ ss rest l c o h.
        let k = shown_cut f ps (p ∷ []) ss rest h in
        let one = ends f p k.0 rest k.2 in
        let first : d ss ≡ (a, k.0) = r.read ss k.0 l c (subst (λ (v : ℕ). has v off ≡ false) (sym one.0) e) k.1 in
        ap (λ v. (v.0, tail v.1)) first ∙ ap (λ v. (a, v)) one.1;
  }

  pub upto_mark : {A : Type 0} {n : ℕ} {off : List ℕ} {d : List Seen → A × List Seen} {ps : Pieces} {a : A} (m : Mark) → has (of_mark m) off ≡ false → Reads f n off d ps a → Reads f n [] (upto d) (ps ++ mark_pieces m) a
  unfolding mark_pieces
  upto_mark m e r = reads_upto _ e r

  -- between brackets
  pub inside : {A : Type 0} {n : ℕ} {off : List ℕ} {d : List Seen → A × List Seen} {ps : Pieces} {a : A} (b : Bracket) → has (closing b) off ≡ false → Reads f n off d ps a → Reads f (suc n) [] (behind (upto d)) (within b ps) a
  unfolding open_pieces shut_pieces
  inside b e r = reads_behind _ (reads_upto _ e r)

  -- ---- a choice by the first token

  pub reads_chosen : {A : Type 0} {n : ℕ} {off : List ℕ} (by : ℕ → List Seen → A × List Seen) {ps : Pieces} {a : A} (c : ℕ) → heads (c ∷ []) ps ≡ true → Reads f n off (by c) ps a → Reads f n off (chosen by) ps a
  unfolding chosen
  reads_chosen by {ps = ps} c e r = record {
    read = λ ss rest l k o h. ap (λ v. by v ss) (head_is c ss (shown_heads f (c ∷ []) ps ss rest e h k).0) ∙ r.read ss rest l k o h;
  }

  pub split_yes : {A : Type 0} {n : ℕ} {off : List ℕ} (cs : List ℕ) {d : List Seen → A × List Seen} (e : List Seen → A × List Seen) {ps : Pieces} {a : A} → heads cs ps ≡ true → Reads f n off d ps a → Reads f n off (split cs d e) ps a
  unfolding split
  split_yes cs e {ps = ps} starts r = record { read = λ ss rest l k o h. if_true (has (head ss) cs) _ _ (shown_heads f cs ps ss rest starts h k).0 ∙ r.read ss rest l k o h }

  pub split_no : {A : Type 0} {n : ℕ} {off : List ℕ} (cs on : List ℕ) (d : List Seen → A × List Seen) {e : List Seen → A × List Seen} {ps : Pieces} {a : A} → heads on ps ≡ true → apart on cs ≡ true → Reads f n off e ps a → Reads f n off (split cs d e) ps a
  unfolding split
  split_no cs on d {ps = ps} starts far r = record { read = λ ss rest l k o h. if_false (has (head ss) cs) _ _ (not_among (head ss) on cs far (shown_heads f on ps ss rest starts h k).0) ∙ r.read ss rest l k o h }

  -- where there is no token
  pub split_none : {A : Type 0} {n : ℕ} {off : List ℕ} (cs : List ℕ) (d : List Seen → A × List Seen) {e : List Seen → A × List Seen} {a : A} → Reads f n off e [] a → Reads f n (cs ++ off) (split cs d e) [] a
  unfolding split
  split_none {off = off} cs d r = record {
    read = λ ss rest l k o h.
        if_false (has (head ss) cs) _ _ (subst (λ (v : List Seen). has (head v) cs ≡ false) (sym h) (off_left (head rest) cs off o)) ∙ r.read ss rest l k (off_right (head rest) cs off o) h;
  }

  -- ---- one token

  pub reads_single : {A : Type 0} {n : ℕ} (g : Seen → A) (z a : A) {p : Piece} → ((s : Seen) → s.what ≡ bare p.what → AllAt f s.at p.places → g s ≡ a) → Reads f n [] (single g z) (p ∷ []) a
  unfolding single
  reads_single g z a {p = p} is = record { read = λ ss rest l k o h. one_read ss rest h }
    where
      one_read : (ss rest : List Seen) → Shown f (p ∷ []) ss rest → single g z ss ≡ (a, rest)
      one_read [] rest h = absurd h
      one_read (s ∷ ss) rest h = ap (λ v. (v, ss)) (is s h.0 h.1) ∙ ap (λ v. (a, v)) h.2

  -- what no grammar takes stands nowhere
  pub reads_bad : {A : Type 0} {n : ℕ} {off : List ℕ} {d : List Seen → A × List Seen} {a : A} → Reads f n off d (alone kinds.Bad ∷ []) a
  reads_bad = record { read = λ ss rest l k o h. absurd (never_bad f ss rest k h) }

  -- ---- what may be left out

  flag_none : {n : ℕ} (c : ℕ) → Reads f n (c ∷ []) (flag c) [] false
  unfolding flag
  flag_none c = record { read = λ ss rest l k o h. if_false (eqb (head ss) c) _ _ (sym (or-false (eqb (head ss) c)) ∙ subst (λ (v : List Seen). has (head v) (c ∷ []) ≡ false) (sym h) o) ∙ ap (λ v. (false, v)) h }

  flag_one : {n : ℕ} (c : ℕ) (p : Piece) → class p.what ≡ c → Reads f n (c ∷ []) (flag c) (p ∷ []) true
  unfolding flag
  flag_one c p e = record {
    read = λ ss rest l k o h.
        let one = ends f p ss rest h in
        if_true (eqb (head ss) c) _ _ (eq-eqb (head ss) c (one.0 ∙ e)) ∙ ap (λ v. (true, v)) one.1;
  }

  pub flag_word : {n : ℕ} (b : Bool) (w : Word) → Reads f n (of_word w ∷ []) (flag (of_word w)) (if_word b w) b
  unfolding if_word word_pieces
  flag_word true w = flag_one (of_word w) _ refl
  flag_word false w = flag_none (of_word w)

  pub flag_mark : {n : ℕ} (b : Bool) (m : Mark) → Reads f n (of_mark m ∷ []) (flag (of_mark m)) (if_mark b m) b
  unfolding if_mark mark_pieces
  flag_mark true m = flag_one (of_mark m) _ refl
  flag_mark false m = flag_none (of_mark m)

  pub maybe_none : {A : Type 0} {n : ℕ} (cs : List ℕ) (d : List Seen → A × List Seen) → Reads f n cs (maybe cs d) [] None
  unfolding maybe
  maybe_none cs d = record { read = λ ss rest l k o h. if_false (has (head ss) cs) _ _ (subst (λ (v : List Seen). has (head v) cs ≡ false) (sym h) o) ∙ ap (λ v. (None, v)) h }

  pub maybe_some : {A : Type 0} {n : ℕ} {off : List ℕ} (cs : List ℕ) {d : List Seen → A × List Seen} {ps : Pieces} {a : A} → heads cs ps ≡ true → Reads f n off d ps a → Reads f n off (maybe cs d) ps (Some a)
  unfolding maybe
  maybe_some cs {ps = ps} e r = record { read = λ ss rest l k o h. if_true (has (head ss) cs) _ _ (shown_heads f cs ps ss rest e h k).0 ∙ ap (λ v. (Some v.0, v.1)) (r.read ss rest l k o h) }

  -- a part and its place
  pub reads_placed : {A : Type 0} {n : ℕ} {off : List ℕ} {d : List Seen → A × List Seen} {ps : Pieces} {a : A} (cs : List ℕ) (at : ℕ) → heads cs ps ≡ true → Reads f n off d ps a → Reads f n off (at_place d) (placed at ps) (f at, a)
  unfolding at_place
  reads_placed {n = n} {off = off} {d = d} {ps = ps} {a = a} cs at e r = record {
    read = λ ss rest l k o h.
        let q = placed_again f cs at ps ss rest e h in
        ap (λ v. ((place ss, v.0), v.1)) (r.read ss rest l k o q.0) ∙ ap (λ v. ((v, a), rest)) q.1;
  }

  -- ---- lists

  module _ {X A : Type 0} (p : X → Pieces) (m : X → A) (n : ℕ) (cs off : List ℕ) (d : List Seen → A × List Seen) (starts : (x : X) → heads cs (p x) ≡ true) (far : apart cs off ≡ true) (each : (x : X) → Reads f n off d (p x) (m x)) where
    loop_end : (k : ℕ) (ss : List Seen) → has (head ss) cs ≡ false → loop k cs d ss ≡ ([], ss)
    unfolding loop
    loop_end zero ss e = refl
    loop_end (suc k) ss e = if_false (has (head ss) cs) _ _ e

    -- what follows an item is another one, or the rest
    pub next_off : (xs : List X) (ss rest : List Seen) → Clean ss → has (head rest) (cs ++ off) ≡ false → Shown f (flat_map p xs) ss rest → has (head ss) off ≡ false
    next_off [] ss rest c o h = subst (λ (v : List Seen). has (head v) off ≡ false) (sym h) (off_right (head rest) cs off o)
    next_off (x ∷ xs) ss rest c o h =
        let cut = shown_cut f (p x) (flat_map p xs) ss rest h in
        not_among (head ss) cs off far (shown_heads f cs (p x) ss cut.0 (starts x) cut.1 c).0

    in_loop : (k : ℕ) (xs : List X) (ss rest : List Seen) → length ss ≤ k → length ss ≤ n → Clean ss → has (head rest) (cs ++ off) ≡ false → Shown f (flat_map p xs) ss rest → loop k cs d ss ≡ (map m xs, rest)
    unfolding loop
    in_loop k [] ss rest kl l c o h = loop_end k ss (subst (λ (v : List Seen). has (head v) cs ≡ false) (sym h) (off_left (head rest) cs off o)) ∙ ap (λ v. ([], v)) h
    in_loop zero (x ∷ xs) ss rest kl l c o h =
        let cut = shown_cut f (p x) (flat_map p xs) ss rest h in
        let hd = shown_heads f cs (p x) ss cut.0 (starts x) cut.1 c in
        let less = hd.1 in absurd (omega arith)
    in_loop (suc k) (x ∷ xs) ss rest kl l c o h =
        let cut = shown_cut f (p x) (flat_map p xs) ss rest h in
        let hd = shown_heads f cs (p x) ss cut.0 (starts x) cut.1 c in
        let less = hd.1 in
        let c2 = shown_clean f (p x) ss cut.0 cut.1 c in
        let first : d ss ≡ (m x, cut.0) = (each x).read ss cut.0 l c (next_off xs cut.0 rest c2 o cut.2) cut.1 in
        let more = in_loop k xs cut.0 rest (omega arith) (omega arith) c2 o cut.2 in
        if_true (has (head ss) cs) _ _ hd.0 ∙ (ap (λ v. (v.0 ∷ (loop k cs d v.1).0, (loop k cs d v.1).1)) first ∙ ap (λ v. (m x ∷ v.0, v.1)) more)

    pub reads_loop : (xs : List X) → Reads f n (cs ++ off) (loop n cs d) (flat_map p xs) (map m xs)
    reads_loop xs = record { read = λ ss rest l c o h. in_loop n xs ss rest l l c o h }

  module _ {X A : Type 0} (p : X → Pieces) (m : X → A) (n : ℕ) (off : List ℕ) (d : List Seen → A × List Seen) (far : apart (of_mark marks.Comma ∷ []) off ≡ true) (each : (x : X) → Reads f n off d (p x) (m x)) where
    abbrev comma_then : X → Pieces
    comma_then x = mark_pieces marks.Comma ++ p x

    comma_first : (x : X) → heads (of_mark marks.Comma ∷ []) (comma_then x) ≡ true
    unfolding mark_pieces
    comma_first x = refl

    comma_each : (x : X) → Reads f n off (behind d) (comma_then x) (m x)
    comma_each x = behind_mark marks.Comma (each x)

    pub reads_listed : (x : X) (xs : List X) → Reads f n (of_mark marks.Comma ∷ off) (listed n d) (commas p (x ∷ xs)) (m x ∷ map m xs)
    unfolding listed
    reads_listed x xs =
        reads_mapped (λ v. v.0 ∷ v.1) (next n (of_mark marks.Comma ∷ off) off d (loop n (of_mark marks.Comma ∷ []) (behind d)) (p x) (flat_map comma_then xs) (m x) (map m xs)
        (next_off comma_then m n (of_mark marks.Comma ∷ []) off (behind d) comma_first far comma_each xs) (each x) (reads_loop comma_then m n (of_mark marks.Comma ∷ []) off (behind d) comma_first far comma_each xs))

    pub reads_squares : (xs : List X) → has (closing brackets.Square) off ≡ false → Reads f n (opening brackets.Square ∷ []) (squares n d) (in_squares p xs) (map m xs)
    unfolding squares open_pieces
    reads_squares [] e = record { read = λ ss rest l k o h. if_false (has (head ss) (opening brackets.Square ∷ [])) _ _ (subst (λ (v : List Seen). has (head v) (opening brackets.Square ∷ []) ≡ false) (sym h) o) ∙ ap (λ v. ([], v)) h }
    reads_squares (x ∷ xs) e =
        let r : Reads f n [] (behind (upto (listed n d))) (within brackets.Square (commas p (x ∷ xs))) (m x ∷ map m xs) = reads_fewer (inside brackets.Square e (reads_listed x xs)) in
        record { read = λ ss rest l k o h. if_true (has (head ss) (opening brackets.Square ∷ [])) _ _ (shown_heads f (opening brackets.Square ∷ []) (within brackets.Square (commas p (x ∷ xs))) ss rest refl h k).0 ∙ r.read ss rest l k refl h }

    pub reads_maybe_listed : (cs : List ℕ) → ((x : X) → heads cs (p x) ≡ true) → (xs : List X) → Reads f n (cs ++ (of_mark marks.Comma ∷ off)) (maybe_listed cs n d) (commas p xs) (map m xs)
    unfolding maybe_listed
    reads_maybe_listed cs starts [] = record { read = λ ss rest l k o h. if_false (has (head ss) cs) _ _ (subst (λ (v : List Seen). has (head v) cs ≡ false) (sym h) (off_left (head rest) cs (of_mark marks.Comma ∷ off) o)) ∙ ap (λ v. ([], v)) h }
    reads_maybe_listed cs starts (x ∷ xs) =
        record {
          read = λ ss rest l k o h.
              if_true (has (head ss) cs) _ _ (shown_heads f cs (commas p (x ∷ xs)) ss rest (heads_append cs (p x) (flat_map comma_then xs) (starts x)) h k).0
              ∙ (reads_listed x xs).read ss rest l k (off_right (head rest) cs (of_mark marks.Comma ∷ off) o) h;
        }
