-- One part written behind another.
use Rattle.std.proofs.Common.{◌≡◌, ℕ, List, [], ◌∷◌, ◌++◌, refl, ap, sym, ◌∙◌, subst, append_assoc, append-nil, ◌≤◌, length, arith}
use Rattle.std.specs.List.{flat_map}
use Rattle.std.proofs.lemmas.Grind.{flat_map-append}
use Rattle.idl_tokens.specs.declared.kinds.Token.{Token}
use Rattle.idl_tokens.specs.declared.marks.Mark.TheVariants as marks
use Rattle.idl_tokens.specs.declared.marks.Bracket.{Bracket}
use Rattle.idl_tokens.specs.declared.marks.Bracket.TheVariants as brackets
use Rattle.idl_tree.specs.Trees.{in_squares}
use Rattle.idl_tree.specs.Pieces.{Pieces, Front, Written, BeginsAt, placed, commas, mark_pieces, open_pieces, shut_pieces, within}

front_join : (ts : List Token) (ps qs : Pieces) (mid rest : List Token) → Front ts ps mid → Front mid qs rest → Front ts (ps ++ qs) rest
front_join ts [] qs mid rest p q = subst (λ (v : List Token). Front v qs rest) (sym p) q
front_join [] (x ∷ ps) qs mid rest p q = absurd p
front_join (t ∷ ts) (x ∷ ps) qs mid rest p q = (p.0, p.1, front_join ts ps qs mid rest p.2 q)

pub write_join : {ps qs : Pieces} {ts mid rest : List Token} → Written ps ts mid → Written qs mid rest → Written (ps ++ qs) ts rest
write_join {ps = ps} {qs = qs} {ts = ts} {mid = mid} {rest = rest} p q = record { front = front_join ts ps qs mid rest p.front q.front }

pub write_none : (ts : List Token) → Written [] ts ts
write_none ts = record { front = refl }

-- the same pieces under another spelling
pub write_as : (ps qs : Pieces) (ts rest : List Token) → ps ≡ qs → Written qs ts rest → Written ps ts rest
write_as ps qs ts rest e h = subst (λ (x : Pieces). Written x ts rest) (sym e) h

front_placed : (ps : Pieces) (ts rest : List Token) (at : ℕ) → BeginsAt at ts → Front ts ps rest → Front ts (placed at ps) rest
front_placed [] ts rest at b h = h
front_placed (p ∷ ps) [] rest at b h = absurd h
front_placed (p ∷ ps) (t ∷ ts) rest at b h = (h.0, (b.place t ts refl, h.1), h.2)

pub write_placed : {ps : Pieces} {ts rest : List Token} {at : ℕ} → BeginsAt at ts → Written ps ts rest → Written (placed at ps) ts rest
write_placed {ps = ps} {ts = ts} {rest = rest} {at = at} b p = record { front = front_placed ps ts rest at b p.front }

-- a list between brackets, when they shut
pub write_shut : (b : Bracket) (ps : Pieces) (ts mid rest : List Token) → Written (open_pieces b ++ ps) ts mid → Written (shut_pieces b) mid rest → Written (within b ps) ts rest
write_shut b ps ts mid rest p q = subst (λ (x : Pieces). Written x ts rest) (append_assoc (open_pieces b) ps (shut_pieces b)) (write_join p q)

-- a list in square brackets that may not be there
pub write_squares : {A : Type 0} (f : A → Pieces) (xs : List A) (ts mid rest : List Token) → 1 ≤ length xs → Written (open_pieces brackets.Square ++ commas f xs) ts mid → Written (shut_pieces brackets.Square) mid rest → Written (in_squares f xs) ts rest
write_squares f [] ts mid rest h p q = absurd (omega arith)
write_squares f (x ∷ xs) ts mid rest h p q = write_shut brackets.Square (commas f (x ∷ xs)) ts mid rest p q

pub ruleset writing = (write_join, write_none, write_placed)

-- ---- lists

module _ {A : Type 0} (f : A → Pieces) where
  pub commas_push : (xs : List A) (x : A) → 1 ≤ length xs → commas f (xs ++ x ∷ []) ≡ commas f xs ++ (mark_pieces marks.Comma ++ f x)
  commas_push [] x h = absurd (omega arith)
  commas_push (y ∷ xs) x h =
      let g : A → Pieces = λ z. mark_pieces marks.Comma ++ f z in
      ap (λ v. f y ++ v) (flat_map-append g xs (x ∷ []) ∙ ap (λ v. flat_map g xs ++ v) (append-nil (g x))) ∙ sym (append_assoc (f y) (flat_map g xs) (g x))

  pub commas_one : (x : A) → commas f (x ∷ []) ≡ f x
  commas_one x = append-nil (f x)

  -- o is what stands before the list
  pub write_commas_one : (o : Pieces) (x : A) (ts mid rest : List Token) → Written o ts mid → Written (f x) mid rest → Written (o ++ commas f (x ∷ [])) ts rest
  write_commas_one o x ts mid rest p q = subst (λ (v : Pieces). Written (o ++ v) ts rest) (sym (commas_one x)) (write_join p q)

  pub write_commas_more : (o : Pieces) (xs : List A) (x : A) (ts mid rest : List Token) → 1 ≤ length xs → Written (o ++ commas f xs) ts mid → Written (mark_pieces marks.Comma ++ f x) mid rest → Written (o ++ commas f (xs ++ x ∷ [])) ts rest
  write_commas_more o xs x ts mid rest h p q =
      let e : (o ++ commas f xs) ++ (mark_pieces marks.Comma ++ f x) ≡ o ++ commas f (xs ++ x ∷ []) = append_assoc o (commas f xs) (mark_pieces marks.Comma ++ f x) ∙ ap (λ v. o ++ v) (sym (commas_push xs x h)) in
      subst (λ (v : Pieces). Written v ts rest) e (write_join p q)

  pub write_flat_none : (o : Pieces) (ts rest : List Token) → Written o ts rest → Written (o ++ flat_map f []) ts rest
  write_flat_none o ts rest p = subst (λ (v : Pieces). Written v ts rest) (sym (append-nil o)) p

  pub write_flat_more : (o : Pieces) (xs : List A) (x : A) (ts mid rest : List Token) → Written (o ++ flat_map f xs) ts mid → Written (f x) mid rest → Written (o ++ flat_map f (xs ++ x ∷ [])) ts rest
  write_flat_more o xs x ts mid rest p q =
      let e : (o ++ flat_map f xs) ++ f x ≡ o ++ flat_map f (xs ++ x ∷ []) = append_assoc o (flat_map f xs) (f x) ∙ ap (λ v. o ++ v) (sym (flat_map-append f xs (x ∷ []) ∙ ap (λ v. flat_map f xs ++ v) (append-nil (f x)))) in
      subst (λ (v : Pieces). Written v ts rest) e (write_join p q)
