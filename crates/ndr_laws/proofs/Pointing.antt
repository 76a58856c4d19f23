-- What pointers that are written point to stands behind the flat part that they stand in.
use Rattle.std.proofs.Common.{◌≡◌, ℕ, suc, ◌+◌, ◌-◌, ◌*◌, ◌^◌, ◌<◌, ◌≤◌, true, false, List, [], ◌∷◌, ◌++◌, length, append_assoc, Option, Some, None, refl, sym, ap, subst, ◌∙◌, arith, inl, inr, ◌⊎◌}
use Rattle.std.specs.Prelude.{slice_get, unwrap_or}
use Rattle.ndr_scalars.specs.Scalars.{Scalar}
use Rattle.ndr_model.specs.Same.{IsSame}
use Rattle.ndr_model.specs.Part.{a_repeat}
use Rattle.ndr_model.specs.Fits.{Seen, with_item}
use Rattle.ndr_laws.proofs.Texts.{has_within}
use Rattle.ndr_laws.proofs.Leaves.{number_again}
use Rattle.std.proofs.lemmas.List.{append-nil}
use Rattle.rpc_base.specs.declared.identifiers.Order.{Order}
use Rattle.ndr_value.specs.Forms.{Form, OfFull}
use Rattle.ndr_value.specs.Values.{Val, VFull, Vals}
use Rattle.ndr_model.specs.declared.mark.Mark.{Mark}
use Rattle.ndr_model.specs.declared.mark.Mark.TheVariants.{Referent}
use Rattle.ndr_model.specs.Places.{Place, Last, onto, noting, keeping, look}
use Rattle.ndr_model.specs.Part.{Part, a_new}
use Rattle.ndr_model.specs.Named.{Call}
use Rattle.ndr_model.proofs.Mets.{Mets}
use Rattle.ndr_model.specs.Pieces.{Given, Behind, Piece, next_id, item_given, number}
use Rattle.ndr_model.specs.Written.{flat, deep, whole}
use Rattle.ndr_laws.proofs.Ids.{Rising, zipped, zipped_length, zipped_last, unmet, met_again}
use Rattle.ndr_laws.proofs.Texts.{Has, has_first, has_second}
use Rattle.ndr_laws.proofs.Places.{written_place, Numbered, written_last, Good, Kept, In, Sound, ends_both, refs, Stands, split}
use Rattle.ndr_laws.proofs.Goods.{pointer_stands, id_is}

abbrev pub behind_of : Vals → Form → Val → Behind
behind_of body s v = record { body = body; shape = s; value = v }

module _ (types : List Form) (order : Order) (call : Call) where
  -- the flat part that a pointer points to
  abbrev pub target : Behind → ℕ → Given → Piece
  target b k h = flat types order call deep b.body false b.shape b.value k h

  pub target_octets : (r : ℕ) (b : Behind) (k : ℕ) (h : Given)
      → (refs types order call (suc r) (b ∷ []) k h).octets ≡ (target b k h).octets ++ (refs types order call r (target b k h).behind (k + length (target b k h).octets) (target b k h).given).octets
  unfolding whole
  target_octets r b k h = append-nil ((target b k h).octets ++ (refs types order call r (target b k h).behind (k + length (target b k h).octets) (target b k h).given).octets)

  pub target_given : (r : ℕ) (b : Behind) (k : ℕ) (h : Given) → (refs types order call (suc r) (b ∷ []) k h).given ≡ (refs types order call r (target b k h).behind (k + length (target b k h).octets) (target b k h).given).given
  unfolding whole
  target_given r b k h = refl

  module _ (octets : List ℕ) where
    pub target_first : (r : ℕ) (b : Behind) (k : ℕ) (h : Given) → Has octets k (refs types order call (suc r) (b ∷ []) k h).octets → Has octets k (target b k h).octets
    target_first r b k h at =
        let a = target b k h in
        has_first octets k a.octets (refs types order call r a.behind (k + length a.octets) a.given).octets (subst (λ (text : List ℕ). Has octets k text) (target_octets r b k h) at)

    pub target_second : (r : ℕ) (b : Behind) (k : ℕ) (h : Given) → Has octets k (refs types order call (suc r) (b ∷ []) k h).octets
        → Has octets (k + length (target b k h).octets) (refs types order call r (target b k h).behind (k + length (target b k h).octets) (target b k h).given).octets
    target_second r b k h at =
        let a = target b k h in
        has_second octets k a.octets (refs types order call r a.behind (k + length a.octets) a.given).octets (subst (λ (text : List ℕ). Has octets k text) (target_octets r b k h) at)

    -- a pointer, and what it points to
    pub pointed : {r : ℕ} {p p' hp q q' : Seen} {i k : ℕ} {h : Given} {marks : List Mark} {xs : Numbered} {Pb : Place → Last → Last → Type 0} {Ag Bg : List Mark → List Mark → Type 0} {Plain Other : Type 0} (b : Behind) (text : List ℕ) (g' : Given) (pre : List Mark) (kept : Numbered → Numbered)
        → ((e : Place) (l : ℕ) (n : Given) (ys : Numbered) (ms : List Mark) → Part types order octets r None b.shape b.value (written_place q k h) e (onto e (noting pre (written_last q xs k h marks))) (written_last q' ys l n ms)
        → Pb (written_place p' (i + length text) g') (written_last q xs k h marks) (written_last q' (kept ys) l n ms))
        → ((ms ns : List Mark) → Ag ms ns → Bg (pre ++ ms) ns) → (Other → ⊥)
        → ((ys : Numbered) → Sound call.said.heap ys → Sound call.said.heap (kept ys)) → ((ys : Numbered) (n : ℕ) → Kept ys n → Kept (kept ys) n) → ((ys : Numbered) (n : ℕ) → In p p' n → Kept (kept ys) n)
        → Stands types order call r (target b k h) q hp hp q' k (k + length (target b k h).octets) (target b k h).given (marks ++ pre) xs
        (λ (e : Place) (x y : Last). Part types order octets r None b.shape b.value (written_place q k h) e x y) Ag Plain
        → Stands types order call (suc r) (record { octets = text; given = g'; behind = b ∷ [] }) p p' q q' i k h marks xs Pb Bg Other
    pointed {r} {p} {p'} {hp} {q} {q'} {i} {k} {h} {marks} {xs} {Pb} {Ag} {Bg} b text g' pre kept go on never sound keeps new s =
        let a = target b k h in
        let x = refs types order call r a.behind (k + length a.octets) a.given in
        let all = refs types order call (suc r) (b ∷ []) k h in
        let long : (k + length a.octets) + length x.octets ≡ k + length all.octets = ends_both k a.octets x.octets ∙ ap (λ (t : List ℕ). k + length t) (sym (target_octets r b k h)) in
        let given : x.given ≡ all.given = sym (target_given r b k h) in
        record {
          own = pre ++ s.own;
          ys = kept s.ys;
          part = subst (λ (l : ℕ). Pb (written_place p' (i + length text) g') (written_last q xs k h marks) (written_last q' (kept s.ys) l all.given (marks ++ (pre ++ s.own)))) long
              (subst (λ (n : Given). Pb (written_place p' (i + length text) g') (written_last q xs k h marks) (written_last q' (kept s.ys) ((k + length a.octets) + length x.octets) n (marks ++ (pre ++ s.own)))) given
              (subst (λ (ns : List Mark). Pb (written_place p' (i + length text) g') (written_last q xs k h marks) (written_last q' (kept s.ys) ((k + length a.octets) + length x.octets) x.given ns)) (append_assoc marks pre s.own)
              (go (written_place hp (k + length a.octets) a.given) ((k + length a.octets) + length x.octets) x.given s.ys ((marks ++ pre) ++ s.own) s.part)));
          good = subst (λ (l : ℕ). Good q' l all.given) long (subst (λ (n : Given). Good q' ((k + length a.octets) + length x.octets) n) given s.good);
          agree = λ more. subst (λ (ms : List Mark). Bg ms more) (sym (append_assoc pre s.own more)) (on (s.own ++ more) more (s.agree more));
          none = λ o. absurd (never o);
          sound = λ y. sound s.ys (s.sound y);
          keeps = λ n y. keeps s.ys n (s.keeps n y);
          new = λ n y. all_new n y;
        }
      where
        all_new : (n : ℕ) → (In p p' n ⊎ In q q' n) → Kept (kept s.ys) n
        all_new n (inl y) = new s.ys n y
        all_new n (inr y) = keeps s.ys n (split types order call q hp q' n (λ z. s.new n (inl z)) (λ z. s.new n (inr z)) y)

-- a full pointer to an item that is new
module _ (types : List Form) (order : Order) (octets : List ℕ) (short : length octets ≤ 2 ^ 31) where
  pub new_made : {r : ℕ} {now : Option ℕ} {s : Form} {v : Val} {h : Place} {a z : Last} (p : Seen) (i : ℕ) (g : Given) → Good p i g → Has octets i (number order 4 (next_id g) i)
      → Part types order octets r None s v a.here h (onto h (noting (Referent true ∷ []) a)) z
      → Part types order octets (suc r) now (OfFull s) (VFull (Some (length p.shapes))) (written_place p i g)
      (written_place (with_item p s) (i + length (number order 4 (next_id g) i)) (item_given g)) a (keeping (length p.shapes) v z)
  new_made {r} {now} {s} {v} {h} {a} {z} p i g good at part =
      let j = i + length (number order 4 (next_id g) i) in
      let id = 131071 + 4 * g.count in
      let is = id_is order octets short p i g (number order 4 (next_id g) i) good at in
      let count : length (zipped g.items p.shapes) ≡ length p.shapes = zipped_length g.items p.shapes good.long in
      let ids : zipped g.items p.shapes ++ (suc id, s) ∷ [] ≡ zipped (g.items ++ next_id g ∷ []) (p.shapes ++ s ∷ []) =
      ap (λ (n : ℕ). zipped g.items p.shapes ++ (n, s) ∷ []) (sym is) ∙ sym (zipped_last g.items p.shapes (next_id g) s good.long) in
      let free : look (zipped g.items p.shapes) (suc id) ≡ None = unmet 0 1 g.items p.shapes (suc id) (subst (λ (n : ℕ). Rising 1 g.items n) (let y : 131072 + 4 * g.count ≡ suc id = omega arith in y) good.rising) in
      subst (λ (ms : Mets). Part types order octets (suc r) now (OfFull s) (VFull (Some (length p.shapes))) (written_place p i g) (record { at = j; met = ms; wires = p.wires }) a (keeping (length p.shapes) v z)) ids
      (subst (λ (n : ℕ). Part types order octets (suc r) now (OfFull s) (VFull (Some n)) (written_place p i g) (record { at = j; met = zipped g.items p.shapes ++ (suc id, s) ∷ []; wires = p.wires }) a (keeping n v z)) count
      (a_new (pointer_stands order octets short p i g good at) free part))

  -- a full pointer to an item that was seen
  pub repeat_made : {room : ℕ} {now : Option ℕ} {s t : Form} {a : Last} (p : Seen) (i : ℕ) (g : Given) (n : ℕ) → Good p i g → slice_get p.shapes n ≡ Some t → IsSame t s
      → Has octets i (number order 4 (unwrap_or (slice_get g.items n) 0) i)
      → Part types order octets room now (OfFull s) (VFull (Some n)) (written_place p i g) (written_place p (i + length (number order 4 (unwrap_or (slice_get g.items n) 0) i)) g) a (noting (Referent false ∷ []) a)
  repeat_made {room} {now} {s} {t} {a} p i g n good is alike at =
      let f = met_again 0 1 g.items (131072 + 4 * g.count) p.shapes n t good.long good.rising is in
      let it : unwrap_or (slice_get g.items n) 0 ≡ f.id = ap (λ (o : Option ℕ). unwrap_or o 0) f.in_place in
      let few = good.few in
      let low = f.low in
      let high = f.high in
      let within : i + length (number order 4 f.id i) ≤ length octets = has_within octets i (number order 4 f.id i) (subst (λ (x : ℕ). Has octets i (number order 4 x i)) it at) in
      let small : f.id < 2 ^ 32 = omega (arith, few, high, within, short) in
      let s4 = number_again order octets {size = 4} {n = f.id} small (subst (λ (x : ℕ). Has octets i (number order 4 x i)) it at) in
      let up_one : f.id ≡ suc (f.id - 1) = omega (arith, low) in
      let met : look (zipped g.items p.shapes) f.id ≡ Some (n, t) = f.met ∙ ap (λ (k : ℕ). Some (k, t)) (let z : 0 + n ≡ n = omega arith in z) in
      subst (λ (x : ℕ). Part types order octets room now (OfFull s) (VFull (Some n)) (written_place p i g) (written_place p (i + length (number order 4 x i)) g) a (noting (Referent false ∷ []) a)) (sym it)
      (a_repeat {id = f.id - 1} (subst (λ (x : ℕ). Scalar order octets 4 x i (i + length (number order 4 f.id i))) up_one s4) (ap (look (zipped g.items p.shapes)) (sym up_one) ∙ met) alike)
