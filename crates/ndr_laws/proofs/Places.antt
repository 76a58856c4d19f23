-- Where writing stands: what was seen before it, under ids that were given.
use Rattle.std.proofs.Common.{◌≡◌, ℕ, ◌+◌, ◌*◌, ◌<◌, ◌≤◌, List, [], ◌∷◌, ◌++◌, length, length-append, append_assoc, Some, refl, sym, ap, subst, ◌∙◌, arith, inl, inr, ◌⊎◌}
use Rattle.std.proofs.lemmas.Bool.{cases_lt}
use Rattle.std.proofs.lemmas.List.{append-nil}
use Rattle.rpc_base.specs.declared.identifiers.Order.{Order}
use Rattle.ndr_value.specs.Forms.{Form}
use Rattle.ndr_value.specs.Values.{Val, Vals}
use Rattle.ndr_model.specs.declared.mark.Mark.{Mark}
use Rattle.ndr_model.specs.Places.{Place, Last, noting}
use Rattle.ndr_model.specs.Stub.{item}
use Rattle.ndr_model.specs.Named.{Call, nth}
use Rattle.ndr_model.specs.Pieces.{Given, Behind, Piece, only, joined}
use Rattle.ndr_model.specs.Written.{each_behind, whole}
use Rattle.ndr_model.specs.Fits.{Seen}
use Rattle.ndr_laws.proofs.Ids.{Rising, zipped}
use Rattle.ndr_laws.proofs.Texts.{Has, has_first, has_second}

-- the place at that index, where those ids were given
abbrev pub written_place : Seen → ℕ → Given → Place
written_place p i g = record { at = i; met = zipped g.items p.shapes; wires = p.wires }

abbrev pub Numbered : Type 0
Numbered = List (ℕ × Val)

abbrev pub written_last : Seen → Numbered → ℕ → Given → List Mark → Last
written_last q xs k h marks = record { here = written_place q k h; items = xs; marks = marks }

-- an id was given to each item that was seen, each id has four octets, and ids rise
pub record Good (p : Seen) (i : ℕ) (g : Given) : Type 0 where
  pub few : 4 * g.count ≤ i
  pub long : length g.items ≡ length p.shapes
  pub rising : Rising 1 g.items (131072 + 4 * g.count)

pub good_more : (p p' : Seen) (i j : ℕ) (g : Given) → p'.shapes ≡ p.shapes → i ≤ j → Good p i g → Good p' j g
good_more p p' i j g same le good = record { few = (let f = good.few in omega (arith, f, le)); long = good.long ∙ ap length (sym same); rising = good.rising }

-- ---- items of the heap that were kept

-- some item has that number
abbrev pub Kept : Numbered → ℕ → Type 0
Kept xs n = (v : Val) × (item xs n ≡ Some v)

-- the number is one of those seen between two places
abbrev pub In : Seen → Seen → ℕ → Type 0
In p p' n = (length p.shapes ≤ n) × (n < length p'.shapes)

-- what was kept is what the heap has
abbrev pub Sound : Vals → Numbered → Type 0
Sound heap xs = (n : ℕ) (v : Val) → item xs n ≡ Some v → nth heap n ≡ Some v

pub in_none : {A : Type 0} (p p' : Seen) (n : ℕ) → p'.shapes ≡ p.shapes → In p p' n → A
in_none p p' n same x = absurd (omega (arith, ap length same, x.0, x.1))

-- one piece behind the other
pub ends_both : (i : ℕ) (a b : List ℕ) → (i + length a) + length b ≡ i + length (a ++ b)
ends_both i a b = omega (arith, length-append a b)

module _ (types : List Form) (order : Order) (call : Call) where
  -- what is written behind a flat part for its pointers
  abbrev pub refs : ℕ → List Behind → ℕ → Given → Piece
  refs levels bs k h = each_behind types order call (whole types order call levels) bs k h

  abbrev Both : ℕ → List Behind → List Behind → ℕ → Given → Type 0
  Both levels xs ys k h =
      ((refs levels (xs ++ ys) k h).octets ≡ (refs levels xs k h).octets ++ (refs levels ys (k + length (refs levels xs k h).octets) (refs levels xs k h).given).octets)
      × ((refs levels (xs ++ ys) k h).given ≡ (refs levels ys (k + length (refs levels xs k h).octets) (refs levels xs k h).given).given)

  pub refs_both : (levels : ℕ) (xs ys : List Behind) (k : ℕ) (h : Given) → Both levels xs ys k h
  refs_both levels [] ys k h =
      let z : k ≡ k + length {A = ℕ} [] = omega arith in
      (ap (λ (j : ℕ). (refs levels ys j h).octets) z, ap (λ (j : ℕ). (refs levels ys j h).given) z)
  refs_both levels (b ∷ bs) ys k h =
      let a = whole types order call levels b k h in
      let r = refs_both levels bs ys (k + length a.octets) a.given in
      let x = refs levels bs (k + length a.octets) a.given in
      let z = ends_both k a.octets x.octets in (
        ap (λ (t : List ℕ). a.octets ++ t) r.0 ∙ sym (append_assoc a.octets x.octets (refs levels ys ((k + length a.octets) + length x.octets) x.given).octets)
            ∙ ap (λ (j : ℕ). (a.octets ++ x.octets) ++ (refs levels ys j x.given).octets) z,
        r.1 ∙ ap (λ (j : ℕ). (refs levels ys j x.given).given) z,
      )

  -- the octets behind a flat part of two pieces
  pub refs_first : (octets : List ℕ) (levels : ℕ) (xs ys : List Behind) (k : ℕ) (h : Given) → Has octets k (refs levels (xs ++ ys) k h).octets → Has octets k (refs levels xs k h).octets
  refs_first octets levels xs ys k h at =
      let x = refs levels xs k h in
      has_first octets k x.octets (refs levels ys (k + length x.octets) x.given).octets (subst (λ (text : List ℕ). Has octets k text) (refs_both levels xs ys k h).0 at)

  pub refs_second : (octets : List ℕ) (levels : ℕ) (xs ys : List Behind) (k : ℕ) (h : Given) → Has octets k (refs levels (xs ++ ys) k h).octets
      → Has octets (k + length (refs levels xs k h).octets) (refs levels ys (k + length (refs levels xs k h).octets) (refs levels xs k h).given).octets
  refs_second octets levels xs ys k h at =
      let x = refs levels xs k h in
      has_second octets k x.octets (refs levels ys (k + length x.octets) x.given).octets (subst (λ (text : List ℕ). Has octets k text) (refs_both levels xs ys k h).0 at)

  -- a piece stands at index i, and from k on what its pointers point to
  pub record Stands (levels : ℕ) (f : Piece) (p p' q q' : Seen) (i k : ℕ) (h : Given) (marks : List Mark) (xs : Numbered) (Pa : Place → Last → Last → Type 0) (Ag : List Mark → List Mark → Type 0) (Plain : Type 0) : Type 0 where
    pub own : List Mark
    pub ys : Numbered
    pub part : Pa (written_place p' (i + length f.octets) f.given) (written_last q xs k h marks) (written_last q' ys (k + length (refs levels f.behind k h).octets) (refs levels f.behind k h).given (marks ++ own))
    pub good : Good q' (k + length (refs levels f.behind k h).octets) (refs levels f.behind k h).given
    pub agree : (more : List Mark) → Ag (own ++ more) more
    pub none : Plain → own ≡ []
    pub sound : Sound call.said.heap xs → Sound call.said.heap ys
    pub keeps : (n : ℕ) → Kept xs n → Kept ys n
    pub new : (n : ℕ) → (In p p' n ⊎ In q q' n) → Kept ys n

  -- the same said of another thing
  pub mapped : {levels : ℕ} {f : Piece} {p p' q q' : Seen} {i k : ℕ} {h : Given} {marks : List Mark} {xs : Numbered} {Pa Pb : Place → Last → Last → Type 0} {Ag Bg : List Mark → List Mark → Type 0} {Plain Other : Type 0}
      → ((e : Place) (a b : Last) → Pa e a b → Pb e a b) → ((ms ns : List Mark) → Ag ms ns → Bg ms ns) → (Other → Plain)
      → Stands levels f p p' q q' i k h marks xs Pa Ag Plain → Stands levels f p p' q q' i k h marks xs Pb Bg Other
  mapped go on back s = record { own = s.own; ys = s.ys; part = go _ _ _ s.part; good = s.good; agree = λ more. on (s.own ++ more) more (s.agree more); none = λ o. s.none (back o); sound = s.sound; keeps = s.keeps; new = s.new }

  -- octets alone, and what was noted of them
  pub leaf_stands : {levels : ℕ} {text : List ℕ} {g : Given} {p p' q : Seen} {i k : ℕ} {h : Given} {marks : List Mark} {xs : Numbered} {Pa : Place → Last → Last → Type 0} {Ag : List Mark → List Mark → Type 0} {Plain : Type 0} (own : List Mark)
      → p'.shapes ≡ p.shapes → ((a : Last) → Pa (written_place p' (i + length text) g) a (noting own a)) → ((more : List Mark) → Ag (own ++ more) more) → (Plain → own ≡ []) → Good q k h
      → Stands levels (only text g) p p' q q i k h marks xs Pa Ag Plain
  leaf_stands {levels} {text} {g} {p} {p'} {q} {i} {k} {h} {marks} {xs} {Pa} own same go agree none good =
      let z : k ≡ k + length {A = ℕ} [] = omega arith in
      record {
        own = own;
        ys = xs;
        part = subst (λ (l : ℕ). Pa (written_place p' (i + length text) g) (written_last q xs k h marks) (written_last q xs l h (marks ++ own))) z (go (written_last q xs k h marks));
        good = subst (λ (l : ℕ). Good q l h) z good;
        agree = agree;
        none = none;
        sound = λ x. x;
        keeps = λ n x. x;
        new = λ n x. none_new n x;
      }
    where
      none_new : (n : ℕ) → (In p p' n ⊎ In q q n) → Kept xs n
      none_new n (inl x) = in_none p p' n same x
      none_new n (inr x) = in_none q q n refl x

  -- octets without marks
  pub plain_stands : {levels : ℕ} {text : List ℕ} {g : Given} {p p' q : Seen} {i k : ℕ} {h : Given} {marks : List Mark} {xs : Numbered} {Pa : Place → Last → Last → Type 0} {Ag : List Mark → List Mark → Type 0} {Plain : Type 0}
      → p'.shapes ≡ p.shapes → ((a : Last) → Pa (written_place p' (i + length text) g) a a) → ((more : List Mark) → Ag more more) → Good q k h
      → Stands levels (only text g) p p' q q i k h marks xs Pa Ag Plain
  plain_stands {levels} {text} {g} {p} {p'} {q} {i} {k} {h} {marks} {xs} {Pa} same go agree good =
      let z : k ≡ k + length {A = ℕ} [] = omega arith in
      record {
        own = [];
        ys = xs;
        part = subst (λ (l : ℕ). Pa (written_place p' (i + length text) g) (written_last q xs k h marks) (written_last q xs l h (marks ++ []))) z
            (subst (λ (ns : List Mark). Pa (written_place p' (i + length text) g) (written_last q xs k h marks) (written_last q xs k h ns)) (sym (append-nil marks)) (go (written_last q xs k h marks)));
        good = subst (λ (l : ℕ). Good q l h) z good;
        agree = agree;
        none = λ e. refl;
        sound = λ x. x;
        keeps = λ n x. x;
        new = λ n x. none_new n x;
      }
    where
      none_new : (n : ℕ) → (In p p' n ⊎ In q q n) → Kept xs n
      none_new n (inl x) = in_none p p' n same x
      none_new n (inr x) = in_none q q n refl x

  -- octets with marks, and a piece behind them
  pub prefixed : {levels : ℕ} {f : Piece} {p p' q q' : Seen} {i k : ℕ} {h : Given} {marks : List Mark} {xs : Numbered} {Pa Pb : Place → Last → Last → Type 0} {Ag Bg : List Mark → List Mark → Type 0} {Plain Other : Type 0} (text : List ℕ) (g : Given) (own : List Mark)
      → ((e : Place) (a b : Last) → Pa e (noting own a) b → Pb e a b) → ((ms ns : List Mark) → Ag ms ns → Bg (own ++ ms) ns) → (Other → ⊥)
      → Stands levels f p p' q q' (i + length text) k h (marks ++ own) xs Pa Ag Plain → Stands levels (joined (only text g) f) p p' q q' i k h marks xs Pb Bg Other
  prefixed {levels} {f} {p} {p'} {q} {q'} {i} {k} {h} {marks} {xs} {Pa} {Pb} {Ag} {Bg} text g own go on never s =
      let r = refs levels f.behind k h in
      record {
        own = own ++ s.own;
        ys = s.ys;
        part = subst (λ (j : ℕ). Pb (written_place p' j f.given) (written_last q xs k h marks) (written_last q' s.ys (k + length r.octets) r.given (marks ++ (own ++ s.own)))) (ends_both i text f.octets)
            (subst (λ (ns : List Mark). Pb (written_place p' ((i + length text) + length f.octets) f.given) (written_last q xs k h marks) (written_last q' s.ys (k + length r.octets) r.given ns)) (append_assoc marks own s.own)
            (go (written_place p' ((i + length text) + length f.octets) f.given) (written_last q xs k h marks) (written_last q' s.ys (k + length r.octets) r.given ((marks ++ own) ++ s.own)) s.part));
        good = s.good;
        agree = λ more. subst (λ (ms : List Mark). Bg ms more) (sym (append_assoc own s.own more)) (on (s.own ++ more) more (s.agree more));
        none = λ o. absurd (never o);
        sound = s.sound;
        keeps = s.keeps;
        new = s.new;
      }

  pub split : {A : Type 0} (p h p' : Seen) (n : ℕ) → (In p h n → A) → (In h p' n → A) → In p p' n → A
  split {A} p h p' n one two x = by (cases_lt n (length h.shapes))
    where
      by : ((n < length h.shapes) ⊎ (length h.shapes ≤ n)) → A
      by (inl lt) = one (x.0, lt)
      by (inr ge) = two (ge, x.1)

  -- two pieces, each with what stands behind it
  pub threaded : {levels : ℕ} {a b : Piece} {p p1 p' q q1 q' : Seen} {i k : ℕ} {h : Given} {marks : List Mark} {xs : Numbered} {Pa Pb Pc : Place → Last → Last → Type 0} {Ag Bg Cg : List Mark → List Mark → Type 0} {Plain Other Third : Type 0}
      → ((e : Place) (x y z : Last) → Pa (written_place p1 (i + length a.octets) a.given) x y → Pb e y z → Pc e x z) → ((ms ns os : List Mark) → (Third → ms ≡ ns) → Ag ms ns → Bg ns os → Cg ms os) → (Third → Plain) → (Third → Other)
      → (f : Stands levels a p p1 q q1 i k h marks xs Pa Ag Plain)
      → Stands levels b p1 p' q1 q' (i + length a.octets) (k + length (refs levels a.behind k h).octets) (refs levels a.behind k h).given (marks ++ f.own) f.ys Pb Bg Other
      → Stands levels (joined a b) p p' q q' i k h marks xs Pc Cg Third
  threaded {levels} {a} {b} {p} {p1} {p'} {q} {q1} {q'} {i} {k} {h} {marks} {xs} {Pa} {Pb} {Pc} {Ag} {Bg} {Cg} go on one two f g =
      let x = refs levels a.behind k h in
      let y = refs levels b.behind (k + length x.octets) x.given in
      let r = refs_both levels a.behind b.behind k h in
      let flat = ends_both i a.octets b.octets in
      let long : (k + length x.octets) + length y.octets ≡ k + length (refs levels (a.behind ++ b.behind) k h).octets = ends_both k x.octets y.octets ∙ ap (λ (text : List ℕ). k + length text) (sym r.0) in
      record {
        own = f.own ++ g.own;
        ys = g.ys;
        part = subst (λ (j : ℕ). Pc (written_place p' j b.given) (written_last q xs k h marks) (written_last q' g.ys (k + length (refs levels (a.behind ++ b.behind) k h).octets) (refs levels (a.behind ++ b.behind) k h).given (marks ++ (f.own ++ g.own)))) flat
            (subst (λ (l : ℕ). Pc (written_place p' ((i + length a.octets) + length b.octets) b.given) (written_last q xs k h marks) (written_last q' g.ys l (refs levels (a.behind ++ b.behind) k h).given (marks ++ (f.own ++ g.own)))) long
            (subst (λ (n : Given). Pc (written_place p' ((i + length a.octets) + length b.octets) b.given) (written_last q xs k h marks) (written_last q' g.ys ((k + length x.octets) + length y.octets) n (marks ++ (f.own ++ g.own)))) (sym r.1)
            (subst (λ (ns : List Mark). Pc (written_place p' ((i + length a.octets) + length b.octets) b.given) (written_last q xs k h marks) (written_last q' g.ys ((k + length x.octets) + length y.octets) y.given ns)) (append_assoc marks f.own g.own)
            (go (written_place p' ((i + length a.octets) + length b.octets) b.given) (written_last q xs k h marks) (written_last q1 f.ys (k + length x.octets) x.given (marks ++ f.own)) (written_last q' g.ys ((k + length x.octets) + length y.octets) y.given ((marks ++ f.own) ++ g.own)) f.part g.part))));
        good = subst (λ (l : ℕ). Good q' l (refs levels (a.behind ++ b.behind) k h).given) long (subst (λ (n : Given). Good q' ((k + length x.octets) + length y.octets) n) (sym r.1) g.good);
        agree = λ more. subst (λ (ms : List Mark). Cg ms more) (sym (append_assoc f.own g.own more)) (on (f.own ++ (g.own ++ more)) (g.own ++ more) more (λ t. ap (λ (ns : List Mark). ns ++ (g.own ++ more)) (f.none (one t))) (f.agree (g.own ++ more)) (g.agree more));
        none = λ t. ap (λ (ns : List Mark). ns ++ g.own) (f.none (one t)) ∙ g.none (two t);
        sound = λ s. g.sound (f.sound s);
        keeps = λ n s. g.keeps n (f.keeps n s);
        new = λ n s. both_new n s;
      }
    where
      both_new : (n : ℕ) → (In p p' n ⊎ In q q' n) → Kept g.ys n
      both_new n (inl s) = split p p1 p' n (λ t. g.keeps n (f.new n (inl t))) (λ t. g.new n (inl t)) s
      both_new n (inr s) = split q q1 q' n (λ t. g.keeps n (f.new n (inr t))) (λ t. g.new n (inr t)) s
