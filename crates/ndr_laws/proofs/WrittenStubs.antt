-- The canonical octets of a message of the operation are a stub of it.
use Rattle.std.proofs.Common.{◌≡◌, ℕ, zero, suc, ◌+◌, ◌^◌, ◌<◌, ◌≤◌, false, List, [], ◌∷◌, ◌++◌, length, map, append_assoc, Option, Some, None, Ok, refl, sym, ap, subst, ◌∙◌, arith, inl, inr}
use Rattle.std.proofs.lemmas.List.{append-nil, append_cancel_left}
use Rattle.rpc_base.specs.declared.identifiers.Order.{Order}
use Rattle.rpc_base.specs.Fields.{IsOctets}
use Rattle.ndr_value.specs.Forms.{Form}
use Rattle.ndr_value.specs.Values.{Val, Vals, no_val, then_val, count_of, Msg}
use Rattle.ndr_table.specs.declared.operation.Bounds.{Bounds}
use Rattle.ndr_table.specs.Tables.{OpForm}
use Rattle.ndr_scalars.specs.Scalars.{up}
use Rattle.ndr_model.specs.declared.way.Way.{Way}
use Rattle.ndr_model.specs.declared.mark.Mark.{Mark}
use Rattle.ndr_model.specs.declared.mark.Mark.TheVariants.{Ranged}
use Rattle.ndr_model.specs.Places.{Last, noting}
use Rattle.ndr_model.specs.Part.{Whole, tag_size}
use Rattle.ndr_model.specs.Stub.{Entry, entries, ranged, range_marks, start, item, HasItems, Follow}
use Rattle.ndr_model.specs.Named.{Call, nth}
use Rattle.ndr_model.specs.Agree.{Agrees, AgreesRange, no_range, in_range, AgreeTogether, no_entry_left, entry_then}
use Rattle.ndr_model.specs.Message.{IsStub, read_stub}
use Rattle.ndr_model.proofs.Mets.{Ext, ext_self, ext_then}
use Rattle.ndr_laws.specs.Laws.{IsOp}
use Rattle.ndr_laws.proofs.Grounded.{Grounded, EachEntry}
use Rattle.ndr_laws.proofs.Grows.{part_grows}
use Rattle.ndr_laws.proofs.Levels.{plus, plus_is, tight, tight_is, types_grounded, op_entries}
use Rattle.ndr_laws.proofs.Stubs.{read_stands, stub_found}
use Rattle.ndr_model.specs.Pieces.{fitting, Given, Piece}
use Rattle.ndr_model.specs.Fronts.{front}
use Rattle.ndr_model.specs.Written.{flat, deep, whole, each_entry, call_of, stub}
use Rattle.ndr_model.specs.Fits.{Seen, Suits, SuitsRange, SuitEntries, no_entry, then_entry, nothing_seen, IsOfOp}
use Rattle.ndr_laws.specs.WrittenLaws.{HasIds}
use Rattle.ndr_laws.proofs.Ids.{zipped, zipped_length}
use Rattle.ndr_laws.proofs.Texts.{Has, has_first, has_second}
use Rattle.ndr_laws.proofs.Counts.{front_none}
use Rattle.ndr_laws.proofs.Marks.{Noted, noted_then, part_notes}
use Rattle.ndr_laws.proofs.Wires.{Begin, begin_self, begin_then, suits_hold}
use Rattle.ndr_laws.proofs.Kept.{Out, In, ext_le, out_first, out_second, part_leaves, kept_inner, has_nth}
use Rattle.ndr_laws.proofs.Suited.{tells_none, seen, part_suits}
use Rattle.ndr_laws.proofs.Places.{written_place, Numbered, written_last, Good, Kept, Sound, in_none, ends_both, refs, split}
use Rattle.ndr_laws.proofs.Places as places
use Rattle.ndr_laws.proofs.Goods.{suits_good}
use Rattle.ndr_laws.proofs.Pointing.{behind_of}
use Rattle.ndr_laws.proofs.WrittenAgain.{suits_written}

-- ---- ranges

range_left : (r : Option Bounds) (v : Val) (i : ℕ) (ms ms' more : List Mark) → AgreesRange r v ms ms' → ms ≡ ranged r i ++ more → (ms' ≡ more) × SuitsRange r v
range_left None v i ms ms' more no_range e = (e, tt)
range_left (Some b) v i ms ms' more (in_range {i = j} w) e = (let f : Ranged j ∷ ms' ≡ Ranged i ∷ more = e in cc, w)

range_agrees : (r : Option Bounds) (v : Val) (i : ℕ) (more : List Mark) → SuitsRange r v → AgreesRange r v (ranged r i ++ more) more
range_agrees None v i more w = no_range
range_agrees (Some b) v i more w = in_range w

-- ---- what follows leaves what was met, noted and kept

module _ (types : List Form) (order : Order) (octets : List ℕ) where
  whole_grows : (room : ℕ) (s : Form) (v : Val) (q q' : Last) → Whole types order octets room s v q q' → Ext q.here.met q'.here.met
  whole_grows room s v q q' w = let g = part_grows types order octets w.part in ext_then q.here.met w.h.met q'.here.met g.0 g.1

  whole_leaves : (n room : ℕ) (s : Form) (v : Val) (q q' : Last) → Whole types order octets room s v q q' → Out q.here q'.here n → item q'.items n ≡ item q.items n
  whole_leaves n room s v q q' w x =
      let g = part_grows types order octets w.part in
      part_leaves types order octets n w.part (out_first q.here w.h q'.here n (ext_le w.h.met q'.here.met g.1) x) (out_second q.here w.h q'.here n (ext_le q.here.met w.h.met g.0) x)

  follow_grows : (es : List Entry) (vs : Vals) (q q' : Last) → Follow types order octets es vs q q' → Ext q.here.met q'.here.met
  follow_grows [] no_val q q' f = subst (λ (x : Last). Ext q.here.met x.here.met) f (ext_self q.here.met)
  follow_grows [] (then_val v vs) q q' f = absurd f
  follow_grows (e ∷ es) no_val q q' f = absurd f
  follow_grows (e ∷ es) (then_val v vs) q q' f = ext_then q.here.met f.0.here.met q'.here.met (whole_grows 256 e.shape v q f.0 f.1) (follow_grows es vs (noting (range_marks e q.here.at) f.0) q' f.2)

  follow_notes : (es : List Entry) (vs : Vals) (q q' : Last) → Follow types order octets es vs q q' → Noted q.marks q'.marks
  follow_notes [] no_val q q' f = ([], sym (ap (λ (x : Last). x.marks) f) ∙ sym (append-nil q.marks))
  follow_notes [] (then_val v vs) q q' f = absurd f
  follow_notes (e ∷ es) no_val q q' f = absurd f
  follow_notes (e ∷ es) (then_val v vs) q q' f =
      let rm = range_marks e q.here.at in
      noted_then q.marks f.0.marks q'.marks (part_notes types order octets f.1.part) (noted_then f.0.marks (f.0.marks ++ rm) q'.marks (rm, refl) (follow_notes es vs (noting rm f.0) q' f.2))

  follow_leaves : (n : ℕ) (es : List Entry) (vs : Vals) (q q' : Last) → Follow types order octets es vs q q' → Out q.here q'.here n → item q'.items n ≡ item q.items n
  follow_leaves n [] no_val q q' f x = sym (ap (λ (y : Last). item y.items n) f)
  follow_leaves n [] (then_val v vs) q q' f x = absurd f
  follow_leaves n (e ∷ es) no_val q q' f x = absurd f
  follow_leaves n (e ∷ es) (then_val v vs) q q' f x =
      let a = whole_grows 256 e.shape v q f.0 f.1 in
      let b = follow_grows es vs (noting (range_marks e q.here.at) f.0) q' f.2 in
      follow_leaves n es vs (noting (range_marks e q.here.at) f.0) q' f.2 (out_second q.here f.0.here q'.here n (ext_le q.here.met f.0.here.met a) x)
      ∙ whole_leaves n 256 e.shape v q f.0 f.1 (out_first q.here f.0.here q'.here n (ext_le f.0.here.met q'.here.met b) x)

-- ---- a message that has a stub suits its operation

module _ (types : List Form) (before : Order) (call : Call) (old : List ℕ) (fits : IsOctets old) where
  follow_suits : (es : List Entry) (vs : Vals) (q q' : Last) (ms ms' rest : List Mark) → Follow types before old es vs q q' → AgreeTogether types call es vs ms ms' → q.marks ++ ms ≡ q'.marks ++ rest
      → ((n : ℕ) → In q.here q'.here n → item q'.items n ≡ nth call.said.heap n) → (ms' ≡ rest) × SuitEntries types call es vs (seen q.here) (seen q'.here)
  follow_suits [] no_val q q' ms ms' rest f no_entry_left e kept =
      (append_cancel_left q.marks ms rest (e ∙ ap (λ (x : Last). x.marks ++ rest) (sym f)), subst (λ (x : Last). SuitEntries types call [] no_val (seen q.here) (seen x.here)) f no_entry)
  follow_suits [] (then_val v vs) q q' ms ms' rest f a e kept = absurd f
  follow_suits (x ∷ es) no_val q q' ms ms' rest f a e kept = absurd f
  follow_suits (x ∷ es) (then_val v vs) q q' ms ms' rest f (entry_then {ms1 = ms1} {ms2 = ms2} a ranges as') e kept =
      let h = f.0 in
      let w = f.1 in
      let rm = range_marks x q.here.at in
      let noted = follow_notes types before old es vs (noting rm h) q' f.2 in
      let e1 : h.marks ++ (rm ++ (noted.0 ++ rest)) ≡ q'.marks ++ rest =
      sym (append_assoc h.marks rm (noted.0 ++ rest)) ∙ sym (append_assoc (h.marks ++ rm) noted.0 rest) ∙ ap (λ (ns : List Mark). ns ++ rest) (sym noted.1) in
      let grown = follow_grows types before old es vs (noting rm h) q' f.2 in
      let kept1 = λ (n : ℕ) (y : In q.here h.here n). sym (follow_leaves types before old n es vs (noting rm h) q' f.2 (inl y.1)) ∙ kept n (y.0, (let le = ext_le h.here.met q'.here.met grown in omega (arith, y.1, le))) in
      let one = part_suits types before call old fits w.part a tells_none (rm ++ (noted.0 ++ rest)) (e ∙ sym e1) (ext_self w.h.met) (kept_inner call.said.heap w.h q h (part_grows types before old w.part) kept1) in
      let left = range_left x.range v (up q.here.at (tag_size x.shape)) ms1 ms2 (noted.0 ++ rest) ranges one.0 in
      let two = follow_suits es vs (noting rm h) q' ms2 ms' rest f.2 as' (ap (λ (ns : List Mark). (h.marks ++ rm) ++ ns) left.0 ∙ append_assoc h.marks rm (noted.0 ++ rest) ∙ e1)
      (λ n y. kept n ((let le = ext_le q.here.met h.here.met (whole_grows types before old 256 x.shape v q h w) in omega (arith, y.0, le)), y.1)) in
      (two.0, then_entry one.1 left.1 two.1)

nth_some : (heap : Vals) (n : ℕ) → n < count_of heap → (v : Val) × (nth heap n ≡ Some v)
nth_some no_val n lt = absurd (omega (arith, lt))
nth_some (then_val v vs) zero lt = (v, refl)
nth_some (then_val v vs) (suc n) lt = nth_some vs n (omega (arith, lt))

shapes_long : (ms : List (ℕ × Form)) → length (map (λ m. m.1) ms) ≡ length ms
shapes_long [] = refl
shapes_long (m ∷ ms) = ap suc (shapes_long ms)

pub stub_suits : (types : List Form) (op : OpForm) (way : Way) (order : Order) (asked : Option Msg) (octets : List ℕ) (m : Msg) → IsOctets octets → IsStub types op way order asked m octets → IsOfOp types op way asked m
stub_suits types op way order asked octets m fits s =
    let end = s.end in
    let read = s.read in
    let heap = read.heap in
    let kept = λ (n : ℕ) (y : In start.here end.here n). (let v = nth_some m.heap n (omega (arith, y.1, heap.0)) in
    ap (item end.items) (let z : n ≡ 0 + n = omega arith in z) ∙ has_nth end.items 0 n m.heap v.0 heap.1 v.1 ∙ sym v.1) in
    let r = follow_suits types order (call_of op way asked m) octets fits (entries way op) m.values start end end.marks s.left [] read.follow s.agree (sym (append-nil end.marks)) kept in
    record { end = seen end.here; suits = r.1; heap = heap.0 ∙ sym (shapes_long end.here.met); wires = read.wires }

-- ---- what is written of a message that suits is its stub

module _ (types : List Form) (order : Order) (call : Call) (octets : List ℕ) (short : length octets ≤ 2 ^ 31) (dp : ℕ) (grounded : Grounded types dp) (dp_le : dp ≤ deep) where
  abbrev entry_piece : Form → Val → ℕ → Given → Piece
  entry_piece s v i g = whole types order call 257 (behind_of no_val s v) i g

  record WholeStands (s : Form) (v : Val) (q q' : Seen) (i : ℕ) (g : Given) (marks : List Mark) (xs : Numbered) : Type 0 where
    own : List Mark
    ys : Numbered
    is : Whole types order octets 256 s v (written_last q xs i g marks) (written_last q' ys (i + length (entry_piece s v i g).octets) (entry_piece s v i g).given (marks ++ own))
    good : Good q' (i + length (entry_piece s v i g).octets) (entry_piece s v i g).given
    agree : (more : List Mark) → Agrees types call 256 no_val None None s v (own ++ more) more
    sound : Sound call.said.heap xs → Sound call.said.heap ys
    keeps : (n : ℕ) → Kept xs n → Kept ys n
    new : (n : ℕ) → places.In q q' n → Kept ys n

  whole_stands : (s : Form) (v : Val) (q h q' : Seen) (i : ℕ) (g : Given) (marks : List Mark) (xs : Numbered) → Suits types call 256 no_val None s v q h h q' → EachEntry types dp (record { shape = s; range = None } ∷ [])
      → Good q i g → Has octets i (entry_piece s v i g).octets → Begin q'.wires call.said.wires → WholeStands s v q q' i g marks xs
  unfolding whole
  whole_stands s v q h q' i g marks xs w sh good has holds =
      let a = flat types order call deep no_val false s v i g in
      let r = refs types order call 256 a.behind (i + length a.octets) a.given in
      let first = has_first octets i a.octets r.octets has in
      let hw = suits_hold w in
      let t = suits_written types order call octets short dp grounded dp_le dp deep w sh.0.0 sh.0.1 dp_le (fitting 4 (front types order call deep no_val s v)) front_none refl i g good first
      (i + length a.octets) a.given marks xs (suits_good types order call octets short dp deep w sh.0.0 dp_le false i g good first) (has_second octets i a.octets r.octets has)
      (begin_then h.wires q'.wires call.said.wires hw.1 holds) holds in
      let long = ends_both i a.octets r.octets in
      record {
        own = t.own;
        ys = t.ys;
        is = subst (λ (l : ℕ). Whole types order octets 256 s v (written_last q xs i g marks) (written_last q' t.ys l r.given (marks ++ t.own))) long (record { h = written_place h (i + length a.octets) a.given; part = t.part });
        good = subst (λ (l : ℕ). Good q' l r.given) long t.good;
        agree = t.agree;
        sound = t.sound;
        keeps = t.keeps;
        new = λ n y. split types order call q h q' n (λ z. t.new n (inl z)) (λ z. t.new n (inr z)) y;
      }

  record FollowStands (es : List Entry) (vs : Vals) (q q' : Seen) (i : ℕ) (g : Given) (marks : List Mark) (xs : Numbered) : Type 0 where
    own : List Mark
    ys : Numbered
    is : Follow types order octets es vs (written_last q xs i g marks) (written_last q' ys (i + length (each_entry types order call es vs i g).octets) (each_entry types order call es vs i g).given (marks ++ own))
    good : Good q' (i + length (each_entry types order call es vs i g).octets) (each_entry types order call es vs i g).given
    agree : (more : List Mark) → AgreeTogether types call es vs (own ++ more) more
    sound : Sound call.said.heap xs → Sound call.said.heap ys
    keeps : (n : ℕ) → Kept xs n → Kept ys n
    new : (n : ℕ) → places.In q q' n → Kept ys n

  entries_hold : {es : List Entry} {vs : Vals} {q q' : Seen} → SuitEntries types call es vs q q' → Begin q.wires q'.wires
  entries_hold (no_entry {q = q}) = begin_self q.wires
  entries_hold (then_entry {q = q} {h = h} {g = g} {q' = q'} w r f) = let x = suits_hold w in begin_then q.wires g.wires q'.wires (begin_then q.wires h.wires g.wires x.0 x.1) (entries_hold f)

  follow_stands : {es : List Entry} {vs : Vals} {q q' : Seen} (i : ℕ) (g : Given) (marks : List Mark) (xs : Numbered) → SuitEntries types call es vs q q' → EachEntry types dp es
      → Good q i g → Has octets i (each_entry types order call es vs i g).octets → Begin q'.wires call.said.wires → FollowStands es vs q q' i g marks xs
  follow_stands i g marks xs (no_entry {q = q}) sh good has holds =
      let z : i ≡ i + length {A = ℕ} [] = omega arith in
      record {
        own = [];
        ys = xs;
        is = λ j. record { here = written_place q (z j) g; items = xs; marks = sym (append-nil marks) j };
        good = subst (λ (j : ℕ). Good q j g) z good;
        agree = λ more. no_entry_left;
        sound = λ x. x;
        keeps = λ n x. x;
        new = λ n x. in_none q q n refl x;
      }
  follow_stands i g marks xs (then_entry {e = x} {es = es} {v = v} {vs = vs} {q = q} {h = h} {g = q1} {q' = q'} w ranges f) sh good has holds =
      let a = entry_piece x.shape v i g in
      let t = each_entry types order call es vs (i + length a.octets) a.given in
      let one = whole_stands x.shape v q h q1 i g marks xs w (sh.0, tt) good (has_first octets i a.octets t.octets has) (begin_then q1.wires q'.wires call.said.wires (entries_hold f) holds) in
      let rm = range_marks x i in
      let two = follow_stands (i + length a.octets) a.given ((marks ++ one.own) ++ rm) one.ys f sh.1 one.good (has_second octets i a.octets t.octets has) holds in
      let own = one.own ++ (rm ++ two.own) in
      let all : ((marks ++ one.own) ++ rm) ++ two.own ≡ marks ++ own = append_assoc (marks ++ one.own) rm two.own ∙ append_assoc marks one.own (rm ++ two.own) in
      let long = ends_both i a.octets t.octets in
      record {
        own = own;
        ys = two.ys;
        is = (
          written_last q1 one.ys (i + length a.octets) a.given (marks ++ one.own),
          one.is,
          subst (λ (j : ℕ). Follow types order octets es vs (written_last q1 one.ys (i + length a.octets) a.given ((marks ++ one.own) ++ rm)) (written_last q' two.ys j t.given (marks ++ own))) long
              (subst (λ (ns : List Mark). Follow types order octets es vs (written_last q1 one.ys (i + length a.octets) a.given ((marks ++ one.own) ++ rm)) (written_last q' two.ys ((i + length a.octets) + length t.octets) t.given ns)) all two.is),
        );
        good = subst (λ (j : ℕ). Good q' j t.given) long two.good;
        agree = λ more. (let back : own ++ more ≡ one.own ++ (rm ++ (two.own ++ more)) = append_assoc one.own (rm ++ two.own) more ∙ ap (λ (ns : List Mark). one.own ++ ns) (append_assoc rm two.own more) in
            subst (λ (ns : List Mark). AgreeTogether types call (x ∷ es) (then_val v vs) ns more) (sym back)
            (entry_then (one.agree (rm ++ (two.own ++ more))) (range_agrees x.range v (up i (tag_size x.shape)) (two.own ++ more) ranges) (two.agree more)));
        sound = λ s. two.sound (one.sound s);
        keeps = λ n s. two.keeps n (one.keeps n s);
        new = λ n y. split types order call q q1 q' n (λ z. two.keeps n (one.new n z)) (λ z. two.new n z) y;
      }

abbrev none_given : Given
none_given = record { count = 0; items = [] }

has_items : (items : Numbered) (k : ℕ) (heap : Vals) → ((n : ℕ) → n < count_of heap → item items (k + n) ≡ nth heap n) → HasItems items k heap
has_items items k no_val f = tt
has_items items k (then_val v vs) f = (
  ap (item items) (let z : k ≡ k + 0 = omega arith in z) ∙ f 0 (omega arith),
  has_items items (suc k) vs (λ n lt. ap (item items) (let z : suc k + n ≡ k + suc n = omega arith in z) ∙ f (suc n) (omega (arith, lt))),
)

stub_stands : (types : List Form) (op : OpForm) (way : Way) (order : Order) (asked : Option Msg) (m : Msg) (dp : ℕ) → Grounded types dp → dp ≤ deep → EachEntry types dp (entries way op)
    → IsOfOp types op way asked m → HasIds (stub types op way order asked m) → IsStub types op way order asked m (stub types op way order asked m)
unfolding stub
stub_stands types op way order asked m dp grounded dp_le sh s short =
    let call = call_of op way asked m in
    let octets = (each_entry types order call (entries way op) m.values 0 none_given).octets in
    let end = s.end in
    let all : Has octets 0 octets = record { front = []; more = []; parts = sym (append-nil octets); place = refl } in
    let wires : Begin end.wires m.wires = ([], s.wires ∙ sym (append-nil end.wires)) in
    let good : Good nothing_seen 0 none_given = record { few = omega arith; long = refl; rising = omega arith } in
    let t = follow_stands types order call octets short dp grounded dp_le 0 none_given [] [] s.suits sh good all wires in
    let given = (each_entry types order call (entries way op) m.values 0 none_given).given in
    let long : count_of m.heap ≡ length (zipped given.items end.shapes) = s.heap ∙ sym (zipped_length given.items end.shapes t.good.long) in
    let nothing : Sound m.heap [] = λ n v e. absurd cc in
    let items : HasItems t.ys 0 m.heap = has_items t.ys 0 m.heap (λ n lt. (let x = t.new n (omega arith, (let c = s.heap in omega (arith, lt, c))) in
    ap (item t.ys) (let z : 0 + n ≡ n = omega arith in z) ∙ x.1 ∙ sym (t.sound nothing n x.0 x.1))) in
    record {
      end = written_last end t.ys (0 + length octets) given ([] ++ t.own);
      read = record { follow = t.is; rest = omega arith; heap = (long, items); wires = s.wires };
      left = [];
      agree = subst (λ (ns : List Mark). AgreeTogether types call (entries way op) m.values ns []) (append-nil t.own) (t.agree []);
    }

most_is : plus (suc (tight 256)) 255 ≤ 1023
most_is = omega (arith, plus_is (suc (tight 256)) 255, tight_is 256)

module _ (types : List Form) (op : OpForm) (way : Way) (order : Order) (asked : Option Msg) (m : Msg) where
  pub written_stub : IsOp types op → IsOfOp types op way asked m → HasIds (stub types op way order asked m) → IsStub types op way order asked m (stub types op way order asked m)
  written_stub o s short =
      stub_stands types op way order asked m 1023 (types_grounded types o.ops (length types) refl o.table.types_are o.shallow.types_are 1023 most_is) (omega arith)
      (op_entries types o.ops (length types) refl o.table.types_are o.shallow.types_are 1023 most_is way o.number op o.table.ops_are o.shallow.ops_are o.is) s short

  pub written_read : IsOp types op → IsOfOp types op way asked m → HasIds (stub types op way order asked m) → read_stub types op way order asked (stub types op way order asked m) ≡ Ok m
  written_read o s short = stub_found types op way order asked (stub types op way order asked m) m o (written_stub o s short)

pub read_of_op : (types : List Form) (op : OpForm) (way : Way) (order : Order) (asked : Option Msg) (octets : List ℕ) (m : Msg) → IsOctets octets → read_stub types op way order asked octets ≡ Ok m → IsOfOp types op way asked m
read_of_op types op way order asked octets m are e = stub_suits types op way order asked octets m are (read_stands types op way order asked octets m e)
