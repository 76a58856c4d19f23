-- On the types of a table octets are read as their front is, or the front ends too early.
use Rattle.std.proofs.Common.{◌≡◌, ℕ, zero, suc, ◌+◌, ◌*◌, ◌<◌, ◌≤◌, ℤ, Bool, true, false, List, [], ◌∷◌, ◌++◌, length, Option, Some, None, Result, Ok, Err, refl, subst, arith, suc-mul}
use Rattle.std.specs.Prelude.{slice_get, ◌==◌, if◌then◌else◌}
use Rattle.rpc_base.specs.declared.identifiers.Order.{Order}
use Rattle.ndr_value.specs.Forms.{Form, OfBool, OfByte, OfChar, OfInt, OfUint, OfEnum, OfNamed, OfStruct, OfUnion, OfArray, OfText, OfRef, OfUnique, OfFull, OfHandle, Forms, no_form, then_form, Body, empty, holds}
use Rattle.ndr_value.specs.Fits.{arm_of}
use Rattle.ndr_scalars.specs.Scalars.{up, octets_of}
use Rattle.ndr_model.specs.declared.departure.Departure.{Departure}
use Rattle.ndr_model.specs.declared.departure.Departure.TheVariants.{Pointer}
use Rattle.ndr_model.specs.declared.mark.Mark.TheVariants.{Referent}
use Rattle.ndr_model.specs.Places.{Place, past, Last, onto, noting, look}
use Rattle.ndr_model.specs.Part.{IsTag, tag_bool, tag_char, tag_int, tag_uint, tag_enum, for_last, in_place, tag_size, opened_marks, count_marks, tag_marks}
use Rattle.ndr_model.specs.Same.{same}
use Rattle.ndr_model.specs.Stub.{Entry, range_marks}
use Rattle.ndr_model.specs.Scan.{level, unique_by, full_scan, full_by, of_type, arm_scan, each, times, scan}
use Rattle.ndr_model.specs.Build.{Cursor, ahead, cursor, Found, referent, behind_unique, behind_known, behind_met, behind_full, built_each, built_times, built_arm, build, whole, follows}
use Rattle.ndr_model.proofs.Pieces.{tag_is}
use Rattle.ndr_laws.proofs.Grounded.{EachForm, HasForm, Shallow, Targets, EachTarget, Grounded, EachEntry, each_arm, arm_has}
use Rattle.ndr_faults.proofs.Cut.{Cut, alike, departed, bind_cut, some_octets, number_cut, pointer_in_front, name_cut, wire_cut, array_cut, chars_cut, tag_cut, struct_cut}
use Rattle.ndr_faults.proofs.Clear.{Clear, EachClear, AllClear, EntriesClear, arm_clear}

level_cut : {k : ℕ} {A : Type 0} {r r' : Result A Departure} (room i : ℕ) → i < k → Cut k r r' → Cut k (level room i r) (level room i r')
level_cut zero i lt c = departed lt
level_cut (suc room) i lt c = c

unique_cut : {k : ℕ} (id room : ℕ) (p : Place) (j : ℕ) → up p.at 4 < k → Cut k (unique_by id room p j) (unique_by id room p j)
unique_cut zero room p j lt = alike
unique_cut (suc id) room p j lt = level_cut room (up p.at 4) lt alike

same_cut : {k : ℕ} (b : Bool) (p : Place) (i : ℕ) → i < k → Cut k (if b then Ok p else Err (Pointer i)) (if b then Ok p else Err (Pointer i))
same_cut true p i lt = alike
same_cut false p i lt = departed lt

known_cut : {k : ℕ} (room id : ℕ) (s : Form) (o : Option (ℕ × Form)) (p : Place) (j : ℕ) → up p.at 4 < k → Cut k (full_scan room id s o p j) (full_scan room id s o p j)
known_cut room id s None p j lt = level_cut room (up p.at 4) lt alike
known_cut room id s (Some m) p j lt = same_cut (same m.1 s) (past p j) (up p.at 4) lt

full_cut : {k : ℕ} (id room : ℕ) (s : Form) (p : Place) (j : ℕ) → up p.at 4 < k → Cut k (full_by id room s p j) (full_by id room s p j)
full_cut zero room s p j lt = alike
full_cut (suc id) room s p j lt = known_cut room (suc id) s (look p.met (suc id)) p j lt

behind_unique_cut : {k : ℕ} {f f' : Found} (id : ℕ) (a : Cursor) (q : Last) → Cut k f f' → Cut k (behind_unique id a q f) (behind_unique id a q f')
behind_unique_cut zero a q c = alike
behind_unique_cut (suc id) a q c = bind_cut c (λ x e. alike)

behind_known_cut : {k : ℕ} {f f' : Found} (n : ℕ) (b : Bool) (a : Cursor) (q : Last) → Cut k f f' → Cut k (behind_known n b a q f) (behind_known n b a q f')
behind_known_cut n true a q c = bind_cut c (λ x e. alike)
behind_known_cut n false a q c = alike

behind_met_cut : {k : ℕ} {f f' : Found} (i : ℕ) (o : Option (ℕ × Form)) (a : Cursor) (q : Last) → i < k → Cut k f f' → Cut k (behind_met i o a q f) (behind_met i o a q f')
behind_met_cut i None a q lt c = departed lt
behind_met_cut i (Some m) a q lt c = behind_known_cut m.0 (m.0 == a.ids) a q c

behind_full_cut : {k : ℕ} {f f' : Found} (id i : ℕ) (a : Cursor) (q : Last) → i < k → Cut k f f' → Cut k (behind_full id i a q f) (behind_full id i a q f')
behind_full_cut zero i a q lt c = alike
behind_full_cut (suc id) i a q lt c = behind_met_cut i (look q.here.met (suc id)) a q lt c

-- where the tag of a union stands
tag_in_front : {order : Order} {front : List ℕ} {t : Form} {tag : ℤ} {i j : ℕ} → IsTag order front t tag i j → up i (tag_size t) < length front
tag_in_front (tag_bool s) = omega (arith, s.ends, s.within)
tag_in_front (tag_char s) = omega (arith, s.ends, s.within)
tag_in_front {i = i} (tag_int {size = size} s) = some_octets size (up i (octets_of size)) _ (omega (arith, s.ends, s.within))
tag_in_front {i = i} (tag_uint {size = size} s lt) = some_octets size (up i (octets_of size)) _ (omega (arith, s.ends, s.within))
tag_in_front (tag_enum s lt) = omega (arith, s.ends, s.within)

module _ (types : List Form) (order : Order) (front more : List ℕ) (deep : ℕ) (grounded : Grounded types deep) (clear : AllClear types) where
  abbrev k : ℕ
  k = length front

  abbrev all : List ℕ
  all = front ++ more

  abbrev Scans : ℕ → ℕ → Form → Type 0
  Scans n room s = (moved : Option ℕ) (p : Place) → Cut k (scan types order all n room moved s p) (scan types order front n room moved s p)

  abbrev Builds : ℕ → ℕ → Form → Type 0
  Builds n room s = (moved : Option ℕ) (a : Cursor) (q : Last) → Cut k (build types order all n room moved s a q) (build types order front n room moved s a q)

  abbrev Both : ℕ → ℕ → Form → Type 0
  Both n room s = Scans n room s × Builds n room s

  abbrev AllBoth : ℕ → Type 0
  AllBoth n = (room d : ℕ) (s : Form) → Shallow types d s → Targets types deep s → Clear types s → room * (deep + 1) + d ≤ n → Both n room s

  each_scans : (n room d : ℕ) → AllBoth n → room * (deep + 1) + d ≤ n → (ss : Forms) → EachForm (Shallow types d) ss → EachTarget types deep ss → EachClear types ss
      → (own : Option ℕ) (p : Place) → Cut k (each (scan types order all n room) own ss p) (each (scan types order front n room) own ss p)
  each_scans n room d so le no_form sh tg cl own p = alike
  each_scans n room d so le (then_form s ss) sh tg cl own p = bind_cut ((so room d s sh.0 tg.0 cl.0 le).0 (for_last ss own) p) (λ h e. each_scans n room d so le ss sh.1 tg.1 cl.1 own h)

  each_builds : (n room d : ℕ) → AllBoth n → room * (deep + 1) + d ≤ n → (ss : Forms) → EachForm (Shallow types d) ss → EachTarget types deep ss → EachClear types ss
      → (own : Option ℕ) (a : Cursor) (q : Last) → Cut k (built_each (build types order all n room) own ss a q) (built_each (build types order front n room) own ss a q)
  each_builds n room d so le no_form sh tg cl own a q = alike
  each_builds n room d so le (then_form s ss) sh tg cl own a q =
      bind_cut ((so room d s sh.0 tg.0 cl.0 le).1 (for_last ss own) a q) (λ x e. bind_cut (each_builds n room d so le ss sh.1 tg.1 cl.1 own x.1.flat x.1.all) (λ y f. alike))

  times_scans : (n room : ℕ) (s : Form) → Scans n room s → (c : ℕ) (p : Place) → Cut k (times (scan types order all n room None s) c p) (times (scan types order front n room None s) c p)
  times_scans n room s h zero p = alike
  times_scans n room s h (suc c) p = bind_cut (h None p) (λ g e. times_scans n room s h c g)

  times_builds : (n room : ℕ) (s : Form) → Builds n room s → (c : ℕ) (a : Cursor) (q : Last) → Cut k (built_times (build types order all n room None s) c a q) (built_times (build types order front n room None s) c a q)
  times_builds n room s h zero a q = alike
  times_builds n room s h (suc c) a q = bind_cut (h None a q) (λ x e. bind_cut (times_builds n room s h c x.1.flat x.1.all) (λ y f. alike))

  arm_scans : (n room : ℕ) (b : Option Body) → ((s : Form) → b ≡ Some (holds s) → Both n room s) → (i : ℕ) (p : Place) → i < k
      → Cut k (arm_scan b i p (scan types order all n room None)) (arm_scan b i p (scan types order front n room None))
  arm_scans n room None h i p lt = departed lt
  arm_scans n room (Some empty) h i p lt = alike
  arm_scans n room (Some (holds s)) h i p lt = (h s refl).0 None p

  arm_builds : (n room : ℕ) (b : Option Body) → ((s : Form) → b ≡ Some (holds s) → Both n room s) → (i : ℕ) (tag : ℤ) (a : Cursor) (q : Last) → i < k
      → Cut k (built_arm b i tag a q (build types order all n room None)) (built_arm b i tag a q (build types order front n room None))
  arm_builds n room None h i tag a q lt = departed lt
  arm_builds n room (Some empty) h i tag a q lt = alike
  arm_builds n room (Some (holds s)) h i tag a q lt = bind_cut ((h s refl).1 None a q) (λ x e. alike)

  pub whole_cut : (n room : ℕ) (s : Form) (q : Last) → Both n room s → Cut k (whole types order all n room s q) (whole types order front n room s q)
  whole_cut n room s q h = bind_cut (h.0 None q.here) (λ g e. bind_cut (h.1 None (cursor q.here) (onto g q)) (λ x f. alike))

  pointed : (n room d place : ℕ) (s : Form) (q : Last) → AllBoth n → room * (deep + 1) + suc d ≤ suc n → Shallow types deep s → Targets types deep s → Clear types s → place < k
      → Cut k (referent (scan types order all n) (build types order all n) room place s q) (referent (scan types order front n) (build types order front n) room place s q)
  pointed n zero d place s q so le sh tg cl lt = departed lt
  pointed n (suc room) d place s q so le sh tg cl lt = whole_cut n room s q (so room deep s sh tg cl (omega (arith, le, suc-mul room (deep + 1))))

  named_cut : {A : Type 0} (o : Option Form) (i : ℕ) (go go' : Form → Result A Departure) → (s : Form) → o ≡ Some s → ((s : Form) → o ≡ Some s → Cut k (go s) (go' s)) → Cut k (of_type o i go) (of_type o i go')
  named_cut None i go go' s e h = absurd cc
  named_cut (Some t) i go go' s e h = h t refl

  type_of : (d c : ℕ) (s : Form) → HasForm (Shallow types d) (slice_get types c) → slice_get types c ≡ Some s → Shallow types d s
  type_of d c s sh is = subst (λ (o : Option Form). HasForm (Shallow types d) o) is sh

  one_cut : (n room d : ℕ) → AllBoth n → (s : Form) → Shallow types (suc d) s → Targets types deep s → Clear types s → room * (deep + 1) + suc d ≤ suc n → Both (suc n) room s
  unfolding scan build
  one_cut n room d so OfBool sh tg cl le = (λ moved p. bind_cut (number_cut order front more 1 p.at) (λ x e. alike), λ moved a q. bind_cut (number_cut order front more 1 a.at) (λ x e. alike))
  one_cut n room d so OfByte sh tg cl le = (λ moved p. bind_cut (number_cut order front more 1 p.at) (λ x e. alike), λ moved a q. bind_cut (number_cut order front more 1 a.at) (λ x e. alike))
  one_cut n room d so OfChar sh tg cl le = (λ moved p. bind_cut (number_cut order front more 1 p.at) (λ x e. alike), λ moved a q. bind_cut (number_cut order front more 1 a.at) (λ x e. alike))
  one_cut n room d so (OfInt size) sh tg cl le = (λ moved p. bind_cut (number_cut order front more size p.at) (λ x e. alike), λ moved a q. bind_cut (number_cut order front more size a.at) (λ x e. alike))
  one_cut n room d so (OfUint size) sh tg cl le = (λ moved p. bind_cut (number_cut order front more size p.at) (λ x e. alike), λ moved a q. bind_cut (number_cut order front more size a.at) (λ x e. alike))
  one_cut n room d so (OfEnum count) sh tg cl le = (λ moved p. bind_cut (name_cut order front more count p.at) (λ x e. alike), λ moved a q. bind_cut (name_cut order front more count a.at) (λ x e. alike))
  one_cut n room d so (OfHandle kind) sh tg cl le = (λ moved p. bind_cut (wire_cut order front more p.at) (λ x e. alike), λ moved a q. bind_cut (wire_cut order front more a.at) (λ x e. alike))
  one_cut n room d so (OfText size) sh tg cl le = (λ moved p. bind_cut (chars_cut order front more size moved p.at) (λ x e. alike), λ moved a q. bind_cut (chars_cut order front more size moved a.at) (λ x e. alike))
  one_cut n room d so (OfNamed c switch) sh tg cl le =
      let h : (s : Form) → slice_get types c ≡ Some s → Both n room s = λ s is. so room d s (type_of d c s sh is) (grounded c s is) (clear c s is) (omega (arith, le)) in (
        λ moved p. named_cut (slice_get types c) p.at (λ s. scan types order all n room moved s p) (λ s. scan types order front n room moved s p) cl.0 cl.1 (λ s is. (h s is).0 moved p),
        λ moved a q. named_cut (slice_get types c) a.at (λ s. build types order all n room moved s a q) (λ s. build types order front n room moved s a q) cl.0 cl.1 (λ s is. (h s is).1 moved a q),
      )
  one_cut n room d so (OfStruct ss) sh tg cl le = (
    λ moved p. bind_cut (struct_cut order front more types ss moved p.at) (λ x e. each_scans n room d so (omega (arith, le)) ss sh tg cl x.0 (past p x.1)),
    λ moved a q. bind_cut (struct_cut order front more types ss moved a.at)
        (λ x e. bind_cut (each_builds n room d so (omega (arith, le)) ss sh tg cl x.0 (ahead a x.1) (noting (opened_marks moved x.0 a.at) q)) (λ y f. alike)),
  )
  one_cut n room d so (OfUnion t arms) sh tg cl le =
      let u = OfUnion t arms in
      let h : (tag : ℤ) (s : Form) → arm_of u tag ≡ Some (holds s) → Both n room s =
      λ tag s e. so room d s (arm_has (Shallow types d) s t arms tag e sh) (arm_has (Targets types deep) s t arms tag e (each_arm types deep arms tg)) (arm_clear types s t arms tag e cl.1) (omega (arith, le)) in (
        λ moved p. bind_cut (tag_cut order front more t arms (in_place types u p.at) cl.0)
            (λ x e. arm_scans n room (arm_of u x.0) (h x.0) (up (in_place types u p.at) (tag_size t)) (past p x.1) (tag_in_front (tag_is order front t arms (in_place types u p.at) x e))),
        λ moved a q. bind_cut (tag_cut order front more t arms (in_place types u a.at) cl.0)
            (λ x e. arm_builds n room (arm_of u x.0) (h x.0) (up (in_place types u a.at) (tag_size t)) x.0 (ahead a x.1) (noting (tag_marks types t u x.0 a.at) q) (tag_in_front (tag_is order front t arms (in_place types u a.at) x e))),
      )
  one_cut n room d so (OfArray kind s) sh tg cl le =
      let h = so room d s sh tg cl (omega (arith, le)) in (
        λ moved p. bind_cut (array_cut order front more kind moved p.at) (λ x e. times_scans n room s h.0 x.0.actual (past p x.1)),
        λ moved a q. bind_cut (array_cut order front more kind moved a.at)
            (λ x e. bind_cut (times_builds n room s h.1 x.0.actual (ahead a x.1) (noting (count_marks kind moved x.0 a.at x.1) q)) (λ y f. alike)),
      )
  one_cut n room d so (OfRef s) sh tg cl le = (
    λ moved p. bind_cut (number_cut order front more 4 p.at) (λ x e. level_cut room (up p.at 4) (pointer_in_front order front more p.at x e) alike),
    λ moved a q. bind_cut (number_cut order front more 4 a.at)
        (λ x e. bind_cut (pointed n room d (up a.at 4) s q so le tg.0 tg.1 cl (pointer_in_front order front more a.at x e)) (λ y f. alike)),
  )
  one_cut n room d so (OfUnique s) sh tg cl le = (
    λ moved p. bind_cut (number_cut order front more 4 p.at) (λ x e. unique_cut x.0 room p x.1 (pointer_in_front order front more p.at x e)),
    λ moved a q. bind_cut (number_cut order front more 4 a.at)
        (λ x e. behind_unique_cut x.0 (ahead a x.1) q (pointed n room d (up a.at 4) s q so le tg.0 tg.1 cl (pointer_in_front order front more a.at x e))),
  )
  one_cut n room d so (OfFull s) sh tg cl le = (
    λ moved p. bind_cut (number_cut order front more 4 p.at) (λ x e. full_cut x.0 room s p x.1 (pointer_in_front order front more p.at x e)),
    λ moved a q. bind_cut (number_cut order front more 4 a.at)
        (λ x e. let lt = pointer_in_front order front more a.at x e in
        behind_full_cut x.0 (up a.at 4) (ahead a x.1) q lt (pointed n room d (up a.at 4) s (noting (Referent true ∷ []) q) so le tg.0 tg.1 cl lt)),
  )

  pub cut : (n room d : ℕ) (s : Form) → Shallow types d s → Targets types deep s → Clear types s → room * (deep + 1) + d ≤ n → Both n room s
  cut n room zero s sh tg cl le = absurd sh
  cut zero room (suc d) s sh tg cl le = absurd (omega (arith, le))
  cut (suc n) room (suc d) s sh tg cl le = one_cut n room d (cut n) s sh tg cl le

  pub follows_cut : (n : ℕ) → 256 * (deep + 1) + deep ≤ n → (es : List Entry) (q : Last) → EachEntry types deep es → EntriesClear types es → Cut k (follows types order all n es q) (follows types order front n es q)
  follows_cut n wide [] q sh cl = alike
  follows_cut n wide (e ∷ es) q sh cl =
      bind_cut (whole_cut n 256 e.shape q (cut n 256 deep e.shape sh.0.0 sh.0.1 cl.0 wide))
      (λ x f. bind_cut (follows_cut n wide es (noting (range_marks e q.here.at) x.1) sh.1 cl.1) (λ y g. alike))
