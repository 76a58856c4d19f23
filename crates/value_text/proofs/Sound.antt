-- What is read stands at the front of the text.
use Rattle.std.proofs.Common.{◌≡◌, ℕ, zero, suc, ◌+◌, ◌^◌, Bool, true, false, List, [], ◌∷◌, ◌++◌, length, Option, Some, None, Result, Ok, Err, refl, ap, sym, subst, ◌∙◌, arith, append_assoc, codes}
use Rattle.std.specs.Prelude.{if◌then◌else◌, ◌&&◌, not, nat_lt, slice_get}
use Rattle.std.specs.Fmt.{signed_decimal}
use Rattle.std.specs.List.{flat_map}
use Rattle.std.proofs.lemmas.Bool.{ltb-true}
use Rattle.ndr_value.specs.declared.shape.Count.{Count}
use Rattle.ndr_value.specs.declared.shape.ArrayKind.{ArrayKind}
use Rattle.ndr_value.specs.Forms.{Form, OfBool, OfByte, OfChar, OfInt, OfUint, OfEnum, OfNamed, OfStruct, OfUnion, OfArray, OfText, OfRef, OfUnique, OfFull, OfHandle, Forms, no_form, then_form, ArmForms, Body, empty, holds}
use Rattle.ndr_value.specs.Values.{Val, VBool, VByte, VChar, VInt, VUint, VEnum, VStruct, VEmpty, VUnion, VArray, VText, VNull, VPtr, VFull, VHandle, Vals, no_val, then_val, count_of}
use Rattle.ndr_value.specs.Fits.{limit, fits_count, arm_of}
use Rattle.ndr_value.specs.Typed.{Typed, a_bool, a_byte, a_char, an_int, a_uint, an_enum, a_name, a_struct, an_empty_arm, an_arm, an_array, a_text, a_ref, a_null, a_pointer, a_null_full, a_full, a_handle, EachTyped, no_more, one_more, AllTyped, none_left, one_of}
use Rattle.value_text.specs.declared.departure.Departure.{Departure}
use Rattle.value_text.specs.declared.departure.Departure.TheVariants.{Kind}
use Rattle.value_text.specs.declared.numbers.Numeral.{Numeral}
use Rattle.value_text.specs.Bind.{◌>>=◌}
use Rattle.value_text.specs.Texts.{value_text, list_text, more_text, char_text, Sized, AllSized}
use Rattle.value_text.specs.Marks.{heads, wrong, mark, marks, opened, closed}
use Rattle.value_text.specs.Numbers.{number_at, unsigned_at, signed_at, index_at, is_signed, signed}
use Rattle.value_text.specs.Quoted.{text_at}
use Rattle.value_text.specs.Reading.{Found, octet_at, byte_at, character_at, integer_at, natural_number_at, name_at, words_at, handle_at, of_type, takes, next_at, with_item, member_at, members_end, members_on, members_at, item_at, items_on, items_at, arm_by, arm_at, union_at, in_struct, in_array, struct_at, array_at, read_at, read}
use Rattle.value_text.specs.Stands.{Stands}
use Rattle.value_text.proofs.Steps.{bind_ok, unless_go, when_go, heads_is, mark_ok, marks_ok, opened_ok, closed_ok}
use Rattle.value_text.proofs.Numerals.{unsigned_ok, signed_ok, signed_is, index_ok}
use Rattle.value_text.proofs.Quotes.{text_ok}

abbrev good : {A : Type 0} → A → Result A Departure
good x = Ok x

pub ok_is : {A : Type 0} (x y : A) → good x ≡ good y → x ≡ y
ok_is x y e = cc

abbrev pub most_items : ℕ
most_items = 2 ^ 32

module _ (types : List Form) where
  -- at a pair of a value and what follows it
  abbrev At : ℕ → Form → List ℕ → Val × List ℕ → Type 0
  At level s t q = Stands types most_items level s t q.0 q.1

  bool_by : (b : Bool) (level : ℕ) (t : List ℕ) (q : Val × List ℕ) → heads 116 t ≡ b
      → (if b then (marks (codes "true") t >>= λ u. Ok (VBool true, u)) else (if heads 102 t then (marks (codes "false") t >>= λ u. Ok (VBool false, u)) else Err (wrong t))) ≡ Ok q → At level OfBool t q
  unfolding value_text Sized
  bool_by true level t q h e =
      let b = bind_ok (marks (codes "true") t) (λ u. Ok (VBool true, u)) q e in
      subst (At level OfBool t) (ok_is (VBool true, b.0) q b.2) (record { typed = a_bool; sized = tt; whole = marks_ok (codes "true") t b.0 b.1; ends = λ f. absurd cc })
  bool_by false level t q h e =
      let g = when_go (heads 102 t) (marks (codes "false") t >>= λ u. Ok (VBool false, u)) q (wrong t) e in
      let b = bind_ok (marks (codes "false") t) (λ u. Ok (VBool false, u)) q g.1 in
      subst (At level OfBool t) (ok_is (VBool false, b.0) q b.2) (record { typed = a_bool; sized = tt; whole = marks_ok (codes "false") t b.0 b.1; ends = λ f. absurd cc })

  pub byte_ok : (level : ℕ) (t : List ℕ) (q : Val × List ℕ) → byte_at t ≡ Ok q → At level OfByte t q
  unfolding value_text Sized
  byte_ok level t q e =
      let b = bind_ok (octet_at t) (λ x. Ok (VByte x.0, x.1)) q e in
      let d = unsigned_ok (2 ^ 8) t b.0.0 b.0.1 b.1 in
      subst (At level OfByte t) (ok_is (VByte b.0.0, b.0.1) q b.2) (record { typed = a_byte; sized = d.within; whole = d.whole; ends = λ f. d.stops })

  char_found : (level : ℕ) (t : List ℕ) (q : Val × List ℕ) → character_at t ≡ Ok q → At level OfChar t q
  unfolding value_text Sized
  char_found level t q e =
      let b = bind_ok (unsigned_at (2 ^ 8) t) (λ x. Ok (VChar x.0, x.1)) q e in
      let d = unsigned_ok (2 ^ 8) t b.0.0 b.0.1 b.1 in
      subst (At level OfChar t) (ok_is (VChar b.0.0, b.0.1) q b.2) (record { typed = a_char; sized = d.within; whole = d.whole; ends = λ f. d.stops })

  int_found : (size level : ℕ) (t : List ℕ) (q : Val × List ℕ) → integer_at size t ≡ Ok q → At level (OfInt size) t q
  unfolding value_text Sized
  int_found size level t q e =
      let b = bind_ok (signed_at size t) (λ x. Ok (VInt x.0, x.1)) q e in
      let d = signed_ok size t b.0.0 b.0.1 b.1 in
      subst (At level (OfInt size) t) (ok_is (VInt b.0.0, b.0.1) q b.2) (record { typed = an_int d.within; sized = d.little; whole = d.whole; ends = λ f. d.stops })

  uint_found : (size level : ℕ) (t : List ℕ) (q : Val × List ℕ) → natural_number_at size t ≡ Ok q → At level (OfUint size) t q
  unfolding value_text Sized
  uint_found size level t q e =
      let b = bind_ok (unsigned_at (limit size) t) (λ x. Ok (VUint x.0, x.1)) q e in
      let d = unsigned_ok (limit size) t b.0.0 b.0.1 b.1 in
      subst (At level (OfUint size) t) (ok_is (VUint b.0.0, b.0.1) q b.2) (record { typed = a_uint d.within; sized = d.small; whole = d.whole; ends = λ f. d.stops })

  enum_found : (count level : ℕ) (t : List ℕ) (q : Val × List ℕ) → name_at count t ≡ Ok q → At level (OfEnum count) t q
  unfolding value_text Sized
  enum_found count level t q e =
      let b = bind_ok (unsigned_at count t) (λ x. Ok (VEnum x.0, x.1)) q e in
      let d = unsigned_ok count t b.0.0 b.0.1 b.1 in
      subst (At level (OfEnum count) t) (ok_is (VEnum b.0.0, b.0.1) q b.2) (record { typed = an_enum d.within; sized = d.small; whole = d.whole; ends = λ f. d.stops })

  text_found : (most : Option ℕ) (level : ℕ) (t : List ℕ) (q : Val × List ℕ) → words_at most t ≡ Ok q → At level (OfText most) t q
  unfolding value_text Sized
  text_found most level t q e =
      let b = bind_ok (text_at most t) (λ x. Ok (VText x.0, x.1)) q e in
      let d = text_ok most t b.0.0 b.0.1 b.1 in
      subst (At level (OfText most) t) (ok_is (VText b.0.0, b.0.1) q b.2) (record {
        typed = a_text d.1 d.2;
        sized = d.3;
        whole = d.0 ∙ ap (λ (u : List ℕ). 34 ∷ u) (sym (append_assoc (flat_map char_text b.0.0) (34 ∷ []) b.0.1));
        ends = λ f. absurd cc;
      })

  handle_found : (kind level : ℕ) (t : List ℕ) (q : Val × List ℕ) → handle_at t ≡ Ok q → At level (OfHandle kind) t q
  unfolding value_text Sized
  handle_found kind level t q e =
      let b = bind_ok (opened 36 t) (λ u. index_at (2 ^ 8) u >>= λ x. Ok (VHandle x.0, x.1)) q e in
      let c = bind_ok (index_at (2 ^ 8) b.0) (λ x. Ok (VHandle x.0, x.1)) q b.2 in
      let d = index_ok (2 ^ 8) b.0 c.0.0 c.0.1 c.1 in
      subst (At level (OfHandle kind) t) (ok_is (VHandle c.0.0, c.0.1) q c.2) (record { typed = a_handle; sized = d.within; whole = opened_ok 36 t b.0 b.1 ∙ ap (λ (u : List ℕ). 36 ∷ u) d.whole; ends = λ f. d.stops })

  full_by : (b : Bool) (s : Form) (level : ℕ) (t : List ℕ) (q : Val × List ℕ)
      → (if b then (marks (codes "null") t >>= λ u. Ok (VFull None, u)) else (opened 64 t >>= λ u. index_at (2 ^ 32) u >>= λ x. Ok (VFull (Some x.0), x.1))) ≡ Ok q → At level (OfFull s) t q
  unfolding value_text Sized
  full_by true s level t q e =
      let b = bind_ok (marks (codes "null") t) (λ u. Ok (VFull None, u)) q e in
      subst (At level (OfFull s) t) (ok_is (VFull None, b.0) q b.2) (record { typed = a_null_full; sized = tt; whole = marks_ok (codes "null") t b.0 b.1; ends = λ f. absurd cc })
  full_by false s level t q e =
      let b = bind_ok (opened 64 t) (λ u. index_at (2 ^ 32) u >>= λ x. Ok (VFull (Some x.0), x.1)) q e in
      let c = bind_ok (index_at (2 ^ 32) b.0) (λ x. Ok (VFull (Some x.0), x.1)) q b.2 in
      let d = index_ok (2 ^ 32) b.0 c.0.0 c.0.1 c.1 in
      subst (At level (OfFull s) t) (ok_is (VFull (Some c.0.0), c.0.1) q c.2) (record { typed = a_full d.within; sized = d.within; whole = opened_ok 64 t b.0 b.1 ∙ ap (λ (u : List ℕ). 64 ∷ u) d.whole; ends = λ f. d.stops })

  module _ (go : ℕ → Form → List ℕ → Found) (ih : (level : ℕ) (s : Form) (t : List ℕ) (q : Val × List ℕ) → go level s t ≡ Ok q → At level s t q) where
    -- ---- members

    record Members (level : ℕ) (ss : Forms) (text : Vals → List ℕ) (t : List ℕ) (q : Vals × List ℕ) : Type 0 where
      typed : EachTyped types most_items level ss q.0
      sized : AllSized q.0
      whole : t ≡ text q.0 ++ (125 ∷ q.1)

    members_on_ok : (level : ℕ) (ss : Forms) (t : List ℕ) (q : Vals × List ℕ) → members_on (go level) ss t ≡ Ok q → Members level ss more_text t q
    unfolding value_text Sized
    members_on_ok level no_form t q e =
        let b = bind_ok (members_end t) (λ u. Ok (no_val, u)) q e in
        let g = unless_go (heads 44 t) (mark 125 t) b.0 (Kind (length t)) b.1 in
        subst (Members level no_form more_text t) (ok_is (no_val, b.0) q b.2) (record { typed = no_more; sized = tt; whole = mark_ok 125 t b.0 g.1 })
    members_on_ok level (then_form s ss) t q e =
        let b = bind_ok (member_at (go level s) t) (λ x. with_item x.0 (members_on (go level) ss x.1)) q e in
        let x = b.0 in
        let c = bind_ok (members_on (go level) ss x.1) (λ y. Ok (then_val x.0 y.0, y.1)) q b.2 in
        let y = c.0 in
        let g = unless_go (heads 125 t) (marks (codes ", ") t >>= λ u. go level s u) x (Kind (length t)) b.1 in
        let d = bind_ok (marks (codes ", ") t) (λ u. go level s u) x g.1 in
        let first = ih level s d.0 x d.2 in
        let rest = members_on_ok level ss x.1 y c.1 in
        subst (Members level (then_form s ss) more_text t) (ok_is (then_val x.0 y.0, y.1) q c.2) (record {
          typed = one_more first.typed rest.typed;
          sized = (first.sized, rest.sized);
          whole = marks_ok (codes ", ") t d.0 d.1 ∙ (ap (λ (u : List ℕ). 44 ∷ 32 ∷ u) (first.whole ∙ (ap (λ (u : List ℕ). value_text x.0 ++ u) rest.whole ∙ sym (append_assoc (value_text x.0) (more_text y.0) (125 ∷ y.1)))));
        })

    members_ok : (level : ℕ) (ss : Forms) (t : List ℕ) (q : Vals × List ℕ) → members_at (go level) ss t ≡ Ok q → Members level ss list_text t q
    unfolding value_text Sized
    members_ok level no_form t q e =
        let b = bind_ok (opened 125 t) (λ u. Ok (no_val, u)) q e in
        subst (Members level no_form list_text t) (ok_is (no_val, b.0) q b.2) (record { typed = no_more; sized = tt; whole = opened_ok 125 t b.0 b.1 })
    members_ok level (then_form s ss) t q e =
        let g = unless_go (heads 125 t) (go level s t >>= λ x. with_item x.0 (members_on (go level) ss x.1)) q (Kind (length t)) e in
        let b = bind_ok (go level s t) (λ x. with_item x.0 (members_on (go level) ss x.1)) q g.1 in
        let x = b.0 in
        let c = bind_ok (members_on (go level) ss x.1) (λ y. Ok (then_val x.0 y.0, y.1)) q b.2 in
        let y = c.0 in
        let first = ih level s t x b.1 in
        let rest = members_on_ok level ss x.1 y c.1 in
        subst (Members level (then_form s ss) list_text t) (ok_is (then_val x.0 y.0, y.1) q c.2) (record {
          typed = one_more first.typed rest.typed;
          sized = (first.sized, rest.sized);
          whole = first.whole ∙ (ap (λ (u : List ℕ). value_text x.0 ++ u) rest.whole ∙ sym (append_assoc (value_text x.0) (more_text y.0) (125 ∷ y.1)));
        })

    struct_found : (ss : Forms) (level : ℕ) (t : List ℕ) (q : Val × List ℕ) → struct_at (go level) ss t ≡ Ok q → At level (OfStruct ss) t q
    unfolding value_text Sized
    struct_found ss level t q e =
        let b = bind_ok (opened 123 t) (λ u. in_struct (members_at (go level) ss u)) q e in
        let c = bind_ok (members_at (go level) ss b.0) (λ x. Ok (VStruct x.0, x.1)) q b.2 in
        let d = members_ok level ss b.0 c.0 c.1 in
        subst (At level (OfStruct ss) t) (ok_is (VStruct c.0.0, c.0.1) q c.2) (record {
          typed = a_struct d.typed;
          sized = d.sized;
          whole = opened_ok 123 t b.0 b.1 ∙ ap (λ (u : List ℕ). 123 ∷ u) (d.whole ∙ sym (append_assoc (list_text c.0.0) (125 ∷ []) c.0.1));
          ends = λ f. absurd cc;
        })

    -- ---- elements

    record Items (level : ℕ) (s : Form) (kind : ArrayKind) (m : ℕ) (text : Vals → List ℕ) (t : List ℕ) (q : Vals × List ℕ) : Type 0 where
      typed : AllTyped types most_items level s q.0
      sized : AllSized q.0
      fits : fits_count kind (m + count_of q.0) ≡ true
      whole : t ≡ text q.0 ++ (93 ∷ q.1)

    none_on : (level : ℕ) (s : Form) (kind : ArrayKind) (m : ℕ) (text : Vals → List ℕ) (t : List ℕ) (q : Vals × List ℕ) → heads 93 t ≡ true → text no_val ≡ [] → (closed (fits_count kind m) t >>= λ u. Ok (no_val, u)) ≡ Ok q → Items level s kind m text t q
    unfolding Sized
    none_on level s kind m text t q h none e =
        let b = bind_ok (closed (fits_count kind m) t) (λ u. Ok (no_val, u)) q e in
        let c = closed_ok (fits_count kind m) t b.0 b.1 in
        let k : m ≡ m + 0 = omega arith in
        subst (Items level s kind m text t) (ok_is (no_val, b.0) q b.2) (record {
          typed = none_left;
          sized = tt;
          fits = subst (λ (i : ℕ). fits_count kind i ≡ true) k c.0;
          whole = heads_is 93 t h ∙ (ap (λ (u : List ℕ). 93 ∷ u) c.1 ∙ ap (λ (w : List ℕ). w ++ (93 ∷ b.0)) (sym none));
        })

    items_by : (b : Bool) (n level : ℕ) (s : Form) (kind : ArrayKind) (m : ℕ) (t : List ℕ) (q : Vals × List ℕ) → heads 93 t ≡ b
        → (if b then (closed (fits_count kind m) t >>= λ u. Ok (no_val, u)) else (item_at (go level s) (takes kind m) t >>= λ x. with_item x.0 (items_on n (go level s) kind (m + 1) x.1))) ≡ Ok q
        → ((u : List ℕ) (y : Vals × List ℕ) → items_on n (go level s) kind (m + 1) u ≡ Ok y → Items level s kind (m + 1) more_text u y) → Items level s kind m more_text t q
    unfolding value_text Sized
    items_by true n level s kind m t q h e more = none_on level s kind m more_text t q h refl e
    items_by false n level s kind m t q h e more =
        let b = bind_ok (item_at (go level s) (takes kind m) t) (λ x. with_item x.0 (items_on n (go level s) kind (m + 1) x.1)) q e in
        let x = b.0 in
        let c = bind_ok (items_on n (go level s) kind (m + 1) x.1) (λ y. Ok (then_val x.0 y.0, y.1)) q b.2 in
        let y = c.0 in
        let d = bind_ok (next_at (takes kind m) t) (λ u. go level s u) x b.1 in
        let g = unless_go (heads 44 t && not (takes kind m)) (marks (codes ", ") t) d.0 (Kind (length t)) d.1 in
        let first = ih level s d.0 x d.2 in
        let rest = more x.1 y c.1 in
        let k : m + 1 + count_of y.0 ≡ m + suc (count_of y.0) = omega arith in
        subst (Items level s kind m more_text t) (ok_is (then_val x.0 y.0, y.1) q c.2) (record {
          typed = one_of first.typed rest.typed;
          sized = (first.sized, rest.sized);
          fits = subst (λ (i : ℕ). fits_count kind i ≡ true) k rest.fits;
          whole = marks_ok (codes ", ") t d.0 g.1 ∙ (ap (λ (u : List ℕ). 44 ∷ 32 ∷ u) (first.whole ∙ (ap (λ (u : List ℕ). value_text x.0 ++ u) rest.whole ∙ sym (append_assoc (value_text x.0) (more_text y.0) (93 ∷ y.1)))));
        })

    items_on_ok : (n level : ℕ) (s : Form) (kind : ArrayKind) (m : ℕ) (t : List ℕ) (q : Vals × List ℕ) → items_on n (go level s) kind m t ≡ Ok q → Items level s kind m more_text t q
    unfolding items_on
    items_on_ok zero level s kind m t q e = absurd cc
    items_on_ok (suc n) level s kind m t q e = items_by (heads 93 t) n level s kind m t q refl e (items_on_ok n level s kind (m + 1))

    items_first : (b : Bool) (level : ℕ) (s : Form) (kind : ArrayKind) (t : List ℕ) (q : Vals × List ℕ) → heads 93 t ≡ b
        → (if b then (closed (fits_count kind 0) t >>= λ u. Ok (no_val, u)) else (if takes kind 0 then (go level s t >>= λ x. with_item x.0 (items_on (length x.1 + 1) (go level s) kind 1 x.1)) else Err (wrong t))) ≡ Ok q
        → Items level s kind 0 list_text t q
    unfolding value_text Sized
    items_first true level s kind t q h e = none_on level s kind 0 list_text t q h refl e
    items_first false level s kind t q h e =
        let g = when_go (takes kind 0) (go level s t >>= λ x. with_item x.0 (items_on (length x.1 + 1) (go level s) kind 1 x.1)) q (wrong t) e in
        let b = bind_ok (go level s t) (λ x. with_item x.0 (items_on (length x.1 + 1) (go level s) kind 1 x.1)) q g.1 in
        let x = b.0 in
        let c = bind_ok (items_on (length x.1 + 1) (go level s) kind 1 x.1) (λ y. Ok (then_val x.0 y.0, y.1)) q b.2 in
        let y = c.0 in
        let first = ih level s t x b.1 in
        let rest = items_on_ok (length x.1 + 1) level s kind 1 x.1 y c.1 in
        let k : 1 + count_of y.0 ≡ 0 + suc (count_of y.0) = omega arith in
        subst (Items level s kind 0 list_text t) (ok_is (then_val x.0 y.0, y.1) q c.2) (record {
          typed = one_of first.typed rest.typed;
          sized = (first.sized, rest.sized);
          fits = subst (λ (i : ℕ). fits_count kind i ≡ true) k rest.fits;
          whole = first.whole ∙ (ap (λ (u : List ℕ). value_text x.0 ++ u) rest.whole ∙ sym (append_assoc (value_text x.0) (more_text y.0) (93 ∷ y.1)));
        })

    array_found : (kind : ArrayKind) (s : Form) (level : ℕ) (t : List ℕ) (q : Val × List ℕ) → array_at (go level s) kind t ≡ Ok q → At level (OfArray kind s) t q
    unfolding value_text Sized
    array_found kind s level t q e =
        let b = bind_ok (opened 91 t) (λ u. in_array (items_at (go level s) kind u)) q e in
        let c = bind_ok (items_at (go level s) kind b.0) (λ x. Ok (VArray x.0, x.1)) q b.2 in
        let d = items_first (heads 93 b.0) level s kind b.0 c.0 refl c.1 in
        let k : 0 + count_of c.0.0 ≡ count_of c.0.0 = omega arith in
        subst (At level (OfArray kind s) t) (ok_is (VArray c.0.0, c.0.1) q c.2) (record {
          typed = an_array (subst (λ (i : ℕ). fits_count kind i ≡ true) k d.fits) d.typed;
          sized = d.sized;
          whole = opened_ok 91 t b.0 b.1 ∙ ap (λ (u : List ℕ). 91 ∷ u) (d.whole ∙ sym (append_assoc (list_text c.0.0) (93 ∷ []) c.0.1));
          ends = λ f. absurd cc;
        })

    -- ---- unions

    tag_by : (b : Bool) (k : Form) (arms : ArmForms) (x : Numeral) (body : Body) → is_signed 8 x ≡ b → (if b then arm_of (OfUnion k arms) (signed x) else None) ≡ Some body → (is_signed 8 x ≡ true) × (arm_of (OfUnion k arms) (signed x) ≡ Some body)
    tag_by true k arms x body h e = (h, e)
    tag_by false k arms x body h e = absurd cc

    arm_found : (o : Option Body) (k : Form) (arms : ArmForms) (level left : ℕ) (x : Numeral) (t u v : List ℕ) (q : Val × List ℕ) → arm_by (OfUnion k arms) x ≡ o → t ≡ 40 ∷ u → number_at u ≡ Ok (x, v)
        → arm_at o (signed x) left (go level) v ≡ Ok q → At level (OfUnion k arms) t q
    unfolding value_text Sized
    arm_found None k arms level left x t u v q is front tag e = absurd cc
    arm_found (Some empty) k arms level left x t u v q is front tag e =
        let g = unless_go (heads 58 v) (mark 41 v >>= λ w. Ok (VEmpty (signed x), w)) q (Kind (length v)) e in
        let b = bind_ok (mark 41 v) (λ w. Ok (VEmpty (signed x), w)) q g.1 in
        let a = tag_by (is_signed 8 x) k arms x empty refl is in
        let d = signed_is 8 u x v tag a.0 in
        subst (At level (OfUnion k arms) t) (ok_is (VEmpty (signed x), b.0) q b.2) (record {
          typed = an_empty_arm a.1;
          sized = (d.within, d.little);
          whole = front ∙ ap (λ (w : List ℕ). 40 ∷ w) (d.whole ∙ (ap (λ (w : List ℕ). signed_decimal (signed x) ++ w) (mark_ok 41 v b.0 b.1) ∙ sym (append_assoc (signed_decimal (signed x)) (41 ∷ []) b.0)));
          ends = λ f. absurd cc;
        })
    arm_found (Some (holds s)) k arms level left x t u v q is front tag e =
        let z = signed x in
        let g = unless_go (heads 41 v) (marks (codes ": ") v >>= λ w. go level s w >>= λ y. mark 41 y.1 >>= λ r. Ok (VUnion z y.0, r)) q (Kind (length v)) e in
        let m = bind_ok (marks (codes ": ") v) (λ w. go level s w >>= λ y. mark 41 y.1 >>= λ r. Ok (VUnion z y.0, r)) q g.1 in
        let b = bind_ok (go level s m.0) (λ y. mark 41 y.1 >>= λ r. Ok (VUnion z y.0, r)) q m.2 in
        let y = b.0 in
        let c = bind_ok (mark 41 y.1) (λ r. Ok (VUnion z y.0, r)) q b.2 in
        let a = tag_by (is_signed 8 x) k arms x (holds s) refl is in
        let d = signed_is 8 u x v tag a.0 in
        let i = ih level s m.0 y b.1 in
        let inner : m.0 ≡ (value_text y.0 ++ 41 ∷ []) ++ c.0 = i.whole ∙ (ap (λ (w : List ℕ). value_text y.0 ++ w) (mark_ok 41 y.1 c.0 c.1) ∙ sym (append_assoc (value_text y.0) (41 ∷ []) c.0)) in
        let rest : v ≡ (58 ∷ 32 ∷ (value_text y.0 ++ 41 ∷ [])) ++ c.0 = marks_ok (codes ": ") v m.0 m.1 ∙ ap (λ (w : List ℕ). 58 ∷ 32 ∷ w) inner in
        subst (At level (OfUnion k arms) t) (ok_is (VUnion z y.0, c.0) q c.2) (record {
          typed = an_arm a.1 i.typed;
          sized = ((d.within, d.little), i.sized);
          whole = front ∙ ap (λ (w : List ℕ). 40 ∷ w) (d.whole ∙ (ap (λ (w : List ℕ). signed_decimal z ++ w) rest ∙ sym (append_assoc (signed_decimal z) (58 ∷ 32 ∷ (value_text y.0 ++ 41 ∷ [])) c.0)));
          ends = λ f. absurd cc;
        })

    union_found : (k : Form) (arms : ArmForms) (level : ℕ) (t : List ℕ) (q : Val × List ℕ) → union_at (go level) (OfUnion k arms) t ≡ Ok q → At level (OfUnion k arms) t q
    union_found k arms level t q e =
        let c = bind_ok (opened 40 t) (λ u. number_at u >>= λ x. arm_at (arm_by (OfUnion k arms) x.0) (signed x.0) (length u) (go level) x.1) q e in
        let b = bind_ok (number_at c.0) (λ x. arm_at (arm_by (OfUnion k arms) x.0) (signed x.0) (length c.0) (go level) x.1) q c.2 in
        arm_found (arm_by (OfUnion k arms) b.0.0) k arms level (length c.0) b.0.0 t c.0 b.0.1 q refl (opened_ok 40 t c.0 c.1) b.1 b.2

    -- ---- pointers

    pointer_by : (b : Bool) (s : Form) (level : ℕ) (t : List ℕ) (q : Val × List ℕ)
        → (if b then (marks (codes "null") t >>= λ u. Ok (VNull, u)) else (opened 38 t >>= λ u. if nat_lt level 256 then (go (level + 1) s u >>= λ x. Ok (VPtr x.0, x.1)) else Err (Kind (length t)))) ≡ Ok q → At level (OfUnique s) t q
    unfolding value_text Sized
    pointer_by true s level t q e =
        let b = bind_ok (marks (codes "null") t) (λ u. Ok (VNull, u)) q e in
        subst (At level (OfUnique s) t) (ok_is (VNull, b.0) q b.2) (record { typed = a_null; sized = tt; whole = marks_ok (codes "null") t b.0 b.1; ends = λ f. absurd cc })
    pointer_by false s level t q e =
        let b = bind_ok (opened 38 t) (λ u. if nat_lt level 256 then (go (level + 1) s u >>= λ x. Ok (VPtr x.0, x.1)) else Err (Kind (length t))) q e in
        let g = when_go (nat_lt level 256) (go (level + 1) s b.0 >>= λ x. Ok (VPtr x.0, x.1)) q (Kind (length t)) b.2 in
        let c = bind_ok (go (level + 1) s b.0) (λ x. Ok (VPtr x.0, x.1)) q g.1 in
        let k : level + 1 ≡ suc level = omega arith in
        let i = ih (level + 1) s b.0 c.0 c.1 in
        subst (At level (OfUnique s) t) (ok_is (VPtr c.0.0, c.0.1) q c.2) (record {
          typed = a_pointer (ltb-true level 256 g.0) (subst (λ (l : ℕ). Typed types most_items l s c.0.0) k i.typed);
          sized = i.sized;
          whole = opened_ok 38 t b.0 b.1 ∙ ap (λ (u : List ℕ). 38 ∷ u) i.whole;
          ends = i.ends;
        })

    -- ---- names

    name_found : (o : Option Form) (c : ℕ) (switch : Option Count) (level : ℕ) (t : List ℕ) (q : Val × List ℕ) → slice_get types c ≡ o → of_type o t (λ s. go level s t) ≡ Ok q → At level (OfNamed c switch) t q
    name_found None c switch level t q is e = absurd cc
    name_found (Some s) c switch level t q is e =
        let i = ih level s t q e in
        record { typed = a_name is i.typed; sized = i.sized; whole = i.whole; ends = i.ends }

    found_at : (level : ℕ) (s : Form) (t : List ℕ) (q : Val × List ℕ) → read_at types go level s t ≡ Ok q → At level s t q
    found_at level OfBool t q e = bool_by (heads 116 t) level t q refl e
    found_at level OfByte t q e = byte_ok level t q e
    found_at level OfChar t q e = char_found level t q e
    found_at level (OfInt size) t q e = int_found size level t q e
    found_at level (OfUint size) t q e = uint_found size level t q e
    found_at level (OfEnum count) t q e = enum_found count level t q e
    found_at level (OfNamed c switch) t q e = name_found (slice_get types c) c switch level t q refl e
    found_at level (OfStruct ss) t q e = struct_found ss level t q e
    found_at level (OfUnion k arms) t q e = union_found k arms level t q e
    found_at level (OfArray kind s) t q e = array_found kind s level t q e
    found_at level (OfText most) t q e = text_found most level t q e
    found_at level (OfRef s) t q e = let i = ih level s t q e in record { typed = a_ref i.typed; sized = i.sized; whole = i.whole; ends = i.ends }
    found_at level (OfUnique s) t q e = pointer_by (heads 110 t) s level t q e
    found_at level (OfFull s) t q e = full_by (heads 110 t) s level t q e
    found_at level (OfHandle kind) t q e = handle_found kind level t q e

  pub found : (n level : ℕ) (s : Form) (t : List ℕ) (q : Val × List ℕ) → read types n level s t ≡ Ok q → Stands types most_items level s t q.0 q.1
  unfolding read
  found zero level s t q e = absurd cc
  found (suc n) level s t q e = found_at (read types n) (found n) level s t q e
