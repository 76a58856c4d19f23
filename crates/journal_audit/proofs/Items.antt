-- A word of a journal's line is the text of one value.
use Rattle.std.proofs.Common.{◌≡◌, ℕ, ◌+◌, ◌*◌, ◌<◌, ◌^◌, Bool, true, false, Option, Some, None, List, [], ◌∷◌, ◌++◌, length, get_or, drop, refl, ap, sym, ◌∙◌, subst, arith, append_assoc, codes, decimal}
use Rattle.std.specs.List.{join_with_byte, AllByRecursion}
use Rattle.std.proofs.lemmas.Fmt.{decimal_injective}
use Rattle.std.proofs.lemmas.List.{append-nil}
use Rattle.rpc_base.specs.declared.identifiers.Order.{Order}
use Rattle.rpc_base.specs.declared.identifiers.Order.TheVariants.{Big, Little}
use Rattle.rpc_base.specs.declared.identifiers.WireHandle.{WireHandle}
use Rattle.base_words.specs.Words.{is_hex_mark}
use Rattle.base_words.proofs.Cuts.{same_cut, no_cut}
use Rattle.base_words.proofs.Numbers.{hex_u32_injective}
use Rattle.base_words.proofs.Octets.{octets_text_injective}
use Rattle.base_words.proofs.Wide.{hex_u128_injective}
use Rattle.handle_model.specs.declared.entry.Slot.{Slot}
use Rattle.handle_model.specs.declared.entry.Slot.TheVariants.{Shares, Holds, Changes, Opens}
use Rattle.handle_model.specs.declared.entry.Outcome.{Outcome}
use Rattle.handle_model.specs.declared.entry.Outcome.TheVariants.{Keep, Close, Issue, Nothing}
use Rattle.handle_model.specs.declared.entry.Said.{Said}
use Rattle.handle_model.specs.declared.entry.Said.TheVariants.{Out, Fault}
use Rattle.handle_model.specs.declared.entry.DueItem.{DueItem}
use Rattle.journal_text.specs.Texts.{wire_text, slot_text, outcome_text, cookie_text, due_text, said_text, order_text, reply_text, list_text, stage_text}
use Rattle.journal_reader.specs.Fits.{FitsWire, FitsSlot, FitsOutcome, FitsCookie, FitsDue, FitsSaid, FitsOperation, FitsStage}
use Rattle.journal_reader.specs.Lists.{IsItemText}
use Rattle.journal_reader.specs.Parts.{Apart, due_parts, slot_parts, use_name, said_parts, operation_parts, operation_text}
use Rattle.journal_reader.proofs.Cutting.{same_parts}
use Rattle.journal_reader.proofs.Marks.{IsMarks, marks_decimal, no_decimal, no_name, due_own, due_joined, slot_own, slot_joined, said_own, said_joined}
use Rattle.journal_reader.proofs.Wires.{wire_parts}
use Rattle.journal_reader.proofs.Words.{operation_own}

-- PARTS: where two values have one text they have the same parts

pub parts_same : {X : Type 0} (fits : X → Type 0) (parts : X → List (List ℕ)) (whole : X → List ℕ) (c n : ℕ) → ((x : X) → fits x → (length (parts x) ≡ n) × Apart c (parts x)) → ((x : X) → join_with_byte c (parts x) ≡ whole x) → (x y : X) → fits x → fits y → whole x ≡ whole y → parts x ≡ parts y
parts_same fits parts whole c n own join x y f g e =
    same_parts c (parts x) (parts y) ((own x f).0 ∙ sym (own y g).0) (own x f).1 (own y g).1 (join x ∙ (e ∙ sym (join y)))

-- the first octet of the first part, and the parts
abbrev pub mark : List (List ℕ) → ℕ
mark ws = get_or (get_or ws 0 []) 0 0

abbrev pub nth : ℕ → List (List ℕ) → List ℕ
nth n ws = get_or ws n []

-- HANDLES

abbrev wire : ℕ → ℕ → WireHandle
wire a i = record { attributes = a; id = i }

pub wire_same : (v w : WireHandle) → FitsWire v → FitsWire w → wire_text v ≡ wire_text w → v ≡ w
wire_same v w f g e =
    let a = wire_parts v (wire_text w) e in
    let b = wire_parts w (wire_text w) refl in
    let attributes = hex_u32_injective v.attributes w.attributes f.0 g.0 (a.front ∙ sym b.front) in
    let id = hex_u128_injective v.id w.id f.1 g.1 (a.back ∙ sym b.back) in
    ap (λ x. wire x v.id) attributes ∙ ap (λ x. wire w.attributes x) id

-- SLOTS

u32 : (m n : ℕ) → m < 2 ^ 32 → n < 2 ^ 32 → decimal m ≡ decimal n → m ≡ n
u32 m n p q e = decimal_injective m n (omega arith) (omega arith) e

pub number_same : (m n : ℕ) → m < 2 ^ 32 → n < 2 ^ 32 → decimal m ≡ decimal n → m ≡ n
number_same m n p q e = u32 m n p q e

slot_by : (s t : Slot) → FitsSlot s → FitsSlot t → slot_parts s ≡ slot_parts t → s ≡ t
unfolding use_name
slot_by (Shares k v) (Shares l w) f g e =
    let kind = u32 k l f.0 g.0 (ap (nth 1) e) in
    let object = wire_same v w f.1 g.1 (ap (nth 2) e) in
    ap (λ x. Shares x v) kind ∙ ap (λ x. Shares l x) object
slot_by (Holds k v) (Holds l w) f g e =
    let kind = u32 k l f.0 g.0 (ap (nth 1) e) in
    let object = wire_same v w f.1 g.1 (ap (nth 2) e) in
    ap (λ x. Holds x v) kind ∙ ap (λ x. Holds l x) object
slot_by (Changes k v) (Changes l w) f g e =
    let kind = u32 k l f.0 g.0 (ap (nth 1) e) in
    let object = wire_same v w f.1 g.1 (ap (nth 2) e) in
    ap (λ x. Changes x v) kind ∙ ap (λ x. Changes l x) object
slot_by (Opens k m) (Opens l n) f g e =
    let kind = u32 k l f.0 g.0 (ap (nth 1) e) in
    let object = u32 m n f.1 g.1 (ap (nth 2) e) in
    ap (λ x. Opens x m) kind ∙ ap (λ x. Opens l x) object
slot_by s t f g e = let no = ap mark e in absurd (omega arith)

pub slot_same : (s t : Slot) → FitsSlot s → FitsSlot t → slot_text s ≡ slot_text t → s ≡ t
slot_same s t f g e = slot_by s t f g (parts_same FitsSlot slot_parts slot_text 58 3 slot_own slot_joined s t f g e)

-- OUTCOMES

abbrev first : List ℕ → ℕ
first w = get_or w 0 0

pub outcome_same : (a b : Outcome) → FitsOutcome a → FitsOutcome b → outcome_text a ≡ outcome_text b → a ≡ b
outcome_same (Keep c) (Keep d) f g e = ap Keep (decimal_injective c d f g (ap (drop 5) e))
outcome_same Close Close f g e = refl
outcome_same (Issue s c) (Issue t d) f g e =
    let p = f.0 in
    let q = g.0 in
    let behind : decimal s ++ (58 ∷ decimal c) ≡ decimal t ++ (58 ∷ decimal d) =
    sym (append_assoc (decimal s) (58 ∷ []) (decimal c)) ∙ (ap (drop 6) e ∙ append_assoc (decimal t) (58 ∷ []) (decimal d)) in
    let cut = same_cut 58 (decimal s) (decimal t) (decimal c) (decimal d) (no_decimal 58 s refl (omega arith)) (no_decimal 58 t refl (omega arith)) behind in
    ap (λ x. Issue x c) (u32 s t p q cut.0) ∙ ap (λ x. Issue t x) (decimal_injective c d f.1 g.1 cut.1)
outcome_same Nothing Nothing f g e = refl
outcome_same a b f g e = let no = ap first e in absurd (omega arith)

-- COOKIES

not_none : (c : ℕ) → c < 2 ^ 64 → decimal c ≡ codes "none" → ⊥
not_none c f e =
    let marks : IsMarks (codes "none") = subst (λ w. IsMarks w) e (marks_decimal c f) in
    let on : is_hex_mark 110 ≡ true = marks 0 0 (omega arith) in
    absurd (cc)

pub cookie_same : (a b : Option ℕ) → FitsCookie a → FitsCookie b → cookie_text a ≡ cookie_text b → a ≡ b
cookie_same None None f g e = refl
cookie_same None (Some d) f g e = absurd (not_none d g (sym e))
cookie_same (Some c) None f g e = absurd (not_none c f e)
cookie_same (Some c) (Some d) f g e = ap Some (decimal_injective c d f g e)

-- HANDLES TO RUN DOWN

abbrev item : ℕ → ℕ → ℕ → DueItem
item s k c = record { serial = s; kind = k; cookie = c }

pub due_same : (a b : DueItem) → FitsDue a → FitsDue b → due_text a ≡ due_text b → a ≡ b
due_same a b f g e =
    let p = parts_same FitsDue due_parts due_text 58 3 due_own due_joined a b f g e in
    let serial = u32 a.serial b.serial f.0 g.0 (ap (nth 0) p) in
    let kind = u32 a.kind b.kind f.1 g.1 (ap (nth 1) p) in
    let cookie = decimal_injective a.cookie b.cookie f.2 g.2 (ap (nth 2) p) in
    ap (λ x. item x a.kind a.cookie) serial ∙ (ap (λ x. item b.serial x a.cookie) kind ∙ ap (λ x. item b.serial b.kind x) cookie)

-- WHAT AN END SAYS

abbrev fault : ℕ → Said
fault n = Fault (record { 0 = n })

said_by : (a b : Said) → FitsSaid a → FitsSaid b → said_parts a ≡ said_parts b → a ≡ b
said_by (Out xs) (Out ys) f g e = ap Out (octets_text_injective xs ys f g (ap (nth 1) e))
said_by (Fault s) (Fault t) f g e = ap fault (hex_u32_injective s.0 t.0 f g (ap (nth 1) e))
said_by a b f g e = let no = ap mark e in absurd (omega arith)

pub said_same : (a b : Said) → FitsSaid a → FitsSaid b → said_text a ≡ said_text b → a ≡ b
said_same a b f g e = said_by a b f g (parts_same FitsSaid said_parts said_text 58 2 said_own said_joined a b f g e)

-- WORDS

pub order_same : (a b : Order) → order_text a ≡ order_text b → a ≡ b
unfolding order_text
order_same Big Big e = refl
order_same Little Little e = refl
order_same a b e = let no = ap first e in absurd (omega arith)

pub reply_same : (a b : Bool) → reply_text a ≡ reply_text b → a ≡ b
unfolding reply_text
reply_same true true e = refl
reply_same false false e = refl
reply_same a b e = let no = ap first e in absurd (omega arith)

pub operation_same : (a b : ℕ × ℕ) → FitsOperation a → FitsOperation b → operation_text a ≡ operation_text b → a ≡ b
operation_same a b f g e =
    let p = parts_same FitsOperation operation_parts operation_text 46 2 operation_own (λ x. refl) a b f g e in
    let iface_small = f.0 in
    let other_small = g.0 in
    let op_small = f.1 in
    let other_op_small = g.1 in
    let iface = decimal_injective a.0 b.0 (omega arith) (omega arith) (ap (nth 0) p) in
    let op = decimal_injective a.1 b.1 (omega arith) (omega arith) (ap (nth 1) p) in
    ap (λ x. (x, a.1)) iface ∙ ap (λ x. (b.0, x)) op

-- a number that each stage's word has to itself: by its length and its seventh octet
abbrev stage_mark : List ℕ → ℕ
stage_mark w = length w * 1000 + get_or w 6 0

pub stage_same : (a b : Bool × Bool × Bool) → FitsStage a → FitsStage b → stage_text a ≡ stage_text b → a ≡ b
unfolding stage_text
stage_same (false, c, o) (false, d, p) f g e =
    let x = f refl in
    let y = g refl in
    ap (λ v. (false, v, o)) (x.0 ∙ sym y.0) ∙ ap (λ v. (false, d, v)) (x.1 ∙ sym y.1)
stage_same (true, false, false) (true, false, false) f g e = refl
stage_same (true, true, false) (true, true, false) f g e = refl
stage_same (true, false, true) (true, false, true) f g e = refl
stage_same (true, true, true) (true, true, true) f g e = refl
stage_same (false, c, o) (true, false, false) f g e = let no = ap stage_mark e in absurd (omega arith)
stage_same (false, c, o) (true, true, false) f g e = let no = ap stage_mark e in absurd (omega arith)
stage_same (false, c, o) (true, false, true) f g e = let no = ap stage_mark e in absurd (omega arith)
stage_same (false, c, o) (true, true, true) f g e = let no = ap stage_mark e in absurd (omega arith)
stage_same (true, false, false) (false, c, o) f g e = let no = ap stage_mark e in absurd (omega arith)
stage_same (true, true, false) (false, c, o) f g e = let no = ap stage_mark e in absurd (omega arith)
stage_same (true, false, true) (false, c, o) f g e = let no = ap stage_mark e in absurd (omega arith)
stage_same (true, true, true) (false, c, o) f g e = let no = ap stage_mark e in absurd (omega arith)
stage_same (true, false, false) (true, true, false) f g e = let no = ap stage_mark e in absurd (omega arith)
stage_same (true, false, false) (true, false, true) f g e = let no = ap stage_mark e in absurd (omega arith)
stage_same (true, false, false) (true, true, true) f g e = let no = ap stage_mark e in absurd (omega arith)
stage_same (true, true, false) (true, false, false) f g e = let no = ap stage_mark e in absurd (omega arith)
stage_same (true, true, false) (true, false, true) f g e = let no = ap stage_mark e in absurd (omega arith)
stage_same (true, true, false) (true, true, true) f g e = let no = ap stage_mark e in absurd (omega arith)
stage_same (true, false, true) (true, false, false) f g e = let no = ap stage_mark e in absurd (omega arith)
stage_same (true, false, true) (true, true, false) f g e = let no = ap stage_mark e in absurd (omega arith)
stage_same (true, false, true) (true, true, true) f g e = let no = ap stage_mark e in absurd (omega arith)
stage_same (true, true, true) (true, false, false) f g e = let no = ap stage_mark e in absurd (omega arith)
stage_same (true, true, true) (true, true, false) f g e = let no = ap stage_mark e in absurd (omega arith)
stage_same (true, true, true) (true, false, true) f g e = let no = ap stage_mark e in absurd (omega arith)

-- LISTS

not_dash : {X : Type 0} (text : X → List ℕ) (y : X) (ys : List X) → IsItemText (text y) → codes "-" ≡ list_text text (y ∷ ys) → ⊥
not_dash text y [] h e = h.1 (sym (append-nil (text y)) ∙ sym e)
not_dash text y (z ∷ zs) h e = no_cut 44 (text y) (list_text text (z ∷ zs)) (codes "-") (no_name 44 (codes "-") refl) e

pub list_same : {X : Type 0} (fits : X → Type 0) (text : X → List ℕ) → ((x : X) → fits x → IsItemText (text x)) → ((x y : X) → fits x → fits y → text x ≡ text y → x ≡ y) → (xs ys : List X) → AllByRecursion fits xs → AllByRecursion fits ys → list_text text xs ≡ list_text text ys → xs ≡ ys
list_same fits text lone one [] [] f g e = refl
list_same fits text lone one [] (y ∷ ys) f g e = absurd (not_dash text y ys (lone y g.0) e)
list_same fits text lone one (x ∷ xs) [] f g e = absurd (not_dash text x xs (lone x f.0) (sym e))
list_same fits text lone one (x ∷ []) (y ∷ []) f g e =
    ap (λ z. z ∷ []) (one x y f.0 g.0 (sym (append-nil (text x)) ∙ (e ∙ append-nil (text y))))
list_same fits text lone one (x ∷ []) (y ∷ z ∷ ys) f g e =
    absurd (no_cut 44 (text y) (list_text text (z ∷ ys)) (text x) (lone x f.0).0 (sym (append-nil (text x)) ∙ e))
list_same fits text lone one (x ∷ w ∷ xs) (y ∷ []) f g e =
    absurd (no_cut 44 (text x) (list_text text (w ∷ xs)) (text y) (lone y g.0).0 (sym (append-nil (text y)) ∙ sym e))
list_same fits text lone one (x ∷ w ∷ xs) (y ∷ z ∷ ys) f g e =
    let cut = same_cut 44 (text x) (text y) (list_text text (w ∷ xs)) (list_text text (z ∷ ys)) (lone x f.0).0 (lone y g.0).0 e in
    let later = list_same fits text lone one (w ∷ xs) (z ∷ ys) f.1 g.1 cut.1 in
    ap (λ v. v ∷ w ∷ xs) (one x y f.0 g.0 cut.0) ∙ ap (λ vs. y ∷ vs) later
