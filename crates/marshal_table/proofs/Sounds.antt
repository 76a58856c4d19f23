-- The outline of an interface counts its bodies, and each type that a name stands for names bodies that have ended, or behind pointers such as
-- will end. So what its events give is a table.
use Rattle.std.proofs.Common.{◌≡◌, ℕ, ◌+◌, ◌<◌, ◌≤◌, List, [], ◌∷◌, ◌++◌, length, refl, ap, subst, sym, ◌∙◌, arith, append-nil, length-append, Bool, true, false, cond, Option, None, Some}
use Rattle.std.specs.Prelude.{◌&&◌, bytes_eq, if◌then◌else◌}
use Rattle.std.specs.List.{list_all}
use Rattle.std.proofs.lemmas.List.Sums.{sum_by-cons}
use Rattle.idl_tree.specs.declared.leaf.Ident.{Ident}
use Rattle.idl_names.specs.declared.symbols.Tag.{Tag}
use Rattle.idl_names.specs.Symbols.{ByName, put}
use Rattle.idl_outline.specs.declared.ty.DataType.{DataType}
use Rattle.idl_outline.specs.declared.manner.Structure.{Structure}
use Rattle.idl_outline.specs.declared.field.Field.{Field}
use Rattle.idl_outline.specs.declared.event.Event.{Event}
use Rattle.idl_outline.specs.declared.event.Event.TheVariants as events
use Rattle.idl_outline.specs.Names.{Past, symbols_of, type_named, is_body, bodies}
use Rattle.idl_outline.specs.declared.event.Tag.{Tag as UnionTag}
use Rattle.ndr_value.specs.Forms.{Form}
use Rattle.ndr_table.specs.Ordered.{is_below, is_body as is_body_form, ordered_from}
use Rattle.ndr_table.specs.Tables.{OpForm, op_below}
use Rattle.marshal_table.specs.Shapes.{type_form}
use Rattle.marshal_table.specs.Bodies.{body_form, type_in}
use Rattle.marshal_table.specs.Interfaces.{op_in, collected}
use Rattle.marshal_table.proofs.Fitting.{both_of, and_of, fits_more, TypeFits}

-- as many types as bodies
counted_one : (e : Event) (p : Past) → bodies (e ∷ p) ≡ cond (is_body e) 1 0 + bodies p
counted_one e p = sum_by-cons (λ x. cond (is_body x) 1 0) e p

type_count : (e : Event) → length (type_in e) ≡ cond (is_body e) 1 0
type_count (events.Body tag fs) = refl
type_count _ = refl

pub types_count : (p : Past) → length (collected type_in p) ≡ bodies p
types_count [] = refl
types_count (e ∷ p) =
    let a = length-append (collected type_in p) (type_in e) in
    let b = type_count e in
    let c = counted_one e p in
    let d = types_count p in
    omega (arith, a, b, c, d)

-- ---- what names stand for

abbrev pub NamedFits : ℕ → ℕ → Option DataType → Type 0
NamedFits near far None = Unit {0}
NamedFits near far (Some t) = TypeFits near far t.layers t.core

-- a structure whose body has ended is a type; one whose body hasn't will be
abbrev pub TagFits : ℕ → ℕ → Option (Tag Structure) → Type 0
TagFits near far None = Unit {0}
TagFits near far (Some t) = (t.whole ≡ true → t.known.number < near) × (t.known.number < far)

pub record Sound (far : ℕ) (p : Past) : Type 0 where
  pub types : ordered_from 0 far (collected type_in p) ≡ true
  pub ops : list_all (op_below far) (collected op_in p) ≡ true
  pub few : bodies p ≤ far
  pub named : (name : List ℕ) → NamedFits (bodies p) far (type_named name p)
  pub tags : (name : List ℕ) → TagFits (bodies p) far ((symbols_of p).tags name)

-- from p so many bodies on
pub record Goes (far n : ℕ) (p q : Past) : Type 0 where
  pub count : bodies q ≡ bodies p + n
  pub sound : Sound far q

-- ---- small parts

either : {X : Type 0} (P : Option X → Type 0) (b : Bool) (x y : Option X) → P x → P y → P (if b then x else y)
either P true x y h k = h
either P false x y h k = k

-- what holds at each name holds there behind one name more
put_all : {X : Type 0} (P : Option X → Type 0) (name : List ℕ) (x : X) (named : ByName X) → P (Some x) → ((n : List ℕ) → P (named n)) → (n : List ℕ) → P (put name x named n)
put_all P name x named h k n = either P (bytes_eq name n) (Some x) (named n) h (k n)

pub stays : (far : ℕ) (p : Past) → Sound far p → Goes far 0 p p
stays far p ok = record { count = omega arith; sound = ok }

pub then_goes : (far n m : ℕ) (p q r : Past) → Goes far n p q → Goes far m q r → Goes far (n + m) p r
then_goes far n m p q r a b = let c = a.count in let d = b.count in record { count = omega (arith, c, d); sound = b.sound }

pub as_many : (far n m : ℕ) (p q : Past) → n ≡ m → Goes far n p q → Goes far m p q
as_many far n m p q e a = subst (λ (k : ℕ). Goes far k p q) e a

named_more : (near more far : ℕ) → near ≤ more → (o : Option DataType) → NamedFits near far o → NamedFits more far o
named_more near more far le None h = tt
named_more near more far le (Some t) h = fits_more near more far le (type_form t) h

tag_more : (near more far : ℕ) → near ≤ more → (o : Option (Tag Structure)) → TagFits near far o → TagFits more far o
tag_more near more far le None h = tt
tag_more near more far le (Some t) h = (λ w. let n = h.0 w in omega (arith, n, le), h.1)

pub all_true_join : {X : Type 0} (f : X → Bool) (xs ys : List X) → list_all f xs ≡ true → list_all f ys ≡ true → list_all f (xs ++ ys) ≡ true
all_true_join f [] ys h k = k
all_true_join f (x ∷ xs) ys h k = let e = both_of (f x) (list_all f xs) h in and_of (f x) (list_all f (xs ++ ys)) e.0 (all_true_join f xs ys e.1 k)

ordered_more : (k far : ℕ) (ts : List Form) (t : Form) → ordered_from k far ts ≡ true → is_body_form t ≡ true → is_below (k + length ts) far t ≡ true → ordered_from k far (ts ++ t ∷ []) ≡ true
ordered_more k far [] t e b f =
    let g : is_below k far t ≡ true = subst (λ (n : ℕ). is_below n far t ≡ true) (omega arith) f in
    and_of (is_body_form t) (is_below k far t && true) b (and_of (is_below k far t) true g refl)
ordered_more k far (x ∷ ts) t e b f =
    let h = both_of (is_body_form x) (is_below k far x && ordered_from (k + 1) far ts) e in
    let i = both_of (is_below k far x) (ordered_from (k + 1) far ts) h.1 in
    let g : is_below (k + 1 + length ts) far t ≡ true = subst (λ (n : ℕ). is_below n far t ≡ true) (omega arith) f in
    and_of (is_body_form x) (is_below k far x && ordered_from (k + 1) far (ts ++ t ∷ [])) h.0
    (and_of (is_below k far x) (ordered_from (k + 1) far (ts ++ t ∷ [])) i.0 (ordered_more (k + 1) far ts t i.1 b g))

-- ---- events

-- an event that is no body, no operation's end, no typedef and no structure's tag
pub plain : (far : ℕ) (e : Event) (p : Past) → type_in e ≡ [] → op_in e ≡ [] → is_body e ≡ false → ((name : List ℕ) → type_named name (e ∷ p) ≡ type_named name p)
    → ((name : List ℕ) → (symbols_of (e ∷ p)).tags name ≡ (symbols_of p).tags name) → Sound far p → Goes far 0 p (e ∷ p)
plain far e p t o b named tags ok =
    let c = counted_one e p in
    let z : ◌≡◌ {A = ℕ} (cond (is_body e) 1 0) 0 = ap (λ (x : Bool). cond x 1 0) b in
    let same : bodies (e ∷ p) ≡ bodies p = omega (arith, c, z) in
    let few = ok.few in
    record {
      count = omega (arith, same);
      sound = record {
        types = subst (λ (ts : List Form). ordered_from 0 far ts ≡ true) (sym (ap (λ (xs : List Form). collected type_in p ++ xs) t ∙ append-nil (collected type_in p))) ok.types;
        ops = subst (λ (os : List OpForm). list_all (op_below far) os ≡ true) (sym (ap (λ (xs : List OpForm). collected op_in p ++ xs) o ∙ append-nil (collected op_in p))) ok.ops;
        few = omega (arith, same, few);
        named = λ name. subst (λ (n : ℕ). NamedFits n far (type_named name (e ∷ p))) (sym same) (subst (NamedFits (bodies p) far) (sym (named name)) (ok.named name));
        tags = λ name. subst (λ (n : ℕ). TagFits n far ((symbols_of (e ∷ p)).tags name)) (sym same) (subst (TagFits (bodies p) far) (sym (tags name)) (ok.tags name));
      };
    }

form_is_body : (tag : Option UnionTag) (fs : List Field) → is_body_form (body_form tag fs) ≡ true
form_is_body None fs = refl
form_is_body (Some t) fs = refl

pub body_goes : (far : ℕ) (tag : Option UnionTag) (fs : List Field) (p : Past) → Sound far p → bodies p + 1 ≤ far → is_below (bodies p) far (body_form tag fs) ≡ true → Goes far 1 p (events.Body tag fs ∷ p)
body_goes far tag fs p ok room f =
    let e : Event = events.Body tag fs in
    let c = counted_one e p in
    let longer : bodies (e ∷ p) ≡ bodies p + 1 = omega (arith, c) in
    let many = types_count p in
    let here : is_below (0 + length (collected type_in p)) far (body_form tag fs) ≡ true = subst (λ (n : ℕ). is_below n far (body_form tag fs) ≡ true) (omega (arith, many)) f in
    record {
      count = longer;
      sound = record {
        types = ordered_more 0 far (collected type_in p) (body_form tag fs) ok.types (form_is_body tag fs) here;
        ops = subst (λ (os : List OpForm). list_all (op_below far) os ≡ true) (sym (append-nil (collected op_in p))) ok.ops;
        few = omega (arith, longer, room);
        named = λ name. named_more (bodies p) (bodies (e ∷ p)) far (omega (arith, longer)) (type_named name p) (ok.named name);
        tags = λ name. tag_more (bodies p) (bodies (e ∷ p)) far (omega (arith, longer)) ((symbols_of p).tags name) (ok.tags name);
      };
    }

pub still : (e : Event) (p : Past) → is_body e ≡ false → bodies (e ∷ p) ≡ bodies p
still e p b =
    let c = counted_one e p in
    let z : ◌≡◌ {A = ℕ} (cond (is_body e) 1 0) 0 = ap (λ (x : Bool). cond x 1 0) b in
    omega (arith, c, z)

pub same_types : (far : ℕ) (p : Past) → Sound far p → ordered_from 0 far (collected type_in p ++ []) ≡ true
same_types far p ok = subst (λ (ts : List Form). ordered_from 0 far ts ≡ true) (sym (append-nil (collected type_in p))) ok.types

same_ops : (far : ℕ) (p : Past) → Sound far p → list_all (op_below far) (collected op_in p ++ []) ≡ true
same_ops far p ok = subst (λ (os : List OpForm). list_all (op_below far) os ≡ true) (sym (append-nil (collected op_in p))) ok.ops

-- the name of a type that fits
pub typedef_goes : (far : ℕ) (i : Ident) (t : DataType) (p : Past) → Sound far p → TypeFits (bodies p) far t.layers t.core → Goes far 0 p (events.Typedef i t ∷ p)
typedef_goes far i t p ok f =
    let e : Event = events.Typedef i t in
    let same = still e p refl in
    let few = ok.few in
    record {
      count = omega (arith, same);
      sound = record {
        types = same_types far p ok;
        ops = same_ops far p ok;
        few = omega (arith, same, few);
        named = λ name. subst (λ (n : ℕ). NamedFits n far (type_named name (e ∷ p))) (sym same) (put_all (NamedFits (bodies p) far) i.text t (symbols_of p).types f ok.named name);
        tags = λ name. subst (λ (n : ℕ). TagFits n far ((symbols_of p).tags name)) (sym same) (ok.tags name);
      };
    }

pub tag_goes : (far : ℕ) (e : Event) (i : Ident) (whole : Bool) (s : Structure) (p : Past) → type_in e ≡ [] → op_in e ≡ [] → is_body e ≡ false → ((name : List ℕ) → type_named name (e ∷ p) ≡ type_named name p)
    → ((name : List ℕ) → (symbols_of (e ∷ p)).tags name ≡ put i.text (record { whole = whole; known = s }) (symbols_of p).tags name) → Sound far p
    → (whole ≡ true → s.number < bodies p) → s.number < far → Goes far 0 p (e ∷ p)
tag_goes far e i whole s p t o b named tags ok near_ far_ =
    let same = still e p b in
    let few = ok.few in
    record {
      count = omega (arith, same);
      sound = record {
        types = subst (λ (ts : List Form). ordered_from 0 far ts ≡ true) (sym (ap (λ (xs : List Form). collected type_in p ++ xs) t ∙ append-nil (collected type_in p))) ok.types;
        ops = subst (λ (os : List OpForm). list_all (op_below far) os ≡ true) (sym (ap (λ (xs : List OpForm). collected op_in p ++ xs) o ∙ append-nil (collected op_in p))) ok.ops;
        few = omega (arith, same, few);
        named = λ name. subst (λ (n : ℕ). NamedFits n far (type_named name (e ∷ p))) (sym same) (subst (NamedFits (bodies p) far) (sym (named name)) (ok.named name));
        tags = λ name. subst (λ (n : ℕ). TagFits n far ((symbols_of (e ∷ p)).tags name)) (sym same)
            (subst (TagFits (bodies p) far) (sym (tags name)) (put_all (TagFits (bodies p) far) i.text (record { whole = whole; known = s }) (symbols_of p).tags (near_, far_) ok.tags name));
      };
    }
