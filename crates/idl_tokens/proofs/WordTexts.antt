-- The word that a text spells.
use Rattle.std.proofs.Common.{◌≡◌, ◌≢◌, ℕ, Bool, List, [], ◌∷◌, true, false, Option, Some, None, refl, sym, find}
use Rattle.std.specs.Str.{bytes_eq}
use Rattle.std.proofs.lemmas.Slice.Eq.{bytes_eq-Decides}
use Rattle.idl_tokens.specs.declared.words.Word.{Word}
use Rattle.idl_tokens.specs.declared.words.Word.TheVariants as words
use Rattle.idl_tokens.specs.Spellings.{word_text}

abbrev all_words : List Word
all_words = words.Interface ∷ words.Uuid ∷ words.Version ∷ words.PointerDefault ∷ words.Endpoint ∷ words.Ref ∷ words.Unique ∷ words.Ptr ∷ words.Const ∷ words.Typedef ∷ words.Void ∷ words.In ∷ words.Out ∷ words.String ∷ words.Idempotent ∷ words.Maybe ∷ words.ContextHandle ∷ words.ContextHandleSerialize ∷ words.ContextHandleNoserialize ∷ words.SizeIs ∷ words.MaxIs ∷ words.LengthIs ∷ words.SwitchIs ∷ words.SwitchType ∷ words.HandleT ∷ words.ErrorStatusT ∷ words.Boolean ∷ words.Byte ∷ words.Unsigned ∷ words.Char ∷ words.Small ∷ words.Short ∷ words.Long ∷ words.Hyper ∷ words.Int ∷ words.Struct ∷ words.Union ∷ words.Switch ∷ words.Enum ∷ words.Case ∷ words.Default ∷ []

unfoldable pub word_of : List ℕ → Option Word
word_of text = find (λ w. bytes_eq (word_text w) text) all_words

pub word_of-word_text : (w : Word) → word_of (word_text w) ≡ Some w
unfolding word_of
word_of-word_text words.Interface = refl
word_of-word_text words.Uuid = refl
word_of-word_text words.Version = refl
word_of-word_text words.PointerDefault = refl
word_of-word_text words.Endpoint = refl
word_of-word_text words.Ref = refl
word_of-word_text words.Unique = refl
word_of-word_text words.Ptr = refl
word_of-word_text words.Const = refl
word_of-word_text words.Typedef = refl
word_of-word_text words.Void = refl
word_of-word_text words.In = refl
word_of-word_text words.Out = refl
word_of-word_text words.String = refl
word_of-word_text words.Idempotent = refl
word_of-word_text words.Maybe = refl
word_of-word_text words.ContextHandle = refl
word_of-word_text words.ContextHandleSerialize = refl
word_of-word_text words.ContextHandleNoserialize = refl
word_of-word_text words.SizeIs = refl
word_of-word_text words.MaxIs = refl
word_of-word_text words.LengthIs = refl
word_of-word_text words.SwitchIs = refl
word_of-word_text words.SwitchType = refl
word_of-word_text words.HandleT = refl
word_of-word_text words.ErrorStatusT = refl
word_of-word_text words.Boolean = refl
word_of-word_text words.Byte = refl
word_of-word_text words.Unsigned = refl
word_of-word_text words.Char = refl
word_of-word_text words.Small = refl
word_of-word_text words.Short = refl
word_of-word_text words.Long = refl
word_of-word_text words.Hyper = refl
word_of-word_text words.Int = refl
word_of-word_text words.Struct = refl
word_of-word_text words.Union = refl
word_of-word_text words.Switch = refl
word_of-word_text words.Enum = refl
word_of-word_text words.Case = refl
word_of-word_text words.Default = refl

find-none : {X : Type 0} (p : X → Bool) (xs : List X) → ((x : X) → p x ≡ false) → find p xs ≡ None
find-none p [] none = refl
find-none p (x ∷ xs) none = rw none (find-none p xs none)

differs : (text : List ℕ) (w : Word) (b : Bool) → bytes_eq (word_text w) text ≡ b → text ≢ word_text w → b ≡ false
differs text w true e apart = absurd (apart (sym ((bytes_eq-Decides (word_text w) text).0 e)))
differs text w false e apart = refl

pub word_of-none : (text : List ℕ) → ((w : Word) → text ≢ word_text w) → word_of text ≡ None
unfolding word_of
word_of-none text apart = find-none (λ w. bytes_eq (word_text w) text) all_words (λ w. differs text w _ refl (apart w))
