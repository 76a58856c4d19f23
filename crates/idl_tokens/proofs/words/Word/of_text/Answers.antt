use Rattle.std.proofs.Common.{◌≡◌, ◌≢◌, ◌∷◌, [], ℕ, List, Option, Some, None, MatchOption, All, arith}
use Rattle.idl_tokens.specs.Spellings.{word_text}
use Rattle.idl_tokens.specs.declared.words.Word.{Word}
use Rattle.idl_tokens.specs.declared.words.Word.TheVariants as words
use Rattle.idl_tokens.proofs.words.Word.of_text.Goals as goal

abbrev all_words : List Word
all_words = words.Interface ∷ words.Uuid ∷ words.Version ∷ words.PointerDefault ∷ words.Endpoint ∷ words.Ref ∷ words.Unique ∷ words.Ptr ∷ words.Const ∷ words.Typedef ∷ words.Void ∷ words.In ∷ words.Out ∷ words.String ∷ words.Idempotent ∷ words.Maybe ∷ words.ContextHandle ∷ words.ContextHandleSerialize ∷ words.ContextHandleNoserialize ∷ words.SizeIs ∷ words.MaxIs ∷ words.LengthIs ∷ words.SwitchIs ∷ words.SwitchType ∷ words.HandleT ∷ words.ErrorStatusT ∷ words.Boolean ∷ words.Byte ∷ words.Unsigned ∷ words.Char ∷ words.Small ∷ words.Short ∷ words.Long ∷ words.Hyper ∷ words.Int ∷ words.Struct ∷ words.Union ∷ words.Switch ∷ words.Enum ∷ words.Case ∷ words.Default ∷ []

-- each word stands in the list, at the place before its class
every : (text : List ℕ) → All (λ w. text ≢ word_text w) all_words → (w : Word) → text ≢ word_text w
every text h words.Interface = h 0 words.Interface (omega arith)
every text h words.Uuid = h 1 words.Uuid (omega arith)
every text h words.Version = h 2 words.Version (omega arith)
every text h words.PointerDefault = h 3 words.PointerDefault (omega arith)
every text h words.Endpoint = h 4 words.Endpoint (omega arith)
every text h words.Ref = h 5 words.Ref (omega arith)
every text h words.Unique = h 6 words.Unique (omega arith)
every text h words.Ptr = h 7 words.Ptr (omega arith)
every text h words.Const = h 8 words.Const (omega arith)
every text h words.Typedef = h 9 words.Typedef (omega arith)
every text h words.Void = h 10 words.Void (omega arith)
every text h words.In = h 11 words.In (omega arith)
every text h words.Out = h 12 words.Out (omega arith)
every text h words.String = h 13 words.String (omega arith)
every text h words.Idempotent = h 14 words.Idempotent (omega arith)
every text h words.Maybe = h 15 words.Maybe (omega arith)
every text h words.ContextHandle = h 16 words.ContextHandle (omega arith)
every text h words.ContextHandleSerialize = h 17 words.ContextHandleSerialize (omega arith)
every text h words.ContextHandleNoserialize = h 18 words.ContextHandleNoserialize (omega arith)
every text h words.SizeIs = h 19 words.SizeIs (omega arith)
every text h words.MaxIs = h 20 words.MaxIs (omega arith)
every text h words.LengthIs = h 21 words.LengthIs (omega arith)
every text h words.SwitchIs = h 22 words.SwitchIs (omega arith)
every text h words.SwitchType = h 23 words.SwitchType (omega arith)
every text h words.HandleT = h 24 words.HandleT (omega arith)
every text h words.ErrorStatusT = h 25 words.ErrorStatusT (omega arith)
every text h words.Boolean = h 26 words.Boolean (omega arith)
every text h words.Byte = h 27 words.Byte (omega arith)
every text h words.Unsigned = h 28 words.Unsigned (omega arith)
every text h words.Char = h 29 words.Char (omega arith)
every text h words.Small = h 30 words.Small (omega arith)
every text h words.Short = h 31 words.Short (omega arith)
every text h words.Long = h 32 words.Long (omega arith)
every text h words.Hyper = h 33 words.Hyper (omega arith)
every text h words.Int = h 34 words.Int (omega arith)
every text h words.Struct = h 35 words.Struct (omega arith)
every text h words.Union = h 36 words.Union (omega arith)
every text h words.Switch = h 37 words.Switch (omega arith)
every text h words.Enum = h 38 words.Enum (omega arith)
every text h words.Case = h 39 words.Case (omega arith)
every text h words.Default = h 40 words.Default (omega arith)

spelled : (text : List ℕ) (r : Option Word) → MatchOption r (All (λ w. text ≢ word_text w) all_words) (λ w. text ≡ word_text w) → MatchOption r ((w : Word) → text ≢ word_text w) (λ w. text ≡ word_text w)
spelled text None h = every text h
spelled text (Some w) h = h

pub returns : goal.returns
returns c = spelled _ _ c.among.ensures
