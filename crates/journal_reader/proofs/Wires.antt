-- The two parts of a handle's text.
use Rattle.std.proofs.Common.{◌≡◌, ℕ, ◌-◌, ◌≤◌, List, ◌++◌, length, take, drop, ap, sym, ◌∙◌, arith, length-append, length-drop}
use Rattle.std.specs.Int.{to_be_bytes, w32}
use Rattle.std.proofs.lemmas.List.{take_at, drop_at, take_all, take-append-drop}
use Rattle.hex.specs.Hex.{lower_digits}
use Rattle.hex.proofs.HexLemmas.{length-encode_with}
use Rattle.rpc_base.specs.declared.identifiers.WireHandle.{WireHandle}
use Rattle.base_words.specs.Words.{hex_u32, hex_u128}
use Rattle.journal_text.specs.Texts.{wire_text}

length-hex_u32 : (n : ℕ) → length (hex_u32 n) ≡ 8
unfolding hex_u32
length-hex_u32 n = length-encode_with lower_digits (to_be_bytes w32 n)

pub record WireParts (w : WireHandle) (text : List ℕ) : Type 0 where
  pub long : 8 ≤ length text
  pub front : hex_u32 w.attributes ≡ take 8 text
  pub back : hex_u128 w.id ≡ drop 8 text

pub wire_parts : (w : WireHandle) (text : List ℕ) → wire_text w ≡ text → WireParts w text
wire_parts w text e =
    record {
      long = let parts = ap length (sym e) ∙ length-append (hex_u32 w.attributes) (hex_u128 w.id) in let eight = length-hex_u32 w.attributes in omega arith;
      front = sym (ap (take 8) (sym e) ∙ take_at (hex_u32 w.attributes) (hex_u128 w.id) 8 (length-hex_u32 w.attributes));
      back = sym (ap (drop 8) (sym e) ∙ drop_at (hex_u32 w.attributes) (hex_u128 w.id) 8 (length-hex_u32 w.attributes));
    }

-- the reader's way: the text from its ninth digit on
pub rest_of : (text : List ℕ) → take (length text - 8) (drop 8 text) ≡ drop 8 text
rest_of text = take_all (length text - 8) (drop 8 text) (omega (arith, length-drop 8 text))

pub wire_joined : (a i : ℕ) (text : List ℕ) → hex_u32 a ≡ take 8 text → hex_u128 i ≡ drop 8 text → hex_u32 a ++ hex_u128 i ≡ text
wire_joined a i text e f = ap (λ t. t ++ hex_u128 i) e ∙ (ap (λ t. take 8 text ++ t) f ∙ take-append-drop 8 text)
