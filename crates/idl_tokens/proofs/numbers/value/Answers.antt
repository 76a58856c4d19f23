use Rattle.std.proofs.Common.{◌≡◌, ◌≤◌, ℕ, List, Bor, Result, Ok, Err, MatchResult, false, arith}
use Rattle.std.specs.declared.str.Utf8Error.{Utf8Error}
use Rattle.std.specs.Str.{IsUtf8, IsValidUpTo, valid_up_to}
use Rattle.std.specs.Result.{is_ok}
use Rattle.std.proofs.lemmas.Bool.{false≢true}
use Rattle.idl_tokens.specs.declared.runs.Radix.{Radix}
use Rattle.idl_tokens.specs.declared.runs.Radix.TheVariants as radices
use Rattle.idl_tokens.specs.Runs.{radix_of}
use Rattle.idl_tokens.proofs.Digits.{IsUtf8-digits}
use Rattle.idl_tokens.proofs.numbers.value.Goals as goal

small_radix : (radix : Radix) → radix_of radix ≤ 36
small_radix radices.Decimal = omega arith
small_radix radices.Hexadecimal = omega arith

-- these octets are UTF-8
never : (ds : List ℕ) (r : Result (Bor (List ℕ)) Utf8Error) → MatchResult r (λ s. (s.now ≡ ds) × IsUtf8 ds) (λ e. ¬ (IsUtf8 ds) × IsValidUpTo ds (valid_up_to e)) → IsUtf8 ds → false ≡ is_ok r → ⊥
never ds (Ok x) h u e = false≢true e
never ds (Err x) h u e = h.0 u

pub returns-in_err-text : goal.returns-in_err-text
returns-in_err-text c =
    absurd (never c.args.digits.now c.from_utf8.result c.from_utf8.ensures.cases (IsUtf8-digits (radix_of c.args.radix) c.args.digits.now (small_radix c.args.radix) c.requires.each) c.in_err-text.ensures.variant)
