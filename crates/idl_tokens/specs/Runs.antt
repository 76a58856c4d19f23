-- The octets that a run goes over.
use Rattle.std.specs.Prelude.{ℕ, Bool}
use Rattle.std.specs.Char.{is_digit}
use Rattle.idl_tokens.specs.declared.runs.Radix.{Radix}
use Rattle.idl_tokens.specs.declared.runs.Radix.TheVariants as radices
use Rattle.idl_tokens.specs.declared.runs.Run.{Run}
use Rattle.idl_tokens.specs.declared.runs.Run.TheVariants as runs
use Rattle.idl_tokens.specs.Tokens.{is_name_octet, is_string_octet, is_in_line}

abbrev pub radix_of : Radix → ℕ
radix_of radices.Decimal = 10
radix_of radices.Hexadecimal = 16

abbrev pub passes : Run → ℕ → Bool
passes runs.Name = is_name_octet
passes (runs.Digits radix) = λ c. is_digit c (radix_of radix)
passes runs.String = is_string_octet
passes runs.Line = is_in_line
