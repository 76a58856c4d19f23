-- What `clap`'s matches hold.
use Rattle.std.proofs.Common.{◌≡◌, ◌∙◌, List, [], ◌∷◌, ap, map, Option, Some, None, option_map, string_bytes, Box, String}
use Rattle.std.specs.Box.{box_value}
use Rattle.std.specs.List.{AllByRecursion}
use Rattle.std.specs.Str.{IsUtf8}
use Rattle.std.proofs.lemmas.Str.{IsUtf8-string_bytes}
use Rattle.clap.specs.Matches.{first_value, found_of, subcommand_name_of}
use Rattle.clap.specs.Simple.{subcommand_rows, subcommand_rows_of}
use Rattle.clap.specs.Walk.{Row, Text, first_of, rows_of}
use Rattle.clap.proofs.WalkLemmas.{first_value-rows}
use Rattle.clap.specs.declared.parser.matches.ArgMatches.{ArgMatches}
use Rattle.clap.specs.declared.parser.matches.ArgMatches.TheViews.{out-ArgMatches, out-SubCommand}
use Rattle.clap.specs.declared.parser.matches.SubCommand.{SubCommand}

name_in : {Z : Type 0} (s : Option (Box SubCommand Z)) (name : Text) (rows : List Row) → subcommand_rows s ≡ Some (name, rows) → option_map (λ b. (out-SubCommand (box_value b)).name.now) s ≡ Some name
name_in None name rows e = absurd (cc)
name_in (Some b) name rows e = ap (option_map (λ p. p.0)) e

-- the name of the subcommand that was met, and its rows
pub name_met : (m : ArgMatches) (name : Text) (rows : List Row) → subcommand_rows_of m ≡ Some (name, rows) → subcommand_name_of m ≡ Some name
name_met m name rows e = name_in (out-ArgMatches m).subcommand name rows e

-- each word is a text
pub all_utf8 : {Z : Type 0} (words : List (String Z)) → AllByRecursion IsUtf8 (map string_bytes words)
all_utf8 [] = tt
all_utf8 (w ∷ ws) = (IsUtf8-string_bytes w, all_utf8 ws)

-- a value among the rows of a subcommand
pub value_met : (m : ArgMatches) (rows : List Row) (id : Text) → Some (rows_of (found_of m)) ≡ Some rows → first_value (found_of m) id ≡ first_of id rows
value_met m rows id same =
    let rows_are : rows_of (found_of m) ≡ rows = cc in
    first_value-rows (found_of m) id ∙ ap (first_of id) rows_are

pub same_text : (a b : Text) → Some a ≡ Some b → a ≡ b
same_text a b e = cc

pub none_met : (file : Text) → None ≡ Some file → ⊥
none_met file e = absurd (cc)
