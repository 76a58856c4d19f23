-- What a field's attributes say, and what holds for its declarators together.
use Rattle.std.specs.List.{list_any}
use Rattle.idl_outline.specs.declared.field.Field.{Field}
use Rattle.idl_rules.specs.Types.{has, says_in, says_out, says_string, says_most, says_handle}
use Rattle.idl_rules.specs.BadAttribute.{is_pointed, is_text, is_sizeable, is_countable, is_out_value, is_own_pointer}
use Rattle.idl_uses.specs.declared.facts.Said.{Said}
use Rattle.idl_uses.specs.declared.facts.Together.{Together}

abbrev pub said_by : Field → Said
said_by f = record { inward = has says_in f; outward = has says_out f; string = has says_string f; size = has says_most f; handle = has says_handle f }

abbrev pub holding : Field → Together
holding f = record {
  pointed = is_pointed f;
  text = is_text f;
  sizeable = is_sizeable f;
  countable = is_countable f;
  out_value = list_any is_out_value f.declared;
  own_pointer = list_any is_own_pointer f.declared;
}
