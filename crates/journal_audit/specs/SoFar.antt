-- From which base a journal may go on, as far as its lines have come.
use Rattle.std.specs.Prelude.{◌≡◌, ◌<◌, ◌^◌, ◌↔◌, true, not, [], ◌∷◌, ◌++◌, nat_lt}
use Rattle.std.specs.List.{list_all}
use Rattle.handle_model.specs.declared.entry.Home.{Home}
use Rattle.handle_model.specs.declared.base.BaseCall.{BaseCall}
use Rattle.handle_model.specs.declared.base.Base.{Base}
use Rattle.handle_model.specs.Bases.{has_item, taken_calls, numbers_of, serials_of}
use Rattle.handle_model.specs.Sound.{rise_above, rise, at_most, differ, is_fresh, is_within, are_apart, names_apart, is_known, opening, is_held, IsSoundBase}

-- with one call more
abbrev pub with_call : Base → BaseCall → Base
with_call b c =
    record {
      count = b.count;
      joins = b.joins;
      accepts = b.accepts;
      opens = b.opens;
      conns = b.conns;
      calls = b.calls ++ c ∷ [];
      handles = b.handles;
    }

-- all that is asked of a sound base, but that something is open
pub record IsSoundSoFar (home : Home) (base : Base) : Type 0 where
  pub joins_small : base.joins < 2 ^ 32
  pub accepts_small : base.accepts < 2 ^ 32
  pub opens_small : base.opens < 2 ^ 32
  pub conns_rise : rise base.conns ≡ true
  pub conns_within : at_most base.joins base.conns ≡ true
  pub calls_rise : rise (numbers_of base.calls) ≡ true
  pub calls_within : at_most base.accepts (numbers_of base.calls) ≡ true
  pub fresh : list_all (is_fresh base) base.calls ≡ true
  pub within : list_all (is_within base) base.calls ≡ true
  pub apart : are_apart (taken_calls base) ≡ true
  pub names_once : list_all (λ (c : BaseCall). names_apart c.asked.slots) (taken_calls base) ≡ true
  pub known : list_all (λ (c : BaseCall). list_all (is_known home base) c.asked.slots) (taken_calls base) ≡ true
  pub serials_rise : rise_above 0 (serials_of base.handles) ≡ true
  pub serials_within : at_most base.opens (serials_of base.handles) ≡ true
  pub openings_differ : differ (opening base.calls) ≡ true
  pub openings_counted : list_all (nat_lt 0) (opening base.calls) ≡ true
  pub openings_within : at_most base.opens (opening base.calls) ≡ true
  pub openings_free : list_all (λ n. not (has_item base n)) (opening base.calls) ≡ true

-- a base whose lines say something is sound where it is so as far as all its lines, and something is open
abbrev pub SoundByLines : Type 0
SoundByLines =
    (home : Home) (base : Base) → 0 < base.count → (IsSoundSoFar home base × (is_held base ≡ true)) ↔ IsSoundBase home base
