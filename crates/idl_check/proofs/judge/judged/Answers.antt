use Rattle.idl_check.proofs.judge.judged.Goals as goal

pub returns : goal.returns
returns c =
    let past = c.args.past.now in
    λ j. record {
      unknown = c.unknown.ensures j;
      duplicate = c.in_ok-again.ensures j;
      bad_attribute = c.in_ok-attributes.ensures past j;
      size_name = c.in_ok-size.ensures past j;
      handle_use = c.handle_use.ensures past j;
      too_many_handles = c.too_many_handles.ensures past j;
      recursion = c.recursion.ensures past j;
      union_tag = c.in_ok-tag.ensures past j;
      outside_profile = c.outside_profile.ensures j;
    }
