use Rattle.std.proofs.Common.{rules}
use Rattle.tower_codec.specs.Writing.{KeepsFront}
use Rattle.tower_codec.proofs.WritingLaws.{keeps_then}
use Rattle.tower_codec.proofs.writing.put_tower.Goals as goal

pub returns-in_err-put_syntax-2-clause-err : goal.returns-in_err-put_syntax-2-clause-err
returns-in_err-put_syntax-2-clause-err c =
    let kept : KeepsFront c.args.into.now.items c.put_syntax-2.new.into.items = keeps_then c.args.into.now.items _ c.put_u16.new.into.items c.put_syntax-2.new.into.items c.in_ok-put_u16.ensures.ok (keeps_then c.put_u16.new.into.items _ c.put_syntax.new.into.items c.put_syntax-2.new.into.items c.in_ok-put_syntax.ensures.ok (c.in_err-put_syntax-2.ensures.err)) in
    search rules

pub returns-in_err-put_number-clause-err : goal.returns-in_err-put_number-clause-err
returns-in_err-put_number-clause-err c =
    let kept : KeepsFront c.args.into.now.items c.put_number.new.into.items = keeps_then c.args.into.now.items _ c.put_u16.new.into.items c.put_number.new.into.items c.in_ok-put_u16.ensures.ok (keeps_then c.put_u16.new.into.items _ c.put_syntax.new.into.items c.put_number.new.into.items c.in_ok-put_syntax.ensures.ok (keeps_then c.put_syntax.new.into.items _ c.put_syntax-2.new.into.items c.put_number.new.into.items c.in_ok-put_syntax-2.ensures.ok (c.in_err-put_number.ensures.err))) in
    search rules

pub returns-in_err-put_number-2-clause-err : goal.returns-in_err-put_number-2-clause-err
returns-in_err-put_number-2-clause-err c =
    let kept : KeepsFront c.args.into.now.items c.put_number-2.new.into.items = keeps_then c.args.into.now.items _ c.put_u16.new.into.items c.put_number-2.new.into.items c.in_ok-put_u16.ensures.ok (keeps_then c.put_u16.new.into.items _ c.put_syntax.new.into.items c.put_number-2.new.into.items c.in_ok-put_syntax.ensures.ok (keeps_then c.put_syntax.new.into.items _ c.put_syntax-2.new.into.items c.put_number-2.new.into.items c.in_ok-put_syntax-2.ensures.ok (keeps_then c.put_syntax-2.new.into.items _ c.put_number.new.into.items c.put_number-2.new.into.items c.in_ok-put_number.ensures.ok (c.in_err-put_number-2.ensures.err)))) in
    search rules

pub returns-in_err-put_address-clause-err : goal.returns-in_err-put_address-clause-err
returns-in_err-put_address-clause-err c =
    let kept : KeepsFront c.args.into.now.items c.put_address.new.into.items = keeps_then c.args.into.now.items _ c.put_u16.new.into.items c.put_address.new.into.items c.in_ok-put_u16.ensures.ok (keeps_then c.put_u16.new.into.items _ c.put_syntax.new.into.items c.put_address.new.into.items c.in_ok-put_syntax.ensures.ok (keeps_then c.put_syntax.new.into.items _ c.put_syntax-2.new.into.items c.put_address.new.into.items c.in_ok-put_syntax-2.ensures.ok (keeps_then c.put_syntax-2.new.into.items _ c.put_number.new.into.items c.put_address.new.into.items c.in_ok-put_number.ensures.ok (keeps_then c.put_number.new.into.items _ c.put_number-2.new.into.items c.put_address.new.into.items c.in_ok-put_number-2.ensures.ok (c.in_err-put_address.ensures.err))))) in
    search rules
