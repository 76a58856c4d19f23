use Rattle.std.proofs.Common.{ℕ, List, ◌++◌, map, Option, sym, ap, ◌∙◌}
use Rattle.ndr_table.specs.Shown.{shown}
use Rattle.ndr_value.specs.Values.{msg}
use Rattle.server_calls.specs.Suited.{suit_cookies}
use Rattle.world_server.specs.Servers.{seen}
use Rattle.world_server.specs.Finishes.{cookie_for}
use Rattle.world_server.proofs.Ending.{only, not_suited, suited, ends, too_long}
use Rattle.world_server.proofs.server.Server.ended.Goals as goal

pub returns-then-not-branch : goal.returns-then-not-branch
returns-then-not-branch c =
    let tables = (seen c.args.self.now).tables in
    let a = c.args.asked.now in
    let t = shown c.in-Some.table.now in
    only tables c.args.kepts (msg c.args.out) a (msg c.args.message.now) t c.in-Some.ensures c.requires.asked c.is_whole.ensures c.is_shallow.ensures c.one_message.ensures
    (not_suited tables c.args.kepts (msg c.args.out) a (msg c.args.message.now) t c.in-Some.ensures c.requires.asked c.in_ok-suits.field-0 c.in_ok-suits.ensures c.if-not-branch.true)

pub end_of-ended-requires-clause-cookies : goal.end_of-ended-requires-clause-cookies
end_of-ended-requires-clause-cookies c =
    let ss = c.args.asked.now.slots in
    ap (suit_cookies ss)
    (c.deref.ensures.value ∙ c.in_ok-add_cookies.ensures ∙ ap (λ (xs : List (Option ℕ)). xs ++ map cookie_for c.as_slice.result.now) c.new-cookies.ensures.items ∙ ap (map cookie_for) c.as_slice.ensures)
    ∙ suited ss

pub returns-then-is_out : goal.returns-then-is_out
returns-then-is_out c =
    let tables = (seen c.args.self.now).tables in
    let t = shown c.in-Some.table.now in
    ends tables c.args.kepts (msg c.args.out) c.args.asked.now (msg c.args.message.now) t c.in-Some.ensures c.requires.asked c.end_of-ended.result (c.in_ok-suits.ensures.0 c.if-not-branch.false) c.end_of-ended.ensures.results
    c.end_of-ended.ensures.suit c.end_of-ended.ensures.says (sym c.is_out.ensures ∙ c.if-is_out.true)

pub returns : goal.returns
returns c =
    let tables = (seen c.args.self.now).tables in
    let a = c.args.asked.now in
    let t = shown c.in-Some.table.now in
    only tables c.args.kepts (msg c.args.out) a (msg c.args.message.now) t c.in-Some.ensures c.requires.asked c.is_whole.ensures c.is_shallow.ensures c.one_message.ensures
    (too_long tables c.args.kepts (msg c.args.out) a (msg c.args.message.now) t c.in-Some.ensures c.requires.asked c.end_of-ended.result c.end_of-ended.ensures.results c.end_of-ended.ensures.says
    (sym c.is_out.ensures ∙ c.if-is_out.false) (λ z. (let f = sym (c.wants_memory.ensures.1 z) ∙ c.if-wants_memory.false in absurd cc)))
