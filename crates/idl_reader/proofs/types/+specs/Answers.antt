use Rattle.std.proofs.Common.{Some, None}
use Rattle.idl_tree.proofs.Layers.{written_struct_none, written_struct_some, written_union_none, written_union_some, written_switch_type, written_member, written_switch, written_arm}
use Rattle.idl_parts.proofs.Parts.{tag_some, tag_none, tag_alone}
use Rattle.idl_reader.proofs.types.+specs.Goals as goal

pub struct_rest-returns-in_ok-members-clause-written : goal.struct_rest-returns-in_ok-members-clause-written
struct_rest-returns-in_ok-members-clause-written t c = λ before h.
    written_struct_some before c.args.tokens.now c.in_ok-name.rest.now c.in_ok-members.rest.now (Some c.in_ok-name.name) c.in_ok-members.members h (tag_some c.in_ok-name.name c.args.tokens.now c.in_ok-name.rest.now c.in_ok-name.ensures.written) c.in_ok-members.ensures.written

pub struct_rest-returns-else-is_open-clause-written : goal.struct_rest-returns-else-is_open-clause-written
struct_rest-returns-else-is_open-clause-written t c = λ before h.
    written_struct_none before c.args.tokens.now c.in_ok-name.rest.now (Some c.in_ok-name.name) h (tag_alone c.in_ok-name.name c.args.tokens.now c.in_ok-name.rest.now c.in_ok-name.ensures.written)

pub struct_rest-returns-in_ok-members-2-clause-written : goal.struct_rest-returns-in_ok-members-2-clause-written
struct_rest-returns-in_ok-members-2-clause-written t c = λ before h.
    written_struct_some before c.args.tokens.now c.args.tokens.now c.in_ok-members-2.rest.now None c.in_ok-members-2.members h (tag_none c.args.tokens.now) c.in_ok-members-2.ensures.written

pub union_rest-returns-in_ok-arms-clause-written : goal.union_rest-returns-in_ok-arms-clause-written
union_rest-returns-in_ok-arms-clause-written t c = λ before h.
    written_union_some before c.args.tokens.now c.in_ok-tag.rest.now c.in_ok-switch.rest.now c.in_ok-arms.rest.now c.in_ok-tag.tag c.in_ok-switch.switch c.in_ok-arms.arms h c.in_ok-tag.ensures.written c.in_ok-switch.ensures.written c.in_ok-arms.ensures.written

pub union_rest-returns-in_ok-arms-2-clause-written : goal.union_rest-returns-in_ok-arms-2-clause-written
union_rest-returns-in_ok-arms-2-clause-written t c = λ before h.
    written_union_none before c.args.tokens.now c.in_ok-tag.rest.now c.in_ok-arms-2.rest.now c.in_ok-tag.tag c.in_ok-arms-2.arms h c.in_ok-tag.ensures.written c.in_ok-arms-2.ensures.written

pub member-returns-clause-written : goal.member-returns-clause-written
member-returns-clause-written t c =
    written_member c.args.tokens.now c.in_ok-attrs.rest.now c.in_ok-spec.rest.now c.in_ok-dtors.rest.now c.in_ok-rest.rest.now (record { attrs = c.in_ok-attrs.attrs; spec = c.in_ok-spec.spec; dtors = c.in_ok-dtors.dtors }) c.in_ok-attrs.ensures.written c.in_ok-spec.ensures.written c.in_ok-dtors.ensures.written c.in_ok-rest.ensures.written

pub arm-returns-in_ok-member-clause-written : goal.arm-returns-in_ok-member-clause-written
arm-returns-in_ok-member-clause-written t c = written_arm c.args.tokens.now c.in_ok-labels.rest.now c.in_ok-member.rest.now (record { labels = c.in_ok-labels.labels; member = Some c.in_ok-member.member }) c.in_ok-labels.ensures.written c.in_ok-member.ensures.written

pub arm-returns-in_ok-rest-clause-written : goal.arm-returns-in_ok-rest-clause-written
arm-returns-in_ok-rest-clause-written t c = written_arm c.args.tokens.now c.in_ok-labels.rest.now c.in_ok-rest.rest.now (record { labels = c.in_ok-labels.labels; member = None }) c.in_ok-labels.ensures.written c.in_ok-rest.ensures.written

pub attr-returns-in_ok-spec-2-clause-written : goal.attr-returns-in_ok-spec-2-clause-written
attr-returns-in_ok-spec-2-clause-written t c =
    written_switch_type c.args.tokens.now c.in_ok-rest.rest.now c.in_ok-rest-2.rest.now c.in_ok-spec.rest.now c.in_ok-rest-3.rest.now c.place-at.result c.in_ok-spec-2.spec c.in_ok-spec.spec c.in_ok-spec-2.ensures.ok c.place-at.ensures c.in_ok-rest.ensures.written c.in_ok-rest-2.ensures.written c.in_ok-spec.ensures.written c.in_ok-rest-3.ensures.written

pub switch-returns-clause-written : goal.switch-returns-clause-written
switch-returns-clause-written t c =
    written_switch c.args.tokens.now c.in_ok-rest.rest.now c.in_ok-rest-2.rest.now c.in_ok-spec.rest.now c.in_ok-name.rest.now c.in_ok-rest-3.rest.now c.in_ok-body.rest.now (record { spec = c.in_ok-spec-2.spec; name = c.in_ok-name.name; body = c.in_ok-body.body }) c.in_ok-spec.spec c.in_ok-spec-2.ensures.ok c.in_ok-rest.ensures.written c.in_ok-rest-2.ensures.written c.in_ok-spec.ensures.written c.in_ok-name.ensures.written c.in_ok-rest-3.ensures.written c.in_ok-body.ensures.written
