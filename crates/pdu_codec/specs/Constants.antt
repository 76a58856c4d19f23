-- The numbers of the protocol (C706, "Connection-oriented RPC PDUs").
use Rattle.std.specs.Prelude.{ℕ, ◌+◌}

-- ---- PTYPEs

abbrev pub request_type : ℕ
request_type = 0

abbrev pub response_type : ℕ
response_type = 2

abbrev pub fault_type : ℕ
fault_type = 3

abbrev pub bind_type : ℕ
bind_type = 11

abbrev pub bind_ack_type : ℕ
bind_ack_type = 12

abbrev pub bind_nak_type : ℕ
bind_nak_type = 13

abbrev pub alter_context_type : ℕ
alter_context_type = 14

abbrev pub alter_context_resp_type : ℕ
alter_context_resp_type = 15

abbrev pub shutdown_type : ℕ
shutdown_type = 17

abbrev pub co_cancel_type : ℕ
co_cancel_type = 18

abbrev pub orphaned_type : ℕ
orphaned_type = 19

-- ---- flags

abbrev pub first_frag : ℕ
first_frag = 0x01

abbrev pub last_frag : ℕ
last_frag = 0x02

-- the only fragment of a message
abbrev pub only_frag : ℕ
only_frag = first_frag + last_frag

abbrev pub pending_cancel : ℕ
pending_cancel = 0x04

abbrev pub conc_mpx : ℕ
conc_mpx = 0x10

abbrev pub did_not_execute : ℕ
did_not_execute = 0x20

abbrev pub maybe_flag : ℕ
maybe_flag = 0x40

abbrev pub object_uuid_flag : ℕ
object_uuid_flag = 0x80

-- ---- versions

abbrev pub major_version : ℕ
major_version = 5

-- the greatest minor version that is known
abbrev pub most_minor : ℕ
most_minor = 1

-- ---- sizes in octets

-- the common header
abbrev pub header_size : ℕ
header_size = 16

-- what stands in front of a response's stub, or of that of a request without an object
abbrev pub stub_offset : ℕ
stub_offset = 24

-- the fragment that each side takes at least
abbrev pub least_fragment : ℕ
least_fragment = 1432

-- the fragment that this runtime sends and takes at most
abbrev pub most_fragment : ℕ
most_fragment = 4280
