-- What a journal says: the definitions of its parts under one name.
pub use Rattle.handle_model.specs.Since.{any_since, count_since}
pub use Rattle.handle_model.specs.Entries.{joins, leaves, takes, denies, cancels, orphans, ends, decides, is_shut, is_join, is_accept, joined_in, accepted_in, taken_in, opens_in, issues, issues_in, is_item_of, runs_down}
pub use Rattle.handle_model.specs.Calls.{join_count, joined, has_joined, is_open, conns, accept_count, accepted, taken, asked_since, asked, slots_in, slots, has_left, is_decided, is_taken, is_cancelled, is_orphaned, waits, runs, waiting, running, lesser, least, any_clash, conflict, running_blocker, waiting_blocker, blocker}
pub use Rattle.handle_model.specs.Handles.{closes, gives, any_closes, first_given, issuer_kind, closes_in, kind_in, cookie_in, is_issued, is_closed_since, is_closed, is_live, kind_since, kind, cookie_since, cookie, opened_since, opened, numbers, live, due_item, due_items, named_by, first_named, serial_in, serial_named_since, serial_named, cookie_of, cookie_for, cookies_for, is_kind, is_usable_as, is_usable, repeats, is_at_fault_by, fault_by, is_at_fault, fault_from, fault_in, fault}
pub use Rattle.handle_model.specs.Rules.{follow, next_serial, filled, suits, suit, is_empty, due, Fits, Allowed, LegalSince, Legal}
