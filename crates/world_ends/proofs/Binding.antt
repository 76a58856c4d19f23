-- Binds, and what the server's words are to the group.
use Rattle.std.proofs.Common.{◌≡◌, ◌≢◌, ℕ, ◌+◌, ◌==◌, Bool, true, false, Option, Some, None, Ok, Err, List, [], ◌∷◌, refl, sym, ap, subst, ◌∙◌}
use Rattle.std.specs.Prelude.{if◌then◌else◌, Result, OnOk}
use Rattle.rpc_base.specs.declared.fault.NoMemory.{NoMemory}
use Rattle.handle_model.specs.declared.entry.Entry.{Entry}
use Rattle.handle_model.specs.declared.entry.Entry.TheVariants.{Join}
use Rattle.handle_model.specs.declared.limits.JoinLimit.{JoinLimit}
use Rattle.handle_model.specs.declared.reply.Reply.{Reply}
use Rattle.handle_model.specs.declared.reply.Reply.TheVariants.{Never}
use Rattle.handle_model.specs.Limits.{join_limit}
use Rattle.handle_model.specs.Replies.{replies}
use Rattle.rpc_base.specs.declared.identifiers.Status.{Status}
use Rattle.ndr_table.specs.Tables.{TableForm}
use Rattle.conn_histories.specs.Histories.{Decision}
use Rattle.conn_histories.specs.Histories.Decision.{ToGroup, RefuseGroup, Reply as Answer}
use Rattle.conn_histories.specs.Events.{word_of, has_run}
use Rattle.world_laws.specs.Ends.{Waiting, ServerEnd}
use Rattle.world_laws.specs.Ends.Waiting.{Nothing, Bind, Refused, Call}
use Rattle.world_laws.specs.Journals.{journal, is_there, by_limit, at_limit, no_group, bind_refusal, next_conn, joined}
use Rattle.world_laws.specs.Serving.{Decides, awaiting, is_word_due}
use Rattle.world_server.specs.Servers.{ServerView, Goes, whole}
use Rattle.world_server.specs.Servers as servers
use Rattle.world_ends.specs.declared.serving.Serving.{Serving}
use Rattle.world_ends.specs.Servings.{HasPlace, Joins, Puts, Leads, waiting_of}
use Rattle.world_ends.proofs.Steps.{says}

-- ---- a bind

abbrev refused_if : List Entry → Bool → Option ℕ
refused_if past b = if b then by_limit (join_limit (journal past)) else Some no_group

known_is : (past : List Entry) (asked : ℕ) → (asked == 0) ≡ false → bind_refusal past asked ≡ refused_if past (is_there past)
known_is past asked e = ap (λ (b : Bool). if b then None else refused_if past (is_there past)) e

limit_some : (o : Option JoinLimit) → o ≢ None → by_limit o ≡ Some at_limit
limit_some None other = absurd (other refl)
limit_some (Some l) other = refl

module _ (s t : ServerView) (asked : ℕ) where
  pub joins_new : (c : ℕ) → asked ≡ 0 → Goes s (servers.Joins (Some c)) t → Goes s (Joins asked (Ok c)) t
  joins_new c none g = record {
    tables = g.tables;
    is_whole = g.is_whole;
    says = (ap (bind_refusal s.past) none, g.says.1, g.says.2 ∙ ap (λ (n : ℕ). Join n ∷ s.past) g.says.1);
  }

  pub joins_known : (c : ℕ) → (asked == 0) ≡ false → is_there s.past ≡ true → Goes s (servers.Joins (Some c)) t → Goes s (Joins asked (Ok c)) t
  joins_known c known there g = record {
    tables = g.tables;
    is_whole = g.is_whole;
    says = (known_is s.past asked known ∙ ap (refused_if s.past) there ∙ ap by_limit g.says.0, g.says.1, g.says.2 ∙ ap (λ (n : ℕ). Join n ∷ s.past) g.says.1);
  }

  pub joins_full : (asked == 0) ≡ false → is_there s.past ≡ true → Goes s (servers.Joins None) t → Goes s (Joins asked (Err at_limit)) t
  joins_full known there g = record {
    tables = g.tables;
    is_whole = g.is_whole;
    says = (known_is s.past asked known ∙ ap (refused_if s.past) there ∙ limit_some (join_limit (whole s.past)) g.says.0, g.says.1);
  }

pub joins_none : (s : ServerView) (asked : ℕ) → servers.IsWhole s → (asked == 0) ≡ false → is_there s.past ≡ false → Goes s (Joins asked (Err no_group)) s
joins_none s asked w known none = record { tables = refl; is_whole = w; says = (known_is s.past asked known ∙ ap (refused_if s.past) none, refl) }

-- ---- words

-- the connection's number stays
stays : (s : Serving) (e : ServerEnd) → HasPlace s e → record e { waiting = Nothing; member = s.member } ≡ awaiting e Nothing
stays s e p = ap (λ (o : Option ℕ). record e { waiting = Nothing; member = o }) p.member_is

waits_for : (s : Serving) (e : ServerEnd) (what : Waiting) → HasPlace s e → waiting_of s.waiting ≡ what → what ≡ e.waiting
waits_for s e what p is = sym is ∙ p.waiting_is

module _ (tables : List TableForm) (past new : List Entry) (s : Serving) (e : ServerEnd) (p : HasPlace s e) where
  pub bound : (asked c : ℕ) → waiting_of s.waiting ≡ Bind asked → Joins asked (Ok c) past new → Decides tables past e e.waiting (ToGroup 1) (record e { waiting = Nothing; member = Some c }) new
  bound asked c is j =
      subst (λ (x : Waiting). Decides tables past e x (ToGroup 1) (record e { waiting = Nothing; member = Some c }) new) (waits_for s e (Bind asked) p is)
      (j.0, refl, ap (λ (n : ℕ). record e { waiting = Nothing; member = Some n }) j.1, j.2)

  pub refused : (asked reason : ℕ) → waiting_of s.waiting ≡ Bind asked → Joins asked (Err reason) past new → Decides tables past e e.waiting (RefuseGroup reason) (record e { waiting = Nothing; member = s.member }) new
  refused asked reason is j =
      subst (λ (x : Waiting). Decides tables past e x (RefuseGroup reason) (record e { waiting = Nothing; member = s.member }) new) (waits_for s e (Bind asked) p is)
      (j.0, stays s e p, j.1)

  pub says_never : (status : Status) → waiting_of s.waiting ≡ Refused status → new ≡ past → Decides tables past e e.waiting (Answer (word_of (Never status)) (has_run (Never status))) (record e { waiting = Nothing; member = s.member }) new
  says_never status is same =
      subst (λ (x : Waiting). Decides tables past e x (Answer (word_of (Never status)) (has_run (Never status))) (record e { waiting = Nothing; member = s.member }) new) (waits_for s e (Refused status) p is)
      ((stays s e p, refl), same)

  pub says_reply : (k : ℕ) (reply : Reply) → waiting_of s.waiting ≡ Call k → reply ≡ replies (whole past) k → new ≡ past
      → Decides tables past e e.waiting (Answer (word_of reply) (has_run reply)) (record e { waiting = Nothing; member = s.member }) new
  says_reply k reply is r same =
      subst (λ (x : Waiting). Decides tables past e x (Answer (word_of reply) (has_run reply)) (record e { waiting = Nothing; member = s.member }) new) (waits_for s e (Call k) p is)
      ((stays s e p, ap (λ (z : Reply). Answer (word_of z) (has_run z)) r), same)

-- ---- once they are put

module _ (x y : ServerView) (s t : Serving) where
  pub bound_leads : (asked c : ℕ) (answer : Result Unit NoMemory) → waiting_of s.waiting ≡ Bind asked → Goes x (Joins asked (Ok c)) y → OnOk answer (Puts (ToGroup 1) (Some c) s t) → OnOk answer (Leads x s y t)
  bound_leads asked c (Ok u) is g puts =
      says x y s t (ToGroup 1) (Some c) g.is_whole g.tables (ap (is_word_due x.past) is) puts (λ e p. bound x.tables x.past y.past s e p asked c is g.says)
  bound_leads asked c (Err u) is g puts = tt

  pub refused_leads : (asked reason : ℕ) (answer : Result Unit NoMemory) → waiting_of s.waiting ≡ Bind asked → Goes x (Joins asked (Err reason)) y → OnOk answer (Puts (RefuseGroup reason) s.member s t) → OnOk answer (Leads x s y t)
  refused_leads asked reason (Ok u) is g puts =
      says x y s t (RefuseGroup reason) s.member g.is_whole g.tables (ap (is_word_due x.past) is) puts (λ e p. refused x.tables x.past y.past s e p asked reason is g.says)
  refused_leads asked reason (Err u) is g puts = tt

pub never_leads : (x : ServerView) (s t : Serving) (status : Status) (answer : Result Unit NoMemory) → servers.IsWhole x → waiting_of s.waiting ≡ Refused status
    → OnOk answer (Puts (Answer (word_of (Never status)) (has_run (Never status))) s.member s t) → OnOk answer (Leads x s x t)
never_leads x s t status (Ok u) w is puts =
    says x x s t (Answer (word_of (Never status)) (has_run (Never status))) s.member w refl (ap (is_word_due x.past) is) puts (λ e p. says_never x.tables x.past x.past s e p status is refl)
never_leads x s t status (Err u) w is puts = tt

pub reply_leads : (x : ServerView) (s t : Serving) (k : ℕ) (reply : Reply) (answer : Result Unit NoMemory) → servers.IsWhole x → is_word_due x.past (waiting_of s.waiting) ≡ true → waiting_of s.waiting ≡ Call k → reply ≡ replies (whole x.past) k
    → OnOk answer (Puts (Answer (word_of reply) (has_run reply)) s.member s t) → OnOk answer (Leads x s x t)
reply_leads x s t k reply (Ok u) w due is r puts =
    says x x s t (Answer (word_of reply) (has_run reply)) s.member w refl due puts (λ e p. says_reply x.tables x.past x.past s e p k reply is r refl)
reply_leads x s t k reply (Err u) w due is r puts = tt
