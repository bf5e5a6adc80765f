-- An event in which a row of a question comes, or the user's answer: what it leaves of the log without questions, so that the coordinator stands for it.
use Rattle.log_model.specs.After.{after, has_stood_now}
use Rattle.log_model.specs.Seen.{Seen}
use Rattle.log_model.specs.declared.row_kind.Actor.{Actor}
use Rattle.log_model.specs.declared.row_kind.LogRow.{LogRow}
use Rattle.log_model.specs.declared.row_kind.RowKind.{RowKind}
use Rattle.move_queue.specs.Queue.{Queue}
use Rattle.seen_laws.proofs.InEvents.{now_is}
use Rattle.seen_laws.specs.Blocks.{EachPass}
use Rattle.seen_laws.specs.InEvent.{InEvent, rows_of, start_of}
use Rattle.seen_laws.specs.Unasked.{unasked}
use Rattle.std.proofs.Common.{Bool, List, [], ap, subst, sym, ◌∙◌, ◌≡◌}
use Rattle.tab_answers.proofs.Quiet.{quiet_stands}
use Rattle.tab_answers.proofs.Stood.{quieted}
use Rattle.tab_answers.proofs.Told.{checks_stands}
use Rattle.tab_doors.specs.declared.tables.Tables.{Tables}
use Rattle.tab_ids.specs.declared.ReqId.{ReqId}
use Rattle.tab_ids.specs.declared.StateId.{StateId}
use Rattle.tab_stands.specs.Checked.{ChecksStand}
use Rattle.tab_stands.specs.Standing.{HasActed, InCheck, LastsInLog, StandsFor, seen_start}
use Rattle.unload_check.specs.Checks.{OpenCheck}

-- the event with this actor and this own row, in which nothing was put out before a cut
abbrev pub plain : InEvent → Actor → RowKind → InEvent
plain e actor kind = record e { actor = actor; own = kind; before = [] }

-- it is the event, where these are its own
pub plain_is : (e : InEvent) (actor : Actor) (kind : RowKind) → e.actor ≡ actor → e.own ≡ kind → e.before ≡ [] → plain e actor kind ≡ e
plain_is e actor kind by own uncut =
    λ i. record e { actor = sym by i; own = sym own i; before = sym uncut i }

module _ (e : InEvent) (t : Tables) (queue : Queue) (blame : List (StateId × ReqId)) {check : InCheck} (stands : StandsFor check (seen_start e) t queue blame) where
  -- the log without questions as the event began, and once a row of a question has come
  abbrev s : Seen
  s = seen_start e

  abbrev pub quiet : Seen
  quiet = quieted s e.event (has_stood_now s.has_stood s)

  pub stands_quiet : StandsFor check quiet t queue blame
  stands_quiet =
      quiet_stands s e.event (has_stood_now s.has_stood s) t queue blame stands (λ off away. ap (λ (b : Bool). has_stood_now b s) off ∙ away)

  -- an event of such a row alone, of which the table of checks may be told
  module _ (actor : Actor) (kind : RowKind) (by : e.actor ≡ actor) (own : e.own ≡ kind) (uncut : e.before ≡ []) where
    abbrev row : LogRow
    row = record { event = e.event; actor = actor; row = kind }

    pub alone_acts : (checks : List (ReqId × OpenCheck)) → unasked e.checking (after e.start row) ≡ quiet → LastsInLog e.checking t.asking (after e.start row) → ChecksStand e.checking (after e.start row) checks → EachPass (start_of (plain e actor kind)) (rows_of (plain e actor kind) []) [] → HasActed check e [] (record t { checks = checks }) queue blame
    alone_acts checks seen lasts asks passes =
        subst (λ (x : InEvent). HasActed check x [] (record t { checks = checks }) queue blame) (plain_is e actor kind by own uncut) (record {
          stands = subst (λ (x : Seen). StandsFor check x (record t { checks = checks }) queue blame) (sym (now_is (plain e actor kind) [] ∙ seen)) (checks_stands quiet t checks t.asking queue blame stands_quiet);
          lasts = lasts;
          asks = asks;
          passes = passes;
        })
