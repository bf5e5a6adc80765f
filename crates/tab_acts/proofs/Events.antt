-- The rows of an event of a process, what the log has come to with them, and what it would have come to had nobody been asked: the coordinator has acted, which does nothing itself.
use Rattle.load_doors.proofs.Starts.{requests_start}
use Rattle.log_model.specs.Seen.{Seen}
use Rattle.log_model.specs.declared.row_kind.Actor.{Actor}
use Rattle.log_model.specs.declared.row_kind.LogRow.{LogRow}
use Rattle.log_model.specs.declared.row_kind.RowKind.{RowKind}
use Rattle.move_queue.specs.Queue.{Queue}
use Rattle.seen_facts.proofs.Coord.Unread.{next}
use Rattle.seen_laws.proofs.InEvents.{log_more, now_is, now_more, uncut_log}
use Rattle.seen_laws.specs.Blocks.{EachPass, Passes}
use Rattle.seen_laws.specs.InEvent.{InEvent, IsReadOff, log_of, now_of, row_of, start_of}
use Rattle.seen_laws.specs.Unasked.{unasked}
use Rattle.std.proofs.Common.{List, [], ap, map, subst, sym, ℕ, ◌+◌, ◌<◌, ◌∙◌, ◌∷◌, ◌≡◌}
use Rattle.tab_acts.proofs.Checks.{IsBeside, beside_stands}
use Rattle.tab_doors.proofs.Uncut.{uncut_pass}
use Rattle.tab_doors.specs.declared.tables.Tables.{Tables}
use Rattle.tab_ids.specs.declared.ReqId.{ReqId}
use Rattle.tab_ids.specs.declared.StateId.{StateId}
use Rattle.tab_stands.specs.Checked.{ChecksStand}
use Rattle.tab_stands.specs.Standing.{HasActed, HasRoomFor, InCheck, LastsInLog, StandsFor, seen_start}

-- there is as much room in the log as it would be had nobody been asked
pub seen_room : (e : InEvent) → HasRoomFor e.start → HasRoomFor (seen_start e)
seen_room e room = subst (λ (n : ℕ). n + 3 < 4294967296) (sym (requests_start e)) room

module _ (e : InEvent) (actor : Actor) (kind : RowKind) (by : e.actor ≡ actor) (own : e.own ≡ kind) where
  pub own_row : row_of e e.own ≡ record { event = e.event; actor = actor; row = kind }
  own_row =
      ap (λ (a : Actor). let r : LogRow = record { event = e.event; actor = a; row = e.own } in r) by
      ∙ ap (λ (k : RowKind). let r : LogRow = record { event = e.event; actor = actor; row = k } in r) own

  module _ (uncut : e.before ≡ []) where
    -- nothing was put out before
    pub log_is : log_of e [] ≡ next e.start e.event actor kind
    log_is = uncut_log e uncut ∙ ap (λ (r : LogRow). next e.start r.event r.actor r.row) own_row

    -- the row is read off as this one, where nobody is asked
    module _ (there : RowKind) (read : unasked e.checking (next e.start e.event actor kind) ≡ next (seen_start e) e.event actor there) where
      pub now_then : now_of e [] ≡ next (seen_start e) e.event actor there
      now_then = now_is e [] ∙ ap (λ (s : Seen). unasked e.checking s) log_is ∙ read

      -- an event of this row alone
      pub alone_acts : (t : Tables) (queue : Queue) (blame : List (StateId × ReqId)) → {check : InCheck} → StandsFor check (next (seen_start e) e.event actor there) t queue blame → LastsInLog e.checking t.asking (next e.start e.event actor kind) → IsBeside e.start (record { event = e.event; actor = actor; row = kind }) → ChecksStand e.checking e.start t.checks → Passes e.header (record { start = e.start; now = e.start; done = []; later = [] }) (record { event = e.event; actor = actor; row = kind }) → HasActed check e [] t queue blame
      alone_acts t queue blame {check} stands lasts beside asks passes =
          record {
            stands = subst (λ (s : Seen). StandsFor check s t queue blame) (sym now_then) stands;
            lasts = subst (λ (s : Seen). LastsInLog e.checking t.asking s) (sym log_is) lasts;
            asks = subst (λ (s : Seen). ChecksStand e.checking s t.checks) (sym log_is) (beside_stands e.checking e.start (record { event = e.event; actor = actor; row = kind }) t.checks beside asks);
            passes = uncut_pass e [] [] uncut (subst (λ (r : LogRow). EachPass (start_of e) (r ∷ []) []) (sym own_row) (passes, tt));
          }

      -- an event of this row and another
      module _ (second : RowKind) (read_on : IsReadOff e [] second) where
        second_row : row_of e second ≡ record { event = e.event; actor = actor; row = second }
        second_row = ap (λ (a : Actor). let r : LogRow = record { event = e.event; actor = a; row = second } in r) by

        log_then : log_of e (second ∷ []) ≡ next (next e.start e.event actor kind) e.event actor second
        log_then =
            log_more e [] second
            ∙ ap (λ (x : Seen). next x e.event e.actor second) log_is
            ∙ ap (λ (a : Actor). next (next e.start e.event actor kind) e.event a second) by

        now_on : now_of e (second ∷ []) ≡ next (next (seen_start e) e.event actor there) e.event actor second
        now_on =
            now_more e [] second read_on
            ∙ ap (λ (x : Seen). next x e.event e.actor second) now_then
            ∙ ap (λ (a : Actor). next (next (seen_start e) e.event actor there) e.event a second) by

        pub two_act : (t : Tables) (queue : Queue) (blame : List (StateId × ReqId)) → {check : InCheck} → StandsFor check (next (next (seen_start e) e.event actor there) e.event actor second) t queue blame → LastsInLog e.checking t.asking (next (next e.start e.event actor kind) e.event actor second) → IsBeside e.start (record { event = e.event; actor = actor; row = kind }) → IsBeside (next e.start e.event actor kind) (record { event = e.event; actor = actor; row = second }) → ChecksStand e.checking e.start t.checks → EachPass (start_of e) ((let r : LogRow = record { event = e.event; actor = actor; row = kind } in r) ∷ (let r : LogRow = record { event = e.event; actor = actor; row = second } in r) ∷ []) [] → HasActed check e (second ∷ []) t queue blame
        two_act t queue blame {check} stands lasts beside on_beside asks passes =
            record {
              stands = subst (λ (s : Seen). StandsFor check s t queue blame) (sym now_on) stands;
              lasts = subst (λ (s : Seen). LastsInLog e.checking t.asking s) (sym log_then) lasts;
              asks = subst (λ (s : Seen). ChecksStand e.checking s t.checks) (sym log_then) then_;
              passes =
                  uncut_pass e (second ∷ []) [] uncut
                  (subst (λ (r : LogRow). EachPass (start_of e) (r ∷ map (row_of e) (second ∷ [])) []) (sym own_row)
                  (subst (λ (r : LogRow). EachPass (start_of e) (first_row ∷ r ∷ []) []) (sym second_row) passes));
            }
          where
            first_row : LogRow
            first_row = record { event = e.event; actor = actor; row = kind }

            last_row : LogRow
            last_row = record { event = e.event; actor = actor; row = second }

            then_ : ChecksStand e.checking (next (next e.start e.event actor kind) e.event actor second) t.checks
            then_ =
                beside_stands e.checking (next e.start e.event actor kind) last_row t.checks on_beside
                (beside_stands e.checking e.start first_row t.checks beside asks)
