-- The process acts, takes up an order, or finishes one.
use Rattle.std.proofs.Common.{◌≡◌, ℕ, ◌+◌, ◌<◌, ◌≤◌, Bool, true, false, ◌==◌, List, [], ◌∷◌, ◌++◌, length, drop, Option, Some, None, refl, sym, ap, ◌∙◌, subst, arith}
use Rattle.std.specs.Prelude.{option_and_then, option_map, slice_get, IfSome}
use Rattle.std.proofs.lemmas.Bool.Decides.{nat_tests}
use Rattle.std.proofs.lemmas.List.{map-id}
use Rattle.tab_ids.specs.declared.DocId.{DocId}
use Rattle.tab_ids.specs.declared.ProcId.{ProcId}
use Rattle.log_model.specs.declared.header.Header.{Header}
use Rattle.log_model.specs.declared.change.Change.TheVariants as changes
use Rattle.log_model.specs.declared.job.Job.{Job}
use Rattle.log_model.specs.declared.made.Made.{Made}
use Rattle.log_model.specs.declared.made.Report.{Report}
use Rattle.log_model.specs.declared.made.Report.TheVariants as told
use Rattle.log_model.specs.declared.made.What.{What}
use Rattle.log_model.specs.declared.made.What.TheVariants as whats
use Rattle.log_model.specs.declared.outcome.Denial.{Denial}
use Rattle.log_model.specs.declared.outcome.Denial.TheVariants as denials
use Rattle.log_model.specs.declared.outcome.Ending.{Ending}
use Rattle.log_model.specs.declared.outcome.Ending.TheVariants as ends
use Rattle.log_model.specs.declared.request.Poke.{Poke}
use Rattle.log_model.specs.declared.row_kind.Actor.{Actor}
use Rattle.log_model.specs.declared.row_kind.Actor.TheVariants as actors
use Rattle.log_model.specs.declared.row_kind.LogRow.{LogRow}
use Rattle.log_model.specs.declared.row_kind.RowKind.{RowKind}
use Rattle.log_model.specs.declared.row_kind.RowKind.TheVariants as rows
use Rattle.log_model.specs.After.{after, follows_finished, desk_made, desk_taken, desks_made, reports_made}
use Rattle.log_model.specs.AfterRequests.{is_running}
use Rattle.log_model.specs.Equal.{holds}
use Rattle.log_model.specs.Logs.{seen_of}
use Rattle.log_model.specs.Seen.{Seen, Document, Desk, desk_of, document_of}
use Rattle.log_model.specs.Views.{View, made_by, made_for, after_made}
use Rattle.history_log.proofs.DeskLaws.{desk_of-after}
use Rattle.seen_laws.specs.Acting.{IsNoEdit}
use Rattle.seen_laws.specs.InEvent.{InEvent}
use Rattle.seen_facts.proofs.Rest.Again.{its_number}
use Rattle.tab_facts.specs.FrameTab.Desks.{IsMadeNew}
use Rattle.tab_facts.proofs.FrameEvents.Processes.{made_of_action, no_editing}
use Rattle.coord.specs.Standing.{HasActed, StandsFor}
use Rattle.coord.specs.declared.coordinator.Coordinator.{Coordinator}
use Rattle.coord.proofs.Acts.{edit_acts, made_acts, no_address_acts, no_document_acts}
use Rattle.coord.proofs.Orders.{taken_acts}
use Rattle.running_table.specs.Runners.{RunnersState}
use Rattle.running_table.specs.Making.{IsTold}
use Rattle.world.specs.declared.event.Event.{Event}
use Rattle.world.specs.declared.event.Event.TheVariants as events
use Rattle.world.specs.declared.event.Reply.{Reply}
use Rattle.world.specs.declared.event.Reply.TheVariants as replies
use Rattle.world.specs.declared.state.State.{State}
use Rattle.world.specs.Asking.{event_of}
use Rattle.world.specs.Notes.{ended_in, row_with}
use Rattle.proc_tables.specs.declared.item.Item.TheVariants as items
use Rattle.proc_tables.specs.Desks.{Changes, desk_at, desk_with, on_proc, without_job, without_poke}
use Rattle.proc_tables.specs.Views.{Acts, Stays, view_at}
use Rattle.world.specs.Open.{IsOpen, IsSmall, row_limit}
use Rattle.world.specs.Shows.{Shows}
use Rattle.world.specs.Sited.{AreSited}
use Rattle.world.specs.Steps.{Begins, act_row, acted_row, actor_of, behind, is_edit, order_for}
use Rattle.world.specs.Turns.{HasGone}
use Rattle.world.proofs.EndingLaws.{left_on, ended_on, work_endings}
use Rattle.world.proofs.EventLaws.{alone_on, shows_small, stays_small, two_on}
use Rattle.world.proofs.FaceLaws.{document_in, view_found}
use Rattle.world.proofs.Facts.{HasView, holds_then, viewed, open_to, tab}
use Rattle.world.proofs.NoteLaws.{Keeping}
use Rattle.world.proofs.TableLaws.{desks_go, views_on}
use Rattle.world.proofs.SitedLaws.{made_sited}
use Rattle.running_table.proofs.ForCallers.{quiet_told}

-- the row of one number, at the log's own
row_same : (log : List LogRow) (n m : ℕ) (actor : Actor) (own : RowKind) → n ≡ m → log ++ row_with n actor own ∷ [] ≡ log ++ row_with m actor own ∷ []
row_same log n m actor own same = ap (λ (k : ℕ). log ++ row_with k actor own ∷ []) same

-- ---- what a document made

-- it is reported, and numbers one entry at most
record IsMaking (view : View) (made : Made) (what : What) : Type 0 where
  pub reported : (waiting : List Report) → reports_made waiting made what ≡ waiting ++ told.Made made ∷ []
  pub index : (after_made view what).index ≤ view.index + 1
  pub numbered : (after_made view what).numbered ≤ view.numbered + 1

making : (view : View) (made : Made) (what : What) → IsMadeNew view what → IsMaking view made what
making view made (whats.Push entry memo address) is =
    record { reported = λ waiting. refl; index = omega arith; numbered = omega arith }
making view made (whats.Replace over_ entry memo address) is =
    record { reported = λ waiting. refl; index = omega arith; numbered = omega arith }
making view made (whats.AddFrame nav) is =
    record { reported = λ waiting. refl; index = omega arith; numbered = omega arith }
making view made (whats.RemoveFrame nav) is =
    record { reported = λ waiting. refl; index = omega arith; numbered = omega arith }
making view made (whats.Go delta) is =
    record { reported = λ waiting. refl; index = omega arith; numbered = omega arith }
making view made whats.Edit never = absurd never

-- what is tested for an edit is one, or none
it_is_edit : (what : What) → is_edit what ≡ true → what ≡ whats.Edit
it_is_edit whats.Edit is = refl
it_is_edit (whats.Push entry memo address) never = absurd cc
it_is_edit (whats.Replace over_ entry memo address) never = absurd cc
it_is_edit (whats.AddFrame nav) never = absurd cc
it_is_edit (whats.RemoveFrame nav) never = absurd cc
it_is_edit (whats.Go delta) never = absurd cc

is_no_edit : (what : What) → is_edit what ≡ false → IsNoEdit what
is_no_edit whats.Edit never = absurd cc
is_no_edit (whats.Push entry memo address) is = tt
is_no_edit (whats.Replace over_ entry memo address) is = tt
is_no_edit (whats.AddFrame nav) is = tt
is_no_edit (whats.RemoveFrame nav) is = tt
is_no_edit (whats.Go delta) is = tt

-- a document that doesn't run refuses its poke
stopped_row : (proc : ProcId) (poke : Poke) (o : Option View) → holds (λ (v : View). v.running) o ≡ false → acted_row proc poke o ≡ rows.Refused poke.req denials.NoDocument
stopped_row proc poke None stopped = refl
stopped_row proc poke (Some view) stopped = rw stopped refl

module _ (header : Header) (log : List LogRow) (t : State) (is : IsOpen header log t) (short : length log < row_limit) (proc : ProcId) where
  abbrev s : Seen
  s = seen_of log

  abbrev by : Actor
  by = actors.Proc proc

  abbrev c : Coordinator
  c = t.coordinator

  abbrev desk : Desk
  desk = desk_at t.desks proc

  abbrev stands : StandsFor (seen_of log) t.coordinator
  stands = is.keeps.stands

  -- an event of its own row alone, which leaves the coordinator
  pub gone_alone : (event : Event) (reply : Reply) (own : RowKind) (new : State) (longer : List LogRow) → Begins s event reply own [] → actor_of event ≡ by → HasActed (event_of header log by own) [] t.coordinator → Keeping header (after s (row_with s.events by own)) s.events (desk_at new.desks) (view_at new.views) new.runners new.endings.items → new.coordinator ≡ t.coordinator → new.events ≡ t.events + 1 → ((doc : DocId) → IfSome (view_at new.views doc) (IsSmall new.events)) → longer ≡ log ++ row_with t.events by own ∷ [] → HasGone header event reply log longer new
  gone_alone event reply own new longer begins by_is acted kept coordinator events_ small more =
      let whole : longer ≡ log ++ row_with s.events by own ∷ [] = more ∙ row_same log t.events s.events by own (sym is.holds.events) in
      record {
        happened = record {
          own = own;
          out = [];
          begins = begins;
          log = whole ∙ ap (λ (a : Actor). log ++ row_with s.events a own ∷ []) (sym by_is);
        };
        stands = subst (λ (l : List LogRow). IsOpen header l new) (sym whole) (alone_on header log t is short by own new (subst (λ (x : Coordinator). HasActed (event_of header log by own) [] x) (sym coordinator) acted) kept events_ small);
      }

  -- ---- an order is taken up

  module _ (job : Job) (first : slice_get desk.mail 0 ≡ Some job) (free : desk.in_hand ≡ None) where
    pub begin_gone : (dirty : Bool) (new : State) (longer : List LogRow) → dirty ≡ holds (λ (v : View). v.dirty) (view_at t.views job.doc) → new.coordinator ≡ t.coordinator → new.events ≡ t.events + 1 → new.views ≡ t.views → new.runners ≡ t.runners → Changes proc (λ (x : Desk). desk_with (items.Order (record { job = job; dirty = dirty })) (without_job x)) t.desks new.desks → new.endings.items ≡ t.endings.items → longer ≡ log ++ row_with t.events by (rows.Taken proc job.nr true dirty) ∷ [] → HasGone header (events.Begin proc) (replies.Took (record { job = job; dirty = dirty })) log longer new
    begin_gone dirty new longer dirt coordinator events_ views run desks ends_ more =
        gone_alone (events.Begin proc) (replies.Took (record { job = job; dirty = dirty })) own new longer begins refl acted kept coordinator events_ (stays_small t.views new.views t.events new.events events_ stays is.holds.small) more
      where
        own : RowKind
        own = rows.Taken proc job.nr true dirty

        stays : Stays t.views new.views
        stays doc = ap (λ (v : List (DocId × View)). view_at v doc) views

        its_dirt : dirty ≡ (order_for s job).dirty
        its_dirt = dirt ∙ sym (ap (λ (o : Option View). holds (λ (v : View). v.dirty) o) (is.holds.views job.doc))

        begins : Begins s (events.Begin proc) (replies.Took (record { job = job; dirty = dirty })) own []
        begins =
            (refl, rw (is.holds.desks proc, first) (ap (λ (b : Bool). replies.Took (record { job = job; dirty = b })) its_dirt, ap (λ (b : Bool). rows.Taken proc job.nr true b) its_dirt))

        acted : HasActed (event_of header log by own) [] t.coordinator
        acted =
            taken_acts (event_of header log by own) c (open_to header log t is by own) proc refl job dirty (ap (λ (x : Desk). x.in_hand) (is.holds.desks proc) ∙ free) (ap (λ (x : Desk). slice_get x.mail 0) (is.holds.desks proc) ∙ first) refl (its_dirt ∙ holds_then (λ (v : View). v.dirty) (document_of s job.doc)) refl

        kept : Keeping header (after s (row_with s.events by own)) s.events (desk_at new.desks) (view_at new.views) new.runners new.endings.items
        kept =
            record {
              events = refl;
              desks = λ p. desk_of-after s p s.events by own ∙ desks_go s t.desks new.desks proc (desk_taken true dirty) (λ (x : Desk). desk_with (items.Order (record { job = job; dirty = dirty })) (without_job x)) is.holds.desks (rw first refl) desks p;
              views = λ doc. is.holds.views doc ∙ sym (stays doc);
              runners = subst (λ (x : RunnersState). IsTold (after s (row_with s.events by own)) x) (sym run) (quiet_told s s.events by own t.runners tt tt is.holds.runners);
              endings = is.holds.endings ∙ sym ends_;
              sited = is.sited;
            }

  -- ---- a poke is acted on

  module _ (poke : Poke) (first : slice_get desk.input 0 ≡ Some poke) where
    waits : slice_get (desk_of s proc).input 0 ≡ Some poke
    waits = ap (λ (x : Desk). slice_get x.input 0) (is.holds.desks proc) ∙ first

    begins_with : (own : RowKind) (out : List RowKind) → out ≡ behind own → own ≡ acted_row proc poke (view_at t.views poke.doc) → Begins s (events.Act proc) replies.Acted own out
    begins_with own out out_is own_is =
        (refl, out_is, rw (is.holds.desks proc, first) (own_is ∙ ap (λ (o : Option View). acted_row proc poke o) (sym (is.holds.views poke.doc))))

    -- the process refuses it
    refused_kept : (reason : Denial) (new : State) → Stays t.views new.views → new.runners ≡ t.runners → Changes proc without_poke t.desks new.desks → new.endings.items ≡ ended_in t.endings.items poke.req (ends.Refused reason) → Keeping header (after s (row_with s.events by (rows.Refused poke.req reason))) s.events (desk_at new.desks) (view_at new.views) new.runners new.endings.items
    refused_kept reason new stays run desks ends_ =
        record {
          events = refl;
          desks = λ p. desk_of-after s p s.events by (rows.Refused poke.req reason) ∙ desks_go s t.desks new.desks proc without_poke without_poke is.holds.desks refl desks p;
          views = λ doc. is.holds.views doc ∙ sym (stays doc);
          runners = subst (λ (x : RunnersState). IsTold (after s (row_with s.events by (rows.Refused poke.req reason))) x) (sym run) (quiet_told s s.events by (rows.Refused poke.req reason) t.runners tt tt is.holds.runners);
          endings = ended_on s.requests poke.req _ (ends.Refused reason) (λ q. refl) ∙ (ap (λ (l : List (Option Ending)). ended_in l poke.req (ends.Refused reason)) is.holds.endings ∙ sym ends_);
          sited = is.sited;
        }

    -- its document is gone, or doesn't run
    pub stopped_gone : (new : State) (longer : List LogRow) → holds (λ (v : View). v.running) (view_at t.views poke.doc) ≡ false → new.coordinator ≡ t.coordinator → new.events ≡ t.events + 1 → new.views ≡ t.views → new.runners ≡ t.runners → Changes proc without_poke t.desks new.desks → new.endings.items ≡ ended_in t.endings.items poke.req (ends.Refused denials.NoDocument) → longer ≡ log ++ row_with t.events by (rows.Refused poke.req denials.NoDocument) ∷ [] → HasGone header (events.Act proc) replies.Acted log longer new
    stopped_gone new longer stopped coordinator events_ views run desks ends_ more =
        gone_alone (events.Act proc) replies.Acted (rows.Refused poke.req denials.NoDocument) new longer (begins_with _ [] refl (sym (stopped_row proc poke (view_at t.views poke.doc) stopped))) refl acted (refused_kept denials.NoDocument new stays run desks ends_) coordinator events_ (stays_small t.views new.views t.events new.events events_ stays is.holds.small) more
      where
        stays : Stays t.views new.views
        stays doc = ap (λ (v : List (DocId × View)). view_at v doc) views

        none_runs : is_running s poke.doc ≡ false
        none_runs =
            sym (holds_then (λ (v : View). v.running) (document_of s poke.doc))
            ∙ (ap (λ (o : Option View). holds (λ (v : View). v.running) o) (is.holds.views poke.doc) ∙ stopped)

        acted : HasActed (event_of header log by (rows.Refused poke.req denials.NoDocument)) [] t.coordinator
        acted = no_document_acts (event_of header log by (rows.Refused poke.req denials.NoDocument)) c (open_to header log t is by (rows.Refused poke.req denials.NoDocument)) proc poke waits refl refl none_runs refl

    -- it runs
    module _ (view : View) (at : view_at t.views poke.doc ≡ Some view) (running : view.running ≡ true) where
      its_view : HasView s poke.doc view
      its_view = viewed header log t is poke.doc view at

      its_row : acted_row proc poke (view_at t.views poke.doc) ≡ act_row proc view poke.req (made_by view poke.action)
      its_row = rw at (rw running refl)

      -- what it makes is no edit
      pub made_gone : (made : Made) (new : State) (longer : List LogRow) → is_edit made.what ≡ false → IfSome (view_at t.views poke.doc) (λ (v : View). Acts v poke made t.views new.views) → new.coordinator ≡ t.coordinator → new.events ≡ t.events + 1 → new.runners ≡ t.runners → Changes proc (λ (x : Desk). desk_with (items.Report (told.Made made)) (without_poke x)) t.desks new.desks → new.endings.items ≡ t.endings.items → longer ≡ log ++ row_with t.events by (rows.Made proc made) ∷ [] → HasGone header (events.Act proc) replies.Acted log longer new
      made_gone made new longer no_edit acting coordinator events_ run desks ends_ more =
          gone_alone (events.Act proc) replies.Acted own new longer begins refl acted_ kept coordinator events_ (shows_small poke.doc (Some (after_made view made.what)) t.views new.views t.events new.events events_ acts.becomes small is.holds.small) more
        where
          own : RowKind
          own = rows.Made proc made

          acts : Acts view poke made t.views new.views
          acts = subst (λ (o : Option View). IfSome o (λ (v : View). Acts v poke made t.views new.views)) at acting

          e : InEvent
          e = event_of header log by own

          begins : Begins s (events.Act proc) replies.Acted own []
          begins =
              begins_with own [] (sym (rw no_edit refl)) (ap (λ (m : Made). rows.Made proc m) acts.is ∙ (ap (λ (o : Option What). act_row proc view poke.req o) (sym acts.what) ∙ sym its_row))

          fine : IsNoEdit made.what
          fine = is_no_edit made.what no_edit

          acted_ : HasActed e [] t.coordinator
          acted_ =
              made_acts e c (open_to header log t is by own) proc poke waits refl refl its_view.d view its_view.found its_view.has running made.what acts.what fine (ap (λ (m : Made). rows.Made proc m) acts.is)

          makes : IsMaking view made made.what
          makes =
              making view made made.what (made_of_action view poke.action made.what (no_editing view poke.action made.what acts.what fine) acts.what).new

          apart : follows_finished s (row_with s.events by own) ≡ false
          apart = let never : (s.events == (s.events + 1)) ≡ false = grind (arith, nat_tests) in rw never refl

          of_it : made.doc ≡ poke.doc
          of_it =
              ap (λ (m : Made). m.doc) acts.is
              ∙ (((tab header log t is).docs.each poke.doc its_view.d its_view.found).live.viewed view its_view.has ∙ its_number s poke.doc its_view.d its_view.found)

          new_view : option_and_then (λ (d : Document). option_map (λ (v : View). after_made v made.what) d.view) (document_in s.documents made.doc) ≡ Some (after_made view made.what)
          new_view =
              ap (λ (n : DocId). option_and_then (λ (d : Document). option_map (λ (v : View). after_made v made.what) d.view) (document_in s.documents n)) of_it
              ∙ (ap (λ (o : Option Document). option_and_then (λ (d : Document). option_map (λ (v : View). after_made v made.what) d.view) o) its_view.found
              ∙ ap (λ (o : Option View). option_map (λ (v : View). after_made v made.what) o) its_view.has)

          shows : Shows made.doc (Some (after_made view made.what)) t.views new.views
          shows =
              subst (λ (n : DocId). Shows n (Some (after_made view made.what)) t.views new.views) (sym of_it) acts.becomes

          kept : Keeping header (after s (row_with s.events by own)) s.events (desk_at new.desks) (view_at new.views) new.runners new.endings.items
          kept =
              record {
                events = refl;
                desks = λ p. desk_of-after s p s.events by own
                    ∙ (ap (λ (b : Bool). on_proc proc (desks_made b made) p (desk_of s p)) apart
                    ∙ desks_go s t.desks new.desks proc (desk_made made) (λ (x : Desk). desk_with (items.Report (told.Made made)) (without_poke x)) is.holds.desks (ap (λ (l : List Report). let x : Desk = record desk { input = drop 1 desk.input; reports = l } in x) (makes.reported desk.reports)) desks p);
                views = views_on s.documents made.doc (λ (d : Document). option_map (λ (v : View). after_made v made.what) d.view) t.views new.views (Some (after_made view made.what)) is.holds.views new_view shows;
                runners = subst (λ (x : RunnersState). IsTold (after s (row_with s.events by own)) x) (sym run) (quiet_told s s.events by (rows.Made proc made) t.runners tt tt is.holds.runners);
                endings = left_on s.requests made.req _ (λ q. refl) ∙ (is.holds.endings ∙ sym ends_);
                sited = made_sited header s.documents made is.sited;
              }

          small : IsSmall new.events (after_made view made.what)
          small =
              let before : IsSmall t.events view = subst (λ (o : Option View). IfSome o (IsSmall t.events)) at (is.holds.small poke.doc) in
              record {
                numbered = omega (arith, before.numbered, makes.numbered, events_);
                index = omega (arith, before.index, makes.index, events_);
              }

      -- it edits itself, which is applied at once
      pub edit_gone : (made : Made) (new : State) (longer : List LogRow) → is_edit made.what ≡ true → IfSome (view_at t.views poke.doc) (λ (v : View). Acts v poke made t.views new.views) → new.coordinator ≡ t.coordinator → new.events ≡ t.events + 1 → new.runners ≡ t.runners → Changes proc without_poke t.desks new.desks → new.endings.items ≡ ended_in t.endings.items made.req ends.Applied → longer ≡ log ++ row_with t.events by (rows.Made proc made) ∷ row_with t.events by (rows.Applied made.req changes.Edit) ∷ [] → HasGone header (events.Act proc) replies.Acted log longer new
      edit_gone made new longer edits acting coordinator events_ run desks ends_ more =
          let whole : longer ≡ log ++ row_with s.events by own ∷ row_with s.events by applies ∷ [] = more ∙ ap (λ (k : ℕ). log ++ row_with k by (rows.Made proc made) ∷ row_with k by (rows.Applied made.req changes.Edit) ∷ []) (sym is.holds.events) ∙ ap (λ (m : Made). log ++ row_with s.events by (rows.Made proc m) ∷ row_with s.events by (rows.Applied m.req changes.Edit) ∷ []) made_is in
          record {
            happened = record { own = own; out = applies ∷ []; begins = begins; log = whole };
            stands = subst (λ (l : List LogRow). IsOpen header l new) (sym whole) (two_on header log t is short by own applies new (subst (λ (x : Coordinator). HasActed (event_of header log by own) (applies ∷ []) x) (sym coordinator) acted_) kept events_ (shows_small poke.doc (Some (after_made view whats.Edit)) t.views new.views t.events new.events events_ shows_there small is.holds.small));
          }
        where
          acts : Acts view poke made t.views new.views
          acts = subst (λ (o : Option View). IfSome o (λ (v : View). Acts v poke made t.views new.views)) at acting

          what_is : made.what ≡ whats.Edit
          what_is = it_is_edit made.what edits

          edit : Made
          edit = made_for view poke.req whats.Edit

          made_is : made ≡ made_for view poke.req whats.Edit
          made_is = acts.is ∙ ap (λ (w : What). made_for view poke.req w) what_is

          makes : made_by view poke.action ≡ Some whats.Edit
          makes = acts.what ∙ ap (λ (w : What). let o : Option What = Some w in o) what_is

          own : RowKind
          own = rows.Made proc (made_for view poke.req whats.Edit)

          applies : RowKind
          applies = rows.Applied poke.req changes.Edit

          begins : Begins s (events.Act proc) replies.Acted own (applies ∷ [])
          begins =
              begins_with own (applies ∷ []) refl (ap (λ (o : Option What). act_row proc view poke.req o) (sym makes) ∙ sym its_row)

          acted_ : HasActed (event_of header log by own) (applies ∷ []) t.coordinator
          acted_ =
              edit_acts (event_of header log by own) c (open_to header log t is by own) proc poke waits refl refl its_view.d view its_view.found its_view.has running makes refl

          shows_there : Shows poke.doc (Some (after_made view whats.Edit)) t.views new.views
          shows_there =
              subst (λ (w : What). Shows poke.doc (Some (after_made view w)) t.views new.views) what_is acts.becomes

          of_it : view.doc ≡ poke.doc
          of_it =
              ((tab header log t is).docs.each poke.doc its_view.d its_view.found).live.viewed view its_view.has ∙ its_number s poke.doc its_view.d its_view.found

          new_view : option_and_then (λ (d : Document). option_map (λ (v : View). after_made v whats.Edit) d.view) (document_in s.documents view.doc) ≡ Some (after_made view whats.Edit)
          new_view =
              ap (λ (n : DocId). option_and_then (λ (d : Document). option_map (λ (v : View). after_made v whats.Edit) d.view) (document_in s.documents n)) of_it
              ∙ (ap (λ (o : Option Document). option_and_then (λ (d : Document). option_map (λ (v : View). after_made v whats.Edit) d.view) o) its_view.found
              ∙ ap (λ (o : Option View). option_map (λ (v : View). after_made v whats.Edit) o) its_view.has)

          shows : Shows view.doc (Some (after_made view whats.Edit)) t.views new.views
          shows = subst (λ (n : DocId). Shows n (Some (after_made view whats.Edit)) t.views new.views) (sym of_it) shows_there

          apart : follows_finished s (row_with s.events by own) ≡ false
          apart = let never : (s.events == (s.events + 1)) ≡ false = grind (arith, nat_tests) in rw never refl

          between : Seen
          between = after s (row_with s.events by own)

          kept : Keeping header (after (after s (row_with s.events by own)) (row_with s.events by applies)) s.events (desk_at new.desks) (view_at new.views) new.runners new.endings.items
          kept =
              record {
                events = refl;
                desks = λ p. desk_of-after s p s.events by own
                    ∙ (ap (λ (b : Bool). on_proc proc (desks_made b (made_for view poke.req whats.Edit)) p (desk_of s p)) apart
                    ∙ desks_go s t.desks new.desks proc (desk_made (made_for view poke.req whats.Edit)) without_poke is.holds.desks refl desks p);
                views = λ doc. ap (λ (l : List Document). view_found l doc) (map-id between.documents)
                    ∙ views_on s.documents view.doc (λ (d : Document). option_map (λ (v : View). after_made v whats.Edit) d.view) t.views new.views (Some (after_made view whats.Edit)) is.holds.views new_view shows doc;
                runners = subst (λ (x : RunnersState). IsTold (after between (row_with s.events by applies)) x) (sym run) (quiet_told between s.events by applies t.runners tt tt (quiet_told s s.events by own t.runners tt tt is.holds.runners));
                endings = work_endings between applies refl ∙ ap (λ (l : List (Option Ending)). ended_in l poke.req ends.Applied) (left_on s.requests poke.req _ (λ q. refl) ∙ is.holds.endings) ∙ sym (ends_ ∙ ap (λ (m : Made). ended_in t.endings.items m.req ends.Applied) made_is);
                sited = subst (λ (l : List Document). AreSited header l) (sym (map-id between.documents)) (made_sited header s.documents (made_for view poke.req whats.Edit) is.sited);
              }

          small : IsSmall new.events (after_made view whats.Edit)
          small =
              let before : IsSmall t.events view = subst (λ (o : Option View). IfSome o (IsSmall t.events)) at (is.holds.small poke.doc) in
              record { numbered = omega (arith, before.numbered, events_); index = omega (arith, before.index, events_) }

      -- its address is none for the document
      pub refused_gone : (new : State) (longer : List LogRow) → IfSome (view_at t.views poke.doc) (λ (v : View). made_by v poke.action ≡ None) → new.coordinator ≡ t.coordinator → new.events ≡ t.events + 1 → Stays t.views new.views → new.runners ≡ t.runners → Changes proc without_poke t.desks new.desks → new.endings.items ≡ ended_in t.endings.items poke.req (ends.Refused denials.BadAddress) → longer ≡ log ++ row_with t.events by (rows.Refused poke.req denials.BadAddress) ∷ [] → HasGone header (events.Act proc) replies.Acted log longer new
      refused_gone new longer unmade coordinator events_ stays run desks ends_ more =
          gone_alone (events.Act proc) replies.Acted (rows.Refused poke.req denials.BadAddress) new longer (begins_with _ [] refl (ap (λ (o : Option What). act_row proc view poke.req o) (sym none) ∙ sym its_row)) refl acted_ (refused_kept denials.BadAddress new stays run desks ends_) coordinator events_ (stays_small t.views new.views t.events new.events events_ stays is.holds.small) more
        where
          none : made_by view poke.action ≡ None
          none = subst (λ (o : Option View). IfSome o (λ (v : View). made_by v poke.action ≡ None)) at unmade

          acted_ : HasActed (event_of header log by (rows.Refused poke.req denials.BadAddress)) [] t.coordinator
          acted_ =
              no_address_acts (event_of header log by (rows.Refused poke.req denials.BadAddress)) c (open_to header log t is by (rows.Refused poke.req denials.BadAddress)) proc poke waits refl refl its_view.d view its_view.found its_view.has running none refl
