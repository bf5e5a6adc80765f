-- A request is accepted.
use Rattle.running_table.proofs.ForCallers.{quiet_told}
use Rattle.std.proofs.Common.{◌≡◌, ℕ, ◌+◌, ◌-◌, ◌<◌, false, ◌==◌, List, [], ◌∷◌, ◌++◌, length, map, fold, Option, Some, None, refl, sym, ap, ◌∙◌, subst, arith, append_assoc}
use Rattle.std.specs.Prelude.{option_map, slice_set}
use Rattle.std.specs.Option.{option_map_or}
use Rattle.std.proofs.lemmas.Bool.Decides.{nat_tests}
use Rattle.std.proofs.lemmas.List.{map-append}
use Rattle.tab_ids.specs.declared.DocId.{DocId}
use Rattle.tab_ids.specs.declared.NavId.{NavId}
use Rattle.tab_ids.specs.declared.ProcId.{ProcId}
use Rattle.tab_ids.specs.declared.ReqId.{ReqId}
use Rattle.log_model.specs.declared.action.Action.{Action}
use Rattle.log_model.specs.declared.header.Header.{Header}
use Rattle.log_model.specs.declared.outcome.Ending.{Ending}
use Rattle.log_model.specs.declared.outcome.Ending.TheVariants as ends
use Rattle.log_model.specs.declared.request.Request.{Request}
use Rattle.log_model.specs.declared.request.Request.TheVariants as requests
use Rattle.log_model.specs.declared.row_kind.Actor.{Actor}
use Rattle.log_model.specs.declared.row_kind.Actor.TheVariants as actors
use Rattle.log_model.specs.declared.row_kind.LogRow.{LogRow}
use Rattle.log_model.specs.declared.row_kind.RowKind.{RowKind}
use Rattle.log_model.specs.declared.row_kind.RowKind.TheVariants as rows
use Rattle.log_model.specs.After.{after, new_request}
use Rattle.log_model.specs.Causes.{denial_of_poke}
use Rattle.log_model.specs.declared.outcome.Denial.{Denial}
use Rattle.log_model.specs.Logs.{seen_of}
use Rattle.log_model.specs.Seen.{Seen, Document, Desk, Asked, desk_of, document_of}
use Rattle.history_log.proofs.DeskLaws.{desk_of-after, desk_poked, with_poke}
use Rattle.proc_tables.specs.declared.item.Item.TheVariants as items
use Rattle.proc_tables.specs.Desks.{Changes, desk_at, desk_noted, desk_with, on_proc}
use Rattle.proc_tables.specs.Views.{view_at}
use Rattle.seen_laws.specs.InEvent.{InEvent}
use Rattle.coord.specs.Standing.{HasActed, IsAsk, IsOpenTo, asked_for}
use Rattle.coord.specs.declared.ask.Ask.{Ask}
use Rattle.coord.specs.declared.ask.Ask.TheVariants as asks
use Rattle.coord.specs.declared.coordinator.Coordinator.{Coordinator}
use Rattle.coord.proofs.Pokes.{poke_acts, poke_refused_acts}
use Rattle.tab_doors.specs.Ties.{proc_in}
use Rattle.world.specs.declared.event.Event.TheVariants as events
use Rattle.world.specs.declared.event.Reply.TheVariants as replies
use Rattle.world.specs.declared.state.State.{State}
use Rattle.world.specs.Asking.{event_asking, event_of, asking}
use Rattle.world.specs.Notes.{endings_noted, ended_in, row_with}
use Rattle.world.specs.Open.{IsOpen, row_limit}
use Rattle.world.specs.Reaching.{Reaches}
use Rattle.world.specs.Steps.{Begins, actor_of, next_request, reached_in}
use Rattle.world.specs.Turns.{HasGone}
use Rattle.world.proofs.EndingLaws.{endings}
use Rattle.world.proofs.EventLaws.{works_on}
use Rattle.world.proofs.Facts.{IsReaching, asked_long, lives_in, open_to, reaches_none, reaching}
use Rattle.world.proofs.NoteLaws.{Keeping}
use Rattle.world.proofs.TableLaws.{desks_go}

-- one request more, which is open
more_endings : (asked : List Asked) (new : Asked) → endings (asked ++ new ∷ []) ≡ endings asked ++ new.ending ∷ []
more_endings asked new = map-append (λ (q : Asked). q.ending) asked (new ∷ [])

-- the last one has ended
set_last : (endings_ : List (Option Ending)) (new : Option Ending) → slice_set (endings_ ++ None ∷ []) (length endings_) new ≡ endings_ ++ new ∷ []
set_last [] new = refl
set_last (e ∷ endings_) new = ap (λ (l : List (Option Ending)). e ∷ l) (set_last endings_ new)

ended_last : (endings_ : List (Option Ending)) (req : ReqId) (ending : Ending) → req.0 ≡ length endings_ + 1 → ended_in (endings_ ++ None ∷ []) req ending ≡ endings_ ++ Some ending ∷ []
ended_last endings_ req ending nr =
    let real : (req.0 == 0) ≡ false = grind (arith, nat_tests, nr) in
    let at : (req.0 - 1) ≡ length endings_ = omega (arith, nr) in
    rw (real, at) (set_last endings_ (Some ending))

-- what the coordinator asks of the event of a load or a traversal
pub asks_so : (e : InEvent) (header : Header) (log : List LogRow) (req : ReqId) (ask : Ask) (c : Coordinator) (out : List RowKind) → e ≡ asking header log req ask → IsOpenTo e c → req.0 ≡ length (seen_of log).requests + 1 → out ≡ [] → IsAsk e req ask × (IsOpenTo e c × (out ≡ []))
asks_so e header log req ask c out is open_ next none =
    (subst (λ (x : InEvent). IsAsk x req ask) (sym is) (record { by_user = refl; own = refl; next = next }), (open_, none))

-- the row of one number and actor, at the log's own number
rows_same : (log : List LogRow) (n m : ℕ) (own : RowKind) (out : List RowKind) → n ≡ m → (log ++ row_with n actors.Ui own ∷ []) ++ map (row_with n actors.Ui) out ≡ log ++ row_with m actors.Ui own ∷ map (row_with m actors.Ui) out
rows_same log n m own out same =
    append_assoc log (row_with n actors.Ui own ∷ []) (map (row_with n actors.Ui) out)
    ∙ ap (λ (k : ℕ). log ++ row_with k actors.Ui own ∷ map (row_with k actors.Ui) out) same

module _ (header : Header) (log : List LogRow) (t : State) (is : IsOpen header log t) (short : length log < row_limit) where
  abbrev s : Seen
  s = seen_of log

  -- a request that waits in no process
  unsent : (req : ReqId) (what : Request) → Keeping header (after s (row_with s.events actors.Ui (rows.Accepted req None what))) s.events (desk_at t.desks) (view_at t.views) t.runners (t.endings.items ++ None ∷ [])
  unsent req what =
      record {
        events = refl;
        desks = is.holds.desks;
        views = is.holds.views;
        runners = quiet_told s s.events actors.Ui (rows.Accepted req None what) t.runners tt tt is.holds.runners;
        endings = more_endings s.requests (new_request req None what) ∙ ap (λ (l : List (Option Ending)). l ++ None ∷ []) is.holds.endings;
        sited = is.sited;
      }

  -- ---- a load or a traversal

  -- what is logged first, and what is answered
  asked_begins : (req : ReqId) (ask : Ask) (out : List RowKind) → req ≡ next_request s → Begins s (event_asking ask) (replies.Accepted req) (rows.Accepted req None (asked_for ask)) out
  asked_begins req (asks.Load nav mode address) out nr =
      (ap (λ (r : ReqId). replies.Accepted r) nr, ap (λ (r : ReqId). rows.Accepted r None (requests.Load nav mode address)) nr)
  asked_begins req (asks.Go delta) out nr =
      (ap (λ (r : ReqId). replies.Accepted r) nr, ap (λ (r : ReqId). rows.Accepted r None (requests.Go delta)) nr)

  asked_by : (ask : Ask) → actor_of (event_asking ask) ≡ actors.Ui
  asked_by (asks.Load nav mode address) = refl
  asked_by (asks.Go delta) = refl

  pub ask_gone : (req : ReqId) (ask : Ask) (out : List RowKind) (new : State) (longer : List LogRow) → req ≡ next_request s → HasActed (asking header log req ask) out new.coordinator → new.events ≡ t.events + 1 → new.views ≡ t.views → new.runners ≡ t.runners → ((proc : ProcId) → desk_at new.desks proc ≡ fold (desk_noted proc) (desk_at t.desks proc) out) → new.endings.items ≡ fold endings_noted (t.endings.items ++ None ∷ []) out → longer ≡ (log ++ row_with t.events actors.Ui (rows.Accepted req None (asked_for ask)) ∷ []) ++ map (row_with t.events actors.Ui) out → HasGone header (event_asking ask) (replies.Accepted req) log longer new
  ask_gone req ask out new longer nr acted events_ views run desks ends_ more =
      let whole = more ∙ rows_same log t.events s.events (rows.Accepted req None (asked_for ask)) out (sym is.holds.events) in
      record {
        happened = record {
          own = rows.Accepted req None (asked_for ask);
          out = out;
          begins = asked_begins req ask out nr;
          log = whole ∙ ap (λ (a : Actor). log ++ row_with s.events a (rows.Accepted req None (asked_for ask)) ∷ map (row_with s.events a) out) (sym (asked_by ask));
        };
        stands = subst (λ (l : List LogRow). IsOpen header l new) (sym whole) (works_on header log t is short actors.Ui (rows.Accepted req None (asked_for ask)) out new (desk_at t.desks) (t.endings.items ++ None ∷ []) tt refl acted (unsent req (asked_for ask)) events_ views run desks ends_);
      }

  -- ---- a poke that reaches a document

  pub poke_gone : (req : ReqId) (nav : NavId) (action : Action) (doc : DocId) (proc : ProcId) (new : State) (longer : List LogRow) → Reaches s nav doc → proc_in t.coordinator.tables.whose.entries doc ≡ Some proc → req ≡ next_request s → new.coordinator ≡ t.coordinator → new.events ≡ t.events + 1 → new.views ≡ t.views → new.runners ≡ t.runners → Changes proc (desk_with (items.Poke (record { req = req; doc = doc; action = action }))) t.desks new.desks → new.endings.items ≡ t.endings.items ++ None ∷ [] → longer ≡ log ++ row_with t.events actors.Ui (rows.Accepted req (Some doc) (requests.Poke nav action)) ∷ [] → HasGone header (events.Poke nav action) (replies.Accepted req) log longer new
  poke_gone req nav action doc proc new longer reaches proc_is nr coordinator events_ views run desks ends_ more =
      let whole : longer ≡ log ++ row_with s.events actors.Ui own ∷ [] = more ∙ ap (λ (k : ℕ). log ++ row_with k actors.Ui own ∷ []) (sym is.holds.events) in
      record {
        happened = record { own = own; out = []; begins = (ap (λ (r : ReqId). replies.Accepted r) nr, begun); log = whole };
        stands = subst (λ (l : List LogRow). IsOpen header l new) (sym whole) (works_on header log t is short actors.Ui own [] new (desk_at new.desks) (t.endings.items ++ None ∷ []) tt refl acted kept events_ views run (λ p. refl) ends_);
      }
    where
      own : RowKind
      own = rows.Accepted req (Some doc) (requests.Poke nav action)

      its : IsReaching s nav doc
      its = reaching s nav doc reaches

      its_doc : Some doc ≡ option_map (λ (d : Document). d.nr) (reached_in s nav)
      its_doc =
          sym (ap (λ (o : Option Document). option_map (λ (d : Document). d.nr) o) its.in_step ∙ ap (λ (n : DocId). let o : Option DocId = Some n in o) its.nr)

      begun : own ≡ rows.Accepted (next_request s) (option_map (λ (d : Document). d.nr) (reached_in s nav)) (requests.Poke nav action)
      begun =
          ap (λ (r : ReqId). rows.Accepted r (Some doc) (requests.Poke nav action)) nr
          ∙ ap (λ (o : Option DocId). rows.Accepted (next_request s) o (requests.Poke nav action)) its_doc

      acted : HasActed (event_of header log actors.Ui own) [] new.coordinator
      acted =
          subst (λ (c : Coordinator). HasActed (event_of header log actors.Ui own) [] c) (sym coordinator) (poke_acts (event_of header log actors.Ui own) t.coordinator (open_to header log t is actors.Ui own) req nav action refl (ap (λ (r : ReqId). r.0) nr) doc reaches refl)

      found : document_of s doc ≡ Some reaches.d
      found = reaches.found

      some_same : {A : Type 0} {a b : A} → (let o : Option A = Some a in o) ≡ Some b → a ≡ b
      some_same e = cc

      of_home : reaches.d.proc ≡ proc
      of_home = some_same (sym (lives_in header log t is doc reaches.d found) ∙ proc_is)

      kept : Keeping header (after s (row_with s.events actors.Ui own)) s.events (desk_at new.desks) (view_at t.views) t.runners (t.endings.items ++ None ∷ [])
      kept =
          record {
            events = refl;
            desks = λ p. desk_of-after s p s.events actors.Ui own
                ∙ (ap (λ (o : Option Document). option_map_or (λ (d : Document). with_poke p req doc action d (desk_of s p)) o (desk_of s p)) found
                ∙ (ap (λ (q : ProcId). on_proc q (desk_poked req doc action) p (desk_of s p)) of_home
                ∙ desks_go s t.desks new.desks proc (desk_poked req doc action) (desk_with (items.Poke (record { req = req; doc = doc; action = action }))) is.holds.desks refl desks p));
            views = is.holds.views;
            runners = quiet_told s s.events actors.Ui (rows.Accepted req (Some doc) (requests.Poke nav action)) t.runners tt tt is.holds.runners;
            endings = more_endings s.requests (new_request req (Some doc) (requests.Poke nav action)) ∙ ap (λ (l : List (Option Ending)). l ++ None ∷ []) is.holds.endings;
            sited = is.sited;
          }

  -- ---- a poke that reaches none

  pub stray_gone : (req : ReqId) (nav : NavId) (action : Action) (reason : Denial) (new : State) (longer : List LogRow) → denial_of_poke s nav ≡ Some reason → req ≡ next_request s → new.coordinator ≡ t.coordinator → new.events ≡ t.events + 1 → new.views ≡ t.views → new.runners ≡ t.runners → new.desks ≡ t.desks → new.endings.items ≡ t.endings.items ++ Some (ends.Refused reason) ∷ [] → longer ≡ (log ++ row_with t.events actors.Ui (rows.Accepted req None (requests.Poke nav action)) ∷ []) ++ row_with t.events actors.Ui (rows.Refused req reason) ∷ [] → HasGone header (events.Poke nav action) (replies.Accepted req) log longer new
  stray_gone req nav action reason new longer denied nr coordinator events_ views run desks ends_ more =
      let whole : longer ≡ log ++ row_with s.events actors.Ui own ∷ map (row_with s.events actors.Ui) out = more ∙ rows_same log t.events s.events own out (sym is.holds.events) in
      record {
        happened = record { own = own; out = out; begins = (ap (λ (r : ReqId). replies.Accepted r) nr, begun); log = whole };
        stands = subst (λ (l : List LogRow). IsOpen header l new) (sym whole) (works_on header log t is short actors.Ui own out new (desk_at t.desks) (t.endings.items ++ None ∷ []) tt refl acted (unsent req (requests.Poke nav action)) events_ views run (λ p. ap (λ (l : List (ProcId × Desk)). desk_at l p) desks) (ends_ ∙ ended));
      }
    where
      own : RowKind
      own = rows.Accepted req None (requests.Poke nav action)

      out : List RowKind
      out = rows.Refused req reason ∷ []

      at : req.0 ≡ length s.requests + 1
      at = ap (λ (r : ReqId). r.0) nr

      begun : own ≡ rows.Accepted (next_request s) (option_map (λ (d : Document). d.nr) (reached_in s nav)) (requests.Poke nav action)
      begun =
          ap (λ (r : ReqId). rows.Accepted r None (requests.Poke nav action)) nr
          ∙ ap (λ (o : Option DocId). rows.Accepted (next_request s) o (requests.Poke nav action)) (sym (ap (λ (o : Option Document). option_map (λ (d : Document). d.nr) o) (reaches_none s nav reason denied)))

      acted : HasActed (event_of header log actors.Ui own) out new.coordinator
      acted =
          subst (λ (c : Coordinator). HasActed (event_of header log actors.Ui own) out c) (sym coordinator) (poke_refused_acts (event_of header log actors.Ui own) t.coordinator (open_to header log t is actors.Ui own) req nav action refl at reason denied refl refl)

      ended : t.endings.items ++ Some (ends.Refused reason) ∷ [] ≡ ended_in (t.endings.items ++ None ∷ []) req (ends.Refused reason)
      ended =
          let long : length t.endings.items ≡ length s.requests = asked_long header log t is in
          sym (ended_last t.endings.items req (ends.Refused reason) (omega (arith, at, long)))
