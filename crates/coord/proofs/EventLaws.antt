-- One more event, whose rows pass and after which the coordinator stands for the log: the log keeps all rules.
use Rattle.std.proofs.Common.{◌≡◌, ℕ, ◌<◌, Bool, true, ◌==◌, List, [], ◌∷◌, ◌++◌, map, fold, ◌≤◌, append-nil, length, refl, sym, ap, ◌∙◌, subst, arith}
use Rattle.std.proofs.lemmas.Bool.Decides.{nat_tests}
use Rattle.std.specs.List.{list_all}
use Rattle.log_model.specs.declared.header.Header.{Header}
use Rattle.log_model.specs.declared.row_kind.LogRow.{LogRow}
use Rattle.log_model.specs.declared.row_kind.RowKind.{RowKind}
use Rattle.log_model.specs.ActsAtOnce.{is_row_in_time, ends_told, ends_stepped, goes_in_time}
use Rattle.log_model.specs.After.{after}
use Rattle.log_model.specs.Causes.{is_caused_row}
use Rattle.log_model.specs.Checks.{is_checked_row}
use Rattle.log_model.specs.Equal.{same_actor}
use Rattle.log_model.specs.Events.{Point, each_point, each_row, have_number}
use Rattle.log_model.specs.Formed.{is_formed_row, is_numbered}
use Rattle.log_model.specs.Legal.{IsLegalEvent, is_formed, is_once, is_caused, is_queued, is_ordered, is_checked, ends_settled}
use Rattle.log_model.specs.Logs.{seen_of}
use Rattle.log_model.specs.Once.{is_once_row}
use Rattle.log_model.specs.Orders.{is_ordered_row}
use Rattle.log_model.specs.Queue.{is_queued_row}
use Rattle.log_model.specs.Seen.{Seen}
use Rattle.log_model.specs.Settled.{is_settled_if_quiet}
use Rattle.log_model.specs.Suits.{is_suitable_row, keeps_few}
use Rattle.log_model.proofs.FurtherLaws.{at_once_more, suits_more, opened_before}
use Rattle.log_model.proofs.Laws.{seen_of_append}
use Rattle.log_model.proofs.LegalLaws.{legal_more}
use Rattle.log_model.proofs.Refl.{same_actor_refl}
use Rattle.seen_laws.specs.Blocks.{Here, Passes, EachPass, point_at, on_row}
use Rattle.seen_laws.specs.InEvent.{InEvent, row_of, start_of, log_of}
use Rattle.seen_laws.proofs.Sendings.{both}
use Rattle.seen_laws.proofs.InEvents.{log_fold, uncut_rows}
use Rattle.tab_facts.proofs.TabEvents.Settled.{between_settled}
use Rattle.seen_facts.proofs.LoadEnds.Ends.{loads_end_more}
use Rattle.seen_facts.specs.LoadEnds.Standing.{AreUnsettled, LoadsStand}
use Rattle.log_model.specs.LoadsEndInTime.{LoadsEndInTime}
use Rattle.coord.proofs.InTime.{event_unsettled}
use Rattle.coord.specs.Standing.{HasActed, StandsFor}
use Rattle.coord.specs.declared.coordinator.Coordinator.{Coordinator}
use Rattle.coord.specs.Keeping.{Keeps, Follows}

-- ---- rows that pass each test pass one

passes_one : (test : Point → LogRow → Bool) (header : Header) → ((p : Point) (row : LogRow) → Passes header p row → test p row ≡ true) → (h : Here) → h.header ≡ header → (rows : List LogRow) → EachPass h rows [] → each_point test h.start h.now h.done rows ≡ true
passes_one test header one h same [] pass = refl
passes_one test header one h same (row ∷ rows) (first, rest) =
    both (subst (λ (later : List LogRow). test (point_at h later) row ≡ true) (append-nil rows) (one (point_at h (rows ++ [])) row (subst (λ (x : Header). Passes x (point_at h (rows ++ [])) row) same first))) (passes_one test header one (on_row h row) same rows rest)

-- ---- what holds wherever the coordinator stands

pub stands_settled : (s : Seen) (c : Coordinator) → StandsFor s c → is_settled_if_quiet s ≡ true
stands_settled s c its =
    between_settled c.tables.kept.keep c.tables.running s its.but.stands.between

pub stands_told : (s : Seen) (c : Coordinator) → StandsFor s c → ends_told s ≡ true
stands_told s c its = its.but.stands.between.told

pub stands_stepped : (s : Seen) (c : Coordinator) → StandsFor s c → ends_stepped s ≡ true
stands_stepped s c its = its.but.stands.between.stepped refl

-- ---- the event's rows

-- they have one number and one actor
have_it : (e : InEvent) (n : ℕ) → e.event ≡ n → (kinds : List RowKind) → have_number n (map (row_of e) kinds) ≡ true
have_it e n same [] = refl
have_it e n same (kind ∷ kinds) =
    both (let here : (e.event == n) ≡ true = grind (arith, nat_tests, same) in here) (have_it e n same kinds)

one_actor : (e : InEvent) (kinds : List RowKind) → list_all (λ (row : LogRow). same_actor row.actor e.actor) (map (row_of e) kinds) ≡ true
one_actor e [] = refl
one_actor e (kind ∷ kinds) = both (same_actor_refl e.actor) (one_actor e kinds)

-- an event comes after the opening
events_some : (s : Seen) (rows : List LogRow) → 0 < s.events → 0 < (fold after s rows).events
events_some s [] some = some
events_some s (row ∷ rows) some = events_some (after s row) rows (omega arith)

-- ---- the longer log

module _ (e : InEvent) (log : List LogRow) (old : Coordinator) (keeps : Keeps e.header log old) (follows : Follows e log) (out : List RowKind) (new : Coordinator) (acted : HasActed e out new) where
  abbrev rows_ : List LogRow
  rows_ = map (row_of e) out

  -- as nothing was put out before these rows
  passes : EachPass (start_of e) (row_of e e.own ∷ rows_) []
  passes = subst (λ (l : List LogRow). EachPass (start_of e) l []) (uncut_rows e out follows.uncut) acted.passes

  pass : (test : Point → LogRow → Bool) → ((p : Point) (row : LogRow) → Passes e.header p row → test p row ≡ true) → each_row test (seen_of log) (row_of e e.own ∷ rows_) ≡ true
  pass test one =
      subst (λ (s : Seen). each_row test s (row_of e e.own ∷ rows_) ≡ true) follows.start (passes_one test e.header one (start_of e) refl (row_of e e.own ∷ rows_) passes)

  comes : fold after (seen_of log) (row_of e e.own ∷ rows_) ≡ log_of e out
  comes = sym (log_fold e out ∙ ap (λ (l : List LogRow). fold after e.start l) (uncut_rows e out follows.uncut) ∙ ap (λ (s : Seen). fold after s (row_of e e.own ∷ rows_)) follows.start)

  number : have_number (seen_of log).events (row_of e e.own ∷ rows_) ≡ true
  number = have_it e (seen_of log).events follows.event (e.own ∷ out)

  legal_event : IsLegalEvent (seen_of log) (row_of e e.own ∷ rows_)
  unfolding is_numbered is_formed is_once is_caused is_queued is_ordered is_checked ends_settled
  legal_event =
      record {
        numbered = both number (one_actor e out);
        formed = pass is_formed_row (λ p row passes. passes.formed);
        once = pass is_once_row (λ p row passes. passes.once);
        caused = pass is_caused_row (λ p row passes. passes.caused);
        queued = pass is_queued_row (λ p row passes. passes.queued);
        ordered = pass is_ordered_row (λ p row passes. passes.ordered);
        checked = pass is_checked_row (λ p row passes. passes.checked);
        settled = ap is_settled_if_quiet comes ∙ stands_settled (log_of e out) new acted.stands;
      }

  few : keeps_few e.header (log_of e out) ≡ true
  few =
      let low : length (log_of e out).kept ≤ e.header.keep = subst (λ (k : ℕ). length (log_of e out).kept ≤ k) (acted.stands.but.keep ∙ ap (λ (h : Header). h.keep) acted.header) acted.stands.but.stands.between.few in grind (arith, nat_tests, low)

  -- loads end in time still, as each navigable that its rows reload, or give a load's new document, doesn't stand as it ends
  pub event_in_time : LoadsEndInTime (log ++ row_of e e.own ∷ rows_)
  event_in_time =
      loads_end_more log (row_of e e.own) rows_ keeps.some number keeps.loads_end (subst LoadsStand (sym comes) acted.stands.but.stands.between.stands)
      (subst (λ (s : Seen). AreUnsettled s (row_of e e.own ∷ rows_)) (sym comes) (event_unsettled e out follows.uncut passes acted.off))

  pub event_keeps : Keeps e.header (log ++ row_of e e.own ∷ rows_) new
  unfolding goes_in_time
  event_keeps =
      let led : seen_of (log ++ row_of e e.own ∷ rows_) ≡ log_of e out = seen_of_append log (row_of e e.own ∷ rows_) ∙ comes in
      record {
        some = subst (λ (s : Seen). 0 < s.events) (sym (seen_of_append log (row_of e e.own ∷ rows_))) (events_some (seen_of log) (row_of e e.own ∷ rows_) keeps.some);
        legal = legal_more log (row_of e e.own) rows_ keeps.some keeps.legal legal_event;
        at_once = at_once_more log (row_of e e.own) rows_ keeps.some number keeps.at_once (ap ends_told comes ∙ stands_told (log_of e out) new acted.stands) (ap ends_stepped comes ∙ stands_stepped (log_of e out) new acted.stands) (pass is_row_in_time (λ p row passes. passes.in_time));
        loads_end = event_in_time;
        suits = λ opened. suits_more e.header log (row_of e e.own) rows_ keeps.some number (keeps.suits (opened_before e.header log (row_of e e.own ∷ rows_) keeps.some opened)) (pass (is_suitable_row e.header) (λ p row passes. passes.suits)) (ap (keeps_few e.header) comes ∙ few);
        stands = subst (λ (s : Seen). StandsFor s new) (sym led) acted.stands;
      }
