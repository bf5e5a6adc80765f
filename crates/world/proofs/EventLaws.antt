-- A world is open after one more event, whose rows pass, and of which it keeps what the log has come to.
use Rattle.std.proofs.Common.{◌≡◌, ℕ, ◌+◌, ◌<◌, Bool, true, false, cond, ◌==◌, List, [], ◌∷◌, ◌++◌, length, map, take, fold, Option, None, Some, refl, sym, ap, ◌∙◌, subst, arith}
use Rattle.std.proofs.lemmas.List.{length-append, take-take, take_at}
use Rattle.std.specs.Prelude.{Result, Ok, Err, IfSome, OnErr}
use Rattle.tab_ids.specs.declared.DocId.{DocId}
use Rattle.tab_ids.specs.declared.ProcId.{ProcId}
use Rattle.log_model.specs.declared.header.Header.{Header}
use Rattle.log_model.specs.declared.outcome.Ending.{Ending}
use Rattle.log_model.specs.declared.row_kind.Actor.{Actor}
use Rattle.log_model.specs.declared.row_kind.LogRow.{LogRow}
use Rattle.log_model.specs.declared.row_kind.RowKind.{RowKind}
use Rattle.log_model.specs.After.{after}
use Rattle.log_model.specs.Events.{have_number}
use Rattle.log_model.specs.Logs.{seen_of}
use Rattle.log_model.specs.Seen.{Seen, Desk}
use Rattle.log_model.specs.Views.{View}
use Rattle.log_model.proofs.FurtherLaws.{begins_below_more}
use Rattle.log_model.proofs.Laws.{seen_of_append}
use Rattle.log_model.proofs.Refl.{nat_eq_refl}
use Rattle.seen_laws.specs.InEvent.{InEvent, first_of, log_of}
use Rattle.seen_laws.specs.Sending.{leads}
use Rattle.seen_laws.proofs.Sendings.{both}
use Rattle.tab_doors.specs.Working.{IsWorker}
use Rattle.coord.specs.Standing.{HasActed}
use Rattle.seen_laws.proofs.InEvents.{log_fold}
use Rattle.coord.proofs.EventLaws.{event_keeps}
use Rattle.world.specs.declared.state.State.{State}
use Rattle.world.specs.Asking.{event_of}
use Rattle.proc_tables.specs.Desks.{desk_at, desk_noted}
use Rattle.proc_tables.specs.Views.{Stays, view_at}
use Rattle.world.specs.Shows.{Shows}
use Rattle.world.specs.Notes.{endings_noted, row_with}
use Rattle.world.specs.Open.{IsOpen, Holds, IsSmall, row_limit}
use Rattle.world.proofs.NoteLaws.{Keeping, works_keep}
use Rattle.world.specs.Sited.{AreSited}
use Rattle.running_table.specs.Runners.{RunnersState}
use Rattle.running_table.specs.Making.{IsTold}

-- what holds anyway holds where there is an error
pub on_any_error : {T E : Type 0} (result : Result T E) (P : Type 0) → P → OnErr result P
on_any_error (Ok x) P is = tt
on_any_error (Err error) P is = is

-- what stands at the front of a longer log stood there before
pub front_of : (log : List LogRow) (row : LogRow) (mid new : List LogRow) → mid ≡ log ++ row ∷ [] → take (length mid) new ≡ mid → take (length log) new ≡ log
front_of log row mid new is kept =
    let more : length mid ≡ length log + 1 = ap (λ (l : List LogRow). length l) is ∙ length-append log (row ∷ []) in
    sym (take-take (length log) (length mid) new (omega (arith, more)))
    ∙ (ap (λ (l : List LogRow). take (length log) l) (kept ∙ is) ∙ take_at log (row ∷ []) (length log) refl)

-- the rows of an event have its number
have_its : (event : ℕ) (actor : Actor) (kinds : List RowKind) → have_number event (map (row_with event actor) kinds) ≡ true
have_its event actor [] = refl
have_its event actor (kind ∷ kinds) = both (nat_eq_refl event) (have_its event actor kinds)

-- what is kept is what the log has come to
pub holds_all : (header : Header) (s : Seen) (t : State) (event : ℕ) → Keeping header s event (desk_at t.desks) (view_at t.views) t.runners t.endings.items → t.events ≡ event + 1 → ((doc : DocId) → IfSome (view_at t.views doc) (IsSmall t.events)) → Holds s t
holds_all header s t event keeps events small =
    record { events = keeps.events ∙ sym events; desks = keeps.desks; views = keeps.views; runners = keeps.runners; endings = keeps.endings; small = small }

-- a view is small after one event more
pub small_more : (events more : ℕ) (view : Option View) → more ≡ events + 1 → IfSome view (IsSmall events) → IfSome view (IsSmall more)
small_more events more None next small = tt
small_more events more (Some view) next small =
    record { numbered = omega (arith, small.numbered, next); index = omega (arith, small.index, next) }

-- so are all, where none changes
pub stays_small : (old new : List (DocId × View)) (events more : ℕ) → more ≡ events + 1 → Stays old new → ((doc : DocId) → IfSome (view_at old doc) (IsSmall events)) → (doc : DocId) → IfSome (view_at new doc) (IsSmall more)
stays_small old new events more next stays small doc =
    subst (λ (o : Option View). IfSome o (IsSmall more)) (sym (stays doc)) (small_more events more (view_at old doc) next (small doc))

-- or one becomes a small one, or has gone
pub shows_small : (of : DocId) (view : Option View) (old new : List (DocId × View)) (events more : ℕ) → more ≡ events + 1 → Shows of view old new → IfSome view (IsSmall more) → ((doc : DocId) → IfSome (view_at old doc) (IsSmall events)) → (doc : DocId) → IfSome (view_at new doc) (IsSmall more)
shows_small of view old new events more next shows is small doc =
    subst (λ (o : Option View). IfSome o (IsSmall more)) (sym (shows doc)) (by_test (of.0 == doc.0))
  where
    by_test : (b : Bool) → IfSome (cond b view (view_at old doc)) (IsSmall more)
    by_test true = is
    by_test false = small_more events more (view_at old doc) next (small doc)

module _ (header : Header) (log : List LogRow) (t : State) (is : IsOpen header log t) (short : length log < row_limit) (actor : Actor) (own : RowKind) where
  abbrev pub e : InEvent
  e = event_of header log actor own

  abbrev pub at : ℕ
  at = (seen_of log).events

  -- the event's rows pass, and the rest is kept
  pub opens_on : (out : List RowKind) (new : State) → HasActed e out new.coordinator → Holds (log_of e out) new → AreSited header (log_of e out).documents → IsOpen header (log ++ row_with at actor own ∷ map (row_with at actor) out) new
  opens_on out new acted holds sites =
      let led : seen_of (log ++ row_with at actor own ∷ map (row_with at actor) out) ≡ log_of e out = seen_of_append log (row_with at actor own ∷ map (row_with at actor) out) ∙ sym (log_fold e out) in
      record {
        keeps = event_keeps e log t.coordinator is.keeps (record { start = refl; event = refl; uncut = refl }) out new.coordinator acted;
        limited = begins_below_more row_limit log (row_with at actor own) (map (row_with at actor) out) is.keeps.some (have_its at actor (own ∷ out)) is.limited short;
        holds = subst (λ (s : Seen). Holds s new) (sym led) holds;
        header_is = acted.header;
        sited = subst (λ (s : Seen). AreSited header s.documents) (sym led) sites;
      }

  -- what the coordinator puts out is noted, and no view changes
  pub works_on : (out : List RowKind) (new : State) (waits : ProcId → Desk) (ends : List (Option Ending)) → IsWorker actor → leads own ≡ true → HasActed e out new.coordinator → Keeping header (after (seen_of log) (row_with at actor own)) at waits (view_at t.views) t.runners ends → new.events ≡ t.events + 1 → new.views ≡ t.views → new.runners ≡ t.runners → ((proc : ProcId) → desk_at new.desks proc ≡ fold (desk_noted proc) (waits proc) out) → new.endings.items ≡ fold endings_noted ends out → IsOpen header (log ++ row_with at actor own ∷ map (row_with at actor) out) new
  works_on out new waits ends worker led acted keeps events views run desks endings =
      let all = works_keep header (first_of e) (row_with at actor own) [] at actor out waits (view_at t.views) t.runners ends refl refl led worker acted.passes.1 keeps in
      let stays : Stays t.views new.views = λ doc. ap (λ (v : List (DocId × View)). view_at v doc) views in
      opens_on out new acted (record {
        events = all.events ∙ sym (events ∙ ap (λ (k : ℕ). k + 1) (sym is.holds.events));
        desks = λ proc. all.desks proc ∙ sym (desks proc);
        views = λ doc. all.views doc ∙ sym (stays doc);
        runners = subst (λ (r : RunnersState). IsTold (log_of e out) r) (sym run) all.runners;
        endings = all.endings ∙ sym endings;
        small = stays_small t.views new.views t.events new.events events stays is.holds.small;
      }) all.sited

  -- an event of its own row alone
  pub alone_on : (new : State) → HasActed e [] new.coordinator → Keeping header (after (seen_of log) (row_with at actor own)) at (desk_at new.desks) (view_at new.views) new.runners new.endings.items → new.events ≡ t.events + 1 → ((doc : DocId) → IfSome (view_at new.views doc) (IsSmall new.events)) → IsOpen header (log ++ row_with at actor own ∷ []) new
  alone_on new acted keeps events small =
      opens_on [] new acted (holds_all header (after (seen_of log) (row_with at actor own)) new at keeps (events ∙ ap (λ (k : ℕ). k + 1) (sym is.holds.events)) small) keeps.sited

  -- an event of two rows
  pub two_on : (other : RowKind) (new : State) → HasActed e (other ∷ []) new.coordinator → Keeping header (after (after (seen_of log) (row_with at actor own)) (row_with at actor other)) at (desk_at new.desks) (view_at new.views) new.runners new.endings.items → new.events ≡ t.events + 1 → ((doc : DocId) → IfSome (view_at new.views doc) (IsSmall new.events)) → IsOpen header (log ++ row_with at actor own ∷ row_with at actor other ∷ []) new
  two_on other new acted keeps events small =
      opens_on (other ∷ []) new acted (holds_all header (after (after (seen_of log) (row_with at actor own)) (row_with at actor other)) new at keeps (events ∙ ap (λ (k : ℕ). k + 1) (sym is.holds.events)) small) keeps.sited
