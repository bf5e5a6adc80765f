-- The opening of a world.
use Rattle.std.proofs.Common.{◌≡◌, ℕ, Bool, true, false, cond, ◌==◌, List, [], ◌∷◌, Option, None, Some, refl, sym, ap, ◌∙◌, subst, arith}
use Rattle.std.specs.Prelude.{bytes_eq, option_and_then, IfSome, if◌then◌else◌}
use Rattle.std.proofs.lemmas.Bool.Decides.{nat_tests}
use Rattle.log_model.proofs.Refl.{bytes_eq_refl, nat_eq_refl}
use Rattle.address.specs.Addresses.{base_of, blank_text, origin_of}
use Rattle.tab_ids.specs.declared.DocId.{DocId}
use Rattle.tab_ids.specs.declared.ProcId.{ProcId}
use Rattle.log_model.specs.declared.handler.HandlerKind.{HandlerKind}
use Rattle.log_model.specs.declared.header.Header.{Header}
use Rattle.log_model.specs.declared.header.Page.{Page}
use Rattle.log_model.specs.declared.row_kind.LogRow.{LogRow}
use Rattle.log_model.specs.ActsAtOnce.{ActsAtOnce}
use Rattle.log_model.specs.Events.{events_of, AtEachEvent, after_opening, each_event}
use Rattle.log_model.specs.Legal.{IsLegal, opens}
use Rattle.log_model.specs.Limits.{BeginsBelow, starts_from}
use Rattle.log_model.specs.Logs.{seen_of}
use Rattle.log_model.specs.Seen.{Desk, Document, nothing, desk_of, empty_desk}
use Rattle.log_model.specs.Suits.{Suits, first_process, home_of, opens_suitably, process_of_origin}
use Rattle.log_model.specs.AfterDocuments.{opening_document}
use Rattle.log_model.specs.Views.{View, opening_view}
use Rattle.coord.specs.Standing.{StandsFor}
use Rattle.coord.specs.declared.coordinator.Coordinator.{Coordinator}
use Rattle.coord.specs.Keeping.{Keeps}
use Rattle.coord.proofs.EventLaws.{stands_settled}
use Rattle.coord.proofs.InTime.{opened_in_time}
use Rattle.coord.specs.PassedOn.{opened_at}
use Rattle.world.specs.declared.state.State.{State}
use Rattle.world.specs.Kept.{IsKept, OpensAs, OpensUnhandled}
use Rattle.proc_tables.specs.Desks.{desk_at}
use Rattle.proc_work.specs.Answers.{AnswersBy}
use Rattle.world.specs.Open.{IsOpen, IsSmall, bare, first_document, opening_process, row_limit, view_in}
use Rattle.world.specs.Opening.{opening_row, IsJustOpened}
use Rattle.world.specs.Sited.{IsSited}
use Rattle.world.proofs.SitedLaws.{opening_sited}

opened_below : (address : List ℕ) (proc : ProcId) → BeginsBelow row_limit (opening_row address proc ∷ [])
unfolding BeginsBelow starts_from events_of
opened_below address proc = refl

opened_legal : (address : List ℕ) (proc : ProcId) (c : Coordinator) → StandsFor (opened_at address proc) c → IsLegal (opening_row address proc ∷ [])
unfolding events_of AtEachEvent after_opening each_event opens
opened_legal address proc c stands =
    record {
      opened = stands_settled (opened_at address proc) c stands;
      numbered = refl;
      formed = refl;
      once = refl;
      caused = refl;
      queued = refl;
      ordered = refl;
      checked = refl;
      settled = refl;
    }

opened_at_once : (address : List ℕ) (proc : ProcId) → ActsAtOnce (opening_row address proc ∷ [])
unfolding events_of AtEachEvent after_opening each_event
opened_at_once address proc = record { told = refl; stepped = refl; in_time = refl }

opened_suits : (header : Header) (address : List ℕ) (proc : ProcId) → OpensAs header (opening_row address proc ∷ []) → Suits header (opening_row address proc ∷ [])
unfolding events_of AtEachEvent after_opening each_event
opened_suits header address proc opened = record { opened = opened; placed = refl; kept = refl }

opened_keeps : (header : Header) (proc : ProcId) (c : Coordinator) → StandsFor (opened_at header.first proc) c → Keeps (bare header) (opening_row header.first proc ∷ []) c
unfolding seen_of
opened_keeps header proc c stands =
    record {
      some = omega arith;
      legal = opened_legal header.first proc c stands;
      at_once = opened_at_once header.first proc;
      loads_end = opened_in_time (opening_row header.first proc);
      suits = opened_suits (bare header) header.first proc;
      stands = stands;
    }

pub opened_open : (header : Header) (proc : ProcId) (t : State) → proc ≡ opening_process header → IsJustOpened header proc t → IsOpen header (opening_row header.first proc ∷ []) t
unfolding seen_of
opened_open header proc t home just =
    record {
      keeps = opened_keeps header proc t.coordinator just.stands;
      header_is = just.header_is;
      limited = opened_below header.first proc;
      holds = record {
        events = sym just.events;
        desks = λ p. its_desk p ∙ sym (ap (λ (l : List (ProcId × Desk)). desk_at l p) just.desks);
        views = λ doc. its_view doc ∙ sym (just.views doc);
        runners = just.runners;
        endings = sym just.endings;
        small = λ doc. subst (λ (o : Option View). IfSome o (IsSmall t.events)) (sym (just.views doc)) (its_small doc);
      };
      sited = (subst (λ (p : ProcId). IsSited header p) (sym home) (opening_sited header), tt);
    }
  where
    first_view : View
    first_view = opening_view first_document (record { maker = 0; nr = 1 }) header.first

    its_desk : (p : ProcId) → desk_of (seen_of (opening_row header.first proc ∷ [])) p ≡ empty_desk p
    its_desk p = by_test (proc.0 == p.0) refl
      where
        by_test : (b : Bool) → (proc.0 == p.0) ≡ b → cond b (empty_desk proc) (empty_desk p) ≡ empty_desk p
        by_test true same =
            let n : proc.0 ≡ p.0 = grind (arith, nat_tests, same) in ap (λ (i : ℕ). empty_desk (record { 0 = i })) n
        by_test false other = refl

    its_view : (doc : DocId) → view_in (seen_of (opening_row header.first proc ∷ [])) doc ≡ cond (1 == doc.0) (Some first_view) None
    its_view doc =
        elim (1 == doc.0) as (λ b. option_and_then (λ (d : Document). d.view) (cond b (Some (opening_document (record { maker = 0; nr = 1 }) (record { 0 = 1 }) first_document proc None header.first)) None) ≡ cond b (Some first_view) None) [
          | true ↦ refl
          | false ↦ refl
        ]

    its_small : (doc : DocId) → IfSome (cond (1 == doc.0) (Some first_view) None) (IsSmall t.events)
    its_small doc =
        elim (1 == doc.0) as (λ b. IfSome (cond b (Some first_view) None) (IsSmall t.events)) [
          | true ↦ record { numbered = rw just.events (omega arith); index = rw just.events (omega arith) }
          | false ↦ tt
        ]

-- settings without pages are these
bare_same : (header : Header) → header.pages ≡ [] → bare header ≡ header
bare_same header none = ap (λ (pages : List Page). let h : Header = record header { pages = pages } in h) (sym none)

suits_all : (header : Header) (log : List LogRow) → (OpensAs (bare header) log → Suits (bare header) log) → header.pages ≡ [] → OpensAs header log → Suits header log
suits_all header log suits none = subst (λ (h : Header). OpensAs h log → Suits h log) (bare_same header none) suits

-- nobody was asked as a tab was opened
pub opened_answers : (kinds : List HandlerKind) (address : List ℕ) (proc : ProcId) → AnswersBy kinds (opening_row address proc ∷ [])
unfolding events_of AtEachEvent after_opening each_event
opened_answers kinds address proc = refl

-- an open world keeps what each world does
pub open_kept : (header : Header) (kinds : List HandlerKind) (log : List LogRow) (t : State) → IsOpen header log t → AnswersBy kinds log → IsKept header kinds log t false
open_kept header kinds log t is answers =
    record { legal = is.keeps.legal; at_once = is.keeps.at_once; loads_end = is.keeps.loads_end; suits = suits_all header log is.keeps.suits; limited = is.limited; answers = answers; stands = λ e. is }

-- and so it does once it is closed
pub closed_kept : (header : Header) (kinds : List HandlerKind) (log : List LogRow) (t new : State) → IsOpen header log t → AnswersBy kinds log → IsKept header kinds log new true
closed_kept header kinds log t new is answers =
    record { legal = is.keeps.legal; at_once = is.keeps.at_once; loads_end = is.keeps.loads_end; suits = suits_all header log is.keeps.suits; limited = is.limited; answers = answers; stands = λ e. absurd cc }

-- the process of the first document is the opening one
first_home : (header : Header) → home_of header nothing (record { 0 = 0 }) header.first ≡ Some (opening_process header)
unfolding opening_process
first_home header = by_base (bytes_eq (base_of header.first) blank_text)
  where
    by_base : (blank : Bool) → (if blank then Some first_process else Some (process_of_origin header (origin_of header.first))) ≡ Some (if blank then first_process else process_of_origin header (origin_of header.first))
    by_base true = refl
    by_base false = refl

-- the row opens the tab as settings say that give the first document no handler
opens_unhandled : (header : Header) → OpensUnhandled header → opens_suitably header nothing (opening_row header.first (opening_process header)).row ≡ true
opens_unhandled header none =
    rw (bytes_eq_refl header.first, none) (rw (first_home header) (rw (nat_eq_refl (opening_process header).0) refl))

-- a tab that was just opened suits them
pub opened_unhandled : (header : Header) → OpensUnhandled header → Suits header (opening_row header.first (opening_process header) ∷ [])
unfolding events_of
opened_unhandled header none =
    opened_suits header header.first (opening_process header) (opens_unhandled header none)
