-- What the readers of an open world answer.
use Rattle.seen_facts.proofs.Asked.Passed.{leaves_freely}
use Rattle.seen_facts.specs.Asked.Asking.{HavePassed}
use Rattle.log_model.specs.Equal.{holds}
use Rattle.log_model.specs.Outcomes.{is_drop}
use Rattle.log_model.specs.Places.{may_leave}
use Rattle.std.proofs.Common.{◌≡◌, ℕ, zero, suc, ◌+◌, ◌-◌, Bool, true, false, not, ◌&&◌, ◌||◌, ◌==◌, List, [], ◌∷◌, Option, Some, None, is_some, refl, sym, ap, ◌∙◌, arith}
use Rattle.std.specs.Prelude.{slice_get, option_and_then, is_none}
use Rattle.std.specs.List.{list_all}
use Rattle.std.proofs.lemmas.Bool.Decides.{nat_tests}
use Rattle.tab_ids.specs.declared.NavId.{NavId}
use Rattle.tab_ids.specs.declared.ProcId.{ProcId}
use Rattle.log_model.specs.declared.header.Header.{Header}
use Rattle.log_model.specs.declared.row_kind.LogRow.{LogRow}
use Rattle.log_model.specs.Logs.{seen_of, is_idle, is_still, is_quiet, is_prompt_up}
use Rattle.log_model.specs.Seen.{Seen, Document, Asked, desk_of, request_in}
use Rattle.log_model.specs.Views.{View}
use Rattle.history_log.proofs.StillLaws.{all_still, busy_found}
use Rattle.seen_laws.proofs.Sendings.{both}
use Rattle.seen_facts.specs.Each.Runs.{EachAsked}
use Rattle.tab_ids.specs.declared.DocId.{DocId}
use Rattle.log_model.specs.declared.outcome.Denial.{Denial}
use Rattle.log_model.specs.Causes.{denial_of_poke}
use Rattle.world.specs.Reaching.{Reaches}
use Rattle.world.specs.Steps.{reached_in}
use Rattle.world.specs.declared.state.State.{State}
use Rattle.proc_tables.specs.Desks.{desk_at}
use Rattle.proc_tables.specs.Views.{view_at}
use Rattle.world.specs.Open.{IsOpen}
use Rattle.world.proofs.Facts.{reached_there, reaches_none, tab}
use Rattle.seen_facts.specs.Asked.Asking.{IsAskedPlainly}
use Rattle.world.specs.Sited.{SomeWaits}
use Rattle.world.proofs.SitedLaws.{busy_sited}

-- ---- prompts

each_item : (test : Asked → Bool) (asked : List Asked) → ((i : ℕ) (q : Asked) → slice_get asked i ≡ Some q → test q ≡ true) → list_all test asked ≡ true
each_item test [] all = refl
each_item test (q ∷ asked) all = both (all zero q refl) (each_item test asked (λ i x at. all (suc i) x at))

none_up : (s : Seen) → HavePassed s → list_all (λ (q : Asked). not (is_prompt_up q)) s.requests ≡ true
none_up s passed = each_item (λ (q : Asked). not (is_prompt_up q)) s.requests (λ i q at. not_up q (leaves_freely s q (passed (record { 0 = i + 1 }) q (there i q at))))
  where
    there : (i : ℕ) (q : Asked) → slice_get s.requests i ≡ Some q → request_in s.requests (record { 0 = i + 1 }) ≡ Some q
    there i q at =
        let real : ((i + 1) == 0) ≡ false = grind (arith, nat_tests) in
        let back : (i + 1 - 1) ≡ i = omega arith in rw (real, back) at

    -- who may leave isn't asked, or has answered
    by_prompt : (prompted : Option DocId) (answered : Option Bool) (open_ : Bool) → (is_none prompted || holds not answered) ≡ true → not (is_some prompted && is_none answered && open_) ≡ true
    by_prompt None answered open_ is = refl
    by_prompt (Some doc) None open_ is = cc
    by_prompt (Some doc) (Some stay) open_ is = refl

    not_up : (q : Asked) → may_leave q ≡ true → not (is_prompt_up q) ≡ true
    not_up q is = by_prompt q.prompted q.answered (not (holds is_drop q.ending)) is

module _ (header : Header) (log : List LogRow) (t : State) (is : IsOpen header log t) where
  abbrev s : Seen
  s = seen_of log

  -- ---- the view

  pub view_here : (nav : NavId) (doc : DocId) → Reaches s nav doc → view_at t.views doc ≡ option_and_then (λ (d : Document). d.view) (reached_in s nav)
  view_here nav doc reaches =
      sym (is.holds.views doc)
      ∙ ap (λ (o : Option Document). option_and_then (λ (d : Document). d.view) o) reaches.found
      ∙ sym (ap (λ (o : Option Document). option_and_then (λ (d : Document). d.view) o) (reached_there s nav doc reaches))

  pub view_none : (nav : NavId) (reason : Denial) → denial_of_poke s nav ≡ Some reason → (let o : Option View = None in o) ≡ option_and_then (λ (d : Document). d.view) (reached_in s nav)
  view_none nav reason denied =
      sym (ap (λ (o : Option Document). option_and_then (λ (d : Document). d.view) o) (reaches_none s nav reason denied))

  -- ---- what is in transit

  module _ (idle : Bool) (all : idle ≡ true → (proc : ProcId) → is_idle (desk_at t.desks proc) ≡ true) (some : idle ≡ false → (proc : ProcId) × (is_idle (desk_at t.desks proc) ≡ false)) where
    pub still_is : idle ≡ is_still s
    still_is = by_test idle refl
      where
        by_test : (b : Bool) → idle ≡ b → idle ≡ is_still s
        by_test true e = e ∙ sym (all_still log (λ proc. ap is_idle (is.holds.desks proc) ∙ all e proc))
        by_test false e =
            let busy = some e in e ∙ sym (busy_found log busy.0 (ap is_idle (is.holds.desks busy.0) ∙ busy.1))

    -- what is in transit waits in a process of the settings
    pub some_waits : idle ≡ false → SomeWaits header s
    some_waits e =
        let busy = some e in
        let busy_ : is_idle (desk_of s busy.0) ≡ false = ap is_idle (is.holds.desks busy.0) ∙ busy.1 in
        record { proc = busy.0; sited = busy_sited header s busy.0 ((tab header log t is).desks busy.0) is.sited busy_; busy = busy_ }

    pub quiet_is : idle ≡ is_quiet s
    quiet_is =
        still_is ∙ sym (ap (λ (b : Bool). is_still s && b) (none_up s (tab header log t is).asked.passed) ∙ and_true (is_still s))
      where
        and_true : (b : Bool) → (b && true) ≡ b
        and_true true = refl
        and_true false = refl
