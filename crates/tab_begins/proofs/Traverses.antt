-- The turn of a traversal: what it leaves, read off the row that was put out.
use Rattle.seen_laws.proofs.InEvents.{now_at}
use Rattle.tab_doors.proofs.PassedOn.{refused_now}
use Rattle.seen_facts.proofs.Coord.Held.{on_else}
use Rattle.tab_facts.specs.Frame.Lasting.{Wish, wish}
use Rattle.seen_facts.specs.Load.Loading.{Look, is_ongoing, look, look_of}
use Rattle.log_model.specs.AfterRequests.{on_request, request_begun}
use Rattle.log_model.specs.History.{History}
use Rattle.log_model.specs.Once.{step_at_delta}
use Rattle.log_model.specs.Places.{aim_of, all_stand, is_load, is_traversal}
use Rattle.log_model.specs.Seen.{Asked, Seen, request_in}
use Rattle.log_model.specs.declared.row_kind.RowKind.{RowKind}
use Rattle.row_facts.proofs.Owed.Requests.{req_same}
use Rattle.seen_laws.specs.InEvent.{InEvent, now_of}
use Rattle.std.proofs.Common.{Bool, List, None, Option, Some, [], ap, false, refl, subst, sym, true, ℕ, ℤ, ◌&&◌, ◌++◌, ◌==◌, ◌∙◌, ◌∷◌, ◌≡◌}
use Rattle.std.proofs.lemmas.Bool.{and_parts}
use Rattle.std.specs.Prelude.{is_none, option_map}
use Rattle.tab_begins.proofs.Begins.{loads_move, open_then, passed_on, rows_on, strays_on}
use Rattle.tab_begins.specs.Taking.{AreOldLoads, GoesOn, HasBegun, KeepsStrays}
use Rattle.tab_doors.specs.declared.tables.Tables.{Tables}
use Rattle.tab_ids.specs.declared.ReqId.{ReqId}
use Rattle.tab_ids.specs.declared.Step.{Step}
pub use Rattle.tab_one_pass.proofs.Passes.{left_blamed}
use Rattle.tab_one_pass.specs.Passing.{HasPassed}
use Rattle.tab_one_pass.proofs.Calms.{aim_is}
use Rattle.tab_one_pass.specs.PassedOn.{InPass, IsPassing, IsTab}
pub use Rattle.tab_one_pass.proofs.PassedOn.{own_document}
use Rattle.tab_applies.proofs.PassedOn.{IsWaitingFirst, first_waits}
use Rattle.tab_applies.specs.PassedOn.{HasGone, IsFirst, WentTo}
use Rattle.tab_one_pass.proofs.PassedOn.{no_load}
use Rattle.log_model.specs.declared.outcome.Denial.TheVariants as denials
use Rattle.log_model.specs.declared.outcome.Ending.TheVariants as endings
use Rattle.log_model.specs.declared.row_kind.RowKind.TheVariants as rows

module _ (p : InPass) (out : List RowKind) (t : Tables) (passing : IsPassing p out t) (idle : t.running ≡ None) (req : ReqId) (delta : ℤ) (first : IsFirst (now_of p.event out) req delta) (stand : all_stand (now_of p.event out) (now_of p.event out).history.current ≡ true) (passed : HasPassed p.event (now_of p.event out)) (more : List RowKind) (u : Tables) (then_ : IsPassing p more u) (gone : HasGone p.event out more t u req delta) where
  abbrev e : InEvent
  e = p.event

  abbrev s : Seen
  s = now_of e out

  abbrev n : Seen
  n = now_of e more

  tab : IsTab None p.loads p.hand s
  tab = subst (λ (r : Option ReqId). IsTab r p.loads p.hand s) idle passing.going.tab

  its : IsWaitingFirst s req delta
  its = first_waits None p.loads p.hand s tab req delta first

  aim_was : aim_of s ≡ s.history.current
  aim_was = aim_is s None tab.asked t.goal (λ r q never found. absurd (let no_ : None ≡ Some r = never in cc))

  -- the traversal is no load, before and then
  no_look : (l : Look) → is_traversal l.what ≡ true → is_ongoing l ≡ true → ⊥
  no_look l goes on =
      let never : true ≡ false = sym (and_parts (l.is_started && is_none l.ending) (is_load l.what) on).1 ∙ no_load l.what goes in cc

  own_was : (l : Look) → look_of s req ≡ Some l → is_traversal l.what ≡ true
  own_was l at =
      let two : Some (look its.q) ≡ Some l = sym (ap (option_map look) its.at) ∙ at in
      let one : look its.q ≡ l = cc in
      ap (λ (x : Look). is_traversal x.what) (sym one) ∙ its.goes

  own_then : (l : Look) → look_of n req ≡ Some l → is_traversal l.what ≡ true
  own_then l at = by_found (request_in n.requests req) refl
    where
      by_found : (o : Option Asked) → request_in n.requests req ≡ o → is_traversal l.what ≡ true
      by_found None none = let never : None ≡ Some l = sym (ap (option_map look) none) ∙ at in absurd cc
      by_found (Some x) found =
          let wishes : Some (wish x) ≡ Some (wish its.q) = sym (ap (option_map wish) found) ∙ gone.alone.wishes req ∙ ap (option_map wish) its.at in
          let same : wish x ≡ wish its.q = cc in
          let two : Some (look x) ≡ Some l = sym (ap (option_map look) found) ∙ at in
          let one : look x ≡ l = cc in
          ap (λ (y : Look). is_traversal y.what) (sym one) ∙ ap (λ (w : Wish). is_traversal w.what) same ∙ its.goes

  module _ (other : (r : ReqId) → (r.0 == req.0) ≡ false → look_of n r ≡ look_of s r) where
    loads : (r : ReqId) (l : Look) → look_of n r ≡ Some l → is_ongoing l ≡ true → look_of s r ≡ Some l
    loads r l at on = by_own (r.0 == req.0) refl
      where
        by_own : (b : Bool) → (r.0 == req.0) ≡ b → look_of s r ≡ Some l
        by_own true same = absurd (no_look l (own_then l (ap (λ (x : ReqId). look_of n x) (sym (req_same r req same)) ∙ at)) on)
        by_own false apart = sym (other r apart) ∙ at

    still : (r : ReqId) (l : Look) → look_of s r ≡ Some l → is_ongoing l ≡ true → look_of n r ≡ Some l
    still r l at on = by_own (r.0 == req.0) refl
      where
        by_own : (b : Bool) → (r.0 == req.0) ≡ b → look_of n r ≡ Some l
        by_own true same = absurd (no_look l (own_was l (ap (λ (x : ReqId). look_of s x) (sym (req_same r req same)) ∙ at)) on)
        by_own false apart = other r apart ∙ at

    strays : KeepsStrays s n
    strays =
        record {
          left = λ blame left. strays_on p s n gone.alone loads still passed blame left;
          blamed = λ blame left. left_blamed n blame (rows_on p s n gone.alone loads still passed) (λ nav place doc d at wakes found. own_document u.running p.loads p.hand n then_.going.tab nav place doc d at wakes found) (strays_on p s n gone.alone loads still passed blame left);
        }

    goes_begun : (run : ReqId) → u.running ≡ Some run → GoesOn e u.running n
    goes_begun run ran =
        subst (λ (r : Option ReqId). GoesOn e r n) (sym ran) begun
      where
        tab_n : IsTab (Some run) p.loads p.hand n
        tab_n = subst (λ (r : Option ReqId). IsTab r p.loads p.hand n) ran then_.going.tab

        stood : all_stand s (aim_of s) ≡ true
        stood = ap (all_stand s) aim_was ∙ stand

        begun : HasBegun e run n
        begun =
            record {
              open_ = λ cause may. open_then p s n gone.alone loads still passed tab run tab_n (passed.walked.unwoken stood) (passed.walked.still stood) cause may;
              loads = loads_move p s n gone.alone loads still passed tab run tab_n;
            }

    goes_refused : u.running ≡ None → GoesOn e u.running n
    goes_refused none =
        subst (λ (r : Option ReqId). GoesOn e r n) (sym none) (passed_on p s n gone.alone loads still passed aim_same (λ all. ap (all_stand s) aim_was ∙ stand))
      where
        tab_n : IsTab None p.loads p.hand n
        tab_n = subst (λ (r : Option ReqId). IsTab r p.loads p.hand n) none then_.going.tab

        aim_same : aim_of n ≡ aim_of s
        aim_same =
            aim_is n None tab_n.asked t.goal (λ r q never found. absurd (let no_ : None ≡ Some r = never in cc))
            ∙ ap (λ (h : History). h.current) gone.history
            ∙ sym aim_was

  -- ---- the row

  begin : Step → Asked → Asked
  begin goal q = record q { is_started = true; goal = Some goal }

  begun_other : (goal : Step) → more ≡ out ++ rows.Started req (Some goal) ∷ [] → (r : ReqId) → (r.0 == req.0) ≡ false → look_of n r ≡ look_of s r
  unfolding begin
  begun_other goal is r apart =
      ap (λ (x : Seen). look_of x r) (now_at e out (rows.Started req (Some goal)) more is then_.work.goes)
      ∙ ap (option_map look) (on_else (on_request req (begin goal) s.requests) req (request_begun s) r apart ∙ on_else s.requests req (begin goal) r apart)

  refused_other : more ≡ out ++ rows.Refused req denials.NoStep ∷ [] → (r : ReqId) → (r.0 == req.0) ≡ false → look_of n r ≡ look_of s r
  refused_other is r apart =
      ap (λ (x : Seen). look_of x r) (ap (λ (l : List RowKind). now_of e l) is ∙ refused_now e out req denials.NoStep)
      ∙ ap (option_map look) (on_else s.requests req (λ (q : Asked). record q { ending = Some (endings.Refused denials.NoStep) }) r apart)

  -- either
  record WasTurn : Type 0 where
    other : (r : ReqId) → (r.0 == req.0) ≡ false → look_of n r ≡ look_of s r
    goes : GoesOn e u.running n

  turn : WasTurn
  turn = by_step (step_at_delta s delta) gone.went
    where
      by_step : (o : Option ℕ) → WentTo out more t u req o → WasTurn
      by_step None went =
          record {
            other = refused_other went.0;
            goes = goes_refused (refused_other went.0) (ap (λ (x : Tables). x.running) went.1 ∙ idle);
          }
      by_step (Some step) went =
          record {
            other = begun_other (record { 0 = step }) went.0;
            goes = goes_begun (begun_other (record { 0 = step }) went.0) req (ap (λ (x : Tables). x.running) went.1);
          }

  pub goes_on : GoesOn e u.running n
  unfolding turn
  goes_on = turn.goes

  pub old_loads : AreOldLoads s n
  old_loads = loads turn.other

  pub keeps_strays : KeepsStrays s n
  keeps_strays = strays turn.other
