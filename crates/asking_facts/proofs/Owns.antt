-- An event's own row that is beside the checks: a request is accepted, a document evicted, or a report is delivered that tells no answer and no death. What is carried of prompts begins with it.
use Rattle.std.proofs.Common.{◌≡◌, inl, ℕ, ◌+◌, Bool, true, false, ◌&&◌, ◌||◌, ◌==◌, List, [], ◌∷◌, ◌++◌, length, slice_get, Option, Some, None, refl, sym, ap, ◌∙◌, subst}
use Rattle.std.specs.Prelude.{option_map}
use Rattle.std.specs.List.{list_all}
use Rattle.tab_ids.specs.declared.DocId.{DocId}
use Rattle.tab_ids.specs.declared.ProcId.{ProcId}
use Rattle.tab_ids.specs.declared.ReqId.{ReqId}
use Rattle.tab_ids.specs.declared.StateId.{StateId}
use Rattle.log_model.specs.declared.made.Report.{Report}
use Rattle.log_model.specs.declared.made.Report.TheVariants as reports
use Rattle.log_model.specs.declared.outcome.Outcome.{Outcome}
use Rattle.log_model.specs.declared.outcome.Outcome.TheVariants as outcomes
use Rattle.log_model.specs.declared.request.Request.{Request}
use Rattle.log_model.specs.declared.row_kind.Actor.{Actor}
use Rattle.log_model.specs.declared.row_kind.LogRow.{LogRow}
use Rattle.log_model.specs.declared.row_kind.RowKind.TheVariants as rows
use Rattle.log_model.specs.After.{after, new_request}
use Rattle.log_model.specs.AfterRequests.{requests_delivered}
use Rattle.log_model.specs.Equal.{holds}
use Rattle.log_model.specs.Outcomes.{is_drop}
use Rattle.log_model.specs.Places.{all_asked, is_gone}
use Rattle.log_model.specs.Seen.{Asked, Seen, desk_of, request_in, request_of}
use Rattle.unload_check.specs.Checks.{OpenCheck, check_of}
use Rattle.seen_laws.proofs.InEvents.{uncut_rows}
use Rattle.seen_laws.specs.Blocks.{EachPass}
use Rattle.seen_laws.specs.InEvent.{InEvent, row_of, start_of}
use Rattle.seen_facts.proofs.Coord.Held.{fun_ext}
use Rattle.seen_facts.proofs.Request.LookUps.{none_before, one_more, others_before}
use Rattle.seen_facts.proofs.Walk.Aims.{gone_on}
use Rattle.row_facts.specs.FrameRows.Lawful.{IsRestOf}
use Rattle.check_facts.proofs.Begins.{OwnPasses, begins}
use Rattle.check_facts.proofs.Checkings.{all_go}
use Rattle.check_facts.proofs.Keeping.{accepted_has, has_stays}
use Rattle.check_facts.proofs.Notings.{tied_held}
use Rattle.check_facts.proofs.Ties.{all_same, tied_same}
use Rattle.check_facts.specs.Checking.{checked_of, is_checking}
use Rattle.check_facts.specs.Having.{HasChecks, OpenChecked}
use Rattle.check_facts.specs.Prompting.{DropsNone, KeepsQuestions, had_settled, has_settled, todo_of}
use Rattle.check_facts.specs.Prompting as prompting
use Rattle.checking_facts.proofs.Grown.{req_same}
use Rattle.checking_facts.proofs.Steps.{same_drops}
use Rattle.checking_facts.specs.Checks.{IsPlainReport}
use Rattle.checking_facts.specs.Prompts.{AreAskedDuly, PassIf}
use Rattle.asking_facts.proofs.Heard.{pass_none}

never : {A : Type 0} → true ≡ false → A
never e = absurd cc

some_same : {A : Type 0} {a b : A} → (let o : Option A = Some a in o) ≡ Some b → a ≡ b
some_same e = cc

-- ---- it passes

-- a row that settles nothing, whatever is noted
pub own_pass : (Rest : List LogRow → Type 0) (e : InEvent) (todo : ReqId → Option DocId) → e.before ≡ [] → ((later : List LogRow) → IsRestOf e [] later → Rest later → EachPass (start_of e) (row_of e e.own ∷ []) later) → PassIf Rest e todo []
unfolding PassIf
own_pass Rest e todo uncut passes later rest =
    subst (λ (l : List LogRow). EachPass (start_of e) l later) (sym (uncut_rows e [] uncut)) (passes later rest.0.rest rest.1)

-- a report, if the prompts that it makes due come
pub report_pass : (Rest : List LogRow → Type 0) (e : InEvent) (es : List (ReqId × OpenCheck)) → e.before ≡ [] → HasChecks e.start es → KeepsQuestions e.start (after e.start (row_of e e.own)) → DropsNone e.start (after e.start (row_of e e.own)) → OwnPasses e → PassIf Rest e (todo_of es) []
report_pass Rest e es uncut has keeps drops passes =
    pass_none Rest e (todo_of es) [] (begins e es uncut has keeps drops passes)

-- ---- what is carried of prompts

-- of a table that is tied after the row, where nobody is settled by it
pub from_tied : (checking : ReqId → Bool) (s t : Seen) (es : List (ReqId × OpenCheck)) → HasChecks t es → OpenChecked t → ((req : ReqId) → checking req ≡ false → check_of req es ≡ None) → prompting.StaySettled s t → ((req : ReqId) (q : Asked) → request_of t req ≡ Some q → has_settled t q ≡ true → had_settled s req ≡ true) → AreAskedDuly checking s t (record { checks = es; run = [] })
from_tied checking s t es has checked within stays settled =
    record {
      within = within;
      stays = stays;
      prompted = has.prompted;
      run = record {
        was = t;
        all = es;
        same = λ req. inl refl;
        held = tied_held t es has.tied;
        said = has.said;
        numbered = has.numbered;
        prompted = has.prompted;
        checked = checked;
        nothing = λ req q at fresh is un none. never (sym (settled req q at is) ∙ fresh);
        asks = λ r. refl;
        reads = λ r. refl;
        drops = same_drops t;
        gone = λ doc is. is;
        goes = λ r x at. all_go (is_gone t) (is_gone t) [] (λ doc. refl) x.asks;
      };
    }

-- where all that a check reads is as it was
pub same_duly : (checking : ReqId → Bool) (s t : Seen) (es : List (ReqId × OpenCheck)) → ((doc : DocId) → is_gone t doc ≡ is_gone s doc) → t.requests ≡ s.requests → HasChecks s es → OpenChecked s → ((req : ReqId) → checking req ≡ false → check_of req es ≡ None) → AreAskedDuly checking s t (record { checks = es; run = [] })
same_duly checking s t es gone requests has checked within =
    from_tied checking s t es (has_stays s t es gone (λ r. ap (λ (o : Option Asked). option_map checked_of o) (same r)) has) checked_then within (λ req had. as_then req ∙ had) (λ req q at is. sym (as_then req) ∙ (ap (λ (o : Option Asked). holds (has_settled t) o) at ∙ is))
  where
    same : (r : ReqId) → request_of t r ≡ request_of s r
    same r = ap (λ (l : List Asked). request_in l r) requests

    all_gone : is_gone t ≡ is_gone s
    all_gone = fun_ext gone

    settled_as : (x : Asked) → has_settled t x ≡ has_settled s x
    settled_as x = ap (λ (g : DocId → Bool). prompting.is_asked x.asks && list_all (λ a. a.is_delivered || g a.doc) x.asks) all_gone

    as_found : (o : Option Asked) → holds (has_settled t) o ≡ holds (has_settled s) o
    as_found None = refl
    as_found (Some x) = settled_as x

    as_then : (req : ReqId) → had_settled t req ≡ had_settled s req
    as_then req = ap (λ (o : Option Asked). holds (has_settled t) o) (same req) ∙ as_found (request_of s req)

    checked_then : OpenChecked t
    checked_then req x at is_open un =
        checked req x (sym (same req) ∙ at) (sym (all_same s t x x all_gone refl) ∙ is_open) (tied_same t s x x (sym all_gone) refl None un)

-- a document is evicted
pub evicted_duly : (checking : ReqId → Bool) (s : Seen) (event : ℕ) (actor : Actor) (state : StateId) (es : List (ReqId × OpenCheck)) → HasChecks s es → OpenChecked s → ((req : ReqId) → checking req ≡ false → check_of req es ≡ None) → AreAskedDuly checking s (after s (record { event = event; actor = actor; row = rows.Evicted state })) (record { checks = es; run = [] })
evicted_duly checking s event actor state es has checked within =
    same_duly checking s (after s (record { event = event; actor = actor; row = rows.Evicted state })) es (λ doc. refl) refl has checked within

-- ---- a report that tells no answer and no death

plain_requests : (report : Option Report) (asked : List Asked) → IsPlainReport report → requests_delivered report asked ≡ asked
plain_requests None asked is = refl
plain_requests (Some (reports.Made made)) asked is = refl
plain_requests (Some (reports.Died death)) asked is = refl
plain_requests (Some (reports.Done job outcome made)) asked is = by_outcome outcome is
  where
    by_outcome : (o : Outcome) → IsPlainReport (Some (reports.Done job o made)) → requests_delivered (Some (reports.Done job o made)) asked ≡ asked
    by_outcome (outcomes.Asked verdict) never_ = absurd never_
    by_outcome (outcomes.Populated slot) is = refl
    by_outcome outcomes.Activated is = refl
    by_outcome outcomes.Updated is = refl
    by_outcome outcomes.Frozen is = refl
    by_outcome outcomes.Discarded is = refl
    by_outcome outcomes.Fragmented is = refl

module _ (s : Seen) (event : ℕ) (actor : Actor) (proc : ProcId) where
  abbrev told_then : Seen
  told_then = after s (record { event = event; actor = actor; row = rows.Delivered proc })

  plain_gone : (report : Option Report) → slice_get (desk_of s proc).reports 0 ≡ report → IsPlainReport report → (doc : DocId) → is_gone told_then doc ≡ is_gone s doc
  plain_gone None first is doc = rw first refl
  plain_gone (Some (reports.Made made)) first is doc = rw first refl
  plain_gone (Some (reports.Died death)) first is doc = absurd is
  plain_gone (Some (reports.Done job outcome made)) first is doc = by_outcome outcome first
    where
      by_outcome : (o : Outcome) → slice_get (desk_of s proc).reports 0 ≡ Some (reports.Done job o made) → is_gone told_then doc ≡ is_gone s doc
      by_outcome (outcomes.Populated slot) e =
          gone_on s told_then job.doc (λ d. record d { is_ready = true; is_fresh = true }) (rw e refl) (λ d. refl) (λ d. refl) doc
      by_outcome outcomes.Activated e = rw e refl
      by_outcome outcomes.Updated e = rw e refl
      by_outcome outcomes.Frozen e = rw e refl
      by_outcome outcomes.Discarded e = rw e refl
      by_outcome (outcomes.Asked verdict) e = rw e refl
      by_outcome outcomes.Fragmented e = rw e refl

  pub report_duly : (checking : ReqId → Bool) (es : List (ReqId × OpenCheck)) → IsPlainReport (slice_get (desk_of s proc).reports 0) → HasChecks s es → OpenChecked s → ((req : ReqId) → checking req ≡ false → check_of req es ≡ None) → AreAskedDuly checking s told_then (record { checks = es; run = [] })
  report_duly checking es plain has checked within =
      same_duly checking s told_then es (plain_gone (slice_get (desk_of s proc).reports 0) refl plain) (plain_requests (slice_get (desk_of s proc).reports 0) s.requests plain) has checked within

-- ---- a request is accepted

pub accepted_duly : (checking : ReqId → Bool) (s : Seen) (event : ℕ) (actor : Actor) (req : ReqId) (doc : Option DocId) (what : Request) (es : List (ReqId × OpenCheck)) → req.0 ≡ length s.requests + 1 → HasChecks s es → OpenChecked s → ((r : ReqId) → checking r ≡ false → check_of r es ≡ None) → AreAskedDuly checking s (after s (record { event = event; actor = actor; row = rows.Accepted req doc what })) (record { checks = es; run = [] })
accepted_duly checking s event actor req doc what es nr has checked within =
    from_tied checking s t es (accepted_has s event actor es req doc what nr has) checked_then within stays settled
  where
    t : Seen
    t = after s (record { event = event; actor = actor; row = rows.Accepted req doc what })

    new : Asked
    new = new_request req doc what

    -- a request is the new one, or as it was
    by_number : (P : Option Asked → Type 0) (r : ReqId) → P (Some new) → P (request_of s r) → P (request_of t r)
    by_number P r fresh old = cases (req.0 == r.0) refl
      where
        cases : (b : Bool) → (req.0 == r.0) ≡ b → P (request_of t r)
        cases false e = subst P (sym (others_before s.requests new req nr r e)) old
        cases true e =
            let it : req ≡ r = req_same req r e in
            subst P (sym (ap (λ (x : ReqId). request_in (s.requests ++ new ∷ []) x) (sym it) ∙ one_more s.requests new req nr)) fresh

    checked_then : OpenChecked t
    checked_then r x at is_open un =
        by_number (λ o. o ≡ Some x → all_asked t x ≡ false → is_checking t x ≡ false → holds is_drop x.ending ≡ true) r (λ is o u. (let one : new ≡ x = some_same is in never (ap (all_asked t) one ∙ o))) (λ was o u. checked r x was o u) at is_open un

    stays : prompting.StaySettled s t
    stays r had = by_found (request_of s r) refl had
      where
        by_found : (o : Option Asked) → request_of s r ≡ o → holds (has_settled s) o ≡ true → had_settled t r ≡ true
        by_found None was is = cc
        by_found (Some q) was is =
            let there : request_of t r ≡ Some q = by_there (req.0 == r.0) refl q was in
            ap (λ (o : Option Asked). holds (has_settled t) o) there ∙ is
          where
            by_there : (b : Bool) → (req.0 == r.0) ≡ b → (x : Asked) → request_of s r ≡ Some x → request_of t r ≡ Some x
            by_there false e x at = others_before s.requests new req nr r e ∙ at
            by_there true e x at =
                let it : req ≡ r = req_same req r e in
                let none : request_of s r ≡ None = ap (λ (n : ReqId). request_of s n) (sym it) ∙ none_before s.requests new req nr in
                let both : (let o : Option Asked = None in o) ≡ Some x = sym none ∙ at in
                absurd cc

    settled : (r : ReqId) (x : Asked) → request_of t r ≡ Some x → has_settled t x ≡ true → had_settled s r ≡ true
    settled r x at is =
        by_number (λ o. o ≡ Some x → had_settled s r ≡ true) r (λ same. (let one : new ≡ x = some_same same in never (sym is ∙ ap (has_settled t) (sym one)))) (λ was. ap (λ (o : Option Asked). holds (has_settled s) o) was ∙ is) at
