-- The report of an answer is delivered: what it leaves of the questions.
use Rattle.std.proofs.Common.{◌≡◌, ℕ, Bool, true, false, cond, ◌||◌, ◌==◌, List, [], ◌∷◌, map, Option, Some, refl, sym, ap, ◌∙◌, subst, arith}
use Rattle.std.specs.Prelude.{option_map, slice_get}
use Rattle.std.specs.List.{list_all}
use Rattle.std.proofs.lemmas.Bool.{and_parts}
use Rattle.std.proofs.lemmas.Bool.Decides.{nat_tests}
use Rattle.tab_ids.specs.declared.DocId.{DocId}
use Rattle.tab_ids.specs.declared.JobId.{JobId}
use Rattle.tab_ids.specs.declared.ProcId.{ProcId}
use Rattle.tab_ids.specs.declared.ReqId.{ReqId}
use Rattle.log_model.specs.declared.handler.Verdict.{Verdict}
use Rattle.log_model.specs.declared.job.Job.{Job}
use Rattle.log_model.specs.declared.job.Why.TheVariants as whys
use Rattle.log_model.specs.declared.made.Made.{Made}
use Rattle.log_model.specs.declared.made.Report.TheVariants as reports
use Rattle.log_model.specs.declared.outcome.Outcome.TheVariants as outcomes
use Rattle.log_model.specs.declared.row_kind.Actor.{Actor}
use Rattle.log_model.specs.declared.row_kind.RowKind.TheVariants as rows
use Rattle.log_model.specs.Seen.{Seen, Asked, Asking, desk_of, request_in, request_of}
use Rattle.log_model.specs.After.{after}
use Rattle.log_model.specs.AfterRequests.{on_request}
use Rattle.log_model.specs.Places.{is_gone, is_settled_asking, all_asked}
use Rattle.seen_facts.proofs.Coord.Held.{on_else}
use Rattle.seen_facts.proofs.Request.LookUps.{on_itself}
use Rattle.seen_facts.proofs.Request.Readers.{SameReads, on_read}
use Rattle.check_facts.proofs.Gones.{row_gone}
use Rattle.check_facts.proofs.Rows.{drops_none, is_dropped, settled_more}
use Rattle.check_facts.specs.Checking.{heard}
use Rattle.check_facts.specs.Prompting.{DropsNone, KeepsQuestions, SameQuestions, silent}

-- a question more has its answer heard: a prompt reads the same, and what was settled is

silent_heard : (job : JobId) (asks : List Asking) → map silent (map (heard job) asks) ≡ map silent asks
silent_heard job [] = refl
silent_heard job (asking ∷ asks) = rw (one (asking.job.0 == job.0), silent_heard job asks) refl
  where
    one : (b : Bool) → silent (cond b (record asking { is_delivered = true }) asking) ≡ silent asking
    one true = refl
    one false = refl

settled_heard : (gone : DocId → Bool) (job : JobId) (asks : List Asking) → list_all (is_settled_asking gone) asks ≡ true → list_all (is_settled_asking gone) (map (heard job) asks) ≡ true
settled_heard gone job [] e = refl
settled_heard gone job (asking ∷ asks) e =
    let parts = and_parts (is_settled_asking gone asking) (list_all (is_settled_asking gone) asks) e in
    rw (one (asking.job.0 == job.0) parts.0, settled_heard gone job asks parts.1) refl
  where
    one : (b : Bool) → (asking.is_delivered || gone asking.doc) ≡ true → is_settled_asking gone (cond b (record asking { is_delivered = true }) asking) ≡ true
    one true f = refl
    one false f = f

module _ (s : Seen) (event : ℕ) (actor : Actor) (proc : ProcId) (job : Job) (verdict : Verdict) (made : Option Made) (first : slice_get (desk_of s proc).reports 0 ≡ Some (reports.Done job (outcomes.Asked verdict) made)) (r : ReqId) (why : job.why ≡ whys.Req r) where
  abbrev pub hearing : Seen
  hearing = after s (record { event = event; actor = actor; row = rows.Delivered proc })

  abbrev pub answered : Asked → Asked
  answered q = record q { asks = map (heard job.nr) q.asks }

  pub requests_are : hearing.requests ≡ on_request r answered s.requests
  requests_are = rw first (rw why refl)

  documents_stay : hearing.documents ≡ s.documents
  documents_stay = rw first refl

  -- who is gone is the same
  pub gone_same : (doc : DocId) → is_gone hearing doc ≡ is_gone s doc
  gone_same doc = rw first refl

  -- the request that was asked for has heard one answer more; the others are as they were
  pub request_heard : (req : ReqId) (q : Asked) → request_of s req ≡ Some q → request_of hearing req ≡ Some (cond (req.0 == r.0) (answered q) q)
  request_heard req q found = by_number (req.0 == r.0) refl
    where
      by_number : (b : Bool) → (req.0 == r.0) ≡ b → request_of hearing req ≡ Some (cond b (answered q) q)
      by_number true e =
          let it : req ≡ r = ap (λ (n : ℕ). let y : ReqId = record { 0 = n } in y) (let n : req.0 ≡ r.0 = grind (arith, nat_tests, e) in n) in
          let own : request_in s.requests r ≡ Some q = subst (λ (x : ReqId). request_in s.requests x ≡ Some q) it found in
          ap (λ (l : List Asked). request_in l req) requests_are
          ∙ ap (λ (y : ReqId). request_in (on_request r answered s.requests) y) it
          ∙ on_itself s.requests r answered
          ∙ ap (λ (o : Option Asked). option_map answered o) own
      by_number false e = ap (λ (l : List Asked). request_in l req) requests_are ∙ on_else s.requests r answered req e ∙ found

  pub heard_drops : DropsNone s hearing
  heard_drops =
      drops_none s hearing (subst (λ (l : List Asked). SameReads is_dropped s.requests l) (sym requests_are) (on_read is_dropped s.requests r answered (λ q. refl)))

  pub heard_keeps : KeepsQuestions s hearing
  heard_keeps =
      record {
        later = λ req q found. (record {
          after_ = cond (req.0 == r.0) (answered q) q;
          found = request_heard req q found;
          same = same (req.0 == r.0) q;
          settled = settled (req.0 == r.0) q;
        });
        gone = row_gone s event actor (rows.Delivered proc) tt;
      }
    where
      same : (b : Bool) (q : Asked) → SameQuestions q (cond b (answered q) q)
      same true q = record { nr = refl; asks = silent_heard job.nr q.asks; prompted = refl; dropped = λ is. is }
      same false q = record { nr = refl; asks = refl; prompted = refl; dropped = λ is. is }

      move : (asks : List Asking) → list_all (is_settled_asking (is_gone s)) asks ≡ true → list_all (is_settled_asking (is_gone hearing)) asks ≡ true
      move asks e = settled_more s hearing asks (λ doc is. gone_same doc ∙ is) e

      settled : (b : Bool) (q : Asked) → all_asked s q ≡ true → all_asked hearing (cond b (answered q) q) ≡ true
      settled true q e = move (map (heard job.nr) q.asks) (settled_heard (is_gone s) job.nr q.asks e)
      settled false q e = move q.asks e
