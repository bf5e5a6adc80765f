-- A request that is no load begins and asks: the table of loads in their checks stays as it is.
use Rattle.asking_facts.proofs.Begun.{block_log}
use Rattle.asking_facts.proofs.Sent.{when_asked}
use Rattle.asking_facts.specs.Asking.{begun_asking}
use Rattle.checking_facts.proofs.Grown.{req_same}
use Rattle.checking_facts.specs.Checks.{SameBut}
use Rattle.log_model.specs.After.{after}
use Rattle.log_model.specs.AfterRequests.{on_request, request_begun}
use Rattle.log_model.specs.Once.{loads}
use Rattle.log_model.specs.Places.{is_load, is_ongoing_load, is_under_way}
use Rattle.log_model.specs.Seen.{Asked, Seen, request_of}
use Rattle.log_model.specs.declared.job.Job.{Job}
use Rattle.log_model.specs.declared.request.Request.{Request}
use Rattle.log_model.specs.declared.row_kind.RowKind.TheVariants as rows
use Rattle.log_model.specs.declared.row_kind.RowKind.{RowKind}
use Rattle.seen_facts.proofs.Coord.Held.{on_else}
use Rattle.seen_facts.proofs.Each.Courses.{was_asked}
use Rattle.seen_facts.proofs.LoadTies.Leaves.{Traced, goes_on, read_as, traced, traced_of}
use Rattle.seen_facts.proofs.Request.Readers.{SameReads, on_read, reads_then}
use Rattle.seen_facts.specs.LoadTies.Tying.{HasLoad}
use Rattle.seen_laws.specs.InEvent.{InEvent, log_of, row_of}
use Rattle.std.proofs.Common.{Bool, List, Option, Some, [], ap, false, refl, subst, sym, true, ◌++◌, ◌==◌, ◌∙◌, ◌∷◌, ◌≡◌}
use Rattle.std.proofs.lemmas.Bool.{and_parts}
use Rattle.std.specs.Prelude.{option_map}
use Rattle.tab_doors.proofs.AskingLoads.{asking_still, off_apart, row_asking}
use Rattle.tab_doors.specs.AskingLoads.{TiesAsking}
use Rattle.tab_doors.specs.declared.tables.Tables.{Tables}
use Rattle.tab_ids.specs.declared.NavId.{NavId}
use Rattle.tab_ids.specs.declared.ReqId.{ReqId}
use Rattle.tab_ids.specs.declared.Step.{Step}

module _ (e : InEvent) (out : List RowKind) (t : Tables) (checking entered : ReqId → Bool) (ties : TiesAsking checking (log_of e out) t.asking) (req : ReqId) (goal : Option Step) (q : Asked) (at : request_of (log_of e out) req ≡ Some q) (no_load : is_load q.what ≡ false) (same : SameBut req checking entered) (off : checking req ≡ false) (on : entered req ≡ true) where
  abbrev s : Seen
  s = log_of e out

  abbrev begin : Asked → Asked
  begin x = record x { is_started = true; goal = goal }

  abbrev mid : Seen
  mid = after s (row_of e (rows.Started req goal))

  others : (r : ReqId) → (r.0 == req.0) ≡ false → traced_of mid r ≡ traced_of s r
  others r apart =
      ap (λ (o : Option Asked). option_map traced o) (on_else (on_request req begin s.requests) req (request_begun s) r apart ∙ on_else s.requests req begin r apart)

  whats : SameReads (λ (x : Asked). x.what) s.requests mid.requests
  whats =
      reads_then (λ (x : Asked). x.what) s.requests (on_request req begin s.requests) mid.requests (on_read (λ (x : Asked). x.what) s.requests req begin (λ x. refl)) (on_read (λ (x : Asked). x.what) (on_request req begin s.requests) req (request_begun s) (λ x. refl))

  -- it is no ongoing load then
  own : (x : Asked) → request_of mid req ≡ Some x → is_ongoing_load x ≡ true → ⊥
  own x found going =
      let w = was_asked (λ (y : Asked). y.what) s.requests mid.requests whats req x found in
      let both : Some w.0 ≡ Some q = sym w.1 ∙ at in
      let one : w.0 ≡ q = cc in
      let never : false ≡ true = sym no_load ∙ ap (λ (y : Asked). is_load y.what) (sym one) ∙ ap (λ (r : Request). is_load r) w.2 ∙ (and_parts (is_under_way x) (is_load x.what) going).1 in
      cc

  in_mid : TiesAsking entered mid t.asking
  in_mid =
      record {
        there = λ nav load found. (let tied = ties.there nav load found in
            let still = asking_still checking s mid load (others load.req (off_apart checking load.req req tied.on off)) tied in
            record { q = still.q; found = still.found; on = same load.req (off_apart checking load.req req tied.on off) ∙ still.on; ongoing = still.ongoing; mode = still.mode; what = still.what; state = still.state; replace = still.replace; phase = still.phase });
        all = λ r x nav found checks going of_nav. by_number r x nav found checks going of_nav (r.0 == req.0) refl;
      }
    where
      by_number : (r : ReqId) (x : Asked) (nav : NavId) → request_of mid r ≡ Some x → entered r ≡ true → is_ongoing_load x ≡ true → loads nav x.what ≡ true → (b : Bool) → (r.0 == req.0) ≡ b → HasLoad t.asking nav r
      by_number r x nav found checks going of_nav true is =
          absurd (own x (ap (λ (n : ReqId). request_of mid n) (sym (req_same r req is)) ∙ found) going)
      by_number r x nav found checks going of_nav false apart =
          let w = read_as s r (traced x) (sym (others r apart) ∙ ap (λ (o : Option Asked). option_map traced o) found) in
          ties.all r w.q nav w.found (sym (same r apart) ∙ checks) (ap goes_on w.is ∙ going) (ap (λ (l : Traced). loads nav l.what) w.is ∙ of_nav)

  asked_then : (x : Seen) (jobs : List Job) → TiesAsking entered x t.asking → TiesAsking entered (when_asked e x jobs) t.asking
  asked_then x [] tied = tied
  asked_then x (job ∷ jobs) tied =
      asked_then (after x (row_of e (rows.Sent job))) jobs (row_asking entered x e.event e.actor t.asking tied (rows.Sent job) tt)

  pub asking_begun : (jobs : List Job) → TiesAsking entered (log_of e (out ++ begun_asking req goal jobs)) t.asking
  asking_begun jobs =
      subst (λ (x : Seen). TiesAsking entered x t.asking) (sym (block_log e out req goal jobs)) (asked_then mid jobs in_mid)
