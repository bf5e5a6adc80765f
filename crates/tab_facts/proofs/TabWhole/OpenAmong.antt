-- Those of the requests at hand that haven't ended, from row to row: a row that ends none leaves them, and one that ends a request takes it out of them.
use Rattle.seen_facts.proofs.Coord.Held.{fun_ext, on_else}
use Rattle.seen_facts.proofs.Coord.Unread.{next}
use Rattle.seen_facts.proofs.Entry.Skips.{without_made}
use Rattle.tab_facts.proofs.FrameWhole.Ending.{reqs_of, reqs_without}
use Rattle.seen_facts.specs.LoadWhereabouts.Whereabouts.{AreLoadsOnce}
use Rattle.log_model.specs.After.{ended, new_request}
use Rattle.log_model.specs.AfterRequests.{entries_taken, on_request, request_begun, without_req}
use Rattle.log_model.specs.Equal.{holds}
use Rattle.log_model.specs.Seen.{Asked, Seen, desk_of, request_in}
use Rattle.log_model.specs.declared.change.Change.{Change}
use Rattle.log_model.specs.declared.job.Job.{Job}
use Rattle.log_model.specs.declared.made.Made.{Made}
use Rattle.log_model.specs.declared.outcome.Ending.{Ending}
use Rattle.log_model.specs.declared.outcome.Ending.TheVariants as endings
use Rattle.log_model.specs.declared.outcome.Outcome.{Outcome}
use Rattle.log_model.specs.declared.request.Request.{Request}
use Rattle.log_model.specs.declared.row_kind.Actor.{Actor}
use Rattle.log_model.specs.declared.row_kind.RowKind.TheVariants as rows
use Rattle.seen_facts.proofs.LoadWhereabouts.Counts.{req_same}
use Rattle.seen_facts.proofs.Request.LookUps.{none_before, on_itself, one_more, others_before}
use Rattle.seen_facts.proofs.Request.Readers.{IsBlind, SameReads, delivered_reads, finished_reads, on_read, reads_then, sent_reads}
use Rattle.seen_facts.specs.Request.Whereabouts.{AreOnce, times, times_due}
use Rattle.std.proofs.Common.{Bool, List, None, Option, Some, [], ap, arith, cond, false, length, refl, subst, sym, true, ℕ, ◌+◌, ◌++◌, ◌<◌, ◌==◌, ◌∙◌, ◌∷◌, ◌≡◌}
use Rattle.std.proofs.lemmas.List.Elements.{filter-append}
use Rattle.std.specs.Prelude.{filter, if◌then◌else◌, is_none, is_some, not, option_map, slice_get}
use Rattle.tab_facts.specs.TabWhole.Tab.{IsTab, at_hand, has_ended, open_among}
use Rattle.tab_ids.specs.declared.DocId.{DocId}
use Rattle.tab_ids.specs.declared.JobId.{JobId}
use Rattle.tab_ids.specs.declared.ProcId.{ProcId}
use Rattle.tab_ids.specs.declared.ReqId.{ReqId}
use Rattle.tab_ids.specs.declared.Step.{Step}

-- ---- whether requests have ended

-- each has ended just where it had
abbrev pub SameEnds : List Asked → List Asked → Type 0
SameEnds asked next = (r : ReqId) → holds has_ended (request_in next r) ≡ holds has_ended (request_in asked r)

read_ended : (o : Option Asked) → holds has_ended o ≡ holds (λ (b : Bool). b) (option_map has_ended o)
read_ended None = refl
read_ended (Some q) = refl

pub reads_ends : (asked next : List Asked) → SameReads has_ended asked next → SameEnds asked next
reads_ends asked next same r =
    read_ended (request_in next r)
    ∙ ap (λ (o : Option Bool). holds (λ (b : Bool). b) o) (same r)
    ∙ sym (read_ended (request_in asked r))

pub ends_then : (a b c : List Asked) → SameEnds a b → SameEnds b c → SameEnds a c
ends_then a b c first then_ r = then_ r ∙ first r

blind : IsBlind has_ended
blind =
    record {
      moves = λ q activated moved. refl;
      asks = λ q asks. refl;
      fragments = λ q doc. refl;
      misses = λ q is. refl;
    }

-- the rows that end none
module _ (s : Seen) (event : ℕ) (actor : Actor) where
  pub accepted_ends : (req : ReqId) → req.0 ≡ length s.requests + 1 → (doc : Option DocId) (what : Request) → SameEnds s.requests (next s event actor (rows.Accepted req doc what)).requests
  accepted_ends req nr doc what r = by_number (req.0 == r.0) refl
    where
      new : Asked
      new = new_request req doc what

      by_number : (b : Bool) → (req.0 == r.0) ≡ b → holds has_ended (request_in (s.requests ++ new_request req doc what ∷ []) r) ≡ holds has_ended (request_in s.requests r)
      by_number true e =
          subst (λ (x : ReqId). holds has_ended (request_in (s.requests ++ new_request req doc what ∷ []) x) ≡ holds has_ended (request_in s.requests x)) (req_same req r e)
          (ap (λ (o : Option Asked). holds has_ended o) (one_more s.requests new req nr) ∙ sym (ap (λ (o : Option Asked). holds has_ended o) (none_before s.requests new req nr)))
      by_number false e = ap (λ (o : Option Asked). holds has_ended o) (others_before s.requests new req nr r e)

  pub started_ends : (req : ReqId) (goal : Option Step) → SameEnds s.requests (next s event actor (rows.Started req goal)).requests
  started_ends req goal =
      reads_ends s.requests (next s event actor (rows.Started req goal)).requests
      (reads_then has_ended s.requests (on_request req (λ q. record q { is_started = true; goal = goal }) s.requests) _ (on_read has_ended s.requests req _ (λ q. refl)) (on_read has_ended _ req (request_begun s) (λ q. refl)))

  pub sent_ends : (job : Job) → SameEnds s.requests (next s event actor (rows.Sent job)).requests
  sent_ends job =
      reads_ends s.requests (next s event actor (rows.Sent job)).requests (sent_reads has_ended blind s job job.task s.requests)

  pub finished_ends : (proc : ProcId) (job : JobId) (outcome : Outcome) → SameEnds s.requests (next s event actor (rows.Finished proc job outcome)).requests
  finished_ends proc job outcome =
      reads_ends s.requests (next s event actor (rows.Finished proc job outcome)).requests (finished_reads has_ended blind s (desk_of s proc).in_hand outcome s.requests)

  pub delivered_ends : (proc : ProcId) → SameEnds s.requests (next s event actor (rows.Delivered proc)).requests
  delivered_ends proc =
      reads_ends s.requests (next s event actor (rows.Delivered proc)).requests (delivered_reads has_ended blind (slice_get (desk_of s proc).reports 0) s.requests)

  pub made_ends : (proc : ProcId) (made : Made) → SameEnds s.requests (next s event actor (rows.Made proc made)).requests
  made_ends proc made =
      reads_ends s.requests (next s event actor (rows.Made proc made)).requests (on_read has_ended s.requests made.req _ (λ q. refl))

-- ---- those among them that haven't

pub open_same : (asked next : List Asked) (reqs : List ReqId) → SameEnds asked next → open_among next reqs ≡ open_among asked reqs
open_same asked next reqs same =
    ap (λ (test : ReqId → Bool). filter test reqs) (fun_ext (λ (r : ReqId). ap not (same r)))

pub open_append : (asked : List Asked) (xs ys : List ReqId) → open_among asked (xs ++ ys) ≡ open_among asked xs ++ open_among asked ys
open_append asked xs ys = filter-append (λ (req : ReqId). not (holds has_ended (request_in asked req))) xs ys

-- the first, where it hasn't, and where it has
pub open_first : (asked : List Asked) (req : ReqId) (reqs : List ReqId) → holds has_ended (request_in asked req) ≡ false → open_among asked (req ∷ reqs) ≡ req ∷ open_among asked reqs
open_first asked req reqs open_ = rw open_ refl

pub ended_first : (asked : List Asked) (req : ReqId) (reqs : List ReqId) → holds has_ended (request_in asked req) ≡ true → open_among asked (req ∷ reqs) ≡ open_among asked reqs
ended_first asked req reqs over = rw over refl

-- how often one is among them
pub times_open : (asked : List Asked) (req : ReqId) (reqs : List ReqId) → holds has_ended (request_in asked req) ≡ false → times req (open_among asked reqs) ≡ times req reqs
times_open asked req [] open_ = refl
times_open asked req (x ∷ reqs) open_ = by_test (x.0 == req.0) refl (times_open asked req reqs open_)
  where
    by_end : (b : Bool) → (x.0 == req.0) ≡ false → times req (open_among asked reqs) ≡ times req reqs → times req (cond (not b) (x ∷ open_among asked reqs) (open_among asked reqs)) ≡ times req reqs
    by_end true e more = more
    by_end false e more = rw e (omega (arith, more))

    by_test : (b : Bool) → (x.0 == req.0) ≡ b → times req (open_among asked reqs) ≡ times req reqs → times req (open_among asked (x ∷ reqs)) ≡ times req (x ∷ reqs)
    by_test true e more =
        let its : holds has_ended (request_in asked x) ≡ false = ap (λ (r : ReqId). holds has_ended (request_in asked r)) (req_same x req e) ∙ open_ in
        rw its (ap (λ (n : ℕ). cond (x.0 == req.0) 1 0 + n) more)
    by_test false e more =
        let apart : times req (x ∷ reqs) ≡ times req reqs = rw e (omega arith) in
        by_end (holds has_ended (request_in asked x)) e more ∙ sym apart

pub times_ended : (asked : List Asked) (req : ReqId) (reqs : List ReqId) → holds has_ended (request_in asked req) ≡ true → times req (open_among asked reqs) ≡ 0
times_ended asked req [] over = refl
times_ended asked req (x ∷ reqs) over = by_test (x.0 == req.0) refl (times_ended asked req reqs over)
  where
    by_end : (b : Bool) → (x.0 == req.0) ≡ false → times req (open_among asked reqs) ≡ 0 → times req (cond (not b) (x ∷ open_among asked reqs) (open_among asked reqs)) ≡ 0
    by_end true e more = more
    by_end false e more = rw e (omega (arith, more))

    by_test : (b : Bool) → (x.0 == req.0) ≡ b → times req (open_among asked reqs) ≡ 0 → times req (open_among asked (x ∷ reqs)) ≡ 0
    by_test true e more =
        let its : holds has_ended (request_in asked x) ≡ true = ap (λ (r : ReqId). holds has_ended (request_in asked r)) (req_same x req e) ∙ over in
        rw its more
    by_test false e more = by_end (holds has_ended (request_in asked x)) e more

-- ---- a request ends

-- whether the others have ended is as it was
abbrev pub SameElse : List Asked → List Asked → ReqId → Type 0
SameElse asked next req = (r : ReqId) → (r.0 == req.0) ≡ false → holds has_ended (request_in next r) ≡ holds has_ended (request_in asked r)

-- it is taken out of them
pub open_without : (asked next : List Asked) (req : ReqId) (reqs : List ReqId) → SameElse asked next req → open_among next (without_req req reqs) ≡ without_req req (open_among asked reqs)
open_without asked next req [] same = refl
open_without asked next req (x ∷ reqs) same = by_test (x.0 == req.0) refl (open_without asked next req reqs same)
  where
    it_goes : (b : Bool) → (x.0 == req.0) ≡ true → open_among next (without_req req reqs) ≡ without_req req (open_among asked reqs) → open_among next (without_req req reqs) ≡ without_req req (cond (not b) (x ∷ open_among asked reqs) (open_among asked reqs))
    it_goes true e more = more
    it_goes false e more = rw e more

    it_stays : (b : Bool) → (x.0 == req.0) ≡ false → open_among next (without_req req reqs) ≡ without_req req (open_among asked reqs) → cond (not b) (x ∷ open_among next (without_req req reqs)) (open_among next (without_req req reqs)) ≡ without_req req (cond (not b) (x ∷ open_among asked reqs) (open_among asked reqs))
    it_stays true e more = more
    it_stays false e more = rw e (ap (λ (l : List ReqId). x ∷ l) more)

    by_test : (b : Bool) → (x.0 == req.0) ≡ b → open_among next (without_req req reqs) ≡ without_req req (open_among asked reqs) → open_among next (without_req req (x ∷ reqs)) ≡ without_req req (open_among asked (x ∷ reqs))
    by_test true e more = rw e (it_goes (holds has_ended (request_in asked x)) e more)
    by_test false e more =
        rw e (rw (same x e) (it_stays (holds has_ended (request_in asked x)) e more))

-- one that has ended may stay in the list, or not
pub open_else : (asked : List Asked) (req : ReqId) (reqs : List ReqId) → holds has_ended (request_in asked req) ≡ true → open_among asked (without_req req reqs) ≡ open_among asked reqs
open_else asked req [] over = refl
open_else asked req (x ∷ reqs) over = by_test (x.0 == req.0) refl (open_else asked req reqs over)
  where
    by_test : (b : Bool) → (x.0 == req.0) ≡ b → open_among asked (without_req req reqs) ≡ open_among asked reqs → open_among asked (without_req req (x ∷ reqs)) ≡ open_among asked (x ∷ reqs)
    by_test true e more =
        let its : holds has_ended (request_in asked x) ≡ true = ap (λ (r : ReqId). holds has_ended (request_in asked r)) (req_same x req e) ∙ over in
        rw e (more ∙ sym (ended_first asked x reqs its))
    by_test false e more =
        rw e (ap (λ (l : List ReqId). cond (not (holds has_ended (request_in asked x))) (x ∷ l) l) more)

-- ---- the requests then

pub ended_else : (asked : List Asked) (req : ReqId) (ending : Ending) → SameElse asked (ended asked req ending) req
ended_else asked req ending r apart = ap (λ (o : Option Asked). holds has_ended o) (on_else asked req _ r apart)

-- one that is there has ended then; who isn't there hasn't
pub ended_itself : (asked : List Asked) (req : ReqId) (q : Asked) (ending : Ending) → request_in asked req ≡ Some q → holds has_ended (request_in (ended asked req ending) req) ≡ true
ended_itself asked req q ending there =
    ap (λ (o : Option Asked). holds has_ended o) (on_itself asked req (λ p. record p { ending = Some ending }) ∙ ap (λ (o : Option Asked). option_map (λ (p : Asked). let x : Asked = record p { ending = Some ending } in x) o) there)

pub applied_else : (s : Seen) (event : ℕ) (actor : Actor) (req : ReqId) (change : Change) → SameElse s.requests (next s event actor (rows.Applied req change)).requests req
applied_else s event actor req change r apart =
    ap (λ (o : Option Asked). holds has_ended o)
    (on_else (on_request req with_change applied_) req took_all r apart ∙ (on_else applied_ req with_change r apart ∙ on_else s.requests req _ r apart))
  where
    applied_ : List Asked
    applied_ = ended s.requests req endings.Applied

    with_change : Asked → Asked
    with_change q = record q { change = Some change }

    took_all : Asked → Asked
    took_all q = record q { took = entries_taken s.history change }

-- what is due of one that has ended
pub ended_due : (o : Option Asked) → holds has_ended o ≡ true → times_due o ≡ 0
ended_due None never = absurd cc
ended_due (Some q) over = by_ending q.ending over
  where
    by_ending : (e : Option Ending) → is_some e ≡ true → (let n : ℕ = if is_none e then 1 else 0 in n) ≡ 0
    by_ending None never = absurd cc
    by_ending (Some e) is = refl

-- so one of which some is due hasn't
pub due_open : (o : Option Asked) → 0 < times_due o → holds has_ended o ≡ false
due_open o due = by_test (holds has_ended o) refl
  where
    by_test : (b : Bool) → holds has_ended o ≡ b → holds has_ended o ≡ false
    by_test false e = e
    by_test true e = (let none : times_due o ≡ 0 = ended_due o e in absurd (omega (arith, due, none)))

pub unended_open : (q : Asked) → q.ending ≡ None → holds has_ended (Some q) ≡ false
unended_open q unended = ap (λ (e : Option Ending). is_some e) unended

-- ---- what is at hand

module _ (s t : Seen) (loads : List ReqId) (hand : List Made) where
  -- a row ended none
  module _ (same : SameEnds s.requests t.requests) where
    pub once_on : AreOnce t (at_hand (open_among s.requests loads) hand) → AreOnce t (at_hand (open_among t.requests loads) hand)
    once_on = subst (λ (l : List ReqId). AreOnce t (at_hand l hand)) (sym (open_same s.requests t.requests loads same))

    pub trips_on : AreLoadsOnce t (at_hand (open_among s.requests loads) hand) → AreLoadsOnce t (at_hand (open_among t.requests loads) hand)
    trips_on = subst (λ (l : List ReqId). AreLoadsOnce t (at_hand l hand)) (sym (open_same s.requests t.requests loads same))

  -- none but this one
  module _ (req : ReqId) (same : SameElse s.requests t.requests req) where
    pub hands_left : at_hand (open_among t.requests (without_req req loads)) (without_made req hand) ≡ without_req req (at_hand (open_among s.requests loads) hand)
    hands_left =
        ap (λ (l : List ReqId). l ++ reqs_of (without_made req hand)) (open_without s.requests t.requests req loads same)
        ∙ ap (λ (l : List ReqId). without_req req (open_among s.requests loads) ++ l) (reqs_without req hand)
        ∙ sym (filter-append (λ (r : ReqId). not (r.0 == req.0)) (open_among s.requests loads) (reqs_of hand))

    pub once_left : AreOnce t (without_req req (at_hand (open_among s.requests loads) hand)) → AreOnce t (at_hand (open_among t.requests (without_req req loads)) (without_made req hand))
    once_left = subst (λ (l : List ReqId). AreOnce t l) (sym hands_left)

    pub trips_left : AreLoadsOnce t (without_req req (at_hand (open_among s.requests loads) hand)) → AreLoadsOnce t (at_hand (open_among t.requests (without_req req loads)) (without_made req hand))
    trips_left = subst (λ (l : List ReqId). AreLoadsOnce t l) (sym hands_left)

-- one is at hand more, which hasn't ended
module _ (t : Seen) (req : ReqId) (loads : List ReqId) (hand : List Made) (open_ : holds has_ended (request_in t.requests req) ≡ false) where
  pub once_more : AreOnce t (req ∷ at_hand (open_among t.requests loads) hand) → AreOnce t (at_hand (open_among t.requests (req ∷ loads)) hand)
  once_more = subst (λ (l : List ReqId). AreOnce t (at_hand l hand)) (sym (open_first t.requests req loads open_))

  pub trips_more : AreLoadsOnce t (req ∷ at_hand (open_among t.requests loads) hand) → AreLoadsOnce t (at_hand (open_among t.requests (req ∷ loads)) hand)
  trips_more = subst (λ (l : List ReqId). AreLoadsOnce t (at_hand l hand)) (sym (open_first t.requests req loads open_))

  pub first_once : AreOnce t (at_hand (open_among t.requests (req ∷ loads)) hand) → AreOnce t (req ∷ at_hand (open_among t.requests loads) hand)
  first_once = subst (λ (l : List ReqId). AreOnce t (at_hand l hand)) (open_first t.requests req loads open_)

  pub first_trips : AreLoadsOnce t (at_hand (open_among t.requests (req ∷ loads)) hand) → AreLoadsOnce t (req ∷ at_hand (open_among t.requests loads) hand)
  first_trips = subst (λ (l : List ReqId). AreLoadsOnce t (at_hand l hand)) (open_first t.requests req loads open_)

-- ---- all that holds of a tab, with other lists

-- those that haven't ended are the same
pub tab_alike : (run : Option ReqId) (loads other : List ReqId) (hand : List Made) (s : Seen) → open_among s.requests loads ≡ open_among s.requests other → IsTab run loads hand s → IsTab run other hand s
tab_alike run loads other hand s same tab =
    record {
      sound = tab.sound;
      hangs = tab.hangs;
      docs = tab.docs;
      whose = tab.whose;
      shown = tab.shown;
      homes = tab.homes;
      kept = tab.kept;
      standing = tab.standing;
      movers = tab.movers;
      asked = tab.asked;
      queued = tab.queued;
      loading = tab.loading;
      fragments = tab.fragments;
      once = subst (λ (l : List ReqId). AreOnce s (at_hand l hand)) same tab.once;
      trips = subst (λ (l : List ReqId). AreLoadsOnce s (at_hand l hand)) same tab.trips;
      known = tab.known;
      desks = tab.desks;
      ways = tab.ways;
      entries = tab.entries;
      flows = tab.flows;
      past = tab.past;
    }

-- one that has ended may stay at hand
pub tab_else : (run : Option ReqId) (loads : List ReqId) (hand : List Made) (s : Seen) (req : ReqId) → holds has_ended (request_in s.requests req) ≡ true → IsTab run (without_req req loads) hand s → IsTab run loads hand s
tab_else run loads hand s req over =
    tab_alike run (without_req req loads) loads hand s (open_else s.requests req loads over)
