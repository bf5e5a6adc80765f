-- A request that has begun has begun for good: so one that hasn't begun now hasn't before.
use Rattle.std.proofs.Common.{◌≡◌, ℕ, ◌-◌, zero, suc, Bool, true, false, cond, ◌||◌, ◌==◌, List, [], ◌∷◌, ◌++◌, map, Option, Some, None, refl, sym, ap, ◌∙◌, subst}
use Rattle.std.specs.Prelude.{fold, option_map, slice_get}
use Rattle.std.specs.List.{list_any}
use Rattle.std.proofs.lemmas.List.{map-append}
use Rattle.tab_ids.specs.declared.ReqId.{ReqId}
use Rattle.tab_ids.specs.declared.Step.{Step}
use Rattle.log_model.specs.declared.outcome.Ending.TheVariants as endings
use Rattle.log_model.specs.declared.row_kind.LogRow.{LogRow}
use Rattle.log_model.specs.declared.row_kind.RowKind.{RowKind}
use Rattle.log_model.specs.declared.row_kind.RowKind.TheVariants as rows
use Rattle.log_model.specs.After.{after, ended, new_request}
use Rattle.log_model.specs.AfterRequests.{entries_taken, on_request, request_begun}
use Rattle.log_model.specs.Equal.{holds}
use Rattle.log_model.specs.Seen.{Asked, Seen, desk_of, request_in, request_of}
use Rattle.seen_laws.specs.InEvent.{InEvent, begins, log_of, own_of, row_of}
use Rattle.seen_laws.proofs.InEvents.{log_fold}
use Rattle.seen_facts.proofs.Each.Courses.{is_asked}
use Rattle.seen_facts.proofs.Coord.Held.{on_else}
use Rattle.seen_facts.proofs.Request.LookUps.{on_itself}
use Rattle.seen_facts.proofs.Request.Readers.{IsBlind, SameReads, delivered_reads, finished_reads, on_read, reads_then, sent_reads}
use Rattle.checking_facts.proofs.Grown.{req_same}

-- ---- over one row

-- whether it has begun is read
abbrev pub has_started : Asked → Bool
has_started q = q.is_started

pub blind : IsBlind has_started
blind =
    record {
      moves = λ q activated moved. refl;
      asks = λ q asks. refl;
      fragments = λ q doc. refl;
      misses = λ q is. refl;
    }

-- a request of the number is there, and has begun if the first has
pub record GoesOn (asked : List Asked) (req : ReqId) (p : Asked) : Type 0 where
  pub q : Asked
  pub at : request_in asked req ≡ Some q
  pub begun : p.is_started ≡ true → q.is_started ≡ true

same_on : (old new : List Asked) (req : ReqId) (p : Asked) → SameReads has_started old new → request_in old req ≡ Some p → GoesOn new req p
same_on old new req p same at =
    let q = is_asked has_started old new same req p at in
    record { q = q.0; at = q.1; begun = λ is. q.2 ∙ is }

-- one begins
begun_on : (s : Seen) (by : ReqId) (goal : Option Step) (req : ReqId) (p : Asked) → request_of s req ≡ Some p → GoesOn (on_request by (request_begun s) (on_request by (λ q. record q { is_started = true; goal = goal }) s.requests)) req p
begun_on s by goal req p at = by_number (req.0 == by.0) refl
  where
    first : Asked → Asked
    first q = record q { is_started = true; goal = goal }

    by_number : (b : Bool) → (req.0 == by.0) ≡ b → GoesOn (on_request by (request_begun s) (on_request by first s.requests)) req p
    by_number false e =
        record {
          q = p;
          at = on_else (on_request by first s.requests) by (request_begun s) req e ∙ on_else s.requests by first req e ∙ at;
          begun = λ is. is;
        }
    by_number true e =
        let it : by ≡ req = sym (req_same req by e) in
        let own : request_in s.requests by ≡ Some p = ap (λ (r : ReqId). request_in s.requests r) it ∙ at in
        let there : request_in (on_request by (request_begun s) (on_request by first s.requests)) by ≡ Some (request_begun s (first p)) = on_itself (on_request by first s.requests) by (request_begun s) ∙ ap (λ (o : Option Asked). option_map (request_begun s) o) (on_itself s.requests by first ∙ ap (λ (o : Option Asked). option_map first o) own) in
        record {
          q = request_begun s (first p);
          at = subst (λ (r : ReqId). request_in (on_request by (request_begun s) (on_request by first s.requests)) r ≡ Some (request_begun s (first p))) it there;
          begun = λ is. refl;
        }

-- one is accepted
get_more : (asked : List Asked) (new p : Asked) (n : ℕ) → slice_get asked n ≡ Some p → slice_get (asked ++ new ∷ []) n ≡ Some p
get_more [] new p n at = cc
get_more (x ∷ asked) new p zero at = at
get_more (x ∷ asked) new p (suc n) at = get_more asked new p n at

pub accepted_on : (asked : List Asked) (new p : Asked) (req : ReqId) → request_in asked req ≡ Some p → request_in (asked ++ new ∷ []) req ≡ Some p
accepted_on asked new p req at = by_number (req.0 == 0) at
  where
    by_number : (b : Bool) → (let o : Option Asked = cond b None (slice_get asked (req.0 - 1)) in o) ≡ Some p → (let o : Option Asked = cond b None (slice_get (asked ++ new ∷ []) (req.0 - 1)) in o) ≡ Some p
    by_number true at = cc
    by_number false at = get_more asked new p (req.0 - 1) at

pub row_on : (s : Seen) (row : LogRow) (req : ReqId) (p : Asked) → request_of s req ≡ Some p → GoesOn (after s row).requests req p
row_on s row req p at = by_kind row.row refl
  where
    same : GoesOn s.requests req p
    same = same_on s.requests s.requests req p (λ r. refl) at

    one : (by : ReqId) (f : Asked → Asked) → ((q : Asked) → has_started (f q) ≡ has_started q) → GoesOn (on_request by f s.requests) req p
    one by f keeps = same_on s.requests (on_request by f s.requests) req p (on_read has_started s.requests by f keeps) at

    by_kind : (kind : RowKind) → row.row ≡ kind → GoesOn (after s row).requests req p
    by_kind (rows.Opened entry state doc proc slot address) e = rw e same
    by_kind (rows.Accepted by doc what) e =
        rw e (record { q = p; at = accepted_on s.requests (new_request by doc what) p req at; begun = λ is. is })
    by_kind (rows.Started by goal) e = rw e (begun_on s by goal req p at)
    by_kind (rows.Applied by change) e =
        rw e (same_on s.requests _ req p
        (reads_then has_started s.requests (ended s.requests by endings.Applied) _ (on_read has_started s.requests by (λ q. record q { ending = Some endings.Applied }) (λ q. refl))
        (reads_then has_started (ended s.requests by endings.Applied) (on_request by (λ q. record q { change = Some change }) (ended s.requests by endings.Applied)) _ (on_read has_started (ended s.requests by endings.Applied) by (λ q. record q { change = Some change }) (λ q. refl))
        (on_read has_started (on_request by (λ q. record q { change = Some change }) (ended s.requests by endings.Applied)) by (λ q. record q { took = entries_taken s.history change }) (λ q. refl))))
        at)
    by_kind (rows.Refused by reason) e = rw e (one by (λ q. record q { ending = Some (endings.Refused reason) }) (λ q. refl))
    by_kind (rows.Dropped by cause) e = rw e (one by (λ q. record q { ending = Some (endings.Dropped cause) }) (λ q. refl))
    by_kind (rows.Prompted by doc) e = rw e (one by (λ q. record q { prompted = Some doc }) (λ q. refl))
    by_kind (rows.Answered by stay) e = rw e (one by (λ q. record q { answered = Some stay }) (λ q. refl))
    by_kind (rows.Sent job) e =
        rw e (same_on s.requests _ req p (sent_reads has_started blind s job job.task s.requests) at)
    by_kind (rows.Taken proc job live dirty) e = rw e same
    by_kind (rows.Finished proc job outcome) e =
        rw e (same_on s.requests _ req p (finished_reads has_started blind s (desk_of s proc).in_hand outcome s.requests) at)
    by_kind (rows.Made proc made) e = rw e (one made.req (λ q. record q { made = Some made }) (λ q. refl))
    by_kind (rows.Delivered proc) e =
        rw e (same_on s.requests _ req p (delivered_reads has_started blind (slice_get (desk_of s proc).reports 0) s.requests) at)
    by_kind (rows.Killed proc death) e = rw e same
    by_kind (rows.Evicted state) e = rw e same

-- ---- over some

pub rows_on : (s : Seen) (rows : List LogRow) (req : ReqId) (p : Asked) → request_of s req ≡ Some p → GoesOn (fold after s rows).requests req p
rows_on s [] req p at = record { q = p; at = at; begun = λ is. is }
rows_on s (row ∷ rows) req p at =
    let mid = row_on s row req p at in
    let last = rows_on (after s row) rows req mid.q mid.at in
    record { q = last.q; at = last.at; begun = λ is. last.begun (mid.begun is) }

some_same : {A : Type 0} {a b : A} → (let o : Option A = Some a in o) ≡ Some b → a ≡ b
some_same e = cc

-- one that hasn't begun after them hadn't before
pub hadnt_begun : (s : Seen) (rows : List LogRow) (req : ReqId) (q : Asked) → request_of (fold after s rows) req ≡ Some q → q.is_started ≡ false → holds (λ (x : Asked). x.is_started) (request_of s req) ≡ false
hadnt_begun s rows req q at off = by_found (request_of s req) refl
  where
    by_start : (p : Asked) → request_of s req ≡ Some p → (b : Bool) → p.is_started ≡ b → b ≡ false
    by_start p was false e = refl
    by_start p was true e =
        let its = rows_on s rows req p was in
        let one : its.q ≡ q = some_same (sym its.at ∙ at) in
        let never : true ≡ false = sym (its.begun e) ∙ ap (λ (x : Asked). x.is_started) one ∙ off in
        absurd cc

    by_found : (o : Option Asked) → request_of s req ≡ o → holds (λ (x : Asked). x.is_started) o ≡ false
    by_found None was = refl
    by_found (Some p) was = by_start p was p.is_started refl

-- ---- and began as none of them

-- the row begins it
begun_there : (s : Seen) (by : ReqId) (goal : Option Step) (req : ReqId) (p : Asked) → (by.0 == req.0) ≡ true → request_of s req ≡ Some p → (q : Asked) × (request_in (on_request by (request_begun s) (on_request by (λ x. record x { is_started = true; goal = goal }) s.requests)) req ≡ Some q) × (q.is_started ≡ true)
begun_there s by goal req p e at =
    let it : by ≡ req = req_same by req e in
    let own : request_in s.requests by ≡ Some p = ap (λ (r : ReqId). request_in s.requests r) it ∙ at in
    let there : request_in (on_request by (request_begun s) (on_request by first s.requests)) by ≡ Some (request_begun s (first p)) = on_itself (on_request by first s.requests) by (request_begun s) ∙ ap (λ (o : Option Asked). option_map (request_begun s) o) (on_itself s.requests by first ∙ ap (λ (o : Option Asked). option_map first o) own) in
    (request_begun s (first p), subst (λ (r : ReqId). request_in (on_request by (request_begun s) (on_request by first s.requests)) r ≡ Some (request_begun s (first p))) it there, refl)
  where
    first : Asked → Asked
    first q = record q { is_started = true; goal = goal }

module _ (e : InEvent) (req : ReqId) where
  began_none : (out : List RowKind) (s : Seen) (p q : Asked) → request_of s req ≡ Some p → request_of (fold after s (map (row_of e) out)) req ≡ Some q → q.is_started ≡ false → list_any (begins req) out ≡ false
  began_none [] s p q was at off = refl
  began_none (kind ∷ out) s p q was at off =
      by_test (begins req kind) refl (let mid = row_on s (row_of e kind) req p was in began_none out (after s (row_of e kind)) mid.q q mid.at at off)
    where
      never : (kind : RowKind) → begins req kind ≡ true → request_of (fold after (after s (row_of e kind)) (map (row_of e) out)) req ≡ Some q → ⊥
      never (rows.Started by goal) is there =
          let its = begun_there s by goal req p is was in
          let last = rows_on (after s (row_of e (rows.Started by goal))) (map (row_of e) out) req its.0 its.1 in
          let one : last.q ≡ q = some_same (sym last.at ∙ there) in
          let both : true ≡ false = sym (last.begun its.2) ∙ ap (λ (x : Asked). x.is_started) one ∙ off in
          cc
      never (rows.Opened entry state doc proc slot address) is there = cc
      never (rows.Accepted by doc what) is there = cc
      never (rows.Applied by change) is there = cc
      never (rows.Refused by reason) is there = cc
      never (rows.Dropped by cause) is there = cc
      never (rows.Prompted by doc) is there = cc
      never (rows.Answered by stay) is there = cc
      never (rows.Sent job) is there = cc
      never (rows.Taken proc job live dirty) is there = cc
      never (rows.Finished proc job outcome) is there = cc
      never (rows.Made proc made) is there = cc
      never (rows.Delivered proc) is there = cc
      never (rows.Killed proc death) is there = cc
      never (rows.Evicted state) is there = cc

      by_test : (b : Bool) → begins req kind ≡ b → list_any (begins req) out ≡ false → (b || list_any (begins req) out) ≡ false
      by_test true is rest = absurd (never kind is at)
      by_test false is rest = rest

  -- one that was there as the event's own row had come, and hasn't begun yet, began as none of the event's rows
  pub unbegun : (out : List RowKind) (p q : Asked) → request_of (own_of e).now req ≡ Some p → request_of (log_of e out) req ≡ Some q → q.is_started ≡ false → list_any (begins req) (e.before ++ out) ≡ false
  unbegun out p q was at off =
      began_none (e.before ++ out) (own_of e).now p q was (subst (λ (s : Seen). request_of s req ≡ Some q) all at) off
    where
      all : log_of e out ≡ fold after (own_of e).now (map (row_of e) (e.before ++ out))
      all =
          log_fold e out
          ∙ ap (λ (rows : List LogRow). fold after (own_of e).now rows) (sym (map-append (row_of e) e.before out))
