-- The ongoing loads stay over each row that begins none, sends no order and applies nothing: what users and processes do, requests that begin or end, and reports but of a death.
use Rattle.std.proofs.Common.{◌≡◌, ℕ, ◌+◌, ◌≤◌, Bool, true, false, ◌&&◌, ◌==◌, List, [], ◌∷◌, ◌++◌, length, Option, Some, None, refl, sym, ap, ◌∙◌, subst, inl, eqb-true, arith}
use Rattle.std.specs.Prelude.{is_none, option_map, slice_get}
use Rattle.tab_ids.specs.declared.DocId.{DocId}
use Rattle.tab_ids.specs.declared.ProcId.{ProcId}
use Rattle.tab_ids.specs.declared.Death.{Death}
use Rattle.tab_ids.specs.declared.JobId.{JobId}
use Rattle.tab_ids.specs.declared.ReqId.{ReqId}
use Rattle.tab_ids.specs.declared.StateId.{StateId}
use Rattle.tab_ids.specs.declared.Step.{Step}
use Rattle.log_model.specs.declared.made.Made.{Made}
use Rattle.log_model.specs.declared.outcome.Cause.{Cause}
use Rattle.log_model.specs.declared.outcome.Denial.{Denial}
use Rattle.log_model.specs.declared.outcome.Ending.{Ending}
use Rattle.log_model.specs.declared.outcome.Ending.TheVariants as endings
use Rattle.log_model.specs.declared.outcome.Outcome.{Outcome}
use Rattle.log_model.specs.declared.request.Request.{Request}
use Rattle.log_model.specs.declared.row_kind.Actor.{Actor}
use Rattle.log_model.specs.declared.row_kind.RowKind.{RowKind}
use Rattle.log_model.specs.declared.row_kind.RowKind.TheVariants as rows
use Rattle.log_model.specs.After.{after, ended, new_request}
use Rattle.log_model.specs.AfterDocuments.{task_in_hand}
use Rattle.log_model.specs.AfterRequests.{on_request, request_begun}
use Rattle.log_model.specs.Equal.{holds}
use Rattle.log_model.specs.Places.{is_load}
use Rattle.log_model.specs.Seen.{Seen, Asked, Place, desk_of, request_in, request_of}
use Rattle.seen_facts.specs.Hang.Members.{Has}
use Rattle.seen_facts.proofs.Coord.Held.{on_else}
use Rattle.seen_facts.proofs.Request.LookUps.{on_itself, one_more, others_before}
use Rattle.seen_facts.proofs.Request.Readers.{IsBlind, SameReads, delivered_reads, finished_reads, on_read}
use Rattle.seen_facts.specs.Load.Loading.{Look, look, look_in, is_ongoing, AreLoading}
use Rattle.seen_facts.proofs.Load.Leaves.{left_loading}
use Rattle.seen_facts.proofs.Load.Docs.{AreSame, KeepAwakes, NoDeath, delivered_awakes, delivered_docs, finished_docs, killed_docs, made_docs, same_all, same_awakes, was_doc}

pub look_blind : IsBlind look
look_blind = record { moves = λ q activated moved. refl; asks = λ q asks. refl; fragments = λ q doc. refl; misses = λ q is. refl }

-- ---- requests

-- each ongoing load was one
abbrev pub KeepLooks : List Asked → List Asked → Type 0
KeepLooks asked next = (req : ReqId) (l : Look) → look_in next req ≡ Some l → is_ongoing l ≡ true → look_in asked req ≡ Some l

pub read_looks : (asked next : List Asked) → SameReads look asked next → KeepLooks asked next
read_looks asked next same req l at on = sym (same req) ∙ at

pub req_same : (a b : ReqId) → (a.0 == b.0) ≡ true → a ≡ b
req_same a b e = let n : a.0 ≡ b.0 = eqb-true a.0 b.0 e in ap (λ (i : ℕ). let x : ReqId = record { 0 = i } in x) n

-- one request is changed, which is no ongoing load then
pub changed_looks : (asked : List Asked) (req : ReqId) (f : Asked → Asked) → ((q : Asked) → request_in asked req ≡ Some q → is_ongoing (look (f q)) ≡ false) → KeepLooks asked (on_request req f asked)
changed_looks asked req f not_then r l at on = by_number (r.0 == req.0) refl
  where
    by_found : (o : Option Asked) → request_in asked req ≡ o → option_map look (option_map f o) ≡ Some l → ⊥
    by_found None e is = cc
    by_found (Some q) e is =
        let same : look (f q) ≡ l = cc in
        let no_ : false ≡ true = sym (not_then q e) ∙ ap is_ongoing same ∙ on in
        cc

    by_number : (b : Bool) → (r.0 == req.0) ≡ b → look_in asked r ≡ Some l
    by_number true e =
        let same : r ≡ req = req_same r req e in
        absurd (by_found (request_in asked req) refl (ap (λ (o : Option Asked). option_map look o) (sym (on_itself asked req f)) ∙ ap (look_in (on_request req f asked)) (sym same) ∙ at))
    by_number false e = ap (λ (o : Option Asked). option_map look o) (sym (on_else asked req f r e)) ∙ at

-- one that has ended isn't one
pub ended_looks : (asked : List Asked) (req : ReqId) (ending : Ending) → KeepLooks asked (ended asked req ending)
ended_looks asked req ending = changed_looks asked req (λ q. record q { ending = Some ending }) (λ q at. over q.is_started (is_load q.what))
  where
    over : (a b : Bool) → ((a && false) && b) ≡ false
    over true b = refl
    over false b = refl

-- nor is a new one
new_looks : (asked : List Asked) (new : Asked) (req : ReqId) → req.0 ≡ length asked + 1 → new.is_started ≡ false → KeepLooks asked (asked ++ new ∷ [])
new_looks asked new req next unstarted r l at on = by_number (req.0 == r.0) refl
  where
    by_number : (b : Bool) → (req.0 == r.0) ≡ b → look_in asked r ≡ Some l
    by_number true e =
        let same : req ≡ r = req_same req r e in
        let here : Some (look new) ≡ Some l = sym (ap (λ (o : Option Asked). option_map look o) (one_more asked new req next)) ∙ ap (look_in (asked ++ new ∷ [])) same ∙ at in
        let is : look new ≡ l = cc in
        let no_ : false ≡ true = ap (λ (b : Bool). (b && is_none new.ending) && is_load new.what) (sym unstarted) ∙ ap is_ongoing is ∙ on in
        absurd cc
    by_number false e = ap (λ (o : Option Asked). option_map look o) (sym (others_before asked new req next r e)) ∙ at

-- ---- rows

least : (n : ℕ) → n ≤ n
least n = omega arith

module _ (s : Seen) (event : ℕ) (actor : Actor) (are : AreLoading s) where
  abbrev then_ : RowKind → Seen
  then_ kind = after s (record { event = event; actor = actor; row = kind })

  -- the history stays, and no document is new
  pub quiet : (t : Seen) → t.history ≡ s.history → s.states ≤ t.states → KeepLooks s.requests t.requests → AreSame s.documents t.documents → KeepAwakes s t.places → AreLoading t
  quiet t history states looks documents awakes =
      left_loading s t (record {
        looks = looks;
        states = states;
        rows_ = λ row has. inl (record { row = row; has = subst (λ (h : _). Has h.rows row) history has; same = refl });
        documents = λ doc d found. inl (was_doc s t.documents documents doc d found);
        awakes = λ nav place doc d there on found. inl (awakes nav place doc there on);
      }) are

  untouched : (kind : RowKind) → (then_ kind).history ≡ s.history → (then_ kind).states ≡ s.states → KeepLooks s.requests (then_ kind).requests → AreSame s.documents (then_ kind).documents → (then_ kind).places ≡ s.places → AreLoading (then_ kind)
  untouched kind history states looks documents places =
      quiet (then_ kind) history (subst (λ (n : ℕ). s.states ≤ n) (sym states) (least s.states)) looks documents (subst (λ (l : List Place). KeepAwakes s l) (sym places) (same_awakes s))

  pub accepted_loading : (req : ReqId) (doc : Option DocId) (what : Request) → req.0 ≡ length s.requests + 1 → AreLoading (then_ (rows.Accepted req doc what))
  accepted_loading req doc what next =
      untouched (rows.Accepted req doc what) refl refl (new_looks s.requests (new_request req doc what) req next refl) (same_all s.documents) refl

  pub refused_loading : (req : ReqId) (reason : Denial) → AreLoading (then_ (rows.Refused req reason))
  refused_loading req reason =
      untouched (rows.Refused req reason) refl refl (ended_looks s.requests req (endings.Refused reason)) (same_all s.documents) refl

  pub dropped_loading : (req : ReqId) (cause : Cause) → AreLoading (then_ (rows.Dropped req cause))
  dropped_loading req cause =
      untouched (rows.Dropped req cause) refl refl (ended_looks s.requests req (endings.Dropped cause)) (same_all s.documents) refl

  pub prompted_loading : (req : ReqId) (doc : DocId) → AreLoading (then_ (rows.Prompted req doc))
  prompted_loading req doc =
      untouched (rows.Prompted req doc) refl refl (read_looks s.requests (then_ (rows.Prompted req doc)).requests (prompted s.requests)) (same_all s.documents) refl
    where
      prompted : (asked : List Asked) → SameReads look asked (on_request req (λ q. record q { prompted = Some doc }) asked)
      prompted asked = on_read look asked req (λ q. record q { prompted = Some doc }) (λ q. refl)

  pub answered_loading : (req : ReqId) (stay : Bool) → AreLoading (then_ (rows.Answered req stay))
  answered_loading req stay =
      untouched (rows.Answered req stay) refl refl (read_looks s.requests (then_ (rows.Answered req stay)).requests (on_read look s.requests req (λ q. record q { answered = Some stay }) (λ q. refl))) (same_all s.documents) refl

  pub evicted_loading : (state : StateId) → AreLoading (then_ (rows.Evicted state))
  evicted_loading state = untouched (rows.Evicted state) refl refl (λ req l at on. at) (same_all s.documents) refl

  pub taken_loading : (proc : ProcId) (job : JobId) (live dirty : Bool) → AreLoading (then_ (rows.Taken proc job live dirty))
  taken_loading proc job live dirty =
      untouched (rows.Taken proc job live dirty) refl refl (λ req l at on. at) (same_all s.documents) refl

  pub finished_loading : (proc : ProcId) (job : JobId) (outcome : Outcome) → AreLoading (then_ (rows.Finished proc job outcome))
  finished_loading proc job outcome =
      untouched (rows.Finished proc job outcome) refl refl (read_looks s.requests (then_ (rows.Finished proc job outcome)).requests (finished_reads look look_blind s (desk_of s proc).in_hand outcome s.requests)) (finished_docs s.documents (task_in_hand s proc) outcome) refl

  pub killed_loading : (proc : ProcId) (death : Death) → AreLoading (then_ (rows.Killed proc death))
  killed_loading proc death = untouched (rows.Killed proc death) refl refl (λ req l at on. at) (killed_docs s proc death) refl

  -- a document makes something of a request that is no ongoing load
  pub made_loading : (proc : ProcId) (made : Made) → ((q : Asked) → request_of s made.req ≡ Some q → is_ongoing (look q) ≡ false) → AreLoading (then_ (rows.Made proc made))
  made_loading proc made no_load =
      untouched (rows.Made proc made) refl refl (changed_looks s.requests made.req (λ q. record q { made = Some made }) no_load) (made_docs made s.documents) refl

  -- a traversal begins, or a reload
  pub begun_other : (req : ReqId) (goal : Option Step) → ((q : Asked) → request_of s req ≡ Some q → is_load q.what ≡ false) → AreLoading (then_ (rows.Started req goal))
  begun_other req goal other =
      untouched (rows.Started req goal) refl (rw (no_load (request_of s req) other) refl) looks (same_all s.documents) refl
    where
      no_load : (o : Option Asked) → ((q : Asked) → o ≡ Some q → is_load q.what ≡ false) → holds (λ (q : Asked). is_load q.what) o ≡ false
      no_load None each = refl
      no_load (Some q) each = each q refl

      none : (a b : Bool) (c : Bool) → c ≡ false → ((a && b) && c) ≡ false
      none true true c e = e
      none true false c e = refl
      none false b c e = refl

      begin : Asked → Asked
      begin q = record q { is_started = true; goal = goal }

      begun : List Asked
      begun = on_request req begin s.requests

      mid : KeepLooks s.requests begun
      mid = changed_looks s.requests req begin (λ q at. none true (is_none q.ending) (is_load q.what) (other q at))

      looks : KeepLooks s.requests (then_ (rows.Started req goal)).requests
      looks r l at on = mid r l (changed_looks begun req (request_begun s) again r l at on) on
        where
          again : (q : Asked) → request_in begun req ≡ Some q → is_ongoing (look (request_begun s q)) ≡ false
          again q at = by_old (request_in s.requests req) refl
            where
              by_old : (o : Option Asked) → request_in s.requests req ≡ o → is_ongoing (look (request_begun s q)) ≡ false
              by_old None e =
                  let no_ : None ≡ Some q = sym (on_itself s.requests req begin ∙ ap (λ (o : Option Asked). option_map begin o) e) ∙ at in
                  absurd cc
              by_old (Some p) e =
                  let both : Some (begin p) ≡ Some q = sym (on_itself s.requests req begin ∙ ap (λ (o : Option Asked). option_map begin o) e) ∙ at in
                  let same : begin p ≡ q = cc in
                  none q.is_started (is_none q.ending) (is_load q.what) (ap (λ (x : Asked). is_load x.what) (sym same) ∙ other p e)

  pub delivered_loading : (proc : ProcId) → NoDeath (slice_get (desk_of s proc).reports 0) → AreLoading (then_ (rows.Delivered proc))
  delivered_loading proc no_death =
      let report = slice_get (desk_of s proc).reports 0 in
      quiet (then_ (rows.Delivered proc)) refl (least s.states) (read_looks s.requests (then_ (rows.Delivered proc)).requests (delivered_reads look look_blind report s.requests)) (delivered_docs s.documents report) (delivered_awakes s report no_death)
