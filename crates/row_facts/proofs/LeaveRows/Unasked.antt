-- A document without a handler is left without being asked.
use Rattle.row_facts.specs.LeaveRows.Leaving.{is_for_one}
use Rattle.row_facts.specs.FrameRows.Discarding.{SettlesNone}
use Rattle.log_model.specs.After.{after}
use Rattle.log_model.specs.Checks.{is_sent_in_time, is_settled_by, may_be_left, was_asked}
use Rattle.log_model.specs.Equal.{has_doc, implies}
use Rattle.log_model.specs.Events.{Point}
use Rattle.log_model.specs.Places.{all_asked, shower_of}
use Rattle.log_model.specs.Seen.{Asked, Document, Seen, document_of, request_of}
use Rattle.log_model.specs.declared.job.Why.{Why}
use Rattle.log_model.specs.declared.row_kind.LogRow.{LogRow}
use Rattle.seen_laws.proofs.Sendings.{both}
use Rattle.seen_laws.specs.Sending.{is_passed}
use Rattle.std.proofs.Common.{Bool, List, None, Option, Some, [], false, not, refl, true, ◌&&◌, ◌∷◌, ◌≡◌}
use Rattle.std.proofs.lemmas.Bool.{and_parts}
use Rattle.std.specs.List.{list_all}
use Rattle.std.specs.Prelude.{filter, is_some}
use Rattle.tab_ids.specs.declared.DocId.{DocId}
use Rattle.tab_ids.specs.declared.ReqId.{ReqId}
use Rattle.log_model.specs.declared.job.Task.TheVariants as tasks
use Rattle.log_model.specs.declared.job.Why.TheVariants as whys

-- where a row settles no question, nobody is asked
pub none_asked : (test asks : Asked → Bool) (asked : List Asked) → list_all (λ (q : Asked). not (test q)) asked ≡ true → list_all asks (filter test asked) ≡ true
none_asked test asks [] none = refl
none_asked test asks (q ∷ asked) none = by_test (none_asked test asks asked) (test q) refl none
  where
    by_test : (list_all (λ (q : Asked). not (test q)) asked ≡ true → list_all asks (filter test asked) ≡ true) → (b : Bool) → test q ≡ b → (not b && list_all (λ (q : Asked). not (test q)) asked) ≡ true → list_all asks (filter test (q ∷ asked)) ≡ true
    by_test others true is e = cc
    by_test others false is e = rw is (others e)

-- where all that were asked have answered, no row settles a question
pub all_answered : (s : Seen) (row : LogRow) → list_all (all_asked s) s.requests ≡ true → SettlesNone s row
all_answered s row all = by_list s.requests all
  where
    by_list : (asked : List Asked) → list_all (all_asked s) asked ≡ true → list_all (λ (q : Asked). not (is_settled_by s (after s row) q)) asked ≡ true
    by_list [] all = refl
    by_list (q ∷ asked) all =
        let parts = and_parts (all_asked s q) (list_all (all_asked s) asked) all in
        let one : not (is_settled_by s (after s row) q) ≡ true = rw (parts.0) refl in
        both one (by_list asked parts.1)

module _ (p : Point) (doc : DocId) (d : Document) (found : document_of p.now doc ≡ Some d) (unhandled : d.slot ≡ None) where
  -- for a request that is there
  left_for : (req : ReqId) (q : Asked) → request_of p.now req ≡ Some q → may_be_left p doc req ≡ true
  left_for req q there = rw there (rw found (rw unhandled (never (has_doc q.awake_then doc && is_some (shower_of p.start doc)))))
    where
      never : (a : Bool) → implies (a && false) (was_asked q doc) ≡ true
      never true = refl
      never false = refl

  -- a Discard comes no sooner than it may
  pub discard_in_time : (why : Why) → is_for_one p.now why ≡ true → is_sent_in_time p doc why tasks.Discard ≡ true
  discard_in_time (whys.Req req) there = by_found (request_of p.now req) refl there
    where
      by_found : (o : Option Asked) → request_of p.now req ≡ o → is_some o ≡ true → may_be_left p doc req ≡ true
      by_found None is some = cc
      by_found (Some q) is some = left_for req q is
  discard_in_time (whys.Death death) there = refl
  discard_in_time whys.Evict there = refl
  discard_in_time whys.Start there = refl

  -- nor does a Freeze
  pub freeze_in_time : (why : Why) → is_passed p.now tasks.Freeze why ≡ true → is_sent_in_time p doc why tasks.Freeze ≡ true
  freeze_in_time (whys.Req req) passed = both passed (by_found (request_of p.now req) refl passed)
    where
      by_found : (o : Option Asked) → request_of p.now req ≡ o → is_passed p.now tasks.Freeze (whys.Req req) ≡ true → may_be_left p doc req ≡ true
      by_found None is passed = let never : is_passed p.now tasks.Freeze (whys.Req req) ≡ false = rw is refl in cc
      by_found (Some q) is passed = left_for req q is
  freeze_in_time (whys.Death death) passed = refl
  freeze_in_time whys.Evict passed = refl
  freeze_in_time whys.Start passed = refl
