-- The traversal that joined first: it is open, hasn't begun where none runs, and may begin or is refused in its turn.
use Rattle.seen_facts.specs.Asked.Asking.{ArePlain, IsTabRequest}
use Rattle.seen_facts.specs.Doc.Docs.{AreDocs}
use Rattle.seen_facts.proofs.Each.Runs.{at_place}
use Rattle.seen_facts.specs.Each.Runs.{is_run}
use Rattle.tab_facts.proofs.FrameWhole.Beginning.{goes_by}
use Rattle.log_model.proofs.Refl.{nat_eq_refl}
use Rattle.log_model.specs.Equal.{has_req}
use Rattle.log_model.specs.Once.{delta_of}
use Rattle.log_model.specs.Orders.{Question, due_questions, is_leaving, leave_cause, question_for}
use Rattle.log_model.specs.Places.{all_stand, awake_document, is_traversal, is_under_way}
use Rattle.log_model.specs.Queue.{begins_in_turn, is_step_under_way}
use Rattle.log_model.specs.Seen.{Asked, Document, Place, Seen, document_of, request_in, request_of}
use Rattle.log_model.specs.Walk.{walk_of}
use Rattle.log_model.specs.declared.made.Made.{Made}
use Rattle.log_model.specs.declared.request.Request.{Request}
use Rattle.seen_facts.proofs.Request.Alls.{all_first}
use Rattle.seen_facts.proofs.Request.Times.{itself}
use Rattle.seen_facts.specs.Request.Cores.{Core, core, core_of}
use Rattle.seen_facts.specs.Request.Knowns.{IsJoined, req_itself}
use Rattle.std.proofs.Common.{Bool, List, None, Option, Some, [], ap, cond, false, not, refl, suc, sym, true, ℕ, ℤ, ◌&&◌, ◌+◌, ◌||◌, ◌∙◌, ◌∷◌, ◌≡◌}
use Rattle.std.specs.List.{list_all}
use Rattle.std.specs.Prelude.{filter_map, option_and_then, option_map, slice_get}
use Rattle.tab_ids.specs.declared.DocId.{DocId}
use Rattle.tab_ids.specs.declared.ReqId.{ReqId}
use Rattle.tab_ids.specs.declared.Step.{Step}
use Rattle.tab_turns.specs.Beginning.{IsFirst}
use Rattle.tab_passes.proofs.Passings.{IsTab}
use Rattle.log_model.specs.declared.request.Request.TheVariants as requests

-- ---- it is open

pub record IsWaitingFirst (s : Seen) (req : ReqId) (delta : ℤ) : Type 0 where
  pub q : Asked
  pub at : request_of s req ≡ Some q
  pub asks : delta_of q.what ≡ Some delta
  pub goes : is_traversal q.what ≡ true
  pub open_ : q.ending ≡ None
  pub joined : has_req s.joined req ≡ true

pub first_waits : (run : Option ReqId) (loads : List ReqId) (hand : List Made) (s : Seen) → IsTab run loads hand s → (req : ReqId) (delta : ℤ) → IsFirst s req delta → IsWaitingFirst s req delta
first_waits run loads hand s tab req delta is = by_found (request_in s.requests req) refl is.asks known
  where
    known : IsJoined (core_of (request_in s.requests req)) req
    known = all_first IsJoined req_itself s.requests s.joined req is.first tab.known.joined

    in_front : (l : List ReqId) → slice_get l 0 ≡ Some req → has_req l req ≡ true
    in_front [] e = absurd cc
    in_front (x ∷ l) e = (let same : x ≡ req = cc in rw same (rw (itself req) refl))

    by_found : (o : Option Asked) → request_in s.requests req ≡ o → option_and_then (λ (q : Asked). delta_of q.what) o ≡ Some delta → IsJoined (core_of (request_in s.requests req)) req → IsWaitingFirst s req delta
    by_found None e never j = absurd cc
    by_found (Some q) e asks j =
        let is_ : (let o : Option Core = Some (core q) in o) ≡ Some (record { what = j.what; doc = j.doc; made = j.made; ending = None }) = sym (ap core_of e) ∙ j.is in
        let same : core q ≡ record { what = j.what; doc = j.doc; made = j.made; ending = None } = cc in
        record {
          q = q;
          at = e;
          asks = asks;
          goes = goes_by q.what delta asks;
          open_ = ap (λ (c : Core). c.ending) same;
          joined = in_front s.joined is.first;
        }

-- one that doesn't run hasn't begun
pub not_begun : (q : Asked) → is_traversal q.what ≡ true → q.ending ≡ None → is_run q ≡ false → q.is_started ≡ false
not_begun q goes open_ runs = by_started q.is_started refl
  where
    by_started : (b : Bool) → q.is_started ≡ b → q.is_started ≡ false
    by_started false e = e
    by_started true e =
        let yes : is_run q ≡ true = rw e (rw open_ (rw goes refl)) in
        let never : true ≡ false = sym yes ∙ runs in absurd cc

-- ---- its turn

-- each of a list passes
each_passes : {A : Type 0} (test : A → Bool) (xs : List A) → ((i : ℕ) (x : A) → slice_get xs i ≡ Some x → test x ≡ true) → list_all test xs ≡ true
each_passes test [] each = refl
each_passes test (x ∷ xs) each = rw (each 0 x refl) (each_passes test xs (λ i y there. each (suc i) y there))

-- where none runs, no step of the queue is under way
pub none_under_way : (s : Seen) → ArePlain None s → list_all (λ (q : Asked). not (is_step_under_way q)) s.requests ≡ true
none_under_way s plain =
    each_passes (λ (q : Asked). not (is_step_under_way q)) s.requests (λ i q at. (let there : request_in s.requests (record { 0 = i + 1 }) ≡ Some q = at_place s.requests i ∙ at in by_parts q q.what refl (plain.each (record { 0 = i + 1 }) q there).what (plain.only (record { 0 = i + 1 }) q there)))
  where
    either : (a b : Bool) → (a && b) ≡ false → not (a && (b || false)) ≡ true
    either true true e = absurd cc
    either true false e = refl
    either false b e = refl

    neither : (a : Bool) → not (a && (false || false)) ≡ true
    neither true = refl
    neither false = refl

    by_parts : (q : Asked) (what : Request) → q.what ≡ what → IsTabRequest what → is_run q ≡ false → not (is_step_under_way q) ≡ true
    by_parts q (requests.Go delta) is plain_ runs = rw is (either (is_under_way q) true (sym (ap (λ (w : Request). is_under_way q && is_traversal w) is) ∙ runs))
    by_parts q (requests.Poke nav action) is plain_ runs = rw is (either (is_under_way q) (is_traversal (requests.Poke nav action)) (sym (ap (λ (w : Request). is_under_way q && is_traversal w) is) ∙ runs))
    by_parts q (requests.Reload nav) is never runs = absurd never
    by_parts q (requests.Load nav mode address) is plain_ runs = rw is (neither (is_under_way q))

pub first_turn : (s : Seen) (req : ReqId) (delta : ℤ) → ArePlain None s → all_stand s s.history.current ≡ true → IsFirst s req delta → begins_in_turn s req ≡ true
first_turn s req delta plain stand is = rw (none_under_way s plain, stand) (rw is.first (nat_eq_refl req.0))

-- ---- nobody is asked

pub none_asked : (s : Seen) → AreDocs s → (what : Request) (goal : Option Step) → due_questions s what goal ≡ []
none_asked s docs what goal = each_none (walk_of s.places)
  where
    unslotted : (place : Place) (o : Option DocId) → option_and_then (λ (d : Document). (let q : Option Question = cond (is_leaving s what goal place d) (option_map (λ (slot : ℕ). (d.nr, slot, leave_cause what)) d.slot) None in q)) (option_and_then (document_of s) o) ≡ None
    unslotted place None = refl
    unslotted place (Some doc) = by_document (document_of s doc) refl
      where
        by_test : (b : Bool) → (let q : Option Question = cond b None None in q) ≡ None
        by_test true = refl
        by_test false = refl

        by_document : (o : Option Document) → document_of s doc ≡ o → option_and_then (λ (d : Document). (let q : Option Question = cond (is_leaving s what goal place d) (option_map (λ (slot : ℕ). (d.nr, slot, leave_cause what)) d.slot) None in q)) o ≡ None
        by_document None e = refl
        by_document (Some d) e =
            ap (λ (slot_ : Option ℕ). (let q : Option Question = cond (is_leaving s what goal place d) (option_map (λ (slot : ℕ). (d.nr, slot, leave_cause what)) slot_) None in q)) (docs.each doc d e).live.slot
            ∙ by_test (is_leaving s what goal place d)

    each_none : (l : List Place) → filter_map (question_for s what goal) l ≡ []
    each_none [] = refl
    each_none (place ∷ l) =
        let none : question_for s what goal place ≡ None = unslotted place (awake_document place) in
        rw none (each_none l)
