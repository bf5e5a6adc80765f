-- Requests that a row leaves to go on: one changes, an order serves it, a document answers, or one more is accepted.
use Rattle.std.proofs.Common.{◌≡◌, ℕ, ◌+◌, Bool, true, false, ◌==◌, List, [], ◌∷◌, ◌++◌, length, Option, Some, None, refl, sym, ap, ◌∙◌, subst, eqb-true}
use Rattle.std.specs.Prelude.{option_map}
use Rattle.std.specs.List.{list_any}
use Rattle.tab_ids.specs.declared.DocId.{DocId}
use Rattle.tab_ids.specs.declared.EntryId.{EntryId}
use Rattle.tab_ids.specs.declared.JobId.{JobId}
use Rattle.tab_ids.specs.declared.ReqId.{ReqId}
use Rattle.tab_ids.specs.declared.Step.{Step}
use Rattle.log_model.specs.declared.change.Change.{Change}
use Rattle.log_model.specs.declared.job.Job.{Job}
use Rattle.log_model.specs.declared.job.Order.{Order}
use Rattle.log_model.specs.declared.job.Task.{Task}
use Rattle.log_model.specs.declared.job.Task.TheVariants as tasks
use Rattle.log_model.specs.declared.job.Why.{Why}
use Rattle.log_model.specs.declared.job.Why.TheVariants as whys
use Rattle.log_model.specs.declared.made.Made.{Made}
use Rattle.log_model.specs.declared.made.Report.{Report}
use Rattle.log_model.specs.declared.made.Report.TheVariants as reports
use Rattle.log_model.specs.declared.outcome.Ending.{Ending}
use Rattle.log_model.specs.declared.outcome.Ending.TheVariants as endings
use Rattle.log_model.specs.declared.outcome.Outcome.{Outcome}
use Rattle.log_model.specs.declared.outcome.Outcome.TheVariants as outcomes
use Rattle.log_model.specs.declared.request.Request.{Request}
use Rattle.log_model.specs.After.{ended, new_request}
use Rattle.log_model.specs.AfterRequests.{entries_taken, on_asking, on_request, on_served, request_begun, request_served, requests_delivered, requests_finished, requests_sent}
use Rattle.log_model.specs.Seen.{Seen, Asked, Asking, Document, document_of, request_in}
use Rattle.seen_facts.proofs.Coord.Held.{on_else}
use Rattle.seen_facts.proofs.Request.LookUps.{none_before, on_itself, one_more, others_before}
use Rattle.seen_facts.specs.Mover.Movers.{AllChangeAsTheyEnd, ChangesAsItEnds}
use Rattle.seen_facts.proofs.Mover.Stays.{GoOn, GoesOn, GoesTo}

-- ---- one request

-- it goes on, and changes as it ends
pub record Follows (q new : Asked) : Type 0 where
  pub on : GoesOn q new
  pub ends : (req : ReqId) → ChangesAsItEnds req q → ChangesAsItEnds req new

-- what is read of a request, but for whom it asks
pub record Deed : Type 0 where
  pub nr : ReqId
  pub what : Request
  pub is_started : Bool
  pub ending : Option Ending
  pub change : Option Change
  pub took : List EntryId

abbrev pub deed : Asked → Deed
deed q = record { nr = q.nr; what = q.what; is_started = q.is_started; ending = q.ending; change = q.change; took = q.took }

pub same_deed : (q new : Asked) → deed new ≡ deed q → Follows q new
same_deed q new same =
    record {
      on = record {
        what = ap (λ (d : Deed). d.what) same;
        begun = λ e. ap (λ (d : Deed). d.is_started) same ∙ e;
        change = λ c e. ap (λ (d : Deed). d.change) same ∙ e;
        took = λ test e. ap (λ (d : Deed). list_any test d.took) same ∙ e;
      };
      ends = λ req is. record {
        nr = ap (λ (d : Deed). d.nr) same ∙ is.nr;
        unchanged = λ open_. ap (λ (d : Deed). d.change) same ∙ is.unchanged (sym (ap (λ (d : Deed). d.ending) same) ∙ open_);
        untaken = λ open_. ap (λ (d : Deed). d.took) same ∙ is.untaken (sym (ap (λ (d : Deed). d.ending) same) ∙ open_);
      };
    }

pub as_asked : (q : Asked) → Follows q q
as_asked q = same_deed q q refl

pub then_follows : (a b c : Asked) → Follows a b → Follows b c → Follows a c
then_follows a b c one two =
    record {
      on = record {
        what = two.on.what ∙ one.on.what;
        begun = λ e. two.on.begun (one.on.begun e);
        change = λ x e. two.on.change x (one.on.change x e);
        took = λ test e. two.on.took test (one.on.took test e);
      };
      ends = λ req is. two.ends req (one.ends req is);
    }

-- ---- the requests of a list, by their numbers

abbrev pub FollowsIn : Option Asked → Option Asked → Type 0
FollowsIn None None = Unit {0}
FollowsIn (Some q) (Some new) = Follows q new
FollowsIn _ _ = ⊥

abbrev pub AllFollow : List Asked → List Asked → Type 0
AllFollow asked next = (req : ReqId) → FollowsIn (request_in asked req) (request_in next req)

same_in : (o : Option Asked) → FollowsIn o o
same_in None = tt
same_in (Some q) = as_asked q

both_in : (a b c : Option Asked) → FollowsIn a b → FollowsIn b c → FollowsIn a c
both_in None None None one two = tt
both_in (Some x) (Some y) (Some z) one two = then_follows x y z one two
both_in None (Some y) c one two = absurd one
both_in None None (Some z) one two = absurd two
both_in (Some x) None c one two = absurd one
both_in (Some x) (Some y) None one two = absurd two

pub all_same : (asked : List Asked) → AllFollow asked asked
all_same asked req = same_in (request_in asked req)

pub all_then : (a b c : List Asked) → AllFollow a b → AllFollow b c → AllFollow a c
all_then a b c one two req = both_in (request_in a req) (request_in b req) (request_in c req) (one req) (two req)

pub all_go_on : (asked next : List Asked) → AllFollow asked next → GoOn asked next
all_go_on asked next follow req q at = by_new (request_in next req) refl (follow req)
  where
    by_new : (o : Option Asked) → request_in next req ≡ o → FollowsIn (request_in asked req) o → GoesTo next req q
    by_new None e f = absurd (subst (λ (o : Option Asked). FollowsIn o None) at f)
    by_new (Some new) e f =
        let its : Follows q new = subst (λ (o : Option Asked). FollowsIn o (Some new)) at f in
        record { new = new; found = e; on = its.on }

pub all_ends : (asked next : List Asked) → AllFollow asked next → AllChangeAsTheyEnd asked → AllChangeAsTheyEnd next
all_ends asked next follow are req new at = by_old (request_in asked req) refl (subst (λ (o : Option Asked). FollowsIn (request_in asked req) o) at (follow req))
  where
    by_old : (o : Option Asked) → request_in asked req ≡ o → FollowsIn o (Some new) → ChangesAsItEnds req new
    by_old None e f = absurd f
    by_old (Some q) e f = f.ends req (are req q e)

pub req_same : (a b : ReqId) → (a.0 == b.0) ≡ true → a ≡ b
req_same a b e = let n : a.0 ≡ b.0 = eqb-true a.0 b.0 e in ap (λ (i : ℕ). let x : ReqId = record { 0 = i } in x) n

-- the list where one request may be another
pub one_follows : (asked next : List Asked) (req : ReqId) → FollowsIn (request_in asked req) (request_in next req) → ((r : ReqId) → (r.0 == req.0) ≡ false → request_in next r ≡ request_in asked r) → AllFollow asked next
one_follows asked next req own others r = by_number (r.0 == req.0) refl
  where
    by_number : (b : Bool) → (r.0 == req.0) ≡ b → FollowsIn (request_in asked r) (request_in next r)
    by_number true e = subst (λ (x : ReqId). FollowsIn (request_in asked x) (request_in next x)) (sym (req_same r req e)) own
    by_number false e = subst (λ (o : Option Asked). FollowsIn (request_in asked r) o) (sym (others r e)) (same_in (request_in asked r))

-- one request is changed
pub on_follows : (asked : List Asked) (req : ReqId) (f : Asked → Asked) → ((q : Asked) → Follows q (f q)) → AllFollow asked (on_request req f asked)
on_follows asked req f each =
    one_follows asked (on_request req f asked) req (subst (λ (o : Option Asked). FollowsIn (request_in asked req) o) (sym (on_itself asked req f)) (own (request_in asked req))) (λ r apart. on_else asked req f r apart)
  where
    own : (o : Option Asked) → FollowsIn o (option_map f o)
    own None = tt
    own (Some q) = each q

-- ---- what orders add

why_follows : (why : Why) (f : Asked → Asked) (asked : List Asked) → ((q : Asked) → Follows q (f q)) → AllFollow asked (on_served why f asked)
why_follows (whys.Req req) f asked each = on_follows asked req f each
why_follows (whys.Death death) f asked each = all_same asked
why_follows whys.Evict f asked each = all_same asked
why_follows whys.Start f asked each = all_same asked

-- the order asks no document whether it may be left
abbrev pub AsksNone : Task → Type 0
AsksNone (tasks.Ask slot cause) = ⊥
AsksNone _ = Unit {0}

served_follows : (s : Seen) (job : Job) (task : Task) → AsksNone task → (q : Asked) → Follows q (request_served s job task q)
served_follows s job (tasks.Activate entry epoch length index memo address) none q = by_document (document_of s job.doc) refl
  where
    by_document : (o : Option Document) → document_of s job.doc ≡ o → Follows q (request_served s job (tasks.Activate entry epoch length index memo address) q)
    by_document None e = rw e (as_asked q)
    by_document (Some d) e = rw e (same_deed q _ refl)
served_follows s job tasks.Freeze none q = same_deed q (request_served s job tasks.Freeze q) refl
served_follows s job tasks.Discard none q = same_deed q (request_served s job tasks.Discard q) refl
served_follows s job (tasks.Ask slot cause) never q = absurd never
served_follows s job (tasks.Populate nav state address initial) none q = as_asked q
served_follows s job (tasks.Update length index) none q = as_asked q
served_follows s job (tasks.DoFragment req mode address) none q = as_asked q

pub sent_follow : (s : Seen) (job : Job) (task : Task) (asked : List Asked) → AsksNone task → AllFollow asked (requests_sent s job task asked)
sent_follow s job (tasks.DoFragment req mode address) asked none =
    on_follows asked req (λ q. record q { fragment = Some job.doc }) (λ q. same_deed q (record q { fragment = Some job.doc }) refl)
sent_follow s job (tasks.Populate nav state address initial) asked none = all_same asked
sent_follow s job (tasks.Update length index) asked none = all_same asked
sent_follow s job (tasks.Activate entry epoch length index memo address) asked none =
    why_follows job.why (request_served s job (tasks.Activate entry epoch length index memo address)) asked (served_follows s job (tasks.Activate entry epoch length index memo address) tt)
sent_follow s job tasks.Freeze asked none =
    why_follows job.why (request_served s job tasks.Freeze) asked (served_follows s job tasks.Freeze tt)
sent_follow s job tasks.Discard asked none =
    why_follows job.why (request_served s job tasks.Discard) asked (served_follows s job tasks.Discard tt)
sent_follow s job (tasks.Ask slot cause) asked never = absurd never

-- ---- what documents answer

asking_follows : (job : JobId) (f : Asking → Asking) (q : Asked) → Follows q (on_asking job f q)
asking_follows job f q =
    same_deed q (on_asking job f q) refl

fragment_follows : (s : Seen) (order : Order) (task : Task) (asked : List Asked) → order.job.task ≡ task → AllFollow asked (requests_finished s (Some order) outcomes.Fragmented asked)
fragment_follows s order (tasks.DoFragment req mode address) asked is = rw is (on_follows asked req _ (λ q. same_deed q _ refl))
fragment_follows s order (tasks.Populate nav state address initial) asked is = rw is (all_same asked)
fragment_follows s order (tasks.Activate entry epoch length index memo address) asked is = rw is (all_same asked)
fragment_follows s order (tasks.Update length index) asked is = rw is (all_same asked)
fragment_follows s order tasks.Freeze asked is = rw is (all_same asked)
fragment_follows s order tasks.Discard asked is = rw is (all_same asked)
fragment_follows s order (tasks.Ask slot cause) asked is = rw is (all_same asked)

pub finished_follow : (s : Seen) (in_hand : Option Order) (outcome : Outcome) (asked : List Asked) → AllFollow asked (requests_finished s in_hand outcome asked)
finished_follow s None outcome asked = all_same asked
finished_follow s (Some order) (outcomes.Asked verdict) asked =
    why_follows order.job.why (on_asking order.job.nr (λ asking. record asking { verdict = Some verdict })) asked (asking_follows order.job.nr (λ asking. record asking { verdict = Some verdict }))
finished_follow s (Some order) outcomes.Fragmented asked = fragment_follows s order order.job.task asked refl
finished_follow s (Some order) (outcomes.Populated slot) asked = all_same asked
finished_follow s (Some order) outcomes.Activated asked = all_same asked
finished_follow s (Some order) outcomes.Updated asked = all_same asked
finished_follow s (Some order) outcomes.Frozen asked = all_same asked
finished_follow s (Some order) outcomes.Discarded asked = all_same asked

done_follow : (job : Job) (outcome : Outcome) (made : Option Made) (asked : List Asked) → AllFollow asked (requests_delivered (Some (reports.Done job outcome made)) asked)
done_follow job (outcomes.Asked verdict) made asked =
    why_follows job.why (on_asking job.nr (λ asking. record asking { is_delivered = true })) asked (asking_follows job.nr (λ asking. record asking { is_delivered = true }))
done_follow job outcomes.Fragmented made asked = all_same asked
done_follow job (outcomes.Populated slot) made asked = all_same asked
done_follow job outcomes.Activated made asked = all_same asked
done_follow job outcomes.Updated made asked = all_same asked
done_follow job outcomes.Frozen made asked = all_same asked
done_follow job outcomes.Discarded made asked = all_same asked

pub delivered_follow : (report : Option Report) (asked : List Asked) → AllFollow asked (requests_delivered report asked)
delivered_follow None asked = all_same asked
delivered_follow (Some (reports.Done job outcome made)) asked = done_follow job outcome made asked
delivered_follow (Some (reports.Made made)) asked = all_same asked
delivered_follow (Some (reports.Died death)) asked = all_same asked

-- ---- requests that begin, end, or are applied

-- one that has ended keeps the change that it had, and what that took
pub ended_follow : (asked : List Asked) (req : ReqId) (ending : Ending) → AllFollow asked (ended asked req ending)
ended_follow asked req ending = on_follows asked req (λ q. record q { ending = Some ending }) each
  where
    each : (q : Asked) → Follows q (record q { ending = Some ending })
    each q =
        record {
          on = record { what = refl; begun = λ e. e; change = λ c e. e; took = λ test e. e };
          ends = λ r is. record { nr = is.nr; unchanged = λ e. cc; untaken = λ e. cc };
        }

pub begun_follow : (s : Seen) (asked : List Asked) (req : ReqId) (goal : Option Step) → AllFollow asked (on_request req (request_begun s) (on_request req (λ q. record q { is_started = true; goal = goal }) asked))
begun_follow s asked req goal =
    all_then asked (on_request req start asked) (on_request req (request_begun s) (on_request req start asked)) (on_follows asked req start each) (on_follows (on_request req start asked) req (request_begun s) (λ q. same_deed q (request_begun s q) refl))
  where
    start : Asked → Asked
    start q = record q { is_started = true; goal = goal }

    each : (q : Asked) → Follows q (start q)
    each q =
        record {
          on = record { what = refl; begun = λ e. refl; change = λ c e. e; took = λ test e. e };
          ends = λ r is. record { nr = is.nr; unchanged = is.unchanged; untaken = is.untaken };
        }

-- an open request had no change and took nothing, so it moved nobody by these; then it has ended
module _ (s : Seen) (asked : List Asked) (req : ReqId) (change : Change) (open_ : (q : Asked) → request_in asked req ≡ Some q → q.ending ≡ None) (are : AllChangeAsTheyEnd asked) where
  abbrev end_it : Asked → Asked
  end_it q = record q { ending = Some endings.Applied }

  abbrev change_it : Asked → Asked
  change_it q = record q { change = Some change }

  abbrev take_it : Asked → Asked
  take_it q = record q { took = entries_taken s.history change }

  pub applied_follow : AllFollow asked (on_request req (λ q. record q { took = entries_taken s.history change }) (on_request req (λ q. record q { change = Some change }) (ended asked req endings.Applied)))
  applied_follow =
      one_follows asked (on_request req take_it (on_request req change_it (on_request req end_it asked))) req (subst (λ (o : Option Asked). FollowsIn (request_in asked req) o) (sym itself) (own (request_in asked req) refl)) else_
    where
      itself : request_in (on_request req take_it (on_request req change_it (on_request req end_it asked))) req ≡ option_map take_it (option_map change_it (option_map end_it (request_in asked req)))
      itself =
          on_itself (on_request req change_it (on_request req end_it asked)) req take_it
          ∙ ap (option_map take_it) (on_itself (on_request req end_it asked) req change_it ∙ ap (option_map change_it) (on_itself asked req end_it))

      else_ : (r : ReqId) → (r.0 == req.0) ≡ false → request_in (on_request req take_it (on_request req change_it (on_request req end_it asked))) r ≡ request_in asked r
      else_ r apart =
          on_else (on_request req change_it (on_request req end_it asked)) req take_it r apart
          ∙ on_else (on_request req end_it asked) req change_it r apart
          ∙ on_else asked req end_it r apart

      follows : (q : Asked) → q.ending ≡ None → ChangesAsItEnds req q → Follows q (take_it (change_it (end_it q)))
      follows q unended is =
          record {
            on = record {
              what = refl;
              begun = λ e. e;
              change = λ c e. (let no_ : None ≡ Some c = sym (is.unchanged unended) ∙ e in absurd cc);
              took = λ test e. (let no_ : false ≡ true = sym (ap (list_any test) (is.untaken unended)) ∙ e in absurd cc);
            };
            ends = λ r its. record { nr = its.nr; unchanged = λ e. absurd cc; untaken = λ e. absurd cc };
          }

      own : (o : Option Asked) → request_in asked req ≡ o → FollowsIn o (option_map take_it (option_map change_it (option_map end_it o)))
      own None e = tt
      own (Some q) e = follows q (open_ q e) (are req q e)

-- ---- one request more

module _ (asked : List Asked) (req : ReqId) (doc : Option DocId) (what : Request) (next : req.0 ≡ length asked + 1) where
  abbrev new : Asked
  new = new_request req doc what

  pub more_go_on : GoOn asked (asked ++ new ∷ [])
  more_go_on r q at = by_number (req.0 == r.0) refl
    where
      by_number : (b : Bool) → (req.0 == r.0) ≡ b → GoesTo (asked ++ new ∷ []) r q
      by_number true e =
          let none : None ≡ Some q = sym (none_before asked new req next) ∙ ap (request_in asked) (req_same req r e) ∙ at in
          absurd cc
      by_number false e =
          record { new = q; found = others_before asked new req next r e ∙ at; on = (as_asked q).on }

  pub more_ends : AllChangeAsTheyEnd asked → AllChangeAsTheyEnd (asked ++ new ∷ [])
  more_ends are r q at = by_number (req.0 == r.0) refl
    where
      by_number : (b : Bool) → (req.0 == r.0) ≡ b → ChangesAsItEnds r q
      by_number true e =
          let both : Some new ≡ Some q = sym (one_more asked new req next) ∙ ap (request_in (asked ++ new ∷ [])) (req_same req r e) ∙ at in
          let is : new ≡ q = cc in
          subst (λ (x : Asked). ChangesAsItEnds r x) is (record { nr = req_same req r e; unchanged = λ open_. refl; untaken = λ open_. refl })
      by_number false e = are r q (sym (others_before asked new req next r e) ∙ at)
