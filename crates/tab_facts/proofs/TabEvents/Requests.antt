-- What is read of requests between two events, the traversal that runs and the ongoing loads, stays where none of these begins or ends.
use Rattle.seen_facts.proofs.Asked.Running.{run_in}
use Rattle.seen_facts.proofs.Each.Courses.{is_asked, was_asked}
use Rattle.seen_facts.specs.Each.Runs.{is_this}
use Rattle.log_model.specs.AfterRequests.{on_served, requests_finished}
use Rattle.log_model.specs.Places.{is_ongoing_load}
use Rattle.log_model.specs.Seen.{Asked, Seen, request_in}
use Rattle.log_model.specs.declared.job.Order.{Order}
use Rattle.log_model.specs.declared.job.Task.{Task}
use Rattle.log_model.specs.declared.job.Why.{Why}
use Rattle.log_model.specs.declared.outcome.Outcome.{Outcome}
use Rattle.seen_facts.proofs.Request.Readers.{SameReads, on_read}
use Rattle.std.proofs.Common.{Bool, List, None, Option, Some, [], ap, false, refl, sym, true, ◌==◌, ◌∙◌, ◌≡◌}
use Rattle.std.proofs.lemmas.Bool.{eqb-true}
use Rattle.std.specs.Prelude.{option_map}
use Rattle.tab_ids.specs.declared.ReqId.{ReqId}
use Rattle.log_model.specs.declared.job.Task.TheVariants as tasks
use Rattle.log_model.specs.declared.job.Why.TheVariants as whys
use Rattle.log_model.specs.declared.outcome.Outcome.TheVariants as outcomes

-- a request but for what documents answered and made
abbrev pub lean : Asked → Asked
lean q = record q { made = None; fragment = None; is_not_found = false; asks = [] }

-- among these, the request of the number is read as the same
pub record IsSo (asked : List Asked) (req : ReqId) (q : Asked) : Type 0 where
  pub other : Asked
  pub there : request_in asked req ≡ Some other
  pub same : lean other ≡ lean q

-- the same traversal runs, and the same loads are ongoing
pub record AreLeft (run : Option ReqId) (asked then : List Asked) : Type 0 where
  pub runs : option_map lean (run_in run then) ≡ option_map lean (run_in run asked)
  pub was : (req : ReqId) (q : Asked) → request_in then req ≡ Some q → is_ongoing_load q ≡ true → IsSo asked req q
  pub stays : (req : ReqId) (q : Asked) → request_in asked req ≡ Some q → is_ongoing_load q ≡ true → IsSo then req q

-- what is so twice
pub left_then : (run : Option ReqId) (a b c : List Asked) → AreLeft run a b → AreLeft run b c → AreLeft run a c
left_then run a b c one two =
    record {
      runs = two.runs ∙ one.runs;
      was = λ req q at on. was_ req q (two.was req q at on) on;
      stays = λ req q at on. stays_ req q (one.stays req q at on) on;
    }
  where
    was_ : (req : ReqId) (q : Asked) → IsSo b req q → is_ongoing_load q ≡ true → IsSo a req q
    was_ req q m on =
        let w : IsSo a req m.other = one.was req m.other m.there (ap is_ongoing_load m.same ∙ on) in
        record { other = w.other; there = w.there; same = w.same ∙ m.same }

    stays_ : (req : ReqId) (q : Asked) → IsSo b req q → is_ongoing_load q ≡ true → IsSo c req q
    stays_ req q m on =
        let w : IsSo c req m.other = two.stays req m.other m.there (ap is_ongoing_load m.same ∙ on) in
        record { other = w.other; there = w.there; same = w.same ∙ m.same }

-- each request is read as the same
pub same_left : (run : Option ReqId) (asked then : List Asked) → SameReads lean asked then → AreLeft run asked then
same_left run asked then same =
    record {
      runs = by_run run;
      was = λ req q at on. (let w = was_asked lean asked then same req q at in record { other = w.0; there = w.1; same = w.2 });
      stays = λ req q at on. (let w = is_asked lean asked then same req q at in record { other = w.0; there = w.1; same = w.2 });
    }
  where
    by_run : (r : Option ReqId) → option_map lean (run_in r then) ≡ option_map lean (run_in r asked)
    by_run None = refl
    by_run (Some r) = same r

-- one request is another, which isn't the traversal that runs and no ongoing load, before or then
pub others_left : (run : Option ReqId) (asked then : List Asked) (req : ReqId) → is_this run req ≡ false → ((r : ReqId) → (r.0 == req.0) ≡ false → request_in then r ≡ request_in asked r) → ((q : Asked) → request_in then req ≡ Some q → is_ongoing_load q ≡ false) → ((q : Asked) → request_in asked req ≡ Some q → is_ongoing_load q ≡ false) → AreLeft run asked then
others_left run asked then req apart others idle_then idle =
    record {
      runs = ap (λ (o : Option Asked). option_map lean o) (by_run run apart);
      was = λ r q at on. found asked then r q (λ e. others r e) idle_then at on;
      stays = λ r q at on. found then asked r q (λ e. sym (others r e)) idle at on;
    }
  where
    by_run : (r : Option ReqId) → is_this r req ≡ false → run_in r then ≡ run_in r asked
    by_run None other = refl
    by_run (Some r) other = others r other

    found : (a b : List Asked) (r : ReqId) (q : Asked) → ((r.0 == req.0) ≡ false → request_in b r ≡ request_in a r) → ((x : Asked) → request_in b req ≡ Some x → is_ongoing_load x ≡ false) → request_in b r ≡ Some q → is_ongoing_load q ≡ true → IsSo a r q
    found a b r q else_ none at on = by_number (r.0 == req.0) refl
      where
        by_number : (e : Bool) → (r.0 == req.0) ≡ e → IsSo a r q
        by_number false e = record { other = q; there = sym (else_ e) ∙ at; same = refl }
        by_number true e =
            let n : r.0 ≡ req.0 = eqb-true r.0 req.0 e in
            let one : r ≡ req = ap (λ i. let x : ReqId = record { 0 = i } in x) n in
            let never : true ≡ false = sym on ∙ none q (ap (λ (x : ReqId). request_in b x) (sym one) ∙ at) in absurd cc

-- ---- an order is finished

served_lean : (why : Why) (f : Asked → Asked) (asked : List Asked) → ((q : Asked) → lean (f q) ≡ lean q) → SameReads lean asked (on_served why f asked)
served_lean (whys.Req req) f asked same = on_read lean asked req f same
served_lean (whys.Death death) f asked same = λ r. refl
served_lean whys.Evict f asked same = λ r. refl
served_lean whys.Start f asked same = λ r. refl

fragment_lean : (s : Seen) (order : Order) (task : Task) (asked : List Asked) → order.job.task ≡ task → SameReads lean asked (requests_finished s (Some order) outcomes.Fragmented asked)
fragment_lean s order (tasks.DoFragment req mode address) asked is = rw is (on_read lean asked req _ (λ q. refl))
fragment_lean s order (tasks.Populate nav state address initial) asked is = rw is (λ r. refl)
fragment_lean s order (tasks.Activate entry epoch length index memo address) asked is = rw is (λ r. refl)
fragment_lean s order (tasks.Update length index) asked is = rw is (λ r. refl)
fragment_lean s order tasks.Freeze asked is = rw is (λ r. refl)
fragment_lean s order tasks.Discard asked is = rw is (λ r. refl)
fragment_lean s order (tasks.Ask slot cause) asked is = rw is (λ r. refl)

pub finished_lean : (s : Seen) (in_hand : Option Order) (outcome : Outcome) (asked : List Asked) → SameReads lean asked (requests_finished s in_hand outcome asked)
finished_lean s None outcome asked = λ r. refl
finished_lean s (Some order) (outcomes.Asked verdict) asked = served_lean order.job.why _ asked (λ q. refl)
finished_lean s (Some order) outcomes.Fragmented asked = fragment_lean s order order.job.task asked refl
finished_lean s (Some order) (outcomes.Populated slot) asked = λ r. refl
finished_lean s (Some order) outcomes.Activated asked = λ r. refl
finished_lean s (Some order) outcomes.Updated asked = λ r. refl
finished_lean s (Some order) outcomes.Frozen asked = λ r. refl
finished_lean s (Some order) outcomes.Discarded asked = λ r. refl
