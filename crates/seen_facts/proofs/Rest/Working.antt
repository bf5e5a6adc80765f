-- A poke that is accepted, and a process that takes up an order, finishes one, or lets a document act, leave a tab as one is between two events.
use Rattle.std.proofs.Common.{◌≡◌, ◌⊎◌, inl, inr, ℕ, zero, suc, ◌+◌, ◌-◌, ◌≤◌, Bool, true, false, cond, not, ◌&&◌, ◌||◌, ◌==◌, List, [], ◌∷◌, ◌++◌, length, Option, Some, None, refl, sym, ap, ◌∙◌, subst, arith}
use Rattle.std.specs.Prelude.{drop, find, map, option_map, option_and_then, is_some, slice_get}
use Rattle.std.specs.List.{list_all, slice_set}
use Rattle.std.specs.Option.{option_map_or}
use Rattle.std.proofs.lemmas.Bool.{and_parts}
use Rattle.std.proofs.lemmas.Bool.Decides.{nat_tests}
use Rattle.std.proofs.lemmas.List.{map-id}
use Rattle.tab_ids.specs.declared.DocId.{DocId}
use Rattle.tab_ids.specs.declared.NavId.{NavId}
use Rattle.tab_ids.specs.declared.ProcId.{ProcId}
use Rattle.tab_ids.specs.declared.ReqId.{ReqId}
use Rattle.tab_ids.specs.declared.StateId.{StateId}
use Rattle.tab_ids.specs.declared.Step.{Step}
use Rattle.log_model.specs.declared.job.Job.{Job}
use Rattle.log_model.specs.declared.job.Order.{Order}
use Rattle.log_model.specs.declared.job.Task.{Task}
use Rattle.log_model.specs.declared.job.Task.TheVariants as tasks
use Rattle.log_model.specs.declared.made.Report.{Report}
use Rattle.log_model.specs.declared.made.Report.TheVariants as reports
use Rattle.log_model.specs.declared.made.Made.{Made}
use Rattle.log_model.specs.declared.made.What.{What}
use Rattle.log_model.specs.declared.outcome.Outcome.{Outcome}
use Rattle.log_model.specs.declared.outcome.Outcome.TheVariants as outcomes
use Rattle.log_model.specs.declared.action.Action.{Action}
use Rattle.log_model.specs.declared.request.Poke.{Poke}
use Rattle.log_model.specs.declared.request.Request.TheVariants as requests
use Rattle.log_model.specs.declared.row_kind.Actor.{Actor}
use Rattle.log_model.specs.declared.row_kind.Actor.TheVariants as actors
use Rattle.log_model.specs.declared.row_kind.RowKind.{RowKind}
use Rattle.log_model.specs.declared.row_kind.RowKind.TheVariants as rows
use Rattle.log_model.specs.ActsAtOnce.{is_told, ends_told, has_reason_to_run, has_no_step_waiting, is_ready_load, ends_stepped}
use Rattle.log_model.specs.After.{after, follows_finished, new_request}
use Rattle.log_model.specs.AfterDocuments.{documents_finished, slot_finished, documents_delivered}
use Rattle.log_model.specs.AfterPlaces.{places_delivered}
use Rattle.log_model.specs.AfterRequests.{on_request, requests_finished, requests_delivered}
use Rattle.log_model.specs.Equal.{holds, implies, same_pair, has_req}
use Rattle.log_model.specs.History.{History, has_nav, has_state, used_step_at}
use Rattle.log_model.specs.Places.{is_awake, is_gone, is_under_way, is_load, is_traversal, is_ongoing_load, has_passed, has_passed_with, passed_in, passed_traversal, aim_with, aim_of, all_stand, all_stand_in, awake_document, told_pair, pair_in, running_in, is_moved_in, due_pair}
use Rattle.log_model.specs.Queue.{is_step_under_way, is_queue_free}
use Rattle.log_model.specs.Soundness.{IsSound}
use Rattle.log_model.specs.Seen.{Seen, awake, Asked, Document, Place, document_of, desk_of, place_in, place_of, request_in}
use Rattle.log_model.specs.Views.{View, made_for}
use Rattle.seen_laws.specs.Acting.{IsToAct, IsNoEdit}
use Rattle.seen_laws.proofs.Keyed.{find_map}
use Rattle.seen_laws.proofs.Sendings.{both}
use Rattle.seen_facts.specs.Coord.Flowing.{Flows}
use Rattle.seen_facts.specs.Coord.Leading.{once_finished}
use Rattle.seen_facts.proofs.Coord.Flowings.{finished_flows, taken_flows, made_flows, report_flows, left_flows}
use Rattle.seen_facts.proofs.Coord.Arrived.{IsFirstReport}
use Rattle.seen_facts.proofs.Coord.Unread.{DesksLeft, accepted_left, accepted_held}
use Rattle.seen_facts.proofs.Coord.OneMade.{once_made}
use Rattle.seen_facts.proofs.Coord.Populated.{making_flows}
use Rattle.seen_facts.proofs.Coord.Held.{fun_ext, held_apart}
use Rattle.seen_facts.proofs.Coord.Kept.{IsInHand, IsPlainOutcome, finished_documents, finished_requests}
use Rattle.seen_facts.proofs.Coord.Reached.{IsOfOne}
use Rattle.seen_laws.proofs.Sums.{over}
use Rattle.seen_facts.specs.Request.Whereabouts.{times, poked, times_at, times_found, times_due, is_of_load, AreOnce}
use Rattle.seen_facts.proofs.Request.Alls.{one_of_all}
use Rattle.seen_facts.proofs.Request.Onces.{taken_once, finished_once}
use Rattle.seen_facts.proofs.Request.Placings.{one_if, first_poked, poke_once, made_once, untold_once}
use Rattle.seen_facts.proofs.Request.Times.{itself, times_none}
use Rattle.seen_facts.specs.Hang.Hanging.{Hangs}
use Rattle.seen_facts.specs.Hang.Members.{Has}
use Rattle.seen_facts.proofs.Hang.Members.{into_map}
use Rattle.seen_facts.proofs.Hang.Rows.{left_hangs}
use Rattle.seen_facts.specs.Home.Homes.{AreHomed}
use Rattle.seen_facts.proofs.Home.Rows.{left_rows, delivered_homed}
use Rattle.seen_facts.specs.Walk.Serving.{IsMaking, IsServed, AreServed}
use Rattle.seen_facts.specs.Transit.Orders.{IsOutcomeOf}
use Rattle.seen_facts.specs.Transit.Waiting.{AreOnTheirWay}
use Rattle.seen_facts.proofs.Transit.Delivered.{delivered_ways}
use Rattle.seen_facts.proofs.Transit.Rows.{left_ways, taken_ways, finished_ways, made_ways}
use Rattle.seen_facts.specs.Rest.Between.{AreKept, IsPlain, IsComposed}
use Rattle.seen_facts.specs.Rest.Resting.{EachRests}
use Rattle.seen_facts.proofs.Rest.Again.{WasOf, was_of}
use Rattle.seen_facts.proofs.Rest.Kept.{left_kept}
use Rattle.seen_facts.proofs.Rest.Rows.{left_rests, taken_rests, finished_rests, made_rests}
use Rattle.seen_facts.proofs.Rest.Stands.{all_requests}
use Rattle.seen_facts.proofs.Rest.Taken.{delivered_rests}

-- a change of a document's view and slot alone
record KeepsAll (g : Document → Document) : Type 0 where
  nr : (d : Document) → (g d).nr ≡ d.nr
  state : (d : Document) → (g d).state ≡ d.state
  told : (d : Document) → (g d).told ≡ d.told
  ready : (d : Document) → (g d).is_ready ≡ d.is_ready
  discarded : (d : Document) → (g d).is_discarded ≡ d.is_discarded
  dead : (d : Document) → (g d).dead_by ≡ d.dead_by
  known : (d : Document) → (g d).is_known_dead ≡ d.is_known_dead

-- of some documents
keeps_if : (test : Document → Bool) (f : Document → Document) → KeepsAll f → KeepsAll (λ (d : Document). cond (test d) (f d) d)
keeps_if test f keeps =
    record {
      nr = λ d. elim (test d) as (λ b. (let x : Document = cond b (f d) d in x).nr ≡ d.nr) [ true ↦ keeps.nr d | false ↦ refl ];
      state = λ d. elim (test d) as (λ b. (let x : Document = cond b (f d) d in x).state ≡ d.state) [ true ↦ keeps.state d | false ↦ refl ];
      told = λ d. elim (test d) as (λ b. (let x : Document = cond b (f d) d in x).told ≡ d.told) [ true ↦ keeps.told d | false ↦ refl ];
      ready = λ d. elim (test d) as (λ b. (let x : Document = cond b (f d) d in x).is_ready ≡ d.is_ready) [ true ↦ keeps.ready d | false ↦ refl ];
      discarded = λ d. elim (test d) as (λ b. (let x : Document = cond b (f d) d in x).is_discarded ≡ d.is_discarded) [ true ↦ keeps.discarded d | false ↦ refl ];
      dead = λ d. elim (test d) as (λ b. (let x : Document = cond b (f d) d in x).dead_by ≡ d.dead_by) [ true ↦ keeps.dead d | false ↦ refl ];
      known = λ d. elim (test d) as (λ b. (let x : Document = cond b (f d) d in x).is_known_dead ≡ d.is_known_dead) [ true ↦ keeps.known d | false ↦ refl ];
    }

keeps_both : (f g : Document → Document) → KeepsAll f → KeepsAll g → KeepsAll (λ (d : Document). g (f d))
keeps_both f g one two =
    record {
      nr = λ d. two.nr (f d) ∙ one.nr d;
      state = λ d. two.state (f d) ∙ one.state d;
      told = λ d. two.told (f d) ∙ one.told d;
      ready = λ d. two.ready (f d) ∙ one.ready d;
      discarded = λ d. two.discarded (f d) ∙ one.discarded d;
      dead = λ d. two.dead (f d) ∙ one.dead d;
      known = λ d. two.known (f d) ∙ one.known d;
    }

same_along : {A : Type 0} (f g : A → Bool) (xs : List A) → ((x : A) → f x ≡ g x) → list_all f xs ≡ list_all g xs
same_along f g [] same = refl
same_along f g (x ∷ xs) same = rw (same x) (ap (λ (b : Bool). g x && b) (same_along f g xs same))

-- ---- requests but for what was made of them

abbrev unmade : Asked → Asked
unmade q = record q { made = None }

-- a test that doesn't look at it
abbrev Blind : (Asked → Bool) → Type 0
Blind test = (q : Asked) → test (unmade q) ≡ test q

abbrev AreAlike : List Asked → List Asked → Type 0
AreAlike a b = map unmade a ≡ map unmade b

find_unmade : (test : Asked → Bool) → Blind test → (asked : List Asked) → find test (map unmade asked) ≡ option_map unmade (find test asked)
find_unmade test blind [] = refl
find_unmade test blind (q ∷ asked) = rw (blind q) (by_test (test q) (find_unmade test blind asked))
  where
    by_test : (b : Bool) → find test (map unmade asked) ≡ option_map unmade (find test asked) → cond b (Some (unmade q)) (find test (map unmade asked)) ≡ option_map unmade (cond b (Some q) (find test asked))
    by_test true more = refl
    by_test false more = more

find_alike : (test : Asked → Bool) → Blind test → (a b : List Asked) → AreAlike a b → option_map unmade (find test a) ≡ option_map unmade (find test b)
find_alike test blind a b alike = sym (find_unmade test blind a) ∙ ap (λ (l : List Asked). find test l) alike ∙ find_unmade test blind b

all_unmade : (test : Asked → Bool) → Blind test → (asked : List Asked) → list_all test (map unmade asked) ≡ list_all test asked
all_unmade test blind [] = refl
all_unmade test blind (q ∷ asked) = rw (blind q) (ap (λ (b : Bool). test q && b) (all_unmade test blind asked))

all_alike : (test : Asked → Bool) → Blind test → (a b : List Asked) → AreAlike a b → list_all test a ≡ list_all test b
all_alike test blind a b alike = sym (all_unmade test blind a) ∙ ap (λ (l : List Asked). list_all test l) alike ∙ all_unmade test blind b

get_unmade : (asked : List Asked) (i : ℕ) → slice_get (map unmade asked) i ≡ option_map unmade (slice_get asked i)
get_unmade [] i = refl
get_unmade (q ∷ asked) zero = refl
get_unmade (q ∷ asked) (suc i) = get_unmade asked i

request_unmade : (asked : List Asked) (req : ReqId) → request_in (map unmade asked) req ≡ option_map unmade (request_in asked req)
request_unmade asked req = by_number (req.0 == 0)
  where
    by_number : (b : Bool) → cond b None (slice_get (map unmade asked) (req.0 - 1)) ≡ option_map unmade (cond b None (slice_get asked (req.0 - 1)))
    by_number true = refl
    by_number false = get_unmade asked (req.0 - 1)

request_alike : (a b : List Asked) → AreAlike a b → (req : ReqId) → option_map unmade (request_in a req) ≡ option_map unmade (request_in b req)
request_alike a b alike req = sym (request_unmade a req) ∙ ap (λ (l : List Asked). request_in l req) alike ∙ request_unmade b req

holds_alike : (test : Asked → Bool) → Blind test → (o p : Option Asked) → option_map unmade o ≡ option_map unmade p → holds test o ≡ holds test p
holds_alike test blind o p alike = sym (same o) ∙ ap (λ (x : Option Asked). holds test x) alike ∙ same p
  where
    same : (x : Option Asked) → holds test (option_map unmade x) ≡ holds test x
    same None = refl
    same (Some q) = blind q

some_alike : (o p : Option Asked) → option_map unmade o ≡ option_map unmade p → is_some o ≡ is_some p
some_alike o p alike = sym (same o) ∙ ap (λ (x : Option Asked). is_some x) alike ∙ same p
  where
    same : (x : Option Asked) → is_some (option_map unmade x) ≡ is_some x
    same None = refl
    same (Some q) = refl

none_of : (o : Option Asked) → is_some o ≡ false → o ≡ None
none_of None e = refl
none_of (Some q) e = cc

aim_alike : (gone : DocId → Bool) (a b : List Asked) (h : History) → option_map unmade (passed_in gone a) ≡ option_map unmade (passed_in gone b) → aim_with gone a h ≡ aim_with gone b h
aim_alike gone a b h alike = sym (same (passed_in gone a)) ∙ ap (λ (o : Option Asked). option_map_or goal o h.current) alike ∙ same (passed_in gone b)
  where
    goal : Asked → ℕ
    goal q = option_map_or (λ (g : Step). used_step_at h.rows g.0) q.goal h.current

    same : (o : Option Asked) → option_map_or goal (option_map unmade o) h.current ≡ option_map_or goal o h.current
    same None = refl
    same (Some q) = refl

set_alike : (asked : List Asked) (n : ℕ) (q new : Asked) → slice_get asked n ≡ Some q → unmade new ≡ unmade q → map unmade (slice_set asked n new) ≡ map unmade asked
set_alike [] n q new e same = refl
set_alike (x ∷ asked) zero q new e same = let is : x ≡ q = cc in ap (λ (y : Asked). y ∷ map unmade asked) (same ∙ ap unmade (sym is))
set_alike (x ∷ asked) (suc n) q new e same = ap (λ (l : List Asked). unmade x ∷ l) (set_alike asked n q new e same)

on_request_alike : (req : ReqId) (made : Made) (asked : List Asked) → AreAlike (on_request req (λ q. record q { made = Some made }) asked) asked
on_request_alike req made asked = by_found (request_in asked req) refl
  where
    number : (b : Bool) (n : ℕ) (q : Asked) → cond b None (slice_get asked n) ≡ Some q → slice_get asked n ≡ Some q
    number true n q e = cc
    number false n q e = e

    by_found : (found : Option Asked) → request_in asked req ≡ found → map unmade (option_map_or (λ (q : Asked). slice_set asked (req.0 - 1) (record q { made = Some made })) found asked) ≡ map unmade asked
    by_found None e = refl
    by_found (Some q) e = set_alike asked (req.0 - 1) q (record q { made = Some made }) (number (req.0 == 0) (req.0 - 1) q e) refl

-- ---- what is read of the requests

-- a step under way was one before
record WasUnderWay (asked : List Asked) (req : ReqId) (q : Asked) : Type 0 where
  old : Asked
  at : request_in asked req ≡ Some old
  same : unmade old ≡ unmade q

-- nothing else is read of these requests than of those
record ReadsSame (next asked : List Asked) : Type 0 where
  passed : (gone : DocId → Bool) → option_map unmade (passed_in gone next) ≡ option_map unmade (passed_in gone asked)
  running : option_map unmade (running_in next) ≡ option_map unmade (running_in asked)
  free : list_all (λ (q : Asked). not (is_step_under_way q)) next ≡ list_all (λ (q : Asked). not (is_step_under_way q)) asked
  loads : ((req : ReqId) → is_of_load (request_in asked req) ≡ false) → (req : ReqId) → is_of_load (request_in next req) ≡ false
  going : (req : ReqId) (q : Asked) → request_in next req ≡ Some q → is_step_under_way q ≡ true → WasUnderWay asked req q

alike_reads : (next asked : List Asked) → AreAlike next asked → ReadsSame next asked
alike_reads next asked alike =
    record {
      passed = λ gone. find_alike (λ (q : Asked). is_under_way q && is_traversal q.what && has_passed_with gone q) (λ q. refl) next asked alike;
      running = find_alike (λ (q : Asked). is_under_way q && is_traversal q.what) (λ q. refl) next asked alike;
      free = all_alike (λ (q : Asked). not (is_step_under_way q)) (λ q. refl) next asked alike;
      loads = λ none req. holds_alike (λ (q : Asked). is_load q.what) (λ q. refl) (request_in next req) (request_in asked req) (request_alike next asked alike req) ∙ none req;
      going = λ req q at going. was req q (request_in asked req) refl (sym (request_alike next asked alike req) ∙ ap (λ (o : Option Asked). option_map unmade o) at);
    }
  where
    was : (req : ReqId) (q : Asked) (o : Option Asked) → request_in asked req ≡ o → option_map unmade o ≡ Some (unmade q) → WasUnderWay asked req q
    was req q None at same = (let no_ : None ≡ Some (unmade q) = same in cc)
    was req q (Some old) at same = record { old = old; at = at; same = (let both_ : Some (unmade old) ≡ Some (unmade q) = same in cc) }

-- a request more, that hasn't begun and is no load
module _ (asked : List Asked) (new : Asked) (idle : new.is_started ≡ false) (no_load : is_load new.what ≡ false) where
  abbrev more : List Asked
  more = asked ++ new ∷ []

  find_more : (test : Asked → Bool) (xs : List Asked) → test new ≡ false → find test (xs ++ new ∷ []) ≡ find test xs
  find_more test [] fails = rw fails refl
  find_more test (x ∷ xs) fails = by_test (test x) (find_more test xs fails)
    where
      by_test : (b : Bool) → find test (xs ++ new ∷ []) ≡ find test xs → cond b (Some x) (find test (xs ++ new ∷ [])) ≡ cond b (Some x) (find test xs)
      by_test true rest = refl
      by_test false rest = rest

  all_more : (test : Asked → Bool) (xs : List Asked) → test new ≡ true → list_all test (xs ++ new ∷ []) ≡ list_all test xs
  all_more test [] passes = rw passes refl
  all_more test (x ∷ xs) passes = ap (λ (b : Bool). test x && b) (all_more test xs passes)

  get_more : (xs : List Asked) (i : ℕ) (q : Asked) → slice_get (xs ++ new ∷ []) i ≡ Some q → (slice_get xs i ≡ Some q) ⊎ (new ≡ q)
  get_more [] zero q at = inr cc
  get_more [] (suc i) q at = cc
  get_more (x ∷ xs) zero q at = inl at
  get_more (x ∷ xs) (suc i) q at = get_more xs i q at

  request_more : (req : ReqId) (q : Asked) → request_in more req ≡ Some q → (request_in asked req ≡ Some q) ⊎ (new ≡ q)
  request_more req q at = by_number (req.0 == 0) at
    where
      by_number : (b : Bool) → cond b None (slice_get more (req.0 - 1)) ≡ Some q → (cond b None (slice_get asked (req.0 - 1)) ≡ Some q) ⊎ (new ≡ q)
      by_number true h = cc
      by_number false h = get_more asked (req.0 - 1) q h

  more_reads : ReadsSame more asked
  more_reads =
      record {
        passed = λ gone. ap (λ (o : Option Asked). option_map unmade o) (find_more (λ (q : Asked). is_under_way q && is_traversal q.what && has_passed_with gone q) asked (rw idle refl));
        running = ap (λ (o : Option Asked). option_map unmade o) (find_more (λ (q : Asked). is_under_way q && is_traversal q.what) asked (rw idle refl));
        free = all_more (λ (q : Asked). not (is_step_under_way q)) asked (rw idle refl);
        loads = λ none req. by_found req (none req) (request_in more req) refl;
        going = λ req q at going. by_case req q going (request_more req q at);
      }
    where
      by_found : (req : ReqId) → is_of_load (request_in asked req) ≡ false → (o : Option Asked) → request_in more req ≡ o → is_of_load o ≡ false
      by_found req none None e = refl
      by_found req none (Some q) e = by_either (request_more req q e)
        where
          by_either : (request_in asked req ≡ Some q) ⊎ (new ≡ q) → is_load q.what ≡ false
          by_either (inl old) = ap (λ (o : Option Asked). is_of_load o) (sym old) ∙ none
          by_either (inr same) = ap (λ (x : Asked). is_load x.what) (sym same) ∙ no_load

      by_case : (req : ReqId) (q : Asked) → is_step_under_way q ≡ true → (request_in asked req ≡ Some q) ⊎ (new ≡ q) → WasUnderWay asked req q
      by_case req q going (inl old) = record { old = q; at = old; same = refl }
      by_case req q going (inr same) =
          let rests : is_step_under_way new ≡ false = rw idle refl in
          let no_ : false ≡ true = sym rests ∙ ap (λ (x : Asked). is_step_under_way x) same ∙ going in cc

-- ---- what a process does

-- nothing else changes but desks
record IsWork (s t : Seen) : Type 0 where
  g : Document → Document
  keeps : KeepsAll g
  documents : t.documents ≡ map g s.documents
  reads : ReadsSame t.requests s.requests
  history : t.history ≡ s.history
  places : t.places ≡ s.places
  joined : t.joined ≡ s.joined
  parked : t.parked ≡ s.parked

module _ (s t : Seen) (work : IsWork s t) where
  look : (doc : DocId) → document_of t doc ≡ option_map work.g (document_of s doc)
  look doc = ap (λ (l : List Document). find (λ (x : Document). x.nr.0 == doc.0) l) work.documents ∙ find_map (λ (x : Document). x.nr.0) work.g doc.0 s.documents (λ x. ap (λ (n : DocId). n.0) (work.keeps.nr x))

  before : (doc : DocId) (d : Document) → document_of t doc ≡ Some d → WasOf s work.g doc d
  before doc d found = was_of s t work.g work.keeps.nr work.documents doc d found

  gone : (doc : DocId) → is_gone t doc ≡ is_gone s doc
  gone doc = ap (λ (o : Option Document). holds (λ (d : Document). d.is_discarded || d.is_known_dead) o) (look doc) ∙ by_found (document_of s doc)
    where
      by_found : (o : Option Document) → holds (λ (d : Document). d.is_discarded || d.is_known_dead) (option_map work.g o) ≡ holds (λ (d : Document). d.is_discarded || d.is_known_dead) o
      by_found None = refl
      by_found (Some d) = rw (work.keeps.discarded d) (rw (work.keeps.known d) refl)

  all_gone : is_gone t ≡ is_gone s
  all_gone = fun_ext gone

  aim_same : aim_of t ≡ aim_of s
  aim_same =
      ap (λ (g : DocId → Bool). aim_with g t.requests t.history) all_gone
      ∙ aim_alike (is_gone s) t.requests s.requests t.history (work.reads.passed (is_gone s))
      ∙ ap (λ (h : History). aim_with (is_gone s) s.requests h) work.history

  passed_same : option_map unmade (passed_traversal t) ≡ option_map unmade (passed_traversal s)
  passed_same =
      ap (λ (g : DocId → Bool). option_map unmade (passed_in g t.requests)) all_gone
      ∙ work.reads.passed (is_gone s)

  stand_same : (n : ℕ) → all_stand t n ≡ all_stand s n
  stand_same n = ap (λ (h : History). all_stand_in h.rows t.places n) work.history ∙ ap (λ (l : List Place). all_stand_in s.history.rows l n) work.places

  -- ---- served, told, and no step is put off

  work_served : AreServed s → AreServed t
  work_served served = record { each = λ nav. record { serve = λ place found. now nav place found } }
    where
      making : (state : StateId) → IsMaking s.documents state → IsMaking t.documents state
      making state m =
          record {
            document = work.g m.document;
            there = subst (λ (l : List Document). Has l (work.g m.document)) (sym work.documents) (into_map work.g s.documents m.document m.there);
            state_is = work.keeps.state m.document ∙ m.state_is;
            made = rw (work.keeps.ready m.document) (rw (work.keeps.known m.document) m.made);
          }

      old : (nav : NavId) (place : Place) → place_of t nav ≡ Some place → IsServed s.history.rows s.places t.documents (aim_of s) place
      old nav place found shown reached needs target at =
          making target.state ((served.each nav).serve place (ap (λ (l : List Place). place_in l nav) (sym work.places) ∙ found) shown reached needs target at)

      now : (nav : NavId) (place : Place) → place_of t nav ≡ Some place → IsServed t.history.rows t.places t.documents (aim_of t) place
      now nav place found =
          subst (λ (h : History). IsServed h.rows t.places t.documents (aim_of t) place) (sym work.history)
          (subst (λ (l : List Place). IsServed s.history.rows l t.documents (aim_of t) place) (sym work.places)
          (subst (λ (n : ℕ). IsServed s.history.rows s.places t.documents n place) (sym aim_same) (old nav place found)))

  is_told_same : (place : Place) → is_told t place ≡ is_told s place
  is_told_same place =
      ap (λ (pair : ℕ × ℕ). implies (is_awake place) (holds (same_pair pair) (told_pair t place))) due
      ∙ ap (λ (o : Option (ℕ × ℕ)). implies (is_awake place) (holds (same_pair (due_pair s place.nav)) o)) (by_document (awake_document place))
    where
      moved : is_moved_in t.requests place.nav ≡ is_moved_in s.requests place.nav
      moved =
          holds_alike (λ (q : Asked). has_nav q.moved place.nav) (λ q. refl) (running_in t.requests) (running_in s.requests) work.reads.running

      due : due_pair t place.nav ≡ due_pair s place.nav
      due =
          ap (λ (b : Bool). pair_in t.history.rows (cond b (aim_of t) t.history.current)) moved
          ∙ ap (λ (n : ℕ). pair_in t.history.rows (cond (is_moved_in s.requests place.nav) n t.history.current)) aim_same
          ∙ ap (λ (h : History). pair_in h.rows (cond (is_moved_in s.requests place.nav) (aim_of s) h.current)) work.history

      by_told : (o : Option Document) → option_and_then (λ (d : Document). d.told) (option_map work.g o) ≡ option_and_then (λ (d : Document). d.told) o
      by_told None = refl
      by_told (Some d) = work.keeps.told d

      by_document : (o : Option DocId) → option_and_then (λ (doc : DocId). option_and_then (λ (d : Document). d.told) (document_of t doc)) o ≡ option_and_then (λ (doc : DocId). option_and_then (λ (d : Document). d.told) (document_of s doc)) o
      by_document None = refl
      by_document (Some doc) = ap (λ (o : Option Document). option_and_then (λ (d : Document). d.told) o) (look doc) ∙ by_told (document_of s doc)

  work_told : ends_told s ≡ true → ends_told t ≡ true
  unfolding ends_told
  work_told told = ap (λ (l : List Place). list_all (is_told t) l) work.places ∙ same_along (is_told t) (is_told s) s.places is_told_same ∙ told

  reason_same : has_reason_to_run t ≡ has_reason_to_run s
  reason_same =
      ap (λ (b : Bool). implies b (not (all_stand t (aim_of t)))) (some_alike (passed_traversal t) (passed_traversal s) passed_same)
      ∙ ap (λ (n : ℕ). implies (is_some (passed_traversal s)) (not (all_stand t n))) aim_same
      ∙ ap (λ (b : Bool). implies (is_some (passed_traversal s)) (not b)) (stand_same (aim_of s))

  free_same : is_queue_free t ≡ is_queue_free s
  free_same =
      ap (λ (b : Bool). b && all_stand t t.history.current) work.reads.free
      ∙ ap (λ (b : Bool). list_all (λ (q : Asked). not (is_step_under_way q)) s.requests && b) (stand_same t.history.current ∙ ap (λ (h : History). all_stand s h.current) work.history)

  -- no load is ready, where there is none
  none_ready : ((req : ReqId) → is_of_load (request_in t.requests req) ≡ false) → list_all (λ (q : Asked). not (is_ready_load t q)) t.requests ≡ true
  none_ready no_loads = all_requests t.requests (λ (q : Asked). not (is_ready_load t q)) (λ req q at. by_load q (sym (ap (λ (o : Option Asked). holds (λ (x : Asked). is_load x.what) o) at) ∙ no_loads req))
    where
      neither : (a : Bool) → (a && false) ≡ false
      neither true = refl
      neither false = refl

      by_load : (q : Asked) → is_load q.what ≡ false → not (is_ready_load t q) ≡ true
      by_load q none = (let idle : is_ongoing_load q ≡ false = rw none (neither (is_under_way q)) in rw idle refl)

  work_stepped : ((req : ReqId) → is_of_load (request_in t.requests req) ≡ false) → ends_stepped s ≡ true → ends_stepped t ≡ true
  unfolding ends_stepped
  work_stepped no_loads stepped =
      let parts = and_parts (has_reason_to_run s) (implies (is_queue_free s) (has_no_step_waiting s)) stepped in
      both (reason_same ∙ parts.0) (by_free (is_queue_free s) free_same (is_queue_free t) refl parts.1)
    where
      by_free : (b : Bool) → is_queue_free t ≡ b → (c : Bool) → is_queue_free t ≡ c → implies b (has_no_step_waiting s) ≡ true → implies c (has_no_step_waiting t) ≡ true
      by_free b e false f waiting = refl
      by_free false e true f waiting = (let no_ : false ≡ true = sym e ∙ f in cc)
      by_free true e true f waiting = both (ap (λ (l : List ReqId). length l == 0) work.joined ∙ (and_parts (length s.joined == 0) (list_all (λ (q : Asked). not (is_ready_load s q)) s.requests) waiting).0) (none_ready no_loads)

  work_plain : IsPlain s → IsPlain t
  work_plain plain =
      record {
        alive = λ doc d found. (let w = before doc d found in sym (ap (λ (x : Document). x.dead_by) w.is) ∙ work.keeps.dead w.before ∙ plain.alive doc w.before w.there);
        unknown = λ doc d found. (let w = before doc d found in sym (ap (λ (x : Document). x.is_known_dead) w.is) ∙ work.keeps.known w.before ∙ plain.unknown doc w.before w.there);
        unlost = λ nav place found lost_. plain.unlost nav place (ap (λ (l : List Place). place_in l nav) (sym work.places) ∙ found) lost_;
        swept = λ doc d found ready there. swept_ doc d ready there (before doc d found);
        no_loads = work.reads.loads plain.no_loads;
        steps = λ req q at going. steps_ req q (work.reads.going req q at going) going;
        unparked = λ none. work.parked ∙ plain.unparked (none_of (passed_traversal s) (sym (some_alike (passed_traversal t) (passed_traversal s) passed_same) ∙ ap (λ (o : Option Asked). is_some o) none));
      }
    where
      steps_ : (req : ReqId) (q : Asked) → WasUnderWay s.requests req q → is_step_under_way q ≡ true → (is_traversal q.what ≡ true) × (has_passed t q ≡ true)
      steps_ req q w going =
          let its = plain.steps req w.old w.at (ap (λ (x : Asked). is_step_under_way x) w.same ∙ going) in
          (ap (λ (x : Asked). is_traversal x.what) (sym w.same) ∙ its.0, ap (λ (g : DocId → Bool). has_passed_with g q) all_gone ∙ ap (λ (x : Asked). has_passed_with (is_gone s) x) (sym w.same) ∙ its.1)

      swept_ : (doc : DocId) (d : Document) → d.is_ready ≡ true → d.is_discarded ≡ false → WasOf s work.g doc d → has_state d.state t.history.rows ≡ true
      swept_ doc d ready there w =
          ap (λ (h : History). has_state d.state h.rows) work.history
          ∙ ap (λ (n : StateId). has_state n s.history.rows) (sym (ap (λ (x : Document). x.state) w.is) ∙ work.keeps.state w.before)
          ∙ plain.swept doc w.before w.there (sym (work.keeps.ready w.before) ∙ ap (λ (x : Document). x.is_ready) w.is ∙ ready) (sym (work.keeps.discarded w.before) ∙ ap (λ (x : Document). x.is_discarded) w.is ∙ there)

  work_composed : IsComposed s → Hangs t → AreHomed t → AreKept t → AreOnTheirWay t → EachRests t → Flows t → AreOnce t [] → IsComposed t
  work_composed is hangs homes kept ways rests flows once =
      record {
        sound = subst IsSound_ (sym work.history) is.sound;
        hangs = hangs;
        homes = homes;
        kept = kept;
        served = work_served is.served;
        ways = ways;
        rests = rests;
        flows = flows;
        once = once;
        told = work_told is.told;
        stepped = work_stepped plain.no_loads is.stepped;
        plain = plain;
      }
    where
      IsSound_ : History → Type 0
      IsSound_ h = IsSound h

      plain : IsPlain t
      plain = work_plain is.plain

-- ---- the events

module _ (s : Seen) (event : ℕ) (proc : ProcId) (is : IsComposed s) where
  -- a live order is taken up
  module _ (job : Job) (dirty : Bool) (free : (desk_of s proc).in_hand ≡ None) (first : slice_get (desk_of s proc).mail 0 ≡ Some job) where
    abbrev begun : Seen
    begun = after s (record { event = event; actor = actors.Proc proc; row = rows.Taken proc job.nr true dirty })

    work_begun : IsWork s begun
    work_begun =
        record {
          g = λ d. d;
          keeps = record { nr = λ d. refl; state = λ d. refl; told = λ d. refl; ready = λ d. refl; discarded = λ d. refl; dead = λ d. refl; known = λ d. refl };
          documents = sym (map-id s.documents);
          reads = alike_reads s.requests s.requests refl;
          history = refl;
          places = refl;
          joined = refl;
          parked = refl;
        }

    pub begun_composed : IsComposed begun
    begun_composed =
        work_composed s begun work_begun is
        (left_hangs s event (actors.Proc proc) is.hangs (rows.Taken proc job.nr true dirty) tt)
        (left_rows s event (actors.Proc proc) is.homes (rows.Taken proc job.nr true dirty) tt)
        (left_kept s event (actors.Proc proc) is.kept (rows.Taken proc job.nr true dirty) tt)
        (taken_ways s event (actors.Proc proc) is.ways proc job dirty free first)
        (taken_rests s event (actors.Proc proc) is.rests proc job dirty free first)
        (taken_flows s event proc job dirty free first is.flows)
        (taken_once s [] event (actors.Proc proc) proc job.nr true dirty is.once)

  -- the order in hand is finished: it shows, tells, freezes or discards its document
  module _ (order : Order) (outcome : Outcome) (in_ : IsInHand s proc order) (plain : IsPlainOutcome outcome) (of : IsOfOne order.job.task) (its : IsOutcomeOf order.job.task outcome) where
    abbrev finished : Seen
    finished = after s (record { event = event; actor = actors.Proc proc; row = rows.Finished proc order.job.nr outcome })

    work_finished : IsWork s finished
    work_finished =
        record {
          g = λ d. cond (d.nr.0 == order.job.doc.0) (once_finished d order.job) d;
          keeps = keeps_if (λ d. d.nr.0 == order.job.doc.0) (λ d. once_finished d order.job) (record { nr = λ d. refl; state = λ d. refl; told = λ d. refl; ready = λ d. refl; discarded = λ d. refl; dead = λ d. refl; known = λ d. refl });
          documents = finished_documents s event proc order outcome in_ plain;
          reads = alike_reads finished.requests s.requests (ap (λ (l : List Asked). map unmade l) (finished_requests s event proc order outcome in_ plain));
          history = refl;
          places = refl;
          joined = refl;
          parked = refl;
        }

    pub finished_composed : IsComposed finished
    finished_composed =
        work_composed s finished work_finished is
        (left_hangs s event (actors.Proc proc) is.hangs (rows.Finished proc order.job.nr outcome) tt)
        (left_rows s event (actors.Proc proc) is.homes (rows.Finished proc order.job.nr outcome) tt)
        (left_kept s event (actors.Proc proc) is.kept (rows.Finished proc order.job.nr outcome) tt)
        (finished_ways s event (actors.Proc proc) is.ways proc order outcome in_.hand its)
        (finished_rests s event (actors.Proc proc) is.rests proc order outcome in_)
        (finished_flows s event proc order outcome in_ plain of is.flows)
        (finished_once s [] event (actors.Proc proc) proc order.job.nr outcome is.once)

-- the order in hand is finished: it has made its document, on which nobody is awake yet
module _ (s : Seen) (event : ℕ) (proc : ProcId) (is : IsComposed s) (order : Order) (slot : Option ℕ) (in_ : IsInHand s proc order) (making : IsOutcomeOf order.job.task (outcomes.Populated slot)) (unused : (nav : NavId) (place : Place) → place_of s nav ≡ Some place → place.status ≡ awake order.job.doc → ⊥) where
  abbrev populated : Seen
  populated = after s (record { event = event; actor = actors.Proc proc; row = rows.Finished proc order.job.nr (outcomes.Populated slot) })

  abbrev seen_by : Document → Document
  seen_by d = cond (d.nr.0 == order.job.doc.0) (once_finished d order.job) d

  abbrev slotted : Document → Document
  slotted d = cond (d.nr.0 == order.job.doc.0) (record d { slot = slot }) d

  twice : (documents : List Document) → map slotted (map seen_by documents) ≡ map (λ (d : Document). slotted (seen_by d)) documents
  twice [] = refl
  twice (d ∷ documents) = ap (λ (l : List Document). slotted (seen_by d) ∷ l) (twice documents)

  work_populated : IsWork s populated
  work_populated =
      record {
        g = λ d. slotted (seen_by d);
        keeps = keeps_both seen_by slotted
            (keeps_if (λ d. d.nr.0 == order.job.doc.0) (λ d. once_finished d order.job) (record { nr = λ d. refl; state = λ d. refl; told = λ d. refl; ready = λ d. refl; discarded = λ d. refl; dead = λ d. refl; known = λ d. refl }))
            (keeps_if (λ d. d.nr.0 == order.job.doc.0) (λ d. record d { slot = slot }) (record { nr = λ d. refl; state = λ d. refl; told = λ d. refl; ready = λ d. refl; discarded = λ d. refl; dead = λ d. refl; known = λ d. refl }));
        documents =
            ap (λ (job : Option Job). slot_finished (documents_finished s.documents job) job (outcomes.Populated slot)) (ap (λ (o : Option Order). option_map (λ (x : Order). x.job) o) in_.hand)
            ∙ twice s.documents;
        reads = alike_reads populated.requests s.requests (ap (λ (o : Option Order). map unmade (requests_finished s o (outcomes.Populated slot) s.requests)) in_.hand);
        history = refl;
        places = refl;
        joined = refl;
        parked = refl;
      }

  pub populated_composed : IsComposed populated
  populated_composed =
      work_composed s populated work_populated is
      (left_hangs s event (actors.Proc proc) is.hangs (rows.Finished proc order.job.nr (outcomes.Populated slot)) tt)
      (left_rows s event (actors.Proc proc) is.homes (rows.Finished proc order.job.nr (outcomes.Populated slot)) tt)
      (left_kept s event (actors.Proc proc) is.kept (rows.Finished proc order.job.nr (outcomes.Populated slot)) tt)
      (finished_ways s event (actors.Proc proc) is.ways proc order (outcomes.Populated slot) in_.hand making)
      (finished_rests s event (actors.Proc proc) is.rests proc order (outcomes.Populated slot) in_)
      (making_flows s event proc order slot in_ unused is.flows)
      (finished_once s [] event (actors.Proc proc) proc order.job.nr (outcomes.Populated slot) is.once)

-- a document makes something of its first poke, that is no edit
module _ (s : Seen) (proc : ProcId) (is : IsComposed s) (poke : Poke) (q : Asked) (of : NavId) (d : Document) (view : View) (what : What) (acts : IsToAct s proc poke q of d view) (no_edit : IsNoEdit what) where
  abbrev acted : Seen
  acted = after s (record { event = s.events; actor = actors.Proc proc; row = rows.Made proc (made_for view poke.req what) })

  anew : follows_finished s (record { event = s.events; actor = actors.Proc proc; row = rows.Made proc (made_for view poke.req what) }) ≡ false
  anew = (let later : (s.events == (s.events + 1)) ≡ false = grind (arith, nat_tests) in rw later refl)

  work_acted : IsWork s acted
  work_acted =
      record {
        g = λ x. cond (x.nr.0 == view.doc.0) (once_made what x) x;
        keeps = keeps_if (λ x. x.nr.0 == view.doc.0) (λ x. once_made what x) (record { nr = λ x. refl; state = λ x. refl; told = λ x. refl; ready = λ x. refl; discarded = λ x. refl; dead = λ x. refl; known = λ x. refl });
        documents = refl;
        reads = alike_reads acted.requests s.requests (on_request_alike poke.req (made_for view poke.req what) s.requests);
        history = refl;
        places = refl;
        joined = refl;
        parked = refl;
      }

  -- its request waits in the input, so it isn't held back
  unparked : has_req s.parked poke.req ≡ false
  unparked =
      let own : one_if poke.req poke.req ≡ 1 = rw (itself poke.req) refl in
      let first : times poke.req (poked (desk_of s proc).input) ≡ one_if poke.req poke.req + times poke.req (poked (drop 1 (desk_of s proc).input)) = first_poked poke.req (desk_of s proc).input poke acts.first in
      let here : times_at poke.req (desk_of s proc) ≤ over (times_at poke.req) s.desks = one_of_all (times_at poke.req) s.desks proc refl in
      let all : times_found poke.req s.desks s.joined s.parked [] ≡ times_due (request_in s.requests poke.req) = is.once poke.req (is.plain.no_loads poke.req) in
      let due : times_due (request_in s.requests poke.req) ≡ 1 = ap times_due acts.asked ∙ rw acts.unended refl in
      let none : times poke.req s.parked ≡ 0 = omega (arith, own, first, here, all, due) in
      times_none poke.req s.parked none

  pub acted_composed : IsComposed acted
  acted_composed =
      work_composed s acted work_acted is
      (left_hangs s s.events (actors.Proc proc) is.hangs (rows.Made proc (made_for view poke.req what)) tt)
      (left_rows s s.events (actors.Proc proc) is.homes (rows.Made proc (made_for view poke.req what)) tt)
      (left_kept s s.events (actors.Proc proc) is.kept (rows.Made proc (made_for view poke.req what)) tt)
      (made_ways s s.events (actors.Proc proc) is.ways proc (made_for view poke.req what) anew)
      (made_rests s s.events (actors.Proc proc) is.rests proc (made_for view poke.req what) anew)
      (made_flows s proc poke q of d view what acts is.flows (held_apart s.requests s.parked poke.req (λ x. record x { made = Some (made_for view poke.req what) }) unparked))
      (made_once s [] s.events (actors.Proc proc) proc (made_for view poke.req what) poke acts.first refl no_edit anew is.once)

-- a poke is accepted, for a document that is there
module _ (s : Seen) (event : ℕ) (actor : Actor) (is : IsComposed s) (req : ReqId) (nr : req.0 ≡ length s.requests + 1) (doc : DocId) (d : Document) (found : document_of s doc ≡ Some d) (nav : NavId) (action : Action) where
  abbrev accepts : RowKind
  accepts = rows.Accepted req (Some doc) (requests.Poke nav action)

  abbrev poked_ : Seen
  poked_ = after s (record { event = event; actor = actor; row = accepts })

  work_poked : IsWork s poked_
  work_poked =
      record {
        g = λ x. x;
        keeps = record { nr = λ x. refl; state = λ x. refl; told = λ x. refl; ready = λ x. refl; discarded = λ x. refl; dead = λ x. refl; known = λ x. refl };
        documents = sym (map-id s.documents);
        reads = more_reads s.requests (new_request req (Some doc) (requests.Poke nav action)) refl refl;
        history = refl;
        places = refl;
        joined = refl;
        parked = refl;
      }

  pub poked_composed : IsComposed poked_
  poked_composed =
      let left : DesksLeft s poked_ = accepted_left s event actor req (Some doc) (requests.Poke nav action) in
      work_composed s poked_ work_poked is
      (left_hangs s event actor is.hangs accepts tt)
      (left_rows s event actor is.homes accepts tt)
      (left_kept s event actor is.kept accepts tt)
      (left_ways s event actor is.ways accepts left refl refl)
      (left_rests s event actor is.rests accepts left refl refl refl)
      (left_flows s poked_ left refl refl refl (accepted_held s event actor req (Some doc) (requests.Poke nav action)) is.flows)
      (poke_once s [] event actor req nr doc d nav action found is.once)

-- ---- a report is delivered that asks nothing of the coordinator

-- an order told its document something, froze it or discarded it
abbrev pub IsTold : Outcome → Type 0
IsTold outcomes.Updated = Unit {0}
IsTold outcomes.Frozen = Unit {0}
IsTold outcomes.Discarded = Unit {0}
IsTold _ = ⊥

told_plain : (outcome : Outcome) → IsTold outcome → IsPlainOutcome outcome
told_plain outcomes.Updated is = tt
told_plain outcomes.Frozen is = tt
told_plain outcomes.Discarded is = tt
told_plain outcomes.Activated never = absurd never
told_plain (outcomes.Populated slot) never = absurd never
told_plain (outcomes.Asked verdict) never = absurd never
told_plain outcomes.Fragmented never = absurd never

told_documents : (documents : List Document) (job : Job) (outcome : Outcome) → IsTold outcome → documents_delivered documents (Some (reports.Done job outcome None)) ≡ documents
told_documents documents job outcomes.Updated is = refl
told_documents documents job outcomes.Frozen is = refl
told_documents documents job outcomes.Discarded is = refl
told_documents documents job outcomes.Activated never = absurd never
told_documents documents job (outcomes.Populated slot) never = absurd never
told_documents documents job (outcomes.Asked verdict) never = absurd never
told_documents documents job outcomes.Fragmented never = absurd never

told_requests : (asked : List Asked) (job : Job) (outcome : Outcome) → IsTold outcome → requests_delivered (Some (reports.Done job outcome None)) asked ≡ asked
told_requests asked job outcomes.Updated is = refl
told_requests asked job outcomes.Frozen is = refl
told_requests asked job outcomes.Discarded is = refl
told_requests asked job outcomes.Activated never = absurd never
told_requests asked job (outcomes.Populated slot) never = absurd never
told_requests asked job (outcomes.Asked verdict) never = absurd never
told_requests asked job outcomes.Fragmented never = absurd never

told_places : (s : Seen) (job : Job) (outcome : Outcome) → IsTold outcome → (task : Task) → job.task ≡ task → IsOutcomeOf task outcome → places_delivered s (Some (reports.Done job outcome None)) ≡ s.places
told_places s job outcome is (tasks.Update length index) task its = rw task refl
told_places s job outcome is tasks.Freeze task its = rw task refl
told_places s job outcome is tasks.Discard task its = rw task refl
told_places s job outcome is (tasks.Ask slot cause) task its = rw task refl
told_places s job outcome is (tasks.DoFragment req mode address) task its = rw task refl
told_places s job outcome is (tasks.Populate nav state address initial) task its = rw task refl
told_places s job outcomes.Activated never (tasks.Activate entry epoch length index memo address) task its = absurd never
told_places s job outcomes.Updated is (tasks.Activate entry epoch length index memo address) task never = absurd never
told_places s job outcomes.Frozen is (tasks.Activate entry epoch length index memo address) task never = absurd never
told_places s job outcomes.Discarded is (tasks.Activate entry epoch length index memo address) task never = absurd never
told_places s job (outcomes.Populated slot) never (tasks.Activate entry epoch length index memo address) task its = absurd never
told_places s job (outcomes.Asked verdict) never (tasks.Activate entry epoch length index memo address) task its = absurd never
told_places s job outcomes.Fragmented never (tasks.Activate entry epoch length index memo address) task its = absurd never

module _ (s : Seen) (event : ℕ) (proc : ProcId) (is : IsComposed s) (job : Job) (outcome : Outcome) (first : IsFirstReport (desk_of s proc) job outcome) (tells : IsTold outcome) (its : IsOutcomeOf job.task outcome) where
  abbrev delivered : Seen
  delivered = after s (record { event = event; actor = actors.Coord; row = rows.Delivered proc })

  work_delivered : IsWork s delivered
  work_delivered =
      record {
        g = λ d. d;
        keeps = record { nr = λ d. refl; state = λ d. refl; told = λ d. refl; ready = λ d. refl; discarded = λ d. refl; dead = λ d. refl; known = λ d. refl };
        documents = ap (λ (o : Option Report). documents_delivered s.documents o) first ∙ told_documents s.documents job outcome tells ∙ sym (map-id s.documents);
        reads = alike_reads delivered.requests s.requests (ap (λ (l : List Asked). map unmade l) (ap (λ (o : Option Report). requests_delivered o s.requests) first ∙ told_requests s.requests job outcome tells));
        history = refl;
        places = ap (λ (o : Option Report). places_delivered s o) first ∙ told_places s job outcome tells job.task refl its;
        joined = rw first refl;
        parked = rw first refl;
      }

  pub told_composed : IsComposed delivered
  told_composed =
      work_composed s delivered work_delivered is
      (left_hangs s event actors.Coord is.hangs (rows.Delivered proc) tt)
      (delivered_homed s event actors.Coord is.homes proc (rw first tt))
      (left_kept s event actors.Coord is.kept (rows.Delivered proc) tt)
      (delivered_ways s event actors.Coord proc is.homes is.ways (rw first tt))
      (delivered_rests s event actors.Coord is.rests proc (rw first tt))
      (report_flows s event proc job outcome first (told_plain outcome tells) is.flows)
      (untold_once s [] event actors.Coord proc (reports.Done job outcome None) first refl is.once)
