-- All of it stays over each row that sends no order and reports no death: what users and processes do, requests that begin or end, changes that are applied, and reports.
use Rattle.std.proofs.Common.{◌≡◌, ℕ, ◌+◌, Bool, true, false, cond, ◌&&◌, ◌==◌, List, [], ◌∷◌, ◌++◌, length, Option, Some, None, refl, sym, ap, ◌∙◌, subst}
use Rattle.std.specs.Prelude.{is_none, is_some, option_map, slice_get}
use Rattle.tab_ids.specs.declared.DocId.{DocId}
use Rattle.tab_ids.specs.declared.NavId.{NavId}
use Rattle.tab_ids.specs.declared.ProcId.{ProcId}
use Rattle.tab_ids.specs.declared.ReqId.{ReqId}
use Rattle.tab_ids.specs.declared.StateId.{StateId}
use Rattle.tab_ids.specs.declared.Step.{Step}
use Rattle.log_model.specs.declared.change.Change.{Change}
use Rattle.log_model.specs.declared.job.Job.{Job}
use Rattle.log_model.specs.declared.job.Order.{Order}
use Rattle.log_model.specs.declared.made.Made.{Made}
use Rattle.log_model.specs.declared.made.Report.{Report}
use Rattle.log_model.specs.declared.outcome.Cause.{Cause}
use Rattle.log_model.specs.declared.outcome.Denial.{Denial}
use Rattle.log_model.specs.declared.outcome.Ending.TheVariants as endings
use Rattle.log_model.specs.declared.outcome.Outcome.{Outcome}
use Rattle.log_model.specs.declared.request.Mode.{Mode}
use Rattle.log_model.specs.declared.request.Request.{Request}
use Rattle.log_model.specs.declared.request.Request.TheVariants as requests
use Rattle.log_model.specs.declared.row_kind.Actor.{Actor}
use Rattle.log_model.specs.declared.row_kind.RowKind.{RowKind}
use Rattle.log_model.specs.declared.row_kind.RowKind.TheVariants as rows
use Rattle.log_model.specs.After.{after, desks_made, ended, follows_finished, new_request}
use Rattle.log_model.specs.AfterDocuments.{task_in_hand}
use Rattle.log_model.specs.AfterRequests.{entries_taken, on_request, request_begun}
use Rattle.log_model.specs.Places.{is_load}
use Rattle.log_model.specs.Seen.{Asked, Desk, Document, Place, Seen, desk_of, request_in, request_of}
use Rattle.log_model.specs.Views.{View, after_made}
use Rattle.seen_facts.specs.Coord.Leading.{orders_for}
use Rattle.seen_facts.proofs.Coord.Held.{on_else}
use Rattle.seen_facts.proofs.Coord.Kept.{IsInHand}
use Rattle.seen_facts.proofs.Coord.Unread.{answered_left, evicted_left, prompted_left}
use Rattle.seen_facts.proofs.Desk.Stays.{NoDeath, applied_at, delivered_at}
use Rattle.seen_facts.proofs.Entry.Parts.{each_desk}
use Rattle.seen_facts.proofs.Request.LookUps.{on_itself, one_more, others_before}
use Rattle.seen_facts.proofs.Request.Readers.{delivered_reads, finished_reads, on_read}
use Rattle.seen_facts.specs.Doc.Docs.{HasPlace}
use Rattle.seen_facts.proofs.Doc.Leaves.{KeepPlaces, kept_places}
use Rattle.tab_facts.specs.FrameWhole.Beside.{EachIsViewed}
use Rattle.tab_facts.proofs.FrameWhole.Viewed.{accepted_viewed, applied_viewed, delivered_viewed, dropped_viewed, if_views, left_viewed, refused_viewed, started_viewed, taken_viewed, viewed_map}
use Rattle.tab_facts.proofs.FrameWhole.ViewedOrders.{finished_viewed}
use Rattle.seen_facts.specs.Load.Loading.{Look, is_ongoing, look, look_in, look_of}
use Rattle.seen_facts.proofs.Load.Docs.{AreSame, changed_docs, delivered_docs, finished_docs, made_docs, same_all}
use Rattle.seen_facts.proofs.Load.Rows.{KeepLooks, ended_looks, look_blind, read_looks, req_same}
use Rattle.tab_facts.specs.Shown.Shown.{AreShown, LoadsArePlaced}
use Rattle.tab_facts.proofs.Shown.Places.{AllWereAlike, applied_alike, delivered_alike, same_alike}
use Rattle.tab_facts.proofs.Shown.Leaves.{KeepLoads, WasLook, left_shown, looks_loads, same_there, there_again}

-- ---- requests

some_same : {A : Type 0} {a b : A} → (let o : Option A = Some a in o) ≡ Some b → a ≡ b
some_same e = cc

-- one request is changed, but asks the same, and has begun or ended as before
changed_loads : (asked : List Asked) (req : ReqId) (f : Asked → Asked) → ((q : Asked) → (f q).what ≡ q.what) → ((q : Asked) → is_ongoing (look (f q)) ≡ is_ongoing (look q)) → KeepLoads asked (on_request req f asked)
changed_loads asked req f what ongoing r l at on = by_number (r.0 == req.0) refl
  where
    by_found : (o : Option Asked) → request_in asked req ≡ o → option_map look (option_map f o) ≡ Some l → WasLook asked req l
    by_found None e is = absurd cc
    by_found (Some q) e is =
        let same : look (f q) ≡ l = some_same is in
        record {
          before = look q;
          at = ap (λ (o : Option Asked). option_map look o) e;
          ongoing = sym (ongoing q) ∙ ap is_ongoing same ∙ on;
          what = sym (what q) ∙ ap (λ (x : Look). x.what) same;
        }

    by_number : (b : Bool) → (r.0 == req.0) ≡ b → WasLook asked r l
    by_number true e =
        let same : r ≡ req = req_same r req e in
        subst (λ (x : ReqId). WasLook asked x l) (sym same)
        (by_found (request_in asked req) refl (ap (λ (o : Option Asked). option_map look o) (sym (on_itself asked req f)) ∙ ap (look_in (on_request req f asked)) (sym same) ∙ at))
    by_number false e =
        record { before = l; at = ap (λ (o : Option Asked). option_map look o) (sym (on_else asked req f r e)) ∙ at; ongoing = on; what = refl }

-- a new one isn't ongoing
new_looks : (asked : List Asked) (new : Asked) (req : ReqId) → req.0 ≡ length asked + 1 → new.is_started ≡ false → KeepLooks asked (asked ++ new ∷ [])
new_looks asked new req next unstarted r l at on = by_number (req.0 == r.0) refl
  where
    by_number : (b : Bool) → (req.0 == r.0) ≡ b → look_in asked r ≡ Some l
    by_number true e =
        let same : req ≡ r = req_same req r e in
        let is : look new ≡ l = some_same (sym (ap (λ (o : Option Asked). option_map look o) (one_more asked new req next)) ∙ ap (look_in (asked ++ new ∷ [])) same ∙ at) in
        let never : false ≡ true = ap (λ (b : Bool). (b && is_none new.ending) && is_load new.what) (sym unstarted) ∙ ap is_ongoing is ∙ on in absurd cc
    by_number false e = ap (λ (o : Option Asked). option_map look o) (sym (others_before asked new req next r e)) ∙ at

-- ---- rows

module _ (s : Seen) (event : ℕ) (actor : Actor) (are : AreShown s) where
  abbrev then_ : RowKind → Seen
  then_ kind = after s (record { event = event; actor = actor; row = kind })

  -- places stay
  placed_left : (t : Seen) → t.places ≡ s.places → AreSame s.documents t.documents → KeepLoads s.requests t.requests → EachIsViewed t → AreShown t
  placed_left t places documents loads viewed =
      left_shown s t (record {
        documents = documents;
        alike = subst (λ (l : List Place). AllWereAlike s.places l) (sym places) (same_alike s.places);
        places = subst (λ (l : List Place). KeepPlaces s.places l) (sym places) (λ nav has. has);
        loads = loads;
        viewed = viewed;
      }) are

  -- documents do, too, and each process is as it was, but for its input
  unread : (kind : RowKind) → (then_ kind).places ≡ s.places → (then_ kind).documents ≡ s.documents → KeepLooks s.requests (then_ kind).requests → EachIsViewed (then_ kind) → AreShown (then_ kind)
  unread kind places documents looks viewed =
      placed_left (then_ kind) places (subst (λ (l : List Document). AreSame s.documents l) (sym documents) (same_all s.documents)) (looks_loads s.requests (then_ kind).requests looks) viewed

  -- ---- the user's events, and requests that begin or end

  pub accepted_shown : (req : ReqId) (doc : Option DocId) (what : Request) → req.0 ≡ length s.requests + 1 → AreShown (then_ (rows.Accepted req doc what))
  accepted_shown req doc what next =
      unread (rows.Accepted req doc what) refl refl (new_looks s.requests (new_request req doc what) req next refl) (accepted_viewed s event actor are.viewed req doc what)

  pub refused_shown : (req : ReqId) (reason : Denial) → AreShown (then_ (rows.Refused req reason))
  refused_shown req reason =
      unread (rows.Refused req reason) refl refl (ended_looks s.requests req (endings.Refused reason)) (refused_viewed s event actor are.viewed req reason)

  pub dropped_shown : (req : ReqId) (cause : Cause) → AreShown (then_ (rows.Dropped req cause))
  dropped_shown req cause =
      unread (rows.Dropped req cause) refl refl (ended_looks s.requests req (endings.Dropped cause)) (dropped_viewed s event actor are.viewed req cause)

  pub prompted_shown : (req : ReqId) (doc : DocId) → AreShown (then_ (rows.Prompted req doc))
  prompted_shown req doc =
      unread (rows.Prompted req doc) refl refl (read_looks s.requests (then_ (rows.Prompted req doc)).requests (on_read look s.requests req (λ q. record q { prompted = Some doc }) (λ q. refl)))
      (left_viewed s (then_ (rows.Prompted req doc)) (prompted_left s event actor req doc) refl are.viewed)

  pub answered_shown : (req : ReqId) (stay : Bool) → AreShown (then_ (rows.Answered req stay))
  answered_shown req stay =
      unread (rows.Answered req stay) refl refl (read_looks s.requests (then_ (rows.Answered req stay)).requests (on_read look s.requests req (λ q. record q { answered = Some stay }) (λ q. refl)))
      (left_viewed s (then_ (rows.Answered req stay)) (answered_left s event actor req stay) refl are.viewed)

  pub evicted_shown : (state : StateId) → AreShown (then_ (rows.Evicted state))
  evicted_shown state =
      unread (rows.Evicted state) refl refl (λ req l at on. at) (left_viewed s (then_ (rows.Evicted state)) (evicted_left s event actor state) refl are.viewed)

  -- a request begins; the navigable of a load has a place
  pub started_shown : (req : ReqId) (goal : Option Step) → ((q : Asked) (nav : NavId) (mode : Mode) (address : List ℕ) → request_of s req ≡ Some q → q.what ≡ requests.Load nav mode address → HasPlace s.places nav) → AreShown (then_ (rows.Started req goal))
  started_shown req goal has =
      record {
        there = there_again s (then_ (rows.Started req goal)) (same_there s (then_ (rows.Started req goal)) (same_all s.documents)) (same_alike s.places) are.there;
        ever = are.ever;
        of_one = are.of_one;
        placed = placed;
        viewed = started_viewed s event actor are.viewed req goal;
      }
    where
      begin : Asked → Asked
      begin q = record q { is_started = true; goal = goal }

      mid : List Asked
      mid = on_request req begin s.requests

      itself : request_in (then_ (rows.Started req goal)).requests req ≡ option_map (request_begun s) (option_map begin (request_of s req))
      itself = on_itself mid req (request_begun s) ∙ ap (λ (o : Option Asked). option_map (request_begun s) o) (on_itself s.requests req begin)

      own : (l : Look) (nav : NavId) (mode : Mode) (address : List ℕ) → l.what ≡ requests.Load nav mode address → (o : Option Asked) → request_of s req ≡ o → option_map look (option_map (request_begun s) (option_map begin o)) ≡ Some l → HasPlace s.places nav
      own l nav mode address what None e is = absurd cc
      own l nav mode address what (Some q) e is =
          let same : look (request_begun s (begin q)) ≡ l = some_same is in has q nav mode address e (ap (λ (x : Look). x.what) same ∙ what)

      placed : LoadsArePlaced (then_ (rows.Started req goal))
      placed r l nav mode address at on what = by_number (r.0 == req.0) refl
        where
          by_number : (b : Bool) → (r.0 == req.0) ≡ b → HasPlace s.places nav
          by_number true e =
              own l nav mode address what (request_of s req) refl (ap (λ (o : Option Asked). option_map look o) (sym itself) ∙ ap (look_of (then_ (rows.Started req goal))) (sym (req_same r req e)) ∙ at)
          by_number false e =
              are.placed r l nav mode address (ap (λ (o : Option Asked). option_map look o) (sym (on_else mid req (request_begun s) r e ∙ on_else s.requests req begin r e)) ∙ at) on what

  -- a traversal or a reload begins
  pub begun_other_shown : (req : ReqId) (goal : Option Step) → ((q : Asked) → request_of s req ≡ Some q → is_load q.what ≡ false) → AreShown (then_ (rows.Started req goal))
  begun_other_shown req goal other =
      started_shown req goal (λ q nav mode address at what. let never : true ≡ false = sym (ap is_load what) ∙ other q at in absurd cc)

  -- a load begins
  pub begun_load_shown : (req : ReqId) (goal : Option Step) (q : Asked) (nav : NavId) (mode : Mode) (address : List ℕ) → request_of s req ≡ Some q → q.what ≡ requests.Load nav mode address → HasPlace s.places nav → AreShown (then_ (rows.Started req goal))
  begun_load_shown req goal q nav mode address found what has =
      started_shown req goal (λ p n m a at is. subst (λ (x : NavId). HasPlace s.places x) (nav_of n m a (sym what ∙ ap (λ (x : Asked). x.what) (some_same (sym found ∙ at)) ∙ is)) has)
    where
      nav_of : (n : NavId) (m : Mode) (a : List ℕ) → requests.Load nav mode address ≡ requests.Load n m a → nav ≡ n
      nav_of n m a same = cc

  -- any change
  pub applied_shown : (req : ReqId) (change : Change) → AreShown (then_ (rows.Applied req change))
  applied_shown req change =
      left_shown s t (record {
        documents = changed_docs change s.documents;
        alike = applied_alike s req change;
        places = kept_places s.places t.places (applied_at s req change);
        loads = looks_loads s.requests t.requests looks;
        viewed = applied_viewed s event actor are.viewed req change;
      }) are
    where
      t : Seen
      t = then_ (rows.Applied req change)

      over : List Asked
      over = ended s.requests req endings.Applied

      said : Asked → Asked
      said q = record q { change = Some change }

      taken : Asked → Asked
      taken q = record q { took = entries_taken s.history change }

      looks : KeepLooks s.requests t.requests
      looks r l at on =
          ended_looks s.requests req endings.Applied r l (read_looks over (on_request req said over) (on_read look over req said (λ q. refl)) r l (read_looks (on_request req said over) t.requests (on_read look (on_request req said over) req taken (λ q. refl)) r l at on) on) on

  -- ---- the processes' events

  pub taken_shown : (proc : ProcId) (job : Job) (dirty : Bool) → (desk_of s proc).in_hand ≡ None → slice_get (desk_of s proc).mail 0 ≡ Some job → AreShown (then_ (rows.Taken proc job.nr true dirty))
  taken_shown proc job dirty free first =
      unread (rows.Taken proc job.nr true dirty) refl refl (λ req l at on. at) (taken_viewed s event actor are.viewed proc job dirty free first)

  pub finished_shown : (proc : ProcId) (order : Order) (outcome : Outcome) → IsInHand s proc order → AreShown (then_ (rows.Finished proc order.job.nr outcome))
  finished_shown proc order outcome in_hand =
      placed_left t refl (finished_docs s.documents (task_in_hand s proc) outcome) (looks_loads s.requests t.requests (read_looks s.requests t.requests (finished_reads look look_blind s (desk_of s proc).in_hand outcome s.requests)))
      (finished_viewed s event are.viewed proc order outcome in_hand)
    where
      t : Seen
      t = then_ (rows.Finished proc order.job.nr outcome)

  -- something is made of a poke, or of the order that was finished just before
  pub made_shown : (proc : ProcId) (made : Made) → AreShown (then_ (rows.Made proc made))
  made_shown proc made =
      placed_left t refl (made_docs made s.documents) (changed_loads s.requests made.req (λ q. record q { made = Some made }) (λ q. refl) (λ q. refl)) viewed
    where
      t : Seen
      t = then_ (rows.Made proc made)

      joins : Bool
      joins = follows_finished s (record { event = event; actor = actor; row = rows.Made proc made })

      keeps_proc : (b : Bool) (desk : Desk) → (desks_made b made desk).proc ≡ desk.proc
      keeps_proc true desk = refl
      keeps_proc false desk = refl

      keeps_orders : (b : Bool) (desk : Desk) (doc : DocId) → orders_for (desks_made b made desk) doc ≡ orders_for desk doc
      keeps_orders true desk doc = refl
      keeps_orders false desk doc = refl

      orders : (p : ProcId) (doc : DocId) → orders_for (desk_of t p) doc ≡ orders_for (desk_of s p) doc
      orders p doc =
          each_desk s t proc (desks_made joins made) (λ other desk. orders_for desk doc ≡ orders_for (desk_of s other) doc) refl (keeps_proc joins) (keeps_orders joins (desk_of s proc) doc) (λ other apart. refl) p

      does : Document → Document
      does d = record d { view = option_map (λ (v : View). after_made v made.what) d.view }

      viewed : EachIsViewed t
      viewed =
          viewed_map s t (λ (d : Document). cond (d.nr.0 == made.doc.0) (does d) d) (if_views (λ (d : Document). d.nr.0 == made.doc.0) does (record { nr = λ d. refl; proc = λ d. refl; discarded = λ d e. e; view = λ d. some_mapped d.view })) refl orders are.viewed
        where
          some_mapped : (o : Option View) → is_some (option_map (λ (v : View). after_made v made.what) o) ≡ is_some o
          some_mapped None = refl
          some_mapped (Some v) = refl

  pub delivered_shown : (proc : ProcId) → NoDeath (slice_get (desk_of s proc).reports 0) → AreShown (then_ (rows.Delivered proc))
  delivered_shown proc fine =
      left_shown s t (record {
        documents = delivered_docs s.documents report;
        alike = delivered_alike s report fine;
        places = kept_places s.places t.places (delivered_at s report fine);
        loads = looks_loads s.requests t.requests (read_looks s.requests t.requests (delivered_reads look look_blind report s.requests));
        viewed = delivered_viewed s event actor are.viewed proc;
      }) are
    where
      t : Seen
      t = then_ (rows.Delivered proc)

      report : Option Report
      report = slice_get (desk_of s proc).reports 0
