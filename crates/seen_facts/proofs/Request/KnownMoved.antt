-- What is known of each request by where it is, as one is accepted, something is made of it, or the report of that is delivered.
use Rattle.std.proofs.Common.{◌≡◌, ℕ, ◌+◌, ◌<◌, ◌≤◌, Bool, true, false, ◌==◌, List, [], ◌∷◌, ◌++◌, drop, length, Option, Some, None, refl, sym, ap, ◌∙◌, subst, arith}
use Rattle.std.specs.Prelude.{filter_map, slice_get, option_map}
use Rattle.std.proofs.lemmas.Bool.Decides.{nat_tests}
use Rattle.std.proofs.lemmas.List.Elements.{filter_map-append}
use Rattle.tab_ids.specs.declared.DocId.{DocId}
use Rattle.tab_ids.specs.declared.NavId.{NavId}
use Rattle.tab_ids.specs.declared.ProcId.{ProcId}
use Rattle.tab_ids.specs.declared.ReqId.{ReqId}
use Rattle.log_model.specs.declared.action.Action.{Action}
use Rattle.log_model.specs.declared.made.Made.{Made}
use Rattle.log_model.specs.declared.made.Report.{Report}
use Rattle.log_model.specs.declared.made.Report.TheVariants as reports
use Rattle.log_model.specs.declared.made.What.{What}
use Rattle.log_model.specs.declared.made.What.TheVariants as whats
use Rattle.log_model.specs.declared.request.Poke.{Poke}
use Rattle.log_model.specs.declared.request.Request.{Request}
use Rattle.log_model.specs.declared.request.Request.TheVariants as requests
use Rattle.log_model.specs.declared.row_kind.Actor.{Actor}
use Rattle.log_model.specs.declared.row_kind.RowKind.TheVariants as rows
use Rattle.log_model.specs.Seen.{Seen, Document, Desk, Asked, document_of, desk_of, desk_in, request_in}
use Rattle.log_model.specs.Places.{goes}
use Rattle.log_model.specs.Once.{has_to_begin}
use Rattle.log_model.specs.After.{on_desk, desk_made, desks_made, desk_delivered, follows_finished, new_request, reports_made}
use Rattle.log_model.specs.AfterRequests.{on_request, made_of_report, changes_history, is_held_back}
use Rattle.seen_laws.specs.Acting.{IsNoEdit}
use Rattle.seen_laws.proofs.Sums.{over}
use Rattle.seen_facts.proofs.Coord.Held.{on_else}
use Rattle.seen_facts.proofs.Coord.OneMade.{reported}
use Rattle.seen_facts.proofs.Coord.Unread.{next}
use Rattle.seen_facts.specs.Request.Whereabouts.{times, poked, answered_by, times_at, times_found, times_due, is_of_load, AreOnce}
use Rattle.seen_facts.specs.Request.Cores.{Core, core, core_of}
use Rattle.seen_facts.specs.Request.Knowns.{IsPoke, IsMadeOf, IsJoined, IsParked, AllOf, req_of_poke, req_of_made, req_itself, AreKnownAt, AreKnown, is_go}
use Rattle.seen_facts.proofs.Request.Cores.{SameCores, delivered_cores}
use Rattle.seen_facts.proofs.Request.LookUps.{on_itself, one_more, none_before, others_before}
use Rattle.seen_facts.proofs.Request.Times.{itself}
use Rattle.seen_facts.proofs.Request.Placings.{one_if, first_poked, IsNoGo, unqueued}
use Rattle.seen_facts.proofs.Request.Endings.{due_small}
use Rattle.seen_facts.proofs.Request.KnownRows.{known_again, at_same, known_else, mapped_none}
use Rattle.seen_facts.proofs.Request.Alls.{all_same, all_else, all_more, all_less, all_first, each_desk, one_of_all, two_of_all}

-- ---- a request is accepted

-- it was nowhere before
unplaced : (s : Seen) (hand : List ReqId) (q : Asked) (req : ReqId) → req.0 ≡ length s.requests + 1 → AreOnce s hand → times_found req s.desks s.joined s.parked hand ≡ 0
unplaced s hand q req nr each =
    let none : request_in s.requests req ≡ None = none_before s.requests q req nr in
    each req (rw none refl) ∙ rw none refl

module _ (s : Seen) (hand : List ReqId) (event : ℕ) (actor : Actor) (req : ReqId) (nr : req.0 ≡ length s.requests + 1) (once : AreOnce s hand) where
  -- what is known of the others stays
  more_known : (doc : Option DocId) (what : Request) → AreKnown s → AreKnown (record s { requests = s.requests ++ new_request req doc what ∷ [] })
  more_known doc what known =
      known_else s hand req (unplaced s hand (new_request req doc what) req nr once) (s.requests ++ new_request req doc what ∷ [])
      (λ r apart. ap core_of (others_before s.requests (new_request req doc what) req nr r (let other : (req.0 == r.0) ≡ false = grind (arith, nat_tests, apart) in other))) known

  new_core : (doc : Option DocId) (what : Request) → core_of (request_in (s.requests ++ new_request req doc what ∷ []) req) ≡ Some (record { what = what; doc = doc; made = None; ending = None })
  new_core doc what = ap core_of (one_more s.requests (new_request req doc what) req nr)

  pub go_known : (delta : _) → AreKnown s → AreKnown (next s event actor (rows.Accepted req None (requests.Go delta)))
  go_known delta known =
      let more : AreKnown (record s { requests = s.requests ++ new_request req None (requests.Go delta) ∷ [] }) = more_known None (requests.Go delta) known in
      record {
        desks = more.desks;
        joined = all_more IsJoined req_itself (s.requests ++ new_request req None (requests.Go delta) ∷ []) s.joined req more.joined (record { what = requests.Go delta; doc = None; made = None; is = new_core None (requests.Go delta); begins = refl; unmade = λ by is. refl });
        parked = more.parked;
      }

  pub poke_known : (doc : DocId) (d : Document) (nav : NavId) (action : Action) → document_of s doc ≡ Some d → AreKnown s → AreKnown (next s event actor (rows.Accepted req (Some doc) (requests.Poke nav action)))
  poke_known doc d nav action found known =
      record {
        desks = subst (λ (l : List Desk). (proc : ProcId) → AreKnownAt asked (desk_in l proc)) (sym desks_are) (each_desk (AreKnownAt asked) join s.desks d.proc (λ desk. refl) (record {
          pokes = all_more IsPoke req_of_poke asked (desk_of s d.proc).input (record { req = req; doc = doc; action = action }) (more.desks d.proc).pokes (record { nav = nav; is = new_core (Some doc) (requests.Poke nav action) });
          mades = (more.desks d.proc).mades;
        }) (λ proc apart. more.desks proc));
        joined = more.joined;
        parked = more.parked;
      }
    where
      asked : List Asked
      asked = s.requests ++ new_request req (Some doc) (requests.Poke nav action) ∷ []

      join : Desk → Desk
      join desk = record desk { input = desk.input ++ record { req = req; doc = doc; action = action } ∷ [] }

      more : AreKnown (record s { requests = asked })
      more = more_known (Some doc) (requests.Poke nav action) known

      desks_are : (next s event actor (rows.Accepted req (Some doc) (requests.Poke nav action))).desks ≡ on_desk d.proc join s.desks
      desks_are = rw found refl

  pub stray_known : (nav : NavId) (action : Action) → AreKnown s → AreKnown (next s event actor (rows.Accepted req None (requests.Poke nav action)))
  stray_known nav action known =
      let more : AreKnown (record s { requests = s.requests ++ new_request req None (requests.Poke nav action) ∷ [] }) = more_known None (requests.Poke nav action) known in
      record { desks = more.desks; joined = more.joined; parked = more.parked }

-- ---- the first poke of an input

-- its request is nowhere else
pub record IsAlone (s : Seen) (proc : ProcId) (req : ReqId) : Type 0 where
  pub pokes : times req (poked (drop 1 (desk_of s proc).input)) ≡ 0
  pub mades : times req (answered_by (filter_map made_of_report (desk_of s proc).reports)) ≡ 0
  pub others : (other : ProcId) → (proc.0 == other.0) ≡ false → times_at req (desk_of s other) ≡ 0
  pub joined : times req s.joined ≡ 0
  pub parked : times req s.parked ≡ 0

module _ (s : Seen) (hand : List ReqId) (proc : ProcId) (poke : Poke) (first : slice_get (desk_of s proc).input 0 ≡ Some poke) (once : AreOnce s hand) (known : AreKnown s) where
  -- what is known of its request
  pub first_poke : IsPoke (core_of (request_in s.requests poke.req)) poke
  first_poke = all_first IsPoke req_of_poke s.requests (desk_of s proc).input poke first (known.desks proc).pokes

  pub no_load : is_of_load (request_in s.requests poke.req) ≡ false
  no_load = by_found (request_in s.requests poke.req) first_poke
    where
      by_found : (o : Option Asked) → IsPoke (core_of o) poke → is_of_load o ≡ false
      by_found None p = let never : None ≡ Some _ = p.is in cc
      by_found (Some q) p =
          let what : q.what ≡ requests.Poke p.nav poke.action = (let is : Some (core q) ≡ Some (record { what = requests.Poke p.nav poke.action; doc = Some poke.doc; made = None; ending = None }) = p.is in let same : core q ≡ record { what = requests.Poke p.nav poke.action; doc = Some poke.doc; made = None; ending = None } = cc in ap (λ (c : Core). c.what) same) in
          rw what refl

  pub alone : IsAlone s proc poke.req
  alone =
      let one : one_if poke.req poke.req ≡ 1 = rw (itself poke.req) refl in
      let small : times_due (request_in s.requests poke.req) < 2 = due_small (request_in s.requests poke.req) in
      let all : times_found poke.req s.desks s.joined s.parked hand ≡ times_due (request_in s.requests poke.req) = once poke.req no_load in
      let here : times_at poke.req (desk_of s proc) ≤ over (times_at poke.req) s.desks = one_of_all (times_at poke.req) s.desks proc refl in
      let was : times poke.req (poked (desk_of s proc).input) ≡ one_if poke.req poke.req + times poke.req (poked (drop 1 (desk_of s proc).input)) = first_poked poke.req (desk_of s proc).input poke first in
      record {
        pokes = omega (arith, one, small, all, here, was);
        mades = omega (arith, one, small, all, here, was);
        others = λ other apart. (let two : times_at poke.req (desk_of s proc) + times_at poke.req (desk_of s other) ≤ over (times_at poke.req) s.desks = two_of_all (times_at poke.req) s.desks proc other refl refl apart in omega (arith, one, small, all, two, was));
        joined = omega (arith, one, small, all, here, was);
        parked = omega (arith, one, small, all, here, was);
      }

  -- what is known of all other requests stays, whatever becomes of this one
  pub rest_at : (asked : List Asked) → ((r : ReqId) → (r.0 == poke.req.0) ≡ false → core_of (request_in asked r) ≡ core_of (request_in s.requests r)) → AreKnownAt asked (record (desk_of s proc) { input = drop 1 (desk_of s proc).input })
  rest_at asked others =
      record {
        pokes = all_else IsPoke req_of_poke s.requests asked poke.req (drop 1 (desk_of s proc).input) others alone.pokes (all_less IsPoke req_of_poke s.requests (desk_of s proc).input (known.desks proc).pokes);
        mades = all_else IsMadeOf req_of_made s.requests asked poke.req (filter_map made_of_report (desk_of s proc).reports) others alone.mades (known.desks proc).mades;
      }

  pub others_at : (asked : List Asked) → ((r : ReqId) → (r.0 == poke.req.0) ≡ false → core_of (request_in asked r) ≡ core_of (request_in s.requests r)) → (other : ProcId) → (proc.0 == other.0) ≡ false → AreKnownAt asked (desk_of s other)
  others_at asked others other apart =
      let none : times_at poke.req (desk_of s other) ≡ 0 = alone.others other apart in
      record {
        pokes = all_else IsPoke req_of_poke s.requests asked poke.req (desk_of s other).input others (omega (arith, none)) (known.desks other).pokes;
        mades = all_else IsMadeOf req_of_made s.requests asked poke.req (filter_map made_of_report (desk_of s other).reports) others (omega (arith, none)) (known.desks other).mades;
      }

-- ---- something is made of it

module _ (s : Seen) (hand : List ReqId) (event : ℕ) (actor : Actor) (proc : ProcId) (made : Made) (poke : Poke) (first : slice_get (desk_of s proc).input 0 ≡ Some poke) (of_poke : poke.req ≡ made.req) (named : poke.doc ≡ made.doc) (is : IsNoEdit made.what) (kind : goes poke.action ≡ is_go made.what) (anew : follows_finished s (record { event = event; actor = actor; row = rows.Made proc made }) ≡ false) (once : AreOnce s hand) where
  abbrev with_made : Asked → Asked
  with_made q = record q { made = Some made }

  abbrev asked_made : List Asked
  asked_made = on_request made.req with_made s.requests

  others_made : (r : ReqId) → (r.0 == poke.req.0) ≡ false → core_of (request_in asked_made r) ≡ core_of (request_in s.requests r)
  others_made r apart =
      ap core_of (on_else s.requests made.req with_made r (subst (λ (q : ReqId). (r.0 == q.0) ≡ false) of_poke apart))

  -- what is known of the request that was made
  its_core : (known : AreKnown s) → IsMadeOf (core_of (request_in asked_made made.req)) made
  its_core known =
      let p : IsPoke (core_of (request_in s.requests poke.req)) poke = first_poke s hand proc poke first once known in
      let at : core_of (request_in s.requests made.req) ≡ Some (record { what = requests.Poke p.nav poke.action; doc = Some poke.doc; made = None; ending = None }) = ap (λ (r : ReqId). core_of (request_in s.requests r)) (sym of_poke) ∙ p.is in
      record {
        what = requests.Poke p.nav poke.action;
        doc = Some poke.doc;
        is = ap core_of (on_itself s.requests made.req with_made) ∙ by_found (request_in s.requests made.req) at;
        begins = by_go p.nav (goes poke.action) refl;
        no_user = λ by is_go_. (let never : requests.Poke p.nav poke.action ≡ requests.Go by = is_go_ in cc);
        poked = λ nav action is_poke. ap (λ (n : DocId). let o : Option DocId = Some n in o) named;
      }
    where
      by_found : (o : Option Asked) {nav : NavId} → core_of o ≡ Some (record { what = requests.Poke nav poke.action; doc = Some poke.doc; made = None; ending = None }) → core_of (option_map with_made o) ≡ Some (record { what = requests.Poke nav poke.action; doc = Some poke.doc; made = Some made; ending = None })
      by_found None e = cc
      by_found (Some q) {nav} e =
          let same : core q ≡ record { what = requests.Poke nav poke.action; doc = Some poke.doc; made = None; ending = None } = cc in
          ap (λ (c : Core). let o : Option Core = Some (record c { made = Some made }) in o) same

      by_go : (nav : NavId) (b : Bool) → goes poke.action ≡ b → has_to_begin (requests.Poke nav poke.action) ≡ is_go made.what
      by_go nav true e = rw e (sym (sym kind ∙ e))
      by_go nav false e = rw e (sym (sym kind ∙ e))

  pub made_known : AreKnown s → AreKnown (next s event actor (rows.Made proc made))
  made_known known =
      record {
        desks = subst (λ (l : List Desk). (other : ProcId) → AreKnownAt asked_made (desk_in l other)) (sym desks_are) (each_desk (AreKnownAt asked_made) (desk_made made) s.desks proc (λ desk. refl) own (others_at s hand proc poke first once known asked_made others_made));
        joined = all_else IsJoined req_itself s.requests asked_made poke.req s.joined others_made (mapped_none poke.req s.joined (alone s hand proc poke first once known).joined) known.joined;
        parked = all_else IsParked req_itself s.requests asked_made poke.req s.parked others_made (mapped_none poke.req s.parked (alone s hand proc poke first once known).parked) known.parked;
      }
    where
      desks_are : (next s event actor (rows.Made proc made)).desks ≡ on_desk proc (desk_made made) s.desks
      desks_are = ap (λ (b : Bool). on_desk proc (desks_made b made) s.desks) anew

      told : filter_map made_of_report (desk_made made (desk_of s proc)).reports ≡ filter_map made_of_report (desk_of s proc).reports ++ made ∷ []
      told =
          ap (λ (waiting : List Report). filter_map made_of_report waiting) (reported (desk_of s proc).reports made made.what is)
          ∙ filter_map-append made_of_report (desk_of s proc).reports (reports.Made made ∷ [])

      rest : AreKnownAt asked_made (record (desk_of s proc) { input = drop 1 (desk_of s proc).input })
      rest = rest_at s hand proc poke first once known asked_made others_made

      own : AreKnownAt asked_made (desk_made made (desk_of s proc))
      own =
          record {
            pokes = rest.pokes;
            mades = subst (λ (l : List Made). AllOf IsMadeOf req_of_made asked_made l) (sym told) (all_more IsMadeOf req_of_made asked_made (filter_map made_of_report (desk_of s proc).reports) made rest.mades (its_core known));
          }

-- the document edits itself, which no report tells of
module _ (s : Seen) (hand : List ReqId) (event : ℕ) (actor : Actor) (proc : ProcId) (made : Made) (poke : Poke) (first : slice_get (desk_of s proc).input 0 ≡ Some poke) (of_poke : poke.req ≡ made.req) (edits : made.what ≡ whats.Edit) (anew : follows_finished s (record { event = event; actor = actor; row = rows.Made proc made }) ≡ false) (once : AreOnce s hand) where
  abbrev asked_edited : List Asked
  asked_edited = on_request made.req (λ q. record q { made = Some made }) s.requests

  others_edited : (r : ReqId) → (r.0 == poke.req.0) ≡ false → core_of (request_in asked_edited r) ≡ core_of (request_in s.requests r)
  others_edited r apart =
      ap core_of (on_else s.requests made.req (λ q. record q { made = Some made }) r (subst (λ (q : ReqId). (r.0 == q.0) ≡ false) of_poke apart))

  pub edited_known : AreKnown s → AreKnown (next s event actor (rows.Made proc made))
  edited_known known =
      record {
        desks = subst (λ (l : List Desk). (other : ProcId) → AreKnownAt asked_edited (desk_in l other)) (sym desks_are) (each_desk (AreKnownAt asked_edited) (desk_made made) s.desks proc (λ desk. refl) own (others_at s hand proc poke first once known asked_edited others_edited));
        joined = all_else IsJoined req_itself s.requests asked_edited poke.req s.joined others_edited (mapped_none poke.req s.joined (alone s hand proc poke first once known).joined) known.joined;
        parked = all_else IsParked req_itself s.requests asked_edited poke.req s.parked others_edited (mapped_none poke.req s.parked (alone s hand proc poke first once known).parked) known.parked;
      }
    where
      desks_are : (next s event actor (rows.Made proc made)).desks ≡ on_desk proc (desk_made made) s.desks
      desks_are = ap (λ (b : Bool). on_desk proc (desks_made b made) s.desks) anew

      rest : AreKnownAt asked_edited (record (desk_of s proc) { input = drop 1 (desk_of s proc).input })
      rest = rest_at s hand proc poke first once known asked_edited others_edited

      untold : (desk_made made (desk_of s proc)).reports ≡ (desk_of s proc).reports
      untold = ap (λ (w : What). reports_made (desk_of s proc).reports made w) edits

      own : AreKnownAt asked_edited (desk_made made (desk_of s proc))
      own =
          record {
            pokes = rest.pokes;
            mades = subst (λ (l : List Report). AllOf IsMadeOf req_of_made asked_edited (filter_map made_of_report l)) (sym untold) rest.mades;
          }

-- ---- a report is delivered

module _ (s : Seen) (event : ℕ) (actor : Actor) (proc : ProcId) (report : Report) (first : slice_get (desk_of s proc).reports 0 ≡ Some report) where
  abbrev pub known_delivered : Seen
  known_delivered = next s event actor (rows.Delivered proc)

  cores_delivered : SameCores s.requests known_delivered.requests
  cores_delivered = delivered_cores (slice_get (desk_of s proc).reports 0) s.requests

  less_at : ((p : ProcId) → AreKnownAt s.requests (desk_of s p)) → (p : ProcId) → AreKnownAt s.requests (desk_of known_delivered p)
  less_at known =
      each_desk (AreKnownAt s.requests) desk_delivered s.desks proc (λ desk. refl) (record {
        pokes = (known proc).pokes;
        mades = less_mades (desk_of s proc).reports (known proc).mades;
      }) (λ p apart. known p)
    where
      less_mades : (waiting : List Report) → AllOf IsMadeOf req_of_made s.requests (filter_map made_of_report waiting) → AllOf IsMadeOf req_of_made s.requests (filter_map made_of_report (drop 1 waiting))
      less_mades [] all = all
      less_mades (x ∷ waiting) all = by_made (made_of_report x) refl all
        where
          by_made : (o : Option Made) → made_of_report x ≡ o → AllOf IsMadeOf req_of_made s.requests (filter_map made_of_report (x ∷ waiting)) → AllOf IsMadeOf req_of_made s.requests (filter_map made_of_report waiting)
          by_made None e all_ =
              let same : filter_map made_of_report (x ∷ waiting) ≡ filter_map made_of_report waiting = rw e refl in
              subst (λ (l : List Made). AllOf IsMadeOf req_of_made s.requests l) same all_
          by_made (Some m) e all_ =
              let same : filter_map made_of_report (x ∷ waiting) ≡ m ∷ filter_map made_of_report waiting = rw e refl in
              let parts : AllOf IsMadeOf req_of_made s.requests (m ∷ filter_map made_of_report waiting) = subst (λ (l : List Made). AllOf IsMadeOf req_of_made s.requests l) same all_ in
              parts.1

  -- a report that tells of nothing made
  pub untold_known : made_of_report report ≡ None → AreKnown s → AreKnown known_delivered
  untold_known none known =
      known_again s known_delivered (record {
        cores = cores_delivered;
        desks = less_at;
        joined = rw first (rw none refl);
        parked = rw first (rw none refl);
      }) known

module _ (s : Seen) (event : ℕ) (actor : Actor) (proc : ProcId) (report : Report) (made : Made) (first : slice_get (desk_of s proc).reports 0 ≡ Some report) (tells : made_of_report report ≡ Some made) (known : AreKnown s) where
  abbrev told_ : Seen
  told_ = known_delivered s event actor proc report first

  -- what is known of what was made
  pub first_made : IsMadeOf (core_of (request_in s.requests made.req)) made
  first_made =
      all_first IsMadeOf req_of_made s.requests (filter_map made_of_report (desk_of s proc).reports) made (front (desk_of s proc).reports first) (known.desks proc).mades
    where
      front : (waiting : List Report) → slice_get waiting 0 ≡ Some report → slice_get (filter_map made_of_report waiting) 0 ≡ Some made
      front [] is = cc
      front (x ∷ waiting) is = let same : x ≡ report = cc in rw same (rw tells refl)

  -- and still is once the report is delivered
  pub delivered_made : IsMadeOf (core_of (request_in told_.requests made.req)) made
  delivered_made =
      subst (λ (c : Option Core). IsMadeOf c made) (sym (cores_delivered s event actor proc report first made.req)) first_made

  desks_told : (p : ProcId) → AreKnownAt told_.requests (desk_of told_ p)
  desks_told p =
      at_same s.requests told_.requests (desk_of told_ p) (cores_delivered s event actor proc report first) (less_at s event actor proc report first known.desks p)

  joined_same : AllOf IsJoined req_itself told_.requests s.joined
  joined_same =
      all_same IsJoined req_itself s.requests told_.requests s.joined (cores_delivered s event actor proc report first) known.joined

  parked_same : AllOf IsParked req_itself told_.requests s.parked
  parked_same =
      all_same IsParked req_itself s.requests told_.requests s.parked (cores_delivered s event actor proc report first) known.parked

  -- a document's traversal joins the queue
  pub go_delivered_known : (delta : _) → made.what ≡ whats.Go delta → AreKnown told_
  go_delivered_known delta is =
      record {
        desks = desks_told;
        joined = subst (λ (l : List ReqId). AllOf IsJoined req_itself told_.requests l) (sym queued) (all_more IsJoined req_itself told_.requests s.joined made.req joined_same (record {
          what = delivered_made.what;
          doc = delivered_made.doc;
          made = Some made;
          is = delivered_made.is;
          begins = delivered_made.begins ∙ rw is refl;
          unmade = λ by is_go_. absurd (delivered_made.no_user by is_go_);
        }));
        parked = subst (λ (l : List ReqId). AllOf IsParked req_itself told_.requests l) (sym unheld) parked_same;
      }
    where
      queued : told_.joined ≡ s.joined ++ made.req ∷ []
      queued = rw first (rw tells (rw is refl))

      unheld : told_.parked ≡ s.parked
      unheld = rw first (rw tells (rw is refl))

  -- what is held back joins what is
  pub held_known : IsNoGo made.what → is_held_back s made ≡ true → AreKnown told_
  held_known is held =
      record {
        desks = desks_told;
        joined = subst (λ (l : List ReqId). AllOf IsJoined req_itself told_.requests l) (sym (unqueued s [] event actor proc report made first tells is)) joined_same;
        parked = subst (λ (l : List ReqId). AllOf IsParked req_itself told_.requests l) (sym parked_) (all_more IsParked req_itself told_.requests s.parked made.req parked_same (record { made = made; of_req = refl; is = delivered_made; changes = changes }));
      }
    where
      parked_ : told_.parked ≡ s.parked ++ made.req ∷ []
      parked_ = rw first (rw tells (rw held refl))

      changes : changes_history made.what ≡ true
      changes = by_test (changes_history made.what) refl held
        where
          by_test : (b : Bool) → changes_history made.what ≡ b → is_held_back s made ≡ true → changes_history made.what ≡ true
          by_test true e held_ = e
          by_test false e held_ =
              let never : is_held_back s made ≡ false = rw e refl in cc

  -- and else it is at hand
  pub at_hand_known : IsNoGo made.what → is_held_back s made ≡ false → AreKnown told_
  at_hand_known is held =
      record {
        desks = desks_told;
        joined = subst (λ (l : List ReqId). AllOf IsJoined req_itself told_.requests l) (sym (unqueued s [] event actor proc report made first tells is)) joined_same;
        parked = subst (λ (l : List ReqId). AllOf IsParked req_itself told_.requests l) (sym unheld) parked_same;
      }
    where
      unheld : told_.parked ≡ s.parked
      unheld = rw first (rw tells (rw held refl))
