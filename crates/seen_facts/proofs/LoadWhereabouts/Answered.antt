-- Where each load is, as a document makes something: of a poke, which is no load; or of the fragment order that it has just finished, the report of which then tells of it.
use Rattle.std.proofs.Common.{◌≡◌, ℕ, ◌+◌, Bool, true, false, cond, ◌&&◌, ◌==◌, List, [], ◌∷◌, ◌++◌, drop, Option, Some, None, refl, sym, ap, ◌∙◌, arith, append-nil}
use Rattle.std.specs.Prelude.{filter_map, slice_get, option_map, is_none, is_some}
use Rattle.std.proofs.lemmas.List.Elements.{filter_map-append}
use Rattle.tab_ids.specs.declared.JobId.{JobId}
use Rattle.tab_ids.specs.declared.ProcId.{ProcId}
use Rattle.tab_ids.specs.declared.ReqId.{ReqId}
use Rattle.log_model.specs.declared.job.Job.{Job}
use Rattle.log_model.specs.declared.job.Order.{Order}
use Rattle.log_model.specs.declared.made.Made.{Made}
use Rattle.log_model.specs.declared.made.Report.{Report}
use Rattle.log_model.specs.declared.made.Report.TheVariants as reports
use Rattle.log_model.specs.declared.made.What.{What}
use Rattle.log_model.specs.declared.made.What.TheVariants as whats
use Rattle.log_model.specs.declared.outcome.Outcome.{Outcome}
use Rattle.log_model.specs.declared.request.Poke.{Poke}
use Rattle.log_model.specs.declared.row_kind.Actor.{Actor}
use Rattle.log_model.specs.declared.row_kind.RowKind.TheVariants as rows
use Rattle.log_model.specs.Seen.{Seen, Desk, Asked, desk_of, request_in, request_of}
use Rattle.log_model.specs.Places.{is_load}
use Rattle.log_model.specs.After.{on_desk, desk_made, desks_made, desk_finished, follows_finished, reports_made, reports_joined}
use Rattle.log_model.specs.AfterRequests.{made_of_report}
use Rattle.log_model.proofs.Refl.{nat_eq_refl}
use Rattle.seen_laws.proofs.Desks.{desk_on_same}
use Rattle.seen_laws.proofs.Sums.{over, over_on}
use Rattle.seen_facts.proofs.Coord.Held.{on_alike, on_else}
use Rattle.seen_facts.proofs.Coord.Unread.{next}
use Rattle.seen_facts.specs.Request.Whereabouts.{times, poked, answered_by, times_at, times_found, times_due, is_of_load, AreOnce}
use Rattle.seen_facts.proofs.Request.LookUps.{on_itself}
use Rattle.seen_facts.proofs.Request.Placings.{one_if, first_poked}
use Rattle.seen_facts.proofs.Request.Times.{desk_same}
use Rattle.seen_facts.specs.LoadWhereabouts.Whereabouts.{waits_to_fragment, ways_of, times_on_way, times_of_load, AreLoadsOnce}
use Rattle.seen_facts.proofs.LoadWhereabouts.Counts.{but_one, one_other, one_itself, req_same}
use Rattle.seen_facts.proofs.LoadWhereabouts.Rows.{finished_loads}
use Rattle.seen_facts.proofs.LoadWhereabouts.Trips.{Trip, trip, finished_trips}

-- ---- reports

-- one more that tells of something made
told_more : (r : ReqId) (mades : List Made) (made : Made) → times r (answered_by (mades ++ made ∷ [])) ≡ times r (answered_by mades) + one_if made.req r
told_more r [] made = omega arith
told_more r (m ∷ mades) made = omega (arith, told_more r mades made)

abbrev told_in : ReqId → List Report → ℕ
told_in r waiting = times r (answered_by (filter_map made_of_report waiting))

report_more : (r : ReqId) (waiting : List Report) (report : Report) (made : Made) → made_of_report report ≡ Some made → told_in r (waiting ++ report ∷ []) ≡ told_in r waiting + one_if made.req r
report_more r waiting report made tells =
    ap (λ (l : List Made). times r (answered_by l)) (filter_map-append made_of_report waiting (report ∷ []) ∙ rw tells refl)
    ∙ told_more r (filter_map made_of_report waiting) made

report_untold : (r : ReqId) (waiting : List Report) (report : Report) → made_of_report report ≡ None → told_in r (waiting ++ report ∷ []) ≡ told_in r waiting
report_untold r waiting report none =
    ap (λ (l : List Made). times r (answered_by l)) (filter_map-append made_of_report waiting (report ∷ []) ∙ rw none (append-nil (filter_map made_of_report waiting)))

-- what was made joins the last report
joined_last : (made : Made) (front : List Report) (job : Job) (outcome : Outcome) → reports_joined made (front ++ reports.Done job outcome None ∷ []) ≡ front ++ reports.Done job outcome (Some made) ∷ []
joined_last made [] job outcome = refl
joined_last made (reports.Made m ∷ front) job outcome = ap (λ (l : List Report). reports.Made m ∷ l) (joined_last made front job outcome)
joined_last made (reports.Died death ∷ front) job outcome = ap (λ (l : List Report). reports.Died death ∷ l) (joined_last made front job outcome)
joined_last made (reports.Done j o m ∷ []) job outcome = refl
joined_last made (reports.Done j o m ∷ (x ∷ front)) job outcome = ap (λ (l : List Report). reports.Done j o m ∷ l) (joined_last made (x ∷ front) job outcome)

-- ---- of a poke

-- a document makes something of its first poke, an edit or another
pub made_other : (s : Seen) (hand : List ReqId) (event : ℕ) (actor : Actor) (proc : ProcId) (made : Made) (poke : Poke) → slice_get (desk_of s proc).input 0 ≡ Some poke → poke.req ≡ made.req → is_of_load (request_in s.requests made.req) ≡ false → follows_finished s (record { event = event; actor = actor; row = rows.Made proc made }) ≡ false → AreLoadsOnce s hand → AreLoadsOnce (next s event actor (rows.Made proc made)) hand
made_other s hand event actor proc made poke first of_poke other anew each =
    but_one s (next s event actor (rows.Made proc made)) hand hand made.req (record {
      others = λ r apart. on_else s.requests made.req _ r apart;
      elsewhere = λ r apart. (let same : over (times_at r) (next s event actor (rows.Made proc made)).desks ≡ over (times_at r) s.desks = ap (λ (b : Bool). over (times_at r) (on_desk proc (desks_made b made) s.desks)) anew ∙ desk_same r (desk_made made) s.desks proc (same_at r apart) in omega (arith, same));
      one = λ load. (let no_ : false ≡ true = sym other ∙ sym (on_alike is_of_load s.requests made.req (λ q. record q { made = Some made }) made.req (λ q. refl)) ∙ load in absurd cc);
    }) each
  where
    same_at : (r : ReqId) → (r.0 == made.req.0) ≡ false → times_at r (desk_made made (desk_of s proc)) ≡ times_at r (desk_of s proc)
    same_at r apart =
        let was : times r (poked (desk_of s proc).input) ≡ one_if made.req r + times r (poked (drop 1 (desk_of s proc).input)) = first_poked r (desk_of s proc).input poke first ∙ ap (λ (q : ReqId). one_if q r + times r (poked (drop 1 (desk_of s proc).input))) of_poke in
        omega (arith, was, one_other made.req r apart, by_what made.what)
      where
        more : told_in r ((desk_of s proc).reports ++ reports.Made made ∷ []) ≡ told_in r (desk_of s proc).reports
        more =
            let all = report_more r (desk_of s proc).reports (reports.Made made) made refl in
            omega (arith, all, one_other made.req r apart)

        by_what : (what : What) → told_in r (reports_made (desk_of s proc).reports made what) ≡ told_in r (desk_of s proc).reports
        by_what (whats.Push entry memo address) = more
        by_what (whats.Replace over_ entry memo address) = more
        by_what (whats.AddFrame nav) = more
        by_what (whats.RemoveFrame nav) = more
        by_what (whats.Go delta) = more
        by_what whats.Edit = refl

-- ---- of a fragment order

-- the report of the order that was just finished is the last one, and tells of nothing made as yet
module _ (s : Seen) (hand : List ReqId) (event : ℕ) (actor : Actor) (proc : ProcId) (made : Made) (front : List Report) (job : Job) (outcome : Outcome) (last : (desk_of s proc).reports ≡ front ++ reports.Done job outcome None ∷ []) (follows : follows_finished s (record { event = event; actor = actor; row = rows.Made proc made }) ≡ true) where
  abbrev pub fragmented : Seen
  fragmented = next s event actor (rows.Made proc made)

  abbrev make_it : Asked → Asked
  make_it q = record q { made = Some made }

  abbrev join : Desk → Desk
  join desk = record desk { reports = reports_joined made desk.reports }

  told_then : (r : ReqId) → told_in r (reports_joined made (desk_of s proc).reports) ≡ told_in r (desk_of s proc).reports + one_if made.req r
  told_then r =
      let now : told_in r (reports_joined made (desk_of s proc).reports) ≡ told_in r (front ++ reports.Done job outcome (Some made) ∷ []) = ap (λ (l : List Report). told_in r (reports_joined made l)) last ∙ ap (told_in r) (joined_last made front job outcome) in
      let was : told_in r (desk_of s proc).reports ≡ told_in r (front ++ reports.Done job outcome None ∷ []) = ap (told_in r) last in
      omega (arith, now, was, report_more r front (reports.Done job outcome (Some made)) made refl, report_untold r front (reports.Done job outcome None) refl)

  -- it is told of once more
  counted : (r : ReqId) → over (times_at r) fragmented.desks ≡ over (times_at r) s.desks + one_if made.req r
  counted r =
      let now : over (times_at r) fragmented.desks ≡ over (times_at r) (on_desk proc join s.desks) = ap (λ (b : Bool). over (times_at r) (on_desk proc (desks_made b made) s.desks)) follows in
      let more : over (times_at r) (on_desk proc join s.desks) + times_at r (desk_of s proc) ≡ over (times_at r) s.desks + times_at r (join (desk_of s proc)) = over_on (times_at r) join s.desks proc refl in
      omega (arith, now, more, told_then r)

  others_then : (r : ReqId) → (r.0 == made.req.0) ≡ false → request_in fragmented.requests r ≡ request_in s.requests r
  others_then r apart = on_else s.requests made.req make_it r apart

  elsewhere_then : (r : ReqId) → (r.0 == made.req.0) ≡ false → times_found r fragmented.desks fragmented.joined fragmented.parked hand ≡ times_found r s.desks s.joined s.parked hand
  elsewhere_then r apart = omega (arith, counted r, one_other made.req r apart)

  -- a load that waited for it is told of by the report
  pub made_fragment : (q : Asked) → request_of s made.req ≡ Some q → is_load q.what ≡ true → waits_to_fragment q ≡ true → AreLoadsOnce s hand → AreLoadsOnce fragmented hand
  made_fragment q found load waits each =
      but_one s fragmented hand hand made.req (record { others = others_then; elsewhere = elsewhere_then; one = λ load_. once }) each
    where
      now : request_in fragmented.requests made.req ≡ Some (make_it q)
      now = on_itself s.requests made.req make_it ∙ ap (λ (o : Option Asked). option_map make_it o) found

      no_more : (a b : Bool) → (let n : ℕ = cond ((a && false) && b) 1 0 in n) ≡ 0
      no_more true b = refl
      no_more false b = refl

      way : ways_of q ≡ ways_of (make_it q) + 1
      way =
          let one : (let n : ℕ = cond (waits_to_fragment q) 1 0 in n) ≡ 1 = rw waits refl in
          omega (arith, one, no_more (is_none q.ending) (is_some q.fragment))

      once : times_of_load made.req fragmented.requests fragmented.desks fragmented.joined fragmented.parked hand ≡ times_due (request_in fragmented.requests made.req)
      once =
          let was : times_of_load made.req s.requests s.desks s.joined s.parked hand ≡ times_due (request_in s.requests made.req) = each made.req (ap is_of_load found ∙ load) in
          let due : times_due (request_in fragmented.requests made.req) ≡ times_due (request_in s.requests made.req) = on_alike times_due s.requests made.req make_it made.req (λ x. refl) in
          let before : times_on_way (request_in s.requests made.req) ≡ ways_of q = ap times_on_way found in
          let then_ : times_on_way (request_in fragmented.requests made.req) ≡ ways_of (make_it q) = ap times_on_way now in
          omega (arith, was, due, before, then_, way, counted made.req, one_itself made.req)

  -- and the other requests stay where they are
  pub made_fragment_once : is_of_load (request_in s.requests made.req) ≡ true → AreOnce s hand → AreOnce fragmented hand
  made_fragment_once load each r no_load = by_number (r.0 == made.req.0) refl
    where
      by_number : (b : Bool) → (r.0 == made.req.0) ≡ b → times_found r fragmented.desks fragmented.joined fragmented.parked hand ≡ times_due (request_in fragmented.requests r)
      by_number true e =
          let same : r ≡ made.req = req_same r made.req e in
          let was : is_of_load (request_in fragmented.requests r) ≡ true = on_alike is_of_load s.requests made.req make_it r (λ q. refl) ∙ ap (λ (x : ReqId). is_of_load (request_in s.requests x)) same ∙ load in
          let no_ : true ≡ false = sym was ∙ no_load in
          absurd cc
      by_number false e =
          let there : request_in fragmented.requests r ≡ request_in s.requests r = others_then r e in
          elsewhere_then r e ∙ each r (ap is_of_load (sym there) ∙ no_load) ∙ ap times_due (sym there)

-- ---- the row before it

-- an order is finished: what its document makes of it in the same event joins its report
module _ (s : Seen) (event : ℕ) (actor : Actor) (proc : ProcId) (job : JobId) (outcome : Outcome) (order : Order) (in_hand : (desk_of s proc).in_hand ≡ Some order) where
  abbrev pub finished : Seen
  finished = next s event actor (rows.Finished proc job outcome)

  pub finished_last : (desk_of finished proc).reports ≡ (desk_of s proc).reports ++ reports.Done order.job outcome None ∷ []
  finished_last =
      ap (λ (d : Desk). d.reports) (desk_on_same (desk_finished outcome) s.desks proc (λ desk. refl)) ∙ rw in_hand refl

  pub finished_follows : (by : Actor) (made : Made) → follows_finished finished (record { event = event; actor = by; row = rows.Made proc made }) ≡ true
  finished_follows by made = rw (nat_eq_refl (event + 1), in_hand) refl

  -- both rows: the document makes something of the fragment order of a load that waited for it
  pub finished_fragment : (hand : List ReqId) (by : Actor) (made : Made) (q : Asked) → request_of s made.req ≡ Some q → is_load q.what ≡ true → waits_to_fragment q ≡ true → AreLoadsOnce s hand → AreLoadsOnce (next finished event by (rows.Made proc made)) hand
  finished_fragment hand by made q found load waits each = by_now (request_of finished made.req) refl
    where
      then_ : option_map trip (request_of finished made.req) ≡ Some (trip q)
      then_ =
          finished_trips s (desk_of s proc).in_hand outcome s.requests made.req ∙ ap (λ (o : Option Asked). option_map trip o) found

      by_now : (o : Option Asked) → request_of finished made.req ≡ o → AreLoadsOnce (next finished event by (rows.Made proc made)) hand
      by_now None e = let no_ : None ≡ Some (trip q) = sym (ap (λ (o : Option Asked). option_map trip o) e) ∙ then_ in absurd cc
      by_now (Some p) e =
          let both : Some (trip p) ≡ Some (trip q) = sym (ap (λ (o : Option Asked). option_map trip o) e) ∙ then_ in
          let same : trip p ≡ trip q = cc in
          made_fragment finished hand event by proc made (desk_of s proc).reports order.job outcome finished_last (finished_follows by made) p e
          (ap (λ (x : Trip). is_load x.what) same ∙ load)
          (ap (λ (x : Trip). (is_none x.ending && is_none x.made) && is_some x.fragment) same ∙ waits)
          (finished_loads s hand event actor each proc job outcome)
