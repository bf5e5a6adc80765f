-- A document was made and discarded at once, for no request: what comes is as it was as the event began.
use Rattle.tab_doors.proofs.PassedOn.{sent_now}
use Rattle.seen_facts.specs.Asked.Asking.{ArePlain}
use Rattle.tab_facts.proofs.Calm.Loads.{HasOne, IsLoads, loads_then}
use Rattle.tab_facts.proofs.Calm.Sents.{found_on}
use Rattle.seen_facts.specs.Each.Runs.{EachAsked}
use Rattle.tab_facts.specs.Frame.Lasting.{wish}
use Rattle.seen_facts.proofs.Coord.Singles.{AreApart}
use Rattle.tab_facts.specs.Calm.Calm.{HasUsable}
use Rattle.tab_facts.specs.Calm.Loads.{LoadsHaveDocuments}
use Rattle.seen_facts.proofs.Hang.Members.{Passing, any_has, find_has, has_any}
use Rattle.seen_facts.specs.Home.Homes.{document_in}
use Rattle.row_facts.proofs.Left.Rows.{were_shown}
use Rattle.row_facts.specs.Left.Left.{WereShown}
use Rattle.seen_facts.specs.Load.Loading.{look}
use Rattle.log_model.specs.After.{after}
use Rattle.log_model.specs.AfterPlaces.{without_doc}
use Rattle.log_model.specs.AfterRequests.{on_served, request_served}
use Rattle.log_model.specs.Equal.{has_doc}
use Rattle.log_model.specs.History.{History, has_row, has_state}
use Rattle.log_model.specs.Orders.{is_usable, ongoing_load}
use Rattle.log_model.specs.Places.{all_stand, all_stand_in, is_moved_in}
use Rattle.log_model.specs.Seen.{Asked, Document, Place, Seen, document_of, request_in}
use Rattle.log_model.specs.declared.job.Job.{Job}
use Rattle.log_model.specs.declared.job.Why.{Why}
use Rattle.log_model.specs.declared.outcome.Outcome.{Outcome}
use Rattle.log_model.specs.declared.row_kind.RowKind.{RowKind}
use Rattle.move_queue.specs.Queue.{Queue}
use Rattle.seen_facts.proofs.Place.Documents.{KeepStates, states_stay}
use Rattle.seen_facts.proofs.Rest.Still.{found_itself}
use Rattle.seen_laws.specs.InEvent.{InEvent, now_of, row_of}
use Rattle.std.proofs.Common.{Bool, List, None, Option, Some, [], ap, cond, eqb-true, false, inl, inr, not, refl, subst, sym, true, ℕ, ◌&&◌, ◌==◌, ◌||◌, ◌∙◌, ◌∷◌, ◌≡◌, ◌⊎◌}
use Rattle.std.proofs.lemmas.List.{map-id}
use Rattle.std.specs.Prelude.{option_map}
use Rattle.tab_doors.specs.Orders.{order_to}
use Rattle.tab_doors.specs.declared.tables.Tables.{Tables}
use Rattle.tab_ids.specs.declared.DocId.{DocId}
use Rattle.tab_ids.specs.declared.NavId.{NavId}
use Rattle.tab_ids.specs.declared.ProcId.{ProcId}
use Rattle.tab_ids.specs.declared.ReqId.{ReqId}
use Rattle.tab_ids.specs.declared.StateId.{StateId}
use Rattle.tab_stands.proofs.Coming.{IsComing}
use Rattle.tab_stands.proofs.Dones.{did, did_now, did_requests, itself}
use Rattle.tab_stands.proofs.PassedOn.{IsBegun, causes_on, serve_on, unstood_by}
use Rattle.tab_stands.proofs.Placed.{WasDoc, made_asks, made_then, one_or_same, states_kept, was_doc}
use Rattle.tab_stands.proofs.Reports.{told_kept}
use Rattle.tab_stands.proofs.Unmade.{d, its_found, its_state, made_at, places_now}
use Rattle.tab_stands.specs.Delivering.{IsSeenDelivery}
use Rattle.tab_stands.specs.PassedOn.{IsLeftStray, IsStray, LoadsMadeOwn, MayCause}
use Rattle.tab_stands.specs.Standing.{InCheck, IsOwnRead, StandsFor, seen_start}
use Rattle.tab_sweeps.proofs.Loads.{loaded_never}
use Rattle.tab_unneeded.proofs.Needs.{made_nobody, made_unkept}
use Rattle.row_facts.proofs.WalkRows.Leaves.{none_places}
use Rattle.log_model.specs.declared.job.Task.TheVariants as tasks
use Rattle.log_model.specs.declared.job.Why.TheVariants as whys
use Rattle.log_model.specs.declared.made.Report.TheVariants as reports
use Rattle.log_model.specs.declared.row_kind.Actor.TheVariants as actors
use Rattle.log_model.specs.declared.row_kind.RowKind.TheVariants as rows

-- an order for no request changes none
unserved : (why : Why) → ((req : ReqId) → why ≡ whys.Req req → ⊥) → (f : Asked → Asked) (asked : List Asked) → on_served why f asked ≡ asked
unserved (whys.Req req) never f asked = absurd (never req refl)
unserved (whys.Death death) never f asked = refl
unserved whys.Evict never f asked = refl
unserved whys.Start never f asked = refl

-- where one isn't in a list, it is the same without it
without_none : (doc : DocId) (docs : List DocId) → has_doc docs doc ≡ false → without_doc doc docs ≡ docs
without_none doc [] none = refl
without_none doc (x ∷ docs) none = by_test (x.0 == doc.0) refl none (without_none doc docs)
  where
    by_test : (b : Bool) → (x.0 == doc.0) ≡ b → (b || has_doc docs doc) ≡ false → (has_doc docs doc ≡ false → without_doc doc docs ≡ docs) → (let l : List DocId = cond (not (x.0 == doc.0)) (x ∷ without_doc doc docs) (without_doc doc docs) in l) ≡ x ∷ docs
    by_test true e h more = absurd cc
    by_test false e h more = rw e (ap (λ (l : List DocId). x ∷ l) (more h))

module _ (e : InEvent) (proc : ProcId) (job : Job) (outcome : Outcome) (del : IsSeenDelivery e proc (reports.Done job outcome None)) (t : Tables) (queue : Queue) (blame : List (StateId × ReqId)) {check : InCheck} (stands : StandsFor check (seen_start e) t queue blame) (aside : IsOwnRead e) (nav : NavId) (state : StateId) (address : List ℕ) (initial : Bool) (task : job.task ≡ tasks.Populate nav state address initial) (why : Why) (unasked : (req : ReqId) → why ≡ whys.Req req → ⊥) (stray : IsStray (now_of e []) job.doc state) where
  abbrev s : Seen
  s = seen_start e

  abbrev n : Seen
  n = now_of e []

  abbrev told : Seen
  told = did e proc job outcome del t queue blame stands aside

  abbrev pub discard : Job
  discard = order_to (now_of e []) job.doc why tasks.Discard

  abbrev pub then_ : Seen
  then_ = after (now_of e []) (row_of e (rows.Sent discard))

  now : n ≡ told
  now = did_now e proc job outcome del t queue blame stands aside

  abbrev own : Document
  own = d e proc job outcome del t queue blame stands aside nav state address initial task

  own_found : document_of s job.doc ≡ Some own
  own_found = its_found e proc job outcome del t queue blame stands aside nav state address initial task

  -- ---- requests and navigables

  pub requests_same : then_.requests ≡ (seen_start e).requests
  requests_same =
      unserved why unasked (request_served n discard tasks.Discard) n.requests
      ∙ ap (λ (x : Seen). x.requests) now
      ∙ did_requests e proc job outcome del t queue blame stands aside (made_asks e proc job outcome del t queue blame stands aside nav state address initial task)

  pub places_same : then_.places ≡ (seen_start e).places
  places_same =
      none_places n e.event e.actor discard (made_nobody e proc job outcome del t queue blame stands aside nav state address initial task) tasks.Discard refl tt
      ∙ ap (λ (x : Seen). x.places) now
      ∙ places_now e proc job outcome del t queue blame stands aside nav state address initial task

  kept_same : then_.kept ≡ s.kept
  kept_same =
      without_none job.doc n.kept (made_unkept e proc job outcome del t queue blame stands aside nav state address initial task)
      ∙ ap (λ (x : Seen). x.kept) now
      ∙ told_kept e proc del.by_coord del.own t queue blame stands aside (reports.Done job outcome None) del.first

  pub history_same : then_.history ≡ (seen_start e).history
  history_same = ap (λ (x : Seen). x.history) now

  -- ---- documents

  abbrev gone : Document → Document
  gone x = record x { is_discarded = true }

  found_then : (doc : DocId) → document_of then_ doc ≡ option_map (λ (x : Document). cond (x.nr.0 == job.doc.0) (gone x) x) (document_of told doc)
  found_then doc =
      found_on n e.event e.actor discard gone (λ x. refl) refl doc
      ∙ ap (λ (x : Seen). option_map (λ (y : Document). cond (y.nr.0 == job.doc.0) (gone y) y) (document_of x doc)) now

  -- one that isn't discarded then was as it is, and is another one
  record WasOther (doc : DocId) (x : Document) : Type 0 where
    found : document_of s doc ≡ Some x
    apart : (x.nr.0 == job.doc.0) ≡ false

  was_other : (doc : DocId) (x : Document) → document_of then_ doc ≡ Some x → x.is_discarded ≡ false → WasOther doc x
  was_other doc x at there = by_found (document_of told doc) refl (sym (found_then doc) ∙ at)
    where
      by_was : (y : Document) → document_of told doc ≡ Some y → (y.nr.0 == job.doc.0) ≡ false → y ≡ x → WasOther doc x
      by_was y found apart same =
          by_case (one_or_same e proc job outcome del t queue blame stands aside nav state address initial task doc y was)
        where
          was : WasDoc e proc job outcome del t queue blame stands aside nav state address initial task doc y
          was = was_doc e proc job outcome del t queue blame stands aside nav state address initial task doc y found

          by_case : ((was.before ≡ own) × (doc ≡ job.doc)) ⊎ (((was.before.nr.0 == job.doc.0) ≡ false) × (was.before ≡ y)) → WasOther doc x
          by_case (inl it) =
              let has = find_has (λ (z : Document). z.nr.0 == doc.0) told.documents y found in
              let number : (y.nr.0 == job.doc.0) ≡ true = ap (λ (z : DocId). y.nr.0 == z.0) (sym it.1) ∙ has.1 in
              let never : true ≡ false = sym number ∙ apart in
              absurd cc
          by_case (inr it) =
              record { found = was.found ∙ ap (λ (z : Document). let o : Option Document = Some z in o) (it.1 ∙ same); apart = ap (λ (z : Document). z.nr.0 == job.doc.0) (sym same) ∙ apart }

      by_test : (y : Document) → document_of told doc ≡ Some y → (b : Bool) → (y.nr.0 == job.doc.0) ≡ b → (let z : Document = cond b (gone y) y in z) ≡ x → WasOther doc x
      by_test y found true is same =
          let never : true ≡ false = ap (λ (z : Document). z.is_discarded) same ∙ there in absurd cc
      by_test y found false is same = by_was y found is same

      by_found : (o : Option Document) → document_of told doc ≡ o → option_map (λ (y : Document). cond (y.nr.0 == job.doc.0) (gone y) y) o ≡ Some x → WasOther doc x
      by_found None found same = absurd cc
      by_found (Some y) found same =
          let one : (let z : Document = cond (y.nr.0 == job.doc.0) (gone y) y in z) ≡ x = cc in
          by_test y found (y.nr.0 == job.doc.0) refl one

  -- and another one that was there is so still
  still_other : (doc : DocId) (x : Document) → document_of s doc ≡ Some x → (x.nr.0 == job.doc.0) ≡ false → document_of then_ doc ≡ Some x
  still_other doc x found apart =
      found_then doc
      ∙ ap (λ (o : Option Document). option_map (λ (y : Document). cond (y.nr.0 == job.doc.0) (gone y) y) o) (made_then e proc job outcome del t queue blame stands aside nav state address initial task doc ∙ ap (λ (o : Option Document). option_map (λ (y : Document). made_at job.doc y) o) found)
      ∙ (rw (apart, apart) refl)

  -- each that was there is of its navigable
  record StaysOf (doc : DocId) (x : Document) : Type 0 where
    new : Document
    found : document_of then_ doc ≡ Some new
    nav_is : new.nav ≡ x.nav

  still_of : (doc : DocId) (x : Document) → document_of s doc ≡ Some x → StaysOf doc x
  still_of doc x found =
      record {
        new = cond ((made_at job.doc x).nr.0 == job.doc.0) (gone (made_at job.doc x)) (made_at job.doc x);
        found = found_then doc ∙ ap (λ (o : Option Document). option_map (λ (y : Document). cond (y.nr.0 == job.doc.0) (gone y) y) o) (made_then e proc job outcome del t queue blame stands aside nav state address initial task doc ∙ ap (λ (o : Option Document). option_map (λ (y : Document). made_at job.doc y) o) found);
        nav_is = second ((made_at job.doc x).nr.0 == job.doc.0) ∙ first (x.nr.0 == job.doc.0);
      }
    where
      first : (b : Bool) → (let y : Document = cond b (record x { is_ready = true; is_fresh = true }) x in y).nav ≡ x.nav
      first true = refl
      first false = refl

      second : (b : Bool) → (let y : Document = cond b (gone (made_at job.doc x)) (made_at job.doc x) in y).nav ≡ (made_at job.doc x).nav
      second true = refl
      second false = refl

  states_same : KeepStates s.documents then_.documents
  states_same doc =
      states_stay n (rows.Sent discard) tt doc
      ∙ ap (λ (x : Seen). option_map (λ (y : Document). y.state) (document_in x.documents doc)) now
      ∙ states_kept e proc job outcome del t queue blame stands aside nav state address initial task doc

  -- ---- loads

  loaded_none : ongoing_load s state ≡ None
  loaded_none =
      ap (λ (l : List Asked). let x : Seen = record s { requests = l } in ongoing_load x state) (sym (ap (λ (x : Seen). x.requests) now ∙ did_requests e proc job outcome del t queue blame stands aside (made_asks e proc job outcome del t queue blame stands aside nav state address initial task)))
      ∙ stray.unloaded

  loading : LoadsHaveDocuments then_
  loading =
      loads_then s then_ (λ r l at on. ap (λ (asked : List Asked). option_map look (request_in asked r)) (sym requests_same) ∙ at) keeps stands.between.loading
    where
      apart_of : (of : StateId) → IsLoads s of → (one : HasOne s of) → (b : Bool) → (one.d.nr.0 == job.doc.0) ≡ b → (one.d.nr.0 == job.doc.0) ≡ false
      apart_of of is one false apart = apart
      apart_of of is one true same =
          let has = find_has (λ (z : Document). z.nr.0 == one.doc.0) s.documents one.d one.found in
          let number : one.d.nr.0 ≡ one.doc.0 = eqb-true one.d.nr.0 one.doc.0 has.1 in
          let doc_is : one.doc ≡ job.doc = ap (λ (k : ℕ). let x : DocId = record { 0 = k } in x) (sym number ∙ eqb-true one.d.nr.0 job.doc.0 same) in
          let both : Some one.d ≡ Some own = sym one.found ∙ ap (λ (x : DocId). document_of s x) doc_is ∙ own_found in
          let it : one.d ≡ own = cc in
          let states : of ≡ state = sym one.of_state ∙ ap (λ (x : Document). x.state) it ∙ its_state e proc job outcome del t queue blame stands aside nav state address initial task in
          absurd (loaded_never s state loaded_none is.req is.q of is.found is.ongoing is.own (ap (λ (x : StateId). x.0) states))

      keeps : (of : StateId) → IsLoads s of → HasOne s of → HasOne then_ of
      keeps of is one =
          record { doc = one.doc; d = one.d; found = still_other one.doc one.d one.found (apart_of of is one (one.d.nr.0 == job.doc.0) refl); of_state = one.of_state; there = one.there }

  -- where not all have stood, and not all stand then, they haven't
  unstood : s.has_stood ≡ false → all_stand then_ then_.history.current ≡ false → then_.has_stood ≡ false
  unstood off away =
      unstood_by n (row_of e (rows.Sent discard)) refl away (ap (λ (x : Seen). x.has_stood) now ∙ unstood_by s (record { event = e.event; actor = actors.Coord; row = rows.Delivered proc }) refl told_away off)
    where
      told_away : all_stand told told.history.current ≡ false
      told_away =
          ap (λ (l : List Place). all_stand_in s.history.rows l s.history.current) (places_now e proc job outcome del t queue blame stands aside nav state address initial task ∙ sym places_same)
          ∙ ap (λ (h : History). all_stand_in h.rows then_.places h.current) (sym history_same)
          ∙ away

  -- ---- what comes

  module _ (plain : ArePlain t.running then_) where
    causes : (cause : Why) → MayCause s cause → MayCause then_ cause
    causes =
        causes_on s then_ t.running plain (λ req. ap (λ (l : List Asked). option_map wish (request_in l req)) requests_same) (λ this each. subst (λ (l : List Asked). EachAsked (IsBegun this) l) (sym requests_same) each)

    theirs : LoadsMadeOwn then_
    theirs r q made found load makes =
        let its = stands.lasts.made r q made (ap (λ (l : List Asked). request_in l r) (sym requests_same) ∙ found) load makes in
        let still : StaysOf made.doc its.0.d = still_of made.doc its.0.d its.0.found in
        (record { d = still.new; found = still.found; nav_is = its.0.nav_is ∙ ap (λ (x : NavId). let o : Option NavId = Some x in o) (sym still.nav_is) }, its.1)

    strays_same : (doc : DocId) (of : StateId) → IsStray then_ doc of → IsLeftStray then_ blame doc of
    strays_same doc of one =
        record {
          req = it.req;
          noted = it.noted;
          may = serve_on s then_ it.req causes it.may;
          bare = λ x found. (let both : Some one.document ≡ Some x = sym one.found ∙ found in let same : one.document ≡ x = cc in ap (λ (h : History). has_row x.nav h.rows) history_same ∙ it.bare x (was.found ∙ ap (λ (y : Document). let o : Option Document = Some y in o) same));
        }
      where
        was : WasOther doc one.document
        was = was_other doc one.document one.found one.undiscarded

        it : IsLeftStray s blame doc of
        it =
            stands.strays doc of (record {
              document = one.document;
              found = was.found;
              its_state = one.its_state;
              ready = one.ready;
              undiscarded = one.undiscarded;
              bare = ap (λ (h : History). has_state of h.rows) (sym history_same) ∙ one.bare;
              unloaded = ap (λ (l : List Asked). let x : Seen = record s { requests = l } in ongoing_load x of) (sym requests_same) ∙ one.unloaded;
            })

    coming : IsComing blame s then_
    coming =
        record {
          g = λ p. p;
          arrives = itself;
          places = places_same ∙ sym (map-id s.places);
          history = history_same;
          kept = kept_same;
          asked = λ r q at. record { now = q; at = ap (λ (l : List Asked). request_in l r) requests_same ∙ at; same = refl; changed = λ change is. is };
          loads = λ r l at on. ap (λ (asked : List Asked). option_map look (request_in asked r)) (sym requests_same) ∙ at;
          loading = loading;
          serves = λ r may. serve_on s then_ r causes may;
          moved = λ x. ap (λ (asked : List Asked). is_moved_in asked x) requests_same;
          homes = λ doc x found. (let still : StaysOf doc x = still_of doc x found in (still.new, still.found, still.nav_is));
          states = states_same;
          strays = λ doc of one. inl (strays_same doc of one);
          were = were_shown n e.event e.actor were (rows.Sent discard) tt;
          theirs = theirs;
          step = ap (λ (x : Seen). x.last_step) now;
          unstood = unstood;
        }
      where
        were : WereShown n
        were =
            subst (λ (x : Seen). WereShown x) (sym now) (were_shown s e.event actors.Coord stands.lasts.were (rows.Delivered proc) tt)

  -- ---- under the rows that were put out

  module _ (out : List RowKind) (is : out ≡ rows.Sent discard ∷ []) where
    pub then_is : then_ ≡ now_of e out
    then_is = sym (ap (λ (l : List RowKind). now_of e l) is ∙ sent_now e [] discard refl)

    pub discarded_comes : ArePlain t.running (now_of e out) → IsComing blame (seen_start e) (now_of e out)
    discarded_comes plain =
        subst (λ (x : Seen). IsComing blame s x) then_is (coming (subst (λ (x : Seen). ArePlain t.running x) (sym then_is) plain))

    -- no document was made usable
    pub discarded_usable : AreApart (λ (x : Document). x.nr.0) (now_of e out).documents → (own_state : StateId) → HasUsable (now_of e out) own_state → HasUsable (seen_start e) own_state
    discarded_usable apart own_state some = by_passing (any_has (λ (x : Document). is_usable x own_state) then_.documents (subst (λ (x : Seen). HasUsable x own_state) (sym then_is) some))
      where
        three : (a b c f : Bool) → (a && b && not c && not f) ≡ true → c ≡ false
        three true true false f h = refl
        three false b c f h = absurd cc
        three true false c f h = absurd cc
        three true true true f h = absurd cc

        by_passing : Passing (λ (x : Document). is_usable x own_state) then_.documents → HasUsable s own_state
        by_passing one =
            let there : one.it.is_discarded ≡ false = three (one.it.state.0 == own_state.0) one.it.is_ready one.it.is_discarded one.it.is_known_dead one.passes in
            let was : WasOther one.it.nr one.it = was_other one.it.nr one.it (found_itself then_.documents one.it (subst (λ (x : Seen). AreApart (λ (y : Document). y.nr.0) x.documents) (sym then_is) apart) one.there) there in
            has_any (λ (x : Document). is_usable x own_state) s.documents one.it (find_has (λ (x : Document). x.nr.0 == one.it.nr.0) s.documents one.it was.found).0 one.passes
