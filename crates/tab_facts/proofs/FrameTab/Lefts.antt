-- All that holds in a tab of frames holds after a request is accepted, after a traversal begins, and after an order is taken up.
use Rattle.std.specs.Prelude.{if◌then◌else◌}
use Rattle.std.proofs.Common.{◌≡◌, inr, ℤ, ℕ, ◌+◌, Bool, true, false, ◌==◌, List, [], ◌∷◌, ◌++◌, length, Option, Some, None, refl, sym, ap, ◌∙◌, subst, arith}
use Rattle.std.specs.Prelude.{option_map, slice_get}
use Rattle.std.specs.Option.{option_map_or}
use Rattle.std.proofs.lemmas.Bool.Decides.{nat_tests}
use Rattle.tab_ids.specs.declared.DocId.{DocId}
use Rattle.tab_ids.specs.declared.EntryId.{EntryId}
use Rattle.tab_ids.specs.declared.NavId.{NavId}
use Rattle.tab_ids.specs.declared.ProcId.{ProcId}
use Rattle.tab_ids.specs.declared.ReqId.{ReqId}
use Rattle.tab_ids.specs.declared.Step.{Step}
use Rattle.log_model.specs.declared.action.Action.{Action}
use Rattle.log_model.specs.declared.job.Job.{Job}
use Rattle.log_model.specs.declared.made.Made.{Made}
use Rattle.log_model.specs.declared.request.Poke.{Poke}
use Rattle.log_model.specs.declared.request.Request.{Request}
use Rattle.log_model.specs.declared.request.Request.TheVariants as requests
use Rattle.log_model.specs.declared.row_kind.Actor.{Actor}
use Rattle.log_model.specs.declared.row_kind.RowKind.TheVariants as rows
use Rattle.log_model.specs.Equal.{holds}
use Rattle.log_model.specs.History.{has_nav}
use Rattle.seen_facts.proofs.Coord.Held.{on_else}
use Rattle.log_model.specs.After.{new_request, on_desk, desk_taken}
use Rattle.log_model.specs.AfterRequests.{on_request, request_begun}
use Rattle.log_model.specs.Places.{is_load, is_traversal, is_moved_in}
use Rattle.log_model.specs.Seen.{Seen, Document, Desk, Asked, desk_of, document_of, request_in}
use Rattle.seen_facts.specs.Coord.Leading.{orders_of_desk}
use Rattle.seen_facts.proofs.Coord.OneDocument.{orders_taken}
use Rattle.seen_facts.proofs.Coord.Unread.{next, accepted_held, started_held}
use Rattle.seen_facts.specs.Hang.Members.{Has}
use Rattle.seen_facts.proofs.Request.LookUps.{on_itself, others_before, one_more}
use Rattle.seen_facts.proofs.Request.Readers.{reads_then, on_read}
use Rattle.seen_facts.specs.Each.Runs.{EachAsked, is_run, is_this}
use Rattle.seen_facts.specs.Each.Items.{Each, NoneDied}
use Rattle.seen_facts.proofs.Each.Courses.{runs_more, runs_begun}
use Rattle.seen_facts.proofs.Each.Eaches.{each_more}
use Rattle.seen_facts.proofs.Each.Died.{died_on}
use Rattle.seen_facts.proofs.Each.Earlier.{old_apart, still_there}
use Rattle.tab_facts.specs.FrameTab.Asking.{IsFrameRequest, IsNoEditing, IsPlainlyAsked, ArePlainlyAsked}
use Rattle.tab_facts.specs.FrameTab.Desks.{IsOrderTo, IsPokeThere, IsMadeThere, waiting, makes_sent, makes_told}
use Rattle.tab_facts.specs.FrameTab.Steady.{IsAskedBy}
use Rattle.tab_facts.specs.FrameTab.Whole.{IsFrameTab}
use Rattle.tab_facts.proofs.FrameTab.Goings.{StaysAsked, AllStayAsked, all_same, all_more, asked_by_stays}
use Rattle.tab_facts.proofs.FrameTab.Desking.{same_made, same_placed, desks_on, own_desk, desks_same}
use Rattle.tab_facts.proofs.FrameTab.Plainly.{plain_more, plain_begun}
use Rattle.tab_facts.proofs.FrameTab.Running.{none_moved, moved_is, run_in}
use Rattle.tab_facts.proofs.FrameTab.Going.{IsKnownEntry, same_tooks}
use Rattle.tab_facts.proofs.FrameTab.Leaving.{makes_at, untold, leaves_tab, same_ascends, same_continues, same_unmade}

-- ---- a request is accepted

-- of a new request nothing was applied
pub more_tooks : (s : Seen) (asked : List Asked) (new : Asked) (req : ReqId) → s.requests ≡ asked → req.0 ≡ length asked + 1 → new.took ≡ [] → (r : ReqId) (q : Asked) (entry : EntryId) → request_in (asked ++ new ∷ []) r ≡ Some q → Has q.took entry → IsKnownEntry s entry
more_tooks s asked new req are nr none r q entry there has = by_number (req.0 == r.0) refl
  where
    by_number : (b : Bool) → (req.0 == r.0) ≡ b → IsKnownEntry s entry
    by_number true e =
        let n : req.0 ≡ r.0 = grind (arith, nat_tests, e) in
        let same : req ≡ r = ap (λ (i : ℕ). let x : ReqId = record { 0 = i } in x) n in
        let both : Some new ≡ Some q = sym (one_more asked new req nr) ∙ (ap (λ (x : ReqId). request_in (asked ++ new ∷ []) x) same ∙ there) in
        let is : new ≡ q = cc in
        let never : Has [] entry = subst (λ (l : List EntryId). Has l entry) (ap (λ (x : Asked). x.took) (sym is) ∙ none) has in absurd never
    by_number false e =
        inr (inr (record { req = r; q = q; there = ap (λ (l : List Asked). request_in l r) are ∙ (sym (others_before asked new req nr r e) ∙ there); has = has }))

module _ (home : ProcId) (run : Option ReqId) (hand : List Made) (s : Seen) (event : ℕ) (actor : Actor) (tab : IsFrameTab home run hand s) where
  module _ (req : ReqId) (nr : req.0 ≡ length s.requests + 1) where
    -- the new one doesn't run
    unrun : (new : Asked) → is_this run req ≡ false
    unrun new = by_run run refl
      where
        by_run : (r : Option ReqId) → run ≡ r → is_this r req ≡ false
        by_run None e = refl
        by_run (Some x) e =
            let there : IsAskedBy s.requests run = tab.asked.runs x e in
            let same : Some there.req ≡ Some x = sym there.is ∙ e in
            let is : there.req ≡ x = cc in
            let apart : (req.0 == there.req.0) ≡ false = old_apart s.requests new there.q req there.req nr there.there in
            let other : (there.req.0 == req.0) ≡ false = grind (arith, nat_tests, apart) in
            subst (λ (y : ReqId). (y.0 == req.0) ≡ false) is other

    module _ (doc : Option DocId) (what : Request) where
      abbrev new : Asked
      new = new_request req doc what

      abbrev more : List Asked
      more = s.requests ++ new ∷ []

      pub accepted_asked : (t : Seen) → IsFrameRequest what → t.requests ≡ more → t.kept ≡ s.kept → NoneDied t → ArePlainlyAsked run t
      accepted_asked t is are kept died =
          record {
            each = subst (λ (l : List Asked). EachAsked IsPlainlyAsked l) (sym are) (plain_more s.requests req doc what nr is tab.asked.each);
            only = subst (λ (l : List Asked). EachAsked (λ r q. is_run q ≡ is_this run r) l) (sym are) (runs_more run s.requests req doc what nr (unrun new) tab.asked.only);
            runs = λ r e. subst (λ (l : List Asked). IsAskedBy l run) (sym are) (asked_by_stays s.requests more run (all_more s.requests new req nr) (tab.asked.runs r e));
            kept = kept ∙ tab.asked.kept;
            died = died;
          }

      more_moved : IsFrameRequest what → (nav : NavId) → is_moved_in more nav ≡ is_moved_in s.requests nav
      more_moved is nav =
          moved_is run more nav (runs_more run s.requests req doc what nr (unrun new) tab.asked.only)
          ∙ by_run run refl
          ∙ sym (moved_is run s.requests nav tab.asked.only)
        where
          moved : Option Asked → Bool
          moved o = holds (λ (q : Asked). has_nav q.moved nav) o

          by_run : (r : Option ReqId) → run ≡ r → moved (run_in r more) ≡ moved (run_in r s.requests)
          by_run None e = refl
          by_run (Some x) e =
              let there : IsAskedBy s.requests run = tab.asked.runs x e in
              let same : Some there.req ≡ Some x = sym there.is ∙ e in
              let is_ : there.req ≡ x = cc in
              let at : request_in s.requests x ≡ Some there.q = subst (λ (y : ReqId). request_in s.requests y ≡ Some there.q) is_ there.there in
              ap moved (still_there s.requests new there.q req x nr at ∙ sym at)

    -- a traversal by the user
    module _ (delta : ℤ) where
      abbrev went : Seen
      went = next s event actor (rows.Accepted req None (requests.Go delta))

      pub go_framed : IsFrameTab home run hand went
      go_framed =
          leaves_tab home run run hand hand s went
          (record {
            documents = refl;
            places = refl;
            history = refl;
            states = refl;
            entries = refl;
            initial = refl;
            stay = all_more s.requests (new_request req None (requests.Go delta)) req nr;
            tooks = more_tooks s s.requests (new_request req None (requests.Go delta)) req refl nr refl;
            asked = accepted_asked None (requests.Go delta) went tt refl refl tab.asked.died;
            desks = desks_same home s went refl (same_made s.documents went.documents refl) (same_placed s.places went.places refl) tab.desks;
            makes = λ doc. refl;
            unmade = same_unmade (waiting s hand) (waiting went hand) (desk_of s home) (desk_of went home) same;
            waits = subst (λ (l : List Made). Each (IsMadeThere s.documents) l) (sym held_same) tab.waits;
            ascends = same_ascends (waiting s hand) (waiting went hand) (desk_of s home) (desk_of went home) same;
            continues = λ nav place doc given there wakes has. same_continues (waiting s hand) (waiting went hand) (desk_of s home) (desk_of went home) same doc given place.epoch;
            moved = λ nav none. sym (more_moved None (requests.Go delta) tt nav) ∙ none;
          })
          tab
        where
          held_same : waiting went hand ≡ waiting s hand
          held_same = ap (λ (l : List Made). l ++ hand) (accepted_held s event actor req None (requests.Go delta))

          same : untold (waiting went hand) (desk_of went home) ≡ untold (waiting s hand) (desk_of s home)
          same = ap (λ (l : List Made). untold (l ++ hand) (desk_of s home)) (accepted_held s event actor req None (requests.Go delta))

    module _ (nav : NavId) (action : Action) (fine : IsNoEditing action) where
      -- a poke that reaches no document
      abbrev strayed : Seen
      strayed = next s event actor (rows.Accepted req None (requests.Poke nav action))

      pub stray_framed : IsFrameTab home run hand strayed
      stray_framed =
          leaves_tab home run run hand hand s strayed
          (record {
            documents = refl;
            places = refl;
            history = refl;
            states = refl;
            entries = refl;
            initial = refl;
            stay = all_more s.requests (new_request req None (requests.Poke nav action)) req nr;
            tooks = more_tooks s s.requests (new_request req None (requests.Poke nav action)) req refl nr refl;
            asked = accepted_asked None (requests.Poke nav action) strayed fine refl refl tab.asked.died;
            desks = desks_same home s strayed refl (same_made s.documents strayed.documents refl) (same_placed s.places strayed.places refl) tab.desks;
            makes = λ doc. refl;
            unmade = same_unmade (waiting s hand) (waiting strayed hand) (desk_of s home) (desk_of strayed home) same;
            waits = subst (λ (l : List Made). Each (IsMadeThere s.documents) l) (sym held_same) tab.waits;
            ascends = same_ascends (waiting s hand) (waiting strayed hand) (desk_of s home) (desk_of strayed home) same;
            continues = λ n place doc given there wakes has. same_continues (waiting s hand) (waiting strayed hand) (desk_of s home) (desk_of strayed home) same doc given place.epoch;
            moved = λ n none. sym (more_moved None (requests.Poke nav action) fine n) ∙ none;
          })
          tab
        where
          held_same : waiting strayed hand ≡ waiting s hand
          held_same = ap (λ (l : List Made). l ++ hand) (accepted_held s event actor req None (requests.Poke nav action))

          same : untold (waiting strayed hand) (desk_of strayed home) ≡ untold (waiting s hand) (desk_of s home)
          same = ap (λ (l : List Made). untold (l ++ hand) (desk_of s home)) (accepted_held s event actor req None (requests.Poke nav action))

      -- a poke of a document that is there
      module _ (doc : DocId) (d : Document) (found : document_of s doc ≡ Some d) where
        abbrev reached : Seen
        reached = next s event actor (rows.Accepted req (Some doc) (requests.Poke nav action))

        abbrev poke : Poke
        poke = record { req = req; doc = doc; action = action }

        abbrev with_poke : Desk → Desk
        with_poke desk = record desk { input = desk.input ++ poke ∷ [] }

        desks_then : reached.desks ≡ on_desk home with_poke s.desks
        desks_then =
            ap (λ (o : Option Document). option_map_or (λ (x : Document). on_desk x.proc with_poke s.desks) o s.desks) found
            ∙ ap (λ (p : ProcId). on_desk p with_poke s.desks) ((tab.documents doc d found).alive.proc)

        own_then : desk_of reached home ≡ with_poke (desk_of s home)
        own_then = own_desk home s reached with_poke desks_then (λ desk. refl)

        pub poke_framed : IsFrameTab home run hand reached
        poke_framed =
            leaves_tab home run run hand hand s reached
            (record {
              documents = refl;
              places = refl;
              history = refl;
              states = refl;
              entries = refl;
              initial = refl;
              stay = all_more s.requests (new_request req (Some doc) (requests.Poke nav action)) req nr;
              tooks = more_tooks s s.requests (new_request req (Some doc) (requests.Poke nav action)) req refl nr refl;
              asked = accepted_asked (Some doc) (requests.Poke nav action) reached fine refl refl (died_on s reached home with_poke desks_then (λ desk. refl) refl refl tab.asked.died);
              desks = desks_on home s reached with_poke desks_then (λ desk. refl) (record { orders = tab.desks.own.orders; told = tab.desks.own.told; pokes = each_more (IsPokeThere s.documents) (desk_of s home).input poke tab.desks.own.pokes (record { document = d; found = found }) }) tab.desks;
              makes = λ x. ap (makes_at x) own_then;
              unmade = same_unmade (waiting s hand) (waiting reached hand) (desk_of s home) (desk_of reached home) same;
              waits = subst (λ (l : List Made). Each (IsMadeThere s.documents) l) (sym held_same) tab.waits;
              ascends = same_ascends (waiting s hand) (waiting reached hand) (desk_of s home) (desk_of reached home) same;
              continues = λ n place x given there wakes has. same_continues (waiting s hand) (waiting reached hand) (desk_of s home) (desk_of reached home) same x given place.epoch;
              moved = λ n none. sym (more_moved (Some doc) (requests.Poke nav action) fine n) ∙ none;
            })
            tab
          where
            held_same : waiting reached hand ≡ waiting s hand
            held_same = ap (λ (l : List Made). l ++ hand) (accepted_held s event actor req (Some doc) (requests.Poke nav action))

            same : untold (waiting reached hand) (desk_of reached home) ≡ untold (waiting s hand) (desk_of s home)
            same =
                ap (λ (desk : Desk). untold (waiting reached hand) desk) own_then
                ∙ ap (λ (l : List Made). untold (l ++ hand) (desk_of s home)) (accepted_held s event actor req (Some doc) (requests.Poke nav action))

  -- ---- an order is taken up

  module _ (job : Job) (dirty : Bool) (free : (desk_of s home).in_hand ≡ None) (first : slice_get (desk_of s home).mail 0 ≡ Some job) where
    abbrev took_up : Seen
    took_up = next s event actor (rows.Taken home job.nr true dirty)

    own_taken : desk_of took_up home ≡ desk_taken true dirty (desk_of s home)
    own_taken = own_desk home s took_up (desk_taken true dirty) refl (λ desk. refl)

    same_orders : orders_of_desk (desk_taken true dirty (desk_of s home)) ≡ orders_of_desk (desk_of s home)
    same_orders = orders_taken (desk_of s home) job dirty free first

    pub taken_framed : IsFrameTab home run hand took_up
    taken_framed =
        leaves_tab home run run hand hand s took_up
        (record {
          documents = refl;
          places = refl;
          history = refl;
          states = refl;
          entries = refl;
          initial = refl;
          stay = all_same s.requests took_up.requests refl;
          tooks = same_tooks s took_up (λ r. refl);
          asked = record { each = tab.asked.each; only = tab.asked.only; runs = tab.asked.runs; kept = tab.asked.kept; died = died_on s took_up home (desk_taken true dirty) refl (λ desk. refl) refl refl tab.asked.died };
          desks = desks_on home s took_up (desk_taken true dirty) refl (λ desk. refl) (record { orders = subst (λ (l : List Job). Each (IsOrderTo s.documents s.places) l) (sym same_orders) tab.desks.own.orders; told = tab.desks.own.told; pokes = tab.desks.own.pokes }) tab.desks;
          makes = λ doc. ap (makes_at doc) own_taken ∙ ap (λ (l : List Job). makes_sent doc l + makes_told doc (desk_of s home).reports) same_orders;
          unmade = same_unmade (waiting s hand) (waiting took_up hand) (desk_of s home) (desk_of took_up home) same;
          waits = subst (λ (l : List Made). Each (IsMadeThere s.documents) l) (sym held_same) tab.waits;
          ascends = same_ascends (waiting s hand) (waiting took_up hand) (desk_of s home) (desk_of took_up home) same;
          continues = λ nav place doc given there wakes has. same_continues (waiting s hand) (waiting took_up hand) (desk_of s home) (desk_of took_up home) same doc given place.epoch;
          moved = λ nav none. none;
        })
        tab
      where
        held_same : waiting took_up hand ≡ waiting s hand
        held_same = refl

        same : untold (waiting took_up hand) (desk_of took_up home) ≡ untold (waiting s hand) (desk_of s home)
        same = ap (λ (desk : Desk). untold (waiting s hand) desk) own_taken

-- ---- a traversal begins, where none runs

no_load : (what : Request) → is_traversal what ≡ true → is_load what ≡ false
no_load (requests.Go delta) goes = refl
no_load (requests.Poke nav action) goes = refl
no_load (requests.Reload nav) goes = refl
no_load (requests.Load nav mode address) goes = cc

all_on : (asked : List Asked) (req : ReqId) (f : Asked → Asked) → ((q : Asked) → (f q).what ≡ q.what) → ((q : Asked) → q.is_started ≡ true → (f q).is_started ≡ true) → AllStayAsked asked (on_request req f asked)
all_on asked req f what begun r q at = by_number (r.0 == req.0) refl
  where
    by_number : (b : Bool) → (r.0 == req.0) ≡ b → StaysAsked (on_request req f asked) r q
    by_number true e =
        let n : r.0 ≡ req.0 = grind (arith, nat_tests, e) in
        let same : r ≡ req = ap (λ (i : ℕ). let x : ReqId = record { 0 = i } in x) n in
        record {
          new = f q;
          there = subst (λ (x : ReqId). request_in (on_request req f asked) x ≡ Some (f q)) (sym same) (on_itself asked req f ∙ ap (λ (o : Option Asked). option_map f o) (subst (λ (x : ReqId). request_in asked x ≡ Some q) same at));
          what = what q;
          begun = begun q;
        }
    by_number false e = record { new = q; there = on_else asked req f r e ∙ at; what = refl; begun = λ h. h }

all_then : (a b c : List Asked) → AllStayAsked a b → AllStayAsked b c → AllStayAsked a c
all_then a b c one two req q at =
    let x : StaysAsked b req q = one req q at in
    let y : StaysAsked c req x.new = two req x.new x.there in
    record { new = y.new; there = y.there; what = y.what ∙ x.what; begun = λ h. y.begun (x.begun h) }

module _ (home : ProcId) (hand : List Made) (s : Seen) (event : ℕ) (actor : Actor) (tab : IsFrameTab home None hand s) (req : ReqId) (q : Asked) (goal : Step) (there : request_in s.requests req ≡ Some q) (traverses : is_traversal q.what ≡ true) (open_ : q.ending ≡ None) where
  abbrev pub started_ : Seen
  started_ = next s event actor (rows.Started req (Some goal))

  abbrev begin : Asked → Asked
  begin x = record x { is_started = true; goal = Some goal }

  its : (P : Asked → Type 0) → P q → (x : Asked) → request_in s.requests req ≡ Some x → P x
  its P is x at = let both : Some q ≡ Some x = sym there ∙ at in (let same : q ≡ x = cc in subst P same is)

  stay : AllStayAsked s.requests started_.requests
  stay =
      all_then s.requests (on_request req begin s.requests) started_.requests
      (all_on s.requests req begin (λ x. refl) (λ x h. refl))
      (all_on (on_request req begin s.requests) req (request_begun s) (λ x. refl) (λ x h. h))

  pub started_framed : IsFrameTab home (Some req) hand started_
  started_framed =
      leaves_tab home None (Some req) hand hand s started_
      (record {
        documents = refl;
        places = refl;
        history = refl;
        states = ap (λ (b : Bool). if b then s.states + 1 else s.states) (ap (λ (o : Option Asked). holds (λ (x : Asked). is_load x.what) o) there ∙ no_load q.what traverses);
        entries = refl;
        initial = refl;
        stay = stay;
        tooks = same_tooks s started_ (reads_then (λ (x : Asked). x.took) s.requests (on_request req begin s.requests) started_.requests (on_read (λ (x : Asked). x.took) s.requests req begin (λ x. refl)) (on_read (λ (x : Asked). x.took) (on_request req begin s.requests) req (request_begun s) (λ x. refl)));
        asked =
            record {
              each = plain_begun s req goal (its (λ x. is_traversal x.what ≡ true) traverses) tab.asked.each;
              only = runs_begun s req (Some goal) (its (λ x. is_traversal x.what ≡ true) traverses) (its (λ x. x.ending ≡ None) open_) tab.asked.only;
              runs = λ r e. (let now : StaysAsked started_.requests req q = stay req q there in record { req = req; is = refl; q = now.new; there = now.there });
              kept = tab.asked.kept;
              died = tab.asked.died;
            };
        desks = desks_same home s started_ refl (same_made s.documents started_.documents refl) (same_placed s.places started_.places refl) tab.desks;
        makes = λ doc. refl;
        unmade = same_unmade (waiting s hand) (waiting started_ hand) (desk_of s home) (desk_of started_ home) same;
        waits = subst (λ (l : List Made). Each (IsMadeThere s.documents) l) (sym held_same) tab.waits;
        ascends = same_ascends (waiting s hand) (waiting started_ hand) (desk_of s home) (desk_of started_ home) same;
        continues = λ nav place doc given there_ wakes has. same_continues (waiting s hand) (waiting started_ hand) (desk_of s home) (desk_of started_ home) same doc given place.epoch;
        moved = λ nav none. none_moved s.requests nav tab.asked.only;
      })
      tab
    where
      held_same : waiting started_ hand ≡ waiting s hand
      held_same = ap (λ (l : List Made). l ++ hand) (started_held s event actor req (Some goal))

      same : untold (waiting started_ hand) (desk_of started_ home) ≡ untold (waiting s hand) (desk_of s home)
      same = ap (λ (l : List Made). untold (l ++ hand) (desk_of s home)) (started_held s event actor req (Some goal))
