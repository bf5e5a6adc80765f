-- The ongoing loads over each order: one may make a load's document, and a navigable may be shown a document of its entries.
use Rattle.std.proofs.Common.{◌≡◌, ℕ, ◌≤◌, Bool, true, false, cond, ◌||◌, ◌==◌, List, [], ◌∷◌, ◌++◌, Option, Some, None, refl, sym, ap, ◌∙◌, subst, inl, inr, ◌⊎◌, eqb-true, arith}
use Rattle.std.specs.Prelude.{option_map}
use Rattle.std.specs.Option.{option_map_or}
use Rattle.tab_ids.specs.declared.DocId.{DocId}
use Rattle.tab_ids.specs.declared.EntryId.{EntryId}
use Rattle.tab_ids.specs.declared.Epoch.{Epoch}
use Rattle.tab_ids.specs.declared.NavId.{NavId}
use Rattle.tab_ids.specs.declared.ReqId.{ReqId}
use Rattle.tab_ids.specs.declared.StateId.{StateId}
use Rattle.log_model.specs.declared.job.Job.{Job}
use Rattle.log_model.specs.declared.job.Task.{Task}
use Rattle.log_model.specs.declared.job.Task.TheVariants as tasks
use Rattle.log_model.specs.declared.row_kind.Actor.{Actor}
use Rattle.log_model.specs.declared.row_kind.RowKind.TheVariants as rows
use Rattle.log_model.specs.After.{after}
use Rattle.log_model.specs.AfterDocuments.{documents_sent, new_document}
use Rattle.log_model.specs.AfterPlaces.{activated, on_place, places_sent, put_to_sleep, sleepers_below}
use Rattle.log_model.specs.Equal.{has_doc}
use Rattle.log_model.specs.Once.{loads}
use Rattle.log_model.specs.Seen.{Seen, Document, Place, document_of, place_in, place_of}
use Rattle.seen_facts.specs.Home.Homes.{document_in}
use Rattle.seen_laws.proofs.Keyed.{find_map, find_has}
use Rattle.seen_facts.proofs.Request.Readers.{sent_reads}
use Rattle.seen_facts.specs.Load.Loading.{Look, look, look_of, is_ongoing, AreLoading, IsNeverShown}
use Rattle.seen_facts.proofs.Load.Leaves.{IsFree, IsNewDoc, WasAwakeOn, WasDoc, left_loading}
use Rattle.seen_facts.proofs.Load.Docs.{AreSame, KeepAwakes, MakesNone, ShowsNone, asleep_awakes, sent_awakes, sent_docs, was_doc}
use Rattle.seen_facts.proofs.Load.Rows.{KeepLooks, look_blind, quiet, read_looks}

least : (n : ℕ) → n ≤ n
least n = omega arith

module _ (s : Seen) (event : ℕ) (actor : Actor) (are : AreLoading s) where
  abbrev then_ : Job → Seen
  then_ job = after s (record { event = event; actor = actor; row = rows.Sent job })

  looks_stay : (job : Job) → KeepLooks s.requests (then_ job).requests
  looks_stay job = read_looks s.requests (then_ job).requests (sent_reads look look_blind s job job.task s.requests)

  -- an order that makes no document and shows none
  pub told_loading : (job : Job) → MakesNone job.task → ShowsNone job.task → AreLoading (then_ job)
  told_loading job makes shows =
      quiet s event actor are (then_ job) refl (least s.states) (looks_stay job) (sent_docs s job job.task makes) (sent_awakes s job job.task shows)

  -- ---- an order that makes a document

  -- of a new number, for the navigable of the ongoing load whose document state it is, or of a document state that no load has
  pub record IsMaking (job : Job) (nav : NavId) (state : StateId) : Type 0 where
    pub new : document_in s.documents job.doc ≡ None
    pub unshown : IsNeverShown s job.doc
    pub numbered : state.0 ≤ s.states
    pub whose : (req : ReqId) (l : Look) → look_of s req ≡ Some l → is_ongoing l ≡ true → l.state ≡ Some state → loads nav l.what ≡ true

  module _ (job : Job) (nav : NavId) (state : StateId) (address : List ℕ) (initial : Bool) (task : job.task ≡ tasks.Populate nav state address initial) (making : IsMaking job nav state) where
    places_are : (then_ job).places ≡ s.places
    places_are = ap (λ (k : Task). places_sent s job k) task

    documents_are : (then_ job).documents ≡ s.documents ++ new_document s job nav state ∷ []
    documents_are = ap (λ (k : Task). documents_sent s job k) task

    was_or_new : (documents : List Document) (new : Document) (doc : DocId) (d : Document) → document_in (documents ++ new ∷ []) doc ≡ Some d → (document_in documents doc ≡ Some d) ⊎ (new ≡ d)
    was_or_new [] new doc d e = by_test (new.nr.0 == doc.0) e
      where
        by_test : (b : Bool) → (let o : Option Document = cond b (Some new) None in o) ≡ Some d → (document_in [] doc ≡ Some d) ⊎ (new ≡ d)
        by_test true f = inr (let is : new ≡ d = cc in is)
        by_test false f = absurd cc
    was_or_new (x ∷ documents) new doc d e = by_test (x.nr.0 == doc.0) (was_or_new documents new doc d) e
      where
        by_test : (b : Bool) → (document_in (documents ++ new ∷ []) doc ≡ Some d → (document_in documents doc ≡ Some d) ⊎ (new ≡ d)) → cond b (Some x) (document_in (documents ++ new ∷ []) doc) ≡ Some d → ((let o : Option Document = cond b (Some x) (document_in documents doc) in o) ≡ Some d) ⊎ (new ≡ d)
        by_test true more f = inl f
        by_test false more f = more f

    documents_then : (doc : DocId) (d : Document) → document_in (then_ job).documents doc ≡ Some d → WasDoc s doc d ⊎ IsNewDoc (then_ job) doc d
    documents_then doc d found =
        by_which (was_or_new s.documents (new_document s job nav state) doc d (ap (λ (l : List Document). document_in l doc) (sym documents_are) ∙ found))
      where
        number : d.nr.0 ≡ doc.0
        number = find_has (λ (x : Document). x.nr.0) doc.0 (then_ job).documents d found

        made : new_document s job nav state ≡ d → IsNewDoc (then_ job) doc d
        made is =
            let its : job.doc.0 ≡ doc.0 = ap (λ (x : Document). x.nr.0) is ∙ number in
            let same : job.doc ≡ doc = ap (λ (n : ℕ). let x : DocId = record { 0 = n } in x) its in
            let state_is : d.state ≡ state = ap (λ (x : Document). x.state) (sym is) in
            let nav_is : d.nav ≡ nav = ap (λ (x : Document). x.nav) (sym is) in
            record {
              numbered = subst (λ (x : StateId). x.0 ≤ s.states) (sym state_is) making.numbered;
              whose = λ req l at on has. subst (λ (n : NavId). loads n l.what ≡ true) (sym nav_is) (making.whose req l (looks_stay job req l at on) on (has ∙ ap (λ (x : StateId). Some x) state_is));
              unshown = λ n place there. subst (λ (x : DocId). has_doc place.ever_awake x ≡ false) same (making.unshown n place (ap (λ (l : List Place). place_in l n) (sym places_are) ∙ there));
            }

        by_which : (document_in s.documents doc ≡ Some d) ⊎ (new_document s job nav state ≡ d) → WasDoc s doc d ⊎ IsNewDoc (then_ job) doc d
        by_which (inl was) = inl (record { before = d; found = was; nav = refl; state = refl })
        by_which (inr is) = inr (made is)

    pub making_loading : AreLoading (then_ job)
    making_loading =
        left_loading s (then_ job) (record {
          looks = looks_stay job;
          states = least s.states;
          rows_ = λ row has. inl (record { row = row; has = has; same = refl });
          documents = documents_then;
          awakes = λ n place doc d there on found. inl (record { place = place; found = ap (λ (l : List Place). place_in l n) (sym places_are) ∙ there; was = on });
        }) are

  -- ---- an order that shows a document

  -- of a document state that no ongoing load has
  module _ (job : Job) (d : Document) (entry : EntryId) (epoch : Epoch) (long at : ℕ) (memo : Option (List ℕ)) (address : List ℕ) (task : job.task ≡ tasks.Activate entry epoch long at memo address) (found : document_of s job.doc ≡ Some d) (free : IsFree s d.state) where
    abbrev slept : List Place
    slept = put_to_sleep (option_map_or (sleepers_below s job.doc) (place_of s d.nav) []) job.why s.places

    shown_places : (then_ job).places ≡ on_place d.nav (activated job entry epoch d) slept
    shown_places =
        ap (λ (k : Task). places_sent s job k) task
        ∙ ap (λ (o : Option Document). option_map_or (λ (x : Document). on_place x.nav (activated job entry epoch x) (put_to_sleep (option_map_or (sleepers_below s job.doc) (place_of s x.nav) []) job.why s.places)) o s.places) found

    shown_documents : AreSame s.documents (then_ job).documents
    shown_documents = sent_docs s job job.task (subst MakesNone (sym task) tt)

    abbrev g : Place → Place
    g p = cond (p.nav.0 == d.nav.0) (activated job entry epoch d p) p

    g_number : (p : Place) → (g p).nav.0 ≡ p.nav.0
    g_number p = elim (p.nav.0 == d.nav.0) as (λ b. (let q : Place = cond b (activated job entry epoch d p) p in q).nav.0 ≡ p.nav.0) [ true ↦ refl | false ↦ refl ]

    awakes_then : (nav : NavId) (place : Place) (doc : DocId) (x : Document) → place_of (then_ job) nav ≡ Some place → has_doc place.ever_awake doc ≡ true → document_in (then_ job).documents doc ≡ Some x → WasAwakeOn s nav doc ⊎ IsFree (then_ job) x.state
    awakes_then nav place doc x there on at = by_old (place_in slept nav) refl
      where
        mapped : place_of (then_ job) nav ≡ option_map g (place_in slept nav)
        mapped = ap (λ (l : List Place). place_in l nav) shown_places ∙ find_map (λ (p : Place). p.nav.0) g nav.0 slept g_number

        before : KeepAwakes s slept
        before = asleep_awakes s (option_map_or (sleepers_below s job.doc) (place_of s d.nav) []) job.why

        -- the document itself
        own : (job.doc.0 == doc.0) ≡ true → IsFree (then_ job) x.state
        own e req l look_at ongoing has =
            let number : job.doc.0 ≡ doc.0 = eqb-true job.doc.0 doc.0 e in
            let same : job.doc ≡ doc = ap (λ (n : ℕ). let y : DocId = record { 0 = n } in y) number in
            let was = was_doc s (then_ job).documents shown_documents doc x at in
            let both : Some d ≡ Some was.before = sym found ∙ ap (document_in s.documents) same ∙ was.found in
            let one : d ≡ was.before = cc in
            free req l (looks_stay job req l look_at ongoing) ongoing (has ∙ ap (λ (y : StateId). Some y) (sym (ap (λ (y : Document). y.state) one ∙ was.state)))

        by_doc : (p : Place) → place_in slept nav ≡ Some p → (c : Bool) → (job.doc.0 == doc.0) ≡ c → (c || has_doc p.ever_awake doc) ≡ true → WasAwakeOn s nav doc ⊎ IsFree (then_ job) x.state
        by_doc p e true f has = inr (own f)
        by_doc p e false f has = inl (before nav p doc e has)

        by_nav : (p : Place) → place_in slept nav ≡ Some p → (b : Bool) → (p.nav.0 == d.nav.0) ≡ b → g p ≡ place → WasAwakeOn s nav doc ⊎ IsFree (then_ job) x.state
        by_nav p e true f is =
            let value : activated job entry epoch d p ≡ place = sym (ap (λ (b : Bool). let q : Place = cond b (activated job entry epoch d p) p in q) f) ∙ is in
            by_doc p e (job.doc.0 == doc.0) refl (ap (λ (q : Place). has_doc q.ever_awake doc) value ∙ on)
        by_nav p e false f is =
            let value : p ≡ place = sym (ap (λ (b : Bool). let q : Place = cond b (activated job entry epoch d p) p in q) f) ∙ is in
            inl (before nav p doc e (ap (λ (q : Place). has_doc q.ever_awake doc) value ∙ on))

        by_old : (o : Option Place) → place_in slept nav ≡ o → WasAwakeOn s nav doc ⊎ IsFree (then_ job) x.state
        by_old None e = let no_ : None ≡ Some place = sym (mapped ∙ ap (λ (o : Option Place). option_map g o) e) ∙ there in absurd cc
        by_old (Some p) e =
            let both : Some (g p) ≡ Some place = sym (mapped ∙ ap (λ (o : Option Place). option_map g o) e) ∙ there in
            by_nav p e (p.nav.0 == d.nav.0) refl (let is : g p ≡ place = cc in is)

    pub shown_loading : AreLoading (then_ job)
    shown_loading =
        left_loading s (then_ job) (record {
          looks = looks_stay job;
          states = least s.states;
          rows_ = λ row has. inl (record { row = row; has = has; same = refl });
          documents = λ doc x at. inl (was_doc s (then_ job).documents shown_documents doc x at);
          awakes = awakes_then;
        }) are
