-- All that holds in a tab of frames holds after a document makes something of its first poke.
use Rattle.std.proofs.Common.{◌≡◌, ℕ, ◌+◌, Bool, true, false, cond, ◌&&◌, ◌==◌, List, [], ◌∷◌, ◌++◌, map, fold, Option, Some, refl, sym, ap, ◌∙◌, subst, arith, append-nil}
use Rattle.std.specs.Prelude.{filter, filter_map, option_map}
use Rattle.std.proofs.lemmas.Bool.{eqb-true}
use Rattle.std.proofs.lemmas.Bool.Decides.{nat_tests}
use Rattle.std.proofs.lemmas.List.Elements.{filter-append, filter_map-append}
use Rattle.tab_ids.specs.declared.DocId.{DocId}
use Rattle.tab_ids.specs.declared.EntryId.{EntryId}
use Rattle.tab_ids.specs.declared.Epoch.{Epoch}
use Rattle.tab_ids.specs.declared.NavId.{NavId}
use Rattle.tab_ids.specs.declared.ProcId.{ProcId}
use Rattle.tab_ids.specs.declared.ReqId.{ReqId}
use Rattle.log_model.specs.declared.made.Made.{Made}
use Rattle.log_model.specs.declared.made.Report.{Report}
use Rattle.log_model.specs.declared.made.Report.TheVariants as reports
use Rattle.log_model.specs.declared.made.What.{What}
use Rattle.log_model.specs.declared.made.What.TheVariants as whats
use Rattle.log_model.specs.declared.request.Poke.{Poke}
use Rattle.log_model.specs.declared.row_kind.Actor.TheVariants as actors
use Rattle.log_model.specs.declared.row_kind.RowKind.TheVariants as rows
use Rattle.log_model.specs.After.{follows_finished, on_desk, desk_made, reports_made}
use Rattle.log_model.specs.AfterRequests.{made_of_report, on_request}
use Rattle.log_model.specs.Equal.{has_req}
use Rattle.log_model.specs.Seen.{Seen, Document, Desk, Asked, Place, awake, desk_of, document_of, place_of}
use Rattle.log_model.specs.Views.{View, made_for, after_made}
use Rattle.seen_laws.specs.Acting.{IsToAct}
use Rattle.seen_facts.specs.Coord.Leading.{orders_of_desk, is_made_under, coming}
use Rattle.seen_facts.proofs.Coord.Held.{held_apart}
use Rattle.seen_facts.proofs.Coord.Unread.{next}
use Rattle.seen_facts.proofs.Rest.Again.{its_number}
use Rattle.seen_facts.specs.Each.Runs.{EachAsked, is_run, is_this}
use Rattle.seen_facts.specs.Each.Mades.{Ascend, Continues, IsNext, IsOver, number_after, entry_after}
use Rattle.seen_facts.specs.Each.Items.{Each}
use Rattle.seen_facts.proofs.Each.Courses.{runs_again}
use Rattle.seen_facts.proofs.Each.Eaches.{each_on, each_more, each_less, ascend_more, continues_more}
use Rattle.seen_facts.proofs.Each.Died.{died_on}
use Rattle.tab_facts.specs.FrameTab.Alive.{IsAlive}
use Rattle.tab_facts.specs.FrameTab.Asking.{ArePlainlyAsked}
use Rattle.tab_facts.specs.FrameTab.Desks.{makes_told, makes_sent, IsItsOwn, IsMadeNew, IsMadeThere, IsReportTo, IsPokeThere, waiting, untaken, Ascends}
use Rattle.tab_facts.specs.FrameTab.Whole.{IsFrameTab}
use Rattle.tab_facts.proofs.FrameTab.Goings.{AllStayAsked, all_read, asked_by_stays, begun_of}
use Rattle.tab_facts.proofs.FrameTab.Theres.{keeps_on}
use Rattle.tab_facts.proofs.FrameTab.Steadies.{steady_left}
use Rattle.tab_facts.proofs.FrameTab.Desking.{AllStayMade, same_placed, home_again, made_there_again, desks_on, own_desk}
use Rattle.tab_facts.proofs.FrameTab.Plainly.{plainness, plain_again, made_reads}
use Rattle.tab_facts.proofs.FrameTab.Running.{moved_same}
use Rattle.tab_facts.proofs.FrameTab.Going.{goes_tab, same_givens, same_tooks}
use Rattle.tab_facts.proofs.FrameTab.Leaving.{makes_at, untold, made_again, unmade_again, once_alike, ascends_again, same_shown, given_again}
use Rattle.tab_facts.proofs.FrameTab.Arrived.{mapped_made}

some_same : {A : Type 0} {a b : A} → (let o : Option A = Some a in o) ≡ Some b → a ≡ b
some_same e = cc

append_in : (xs ys zs : List Made) → (xs ++ ys) ++ zs ≡ xs ++ (ys ++ zs)
append_in [] ys zs = refl
append_in (x ∷ xs) ys zs = ap (λ (l : List Made). x ∷ l) (append_in xs ys zs)

-- the view once something new was made
record IsOnceMade (before : View) (what : What) (view : View) : Type 0 where
  doc : view.doc ≡ before.doc
  runs : view.running ≡ before.running
  numbered : view.numbered ≡ number_after before.numbered what

once_made : (view : View) (what : What) → IsMadeNew view what → IsOnceMade view what (after_made view what)
once_made view (whats.Push entry memo address) new = record { doc = refl; runs = refl; numbered = sym (ap (λ (e : EntryId). e.nr) new) }
once_made view (whats.Replace over entry memo address) new = record { doc = refl; runs = refl; numbered = sym (ap (λ (e : EntryId). e.nr) new.1) }
once_made view (whats.AddFrame nav) new = record { doc = refl; runs = refl; numbered = refl }
once_made view (whats.RemoveFrame nav) new = record { doc = refl; runs = refl; numbered = refl }
once_made view (whats.Go delta) new = record { doc = refl; runs = refl; numbered = refl }
once_made view whats.Edit never = absurd never

its_entry : (view : View) (what : What) → IsMadeNew view what → IsItsOwn view.doc what
its_entry view (whats.Push entry memo address) new = ap (λ (e : EntryId). e.maker) new
its_entry view (whats.Replace over entry memo address) new = ap (λ (e : EntryId). e.maker) new.1
its_entry view (whats.AddFrame nav) new = tt
its_entry view (whats.RemoveFrame nav) new = tt
its_entry view (whats.Go delta) new = tt
its_entry view whats.Edit never = never

its_next : (view : View) (what : What) → IsMadeNew view what → IsNext view.numbered what
its_next view (whats.Push entry memo address) new = (let n : entry.nr ≡ view.numbered + 1 = ap (λ (e : EntryId). e.nr) new in omega (arith, n))
its_next view (whats.Replace over entry memo address) new = (let n : entry.nr ≡ view.numbered + 1 = ap (λ (e : EntryId). e.nr) new.1 in omega (arith, n))
its_next view (whats.AddFrame nav) new = tt
its_next view (whats.RemoveFrame nav) new = tt
its_next view (whats.Go delta) new = tt
its_next view whats.Edit never = absurd never

its_over : (view : View) (what : What) → IsMadeNew view what → (entry : EntryId) → entry ≡ view.entry → IsOver entry what
its_over view (whats.Push new_ memo address) new entry same = tt
its_over view (whats.Replace over new_ memo address) new entry same = new.0 ∙ sym same
its_over view (whats.AddFrame nav) new entry same = tt
its_over view (whats.RemoveFrame nav) new entry same = tt
its_over view (whats.Go delta) new entry same = tt
its_over view whats.Edit never entry same = absurd never

joins : (view : View) (req : ReqId) (what : What) (waiting_ : List Report) → IsMadeNew view what → reports_made waiting_ (made_for view req what) what ≡ waiting_ ++ reports.Made (made_for view req what) ∷ []
joins view req (whats.Push entry memo address) waiting_ new = refl
joins view req (whats.Replace over entry memo address) waiting_ new = refl
joins view req (whats.AddFrame nav) waiting_ new = refl
joins view req (whats.RemoveFrame nav) waiting_ new = refl
joins view req (whats.Go delta) waiting_ new = refl
joins view req whats.Edit waiting_ never = absurd never

told_made : (doc : DocId) (waiting_ : List Report) (made : Made) → makes_told doc (waiting_ ++ reports.Made made ∷ []) ≡ makes_told doc waiting_
told_made doc [] made = refl
told_made doc (reports.Done j o m ∷ waiting_) made = (let more : makes_told doc (waiting_ ++ reports.Made made ∷ []) ≡ makes_told doc waiting_ = told_made doc waiting_ made in omega (arith, more))
told_made doc (reports.Made m ∷ waiting_) made = told_made doc waiting_ made
told_made doc (reports.Died death ∷ waiting_) made = told_made doc waiting_ made

-- what is coming of a document that a navigable is awake on leads to the entry that its view shows, where the view is under the navigable's epoch
abbrev pub IsFaced : ProcId → List Made → Seen → View → Type 0
IsFaced home hand s view =
    (nav : NavId) (place : Place) (given : EntryId) → place_of s nav ≡ Some place → place.status ≡ awake view.doc → place.given ≡ Some given → (view.epoch.0 == place.epoch.0) ≡ true → fold (λ (e : EntryId) (m : Made). entry_after e m.what) given (coming (waiting s hand) (desk_of s home) view.doc place.epoch) ≡ view.entry

module _ (home : ProcId) (run : Option ReqId) (hand : List Made) (s : Seen) (tab : IsFrameTab home run hand s) (poke : Poke) (q : Asked) (nav_ : NavId) (d : Document) (view : View) (what : What) (acts : IsToAct s home poke q nav_ d view) (new : IsMadeNew view what) (unparked : has_req s.parked poke.req ≡ false) (faced : IsFaced home hand s view) where
  abbrev pub made : Made
  made = made_for view poke.req what

  abbrev pub acted : Seen
  acted = next s s.events (actors.Proc home) (rows.Made home made)

  anew : follows_finished s (record { event = s.events; actor = actors.Proc home; row = rows.Made home made }) ≡ false
  anew = (let later : (s.events == (s.events + 1)) ≡ false = grind (arith, nat_tests) in rw later refl)

  desks_are : acted.desks ≡ on_desk home (desk_made made) s.desks
  desks_are = rw anew refl

  own_acted : desk_of acted home ≡ desk_made made (desk_of s home)
  own_acted = own_desk home s acted (desk_made made) desks_are (λ desk. refl)

  reports_are : (desk_made made (desk_of s home)).reports ≡ (desk_of s home).reports ++ reports.Made made ∷ []
  reports_are = joins view poke.req what (desk_of s home).reports new

  -- ---- the requests

  abbrev asked_then : List Asked
  asked_then = on_request poke.req (λ (x : Asked). record x { made = Some made }) s.requests

  stay : AllStayAsked s.requests acted.requests
  stay = all_read s.requests acted.requests (made_reads begun_of s.requests made (λ x. refl))

  only_then : EachAsked (λ r x. is_run x ≡ is_this run r) acted.requests
  only_then = runs_again run s.requests acted.requests (made_reads is_run s.requests made (λ x. refl)) tab.asked.only

  acted_asked : ArePlainlyAsked run acted
  acted_asked =
      record {
        each = plain_again s.requests acted.requests (made_reads plainness s.requests made (λ x. refl)) tab.asked.each;
        only = only_then;
        runs = λ r e. asked_by_stays s.requests acted.requests run stay (tab.asked.runs r e);
        kept = tab.asked.kept;
        died = died_on s acted home (desk_made made) desks_are (λ desk. refl) refl refl tab.asked.died;
      }

  waiting_same : waiting acted hand ≡ waiting s hand
  waiting_same = ap (λ (l : List Made). l ++ hand) (held_apart s.requests s.parked poke.req (λ x. record x { made = Some made }) unparked)

  more : untold (waiting acted hand) (desk_of acted home) ≡ untold (waiting s hand) (desk_of s home) ++ made ∷ []
  more =
      ap (λ (desk : Desk). untold (waiting acted hand) desk) own_acted
      ∙ ap (λ (l : List Report). waiting acted hand ++ filter_map made_of_report l) reports_are
      ∙ ap (λ (l : List Made). waiting acted hand ++ l) (filter_map-append made_of_report (desk_of s home).reports (reports.Made made ∷ []))
      ∙ ap (λ (l : List Made). l ++ (filter_map made_of_report (desk_of s home).reports ++ made ∷ [])) waiting_same
      ∙ sym (append_in (waiting s hand) (filter_map made_of_report (desk_of s home).reports) (made ∷ []))

  -- ---- the documents

  abbrev does : Document → Document
  does x = record x { view = option_map (λ (v : View). after_made v what) x.view }

  abbrev acts_on : Document → Document
  acts_on x = cond (x.nr.0 == view.doc.0) (does x) x

  by_nr : {B : Type 0} (read : Document → B) → ((x : Document) → read (does x) ≡ read x) → (x : Document) → read (acts_on x) ≡ read x
  by_nr read same x = elim (x.nr.0 == view.doc.0) as (λ b. read (let y : Document = cond b (does x) x in y) ≡ read x) [ true ↦ same x | false ↦ refl ]

  -- the view of the poked document once it was made
  its_view : (x : Document) → document_of s view.doc ≡ Some x → (v : View) → (does x).view ≡ Some v → after_made view what ≡ v
  its_view x found v has =
      let same : d ≡ x = some_same (sym acts.there ∙ found) in
      let now : option_map (λ (w : View). after_made w what) (Some view) ≡ Some v = ap (λ (o : Option View). option_map (λ (w : View). after_made w what) o) (sym acts.has ∙ ap (λ (y : Document). y.view) same) ∙ has in
      some_same now

  alive_acted : (x : Document) → document_of s view.doc ≡ Some x → IsAlive home x → IsAlive home (does x)
  alive_acted x found is =
      record {
        proc = is.proc;
        incarnation = is.incarnation;
        slot = is.slot;
        thawed = is.thawed;
        lives = is.lives;
        unknown = is.unknown;
        viewed = λ v has.
            let once : IsOnceMade view what v = subst (λ (w : View). IsOnceMade view what w) (its_view x found v has) (once_made view what new) in
            once.doc ∙ sym (its_number s view.doc x found);
        unmade = λ v has unready.
            let same : d ≡ x = some_same (sym acts.there ∙ found) in
            let stopped : view.running ≡ false = is.unmade view (ap (λ (y : Document). y.view) (sym same) ∙ acts.has) unready in
            let never : true ≡ false = sym acts.runs ∙ stopped in absurd cc;
      }

  -- the poked document is made
  is_made : (doc : DocId) (x : Document) → document_of s doc ≡ Some x → x.is_ready ≡ false → (view.doc.0 == x.nr.0) ≡ false
  is_made doc x found unready = by_test (view.doc.0 == x.nr.0) refl
    where
      by_test : (b : Bool) → (view.doc.0 == x.nr.0) ≡ b → (view.doc.0 == x.nr.0) ≡ false
      by_test false e = e
      by_test true e =
          let n : view.doc.0 ≡ x.nr.0 = eqb-true view.doc.0 x.nr.0 e in
          let nr : view.doc ≡ x.nr = ap (λ (n : ℕ). let y : DocId = record { 0 = n } in y) n in
          let at : document_of s view.doc ≡ Some x = ap (λ (y : DocId). document_of s y) (nr ∙ its_number s doc x found) ∙ found in
          let same : d ≡ x = some_same (sym acts.there ∙ at) in
          let stopped : view.running ≡ false = (tab.documents doc x found).alive.unmade view (ap (λ (y : Document). y.view) (sym same) ∙ acts.has) unready in
          let never : true ≡ false = sym acts.runs ∙ stopped in absurd cc

  made_on : AllStayMade s.documents (map acts_on s.documents)
  made_on = mapped_made s.documents acts_on (by_nr (λ x. x.nr) (λ x. refl)) (by_nr (λ x. x.nav) (λ x. refl)) (λ x ready. by_nr (λ y. y.is_ready) (λ y. refl) x ∙ ready)

  abbrev its : DocId → List Made → List Made
  its doc xs = filter (λ (m : Made). m.doc.0 == doc.0) xs

  its_more : (doc : DocId) → untaken (waiting acted hand) (desk_of acted home) doc ≡ untaken (waiting s hand) (desk_of s home) doc ++ its doc (made ∷ [])
  its_more doc = ap (its doc) more ∙ filter-append (λ (m : Made). m.doc.0 == doc.0) (untold (waiting s hand) (desk_of s home)) (made ∷ [])

  not_its : (doc : DocId) → (view.doc.0 == doc.0) ≡ false → untaken (waiting acted hand) (desk_of acted home) doc ≡ untaken (waiting s hand) (desk_of s home) doc
  not_its doc apart =
      its_more doc
      ∙ ap (λ (l : List Made). untaken (waiting s hand) (desk_of s home) doc ++ l) (let one : its doc (made ∷ []) ≡ [] = rw apart refl in one)
      ∙ append-nil (untaken (waiting s hand) (desk_of s home) doc)

  ascends_acted : (doc : DocId) (x : Document) → document_of s doc ≡ Some x → Ascends (waiting s hand) (desk_of s home) x → Ascends (waiting acted hand) (desk_of acted home) (acts_on x)
  ascends_acted doc x found is = by_test (x.nr.0 == view.doc.0) refl
    where
      by_test : (b : Bool) → (x.nr.0 == view.doc.0) ≡ b → Ascends (waiting acted hand) (desk_of acted home) (cond b (does x) x)
      by_test true e v has =
          let n : x.nr.0 ≡ view.doc.0 = eqb-true x.nr.0 view.doc.0 e in
          let nr : x.nr ≡ view.doc = ap (λ (n : ℕ). let y : DocId = record { 0 = n } in y) n in
          let at : document_of s view.doc ≡ Some x = ap (λ (y : DocId). document_of s y) (sym nr ∙ its_number s doc x found) ∙ found in
          let same : d ≡ x = some_same (sym acts.there ∙ at) in
          let once : IsOnceMade view what v = subst (λ (w : View). IsOnceMade view what w) (its_view x at v has) (once_made view what new) in
          let old : Ascend x.last_applied (untaken (waiting s hand) (desk_of s home) x.nr) view.numbered = is view (ap (λ (y : Document). y.view) (sym same) ∙ acts.has) in
          let here : (view.doc.0 == x.nr.0) ≡ true = grind (arith, nat_tests, e) in
          let one : its x.nr (made ∷ []) ≡ made ∷ [] = rw here refl in
          subst (λ (n : ℕ). Ascend x.last_applied (untaken (waiting acted hand) (desk_of acted home) x.nr) n) (sym once.numbered)
          (subst (λ (l : List Made). Ascend x.last_applied l (number_after view.numbered what)) (sym (its_more x.nr ∙ ap (λ (l : List Made). untaken (waiting s hand) (desk_of s home) x.nr ++ l) one))
          (ascend_more x.last_applied view.numbered (untaken (waiting s hand) (desk_of s home) x.nr) made old (its_next view what new)))
      by_test false e v has =
          let apart : (view.doc.0 == x.nr.0) ≡ false = grind (arith, nat_tests, e) in
          subst (λ (l : List Made). Ascend x.last_applied l v.numbered) (sym (not_its x.nr apart)) (is v has)

  -- ---- what is coming

  abbrev under : DocId → Epoch → List Made → List Made
  under doc epoch xs = filter (is_made_under doc epoch) xs

  coming_more : (doc : DocId) (epoch : Epoch) → coming (waiting acted hand) (desk_of acted home) doc epoch ≡ coming (waiting s hand) (desk_of s home) doc epoch ++ under doc epoch (made ∷ [])
  coming_more doc epoch = ap (under doc epoch) more ∙ filter-append (is_made_under doc epoch) (untold (waiting s hand) (desk_of s home)) (made ∷ [])

  and_both : (a b : Bool) → (a && b) ≡ true → (a ≡ true) × (b ≡ true)
  and_both true true e = (refl, refl)
  and_both true false e = absurd cc
  and_both false b e = absurd cc

  continues_acted : (nav : NavId) (place : Place) (doc : DocId) (given : EntryId) → place_of s nav ≡ Some place → place.status ≡ awake doc → place.given ≡ Some given → Continues given (coming (waiting s hand) (desk_of s home) doc place.epoch) → Continues given (coming (waiting acted hand) (desk_of acted home) doc place.epoch)
  continues_acted nav place doc given there wakes is_given is = by_test (is_made_under doc place.epoch made) refl
    where
      by_test : (b : Bool) → is_made_under doc place.epoch made ≡ b → Continues given (coming (waiting acted hand) (desk_of acted home) doc place.epoch)
      by_test true e =
          let both : ((view.doc.0 == doc.0) ≡ true) × ((view.epoch.0 == place.epoch.0) ≡ true) = and_both (view.doc.0 == doc.0) (view.epoch.0 == place.epoch.0) e in
          let n : view.doc.0 ≡ doc.0 = eqb-true view.doc.0 doc.0 both.0 in
          let nr : doc ≡ view.doc = ap (λ (n : ℕ). let y : DocId = record { 0 = n } in y) (sym n) in
          let face : fold (λ (e : EntryId) (m : Made). entry_after e m.what) given (coming (waiting s hand) (desk_of s home) doc place.epoch) ≡ view.entry = subst (λ (y : DocId). fold (λ (e : EntryId) (m : Made). entry_after e m.what) given (coming (waiting s hand) (desk_of s home) y place.epoch) ≡ view.entry) (sym nr) (faced nav place given there (wakes ∙ ap awake nr) is_given both.1) in
          let one : under doc place.epoch (made ∷ []) ≡ made ∷ [] = rw e refl in
          subst (λ (l : List Made). Continues given l) (sym (coming_more doc place.epoch ∙ ap (λ (l : List Made). coming (waiting s hand) (desk_of s home) doc place.epoch ++ l) one))
          (continues_more given (coming (waiting s hand) (desk_of s home) doc place.epoch) made is (its_over view what new _ face))
      by_test false e =
          let none : under doc place.epoch (made ∷ []) ≡ [] = rw e refl in
          subst (λ (l : List Made). Continues given l) (sym (coming_more doc place.epoch ∙ ap (λ (l : List Made). coming (waiting s hand) (desk_of s home) doc place.epoch ++ l) none ∙ append-nil (coming (waiting s hand) (desk_of s home) doc place.epoch))) is

  makes_same : (doc : DocId) → makes_at doc (desk_of acted home) ≡ makes_at doc (desk_of s home)
  makes_same doc =
      ap (makes_at doc) own_acted
      ∙ ap (λ (n : ℕ). makes_sent doc (orders_of_desk (desk_of s home)) + n) (ap (λ (l : List Report). makes_told doc l) reports_are ∙ told_made doc (desk_of s home).reports made)

  pub acted_framed : IsFrameTab home run hand acted
  acted_framed =
      goes_tab home run run hand hand s acted
      (record {
        g = acts_on;
        documents = refl;
        alive = keeps_on home s view.doc does (λ x. refl) (λ x. refl) (λ x found is. alive_acted x found is);
        numbers = record { state = by_nr (λ x. x.state) (λ x. refl); applied = by_nr (λ x. x.last_applied) (λ x. refl) };
        forms = refl;
        givens = same_givens s acted refl;
        tooks = same_tooks s acted (made_reads (λ (x : Asked). x.took) s.requests made (λ x. refl));
        history = refl;
        states = refl;
        entries = refl;
        initial = refl;
        asked = acted_asked;
        steady = steady_left s acted refl refl stay tab.steady;
        desks =
            desks_on home s acted (desk_made made) desks_are (λ desk. refl)
            (home_again s.documents (map acts_on s.documents) s.places s.places made_on (same_placed s.places s.places refl) (desk_made made (desk_of s home))
            (record {
              orders = tab.desks.own.orders;
              told = subst (λ (l : List Report). Each (IsReportTo s.documents s.places) l) (sym reports_are) (each_more (IsReportTo s.documents s.places) (desk_of s home).reports (reports.Made made) tab.desks.own.told (record { document = d; found = acts.there; own = its_entry view what new }));
              pokes = each_less (IsPokeThere s.documents) (desk_of s home).input tab.desks.own.pokes;
            }))
            tab.desks;
        made = made_again home s acted acts_on (by_nr (λ x. x.nr) (λ x. refl)) (λ doc x found is. once_alike (desk_of s home) (desk_of acted home) x (acts_on x) (by_nr (λ y. y.nr) (λ y. refl) x) (by_nr (λ y. y.is_ready) (λ y. refl) x) makes_same is) refl tab.made;
        unmade = unmade_again home s acted hand hand acts_on (by_nr (λ x. x.nr) (λ x. refl)) (λ doc x found is unready.
            let before : x.is_ready ≡ false = sym (by_nr (λ y. y.is_ready) (λ y. refl) x) ∙ unready in
            let i : (x.last_applied ≡ 0) × (untaken (waiting s hand) (desk_of s home) x.nr ≡ []) = is before in
            (by_nr (λ y. y.last_applied) (λ y. refl) x ∙ i.0, ap (λ (n : DocId). untaken (waiting acted hand) (desk_of acted home) n) (by_nr (λ y. y.nr) (λ y. refl) x) ∙ not_its x.nr (is_made doc x found before) ∙ i.1)) refl tab.unmade;
        waits =
            each_on (IsMadeThere s.documents) (IsMadeThere (map acts_on s.documents)) (waiting acted hand) (made_there_again s.documents (map acts_on s.documents) s.places s.places made_on (same_placed s.places s.places refl))
            (subst (λ (l : List Made). Each (IsMadeThere s.documents) l) (sym waiting_same) tab.waits);
        ascends = ascends_again home s acted hand hand acts_on (by_nr (λ x. x.nr) (λ x. refl)) ascends_acted refl tab.ascends;
        continues = λ nav place doc given there wakes has is. continues_acted nav place doc given there wakes is (tab.continues nav place doc given there wakes has is);
        given = given_again s acted (same_shown s acted refl) refl (λ nav none. sym (moved_same run s.requests acted.requests nav tab.asked.only only_then (made_reads (λ (x : Asked). x.moved) s.requests made (λ x. refl))) ∙ none) tab.given;
      })
      tab
