-- What is true of documents stays as an order is sent that makes one, with a new number, for a document state of which there is none; and it is true of the first document as a tab opens.
use Rattle.std.proofs.Common.{◌≡◌, ◌⊎◌, inl, inr, ℕ, Bool, true, false, cond, ◌==◌, List, [], ◌∷◌, ◌++◌, Option, Some, None, refl, sym, ap, ◌∙◌, subst, arith, eqb-true}
use Rattle.std.specs.Prelude.{slice_get}
use Rattle.tab_ids.specs.declared.DocId.{DocId}
use Rattle.tab_ids.specs.declared.EntryId.{EntryId}
use Rattle.tab_ids.specs.declared.NavId.{NavId}
use Rattle.tab_ids.specs.declared.ProcId.{ProcId}
use Rattle.tab_ids.specs.declared.StateId.{StateId}
use Rattle.tab_ids.specs.declared.Death.{Death}
use Rattle.log_model.specs.declared.job.Job.{Job}
use Rattle.log_model.specs.declared.job.Task.{Task}
use Rattle.log_model.specs.declared.job.Task.TheVariants as tasks
use Rattle.log_model.specs.declared.made.Report.{Report}
use Rattle.log_model.specs.declared.made.Report.TheVariants as reports
use Rattle.log_model.specs.declared.row_kind.Actor.{Actor}
use Rattle.log_model.specs.declared.row_kind.RowKind.TheVariants as rows
use Rattle.log_model.specs.After.{after}
use Rattle.log_model.specs.AfterDocuments.{documents_sent, new_document, opening_document}
use Rattle.log_model.specs.AfterPlaces.{opening_place, places_sent}
use Rattle.log_model.specs.Seen.{Desk, Document, Place, Seen, desk_of, document_of, empty_desk, nothing, place_of}
use Rattle.log_model.proofs.Refl.{nat_eq_refl}
use Rattle.seen_facts.specs.Coord.Leading.{orders_of_desk}
use Rattle.seen_facts.proofs.Coord.OneDocument.{mailed}
use Rattle.seen_facts.specs.Desk.Own.{AreDesksIn, IsOrderIn, IsReportIn, LivesIn}
use Rattle.seen_facts.specs.Each.Items.{Each, NoneDied}
use Rattle.seen_facts.proofs.Entry.Parts.{each_desk}
use Rattle.seen_facts.proofs.Entry.Stays.{its_number}
use Rattle.seen_facts.specs.Home.Homes.{document_in}
use Rattle.seen_facts.specs.Doc.Docs.{AreDocs, AreSole, AreThawed, HasPlace, IsDoc, IsLive, makes_at, makes_by, makes_it, makes_sent, makes_told}
use Rattle.seen_facts.proofs.Doc.Makes.{mailed_makes}

some_same : {A : Type 0} {a b : A} → (let o : Option A = Some a in o) ≡ Some b → a ≡ b
some_same e = cc

-- ---- a number of which there is no document

module _ (s : Seen) (desks : AreDesksIn s) (doc : DocId) (new : document_of s doc ≡ None) (proc : ProcId) where
  not_there : (x : DocId) → LivesIn s.documents proc x → (x.0 == doc.0) ≡ false
  not_there x lives = by_test (x.0 == doc.0) refl
    where
      by_test : (b : Bool) → (x.0 == doc.0) ≡ b → (x.0 == doc.0) ≡ false
      by_test false e = e
      by_test true e =
          let same : x ≡ doc = ap (λ (n : ℕ). let y : DocId = record { 0 = n } in y) (eqb-true x.0 doc.0 e) in
          let never : None ≡ Some lives.d = sym new ∙ (ap (λ (y : DocId). document_of s y) (sym same) ∙ lives.found) in absurd cc

  none_it : (job : Job) → IsOrderIn s.documents s.places proc job → makes_it doc job ≡ 0
  none_it job is = ap (λ (b : Bool). makes_by b job.task) (not_there job.doc is.lives)

  none_sent : (jobs : List Job) → Each (IsOrderIn s.documents s.places proc) jobs → makes_sent doc jobs ≡ 0
  none_sent [] all = refl
  none_sent (job ∷ jobs) all =
      (let one : makes_it doc job ≡ 0 = none_it job all.0 in let more : makes_sent doc jobs ≡ 0 = none_sent jobs all.1 in omega (arith, one, more))

  none_told : (waiting : List Report) → Each (IsReportIn s.documents s.places proc) waiting → makes_told doc waiting ≡ 0
  none_told [] all = refl
  none_told (reports.Done job outcome made ∷ waiting) all =
      (let one : makes_it doc job ≡ 0 = none_it job all.0.0 in let more : makes_told doc waiting ≡ 0 = none_told waiting all.1 in omega (arith, one, more))
  none_told (reports.Made made ∷ waiting) all = none_told waiting all.1
  none_told (reports.Died death ∷ waiting) all = none_told waiting all.1

  -- no process has an order that makes it
  none_at : makes_at doc (desk_of s proc) ≡ 0
  none_at =
      let one : makes_sent doc (orders_of_desk (desk_of s proc)) ≡ 0 = none_sent (orders_of_desk (desk_of s proc)) (desks proc).orders in
      let two : makes_told doc (desk_of s proc).reports ≡ 0 = none_told (desk_of s proc).reports (desks proc).told in
      omega (arith, one, two)

-- ---- the order

module _ (s : Seen) (event : ℕ) (actor : Actor) (are : AreDocs s) (desks : AreDesksIn s) (died : NoneDied s) (job : Job) (nav : NavId) (state : StateId) (address : List ℕ) (initial : Bool) (task : job.task ≡ tasks.Populate nav state address initial) (new : document_of s job.doc ≡ None) (placed : HasPlace s.places nav) (incarnation : job.incarnation ≡ 0) (alone : (doc : DocId) (d : Document) → document_of s doc ≡ Some d → d.state ≡ state → d.is_discarded ≡ true) where
  abbrev pub making : Seen
  making = after s (record { event = event; actor = actor; row = rows.Sent job })

  abbrev made : Document
  made = new_document s job nav state

  documents_are : making.documents ≡ s.documents ++ made ∷ []
  documents_are = ap (λ (t : Task). documents_sent s job t) task

  places_are : making.places ≡ s.places
  places_are = ap (λ (t : Task). places_sent s job t) task

  -- a document is one of before, or the new one
  either_in : (documents : List Document) (doc : DocId) (d : Document) → document_in (documents ++ made ∷ []) doc ≡ Some d → (document_in documents doc ≡ Some d) ⊎ (made ≡ d)
  either_in [] doc d e = by_test (job.doc.0 == doc.0) e
    where
      by_test : (b : Bool) → (let o : Option Document = cond b (Some made) None in o) ≡ Some d → (document_in [] doc ≡ Some d) ⊎ (made ≡ d)
      by_test true h = inr (some_same h)
      by_test false h = absurd cc
  either_in (x ∷ documents) doc d e = by_test (x.nr.0 == doc.0) refl e (either_in documents doc d)
    where
      by_test : (b : Bool) → (x.nr.0 == doc.0) ≡ b → (let o : Option Document = cond b (Some x) (document_in (documents ++ made ∷ []) doc) in o) ≡ Some d → (document_in (documents ++ made ∷ []) doc ≡ Some d → (document_in documents doc ≡ Some d) ⊎ (made ≡ d)) → (document_in (x ∷ documents) doc ≡ Some d) ⊎ (made ≡ d)
      by_test true h is more = inl (ap (λ (b : Bool). let o : Option Document = cond b (Some x) (document_in documents doc) in o) h ∙ is)
      by_test false h is more = by_case (more is)
        where
          by_case : (document_in documents doc ≡ Some d) ⊎ (made ≡ d) → (document_in (x ∷ documents) doc ≡ Some d) ⊎ (made ≡ d)
          by_case (inl old) = inl (ap (λ (b : Bool). let o : Option Document = cond b (Some x) (document_in documents doc) in o) h ∙ old)
          by_case (inr is_) = inr is_

  either : (doc : DocId) (d : Document) → document_of making doc ≡ Some d → (document_of s doc ≡ Some d) ⊎ (made ≡ d)
  either doc d found = either_in s.documents doc d (subst (λ (l : List Document). document_in l doc ≡ Some d) documents_are found)

  -- of one of before there is as much to be made
  old_makes : (n : DocId) → (job.doc.0 == n.0) ≡ false → (p : ProcId) → makes_at n (desk_of making p) ≡ makes_at n (desk_of s p)
  old_makes n apart p =
      each_desk s making job.proc (mailed job) (λ other desk. makes_at n desk ≡ makes_at n (desk_of s other)) refl (λ desk. refl)
      (mailed_makes n job (desk_of s job.proc) ∙ (let zero : makes_it n job ≡ 0 = ap (λ (b : Bool). makes_by b job.task) apart in omega (arith, zero)))
      (λ other h. refl) p

  new_makes : makes_at job.doc (desk_of making job.proc) ≡ 1
  new_makes =
      each_desk s making job.proc (mailed job) (λ other desk. (job.proc.0 == other.0) ≡ true → makes_at job.doc desk ≡ 1) refl (λ desk. refl)
      (λ own. mailed_makes job.doc job (desk_of s job.proc) ∙ (let zero : makes_at job.doc (desk_of s job.proc) ≡ 0 = none_at s desks job.doc new job.proc in let one : makes_it job.doc job ≡ 1 = rw (nat_eq_refl job.doc.0, task) refl in omega (arith, zero, one)))
      (λ other apart own. (let never : true ≡ false = sym own ∙ apart in absurd cc)) job.proc (nat_eq_refl job.proc.0)

  old_apart : (doc : DocId) (d : Document) → document_of s doc ≡ Some d → (job.doc.0 == d.nr.0) ≡ false
  old_apart doc d found = by_test (job.doc.0 == d.nr.0) refl
    where
      by_test : (b : Bool) → (job.doc.0 == d.nr.0) ≡ b → (job.doc.0 == d.nr.0) ≡ false
      by_test false e = e
      by_test true e =
          let number : d.nr.0 ≡ doc.0 = its_number s.documents doc d found in
          let same : job.doc ≡ doc = ap (λ (n : ℕ). let y : DocId = record { 0 = n } in y) (eqb-true job.doc.0 d.nr.0 e ∙ number) in
          let never : None ≡ Some d = sym new ∙ (ap (λ (y : DocId). document_of s y) same ∙ found) in absurd cc

  made_live : IsLive made
  made_live =
      record {
        incarnation = incarnation;
        slot = refl;
        lives = ap (λ (l : List Death). slice_get l job.incarnation) (died job.proc).1;
        unknown = refl;
        viewed = λ view never. absurd cc;
        unmade = λ view never unready. absurd cc;
        made = λ never. absurd cc;
      }

  has_place : (n : NavId) → HasPlace s.places n → HasPlace making.places n
  has_place n has = subst (λ (l : List Place). HasPlace l n) (sym places_are) has

  each : (doc : DocId) (d : Document) → document_of making doc ≡ Some d → IsDoc making d
  each doc d found = by_case (either doc d found)
    where
      by_case : (document_of s doc ≡ Some d) ⊎ (made ≡ d) → IsDoc making d
      by_case (inl old) =
          let is : IsDoc s d = are.each doc d old in
          record { live = is.live; placed = has_place d.nav is.placed; once = old_makes d.nr (old_apart doc d old) d.proc ∙ is.once }
      by_case (inr same) =
          subst (λ (x : Document). IsDoc making x) same (record { live = made_live; placed = has_place nav placed; once = new_makes })

  thawed : AreThawed making
  thawed n place doc d there wakes found = by_case (either doc d found)
    where
      by_case : (document_of s doc ≡ Some d) ⊎ (made ≡ d) → d.is_frozen ≡ false
      by_case (inl old) = are.thawed n place doc d (subst (λ (l : List Place). place_of (record s { places = l }) n ≡ Some place) places_are there) wakes old
      by_case (inr same) = ap (λ (x : Document). x.is_frozen) (sym same)

  sole : AreSole making
  sole doc other d e found there same kept still = by_case (either doc d found) (either other e there)
    where
      by_case : (document_of s doc ≡ Some d) ⊎ (made ≡ d) → (document_of s other ≡ Some e) ⊎ (made ≡ e) → d.nr ≡ e.nr
      by_case (inl one) (inl two) = are.sole doc other d e one two same kept still
      by_case (inl one) (inr two) =
          let gone : d.is_discarded ≡ true = alone doc d one (same ∙ ap (λ (x : Document). x.state) (sym two)) in
          let never : true ≡ false = sym gone ∙ kept in absurd cc
      by_case (inr one) (inl two) =
          let gone : e.is_discarded ≡ true = alone other e two (sym same ∙ ap (λ (x : Document). x.state) (sym one)) in
          let never : true ≡ false = sym gone ∙ still in absurd cc
      by_case (inr one) (inr two) = ap (λ (x : Document). x.nr) (sym one) ∙ ap (λ (x : Document). x.nr) two

  pub making_docs : AreDocs making
  making_docs = record { each = each; thawed = thawed; sole = sole }

-- ---- a tab opens, without a handler

module _ (event : ℕ) (actor : Actor) (entry : EntryId) (state : StateId) (doc : DocId) (proc : ProcId) (address : List ℕ) where
  abbrev pub opened : Seen
  opened = after nothing (record { event = event; actor = actor; row = rows.Opened entry state doc proc None address })

  abbrev first : Document
  first = opening_document entry state doc proc None address

  is_first : (n : DocId) (d : Document) → document_of opened n ≡ Some d → first ≡ d
  is_first n d found = by_test (doc.0 == n.0) found
    where
      by_test : (b : Bool) → (let o : Option Document = cond b (Some first) None in o) ≡ Some d → first ≡ d
      by_test true e = some_same e
      by_test false e = absurd cc

  no_makes : makes_at doc (desk_of opened proc) ≡ 0
  no_makes = by_test (proc.0 == proc.0)
    where
      by_test : (b : Bool) → makes_at doc (let d : Desk = cond b (empty_desk proc) (empty_desk proc) in d) ≡ 0
      by_test true = refl
      by_test false = refl

  pub opened_docs : AreDocs opened
  opened_docs =
      record {
        each = λ n d found. subst (λ (x : Document). IsDoc opened x) (is_first n d found) first_is;
        thawed = λ nav place n d there wakes found. ap (λ (x : Document). x.is_frozen) (sym (is_first n d found));
        sole = λ n m d e found there same kept still. ap (λ (x : Document). x.nr) (sym (is_first n d found)) ∙ ap (λ (x : Document). x.nr) (is_first m e there);
      }
    where
      first_is : IsDoc opened first
      first_is =
          record {
            live = record { incarnation = refl; slot = refl; lives = refl; unknown = refl; viewed = λ view has. ap (λ (v : _). v.doc) (sym (some_same has)); unmade = λ view has never. absurd cc; made = λ never. absurd cc };
            placed = record { place = opening_place entry doc; found = refl };
            once = no_makes;
          }
