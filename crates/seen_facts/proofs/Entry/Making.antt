-- What is known of entries, over an order that makes a document: it has the next number, and made nothing.
use Rattle.std.proofs.Common.{◌≡◌, ◌⊎◌, inl, inr, ℕ, ◌+◌, Bool, true, false, cond, ◌==◌, List, [], ◌∷◌, ◌++◌, length, Option, Some, None, refl, sym, ap, ◌∙◌, subst, arith}
use Rattle.std.proofs.lemmas.List.{length-append}
use Rattle.tab_ids.specs.declared.DocId.{DocId}
use Rattle.tab_ids.specs.declared.NavId.{NavId}
use Rattle.tab_ids.specs.declared.StateId.{StateId}
use Rattle.log_model.specs.declared.job.Job.{Job}
use Rattle.log_model.specs.declared.job.Task.{Task}
use Rattle.log_model.specs.declared.job.Task.TheVariants as tasks
use Rattle.log_model.specs.declared.made.Made.{Made}
use Rattle.log_model.specs.declared.row_kind.Actor.{Actor}
use Rattle.log_model.specs.AfterDocuments.{documents_sent, new_document}
use Rattle.log_model.specs.AfterPlaces.{places_sent}
use Rattle.log_model.specs.Seen.{Seen, Document, Place, document_of}
use Rattle.seen_facts.specs.Home.Homes.{document_in}
use Rattle.seen_facts.specs.Entry.Entries.{AreEntries}
use Rattle.seen_facts.proofs.Entry.Orders.{asked, same, sent, told}
use Rattle.seen_facts.proofs.Entry.Parts.{GivenBefore, entries_stay, given_same, had_same, home_same, lists_same, same_shown, view_stays, waits_same}
use Rattle.seen_facts.proofs.Entry.Stays.{DocsGo, IsNewDoc, WasDoc, left_entries, some_same}

-- a document more, in the end
found_more : (documents : List Document) (new : Document) (doc : DocId) (d : Document) → document_in documents doc ≡ Some d → document_in (documents ++ new ∷ []) doc ≡ Some d
found_more [] new doc d e = absurd cc
found_more (x ∷ documents) new doc d e = by_test (x.nr.0 == doc.0) (found_more documents new doc d) e
  where
    by_test : (b : Bool) → (document_in documents doc ≡ Some d → document_in (documents ++ new ∷ []) doc ≡ Some d) → cond b (Some x) (document_in documents doc) ≡ Some d → cond b (Some x) (document_in (documents ++ new ∷ []) doc) ≡ Some d
    by_test true rest h = h
    by_test false rest h = rest h

found_or : (documents : List Document) (new : Document) (doc : DocId) (d : Document) → document_in (documents ++ new ∷ []) doc ≡ Some d → (document_in documents doc ≡ Some d) ⊎ (new ≡ d)
found_or [] new doc d e = inr (only (new.nr.0 == doc.0) e)
  where
    only : (b : Bool) → (let o : Option Document = cond b (Some new) None in o) ≡ Some d → new ≡ d
    only true h = some_same h
    only false h = absurd cc
found_or (x ∷ documents) new doc d e = by_test (x.nr.0 == doc.0) (found_or documents new doc d) e
  where
    by_test : (b : Bool) → (document_in (documents ++ new ∷ []) doc ≡ Some d → (document_in documents doc ≡ Some d) ⊎ (new ≡ d)) → cond b (Some x) (document_in (documents ++ new ∷ []) doc) ≡ Some d → (cond b (Some x) (document_in documents doc) ≡ Some d) ⊎ (new ≡ d)
    by_test true rest h = inl h
    by_test false rest h = rest h

module _ (hand : List Made) (s : Seen) (event : ℕ) (actor : Actor) (are : AreEntries hand s) (job : Job) (nav : NavId) (state : StateId) (address : List ℕ) (initial : Bool) (task : job.task ≡ tasks.Populate nav state address initial) (next_ : job.doc.0 ≡ length s.documents + 1) where
  abbrev pub making : Seen
  making = sent hand s event actor are job

  abbrev new : Document
  new = new_document s job nav state

  documents_are : making.documents ≡ s.documents ++ new ∷ []
  documents_are = ap (λ (k : Task). documents_sent s job k) task

  places_are : making.places ≡ s.places
  places_are = ap (λ (k : Task). places_sent s job k) task

  long : length making.documents ≡ length s.documents + 1
  long = ap (λ (l : List Document). length l) documents_are ∙ length-append s.documents (new ∷ [])

  is_new : (d : Document) → new ≡ d → IsNewDoc s making d
  is_new d is =
      record {
        nr = ap (λ (x : Document). x.nr.0) (sym is) ∙ next_;
        applied = ap (λ (x : Document). x.last_applied) (sym is);
        view = ap (λ (x : Document). x.view) (sym is);
        longer = (let many : length making.documents ≡ length s.documents + 1 = long in omega (arith, many));
      }

  docs : DocsGo s making
  docs =
      record {
        were = λ doc d found. by_case doc d (found_or s.documents new doc d (subst (λ (l : List Document). document_in l doc ≡ Some d) documents_are found));
        stay = λ doc d found. record { new = d; found = subst (λ (l : List Document). document_in l doc ≡ Some d) (sym documents_are) (found_more s.documents new doc d found); proc = refl };
        longer = (let many : length making.documents ≡ length s.documents + 1 = long in omega (arith, many));
      }
    where
      by_case : (doc : DocId) (d : Document) → (document_of s doc ≡ Some d) ⊎ (new ≡ d) → WasDoc s doc d ⊎ IsNewDoc s making d
      by_case doc d (inl old) = inl (record { before = d; found = old; nr = refl; proc = refl; ready = λ e. e })
      by_case doc d (inr is) = inr (is_new d is)

  as_before : (doc : DocId) (d before : Document) → document_of making doc ≡ Some d → document_of s doc ≡ Some before → before ≡ d
  as_before doc d before found there =
      some_same (sym (found_more s.documents new doc before there) ∙ subst (λ (l : List Document). document_in l doc ≡ Some d) documents_are found)

  pub making_entries : AreEntries hand making
  making_entries =
      left_entries hand hand s making
      (record {
        docs = docs;
        applied = λ doc d before found there. ap (λ (x : Document). x.last_applied) (sym (as_before doc d before found there));
        views = λ doc d before found there view has. view_stays before view (ap (λ (x : Document). x.view) (as_before doc d before found there) ∙ has);
        lists = lists_same hand s making (same hand s event actor are job);
        waits = waits_same hand s making (same hand s event actor are job) are;
        home = home_same hand s making (told hand s event actor are job) are;
        shown = λ n place doc there wakes. inl (same_shown s making places_are n place doc there wakes);
        had = had_same s making refl;
        numbers = omega arith;
        entries = entries_stay s making (record { history = refl; numbers = refl; given = subst (λ (l : List Place). GivenBefore s.places l) (sym places_are) (given_same s.places); asked = asked hand s event actor are job });
      })
      are
