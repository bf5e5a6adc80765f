-- What a row has to leave of documents, requests, navigables and processes, so that what lasts is true again after it.
use Rattle.seen_facts.proofs.Doc.Leaves.{KeepsDoc, keeps_if}
use Rattle.seen_facts.specs.Each.Runs.{EachAsked}
use Rattle.tab_facts.proofs.Frame.Naming.{LeavesNames}
use Rattle.tab_facts.proofs.Frame.Orders.{found_last}
use Rattle.tab_facts.proofs.Frame.Parts.{TakersWere, each_read, names_map, names_more, pokes_map, pokes_more, takers_same, was_in}
use Rattle.tab_facts.specs.Frame.Lasting.{AreTakenBare, IsMadeShown, IsRunShown, NameTheirStates, PokesItsNav, Wish, wish}
use Rattle.tab_facts.specs.Frame.Moving.{AreMoves}
use Rattle.tab_facts.specs.FrameTab.Alive.{EachThere}
use Rattle.seen_facts.specs.Home.Homes.{document_in}
use Rattle.tab_facts.specs.Last.Lasting.{AreLasting}
use Rattle.log_model.specs.History.{has_row}
use Rattle.log_model.specs.Seen.{Asked, Desk, Document, Seen, desk_of}
use Rattle.seen_facts.proofs.Request.Readers.{SameReads}
use Rattle.std.proofs.Common.{Bool, List, None, Some, [], ap, cond, false, inl, inr, map, subst, sym, true, ◌++◌, ◌==◌, ◌∙◌, ◌∷◌, ◌≡◌, ◌⊎◌}
use Rattle.tab_ids.specs.declared.DocId.{DocId}
use Rattle.tab_ids.specs.declared.ProcId.{ProcId}
use Rattle.tab_ids.specs.declared.ReqId.{ReqId}

-- ---- documents

-- those then run as they may, and are of the navigables and document states that they were of
pub record StayDocs (old new : List Document) : Type 0 where
  pub shown : EachThere IsRunShown old → EachThere IsRunShown new
  pub poked : (w : Wish) → PokesItsNav old w → PokesItsNav new w
  pub names : (desk : Desk) → NameTheirStates old desk → NameTheirStates new desk

pub docs_same : (old new : List Document) → new ≡ old → StayDocs old new
docs_same old new same =
    subst (StayDocs old) (sym same) (record { shown = λ are. are; poked = λ w pokes. pokes; names = λ desk are. are })

pub docs_then : (a b c : List Document) → StayDocs a b → StayDocs b c → StayDocs a c
docs_then a b c one two =
    record {
      shown = λ are. two.shown (one.shown are);
      poked = λ w pokes. two.poked w (one.poked w pokes);
      names = λ desk are. two.names desk (one.names desk are);
    }

-- a change that leaves a document running as it may
abbrev pub LeavesRuns : (Document → Document) → Type 0
LeavesRuns g = (d : Document) → IsRunShown d → IsRunShown (g d)

-- all change
pub docs_map : (documents : List Document) (g : Document → Document) → KeepsDoc g → LeavesRuns g → StayDocs documents (map g documents)
docs_map documents g keeps runs =
    record {
      shown = λ are doc d found.
          (let w = was_in documents g doc d keeps.nr found in
          subst IsRunShown w.new (runs w.old (are doc w.old w.there)));
      poked = λ w pokes. pokes_map documents g w keeps.nr keeps.nav pokes;
      names = λ desk are. names_map documents g desk keeps.nr keeps.state are;
    }

-- some do
pub docs_if : (documents : List Document) (test : Document → Bool) (f : Document → Document) → KeepsDoc f → LeavesRuns f → StayDocs documents (map (λ (d : Document). cond (test d) (f d) d) documents)
docs_if documents test f keeps runs =
    docs_map documents (λ (d : Document). cond (test d) (f d) d) (keeps_if test f keeps) (λ d is. by_test d (test d) is)
  where
    by_test : (d : Document) (b : Bool) → IsRunShown d → IsRunShown (let x : Document = cond b (f d) d in x)
    by_test d true is = runs d is
    by_test d false is = is

-- there is one more, that shows nothing yet
pub docs_more : (documents : List Document) (new : Document) → new.view ≡ None → StayDocs documents (documents ++ new ∷ [])
docs_more documents new bare =
    record {
      shown = λ are doc d found. by_case are doc d (found_last (λ (x : Document). x.nr.0 == doc.0) documents new d found);
      poked = λ w pokes. pokes_more documents (new ∷ []) w pokes;
      names = λ desk are. names_more documents (new ∷ []) desk are;
    }
  where
    by_case : EachThere IsRunShown documents → (doc : DocId) (d : Document) → (document_in documents doc ≡ Some d) ⊎ (new ≡ d) → IsRunShown d
    by_case are doc d (inl old) = are doc d old
    by_case are doc d (inr own) =
        subst IsRunShown own (λ view has runs. (let never : None ≡ Some view = sym bare ∙ has in absurd cc))

-- ---- all of it

pub record Leaves (s t : Seen) : Type 0 where
  pub docs : StayDocs s.documents t.documents
  pub made : EachAsked (λ (req : ReqId) (q : Asked). IsMadeShown (wish q)) t.requests
  -- of the documents before
  pub poked : EachAsked (λ (req : ReqId) (q : Asked). PokesItsNav s.documents (wish q)) t.requests
  pub taken : AreTakenBare t
  pub names : (proc : ProcId) → NameTheirStates t.documents (desk_of s proc) → NameTheirStates t.documents (desk_of t proc)
  pub moves : AreMoves t

pub left_lasting : (s t : Seen) → Leaves s t → AreLasting s → AreLasting t
left_lasting s t leaves is =
    record {
      shown = leaves.docs.shown is.shown;
      made = leaves.made;
      poked = λ req q at. leaves.docs.poked (wish q) (leaves.poked req q at);
      taken = leaves.taken;
      populates = λ proc. leaves.names proc (leaves.docs.names (desk_of s proc) (is.populates proc));
      moves = leaves.moves;
    }

-- what requests ask, and what was made of them, is as it was
pub again : (s t : Seen) → StayDocs s.documents t.documents → SameReads wish s.requests t.requests → AreTakenBare t → ((proc : ProcId) → NameTheirStates t.documents (desk_of s proc) → NameTheirStates t.documents (desk_of t proc)) → AreMoves t → AreLasting s → AreLasting t
again s t docs wishes taken names moves is =
    left_lasting s t (record {
      docs = docs;
      made = each_read wish IsMadeShown s.requests t.requests wishes is.made;
      poked = each_read wish (PokesItsNav s.documents) s.requests t.requests wishes is.poked;
      taken = taken;
      names = names;
      moves = moves;
    }) is

-- where the rows are as they were, and nobody's last ones were taken now
pub taken_again : (s t : Seen) → TakersWere s.places t.places → t.history.rows ≡ s.history.rows → AreTakenBare s → AreTakenBare t
taken_again s t were rows_ bare nav place req found taken =
    let w = were nav place req found taken in ap (has_row nav) rows_ ∙ bare nav w.before req w.there w.taken

-- neither documents, navigables nor rows change
pub quietly : (s t : Seen) → t.documents ≡ s.documents → t.places ≡ s.places → t.history.rows ≡ s.history.rows → SameReads wish s.requests t.requests → LeavesNames s t → AreMoves t → AreLasting s → AreLasting t
quietly s t documents places rows_ wishes names moves is =
    again s t (docs_same s.documents t.documents documents) wishes (taken_again s t (takers_same s.places t.places places) rows_ is.taken) (names t.documents) moves is
