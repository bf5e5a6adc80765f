-- Who has passed the unload check still does, where the same was asked and answered, and each document that was gone is.
use Rattle.seen_facts.proofs.Home.Again.{AllStayIn}
use Rattle.seen_facts.specs.Home.Homes.{document_in}
use Rattle.log_model.specs.AfterDocuments.{on_document}
use Rattle.log_model.specs.Equal.{holds}
use Rattle.log_model.specs.Places.{has_passed, is_gone, is_settled_asking, may_leave}
use Rattle.log_model.specs.Seen.{Asked, Asking, Document, Seen}
use Rattle.seen_facts.proofs.Request.Readers.{IsBlind}
use Rattle.seen_laws.proofs.Keyed.{find_map}
use Rattle.std.proofs.Common.{Bool, List, None, Option, Some, [], ap, cond, false, not, refl, true, ◌==◌, ◌||◌, ◌∙◌, ◌∷◌, ◌≡◌}
use Rattle.std.proofs.lemmas.Bool.{and_from, and_parts}
use Rattle.std.specs.List.{list_all}
use Rattle.std.specs.Prelude.{is_none, option_map}
use Rattle.tab_ids.specs.declared.DocId.{DocId}
use Rattle.seen_facts.proofs.Walk.Aims.{is_away}

-- a document that was gone is gone
abbrev pub StayGone : List Document → List Document → Type 0
StayGone old new =
    (doc : DocId) → holds is_away (document_in old doc) ≡ true → holds is_away (document_in new doc) ≡ true

-- so it is where each document stays where it was
pub stay_gone : (old new : List Document) → AllStayIn old new → StayGone old new
stay_gone old new stay doc is = by_found (document_in old doc) refl is
  where
    by_found : (o : Option Document) → document_in old doc ≡ o → holds is_away o ≡ true → holds is_away (document_in new doc) ≡ true
    by_found None at is = absurd cc
    by_found (Some d) at is =
        let it = stay doc d at in rw it.found (rw (it.keeps.discarded, it.keeps.known) is)

-- and where one is discarded
pub discard_gone : (doc : DocId) (documents : List Document) → StayGone documents (on_document doc (λ d. record d { is_discarded = true }) documents)
discard_gone doc documents other is =
    ap (holds is_away) (find_map (λ (d : Document). d.nr.0) (λ (d : Document). cond (d.nr.0 == doc.0) (record d { is_discarded = true }) d) other.0 documents number) ∙ by_found (document_in documents other) is
  where
    number : (d : Document) → (let x : Document = cond (d.nr.0 == doc.0) (record d { is_discarded = true }) d in x).nr.0 ≡ d.nr.0
    number d = by_test (d.nr.0 == doc.0)
      where
        by_test : (b : Bool) → (let x : Document = cond b (record d { is_discarded = true }) d in x).nr.0 ≡ d.nr.0
        by_test true = refl
        by_test false = refl

    by_found : (o : Option Document) → holds is_away o ≡ true → holds is_away (option_map (λ (d : Document). cond (d.nr.0 == doc.0) (record d { is_discarded = true }) d) o) ≡ true
    by_found None is = is
    by_found (Some d) is = by_test (d.nr.0 == doc.0)
      where
        by_test : (b : Bool) → is_away (cond b (record d { is_discarded = true }) d) ≡ true
        by_test true = refl
        by_test false = is

-- whether the user was asked, and the answer
pub record Answer : Type 0 where
  pub prompted : Option DocId
  pub answered : Option Bool

-- these, of a request
abbrev pub answer_of : Asked → Answer
answer_of q = record { prompted = q.prompted; answered = q.answered }

-- no order changes them
pub answer_blind : IsBlind answer_of
answer_blind =
    record {
      moves = λ q activated moved. refl;
      asks = λ q asks. refl;
      fragments = λ q doc. refl;
      misses = λ q is. refl;
    }

-- a request passes still where the same was asked and answered, and who was gone is
pub passes_still : (s t : Seen) → StayGone s.documents t.documents → (q r : Asked) → r.asks ≡ q.asks → answer_of r ≡ answer_of q → has_passed s q ≡ true → has_passed t r ≡ true
passes_still s t gone q r asks answer is =
    let parts = and_parts (list_all (is_settled_asking (is_gone s)) q.asks) (may_leave q) is in
    and_from (list_all (is_settled_asking (is_gone t)) r.asks) (may_leave r)
    (ap (list_all (is_settled_asking (is_gone t))) asks ∙ all_more q.asks parts.0)
    (ap (λ (a : Answer). is_none a.prompted || holds not a.answered) answer ∙ parts.1)
  where
    settled : (asking : Asking) → is_settled_asking (is_gone s) asking ≡ true → is_settled_asking (is_gone t) asking ≡ true
    settled asking is = by_test asking.is_delivered is
      where
        by_test : (b : Bool) → (b || is_gone s asking.doc) ≡ true → (b || is_gone t asking.doc) ≡ true
        by_test true is = refl
        by_test false is = gone asking.doc is

    all_more : (asks : List Asking) → list_all (is_settled_asking (is_gone s)) asks ≡ true → list_all (is_settled_asking (is_gone t)) asks ≡ true
    all_more [] is = refl
    all_more (asking ∷ asks) is =
        let parts = and_parts (is_settled_asking (is_gone s) asking) (list_all (is_settled_asking (is_gone s)) asks) is in
        and_from (is_settled_asking (is_gone t) asking) (list_all (is_settled_asking (is_gone t)) asks) (settled asking parts.0) (all_more asks parts.1)
