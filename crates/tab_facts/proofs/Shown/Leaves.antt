-- What a row has to leave, and that all of it then is true again.
use Rattle.std.proofs.Common.{◌≡◌, ◌⊎◌, inl, inr, true, false, List, Option, Some, refl, sym, ap, ◌∙◌}
use Rattle.std.specs.Prelude.{option_map}
use Rattle.tab_ids.specs.declared.DocId.{DocId}
use Rattle.tab_ids.specs.declared.ReqId.{ReqId}
use Rattle.log_model.specs.Equal.{has_doc}
use Rattle.log_model.specs.Seen.{Asked, Document, Seen}
use Rattle.seen_facts.specs.Home.Homes.{document_in}
use Rattle.seen_facts.proofs.Entry.Parts.{document_then}
use Rattle.seen_facts.proofs.Doc.Leaves.{KeepPlaces}
use Rattle.tab_facts.specs.FrameWhole.Beside.{EachIsViewed}
use Rattle.seen_facts.specs.Load.Loading.{Look, is_ongoing, look_in}
use Rattle.seen_facts.proofs.Load.Docs.{AreSame, was_doc}
use Rattle.seen_facts.proofs.Load.Rows.{KeepLooks}
use Rattle.tab_facts.specs.Shown.Shown.{AreShown, AwakeWereShown, EverShownAreThere, HasDocument, LoadsArePlaced, StatesAreOfOne}
use Rattle.tab_facts.proofs.Shown.Places.{AllWereAlike, IsBlank, WasAlike}

-- documents stay there
abbrev pub KeepDocuments : Seen → Seen → Type 0
KeepDocuments s t = (doc : DocId) → HasDocument s doc → HasDocument t doc

-- an ongoing load of before, that asks the same
pub record WasLook (asked : List Asked) (req : ReqId) (l : Look) : Type 0 where
  pub before : Look
  pub at : look_in asked req ≡ Some before
  pub ongoing : is_ongoing before ≡ true
  pub what : before.what ≡ l.what

-- each ongoing load was one
abbrev pub KeepLoads : List Asked → List Asked → Type 0
KeepLoads asked next = (req : ReqId) (l : Look) → look_in next req ≡ Some l → is_ongoing l ≡ true → WasLook asked req l

pub looks_loads : (asked next : List Asked) → KeepLooks asked next → KeepLoads asked next
looks_loads asked next looks req l at on = record { before = l; at = looks req l at on; ongoing = on; what = refl }

-- ---- each of them again

pub same_there : (s t : Seen) → AreSame s.documents t.documents → KeepDocuments s t
same_there s t same doc has =
    record {
      document = same.g has.document;
      found = ap (λ (l : List Document). document_in l doc) same.are ∙ document_then s.documents same.g same.keeps.nr doc ∙ ap (λ (o : Option Document). option_map same.g o) has.found;
    }

pub there_again : (s t : Seen) → KeepDocuments s t → AllWereAlike s.places t.places → EverShownAreThere s → EverShownAreThere t
there_again s t documents alike are nav place doc there has = by_place (alike nav place there)
  where
    by_place : WasAlike s.places nav place ⊎ IsBlank place → HasDocument t doc
    by_place (inl was) =
        documents doc (are nav was.before doc was.there (ap (λ (l : List DocId). has_doc l doc) (sym was.ever) ∙ has))
    by_place (inr blank) =
        let never : false ≡ true = ap (λ (l : List DocId). has_doc l doc) (sym blank.ever) ∙ has in absurd cc

pub ever_again : (s t : Seen) → AllWereAlike s.places t.places → AwakeWereShown s → AwakeWereShown t
ever_again s t alike are nav place doc there wakes = by_place (alike nav place there)
  where
    by_place : WasAlike s.places nav place ⊎ IsBlank place → has_doc place.ever_awake doc ≡ true
    by_place (inl was) = ap (λ (l : List DocId). has_doc l doc) was.ever ∙ are nav was.before doc was.there (was.wakes doc wakes)
    by_place (inr blank) = absurd (blank.sleeps doc wakes)

pub of_one_again : (s t : Seen) → AreSame s.documents t.documents → StatesAreOfOne s → StatesAreOfOne t
of_one_again s t same are doc other d e found there is =
    let w = was_doc s t.documents same doc d found in
    let v = was_doc s t.documents same other e there in
    sym w.nav ∙ are doc other w.before v.before w.found v.found (w.state ∙ is ∙ sym v.state) ∙ v.nav

pub placed_again : (s t : Seen) → KeepPlaces s.places t.places → KeepLoads s.requests t.requests → LoadsArePlaced s → LoadsArePlaced t
placed_again s t places loads are req l nav mode address at on what =
    let w = loads req l at on in
    places nav (are req w.before nav mode address w.at w.ongoing (w.what ∙ what))

-- ---- a row

pub record Leaves (s t : Seen) : Type 0 where
  pub documents : AreSame s.documents t.documents
  pub alike : AllWereAlike s.places t.places
  pub places : KeepPlaces s.places t.places
  pub loads : KeepLoads s.requests t.requests
  pub viewed : EachIsViewed t

pub left_shown : (s t : Seen) → Leaves s t → AreShown s → AreShown t
left_shown s t leaves are =
    record {
      there = there_again s t (same_there s t leaves.documents) leaves.alike are.there;
      ever = ever_again s t leaves.alike are.ever;
      of_one = of_one_again s t leaves.documents are.of_one;
      placed = placed_again s t leaves.places leaves.loads are.placed;
      viewed = leaves.viewed;
    }
