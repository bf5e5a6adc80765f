-- A traversal ends: what holds of each awake navigable's document stays, and what is on its way leads on.
use Rattle.std.proofs.Common.{◌≡◌, ℕ, List, [], ◌∷◌, Option, Some, refl, sym, ap, ◌∙◌}
use Rattle.std.specs.Prelude.{map}
use Rattle.tab_ids.specs.declared.EntryId.{EntryId}
use Rattle.tab_ids.specs.declared.Epoch.{Epoch}
use Rattle.tab_ids.specs.declared.NavId.{NavId}
use Rattle.tab_ids.specs.declared.ReqId.{ReqId}
use Rattle.tab_ids.specs.declared.Step.{Step}
use Rattle.log_model.specs.declared.change.Change.TheVariants as changes
use Rattle.log_model.specs.declared.row_kind.Actor.{Actor}
use Rattle.log_model.specs.declared.row_kind.RowKind.TheVariants as rows
use Rattle.log_model.specs.History.{applied}
use Rattle.log_model.specs.Seen.{Seen, Document, Desk, Place, place_of}
use Rattle.log_model.specs.After.{after}
use Rattle.log_model.specs.AfterRequests.{without_req}
use Rattle.seen_facts.specs.Coord.Leading.{held_back, EachAwake, EachLeads}
use Rattle.seen_facts.specs.Coord.Reaching.{EachReaches, Reaches}
use Rattle.seen_facts.proofs.Coord.Leadings.{WasAwake, LeadsIn, leads_again}
use Rattle.seen_facts.proofs.Coord.Kept.{unread_stays}
use Rattle.seen_facts.proofs.Coord.Given.{was_kept}

map_same : (documents : List Document) → map (λ (d : Document). d) documents ≡ documents
map_same [] = refl
map_same (d ∷ documents) = ap (λ (l : List Document). d ∷ l) (map_same documents)

module _ (s : Seen) (event : ℕ) (actor : Actor) (req : ReqId) (goal : Step) where
  abbrev pub after_traverse : Seen
  after_traverse =
      after s (record { event = event; actor = actor; row = rows.Applied req (changes.Traverse goal) })

  pub documents_as : after_traverse.documents ≡ s.documents
  documents_as = map_same s.documents

  pub stood : (nav : NavId) (place : Place) → place_of after_traverse nav ≡ Some place → WasAwake s nav place
  stood nav place placed =
      let was = was_kept s.history (applied s.history (changes.Traverse goal)) req s.places nav place placed in
      record { before = was.0; there = was.1; status = was.2; given = was.3; epoch = was.4 }

  pub traversed_stays : (F : Desk → Document → Option EntryId → Epoch → Type 0) → EachAwake F s → EachAwake F after_traverse
  traversed_stays F each =
      unread_stays F s after_traverse
      (record {
        documents = documents_as;
        places = stood;
        stays_on = λ d given epoch is. is;
      })
      each

  -- no report is held back then
  pub held_none : s.parked ≡ [] → held_back after_traverse.requests after_traverse.parked ≡ held_back s.requests s.parked
  held_none none =
      ap (λ (parked : List ReqId). held_back after_traverse.requests (without_req req parked)) none ∙ sym (ap (λ (parked : List ReqId). held_back s.requests parked) none)

  pub traversed_leads : s.parked ≡ [] → EachLeads s → EachLeads after_traverse
  traversed_leads none each =
      leads_again s after_traverse refl (held_none none) (traversed_stays (LeadsIn s) each)

  pub traversed_reach : EachReaches s → EachReaches after_traverse
  traversed_reach each = traversed_stays (λ desk d given epoch. Reaches desk d epoch) each
