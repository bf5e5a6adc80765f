-- A table that has what is known of each document has the slot of each that is made.
use Rattle.leave_questions.specs.Questions.{HasSlots}
use Rattle.log_model.specs.Seen.{Document, Seen}
use Rattle.slot_facts.specs.Slots.{KnowsSlots, slot_known}
use Rattle.std.proofs.Common.{List, Some, ap, refl, true, ℕ, ◌∙◌, ◌≡◌}
use Rattle.tab_ids.specs.declared.DocId.{DocId}

pub has_slots : (s : Seen) (slots : List (DocId × ℕ)) → KnowsSlots s.documents slots → HasSlots s slots
has_slots s slots known doc d found ready = known doc ∙ ap slot_known found ∙ made d ready
  where
    made : (d : Document) → d.is_ready ≡ true → slot_known (Some d) ≡ d.slot
    made d ready = rw ready refl
