-- The slots are those of the log as it is opened.
use Rattle.log_model.specs.After.{after}
use Rattle.log_model.specs.AfterDocuments.{opening_document}
use Rattle.log_model.specs.Seen.{Desk, Document, Seen, desk_in, empty_desk}
use Rattle.log_model.specs.declared.row_kind.Actor.{Actor}
use Rattle.log_model.specs.declared.row_kind.RowKind.TheVariants as rows
use Rattle.seen_facts.specs.Each.Items.{Each}
use Rattle.seen_facts.specs.Home.Homes.{document_in}
use Rattle.slot_facts.specs.Slots.{AreSlots, TellsSlot, slot_in, slot_known}
use Rattle.std.proofs.Common.{Bool, List, None, Option, Some, [], arith, cond, false, refl, true, ℕ, ◌==◌, ◌∙◌, ◌∷◌, ◌≡◌}
use Rattle.std.proofs.lemmas.Bool.Decides.{nat_tests}
use Rattle.std.specs.Prelude.{option_map, option_to_list}
use Rattle.tab_ids.specs.declared.DocId.{DocId}
use Rattle.tab_ids.specs.declared.EntryId.{EntryId}
use Rattle.tab_ids.specs.declared.ProcId.{ProcId}
use Rattle.tab_ids.specs.declared.StateId.{StateId}

either_way : (a b : ℕ) → (a == b) ≡ (b == a)
either_way a b = by_test (b == a) refl
  where
    by_test : (t : Bool) → (b == a) ≡ t → (a == b) ≡ t
    by_test true e = grind (arith, nat_tests, e)
    by_test false e = grind (arith, nat_tests, e)

module _ (s : Seen) (event : ℕ) (actor : Actor) (entry : EntryId) (state : StateId) (doc : DocId) (proc : ProcId) (slot : Option ℕ) (address : List ℕ) where
  abbrev opened : Seen
  opened = after s (record { event = event; actor = actor; row = rows.Opened entry state doc proc slot address })

  -- the table at first: the slot of the first document, if it has a handler
  abbrev pub first_slots : List (DocId × ℕ)
  first_slots = option_to_list (option_map (λ (x : ℕ). (doc, x)) slot)

  first_known : (other : DocId) → slot_in first_slots other ≡ slot_known (document_in opened.documents other)
  first_known other = by_doc (doc.0 == other.0) refl slot
    where
      by_doc : (b : Bool) → (doc.0 == other.0) ≡ b → (o : Option ℕ) → slot_in (option_to_list (option_map (λ (x : ℕ). (doc, x)) o)) other ≡ slot_known (let one : Option Document = cond b (Some (opening_document entry state doc proc o address)) None in one)
      by_doc true at (Some x) = rw (either_way other.0 doc.0 ∙ at) refl
      by_doc false apart (Some x) = rw (either_way other.0 doc.0 ∙ apart) refl
      by_doc true at None = refl
      by_doc false apart None = refl

  none_waits : (p : ProcId) → Each (TellsSlot opened.documents) (desk_in (empty_desk proc ∷ []) p).reports
  none_waits p = by_proc ((empty_desk proc).proc.0 == p.0)
    where
      by_proc : (b : Bool) → Each (TellsSlot opened.documents) (let d : Desk = cond b (empty_desk proc) (empty_desk p) in d).reports
      by_proc true = tt
      by_proc false = tt

  pub opened_slots : AreSlots opened first_slots
  opened_slots = record { known = first_known; told = none_waits }
