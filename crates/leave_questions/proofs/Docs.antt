-- What a request that begins asks the document that a navigable is awake on.
use Rattle.leave_questions.specs.Questions.{HasSlots, question_to}
use Rattle.log_model.specs.Orders.{Question, is_leaving, leave_cause, question_for}
use Rattle.log_model.specs.Places.{awake_document}
use Rattle.log_model.specs.Seen.{Document, Place, Seen, Status, asleep, awake, document_of, lost, place_of}
use Rattle.log_model.specs.declared.request.Request.{Request}
use Rattle.seen_facts.proofs.Coord.Leadings.{doc_same}
use Rattle.seen_facts.proofs.Hang.Members.{find_has}
use Rattle.seen_facts.specs.Hang.Members.{Has}
use Rattle.seen_facts.specs.Home.Homes.{EachWake, IsAtHome, IsHomed}
use Rattle.seen_laws.specs.Unasked.{unasked, unhandled}
use Rattle.std.proofs.Common.{Bool, List, None, Option, Some, [], ap, false, filter_map, inl, inr, refl, sym, true, ℕ, ◌==◌, ◌∙◌, ◌∷◌, ◌≡◌}
use Rattle.std.specs.List.{cons_option}
use Rattle.std.specs.Prelude.{if◌then◌else◌, option_and_then, option_map}
use Rattle.tab_ids.specs.declared.DocId.{DocId}
use Rattle.tab_ids.specs.declared.NavId.{NavId}
use Rattle.tab_ids.specs.declared.ReqId.{ReqId}
use Rattle.tab_ids.specs.declared.Step.{Step}
use Rattle.unasked.proofs.Readings.{document_read}

-- ---- the document is there

-- it is made, and neither discarded nor known to be dead
pub record IsThere (s : Seen) (doc : DocId) : Type 0 where
  pub document : Document
  pub found : document_of s doc ≡ Some document
  pub nr : document.nr ≡ doc
  pub ready : document.is_ready ≡ true
  pub undiscarded : document.is_discarded ≡ false
  pub unknown : document.is_known_dead ≡ false

module _ (s : Seen) (checking : ReqId → Bool) (homed : EachWake (IsHomed (unasked checking s).documents) (unasked checking s)) where
  -- so is each that a navigable is awake on
  pub wakes_there : (nav : NavId) (place : Place) (doc : DocId) → place_of s nav ≡ Some place → place.status ≡ awake doc → IsThere s doc
  wakes_there nav place doc placed wakes = by_found (document_of s doc) refl (sym (document_read checking s doc) ∙ home.found)
    where
      home : IsAtHome (unasked checking s).documents place.nav doc
      home = (homed nav place doc placed wakes).home

      by_found : (o : Option Document) → document_of s doc ≡ o → option_map unhandled o ≡ Some home.document → IsThere s doc
      by_found None found is = absurd cc
      by_found (Some d) found is =
          let same : unhandled d ≡ home.document = cc in
          record {
            document = d;
            found = found;
            nr = doc_same d.nr doc (find_has (λ (x : Document). x.nr.0 == doc.0) s.documents d found).1;
            ready = ap (λ (x : Document). x.is_ready) same ∙ home.ready;
            undiscarded = ap (λ (x : Document). x.is_discarded) same ∙ home.undiscarded;
            unknown = ap (λ (x : Document). x.is_known_dead) same ∙ home.unknown;
          }

-- ---- its question

-- the navigable that presents a document is awake on it
pub wakes_on : (place : Place) (doc : DocId) → awake_document place ≡ Some doc → place.status ≡ awake doc
wakes_on place doc is = by_status place.status is
  where
    by_status : (status : Status) → awake_document (record place { status = status }) ≡ Some doc → status ≡ awake doc
    by_status (awake other) e = let same : other ≡ doc = cc in ap awake same
    by_status lost e = cc
    by_status asleep e = cc

module _ (s : Seen) (slots : List (DocId × ℕ)) (has : HasSlots s slots) (what : Request) (goal : Option Step) (place : Place) where
  abbrev asks : Document → Option Question
  asks d = if is_leaving s what goal place d then option_map (λ (slot : ℕ). (d.nr, slot, leave_cause what)) d.slot else None

  asks_doc : (doc : DocId) (its : IsThere s doc) → option_and_then (question_to slots (leave_cause what)) (if is_leaving s what goal place its.document then Some doc else None) ≡ asks its.document
  asks_doc doc its = by_leaving (is_leaving s what goal place its.document)
    where
      by_leaving : (b : Bool) → option_and_then (question_to slots (leave_cause what)) (if b then Some doc else None) ≡ (if b then option_map (λ (slot : ℕ). (its.document.nr, slot, leave_cause what)) its.document.slot else None)
      by_leaving true =
          ap (λ (o : Option ℕ). option_map (λ (slot : ℕ). (doc, slot, leave_cause what)) o) (has doc its.document its.found its.ready)
          ∙ ap (λ (nr : DocId). option_map (λ (slot : ℕ). (nr, slot, leave_cause what)) its.document.slot) (sym its.nr)
      by_leaving false = refl

  -- where this document is left, or none: it is asked what the log has it asked
  pub asks_left : (left : Option DocId) → ((doc : DocId) → awake_document place ≡ Some doc → IsThere s doc) → (awake_document place ≡ None → left ≡ None) → ((doc : DocId) (its : IsThere s doc) → awake_document place ≡ Some doc → left ≡ (if is_leaving s what goal place its.document then Some doc else None)) → option_and_then (question_to slots (leave_cause what)) left ≡ question_for s what goal place
  asks_left left there off on = by_awake (awake_document place) refl
    where
      asked : Option DocId → Option Question
      asked o = option_and_then asks (option_and_then (document_of s) o)

      by_awake : (o : Option DocId) → awake_document place ≡ o → option_and_then (question_to slots (leave_cause what)) left ≡ question_for s what goal place
      by_awake None e = ap (option_and_then (question_to slots (leave_cause what))) (off e) ∙ sym (ap asked e)
      by_awake (Some doc) e =
          let its = there doc e in
          ap (option_and_then (question_to slots (leave_cause what))) (on doc its e) ∙ asks_doc doc its ∙ sym (ap asked e ∙ ap (option_and_then asks) its.found)

-- ---- lists

-- what is read of some items, and of that again
pub read_twice : {A B C : Type 0} (q : B → Option C) (h : A → Option B) (g : A → Option C) (l : List A) → ((x : A) → Has l x → option_and_then q (h x) ≡ g x) → filter_map q (filter_map h l) ≡ filter_map g l
read_twice q h g [] same = refl
read_twice {B = B} q h g (x ∷ l) same = by_first (h x) (same x (inl refl)) (read_twice q h g l (λ y there. same y (inr there)))
  where
    by_first : (o : Option B) → option_and_then q o ≡ g x → filter_map q (filter_map h l) ≡ filter_map g l → filter_map q (cons_option o (filter_map h l)) ≡ cons_option (g x) (filter_map g l)
    by_first None e more = rw (sym e) more
    by_first (Some y) e more = rw (sym e) (ap (cons_option (q y)) more)
