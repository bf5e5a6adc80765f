-- What is known of documents, and told of them, stays as documents change but for their handlers.
use Rattle.log_model.specs.AfterDocuments.{on_document}
use Rattle.log_model.specs.Seen.{Document}
use Rattle.log_model.specs.declared.job.Job.{Job}
use Rattle.log_model.specs.declared.made.Report.TheVariants as reports
use Rattle.log_model.specs.declared.made.Report.{Report}
use Rattle.log_model.specs.declared.outcome.Outcome.TheVariants as outcomes
use Rattle.seen_facts.proofs.Each.Eaches.{each_on}
use Rattle.seen_facts.specs.Each.Items.{Each}
use Rattle.seen_facts.specs.Home.Homes.{document_in}
use Rattle.seen_laws.proofs.Keyed.{find_map}
use Rattle.slot_facts.specs.Slots.{HasSlot, KnowsSlots, TellsSlot, slot_known}
use Rattle.std.proofs.Common.{Bool, List, None, Option, Some, [], ap, cond, false, map, refl, true, ℕ, ◌++◌, ◌==◌, ◌∙◌, ◌∷◌, ◌≡◌}
use Rattle.std.specs.Prelude.{option_map}
use Rattle.tab_ids.specs.declared.DocId.{DocId}

-- ---- documents

-- what is known of each is the same, and each that was there has the handler that it had
pub record SlotsStay (old new : List Document) : Type 0 where
  pub known : (doc : DocId) → slot_known (document_in new doc) ≡ slot_known (document_in old doc)
  pub has : (job : Job) (slot : Option ℕ) → HasSlot old job slot → HasSlot new job slot

pub slots_same : (documents : List Document) → SlotsStay documents documents
slots_same documents = record { known = λ doc. refl; has = λ job slot is. is }

-- with a change that leaves a document's number and handler, each has the handler that it had
pub has_mapped : (f : Document → Document) (documents : List Document) → ((d : Document) → (f d).nr ≡ d.nr) → ((d : Document) → (f d).slot ≡ d.slot) → (job : Job) (slot : Option ℕ) → HasSlot documents job slot → HasSlot (map f documents) job slot
has_mapped f documents nr same job slot is =
    record {
      makes = is.makes;
      d = f is.d;
      found = find_map (λ (x : Document). x.nr.0) f job.doc.0 documents (λ x. ap (λ (n : DocId). n.0) (nr x)) ∙ ap (λ (o : Option Document). option_map f o) is.found;
      is = same is.d ∙ is.is;
    }

-- a change that leaves a document's number and handler, and whether it is made
pub record KeepsSlot (f : Document → Document) : Type 0 where
  pub nr : (d : Document) → (f d).nr ≡ d.nr
  pub slot : (d : Document) → (f d).slot ≡ d.slot
  pub ready : (d : Document) → (f d).is_ready ≡ d.is_ready

pub slots_mapped : (f : Document → Document) (documents : List Document) → KeepsSlot f → SlotsStay documents (map f documents)
slots_mapped f documents keeps =
    record {
      known = λ doc. ap slot_known (later doc) ∙ same (document_in documents doc);
      has = has_mapped f documents keeps.nr keeps.slot;
    }
  where
    later : (doc : DocId) → document_in (map f documents) doc ≡ option_map f (document_in documents doc)
    later doc = find_map (λ (x : Document). x.nr.0) f doc.0 documents (λ x. ap (λ (n : DocId). n.0) (keeps.nr x))

    same : (o : Option Document) → slot_known (option_map f o) ≡ slot_known o
    same None = refl
    same (Some d) = rw (keeps.ready d, keeps.slot d) refl

pub keeps_if : (test : Document → Bool) (f : Document → Document) → KeepsSlot f → KeepsSlot (λ (d : Document). cond (test d) (f d) d)
keeps_if test f keeps =
    record {
      nr = λ d. elim (test d) as (λ b. (let x : Document = cond b (f d) d in x).nr ≡ d.nr) [ true ↦ keeps.nr d | false ↦ refl ];
      slot = λ d. elim (test d) as (λ b. (let x : Document = cond b (f d) d in x).slot ≡ d.slot) [ true ↦ keeps.slot d | false ↦ refl ];
      ready = λ d. elim (test d) as (λ b. (let x : Document = cond b (f d) d in x).is_ready ≡ d.is_ready) [ true ↦ keeps.ready d | false ↦ refl ];
    }

pub slots_on : (doc : DocId) (f : Document → Document) (documents : List Document) → KeepsSlot f → SlotsStay documents (on_document doc f documents)
slots_on doc f documents keeps = slots_mapped (λ (d : Document). cond (d.nr.0 == doc.0) (f d) d) documents (keeps_if (λ (d : Document). d.nr.0 == doc.0) f keeps)

-- one that isn't made yet joins them
pub slots_more : (documents : List Document) (new : Document) → new.is_ready ≡ false → SlotsStay documents (documents ++ new ∷ [])
slots_more documents new unready =
    record {
      known = λ doc. last doc documents;
      has = λ job slot is. record { makes = is.makes; d = is.d; found = there job.doc is.d documents is.found; is = is.is };
    }
  where
    own : (b : Bool) → slot_known (let o : Option Document = cond b (Some new) None in o) ≡ None
    own true = rw unready refl
    own false = refl

    last : (doc : DocId) (l : List Document) → slot_known (document_in (l ++ new ∷ []) doc) ≡ slot_known (document_in l doc)
    last doc [] = own (new.nr.0 == doc.0)
    last doc (x ∷ l) = by_first (x.nr.0 == doc.0) (last doc l)
      where
        by_first : (b : Bool) → slot_known (document_in (l ++ new ∷ []) doc) ≡ slot_known (document_in l doc) → slot_known (cond b (Some x) (document_in (l ++ new ∷ []) doc)) ≡ slot_known (cond b (Some x) (document_in l doc))
        by_first true rest = refl
        by_first false rest = rest

    there : (doc : DocId) (d : Document) (l : List Document) → document_in l doc ≡ Some d → document_in (l ++ new ∷ []) doc ≡ Some d
    there doc d [] e = cc
    there doc d (x ∷ l) e = by_first (x.nr.0 == doc.0) (there doc d l) e
      where
        by_first : (b : Bool) → (document_in l doc ≡ Some d → document_in (l ++ new ∷ []) doc ≡ Some d) → cond b (Some x) (document_in l doc) ≡ Some d → cond b (Some x) (document_in (l ++ new ∷ []) doc) ≡ Some d
        by_first true rest is = is
        by_first false rest is = rest is

-- ---- what is known and told then

pub known_then : (old new : List Document) (slots : List (DocId × ℕ)) → SlotsStay old new → KnowsSlots old slots → KnowsSlots new slots
known_then old new slots stay known doc = known doc ∙ (let e : slot_known (document_in new doc) ≡ slot_known (document_in old doc) = stay.known doc in rw e refl)

pub tells_then : (old new : List Document) → ((job : Job) (slot : Option ℕ) → HasSlot old job slot → HasSlot new job slot) → (report : Report) → TellsSlot old report → TellsSlot new report
tells_then old new has (reports.Done job (outcomes.Populated slot) made) tells = has job slot tells
tells_then old new has (reports.Done job outcomes.Activated made) tells = tells
tells_then old new has (reports.Done job outcomes.Updated made) tells = tells
tells_then old new has (reports.Done job outcomes.Frozen made) tells = tells
tells_then old new has (reports.Done job outcomes.Discarded made) tells = tells
tells_then old new has (reports.Done job (outcomes.Asked verdict) made) tells = tells
tells_then old new has (reports.Done job outcomes.Fragmented made) tells = tells
tells_then old new has (reports.Made made) tells = tells
tells_then old new has (reports.Died death) tells = tells

pub all_tell : (old new : List Document) → SlotsStay old new → (waiting : List Report) → Each (TellsSlot old) waiting → Each (TellsSlot new) waiting
all_tell old new stay waiting tell = each_on (TellsSlot old) (TellsSlot new) waiting (tells_then old new stay.has) tell
