-- What is on its way for each document, where a row changes one desk and one document, or neither.
use Rattle.std.proofs.Common.{◌≡◌, ℕ, Bool, true, false, ◌==◌, List, Option, Some, None, refl, sym, ap, ◌∙◌, subst, arith}
use Rattle.std.specs.Prelude.{find, option_map}
use Rattle.std.proofs.lemmas.Bool.Decides.{nat_tests}
use Rattle.tab_ids.specs.declared.DocId.{DocId}
use Rattle.tab_ids.specs.declared.EntryId.{EntryId}
use Rattle.tab_ids.specs.declared.Epoch.{Epoch}
use Rattle.tab_ids.specs.declared.NavId.{NavId}
use Rattle.tab_ids.specs.declared.ProcId.{ProcId}
use Rattle.log_model.specs.declared.made.Made.{Made}
use Rattle.log_model.specs.declared.row.Row.{Row}
use Rattle.log_model.specs.Seen.{Seen, Document, Desk, Place, awake, document_of, desk_of, desk_in, place_of}
use Rattle.log_model.specs.After.{on_desk, on_document}
use Rattle.seen_laws.proofs.Keyed.{find_on_same, find_on_other, find_has}
use Rattle.seen_laws.proofs.Desks.{desk_on_same, desk_on_other}
use Rattle.seen_facts.specs.Coord.Leading.{held_back, Leads, EachAwake, EachLeads}

-- ---- numbers that are equal

pub proc_same : (a b : ProcId) → (a.0 == b.0) ≡ true → a ≡ b
proc_same a b e = ap (λ (n : ℕ). let p : ProcId = record { 0 = n } in p) (let same : a.0 ≡ b.0 = grind (arith, nat_tests, e) in same)

pub doc_same : (a b : DocId) → (a.0 == b.0) ≡ true → a ≡ b
doc_same a b e = ap (λ (n : ℕ). let d : DocId = record { 0 = n } in d) (let same : a.0 ≡ b.0 = grind (arith, nat_tests, e) in same)

-- ---- places

-- a navigable that is awake was so before, at the same given entry and under the same epoch
pub record WasAwake (s : Seen) (nav : NavId) (place : Place) : Type 0 where
  pub before : Place
  pub there : place_of s nav ≡ Some before
  pub status : before.status ≡ place.status
  pub given : before.given ≡ place.given
  pub epoch : before.epoch ≡ place.epoch

abbrev pub EachWasAwake : Seen → Seen → Type 0
EachWasAwake s next = (nav : NavId) (place : Place) → place_of next nav ≡ Some place → WasAwake s nav place

-- its place is as it was
pub as_placed : (s : Seen) (nav : NavId) (place : Place) → place_of s nav ≡ Some place → WasAwake s nav place
as_placed s nav place there =
    record { before = place; there = there; status = refl; given = refl; epoch = refl }

-- ---- one desk and one document are changed

-- the others are as they were, and a navigable that is awake on another document was so before; the fact holds of the document as its navigable is given and under its epoch, and stays for each other document of that desk
pub record IsOneChange (F : Desk → Document → Option EntryId → Epoch → Type 0) (s next : Seen) (proc : ProcId) (f : Desk → Desk) (doc : DocId) (g : Document → Document) : Type 0 where
  pub desks : next.desks ≡ on_desk proc f s.desks
  pub documents : next.documents ≡ on_document doc g s.documents
  pub keeps_proc : (desk : Desk) → (f desk).proc ≡ desk.proc
  pub keeps_number : (d : Document) → (g d).nr ≡ d.nr
  pub stays : (d : Document) → (g d).proc ≡ d.proc
  pub home : (d : Document) → document_of s doc ≡ Some d → d.proc ≡ proc
  pub own : (nav : NavId) (place : Place) (d : Document) → place_of next nav ≡ Some place → place.status ≡ awake doc → document_of s doc ≡ Some d → F (f (desk_of s proc)) (g d) place.given place.epoch
  pub others : (nav : NavId) (place : Place) (at : DocId) → place_of next nav ≡ Some place → place.status ≡ awake at → (doc.0 == at.0) ≡ false → WasAwake s nav place
  pub other : (d : Document) (given : Option EntryId) (epoch : Epoch) → (doc.0 == d.nr.0) ≡ false → F (desk_of s proc) d given epoch → F (f (desk_of s proc)) d given epoch

module _ (F : Desk → Document → Option EntryId → Epoch → Type 0) (s next : Seen) (proc : ProcId) (f : Desk → Desk) (doc : DocId) (g : Document → Document) (is : IsOneChange F s next proc f doc g) where
  abbrev Holds : Seen → Document → Place → Type 0
  Holds t d place = F (desk_of t d.proc) d place.given place.epoch

  desk_own : desk_of next proc ≡ f (desk_of s proc)
  desk_own =
      ap (λ (desks : List Desk). desk_in desks proc) is.desks ∙ desk_on_same f s.desks proc is.keeps_proc

  desk_other : (other : ProcId) → (proc.0 == other.0) ≡ false → desk_of next other ≡ desk_of s other
  desk_other other apart =
      ap (λ (desks : List Desk). desk_in desks other) is.desks ∙ desk_on_other f s.desks proc other is.keeps_proc apart

  found_own : document_of next doc ≡ option_map g (document_of s doc)
  found_own =
      ap (λ (docs : List Document). find (λ (d : Document). d.nr.0 == doc.0) docs) is.documents
      ∙ find_on_same (λ (d : Document). d.nr.0) g doc.0 s.documents (λ d. ap (λ (nr : DocId). nr.0) (is.keeps_number d))

  found_other : (other : DocId) → (doc.0 == other.0) ≡ false → document_of next other ≡ document_of s other
  found_other other apart =
      ap (λ (docs : List Document). find (λ (d : Document). d.nr.0 == other.0) docs) is.documents
      ∙ find_on_other (λ (d : Document). d.nr.0) g doc.0 other.0 s.documents (λ d. ap (λ (nr : DocId). nr.0) (is.keeps_number d)) apart

  -- the changed document
  changed_holds : (nav : NavId) (old d : Document) (place : Place) → place_of next nav ≡ Some place → place.status ≡ awake doc → document_of s doc ≡ Some old → g old ≡ d → Holds next d place
  changed_holds nav old d place placed wakes there new =
      let on : F (desk_of next proc) (g old) place.given place.epoch = subst (λ (k : Desk). F k (g old) place.given place.epoch) (sym desk_own) (is.own nav place old placed wakes there) in
      subst (λ (x : Document). Holds next x place) new (subst (λ (p : ProcId). F (desk_of next p) (g old) place.given place.epoch) (sym (is.stays old ∙ is.home old there)) on)

  -- another document, in the same process or elsewhere
  other_holds : (d : Document) (place : Place) → (doc.0 == d.nr.0) ≡ false → Holds s d place → Holds next d place
  other_holds d place apart was = by_process (proc.0 == d.proc.0) refl
    where
      by_process : (b : Bool) → (proc.0 == d.proc.0) ≡ b → Holds next d place
      by_process true e =
          let same : proc ≡ d.proc = proc_same proc d.proc e in
          subst (λ (p : ProcId). F (desk_of next p) d place.given place.epoch) same
          (subst (λ (k : Desk). F k d place.given place.epoch) (sym desk_own)
          (is.other d place.given place.epoch apart (subst (λ (p : ProcId). F (desk_of s p) d place.given place.epoch) (sym same) was)))
      by_process false e =
          subst (λ (k : Desk). F k d place.given place.epoch) (sym (desk_other d.proc e)) was

  -- the fact holds for the document of each awake navigable, where it held for the other ones
  pub one_settles : ((nav : NavId) (place : Place) (at : DocId) (d : Document) → place_of s nav ≡ Some place → place.status ≡ awake at → document_of s at ≡ Some d → (doc.0 == at.0) ≡ false → F (desk_of s d.proc) d place.given place.epoch) → EachAwake F next
  one_settles each nav place at d placed wakes found = by_document (doc.0 == at.0) refl
    where
      by_old : (o : Option Document) → document_of s doc ≡ o → option_map g o ≡ Some d → doc ≡ at → Holds next d place
      by_old None e there same = cc
      by_old (Some old) e there same =
          let new : g old ≡ d = cc in
          changed_holds nav old d place placed (wakes ∙ ap (λ (x : DocId). awake x) (sym same)) e new

      by_document : (b : Bool) → (doc.0 == at.0) ≡ b → Holds next d place
      by_document true e =
          let same : doc ≡ at = doc_same doc at e in
          by_old (document_of s doc) refl (sym found_own ∙ ap (λ (x : DocId). document_of next x) same ∙ found) same
      by_document false e =
          let old : document_of s at ≡ Some d = sym (found_other at e) ∙ found in
          let nr : d.nr.0 ≡ at.0 = find_has (λ (x : Document). x.nr.0) at.0 s.documents d old in
          let was : WasAwake s nav place = is.others nav place at placed wakes e in
          let before : F (desk_of s d.proc) d was.before.given was.before.epoch = each nav was.before at d was.there (was.status ∙ wakes) old e in
          let given : F (desk_of s d.proc) d place.given was.before.epoch = subst (λ (x : Option EntryId). F (desk_of s d.proc) d x was.before.epoch) was.given before in
          other_holds d place (rw nr e) (subst (λ (x : Epoch). F (desk_of s d.proc) d place.given x) was.epoch given)

  -- so it stays
  pub one_stays : EachAwake F s → EachAwake F next
  one_stays each =
      one_settles (λ nav place at d placed wakes found apart. each nav place at d placed wakes found)

-- ---- what leads

-- what a document leads by, of all that a log has come to
abbrev pub LeadsIn : Seen → Desk → Document → Option EntryId → Epoch → Type 0
LeadsIn s = Leads s.history.rows (held_back s.requests s.parked)

-- what leads for a document, with the desk of its process
pub at_home : (s : Seen) (proc : ProcId) (d : Document) (given : Option EntryId) (epoch : Epoch) → d.proc ≡ proc → LeadsIn s (desk_of s d.proc) d given epoch → LeadsIn s (desk_of s proc) d given epoch
at_home s proc d given epoch home was = subst (λ (p : ProcId). LeadsIn s (desk_of s p) d given epoch) home was

-- rows and held back reports that are as they were leave what leads
pub leads_again : (s next : Seen) → next.history.rows ≡ s.history.rows → held_back next.requests next.parked ≡ held_back s.requests s.parked → EachAwake (LeadsIn s) next → EachLeads next
leads_again s next rows held each nav place at d placed wakes found =
    subst (λ (rows : List Row). Leads rows (held_back next.requests next.parked) (desk_of next d.proc) d place.given place.epoch) (sym rows)
    (subst (λ (held : List Made). Leads s.history.rows held (desk_of next d.proc) d place.given place.epoch) (sym held)
    (each nav place at d placed wakes found))
