-- It stays over a row that changes one desk and one document; and over one that changes neither what comes nor what is read of documents.
use Rattle.seen_facts.proofs.Coord.Leadings.{doc_same, proc_same}
use Rattle.seen_facts.specs.Coord.Epochs.{AllWithin, IsWithin, MadeWithin}
use Rattle.seen_facts.specs.Coord.Leading.{orders_for}
use Rattle.seen_facts.specs.Entry.Entries.{waiting}
use Rattle.log_model.specs.After.{on_desk, on_document}
use Rattle.log_model.specs.AfterRequests.{made_of_report}
use Rattle.log_model.specs.Seen.{Desk, Document, Seen, desk_in, desk_of, document_of}
use Rattle.log_model.specs.declared.job.Job.{Job}
use Rattle.log_model.specs.declared.made.Made.{Made}
use Rattle.tab_facts.proofs.Past.Past.{WasPast}
use Rattle.seen_laws.proofs.Desks.{desk_on_other, desk_on_same}
use Rattle.seen_laws.proofs.Keyed.{find_has, find_map, find_on_other, find_on_same}
use Rattle.std.proofs.Common.{Bool, List, None, Option, Some, ap, false, map, refl, subst, sym, true, ℕ, ◌==◌, ◌∙◌, ◌≡◌}
use Rattle.std.specs.Prelude.{filter_map, find, option_map}
use Rattle.tab_ids.specs.declared.DocId.{DocId}
use Rattle.tab_ids.specs.declared.ProcId.{ProcId}

some_same : {A : Type 0} {a b : A} → (let o : Option A = Some a in o) ≡ Some b → a ≡ b
some_same e = cc

-- ---- one desk and one document

-- these change, and what waits is as it was; what is within any bound is so for each other document with that desk
pub record IsOneElse (hand next_hand : List Made) (s t : Seen) (proc : ProcId) (f : Desk → Desk) (at : DocId) (g : Document → Document) : Type 0 where
  pub desks : t.desks ≡ on_desk proc f s.desks
  pub documents : t.documents ≡ on_document at g s.documents
  pub keeps_proc : (desk : Desk) → (f desk).proc ≡ desk.proc
  pub keeps_number : (d : Document) → (g d).nr ≡ d.nr
  pub other : (d : Document) (bound : ℕ) → (at.0 == d.nr.0) ≡ false → IsWithin (waiting s hand) (desk_of s proc) d bound → IsWithin (waiting s hand) (f (desk_of s proc)) d bound
  pub waits : waiting t next_hand ≡ waiting s hand

-- and for the document itself
pub record IsOnePast (hand next_hand : List Made) (s t : Seen) (proc : ProcId) (f : Desk → Desk) (at : DocId) (g : Document → Document) : Type 0 where
  pub else_ : IsOneElse hand next_hand s t proc f at g
  pub stays : (d : Document) → (g d).proc ≡ d.proc
  pub stays_in : (d : Document) → (g d).nav ≡ d.nav
  pub home : (d : Document) → document_of s at ≡ Some d → d.proc ≡ proc
  pub own : (d : Document) (bound : ℕ) → document_of s at ≡ Some d → IsWithin (waiting s hand) (desk_of s proc) d bound → IsWithin (waiting s hand) (f (desk_of s proc)) (g d) bound

module _ (hand next_hand : List Made) (s t : Seen) (proc : ProcId) (f : Desk → Desk) (at : DocId) (g : Document → Document) (is : IsOneElse hand next_hand s t proc f at g) where
  pub desk_own : desk_of t proc ≡ f (desk_of s proc)
  desk_own =
      ap (λ (desks : List Desk). desk_in desks proc) is.desks ∙ desk_on_same f s.desks proc is.keeps_proc

  desk_other : (other : ProcId) → (proc.0 == other.0) ≡ false → desk_of t other ≡ desk_of s other
  desk_other other apart =
      ap (λ (desks : List Desk). desk_in desks other) is.desks ∙ desk_on_other f s.desks proc other is.keeps_proc apart

  -- with what waits then
  pub then_ : (desk : Desk) (d : Document) (bound : ℕ) → IsWithin (waiting s hand) desk d bound → IsWithin (waiting t next_hand) desk d bound
  then_ desk d bound = subst (λ (l : List Made). IsWithin l desk d bound) (sym is.waits)

  -- what the document is found as
  pub own_found : document_of t at ≡ option_map g (document_of s at)
  own_found =
      ap (λ (docs : List Document). find (λ (x : Document). x.nr.0 == at.0) docs) is.documents
      ∙ find_on_same (λ (x : Document). x.nr.0) g at.0 s.documents (λ x. ap (λ (nr : DocId). nr.0) (is.keeps_number x))

  -- another one was as it is
  pub other_found : (doc : DocId) (d : Document) → (at.0 == doc.0) ≡ false → document_of t doc ≡ Some d → document_of s doc ≡ Some d
  other_found doc d apart found =
      sym (ap (λ (docs : List Document). find (λ (x : Document). x.nr.0 == doc.0) docs) is.documents ∙ find_on_other (λ (x : Document). x.nr.0) g at.0 doc.0 s.documents (λ x. ap (λ (nr : DocId). nr.0) (is.keeps_number x)) apart) ∙ found

  pub other_was : (doc : DocId) (d : Document) → (at.0 == doc.0) ≡ false → document_of s doc ≡ Some d → WasPast hand next_hand s t doc d
  other_was doc d apart there =
      record { old = d; there = there; nav_is = refl; stays = λ bound was. then_ (desk_of t d.proc) d bound (by_process bound was (proc.0 == d.proc.0) refl) }
    where
      nr : d.nr.0 ≡ doc.0
      nr = find_has (λ (x : Document). x.nr.0) doc.0 s.documents d there

      by_process : (bound : ℕ) → IsWithin (waiting s hand) (desk_of s d.proc) d bound → (b : Bool) → (proc.0 == d.proc.0) ≡ b → IsWithin (waiting s hand) (desk_of t d.proc) d bound
      by_process bound was true e =
          let same : proc ≡ d.proc = proc_same proc d.proc e in
          subst (λ (p : ProcId). IsWithin (waiting s hand) (desk_of t p) d bound) same
          (subst (λ (desk : Desk). IsWithin (waiting s hand) desk d bound) (sym desk_own)
          (is.other d bound (rw nr apart) (subst (λ (p : ProcId). IsWithin (waiting s hand) (desk_of s p) d bound) (sym same) was)))
      by_process bound was false e =
          subst (λ (desk : Desk). IsWithin (waiting s hand) desk d bound) (sym (desk_other d.proc e)) was

module _ (hand next_hand : List Made) (s t : Seen) (proc : ProcId) (f : Desk → Desk) (at : DocId) (g : Document → Document) (is : IsOnePast hand next_hand s t proc f at g) where
  own_was : (old d : Document) → document_of s at ≡ Some old → g old ≡ d → WasPast hand next_hand s t at d
  own_was old d there new =
      record {
        old = old;
        there = there;
        nav_is = sym (is.stays_in old) ∙ ap (λ (x : Document). x.nav) new;
        stays = λ bound was. subst (λ (x : Document). IsWithin (waiting t next_hand) (desk_of t x.proc) x bound) new
            (then_ hand next_hand s t proc f at g is.else_ (desk_of t (g old).proc) (g old) bound
            (subst (λ (desk : Desk). IsWithin (waiting s hand) desk (g old) bound) (sym (ap (λ (p : ProcId). desk_of t p) (is.stays old ∙ is.home old there) ∙ desk_own hand next_hand s t proc f at g is.else_))
            (is.own old bound there (subst (λ (p : ProcId). IsWithin (waiting s hand) (desk_of s p) old bound) (is.home old there) was))));
      }

  pub one_was : (doc : DocId) (d : Document) → document_of t doc ≡ Some d → WasPast hand next_hand s t doc d
  one_was doc d found = by_document (at.0 == doc.0) refl
    where
      by_old : (o : Option Document) → document_of s at ≡ o → option_map g o ≡ Some d → WasPast hand next_hand s t at d
      by_old None e there = absurd cc
      by_old (Some old) e there = own_was old d e (some_same there)

      by_document : (b : Bool) → (at.0 == doc.0) ≡ b → WasPast hand next_hand s t doc d
      by_document true e =
          let same : at ≡ doc = doc_same at doc e in
          subst (λ (x : DocId). WasPast hand next_hand s t x d) same
          (by_old (document_of s at) refl (sym (own_found hand next_hand s t proc f at g is.else_) ∙ ap (λ (x : DocId). document_of t x) same ∙ found))
      by_document false e =
          other_was hand next_hand s t proc f at g is.else_ doc d e (other_found hand next_hand s t proc f at g is.else_ doc d e found)

-- ---- what is read of documents stays

-- each document is as it was, as far as is read; what comes to each is as it was; and what waits only lessens
pub record IsPastAlike (hand next_hand : List Made) (s t : Seen) (g : Document → Document) : Type 0 where
  pub documents : t.documents ≡ map g s.documents
  pub nr : (d : Document) → (g d).nr ≡ d.nr
  pub nav : (d : Document) → (g d).nav ≡ d.nav
  pub proc : (d : Document) → (g d).proc ≡ d.proc
  pub view : (d : Document) → (g d).view ≡ d.view
  pub orders : (proc : ProcId) (doc : DocId) → orders_for (desk_of t proc) doc ≡ orders_for (desk_of s proc) doc
  pub reports : (doc : DocId) (d : Document) → document_of s doc ≡ Some d → (bound : ℕ) → MadeWithin bound d.nr (waiting s hand) → MadeWithin bound d.nr (filter_map made_of_report (desk_of s d.proc).reports) → MadeWithin bound d.nr (filter_map made_of_report (desk_of t d.proc).reports)
  pub waits : (doc : DocId) (d : Document) → document_of s doc ≡ Some d → (bound : ℕ) → MadeWithin bound d.nr (waiting s hand) → MadeWithin bound d.nr (filter_map made_of_report (desk_of s d.proc).reports) → MadeWithin bound d.nr (waiting t next_hand)

module _ (hand next_hand : List Made) (s t : Seen) (g : Document → Document) (is : IsPastAlike hand next_hand s t g) where
  alike_by : (doc : DocId) (old d : Document) → document_of s doc ≡ Some old → g old ≡ d → (bound : ℕ) → IsWithin (waiting s hand) (desk_of s old.proc) old bound → IsWithin (waiting t next_hand) (desk_of t d.proc) d bound
  alike_by doc old d there new bound was =
      subst (λ (x : Document). IsWithin (waiting t next_hand) (desk_of t x.proc) x bound) new
      (subst (λ (p : ProcId). IsWithin (waiting t next_hand) (desk_of t p) (g old) bound) (sym (is.proc old))
      (record {
        view = λ view has. was.view view (sym (is.view old) ∙ has);
        orders = subst (λ (l : List Job). AllWithin bound l) (sym (ap (λ (n : DocId). orders_for (desk_of t old.proc) n) (is.nr old) ∙ is.orders old.proc old.nr)) was.orders;
        held_back = subst (λ (n : DocId). MadeWithin bound n (waiting t next_hand)) (sym (is.nr old)) (is.waits doc old there bound was.held_back was.reports);
        reports = subst (λ (n : DocId). MadeWithin bound n (filter_map made_of_report (desk_of t old.proc).reports)) (sym (is.nr old)) (is.reports doc old there bound was.held_back was.reports);
      }))

  pub alike_was : (doc : DocId) (d : Document) → document_of t doc ≡ Some d → WasPast hand next_hand s t doc d
  alike_was doc d found = by_old (document_of s doc) refl (sym mapped ∙ found)
    where
      mapped : document_of t doc ≡ option_map g (document_of s doc)
      mapped =
          ap (λ (docs : List Document). find (λ (x : Document). x.nr.0 == doc.0) docs) is.documents
          ∙ find_map (λ (x : Document). x.nr.0) g doc.0 s.documents (λ x. ap (λ (n : DocId). n.0) (is.nr x))

      by_old : (o : Option Document) → document_of s doc ≡ o → option_map g o ≡ Some d → WasPast hand next_hand s t doc d
      by_old None e there = absurd cc
      by_old (Some old) e there =
          let new : g old ≡ d = some_same there in
          record { old = old; there = e; nav_is = sym (is.nav old) ∙ ap (λ (x : Document). x.nav) new; stays = alike_by doc old d e new }

-- ---- one desk

-- it changes, and no document; what is within any bound is so then, for a document of that process, and for each other one
module _ (hand next_hand : List Made) (s t : Seen) (proc : ProcId) (f : Desk → Desk) (desks : t.desks ≡ on_desk proc f s.desks) (keeps_proc : (desk : Desk) → (f desk).proc ≡ desk.proc) (documents : t.documents ≡ s.documents) (here : (doc : DocId) (d : Document) (bound : ℕ) → document_of s doc ≡ Some d → IsWithin (waiting s hand) (desk_of s proc) d bound → IsWithin (waiting t next_hand) (f (desk_of s proc)) d bound) (elsewhere : (doc : DocId) (d : Document) (bound : ℕ) → document_of s doc ≡ Some d → (proc.0 == d.proc.0) ≡ false → IsWithin (waiting s hand) (desk_of s d.proc) d bound → IsWithin (waiting t next_hand) (desk_of s d.proc) d bound) where
  pub desk_was : (doc : DocId) (d : Document) → document_of t doc ≡ Some d → WasPast hand next_hand s t doc d
  desk_was doc d found =
      record { old = d; there = there; nav_is = refl; stays = λ bound was. by_process bound was (proc.0 == d.proc.0) refl }
    where
      there : document_of s doc ≡ Some d
      there =
          ap (λ (docs : List Document). find (λ (x : Document). x.nr.0 == doc.0) docs) (sym documents) ∙ found

      by_process : (bound : ℕ) → IsWithin (waiting s hand) (desk_of s d.proc) d bound → (b : Bool) → (proc.0 == d.proc.0) ≡ b → IsWithin (waiting t next_hand) (desk_of t d.proc) d bound
      by_process bound was true e =
          let same : proc ≡ d.proc = proc_same proc d.proc e in
          let own : desk_of t proc ≡ f (desk_of s proc) = ap (λ (l : List Desk). desk_in l proc) desks ∙ desk_on_same f s.desks proc keeps_proc in
          subst (λ (p : ProcId). IsWithin (waiting t next_hand) (desk_of t p) d bound) same
          (subst (λ (desk : Desk). IsWithin (waiting t next_hand) desk d bound) (sym own)
          (here doc d bound there (subst (λ (p : ProcId). IsWithin (waiting s hand) (desk_of s p) d bound) (sym same) was)))
      by_process bound was false e =
          let other : desk_of t d.proc ≡ desk_of s d.proc = ap (λ (l : List Desk). desk_in l d.proc) desks ∙ desk_on_other f s.desks proc d.proc keeps_proc e in
          subst (λ (desk : Desk). IsWithin (waiting t next_hand) desk d bound) (sym other) (elsewhere doc d bound there e was)
