-- Rows that leave what is on its way: who waits, waited before, and what is outstanding stays so.
use Rattle.std.proofs.Common.{◌≡◌, ◌⊎◌, inl, inr, Bool, true, false, cond, ◌==◌, List, map, Option, Some, None, refl, sym, ap, ◌∙◌, subst}
use Rattle.std.specs.Prelude.{find, is_some, option_map}
use Rattle.tab_ids.specs.declared.DocId.{DocId}
use Rattle.tab_ids.specs.declared.NavId.{NavId}
use Rattle.tab_ids.specs.declared.ProcId.{ProcId}
use Rattle.log_model.specs.declared.job.Job.{Job}
use Rattle.log_model.specs.After.{on_desk}
use Rattle.log_model.specs.Orders.{is_being_made}
use Rattle.log_model.specs.Seen.{Seen, Document, Desk, Place, awake, desk_in, document_of, desk_of, place_in, place_of}
use Rattle.seen_facts.proofs.Coord.Leadings.{proc_same}
use Rattle.seen_facts.proofs.Coord.Unread.{DesksLeft}
use Rattle.seen_laws.proofs.Desks.{desk_on_same, desk_on_other}
use Rattle.seen_laws.proofs.Keyed.{find_map}
use Rattle.seen_facts.specs.Transit.Orders.{IsOutstanding, IsShowOf, IsMakeOf}
use Rattle.seen_facts.specs.Transit.Waiting.{Comes, EachComes, IsOnItsMaking, EachIsMade, AreOnTheirWay}

-- a place that waits then waited before, for the same order
pub record WaitedSo (s : Seen) (nav : NavId) (place : Place) : Type 0 where
  pub before : Place
  pub there : place_of s nav ≡ Some before
  pub status : before.status ≡ place.status
  pub late : before.is_delivered ≡ false
  pub last_job : before.last_job ≡ place.last_job

abbrev pub AllWaited : Seen → Seen → Type 0
AllWaited s t =
    (nav : NavId) (place : Place) (doc : DocId) → place_of t nav ≡ Some place → place.status ≡ awake doc → place.is_delivered ≡ false → WaitedSo s nav place

-- a document then was there, in its process, dead if it was, and not made if it isn't
pub record WasDocument (s : Seen) (doc : DocId) (d : Document) : Type 0 where
  pub before : Document
  pub there : document_of s doc ≡ Some before
  pub nr : before.nr ≡ d.nr
  pub proc : before.proc ≡ d.proc
  pub dead : is_some before.dead_by ≡ true → is_some d.dead_by ≡ true
  pub unmade : is_being_made d ≡ true → is_being_made before ≡ true

abbrev pub AllWere : Seen → Seen → Type 0
AllWere s t = (doc : DocId) (d : Document) → document_of t doc ≡ Some d → WasDocument s doc d

-- what is outstanding stays so at each desk
abbrev pub AllOutstand : Seen → Seen → Type 1
AllOutstand s t = (P : Job → Type 0) (proc : ProcId) → IsOutstanding P (desk_of s proc) → IsOutstanding P (desk_of t proc)

module _ (s t : Seen) (outstand : AllOutstand s t) where
  pub still_comes : (before d : Document) (old place : Place) → before.nr ≡ d.nr → before.proc ≡ d.proc → (is_some before.dead_by ≡ true → is_some d.dead_by ≡ true) → old.last_job ≡ place.last_job → Comes (desk_of s before.proc) before old → Comes (desk_of t d.proc) d place
  still_comes before d old place nr proc dead last comes =
      record { nr = comes.nr; last = sym last ∙ comes.last; waits = by_case comes.waits }
    where
      by_case : IsOutstanding (IsShowOf before.nr comes.nr) (desk_of s before.proc) ⊎ (is_some before.dead_by ≡ true) → IsOutstanding (IsShowOf d.nr comes.nr) (desk_of t d.proc) ⊎ (is_some d.dead_by ≡ true)
      by_case (inl is) =
          inl (subst (λ (p : ProcId). IsOutstanding (IsShowOf d.nr comes.nr) (desk_of t p)) proc (subst (λ (n : DocId). IsOutstanding (IsShowOf n comes.nr) (desk_of t before.proc)) nr (outstand (IsShowOf before.nr comes.nr) before.proc is)))
      by_case (inr is) = inr (dead is)

  pub still_making : (before d : Document) → before.nr ≡ d.nr → before.proc ≡ d.proc → (is_some before.dead_by ≡ true → is_some d.dead_by ≡ true) → IsOnItsMaking (desk_of s before.proc) before → IsOnItsMaking (desk_of t d.proc) d
  still_making before d nr proc dead (inl is) =
      inl (subst (λ (p : ProcId). IsOutstanding (IsMakeOf d.nr) (desk_of t p)) proc (subst (λ (n : DocId). IsOutstanding (IsMakeOf n) (desk_of t before.proc)) nr (outstand (IsMakeOf before.nr) before.proc is)))
  still_making before d nr proc dead (inr is) = inr (dead is)

  pub comes_again : AllWaited s t → AllWere s t → EachComes s → EachComes t
  comes_again waited were each nav place doc d there wakes found late =
      let w = waited nav place doc there wakes late in
      let o = were doc d found in
      still_comes o.before d w.before place o.nr o.proc o.dead w.last_job (each nav w.before doc o.before w.there (w.status ∙ wakes) o.there w.late)

  pub made_again : AllWere s t → EachIsMade s → EachIsMade t
  made_again were each doc d found making =
      let o = were doc d found in
      still_making o.before d o.nr o.proc o.dead (each doc o.before o.there (o.unmade making))

  pub ways_again : AllWaited s t → AllWere s t → AreOnTheirWay s → AreOnTheirWay t
  ways_again waited were ways = record { comes = comes_again waited were ways.comes; made = made_again were ways.made }

-- ---- desks

-- one desk alone is changed
pub one_desk : (s t : Seen) (at : ProcId) (f : Desk → Desk) → t.desks ≡ on_desk at f s.desks → ((desk : Desk) → (f desk).proc ≡ desk.proc) → ((P : Job → Type 0) → IsOutstanding P (desk_of s at) → IsOutstanding P (f (desk_of s at))) → AllOutstand s t
one_desk s t at f desks keeps own P proc is = by_process (at.0 == proc.0) refl
  where
    by_process : (b : Bool) → (at.0 == proc.0) ≡ b → IsOutstanding P (desk_of t proc)
    by_process true e =
        let same : at ≡ proc = proc_same at proc e in
        let now : desk_of t at ≡ f (desk_of s at) = ap (λ (l : List Desk). desk_in l at) desks ∙ desk_on_same f s.desks at keeps in
        subst (λ (p : ProcId). IsOutstanding P (desk_of t p)) same (subst (λ (d : Desk). IsOutstanding P d) (sym now) (own P (subst (λ (p : ProcId). IsOutstanding P (desk_of s p)) (sym same) is)))
    by_process false e =
        let now : desk_of t proc ≡ desk_of s proc = ap (λ (l : List Desk). desk_in l proc) desks ∙ desk_on_other f s.desks at proc keeps e in
        subst (λ (d : Desk). IsOutstanding P d) (sym now) is

-- inputs alone are changed
pub inputs_left : (s t : Seen) → DesksLeft s t → AllOutstand s t
inputs_left s t left P proc is = let l = left proc in subst (λ (d : Desk). IsOutstanding P d) (sym l.1) is

-- ---- documents

-- a change of each document
pub record KeepsDocument (g : Document → Document) : Type 0 where
  pub nr : (d : Document) → (g d).nr ≡ d.nr
  pub proc : (d : Document) → (g d).proc ≡ d.proc
  pub dead : (d : Document) → is_some d.dead_by ≡ true → is_some (g d).dead_by ≡ true
  pub unmade : (d : Document) → is_being_made (g d) ≡ true → is_being_made d ≡ true

pub all_were : (s t : Seen) (g : Document → Document) → KeepsDocument g → t.documents ≡ map g s.documents → AllWere s t
all_were s t g keeps documents doc d found = by_old (document_of s doc) refl
  where
    now : document_of t doc ≡ option_map g (document_of s doc)
    now = ap (λ (l : List Document). find (λ (x : Document). x.nr.0 == doc.0) l) documents ∙ find_map (λ (x : Document). x.nr.0) g doc.0 s.documents (λ x. ap (λ (n : DocId). n.0) (keeps.nr x))

    by_old : (o : Option Document) → document_of s doc ≡ o → WasDocument s doc d
    by_old None e = let no_ : None ≡ Some d = sym (now ∙ ap (λ (o : Option Document). option_map g o) e) ∙ found in cc
    by_old (Some old) e =
        let both : Some (g old) ≡ Some d = sym (now ∙ ap (λ (o : Option Document). option_map g o) e) ∙ found in
        let one : g old ≡ d = cc in
        subst (λ (x : Document). WasDocument s doc x) one (record { before = old; there = e; nr = sym (keeps.nr old); proc = sym (keeps.proc old); dead = keeps.dead old; unmade = keeps.unmade old })

pub same_documents : (s t : Seen) → t.documents ≡ s.documents → AllWere s t
same_documents s t same doc d found =
    record { before = d; there = ap (λ (l : List Document). find (λ (x : Document). x.nr.0 == doc.0) l) (sym same) ∙ found; nr = refl; proc = refl; dead = λ e. e; unmade = λ e. e }

pub keeps_at : (doc : DocId) (f : Document → Document) → KeepsDocument f → KeepsDocument (λ (d : Document). cond (d.nr.0 == doc.0) (f d) d)
keeps_at doc f keeps =
    record {
      nr = λ d. by_nr d (d.nr.0 == doc.0);
      proc = λ d. by_proc d (d.nr.0 == doc.0);
      dead = λ d. by_dead d (d.nr.0 == doc.0);
      unmade = λ d. by_unmade d (d.nr.0 == doc.0);
    }
  where
    by_nr : (d : Document) (b : Bool) → (let x : Document = cond b (f d) d in x).nr ≡ d.nr
    by_nr d true = keeps.nr d
    by_nr d false = refl

    by_proc : (d : Document) (b : Bool) → (let x : Document = cond b (f d) d in x).proc ≡ d.proc
    by_proc d true = keeps.proc d
    by_proc d false = refl

    by_dead : (d : Document) (b : Bool) → is_some d.dead_by ≡ true → is_some (let x : Document = cond b (f d) d in x).dead_by ≡ true
    by_dead d true e = keeps.dead d e
    by_dead d false e = e

    by_unmade : (d : Document) (b : Bool) → is_being_made (cond b (f d) d) ≡ true → is_being_made d ≡ true
    by_unmade d true e = keeps.unmade d e
    by_unmade d false e = e

-- ---- places

pub same_places : (s t : Seen) → t.places ≡ s.places → AllWaited s t
same_places s t same nav place doc there wakes late =
    record { before = place; there = ap (λ (l : List Place). place_in l nav) (sym same) ∙ there; status = refl; late = late; last_job = refl }

-- a change of each place
pub record KeepsWaiting (g : Place → Place) : Type 0 where
  pub nav : (p : Place) → (g p).nav ≡ p.nav
  pub status : (p : Place) → (g p).status ≡ p.status
  pub late : (p : Place) → (g p).is_delivered ≡ false → p.is_delivered ≡ false
  pub last_job : (p : Place) → (g p).last_job ≡ p.last_job

pub all_waited : (s t : Seen) (g : Place → Place) → KeepsWaiting g → t.places ≡ map g s.places → AllWaited s t
all_waited s t g keeps places nav place doc there wakes late = by_old (place_of s nav) refl
  where
    now : place_of t nav ≡ option_map g (place_of s nav)
    now = ap (λ (l : List Place). place_in l nav) places ∙ find_map (λ (p : Place). p.nav.0) g nav.0 s.places (λ p. ap (λ (n : NavId). n.0) (keeps.nav p))

    by_old : (o : Option Place) → place_of s nav ≡ o → WaitedSo s nav place
    by_old None e = let no_ : None ≡ Some place = sym (now ∙ ap (λ (o : Option Place). option_map g o) e) ∙ there in cc
    by_old (Some old) e =
        let both : Some (g old) ≡ Some place = sym (now ∙ ap (λ (o : Option Place). option_map g o) e) ∙ there in
        let one : g old ≡ place = cc in
        record {
          before = old;
          there = e;
          status = sym (keeps.status old) ∙ ap (λ (p : Place). p.status) one;
          late = keeps.late old (ap (λ (p : Place). p.is_delivered) one ∙ late);
          last_job = sym (keeps.last_job old) ∙ ap (λ (p : Place). p.last_job) one;
        }

pub keeps_one : (nav : NavId) (f : Place → Place) → KeepsWaiting f → KeepsWaiting (λ (p : Place). cond (p.nav.0 == nav.0) (f p) p)
keeps_one nav f keeps =
    record {
      nav = λ p. elim (p.nav.0 == nav.0) as (λ b. (let q : Place = cond b (f p) p in q).nav ≡ p.nav) [ true ↦ keeps.nav p | false ↦ refl ];
      status = λ p. elim (p.nav.0 == nav.0) as (λ b. (let q : Place = cond b (f p) p in q).status ≡ p.status) [ true ↦ keeps.status p | false ↦ refl ];
      late = λ p. elim (p.nav.0 == nav.0) as (λ b. (let q : Place = cond b (f p) p in q).is_delivered ≡ false → p.is_delivered ≡ false) [ true ↦ keeps.late p | false ↦ (λ e. e) ];
      last_job = λ p. elim (p.nav.0 == nav.0) as (λ b. (let q : Place = cond b (f p) p in q).last_job ≡ p.last_job) [ true ↦ keeps.last_job p | false ↦ refl ];
    }

pub keeps_twice : (f g : Place → Place) → KeepsWaiting f → KeepsWaiting g → KeepsWaiting (λ (p : Place). g (f p))
keeps_twice f g one two =
    record {
      nav = λ p. two.nav (f p) ∙ one.nav p;
      status = λ p. two.status (f p) ∙ one.status p;
      late = λ p e. one.late p (two.late (f p) e);
      last_job = λ p. two.last_job (f p) ∙ one.last_job p;
    }
