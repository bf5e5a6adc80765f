-- Documents that wait to be made: each row leaves them their navigable and process, and without a view.
use Rattle.std.proofs.Common.{◌≡◌, ℕ, Bool, true, false, cond, ◌==◌, List, [], ◌∷◌, ◌++◌, length, map, Option, Some, None, refl, ap, ◌∙◌}
use Rattle.std.specs.Prelude.{option_map, if◌then◌else◌}
use Rattle.tab_ids.specs.declared.DocId.{DocId}
use Rattle.tab_ids.specs.declared.NavId.{NavId}
use Rattle.tab_ids.specs.declared.ProcId.{ProcId}
use Rattle.log_model.specs.declared.change.Change.{Change}
use Rattle.log_model.specs.declared.change.Change.TheVariants as changes
use Rattle.log_model.specs.declared.job.Job.{Job}
use Rattle.log_model.specs.declared.job.Task.{Task}
use Rattle.log_model.specs.declared.job.Task.TheVariants as tasks
use Rattle.log_model.specs.declared.made.Report.{Report}
use Rattle.log_model.specs.declared.made.Report.TheVariants as reports
use Rattle.log_model.specs.declared.outcome.Outcome.TheVariants as outcomes
use Rattle.log_model.specs.AfterDocuments.{addressed, applied_to, documents_delivered, documents_sent, new_document, on_document, told_after_change}
use Rattle.log_model.specs.AfterPlaces.{is_dead_by}
use Rattle.log_model.specs.Seen.{Seen, Document}
use Rattle.log_model.specs.Views.{View}
use Rattle.seen_laws.proofs.Keyed.{find_map}
use Rattle.running_table.specs.Making.{IsToMake}
use Rattle.running_table.specs.Telling.{found}

-- ---- documents that wait to be made

-- each document that has no view keeps its navigable and process, and gets none
abbrev pub LeaveUnmade : List Document → List Document → Type 0
LeaveUnmade old new = (proc : ProcId) (least : ℕ) (doc : DocId) (nav : NavId) → IsToMake old proc least doc nav → IsToMake new proc least doc nav

-- a change of each document that does so
pub record IsUnmadeAs (old new : Document) : Type 0 where
  pub nr : new.nr.0 ≡ old.nr.0
  pub nav : new.nav ≡ old.nav
  pub proc : new.proc ≡ old.proc
  pub unseen : old.view ≡ None → new.view ≡ None

pub unmade_itself : (d : Document) → IsUnmadeAs d d
unmade_itself d = record { nr = refl; nav = refl; proc = refl; unseen = λ e. e }

pub unmade_through : (a b c : Document) → IsUnmadeAs a b → IsUnmadeAs b c → IsUnmadeAs a c
unmade_through a b c one two =
    record { nr = two.nr ∙ one.nr; nav = two.nav ∙ one.nav; proc = two.proc ∙ one.proc; unseen = λ e. two.unseen (one.unseen e) }

pub unmade_if : (b : Bool) (d x : Document) → IsUnmadeAs d x → IsUnmadeAs d (if b then x else d)
unmade_if true d x is = is
unmade_if false d x is = unmade_itself d

pub unmade_map : (documents : List Document) (g : Document → Document) → ((d : Document) → IsUnmadeAs d (g d)) → LeaveUnmade documents (map g documents)
unmade_map documents g is proc least doc nav make =
    record {
      d = g make.d;
      known =
          find_map (λ (d : Document). d.nr.0) g doc.0 documents (λ d. (is d).nr) ∙ ap (option_map g) make.known;
      its_nav = (is make.d).nav ∙ make.its_nav;
      its_proc = ap (λ (p : ProcId). p.0) (is make.d).proc ∙ make.its_proc;
      unseen = (is make.d).unseen make.unseen;
      later = make.later;
    }

pub unmade_on : (documents : List Document) (of : DocId) (f : Document → Document) → ((d : Document) → IsUnmadeAs d (f d)) → LeaveUnmade documents (on_document of f documents)
unmade_on documents of f is =
    unmade_map documents (λ d. if d.nr.0 == of.0 then f d else d) (λ d. unmade_if (d.nr.0 == of.0) d (f d) (is d))

pub unmade_more : (documents : List Document) (new : Document) → LeaveUnmade documents (documents ++ new ∷ [])
unmade_more documents new proc least doc nav make =
    record {
      d = make.d;
      known = among documents make.known;
      its_nav = make.its_nav;
      its_proc = make.its_proc;
      unseen = make.unseen;
      later = make.later;
    }
  where
    behind : (x : Document) (l : List Document) → (found l doc ≡ Some make.d → found (l ++ new ∷ []) doc ≡ Some make.d) → found (x ∷ l) doc ≡ Some make.d → found (x ∷ l ++ new ∷ []) doc ≡ Some make.d
    behind x l more = by_test (x.nr.0 == doc.0)
      where
        by_test : (b : Bool) → cond b (Some x) (found l doc) ≡ Some make.d → cond b (Some x) (found (l ++ new ∷ []) doc) ≡ Some make.d
        by_test true f = f
        by_test false f = more f

    among : (l : List Document) → found l doc ≡ Some make.d → found (l ++ new ∷ []) doc ≡ Some make.d
    among [] f = cc
    among (x ∷ l) f = behind x l (among l) f

-- ---- what each row does to them

pub told_unmade : (change : Change) (d : Document) → IsUnmadeAs d (told_after_change d change)
told_unmade (changes.Push nav entry state address memo) d =
    unmade_if (d.nr.0 == entry.maker) d (record d { told = None }) (record { nr = refl; nav = refl; proc = refl; unseen = λ e. e })
told_unmade change d = unmade_itself d

pub applied_unmade : (change : Change) (d : Document) → IsUnmadeAs d (applied_to change d)
applied_unmade (changes.Push nav entry state address memo) d =
    unmade_if (d.nr.0 == entry.maker) d (record d { last_applied = entry.nr }) (record { nr = refl; nav = refl; proc = refl; unseen = λ e. e })
applied_unmade (changes.Replace nav over entry state address memo) d =
    unmade_if (d.nr.0 == entry.maker) d (record d { last_applied = entry.nr }) (record { nr = refl; nav = refl; proc = refl; unseen = λ e. e })
applied_unmade (changes.Reload nav) d =
    unmade_if (d.nav.0 == nav.0) d (record d { is_fresh = false }) (record { nr = refl; nav = refl; proc = refl; unseen = λ e. e })
applied_unmade change d = unmade_itself d

addressed_unmade : (task : Task) (d : Document) → IsUnmadeAs d (addressed task d)
addressed_unmade task d = record { nr = refl; nav = refl; proc = refl; unseen = λ e. e }

pub sent_unmade : (s : Seen) (job : Job) (task : Task) → LeaveUnmade s.documents (documents_sent s job task)
sent_unmade s job (tasks.Populate nav state address initial) =
    unmade_more s.documents (new_document s job nav state)
sent_unmade s job tasks.Discard =
    unmade_on s.documents job.doc (λ d. record d { is_discarded = true }) (λ d. record { nr = refl; nav = refl; proc = refl; unseen = λ e. e })
sent_unmade s job (tasks.Activate entry epoch length index memo address) =
    unmade_on s.documents job.doc (addressed (tasks.Activate entry epoch length index memo address)) (addressed_unmade (tasks.Activate entry epoch length index memo address))
sent_unmade s job (tasks.Update length index) =
    unmade_on s.documents job.doc (addressed (tasks.Update length index)) (addressed_unmade (tasks.Update length index))
sent_unmade s job tasks.Freeze =
    unmade_on s.documents job.doc (addressed tasks.Freeze) (addressed_unmade tasks.Freeze)
sent_unmade s job (tasks.Ask slot cause) =
    unmade_on s.documents job.doc (addressed (tasks.Ask slot cause)) (addressed_unmade (tasks.Ask slot cause))
sent_unmade s job (tasks.DoFragment req mode address) =
    unmade_on s.documents job.doc (addressed (tasks.DoFragment req mode address)) (addressed_unmade (tasks.DoFragment req mode address))

pub mapped_none : (f : View → View) (view : Option View) → view ≡ None → option_map f view ≡ None
mapped_none f None e = refl
mapped_none f (Some v) e = cc

pub delivered_unmade : (documents : List Document) (report : Option Report) → LeaveUnmade documents (documents_delivered documents report)
delivered_unmade documents (Some (reports.Done job (outcomes.Populated slot) made)) =
    unmade_on documents job.doc (λ d. record d { is_ready = true; is_fresh = true }) (λ d. record { nr = refl; nav = refl; proc = refl; unseen = λ e. e })
delivered_unmade documents (Some (reports.Died death)) =
    unmade_map documents (λ d. if is_dead_by death d then record d { is_known_dead = true } else d) (λ d. unmade_if (is_dead_by death d) d (record d { is_known_dead = true }) (record { nr = refl; nav = refl; proc = refl; unseen = λ e. e }))
delivered_unmade documents report = λ proc least doc nav make. make
