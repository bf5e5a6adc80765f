-- A document makes something of the order that was just finished: what is on its way for it, and for the others of its process, stays so.
use Rattle.std.proofs.Common.{◌≡◌, ℕ, ◌≤◌, false, ◌==◌, List, [], ◌∷◌, ◌++◌, Option, Some, None, refl, sym, ap, ◌∙◌, subst, append-nil, append_assoc}
use Rattle.std.specs.Prelude.{filter, filter_map}
use Rattle.std.proofs.lemmas.List.Elements.{filter-append, filter_map-append}
use Rattle.tab_ids.specs.declared.DocId.{DocId}
use Rattle.tab_ids.specs.declared.EntryId.{EntryId}
use Rattle.tab_ids.specs.declared.Epoch.{Epoch}
use Rattle.tab_ids.specs.declared.ReqId.{ReqId}
use Rattle.log_model.specs.declared.job.Job.{Job}
use Rattle.log_model.specs.declared.made.Made.{Made}
use Rattle.log_model.specs.declared.made.Report.{Report}
use Rattle.log_model.specs.declared.made.Report.TheVariants as reports
use Rattle.log_model.specs.declared.made.What.{What}
use Rattle.log_model.specs.declared.outcome.Outcome.{Outcome}
use Rattle.log_model.specs.declared.row.Row.{Row}
use Rattle.log_model.specs.After.{desk_made, reports_joined}
use Rattle.log_model.specs.AfterRequests.{made_of_report}
use Rattle.log_model.specs.Seen.{Document, Desk}
use Rattle.log_model.specs.Views.{View, made_for}
use Rattle.seen_laws.specs.Acting.{IsNoEdit}
use Rattle.seen_facts.specs.Coord.Epochs.{AllWithin, IsWithin, MadeWithin}
use Rattle.seen_facts.specs.Coord.Leading.{is_made_under, coming, orders_for, Leads}
use Rattle.seen_facts.specs.Coord.Reaching.{Reaches}
use Rattle.seen_facts.proofs.Coord.OneDocument.{LooksAlike, leads_alike}
use Rattle.seen_facts.proofs.Coord.OneMade.{coming_made, once_made, making_leads}
use Rattle.seen_facts.proofs.Coord.Reached.{making_reaches, reaches_alike}

-- ---- reports

-- what was made joins the last report
joined_last : (made : Made) (front : List Report) (job : Job) (outcome : Outcome) → reports_joined made (front ++ reports.Done job outcome None ∷ []) ≡ front ++ reports.Done job outcome (Some made) ∷ []
joined_last made [] job outcome = refl
joined_last made (reports.Made m ∷ front) job outcome = ap (λ (l : List Report). reports.Made m ∷ l) (joined_last made front job outcome)
joined_last made (reports.Died death ∷ front) job outcome = ap (λ (l : List Report). reports.Died death ∷ l) (joined_last made front job outcome)
joined_last made (reports.Done j o m ∷ []) job outcome = refl
joined_last made (reports.Done j o m ∷ (x ∷ front)) job outcome = ap (λ (l : List Report). reports.Done j o m ∷ l) (joined_last made (x ∷ front) job outcome)

-- the last report is of an order, and tells of nothing made as yet
pub record EndsUntold (waiting : List Report) : Type 0 where
  pub front : List Report
  pub job : Job
  pub outcome : Outcome
  pub last : waiting ≡ front ++ reports.Done job outcome None ∷ []

-- then the reports tell of one thing more, behind all others
pub told_joined : (made : Made) (waiting : List Report) → EndsUntold waiting → filter_map made_of_report (reports_joined made waiting) ≡ filter_map made_of_report waiting ++ made ∷ []
told_joined made waiting ends =
    ap (λ (l : List Report). filter_map made_of_report (reports_joined made l)) ends.last
    ∙ ap (λ (l : List Report). filter_map made_of_report l) (joined_last made ends.front ends.job ends.outcome)
    ∙ filter_map-append made_of_report ends.front (reports.Done ends.job ends.outcome (Some made) ∷ [])
    ∙ ap (λ (l : List Made). l ++ made ∷ []) (sym before)
  where
    before : filter_map made_of_report waiting ≡ filter_map made_of_report ends.front
    before =
        ap (λ (l : List Report). filter_map made_of_report l) ends.last
        ∙ filter_map-append made_of_report ends.front (reports.Done ends.job ends.outcome None ∷ [])
        ∙ append-nil (filter_map made_of_report ends.front)

-- the process, once what its document made joined the last report
abbrev pub desk_joined : Made → Desk → Desk
desk_joined made desk = record desk { reports = reports_joined made desk.reports }

-- one more is coming, where it was made under the epoch
pub coming_joined : (held : List Made) (desk : Desk) (made : Made) (doc : DocId) (epoch : Epoch) → EndsUntold desk.reports → coming held (desk_joined made desk) doc epoch ≡ coming held desk doc epoch ++ filter (is_made_under doc epoch) (made ∷ [])
coming_joined held desk made doc epoch ends =
    ap (λ (l : List Made). filter (is_made_under doc epoch) (held ++ l)) (told_joined made desk.reports ends)
    ∙ ap (λ (l : List Made). filter (is_made_under doc epoch) l) (sym (append_assoc held (filter_map made_of_report desk.reports) (made ∷ [])))
    ∙ filter-append (is_made_under doc epoch) (held ++ filter_map made_of_report desk.reports) (made ∷ [])

-- ---- what leads

-- it leads on for the document that made it, as it would had it been made of a poke
pub joining_leads : (rows : List Row) (held : List Made) (desk : Desk) (d : Document) (view : View) (req : ReqId) (what : What) (given : Option EntryId) (epoch : Epoch) → d.view ≡ Some view → view.doc ≡ d.nr → IsNoEdit what → EndsUntold desk.reports → Reaches desk d epoch → Leads rows held desk d given epoch → Leads rows held (desk_joined (made_for view req what) desk) (once_made what d) given epoch
joining_leads rows held desk d view req what given epoch has its is ends reaches leads =
    leads_alike rows held (desk_made (made_for view req what) desk) (desk_joined (made_for view req what) desk) (once_made what d) (once_made what d) given epoch
    (record {
      pending = refl;
      coming = coming_joined held desk (made_for view req what) d.nr epoch ends ∙ sym (coming_made held desk (made_for view req what) d.nr epoch is);
      told = refl;
    })
    (making_leads rows held desk d view req what given epoch has its reaches leads)

-- what another document made isn't coming from this one
pub joined_elsewhere : (held : List Made) (desk : Desk) (made : Made) (d : Document) (epoch : Epoch) → EndsUntold desk.reports → (made.doc.0 == d.nr.0) ≡ false → LooksAlike held desk (desk_joined made desk) d d epoch
joined_elsewhere held desk made d epoch ends apart =
    let none : is_made_under d.nr epoch made ≡ false = rw apart refl in
    record {
      pending = refl;
      coming = coming_joined held desk made d.nr epoch ends ∙ ap (λ (l : List Made). coming held desk d.nr epoch ++ l) (rw none refl) ∙ append-nil (coming held desk d.nr epoch);
      told = refl;
    }

-- ---- the orders that come

as_it_was : (d : Document) (next : View) → d.view ≡ Some next → (view : View) × (d.view ≡ Some view) × (view.epoch ≡ next.epoch)
as_it_was d next has = (next, has, refl)

pub joining_reaches : (desk : Desk) (made : Made) (d : Document) (what : What) (epoch : Epoch) → Reaches desk d epoch → Reaches (desk_joined made desk) (once_made what d) epoch
joining_reaches desk made d what epoch is =
    reaches_alike (desk_made made desk) (desk_joined made desk) (once_made what d) (once_made what d) epoch refl (as_it_was (once_made what d)) (making_reaches desk made d what epoch is)

pub joined_reaches : (desk : Desk) (made : Made) (d : Document) (epoch : Epoch) → Reaches desk d epoch → Reaches (desk_joined made desk) d epoch
joined_reaches desk made d epoch is = reaches_alike desk (desk_joined made desk) d d epoch refl (as_it_was d) is

-- ---- epochs

pub within_after : (bound : ℕ) (doc : DocId) (mades : List Made) (made : Made) → MadeWithin bound doc mades → (made.doc.0 ≡ doc.0 → made.epoch.0 ≤ bound) → MadeWithin bound doc (mades ++ made ∷ [])
within_after bound doc [] made all low = (low, tt)
within_after bound doc (first ∷ mades) made all low = (all.0, within_after bound doc mades made all.1 low)

-- it was made under an epoch up to the bound, if by this document; and so is the view that the document has then
pub joining_within : (held : List Made) (desk : Desk) (made : Made) (d next : Document) (bound : ℕ) → EndsUntold desk.reports → (made.doc.0 ≡ d.nr.0 → made.epoch.0 ≤ bound) → next.nr ≡ d.nr → ((seen : View) → next.view ≡ Some seen → seen.epoch.0 ≤ bound) → IsWithin held desk d bound → IsWithin held (desk_joined made desk) next bound
joining_within held desk made d next bound ends low nr view was =
    record {
      view = view;
      orders = subst (λ (doc : DocId). AllWithin bound (orders_for desk doc)) (sym nr) was.orders;
      held_back = subst (λ (doc : DocId). MadeWithin bound doc held) (sym nr) was.held_back;
      reports = subst (λ (doc : DocId). MadeWithin bound doc (filter_map made_of_report (desk_joined made desk).reports)) (sym nr) (subst (λ (l : List Made). MadeWithin bound d.nr l) (sym (told_joined made desk.reports ends)) (within_after bound d.nr (filter_map made_of_report desk.reports) made was.reports low));
    }
