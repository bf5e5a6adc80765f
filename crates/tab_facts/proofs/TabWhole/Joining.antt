-- What is outstanding at a process stays so as what a document made joins the report of the order that was just finished; so what is on its way stays on its way.
use Rattle.seen_facts.proofs.Coord.Unread.{next}
use Rattle.seen_facts.specs.Hang.Members.{Has}
use Rattle.log_model.specs.After.{desks_made, follows_finished, on_desk, reports_joined}
use Rattle.log_model.specs.Seen.{Desk, Seen, desk_of}
use Rattle.log_model.specs.Views.{View, after_made}
use Rattle.log_model.specs.declared.job.Job.{Job}
use Rattle.log_model.specs.declared.made.Made.{Made}
use Rattle.log_model.specs.declared.made.Report.{Report}
use Rattle.log_model.specs.declared.row_kind.Actor.{Actor}
use Rattle.std.proofs.Common.{Bool, List, [], Some, ap, inl, inr, refl, subst, sym, true, ℕ, ◌∷◌, ◌≡◌, ◌⊎◌}
use Rattle.std.specs.Prelude.{option_map}
use Rattle.tab_ids.specs.declared.ProcId.{ProcId}
use Rattle.seen_facts.proofs.Transit.Again.{all_were, keeps_at, one_desk, same_places, ways_again}
use Rattle.seen_facts.specs.Transit.Orders.{HasSome, IsOutstanding, TellsOf}
use Rattle.seen_facts.specs.Transit.Waiting.{AreOnTheirWay}
use Rattle.log_model.specs.declared.made.Report.TheVariants as reports
use Rattle.log_model.specs.declared.row_kind.RowKind.TheVariants as rows

behind : (P : Job → Type 0) (first : Report) (xs ys : List Report) → (HasSome (TellsOf P) xs → HasSome (TellsOf P) ys) → HasSome (TellsOf P) (first ∷ xs) → HasSome (TellsOf P) (first ∷ ys)
behind P first xs ys rest h = by_case h.there
  where
    by_case : (first ≡ h.it) ⊎ Has xs h.it → HasSome (TellsOf P) (first ∷ ys)
    by_case (inl same) = record { it = h.it; there = inl same; is = h.is }
    by_case (inr more) =
        let r = rest (record { it = h.it; there = more; is = h.is }) in
        record { it = r.it; there = inr r.there; is = r.is }

joined_told : (P : Job → Type 0) (made : Made) (waiting : List Report) → HasSome (TellsOf P) waiting → HasSome (TellsOf P) (reports_joined made waiting)
joined_told P made [] h = absurd h.there
joined_told P made (reports.Done job outcome m ∷ []) h = by_case h.there
  where
    by_case : (reports.Done job outcome m ≡ h.it) ⊎ ⊥ → HasSome (TellsOf P) (reports.Done job outcome (Some made) ∷ [])
    by_case (inl same) =
        record { it = reports.Done job outcome (Some made); there = inl refl; is = subst (TellsOf P) (sym same) h.is }
    by_case (inr never) = absurd never
joined_told P made (reports.Done job outcome m ∷ (x ∷ waiting)) h =
    behind P (reports.Done job outcome m) (x ∷ waiting) (reports_joined made (x ∷ waiting)) (joined_told P made (x ∷ waiting)) h
joined_told P made (reports.Made m ∷ waiting) h =
    behind P (reports.Made m) waiting (reports_joined made waiting) (joined_told P made waiting) h
joined_told P made (reports.Died death ∷ waiting) h =
    behind P (reports.Died death) waiting (reports_joined made waiting) (joined_told P made waiting) h

joined_outstanding : (P : Job → Type 0) (made : Made) (desk : Desk) → IsOutstanding P desk → IsOutstanding P (record desk { reports = reports_joined made desk.reports })
joined_outstanding P made desk (inl h) = inl h
joined_outstanding P made desk (inr h) = inr (joined_told P made desk.reports h)

pub joined_ways : (s : Seen) (event : ℕ) (actor : Actor) (proc : ProcId) (made : Made) → follows_finished s (record { event = event; actor = actor; row = rows.Made proc made }) ≡ true → AreOnTheirWay s → AreOnTheirWay (next s event actor (rows.Made proc made))
joined_ways s event actor proc made follows ways =
    ways_again s t
    (one_desk s t proc (λ (desk : Desk). record desk { reports = reports_joined made desk.reports }) (ap (λ (b : Bool). on_desk proc (desks_made b made) s.desks) follows) (λ desk. refl) (λ P. joined_outstanding P made (desk_of s proc)))
    (same_places s t refl)
    (all_were s t _ (keeps_at made.doc (λ d. record d { view = option_map (λ (view : View). after_made view made.what) d.view }) (record { nr = λ d. refl; proc = λ d. refl; dead = λ d e. e; unmade = λ d e. e })) refl)
    ways
  where
    t : Seen
    t = next s event actor (rows.Made proc made)
