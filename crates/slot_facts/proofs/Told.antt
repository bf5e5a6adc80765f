-- What the reports that wait tell of handlers is so still as rows change the lists of processes.
use Rattle.log_model.specs.After.{desk_dropped, on_desk, reports_joined, reports_made}
use Rattle.log_model.specs.Seen.{Desk, Document, desk_in}
use Rattle.log_model.specs.declared.made.Made.{Made}
use Rattle.log_model.specs.declared.made.Report.TheVariants as reports
use Rattle.log_model.specs.declared.made.Report.{Report}
use Rattle.log_model.specs.declared.made.What.TheVariants as whats
use Rattle.log_model.specs.declared.made.What.{What}
use Rattle.seen_facts.proofs.Coord.Leadings.{proc_same}
use Rattle.seen_facts.proofs.Each.Eaches.{each_more}
use Rattle.seen_facts.specs.Each.Items.{Each}
use Rattle.seen_laws.proofs.Desks.{desk_on_other, desk_on_same}
use Rattle.slot_facts.specs.Slots.{TellsSlot}
use Rattle.std.proofs.Common.{Bool, List, [], cond, false, map, refl, subst, sym, true, ◌==◌, ◌∷◌, ◌≡◌}
use Rattle.tab_ids.specs.declared.ProcId.{ProcId}
use Rattle.tab_ids.specs.declared.ReqId.{ReqId}

module _ (documents : List Document) where
  -- the reports of each of these desks tell so
  abbrev pub AllTell : List Desk → Type 0
  AllTell desks = (proc : ProcId) → Each (TellsSlot documents) (desk_in desks proc).reports

  abbrev Tells : Desk → Type 0
  Tells d = Each (TellsSlot documents) d.reports

  -- a change of one desk that leaves it so
  pub told_on : (f : Desk → Desk) (desks : List Desk) (at : ProcId) → ((d : Desk) → (f d).proc ≡ d.proc) → Each (TellsSlot documents) (f (desk_in desks at)).reports → AllTell desks → AllTell (on_desk at f desks)
  told_on f desks at keeps own told proc = by_proc (at.0 == proc.0) refl
    where
      by_proc : (b : Bool) → (at.0 == proc.0) ≡ b → Tells (desk_in (on_desk at f desks) proc)
      by_proc true e =
          let here : Tells (desk_in (on_desk at f desks) at) = subst Tells (sym (desk_on_same f desks at keeps)) own in
          subst (λ (p : ProcId). Tells (desk_in (on_desk at f desks) p)) (proc_same at proc e) here
      by_proc false e = subst Tells (sym (desk_on_other f desks at proc keeps e)) (told proc)

  -- a poke that is dropped leaves reports
  pub told_dropped : (req : ReqId) (desks : List Desk) → AllTell desks → AllTell (map (desk_dropped req) desks)
  told_dropped req desks told proc = subst (Each (TellsSlot documents)) (sym (same desks)) (told proc)
    where
      same : (l : List Desk) → (desk_in (map (desk_dropped req) l) proc).reports ≡ (desk_in l proc).reports
      same [] = refl
      same (desk ∷ l) = by_proc (desk.proc.0 == proc.0) (same l)
        where
          by_proc : (b : Bool) → (desk_in (map (desk_dropped req) l) proc).reports ≡ (desk_in l proc).reports → (let d : Desk = cond b (desk_dropped req desk) (desk_in (map (desk_dropped req) l) proc) in d).reports ≡ (let d : Desk = cond b desk (desk_in l proc) in d).reports
          by_proc true rest = refl
          by_proc false rest = rest

  -- what a document made is reported
  pub told_made : (waiting : List Report) (made : Made) (what : What) → Each (TellsSlot documents) waiting → Each (TellsSlot documents) (reports_made waiting made what)
  told_made waiting made (whats.Push entry memo address) told = each_more (TellsSlot documents) waiting (reports.Made made) told tt
  told_made waiting made (whats.Replace over entry memo address) told = each_more (TellsSlot documents) waiting (reports.Made made) told tt
  told_made waiting made (whats.AddFrame nav) told = each_more (TellsSlot documents) waiting (reports.Made made) told tt
  told_made waiting made (whats.RemoveFrame nav) told = each_more (TellsSlot documents) waiting (reports.Made made) told tt
  told_made waiting made (whats.Go delta) told = each_more (TellsSlot documents) waiting (reports.Made made) told tt
  told_made waiting made whats.Edit told = told

  -- or joins the report of an order
  pub told_joined : (made : Made) (waiting : List Report) → Each (TellsSlot documents) waiting → Each (TellsSlot documents) (reports_joined made waiting)
  told_joined made [] told = told
  told_joined made (reports.Done job outcome joined ∷ []) told = told
  told_joined made (reports.Done job outcome joined ∷ (next ∷ waiting)) (first, told) = (first, told_joined made (next ∷ waiting) told)
  told_joined made (reports.Made other ∷ waiting) (first, told) = (tt, told_joined made waiting told)
  told_joined made (reports.Died death ∷ waiting) (first, told) = (tt, told_joined made waiting told)
