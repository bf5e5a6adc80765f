-- A document makes something of its first poke: what is on its way for each document stays so.
use Rattle.std.proofs.Common.{◌≡◌, ℕ, ◌+◌, Bool, false, ◌==◌, List, ◌++◌, Some, refl, sym, ap, ◌∙◌, subst, arith, append-nil}
use Rattle.std.proofs.lemmas.Bool.Decides.{nat_tests}
use Rattle.tab_ids.specs.declared.DocId.{DocId}
use Rattle.tab_ids.specs.declared.Epoch.{Epoch}
use Rattle.tab_ids.specs.declared.NavId.{NavId}
use Rattle.tab_ids.specs.declared.ProcId.{ProcId}
use Rattle.log_model.specs.declared.made.Made.{Made}
use Rattle.log_model.specs.declared.made.What.{What}
use Rattle.log_model.specs.declared.request.Poke.{Poke}
use Rattle.log_model.specs.declared.row_kind.Actor.TheVariants as actors
use Rattle.log_model.specs.declared.row_kind.LogRow.{LogRow}
use Rattle.log_model.specs.declared.row_kind.RowKind.TheVariants as rows
use Rattle.log_model.specs.Views.{View, made_for}
use Rattle.log_model.specs.Seen.{Seen, Document, Desk, Asked, Place, awake, document_of, desk_of, place_of}
use Rattle.log_model.specs.After.{after, on_desk, desks_made, desk_made, follows_finished}
use Rattle.seen_laws.specs.Acting.{IsToAct}
use Rattle.seen_laws.proofs.Keyed.{find_has}
use Rattle.seen_facts.specs.Coord.Leading.{is_made_under, held_back, coming, Leads, EachLeads}
use Rattle.seen_facts.specs.Coord.Reaching.{Reaches, EachReaches}
use Rattle.seen_facts.proofs.Coord.Leadings.{as_placed, IsOneChange, one_stays, LeadsIn, at_home, leads_again}
use Rattle.seen_facts.proofs.Coord.OneDocument.{LooksAlike, leads_alike}
use Rattle.seen_facts.proofs.Coord.OneMade.{coming_so, none_told, once_made, making_leads}

-- what another document made isn't coming from this one
made_elsewhere : (held : List Made) (desk : Desk) (made : Made) (d : Document) (epoch : Epoch) → (made.doc.0 == d.nr.0) ≡ false → LooksAlike held desk (desk_made made desk) d d epoch
made_elsewhere held desk made d epoch apart =
    let none : is_made_under d.nr epoch made ≡ false = rw apart refl in
    record {
      pending = refl;
      coming = coming_so held desk made d.nr epoch ∙ ap (λ (l : List Made). coming held desk d.nr epoch ++ l) (none_told d.nr epoch made made.what none) ∙ append-nil (coming held desk d.nr epoch);
      told = refl;
    }

module _ (s : Seen) (proc : ProcId) (poke : Poke) (q : Asked) (of : NavId) (d : Document) (view : View) (what : What) (acts : IsToAct s proc poke q of d view) (reaches : EachReaches s) where
  abbrev made : Made
  made = made_for view poke.req what

  abbrev row : LogRow
  row = record { event = s.events; actor = actors.Proc proc; row = rows.Made proc made }

  abbrev after_making : Seen
  after_making = after s row

  -- the row begins an event, so it isn't of an order that was just finished
  pub unfollowed : follows_finished s row ≡ false
  unfollowed =
      let anew : (s.events == (s.events + 1)) ≡ false = grind (arith, nat_tests) in rw anew refl

  -- the number of the document
  its : view.doc ≡ d.nr
  its =
      ap (λ (n : ℕ). let x : DocId = record { 0 = n } in x) (sym (find_has (λ (x : Document). x.nr.0) view.doc.0 s.documents d acts.there))

  own : EachLeads s → (nav : NavId) (place : Place) (old : Document) → place_of after_making nav ≡ Some place → place.status ≡ awake view.doc → document_of s view.doc ≡ Some old → Leads s.history.rows (held_back s.requests s.parked) (desk_made made (desk_of s proc)) (once_made what old) place.given place.epoch
  own each nav place old placed wakes there =
      let same : d ≡ old = (let some : Some d ≡ Some old = sym acts.there ∙ there in cc) in
      let was : Leads s.history.rows (held_back s.requests s.parked) (desk_of s proc) d place.given place.epoch = at_home s proc d place.given place.epoch acts.home (each nav place view.doc d placed wakes acts.there) in
      let on : Reaches (desk_of s proc) d place.epoch = subst (λ (p : ProcId). Reaches (desk_of s p) d place.epoch) acts.home (reaches nav place view.doc d placed wakes acts.there) in
      subst (λ (x : Document). Leads s.history.rows (held_back s.requests s.parked) (desk_made made (desk_of s proc)) (once_made what x) place.given place.epoch) same
      (making_leads s.history.rows (held_back s.requests s.parked) (desk_of s proc) d view poke.req what place.given place.epoch acts.has its on was)

  made_change : EachLeads s → IsOneChange (LeadsIn s) s after_making proc (desk_made made) view.doc (once_made what)
  made_change each =
      record {
        desks = ap (λ (b : Bool). on_desk proc (desks_made b made) s.desks) unfollowed;
        documents = refl;
        keeps_proc = λ desk. refl;
        keeps_number = λ x. refl;
        stays = λ x. refl;
        home = λ x there. (let same : d ≡ x = (let some : Some d ≡ Some x = sym acts.there ∙ there in cc) in ap (λ (y : Document). y.proc) (sym same) ∙ acts.home);
        own = own each;
        others = λ nav place at placed wakes apart. as_placed s nav place placed;
        other = λ x given epoch apart leads. leads_alike s.history.rows (held_back s.requests s.parked) (desk_of s proc) (desk_made made (desk_of s proc)) x x given epoch (made_elsewhere (held_back s.requests s.parked) (desk_of s proc) made x epoch apart) leads;
      }

  -- where the request isn't one that is held back, what leads for each document leads on
  pub made_leads : held_back after_making.requests s.parked ≡ held_back s.requests s.parked → EachLeads s → EachLeads after_making
  made_leads held each =
      leads_again s after_making refl held (one_stays (LeadsIn s) s after_making proc (desk_made made) view.doc (once_made what) (made_change each) each)
