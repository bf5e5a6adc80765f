-- A document makes something of the first poke of its process, or the process refuses that: the coordinator has acted, which does nothing itself.
use Rattle.tab_stands.proofs.PassedOn.{rows_slots}
use Rattle.coord.proofs.Asides.{IsPlain, made_plain, off, one_goes, plain_more, refused_plain, start_lasts, seen_stands, start_asks}
use Rattle.coord.specs.Standing.{HasActed, IsOpenTo}
use Rattle.coord.specs.declared.coordinator.Coordinator.{Coordinator}
use Rattle.coord.proofs.Idle.{alone_acts, found_now, stands_then, telling_now, as_idled}
use Rattle.coord.proofs.Slots.{own_slots}
use Rattle.log_model.specs.AfterRequests.{is_running}
use Rattle.log_model.specs.Seen.{Document, desk_of, document_of}
use Rattle.log_model.specs.Views.{View, made_by, made_for}
use Rattle.log_model.specs.declared.change.Change.{Change}
use Rattle.log_model.specs.declared.change.Change.TheVariants as changes
use Rattle.log_model.specs.declared.made.Made.{Made}
use Rattle.log_model.specs.declared.made.What.{What}
use Rattle.log_model.specs.declared.made.What.TheVariants as whats
use Rattle.log_model.specs.declared.request.Poke.{Poke}
use Rattle.log_model.specs.declared.row_kind.RowKind.{RowKind}
use Rattle.seen_facts.specs.Hang.Members.{Has}
use Rattle.seen_facts.specs.LoadEnds.Standing.{is_change_unsettled}
use Rattle.seen_laws.specs.Acting.{IsNoEdit}
use Rattle.seen_laws.specs.InEvent.{InEvent, log_of, EachGoes, IsReadOff}
use Rattle.std.proofs.Common.{List, None, Some, [], false, inl, inr, refl, subst, true, ◌∷◌, ◌≡◌, ap, not}
use Rattle.std.specs.Prelude.{slice_get}
use Rattle.tab_acts.proofs.Acts as acts
use Rattle.tab_acts.proofs.Edits as edits
use Rattle.tab_facts.proofs.Running.Over.{running_over}
use Rattle.tab_facts.proofs.Running.Tells.{telling_over}
use Rattle.tab_facts.specs.Order.Orders.{IsOfCoord}
use Rattle.tab_ids.specs.declared.ProcId.{ProcId}
use Rattle.tab_ids.specs.declared.ReqId.{ReqId}
use Rattle.tab_stands.specs.Standing as tab
use Rattle.unasked.proofs.Ends.{applied_seen}
use Rattle.log_model.specs.declared.outcome.Denial.TheVariants as denials
use Rattle.log_model.specs.declared.row_kind.Actor.TheVariants as actors
use Rattle.log_model.specs.declared.row_kind.RowKind.TheVariants as rows

module _ (e : InEvent) (c : Coordinator) (open_ : IsOpenTo e c) (proc : ProcId) (poke : Poke) (first : slice_get (desk_of e.start proc).input 0 ≡ Some poke) (by : e.actor ≡ actors.Proc proc) (event : e.event ≡ e.start.events) where
  -- the poked document runs
  module _ (d : Document) (view : View) (found : document_of e.start poke.doc ≡ Some d) (has : d.view ≡ Some view) (runs : view.running ≡ true) where
    -- it makes something, but no edit
    pub made_acts : (what : What) → made_by view poke.action ≡ Some what → IsNoEdit what → e.own ≡ rows.Made proc (made_for view poke.req what) → HasActed e [] c
    made_acts what makes no_edit own =
        alone_acts e c open_ (rows.Made proc (made_for view poke.req what)) own (made_plain e c open_.in_ proc (made_for view poke.req what) event own) tt tt
        (own_slots e c.slots.entries open_.in_.uncut (rows.Made proc (made_for view poke.req what)) own tt open_.slots)
        (as_idled e c [] (made_plain e c open_.in_ proc (made_for view poke.req what) event own) (acts.made_acts e c.tables c.queue c.blame.entries (seen_stands e c open_.in_) (start_lasts e c open_.in_) (start_asks e c open_.in_) open_.in_.room proc poke first d view found has runs what makes no_edit open_.in_.uncut by event own))

    -- it edits itself, which is applied at once
    pub edit_acts : made_by view poke.action ≡ Some whats.Edit → e.own ≡ rows.Made proc (made_for view poke.req whats.Edit) → HasActed e (rows.Applied poke.req changes.Edit ∷ []) c
    edit_acts makes own =
        record {
          stands =
              stands_then e c open_.in_ out its.stands its.lasts at
              (running_over e out [] (tt, tt) goes (found_now e c open_ (rows.Made proc made) own accepted tt))
              (telling_over e out [] goes of_coord (telling_now e c open_ (rows.Made proc made) own accepted tt))
              (rows_slots e c.slots.entries out [] of_coord (own_slots e c.slots.entries open_.in_.uncut (rows.Made proc made) own tt open_.slots));
          header = open_.in_.header;
          passes = its.passes;
          off = λ req change has. is_off req change has;
        }
      where
        made : Made
        made = made_for view poke.req whats.Edit

        out : List RowKind
        out = rows.Applied poke.req changes.Edit ∷ []

        accepted : IsPlain e []
        accepted = made_plain e c open_.in_ proc (made_for view poke.req whats.Edit) event own

        applied_read : IsReadOff e [] (rows.Applied poke.req changes.Edit)
        applied_read =
            applied_seen e.checking (log_of e []) e.event e.actor poke.req changes.Edit (λ q there. off e c open_.in_ q.nr)

        goes : EachGoes e [] (rows.Applied poke.req changes.Edit ∷ [])
        goes =
            one_goes e (rows.Applied poke.req changes.Edit) (record { seen = ap not (off e c open_.in_ poke.req); read = applied_read })

        at : IsPlain e (rows.Applied poke.req changes.Edit ∷ [])
        at =
            plain_more e c open_.in_ [] (rows.Applied poke.req changes.Edit) applied_read accepted

        its : tab.HasIdled tab.none_in_check e (rows.Applied poke.req changes.Edit ∷ []) c.tables c.queue c.blame.entries
        its =
            as_idled e c (rows.Applied poke.req changes.Edit ∷ []) at (edits.edit_acts e c.tables c.queue c.blame.entries (seen_stands e c open_.in_) (start_lasts e c open_.in_) (start_asks e c open_.in_) open_.in_.room proc poke first d view found has runs makes open_.in_.uncut by event own)

        of_coord : (row : RowKind) → Has (rows.Applied poke.req changes.Edit ∷ []) row → IsOfCoord row
        of_coord row (inl is) = subst (λ (r : RowKind). IsOfCoord r) is tt
        of_coord row (inr never) = absurd never

        -- an edit moves no navigable
        is_off : (req : ReqId) (change : Change) → Has (rows.Applied poke.req changes.Edit ∷ []) (rows.Applied req change) → is_change_unsettled (log_of e (rows.Applied poke.req changes.Edit ∷ [])) req change ≡ true
        is_off req change (inr never) = absurd never
        is_off req change (inl is) =
            let same : changes.Edit ≡ change = cc in
            subst (λ (x : Change). is_change_unsettled (log_of e (rows.Applied poke.req changes.Edit ∷ [])) req x ≡ true) same refl

    -- the address is none for it
    pub no_address_acts : made_by view poke.action ≡ None → e.own ≡ rows.Refused poke.req denials.BadAddress → HasActed e [] c
    no_address_acts none own =
        alone_acts e c open_ (rows.Refused poke.req denials.BadAddress) own (refused_plain e c open_.in_ poke.req denials.BadAddress own) tt tt
        (own_slots e c.slots.entries open_.in_.uncut (rows.Refused poke.req denials.BadAddress) own tt open_.slots)
        (as_idled e c [] (refused_plain e c open_.in_ poke.req denials.BadAddress own) (acts.refused_acts e c.tables c.queue c.blame.entries (seen_stands e c open_.in_) (start_lasts e c open_.in_) (start_asks e c open_.in_) open_.in_.room proc poke first (off e c open_.in_ poke.req) denials.BadAddress open_.in_.uncut by event own (acts.no_address_passes e c.tables c.queue c.blame.entries (seen_stands e c open_.in_) (start_lasts e c open_.in_) (start_asks e c open_.in_) open_.in_.room proc poke first d view found has runs none)))

  -- the poked document is gone, or doesn't run
  pub no_document_acts : is_running e.start poke.doc ≡ false → e.own ≡ rows.Refused poke.req denials.NoDocument → HasActed e [] c
  no_document_acts stopped own =
      alone_acts e c open_ (rows.Refused poke.req denials.NoDocument) own (refused_plain e c open_.in_ poke.req denials.NoDocument own) tt tt
      (own_slots e c.slots.entries open_.in_.uncut (rows.Refused poke.req denials.NoDocument) own tt open_.slots)
      (as_idled e c [] (refused_plain e c open_.in_ poke.req denials.NoDocument own) (acts.refused_acts e c.tables c.queue c.blame.entries (seen_stands e c open_.in_) (start_lasts e c open_.in_) (start_asks e c open_.in_) open_.in_.room proc poke first (off e c open_.in_ poke.req) denials.NoDocument open_.in_.uncut by event own (acts.no_document_passes e c.tables c.queue c.blame.entries (seen_stands e c open_.in_) (start_lasts e c open_.in_) (start_asks e c open_.in_) open_.in_.room proc poke first stopped)))
