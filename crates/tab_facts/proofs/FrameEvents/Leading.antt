-- What leads on between two events leads on between two rows of one, as long as nothing is at hand.
use Rattle.seen_facts.specs.Coord.Epochs.{IsWithin}
use Rattle.seen_facts.specs.Coord.Flowing.{Flows}
use Rattle.seen_facts.specs.Coord.Leading.{Leads, held_back}
use Rattle.tab_facts.specs.FrameWhole.Untold.{FlowsIf, LeadsIf}
use Rattle.log_model.specs.Seen.{Desk, Document, Seen, desk_of}
use Rattle.log_model.specs.declared.made.Made.{Made}
use Rattle.log_model.specs.declared.row.Row.{Row}
use Rattle.std.proofs.Common.{List, Option, [], append-nil, subst, sym, ◌++◌, ◌≡◌}
use Rattle.tab_ids.specs.declared.EntryId.{EntryId}
use Rattle.tab_ids.specs.declared.Epoch.{Epoch}

-- so it does for one document
pub leads_if : (rows_ : List Row) (held : List Made) (desk : Desk) (d : Document) (given : Option EntryId) (epoch : Epoch) → Leads rows_ held desk d given epoch → LeadsIf rows_ held desk d given epoch
leads_if rows_ held desk d given epoch is =
    record {
      face = is.face;
      is_given = is.is_given;
      is_row = is.is_row;
      view = is.view;
      pending = is.pending;
      leads = is.leads;
      runs = is.runs;
      in_epoch = is.in_epoch;
      pair = λ none told. is.pair none;
    }

-- and for all
pub flows_if : (s : Seen) → Flows s → FlowsIf [] s
flows_if s flows =
    record {
      leads = λ nav place doc d placed wakes found has. leads_if s.history.rows (held_back s.requests s.parked ++ []) (desk_of s d.proc) d place.given place.epoch (subst (λ (l : List Made). Leads s.history.rows l (desk_of s d.proc) d place.given place.epoch) (sym none) (flows.leads nav place doc d placed wakes found));
      whose = flows.whose;
      reaches = flows.reaches;
      within = λ doc d place found placed. subst (λ (l : List Made). IsWithin l (desk_of s d.proc) d place.epoch.0) (sym none) (flows.within doc d place found placed);
    }
  where
    none : held_back s.requests s.parked ++ [] ≡ held_back s.requests s.parked
    none = append-nil (held_back s.requests s.parked)
