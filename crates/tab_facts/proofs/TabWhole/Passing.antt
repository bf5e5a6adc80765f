-- What leads on with something at hand that is no new entry leads on without it.
use Rattle.seen_facts.specs.Coord.Epochs.{IsWithin}
use Rattle.seen_facts.specs.Coord.Flowing.{Flows}
use Rattle.seen_facts.specs.Coord.Leading.{Leads, held_back}
use Rattle.seen_facts.specs.Fragment.Waiting.{FlowsWith}
use Rattle.tab_facts.proofs.FrameTab.Skips.{IsNoEntry, Skips, skips_append, skips_same}
use Rattle.tab_facts.proofs.FrameWhole.FlowsAlike.{held_within, if_leads}
use Rattle.tab_facts.proofs.FrameWhole.FlowsEnds.{faces_skip, pushes_skip}
use Rattle.tab_facts.specs.FrameWhole.Untold.{FlowsIf}
use Rattle.log_model.specs.AfterRequests.{made_of_report}
use Rattle.log_model.specs.Seen.{Desk, Document, Seen, desk_of}
use Rattle.log_model.specs.declared.made.Made.{Made}
use Rattle.log_model.specs.declared.row.Row.{Row}
use Rattle.std.proofs.Common.{List, Option, [], append-nil, inl, refl, subst, ℕ, ◌++◌, ◌∙◌, ◌∷◌, sym}
use Rattle.std.specs.Prelude.{filter_map}
use Rattle.tab_ids.specs.declared.EntryId.{EntryId}
use Rattle.tab_ids.specs.declared.Epoch.{Epoch}

-- with these at hand, what leads on in full does so
pub flows_if_with : (hand : List Made) (s : Seen) → FlowsWith hand s → FlowsIf hand s
flows_if_with hand s flows =
    record {
      leads = λ nav place doc d placed wakes found has. if_leads s.history.rows (held_back s.requests s.parked ++ hand) (desk_of s d.proc) d place.given place.epoch (flows.leads nav place doc d placed wakes found);
      whose = flows.whose;
      reaches = flows.reaches;
      within = flows.within;
    }

-- what goes is no entry
abbrev Goes : Made → Type 0
Goes made = IsNoEntry made.what

module _ (held : List Made) (made : Made) (none : IsNoEntry made.what) where
  goes : (rest : List Made) → Skips Goes ((held ++ made ∷ []) ++ rest) (held ++ rest)
  goes rest =
      skips_append Goes (held ++ made ∷ []) held rest rest
      (subst (λ (l : List Made). Skips Goes (held ++ made ∷ []) l) (append-nil held) (skips_append Goes held held (made ∷ []) [] (skips_same Goes held) (inl (none, refl))))
      (skips_same Goes rest)

  leads_without : (rows : List Row) (desk : Desk) (d : Document) (given : Option EntryId) (epoch : Epoch) → Leads rows (held ++ made ∷ []) desk d given epoch → Leads rows held desk d given epoch
  leads_without rows desk d given epoch is =
      record {
        face = is.face;
        is_given = is.is_given;
        is_row = is.is_row;
        view = is.view;
        pending = is.pending;
        leads = faces_skip Goes d.nr epoch (λ m gone under. gone) ((held ++ made ∷ []) ++ rest) (held ++ rest) (goes rest) is.face ∙ is.leads;
        runs = is.runs;
        in_epoch = is.in_epoch;
        pair = λ no_push. is.pair (sym (pushes_skip Goes d.nr epoch (λ m gone under. gone) ((held ++ made ∷ []) ++ rest) (held ++ rest) (goes rest)) ∙ no_push);
      }
    where
      rest : List Made
      rest = filter_map made_of_report desk.reports

  within_without : (desk : Desk) (d : Document) (bound : ℕ) → IsWithin (held ++ made ∷ []) desk d bound → IsWithin held desk d bound
  within_without desk d bound is =
      record {
        view = is.view;
        orders = is.orders;
        held_back = (held_within bound d.nr held (made ∷ []) is.held_back).0;
        reports = is.reports;
      }

pub flows_without_it : (s : Seen) (made : Made) → IsNoEntry made.what → FlowsWith (made ∷ []) s → Flows s
flows_without_it s made none flows =
    record {
      leads = λ nav place doc d placed wakes found. leads_without (held_back s.requests s.parked) made none s.history.rows (desk_of s d.proc) d place.given place.epoch (flows.leads nav place doc d placed wakes found);
      whose = flows.whose;
      reaches = flows.reaches;
      within = λ doc d place found placed. within_without (held_back s.requests s.parked) made none (desk_of s d.proc) d place.epoch.0 (flows.within doc d place found placed);
    }
