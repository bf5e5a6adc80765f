-- The coordinator of a tab that was just opened stands for its log.
use Rattle.load_table.specs.declared.load.Load.{Load}
use Rattle.unload_check.specs.Checks.{check_of}
use Rattle.log_model.specs.Seen.{nothing}
use Rattle.unasked.proofs.Events.{opened_seen}
use Rattle.coord.specs.Standing.{StandsFor, nobody}
use Rattle.coord.specs.declared.coordinator.Coordinator.{Coordinator}
use Rattle.log_model.specs.declared.header.Header.{Header}
use Rattle.page_cache.specs.Kept.{Kept}
use Rattle.slot_facts.proofs.Opened.{opened_slots}
use Rattle.slot_facts.specs.Slots.{AreSlots}
use Rattle.std.proofs.Common.{List, None, [], ap, subst, sym, ℕ, ◌∙◌, ◌≡◌}
use Rattle.tab_doors.specs.Noting.{IsFresh}
use Rattle.tab_ids.specs.declared.DocId.{DocId}
use Rattle.tab_ids.specs.declared.ProcId.{ProcId}
use Rattle.tab_ids.specs.declared.ReqId.{ReqId}
use Rattle.tab_ids.specs.declared.StateId.{StateId}
use Rattle.tab_stands.proofs.Opened as opening
use Rattle.tab_stands.specs.Standing as tab
use Rattle.tab_stands.specs.Standing.{opened_at}
use Rattle.tab_facts.proofs.Running.Rows.{opened_running}
use Rattle.tab_facts.proofs.Running.Tells.{opened_telling}
use Rattle.log_model.specs.declared.row_kind.Actor.TheVariants as actors

pub fresh_stands : (header : Header) (proc : ProcId) (c : Coordinator) → c.header ≡ header → IsFresh header.first proc header.keep c.tables → c.queue ≡ record { waiting = []; parked = [] } → c.blame.entries ≡ [] → c.slots.entries ≡ [] → StandsFor (opened_at header.first proc) c
fresh_stands header proc c same fresh empty none unslotted =
    record {
      but = record {
        stands =
            subst (λ (l : List (StateId × ReqId)). tab.StandsFor tab.none_in_check (opened_at header.first proc) c.tables c.queue l) (sym none)
            (opening.fresh_stands header.first proc header.keep c.tables c.queue fresh empty);
        keep = ap (λ (k : Kept). k.keep) fresh.kept ∙ ap (λ (h : Header). h.keep) (sym same);
        lasts = subst (λ (l : List Load). tab.LastsInLog nobody l (opened_at header.first proc)) (sym fresh.asking) (opening.fresh_lasts header.first proc nobody);
        unchecked = λ req. ap (check_of req) fresh.checks;
        plain = opened_seen nobody nothing 0 actors.Start (record { maker = 0; nr = 1 }) (record { 0 = 1 }) (record { 0 = 1 }) proc None header.first;
        found = opened_running 0 actors.Start (record { maker = 0; nr = 1 }) (record { 0 = 1 }) (record { 0 = 1 }) proc None header.first;
        telling = opened_telling 0 actors.Start (record { maker = 0; nr = 1 }) (record { 0 = 1 }) (record { 0 = 1 }) proc None header.first;
      };
      slots =
          subst (λ (l : List (DocId × ℕ)). AreSlots (opened_at header.first proc) l) (sym unslotted)
          (opened_slots nothing 0 actors.Start (record { maker = 0; nr = 1 }) (record { 0 = 1 }) (record { 0 = 1 }) proc None header.first);
    }
