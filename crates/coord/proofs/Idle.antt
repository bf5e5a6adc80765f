-- An event in which the coordinator itself does nothing, and which changes nothing: where its tables, its queue and its notes stand for the log after the event's rows, and fragment orders find their documents running, it has acted.
use Rattle.log_model.specs.Seen.{Seen}
use Rattle.coord.proofs.Asides.{IsPlain}
use Rattle.tab_doors.proofs.Uncut.{uncut_now}
use Rattle.coord.proofs.Fines.{AppliesNone}
use Rattle.coord.specs.Standing.{HasActed, IsOpenIn, IsOpenTo, StandsFor}
use Rattle.coord.specs.declared.coordinator.Coordinator.{Coordinator}
use Rattle.seen_facts.specs.Hang.Members.{Has}
use Rattle.log_model.specs.declared.change.Change.{Change}
use Rattle.log_model.specs.declared.row_kind.RowKind.{RowKind}
use Rattle.tab_facts.proofs.Running.Over.{running_after}
use Rattle.tab_facts.proofs.Running.Tells.{telling_after}
use Rattle.tab_facts.specs.Running.Fitting.{IsFittingRow}
use Rattle.tab_facts.specs.Running.Running.{AreFoundRunning}
use Rattle.tab_facts.specs.Running.Telling.{AreTelling, EndsNoFragment}
use Rattle.seen_laws.specs.InEvent.{InEvent, log_of, now_of}
use Rattle.slot_facts.specs.Slots.{AreSlots}
use Rattle.std.proofs.Common.{List, [], inl, inr, subst, sym, ◌∷◌, ◌≡◌, Bool}
use Rattle.tab_ids.specs.declared.ReqId.{ReqId}
use Rattle.tab_stands.specs.Standing as tab
use Rattle.log_model.specs.declared.row_kind.RowKind.TheVariants as rows

-- the rows change nothing
abbrev pub ApplyNone : List RowKind → Type 0
ApplyNone [] = Unit {0}
ApplyNone (row ∷ more) = AppliesNone row × ApplyNone more

applies_none : (out : List RowKind) → ApplyNone out → (req : ReqId) (change : Change) → Has out (rows.Applied req change) → ⊥
applies_none [] none req change has = has
applies_none (row ∷ more) none req change (inl is) = subst AppliesNone is none.0
applies_none (row ∷ more) none req change (inr has) = applies_none more none.1 req change has

-- after these rows the coordinator stands for the log, where all that it keeps does
pub stands_then : (e : InEvent) (c : Coordinator) → IsOpenIn e c → (out : List RowKind) → tab.StandsFor tab.none_in_check (log_of e out) c.tables c.queue c.blame.entries → tab.LastsInLog e.checking c.tables.asking (log_of e out) → IsPlain e out → AreFoundRunning (now_of e out) → AreTelling (now_of e out) → AreSlots (log_of e out) c.slots.entries → StandsFor (log_of e out) c
stands_then e c open_ out stands lasts at found telling slots =
    record {
      but = record {
        stands = stands;
        keep = open_.stands.keep;
        lasts = subst (λ (checking : ReqId → Bool). tab.LastsInLog checking c.tables.asking (log_of e out)) open_.unchecked lasts;
        plain = at.plain;
        unchecked = open_.stands.unchecked;
        found = subst AreFoundRunning (sym at.same) found;
        telling = subst AreTelling (sym at.same) telling;
      };
      slots = slots;
    }

-- what the tables stand for without questions they stand for
pub as_idled : (e : InEvent) (c : Coordinator) (out : List RowKind) → IsPlain e out → tab.HasActed tab.none_in_check e out c.tables c.queue c.blame.entries → tab.HasIdled tab.none_in_check e out c.tables c.queue c.blame.entries
as_idled e c out at acted =
    record {
      stands = subst (λ (x : Seen). tab.StandsFor tab.none_in_check x c.tables c.queue c.blame.entries) (sym at.same) acted.stands;
      lasts = acted.lasts;
      passes = acted.passes;
    }

pub idle_acts : (e : InEvent) (c : Coordinator) → IsOpenTo e c → (out : List RowKind) → ApplyNone out → tab.HasIdled tab.none_in_check e out c.tables c.queue c.blame.entries → IsPlain e out → AreFoundRunning (now_of e out) → AreTelling (now_of e out) → AreSlots (log_of e out) c.slots.entries → HasActed e out c
idle_acts e c open_ out none acted at found telling slots =
    record {
      stands = stands_then e c open_.in_ out acted.stands acted.lasts at found telling slots;
      header = open_.in_.header;
      passes = acted.passes;
      off = λ req change has. absurd (applies_none out none req change has);
    }

-- ---- the own row

module _ (e : InEvent) (c : Coordinator) (open_ : IsOpenTo e c) (kind : RowKind) (own : e.own ≡ kind) (at : IsPlain e []) where
  pub found_now : IsFittingRow e.start kind → AreFoundRunning (now_of e [])
  found_now fits =
      subst AreFoundRunning (uncut_now e open_.in_.uncut at.same) (running_after e.start e.event e.actor open_.in_.stands.found e.own (subst (IsFittingRow e.start) (sym own) fits))

  pub telling_now : EndsNoFragment e.start kind → AreTelling (now_of e [])
  telling_now ends =
      subst AreTelling (uncut_now e open_.in_.uncut at.same) (telling_after e.start e.event e.actor open_.in_.stands.telling e.own (subst (EndsNoFragment e.start) (sym own) ends))

  -- the event has no other row
  pub alone_acts : IsFittingRow e.start kind → EndsNoFragment e.start kind → AreSlots (log_of e []) c.slots.entries → tab.HasIdled tab.none_in_check e [] c.tables c.queue c.blame.entries → HasActed e [] c
  alone_acts fits ends slots acted = idle_acts e c open_ [] tt acted at (found_now fits) (telling_now ends) slots
