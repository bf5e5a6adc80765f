-- Between the two parts of a pass the user was asked, and the rows behind the prompts spare the documents for whose sake the user was asked: the run had ended, or no document is stray any more.
use Rattle.checking_facts.specs.Prompts.{Told, tell_for, tell_row, told_by}
use Rattle.log_model.specs.Equal.{has_doc}
use Rattle.log_model.specs.declared.job.Why.{Why}
use Rattle.log_model.specs.declared.row_kind.RowKind.{RowKind}
use Rattle.move_queue.specs.Queue.{Queue}
use Rattle.seen_facts.specs.Hang.Members.{Has}
use Rattle.seen_laws.specs.InEvent.{EndAsWanted, log_of, now_of, row_of}
use Rattle.std.proofs.Common.{Bool, List, None, Option, [], ap, inl, inr, map, subst, sym, true, false, ◌++◌, ◌∙◌, ◌∷◌, ◌≡◌, ◌⊎◌}
use Rattle.std.proofs.lemmas.List.Sums.{fold-append}
use Rattle.std.specs.Option.{option_map_or}
use Rattle.tab_doors.specs.declared.tables.Tables.{Tables}
use Rattle.tab_ids.specs.declared.DocId.{DocId}
use Rattle.tab_ids.specs.declared.ReqId.{ReqId}
use Rattle.tab_ids.specs.declared.StateId.{StateId}
use Rattle.tab_prompts.proofs.Resumed.{its_finished, its_pass, its_prompts, its_spared, its_table}
use Rattle.tab_prompts.proofs.Settled.{ends_then, spared_ended}
use Rattle.tab_prompts.proofs.Sparing.{spares_put}
use Rattle.tab_prompts.proofs.Works.{prompts_are, same_prompted}
use Rattle.tab_prompts.specs.Asking.{AreApart, AreUnderWay, BeginsAsked}
use Rattle.tab_prompts.specs.Prompts.{is_waiting}
use Rattle.tab_prompts.specs.Sparing.{spares}
use Rattle.tab_serves.specs.Serving.{DiscardsNone}
use Rattle.tab_settles.specs.PassedOn.{HasOnly, InPass}
use Rattle.tab_settles.specs.Held.{EndsRun, NoneStray}
use Rattle.tab_settles.specs.Settling.{IsReadyIn}
use Rattle.unload_check.specs.Checks.{OpenCheck}

-- no run lasts behind a row that discards nothing
pub ended_run : (ran : List DocId) (checks : List (ReqId × OpenCheck)) (out : List RowKind) → EndsRun out → (told_by ran checks out).run ≡ []
ended_run ran checks out ends =
    ap (λ (l : List RowKind). (told_by ran checks l).run) ends.is
    ∙ ap (λ (told : Told). told.run) (fold-append tell_row (record { checks = checks; run = ran }) ends.before (ends.last ∷ []))
    ∙ ap (λ (o : Option DocId). (tell_for (told_by ran checks ends.before) o).run) ends.none

module _ {sweeps : Bool} (p : InPass) (out : List RowKind) (t : Tables) (queue : Queue) (blame : List (StateId × ReqId)) (cause : Why) (ready : IsReadyIn sweeps p out t queue blame cause) (begins : BeginsAsked p.event t.checks) (waited : List ReqId) (apart : AreApart waited) (waits : (req : ReqId) → Has waited req → is_waiting t.checks req ≡ true) (go : AreUnderWay (log_of p.event out) waited) where
  abbrev then_ : InPass
  then_ = its_pass p out t queue blame cause ready begins waited apart waits go

  abbrev asked : List RowKind
  asked = its_prompts p out t queue blame cause ready begins waited apart waits go

  abbrev wanted : List DocId
  wanted = its_spared p out t queue blame cause ready begins waited apart waits go

  -- no document is stray then still
  none_then : NoneStray (now_of p.event out) → NoneStray (now_of then_.event [])
  none_then none = subst NoneStray (sym (same_prompted p.event out asked (prompts_are (its_table p out t queue blame cause ready begins waited apart waits go) waited) (its_finished p out t queue blame cause ready begins waited apart waits go) (spares wanted) [])) none

  -- so what follows spares those documents, if it discards none where none is stray
  pub spared_then : EndsRun out ⊎ NoneStray (now_of p.event out) → (more : List RowKind) → (NoneStray (now_of then_.event []) → HasOnly DiscardsNone [] more) → spares wanted (map (row_of p.event) more) ≡ true
  spared_then (inl ends) more quiet =
      spared_ended None p.event out t ready.passing.work begins waited apart waits go (ended_run p.event.ran t.checks out ends) (map (row_of p.event) more)
  spared_then (inr none) more quiet =
      let only = quiet (none_then none) in
      spares_put wanted p.event more (λ kind has. ap (λ (o : Option DocId). option_map_or (has_doc wanted) o false) (only.each kind (subst (λ (l : List RowKind). Has l kind) only.is has)))

  -- and all is as it was wanted, where it was before
  pub wanted_then : EndsRun out ⊎ NoneStray (now_of p.event out) → (more : List RowKind) → (NoneStray (now_of then_.event []) → HasOnly DiscardsNone [] more) → EndAsWanted p.event ((out ++ asked) ++ more) → EndAsWanted then_.event more
  wanted_then ends more quiet was =
      ends_then None p.event out t ready.passing.work begins waited apart waits go more (spared_then ends more quiet) was
