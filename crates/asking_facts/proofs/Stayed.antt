-- The user stays: the request is dropped for that straight after the answer, and its check ends in the table.
use Rattle.std.proofs.Common.{◌≡◌, true, false, List, [], ◌∷◌, Some, None, refl, sym, ap, subst}
use Rattle.tab_ids.specs.declared.ReqId.{ReqId}
use Rattle.log_model.specs.declared.header.Header.{Header}
use Rattle.log_model.specs.declared.outcome.Cause.TheVariants as drops
use Rattle.log_model.specs.declared.row_kind.Actor.TheVariants as actors
use Rattle.log_model.specs.declared.row_kind.LogRow.{LogRow}
use Rattle.log_model.specs.declared.row_kind.RowKind.{RowKind}
use Rattle.log_model.specs.declared.row_kind.RowKind.TheVariants as rows
use Rattle.log_model.specs.Causes.{is_dropped_duly}
use Rattle.log_model.specs.Equal.{has_req}
use Rattle.log_model.specs.Formed.{awaits_answer}
use Rattle.log_model.specs.Seen.{Asked, Seen, request_of}
use Rattle.log_model.proofs.Refl.{nat_eq_refl}
use Rattle.unload_check.specs.Checks.{after_all_deaths, ended}
use Rattle.seen_laws.proofs.InEvents.{led_here, uncut_first, uncut_log}
use Rattle.seen_laws.proofs.Sendings.{both, led_follows}
use Rattle.seen_laws.specs.Blocks.{Here, Passes, point_at}
use Rattle.seen_laws.specs.InEvent.{InEvent, here_of, log_of, now_of, own_of, row_of}
use Rattle.row_facts.proofs.FrameRows.LawfulLaws.{ends_other}
use Rattle.row_facts.specs.FrameRows.Lawful.{KeepsHeld}
use Rattle.check_facts.specs.Prompting.{todo_of}
use Rattle.checking_facts.specs.Prompts.{AreAskedDuly, PassIf, Told}
use Rattle.asking_facts.proofs.Answered.{StayComes, answered_pass, stay_comes}
use Rattle.asking_facts.proofs.Ended.{withdrawn_pass}
use Rattle.asking_facts.specs.Prompting.{WasWanted}

module _ (e : InEvent) (uncut : e.before ≡ []) (req : ReqId) (q : Asked) (own : e.own ≡ rows.Answered req true) (ui : e.actor ≡ actors.Ui) (at : request_of e.start req ≡ Some q) (numbered : q.nr ≡ req) (awaits : awaits_answer q ≡ true) (open_ : q.ending ≡ None) (wanted : WasWanted q) (unparked : has_req e.start.parked req ≡ false) where
  abbrev kind : RowKind
  kind = rows.Dropped req drops.Stay

  -- the request then
  abbrev one : Asked
  one = record q { answered = Some true }

  module _ (found : request_of (log_of e []) req ≡ Some one) (later : List LogRow) where
    stays : is_dropped_duly (point_at (here_of e []) later) (row_of e kind) drops.Stay one ≡ true
    stays =
        subst (λ (h : Here). is_dropped_duly (point_at h later) (row_of e kind) drops.Stay one ≡ true) (sym (uncut_first e uncut)) (rw own (rw (numbered, wanted.prompted) (rw (nat_eq_refl req.0) wanted.wanted)))

    -- the row passes
    pub drop_passes : has_req (log_of e []).parked req ≡ false → Passes (here_of e []).header (point_at (here_of e []) later) (row_of e kind)
    drop_passes free =
        subst (λ (header : Header). Passes header (point_at (here_of e []) later) (row_of e kind)) (ap (λ (h : Here). h.header) (sym (uncut_first e uncut))) (record {
          formed = both (led_follows (here_of e []).done (point_at (here_of e []) later) (row_of e kind) refl (led_here e [] (rw own refl)) refl) (rw found refl);
          once = rw found (rw open_ refl);
          caused = rw found stays;
          queued = rw free refl;
          ordered = refl;
          checked = refl;
          in_time = refl;
          suits = refl;
        })

  held_own : (own_of e).now.parked ≡ e.start.parked
  held_own = rw own refl

  free_own : has_req (own_of e).now.parked req ≡ false
  free_own = rw held_own unparked

  free_then : has_req (log_of e []).parked req ≡ false
  free_then = rw (ap (λ (s : Seen). s.parked) (uncut_log e uncut)) free_own

  -- the answer and that row pass, and whatever comes behind
  pub stayed_pass : (Rest : List LogRow → Type 0) (told : Told) → AreAskedDuly e.checking e.start (log_of e []) told → request_of (log_of e []) req ≡ Some one → todo_of (after_all_deaths told.run told.checks) req ≡ None → PassIf Rest e (todo_of (ended req (after_all_deaths told.run told.checks))) (kind ∷ [])
  unfolding now_of
  stayed_pass Rest told asked found unnoted =
      withdrawn_pass e [] told asked req drops.Stay (StayComes e req true) Rest (λ later rest. stay_comes e req later) (λ x there un. unnoted) keeps (λ later asks rest. (drop_passes found later free_then, tt)) (answered_pass (StayComes e req true) e req true q (todo_of told.checks) uncut own ui at awaits (λ later is. is))
    where
      keeps : KeepsHeld e [] kind
      keeps = ends_other e [] kind req (refl, λ s. refl) free_own free_then
