-- A document on which nobody is awake is discarded for a reason: nobody was awake on it as the event began, or it is left duly, so it may be left.
use Rattle.log_model.specs.AfterPlaces.{sleepers_with, woken_below}
use Rattle.log_model.specs.Places.{is_awake_on, shower_of}
use Rattle.log_model.specs.Seen.{Document, Place, Seen, document_of}
use Rattle.log_model.specs.declared.job.Job.{Job}
use Rattle.log_model.specs.declared.job.Task.TheVariants as tasks
use Rattle.log_model.specs.declared.job.Why.{Why}
use Rattle.log_model.specs.declared.row_kind.RowKind.TheVariants as rows
use Rattle.log_model.specs.declared.row_kind.RowKind.{RowKind}
use Rattle.row_facts.proofs.RestRows.Again.{doc_same}
use Rattle.row_facts.specs.LeaveRows.MayLeave.{MayBeLeft}
use Rattle.seen_laws.proofs.Keyed.{find_on_same}
use Rattle.seen_laws.specs.InEvent.{here_of, now_of}
use Rattle.std.proofs.Common.{Bool, List, None, Option, Some, [], ap, false, refl, subst, sym, true, ◌++◌, ◌==◌, ◌∙◌, ◌∷◌, ◌≡◌}
use Rattle.std.specs.Option.{option_map_or}
use Rattle.std.specs.Prelude.{find, option_map}
use Rattle.tab_doors.specs.Keeping.{Move}
use Rattle.tab_doors.specs.Orders.{order_to}
use Rattle.tab_doors.specs.declared.tables.Tables.{Tables}
use Rattle.tab_evicts.proofs.Quiets.{IsQuiet, for_one, gone_now, gone_other, gone_places, gone_seen}
use Rattle.tab_evicts.specs.Evicting.{OffAreLeft}
use Rattle.tab_ids.specs.declared.DocId.{DocId}
use Rattle.tab_ids.specs.declared.StateId.{StateId}
use Rattle.tab_passes.proofs.LeftFor.{off_for, off_on}
use Rattle.tab_passes.specs.Causes.{MayCause}
use Rattle.tab_passes.specs.Leaving.{IsLeavingIn, WasOffOrLeft}
use Rattle.tab_passes.specs.Passing.{InPass}

-- where nobody falls asleep with it, nobody is awake on it
pub off_none : (s : Seen) (doc : DocId) → sleepers_with s doc ≡ [] → shower_of s doc ≡ None
off_none s doc none = by_shower (shower_of s doc) refl none
  where
    by_shower : (o : Option Place) → shower_of s doc ≡ o → option_map_or (λ (place : Place). place.nav ∷ woken_below s place.nav) o [] ≡ [] → shower_of s doc ≡ None
    by_shower None is h = is
    by_shower (Some p) is h = absurd cc

module _ {sweeps : Bool} (p : InPass) (move : Option Move) {docs : List DocId} (out : List RowKind) (t : Tables) (leaving : IsLeavingIn sweeps p move docs out t) (why : Why) (may : MayCause (now_of p.event out) why) (doc : DocId) (state : StateId) (its : IsQuiet (now_of p.event out) t doc state) (off : OffAreLeft p.event out why) where
  abbrev s : Seen
  s = now_of p.event out

  abbrev discard : Job
  discard = order_to s doc why tasks.Discard

  pub quiet_left : MayBeLeft (here_of p.event out) discard
  quiet_left =
      off_for p.event out leaving.duly discard its.document its.found (for_one s why may) (off doc its.document its.found its.ready its.undiscarded (off_none s doc its.nobody))

  -- once it is discarded, so it is of the others
  pub off_gone : (new : List RowKind) (u : Tables) → new ≡ out ++ rows.Sent discard ∷ [] → OffAreLeft p.event new why
  off_gone new u is x d found ready undiscarded shown = by_test (doc.0 == x.0) refl
    where
      then_ : Seen
      then_ = gone_seen p move out t leaving why may doc state its

      now_is : then_ ≡ now_of p.event new
      now_is = gone_now p move out t leaving why may doc state its new u is

      found_then : document_of then_ x ≡ Some d
      found_then = subst (λ (y : Seen). document_of y x ≡ Some d) (sym now_is) found

      shown_then : shower_of s x ≡ None
      shown_then =
          ap (λ (l : List Place). find (is_awake_on x) l) (sym (gone_places p move out t leaving why may doc state its))
          ∙ subst (λ (y : Seen). shower_of y x ≡ None) (sym now_is) shown

      discarded : document_of then_ doc ≡ Some (record its.document { is_discarded = true })
      discarded =
          find_on_same (λ (y : Document). y.nr.0) (λ (y : Document). record y { is_discarded = true }) doc.0 s.documents (λ y. refl)
          ∙ ap (λ (o : Option Document). option_map (λ (y : Document). record y { is_discarded = true }) o) its.found

      by_test : (b : Bool) → (doc.0 == x.0) ≡ b → WasOffOrLeft p.event new why x
      by_test true same =
          let both : Some d ≡ Some (record its.document { is_discarded = true }) = sym found_then ∙ ap (λ (y : DocId). document_of then_ y) (sym (doc_same doc x same)) ∙ discarded in
          let one : d ≡ record its.document { is_discarded = true } = cc in
          let never : false ≡ true = sym undiscarded ∙ ap (λ (y : Document). y.is_discarded) one in
          absurd cc
      by_test false apart =
          off_on p.event out (rows.Sent discard) new is tt x why (off x d (sym (gone_other p move out t leaving why may doc state its x apart) ∙ found_then) ready undiscarded shown_then)
