-- As a walk begins, who isn't shown wasn't as the event began.
use Rattle.log_model.specs.Equal.{holds}
use Rattle.log_model.specs.Places.{shower_of}
use Rattle.log_model.specs.Seen.{Document, Place, Seen, document_of}
use Rattle.log_model.specs.declared.job.Why.{Why}
use Rattle.log_model.specs.declared.row_kind.RowKind.{RowKind}
use Rattle.row_facts.proofs.WalkRows.Sinces.{ShowsThen, was_shower}
use Rattle.row_facts.proofs.WalkRows.Sleeping.{IsShower, shower_is}
use Rattle.row_facts.specs.WalkRows.Since.{WasAwake}
use Rattle.seen_facts.specs.Hang.AsPlaces.{AreDistinct}
use Rattle.seen_facts.specs.Home.Homes.{EachWake, IsHomed}
use Rattle.seen_laws.specs.InEvent.{InEvent, now_of}
use Rattle.std.proofs.Common.{Bool, List, None, Option, Some, ap, false, inl, inr, refl, sym, true, ◌∙◌, ◌≡◌, ◌⊎◌}
use Rattle.tab_ids.specs.declared.DocId.{DocId}
use Rattle.tab_passes.specs.Leaving.{OffAreLeft, WasOffOrLeft}
use Rattle.tab_serves.specs.Serving.{StillAwake}

pub off_first : (e : InEvent) (out : List RowKind) (why : Why) → AreDistinct e.start.places → AreDistinct (now_of e out).places → EachWake (IsHomed (now_of e out).documents) (now_of e out) → StillAwake e.start (now_of e out) → OffAreLeft e out why
off_first e out why start_distinct distinct homed still doc d found ready undiscarded shown = by_shower (shower_of e.start doc) refl
  where
    by_still : (p : Place) → WasAwake (now_of e out) p.nav doc ⊎ (holds (λ (x : Document). x.is_discarded) (document_of (now_of e out) doc) ≡ true) → ⊥
    by_still p (inl was) =
        let on : ShowsThen (now_of e out) p.nav doc = was_shower (now_of e out) p.nav doc distinct homed was in
        let never : None ≡ Some on.place = sym shown ∙ on.showed in
        cc
    by_still p (inr gone) =
        let never : true ≡ false = sym gone ∙ ap (λ (o : Option Document). holds (λ (x : Document). x.is_discarded) o) found ∙ undiscarded in
        cc

    by_shower : (o : Option Place) → shower_of e.start doc ≡ o → WasOffOrLeft e out why doc
    by_shower None none = inl none
    by_shower (Some p) is =
        let it : IsShower e.start doc p = shower_is e.start doc p start_distinct is in
        absurd (by_still p (still p.nav p doc it.placed it.wakes))
