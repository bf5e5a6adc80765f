-- The kept documents stay over each applied change.
use Rattle.std.proofs.Common.{◌≡◌, ℕ, Bool, true, false, cond, not, ◌&&◌, ◌==◌, List, [], ◌∷◌, ◌++◌, Option, Some, None, refl, ap, ◌∙◌}
use Rattle.std.specs.Prelude.{option_and_then}
use Rattle.std.specs.Option.{option_map_or}
use Rattle.tab_ids.specs.declared.EntryId.{EntryId}
use Rattle.tab_ids.specs.declared.NavId.{NavId}
use Rattle.tab_ids.specs.declared.ReqId.{ReqId}
use Rattle.tab_ids.specs.declared.StateId.{StateId}
use Rattle.log_model.specs.declared.change.Change.{Change}
use Rattle.log_model.specs.declared.change.Change.TheVariants as changes
use Rattle.log_model.specs.declared.made.Made.{Made}
use Rattle.log_model.specs.declared.row_kind.Actor.{Actor}
use Rattle.log_model.specs.declared.row_kind.RowKind.TheVariants as rows
use Rattle.log_model.specs.After.{after}
use Rattle.log_model.specs.AfterDocuments.{applied_to, told_after_change, with_applied}
use Rattle.log_model.specs.AfterPlaces.{given_entry, new_place, on_place, places_added, places_applied, places_given, with_taker}
use Rattle.log_model.specs.History.{History, applied, has_row}
use Rattle.log_model.specs.Places.{holder_of}
use Rattle.log_model.specs.Seen.{Seen, Asked, Document, Place, place_of, request_of}
use Rattle.seen_facts.proofs.Home.Again.{KeepsHome, all_mapped}
use Rattle.seen_facts.specs.Kept.Keeping.{AreKeptDocs}
use Rattle.seen_facts.proofs.Kept.Stays.{KeepLasts, LeavesLast, if_last, lasts_both, lasts_mapped, lasts_more, left_kept, same_lasts}

-- ---- documents

-- a document of which what is told here stays
record StaysSo (d new : Document) : Type 0 where
  nr : new.nr ≡ d.nr
  keeps : KeepsHome d new

as_it_is : (d : Document) → StaysSo d d
as_it_is d = record { nr = refl; keeps = record { nav = refl; state = refl; ready = λ e. e; discarded = refl; known = refl } }

if_so : (b : Bool) (d new : Document) → StaysSo d new → StaysSo d (cond b new d)
if_so true d new so = so
if_so false d new so = as_it_is d

both_so : (d mid new : Document) → StaysSo d mid → StaysSo mid new → StaysSo d new
both_so d mid new one two =
    record {
      nr = two.nr ∙ one.nr;
      keeps = record {
        nav = two.keeps.nav ∙ one.keeps.nav;
        state = two.keeps.state ∙ one.keeps.state;
        ready = λ e. two.keeps.ready (one.keeps.ready e);
        discarded = two.keeps.discarded ∙ one.keeps.discarded;
        known = two.keeps.known ∙ one.keeps.known;
      };
    }

told_so : (d : Document) (change : Change) → StaysSo d (told_after_change d change)
told_so d (changes.Push nav entry state address memo) =
    if_so (d.nr.0 == entry.maker) d (record d { told = None }) (record { nr = refl; keeps = record { nav = refl; state = refl; ready = λ e. e; discarded = refl; known = refl } })
told_so d (changes.Replace nav over entry state address memo) = as_it_is d
told_so d (changes.AddFrame owner nav entry state) = as_it_is d
told_so d (changes.RemoveFrame nav) = as_it_is d
told_so d (changes.Traverse goal) = as_it_is d
told_so d (changes.Reload nav) = as_it_is d
told_so d changes.Edit = as_it_is d

with_so : (entry : EntryId) (d : Document) → StaysSo d (with_applied entry d)
with_so entry d =
    if_so (d.nr.0 == entry.maker) d (record d { last_applied = entry.nr }) (record { nr = refl; keeps = record { nav = refl; state = refl; ready = λ e. e; discarded = refl; known = refl } })

applied_so : (change : Change) (d : Document) → StaysSo d (applied_to change d)
applied_so (changes.Push nav entry state address memo) d = with_so entry d
applied_so (changes.Replace nav over entry state address memo) d = with_so entry d
applied_so (changes.AddFrame owner nav entry state) d = as_it_is d
applied_so (changes.RemoveFrame nav) d = as_it_is d
applied_so (changes.Traverse goal) d = as_it_is d
applied_so (changes.Reload nav) d =
    if_so (d.nav.0 == nav.0) d (record d { is_fresh = false }) (record { nr = refl; keeps = record { nav = refl; state = refl; ready = λ e. e; discarded = refl; known = refl } })
applied_so changes.Edit d = as_it_is d

changed_so : (change : Change) (d : Document) → StaysSo d (applied_to change (told_after_change d change))
changed_so change d = both_so d (told_after_change d change) (applied_to change (told_after_change d change)) (told_so d change) (applied_so change (told_after_change d change))

-- ---- places

on_lasts : (nav : NavId) (f : Place → Place) (places : List Place) → LeavesLast f → KeepLasts places (on_place nav f places)
on_lasts nav f places leaves =
    lasts_mapped (λ (p : Place). cond (p.nav.0 == nav.0) (f p) p) places (if_last (λ (p : Place). p.nav.0 == nav.0) f leaves)

given_lasts : (s : Seen) (req : ReqId) (nav : NavId) (entry : EntryId) → KeepLasts s.places (places_given s req nav entry)
given_lasts s req nav entry = by_made (option_and_then (λ (q : Asked). q.made) (request_of s req))
  where
    by_made : (o : Option Made) → KeepLasts s.places (option_map_or (λ (made : Made). on_place nav (given_entry entry) s.places) o s.places)
    by_made None = same_lasts s.places
    by_made (Some made) = on_lasts nav (given_entry entry) s.places (record { nav = λ p. refl; last = λ p. refl })

added_lasts : (s : Seen) (req : ReqId) (owner : StateId) (nav : NavId) → KeepLasts s.places (places_added s req owner nav)
added_lasts s req owner nav = by_parent (option_and_then (place_of s) (holder_of owner s.history.rows))
  where
    by_parent : (o : Option Place) → KeepLasts s.places (option_map_or (λ parent. s.places ++ new_place req nav owner parent ∷ []) o s.places)
    by_parent None = same_lasts s.places
    by_parent (Some parent) = lasts_more s.places (new_place req nav owner parent) refl

taker_lasts : (old new : History) (req : ReqId) (places : List Place) → KeepLasts places (with_taker old new req places)
taker_lasts old new req places =
    lasts_mapped (λ (p : Place). cond (has_row p.nav old.rows && not (has_row p.nav new.rows)) (record p { taken_by = Some req }) p) places (if_last (λ (p : Place). has_row p.nav old.rows && not (has_row p.nav new.rows)) (λ (p : Place). record p { taken_by = Some req }) (record { nav = λ p. refl; last = λ p. refl }))

taken_lasts : (s : Seen) (req : ReqId) (change : Change) (places : List Place) → KeepLasts s.places places → KeepLasts s.places (with_taker s.history (applied s.history change) req places)
taken_lasts s req change places first =
    lasts_both s.places places (with_taker s.history (applied s.history change) req places) first (taker_lasts s.history (applied s.history change) req places)

applied_lasts : (s : Seen) (req : ReqId) (change : Change) → KeepLasts s.places (places_applied s req change)
applied_lasts s req (changes.Push nav entry state address memo) =
    taken_lasts s req (changes.Push nav entry state address memo) (places_given s req nav entry) (given_lasts s req nav entry)
applied_lasts s req (changes.Replace nav over entry state address memo) =
    taken_lasts s req (changes.Replace nav over entry state address memo) (places_given s req nav entry) (given_lasts s req nav entry)
applied_lasts s req (changes.AddFrame owner nav entry state) =
    taken_lasts s req (changes.AddFrame owner nav entry state) (places_added s req owner nav) (added_lasts s req owner nav)
applied_lasts s req (changes.RemoveFrame nav) = taken_lasts s req (changes.RemoveFrame nav) s.places (same_lasts s.places)
applied_lasts s req (changes.Traverse goal) = taken_lasts s req (changes.Traverse goal) s.places (same_lasts s.places)
applied_lasts s req (changes.Reload nav) =
    taken_lasts s req (changes.Reload nav) (on_place nav (λ place. record place { is_pending = true; is_unmet = true }) s.places) (on_lasts nav (λ place. record place { is_pending = true; is_unmet = true }) s.places (record { nav = λ p. refl; last = λ p. refl }))
applied_lasts s req changes.Edit = taken_lasts s req changes.Edit s.places (same_lasts s.places)

-- ---- all of it

pub applied_kept : (s : Seen) (event : ℕ) (actor : Actor) (req : ReqId) (change : Change) → AreKeptDocs s → AreKeptDocs (after s (record { event = event; actor = actor; row = rows.Applied req change }))
applied_kept s event actor req change are =
    left_kept s (after s (record { event = event; actor = actor; row = rows.Applied req change })) refl (all_mapped (λ d. applied_to change (told_after_change d change)) s.documents (λ d. ap (λ (n : _). n.0) (changed_so change d).nr) (λ d. (changed_so change d).keeps)) (applied_lasts s req change) are
