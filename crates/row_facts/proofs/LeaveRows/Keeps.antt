-- What an order leaves of the kept documents, and that no more are kept than may be.
use Rattle.log_model.specs.After.{after}
use Rattle.log_model.specs.AfterPlaces.{kept_leaving, without_doc}
use Rattle.log_model.specs.Equal.{has_doc}
use Rattle.log_model.specs.Places.{is_gone}
use Rattle.log_model.specs.Seen.{Document, Place, Seen, document_of, place_of}
use Rattle.log_model.specs.Suits.{keeps_few}
use Rattle.log_model.specs.declared.header.Header.{Header}
use Rattle.log_model.specs.declared.job.Job.{Job}
use Rattle.log_model.specs.declared.row_kind.Actor.{Actor}
use Rattle.seen_laws.proofs.Sendings.{order_row}
use Rattle.std.proofs.Common.{Bool, List, None, Option, Some, [], arith, cond, false, length, not, refl, suc, true, ℕ, ◌<◌, ◌==◌, ◌||◌, ◌∙◌, ◌∷◌, ◌≡◌, ◌≤◌}
use Rattle.std.proofs.lemmas.Bool.Decides.{nat_tests}
use Rattle.std.specs.Prelude.{nat_le, nat_lt}
use Rattle.tab_ids.specs.declared.DocId.{DocId}
use Rattle.tab_ids.specs.declared.EntryId.{EntryId}
use Rattle.tab_ids.specs.declared.Epoch.{Epoch}
use Rattle.log_model.specs.declared.job.Task.TheVariants as tasks

-- ---- lists without a document

-- they are no longer
pub without_short : (doc : DocId) (docs : List DocId) → length (without_doc doc docs) ≤ length docs
without_short doc [] = omega arith
without_short doc (d ∷ docs) = by_test (d.0 == doc.0) (without_short doc docs)
  where
    by_test : (b : Bool) → length (without_doc doc docs) ≤ length docs → length (let l : List DocId = cond (not b) (d ∷ without_doc doc docs) (without_doc doc docs) in l) ≤ suc (length docs)
    by_test true short = omega (arith, short)
    by_test false short = omega (arith, short)

-- where it is one of them, they are shorter
pub without_one : (doc : DocId) (docs : List DocId) → has_doc docs doc ≡ true → length (without_doc doc docs) < length docs
without_one doc [] has = cc
without_one doc (d ∷ docs) has = by_test (d.0 == doc.0) (without_short doc docs) (without_one doc docs) has
  where
    by_test : (b : Bool) → length (without_doc doc docs) ≤ length docs → (has_doc docs doc ≡ true → length (without_doc doc docs) < length docs) → (b || has_doc docs doc) ≡ true → length (let l : List DocId = cond (not b) (d ∷ without_doc doc docs) (without_doc doc docs) in l) < suc (length docs)
    by_test true short others has = omega (arith, short)
    by_test false short others has = let shorter : length (without_doc doc docs) < length docs = others has in omega (arith, shorter)

-- so no more are kept than may be
fewer_kept : (header : Header) (doc : DocId) (docs : List DocId) → nat_le (length docs) header.keep ≡ true → nat_le (length (without_doc doc docs)) header.keep ≡ true
fewer_kept header doc docs few =
    let fit : length docs ≤ header.keep = grind (arith, nat_tests, few) in
    let short : length (without_doc doc docs) ≤ length docs = without_short doc docs in
    let less : length (without_doc doc docs) ≤ header.keep = omega (arith, fit, short) in
    grind (arith, nat_tests, less)

-- ---- an order that shows a document

module _ (s : Seen) (event : ℕ) (actor : Actor) (job : Job) (d : Document) (place : Place) (entry : EntryId) (epoch : Epoch) (long at : ℕ) (memo : Option (List ℕ)) (address : List ℕ) (is : job.task ≡ tasks.Activate entry epoch long at memo address) (found : document_of s job.doc ≡ Some d) (placed : place_of s d.nav ≡ Some place) where
  abbrev pub shown : Seen
  shown = after s (order_row event actor job)

  shown_kept : (last : Option DocId) → place.last ≡ last → shown.kept ≡ kept_leaving s job.doc last
  shown_kept last was = rw is (rw found (rw placed (rw was refl)))

  -- the one that is left joins in front, unless it is gone
  pub left_kept : (old : DocId) → place.last ≡ Some old → (old.0 == job.doc.0) ≡ false → is_gone s old ≡ false → shown.kept ≡ old ∷ without_doc job.doc (without_doc old s.kept)
  left_kept old was apart there = shown_kept (Some old) was ∙ rw (apart, there) (rw apart refl)

  pub gone_kept : (old : DocId) → place.last ≡ Some old → (old.0 == job.doc.0) ≡ false → is_gone s old ≡ true → shown.kept ≡ without_doc job.doc s.kept
  gone_kept old was apart gone = shown_kept (Some old) was ∙ rw (apart, gone) refl

  -- none is left where the same is shown again, or where none was shown before
  pub again_kept : (old : DocId) → place.last ≡ Some old → (old.0 == job.doc.0) ≡ true → shown.kept ≡ s.kept
  again_kept old was same = shown_kept (Some old) was ∙ rw same refl

  pub first_kept : place.last ≡ None → shown.kept ≡ without_doc job.doc s.kept
  first_kept was = shown_kept None was

  -- no more are kept than may be
  pub keeps_few_after : (header : Header) (old : DocId) → place.last ≡ Some old → (old.0 == job.doc.0) ≡ false → is_gone s old ≡ false → nat_le (length (old ∷ without_doc job.doc (without_doc old s.kept))) header.keep ≡ true → keeps_few header shown ≡ true
  keeps_few_after header old was apart there few = rw (left_kept old was apart there) few

  -- there is room for the one that is left where fewer are kept than may be
  pub keeps_few_with_room : (header : Header) (old : DocId) → place.last ≡ Some old → (old.0 == job.doc.0) ≡ false → is_gone s old ≡ false → nat_lt (length s.kept) header.keep ≡ true → keeps_few header shown ≡ true
  keeps_few_with_room header old was apart there room =
      keeps_few_after header old was apart there (fits header.keep (length s.kept) (length (without_doc old s.kept)) (length (without_doc job.doc (without_doc old s.kept))) room (without_short old s.kept) (without_short job.doc (without_doc old s.kept)))
    where
      fits : (keep all some_ few : ℕ) → nat_lt all keep ≡ true → some_ ≤ all → few ≤ some_ → nat_le (suc few) keep ≡ true
      fits keep all some_ few room one two =
          let below : all < keep = grind (arith, nat_tests, room) in
          let enough : suc few ≤ keep = omega (arith, below, one, two) in
          grind (arith, nat_tests, enough)

  -- and where the one that is left is gone, or none is, no more are kept than before
  pub keeps_few_gone : (header : Header) (old : DocId) → place.last ≡ Some old → (old.0 == job.doc.0) ≡ false → is_gone s old ≡ true → keeps_few header s ≡ true → keeps_few header shown ≡ true
  keeps_few_gone header old was apart gone few = rw (gone_kept old was apart gone) (fewer_kept header job.doc s.kept few)

  pub keeps_few_again : (header : Header) (old : DocId) → place.last ≡ Some old → (old.0 == job.doc.0) ≡ true → keeps_few header s ≡ true → keeps_few header shown ≡ true
  keeps_few_again header old was same few = rw (again_kept old was same) few

  pub keeps_few_first : (header : Header) → place.last ≡ None → keeps_few header s ≡ true → keeps_few header shown ≡ true
  keeps_few_first header was few = rw (first_kept was) (fewer_kept header job.doc s.kept few)

-- ---- an order that freezes or discards one

module _ (s : Seen) (event : ℕ) (actor : Actor) (job : Job) where
  pub frozen_kept : job.task ≡ tasks.Freeze → (after s (order_row event actor job)).kept ≡ s.kept
  frozen_kept is = rw is refl

  pub discarded_kept : job.task ≡ tasks.Discard → (after s (order_row event actor job)).kept ≡ without_doc job.doc s.kept
  discarded_kept is = rw is refl

  pub keeps_few_frozen : (header : Header) → job.task ≡ tasks.Freeze → keeps_few header s ≡ true → keeps_few header (after s (order_row event actor job)) ≡ true
  keeps_few_frozen header is few = rw (frozen_kept is) few

  pub keeps_few_discarded : (header : Header) → job.task ≡ tasks.Discard → keeps_few header s ≡ true → keeps_few header (after s (order_row event actor job)) ≡ true
  keeps_few_discarded header is few = rw (discarded_kept is) (fewer_kept header job.doc s.kept few)

  -- where a kept one is discarded, there is room for another
  pub room_discarded : (header : Header) → job.task ≡ tasks.Discard → has_doc s.kept job.doc ≡ true → keeps_few header s ≡ true → nat_lt (length (after s (order_row event actor job)).kept) header.keep ≡ true
  room_discarded header is has few =
      rw (discarded_kept is) (
      let fit : length s.kept ≤ header.keep = grind (arith, nat_tests, few) in
      let shorter : length (without_doc job.doc s.kept) < length s.kept = without_one job.doc s.kept has in
      let room : length (without_doc job.doc s.kept) < header.keep = omega (arith, fit, shorter) in
      grind (arith, nat_tests, room)
      )
