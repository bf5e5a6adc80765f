-- An applied push, and an applied replace, of an entry that a document made: all that is known of entries is so again.
use Rattle.std.proofs.Common.{◌≡◌, ℕ, ◌+◌, ◌≤◌, Bool, true, false, cond, ◌==◌, List, map, Option, Some, None, refl, ap, ◌∙◌, subst, arith}
use Rattle.std.specs.Prelude.{if◌then◌else◌}
use Rattle.std.specs.Option.{option_map_or}
use Rattle.std.proofs.lemmas.Bool.Decides.{nat_tests}
use Rattle.tab_ids.specs.declared.DocId.{DocId}
use Rattle.tab_ids.specs.declared.EntryId.{EntryId}
use Rattle.tab_ids.specs.declared.ReqId.{ReqId}
use Rattle.log_model.specs.declared.change.Change.{Change}
use Rattle.log_model.specs.declared.change.Change.TheVariants as changes
use Rattle.log_model.specs.declared.made.Made.{Made}
use Rattle.log_model.specs.declared.made.What.{What}
use Rattle.log_model.specs.declared.made.What.TheVariants as whats
use Rattle.log_model.specs.declared.row_kind.Actor.{Actor}
use Rattle.log_model.specs.AfterDocuments.{with_applied}
use Rattle.log_model.specs.AfterPlaces.{given_entry, on_place, with_taker}
use Rattle.log_model.specs.History.{applied, fits}
use Rattle.log_model.specs.Seen.{Seen, Document, Place, request_in}
use Rattle.seen_facts.specs.Coord.Leading.{EachIsOfItsNavigable}
use Rattle.seen_facts.proofs.Coord.Held.{made_of}
use Rattle.seen_facts.proofs.Home.Changed.{taker}
use Rattle.seen_facts.specs.Each.Mades.{entry_after, number_after}
use Rattle.seen_facts.specs.Each.Items.{Each}
use Rattle.seen_facts.specs.Entry.Entries.{AreEntries, IsItsOwn, IsMadeThere}
use Rattle.seen_facts.proofs.Entry.Applied.{applying, places_both, pushed_rows, replaced_rows}
use Rattle.seen_facts.proofs.Entry.Changes.{takes_in}
use Rattle.seen_facts.proofs.Entry.Stays.{its_number}
use Rattle.seen_facts.proofs.Entry.Firsts.{each_parts}
use Rattle.seen_facts.proofs.Entry.Takings.{IsEntryOf, IsToTake, TakesEntry, gives, applied_entries}

last_own : (entry : EntryId) (x : Document) → (x.nr.0 == entry.maker) ≡ true → (with_applied entry x).last_applied ≡ entry.nr
last_own entry x e = ap (λ (b : Bool). (let y : Document = cond b (record x { last_applied = entry.nr }) x in y).last_applied) e

last_other : (entry : EntryId) (x : Document) → (x.nr.0 == entry.maker) ≡ false → (with_applied entry x).last_applied ≡ x.last_applied
last_other entry x e = ap (λ (b : Bool). (let y : Document = cond b (record x { last_applied = entry.nr }) x in y).last_applied) e

module _ (hand hand_ : List Made) (s : Seen) (event : ℕ) (actor : Actor) (are : AreEntries hand s) (homes : EachIsOfItsNavigable s) (req : ReqId) (made : Made) (d : Document) where
  -- the coordinator numbers none for it
  not_own : (change : Change) → IsToTake hand hand_ s (applying s event actor req change) req made d → (entry : EntryId) → IsEntryOf made entry → (entry.maker == 0) ≡ false
  not_own change take entry new =
      let all = each_parts (IsMadeThere s.documents) take.list.before made take.list.later (subst (λ (l : List Made). Each (IsMadeThere s.documents) l) take.list.whole are.waits) in
      let maker : entry.maker ≡ made.doc.0 = new.maker all.0.own in
      let nr : d.nr.0 ≡ made.doc.0 = its_number s.documents made.doc d take.found in
      let real : 1 ≤ d.nr.0 = (are.counted made.doc d take.found).real in
      let high : 1 ≤ entry.maker = omega (arith, maker, nr, real) in
      grind (arith, nat_tests, high)

  given_are : (change : Change) → made_of (request_in s.requests req) ≡ Some made → (entry : EntryId) → with_taker s.history (applied s.history change) req (option_map_or (λ (m : Made). on_place d.nav (given_entry entry) s.places) (made_of (request_in s.requests req)) s.places) ≡ map (λ (p : Place). taker s.history (applied s.history change) req (gives d.nav entry p)) s.places
  given_are change makes entry =
      ap (λ (o : Option Made). with_taker s.history (applied s.history change) req (option_map_or (λ (m : Made). on_place d.nav (given_entry entry) s.places) o s.places)) makes
      ∙ places_both (gives d.nav entry) (taker s.history (applied s.history change) req) s.places

  -- a push
  module _ (entry : EntryId) (memo : Option (List ℕ)) (address : List ℕ) (what : made.what ≡ whats.Push entry memo address) where
    abbrev pub pushing : Change
    pushing = changes.Push d.nav entry d.state address memo

    push_entry : IsEntryOf made entry
    push_entry =
        record {
          after_ = λ old. ap (λ (w : What). entry_after old w) what;
          number = λ n. ap (λ (w : What). number_after n w) what;
          maker = λ own. subst (λ (w : What). IsItsOwn made.doc w) what own;
        }

    push_takes : TakesEntry entry (takes_in pushing)
    push_takes =
        record {
          own = λ x e. last_own entry (told x) (ap (λ (n : DocId). n.0 == entry.maker) (told_nr x) ∙ e);
          other = λ x e. last_other entry (told x) (ap (λ (n : DocId). n.0 == entry.maker) (told_nr x) ∙ e) ∙ told_applied x;
        }
      where
        told : Document → Document
        told x = if x.nr.0 == entry.maker then record x { told = None } else x

        told_nr : (x : Document) → (let y : Document = if x.nr.0 == entry.maker then record x { told = None } else x in y).nr ≡ x.nr
        told_nr x = elim (x.nr.0 == entry.maker) as (λ b. (let y : Document = cond b (record x { told = None }) x in y).nr ≡ x.nr) [ true ↦ refl | false ↦ refl ]

        told_applied : (x : Document) → (let y : Document = if x.nr.0 == entry.maker then record x { told = None } else x in y).last_applied ≡ x.last_applied
        told_applied x = elim (x.nr.0 == entry.maker) as (λ b. (let y : Document = cond b (record x { told = None }) x in y).last_applied ≡ x.last_applied) [ true ↦ refl | false ↦ refl ]

    pub pushed_entries : IsToTake hand hand_ s (applying s event actor req (changes.Push d.nav entry d.state address memo)) req made d → fits s.history (changes.Push d.nav entry d.state address memo) ≡ true → AreEntries hand_ (applying s event actor req (changes.Push d.nav entry d.state address memo))
    pushed_entries take fit =
        applied_entries hand hand_ s event actor are homes req pushing made d take entry push_entry push_takes
        (given_are pushing take.makes entry)
        (pushed_rows s.history d.nav entry d.state address memo (λ (e : EntryId). entry ≡ e) refl fit)
        (ap (λ (b : Bool). if b then s.entries + 1 else s.entries) (not_own pushing take entry push_entry))

  -- a replace
  module _ (over entry : EntryId) (memo : Option (List ℕ)) (address : List ℕ) (what : made.what ≡ whats.Replace over entry memo address) where
    abbrev pub replacing : Change
    replacing = changes.Replace d.nav over entry d.state address memo

    replace_entry : IsEntryOf made entry
    replace_entry =
        record {
          after_ = λ old. ap (λ (w : What). entry_after old w) what;
          number = λ n. ap (λ (w : What). number_after n w) what;
          maker = λ own. subst (λ (w : What). IsItsOwn made.doc w) what own;
        }

    pub replaced_entries : IsToTake hand hand_ s (applying s event actor req (changes.Replace d.nav over entry d.state address memo)) req made d → AreEntries hand_ (applying s event actor req (changes.Replace d.nav over entry d.state address memo))
    replaced_entries take =
        applied_entries hand hand_ s event actor are homes req replacing made d take entry replace_entry (record { own = last_own entry; other = last_other entry })
        (given_are replacing take.makes entry)
        (replaced_rows s.history d.nav over entry d.state address memo (λ (e : EntryId). entry ≡ e) refl)
        (ap (λ (b : Bool). if b then s.entries + 1 else s.entries) (not_own replacing take entry replace_entry))
