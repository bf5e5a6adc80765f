-- What is known of entries, over each applied change but of an entry that a document made: a traversal, a reload, an edit, a frame removed or added, and the push or replace of a load, whose entry the coordinator numbers.
use Rattle.std.proofs.Common.{◌≡◌, ◌⊎◌, inl, inr, ℕ, ◌+◌, ◌≤◌, Bool, true, false, cond, ◌==◌, List, map, Option, None, refl, sym, ap, ◌∙◌, arith}
use Rattle.std.specs.Prelude.{if◌then◌else◌}
use Rattle.std.specs.Option.{option_map_or}
use Rattle.std.proofs.lemmas.Bool.Decides.{nat_tests}
use Rattle.tab_ids.specs.declared.EntryId.{EntryId}
use Rattle.tab_ids.specs.declared.NavId.{NavId}
use Rattle.tab_ids.specs.declared.ReqId.{ReqId}
use Rattle.tab_ids.specs.declared.StateId.{StateId}
use Rattle.tab_ids.specs.declared.Step.{Step}
use Rattle.log_model.specs.declared.change.Change.{Change}
use Rattle.log_model.specs.declared.change.Change.TheVariants as changes
use Rattle.log_model.specs.declared.made.Made.{Made}
use Rattle.log_model.specs.declared.row.Row.{Row}
use Rattle.log_model.specs.declared.row_kind.Actor.{Actor}
use Rattle.log_model.specs.AfterDocuments.{applied_to, told_after_change, with_applied}
use Rattle.log_model.specs.AfterPlaces.{on_place, given_entry, with_taker}
use Rattle.log_model.specs.History.{applied, fits}
use Rattle.log_model.specs.Once.{next_entry_of}
use Rattle.log_model.specs.Seen.{Seen, Document, Place, request_in}
use Rattle.seen_facts.proofs.Coord.Held.{made_of}
use Rattle.seen_facts.proofs.Home.Changed.{taker}
use Rattle.seen_facts.specs.Entry.Entries.{AreEntries}
use Rattle.seen_facts.proofs.Entry.Applied.{RowsGo, applied_ends, applied_tooks, applying, leaves_both, places_both, pushed_rows, removed_rows, replaced_rows, same_rows, taker_leaves}
use Rattle.seen_facts.proofs.Entry.Ends.{IsToEnd, ended_lists, ended_waits}
use Rattle.seen_facts.proofs.Entry.Parts.{KeepsDoc, LeavesPlace, docs_mapped, given_mapped, is_of_map, leaves_if, shown_mapped, view_stays, views_mapped}
use Rattle.seen_facts.proofs.Entry.Skips.{without_made}
use Rattle.seen_facts.proofs.Entry.Stays.{AllWereShown, EntriesGo, HadRows, IsKnownEntry, IsNewEntry, IsOfRow, left_entries}

-- ---- the documents: each keeps its number, process and view

-- what is kept of a document, but for its last applied entry
pub record KeepsRead (f : Document → Document) : Type 0 where
  pub keeps : KeepsDoc f
  pub view : (d : Document) → (f d).view ≡ d.view

read_if : (test : Document → Bool) (f : Document → Document) → KeepsRead f → KeepsRead (λ (d : Document). cond (test d) (f d) d)
read_if test f same =
    record {
      keeps = record {
        nr = λ d. elim (test d) as (λ b. (let x : Document = cond b (f d) d in x).nr ≡ d.nr) [ true ↦ same.keeps.nr d | false ↦ refl ];
        proc = λ d. elim (test d) as (λ b. (let x : Document = cond b (f d) d in x).proc ≡ d.proc) [ true ↦ same.keeps.proc d | false ↦ refl ];
        ready = λ d e. by_test d (test d) e;
      };
      view = λ d. elim (test d) as (λ b. (let x : Document = cond b (f d) d in x).view ≡ d.view) [ true ↦ same.view d | false ↦ refl ];
    }
  where
    by_test : (d : Document) (b : Bool) → (let x : Document = cond b (f d) d in x).is_ready ≡ false → d.is_ready ≡ false
    by_test d true e = same.keeps.ready d e
    by_test d false e = e

read_both : (f g : Document → Document) → KeepsRead f → KeepsRead g → KeepsRead (λ (d : Document). g (f d))
read_both f g one two =
    record {
      keeps = record { nr = λ d. two.keeps.nr (f d) ∙ one.keeps.nr d; proc = λ d. two.keeps.proc (f d) ∙ one.keeps.proc d; ready = λ d e. one.keeps.ready d (two.keeps.ready (f d) e) };
      view = λ d. two.view (f d) ∙ one.view d;
    }

same_read : KeepsRead (λ (d : Document). d)
same_read = record { keeps = record { nr = λ d. refl; proc = λ d. refl; ready = λ d e. e }; view = λ d. refl }

applied_read : (entry : EntryId) → KeepsRead (λ (d : Document). with_applied entry d)
applied_read entry =
    read_if (λ (d : Document). d.nr.0 == entry.maker) (λ (d : Document). record d { last_applied = entry.nr }) (record { keeps = record { nr = λ d. refl; proc = λ d. refl; ready = λ d e. e }; view = λ d. refl })

told_read : (entry : EntryId) → KeepsRead (λ (d : Document). if d.nr.0 == entry.maker then record d { told = None } else d)
told_read entry =
    read_if (λ (d : Document). d.nr.0 == entry.maker) (λ (d : Document). record d { told = None }) (record { keeps = record { nr = λ d. refl; proc = λ d. refl; ready = λ d e. e }; view = λ d. refl })

-- what a document is after a change
abbrev pub takes_in : Change → Document → Document
takes_in change d = applied_to change (told_after_change d change)

pub change_read : (change : Change) → KeepsRead (takes_in change)
change_read (changes.Push nav entry state address memo) = read_both (λ (d : Document). if d.nr.0 == entry.maker then record d { told = None } else d) (λ (d : Document). with_applied entry d) (told_read entry) (applied_read entry)
change_read (changes.Replace nav over entry state address memo) = applied_read entry
change_read (changes.Reload nav) = read_if (λ (d : Document). d.nav.0 == nav.0) (λ (d : Document). record d { is_fresh = false }) (record { keeps = record { nr = λ d. refl; proc = λ d. refl; ready = λ d e. e }; view = λ d. refl })
change_read (changes.AddFrame owner nav entry state) = same_read
change_read (changes.RemoveFrame nav) = same_read
change_read (changes.Traverse goal) = same_read
change_read changes.Edit = same_read

-- the change brings no entry, or one that the coordinator numbered
abbrev pub BringsOwn : Change → Type 0
BringsOwn (changes.Push nav entry state address memo) = entry.maker ≡ 0
BringsOwn (changes.Replace nav over entry state address memo) = entry.maker ≡ 0
BringsOwn _ = Unit {0}

-- then no document's last applied entry is another
others_entry : (entry : EntryId) (d : Document) → entry.maker ≡ 0 → 1 ≤ d.nr.0 → (with_applied entry d).last_applied ≡ d.last_applied
others_entry entry d zero real =
    let apart : (d.nr.0 == entry.maker) ≡ false = grind (arith, nat_tests, zero, real) in
    ap (λ (b : Bool). (let x : Document = cond b (record d { last_applied = entry.nr }) d in x).last_applied) apart

own_applied : (change : Change) (d : Document) → BringsOwn change → 1 ≤ d.nr.0 → (takes_in change d).last_applied ≡ d.last_applied
own_applied (changes.Push nav entry state address memo) d zero real =
    let apart : (d.nr.0 == entry.maker) ≡ false = grind (arith, nat_tests, zero, real) in
    let told : (if d.nr.0 == entry.maker then record d { told = None } else d) ≡ d = ap (λ (b : Bool). let x : Document = cond b (record d { told = None }) d in x) apart in
    ap (λ (x : Document). (with_applied entry x).last_applied) told ∙ others_entry entry d zero real
own_applied (changes.Replace nav over entry state address memo) d zero real = others_entry entry d zero real
own_applied (changes.Reload nav) d own real = elim (d.nav.0 == nav.0) as (λ b. (let x : Document = cond b (record d { is_fresh = false }) d in x).last_applied ≡ d.last_applied) [ true ↦ refl | false ↦ refl ]
own_applied (changes.AddFrame owner nav entry state) d own real = refl
own_applied (changes.RemoveFrame nav) d own real = refl
own_applied (changes.Traverse goal) d own real = refl
own_applied changes.Edit d own real = refl

-- ---- the row

module _ (hand : List Made) (s : Seen) (event : ℕ) (actor : Actor) (are : AreEntries hand s) (req : ReqId) (end : IsToEnd hand s req) where
  abbrev then_ : Change → Seen
  then_ change = applying s event actor req change

  pub left_so : (change : Change) → BringsOwn change → AllWereShown s (then_ change) → HadRows s (then_ change) → s.entries ≤ (then_ change).entries → EntriesGo (IsNewEntry (then_ change)) s (then_ change) → AreEntries (without_made req hand) (then_ change)
  left_so change own shown had numbers entries =
      left_entries hand (without_made req hand) s (then_ change)
      (record {
        docs = docs_mapped s (then_ change) (takes_in change) (change_read change).keeps refl;
        applied = λ doc d before found there.
            ap (λ (x : Document). x.last_applied) (sym (is_of_map s (then_ change) (takes_in change) (change_read change).keeps.nr refl doc d before found there))
            ∙ own_applied change before own (are.counted doc before there).real;
        views = views_mapped s (then_ change) (takes_in change) (change_read change).keeps.nr refl (λ doc d found view has. view_stays d view (sym ((change_read change).view d) ∙ has));
        lists = ended_lists hand s (then_ change) req end (applied_ends s event actor req change);
        waits = ended_waits hand s (then_ change) req end (applied_ends s event actor req change) are;
        home = are.home;
        shown = λ nav place doc there wakes. inl (shown nav place doc there wakes);
        had = had;
        numbers = numbers;
        entries = entries;
      })
      are

  -- where each place is left
  kept_entries : (change : Change) (h : Place → Place) → LeavesPlace h → (then_ change).places ≡ map h s.places → BringsOwn change → s.entries ≤ (then_ change).entries → RowsGo s.history.rows (applied s.history change).rows (IsNewEntry (then_ change)) → AreEntries (without_made req hand) (then_ change)
  kept_entries change h leaves places own numbers go =
      left_so change own (shown_mapped s (then_ change) h leaves places) (λ nav place doc there wakes has. go.had place.nav has) numbers
      (record {
        of_rows = λ row there. of_row row (go.entries row there);
        givens = λ nav place entry there has. inl (inr (inl (given_mapped s.places (then_ change).places h leaves.nav leaves.ever places nav place entry there has)));
        tooks = λ r q entry there has. inl (applied_tooks s event actor req change r q entry there has);
      })
    where
      of_row : (row : Row) → IsOfRow s.history.rows row.entry ⊎ IsNewEntry (then_ change) row.entry → IsKnownEntry s row.entry ⊎ IsNewEntry (then_ change) row.entry
      of_row row (inl old) = inl (inl old)
      of_row row (inr new) = inr new

  pub traversed_entries : (goal : Step) → AreEntries (without_made req hand) (then_ (changes.Traverse goal))
  traversed_entries goal =
      kept_entries (changes.Traverse goal) (taker s.history (applied s.history (changes.Traverse goal)) req) (taker_leaves s event actor req (changes.Traverse goal)) refl tt (omega arith) (same_rows s.history.rows (IsNewEntry (then_ (changes.Traverse goal))))

  pub edited_entries : AreEntries (without_made req hand) (then_ changes.Edit)
  edited_entries =
      kept_entries changes.Edit (taker s.history (applied s.history changes.Edit) req) (taker_leaves s event actor req changes.Edit) refl tt (omega arith) (same_rows s.history.rows (IsNewEntry (then_ changes.Edit)))

  pub reloaded_entries : (nav : NavId) → AreEntries (without_made req hand) (then_ (changes.Reload nav))
  reloaded_entries nav =
      kept_entries (changes.Reload nav) (λ (p : Place). taker s.history (applied s.history (changes.Reload nav)) req (cond (p.nav.0 == nav.0) (record p { is_pending = true; is_unmet = true }) p))
      (leaves_both (λ (p : Place). cond (p.nav.0 == nav.0) (record p { is_pending = true; is_unmet = true }) p) (taker s.history (applied s.history (changes.Reload nav)) req)
      (leaves_if (λ (p : Place). p.nav.0 == nav.0) (λ (p : Place). record p { is_pending = true; is_unmet = true }) (record { nav = λ p. refl; ever = λ p. refl; status = λ p doc e. refl; given = λ p. refl; epoch = λ p. refl }))
      (taker_leaves s event actor req (changes.Reload nav)))
      (places_both (λ (p : Place). cond (p.nav.0 == nav.0) (record p { is_pending = true; is_unmet = true }) p) (taker s.history (applied s.history (changes.Reload nav)) req) s.places)
      tt (omega arith) (same_rows s.history.rows (IsNewEntry (then_ (changes.Reload nav))))

  pub removed_entries : (nav : NavId) → AreEntries (without_made req hand) (then_ (changes.RemoveFrame nav))
  removed_entries nav =
      kept_entries (changes.RemoveFrame nav) (taker s.history (applied s.history (changes.RemoveFrame nav)) req) (taker_leaves s event actor req (changes.RemoveFrame nav)) refl tt (omega arith) (removed_rows s.history nav (IsNewEntry (then_ (changes.RemoveFrame nav))))

  -- ---- a load's new entry, of whose request no document made anything

  module _ (unmade : made_of (request_in s.requests req) ≡ None) (nav : NavId) (state : StateId) (address : List ℕ) (memo : Option (List ℕ)) where
    abbrev load_push : Change
    load_push = changes.Push nav (next_entry_of s) state address memo

    pub load_pushed_entries : fits s.history (changes.Push nav (next_entry_of s) state address memo) ≡ true → AreEntries (without_made req hand) (then_ (changes.Push nav (next_entry_of s) state address memo))
    load_pushed_entries fit =
        kept_entries load_push (taker s.history (applied s.history load_push) req) (taker_leaves s event actor req load_push)
        (ap (λ (o : Option Made). with_taker s.history (applied s.history load_push) req (option_map_or (λ (m : Made). on_place nav (given_entry (next_entry_of s)) s.places) o s.places)) unmade)
        refl (let more : s.entries ≤ s.entries + 1 = omega arith in more)
        (pushed_rows s.history nav (next_entry_of s) state address memo (IsNewEntry (then_ load_push)) (record { maker = refl; number = (let same : s.entries + 1 ≤ s.entries + 1 = omega arith in same) }) fit)

    pub load_replaced_entries : (over : EntryId) → AreEntries (without_made req hand) (then_ (changes.Replace nav over (next_entry_of s) state address memo))
    load_replaced_entries over =
        kept_entries (changes.Replace nav over (next_entry_of s) state address memo) (taker s.history (applied s.history (changes.Replace nav over (next_entry_of s) state address memo)) req) (taker_leaves s event actor req (changes.Replace nav over (next_entry_of s) state address memo))
        (ap (λ (o : Option Made). with_taker s.history (applied s.history (changes.Replace nav over (next_entry_of s) state address memo)) req (option_map_or (λ (m : Made). on_place nav (given_entry (next_entry_of s)) s.places) o s.places)) unmade)
        refl (let more : s.entries ≤ s.entries + 1 = omega arith in more)
        (replaced_rows s.history nav over (next_entry_of s) state address memo (IsNewEntry (then_ (changes.Replace nav over (next_entry_of s) state address memo))) (record { maker = refl; number = (let same : s.entries + 1 ≤ s.entries + 1 = omega arith in same) }))
