-- What is known of entries, over an edit that a document makes of its first poke: it is reported nowhere.
use Rattle.std.proofs.Common.{◌≡◌, inl, inr, ℕ, Bool, true, false, cond, ◌==◌, List, ◌++◌, Option, Some, None, refl, sym, ap, ◌∙◌, subst, arith}
use Rattle.std.specs.Prelude.{filter_map, option_map}
use Rattle.tab_ids.specs.declared.ProcId.{ProcId}
use Rattle.log_model.specs.declared.made.Made.{Made}
use Rattle.log_model.specs.declared.made.What.{What}
use Rattle.log_model.specs.declared.made.What.TheVariants as whats
use Rattle.log_model.specs.declared.row_kind.Actor.{Actor}
use Rattle.log_model.specs.declared.row_kind.LogRow.{LogRow}
use Rattle.log_model.specs.declared.row_kind.RowKind.TheVariants as rows
use Rattle.log_model.specs.After.{after, desk_made, desks_made, follows_finished, on_desk, reports_made}
use Rattle.log_model.specs.AfterRequests.{made_of_report}
use Rattle.log_model.specs.Equal.{has_req}
use Rattle.log_model.specs.Seen.{Seen, Document, desk_of}
use Rattle.log_model.specs.Views.{View, after_made}
use Rattle.seen_facts.proofs.Coord.Held.{held_apart, on_alike}
use Rattle.seen_facts.specs.Each.Items.{Each}
use Rattle.seen_facts.specs.Entry.Entries.{AreEntries, IsMadeThere, mades_of, untold, waiting}
use Rattle.seen_facts.proofs.Entry.Parts.{KeepsDoc, SameTold, applied_mapped, docs_mapped, given_same, had_same, home_same, keeps_if, same_shown, took_by, took_of, told_on, view_stays, views_mapped}
use Rattle.seen_facts.proofs.Entry.Skips.{IsPassed, Skips, skips_same}
use Rattle.seen_facts.proofs.Entry.Stays.{IsNumberedSo, left_entries, lists_of, some_same}

-- the view of an edit has numbered as many entries as before
edit_number : (view : View) (what : What) → what ≡ whats.Edit → (after_made view what).numbered ≡ view.numbered
edit_number view what is = ap (λ (w : What). (after_made view w).numbered) is

module _ (hand : List Made) (s : Seen) (event : ℕ) (actor : Actor) (are : AreEntries hand s) (proc : ProcId) (made : Made) (what : made.what ≡ whats.Edit) (unparked : has_req s.parked made.req ≡ false) where
  abbrev edit_row : LogRow
  edit_row = record { event = event; actor = actor; row = rows.Made proc made }

  abbrev edited : Seen
  edited = after s edit_row

  abbrev does : Document → Document
  does x = record x { view = option_map (λ (v : View). after_made v made.what) x.view }

  abbrev edits : Document → Document
  edits x = cond (x.nr.0 == made.doc.0) (does x) x

  pub edit_entries : follows_finished s edit_row ≡ false → AreEntries hand edited
  edit_entries anew =
      left_entries hand hand s edited
      (record {
        docs = docs_mapped s edited edits keeps refl;
        applied = applied_mapped s edited edits keeps.nr refl (λ x. elim (x.nr.0 == made.doc.0) as (λ b. (let y : Document = cond b (does x) x in y).last_applied ≡ x.last_applied) [ true ↦ refl | false ↦ refl ]);
        views = views_mapped s edited edits keeps.nr refl (λ doc x found view has. by_test x view (x.nr.0 == made.doc.0) has);
        lists = lists_of hand hand s edited lists;
        waits = subst (λ (l : List Made). Each (IsMadeThere s.documents) l) (sym waits) are.waits;
        home = home_same hand s edited told are;
        shown = λ nav place doc there wakes. inl (same_shown s edited refl nav place doc there wakes);
        had = had_same s edited refl;
        numbers = omega arith;
        entries =
            record {
              of_rows = λ row there. inl (inl (record { row = row; there = there; is = refl }));
              givens = λ nav place entry there has. inl (inr (inl (given_same s.places nav place entry there has)));
              tooks = λ req q entry there has. inl (inr (inr (took_by s.requests edited.requests (λ r. on_alike took_of s.requests made.req (λ x. record x { made = Some made }) r (λ x. refl)) req q entry there has)));
            };
      })
      are
    where
      keeps : KeepsDoc edits
      keeps = keeps_if (λ (x : Document). x.nr.0 == made.doc.0) does (record { nr = λ x. refl; proc = λ x. refl; ready = λ x e. e })

      by_view : (x : Document) (view : View) (o : Option View) → x.view ≡ o → option_map (λ (v : View). after_made v made.what) o ≡ Some view → IsNumberedSo x view.numbered
      by_view x view None e h = absurd cc
      by_view x view (Some old) e h = inr (old, e, sym (edit_number old made.what what) ∙ ap (λ (v : View). v.numbered) (some_same h))

      by_test : (x : Document) (view : View) (b : Bool) → (let y : Document = cond b (does x) x in y).view ≡ Some view → IsNumberedSo x view.numbered
      by_test x view true has = by_view x view x.view refl has
      by_test x view false has = view_stays x view has

      waits : waiting edited hand ≡ waiting s hand
      waits = ap (λ (l : List Made). l ++ hand) (held_apart s.requests s.parked made.req (λ x. record x { made = Some made }) unparked)

      told : SameTold s edited
      told =
          told_on s edited proc (desk_made made) (ap (λ (b : Bool). on_desk proc (desks_made b made) s.desks) anew) (λ desk. refl)
          (ap (λ (w : What). filter_map made_of_report (reports_made (desk_of s proc).reports made w)) what)

      lists : (p : ProcId) → Skips (IsPassed s) (untold (waiting s hand) (desk_of s p)) (untold (waiting edited hand) (desk_of edited p))
      lists p =
          subst (λ (l : List Made). Skips (IsPassed s) (untold (waiting s hand) (desk_of s p)) l) (sym (ap (λ (l : List Made). l ++ mades_of (desk_of edited p)) waits ∙ ap (λ (l : List Made). waiting s hand ++ l) (told p))) (skips_same (IsPassed s) (untold (waiting s hand) (desk_of s p)))
