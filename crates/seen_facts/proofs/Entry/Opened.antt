-- What is known of entries as the tab opens: one entry, which the coordinator numbered, and nothing made.
use Rattle.std.proofs.Common.{◌≡◌, inl, inr, ℕ, ◌≤◌, Bool, true, false, cond, ◌==◌, List, [], Option, Some, None, refl, sym, ap, ◌∙◌, subst, arith}
use Rattle.std.specs.Prelude.{filter}
use Rattle.tab_ids.specs.declared.DocId.{DocId}
use Rattle.tab_ids.specs.declared.EntryId.{EntryId}
use Rattle.tab_ids.specs.declared.NavId.{NavId}
use Rattle.tab_ids.specs.declared.ProcId.{ProcId}
use Rattle.tab_ids.specs.declared.ReqId.{ReqId}
use Rattle.tab_ids.specs.declared.StateId.{StateId}
use Rattle.log_model.specs.declared.made.Made.{Made}
use Rattle.log_model.specs.declared.row.Row.{Row}
use Rattle.log_model.specs.declared.row_kind.Actor.{Actor}
use Rattle.log_model.specs.declared.row_kind.RowKind.TheVariants as rows
use Rattle.log_model.specs.After.{after}
use Rattle.log_model.specs.AfterDocuments.{opening_document}
use Rattle.log_model.specs.AfterPlaces.{opening_place}
use Rattle.log_model.specs.Seen.{Seen, Asked, Desk, Document, Place, desk_of, document_of, empty_desk, nothing, place_of, request_in}
use Rattle.seen_facts.specs.Coord.Leading.{is_made_under}
use Rattle.seen_facts.specs.Hang.Members.{Has}
use Rattle.seen_facts.specs.Each.Mades.{Ascend, Continues}
use Rattle.seen_facts.specs.Each.Items.{Each, IsUpTo}
use Rattle.seen_facts.specs.Entry.Entries.{AreEntries, IsCounted, IsMadeIn, IsNumbered, mades_of}
use Rattle.seen_facts.proofs.Entry.Stays.{some_same}

module _ (event : ℕ) (actor : Actor) (entry : EntryId) (state : StateId) (doc : DocId) (proc : ProcId) (slot : Option ℕ) (address : List ℕ) (first_maker : entry.maker ≡ 0) (first_entry : entry.nr ≤ 1) (first_doc : doc.0 ≡ 1) where
  abbrev pub opened : Seen
  opened = after nothing (record { event = event; actor = actor; row = rows.Opened entry state doc proc slot address })

  abbrev document : Document
  document = opening_document entry state doc proc slot address

  only_document : (n : DocId) (d : Document) → document_of opened n ≡ Some d → document ≡ d
  only_document n d = by_test (doc.0 == n.0)
    where
      by_test : (b : Bool) → (let o : Option Document = cond b (Some document) None in o) ≡ Some d → document ≡ d
      by_test true e = some_same e
      by_test false e = absurd cc

  only_place : (n : NavId) (p : Place) → place_of opened n ≡ Some p → opening_place entry doc ≡ p
  only_place n p = by_test (0 == n.0)
    where
      by_test : (b : Bool) → (let o : Option Place = cond b (Some (opening_place entry doc)) None in o) ≡ Some p → opening_place entry doc ≡ p
      by_test true e = some_same e
      by_test false e = absurd cc

  none_asked : (req : ReqId) (q : Asked) → request_in [] req ≡ Some q → ⊥
  none_asked req q = by_number (req.0 == 0)
    where
      by_number : (b : Bool) → (let o : Option Asked = cond b None None in o) ≡ Some q → ⊥
      by_number true e = absurd cc
      by_number false e = absurd cc

  none_told : (p : ProcId) → mades_of (desk_of opened p) ≡ []
  none_told p = elim (proc.0 == p.0) as (λ b. mades_of (let d : Desk = cond b (empty_desk proc) (empty_desk p) in d) ≡ []) [ true ↦ refl | false ↦ refl ]

  its_entry : IsNumbered 1 1 opened.documents entry
  its_entry =
      record {
        own = λ own. first_entry;
        maker = omega (arith, first_maker);
        applied = λ n d found. subst (λ (x : Document). IsUpTo x.last_applied x.nr entry) (only_document n d found) (λ maker. absurd (omega (arith, maker, first_maker, first_doc)));
      }

  pub opened_entries : AreEntries [] opened
  opened_entries =
      record {
        counted = λ n d found. subst (λ (x : Document). IsCounted 1 x) (only_document n d found) (record { real = omega (arith, first_doc); number = omega (arith, first_doc) });
        entries =
            record {
              of_row = λ row there. of_row row there;
              given = λ n p e there has. of_place e (subst (λ (x : Place). Has x.ever_given e) (sym (only_place n p there)) has);
              took = λ req q e there has. absurd (none_asked req q there);
            };
        waits = tt;
        home = λ p. subst (λ (l : List Made). Each (IsMadeIn opened.documents p) l) (sym (none_told p)) tt;
        unmade = λ n d found unready. (let never : true ≡ false = ap (λ (x : Document). x.is_ready) (only_document n d found) ∙ unready in absurd cc);
        ascends = λ n d found view has. subst (λ (l : List Made). Ascend d.last_applied (filter (λ (m : Made). m.doc.0 == d.nr.0) l) view.numbered) (sym (none_told d.proc)) (subst (λ (x : Document). x.last_applied ≤ view.numbered) (only_document n d found) (let low : 0 ≤ view.numbered = omega arith in low));
        continues = λ n p m d given there wakes found has is. subst (λ (l : List Made). Continues given (filter (is_made_under m p.epoch) l)) (sym (none_told d.proc)) tt;
      }
    where
      of_row : (row : Row) → Has opened.history.rows row → IsNumbered 1 1 opened.documents row.entry
      of_row row (inl same) = subst (λ (r : Row). IsNumbered 1 1 opened.documents r.entry) same its_entry
      of_row row (inr never) = absurd never

      of_place : (e : EntryId) → Has (opening_place entry doc).ever_given e → IsNumbered 1 1 opened.documents e
      of_place e (inl same) = subst (IsNumbered 1 1 opened.documents) same its_entry
      of_place e (inr never) = absurd never
