-- A navigable may leave its document, where none may be kept.
use Rattle.log_model.specs.Seen.{Seen, document_of}
use Rattle.log_model.specs.declared.job.Why.{Why}
use Rattle.log_model.specs.declared.row_kind.RowKind.{RowKind}
use Rattle.seen_laws.specs.InEvent.{now_of}
use Rattle.std.proofs.Common.{List, None, Some, [], ap, arith, length, refl, subst, sym, ℕ, ◌∙◌, ◌∷◌, ◌≡◌, ◌≤◌}
use Rattle.tab_doors.specs.declared.tables.Tables.{Tables}
use Rattle.tab_ids.specs.declared.DocId.{DocId}
use Rattle.tab_ids.specs.declared.EntryId.{EntryId}
use Rattle.tab_ids.specs.declared.NavId.{NavId}
use Rattle.tab_ids.specs.declared.StateId.{StateId}
use Rattle.tab_moves.specs.Moving.{MayBeMoved}
use Rattle.tab_moves.proofs.PassedOn.{begun_leaving}
use Rattle.tab_moves.specs.Making.{show_why}
use Rattle.tab_moves.specs.PassedOn.{IsLeaving, IsPassing}
use Rattle.tab_walk.specs.Cutting.{MayCut, MayCutFrom, cut_of}
use Rattle.tab_walk.specs.Moving.{InMove, document_or, in_move}

none_kept_ : (l : List DocId) (keep : ℕ) → length l ≤ keep → keep ≡ 0 → l ≡ []
none_kept_ [] keep low none = refl
none_kept_ (x ∷ l) keep low none = absurd (omega (arith, low, none))

module _ (m : InMove) (out : List RowKind) (t : Tables) (pass : IsPassing m.pass out t) (nav : NavId) (cause : Why) (doc : DocId) (entry : EntryId) (left : DocId) (old : StateId) (its : in_move m.pass nav cause doc entry left old ≡ m) (may : MayCutFrom m t.running t.kept.keep (now_of m.pass.event out)) where
  abbrev s : Seen
  s = now_of m.pass.event out

  pub cut_begun : IsLeaving m.pass (Some (cut_of m)) [] out t
  cut_begun = begun_leaving m.pass out t m.doc None t.kept.states pass refl

  pub cut_ready : (why : Why) → why ≡ show_why t.running cause → MayCut m t.running s nav left old why
  cut_ready why for_run =
      record {
        its = ap (λ (x : InMove). x.nav) (sym its);
        its_left = ap (λ (x : InMove). x.left) (sym its);
        its_state = ap (λ (x : InMove). x.state) (sym its);
        for_run = own_run;
        bound = may.bound;
        movable = subst (λ (w : Why). MayBeMoved m.pass.event s m.nav w) (sym own_run) may.movable;
        were = may.were;
        loads = may.loads;
        none = sym may.header ∙ may.none;
        free = may.free;
        kept = none_kept_ s.kept t.kept.keep pass.few may.none;
      }
    where
      own_run : why ≡ show_why t.running m.cause
      own_run = for_run ∙ ap (λ (x : InMove). show_why t.running x.cause) its

  pub cut_new : document_of s m.doc ≡ Some (document_or (document_of s m.doc))
  cut_new = may.bound.new_found ∙ sym (ap (λ o. Some (document_or o)) may.bound.new_found)
