-- The request of what a document made is a poke, or a load that was sent to a fragment: what the doors ask of it follows of both.
use Rattle.row_facts.specs.FrameRows.Taking.{IsPoked}
use Rattle.log_model.specs.Causes.{denial_at_delivery}
use Rattle.log_model.specs.Once.{has_to_begin}
use Rattle.log_model.specs.Queue.{is_taken_up_at_once}
use Rattle.log_model.specs.Seen.{Asked, Seen}
use Rattle.log_model.specs.declared.made.Made.{Made}
use Rattle.log_model.specs.declared.made.What.{What}
use Rattle.log_model.specs.declared.made.What.TheVariants as whats
use Rattle.log_model.specs.declared.outcome.Denial.{Denial}
use Rattle.log_model.specs.declared.row_kind.RowKind.{RowKind}
use Rattle.std.proofs.Common.{List, None, Option, Some, false, inl, inr, refl, sym, true, ◌∙◌, ◌≡◌, ◌⊎◌}
use Rattle.tab_doors.specs.Dues.{IsMadeFor}
use Rattle.tab_doors.specs.declared.tables.Tables.{Tables}
use Rattle.std.specs.Prelude.{is_some}
use Rattle.log_model.specs.Places.{is_load}
use Rattle.tab_ids.specs.declared.DocId.{DocId}
use Rattle.tab_ids.specs.declared.ReqId.{ReqId}
use Rattle.tab_ids.specs.declared.StateId.{StateId}
use Rattle.tab_rests.proofs.PassedOn.{HasSetOut, out_off, sent_out}
use Rattle.tab_rests.specs.PassedOn.{InPass}
use Rattle.tab_takes.proofs.Verdicts.{s}
use Rattle.tab_takes.specs.Taking.{IsOfFragment, IsOfPoke, IsToTake, is_new_entry}

-- a new entry is never refused
undenied : (s : Seen) (made : Made) → is_new_entry made.what ≡ true → denial_at_delivery s made ≡ None
undenied s made new = by_what made.what refl new
  where
    by_what : (what : What) → made.what ≡ what → is_new_entry what ≡ true → denial_at_delivery s made ≡ None
    by_what (whats.Push entry memo address) is on = rw is refl
    by_what (whats.Replace over entry memo address) is on = rw is refl
    by_what (whats.AddFrame nav) is on = absurd cc
    by_what (whats.RemoveFrame nav) is on = absurd cc
    by_what (whats.Go delta) is on = absurd cc
    by_what whats.Edit is on = absurd cc

module _ (p : InPass) (out : List RowKind) (t : Tables) (blame : List (StateId × ReqId)) (made : Made) (at : IsToTake p out t blame made) where
  abbrev now_ : Seen
  now_ = s p out t blame made at

  abbrev q : Asked
  q = at.taking.q

  -- it doesn't have to begin before it is applied
  pub unbegun : has_to_begin q.what ≡ false
  unbegun = by_kind at.taking.kind
    where
      by_kind : IsOfPoke q ⊎ IsOfFragment now_ q → has_to_begin q.what ≡ false
      by_kind (inl of) = rw of.what (rw of.no_step refl)
      by_kind (inr of) = rw of.what refl

  -- a document was sent to a fragment for it, if it is a load
  pub set_out : HasSetOut q
  set_out = sent_out q at.taking.rests (λ load. by_fragment load q.fragment refl)
    where
      by_fragment : is_load q.what ≡ true → (o : Option DocId) → q.fragment ≡ o → is_some o ≡ true
      by_fragment load (Some doc) is = refl
      by_fragment load None is =
          let none : q.made ≡ None = at.passing.going.tab.fragments.unsent made.req q at.taking.there load is in
          let never : None ≡ Some made = sym none ∙ at.taking.makes in
          absurd cc

  -- so it isn't in its check
  pub off : p.event.checking made.req ≡ false
  off = out_off p.event out t at.passing.work at.passing.going.tab.asked.each made.req q at.taking.there set_out

  poked : IsOfPoke q → IsPoked now_ made.req q made
  poked of =
      record {
        at = at.taking.there;
        open_ = at.taking.open_;
        nav = of.nav;
        action = of.action;
        what = of.what;
        no_step = of.no_step;
        makes = at.taking.makes;
      }

  -- where it is to be taken up at once, it was made of a poke, or of a load that is a fragment navigation
  pub made_for : is_taken_up_at_once now_ made ≡ true → IsMadeFor now_ made.req q made
  made_for up = by_kind at.taking.kind
    where
      by_kind : IsOfPoke q ⊎ IsOfFragment now_ q → IsMadeFor now_ made.req q made
      by_kind (inl of) = inl (poked of)
      by_kind (inr of) =
          inr (record {
            nav = of.nav;
            mode = of.mode;
            address = of.address;
            what = of.what;
            unstarted = at.taking.unstarted;
            passed = of.passed;
            makes = at.taking.makes;
            changes = at.taking.changes;
            at_once = up;
          })

  -- what is refused was made of a poke, since of a load a new entry was made
  pub denied_poke : (reason : Denial) → denial_at_delivery now_ made ≡ Some reason → IsPoked now_ made.req q made
  denied_poke reason due = by_kind at.taking.kind
    where
      by_kind : IsOfPoke q ⊎ IsOfFragment now_ q → IsPoked now_ made.req q made
      by_kind (inl of) = poked of
      by_kind (inr of) =
          let new : is_new_entry made.what ≡ true = (at.taking.theirs made.req at.taking.q made at.taking.there (rw of.what refl) at.taking.makes).1 in
          let never : None ≡ Some reason = sym (undenied now_ made new) ∙ due in
          absurd cc
