-- What is known of entries, over the end of a request: what was made of it waits no longer.
use Rattle.std.proofs.Common.{◌≡◌, ℕ, false, None, List, ◌++◌, drop, Some, refl, sym, ap, ◌∙◌, subst, ◌==◌, true}
use Rattle.std.proofs.lemmas.Bool.{eqb-true}
use Rattle.tab_ids.specs.declared.ReqId.{ReqId}
use Rattle.log_model.specs.declared.made.Made.{Made}
use Rattle.log_model.specs.declared.outcome.Cause.{Cause}
use Rattle.log_model.specs.declared.outcome.Denial.{Denial}
use Rattle.log_model.specs.declared.outcome.Ending.{Ending}
use Rattle.log_model.specs.declared.outcome.Ending.TheVariants as endings
use Rattle.log_model.specs.declared.row_kind.Actor.{Actor}
use Rattle.log_model.specs.declared.row_kind.Actor.TheVariants as actors
use Rattle.log_model.specs.declared.row_kind.RowKind.TheVariants as rows
use Rattle.log_model.specs.After.{after, desk_dropped, ended}
use Rattle.log_model.specs.AfterRequests.{without_req}
use Rattle.log_model.specs.Equal.{has_req}
use Rattle.log_model.specs.Seen.{Seen, Asked, Desk, Place, desk_of, request_in}
use Rattle.seen_facts.specs.Coord.Leading.{held_back}
use Rattle.seen_facts.proofs.Coord.Held.{made_of}
use Rattle.seen_facts.proofs.Coord.Unread.{desk_mapped}
use Rattle.seen_facts.specs.Hang.Members.{Has}
use Rattle.seen_facts.specs.Each.Items.{Each}
use Rattle.seen_facts.specs.Entry.Entries.{AreEntries, IsMadeThere, mades_of, untold, waiting}
use Rattle.seen_facts.proofs.Entry.Parts.{GivenBefore, KeepsAsked, SameTold, asked_on, given_same, goes_entries, home_same, itself_keeps, map_itself, same_shown, told_on, view_stays}
use Rattle.seen_facts.proofs.Entry.Skips.{IsNoEntry, IsPassed, Skips, each_skip, hand_skips, held_skips, made_in, skips_append, skips_same, without_made}
use Rattle.seen_facts.proofs.Entry.Stays.{ListsGo, lists_of, some_same}

-- what was made of the request that ends, and is held back or at hand, is passed over
pub record IsToEnd (hand : List Made) (s : Seen) (req : ReqId) : Type 0 where
  pub held : (r : ReqId) (made : Made) → (r.0 == req.0) ≡ true → has_req s.parked r ≡ true → made_in s.requests r ≡ Some made → IsPassed s made
  pub at_hand : (made : Made) → Has hand made → (made.req.0 == req.0) ≡ true → IsPassed s made

-- nothing was made of it
pub unmade_end : (hand : List Made) (s : Seen) (req : ReqId) → made_in s.requests req ≡ None → ((made : Made) → Has hand made → (made.req.0 == req.0) ≡ false) → IsToEnd hand s req
unmade_end hand s req unmade none =
    record {
      held = λ r made same has is. (let never : None ≡ Some made = sym unmade ∙ ap (λ (n : ℕ). made_in s.requests (record { 0 = n })) (sym (eqb-true r.0 req.0 same)) ∙ is in absurd cc);
      at_hand = λ made has same. (let never : true ≡ false = sym same ∙ none made has in absurd cc);
    }

-- what was made of it is no entry
pub no_entry_end : (hand : List Made) (s : Seen) (req : ReqId) (its : Made) → made_in s.requests req ≡ Some its → IsNoEntry its.what → ((made : Made) → Has hand made → (made.req.0 == req.0) ≡ true → IsNoEntry made.what) → IsToEnd hand s req
no_entry_end hand s req its makes none hands =
    record {
      held = λ r made same has is. held r made same is;
      at_hand = λ made has same nav place doc there wakes row under. hands made has same;
    }
  where
    held : (r : ReqId) (made : Made) → (r.0 == req.0) ≡ true → made_in s.requests r ≡ Some made → IsPassed s made
    held r made same is nav place doc there wakes row under =
        let one : its ≡ made = some_same (sym makes ∙ ap (λ (n : ℕ). made_in s.requests (record { 0 = n })) (sym (eqb-true r.0 req.0 same)) ∙ is) in
        subst (λ (m : Made). IsNoEntry m.what) one none

-- what an end leaves of what waits
pub record Ended (s t : Seen) (req : ReqId) : Type 0 where
  pub made : (r : ReqId) → made_of (request_in t.requests r) ≡ made_of (request_in s.requests r)
  pub parked : t.parked ≡ without_req req s.parked
  pub told : SameTold s t

module _ (hand : List Made) (s t : Seen) (req : ReqId) (end : IsToEnd hand s req) (ends : Ended s t req) where
  waiting_skips : Skips (IsPassed s) (waiting s hand) (waiting t (without_made req hand))
  waiting_skips =
      subst (λ (l : List ReqId). Skips (IsPassed s) (waiting s hand) (held_back t.requests l ++ without_made req hand)) (sym ends.parked)
      (skips_append (IsPassed s) (held_back s.requests s.parked) (held_back t.requests (without_req req s.parked)) hand (without_made req hand) (held_skips (IsPassed s) s.requests t.requests s.parked req ends.made end.held) (hand_skips (IsPassed s) req hand end.at_hand))

  pub ended_lists : ListsGo hand (without_made req hand) s t
  ended_lists =
      lists_of hand (without_made req hand) s t (λ proc.
      subst (λ (l : List Made). Skips (IsPassed s) (untold (waiting s hand) (desk_of s proc)) (waiting t (without_made req hand) ++ l)) (sym (ends.told proc))
      (skips_append (IsPassed s) (waiting s hand) (waiting t (without_made req hand)) (mades_of (desk_of s proc)) (mades_of (desk_of s proc)) waiting_skips (skips_same (IsPassed s) (mades_of (desk_of s proc)))))

  pub ended_waits : AreEntries hand s → Each (IsMadeThere s.documents) (waiting t (without_made req hand))
  ended_waits are = each_skip (IsPassed s) (IsMadeThere s.documents) (waiting s hand) (waiting t (without_made req hand)) waiting_skips are.waits

-- ---- the rows

module _ (hand : List Made) (s : Seen) (event : ℕ) (are : AreEntries hand s) (req : ReqId) (end : IsToEnd hand s req) where
  ended_so : (t : Seen) (ending : Ending) → t.documents ≡ s.documents → t.places ≡ s.places → t.history.rows ≡ s.history.rows → t.entries ≡ s.entries → t.requests ≡ ended s.requests req ending → t.parked ≡ without_req req s.parked → SameTold s t → AreEntries (without_made req hand) t
  ended_so t ending documents places rows_ numbers requests parked told =
      goes_entries hand (without_made req hand) s t
      (record {
        g = λ d. d;
        keeps = itself_keeps;
        applied = λ d. refl;
        documents = documents ∙ map_itself s.documents;
        views = λ doc d found. view_stays d;
        lists = ended_lists hand s t req end ends;
        waits = ended_waits hand s t req end ends are;
        home = home_same hand s t told are;
        shown = same_shown s t places;
        stays = record { history = rows_; numbers = numbers; given = subst (λ (l : List Place). GivenBefore s.places l) (sym places) (given_same s.places); asked = asked };
      })
      are
    where
      asked : KeepsAsked s.requests t.requests
      asked = subst (λ (l : List Asked). KeepsAsked s.requests l) (sym requests) (asked_on s.requests req (λ q. record q { ending = Some ending }) (λ q. refl) (λ q. refl))

      ends : Ended s t req
      ends = record { made = asked.made; parked = parked; told = told }

  pub refused_entries : (actor : Actor) (reason : Denial) → AreEntries (without_made req hand) (after s (record { event = event; actor = actor; row = rows.Refused req reason }))
  refused_entries actor reason = by_actor actor
    where
      by_actor : (a : Actor) → AreEntries (without_made req hand) (after s (record { event = event; actor = a; row = rows.Refused req reason }))
      by_actor (actors.Proc proc) =
          ended_so (after s (record { event = event; actor = actors.Proc proc; row = rows.Refused req reason })) (endings.Refused reason) refl refl refl refl refl refl
          (told_on s (after s (record { event = event; actor = actors.Proc proc; row = rows.Refused req reason })) proc (λ desk. record desk { input = drop 1 desk.input }) refl (λ desk. refl) refl)
      by_actor actors.Coord = ended_so (after s (record { event = event; actor = actors.Coord; row = rows.Refused req reason })) (endings.Refused reason) refl refl refl refl refl refl (λ proc. refl)
      by_actor actors.Ui = ended_so (after s (record { event = event; actor = actors.Ui; row = rows.Refused req reason })) (endings.Refused reason) refl refl refl refl refl refl (λ proc. refl)
      by_actor actors.Start = ended_so (after s (record { event = event; actor = actors.Start; row = rows.Refused req reason })) (endings.Refused reason) refl refl refl refl refl refl (λ proc. refl)

  pub dropped_entries : (actor : Actor) (cause : Cause) → AreEntries (without_made req hand) (after s (record { event = event; actor = actor; row = rows.Dropped req cause }))
  dropped_entries actor cause =
      ended_so (after s (record { event = event; actor = actor; row = rows.Dropped req cause })) (endings.Dropped cause) refl refl refl refl refl refl
      (λ proc. ap (λ (desk : Desk). mades_of desk) (desk_mapped (desk_dropped req) s.desks proc (λ desk. refl) refl))
