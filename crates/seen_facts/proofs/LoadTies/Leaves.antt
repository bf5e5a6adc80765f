-- Rows over which the table of loads stays as it is.
use Rattle.std.proofs.Common.{◌≡◌, Bool, true, ◌&&◌, List, Option, Some, None, refl, sym, ap, ◌∙◌}
use Rattle.std.specs.Prelude.{is_none, option_map}
use Rattle.tab_ids.specs.declared.NavId.{NavId}
use Rattle.tab_ids.specs.declared.ReqId.{ReqId}
use Rattle.tab_ids.specs.declared.StateId.{StateId}
use Rattle.log_model.specs.declared.outcome.Ending.{Ending}
use Rattle.log_model.specs.declared.request.Request.{Request}
use Rattle.log_model.specs.Once.{loads}
use Rattle.log_model.specs.Places.{is_load, is_ongoing_load}
use Rattle.log_model.specs.Seen.{Seen, Asked, request_of}
use Rattle.seen_facts.proofs.Request.Readers.{IsBlind, SameReads}
use Rattle.load_table.specs.declared.load.Load.{Load}
use Rattle.load_table.specs.declared.phase.Phase.{Phase}
use Rattle.load_table.specs.Loads.{in_phase}
use Rattle.seen_facts.specs.LoadTies.Tying.{HasLoad, IsLoadTied, TiesLoads, made_for, phase_with}

-- what a table reads of a request
pub record Traced : Type 0 where
  pub what : Request
  pub is_started : Bool
  pub ending : Option Ending
  pub state : Option StateId
  pub replaces : Bool

abbrev pub traced : Asked → Traced
traced q = record { what = q.what; is_started = q.is_started; ending = q.ending; state = q.state; replaces = q.replaces }

abbrev pub traced_of : Seen → ReqId → Option Traced
traced_of s req = option_map traced (request_of s req)

pub traced_blind : IsBlind traced
traced_blind = record { moves = λ q activated moved. refl; asks = λ q asks. refl; fragments = λ q doc. refl; misses = λ q is. refl }

abbrev pub goes_on : Traced → Bool
goes_on l = (l.is_started && is_none l.ending) && is_load l.what

-- a request that is read so
pub record IsReadAs (s : Seen) (req : ReqId) (l : Traced) : Type 0 where
  pub q : Asked
  pub found : request_of s req ≡ Some q
  pub is : traced q ≡ l

pub read_as : (s : Seen) (req : ReqId) (l : Traced) → traced_of s req ≡ Some l → IsReadAs s req l
read_as s req l at = by_found (request_of s req) refl
  where
    by_found : (o : Option Asked) → request_of s req ≡ o → IsReadAs s req l
    by_found None e = let no_ : None ≡ Some l = sym (ap (λ (o : Option Asked). option_map traced o) e) ∙ at in absurd cc
    by_found (Some q) e =
        let both : Some (traced q) ≡ Some l = sym (ap (λ (o : Option Asked). option_map traced o) e) ∙ at in
        record { q = q; found = e; is = let same : traced q ≡ l = cc in same }

-- ---- what is left

-- a load of the table is one still, where its request is read as it was, in the phase to which its document state has come
pub tied_in : (s t : Seen) (load : Load) (phase : Phase) → traced_of t load.req ≡ traced_of s load.req → phase ≡ phase_with (made_for t.documents load.state) → IsLoadTied s load → IsLoadTied t (in_phase phase load)
tied_in s t load phase same is tied =
    let r = read_as t load.req (traced tied.q) (same ∙ ap (λ (o : Option Asked). option_map traced o) tied.found) in
    record {
      q = r.q;
      found = r.found;
      ongoing = ap goes_on r.is ∙ tied.ongoing;
      mode = tied.mode;
      what = ap (λ (l : Traced). l.what) r.is ∙ tied.what;
      state = ap (λ (l : Traced). l.state) r.is ∙ tied.state;
      replace = tied.replace ∙ sym (ap (λ (l : Traced). l.replaces) r.is);
      phase = is;
    }

-- so it is in its own phase, where its document state has come as far
pub tied_again : (s t : Seen) (load : Load) → traced_of t load.req ≡ traced_of s load.req → phase_with (made_for t.documents load.state) ≡ phase_with (made_for s.documents load.state) → IsLoadTied s load → IsLoadTied t load
tied_again s t load same phase tied = tied_in s t load load.phase same (tied.phase ∙ sym phase) tied

-- the table has an ongoing load, where it was one before
pub has_again : (s t : Seen) (table : List Load) → TiesLoads s table → (req : ReqId) (q : Asked) (nav : NavId) → request_of t req ≡ Some q → is_ongoing_load q ≡ true → loads nav q.what ≡ true → traced_of t req ≡ traced_of s req → HasLoad table nav req
has_again s t table ties req q nav found ongoing loads_it same =
    let r = read_as s req (traced q) (sym same ∙ ap (λ (o : Option Asked). option_map traced o) found) in
    ties.all req r.q nav r.found (ap goes_on r.is ∙ ongoing) (ap (λ (l : Traced). loads nav l.what) r.is ∙ loads_it)

-- the requests are read as they were, and the document states have come as far
pub left_ties : (s t : Seen) (table : List Load) → SameReads traced s.requests t.requests → ((state : StateId) → phase_with (made_for t.documents state) ≡ phase_with (made_for s.documents state)) → TiesLoads s table → TiesLoads t table
left_ties s t table same phases ties =
    record {
      there = λ nav load at. tied_again s t load (same load.req) (phases load.state) (ties.there nav load at);
      all = λ req q nav found ongoing loads_it. has_again s t table ties req q nav found ongoing loads_it (same req);
    }
