-- What holds between two events of the log without questions: a row that isn't seen leaves it; and a traversal in its check holds the queue.
use Rattle.std.proofs.Common.{◌≡◌, ◌⊎◌, ℕ, ◌≤◌, Bool, true, false, List, [], Option, sym, subst, inl, inr}
use Rattle.tab_ids.specs.declared.ReqId.{ReqId}
use Rattle.log_model.specs.ActsAtOnce.{ends_stepped, ends_told}
use Rattle.log_model.specs.History.{has_state}
use Rattle.log_model.specs.Seen.{Asked, Document, Seen}
use Rattle.seen_facts.specs.Coord.Flowing.{Flows}
use Rattle.seen_facts.specs.Rest.Between.{HasLoadDocument, IsOfLoad}
use Rattle.seen_facts.specs.Walk.Serving.{AreServed}
use Rattle.tab_facts.specs.TabEvents.Between.{AreSwept, IsBetweenChecks, orders_go}
use Rattle.unasked.proofs.Whole.{silent}
use Rattle.unasked_tab.proofs.Silent.{silent_tab}

-- ---- a traversal in its check

-- as one enters its check, it holds the queue, or held it before
pub held_between : (keep : ℕ) (run : Option ReqId) (loads : List ReqId) (holds : Bool) (s : Seen) → IsBetweenChecks keep run loads holds s → IsBetweenChecks keep run loads true s
held_between keep run loads holds s is =
    record {
      tab = is.tab;
      flows = is.flows;
      served = is.served;
      told = is.told;
      stepped = λ never. absurd cc;
      held = is.held;
      rows_ = is.rows_;
      rests = is.rests;
      swept = is.swept;
      stands = is.stands;
      loading = is.loading;
      few = is.few;
    }

-- as it leaves it, whatever became of it, no step is to be put off
pub freed_between : (keep : ℕ) (run : Option ReqId) (loads : List ReqId) (holds : Bool) (s : Seen) → ends_stepped s ≡ true → IsBetweenChecks keep run loads holds s → IsBetweenChecks keep run loads false s
freed_between keep run loads holds s stepped is =
    record {
      tab = is.tab;
      flows = is.flows;
      served = is.served;
      told = is.told;
      stepped = λ none. stepped;
      held = is.held;
      rows_ = is.rows_;
      rests = is.rests;
      swept = is.swept;
      stands = is.stands;
      loading = is.loading;
      few = is.few;
    }

-- ---- a row that isn't seen

module _ (s : Seen) (event jobs states : ℕ) where
  abbrev quiet : Seen
  quiet = silent s event jobs states

  told_stays : ends_told s ≡ true → ends_told quiet ≡ true
  unfolding ends_told
  told_stays is = is

  stepped_stays : ends_stepped s ≡ true → ends_stepped quiet ≡ true
  unfolding ends_stepped
  stepped_stays is = is

  flows_stay : Flows s → Flows quiet
  flows_stay are =
      record { leads = are.leads; whose = are.whose; reaches = are.reaches; within = are.within }

  served_stays : AreServed s → AreServed quiet
  served_stays are = record { each = λ nav. record { serve = (are.each nav).serve } }

  of_load_stays : (d : Document) → IsOfLoad s d → IsOfLoad quiet d
  of_load_stays d is =
      record { req = is.req; q = is.q; found = is.found; ongoing = is.ongoing; own = is.own }

  swept_stays : AreSwept s ⊎ (orders_go s ≡ true) → AreSwept quiet ⊎ (orders_go quiet ≡ true)
  swept_stays (inr go) = inr go
  swept_stays (inl are) =
      inl (λ doc d found ready there. by_either d (are doc d found ready there))
    where
      by_either : (d : Document) → (has_state d.state s.history.rows ≡ true) ⊎ IsOfLoad s d → (has_state d.state s.history.rows ≡ true) ⊎ IsOfLoad quiet d
      by_either d (inl has) = inl has
      by_either d (inr of) = inr (of_load_stays d of)

  has_document_stays : (q : Asked) → HasLoadDocument s q → HasLoadDocument quiet q
  has_document_stays q has =
      record {
        state = has.state;
        own = has.own;
        doc = has.doc;
        d = has.d;
        found = has.found;
        of_state = has.of_state;
        there = has.there;
      }

  -- what holds between two events stays, where no fewer states were numbered
  pub silent_between : s.states ≤ states → (keep : ℕ) (run : Option ReqId) (loads : List ReqId) (holds : Bool) → IsBetweenChecks keep run loads holds s → IsBetweenChecks keep run loads holds (silent s event jobs states)
  silent_between more keep run loads holds is =
      record {
        tab = silent_tab s event jobs states more run loads [] is.tab;
        flows = flows_stay is.flows;
        served = served_stays is.served;
        told = told_stays is.told;
        stepped = λ none. stepped_stays (is.stepped none);
        held = is.held;
        rows_ = is.rows_;
        rests = is.rests;
        swept = swept_stays is.swept;
        stands = is.stands;
        loading = λ req q found ongoing. has_document_stays q (is.loading req q found ongoing);
        few = is.few;
      }

-- and so of any log that is equal to that one
pub unseen_between : (keep : ℕ) (run : Option ReqId) (loads : List ReqId) (holds : Bool) (s next : Seen) (event jobs states : ℕ) → next ≡ silent s event jobs states → s.states ≤ states → IsBetweenChecks keep run loads holds s → IsBetweenChecks keep run loads holds next
unseen_between keep run loads holds s next event jobs states same more is =
    subst (IsBetweenChecks keep run loads holds) (sym same) (silent_between s event jobs states more keep run loads holds is)
