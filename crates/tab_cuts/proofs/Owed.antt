-- What a cut event owes: each end pays it that pays what is due, and undoes nothing which the log without questions has by the checks that it goes on with.
use Rattle.log_model.specs.declared.row_kind.LogRow.{LogRow}
use Rattle.log_model.specs.Seen.{Seen}
use Rattle.log_model.specs.declared.row_kind.RowKind.{RowKind}
use Rattle.row_facts.specs.Owed.Owed.{IsLoose, IsOwed, Lasts, Stays}
use Rattle.seen_laws.proofs.Cuts.{log_cut}
use Rattle.seen_laws.specs.InEvent.{InEvent, cut, log_of, now_of, running, wanting}
use Rattle.std.proofs.Common.{Bool, List, [], ap, refl, subst, true, ◌≡◌}
use Rattle.tab_ids.specs.declared.DocId.{DocId}
use Rattle.tab_ids.specs.declared.ReqId.{ReqId}
use Rattle.unasked_dues.specs.Checking.{unasked}

module _ (e : InEvent) (out : List RowKind) (checking : ReqId → Bool) (due : Seen → Bool) where
  abbrev then_ : InEvent
  then_ = cut e out checking due

  -- the log without questions, as the event goes on
  pub now_cut : now_of then_ [] ≡ unasked checking (log_of e out)
  unfolding now_of
  now_cut = ap (unasked checking) (log_cut e out checking due)

  pub owed_cut : ((end : Seen) → Stays (unasked checking (log_of e out)) end → due end ≡ true) → IsOwed then_ []
  owed_cut pays end stays = rw (pays end (subst (λ (s : Seen). Stays s end) now_cut stays)) refl

  pub loose_cut : ((end : Seen) → Lasts (unasked checking (log_of e out)) end → due end ≡ true) → IsLoose then_ []
  loose_cut pays end lasts = rw (pays end (subst (λ (s : Seen). Lasts s end) now_cut lasts)) refl

-- whatever is wanted of what comes after, and whichever run of discarded documents lasts there
module _ (e : InEvent) (wants : List LogRow → Bool) (ran : List DocId) where
  pub owed_wanting : IsOwed e [] → IsOwed (running (wanting e wants) ran) []
  unfolding now_of
  owed_wanting owed = owed

  pub loose_wanting : IsLoose e [] → IsLoose (running (wanting e wants) ran) []
  unfolding now_of
  loose_wanting loose = loose
