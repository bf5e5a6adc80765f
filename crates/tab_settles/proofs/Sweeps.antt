-- After a pass no document is stray, or an order is on its way.
use Rattle.tab_settles.proofs.PutOuts.{order_or_drop_goes}
use Rattle.seen_facts.proofs.Coord.Unread.{next}
use Rattle.seen_facts.specs.Hang.Members.{Has}
use Rattle.log_model.specs.After.{desk_dropped}
use Rattle.log_model.specs.History.{has_state}
use Rattle.log_model.specs.Orders.{ongoing_load}
use Rattle.log_model.specs.Seen.{Asked, Desk, Document, Seen, desk_in, document_of}
use Rattle.log_model.specs.declared.job.Job.{Job}
use Rattle.log_model.specs.declared.row_kind.Actor.{Actor}
use Rattle.log_model.specs.declared.row_kind.RowKind.{RowKind}
use Rattle.seen_facts.specs.Rest.Between.{IsOfLoad}
use Rattle.seen_laws.proofs.InEvents.{now_more}
use Rattle.seen_laws.specs.InEvent.{InEvent, now_of}
use Rattle.std.proofs.Common.{Bool, List, None, Option, Some, [], ap, append-nil, append_assoc, false, inl, inr, length, map, not, refl, subst, sym, true, ℕ, ◌++◌, ◌==◌, ◌||◌, ◌∙◌, ◌∷◌, ◌≡◌, ◌⊎◌}
use Rattle.std.specs.List.{list_any}
use Rattle.std.specs.Prelude.{drop, is_some}
use Rattle.tab_facts.proofs.TabEvents.Ordered.{on_itself, one_more}
use Rattle.tab_facts.specs.TabEvents.Between.{AreSwept, has_order, orders_go}
use Rattle.tab_ids.specs.declared.DocId.{DocId}
use Rattle.tab_ids.specs.declared.ReqId.{ReqId}
use Rattle.tab_releases.specs.PassedOn.{HasOnly, HasSent, IsStray}
use Rattle.tab_settles.specs.Settling.{IsOrderOrDrop}
use Rattle.tab_releases.proofs.PassedOn.{of_load}
use Rattle.log_model.specs.declared.row_kind.RowKind.TheVariants as rows

-- ---- one row

-- an order was sent
sent_goes : (s : Seen) (event : ℕ) (actor : Actor) (job : Job) → orders_go (next s event actor (rows.Sent job)) ≡ true
sent_goes s event actor job =
    on_itself job.proc (λ (desk : Desk). record desk { mail = desk.mail ++ job ∷ [] }) s.desks (mailed (desk_in s.desks job.proc))
  where
    mailed : (desk : Desk) → has_order (record desk { mail = desk.mail ++ job ∷ [] }) ≡ true
    mailed desk =
        ap (λ (b : Bool). not b || is_some desk.in_hand || not (length desk.reports == 0)) (one_more desk.mail job)

-- a request was dropped
dropped_orders : (req : ReqId) (desks : List Desk) → list_any has_order (map (desk_dropped req) desks) ≡ list_any has_order desks
dropped_orders req [] = refl
dropped_orders req (desk ∷ desks) = ap (λ (b : Bool). has_order desk || b) (dropped_orders req desks)

-- ---- rows that are orders and drops

-- one of the rows is an order
abbrev SendsOne : List RowKind → Type 0
SendsOne more = (job : Job) × Has more (rows.Sent job)

module _ (e : InEvent) where
  -- after an order one is on its way, and so it stays
  goes : (more was : List RowKind) → ((row : RowKind) → Has more row → IsOrderOrDrop row) → (orders_go (now_of e was) ≡ true) ⊎ SendsOne more → orders_go (now_of e (was ++ more)) ≡ true
  goes [] was each (inl go) = ap (λ (l : List RowKind). orders_go (now_of e l)) (append-nil was) ∙ go
  goes [] was each (inr never) = absurd never.1
  goes (row ∷ more) was each h =
      ap (λ (l : List RowKind). orders_go (now_of e l)) (sym (append_assoc was (row ∷ []) more))
      ∙ goes more (was ++ row ∷ []) (λ r has. each r (inr has)) (after_it row refl (each row (inl refl)) h)
    where
      then_is : orders_go (now_of e (was ++ row ∷ [])) ≡ orders_go (next (now_of e was) e.event e.actor row)
      then_is = ap orders_go (now_more e was row (order_or_drop_goes e was row (each row (inl refl))).read)

      behind : ((job : Job) → row ≡ rows.Sent job → ⊥) → SendsOne (row ∷ more) → SendsOne more
      behind no_order sends = by_has sends.0 sends.1
        where
          by_has : (job : Job) → (row ≡ rows.Sent job) ⊎ Has more (rows.Sent job) → SendsOne more
          by_has job (inl same) = absurd (no_order job same)
          by_has job (inr has) = (job, has)

      after_it : (r : RowKind) → row ≡ r → IsOrderOrDrop r → (orders_go (now_of e was) ≡ true) ⊎ SendsOne (row ∷ more) → (orders_go (now_of e (was ++ row ∷ [])) ≡ true) ⊎ SendsOne more
      after_it (rows.Sent job) is fine any =
          inl (then_is ∙ ap (λ (r : RowKind). orders_go (next (now_of e was) e.event e.actor r)) is ∙ sent_goes (now_of e was) e.event e.actor job)
      after_it (rows.Dropped req cause) is fine (inl go) =
          inl (then_is ∙ ap (λ (r : RowKind). orders_go (next (now_of e was) e.event e.actor r)) is ∙ dropped_orders req (now_of e was).desks ∙ go)
      after_it (rows.Dropped req cause) is fine (inr sends) =
          inr (behind (λ job same. (let never : rows.Dropped req cause ≡ rows.Sent job = sym is ∙ same in cc)) sends)
      after_it _ is fine any = absurd fine

  -- where one is on its way it stays so
  pub go_on : (was out : List RowKind) → HasOnly IsOrderOrDrop was out → orders_go (now_of e was) ≡ true → orders_go (now_of e out) ≡ true
  go_on was out only go =
      ap (λ (l : List RowKind). orders_go (now_of e l)) only.is ∙ goes only.more was only.each (inl go)

  -- whether one is an order
  sends_or : (more : List RowKind) → SendsOne more ⊎ (SendsOne more → ⊥)
  sends_or [] = inr (λ never. absurd never.1)
  sends_or (row ∷ more) = by_kind (is_order row) refl (sends_or more)
    where
      is_order : RowKind → Bool
      is_order (rows.Sent job) = true
      is_order _ = false

      none_here : is_order row ≡ false → (SendsOne more → ⊥) → SendsOne (row ∷ more) → ⊥
      none_here off none sends = by_has sends.0 sends.1
        where
          by_has : (job : Job) → (row ≡ rows.Sent job) ⊎ Has more (rows.Sent job) → ⊥
          by_has job (inl same) = let never : is_order (rows.Sent job) ≡ false = ap is_order (sym same) ∙ off in cc
          by_has job (inr has) = none (job, has)

      order_in : (r : RowKind) → row ≡ r → is_order r ≡ true → SendsOne (row ∷ more)
      order_in (rows.Sent job) is on = (job, inl is)
      order_in _ is on = absurd cc

      by_kind : (b : Bool) → is_order row ≡ b → SendsOne more ⊎ (SendsOne more → ⊥) → SendsOne (row ∷ more) ⊎ (SendsOne (row ∷ more) → ⊥)
      by_kind true on later = inl (order_in row refl on)
      by_kind false off (inl sends) = inl (sends.0, inr sends.1)
      by_kind false off (inr none) = inr (none_here off none)

  -- ---- after a pass

  -- what follows is the same where the front is
  behind_same : (front one other : List RowKind) → front ++ one ≡ front ++ other → one ≡ other
  behind_same [] one other is = is
  behind_same (x ∷ front) one other is = behind_same front one other (ap (drop 1) is)

  pub swept_or : (was out : List RowKind) → HasOnly IsOrderOrDrop was out → ((doc : DocId) (d : Document) → document_of (now_of e out) doc ≡ Some d → IsStray (now_of e out) doc d.state → HasSent was out) → AreSwept (now_of e out) ⊎ (orders_go (now_of e out) ≡ true)
  swept_or was out only sent = by_sent (sends_or only.more)
    where
      s : Seen
      s = now_of e out

      in_it : HasSent was out → SendsOne only.more
      in_it has =
          let same : only.more ≡ has.before ++ rows.Sent has.job ∷ has.later = behind_same was only.more (has.before ++ rows.Sent has.job ∷ has.later) (sym only.is ∙ has.is) in
          (has.job, subst (λ (l : List RowKind). Has l (rows.Sent has.job)) (sym same) (behind_has has.before))
        where
          behind_has : (front : List RowKind) → Has (front ++ rows.Sent has.job ∷ has.later) (rows.Sent has.job)
          behind_has [] = inl refl
          behind_has (x ∷ front) = inr (behind_has front)

      swept : (SendsOne only.more → ⊥) → AreSwept s
      swept none doc d found ready undiscarded = by_row (has_state d.state s.history.rows) refl
        where
          by_load : has_state d.state s.history.rows ≡ false → (o : Option Asked) → ongoing_load s d.state ≡ o → (has_state d.state s.history.rows ≡ true) ⊎ IsOfLoad s d
          by_load bare (Some q) is = inr (of_load s d q is)
          by_load bare None is =
              absurd (none (in_it (sent doc d found (record { document = d; found = found; its_state = refl; ready = ready; undiscarded = undiscarded; bare = bare; unloaded = is }))))

          by_row : (b : Bool) → has_state d.state s.history.rows ≡ b → (has_state d.state s.history.rows ≡ true) ⊎ IsOfLoad s d
          by_row true is = inl is
          by_row false bare = by_load bare (ongoing_load s d.state) refl

      by_sent : SendsOne only.more ⊎ (SendsOne only.more → ⊥) → AreSwept s ⊎ (orders_go s ≡ true)
      by_sent (inl sends) =
          inr (ap (λ (l : List RowKind). orders_go (now_of e l)) only.is ∙ goes only.more was only.each (inr sends))
      by_sent (inr none) = inl (swept none)
