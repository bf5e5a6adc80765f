-- Once the document of a load that has passed its check is being made the tab is at rest, as it was before: no pass need follow.
use Rattle.tab_settles.specs.PassedOn.{AreUnheld}
use Rattle.load_passed.proofs.Kept as kept
use Rattle.load_passed.proofs.Lives as lives
use Rattle.load_passed.proofs.Makes as makes
use Rattle.load_passed.proofs.Sent as sent
use Rattle.load_passed.proofs.Sent.{order_of}
use Rattle.load_passed.specs.Passing.{InLoadPass, IsToMake}
use Rattle.log_model.specs.ActsAtOnce.{ends_told, is_told}
use Rattle.log_model.specs.AfterDocuments.{new_document}
use Rattle.log_model.specs.Equal.{has_req, holds, implies, same_pair}
use Rattle.log_model.specs.History.{History, has_row, has_state}
use Rattle.log_model.specs.Places.{aim_of, all_stand, all_stand_in, due_pair, is_awake, is_moved, is_moved_in, pair_in, told_pair}
use Rattle.log_model.specs.Seen.{Asked, Document, Place, Seen, Status, asleep, awake, document_of, lost, place_of}
use Rattle.log_model.specs.declared.job.Job.{Job}
use Rattle.log_model.specs.declared.job.Task.TheVariants as tasks
use Rattle.log_model.specs.declared.job.Why.TheVariants as whys
use Rattle.log_model.specs.declared.row_kind.RowKind.TheVariants as rows
use Rattle.log_model.specs.declared.row_kind.RowKind.{RowKind}
use Rattle.row_facts.proofs.WalkRows.Sinces.{places_since}
use Rattle.row_facts.specs.FrameRows.Lawful.{held_at_first}
use Rattle.row_facts.specs.Left.Left.{LastWereShown, OwnersFollow, WasEverShown, WereShown}
use Rattle.seen_facts.proofs.Coord.Unread.{next}
use Rattle.seen_facts.proofs.Mover.Stays.{KeepWays}
use Rattle.seen_facts.specs.Asked.Asking.{ArePlain}
use Rattle.seen_facts.specs.Hang.Members.{Has}
use Rattle.seen_facts.specs.Home.Homes.{IsAtHome}
use Rattle.seen_facts.specs.LoadEnds.Standing.{LoadsStand, is_reached}
use Rattle.seen_facts.specs.Walk.Serving.{AreServed, IsMaking, IsServed}
use Rattle.seen_laws.specs.InEvent.{now_of}
use Rattle.std.proofs.Common.{Bool, List, None, Option, Some, [], ap, cond, false, inl, inr, refl, subst, sym, true, ℕ, ◌&&◌, ◌++◌, ◌+◌, ◌∙◌, ◌∷◌, ◌≡◌, ◌⊎◌}
use Rattle.std.specs.List.{list_all}
use Rattle.std.specs.Prelude.{option_map}
use Rattle.tab_doors.specs.Orders.{next_order}
use Rattle.tab_doors.specs.Working.{IsAtWork, KeepsStore}
use Rattle.tab_doors.specs.declared.tables.Tables.{Tables}
use Rattle.tab_facts.proofs.Calm.Sames.{calm_same, here_same, root_same, sights_same}
use Rattle.tab_facts.proofs.FrameTab.Running.{moved_same}
use Rattle.tab_facts.specs.Calm.Calm.{AreRooted, UnmovedAreHere}
use Rattle.tab_facts.specs.FrameWhole.Tab.{AreAwakeWithRows}
use Rattle.tab_ids.specs.declared.DocId.{DocId}
use Rattle.tab_ids.specs.declared.NavId.{NavId}
use Rattle.tab_ids.specs.declared.ProcId.{ProcId}
use Rattle.tab_ids.specs.declared.ReqId.{ReqId}
use Rattle.tab_ids.specs.declared.StateId.{StateId}
use Rattle.tab_moves.specs.Making.{home_in}
use Rattle.tab_settles.proofs.PassedOn.{each_stands, stand_reached}
use Rattle.tab_settles.specs.PassedOn.{IsLoadOf as LoadOf, ParentsShown, TakersServe}
use Rattle.tab_settles.specs.Settling.{IsCalmAfter}
use Rattle.tab_one_pass.specs.Passing.{AreLeftStrays, HasPassed, IsLeftStray}
use Rattle.tab_stands.proofs.PassedOn.{reached_same, serve_on, still_on, takers_on}

-- what is among the first is among all
has_more : {A : Type 0} (xs ys : List A) (x : A) → Has xs x → Has (xs ++ ys) x
has_more [] ys x has = absurd has
has_more (y ∷ xs) ys x has = by_place has (has_more xs ys x)
  where
    by_place : (y ≡ x) ⊎ Has xs x → (Has xs x → Has (xs ++ ys) x) → (y ≡ x) ⊎ Has (xs ++ ys) x
    by_place (inl same) more = inl same
    by_place (inr rest) more = inr (more rest)

-- where all pass a test, they pass a weaker one
all_weaker : {A : Type 0} (f g : A → Bool) (xs : List A) → ((x : A) → f x ≡ true → g x ≡ true) → list_all f xs ≡ true → list_all g xs ≡ true
all_weaker f g [] weaker all = refl
all_weaker f g (x ∷ xs) weaker all = by_test (f x) refl all (all_weaker f g xs weaker)
  where
    by_test : (b : Bool) → f x ≡ b → (b && list_all f xs) ≡ true → (list_all f xs ≡ true → list_all g xs ≡ true) → (g x && list_all g xs) ≡ true
    by_test true e rest more = rw (weaker x e) (more rest)
    by_test false e never more = absurd cc

module _ (l : InLoadPass) (u : Tables) (it : IsToMake l u) (proc : ProcId) (home : home_in l.event.header u l.nav l.address ≡ Some proc) (y : Tables) (last : List RowKind) (work_y : IsAtWork l.event last y) (last_is : last ≡ rows.Sent (order_of l u proc) ∷ []) (keeps_y : KeepsStore u y) where
  abbrev s : Seen
  s = l.before

  abbrev m : Seen
  m = now_of l.event []

  abbrev order : Job
  order =
      next_order (now_of l.event []).jobs proc (record { 0 = u.documents + 1 }) (whys.Req l.req) (tasks.Populate l.nav l.state l.address false)

  abbrev fin : Seen
  fin = next (now_of l.event []) l.event.event l.event.actor (rows.Sent order)

  abbrev new : Document
  new = new_document (now_of l.event []) order l.nav l.state

  is_fin : now_of l.event last ≡ fin
  is_fin = sent.is_fin l u it proc home y last work_y last_is keeps_y

  places_same : fin.places ≡ s.places
  places_same = kept.places_same l u it proc home y last work_y last_is keeps_y

  history_same : fin.history ≡ s.history
  history_same = ap (λ (x : Seen). x.history) it.now

  aim_same : aim_of fin ≡ aim_of s
  aim_same = kept.aim_fin l u it proc home y last work_y last_is keeps_y

  place_on : (nav : NavId) → place_of fin nav ≡ place_of s nav
  place_on = kept.place_on l u it proc home y last work_y last_is keeps_y

  found_more : (doc : DocId) (d : Document) → document_of s doc ≡ Some d → document_of fin doc ≡ Some d
  found_more = kept.found_more l u it proc home y last work_y last_is keeps_y

  found_back : (doc : DocId) (d : Document) → document_of fin doc ≡ Some d → (document_of s doc ≡ Some d) ⊎ (new ≡ d)
  found_back = kept.found_back l u it proc home y last work_y last_is keeps_y

  plain_fin : ArePlain it.t.running fin
  plain_fin =
      subst (λ (r : Option ReqId). ArePlain r fin) (makes.run_same l u it) (sent.going_fin l u it proc home y last work_y last_is keeps_y).tab.asked

  moved_on : (nav : NavId) → is_moved fin nav ≡ is_moved s nav
  moved_on nav = moved_same it.t.running s.requests fin.requests nav it.unbegun.going.tab.asked.only plain_fin.only (kept.reads_on l u it proc home y last work_y last_is keeps_y (λ (x : Asked). x.moved) (λ x. refl))

  -- ---- who was shown what

  pub were_fin : WereShown l.before → WereShown (next (now_of l.event []) l.event.event l.event.actor (rows.Sent (order_of l u proc)))
  were_fin were =
      record {
        lasts = subst (λ (p : List Place). LastWereShown p) (sym places_same) were.lasts;
        kept = λ doc there. subst (λ (p : List Place). WasEverShown p doc) (sym places_same) (were.kept doc (subst (λ (k : List DocId). Has k doc) (ap (λ (x : Seen). x.kept) it.now) there));
        owned = subst (λ (p : List Place). OwnersFollow p) (sym places_same) were.owned;
      }

  pub parents_fin : ParentsShown l.before → ParentsShown (next (now_of l.event []) l.event.event l.event.actor (rows.Sent (order_of l u proc)))
  parents_fin parents nav above place up placed has there =
      parents nav above place up (sym (place_on nav) ∙ placed) has (sym (place_on above) ∙ there)

  pub takers_fin : TakersServe l.before → TakersServe (next (now_of l.event []) l.event.event l.event.actor (rows.Sent (order_of l u proc)))
  takers_fin = takers_on s fin (kept.causes_fin l u it proc home y last work_y last_is keeps_y) (λ nav. ap (λ (o : Option Place). option_map (λ (x : Place). x.taken_by) o) (place_on nav))

  -- what was discarded is so still
  pub gone_on : (doc : DocId) → holds (λ (d : Document). d.is_discarded) (document_of l.before doc) ≡ true → holds (λ (d : Document). d.is_discarded) (document_of (next (now_of l.event []) l.event.event l.event.actor (rows.Sent (order_of l u proc))) doc) ≡ true
  gone_on doc is = by_old (document_of s doc) refl is
    where
      by_old : (o : Option Document) → document_of s doc ≡ o → holds (λ (d : Document). d.is_discarded) o ≡ true → holds (λ (d : Document). d.is_discarded) (document_of fin doc) ≡ true
      by_old (Some d) at h = ap (λ (o : Option Document). holds (λ (x : Document). x.is_discarded) o) (found_more doc d at) ∙ h
      by_old None at h = absurd cc

  stood_back : all_stand fin (aim_of fin) ≡ true → all_stand s (aim_of s) ≡ true
  stood_back all =
      sym (ap (λ (k : ℕ). all_stand fin k) aim_same ∙ ap (λ (h : History). all_stand_in h.rows fin.places (aim_of s)) history_same ∙ ap (λ (p : List Place). all_stand_in s.history.rows p (aim_of s)) places_same) ∙ all

  pub reached_on : (nav : NavId) → is_reached l.before nav ≡ true → is_reached (next (now_of l.event []) l.event.event l.event.actor (rows.Sent (order_of l u proc))) nav ≡ true
  reached_on nav is = reached_same s fin places_same history_same aim_same nav is

  pub rows_fin : AreAwakeWithRows l.before → AreAwakeWithRows (next (now_of l.event []) l.event.event l.event.actor (rows.Sent (order_of l u proc)))
  rows_fin with_rows nav place doc at wakes =
      ap (λ (h : History). has_row place.nav h.rows) history_same ∙ with_rows nav place doc (sym (place_on nav) ∙ at) wakes

  -- ongoing loads stand, and none was held back
  pub stand_fin : LoadsStand l.before → LoadsStand (next (now_of l.event []) l.event.event l.event.actor (rows.Sent (order_of l u proc)))
  stand_fin stand =
      each_stands fin (λ r nav its. stands_case r nav (kept.old_or_own l u it proc home y last work_y last_is keeps_y r nav its))
    where
      stands_case : (r : ReqId) (nav : NavId) → LoadOf s r nav ⊎ ((r ≡ l.req) × (l.nav ≡ nav)) → is_reached fin nav ≡ true
      stands_case r nav (inl old) = reached_on nav (stand_reached s stand r nav old)
      stands_case r nav (inr is) = ap (λ (x : NavId). is_reached fin x) (sym is.1) ∙ reached_on l.nav it.unbegun.reached

  pub held_fin : AreUnheld l.event l.before → AreUnheld l.event (next (now_of l.event []) l.event.event l.event.actor (rows.Sent (order_of l u proc)))
  held_fin held r nav its = by_case (kept.old_or_own l u it proc home y last work_y last_is keeps_y r nav its)
    where
      by_case : LoadOf s r nav ⊎ ((r ≡ l.req) × (l.nav ≡ nav)) → has_req (held_at_first l.event) r ≡ false
      by_case (inl old) = held r nav old
      by_case (inr is) =
          ap (λ (x : ReqId). has_req (held_at_first l.event) x) is.0 ∙ it.unheld

  -- ---- it has passed

  pub passed_fin : HasPassed l.event l.before → HasPassed l.event (next (now_of l.event []) l.event.event l.event.actor (rows.Sent (order_of l u proc)))
  passed_fin passed =
      record {
        walked = record {
          since = record {
            distinct = passed.walked.since.distinct;
            homed = passed.walked.since.homed;
            ways = subst (λ (p : List Place). KeepWays l.event.start.places p) (sym places_same) passed.walked.since.ways;
          };
          unwoken = λ all. places_since l.event.start s [] (passed.walked.unwoken (stood_back all)) fin places_same;
          still = λ all. still_on l.event.start s fin (λ nav doc was. record { place = was.place; placed = place_on nav ∙ was.placed; wakes = was.wakes }) gone_on (passed.walked.still (stood_back all));
          were = were_fin passed.walked.were;
          parents = parents_fin passed.walked.parents;
          loads = stand_fin passed.walked.loads;
        };
        held = held_fin passed.held;
        takers = takers_fin passed.takers;
        rows_ = rows_fin passed.rows_;
      }

  -- ---- stray documents

  pub strays_fin : AreLeftStrays l.before l.noted → AreLeftStrays (next (now_of l.event []) l.event.event l.event.actor (rows.Sent (order_of l u proc))) l.noted
  strays_fin strays doc state stray = by_case (found_back doc stray.document stray.found)
    where
      by_case : (document_of s doc ≡ Some stray.document) ⊎ (new ≡ stray.document) → IsLeftStray fin l.noted doc state
      by_case (inl old) =
          let was : IsLeftStray s l.noted doc state = strays doc state (record {
            document = stray.document;
            found = old;
            its_state = stray.its_state;
            ready = stray.ready;
            undiscarded = stray.undiscarded;
            bare = ap (λ (x : Seen). has_state state x.history.rows) (sym it.now) ∙ stray.bare;
            unloaded = lives.unloaded_back l u it proc home y last work_y last_is keeps_y stray.document state stray.its_state stray.unloaded;
          }) in
          record {
            req = was.req;
            noted = was.noted;
            may = serve_on s fin was.req (kept.causes_fin l u it proc home y last work_y last_is keeps_y) was.may;
            bare = λ d at.
                let two : Some stray.document ≡ Some d = sym stray.found ∙ at in
                let one : stray.document ≡ d = cc in
                ap (λ (h : History). has_row d.nav h.rows) history_same ∙ was.bare d (old ∙ ap (λ (x : Document). let o : Option Document = Some x in o) one);
          }
      by_case (inr is) =
          let never : false ≡ true = ap (λ (d : Document). d.is_ready) is ∙ stray.ready in
          absurd cc

  -- ---- who is visited is served, and who is awake was told

  pub served_fin : AreServed l.before → AreServed (next (now_of l.event []) l.event.event l.event.actor (rows.Sent (order_of l u proc)))
  served_fin served = record { each = λ nav. record { serve = λ place at. subst (λ (h : History). IsServed h.rows fin.places fin.documents (aim_of fin) place) (sym history_same) (subst (λ (p : List Place). IsServed s.history.rows p fin.documents (aim_of fin) place) (sym places_same) (subst (λ (k : ℕ). IsServed s.history.rows s.places fin.documents k place) (sym aim_same) (more place ((served.each nav).serve place (sym (place_on nav) ∙ at))))) } }
    where
      making : (state : StateId) → IsMaking s.documents state → IsMaking fin.documents state
      making state is =
          record { document = is.document; there = has_more m.documents (new ∷ []) is.document (subst (λ (d : List Document). Has d is.document) (sym (makes.documents_same l u it)) is.there); state_is = is.state_is; made = is.made }

      more : (place : Place) → IsServed s.history.rows s.places s.documents (aim_of s) place → IsServed s.history.rows s.places fin.documents (aim_of s) place
      more place was shown stops needs target found = making target.state (was shown stops needs target found)

  -- the pair that is due is as it was
  abbrev pair_due : History → Bool → ℕ → ℕ × ℕ
  pair_due h moved aim = pair_in h.rows (cond moved aim h.current)

  due_same : (nav : NavId) → due_pair fin nav ≡ due_pair s nav
  due_same nav =
      ap (λ (h : History). pair_due h (is_moved_in fin.requests nav) (aim_of fin)) history_same
      ∙ ap (λ (b : Bool). pair_due s.history b (aim_of fin)) (moved_on nav)
      ∙ ap (λ (k : ℕ). pair_due s.history (is_moved_in s.requests nav) k) aim_same

  told_one : (place : Place) → is_told s place ≡ true → is_told fin place ≡ true
  told_one place was = by_status place.status refl
    where
      by_status : (status : Status) → place.status ≡ status → is_told fin place ≡ true
      by_status lost is = rw is refl
      by_status asleep is = rw is refl
      by_status (awake doc) is = by_document (document_of s doc) refl
        where
          by_document : (o : Option Document) → document_of s doc ≡ o → is_told fin place ≡ true
          by_document None none = absurd (let never : false ≡ true = sym (rw is (rw none refl)) ∙ was in cc)
          by_document (Some d) found =
              let then_ : document_of fin doc ≡ Some d = found_more doc d found in
              let old : told_pair s place ≡ d.told = rw is (rw found refl) in
              let now : told_pair fin place ≡ d.told = rw is (rw then_ refl) in
              ap (λ (pair : ℕ × ℕ). implies (is_awake place) (holds (same_pair pair) (told_pair fin place))) (due_same place.nav)
              ∙ ap (λ (o : Option (ℕ × ℕ)). implies (is_awake place) (holds (same_pair (due_pair s place.nav)) o)) (now ∙ sym old)
              ∙ was

  pub told_fin : ends_told l.before ≡ true → ends_told (next (now_of l.event []) l.event.event l.event.actor (rows.Sent (order_of l u proc))) ≡ true
  unfolding ends_told
  told_fin told = ap (λ (p : List Place). list_all (is_told fin) p) places_same ∙ all_weaker (is_told s) (is_told fin) s.places told_one told

  -- ---- how calm the tab is

  pub calm_fin : (r : Option ReqId) → IsCalmAfter r l.before → IsCalmAfter r (next (now_of l.event []) l.event.event l.event.actor (rows.Sent (order_of l u proc)))
  calm_fin None calm = calm_same s fin history_same (sights_same s fin places_same) (λ (nav : NavId). ⊥) calm
  calm_fin (Some run) calm = (unmoved, rooted)
    where
      unmoved : UnmovedAreHere fin
      unmoved nav place doc there wakes has still =
          here_same s fin history_same place place refl refl (calm.0 nav place doc (sym (place_on nav) ∙ there) wakes (ap (λ (h : History). has_row nav h.rows) (sym history_same) ∙ has) (sym (moved_on nav) ∙ still))

      rooted : AreRooted fin
      rooted nav place doc d there wakes known has =
          root_same s fin history_same place place d d refl refl refl (calm.1 nav place doc d (sym (place_on nav) ∙ there) wakes known_s (ap (λ (h : History). has_state d.state h.rows) (sym history_same) ∙ has))
        where
          there_home : IsAtHome s.documents place.nav doc
          there_home = (it.unbegun.going.tab.homes.homed nav place doc (sym (place_on nav) ∙ there) wakes).home

          known_s : document_of s doc ≡ Some d
          known_s =
              let two : Some there_home.document ≡ Some d = sym (found_more doc there_home.document there_home.found) ∙ known in
              let one : there_home.document ≡ d = cc in
              there_home.found ∙ ap (λ (x : Document). let o : Option Document = Some x in o) one
