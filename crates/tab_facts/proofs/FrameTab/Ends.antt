-- All that holds in a tab of frames holds after a request is refused or dropped that isn't the running traversal, and is no entry of a document that is shown.
use Rattle.std.proofs.Common.{◌≡◌, ℕ, Bool, true, false, cond, not, ◌==◌, List, [], ◌∷◌, ◌++◌, Option, Some, refl, sym, ap, ◌∙◌, subst}
use Rattle.std.specs.Prelude.{drop, filter, filter_map}
use Rattle.tab_ids.specs.declared.DocId.{DocId}
use Rattle.tab_ids.specs.declared.NavId.{NavId}
use Rattle.tab_ids.specs.declared.ProcId.{ProcId}
use Rattle.tab_ids.specs.declared.ReqId.{ReqId}
use Rattle.log_model.specs.declared.made.Made.{Made}
use Rattle.log_model.specs.declared.outcome.Cause.{Cause}
use Rattle.log_model.specs.declared.outcome.Denial.{Denial}
use Rattle.log_model.specs.declared.outcome.Ending.{Ending}
use Rattle.log_model.specs.declared.outcome.Ending.TheVariants as endings
use Rattle.log_model.specs.declared.request.Poke.{Poke}
use Rattle.log_model.specs.declared.row_kind.Actor.{Actor}
use Rattle.log_model.specs.declared.row_kind.Actor.TheVariants as actors
use Rattle.log_model.specs.declared.row_kind.RowKind.TheVariants as rows
use Rattle.log_model.specs.Equal.{has_req}
use Rattle.log_model.specs.After.{ended, desk_dropped}
use Rattle.log_model.specs.AfterRequests.{made_of_report, without_req}
use Rattle.log_model.specs.Places.{is_moved_in}
use Rattle.log_model.specs.Seen.{Seen, Desk, Asked, desk_of}
use Rattle.seen_facts.specs.Coord.Leading.{held_back, coming}
use Rattle.seen_facts.proofs.Coord.Held.{on_alike, made_of}
use Rattle.seen_facts.proofs.Coord.Unread.{next, desk_mapped}
use Rattle.seen_facts.specs.Hang.Members.{Has}
use Rattle.seen_facts.proofs.Request.Readers.{SameReads}
use Rattle.seen_facts.specs.Each.Runs.{EachAsked, is_run, is_this}
use Rattle.seen_facts.specs.Each.Mades.{Ascend, Continues}
use Rattle.seen_facts.specs.Each.Items.{Each, NoneDied}
use Rattle.seen_facts.proofs.Each.Courses.{runs_ended_other}
use Rattle.seen_facts.proofs.Each.Eaches.{each_less}
use Rattle.seen_facts.proofs.Each.Died.{died_on}
use Rattle.tab_facts.specs.FrameTab.Asking.{IsPlainlyAsked, ArePlainlyAsked}
use Rattle.tab_facts.specs.FrameTab.Desks.{IsPokeThere, IsMadeThere, IsHomeDesk, IsBare, AreDesks, waiting, untaken}
use Rattle.tab_facts.specs.FrameTab.Steady.{IsAskedBy}
use Rattle.tab_facts.specs.FrameTab.Whole.{IsFrameTab}
use Rattle.tab_facts.proofs.FrameTab.Goings.{AllStayAsked, all_read, asked_by_stays, begun_of}
use Rattle.tab_facts.proofs.FrameTab.Desking.{same_made, same_placed, desks_on, own_desk, desks_same}
use Rattle.tab_facts.proofs.FrameTab.Plainly.{plainness, plain_again, ended_reads}
use Rattle.tab_facts.proofs.FrameTab.Running.{moved_same}
use Rattle.tab_facts.proofs.FrameTab.Going.{same_tooks}
use Rattle.tab_facts.proofs.FrameTab.Leaving.{makes_at, untold, leaves_tab}
use Rattle.tab_facts.proofs.FrameTab.Skips.{Skips, skips_same, skips_append, ascends_skip, none_skip, each_skip, continues_skip, IsPassed, made_in, held_skips, without_made, hand_skips}

each_filter : {A : Type 0} (F : A → Type 0) (p : A → Bool) (xs : List A) → Each F xs → Each F (filter p xs)
each_filter F p [] all = tt
each_filter {A} F p (x ∷ xs) all = by_test (p x) (each_filter F p xs all.1)
  where
    by_test : (b : Bool) → Each F (filter p xs) → Each F (let l : List A = cond b (x ∷ filter p xs) (filter p xs) in l)
    by_test true more = (all.0, more)
    by_test false more = more

-- what was made of the request that ends, and is held back or at hand, is passed over
pub record IsToEnd (run : Option ReqId) (hand : List Made) (s : Seen) (req : ReqId) : Type 0 where
  pub other : is_this run req ≡ false
  pub held : (r : ReqId) (made : Made) → (r.0 == req.0) ≡ true → has_req s.parked r ≡ true → made_in s.requests r ≡ Some made → IsPassed s made
  pub at_hand : (made : Made) → Has hand made → (made.req.0 == req.0) ≡ true → IsPassed s made

module _ (home : ProcId) (run : Option ReqId) (hand : List Made) (s : Seen) (tab : IsFrameTab home run hand s) (req : ReqId) (end : IsToEnd run hand s req) where
  -- what an end leaves of the requests
  module _ (ending : Ending) where
    abbrev ends : List Asked
    ends = ended s.requests req ending

    ended_stay : AllStayAsked s.requests ends
    ended_stay = all_read s.requests ends (ended_reads begun_of s.requests req ending (λ q. refl))

    pub ended_asked : (t : Seen) → t.requests ≡ ends → t.kept ≡ s.kept → NoneDied t → ArePlainlyAsked run t
    ended_asked t are kept died =
        record {
          each = subst (λ (l : List Asked). EachAsked IsPlainlyAsked l) (sym are) (plain_again s.requests ends (ended_reads plainness s.requests req ending (λ q. refl)) tab.asked.each);
          only = subst (λ (l : List Asked). EachAsked (λ r q. is_run q ≡ is_this run r) l) (sym are) (runs_ended_other run s.requests req ending end.other tab.asked.only);
          runs = λ r e. subst (λ (l : List Asked). IsAskedBy l run) (sym are) (asked_by_stays s.requests ends run ended_stay (tab.asked.runs r e));
          kept = kept ∙ tab.asked.kept;
          died = died;
        }

    ended_moved : (nav : NavId) → is_moved_in ends nav ≡ is_moved_in s.requests nav
    ended_moved nav =
        moved_same run s.requests ends nav tab.asked.only (runs_ended_other run s.requests req ending end.other tab.asked.only) (ended_reads (λ (q : Asked). q.moved) s.requests req ending (λ q. refl))

    abbrev waits : List Made
    waits = held_back ends (without_req req s.parked) ++ without_made req hand

    waiting_skips : Skips (IsPassed s) (waiting s hand) waits
    waiting_skips =
        skips_append (IsPassed s) (held_back s.requests s.parked) (held_back ends (without_req req s.parked)) hand (without_made req hand) (held_skips (IsPassed s) s.requests ends s.parked req (λ r. on_alike made_of s.requests req (λ q. record q { ending = Some ending }) r (λ q. refl)) end.held) (hand_skips (IsPassed s) req hand end.at_hand)

    ended_skips : (desk next_ : Desk) → next_.reports ≡ desk.reports → Skips (IsPassed s) (untold (waiting s hand) desk) (untold waits next_)
    ended_skips desk next_ same =
        subst (λ (l : List _). Skips (IsPassed s) (untold (waiting s hand) desk) (waits ++ filter_map made_of_report l)) (sym same)
        (skips_append (IsPassed s) (waiting s hand) waits (filter_map made_of_report desk.reports) (filter_map made_of_report desk.reports)
        waiting_skips
        (skips_same (IsPassed s) (filter_map made_of_report desk.reports)))

    pub ended_tab : (t : Seen) → t.documents ≡ s.documents → t.places ≡ s.places → t.history ≡ s.history → t.states ≡ s.states → t.entries ≡ s.entries → t.initial_states ≡ s.initial_states → t.requests ≡ ends → t.parked ≡ without_req req s.parked → t.kept ≡ s.kept → NoneDied t → AreDesks home t → ((doc : DocId) → makes_at doc (desk_of t home) ≡ makes_at doc (desk_of s home)) → (desk_of t home).reports ≡ (desk_of s home).reports → IsFrameTab home run (without_made req hand) t
    ended_tab t documents places history states entries initial are parked kept died desks makes told =
        leaves_tab home run run hand (without_made req hand) s t
        (record {
          documents = documents;
          places = places;
          history = history;
          states = states;
          entries = entries;
          initial = initial;
          stay = subst (λ (l : List Asked). AllStayAsked s.requests l) (sym are) ended_stay;
          tooks = same_tooks s t (subst (λ (l : List Asked). SameReads (λ (q : Asked). q.took) s.requests l) (sym are) (ended_reads (λ (q : Asked). q.took) s.requests req ending (λ q. refl)));
          asked = ended_asked t are kept died;
          desks = desks;
          makes = makes;
          unmade = λ doc none. subst (λ (l : List Made). untaken l (desk_of t home) doc ≡ []) (sym waits_are) (none_skip (IsPassed s) doc (untold (waiting s hand) (desk_of s home)) (untold waits (desk_of t home)) skips none);
          waits = subst (λ (l : List Made). Each (IsMadeThere s.documents) l) (sym waits_are) (each_skip (IsPassed s) (IsMadeThere s.documents) (waiting s hand) waits waiting_skips tab.waits);
          ascends = λ doc from to is. subst (λ (l : List Made). Ascend from (filter (λ (made : Made). made.doc.0 == doc.0) (untold l (desk_of t home))) to) (sym waits_are) (ascends_skip (IsPassed s) doc to (untold (waiting s hand) (desk_of s home)) (untold waits (desk_of t home)) skips from is);
          continues = λ nav place doc given there wakes has is. subst (λ (l : List Made). Continues given (coming l (desk_of t home) doc place.epoch)) (sym waits_are) (continues_skip (IsPassed s) doc place.epoch (λ made passed under. passed nav place doc there wakes has under) (untold (waiting s hand) (desk_of s home)) (untold waits (desk_of t home)) skips given is);
          moved = λ nav none. sym (ended_moved nav) ∙ ap (λ (l : List Asked). is_moved_in l nav) (sym are) ∙ none;
        })
        tab
      where
        waits_are : waiting t (without_made req hand) ≡ waits
        waits_are = rw (are, parked) refl

        skips : Skips (IsPassed s) (untold (waiting s hand) (desk_of s home)) (untold waits (desk_of t home))
        skips = ended_skips (desk_of s home) (desk_of t home) told

  -- ---- the rows

  module _ (event : ℕ) where
    -- refused by the coordinator, or by the user's event
    pub refused_framed : (reason : Denial) → IsFrameTab home run (without_made req hand) (next s event actors.Coord (rows.Refused req reason))
    refused_framed reason =
        ended_tab (endings.Refused reason) (next s event actors.Coord (rows.Refused req reason)) refl refl refl refl refl refl refl refl refl tab.asked.died
        (desks_same home s (next s event actors.Coord (rows.Refused req reason)) refl (same_made s.documents s.documents refl) (same_placed s.places s.places refl) tab.desks) (λ doc. refl) refl

    pub denied_framed : (reason : Denial) → IsFrameTab home run (without_made req hand) (next s event actors.Ui (rows.Refused req reason))
    denied_framed reason =
        ended_tab (endings.Refused reason) (next s event actors.Ui (rows.Refused req reason)) refl refl refl refl refl refl refl refl refl tab.asked.died
        (desks_same home s (next s event actors.Ui (rows.Refused req reason)) refl (same_made s.documents s.documents refl) (same_placed s.places s.places refl) tab.desks) (λ doc. refl) refl

    -- refused by the process, whose first poke it is
    abbrev less_poke : Desk → Desk
    less_poke desk = record desk { input = drop 1 desk.input }

    pub unmade_framed : (reason : Denial) → IsFrameTab home run (without_made req hand) (next s event (actors.Proc home) (rows.Refused req reason))
    unmade_framed reason =
        ended_tab (endings.Refused reason) unmade refl refl refl refl refl refl refl refl refl
        (died_on s unmade home less_poke refl (λ desk. refl) refl refl tab.asked.died)
        (desks_on home s unmade less_poke refl (λ desk. refl) (record { orders = tab.desks.own.orders; told = tab.desks.own.told; pokes = each_less (IsPokeThere s.documents) (desk_of s home).input tab.desks.own.pokes }) tab.desks)
        (λ doc. ap (makes_at doc) own) (ap (λ (desk : Desk). desk.reports) own)
      where
        unmade : Seen
        unmade = next s event (actors.Proc home) (rows.Refused req reason)

        own : desk_of unmade home ≡ less_poke (desk_of s home)
        own = own_desk home s unmade less_poke refl (λ desk. refl)

    -- dropped
    module _ (actor : Actor) (cause : Cause) where
      abbrev gone : Seen
      gone = next s event actor (rows.Dropped req cause)

      gone_desk : (proc : ProcId) → desk_of gone proc ≡ desk_dropped req (desk_of s proc)
      gone_desk proc = desk_mapped (desk_dropped req) s.desks proc (λ desk. refl) refl

      gone_desks : AreDesks home gone
      gone_desks =
          record {
            own = subst (λ (desk : Desk). IsHomeDesk s.documents s.places desk) (sym (gone_desk home)) (record { orders = tab.desks.own.orders; told = tab.desks.own.told; pokes = each_filter (IsPokeThere s.documents) (λ (poke : Poke). not (poke.req.0 == req.0)) (desk_of s home).input tab.desks.own.pokes });
            others = λ proc apart. subst IsBare (sym (gone_desk proc)) (let b = tab.desks.others proc apart in record { nothing = record { hand = b.nothing.hand; mail = b.nothing.mail; reports = b.nothing.reports }; input = ap (λ (l : List Poke). filter (λ (poke : Poke). not (poke.req.0 == req.0)) l) b.input });
          }

      pub dropped_framed : IsFrameTab home run (without_made req hand) gone
      dropped_framed =
          ended_tab (endings.Dropped cause) gone refl refl refl refl refl refl refl refl refl
          (λ proc. (ap (λ (desk : Desk). desk.known) (gone_desk proc) ∙ (tab.asked.died proc).0, ap (λ (desk : Desk). desk.killed) (gone_desk proc) ∙ (tab.asked.died proc).1))
          gone_desks (λ doc. ap (makes_at doc) (gone_desk home)) (ap (λ (desk : Desk). desk.reports) (gone_desk home))
