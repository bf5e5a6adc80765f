-- Whom a load is to ask before it begins, as the tables tell, is whom it is due to ask in the log; where it is somebody, nothing is done, and a pass may follow with the load at hand still.
use Rattle.leave_questions.proofs.Due.{load_due}
use Rattle.leave_questions.proofs.Slots.{has_slots}
use Rattle.leave_questions.specs.Questions.{load_questions}
use Rattle.log_model.specs.Orders.{Question, due_questions}
use Rattle.log_model.specs.Places.{aim_of}
use Rattle.log_model.specs.Seen.{Seen}
use Rattle.log_model.specs.Soundness.{IsSound}
use Rattle.log_model.specs.declared.job.Why.TheVariants as whys
use Rattle.log_model.specs.declared.request.Request.TheVariants as requests
use Rattle.log_model.specs.declared.row_kind.RowKind.{RowKind}
use Rattle.seen_facts.specs.Hang.Hanging.{Hangs}
use Rattle.seen_facts.specs.Home.Homes.{EachWake, IsHomed}
use Rattle.seen_laws.specs.InEvent.{log_of, now_of}
use Rattle.slot_facts.specs.Slots.{AreSlots}
use Rattle.std.proofs.Common.{Bool, List, None, [], ap, false, refl, subst, sym, true, ℕ, ◌∙◌, ◌∷◌, ◌≡◌}
use Rattle.std.specs.Prelude.{is_some, slice_get}
use Rattle.tab_doors.specs.Look.{look_of}
use Rattle.tab_doors.specs.Ties.{Holds}
use Rattle.tab_doors.specs.declared.tables.Tables.{Tables}
use Rattle.tab_ids.specs.declared.DocId.{DocId}
use Rattle.tab_ids.specs.declared.NavId.{NavId}
use Rattle.tab_ids.specs.declared.ReqId.{ReqId}
use Rattle.tab_ids.specs.declared.StateId.{StateId}
use Rattle.tab_loads.proofs.Comes.{all, pass, place, placed, runs_on, target}
use Rattle.tab_loads.proofs.Givens.{sent_none}
use Rattle.tab_loads.proofs.Reals.{read_there}
use Rattle.tab_loads.specs.Asking.{HasCome, InLoad, IsAsked, first_of}
use Rattle.tab_loads.specs.Loading.{are_asked_at}
use Rattle.tab_loads.specs.Telling.{away_in, fragment_in}
use Rattle.tab_loads.specs.declared.loaded.Loaded.TheVariants.{Asks}
use Rattle.tab_stands.proofs.Ready.{frees_open, ready}

-- a list without a first question is empty
none_first : (questions : List Question) → is_some (slice_get questions 0) ≡ false → questions ≡ []
none_first [] is = refl
none_first (question ∷ questions) is = absurd cc

module _ (l : InLoad) (t : Tables) (asked : IsAsked l t) (slots : List (DocId × ℕ)) (has : AreSlots (log_of l.event []) slots) where
  abbrev log : Seen
  log = log_of l.event []

  abbrev s : Seen
  s = now_of l.event []

  -- it asks whom it is due to ask
  asks_due : load_questions slots t.tree l.nav ≡ due_questions log (requests.Load l.nav l.mode l.address) None
  asks_due =
      load_due log l.event.checking t.running t slots
      (read_there l.event [] t (pass l t asked).work (λ (x : Seen). Holds (look_of x t.running) t) (pass l t asked).work.holds)
      (read_there l.event [] t (pass l t asked).work (λ (x : Seen). IsSound x.history) (pass l t asked).going.tab.sound)
      (read_there l.event [] t (pass l t asked).work Hangs (pass l t asked).going.tab.hangs)
      (read_there l.event [] t (pass l t asked).work (λ (x : Seen). EachWake (IsHomed x.documents) x) (pass l t asked).going.tab.homes.homed)
      (has_slots log slots has.known) l.nav l.mode l.address

  module _ (nav : NavId) (nav_is : l.nav ≡ nav) (asks : Bool) (is : asks ≡ are_asked_at slots t nav) where
    its : asks ≡ is_some (slice_get (due_questions log (requests.Load l.nav l.mode l.address) None) 0)
    its =
        is
        ∙ ap (λ (n : NavId). are_asked_at slots t n) (sym nav_is)
        ∙ ap (λ (questions : List Question). is_some (slice_get questions 0)) asks_due

    -- where the tables tell of nobody, it asks nobody
    pub asks_nobody : asks ≡ false → due_questions (log_of l.event []) (requests.Load l.nav l.mode l.address) None ≡ []
    asks_nobody none = none_first (due_questions log (requests.Load l.nav l.mode l.address) None) (sym its ∙ none)

    -- where they tell of somebody, it is to ask
    module _ (placed_ : away_in t l.nav ≡ None) (anew_ : fragment_in t l.nav l.address ≡ None) where
      to_ask : asks ≡ true → HasCome l t t [] l.noted Asks
      to_ask some =
          record {
            came = (
              asked.undenied,
              record {
                anew = record {
                  place = place l t asked;
                  there = placed l t asked;
                  placed = all l t asked placed_;
                  is_it = sent_none s t.running t (pass l t asked).work.holds (pass l t asked).going.tab.sound l.nav (place l t asked) (placed l t asked) (aim_of s) (target l t asked placed_) l.address anew_;
                };
                asks = sym its ∙ some;
                is = refl;
              },
            );
            ready =
                ready (first_of l) t l.queue l.noted asked.begun refl (frees_open l.event asked.walks.holds t.running s asked.walks.alone asked.walks.free asked.begun.taking.open_) whys.Start (λ r never. absurd cc);
            kept = runs_on l t asked t refl;
          }

      -- under the names of the call
      pub asks_come : (out : List RowKind) → out ≡ [] → (noted : List (StateId × ReqId)) → l.noted ≡ noted → asks ≡ true → HasCome l t t out noted Asks
      asks_come out first noted noted_is some =
          subst (λ (o : List RowKind). HasCome l t t o noted Asks) (sym first)
          (subst (λ (x : List (StateId × ReqId)). HasCome l t t [] x Asks) noted_is (to_ask some))
