-- The document that is kept longest was discarded as the user evicts it, with those below it: the tab may be brought to rest.
use Rattle.tab_stands.proofs.PassedOn.{rows_slots}
use Rattle.load_doors.specs.Logged.{IsLogged}
use Rattle.tab_acts.proofs.Owns as owns
use Rattle.tab_stands.proofs.Logged.{own_read}
use Rattle.tab_stands.specs.Standing.{LastsInLog, StartsUnasked, seen_start}
use Rattle.coord.proofs.Asides.{evicted_aside, off, seen_stands, start_asks, start_lasts}
use Rattle.tab_doors.proofs.Uncut.{uncut_now}
use Rattle.tab_doors.proofs.Works.{none_steps}
use Rattle.tab_doors.specs.Working.{MayDiscardIn}
use Rattle.coord.proofs.Fines.{IsFine, fine_discard, fine_moves, makes_over, sound_over}
use Rattle.coord.proofs.Slots.{own_slots}
use Rattle.coord.specs.Evicting.{longest_in}
use Rattle.coord.specs.Standing.{IsOpenTo, IsToSettle, StandsFor}
use Rattle.coord.specs.declared.coordinator.Coordinator.{Coordinator}
use Rattle.seen_facts.proofs.Desk.Stays.{NoDeath}
use Rattle.seen_facts.specs.Hang.Members.{Has}
use Rattle.log_model.specs.Seen.{Seen, desk_of}
use Rattle.log_model.specs.declared.row_kind.RowKind.{RowKind}
use Rattle.move_queue.specs.Queue.{Queue}
use Rattle.page_cache.specs.Kept.{oldest_of}
use Rattle.seen_laws.specs.InEvent.{InEvent, log_of, now_of, later_of}
use Rattle.seen_laws.specs.Sending.{leads}
use Rattle.slot_facts.specs.Slots.{AreSlots}
use Rattle.std.proofs.Common.{List, [], ap, false, subst, sym, true, ℕ, ◌++◌, ◌∙◌, ◌≡◌}
use Rattle.std.specs.Prelude.{slice_get}
use Rattle.tab_doors.specs.declared.tables.Tables.{Tables}
use Rattle.tab_evicts.specs.Evicting.{IsDiscardFor}
use Rattle.tab_ids.specs.declared.DocId.{DocId}
use Rattle.tab_ids.specs.declared.ProcId.{ProcId}
use Rattle.tab_ids.specs.declared.ReqId.{ReqId}
use Rattle.tab_ids.specs.declared.StateId.{StateId}
use Rattle.tab_loads.specs.Loading.{pass_of}
use Rattle.tab_stands.proofs.Coming.{IsComing}
use Rattle.tab_stands.proofs.Orders.{keeps_coming, makes_first, sound_first}
use Rattle.tab_stands.specs.Offs.{AreShownUnder}
use Rattle.tab_stands.specs.PassedOn.{IsReady, MakesServe, OrdersAreSound}
use Rattle.tab_stands.specs.Standing as tab
use Rattle.user_evicts.proofs.Owns.{comes_own, evicted_takes}
use Rattle.user_evicts.specs.Evicting.{HasEvicted, IsEvictAsk}
use Rattle.log_model.specs.declared.job.Why.TheVariants as whys
use Rattle.log_model.specs.declared.row_kind.RowKind.TheVariants as rows
use Rattle.coord.proofs.Fragments.{own_found, own_telling, plain_found}
use Rattle.seen_facts.proofs.Coord.Unread.{next}
use Rattle.seen_facts.proofs.Desk.Rows.{evicted_desks}
use Rattle.seen_facts.specs.Desk.Own.{AreDesksIn, IsFragmentTask}
use Rattle.log_model.specs.declared.job.Job.{Job}
use Rattle.log_model.specs.declared.job.Task.{Task}
use Rattle.tab_facts.proofs.Running.Tells.{telling_over}
use Rattle.tab_facts.specs.Running.Running.{AreFoundRunning}
use Rattle.tab_facts.specs.Running.Telling.{AreTelling}

-- what is kept longest by the tables is so in the log
pub longest_is : (s : Seen) (c : Coordinator) → StandsFor s c → oldest_of c.tables.kept.states ≡ longest_in s
longest_is s c its = ap oldest_of its.but.stands.tied.kept

module _ (e : InEvent) (state : StateId) (c : Coordinator) (open_ : IsOpenTo e c) (asks : IsEvictAsk e state) where
  abbrev stands : tab.StandsFor tab.none_in_check (seen_start e) c.tables c.queue c.blame.entries
  stands = seen_stands e c open_.in_

  pub aside : StartsUnasked e
  aside = evicted_aside e c open_.in_ state asks.own

  leads_own : leads e.own ≡ true
  leads_own = ap (λ (k : RowKind). leads k) asks.own

  -- no report is taken
  alive : (proc : ProcId) → e.own ≡ rows.Delivered proc → NoDeath (slice_get (desk_of e.start proc).reports 0)
  alive proc is = let never : rows.Evicted state ≡ rows.Delivered proc = sym asks.own ∙ is in absurd cc

  -- what is known of the log then
  pub lasts_log : LastsInLog e.checking c.tables.asking (log_of e [])
  lasts_log = owns.evicted_log e c.tables.checks open_.in_.uncut open_.in_.undue (start_lasts e c open_.in_) (start_asks e c open_.in_) state asks.own

  pub logged : IsLogged e c.tables.checks
  logged = owns.evicted_logged e c.tables.checks open_.in_.uncut open_.in_.undue (start_lasts e c open_.in_) (start_asks e c open_.in_) state asks.own

  -- no step is in its check
  pub free : MayDiscardIn false e
  free = none_steps e.checking (off e c open_.in_) (log_of e [])

  comes : IsComing c.blame.entries (seen_start e) (now_of e [])
  comes = comes_own e state asks c.tables c.queue c.blame.entries stands logged lasts_log

  module _ (out : List RowKind) (came : HasEvicted e state out) (u : Tables) (ready : IsReady (pass_of e []) out u c.queue c.blame.entries whys.Evict) where
    discards : (row : RowKind) → IsDiscardFor whys.Evict row → IsFine (now_of e out) whys.Evict row
    discards row it =
        subst (λ (r : RowKind). IsFine (now_of e out) whys.Evict r) (sym it.is) (fine_discard (now_of e out) whys.Evict it.job it.discards)

    fine : (row : RowKind) → Has out row → IsFine (now_of e out) whys.Evict row
    fine row has = discards row (came.only.each row (subst (λ (l : List RowKind). Has l row) came.only.is has))

    makes : MakesServe (now_of e out)
    makes =
        makes_over e u.running out ready.passing.work.goes whys.Evict ready.passing.going.tab.asked ready.open_.may fine (makes_first e (own_read e aside) leads_own comes.serves stands.lasts.makes)

    sound : OrdersAreSound (now_of e out)
    sound =
        sound_over e u.running out ready.passing.work.goes whys.Evict ready.passing.going.tab.asked ready.open_.may fine (sound_first e (own_read e aside) leads_own (keeps_coming c.blame.entries (seen_start e) (now_of e []) comes) stands.lasts.sound)

    shows : AreShownUnder (log_of e [])
    shows = lasts_log.shows

    -- no document is sent to a fragment
    sends_none : (job : Job) → Has out (rows.Sent job) → IsFragmentTask job.task → ⊥
    sends_none job has fragment =
        let it = came.only.each (rows.Sent job) (subst (λ (l : List RowKind). Has l (rows.Sent job)) came.only.is has) in
        let same : job ≡ it.job = the_job job it.job it.is in
        subst (λ (t : Task). IsFragmentTask t) it.discards (subst (λ (j : Job). IsFragmentTask j.task) same fragment)
      where
        the_job : (a b : Job) → rows.Sent a ≡ rows.Sent b → a ≡ b
        the_job a b is = cc

    desks : AreDesksIn (now_of e [])
    desks =
        subst AreDesksIn (sym (sym (uncut_now e aside.uncut aside.plain) ∙ ap (λ (k : RowKind). next e.start e.event e.actor k) asks.own)) (evicted_desks e.start e.event e.actor open_.in_.stands.stands.between.tab.desks state)

    found : AreFoundRunning (now_of e out)
    found =
        plain_found e out [] ready.passing.work.goes (λ row has. (fine row has).coord) sends_none ready.passing.going.tab.whose.numbered desks (own_found e leads_own aside alive open_.in_.stands.found)

    telling : AreTelling (now_of e out)
    telling = telling_over e out [] ready.passing.work.goes (λ row has. (fine row has).coord) (own_telling e leads_own aside open_.in_.stands.telling)

    pub evicted_settles : (after : Coordinator) → after.header ≡ c.header → after.tables ≡ u → after.queue ≡ c.queue → after.blame.entries ≡ c.blame.entries → after.slots.entries ≡ c.slots.entries → IsToSettle e out after whys.Evict
    evicted_settles after header tables queue noted slots =
        record {
          header = header ∙ open_.in_.header;
          unchecked = open_.in_.unchecked;
          unwanted = open_.in_.unwanted;
          starts = aside.plain;
          ready =
              subst (λ (l : List (StateId × ReqId)). IsReady (pass_of e []) out after.tables after.queue l whys.Evict) (sym noted)
              (subst (λ (q : Queue). IsReady (pass_of e []) out after.tables q c.blame.entries whys.Evict) (sym queue)
              (subst (λ (x : Tables). IsReady (pass_of e []) out x c.queue c.blame.entries whys.Evict) (sym tables) ready));
          makes = makes;
          sound = sound;
          coord = λ row has. (fine row has).coord;
          unmoved = fine_moves (now_of e out) (now_of e out) whys.Evict out fine;
          shows = shows;
          known = lasts_log.known;
          taken = λ later. evicted_takes e state asks (later_of e out ++ later);
          found = found;
          telling = telling;
          slots =
              subst (λ (l : List (DocId × ℕ)). AreSlots (log_of e out) l) (sym slots)
              (rows_slots e c.slots.entries out [] (λ row has. (fine row has).coord) (own_slots e c.slots.entries open_.in_.uncut (rows.Evicted state) asks.own tt open_.slots));
        }
