-- What was held back is taken up one after the other, until nothing is.
use Rattle.seen_laws.proofs.InEvents.{now_at}
use Rattle.seen_facts.proofs.Coord.Held.{held_alike, made_of, without_same}
use Rattle.seen_facts.proofs.Coord.Unread.{next}
use Rattle.seen_facts.specs.Coord.Leading.{held_back}
use Rattle.tab_takes.specs.Taking.{ArrivedWhere, EndsAlone, HasTaken, InPass, IsPassing, IsTaking, IsToTake, LoadsMadeOwn, MayCause, Tables, is_new_entry, is_reloading}
use Rattle.tab_facts.specs.Frame.Lasting.{Wish, wish}
use Rattle.row_facts.specs.FrameRows.Lawful.{has_traversed, held_at_first}
use Rattle.seen_facts.proofs.Entry.Skips.{without_made}
use Rattle.seen_facts.proofs.Hang.Members.{has_more}
use Rattle.seen_facts.specs.Hang.Members.{Has}
use Rattle.log_model.specs.AfterRequests.{without_req}
use Rattle.log_model.specs.Equal.{has_req}
use Rattle.log_model.specs.Places.{is_load, is_traversal}
use Rattle.log_model.specs.declared.action.Action.{Action}
use Rattle.log_model.specs.Points.{ends_in, nav_of_request}
use Rattle.log_model.specs.Seen.{Asked, Document, Seen, document_of, request_in, request_of}
use Rattle.log_model.specs.declared.request.Request.TheVariants as requests
use Rattle.log_model.specs.declared.job.Why.TheVariants as whys
use Rattle.log_model.specs.declared.made.Made.{Made}
use Rattle.log_model.specs.declared.row_kind.LogRow.{LogRow}
use Rattle.log_model.specs.declared.row_kind.RowKind.{RowKind}
use Rattle.move_queue.specs.declared.queue_step.QueueStep.{QueueStep}
use Rattle.row_facts.specs.Owed.Owed.{IsLoose}
use Rattle.tab_ids.specs.declared.StateId.{StateId}
use Rattle.seen_facts.proofs.Each.Courses.{was_asked}
use Rattle.tab_releases.proofs.Endings.{IsEnding, is_ending}
use Rattle.tab_releases.proofs.Waits.{IsHeldFirst, IsLoadOfIt, IsPokeOfIt, for_taking, held_first, its_doc, its_what, none_held, others_apart, traversed_on}
use Rattle.tab_releases.specs.Releasing.{EndsEach, HasReleased, HoldsParked, IsReleasing}
use Rattle.seen_facts.proofs.Request.Readers.{SameReads, reads_then}
use Rattle.seen_facts.proofs.Request.Times.{itself}
use Rattle.seen_laws.specs.InEvent.{InEvent, now_of, row_of}
use Rattle.std.proofs.Common.{Bool, List, None, Option, Some, [], ap, append-nil, append_assoc, false, inl, inr, map, refl, subst, sym, true, ℕ, ◌++◌, ◌+◌, ◌==◌, ◌∙◌, ◌∷◌, ◌≡◌, ◌⊎◌}
use Rattle.std.proofs.lemmas.Bool.{or_right}
use Rattle.std.proofs.lemmas.List.Elements.{filter_map-append}
use Rattle.std.proofs.lemmas.List.{length-append, map-append}
use Rattle.std.specs.List.{last_or}
use Rattle.std.specs.Prelude.{filter_map, option_and_then, option_map}
use Rattle.tab_ids.specs.declared.NavId.{NavId}
use Rattle.tab_ids.specs.declared.ReqId.{ReqId}
pub use Rattle.tab_takes.specs.Taking.{IsByItsOwn}
use Rattle.tab_takes.proofs.PassedOn.{leaves_same, leaves_then, turning_on}
pub use Rattle.tab_takes.proofs.PassedOn.{queue_over}
use Rattle.tab_takes.specs.PassedOn.{HasQueue, IsTurning}

-- ---- before the first

-- nothing was put out yet
pub release_begins : (p : InPass) (t : Tables) (out : List RowKind) (blame : List (StateId × ReqId)) (parked : List Made) → IsPassing p out t → p.hand ≡ [] → IsTurning p.event out → t.running ≡ None → IsTaking p.event t.running blame (now_of p.event out) → IsLoose p.event out → LoadsMadeOwn (now_of p.event out) → HoldsParked (now_of p.event out) parked → (((now_of p.event out).parked ≡ [] → ⊥) → IsReleasing p.event out) → HasReleased p t out t out blame parked None
release_begins p t out blame parked passing empty turning idle open_ loose theirs held releasing =
    record {
      passing = passing;
      empty = empty;
      idle = idle;
      open_ = open_;
      loose = loose;
      theirs = theirs;
      cause = λ req never. absurd cc;
      held = held;
      turning = turning;
      wishes = λ r. refl;
      queue = leaves_same (now_of p.event out);
      releasing = releasing;
      done = [];
      last_is = refl;
      whole = refl;
      ended = record { more = []; out = sym (append-nil out); ends = refl; long = refl; no_reload = λ row never. absurd never };
      kept = record { running = refl; goal = refl; keep = refl; checks = refl };
    }

-- ---- one more

last_more : {A : Type 0} (o : Option A) (xs : List A) (x : A) → last_or o (xs ++ x ∷ []) ≡ Some x
last_more o [] x = refl
last_more o (y ∷ xs) x = last_more (Some y) xs x

-- what was made of each request is what was
pub mades_same : (s t : Seen) → SameReads wish s.requests t.requests → (req : ReqId) → made_of (request_in t.requests req) ≡ made_of (request_in s.requests req)
mades_same s t same req =
    sym (read (request_in t.requests req)) ∙ ap (λ (o : Option Wish). option_and_then (λ (w : Wish). w.made) o) (same req) ∙ read (request_in s.requests req)
  where
    read : (o : Option Asked) → option_and_then (λ (w : Wish). w.made) (option_map wish o) ≡ made_of o
    read None = refl
    read (Some q) = refl

-- one row more ends one request more
ends_more : (e : InEvent) (was out more : List RowKind) (done : List ReqId) (made : Made) → EndsEach e was out done → EndsAlone e out more made → EndsEach e was more (done ++ made.req ∷ [])
ends_more e was out more done made each one =
    record {
      more = each.more ++ one.kind ∷ [];
      out = one.out ∙ ap (λ (l : List RowKind). l ++ one.kind ∷ []) each.out ∙ append_assoc was each.more (one.kind ∷ []);
      ends = ap (λ (l : List LogRow). filter_map ends_in l) (map-append (row_of e) each.more (one.kind ∷ []))
          ∙ filter_map-append ends_in (map (row_of e) each.more) (row_of e one.kind ∷ [])
          ∙ ap (λ (l : List ReqId). l ++ filter_map ends_in (row_of e one.kind ∷ [])) each.ends
          ∙ ap (λ (l : List ReqId). done ++ l) last;
      long = length-append each.more (one.kind ∷ []) ∙ ap (λ (n : ℕ). n + 1) each.long ∙ sym (length-append done (made.req ∷ []));
      no_reload = λ row has. by_part row (has_more each.more one.kind row has);
    }
  where
    by_part : (row : RowKind) → Has each.more row ⊎ (one.kind ≡ row) → is_reloading row ≡ false
    by_part row (inl has) = each.no_reload row has
    by_part row (inr is) = subst (λ (k : RowKind). is_reloading k ≡ false) is one.no_reload

    last : filter_map ends_in (row_of e one.kind ∷ []) ≡ made.req ∷ []
    last = rw (one.ends) refl

module _ (p : InPass) (t : Tables) (was : List RowKind) (u : Tables) (out : List RowKind) (noted : List (StateId × ReqId)) (before : List Made) (latest : Option ReqId) (so : HasReleased p t was u out noted before latest) (made : Made) (rest : List Made) (pops : before ≡ made ∷ rest) where
  abbrev s : Seen
  s = now_of p.event out

  held : made ∷ rest ≡ held_back s.requests s.parked
  held = sym pops ∙ so.held

  first : IsHeldFirst s made rest
  first = held_first s made rest so.passing.going.tab.known.parked held

  may : IsReleasing p.event out
  may = so.releasing (λ none. let never : made.req ∷ first.others ≡ [] = sym first.parked ∙ none in absurd cc)

  apart : (req : ReqId) (q : Asked) → has_req (held_at_first p.event) req ≡ true → request_of s req ≡ Some q → is_traversal q.what ≡ false
  apart req q among at =
      let asked = was_asked wish (now_of p.event was).requests s.requests so.wishes req q at in
      ap (λ (w : Wish). is_traversal w.what) (sym asked.2) ∙ so.turning.waits.apart req asked.0 among asked.1

  -- a document of its navigable made it
  own : IsByItsOwn s first.q made
  own = by_load (is_load first.q.what) refl
    where
      of_poke : (nav : NavId) (action : Action) → first.q.what ≡ requests.Poke nav action → IsByItsOwn s first.q made
      of_poke nav action what =
          let its = so.passing.going.lasting.poked made.req first.q first.there made.doc (its_doc p out u so.passing apart made rest first may nav action what) in
          record { d = its.d; found = its.found; nav_is = its.nav_is }

      by_load : (b : Bool) → is_load first.q.what ≡ b → IsByItsOwn s first.q made
      by_load true load = (so.theirs made.req first.q made first.there load first.makes).0
      by_load false none = by_what (its_what p out u so.passing apart made rest first may)
        where
          by_what : IsPokeOfIt p out u so.passing apart made rest first may ⊎ IsLoadOfIt p out u so.passing apart made rest first may → IsByItsOwn s first.q made
          by_what (inl it) = of_poke it.nav it.action it.what
          by_what (inr it) = absurd (let never : true ≡ false = sym (ap is_load it.what) ∙ none in cc)

  pub one_due : u.running ≡ None → IsToTake p out u noted made
  one_due idle =
      record {
        passing = so.passing;
        taking = for_taking p out u so.passing apart made rest first may own so.theirs so.empty;
        open_ = so.open_;
        loose = so.loose;
        arrived = subst (λ (r : Option ReqId). ArrivedWhere r s) (sym idle) tt;
      }

  module _ (more : List RowKind) (v : Tables) (blame : List (StateId × ReqId)) (taken : HasTaken p u made out more v blame) where
    abbrev n : Seen
    n = next s p.event.event p.event.actor taken.ended.kind

    now : now_of p.event more ≡ n
    now = now_at p.event out taken.ended.kind more taken.ended.out taken.passing.work.goes

    its : IsEnding s (now_of p.event more) made.req
    its = subst (λ (x : Seen). IsEnding s x made.req) (sym now) (is_ending s p.event taken.ended.kind made.req taken.ended.ends)

    hand_still : without_made made.req p.hand ≡ p.hand
    hand_still = ap (λ (l : List Made). without_made made.req l) so.empty ∙ sym so.empty

    parked_then : (now_of p.event more).parked ≡ first.others
    parked_then =
        its.parked
        ∙ ap (λ (l : List ReqId). without_req made.req l) first.parked
        ∙ (rw (itself made.req) (without_same first.others made.req (others_apart p out u so.passing apart made rest first may)))

    among : (req : ReqId) → has_req (now_of p.event more).parked req ≡ true → has_req s.parked req ≡ true
    among req has =
        ap (λ (l : List ReqId). has_req l req) first.parked ∙ or_right (made.req.0 == req.0) (has_req first.others req) (ap (λ (l : List ReqId). has_req l req) (sym parked_then) ∙ has)

    -- what was made of loads, and whose documents are, is as it was
    theirs_then : LoadsMadeOwn (now_of p.event more)
    theirs_then r q made_ at load makes =
        (by_home (document_of (now_of p.event more) made_.doc) refl (its.homes made_.doc ∙ ap (λ (o : Option Document). option_map (λ (d : Document). d.nav) o) had.found), both.1)
      where
        asked : (x : Asked) × (request_in s.requests r ≡ Some x) × (wish x ≡ wish q)
        asked = was_asked wish s.requests (now_of p.event more).requests its.wishes r q at

        both : IsByItsOwn s asked.0 made_ × (is_new_entry made_.what ≡ true)
        both = so.theirs r asked.0 made_ asked.1 (ap (λ (w : Wish). is_load w.what) asked.2 ∙ load) (ap (λ (w : Wish). w.made) asked.2 ∙ makes)

        had : IsByItsOwn s asked.0 made_
        had = both.0

        nav_then : nav_of_request q.what ≡ Some had.d.nav
        nav_then = ap (λ (w : Wish). nav_of_request w.what) (sym asked.2) ∙ had.nav_is

        by_home : (o : Option Document) → document_of (now_of p.event more) made_.doc ≡ o → option_map (λ (d : Document). d.nav) o ≡ Some had.d.nav → IsByItsOwn (now_of p.event more) q made_
        by_home None there same = absurd cc
        by_home (Some d) there same = record { d = d; found = there; nav_is = nav_then ∙ sym same }

    pub release_goes_on : (req : ReqId) → req ≡ made.req → HasReleased p t was v more blame rest (Some req)
    release_goes_on req is =
        record {
          passing = subst (λ (l : List Made). IsPassing (record p { hand = l }) more v) hand_still taken.passing;
          empty = so.empty;
          idle = taken.kept.running ∙ so.idle;
          open_ = taken.open_;
          loose = taken.loose;
          theirs = theirs_then;
          cause = λ r same. (let one : made.req ≡ r = (let both_ : req ≡ r = cc in sym is ∙ both_) in subst (λ (x : ReqId). MayCause (now_of p.event more) (whys.Req x)) one taken.cause);
          held = first.left
              ∙ sym (held_alike s.requests (now_of p.event more).requests first.others (mades_same s (now_of p.event more) its.wishes))
              ∙ ap (λ (l : List ReqId). held_back (now_of p.event more).requests l) (sym parked_then);
          turning = so.turning;
          wishes = reads_then wish (now_of p.event was).requests s.requests (now_of p.event more).requests so.wishes its.wishes;
          queue = leaves_then (now_of p.event was) s (now_of p.event more) so.queue taken.queue;
          releasing = λ some. record {
            by_coord = may.by_coord;
            takes = may.takes;
            many = its.long ∙ may.many;
            ended = subst (λ (l : List RowKind). has_traversed p.event l ≡ true) (sym taken.ended.out) (traversed_on p.event out taken.ended.kind may.ended);
            old = λ req has. may.old req (among req has);
          };
          done = so.done ++ made.req ∷ [];
          last_is = ap (λ (r : ReqId). let o : Option ReqId = Some r in o) is ∙ sym (last_more None so.done made.req);
          whole = append_assoc so.done (made.req ∷ []) (now_of p.event more).parked
              ∙ ap (λ (l : List ReqId). so.done ++ made.req ∷ l) parked_then
              ∙ ap (λ (l : List ReqId). so.done ++ l) (sym first.parked)
              ∙ so.whole;
          ended = ends_more p.event was out more so.done made so.ended taken.ended;
          kept = record { running = taken.kept.running ∙ so.kept.running; goal = taken.kept.goal ∙ so.kept.goal; keep = taken.kept.keep ∙ so.kept.keep; checks = taken.kept.checks ∙ so.kept.checks };
        }

-- ---- after the last

module _ (p : InPass) (t : Tables) (was : List RowKind) (u : Tables) (out : List RowKind) (blame : List (StateId × ReqId)) (left : List Made) (last : Option ReqId) (so : HasReleased p t was u out blame left last) (none : left ≡ []) where
  pub released_none : (now_of p.event out).parked ≡ []
  released_none = none_held (now_of p.event out) so.passing.going.tab.known.parked (sym so.held ∙ none)

  pub released_turning : IsTurning p.event out
  released_turning =
      turning_on p.event was out (inr released_none) so.wishes (λ req has. ap (λ (l : List ReqId). has_req l req) (sym so.queue.joined) ∙ has) so.turning

  all_done : so.done ≡ (now_of p.event was).parked
  all_done = sym (append-nil so.done) ∙ ap (λ (l : List ReqId). so.done ++ l) (sym released_none) ∙ so.whole

  pub released_each : EndsEach p.event was out (now_of p.event was).parked
  released_each = subst (λ (l : List ReqId). EndsEach p.event was out l) all_done so.ended

  pub released_last : last ≡ last_or None (now_of p.event was).parked
  released_last = so.last_is ∙ ap (λ (l : List ReqId). last_or None l) all_done

-- the queue is that of the log still
pub released_queue : (p : InPass) (t : Tables) (was : List RowKind) (u : Tables) (out : List RowKind) (blame : List (StateId × ReqId)) (left : List Made) (last : Option ReqId) → HasReleased p t was u out blame left last → (waiting then_ : List QueueStep) → then_ ≡ waiting → HasQueue (now_of p.event was) None waiting → HasQueue (now_of p.event out) None then_
released_queue p t was u out blame left last so waiting then_ same is =
    subst (λ (w : List QueueStep). HasQueue (now_of p.event out) None w) (sym same)
    (queue_over (now_of p.event was) (now_of p.event out) so.queue None waiting is)
