-- All that goes on does so over each row, where what holds between two rows does, and what lasts.
use Rattle.seen_facts.proofs.Coord.Unread.{next}
use Rattle.tab_facts.specs.Last.Lasting.{AreLasting}
use Rattle.log_model.specs.After.{ended}
use Rattle.log_model.specs.AfterPlaces.{sleepers_below}
use Rattle.log_model.specs.AfterRequests.{on_served, request_served, requests_sent, with_activated, with_moved}
use Rattle.log_model.specs.Equal.{has_req}
use Rattle.log_model.specs.Places.{is_load}
use Rattle.log_model.specs.Seen.{Asked, Document, Seen, document_of, place_of, request_of}
use Rattle.log_model.specs.declared.job.Job.{Job}
use Rattle.log_model.specs.declared.job.Task.{Task}
use Rattle.log_model.specs.declared.job.Why.{Why}
use Rattle.log_model.specs.declared.made.Made.{Made}
use Rattle.log_model.specs.declared.outcome.Cause.{Cause}
use Rattle.log_model.specs.declared.outcome.Denial.{Denial}
use Rattle.log_model.specs.declared.outcome.Ending.{Ending}
use Rattle.log_model.specs.declared.row_kind.Actor.{Actor}
use Rattle.log_model.specs.declared.row_kind.RowKind.{RowKind}
use Rattle.seen_facts.proofs.Request.Readers.{IsBlind}
use Rattle.seen_facts.specs.Request.Whereabouts.{is_of_load}
use Rattle.std.proofs.Common.{Bool, List, None, Option, Some, [], ap, arith, length, refl, subst, sym, true, ℕ, ◌+◌, ◌<◌, ◌∙◌, ◌≡◌, ◌≤◌}
use Rattle.std.specs.Option.{option_map_or}
use Rattle.tab_facts.proofs.TabGoing.Counts.{as_many, count_more, count_same}
use Rattle.tab_facts.proofs.TabGoing.Epochs.{AreUpTo, EpochFits, later_up, sent_up}
use Rattle.tab_facts.proofs.TabGoing.HeldUp.{dropped_held, refused_held, sent_held}
use Rattle.tab_facts.proofs.TabGoing.Steps.{steps_still}
use Rattle.tab_facts.specs.TabGoing.Going.{AreHeldUp, IsGoing, count_of, has_ended}
use Rattle.tab_ids.specs.declared.ReqId.{ReqId}
use Rattle.tab_facts.proofs.Last.Rows.{dropped_lasting}
use Rattle.tab_facts.proofs.TabWhole.Refusing.{listed_load_dropped_tab}
use Rattle.tab_facts.specs.TabWhole.Tab.{IsTab}
use Rattle.log_model.specs.declared.job.Task.TheVariants as tasks
use Rattle.log_model.specs.declared.job.Why.TheVariants as whys
use Rattle.log_model.specs.declared.outcome.Ending.TheVariants as endings
use Rattle.log_model.specs.declared.row_kind.RowKind.TheVariants as rows

-- ---- an order leaves how many requests have ended or begun

module _ (test : Asked → Bool) (blind : IsBlind test) (s : Seen) (job : Job) where
  served_alike : (task : Task) (q : Asked) → test (request_served s job task q) ≡ test q
  served_alike (tasks.Activate entry epoch length index memo address) q = by_document (document_of s job.doc)
    where
      by_document : (o : Option Document) → test (option_map_or (λ (d : Document). with_activated d.nav (with_moved (option_map_or (sleepers_below s job.doc) (place_of s d.nav) []) q)) o q) ≡ test q
      by_document None = refl
      by_document (Some d) = blind.moves q _ _
  served_alike tasks.Freeze q = blind.moves q _ _
  served_alike tasks.Discard q = blind.moves q _ _
  served_alike (tasks.Ask slot cause) q = blind.asks q _
  served_alike (tasks.Populate nav state address initial) q = refl
  served_alike (tasks.Update length index) q = refl
  served_alike (tasks.DoFragment req mode address) q = refl

  served_count : (task : Task) (why : Why) (asked : List Asked) → count_of test (on_served why (request_served s job task) asked) ≡ count_of test asked
  served_count task (whys.Req req) asked = count_same test asked req (request_served s job task) (λ q at. served_alike task q)
  served_count task (whys.Death death) asked = refl
  served_count task whys.Evict asked = refl
  served_count task whys.Start asked = refl

  sent_count : (task : Task) (asked : List Asked) → count_of test (requests_sent s job task asked) ≡ count_of test asked
  sent_count (tasks.DoFragment req mode address) asked = count_same test asked req (λ q. record q { fragment = Some job.doc }) (λ q at. blind.fragments q (Some job.doc))
  sent_count (tasks.Populate nav state address initial) asked = refl
  sent_count (tasks.Update length index) asked = refl
  sent_count (tasks.Activate entry epoch length index memo address) asked = served_count (tasks.Activate entry epoch length index memo address) job.why asked
  sent_count tasks.Freeze asked = served_count tasks.Freeze job.why asked
  sent_count tasks.Discard asked = served_count tasks.Discard job.why asked
  sent_count (tasks.Ask slot cause) asked = served_count (tasks.Ask slot cause) job.why asked

ended_blind : IsBlind has_ended
ended_blind = record { moves = λ q activated moved. refl; asks = λ q asks. refl; fragments = λ q doc. refl; misses = λ q is. refl }

served_long : (s : Seen) (job : Job) (task : Task) (why : Why) (asked : List Asked) → length (on_served why (request_served s job task) asked) ≡ length asked
served_long s job task (whys.Req req) asked = as_many asked req (request_served s job task)
served_long s job task (whys.Death death) asked = refl
served_long s job task whys.Evict asked = refl
served_long s job task whys.Start asked = refl

sent_long : (s : Seen) (job : Job) (task : Task) (asked : List Asked) → length (requests_sent s job task asked) ≡ length asked
sent_long s job (tasks.DoFragment req mode address) asked = as_many asked req (λ q. record q { fragment = Some job.doc })
sent_long s job (tasks.Populate nav state address initial) asked = refl
sent_long s job (tasks.Update length index) asked = refl
sent_long s job (tasks.Activate entry epoch length index memo address) asked = served_long s job (tasks.Activate entry epoch length index memo address) job.why asked
sent_long s job tasks.Freeze asked = served_long s job tasks.Freeze job.why asked
sent_long s job tasks.Discard asked = served_long s job tasks.Discard job.why asked
sent_long s job (tasks.Ask slot cause) asked = served_long s job (tasks.Ask slot cause) job.why asked

module _ (run : Option ReqId) (loads : List ReqId) (hand : List Made) (s : Seen) (event : ℕ) (actor : Actor) (going : IsGoing run loads hand s) where
  abbrev then_ : RowKind → Seen
  then_ kind = next s event actor kind

  -- ---- an order

  module _ (job : Job) where
    abbrev sent : Seen
    sent = then_ (rows.Sent job)

    pub sent_going : (now : List ReqId) (left : List Made) → IsTab run now left sent → AreLasting sent → EpochFits (s.jobs + 2) job.task → IsGoing run now left sent
    sent_going now left tab lasting fits =
        record {
          tab = tab;
          lasting = lasting;
          counted = record {
            entries = subst (λ (n : ℕ). s.entries ≤ 1 + n) (sym (sent_count has_ended ended_blind s job job.task s.requests)) going.counted.entries;
            epochs = subst (λ (n : ℕ). AreUpTo n sent.places) two (sent_up (s.jobs + 2) s job job.task fits (later_up (s.jobs + 1) (s.jobs + 2) s.places (omega arith) going.counted.epochs));
          };
          steps = steps_still s sent going.steps refl (subst (λ (n : ℕ). count_of has_ended s.requests ≤ n) (sym (sent_count has_ended ended_blind s job job.task s.requests)) (omega arith));
          held = sent_held run s event actor going.held job;
          room = (let long : length sent.requests ≡ length s.requests = sent_long s job job.task s.requests in let room : length s.requests + 2 < 4294967296 = going.room in omega (arith, long, room));
        }
      where
        two : (s.jobs + 2) ≡ (s.jobs + 1) + 1
        two = omega arith

  -- ---- a request ends or begins

  module _ (req : ReqId) (q : Asked) (there : request_of s req ≡ Some q) where
    end_more : (ending : Ending) → q.ending ≡ None → count_of has_ended (ended s.requests req ending) ≡ count_of has_ended s.requests + 1
    end_more ending unended = count_more has_ended s.requests req (λ (x : Asked). record x { ending = Some ending }) q there (rw unended refl) refl

    module _ (unended : q.ending ≡ None) where
      ends_going : (t : Seen) (now : List ReqId) (left : List Made) (ending : Ending) → t.requests ≡ ended s.requests req ending → t.history ≡ s.history → t.places ≡ s.places → t.jobs ≡ s.jobs → t.entries ≡ s.entries → AreHeldUp run t → IsTab run now left t → AreLasting t → IsGoing run now left t
      ends_going t now left ending requests_ history places jobs entries held tab lasting =
          let long : length (ended s.requests req ending) ≡ length s.requests = as_many s.requests req (λ (x : Asked). record x { ending = Some ending }) in
          let more : count_of has_ended (ended s.requests req ending) ≡ count_of has_ended s.requests + 1 = end_more ending unended in
          let fewer : s.entries ≤ 1 + count_of has_ended s.requests = going.counted.entries in
          let room : length s.requests + 2 < 4294967296 = going.room in
          record {
            tab = tab;
            lasting = lasting;
            counted = record {
              entries = subst (λ (l : List Asked). t.entries ≤ 1 + count_of has_ended l) (sym requests_) (omega (arith, fewer, more, entries));
              epochs = rw (places, jobs) going.counted.epochs;
            };
            steps = steps_still s t going.steps history (subst (λ (l : List Asked). count_of has_ended s.requests ≤ count_of has_ended l) (sym requests_) (omega (arith, more)));
            held = held;
            room = subst (λ (l : List Asked). length l + 2 < 4294967296) (sym requests_) (omega (arith, long, room));
          }

      pub refused_going : (reason : Denial) (now : List ReqId) (left : List Made) → IsTab run now left (then_ (rows.Refused req reason)) → AreLasting (then_ (rows.Refused req reason)) → IsGoing run now left (then_ (rows.Refused req reason))
      refused_going reason now left tab lasting =
          ends_going (then_ (rows.Refused req reason)) now left (endings.Refused reason) refl refl refl refl refl (refused_held run s event actor going.held req reason) tab lasting

      pub dropped_going : (cause : Cause) (now : List ReqId) (left : List Made) → IsTab run now left (then_ (rows.Dropped req cause)) → AreLasting (then_ (rows.Dropped req cause)) → IsGoing run now left (then_ (rows.Dropped req cause))
      dropped_going cause now left tab lasting =
          ends_going (then_ (rows.Dropped req cause)) now left (endings.Dropped cause) refl refl refl refl refl (dropped_held run s event actor going.held req cause) tab lasting

      -- a load that is dropped at hand, while the list of those at hand stays
      pub listed_dropped_going : is_load q.what ≡ true → has_req loads req ≡ true → (cause : Cause) → IsGoing run loads hand (then_ (rows.Dropped req cause))
      listed_dropped_going load listed cause =
          dropped_going cause loads hand (listed_load_dropped_tab run loads hand s event going.tab req (ap is_of_load there ∙ load) listed actor cause) (dropped_lasting s event actor going.lasting req cause)
