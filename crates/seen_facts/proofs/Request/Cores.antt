-- What is known of a request stays, whatever orders serve it.
use Rattle.std.proofs.Common.{◌≡◌, List, Option, refl}
use Rattle.tab_ids.specs.declared.ReqId.{ReqId}
use Rattle.log_model.specs.declared.job.Job.{Job}
use Rattle.log_model.specs.declared.job.Order.{Order}
use Rattle.log_model.specs.declared.job.Task.{Task}
use Rattle.log_model.specs.declared.made.Report.{Report}
use Rattle.log_model.specs.declared.outcome.Outcome.{Outcome}
use Rattle.log_model.specs.Seen.{Seen, Asked}
use Rattle.log_model.specs.AfterRequests.{on_request, requests_sent, requests_finished, requests_delivered}
use Rattle.seen_facts.specs.Request.Cores.{core}
use Rattle.seen_facts.proofs.Request.Readers.{IsBlind, SameReads, reads_then, on_read, sent_reads, finished_reads, delivered_reads}

blind : IsBlind core
blind =
    record {
      moves = λ q activated moved. refl;
      asks = λ q asks. refl;
      fragments = λ q doc. refl;
      misses = λ q is. refl;
    }

abbrev pub SameCores : List Asked → List Asked → Type 0
SameCores asked next = SameReads core asked next

pub same_then : (a b c : List Asked) → SameCores a b → SameCores b c → SameCores a c
same_then a b c first then_ = reads_then core a b c first then_

-- a change of one request that leaves it
pub on_core : (asked : List Asked) (req : ReqId) (f : Asked → Asked) → ((q : Asked) → core (f q) ≡ core q) → SameCores asked (on_request req f asked)
on_core asked req f same = on_read core asked req f same

pub sent_cores : (s : Seen) (job : Job) (task : Task) (asked : List Asked) → SameCores asked (requests_sent s job task asked)
sent_cores s job task asked = sent_reads core blind s job task asked

pub finished_cores : (s : Seen) (in_hand : Option Order) (outcome : Outcome) (asked : List Asked) → SameCores asked (requests_finished s in_hand outcome asked)
finished_cores s in_hand outcome asked = finished_reads core blind s in_hand outcome asked

pub delivered_cores : (report : Option Report) (asked : List Asked) → SameCores asked (requests_delivered report asked)
delivered_cores report asked = delivered_reads core blind report asked
