-- Each ongoing load has its document.
-- HTML Standard, "attempt to populate the history entry's document"; that a load has one document is this project's own.
use Rattle.log_model.specs.Places.{is_ongoing_load}
use Rattle.log_model.specs.Seen.{Asked, Seen, request_in}
use Rattle.seen_facts.specs.Rest.Between.{HasLoadDocument}
use Rattle.std.specs.Prelude.{Some, true, ◌≡◌}
use Rattle.tab_ids.specs.declared.ReqId.{ReqId}

-- each ongoing load has a document that is there or being made
abbrev pub LoadsHaveDocuments : Seen → Type 0
LoadsHaveDocuments s =
    (req : ReqId) (q : Asked) → request_in s.requests req ≡ Some q → is_ongoing_load q ≡ true → HasLoadDocument s q
