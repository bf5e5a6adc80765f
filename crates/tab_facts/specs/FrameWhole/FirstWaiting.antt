-- Where what was made waits before it is taken up.
-- This project's own.
use Rattle.seen_facts.specs.Coord.Leading.{held_back}
use Rattle.log_model.specs.Seen.{Seen}
use Rattle.log_model.specs.declared.made.Made.{Made}
use Rattle.std.specs.Prelude.{List, [], ◌==◌, ◌∷◌, ◌≡◌, ◌⊎◌, filter}
use Rattle.tab_ids.specs.declared.ReqId.{ReqId}

-- it is at hand, and nothing of its document is held back; or it is the first that is held back
abbrev pub IsFirstWaiting : List Made → Seen → ReqId → Made → Type 0
IsFirstWaiting hand s req made =
    ((hand ≡ made ∷ []) × (made.req ≡ req) × (filter (λ (m : Made). m.doc.0 == made.doc.0) (held_back s.requests s.parked) ≡ []))
    ⊎ ((rest : List ReqId) × (s.parked ≡ req ∷ rest))
