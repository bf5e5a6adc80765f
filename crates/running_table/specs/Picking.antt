-- The newest of the documents that run in a navigable, as one goes over them.
-- This project's own.
use Rattle.std.specs.Prelude.{◌==◌, ◌&&◌, ◌||◌, nat_lt, Bool, Option, None, Some, if◌then◌else◌}
use Rattle.tab_ids.specs.declared.DocId.{DocId}
use Rattle.tab_ids.specs.declared.Epoch.{Epoch}

-- the second runs under a greater epoch, or under the same and has a lower number
abbrev pub is_newer : DocId × Epoch → DocId × Epoch → Bool
is_newer best e = nat_lt best.1.0 e.1.0 || (best.1.0 == e.1.0 && nat_lt e.0.0 best.0.0)

-- the newest so far, with one more
abbrev pub newer_runner : Option (DocId × Epoch) → DocId × Epoch → Option (DocId × Epoch)
newer_runner None e = Some e
newer_runner (Some best) e = if is_newer best e then Some e else Some best
