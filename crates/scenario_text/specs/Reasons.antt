-- The words of the reasons.
-- This project's own.
use Rattle.std.specs.Prelude.{ℕ, List, codes}
use Rattle.scenario_text.specs.declared.reason.Reason.{Reason}
use Rattle.scenario_text.specs.declared.reason.Reason.TheVariants as reasons

-- the word of a reason
abbrev pub reason_text : Reason → List ℕ
reason_text reasons.TooLong = codes "too-long"
reason_text reasons.TooMany = codes "too-many"
reason_text reasons.NoEnd = codes "no-end"
reason_text reasons.Bytes = codes "bytes"
reason_text reasons.Spaces = codes "spaces"
reason_text reasons.Header = codes "header"
reason_text reasons.Word = codes "word"
reason_text reasons.Count = codes "count"
reason_text reasons.Number = codes "number"
reason_text reasons.Mode = codes "mode"
reason_text reasons.Memo = codes "memo"
reason_text reasons.UrlLength = codes "url-length"
reason_text reasons.NotUrl = codes "not-url"
reason_text reasons.Scheme = codes "scheme"
reason_text reasons.User = codes "user"
reason_text reasons.Origin = codes "origin"
reason_text reasons.Fragment = codes "fragment"
reason_text reasons.Twice = codes "twice"
reason_text reasons.StepLine = codes "step-line"
reason_text reasons.Unbuilt = codes "unbuilt"
