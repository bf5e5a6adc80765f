-- The fields of a line: what a word gives, or the reason why it gives nothing.
-- This project's own.
use Rattle.std.specs.Prelude.{ℕ, ◌&&◌, Bool, true, false, nat_lt, nat_le, List, length, codes, bytes_eq, Option, Some, None, is_some, Result, Ok, Err, if◌then◌else◌}
use Rattle.tab_ids.specs.declared.NavId.{NavId}
use Rattle.tab_ids.specs.declared.ProcId.{ProcId}
use Rattle.tab_ids.specs.declared.ReqId.{ReqId}
use Rattle.address.specs.Addresses.{Fault, too_long, not_url, bad_scheme, has_user, address_of, origin_of, fragment_of, is_root}
use Rattle.log_model.specs.declared.request.Mode.{Mode}
use Rattle.log_model.specs.declared.request.Mode.TheVariants as modes
use Rattle.scenario_text.specs.declared.reason.Reason.{Reason}
use Rattle.scenario_text.specs.declared.reason.Reason.TheVariants as reasons
use Rattle.scenario_text.specs.Chain.{◌>>=◌}
use Rattle.scenario_text.specs.Numbers.{number_of}

-- ---- numbers

-- NAV: the number of a navigable
abbrev pub nav_of : List ℕ → Result NavId Reason
nav_of word = number_of 0 4095 word >>= λ number. Ok (record { 0 = number })

-- CHILD: the number of a child navigable
abbrev pub child_of : List ℕ → Result NavId Reason
child_of word = number_of 1 4095 word >>= λ number. Ok (record { 0 = number })

-- P: the number of a process
abbrev pub proc_of : List ℕ → Result ProcId Reason
proc_of word = number_of 1 16 word >>= λ number. Ok (record { 0 = number })

-- REQ: the number of a request
abbrev pub request_of : List ℕ → Result ReqId Reason
request_of word = number_of 1 65535 word >>= λ number. Ok (record { 0 = number })

-- K: how many documents are kept
abbrev pub keep_of : List ℕ → Result ℕ Reason
keep_of word = number_of 0 64 word

-- SLOT: the place of a handler
abbrev pub slot_of : List ℕ → Result ℕ Reason
slot_of word = number_of 0 63 word

-- ---- words and texts

-- MODE
abbrev pub mode_of : List ℕ → Result Mode Reason
mode_of word =
    if bytes_eq word (codes "auto") then Ok modes.Auto
    else (if bytes_eq word (codes "push") then Ok modes.Push
    else (if bytes_eq word (codes "replace") then Ok modes.Replace
    else Err reasons.Mode))

-- the user's answer: whether to stay
abbrev pub stay_of : List ℕ → Result Bool Reason
stay_of word =
    if bytes_eq word (codes "stay") then Ok true
    else (if bytes_eq word (codes "leave") then Ok false
    else Err reasons.Mode)

-- MEMO: 1 to 64 bytes; `-` is no memo
abbrev pub memo_of : List ℕ → Result (Option (List ℕ)) Reason
memo_of word =
    if bytes_eq word (codes "-") then Ok None
    else (if nat_lt 0 (length word) && nat_le (length word) 64 then Ok (Some word) else Err reasons.Memo)

-- REF and TEXT: 1 to 2,048 bytes
abbrev pub text_of : List ℕ → Result (List ℕ) Reason
text_of word = if nat_lt 0 (length word) && nat_le (length word) 2048 then Ok word else Err reasons.UrlLength

-- ---- addresses

-- the reason of a word that spells no address
abbrev pub reason_of : Fault → Reason
reason_of too_long = reasons.UrlLength
reason_of not_url = reasons.NotUrl
reason_of bad_scheme = reasons.Scheme
reason_of has_user = reasons.User

-- the written address, or the reason
abbrev pub address_or : Result (List ℕ) Fault → Result (List ℕ) Reason
address_or (Ok address) = Ok address
address_or (Err fault) = Err (reason_of fault)

-- ADDRESS
abbrev pub address_field : List ℕ → Result (List ℕ) Reason
address_field word = address_or (address_of word)

-- ORIGIN, of a `site`: an address with the path `/`, no query and no fragment
unfoldable pub origin_field : List ℕ → Result (List ℕ) Reason
origin_field word = do
  address ← address_field word
  if is_root address then Ok (origin_of address) else Err reasons.Origin

-- ADDRESS of a `page`, which has no fragment
unfoldable pub base_field : List ℕ → Result (List ℕ) Reason
base_field word = do
  address ← address_field word
  if is_some (fragment_of address) then Err reasons.Fragment else Ok address
