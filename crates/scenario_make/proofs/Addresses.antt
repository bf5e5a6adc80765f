-- The addresses of a made scenario are written as they are read.
use Rattle.std.proofs.Common.{◌≡◌, ℕ, zero, suc, ◌<◌, ◌≤◌, List, Ok, refl, ap, arith}
use Rattle.std.specs.Prelude.{codes, length}
use Rattle.url.proofs.OnLiterals.{url_on_literals}
use Rattle.address.specs.Addresses.{address_of, is_blank_url, is_web, judged, judged_parse, read_against}
use Rattle.scenario_text.specs.Readings.{address_or}
use Rattle.scenario_text.specs.Written.{IsWord, IsWritten}
use Rattle.scenario_make.specs.Turns.{page_address}

-- the first address
pub first_reads : address_of (codes "http://a.test/") ≡ Ok (codes "http://a.test/")
unfolding url_on_literals address_of read_against judged_parse judged is_web is_blank_url
first_reads = refl

-- a short word that is an address, and read as it is written
record IsShortAddress (text : List ℕ) : Type 0 where
  pub reads : address_of text ≡ Ok text
  pub word : IsWord text
  pub short : length text ≤ 20

-- `http://HOST.test/pJ`
page_is : (host page : ℕ) → host < 3 → page < 4 → IsShortAddress (page_address host page)
unfolding url_on_literals address_of read_against judged_parse judged is_web is_blank_url
page_is zero zero h p = record { reads = refl; word = record { some = refl; bytes = refl }; short = omega arith }
page_is zero (suc zero) h p = record { reads = refl; word = record { some = refl; bytes = refl }; short = omega arith }
page_is zero (suc (suc zero)) h p = record { reads = refl; word = record { some = refl; bytes = refl }; short = omega arith }
page_is zero (suc (suc (suc zero))) h p = record { reads = refl; word = record { some = refl; bytes = refl }; short = omega arith }
page_is zero (suc (suc (suc (suc more)))) h p = absurd (omega (arith, p))
page_is (suc zero) zero h p = record { reads = refl; word = record { some = refl; bytes = refl }; short = omega arith }
page_is (suc zero) (suc zero) h p = record { reads = refl; word = record { some = refl; bytes = refl }; short = omega arith }
page_is (suc zero) (suc (suc zero)) h p = record { reads = refl; word = record { some = refl; bytes = refl }; short = omega arith }
page_is (suc zero) (suc (suc (suc zero))) h p = record { reads = refl; word = record { some = refl; bytes = refl }; short = omega arith }
page_is (suc zero) (suc (suc (suc (suc more)))) h p = absurd (omega (arith, p))
page_is (suc (suc zero)) zero h p = record { reads = refl; word = record { some = refl; bytes = refl }; short = omega arith }
page_is (suc (suc zero)) (suc zero) h p = record { reads = refl; word = record { some = refl; bytes = refl }; short = omega arith }
page_is (suc (suc zero)) (suc (suc zero)) h p = record { reads = refl; word = record { some = refl; bytes = refl }; short = omega arith }
page_is (suc (suc zero)) (suc (suc (suc zero))) h p = record { reads = refl; word = record { some = refl; bytes = refl }; short = omega arith }
page_is (suc (suc zero)) (suc (suc (suc (suc more)))) h p = absurd (omega (arith, p))
page_is (suc (suc (suc more))) page h p = absurd (omega (arith, h))

pub page_reads : (host page : ℕ) → host < 3 → page < 4 → address_of (page_address host page) ≡ Ok (page_address host page)
page_reads host page h p = (page_is host page h p).reads

pub page_written : (host page : ℕ) → host < 3 → page < 4 → IsWritten (page_address host page)
page_written host page h p =
    let is = page_is host page h p in
    record { word = is.word; reads = ap (λ r. address_or r) is.reads }

pub page_short : (host page : ℕ) → host < 3 → page < 4 → length (page_address host page) ≤ 20
page_short host page h p = (page_is host page h p).short
