-- What a document answers where it makes nothing of an action.
-- HTML Standard, "shared history push/replace state steps" ("can have its URL rewritten"). An overflow of `url` and want of memory are this project's own.
use Rattle.std.specs.Prelude.{◌≡◌, Option, Some, None, Result, MatchResult}
use Rattle.address.specs.declared.error.AddressError.{AddressError}
use Rattle.address.specs.declared.error.AddressError.TheVariants as faults
use Rattle.doc_view.specs.declared.error.ActError.{ActError}
use Rattle.doc_view.specs.declared.error.ActError.TheVariants as errors

-- the answer where a reference or a fragment gives no address
abbrev pub refusal_of : AddressError → ActError
refusal_of faults.TooLong = errors.NotRewritable
refusal_of faults.NotUrl = errors.NotRewritable
refusal_of faults.BadScheme = errors.NotRewritable
refusal_of faults.HasUser = errors.NotRewritable
refusal_of (faults.UrlOverflow mark) = errors.UrlOverflow mark
refusal_of faults.OutOfMemory = errors.OutOfMemory

-- the error says that nothing was expected; an overflow of `url` and want of memory say nothing
abbrev pub IsRefusal : {A : Type 0} → ActError → Option A → Type 0
IsRefusal errors.NotRunning expected = ⊥
IsRefusal errors.NotRewritable expected = expected ≡ None
IsRefusal (errors.UrlOverflow mark) expected = Unit {0}
IsRefusal errors.OutOfMemory expected = Unit {0}

-- the result is what is expected, or a refusal where nothing is, unless `url` overflowed or there was no memory
abbrev pub Gives : {A : Type 0} → Result A ActError → Option A → Type 0
Gives result expected = MatchResult result (λ value. expected ≡ Some value) (λ error. IsRefusal error expected)
