-- What an address answers where the crate `url` refused. This project's own.
use Rattle.std.specs.Prelude.{◌≡◌}
use Rattle.url.specs.declared.error.ParseError.{ParseError}
use Rattle.url.specs.declared.error.ParseError.TheVariants as refused
use Rattle.address.specs.declared.error.Overflowed.{Overflowed}
use Rattle.address.specs.declared.error.AddressError.{AddressError}
use Rattle.address.specs.declared.error.AddressError.TheVariants as errors

-- want of memory and an overflow stay what they are, and every other refusal says that there is no URL
abbrev pub IsRefusal : ParseError → AddressError → Type 0
IsRefusal refused.OutOfMemory error = error ≡ errors.OutOfMemory
IsRefusal refused.Overflow error = (mark : Overflowed) × (error ≡ errors.UrlOverflow mark)
IsRefusal _ error = error ≡ errors.NotUrl
