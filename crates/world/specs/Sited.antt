-- That each document lives in a process of the settings: that of a site, or the first.
-- This project's own.
use Rattle.std.specs.Prelude.{◌≡◌, ◌⊎◌, List, false}
use Rattle.seen_facts.specs.Each.Items.{Each}
use Rattle.seen_facts.specs.Hang.Members.{Has}
use Rattle.log_model.specs.Logs.{is_idle}
use Rattle.log_model.specs.Seen.{Document, Seen, desk_of}
use Rattle.log_model.specs.Suits.{first_process}
use Rattle.log_model.specs.declared.header.Header.{Header}
use Rattle.log_model.specs.declared.header.Site.{Site}
use Rattle.tab_ids.specs.declared.ProcId.{ProcId}

-- a site's process
pub record IsOfSite (header : Header) (proc : ProcId) : Type 0 where
  pub site : Site
  pub has : Has header.sites site
  pub proc_is : site.proc.0 ≡ proc.0

-- the process is the first, or a site's
abbrev pub IsSited : Header → ProcId → Type 0
IsSited header proc = (proc.0 ≡ first_process.0) ⊎ IsOfSite header proc

-- so is that of each document
abbrev pub AreSited : Header → List Document → Type 0
AreSited header documents = Each (λ (d : Document). IsSited header d.proc) documents

-- something waits in a process of the settings
pub record SomeWaits (header : Header) (s : Seen) : Type 0 where
  pub proc : ProcId
  pub sited : IsSited header proc
  pub busy : is_idle (desk_of s proc) ≡ false
