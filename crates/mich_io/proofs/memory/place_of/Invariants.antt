use Rattle.std.proofs.Common.{◌≡◌, drop}
use Rattle.rules_text.specs.streams.Known.{content_in}
use Rattle.mich_io.proofs.memory.place_of.Given as goal

-- the files so far aren't of that path
abbrev pub invariant-files : goal.invariant-files
invariant-files l = content_in (drop l.place l.files) l.path ≡ content_in l.files l.path
