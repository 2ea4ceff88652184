-- What a function returned, by what reading gives.
use Rattle.std.specs.Prelude.{◌≡◌, Result, Ok, Err}
use Rattle.rules_text.specs.text.Fault.{Flaw}
use Rattle.mich_text.specs.declared.fault.Flaw.{Flaw as CodeFlaw}
use Rattle.mich_text.specs.declared.fault.LexError.{LexError}
use Rattle.mich_text.specs.declared.fault.LexError.TheVariants as errors

abbrev pub flaw_view : CodeFlaw → Flaw
flaw_view f = record { kind = f.kind; left = f.left }

-- What a function returned, seen by view, is what reading gives, unless memory ran out.
abbrev pub Fails : {Y : Type 0} → LexError → Result Y Flaw → Type 0
Fails errors.Memory read = Unit {0}
Fails (errors.Flaw f) read = read ≡ Err (flaw_view f)

abbrev pub Gives : {X Y : Type 0} → (X → Y) → Result X LexError → Result Y Flaw → Type 0
Gives view (Ok x) read = read ≡ Ok (view x)
Gives view (Err e) read = Fails e read
