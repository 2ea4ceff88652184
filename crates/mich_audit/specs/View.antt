-- The parts and lines that the code's stand for.
use Rattle.std.specs.Prelude.{List, [], ◌∷◌, map}
use Rattle.rules_audit.specs.Fields as rules
use Rattle.rules_audit.specs.Lines as lines
use Rattle.rules_audit.specs.Verdicts as agreement
use Rattle.mich_base.specs.View.{tree}
use Rattle.mich_audit.specs.declared.part.Sort.{Sort}
use Rattle.mich_audit.specs.declared.part.Sort.TheVariants as sorts
use Rattle.mich_audit.specs.declared.part.Identity.{Identity}
use Rattle.mich_audit.specs.declared.part.Part.{Part}
use Rattle.mich_audit.specs.declared.verdict.Verdict.{Verdict}
use Rattle.mich_audit.specs.declared.verdict.Verdict.TheVariants as verdicts
use Rattle.mich_audit.specs.declared.line.Line.{Line}
use Rattle.mich_audit.specs.declared.line.Line.TheVariants as code

abbrev pub sort_seen : Sort → rules.Sort
sort_seen sorts.Minted = rules.minted
sort_seen sorts.Burnt = rules.burnt
sort_seen sorts.Held = rules.held

abbrev pub identity_seen : Identity → rules.Identity
identity_seen id = rules.identity id.issuer.now (tree id.kind.now) (tree id.content.now)

abbrev pub part_seen : Part → rules.Part
part_seen p = rules.part (sort_seen p.sort) (identity_seen p.identity) p.amount

abbrev pub one_seen : Part → List rules.Part
one_seen p = part_seen p ∷ []

abbrev pub parts_seen : List Part → List rules.Part
parts_seen ps = map part_seen ps

abbrev pub line_seen : Line → lines.Line
line_seen (code.Group number parts) = lines.group number (parts_seen parts)
line_seen (code.Account balance parts) = lines.account balance (parts_seen parts)
line_seen (code.Contract balance parts fourth) = lines.contract balance (parts_seen parts) fourth
line_seen (code.Tickets identity minted burnt held) = lines.tickets (identity_seen identity) minted burnt held
line_seen (code.Fees amount) = lines.fees amount
line_seen (code.StorageBurn amount) = lines.storage_burn amount
line_seen (code.Supply amount) = lines.supply amount

abbrev pub verdict_seen : Verdict → agreement.Verdict
verdict_seen verdicts.Agrees = agreement.agrees
verdict_seen (verdicts.BadForm line) = agreement.is_bad_form line
verdict_seen verdicts.Supply = agreement.differs_supply
verdict_seen (verdicts.Tickets line) = agreement.differs_tickets line
verdict_seen verdicts.Missing = agreement.differs_missing
