-- What a run prints has its text forms, and agrees.
use Rattle.std.proofs.Common.{◌≡◌, ◌≤◌, ◌+◌, ◌-◌, ◌^◌, ◌↔◌, inl, inr, ℕ, List, [], ◌∷◌, length, refl, subst, arith}
use Rattle.std.specs.List.{AllByRecursion}
use Rattle.rules_text.specs.nodes.Limits.{statement_limit}
use Rattle.rules_text.specs.nodes.Tree.{Tree}
use Rattle.rules_text.specs.text.Printed.{printed}
use Rattle.rules_text.specs.declared.text.TextKind.TheVariants.{TooLong}
use Rattle.rules_text.specs.text.Text.{IsStatementLimit, Stands, past_limit}
use Rattle.rules_code.specs.evaluation.Surroundings.{Contract}
use Rattle.rules_world.specs.lines.Nodes.{state_nodes}
use Rattle.rules_world.specs.world.Receipts.{Receipt}
use Rattle.rules_audit.specs.Form.{Holds}
use Rattle.mich_text.specs.Written.{HasTextForm, CanBeWritten}
use Rattle.mich_text.proofs.ForCallers.{can_be_written, line_bare, line_stands, no_sign, written_again}
use Rattle.laws_commands.specs.audits.Receipts.{IsAmount, IsReceipt}
use Rattle.laws_commands.specs.audits.Runs.{group_nodes, nodes_of}
use Rattle.laws_commands.specs.audits.States.{IsToldContract, IsToldWorld}
use Rattle.laws_commands.specs.audits.Totals.{IsBehind}
use Rattle.laws_commands.specs.audits.Written.{IsWritable}
use Rattle.laws_commands.proofs.audits_lemmas.FileLogs.{files_burn, files_tell}
use Rattle.laws_commands.proofs.audits_lemmas.Goods.{files_end_good}
use Rattle.laws_commands.proofs.audits_lemmas.Lines.{line_read}
use Rattle.laws_commands.proofs.audits_lemmas.Plain.{plain_mints, runs_agree, mints_plain}
use Rattle.laws_commands.proofs.audits_lemmas.Worlds.{worlds_told}
use Rattle.laws_commands.specs.written.Worlds.{IsWrittenReceipt}
use Rattle.laws_commands.specs.written.Agreement.{RunsHaveForms, IsRead, IsWithin, RunsAreRead, ReadRunsAgree, ShortRunsAgree}
use Rattle.laws_commands.proofs.written_lemmas.values.Levels.{closed}
use Rattle.laws_commands.proofs.written_lemmas.files.Files.{files_end_written}
use Rattle.laws_commands.proofs.written_lemmas.files.Printed.{group_form, state_forms}
use Rattle.laws_commands.proofs.common.Numbers.{split}
use Rattle.laws_commands.proofs.common.Lists.{all_append}

-- ---- all nodes

groups_form : (n : ℕ) (rs : List Receipt) → n + length rs ≤ 2 ^ 64 → AllByRecursion IsWrittenReceipt rs → AllByRecursion IsReceipt rs →
    AllByRecursion HasTextForm (group_nodes n rs)
groups_form n [] few h i = tt
groups_form n (r ∷ rs) few h i = (group_form n r (omega (arith, few)) h.0 i.0, groups_form (n + 1) rs (omega (arith, few)) h.1 i.1)

balances : (cs : List (List ℕ × Contract)) → AllByRecursion IsToldContract cs → AllByRecursion (λ c. IsAmount c.1.balance) cs
balances [] h = tt
balances (c ∷ cs) h = (h.0.0, balances cs h.1)

pub runs_have_forms : RunsHaveForms
runs_have_forms file done w r g =
    let ends = files_end_good file done w r g in
    let written = files_end_written (λ before text tree start end n.
    let c = can_be_written before text tree start end n in closed tree c.0 c.1) file done w r g in
    let good = ends.0.good in
    let behind : IsBehind done.receipts w = record {
      good = good;
      plain = plain_mints w good (mints_plain w.log good.sound.form.log);
      log = files_tell file done w r g;
      burns = files_burn file done w r g;
    } in
    let told : IsToldWorld w = worlds_told done.receipts w behind in
    let few = written.2 in
    all_append HasTextForm (group_nodes 1 done.receipts) (state_nodes w) (groups_form 1 done.receipts (omega (arith, few)) written.1 ends.1)
    (state_forms w written.0 good.sound told.accounts (balances w.contracts told.contracts) told.tickets told.fees told.storage_burn
    told.supply)

-- ---- each line

-- a line that is read is no longer than a statement
short_line : (t u : Tree) → HasTextForm t → Holds (printed t) u → length (printed t) ≤ statement_limit
short_line t u h g = elim (split (length (printed t)) statement_limit) [
  | inl short ↦ short
  | inr long ↦
      let line : Stands (printed t) t (length (printed t)) 0 = line_stands t h in
      let start : length (printed t) ≡ length line.first = line.start_is in
      let left = length (printed t) - statement_limit in
      let limit : IsStatementLimit (printed t) left =
      record { first = line.first; begins = line.begins; left_is = omega (arith, long, start); some = omega (arith, long) } in
      let none : left ≤ 0 =
      g.node.clean TooLong left (past_limit (
        refl,
        inl (record {
          limit = limit;
          goes_on = λ e rest behind leads sign. absurd (no_sign (printed t) u (g.start, g.node, g.bare) e rest behind leads sign);
        }),
      )) in
      omega (arith, long, none)
]

read_within : (t : Tree) → HasTextForm t → IsRead t → IsWithin t
read_within t h r =
    let same = line_read t r.0 h r.1 in
    ((subst CanBeWritten same (can_be_written 0 (printed t) r.0 r.1.start 0 r.1.node)).1, short_line t r.0 h r.1)

within_read : (t : Tree) → HasTextForm t → IsWithin t → IsRead t
within_read t h r = (
  t,
  record {
    start = length (printed t);
    node = record { stands = line_stands t h; clean = (written_again t (h, r.0) r.1).clean };
    bare = line_bare t h;
  },
)

-- ---- laws

all_read : (ts : List Tree) → AllByRecursion HasTextForm ts → AllByRecursion (λ t. IsRead t ↔ IsWithin t) ts
all_read [] h = tt
all_read (t ∷ ts) h = ((read_within t h.0, within_read t h.0), all_read ts h.1)

pub runs_are_read : RunsAreRead
runs_are_read file done w r g = all_read (nodes_of done.receipts w) (runs_have_forms file done w r g)

all_within : (ts : List Tree) → AllByRecursion HasTextForm ts → AllByRecursion IsRead ts → AllByRecursion IsWithin ts
all_within [] h r = tt
all_within (t ∷ ts) h r = (read_within t h.0 r.0, all_within ts h.1 r.1)

all_writable : (ts : List Tree) → AllByRecursion HasTextForm ts → AllByRecursion IsWithin ts → AllByRecursion IsWritable ts
all_writable [] h r = tt
all_writable (t ∷ ts) h r = (((h.0, r.0.0), r.0.1), all_writable ts h.1 r.1)

pub short_runs_agree : ShortRunsAgree
short_runs_agree file done w r g within short =
    runs_agree file done w r g (all_writable (nodes_of done.receipts w) (runs_have_forms file done w r g) within) short

pub read_runs_agree : ReadRunsAgree
read_runs_agree file done w r g read short =
    short_runs_agree file done w r g (all_within (nodes_of done.receipts w) (runs_have_forms file done w r g) read) short
