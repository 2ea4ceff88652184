use Rattle.std.proofs.Common.{List, ℕ, [], ◌∷◌, ◌+◌, ◌%◌, ◌/◌, sym, subst, arith}
use Rattle.rules_text.specs.binary.Spelling.{groups}
use Rattle.mich_binary.specs.Results.{IsWritten}
use Rattle.laws_data.proofs.binary_lemmas.ForCallers.{more_groups}
use Rattle.mich_binary.proofs.Writings.{both}
use Rattle.mich_binary.proofs.writing.+put_groups.Goals as goal

pub returns : goal.returns
returns t c =
    let n = c.args.n in
    subst (λ (added : List ℕ). IsWritten c.args.out.now.items c.put_groups.new.out.items added c.put_groups.result) (sym (more_groups n (omega arith)))
    (both c.args.out.now.items c.put-2.new.out.items c.put_groups.new.out.items ((128 + n % 128) ∷ []) (groups (n / 128)) c.put_groups.result c.in_ok-put.ensures.0 c.put_groups.ensures)
